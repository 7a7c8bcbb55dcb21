use Rattle.std.proofs.Common.{◌≡◌, ◌∙◌, ◌+◌, ◌-◌, ◌/◌, ◌<◌, length, true, false, sym, ap, List, ℕ, [], get_or, arith}
use Rattle.std.proofs.lemmas.List.{get_or-map}
use Rattle.std.specs.Ordering.{is_lt}
use Rattle.bq_query_function.specs.Order.{text_of, is_below}
use Rattle.bq_query_function.proofs.Ranks.{text_at, up_to, from_on}
use Rattle.bq_query_function.proofs.order.place_of.Goals as goal

pub loop-low-preserved-then-is_lt : goal.loop-low-preserved-then-is_lt
loop-low-preserved-then-is_lt c =
    let targets = c.args.targets.now in
    let text = c.args.text.now in
    let m : ℕ = c.loop-low.low + (c.loop-low.high - c.loop-low.low) / 2 in
    let inside : m < length targets = omega arith in
    let is : text_at targets m ≡ text_of (get_or targets m c.index-targets-middle.result) = get_or-map text_of targets m c.index-targets-middle.result [] inside in
    let below : is_below (text_at targets m) text ≡ true = ap (λ (t : List ℕ). is_below t text) is ∙ (ap is_lt (sym c.cmp_text.ensures) ∙ (sym c.is_lt.ensures ∙ c.if-is_lt.true)) in
    record {
      ordered = omega arith;
      within = omega arith;
      before = λ k h. up_to targets c.requires text m k inside below (omega arith);
      after = c.loop-low.invariant.after;
    }

pub loop-low-preserved : goal.loop-low-preserved
loop-low-preserved c =
    let targets = c.args.targets.now in
    let text = c.args.text.now in
    let m : ℕ = c.loop-low.low + (c.loop-low.high - c.loop-low.low) / 2 in
    let inside : m < length targets = omega arith in
    let is : text_at targets m ≡ text_of (get_or targets m c.index-targets-middle.result) = get_or-map text_of targets m c.index-targets-middle.result [] inside in
    let not_below : is_below (text_at targets m) text ≡ false = ap (λ (t : List ℕ). is_below t text) is ∙ (ap is_lt (sym c.cmp_text.ensures) ∙ (sym c.is_lt.ensures ∙ c.if-is_lt.false)) in
    record {
      ordered = omega arith;
      within = omega arith;
      before = c.loop-low.invariant.before;
      after = λ k h l. from_on targets c.requires text m k not_below h l;
    }
