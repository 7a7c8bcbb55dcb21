use Rattle.std.proofs.Common.{◌≡◌, ◌∙◌, ◌-◌, ◌<◌, ℕ, List, true, false, length, Some, bytes_eq, sym, ap, subst, arith}
use Rattle.std.proofs.lemmas.Option.{slice_get-get_or}
use Rattle.std.proofs.lemmas.Slice.Eq.{bytes_eq-Decides}
use Rattle.bq_query_check.proofs.Closed.{place_below, later_more, none_bound}
use Rattle.bq_query_check.proofs.names.innermost.Goals as goal

pub loop-at-init : goal.loop-at-init
loop-at-init c = record { within = omega arith; later = λ k h e. let below = place_below c.args.names.now k c.args.name.now e in omega (arith, below) }

pub returns-then-eq : goal.returns-then-eq
returns-then-eq c =
    let names = c.args.names.now in
    let name = c.args.name.now in
    let at = c.loop-at.at - 1 in
    let b = c.index-names-at.result in
    let inside : at < length names = omega arith in
    let same : bytes_eq b name ≡ true = subst (λ (t : List ℕ). bytes_eq t name ≡ true) c.as_slice.ensures (sym c.eq.ensures ∙ c.if-eq.true) in
    record {
      there = slice_get-get_or names at b inside ∙ ap Some (sym c.index-names-at.is ∙ (bytes_eq-Decides b name).0 same);
      last = λ k h. c.loop-at.invariant.later k (omega (arith, h));
    }

pub loop-at-preserved : goal.loop-at-preserved
loop-at-preserved c =
    let names = c.args.names.now in
    let name = c.args.name.now in
    let at = c.loop-at.at - 1 in
    let b = c.index-names-at.result in
    let other : bytes_eq b name ≡ false = subst (λ (t : List ℕ). bytes_eq t name ≡ false) c.as_slice.ensures (sym c.eq.ensures ∙ c.if-eq.false) in
    record {
      within = omega arith;
      later = later_more names name at b c.index-names-at.is other (λ k h. c.loop-at.invariant.later k (omega (arith, h)));
    }

pub returns : goal.returns
returns c = none_bound c.args.names.now c.args.name.now (λ k. c.loop-at.invariant.later k (omega arith))
