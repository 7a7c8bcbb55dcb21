use Rattle.std.proofs.Common.{◌≡◌, ◌∙◌, ℕ, sym, subst, true, false, length, ◌<◌, arith}
use Rattle.std.proofs.lemmas.List.{length-set}
use Rattle.bq_query_function.specs.Words.{Range}
use Rattle.bq_query_function.specs.Beginnings.{AreValid, is_wanted}
use Rattle.bq_query_function.proofs.Tests.{passes, passes_at, range_none, range_take, range_skip}
use Rattle.bq_query_function.proofs.Named.{valid_none, valid_skip, valid_take}
use Rattle.bq_query_function.proofs.pattern.add_range.Goals as goal

pub loop-at-init : goal.loop-at-init
loop-at-init c = record { long = c.requires.long; range = range_none (is_wanted c.args.rules) c.args.targets.now c.args.from c.args.marks.now.items; valid = valid_none (is_wanted c.args.rules) c.args.targets.now c.args.from }

pub loop-at-preserved-then-not-is_wanted : goal.loop-at-preserved-then-not-is_wanted
loop-at-preserved-then-not-is_wanted c =
    let inside : c.loop-at.at < length c.args.targets.now = omega (arith, c.requires.to) in
    let out : passes (is_wanted c.args.rules) c.args.targets.now c.loop-at.at ≡ false =
    passes_at (is_wanted c.args.rules) c.args.targets.now c.loop-at.at c.index-targets-at.result inside c.index-targets-at.is ∙ (sym c.is_wanted.ensures ∙ c.if-not-is_wanted.true) in
    record { long = c.loop-at.invariant.long; range = range_skip (is_wanted c.args.rules) c.args.targets.now c.args.from c.loop-at.at c.args.marks.now.items c.loop-at.marks.items out c.loop-at.invariant.range; valid = valid_skip (is_wanted c.args.rules) c.args.targets.now c.args.from c.loop-at.at out c.loop-at.invariant.valid }

pub loop-at-preserved : goal.loop-at-preserved
loop-at-preserved c =
    let inside : c.loop-at.at < length c.args.targets.now = omega (arith, c.requires.to) in
    let in_test : passes (is_wanted c.args.rules) c.args.targets.now c.loop-at.at ≡ true =
    passes_at (is_wanted c.args.rules) c.args.targets.now c.loop-at.at c.index-targets-at.result inside c.index-targets-at.is ∙ (sym c.is_wanted.ensures ∙ c.if-not-is_wanted.false) in
    record {
      long = length-set c.loop-at.marks.items c.loop-at.at true ∙ c.loop-at.invariant.long;
      range = range_take (is_wanted c.args.rules) c.args.targets.now c.args.from c.loop-at.at c.args.marks.now.items c.loop-at.marks.items (omega arith) (omega (arith, inside, c.loop-at.invariant.long)) in_test c.loop-at.invariant.range;
      valid = valid_take (is_wanted c.args.rules) c.args.targets.now c.args.from c.loop-at.at c.index-targets-at.result inside c.index-targets-at.is c.repo.ensures.valid c.loop-at.invariant.valid;
    }

pub returns-clause-range : goal.returns-clause-range
returns-clause-range c =
    let end : c.loop-at.at ≡ c.args.to = omega (arith, c.requires.order) in
    subst (λ (n : ℕ). Range (is_wanted c.args.rules) c.args.targets.now c.args.from n c.args.marks.now.items c.loop-at.marks.items) end c.loop-at.invariant.range

pub returns-clause-valid : goal.returns-clause-valid
returns-clause-valid c =
    let end : c.loop-at.at ≡ c.args.to = omega (arith, c.requires.order) in
    subst (λ (n : ℕ). AreValid (is_wanted c.args.rules) c.args.targets.now c.args.from n) end c.loop-at.invariant.valid
