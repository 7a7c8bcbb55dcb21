use Rattle.std.proofs.Common.{◌≡◌, ◌∙◌, ◌++◌, ◌∷◌, ◌-◌, ◌<◌, [], ℕ, ℤ, pos, ap, length, FitsSigned, w64, rules, arith}
use Rattle.std.specs.Prelude.{◌≤ℤ◌, ◌<ℤ◌}
use Rattle.bq_value.specs.Range.{range_count, range_element}
use Rattle.bq_builtin_strings.specs.Slice.{taken, taken_by}
use Rattle.bq_builtin_operators.proofs.Sequences.{none_taken, places_go_on, value_found}
use Rattle.bq_builtin_operators.proofs.sequence.take_values.Goals as goal

pub loop-number-init : goal.loop-number-init
loop-number-init c =
    ap (λ ys. ys ++ taken c.args.values.now (c.count-count.result - 0) (range_element c.args.places.start c.args.places.step 0) c.args.places.step) c.in_ok-taken.ensures.items
    ∙ (ap (λ (n : ℕ). [] ++ taken c.args.values.now (n - 0) (range_element c.args.places.start c.args.places.step 0) c.args.places.step) c.count-count.ensures
    ∙ none_taken c.args.values.now c.args.places.start c.args.places.stop c.args.places.step)

pub loop-number-preserved : goal.loop-number-preserved
loop-number-preserved c =
    let start : ℤ = c.args.places.start in
    let step : ℤ = c.args.places.step in
    let i : ℕ = c.loop-number.number in
    let at : ℤ = range_element start step i in
    let count : c.count-count.result ≡ range_count start c.args.places.stop step = c.count-count.ensures in
    let lt : i < range_count start c.args.places.stop step = omega (arith, count, c.loop-number-test.true) in
    let within : (pos 0 ≤ℤ at) × (at <ℤ pos (length c.args.values.now)) = c.requires i lt in
    let f : FitsSigned w64 c.element-at.result = search rules in
    places_go_on c.loop-number.taken.items c.args.values.now (taken_by c.args.values.now start c.args.places.stop step) c.push.new.self.items c.count-count.result i start step c.index-values-at.result
    c.loop-number-test.true (value_found c.args.values.now at c.element-at.result c.index-values-at.result c.element-at.ensures f within c.index-values-at.is) (c.in_ok-push.ensures.items ∙ ap (λ z. c.loop-number.taken.items ++ z ∷ []) c.in_ok-share.ensures) c.loop-number.invariant
