use Rattle.std.proofs.Common.{rules, ◌≡◌, List, ℕ, ◌++◌, ◌∷◌, [], false, length, subst, arith}
use Rattle.std.proofs.lemmas.Grind.{common_steps}
use Rattle.bq_label.specs.Label.{LabelParts}
use Rattle.bq_label_set.specs.Labels.{has_label}
use Rattle.bq_label_set.specs.Numbering.{HasNumber, AreNumbered}
use Rattle.bq_label_set.proofs.Numbered.{still_numbered, one_more}
use Rattle.bq_label_set.proofs.label_set.LabelSet.add.Goals as goal

pub invariant_of-self : goal.invariant_of-self
invariant_of-self c =
    let labels = c.self.inside.labels.items in
    let new : has_label labels c.args.label.now ≡ false = grind (arith, common_steps) in
    still_numbered labels c.self.inside.numbers.by_hash c.put.new.self.by_hash c.self.inside.numbers.colliding c.put.new.self.colliding c.args.label.now c.self.invariant new c.put.ensures.others

pub invariant_of-self-in_err-share : goal.invariant_of-self-in_err-share
invariant_of-self-in_err-share c =
    let labels = c.self.inside.labels.items in
    let new : has_label labels c.args.label.now ≡ false = grind (arith, common_steps) in
    still_numbered labels c.self.inside.numbers.by_hash c.put.new.self.by_hash c.self.inside.numbers.colliding c.put.new.self.colliding c.args.label.now c.self.invariant new c.put.ensures.others

pub invariant_of-self-in_err-push : goal.invariant_of-self-in_err-push
invariant_of-self-in_err-push c =
    let labels = c.self.inside.labels.items in
    let new : has_label labels c.args.label.now ≡ false = grind (arith, common_steps) in
    let kept : labels ≡ c.push.new.self.items = search rules in
    subst (λ (ls : List LabelParts). AreNumbered ls c.put.new.self.by_hash c.put.new.self.colliding) kept
    (still_numbered labels c.self.inside.numbers.by_hash c.put.new.self.by_hash c.self.inside.numbers.colliding c.put.new.self.colliding c.args.label.now c.self.invariant new c.put.ensures.others)

pub invariant_of-self-2 : goal.invariant_of-self-2
invariant_of-self-2 c =
    let labels = c.self.inside.labels.items in
    let new : has_label labels c.args.label.now ≡ false = grind (arith, common_steps) in
    let more : labels ++ c.args.label.now ∷ [] ≡ c.push.new.self.items = search rules in
    let len : c.len.result ≡ length labels = search rules in
    let here : HasNumber c.put.new.self.by_hash c.put.new.self.colliding c.args.label.now (length labels) =
    subst (λ (k : ℕ). HasNumber c.put.new.self.by_hash c.put.new.self.colliding c.args.label.now k) len c.in_ok-put.ensures.put in
    subst (λ (ls : List LabelParts). AreNumbered ls c.put.new.self.by_hash c.put.new.self.colliding) more
    (one_more labels c.self.inside.numbers.by_hash c.put.new.self.by_hash c.self.inside.numbers.colliding c.put.new.self.colliding c.args.label.now c.self.invariant new c.put.ensures.others here)
