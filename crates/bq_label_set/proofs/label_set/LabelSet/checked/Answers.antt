use Rattle.std.proofs.Common.{rules, ◌≡◌, Some, slice_get, true, false, arith}
use Rattle.std.proofs.lemmas.Grind.{common_steps}
use Rattle.std.proofs.lemmas.Option.{gets}
use Rattle.bq_label_set.specs.Labels.{same_label}
use Rattle.bq_label_set.proofs.Numbered.{other_there, same_there}
use Rattle.bq_label_set.proofs.label_set.LabelSet.checked.Goals as goal

pub returns-then-ne-clause-nowhere : goal.returns-then-ne-clause-nowhere
unfolding same_label
returns-then-ne-clause-nowhere c =
    let is : c.args.number ≡ Some c.in_ok-number.number = search rules in
    let at : slice_get c.args.self.now c.in_ok-number.number ≡ Some c.in_ok-held.held.now = grind (arith, common_steps, gets) in
    let differs : same_label c.in_ok-held.held.now c.args.label.now ≡ false = grind (arith, common_steps) in
    other_there c.args.self.now c.args.number c.args.label.now c.in_ok-held.held.now c.in_ok-number.number is at differs

pub returns-clause-there : goal.returns-clause-there
unfolding same_label
returns-clause-there c =
    let is : c.args.number ≡ Some c.in_ok-number.number = search rules in
    let at : slice_get c.args.self.now c.in_ok-number.number ≡ Some c.in_ok-held.held.now = grind (arith, common_steps, gets) in
    let same : same_label c.in_ok-held.held.now c.args.label.now ≡ true = grind (arith, common_steps) in
    (is, same_there c.args.self.now c.args.label.now c.in_ok-held.held.now c.in_ok-number.number at same)
