use Rattle.std.proofs.Common.{rules, ◌≡◌, Some, slice_get, bytes_eq, true, false, sym, arith}
use Rattle.std.proofs.lemmas.Grind.{common_steps}
use Rattle.std.proofs.lemmas.Option.{gets}
use Rattle.bq_base_texts.proofs.NameLookups.{other_there, same_there}
use Rattle.bq_base_texts.proofs.name_set.checked.Goals as goal

pub returns-then-ne-clause-nowhere : goal.returns-then-ne-clause-nowhere
returns-then-ne-clause-nowhere c =
    let is : c.args.place ≡ Some c.in_ok-place.place = search rules in
    let at : slice_get c.args.names.now c.in_ok-place.place ≡ Some c.in_ok-get.field-0.now = grind (arith, common_steps, gets) in
    let differs : bytes_eq c.in_ok-get.field-0.now c.args.name.now ≡ false = search rules in
    other_there c.args.names.now c.args.place c.args.name.now c.in_ok-get.field-0.now c.in_ok-place.place is at differs

pub returns-clause-there : goal.returns-clause-there
returns-clause-there c =
    let is : c.args.place ≡ Some c.in_ok-place.place = search rules in
    let at : slice_get c.args.names.now c.in_ok-place.place ≡ Some c.in_ok-get.field-0.now = grind (arith, common_steps, gets) in
    let same : bytes_eq c.in_ok-get.field-0.now c.args.name.now ≡ true = search rules in
    (is, same_there c.args.names.now c.args.name.now c.in_ok-get.field-0.now c.in_ok-place.place at same)
