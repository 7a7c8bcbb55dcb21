use Rattle.std.proofs.Common.{rules, ◌≡◌, ℕ, Option, map, arith}
use Rattle.std.proofs.lemmas.Grind.{common_steps}
use Rattle.std.specs.List.{position_from}
use Rattle.bq_builtin_machine.specs.Parameters.{is_called, parameter_of, signature_of}
use Rattle.bq_builtin_machine.specs.Binding.{take_all_named, take_named}
use Rattle.bq_builtin_machine.proofs.binding.Bound.take_many_named.Goals as goal

pub loop-name-preserved : goal.loop-name-preserved
unfolding take_all_named take_named
loop-name-preserved c =
    let found : c.copied-place.result ≡ position_from (is_called c.in-Some.name) 0 (map parameter_of c.args.signature.now.parameters.now) = search rules in
    grind (arith, common_steps, found)

pub returns-in_err-take_named : goal.returns-in_err-take_named
unfolding take_all_named take_named
returns-in_err-take_named c =
    let found : c.copied-place.result ≡ position_from (is_called c.in-Some.name) 0 (map parameter_of c.args.signature.now.parameters.now) = search rules in
    grind (arith, common_steps, found)
