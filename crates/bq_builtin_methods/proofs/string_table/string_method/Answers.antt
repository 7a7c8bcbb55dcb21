use Rattle.std.proofs.Common.{◌≡◌, ◌∙◌, ◌≤◌, ℕ, List, length, Option, None, ap, arith}
use Rattle.std.specs.Map.{values_of}
use Rattle.std.proofs.lemmas.Option.{slice_get_past}
use Rattle.bq_base.specs.declared.fault.EvalFault.{EvalFault}
use Rattle.bq_base.specs.declared.fault.EvalFault.TheVariants.{NoMethod}
use Rattle.bq_builtin_machine.specs.Action.{stopped}
use Rattle.bq_builtin_machine.specs.State.{stop_at}
use Rattle.bq_builtin_methods.specs.Method.{Method}
use Rattle.bq_builtin_methods.specs.Methods.{string_methods}
use Rattle.bq_builtin_methods.specs.Row.{called_at}
use Rattle.bq_builtin_methods.proofs.string_table.string_method.Goals as goal

-- no row has a place past the last
pub returns-in_default : goal.returns-in_default
unfolding string_methods
returns-in_default c = λ why is.
    let past : length (values_of string_methods) ≤ c.args.place = omega arith in
    let same : NoMethod ≡ why = cc is in
    ap (λ (row : Option (Method (List ℕ))). called_at row c.args.text.now c.args.args.now c.args.machine.now) (slice_get_past (values_of string_methods) c.args.place past)
    ∙ ap (λ (fault : EvalFault). stopped (stop_at fault c.args.machine.now)) same
