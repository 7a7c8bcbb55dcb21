-- the parameters that are left decide
use Rattle.std.proofs.Common.{◌≡◌, drop, map}
use Rattle.bq_builtin_machine.specs.Parameters.{parameter_of}
use Rattle.bq_builtin_machine.specs.Binding.{complete_from}
use Rattle.bq_builtin_machine.proofs.binding.is_complete.Given as goal

abbrev pub invariant-loop-i : goal.invariant-loop-i
invariant-loop-i l = complete_from 0 (map parameter_of l.parameters) l.values ≡ complete_from l.i (map parameter_of (drop l.i l.parameters)) l.values
