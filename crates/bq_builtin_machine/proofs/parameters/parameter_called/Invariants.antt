-- the parameters that are left decide
use Rattle.std.proofs.Common.{◌≡◌, drop, map}
use Rattle.std.specs.List.{position_from}
use Rattle.bq_builtin_machine.specs.Parameters.{is_called, parameter_of}
use Rattle.bq_builtin_machine.proofs.parameters.parameter_called.Given as goal

abbrev pub invariant-loop-i : goal.invariant-loop-i
invariant-loop-i l = position_from (is_called l.name) 0 (map parameter_of l.parameters) ≡ position_from (is_called l.name) l.i (map parameter_of (drop l.i l.parameters))
