-- Values that are only read.
use Rattle.std.specs.Prelude.{ℕ}
use Rattle.bq_value.specs.Datum.{Datum}
use Rattle.bq_builtin_machine.specs.Action.{Action, ◌>>=◌}
use Rattle.bq_eval_spec.specs.Frame.{Frame}
use Rattle.bq_eval_spec.specs.Primitives.{Primitives}
use Rattle.bq_eval_spec.specs.Targets.{bound}
use Rattle.bq_eval_rules.specs.declared.operand.Operand.{Operand}
use Rattle.bq_eval_rules.specs.declared.operand.Operand.TheVariants as operands

-- the value of an operand
abbrev pub read_of : Operand → Datum
read_of (operands.Lent v) = v.now
read_of (operands.Own v) = v

-- the use of a local name
abbrev pub local_use : {S : Type 0} → Primitives S → Frame → ℕ → Action S Datum
local_use m env slot = m.step 1 >>= λ _. bound m (env slot)
