-- Why a list of loads makes no plan.
use Rattle.std.specs.Prelude.{◌≡◌, ℕ, ◌<◌, true, length}
use Rattle.bq_base.specs.declared.limits.Limits.{Limits}
use Rattle.bq_base.specs.Limits.{standard}
use Rattle.bq_board_plan.specs.Graph.{Loads, Known, Fits}
use Rattle.bq_board_plan.specs.Cycles.{is_cyclic}
use Rattle.bq_board_plan.specs.declared.refusal.PlanErr.{PlanErr}
use Rattle.bq_board_plan.specs.declared.refusal.PlanErr.TheVariants.{Cyclic, BadIndex, TooMany, Memory}

-- what each refusal says of the loads by these limits: the first that applies, and `Memory` only where neither of the first two does
abbrev pub RefusedWithin : Limits → Loads → PlanErr → Type 0
RefusedWithin limits p TooMany = ¬ Fits limits p
RefusedWithin limits p BadIndex = Fits limits p × ¬ Known p
RefusedWithin limits p Cyclic = (Fits limits p × Known p) × ((m : ℕ) × (m < length p) × (is_cyclic p m ≡ true))
RefusedWithin limits p Memory = Fits limits p × Known p

-- by the standard limits
abbrev pub Refused : Loads → PlanErr → Type 0
Refused p why = RefusedWithin standard p why
