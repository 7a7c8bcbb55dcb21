-- The first of several checks that finds a fault.
use Rattle.std.proofs.Common.{◌≡◌, List, [], ◌∷◌, ◌++◌, Some, None, refl}
use Rattle.std.specs.List.{AllByRecursion}
use Rattle.bq_base.specs.declared.fault.EvalFault.{EvalFault}
use Rattle.bq_builtin_machine.specs.Refusals.{Check, first_fault}

pub found : (before after : List Check) (kind : EvalFault) → AllByRecursion (λ c. c ≡ None) before → first_fault (before ++ Some kind ∷ after) ≡ Some kind
found [] after kind h = refl
found (None ∷ cs) after kind h = found cs after kind h.1
found (Some other ∷ cs) after kind h = cc

pub none : (checks : List Check) → AllByRecursion (λ c. c ≡ None) checks → first_fault checks ≡ None
none [] h = refl
none (None ∷ cs) h = none cs h.1
none (Some other ∷ cs) h = cc
