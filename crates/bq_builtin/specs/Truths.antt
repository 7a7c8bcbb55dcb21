-- The functions `all`, `any` and `bool` (Starlark, "all", "any", "bool").
use Rattle.std.specs.Prelude.{Bool, true, false, not, List, [], ◌∷◌, Option, Some, None, Result, Ok, if◌then◌else◌}
use Rattle.std.specs.List.{list_all, list_any}
use Rattle.bq_base.specs.declared.fault.EvalFault.{EvalFault}
use Rattle.bq_value.specs.Datum.{Datum, boolean}
use Rattle.bq_value.specs.Cells.{StoreView}
use Rattle.bq_value.specs.Truth.{truth_of}
use Rattle.bq_builtin_machine.specs.Args.{Passed}
use Rattle.bq_builtin_machine.specs.Iteration.{elements_in}
use Rattle.bq_builtin_machine.specs.Answer.{and_then}
use Rattle.bq_builtin.specs.Arguments.{only_argument, only_argument_if_any}

-- whether each of these counts as true
unfoldable pub all_true : StoreView → List Datum → Bool
all_true s xs = list_all (truth_of s) xs

-- whether one of these counts as true
unfoldable pub any_true : StoreView → List Datum → Bool
any_true s xs = list_any (truth_of s) xs

-- whether a value counts as this truth value
abbrev pub counts : StoreView → Bool → Datum → Bool
counts s true x = truth_of s x
counts s false x = not (truth_of s x)

-- whether one of these does
abbrev pub one_counts : StoreView → Bool → List Datum → Bool
one_counts s wanted [] = false
one_counts s wanted (x ∷ xs) = if counts s wanted x then true else one_counts s wanted xs

-- `all(x)`: whether each element counts as true
unfoldable pub all : StoreView → Passed → Result Datum EvalFault
all s p = and_then (only_argument p) (λ x. and_then (elements_in s x) (λ xs. Ok (boolean (all_true s xs))))

-- `any(x)`: whether some element counts as true
unfoldable pub any : StoreView → Passed → Result Datum EvalFault
any s p = and_then (only_argument p) (λ x. and_then (elements_in s x) (λ xs. Ok (boolean (any_true s xs))))

-- the truth of a value, false where there is none
abbrev pub truth_if_any : StoreView → Option Datum → Bool
truth_if_any s None = false
truth_if_any s (Some v) = truth_of s v

-- `bool(x)`: whether x counts as true; without an argument, `False`
unfoldable pub bool : StoreView → Passed → Result Datum EvalFault
bool s p = and_then (only_argument_if_any p) (λ o. Ok (boolean (truth_if_any s o)))
