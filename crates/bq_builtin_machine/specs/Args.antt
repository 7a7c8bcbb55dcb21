-- What a call passes (Starlark, "Function and method calls"): the positional arguments and the named ones, each in written order.
use Rattle.std.specs.Prelude.{ℕ, List, [], refl}
use Rattle.std.specs.Coded.{Coded, code_by, coded×, coded_ℕ, coded_list}
use Rattle.bq_value.specs.Datum.{Datum}
use Rattle.bq_value.specs.Codes.{coded_datum}

-- the arguments of a call: those by place, and those by name in source order
pub record Passed : Type 0 where
  pub positional : List Datum
  pub named : List (List ℕ × Datum)

-- a call without arguments
abbrev pub nothing_passed : Passed
nothing_passed = record { positional = []; named = [] }

-- a code of what a call passes, which nothing else that is passed has
abbrev pub coded_passed : Coded Passed
coded_passed =
    code_by (List Datum × List (List ℕ × Datum)) (coded× (coded_list coded_datum) (coded_list (coded× (coded_list coded_ℕ) coded_datum)))
    (λ p. (p.positional, p.named)) (λ p. record { positional = p.0; named = p.1 }) (λ _. refl)
