use Rattle.std.proofs.Common.{◌≡◌, ◌≤◌, ◌^◌, drop}
use Rattle.bq_query_check.specs.FormulaOf.{more_digits}
use Rattle.bq_query_check.proofs.number.number.Given as goal

abbrev pub invariant-loop-digit : goal.invariant-loop-digit
invariant-loop-digit l = record { few : l.n ≤ 2 ^ 32; rest : more_digits l.n (drop l.digit-index l.word) ≡ more_digits 0 l.word }
