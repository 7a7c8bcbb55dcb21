use Rattle.std.proofs.Common.{◌≡◌, ◌≤◌, drop}
use Rattle.bq_source.specs.Number.{numeral_after, numeral_value, max_int}
use Rattle.bq_source.proofs.number.numeral_value.Given as goal

abbrev pub invariant-loop-digit : goal.invariant-loop-digit
invariant-loop-digit l =
    record { same : numeral_value l.base l.digits ≡ numeral_after l.base l.value (drop l.digit-index l.digits); fits : l.value ≤ max_int }
