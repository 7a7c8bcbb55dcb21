use Rattle.std.proofs.Common.{◌≡◌, true, drop}
use Rattle.std.specs.List.{list_all}
use Rattle.std.specs.Str.Parse.{digits_value, digits_value_after}
use Rattle.bq_source.specs.Lexis.{is_digit}
use Rattle.bq_builtin_format.proofs.argument.numbered_value.Given as goal

-- the digits that are left go on from the number
abbrev pub invariant-loop-digit : goal.invariant-loop-digit
invariant-loop-digit l =
    record { same : digits_value 10 l.digits ≡ digits_value_after 10 l.number (drop l.digit-index l.digits); digits : list_all is_digit (drop l.digit-index l.digits) ≡ true }
