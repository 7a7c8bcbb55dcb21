use Rattle.std.proofs.Common.{◌≡◌, ◌++◌, take, drop}
use Rattle.bq_package_values.specs.JsonString.{escaped}
use Rattle.bq_package_values.proofs.json_string.plain_len.Given as goal

abbrev pub invariant-loop-i : goal.invariant-loop-i
invariant-loop-i l = escaped l.bytes ≡ take l.i l.bytes ++ escaped (drop l.i l.bytes)
