-- The examples are so: the definitions compute.
use Rattle.std.proofs.Common.{refl}
use Rattle.std.specs.Char.{encode_utf8}
use Rattle.bq_package_values.specs.CodePoints.{points_after}
use Rattle.bq_package_values.specs.JsonString.{escape, json_char, json_string}
use Rattle.bq_package_values.specs.JsonExamples.{Examples}

pub examples : Examples
unfolding points_after escape json_char json_string encode_utf8
examples = record { empty = refl; plain = refl; quotes = refl; controls = refl; characters = refl; broken = refl }
