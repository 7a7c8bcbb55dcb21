use Rattle.std.proofs.Common.{◌≡◌, ◌<◌, true, length, slice_index, arith}
use Rattle.bq_package_values.specs.JsonString.{is_plain}
use Rattle.bq_package_values.proofs.Fronts.{front_plain}
use Rattle.bq_package_values.proofs.json_string.plain_len.Goals as goal

pub loop-i-preserved : goal.loop-i-preserved
loop-i-preserved c =
    let bytes = c.args.bytes.now in
    let within : c.loop-i.i < length bytes = omega arith in
    let plain : is_plain (slice_index bytes c.loop-i.i) ≡ true = cc in
    front_plain bytes c.loop-i.i within plain c.loop-i.invariant
