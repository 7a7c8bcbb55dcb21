use Rattle.std.proofs.Common.{◌≡◌, drop}
use Rattle.bq_load.specs.Imports.{value_named}
use Rattle.bq_load.proofs.exports.value_named.Given as goal

abbrev pub invariant-loop-other : goal.invariant-loop-other
invariant-loop-other l = value_named l.name (drop l.other-index l.names) l.left ≡ value_named l.name l.names l.values
