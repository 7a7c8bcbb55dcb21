-- what is left names the rules that all names give
use Rattle.std.proofs.Common.{◌≡◌, drop, []}
use Rattle.bq_value_content.specs.Kinds.{kinds_from}
use Rattle.bq_value_content.proofs.kinds.kinds_of.Given as goal

abbrev pub invariant-loop-i : goal.invariant-loop-i
invariant-loop-i l = kinds_from l.own l.cells [] l.names l.values ≡ kinds_from l.own l.cells l.kinds (drop l.i l.names) (drop l.i l.values)
