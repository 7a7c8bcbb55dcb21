use Rattle.std.proofs.Common.{◌≡◌, take}
use Rattle.bq_query_check.proofs.names.shared.Given as goal

abbrev pub invariant-loop-text : goal.invariant-loop-text
invariant-loop-text l = l.all ≡ take l.text-index l.texts
