use Rattle.std.proofs.Common.{◌≡◌, drop}
use Rattle.bq_resolve_scope.specs.Scope.{slot_of}
use Rattle.bq_resolve_scope.proofs.scope.FileNames.use_of.Given as goal

abbrev pub invariant-loop-block : goal.invariant-loop-block
invariant-loop-block l = slot_of (drop l.block-index l.blocks) l.name ≡ slot_of l.blocks l.name
