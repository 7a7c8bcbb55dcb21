use Rattle.std.proofs.Common.{◌≡◌, drop}
use Rattle.bq_resolve_scope.specs.Names.{with_each, with_loads}
use Rattle.bq_resolve_scope.proofs.binding.add_loads_of_file.Given as goal

abbrev pub invariant-loop-top_level : goal.invariant-loop-top_level
invariant-loop-top_level l = with_each with_loads l.names (drop l.top_level-index l.file) ≡ with_each with_loads l.fn.names l.file
