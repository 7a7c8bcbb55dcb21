use Rattle.std.proofs.Common.{◌≡◌, [], drop}
use Rattle.bq_load.specs.Imports.{loaded_of, imports}
use Rattle.bq_load.proofs.imports.LoadedFiles.imports_by.Given as goal

-- the loads that are left, with the labels that are left, decide
abbrev pub invariant-loop-number : goal.invariant-loop-number
invariant-loop-number l = imports (loaded_of l.self) l.values.items (drop l.number l.loads) (drop l.number l.self.named.now) ≡ imports (loaded_of l.self) [] l.loads l.self.named.now
