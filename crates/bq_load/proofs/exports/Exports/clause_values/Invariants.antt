use Rattle.std.proofs.Common.{◌≡◌, drop, option_map}
use Rattle.std.specs.Option.{option_copied}
use Rattle.bq_load.specs.Views.{module_view}
use Rattle.bq_load_module.specs.Round.{lent_files}
use Rattle.bq_load.specs.Imports.{clause_values}
use Rattle.bq_load.proofs.exports.Exports.clause_values.Given as goal

-- the clauses that are left, after the values so far, decide
abbrev pub invariant-loop-clause : goal.invariant-loop-clause
invariant-loop-clause l =
    clause_values (lent_files l.self.resolved.now) (option_map module_view (option_copied l.self.module)) l.line l.values.items (drop l.clause-index l.clauses)
    ≡ clause_values (lent_files l.self.resolved.now) (option_map module_view (option_copied l.self.module)) l.line l.fn.values.items l.clauses
