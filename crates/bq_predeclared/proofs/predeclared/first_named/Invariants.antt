use Rattle.std.proofs.Common.{◌≡◌, length}
use Rattle.bq_predeclared.specs.Predeclared.{first_named}
use Rattle.bq_predeclared.proofs.predeclared.first_named.Given as goal

abbrev pub invariant-loop-table : goal.invariant-loop-table
invariant-loop-table l = first_named l.name l.table ≡ first_named l.name l.initial.table

abbrev pub decreases-loop-table : goal.decreases-loop-table
decreases-loop-table l = length l.table
