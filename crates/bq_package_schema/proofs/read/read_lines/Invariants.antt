use Rattle.std.proofs.Common.{◌≡◌, drop, map}
use Rattle.bq_package_schema.specs.Schema.{no_rules}
use Rattle.bq_package_schema.specs.Reading.{declared_by}
use Rattle.bq_package_schema.proofs.read.read_lines.Given as goal

abbrev pub invariant-loop-before : goal.invariant-loop-before
invariant-loop-before l = declared_by l.draft l.before (map (λ x. x.now) (drop l.before l.lines)) ≡ declared_by no_rules 0 (map (λ x. x.now) l.lines)
