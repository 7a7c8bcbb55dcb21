use Rattle.std.proofs.Common.{◌≡◌, ◌∙◌, ◌+◌, ap, length, arith}
use Rattle.bq_package_schema.specs.Reading.{schema_of, lines, bad_line}
use Rattle.bq_package_schema.specs.Schema.{no_rules}
use Rattle.bq_package_schema.proofs.Lines.{stops}
use Rattle.bq_package_schema.proofs.laws.faults_name_the_first_bad_line.Goals as goal

pub returns : goal.returns
unfolding schema_of
returns c text fault h =
    let s = stops no_rules 0 (lines text) fault h in
    let named : 0 + length s.before ≡ length s.before = omega arith in
    record { before = s.before; line = s.line; behind = s.behind; rules = s.last; cut = s.cut; read = s.read; bad = s.bad; named = s.named ∙ ap bad_line named }
