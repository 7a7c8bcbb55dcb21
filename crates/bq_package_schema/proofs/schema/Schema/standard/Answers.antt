use Rattle.bq_package_schema.proofs.StandardRules.{is_standard, is_memory}
use Rattle.bq_package_schema.proofs.schema.Schema.standard.Goals as goal

pub returns-clause-rules : goal.returns-clause-rules
returns-clause-rules c = is_standard c.read_lines.result c.read_lines.ensures

pub returns-clause-refused : goal.returns-clause-refused
returns-clause-refused c = is_memory c.read_lines.result c.read_lines.ensures
