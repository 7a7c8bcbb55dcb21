use Rattle.std.proofs.Common.{◌∙◌, ap, sym}
use Rattle.bq_package_schema.specs.Reading.{schema_of, declared_by}
use Rattle.bq_package_schema.specs.Schema.{no_rules}
use Rattle.bq_package_schema.proofs.Lines.{has_a_form}
use Rattle.bq_package_schema.proofs.laws.each_line_has_a_form.Goals as goal

pub returns : goal.returns
unfolding schema_of
returns c text rules before line behind h cut = has_a_form no_rules 0 before line behind rules (ap (declared_by no_rules 0) (sym cut) ∙ h)
