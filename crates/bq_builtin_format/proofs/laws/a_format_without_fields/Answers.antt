use Rattle.bq_builtin_format.proofs.Fieldless.{fieldless, fieldless_cut, fieldless_text}
use Rattle.bq_builtin_format.proofs.laws.a_format_without_fields.Goals as goal

pub returns : goal.returns
returns c = record { doubled = λ text format. (fieldless text format, fieldless_cut text format); made = fieldless_text }
