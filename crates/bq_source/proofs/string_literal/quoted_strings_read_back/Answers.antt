use Rattle.bq_source.proofs.Quoted.{one_literal, reads_back}
use Rattle.bq_source.proofs.string_literal.quoted_strings_read_back.Goals as goal

pub returns-clause-literal : goal.returns-clause-literal
returns-clause-literal c = one_literal

pub returns-clause-value : goal.returns-clause-value
returns-clause-value c = reads_back
