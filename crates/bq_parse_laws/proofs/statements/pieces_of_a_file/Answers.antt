use Rattle.bq_parse_laws.proofs.Cutting.{pieces_joined, pieces_begin}
use Rattle.bq_parse_laws.proofs.statements.pieces_of_a_file.Goals as goal

pub returns-clause-whole : goal.returns-clause-whole
returns-clause-whole c ts = pieces_joined ts

pub returns-clause-apart : goal.returns-clause-apart
returns-clause-apart c ts = pieces_begin ts
