use Rattle.bq_source_lexer.proofs.Alone.{keywords_read, reserved_read, marks_read}
use Rattle.bq_source_lexer.proofs.table_laws.words_and_marks_read_alone.Goals as goal

pub returns-clause-keywords : goal.returns-clause-keywords
returns-clause-keywords c = keywords_read

pub returns-clause-reserved : goal.returns-clause-reserved
returns-clause-reserved c = reserved_read

pub returns-clause-marks : goal.returns-clause-marks
returns-clause-marks c = marks_read
