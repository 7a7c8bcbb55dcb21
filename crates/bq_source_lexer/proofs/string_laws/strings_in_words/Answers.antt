use Rattle.bq_source_lexer.proofs.Literals.{string, strings, unended, open_fault, escape, escapes}
use Rattle.bq_source_lexer.proofs.string_laws.strings_in_words.Goals as goal

pub returns-clause-string : goal.returns-clause-string
returns-clause-string c = string

pub returns-clause-strings : goal.returns-clause-strings
returns-clause-strings c = strings

pub returns-clause-unended : goal.returns-clause-unended
returns-clause-unended c = unended

pub returns-clause-open_string : goal.returns-clause-open_string
returns-clause-open_string c = open_fault

pub returns-clause-escape : goal.returns-clause-escape
returns-clause-escape c = escape

pub returns-clause-escapes : goal.returns-clause-escapes
returns-clause-escapes c = escapes
