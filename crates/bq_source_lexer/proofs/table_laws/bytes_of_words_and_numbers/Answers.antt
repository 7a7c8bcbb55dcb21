use Rattle.bq_source_lexer.proofs.WordBytes.{letter_found, letter_complete, digit_found, digit_complete, number_found, number_complete, begun, begins}
use Rattle.bq_source_lexer.proofs.table_laws.bytes_of_words_and_numbers.Goals as goal

pub returns-clause-letter : goal.returns-clause-letter
returns-clause-letter c = letter_found

pub returns-clause-letters : goal.returns-clause-letters
returns-clause-letters c = letter_complete

pub returns-clause-digit : goal.returns-clause-digit
returns-clause-digit c = digit_found

pub returns-clause-digits : goal.returns-clause-digits
returns-clause-digits c = digit_complete

pub returns-clause-number : goal.returns-clause-number
returns-clause-number c = number_found

pub returns-clause-numbers : goal.returns-clause-numbers
returns-clause-numbers c = number_complete

pub returns-clause-begun : goal.returns-clause-begun
returns-clause-begun c = begun

pub returns-clause-begins : goal.returns-clause-begins
returns-clause-begins c = begins
