use Rattle.bq_builtin_strings.proofs.WordsFromTheRight.{words_from_right}
use Rattle.bq_builtin_strings.proofs.word_laws.the_words_from_the_right.Goals as goal

pub returns : goal.returns
returns c = words_from_right
