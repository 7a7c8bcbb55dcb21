use Rattle.bq_builtin_strings.proofs.WordRuns.{are_words}
use Rattle.bq_builtin_strings.proofs.word_laws.the_words.Goals as goal

pub returns : goal.returns
returns c = λ text most enough. are_words most text enough
