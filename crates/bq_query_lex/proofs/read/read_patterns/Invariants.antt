use Rattle.std.proofs.Common.{◌≡◌, ◌++◌, map, length, Some}
use Rattle.bq_query_lex.specs.PatternReading.{pattern_of, words_fault}
use Rattle.bq_query_lex.proofs.read.read_patterns.Given as goal

abbrev pub invariant-loop-rest : goal.invariant-loop-rest
invariant-loop-rest l = record { fault : words_fault l.rest ≡ words_fault l.words; read : map pattern_of l.words ≡ map Some l.patterns ++ map pattern_of l.rest }

abbrev pub decreases-loop-rest : goal.decreases-loop-rest
decreases-loop-rest l = length l.rest
