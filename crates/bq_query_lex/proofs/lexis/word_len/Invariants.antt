use Rattle.std.proofs.Common.{◌≡◌, ◌+◌, drop}
use Rattle.std.specs.List.{prefix_len}
use Rattle.bq_query_lex.specs.Lexis.{is_word_byte}
use Rattle.bq_query_lex.proofs.lexis.word_len.Given as goal

abbrev pub invariant-loop-n : goal.invariant-loop-n
invariant-loop-n l = prefix_len is_word_byte l.text ≡ l.n + prefix_len is_word_byte (drop l.n l.text)
