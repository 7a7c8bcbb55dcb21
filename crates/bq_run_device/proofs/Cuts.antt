-- What is left out of a file that is too long.
use Rattle.std.proofs.Common.{◌≡◌, ◌+◌, ◌<◌, ℕ, List, length, take, Result, sym, ap, subst, arith}
use Rattle.std.proofs.lemmas.List.{length-take-le, take_all, take-take}
use Rattle.bq_base.specs.declared.fault.Fault.{Fault}
use Rattle.bq_base.specs.declared.fault.TokenFault.{TokenFault}
use Rattle.bq_base.specs.declared.fault.TokenFault.TheVariants as f
use Rattle.bq_base.specs.Fault.{fault_at}
use Rattle.bq_source.specs.declared.token.Token.{Token}
use Rattle.bq_source_lexer.specs.Reading.{Lexes, too_long, cut, max_file_bytes, line_behind}
use Rattle.bq_source_lexer.specs.Tokens.{tokens_of}
use Rattle.bq_source_lexer.proofs.Reached.{every_text}
use Rattle.bq_source_lexer.proofs.Unique.{one_reading, too_long_reads}

abbrev Reading : Type 0
Reading = Result (List Token) (Fault TokenFault)

-- the bytes up to one past the limit are more than the limit
still_long : (text : List ℕ) → max_file_bytes < length text → max_file_bytes < length (take (max_file_bytes + 1) text)
still_long text long = let e = length-take-le (max_file_bytes + 1) text (omega (arith, long)) in omega (arith, e)

-- and their line past the limit is the text's
same_line : (text : List ℕ) → fault_at f.FileTooLong (line_behind (take max_file_bytes (take (max_file_bytes + 1) text))) ≡ fault_at f.FileTooLong (line_behind (take max_file_bytes text))
same_line text = ap (λ bytes. fault_at f.FileTooLong (line_behind bytes)) (take-take max_file_bytes (max_file_bytes + 1) text (omega arith))

pub cut_reads : (text : List ℕ) (r : Reading) → Lexes text r → Lexes (take (max_file_bytes + 1) text) r
cut_reads text _ (too_long long) = too_long_reads (take (max_file_bytes + 1) text) _ (still_long text long) (same_line text)
cut_reads text r (cut short runs) = subst (λ t. Lexes t r) (sym (take_all (max_file_bytes + 1) text (omega (arith, short)))) (cut short runs)

pub whole_reads : (text : List ℕ) (r : Reading) → Lexes (take (max_file_bytes + 1) text) r → Lexes text r
whole_reads text r h = subst (Lexes text) (one_reading (take (max_file_bytes + 1) text) (tokens_of text) r (cut_reads text (tokens_of text) (every_text text)) h) (every_text text)
