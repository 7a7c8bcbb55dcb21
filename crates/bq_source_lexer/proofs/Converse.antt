-- The words and the definition give the same readings: the definition has one for each text, which the words describe, and they
-- describe one only.
use Rattle.std.proofs.Common.{ℕ, ◌≤◌, inl, inr, List, length, Result, Ok, Err, subst, arith}
use Rattle.bq_source.specs.declared.token.Token.{Token}
use Rattle.bq_base.specs.declared.fault.TokenFault.{TokenFault}
use Rattle.bq_base.specs.declared.fault.Fault.{Fault}
use Rattle.bq_source_lexer.specs.Reading.{Lexes, too_long as past_limit, cut, max_file_bytes}
use Rattle.bq_source_lexer.specs.Tokens.{tokens_of}
use Rattle.bq_source_lexer.specs.Layout.{Reads, IsFaulty}
use Rattle.bq_source_lexer.proofs.Reached.{every_text}
use Rattle.bq_source_lexer.proofs.LaidOut.{reads, faulty}
use Rattle.bq_source_lexer.specs.InWords.{InWords, tokens, fault, too_long}
use Rattle.bq_source_lexer.proofs.OneWay.{one_cutting, one_fault, apart}

fault_in_words : (text : List ℕ) (e : Fault TokenFault) → length text ≤ max_file_bytes → Lexes text (Err e) → IsFaulty text e
fault_in_words text e short h = elim (faulty text e h) [ inl long ↦ (let l = long.1 in absurd (omega arith)) | inr is ↦ is ]

pub complete : (text : List ℕ) (r : Result (List Token) (Fault TokenFault)) → Lexes text r → InWords text r
complete text r (past_limit long) = too_long long
complete text (Ok ts) (cut short h) = tokens short (reads text ts (cut short h))
complete text (Err e) (cut short h) = fault short (fault_in_words text e short (cut short h))

-- the reading that there is, is the one that the words give
module _ (text : List ℕ) (short : length text ≤ max_file_bytes) where
  of_tokens : (ts : List Token) → Reads text ts → (r : Result (List Token) (Fault TokenFault)) → Lexes text r → Lexes text (Ok ts)
  of_tokens ts h (Ok us) g = let P : List Token → Type 0 = λ xs. Lexes text (Ok xs) in subst P (one_cutting text us ts (reads text us g) h) g
  of_tokens ts h (Err e) g = absurd (apart text ts e h (fault_in_words text e short g))

  of_fault : (e : Fault TokenFault) → IsFaulty text e → (r : Result (List Token) (Fault TokenFault)) → Lexes text r → Lexes text (Err e)
  of_fault e h (Ok us) g = absurd (apart text us e (reads text us g) h)
  of_fault e h (Err d) g = let P : Fault TokenFault → Type 0 = λ x. Lexes text (Err x) in subst P (one_fault text d e (fault_in_words text d short g) h) g

pub found : (text : List ℕ) (r : Result (List Token) (Fault TokenFault)) → InWords text r → Lexes text r
found text r (tokens {ts = ts} short h) = of_tokens text short ts h (tokens_of text) (every_text text)
found text r (fault {e = e} short h) = of_fault text short e h (tokens_of text) (every_text text)
found text r (too_long long) = past_limit long
