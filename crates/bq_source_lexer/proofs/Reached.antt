-- Every text has its reading: the pieces come to an end.
use Rattle.std.proofs.Common.{◌≡◌, ℕ, zero, suc, ◌+◌, ◌<◌, List, [], ◌∷◌, length, take, Bool, true, false, cond, nat_lt, Result, Ok, Err, refl, arith}
use borrow.Author.Tests.{ltb-true, ltb-false}
use Rattle.bq_base.specs.declared.fault.TokenFault.{TokenFault}
use Rattle.bq_base.specs.declared.fault.Fault.{Fault}
use Rattle.bq_base.specs.declared.fault.TokenFault.TheVariants as f
use Rattle.bq_base.specs.Fault.{fault_at}
use Rattle.bq_source_lexer.specs.Reading.{State, start, step, Runs, ends, stops, goes, Lexes, too_long, cut, max_file_bytes, line_behind}
use Rattle.bq_source_lexer.specs.Tokens.{by_step, by_rest, pieces, tokens_of}
use Rattle.bq_source_lexer.proofs.Keeping.{step_shortens}

stepped : (n : ℕ) (s : State) (some : 0 < length s.rest) (r : Result State (Fault TokenFault)) → step s ≡ r
    → ((t : State) → length t.rest < length s.rest → Runs t (pieces n t)) → Runs s (by_step (pieces n) r)
stepped n s some (Ok t) e on = goes some e (on t (step_shortens s t some e))
stepped n s some (Err why) e on = stops some e

by_bytes : (n : ℕ) (s : State) (xs : List ℕ) → s.rest ≡ xs → ((t : State) → length t.rest < length s.rest → Runs t (pieces n t)) → Runs s (by_rest (pieces n) xs s)
by_bytes n s [] e on = ends e refl
by_bytes n s (b ∷ bs) e on = stepped n s (rw e (omega arith)) (step s) refl on

pub reached : (n : ℕ) (s : State) → length s.rest < n → Runs s (pieces n s)
unfolding pieces
reached zero s h = absurd (omega arith)
reached (suc n) s h = by_bytes n s s.rest refl (λ t less. reached n t (omega arith))

pub every_text : (text : List ℕ) → Lexes text (tokens_of text)
unfolding tokens_of
every_text text = by_length (nat_lt max_file_bytes (length text)) refl
  where
    by_length : (b : Bool) → nat_lt max_file_bytes (length text) ≡ b → Lexes text (cond b (Err (fault_at f.FileTooLong (line_behind (take max_file_bytes text)))) (pieces (length text + 1) (start text)))
    by_length true e = too_long (ltb-true max_file_bytes (length text) e)
    by_length false e = cut (ltb-false max_file_bytes (length text) e) (reached (length text + 1) (start text) (omega arith))
