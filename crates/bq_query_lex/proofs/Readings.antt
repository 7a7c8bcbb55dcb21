-- Every text has one reading.
use Rattle.std.proofs.Common.{◌≡◌, ℕ, zero, suc, ◌+◌, ◌<◌, ◌≤◌, List, [], length, drop, refl, arith, length-drop}
use Rattle.std.specs.Prelude.{Option, Some, None}
use Rattle.bq_query_lex.specs.declared.token.QueryToken.{QueryToken}
use Rattle.bq_query_lex.specs.declared.lexis.QueryPiece.{QueryPiece}
use Rattle.bq_query_lex.specs.declared.lexis.QueryPiece.TheVariants.{End, Blank, Found, Unknown}
use Rattle.bq_query_lex.specs.Lexis.{piece_of}
use Rattle.bq_query_lex.specs.Reading.{Reads, ended, blank, token, unknown, before, IsWithin}
use Rattle.bq_query_lex.proofs.Within.{within}

-- by the piece at the front, with at most `fuel` bytes left
reading_by : (fuel : ℕ) (text : List ℕ) (start : ℕ) (p : QueryPiece) → piece_of text ≡ p → IsWithin p (length text) → length text ≤ fuel → ((rest : List ℕ) (from : ℕ) → length rest < length text → (r : Option (List QueryToken)) × Reads rest from r) → (r : Option (List QueryToken)) × Reads text start r
reading_by fuel text start End e w l more = (Some [], ended e)
reading_by fuel text start Blank e w l more = let r = more (drop 1 text) (start + 1) (omega (arith, length-drop 1 text, w)) in (r.0, blank e r.1)
reading_by fuel text start (Found kind n) e w l more = let r = more (drop n text) (start + n) (omega (arith, length-drop n text, w.0, w.1)) in (before kind start n r.0, token e r.1 refl)
reading_by fuel text start Unknown e w l more = (None, unknown e)

reading : (fuel : ℕ) (text : List ℕ) (start : ℕ) → length text ≤ fuel → (r : Option (List QueryToken)) × Reads text start r
reading zero text start l = reading_by 0 text start (piece_of text) refl (within text) l (λ rest from h. absurd (omega (arith, h, l)))
reading (suc fuel) text start l = reading_by (suc fuel) text start (piece_of text) refl (within text) l (λ rest from h. reading fuel rest from (omega (arith, h, l)))

pub every : (text : List ℕ) → (r : Option (List QueryToken)) × Reads text 0 r
every text = reading (length text) text 0 (omega arith)
