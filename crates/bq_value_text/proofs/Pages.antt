-- What is written in parts.
use Rattle.std.proofs.Common.{◌≡◌, ◌∙◌, ℕ, ◌+◌, ◌<◌, ◌++◌, Bool, true, false, List, [], ◌∷◌, Some, None, nat_le, cond, length, drop, get_or, refl, sym, ap, subst, arith, append_assoc, length-append, add-one}
use Rattle.std.proofs.lemmas.Bool.Decides.{nat_tests}
use Rattle.std.proofs.Math.Seq.{drop-cons}
use Rattle.bq_source.specs.StringLiteral.{quoted, quoted_body, quoted_byte}
use Rattle.bq_value_text.specs.Page.{PageView, written, max_text}

written_by : (t a b : List ℕ) (c : Bool) → nat_le (length t + length a) max_text ≡ c → written (cond c (Some (t ++ a)) None) b ≡ written (Some t) (a ++ b)
unfolding written
written_by t a b true e =
    let n : length (t ++ a) + length b ≡ length t + length (a ++ b) = omega (arith, length-append t a, length-append a b) in
    ap (λ (k : ℕ). cond (nat_le k max_text) (Some ((t ++ a) ++ b)) None) n ∙ ap (λ (u : List ℕ). cond (nat_le (length t + length (a ++ b)) max_text) (Some u) None) (append_assoc t a b)
written_by t a b false e =
    let over : max_text < length t + length a = grind (arith, nat_tests, e) in
    let n : max_text < length t + length (a ++ b) = omega (arith, over, length-append a b) in
    let no : nat_le (length t + length (a ++ b)) max_text ≡ false = grind (arith, nat_tests, n) in
    rw no refl

-- bytes after bytes are both in a row
pub written_more : (page : PageView) (a b : List ℕ) → written (written page a) b ≡ written page (a ++ b)
unfolding written
written_more None a b = refl
written_more (Some t) a b = written_by t a b (nat_le (length t + length a) max_text) refl

-- a page that is over takes nothing more
pub over_stays : (page : PageView) (bytes : List ℕ) → page ≡ None → page ≡ written page bytes
unfolding written
over_stays page bytes over = subst (λ (p : PageView). p ≡ written p bytes) (sym over) refl

-- the opening quote
pub first_quoted : (page next : PageView) (bytes : List ℕ) → next ≡ written page (34 ∷ []) → written page (34 ∷ quoted_body bytes) ≡ written next (quoted_body bytes)
first_quoted page next bytes e = sym (written_more page (34 ∷ []) (quoted_body bytes)) ∙ ap (λ (p : PageView). written p (quoted_body bytes)) (sym e)

-- a quoted byte, and the rest of the string
pub next_quoted : (page next : PageView) (bytes : List ℕ) (i : ℕ) → i < length bytes → next ≡ written page (quoted_byte (get_or bytes i 0))
    → written page (quoted_body (drop i bytes)) ≡ written next (quoted_body (drop (i + 1) bytes))
next_quoted page next bytes i within e =
    let here : drop i bytes ≡ get_or bytes i 0 ∷ drop (i + 1) bytes = rw add-one (drop-cons bytes i 0 within) in
    ap (λ (rest : List ℕ). written page (quoted_body rest)) here
    ∙ (sym (written_more page (quoted_byte (get_or bytes i 0)) (quoted_body (drop (i + 1) bytes))) ∙ ap (λ (p : PageView). written p (quoted_body (drop (i + 1) bytes))) (sym e))

-- the closing quote
pub last_quoted : (start page : PageView) (bytes : List ℕ) → written start (34 ∷ quoted_body bytes) ≡ written page [] → written page (34 ∷ []) ≡ written start (quoted bytes)
unfolding quoted
last_quoted start page bytes h =
    sym (written_more page [] (34 ∷ [])) ∙ (ap (λ (p : PageView). written p (34 ∷ [])) (sym h) ∙ written_more start (34 ∷ quoted_body bytes) (34 ∷ []))
