-- How far runs of bytes go.
use Rattle.std.proofs.Common.{◌≡◌, ℕ, ◌+◌, ◌<◌, List, ◌∷◌, length, drop, get_or, refl, sym, ◌∙◌, subst, arith, add-one, drop-cons}
use Rattle.bq_source.specs.Lexis.{newline_len, comment_len}

-- no line end comes at once, so the comment takes the byte
one_further : (b : ℕ) (bs : List ℕ) → newline_len (b ∷ bs) ≡ 0 → comment_len (b ∷ bs) ≡ 1 + comment_len bs
one_further b bs h = rw h refl

pub comment_goes_on : (text : List ℕ) (n len : ℕ) → n < length text → len ≡ newline_len (drop n text) → len ≡ 0 → n + comment_len (drop n text) ≡ (n + 1) + comment_len (drop (n + 1) text)
comment_goes_on text n len below is none =
    let d : drop n text ≡ get_or text n 0 ∷ drop (n + 1) text = rw (add-one, drop-cons text n 0) refl in
    let P : List ℕ → Type 0 = λ xs. newline_len xs ≡ 0 in
    let Q : List ℕ → Type 0 = λ xs. n + comment_len xs ≡ (n + 1) + comment_len (drop (n + 1) text) in
    let at_byte = subst P d (sym is ∙ none) in
    let e = one_further (get_or text n 0) (drop (n + 1) text) at_byte in
    subst Q (sym d) (rw e (omega arith))
