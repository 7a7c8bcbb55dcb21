-- A long string at the end of a rope.
use Rattle.std.proofs.Common.{◌≡◌, ◌∙◌, ◌++◌, ℕ, List, [], ◌∷◌, sym, ap, append_assoc, append-nil}
use Rattle.std.specs.List.{concat}
use Rattle.bq_base_texts.specs.Rope.{text_of}

-- the rest becomes a piece, and so does the string
pub appended : (pieces : List (List ℕ)) (rest bytes : List ℕ) → text_of ((pieces ++ rest ∷ []) ++ bytes ∷ []) [] ≡ text_of pieces rest ++ bytes
appended [] rest bytes = append-nil (rest ++ (bytes ++ [])) ∙ ap (λ t. rest ++ t) (append-nil bytes)
appended (p ∷ ps) rest bytes =
    append_assoc p (concat ((ps ++ rest ∷ []) ++ bytes ∷ [])) [] ∙ (ap (λ t. p ++ t) (appended ps rest bytes)
    ∙ (sym (append_assoc p (concat ps ++ rest) bytes) ∙ ap (λ t. t ++ bytes) (sym (append_assoc p (concat ps) rest))))

-- the same of what a push gives
pub pushed : (old mid new : List (List ℕ)) (rest left piece string bytes : List ℕ) → piece ≡ rest → mid ≡ old ++ piece ∷ [] → left ≡ [] → string ≡ bytes → new ≡ mid ++ string ∷ []
    → text_of new left ≡ text_of old rest ++ bytes
pushed old mid new rest left piece string bytes e f g h k =
    let here : text_of ((old ++ rest ∷ []) ++ bytes ∷ []) [] ≡ text_of old rest ++ bytes = appended old rest bytes in
    rw (k, f, e, g, h) here
