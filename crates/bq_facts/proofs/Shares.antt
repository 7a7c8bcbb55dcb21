-- A text that is moved to what is done, whole or in three parts.
use Rattle.std.proofs.Common.{◌≡◌, ◌∙◌, ◌≤◌, ◌++◌, ℕ, List, [], length, take, drop, ap, append_assoc, append-nil, arith}
use Rattle.std.proofs.lemmas.List.{length-take-le, take-append-drop}

-- nothing comes after what is done
pub settled : (done rest left : List ℕ) → left ≡ [] → (done ++ rest) ++ left ≡ done ++ rest
settled done rest left none = ap (λ t. (done ++ rest) ++ t) none ∙ append-nil (done ++ rest)

-- nor after a text that is appended to it
pub all_settled : (done rest pieces after text left : List ℕ) → left ≡ [] → pieces ++ after ≡ text → (((done ++ rest) ++ pieces) ++ after) ++ left ≡ (done ++ rest) ++ text
all_settled done rest pieces after text left none parts =
    ap (λ t. (((done ++ rest) ++ pieces) ++ after) ++ t) none
    ∙ append-nil (((done ++ rest) ++ pieces) ++ after)
    ∙ append_assoc (done ++ rest) pieces after
    ∙ ap (λ t. (done ++ rest) ++ t) parts

-- what is done, the bytes before a piece, the piece, and what is after it
pub cut_in_three : (done rest : List ℕ) (from to : ℕ) → ((done ++ take from (take to rest)) ++ drop from (take to rest)) ++ drop to rest ≡ done ++ rest
cut_in_three done rest from to =
    let front = take to rest in
    ap (λ t. t ++ drop to rest) (append_assoc done (take from front) (drop from front) ∙ ap (λ t. done ++ t) (take-append-drop from front))
    ∙ append_assoc done front (drop to rest)
    ∙ ap (λ t. done ++ t) (take-append-drop to rest)

-- a piece begins where it has bytes before it
pub within_front : (rest : List ℕ) (from to : ℕ) → from ≤ to → to ≤ length rest → from ≤ length (take to rest)
within_front rest from to order within = omega (arith, length-take-le to rest within)
