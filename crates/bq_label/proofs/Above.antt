-- The directories above a path are its beginnings before a slash.
use Rattle.std.proofs.Common.{◌≡◌, ◌+◌, ◌<◌, ◌++◌, ℕ, true, List, [], ◌∷◌, length, take, drop, slice_index, sym, ap, subst, ◌∙◌, arith, length-append, append_assoc, nat_eq}
use Rattle.std.proofs.Math.Seq.{take-append_seam, get_or-append_seam}
use Rattle.std.proofs.lemmas.List.{take_more, take-append-drop}
use Rattle.std.proofs.lemmas.Cmp.{nat_list_eq_equiv}
use Rattle.std.specs.Cmp.Lexicographic.{same_text, pointwise}
use Rattle.bq_label.specs.Workspace.{is_above}

pub same_bytes : (xs ys : List ℕ) → pointwise nat_eq xs ys ≡ true → xs ≡ ys
same_bytes xs ys h = same_text xs ys (sym h)

pub equal_bytes : (xs ys : List ℕ) → xs ≡ ys → pointwise nat_eq xs ys ≡ true
equal_bytes xs ys e = subst (λ (zs : List ℕ). pointwise nat_eq xs zs ≡ true) e (nat_list_eq_equiv.refl xs)

-- a path goes on after its directory and a slash
pub above_whole : (d path : List ℕ) → is_above d path ≡ true → path ≡ d ++ 47 ∷ drop (length d + 1) path
unfolding is_above
above_whole d path h =
    let n : ℕ = length (d ++ 47 ∷ []) in
    let len : n ≡ length d + 1 = length-append d (47 ∷ []) in
    let front : d ++ 47 ∷ [] ≡ take n path = same_bytes (d ++ 47 ∷ []) (take n path) h in
    sym (take-append-drop n path) ∙ (ap (λ (t : List ℕ). t ++ drop n path) (sym front) ∙ (append_assoc d (47 ∷ []) (drop n path) ∙ ap (λ (k : ℕ). d ++ 47 ∷ drop k path) len))

pub above_joined : (d rest : List ℕ) → is_above d (d ++ 47 ∷ rest) ≡ true
unfolding is_above
above_joined d rest =
    let n : ℕ = length (d ++ 47 ∷ []) in
    let front : take n (d ++ 47 ∷ rest) ≡ d ++ 47 ∷ [] = ap (λ (t : List ℕ). take n t) (sym (append_assoc d (47 ∷ []) rest)) ∙ take-append_seam (d ++ 47 ∷ []) rest in
    equal_bytes (d ++ 47 ∷ []) (take n (d ++ 47 ∷ rest)) (sym front)

-- what is before a slash
pub above_take : (path : List ℕ) (k : ℕ) → k < length path → slice_index path k ≡ 47 → is_above (take k path) path ≡ true
above_take path k l e =
    let more : take (k + 1) path ≡ take k path ++ slice_index path k ∷ [] = take_more path k 0 l in
    let whole : path ≡ take k path ++ 47 ∷ drop (k + 1) path =
    sym (take-append-drop (k + 1) path) ∙ (ap (λ (t : List ℕ). t ++ drop (k + 1) path) (more ∙ ap (λ (b : ℕ). take k path ++ b ∷ []) e) ∙ append_assoc (take k path) (47 ∷ []) (drop (k + 1) path)) in
    subst (λ (t : List ℕ). is_above (take k path) t ≡ true) (sym whole) (above_joined (take k path) (drop (k + 1) path))

pub above_length : (d path : List ℕ) → is_above d path ≡ true → length d < length path
above_length d path h = omega (arith, ap length (above_whole d path h), length-append d (47 ∷ drop (length d + 1) path))

pub above_slash : (d path : List ℕ) → is_above d path ≡ true → slice_index path (length d) ≡ 47
above_slash d path h = ap (λ (t : List ℕ). slice_index t (length d)) (above_whole d path h) ∙ get_or-append_seam d 47 (drop (length d + 1) path) 0

pub above_front : (d path : List ℕ) → is_above d path ≡ true → take (length d) path ≡ d
above_front d path h = ap (λ (t : List ℕ). take (length d) t) (above_whole d path h) ∙ take-append_seam d (47 ∷ drop (length d + 1) path)
