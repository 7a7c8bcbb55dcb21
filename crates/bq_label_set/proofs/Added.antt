-- Which labels are in a set after others were added, and that none is there twice.
use Rattle.std.proofs.Common.{◌≡◌, ◌∙◌, ◌⊎◌, true, false, List, [], ◌∷◌, ◌++◌, refl, sym, ap, subst, inl, inr, append-nil, append_assoc, arith}
use Rattle.std.specs.List.{Contains, IsDistinct, AllByRecursion}
use Rattle.std.proofs.lemmas.Bool.{cases_Bool}
use Rattle.std.proofs.lemmas.List.Elements.{Contains-append_left, Contains-push, Contains-push_cases}
use Rattle.std.proofs.lemmas.Map.Keys.{IsDistinct-head, IsDistinct-tail, IsDistinct-push}
use Rattle.std.proofs.lemmas.Map.Views.{Contains-from_any}
use Rattle.bq_label.specs.Label.{LabelParts}
use Rattle.bq_label.proofs.Orders.{at_head, in_tail, head_or_tail}
use Rattle.bq_label_set.specs.Labels.{same_label, same_label-Decides, same_label-equiv, has_label, with_label, with_labels}
use Rattle.bq_label_set.specs.Laws.{EachLabelOnce, TheLabelsAdded, NumbersStay, ThoseThatDiffer}

pub none_in : {X : Type 0} (z : X) → Contains [] z → ⊥
none_in z c = omega arith

there : (ls : List LabelParts) (l : LabelParts) → has_label ls l ≡ true → Contains ls l
there ls l h = Contains-from_any (λ x y e. (same_label-Decides x y).0 e) l ls h

-- ---- one label

pub known_label : (ls : List LabelParts) (m : LabelParts) → has_label ls m ≡ true → with_label ls m ≡ ls
unfolding with_label
known_label ls m h = rw h refl

pub new_label : (ls : List LabelParts) (m : LabelParts) → has_label ls m ≡ false → with_label ls m ≡ ls ++ m ∷ []
unfolding with_label
new_label ls m h = rw h refl

one_grows : (ls : List LabelParts) (m : LabelParts) → (added : List LabelParts) × (with_label ls m ≡ ls ++ added)
one_grows ls m = elim (cases_Bool (has_label ls m)) [
  | inl h ↦ ([], known_label ls m h ∙ sym (append-nil ls))
  | inr h ↦ (m ∷ [], new_label ls m h)
]

one_added : (ls : List LabelParts) (m : LabelParts) → Contains (with_label ls m) m
one_added ls m = elim (cases_Bool (has_label ls m)) [
  | inl h ↦ subst (λ (z : List LabelParts). Contains z m) (sym (known_label ls m h)) (there ls m h)
  | inr h ↦ subst (λ (z : List LabelParts). Contains z m) (sym (new_label ls m h)) (Contains-push ls m)
]

one_origin : (ls : List LabelParts) (m l : LabelParts) → Contains (with_label ls m) l → Contains ls l ⊎ (m ≡ l)
one_origin ls m l c = elim (cases_Bool (has_label ls m)) [
  | inl h ↦ inl (subst (λ (z : List LabelParts). Contains z l) (known_label ls m h) c)
  | inr h ↦ Contains-push_cases ls m l (subst (λ (z : List LabelParts). Contains z l) (new_label ls m h) c)
]

one_distinct : (ls : List LabelParts) (m : LabelParts) → IsDistinct same_label ls → IsDistinct same_label (with_label ls m)
one_distinct ls m d = elim (cases_Bool (has_label ls m)) [
  | inl h ↦ subst (λ (z : List LabelParts). IsDistinct same_label z) (sym (known_label ls m h)) d
  | inr h ↦ subst (λ (z : List LabelParts). IsDistinct same_label z) (sym (new_label ls m h)) (IsDistinct-push same_label-equiv ls m d h)
]

-- ---- labels in turn

pub numbers_stay : NumbersStay
unfolding with_labels
numbers_stay ls [] = ([], sym (append-nil ls))
numbers_stay ls (m ∷ ms) =
    let one = one_grows ls m in
    let all = numbers_stay (with_label ls m) ms in
    (one.0 ++ all.0, all.1 ∙ (ap (λ (z : List LabelParts). z ++ all.0) one.1 ∙ append_assoc ls one.0 all.0))

old_stay : (ls ms : List LabelParts) (l : LabelParts) → Contains ls l → Contains (with_labels ls ms) l
old_stay ls ms l c =
    let g = numbers_stay ls ms in
    subst (λ (z : List LabelParts). Contains z l) (sym g.1) (Contains-append_left ls g.0 l c)

all_added : (ls ms : List LabelParts) (l : LabelParts) → Contains ms l → Contains (with_labels ls ms) l
unfolding with_labels
all_added ls [] l c = absurd (none_in l c)
all_added ls (m ∷ ms) l c = elim (head_or_tail m ms l c) [
  | inl e ↦ old_stay (with_label ls m) ms l (subst (λ (z : LabelParts). Contains (with_label ls m) z) e (one_added ls m))
  | inr d ↦ all_added (with_label ls m) ms l d
]

origin : (ls ms : List LabelParts) (l : LabelParts) → Contains (with_labels ls ms) l → Contains ls l ⊎ Contains ms l
unfolding with_labels
origin ls [] l c = inl c
origin ls (m ∷ ms) l c = elim (origin (with_label ls m) ms l c) [
  | inl d ↦ elim (one_origin ls m l d) [
    | inl old ↦ inl old
    | inr e ↦ inr (subst (λ (z : LabelParts). Contains (m ∷ ms) z) e (at_head m ms))
  ]
  | inr d ↦ inr (in_tail m ms l d)
]

pub the_labels_added : TheLabelsAdded
the_labels_added ls ms l = (λ c. origin ls ms l c, λ c. elim c [ inl d ↦ old_stay ls ms l d | inr d ↦ all_added ls ms l d ])

pub still_distinct : (ls ms : List LabelParts) → IsDistinct same_label ls → IsDistinct same_label (with_labels ls ms)
unfolding with_labels
still_distinct ls [] d = d
still_distinct ls (m ∷ ms) d = still_distinct (with_label ls m) ms (one_distinct ls m d)

pub each_label_once : EachLabelOnce
unfolding IsDistinct
each_label_once ls = still_distinct [] ls tt

pub with_labels-append : (ls xs ys : List LabelParts) → with_labels ls (xs ++ ys) ≡ with_labels (with_labels ls xs) ys
unfolding with_labels
with_labels-append ls [] ys = refl
with_labels-append ls (x ∷ xs) ys = with_labels-append (with_label ls x) xs ys

-- ---- labels that differ

pub free_before : (pre rest : List LabelParts) (x : LabelParts) → IsDistinct same_label (pre ++ x ∷ rest) → has_label pre x ≡ false
free_before [] rest x d = refl
free_before (p ∷ pre) rest x d =
    let apart : same_label p x ≡ false = reach pre (IsDistinct-head same_label p (pre ++ x ∷ rest) d) in
    rw (same_label-equiv.symm x p, apart) (free_before pre rest x (IsDistinct-tail same_label p (pre ++ x ∷ rest) d))
  where
    reach : (qs : List LabelParts) → AllByRecursion (λ y. same_label p y ≡ false) (qs ++ x ∷ rest) → same_label p x ≡ false
    reach [] a = a.0
    reach (q ∷ qs) a = reach qs a.1

all_new : (pre rest : List LabelParts) → IsDistinct same_label (pre ++ rest) → with_labels pre rest ≡ pre ++ rest
unfolding with_labels
all_new pre [] d = sym (append-nil pre)
all_new pre (x ∷ rest) d =
    let one : with_label pre x ≡ pre ++ x ∷ [] = new_label pre x (free_before pre rest x d) in
    let along : (pre ++ x ∷ []) ++ rest ≡ pre ++ x ∷ rest = append_assoc pre (x ∷ []) rest in
    ap (λ (z : List LabelParts). with_labels z rest) one ∙ (all_new (pre ++ x ∷ []) rest (subst (λ (z : List LabelParts). IsDistinct same_label z) (sym along) d) ∙ along)

pub those_that_differ : ThoseThatDiffer
those_that_differ ls d = all_new [] ls d
