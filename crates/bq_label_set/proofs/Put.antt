-- What the maps of numbers have once the number of a label is put.
use Rattle.std.proofs.Common.{◌≡◌, ◌≢◌, ◌∙◌, ◌&&◌, ℕ, Bool, true, false, cond, List, [], ◌∷◌, Option, Some, None, length, bytes_eq, refl, sym, ap, inl, inr, arith}
use Rattle.std.specs.BTreeMap.{BTreeMap, get, is_at, IsUnchanged, Updates, btree_map_len}
use Rattle.std.specs.Cmp.Lexicographic.{slice_cmp}
use Rattle.std.specs.Map.{lookup}
use Rattle.std.specs.Ordering.{is_eq, nat_cmp, ordering_then}
use Rattle.std.specs.declared.cmp.Ordering.{Ordering}
use Rattle.std.specs.declared.cmp.Ordering.TheVariants.{Less, Equal, Greater}
use Rattle.std.proofs.lemmas.Bool.{cases_Bool}
use Rattle.std.proofs.lemmas.Map.Lookups.{exact_unsigned}
use Rattle.std.proofs.lemmas.Map.Text.{is_eq-slice_cmp}
use Rattle.bq_base_texts.proofs.Positions.{true_false, none_some}
use Rattle.bq_base_texts.proofs.PlacePut.{equal_by, left}
use Rattle.bq_label.specs.Label.{LabelParts}
use Rattle.bq_label_set.specs.Labels.{same_label, same_label-Decides}
use Rattle.bq_label_set.specs.Numbering.{label_cmp, hash_of, first_number, colliding_number, HasNumber}

abbrev Hashes : Type 0
Hashes = BTreeMap ℕ ℕ

abbrev Keys : Type 0
Keys = BTreeMap LabelParts ℕ

none_by : (es : List (LabelParts × ℕ)) (l : LabelParts) → length es ≡ 0 → lookup (is_at (label_cmp l)) es ≡ None
none_by [] l h = refl
none_by (e ∷ es) l h = absurd (omega (arith, h))

pub none_colliding : (m : Keys) (l : LabelParts) → btree_map_len m ≡ 0 → colliding_number m l ≡ None
none_colliding m l h = none_by m.entries l h

-- ---- by hash

pub first_put : (m n : Hashes) (q : Keys) (l : LabelParts) (i : ℕ) → Updates nat_cmp m n (hash_of l) (Some i) → HasNumber n q l i
first_put m n q l i gets = inl gets.1

pub others_first : (m n : Hashes) (q : Keys) (l other : LabelParts) (i j : ℕ) → first_number m l ≡ None → Updates nat_cmp m n (hash_of l) (Some i) → HasNumber m q other j → HasNumber n q other j
others_first m n q l other i j none gets has = elim has [
  | inl first ↦ elim (cases_Bool (is_eq (nat_cmp (hash_of l) (hash_of other)))) [
    | inl same ↦ absurd (none_some j (sym none ∙ (ap (get nat_cmp m) (exact_unsigned (hash_of l) (hash_of other) (equal_by (nat_cmp (hash_of l) (hash_of other)) same)) ∙ first)))
    | inr apart ↦ inl (left (is_eq (nat_cmp (hash_of l) (hash_of other))) (Some i) (first_number m other) (first_number n other) (Some j) (gets.0 (hash_of other)) apart first)
  ]
  | inr late ↦ inr late
]

pub first_refused : (m n : Hashes) (q : Keys) (other : LabelParts) (j : ℕ) → IsUnchanged m n → HasNumber m q other j → HasNumber n q other j
first_refused m n q other j same has = elim has [
  | inl first ↦ inl (ap (λ es. lookup (is_at (nat_cmp (hash_of other))) es) same ∙ first)
  | inr late ↦ inr late
]

-- ---- by label

eq_then : (o p : Ordering) → is_eq (ordering_then o p) ≡ (is_eq o && is_eq p)
eq_then Less p = refl
eq_then Equal p = refl
eq_then Greater p = refl

and_assoc : (a b c : Bool) → ((a && b) && c) ≡ (a && (b && c))
and_assoc true b c = refl
and_assoc false b c = refl

both : (a b c d : Bool) → a ≡ b → c ≡ d → (a && c) ≡ (b && d)
both a b c d e f = rw (e, f) refl

-- labels that the order has equal are one
equal_same : (a b : LabelParts) → is_eq (label_cmp a b) ≡ same_label a b
unfolding same_label
equal_same a b =
    let n = slice_cmp nat_cmp a.name b.name in
    let p = slice_cmp nat_cmp a.package b.package in
    let r = slice_cmp nat_cmp a.repo b.repo in
    eq_then (ordering_then n p) r
    ∙ (both (is_eq (ordering_then n p)) (bytes_eq a.name b.name && bytes_eq a.package b.package) (is_eq r) (bytes_eq a.repo b.repo)
    (eq_then n p ∙ both (is_eq n) (bytes_eq a.name b.name) (is_eq p) (bytes_eq a.package b.package) (is_eq-slice_cmp a.name b.name) (is_eq-slice_cmp a.package b.package))
    (is_eq-slice_cmp a.repo b.repo)
    ∙ and_assoc (bytes_eq a.name b.name) (bytes_eq a.package b.package) (bytes_eq a.repo b.repo))

pub colliding_put : (p : Hashes) (m n : Keys) (l : LabelParts) (i : ℕ) → Updates label_cmp m n l (Some i) → HasNumber p n l i
colliding_put p m n l i gets = inr gets.1

pub others_colliding : (p : Hashes) (m n : Keys) (l other : LabelParts) (i j : ℕ) → Updates label_cmp m n l (Some i) → other ≢ l → HasNumber p m other j → HasNumber p n other j
others_colliding p m n l other i j gets apart has = elim has [
  | inl first ↦ inl first
  | inr late ↦ elim (cases_Bool (is_eq (label_cmp l other))) [
    | inl same ↦ absurd (apart (sym ((same_label-Decides l other).0 (sym (equal_same l other) ∙ same))))
    | inr differs ↦ inr (left (is_eq (label_cmp l other)) (Some i) (colliding_number m other) (colliding_number n other) (Some j) (gets.0 other) differs late)
  ]
]

pub colliding_refused : (p : Hashes) (m n : Keys) (other : LabelParts) (j : ℕ) → IsUnchanged m n → HasNumber p m other j → HasNumber p n other j
colliding_refused p m n other j same has = elim has [
  | inl first ↦ inl first
  | inr late ↦ inr (ap (λ es. lookup (is_at (label_cmp other)) es) same ∙ late)
]
