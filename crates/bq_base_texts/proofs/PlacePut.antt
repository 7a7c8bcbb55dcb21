-- What the maps of places have once the place of a name is put.
use Rattle.std.proofs.Common.{◌≡◌, ◌≢◌, ◌∙◌, ℕ, Bool, true, false, cond, List, Option, Some, None, Vec, bytes_eq, refl, sym, ap, inl, inr}
use Rattle.std.specs.BTreeMap.{BTreeMap, get, get_by, is_at, IsUnchanged, Updates}
use Rattle.std.specs.Cmp.Lexicographic.{slice_cmp}
use Rattle.std.specs.Map.{lookup}
use Rattle.std.specs.Ordering.{is_eq, nat_cmp}
use Rattle.std.specs.declared.alloc.Global.{Global}
use Rattle.std.specs.declared.cmp.Ordering.{Ordering}
use Rattle.std.specs.declared.cmp.Ordering.TheVariants.{Less, Equal, Greater}
use Rattle.std.proofs.lemmas.Bool.{cases_Bool}
use Rattle.std.proofs.lemmas.Map.Lookups.{exact_unsigned}
use Rattle.std.proofs.lemmas.Slice.Eq.{bytes_eq-Decides}
use Rattle.bq_base_texts.specs.Places.{hash_of, first_place, colliding_place, HasPlace}
use Rattle.bq_base_texts.proofs.Keys.{updated_place}
use Rattle.bq_base_texts.proofs.Positions.{true_false, none_some}

abbrev Hashes : Type 0
Hashes = BTreeMap ℕ ℕ

abbrev Keys : Type 0
Keys = BTreeMap (Vec ℕ Global) ℕ

abbrev key_cmp : Vec ℕ Global → Vec ℕ Global → Ordering
key_cmp x y = slice_cmp nat_cmp x.items y.items

-- ---- by hash

pub first_put : (m n : Hashes) (q : Keys) (name : List ℕ) (i : ℕ) → Updates nat_cmp m n (hash_of name) (Some i) → HasPlace n q name i
first_put m n q name i gets = inl gets.1

pub equal_by : (o : Ordering) → is_eq o ≡ true → o ≡ Equal
equal_by Less h = absurd (true_false (sym h))
equal_by Equal h = refl
equal_by Greater h = absurd (true_false (sym h))

pub left : {A : Type 0} (b : Bool) (x y z w : A) → z ≡ cond b x y → b ≡ false → y ≡ w → z ≡ w
left true x y z w e h g = absurd (true_false h)
left false x y z w e h g = e ∙ g

pub others_first : (m n : Hashes) (q : Keys) (name other : List ℕ) (i j : ℕ) → first_place m name ≡ None → Updates nat_cmp m n (hash_of name) (Some i) → HasPlace m q other j → HasPlace n q other j
others_first m n q name other i j none gets has = elim has [
  | inl first ↦ elim (cases_Bool (is_eq (nat_cmp (hash_of name) (hash_of other)))) [
    | inl same ↦ absurd (none_some j (sym none ∙ (ap (get nat_cmp m) (exact_unsigned (hash_of name) (hash_of other) (equal_by (nat_cmp (hash_of name) (hash_of other)) same)) ∙ first)))
    | inr apart ↦ inl (left (is_eq (nat_cmp (hash_of name) (hash_of other))) (Some i) (first_place m other) (first_place n other) (Some j) (gets.0 (hash_of other)) apart first)
  ]
  | inr late ↦ inr late
]

pub first_refused : (m n : Hashes) (q : Keys) (other : List ℕ) (j : ℕ) → IsUnchanged m n → HasPlace m q other j → HasPlace n q other j
first_refused m n q other j same has = elim has [
  | inl first ↦ inl (ap (λ es. lookup (is_at (nat_cmp (hash_of other))) es) same ∙ first)
  | inr late ↦ inr late
]

-- ---- by name

pub colliding_put : (p : Hashes) (m n : Keys) (name : List ℕ) (key : Vec ℕ Global) (i : ℕ) → key.items ≡ name → Updates key_cmp m n key (Some i) → HasPlace p n name i
colliding_put p m n name key i is gets = inr (ap (colliding_place n) (sym is) ∙ gets.1)

pub others_colliding : (p : Hashes) (m n : Keys) (name other : List ℕ) (key : Vec ℕ Global) (i j : ℕ) → key.items ≡ name → Updates key_cmp m n key (Some i) → other ≢ name → HasPlace p m other j → HasPlace p n other j
others_colliding p m n name other key i j is gets apart has = elim has [
  | inl first ↦ inl first
  | inr late ↦ elim (cases_Bool (bytes_eq key.items other)) [
    | inl same ↦ absurd (apart (sym ((bytes_eq-Decides key.items other).0 same) ∙ is))
    | inr differs ↦ inr (left (bytes_eq key.items other) (Some i) (colliding_place m other) (colliding_place n other) (Some j) (updated_place (λ k. k.items) key.items m n (Some i) gets other) differs late)
  ]
]

pub colliding_refused : (p : Hashes) (m n : Keys) (other : List ℕ) (j : ℕ) → IsUnchanged m n → HasPlace p m other j → HasPlace p n other j
colliding_refused p m n other j same has = elim has [
  | inl first ↦ inl first
  | inr late ↦ inr (ap (λ es. lookup (is_at (λ k. slice_cmp nat_cmp other k.items)) es) same ∙ late)
]
