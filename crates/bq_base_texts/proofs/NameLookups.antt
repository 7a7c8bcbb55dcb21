-- What a look-up of a name answers, and that the names that are added are found.
use Rattle.std.proofs.Common.{◌≡◌, ◌≢◌, ◌∙◌, ◌⊎◌, ℕ, Bool, true, false, List, [], ◌∷◌, ◌++◌, length, take, Option, Some, None, Vec, is_some, slice_get, position, bytes_eq, refl, sym, ap, subst, inl, inr, arith}
use Rattle.std.specs.Prelude.{IfSome, IfNone}
use Rattle.std.specs.BTreeMap.{BTreeMap}
use Rattle.std.specs.declared.alloc.Global.{Global}
use Rattle.std.proofs.lemmas.Slice.Eq.{bytes_eq-Decides}
use Rattle.bq_base_texts.specs.NameSet.{has}
use Rattle.bq_base_texts.specs.Places.{first_place, colliding_place, HasPlace, ArePlaced, AreCandidates, Lacks}
use Rattle.bq_base_texts.proofs.Positions.{true_false, some_is, none_some, pushed_cases, taken_at, position_at, position_nowhere, absent_at, one_more_differs, has_place as has_any}

abbrev Name : Type 0
Name = List ℕ

abbrev Names : Type 0
Names = List Name

abbrev Hashes : Type 0
Hashes = BTreeMap ℕ ℕ

abbrev Keys : Type 0
Keys = BTreeMap (Vec ℕ Global) ℕ

pub nothing_placed : (p : Hashes) (q : Keys) → ArePlaced [] p q
nothing_placed p q = record { differ = λ i j name a b. absurd (none_some name a); placed = λ i name a. absurd (none_some name a) }

-- ---- a place, and the name there

pub no_place : (names : Names) (o : Option ℕ) (name : Name) → o ≡ None → Lacks names o name
no_place names o name none i h at = none_some i (sym none ∙ h)

pub past : (names : Names) (o : Option ℕ) (name : Name) (p : ℕ) → o ≡ Some p → slice_get names p ≡ None → Lacks names o name
past names o name p is none i h at = none_some name (sym none ∙ (ap (slice_get names) (some_is p i (sym is ∙ h)) ∙ at))

pub other_there : (names : Names) (o : Option ℕ) (name other : Name) (p : ℕ) → o ≡ Some p → slice_get names p ≡ Some other → bytes_eq other name ≡ false → Lacks names o name
other_there names o name other p is there differs i h at =
    let e : p ≡ i = some_is p i (sym is ∙ h) in
    let same : other ≡ name = some_is other name (sym there ∙ (ap (slice_get names) e ∙ at)) in
    true_false (sym ((bytes_eq-Decides other name).1 same) ∙ differs)

pub same_there : (names : Names) (name other : Name) (p : ℕ) → slice_get names p ≡ Some other → bytes_eq other name ≡ true → slice_get names p ≡ Some name
same_there names name other p there same = there ∙ ap Some ((bytes_eq-Decides other name).0 same)

-- ---- the place of a name

pub none_of_none : (names : Names) (name : Name) → length names ≡ 0 → position (bytes_eq name) names ≡ None
none_of_none [] name h = refl
none_of_none (n ∷ ns) name h = absurd (omega (arith, h))

pub at_place : (names : Names) (name : Name) (first late : Option ℕ) (i : ℕ) → AreCandidates names name first late → slice_get names i ≡ Some name → position (bytes_eq name) names ≡ Some i
at_place names name first late i are at = position_at bytes_eq bytes_eq-Decides names name i are.0 at

nowhere : (names : Names) (name : Name) (first late : Option ℕ) → AreCandidates names name first late → Lacks names first name → Lacks names late name → position (bytes_eq name) names ≡ None
nowhere names name first late are one other =
    position_nowhere bytes_eq bytes_eq-Decides names name
    (λ i at.
    elim (are.1 i at) [
      | inl h ↦ one i h at
      | inr h ↦ other i h at
    ])

-- what a second look-up answers, where the first finds nothing
pub late_place : (names : Names) (name : Name) (first late o : Option ℕ) → AreCandidates names name first late → Lacks names first name → IfSome o (λ i. (late ≡ Some i) × (slice_get names i ≡ Some name)) → IfNone o (Lacks names late name) → o ≡ position (bytes_eq name) names
late_place names name first late None are none there nothing = sym (nowhere names name first late are none nothing)
late_place names name first late (Some i) are none there nothing = sym (at_place names name first late i are there.1)

-- the places that maps have for a name
pub candidates : (names : Names) (p : Hashes) (q : Keys) (name : Name) (first : Option ℕ) → ArePlaced names p q → first ≡ first_place p name → AreCandidates names name first (colliding_place q name)
candidates names p q name first are is = (
  are.differ,
  λ i at.
      elim (are.placed i name at) [
        | inl h ↦ inl (is ∙ h)
        | inr h ↦ inr h
      ],
)

-- ---- more names, and fewer

pub has_place : (names : Names) (name : Name) → is_some (position (bytes_eq name) names) ≡ has names name
has_place names name = has_any (bytes_eq name) names name

abbrev KeepOthers : Hashes → Keys → Hashes → Keys → Name → Type 0
KeepOthers p q p' q' name = (other : Name) (i : ℕ) → other ≢ name → HasPlace p q other i → HasPlace p' q' other i

pub still_placed : (names : Names) (p p' : Hashes) (q q' : Keys) (name : Name) → ArePlaced names p q → has names name ≡ false → KeepOthers p q p' q' name → ArePlaced names p' q'
still_placed names p p' q q' name are new keep =
    record {
      differ = are.differ;
      placed = λ i other at. keep other i (λ e. absent_at bytes_eq bytes_eq-Decides names name i new (at ∙ ap Some e)) (are.placed i other at);
    }

-- where all names keep their places
pub all_placed : (names : Names) (p p' : Hashes) (q q' : Keys) → ArePlaced names p q → ((other : Name) (i : ℕ) → HasPlace p q other i → HasPlace p' q' other i) → ArePlaced names p' q'
all_placed names p p' q q' are keep = record { differ = are.differ; placed = λ i other at. keep other i (are.placed i other at) }

pub one_more : (names : Names) (p : Hashes) (q : Keys) (name : Name) → ArePlaced names p q → has names name ≡ false → HasPlace p q name (length names) → ArePlaced (names ++ name ∷ []) p q
one_more names p q name are new last =
    record {
      differ = one_more_differs bytes_eq bytes_eq-Decides names name are.differ new;
      placed = λ i other at.
          elim (pushed_cases names name other i at) [
            | inl old ↦ are.placed i other old
            | inr this ↦ subst (λ (k : ℕ). HasPlace p q other k) (sym this.0) (subst (λ (z : Name). HasPlace p q z (length names)) this.1 last)
          ];
    }

pub fewer : (names : Names) (p : Hashes) (q : Keys) (n : ℕ) → ArePlaced names p q → ArePlaced (take n names) p q
fewer names p q n are =
    record {
      differ = λ i j name a b. are.differ i j name (taken_at n names i name a) (taken_at n names j name b);
      placed = λ i name at. are.placed i name (taken_at n names i name at);
    }
