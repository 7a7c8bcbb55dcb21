-- The targets to which those of a set are related, one target of the set after another.
use Rattle.std.proofs.Common.{◌≡◌, ◌∙◌, ◌+◌, ◌<◌, ℕ, zero, suc, Bool, true, false, List, [], ◌∷◌, length, get_or, replicate, Some, slice_get, refl, sym, ap, subst, arith, inl, inr}
use Rattle.std.specs.Prelude.{◌||◌}
use Rattle.std.specs.Option.{IsSomeAnd}
use Rattle.std.proofs.lemmas.Bool.{cases_eq, false≢true}
use Rattle.std.proofs.lemmas.Option.{slice_get-get_or}
use Rattle.bq_query_graph.specs.Marks.{IsSet, Marked}
use Rattle.bq_package_target.specs.declared.target.Target.{Target}
use Rattle.bq_query_function.specs.Words.{Those, Adds}
use Rattle.bq_query_function.specs.Labels.{Related}
use Rattle.bq_query_function.proofs.Ranks.{no_one}
use Rattle.bq_query_function.proofs.Tests.{passes, none_marked, length_none}

-- the targets to which those before a place are related
pub record RelatedBelow (at : ℕ) (names : Target → Target → Bool) (targets : List Target) (X : ℕ → Type 0) (y : ℕ) : Type 0 where
  pub by : ℕ
  pub early : by < at
  pub member : X by
  pub named : IsSomeAnd (slice_get targets by) (λ t. Those (names t) targets y)

-- none before the first
pub none_below : (names : Target → Target → Bool) (targets : List Target) (X : ℕ → Type 0) (marks : List Bool) → marks ≡ replicate (length targets) false → IsSet (length targets) marks (RelatedBelow 0 names targets X)
none_below names targets X marks e =
    let none : (y : ℕ) → get_or marks y false ≡ false = λ y. ap (λ (ms : List Bool). get_or ms y false) e ∙ none_marked (length targets) y in
    (ap length e ∙ length_none (length targets), λ y. (λ h. absurd (false≢true (sym (none y) ∙ h)), λ l. absurd (omega (arith, l.early))))

-- one that is not of the set
pub skip_one : (at : ℕ) (names : Target → Target → Bool) (targets : List Target) (x marks : List Bool) → get_or x at false ≡ false → IsSet (length targets) marks (RelatedBelow at names targets (Marked x))
    → IsSet (length targets) marks (RelatedBelow (at + 1) names targets (Marked x))
skip_one at names targets x marks out s = (
  s.0,
  λ y. (
    λ h. let l = (s.1 y).0 h in record { by = l.by; early = omega (arith, l.early); member = l.member; named = l.named },
    λ l. elim (cases_eq l.by at) [
      | inl same ↦ absurd (false≢true (sym out ∙ subst (λ (k : ℕ). Marked x k) same l.member))
      | inr other ↦ (s.1 y).1 (record { by = l.by; early = omega (arith, l.early, other); member = l.member; named = l.named })
    ],
  ),
)

or_cases : (a b c : Bool) → a ≡ (b || c) → (b ≡ true → a ≡ true) × (c ≡ true → a ≡ true)
or_cases a true c e = (λ h. e, λ h. e)
or_cases a false c e = (λ h. absurd (false≢true h), λ h. e ∙ h)

either : (a b c : Bool) (P : Type 0) → a ≡ (b || c) → a ≡ true → (b ≡ true → P) → (c ≡ true → P) → P
either a true c P e h f g = f refl
either a false c P e h f g = g (sym e ∙ h)

-- one that is
pub take_one : (at : ℕ) (names : Target → Target → Bool) (targets : List Target) (x before after : List Bool) → at < length targets → get_or x at false ≡ true → IsSet (length targets) before (RelatedBelow at names targets (Marked x))
    → Adds (names (get_or targets at no_one)) targets before after → IsSet (length targets) after (RelatedBelow (at + 1) names targets (Marked x))
take_one at names targets x before after inside in_set s adds =
    let t = get_or targets at no_one in
    let found : slice_get targets at ≡ Some t = slice_get-get_or targets at no_one inside in
    let Named : ℕ → ℕ → Type 0 = λ k y. IsSomeAnd (slice_get targets k) (λ u. Those (names u) targets y) in (
      adds.0 ∙ s.0,
      λ y. (
        λ h. either (get_or after y false) (get_or before y false) (passes (names t) targets y) (RelatedBelow (at + 1) names targets (Marked x) y) (adds.1 y) h
            (λ b. let l = (s.1 y).0 b in record { by = l.by; early = omega (arith, l.early); member = l.member; named = l.named })
            (λ p. record { by = at; early = omega arith; member = in_set; named = rw found p }),
        λ l. elim (cases_eq l.by at) [
          | inl same ↦ (or_cases (get_or after y false) (get_or before y false) (passes (names t) targets y) (adds.1 y)).1
              (rw found at (subst (λ (k : ℕ). Named k y) same l.named))
          | inr other ↦ (or_cases (get_or after y false) (get_or before y false) (passes (names t) targets y) (adds.1 y)).0
              ((s.1 y).1 (record { by = l.by; early = omega (arith, l.early, other); member = l.member; named = l.named }))
        ],
      ),
    )

past_end : (targets : List Target) (k : ℕ) (P : Target → Type 0) → IsSomeAnd (slice_get targets k) P → k < length targets
past_end [] k P h = absurd h
past_end (t ∷ ts) zero P h = omega arith
past_end (t ∷ ts) (suc k) P h = let l : k < length ts = past_end ts k P h in omega arith

-- all of them
pub all_related : (names : Target → Target → Bool) (targets : List Target) (x marks : List Bool) → length x ≡ length targets → IsSet (length targets) marks (RelatedBelow (length targets) names targets (Marked x))
    → IsSet (length targets) marks (Related names targets (Marked x))
all_related names targets x marks long s = (
  s.0,
  λ y. (
    λ h. let l = (s.1 y).0 h in (l.by, l.member, l.named),
    λ l. (s.1 y).1 (record { by = l.0; early = past_end targets l.0 (λ t. Those (names t) targets y) l.2; member = l.1; named = l.2 }),
  ),
)
