-- A `glob` that gives nothing.
use Rattle.std.proofs.Common.{◌≡◌, ◌∙◌, ap, refl, ℕ, ◌⊎◌, inl, inr, Bool, true, false, List, [], ◌∷◌, Ok, Err, arith}
use Rattle.std.specs.Prelude.{◌||◌, if◌then◌else◌}
use Rattle.std.specs.List.{Contains, list_any}
use Rattle.bq_base.specs.declared.fault.EvalFault.{EvalFault}
use Rattle.bq_base.specs.declared.fault.EvalFault.TheVariants.{GlobEmpty}
use Rattle.bq_base.proofs.Choices.{by_bool}
use Rattle.bq_label.proofs.Orders.{at_head, in_tail, head_or_tail}
use Rattle.bq_package.specs.declared.glob.GlobRequest.{GlobRequest}
use Rattle.bq_package.specs.Glob.{is_nothing, names_of, is_idle, found}
use Rattle.bq_package.specs.Place.{PlaceView}
use Rattle.bq_eval_laws.specs.BuildFunctions.Nothing.{GivesNothing, idle, empty}

none_in : {X : Type 0} (z : X) → Contains [] z → ⊥
none_in z c = omega arith

nothing_is : (names : List (List ℕ)) → is_nothing names ≡ true → names ≡ []
nothing_is [] h = refl
nothing_is (n ∷ ns) h = absurd (cc)

any_idle : (p : PlaceView) (patterns : List (List ℕ)) (pattern : List ℕ) → Contains patterns pattern → names_of p (pattern ∷ []) [] ≡ [] → list_any (is_idle p) patterns ≡ true
any_idle p [] pattern c h = absurd (none_in pattern c)
any_idle p (q ∷ qs) pattern c h = elim (by_bool (is_idle p q)) [
  | inl t ↦ rw t refl
  | inr t ↦ rw t (elim (head_or_tail q qs pattern c) [
    | inl e ↦ let is : is_idle p q ≡ true = ap (is_idle p) e ∙ ap is_nothing h in absurd (cc)
    | inr later ↦ any_idle p qs pattern later h
  ])
]

record Idles (p : PlaceView) (patterns : List (List ℕ)) : Type 0 where
  pattern : List ℕ
  known : Contains patterns pattern
  none : names_of p (pattern ∷ []) [] ≡ []

idles : (p : PlaceView) (patterns : List (List ℕ)) → list_any (is_idle p) patterns ≡ true → Idles p patterns
idles p [] h = absurd (cc)
idles p (q ∷ qs) h = elim (by_bool (is_idle p q)) [
  | inl t ↦ record { pattern = q; known = at_head q qs; none = nothing_is (names_of p (q ∷ []) []) t }
  | inr t ↦
      let rest : list_any (is_idle p) qs ≡ true = rw t at h in
      let r = idles p qs rest in
      record { pattern = r.pattern; known = in_tail q qs r.pattern r.known; none = r.none }
]

either_true : (b c : Bool) → (b ≡ true) ⊎ (c ≡ true) → (b || c) ≡ true
either_true true c o = refl
either_true false c (inl e) = absurd (cc)
either_true false c (inr e) = e

true_of : (b c : Bool) → (b || c) ≡ true → (b ≡ true) ⊎ (c ≡ true)
true_of true c h = inl refl
true_of false c h = inr h

gives_nothing : (p : PlaceView) (r : GlobRequest) → GivesNothing p r → (list_any (is_idle p) r.include || is_nothing (names_of p r.include r.exclude)) ≡ true
gives_nothing p r (idle pattern c h) = either_true (list_any (is_idle p) r.include) (is_nothing (names_of p r.include r.exclude)) (inl (any_idle p r.include pattern c h))
gives_nothing p r (empty e) = either_true (list_any (is_idle p) r.include) (is_nothing (names_of p r.include r.exclude)) (inr (ap is_nothing e))

pub refused : (p : PlaceView) (r : GlobRequest) → r.allows_empty ≡ false → GivesNothing p r → found p r ≡ Err GlobEmpty
unfolding found
refused p r none h = let t = gives_nothing p r h in rw (none, t) refl

found_by : (allows nothing : Bool) (names : List (List ℕ)) (why : EvalFault) → (if allows then Ok names else (if nothing then Err GlobEmpty else Ok names)) ≡ Err why → (why ≡ GlobEmpty) × (allows ≡ false) × (nothing ≡ true)
found_by true nothing names why h = absurd (cc)
found_by false false names why h = absurd (cc)
found_by false true names why h = let is : why ≡ GlobEmpty = cc in (is, refl, refl)

pub only : (p : PlaceView) (r : GlobRequest) (why : EvalFault) → found p r ≡ Err why → (why ≡ GlobEmpty) × (r.allows_empty ≡ false) × GivesNothing p r
unfolding found
only p r why h =
    let f = found_by r.allows_empty (list_any (is_idle p) r.include || is_nothing (names_of p r.include r.exclude)) (names_of p r.include r.exclude) why h in (
      f.0,
      f.1,
      elim (true_of (list_any (is_idle p) r.include) (is_nothing (names_of p r.include r.exclude)) f.2) [
        | inl t ↦ let i = idles p r.include t in idle i.pattern i.known i.none
        | inr t ↦ empty (nothing_is (names_of p r.include r.exclude) t)
      ],
    )
