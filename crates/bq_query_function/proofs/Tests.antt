-- Tests of targets, as marks of those that pass.
use Rattle.std.proofs.Common.{◌≡◌, ◌∙◌, ◌+◌, ◌<◌, ◌≤◌, ℕ, zero, suc, Bool, true, false, List, [], ◌∷◌, ◌≢◌, ◌++◌, nat_le, nat_lt, slice_set, length, get_or, map, take, replicate, Some, slice_get, Result, Ok, Err, OnOk, refl, sym, ap, subst, arith, inl, inr}
use Rattle.std.specs.Prelude.{◌&&◌, ◌||◌}
use Rattle.std.specs.List.{list_any}
use Rattle.std.proofs.lemmas.Bool.{cases_eq, cases_lt}
use Rattle.std.proofs.lemmas.Bool.Decides.{nat_tests}
use Rattle.std.proofs.lemmas.List.{get_or_past, get_or_push, get_or_append_left, get_or-map, get_or-set_same, get_or-set_other}
use Rattle.bq_query_graph.specs.Marks.{IsSet, Marked}
use Rattle.bq_package_target.specs.declared.target.Target.{Target}
use Rattle.bq_query_function.specs.Words.{Those, Adds, Range}
use Rattle.bq_query_function.specs.Matching.{Chosen, Keeps}

-- which targets pass, as marks
abbrev pub passes : (Target → Bool) → List Target → ℕ → Bool
passes test targets y = get_or (map test targets) y false

pub passes_or : (h f g : Target → Bool) → ((t : Target) → h t ≡ (f t || g t)) → (targets : List Target) (y : ℕ) → passes h targets y ≡ (passes f targets y || passes g targets y)
passes_or h f g e [] y = refl
passes_or h f g e (t ∷ ts) zero = e t
passes_or h f g e (t ∷ ts) (suc y) = passes_or h f g e ts y

pub passes_and : (h f g : Target → Bool) → ((t : Target) → h t ≡ (f t && g t)) → (targets : List Target) (y : ℕ) → passes h targets y ≡ (passes f targets y && passes g targets y)
passes_and h f g e [] y = refl
passes_and h f g e (t ∷ ts) zero = e t
passes_and h f g e (t ∷ ts) (suc y) = passes_and h f g e ts y

pub passes_same : (f g : Target → Bool) → ((t : Target) → f t ≡ g t) → (targets : List Target) (y : ℕ) → passes f targets y ≡ passes g targets y
passes_same f g e [] y = refl
passes_same f g e (t ∷ ts) zero = e t
passes_same f g e (t ∷ ts) (suc y) = passes_same f g e ts y

-- the tests are the same of these targets
passes_where : (f g : Target → Bool) (targets : List Target) → ((y : ℕ) (t : Target) → slice_get targets y ≡ Some t → f t ≡ g t) → (y : ℕ) → passes f targets y ≡ passes g targets y
passes_where f g [] e y = refl
passes_where f g (t ∷ ts) e zero = e zero t refl
passes_where f g (t ∷ ts) e (suc y) = passes_where f g ts (λ k. e (suc k)) y

pub passes_none : (f : Target → Bool) → ((t : Target) → f t ≡ false) → (targets : List Target) (y : ℕ) → passes f targets y ≡ false
passes_none f e [] y = refl
passes_none f e (t ∷ ts) zero = e t
passes_none f e (t ∷ ts) (suc y) = passes_none f e ts y

or_assoc : (a b c : Bool) → ((a || b) || c) ≡ (a || (b || c))
or_assoc true b c = refl
or_assoc false b c = refl

or_false : (a : Bool) → a ≡ (a || false)
or_false true = refl
or_false false = refl

-- nothing is added
pub adds_none : (f : Target → Bool) (targets : List Target) (before after : List Bool) → ((t : Target) → f t ≡ false) → after ≡ before → Adds f targets before after
adds_none f targets before after none same =
    (ap length same, λ y. ap (λ (ms : List Bool). get_or ms y false) same ∙ (or_false (get_or before y false) ∙ ap (λ b. get_or before y false || b) (sym (passes_none f none targets y))))

-- the same test in other words
pub adds_as : (f g : Target → Bool) (targets : List Target) (before after : List Bool) → ((t : Target) → g t ≡ f t) → Adds f targets before after → Adds g targets before after
adds_as f g targets before after same adds =
    (adds.0, λ y. adds.1 y ∙ ap (λ b. get_or before y false || b) (sym (passes_same g f same targets y)))

pub adds_where : (f g : Target → Bool) (targets : List Target) (before after : List Bool) → ((y : ℕ) (t : Target) → slice_get targets y ≡ Some t → g t ≡ f t) → Adds f targets before after → Adds g targets before after
adds_where f g targets before after same adds =
    (adds.0, λ y. adds.1 y ∙ ap (λ b. get_or before y false || b) (sym (passes_where g f targets same y)))

-- one after another
pub adds_then : (h f g : Target → Bool) (targets : List Target) (before middle after : List Bool) → ((t : Target) → h t ≡ (f t || g t)) → Adds f targets before middle → Adds g targets middle after → Adds h targets before after
adds_then h f g targets before middle after both first second =
    (second.0 ∙ first.0, λ y. second.1 y ∙ (ap (λ b. b || passes g targets y) (first.1 y) ∙ (or_assoc (get_or before y false) (passes f targets y) (passes g targets y) ∙ ap (λ b. get_or before y false || b) (sym (passes_or h f g both targets y)))))

any_more : {X : Type 0} (test : X → Bool) (xs : List X) (x : X) → list_any test (xs ++ x ∷ []) ≡ (list_any test xs || test x)
any_more test [] x = sym (or_false (test x)) ∙ refl
any_more test (y ∷ ys) x = ap (λ b. test y || b) (any_more test ys x) ∙ sym (or_assoc (test y) (list_any test ys) (test x))

-- one more of a list of tests
pub adds_next : {X : Type 0} (test : X → Target → Bool) (xs : List X) (i : ℕ) (x : X) (targets : List Target) (before middle after : List Bool) → take (i + 1) xs ≡ take i xs ++ x ∷ []
    → Adds (λ t. list_any (λ w. test w t) (take i xs)) targets before middle → Adds (test x) targets middle after → Adds (λ t. list_any (λ w. test w t) (take (i + 1) xs)) targets before after
adds_next test xs i x targets before middle after more first second =
    adds_then (λ t. list_any (λ w. test w t) (take (i + 1) xs)) (λ t. list_any (λ w. test w t) (take i xs)) (test x) targets before middle after
    (λ t. ap (list_any (λ w. test w t)) more ∙ any_more (λ w. test w t) (take i xs) x) first second

pub none_marked : (n y : ℕ) → get_or (replicate n false) y false ≡ false
none_marked zero y = refl
none_marked (suc n) zero = refl
none_marked (suc n) (suc y) = none_marked n y

pub length_none : (n : ℕ) → length (replicate n false) ≡ n
length_none zero = refl
length_none (suc n) = ap suc (length_none n)

decided : (a b : Bool) → a ≡ b → (a ≡ true → b ≡ true) × (b ≡ true → a ≡ true)
decided a b e = (λ h. sym e ∙ h, λ h. e ∙ h)

-- what is added to no target is the set
pub set_from_none : (f : Target → Bool) (targets : List Target) (before after : List Bool) → before ≡ replicate (length targets) false → length before ≡ length targets → Adds f targets before after → IsSet (length targets) after (Those f targets)
set_from_none f targets before after none long adds =
    (adds.0 ∙ long, λ y. decided (get_or after y false) (passes f targets y) (adds.1 y ∙ ap (λ b. b || passes f targets y) (ap (λ (ms : List Bool). get_or ms y false) none ∙ none_marked (length targets) y)))

or_true : (a : Bool) → true ≡ (a || true)
or_true true = refl
or_true false = refl

here_by : (from at : ℕ) (p : Bool) → from ≤ at → p ≡ true → true ≡ (nat_le from at && (nat_lt at (at + 1) && p))
here_by from at p h e = rw e (grind (arith, nat_tests))

other_by : (from at y : ℕ) (p : Bool) → y ≢ at → (nat_le from y && (nat_lt y at && p)) ≡ (nat_le from y && (nat_lt y (at + 1) && p))
other_by from at y p n = grind (arith, nat_tests)

skip_by : (from at y : ℕ) (p : Bool) → (y ≡ at → p ≡ false) → (nat_le from y && (nat_lt y at && p)) ≡ (nat_le from y && (nat_lt y (at + 1) && p))
skip_by from at y p out = elim (cases_eq y at) [
  | inl same ↦ let none : p ≡ false = out same in rw none (grind (arith, nat_tests))
  | inr other ↦ other_by from at y p other
]

none_by : (from y : ℕ) (p : Bool) → false ≡ (nat_le from y && (nat_lt y from && p))
none_by from y p = grind (arith, nat_tests)

pub range_none : (test : Target → Bool) (targets : List Target) (from : ℕ) (before : List Bool) → Range test targets from from before before
range_none test targets from before y = or_false (get_or before y false) ∙ ap (λ b. get_or before y false || b) (none_by from y (passes test targets y))

pub range_take : (test : Target → Bool) (targets : List Target) (from at : ℕ) (before marks : List Bool) → from ≤ at → at < length marks → passes test targets at ≡ true
    → Range test targets from at before marks → Range test targets from (at + 1) before (slice_set marks at true)
range_take test targets from at before marks h inside in_test range y = elim (cases_eq y at) [
  | inl same ↦ subst (λ (k : ℕ). get_or (slice_set marks at true) k false ≡ (get_or before k false || (nat_le from k && (nat_lt k (at + 1) && passes test targets k)))) (sym same)
      (get_or-set_same marks at true false inside ∙ (or_true (get_or before at false) ∙ ap (λ b. get_or before at false || b) (here_by from at (passes test targets at) h in_test)))
  | inr other ↦ get_or-set_other marks at y true false other ∙ (range y ∙ ap (λ b. get_or before y false || b) (other_by from at y (passes test targets y) other))
]

pub range_skip : (test : Target → Bool) (targets : List Target) (from at : ℕ) (before marks : List Bool) → passes test targets at ≡ false
    → Range test targets from at before marks → Range test targets from (at + 1) before marks
range_skip test targets from at before marks out range y =
    range y ∙ ap (λ b. get_or before y false || b) (skip_by from at y (passes test targets y) (λ same. ap (passes test targets) same ∙ out))

abbrev pub Each : (Target → Bool) → List Target → List Bool → ℕ → List Bool → Type 0
Each test targets x at found = (k : ℕ) → k < at → get_or found k false ≡ (get_or x k false && passes test targets k)

-- one target more is tested
pub kept_more : (test : Target → Bool) (targets : List Target) (x found : List Bool) (at : ℕ) (b : Bool) → length found ≡ at → Each test targets x at found
    → b ≡ (get_or x at false && passes test targets at) → Each test targets x (at + 1) (found ++ b ∷ [])
kept_more test targets x found at b long each new k h = elim (cases_eq k at) [
  | inl same ↦ subst (λ (j : ℕ). get_or (found ++ b ∷ []) j false ≡ (get_or x j false && passes test targets j)) (sym same) (get_or_push found b false at long ∙ new)
  | inr other ↦ get_or_append_left found (b ∷ []) false k (omega (arith, other)) ∙ each k (omega (arith, other))
]

length_tests : (f : Target → Bool) (ts : List Target) → length (map f ts) ≡ length ts
length_tests f [] = refl
length_tests f (t ∷ ts) = ap suc (length_tests f ts)

and_false : (a : Bool) → false ≡ (a && false)
and_false true = refl
and_false false = refl

-- all are tested
pub kept_all : (test : Target → Bool) (targets : List Target) (x found : List Bool) → length found ≡ length targets → Each test targets x (length targets) found → Keeps test targets x found
kept_all test targets x found long each = (
  long,
  λ y. elim (cases_lt y (length targets)) [
    | inl h ↦ each y h
    | inr past ↦ get_or_past found y false (omega (arith, long)) ∙ (and_false (get_or x y false) ∙ ap (λ b. get_or x y false && b) (sym (get_or_past (map test targets) y false (omega (arith, length_tests test targets)))))
  ],
)

pub passes_at : (test : Target → Bool) (targets : List Target) (at : ℕ) (t : Target) → at < length targets → t ≡ get_or targets at t → passes test targets at ≡ test t
passes_at test targets at t h e = get_or-map test targets at t false h ∙ ap test (sym e)

both_true : (a b c : Bool) → a ≡ (b && c) → (a ≡ true → (b ≡ true) × (c ≡ true)) × ((b ≡ true) × (c ≡ true) → a ≡ true)
both_true a true c e = (λ h. (refl, sym e ∙ h), λ p. e ∙ p.1)
both_true a false c e = (λ h. absurd (cc (h, e)), λ p. absurd (cc p.0))

pub set_from_kept : (f : Target → Bool) (targets : List Target) (x kept : List Bool) → Keeps f targets x kept → IsSet (length targets) kept (Chosen f targets (Marked x))
set_from_kept f targets x kept keeps = (keeps.0, λ y. both_true (get_or kept y false) (get_or x y false) (passes f targets y) (keeps.1 y))

-- what holds of a call that succeeds
pub on_ok : {T E : Type 0} (r : Result T E) (P Q : Type 0) → (P → Q) → OnOk r P → OnOk r Q
on_ok (Ok x) P Q f h = f h
on_ok (Err e) P Q f h = tt
