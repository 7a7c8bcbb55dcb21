-- The targets whose labels begin alike stand together.
use Rattle.std.proofs.Common.{◌≡◌, ◌∙◌, ◌+◌, ◌<◌, ◌≤◌, ◌⊎◌, ℕ, suc, Bool, true, false, List, [], ◌∷◌, ◌++◌, length, get_or, map, nat_le, nat_lt, Some, slice_get, refl, sym, ap, subst, arith, inl, inr}
use Rattle.std.specs.Prelude.{◌&&◌, ◌||◌, not, nat_eq}
use Rattle.std.specs.List.{starts_with}
use Rattle.std.proofs.lemmas.Bool.{and_parts, cases_eq, cases_lt, false≢true, leb-true, ltb-true}
use Rattle.std.proofs.lemmas.Option.{get_or_from_slice_get, slice_get_within}
use Rattle.std.proofs.lemmas.Bool.Decides.{nat_tests}
use Rattle.std.proofs.lemmas.List.{get_or-map, get_or_past}
use Rattle.std.specs.Ordering.{nat_cmp, ordering_then}
use Rattle.std.specs.Cmp.Lexicographic.{slice_cmp}
use Rattle.std.specs.declared.cmp.Ordering.TheVariants.{Less, Equal}
use Rattle.bq_label.specs.Label.{PackageParts, IsLabel, IsPackage}
use Rattle.bq_package_target.specs.declared.target.Target.{Target}
use Rattle.bq_query_function.specs.Order.{texts_of, is_below, IsPlaceOf}
use Rattle.bq_query_function.specs.Words.{Adds, Range, names}
use Rattle.bq_query_function.specs.Beginnings.{AddsValid, AreValid, Beginning, begins, own, beneath, is_wanted, names_in, pattern_at}
use Rattle.bq_query_function.proofs.Cuts.{begins_between, front_alike}
use Rattle.bq_query_function.proofs.Ranks.{no_one, text_at, text_is, below_less}
use Rattle.bq_query_function.proofs.Packages.{same_named}
use Rattle.bq_query_function.proofs.Tests.{passes, passes_and, passes_at, adds_where, adds_then}

before_is : (targets : List Target) (text : List ℕ) (at y : ℕ) → IsPlaceOf (texts_of targets) text at → length (texts_of targets) ≡ length targets → y < length targets → is_below (text_at targets y) text ≡ nat_lt y at
before_is targets text at y place long h = elim (cases_lt y at) [
  | inl early ↦ let e : nat_lt y at ≡ true = grind (arith, nat_tests) in place.before y early ∙ sym e
  | inr late ↦ let e : nat_lt y at ≡ false = grind (arith, nat_tests) in place.after y late (omega (arith, long, h)) ∙ sym e
]

length_texts : (targets : List Target) → length (texts_of targets) ≡ length targets
length_texts [] = refl
length_texts (t ∷ ts) = ap suc (length_texts ts)

within_by : (a b : Bool) (from to y : ℕ) → a ≡ nat_lt y from → b ≡ nat_lt y to → (not a && b) ≡ (nat_le from y && nat_lt y to)
within_by a b from to y e f = rw (e, f) (grind (arith, nat_tests))

-- those that begin so are those from one place to another
begins_at : (targets : List Target) (b : Beginning) (from to : ℕ) → IsPlaceOf (texts_of targets) (b.0 ++ b.1 ∷ []) from → IsPlaceOf (texts_of targets) (b.0 ++ (b.1 + 1) ∷ []) to
    → (y : ℕ) → y < length targets → passes (begins b) targets y ≡ (nat_le from y && nat_lt y to)
unfolding begins
begins_at targets b from to low high y h =
    get_or-map (begins b) targets y no_one false h
    ∙ (ap (λ (s : List ℕ). starts_with nat_eq s (b.0 ++ b.1 ∷ [])) (sym (text_is targets y h))
    ∙ (begins_between b.0 b.1 (text_at targets y)
    ∙ within_by (is_below (text_at targets y) (b.0 ++ b.1 ∷ [])) (is_below (text_at targets y) (b.0 ++ (b.1 + 1) ∷ [])) from to y
    (before_is targets (b.0 ++ b.1 ∷ []) from y low (length_texts targets) h)
    (before_is targets (b.0 ++ (b.1 + 1) ∷ []) to y high (length_texts targets) h)))

less_more : (n : ℕ) → nat_cmp n (n + 1) ≡ Less
less_more n = grind (arith, nat_tests)

next_less : (start : List ℕ) (c : ℕ) → slice_cmp nat_cmp (start ++ c ∷ []) (start ++ (c + 1) ∷ []) ≡ Less
next_less start c = front_alike start (c ∷ []) ((c + 1) ∷ []) ∙ ap (λ o. ordering_then o Equal) (less_more c)

-- they are in order
pub places_in_order : (targets : List Target) (start : List ℕ) (c from to : ℕ) → IsPlaceOf (texts_of targets) (start ++ c ∷ []) from → IsPlaceOf (texts_of targets) (start ++ (c + 1) ∷ []) to → from ≤ to
places_in_order targets start c from to low high = elim (cases_lt to from) [
  | inl early ↦ absurd (false≢true (sym (high.after to (omega arith) (omega (arith, low.within))) ∙ below_less (text_at targets to) (start ++ c ∷ []) (start ++ (c + 1) ∷ []) (low.before to early) (next_less start c)))
  | inr late ↦ late
]

length_map : {X Y : Type 0} (f : X → Y) (xs : List X) → length (map f xs) ≡ length xs
length_map f [] = refl
length_map f (x ∷ xs) = ap suc (length_map f xs)

past_by : (a : Bool) (to y : ℕ) → to ≤ y → (a && nat_lt y to) ≡ false
past_by a to y h = grind (arith, nat_tests)

begins_past : (targets : List Target) (b : Beginning) (from to y : ℕ) → to ≤ length targets → length targets ≤ y → passes (begins b) targets y ≡ (nat_le from y && nat_lt y to)
begins_past targets b from to y within past =
    get_or_past (map (begins b) targets) y false (omega (arith, length_map (begins b) targets)) ∙ sym (past_by (nat_le from y) to y (omega arith))

and_assoc : (a b c : Bool) → (a && (b && c)) ≡ ((a && b) && c)
and_assoc true b c = refl
and_assoc false b c = refl

-- a range of places is added
pub adds_range : (targets : List Target) (b : Beginning) (rules : Bool) (from to : ℕ) (before after : List Bool)
    → IsPlaceOf (texts_of targets) (b.0 ++ b.1 ∷ []) from → IsPlaceOf (texts_of targets) (b.0 ++ (b.1 + 1) ∷ []) to → length after ≡ length before
    → Range (is_wanted rules) targets from to before after
    → Adds (λ t. begins b t && is_wanted rules t) targets before after
adds_range targets b rules from to before after low high long each =
    let within : to ≤ length targets = omega (arith, high.within, length_texts targets) in
    let same : (y : ℕ) → passes (begins b) targets y ≡ (nat_le from y && nat_lt y to) = λ y. elim (cases_lt y (length targets)) [
      | inl h ↦ begins_at targets b from to low high y h
      | inr past ↦ begins_past targets b from to y within past
    ] in (
      long,
      λ y. each y ∙ ap (λ c. get_or before y false || c)
          (and_assoc (nat_le from y) (nat_lt y to) (passes (is_wanted rules) targets y)
          ∙ (ap (λ c. c && passes (is_wanted rules) targets y) (sym (same y)) ∙ sym (passes_and (λ t. begins b t && is_wanted rules t) (begins b) (is_wanted rules) (λ t. refl) targets y))),
    )

shallow_by : (a b w : Bool) → ((a || (false && b)) && w) ≡ (a && w)
shallow_by true b w = refl
shallow_by false b w = refl

deep_by : (a b w : Bool) → ((a || (true && b)) && w) ≡ ((a && w) || (b && w))
deep_by true true true = refl
deep_by true true false = refl
deep_by true false true = refl
deep_by true false false = refl
deep_by false b w = refl

-- ---- valid labels, one target after another

pub valid_none : (test : Target → Bool) (targets : List Target) (from : ℕ) → AreValid test targets from from
valid_none test targets from y t low high at h = absurd (omega (arith, low, high))

pub valid_skip : (test : Target → Bool) (targets : List Target) (from at : ℕ) → passes test targets at ≡ false → AreValid test targets from at → AreValid test targets from (at + 1)
valid_skip test targets from at out valid y t low high is h = elim (cases_eq y at) [
  | inl same ↦
      let inside : y < length targets = slice_get_within targets y t is in
      let passed : passes test targets y ≡ true = passes_at test targets y t inside (sym (get_or_from_slice_get targets y t t is)) ∙ h in
      absurd (false≢true (sym out ∙ (ap (passes test targets) (sym same) ∙ passed)))
  | inr other ↦ valid y t low (omega (arith, high, other)) is h
]

pub valid_take : (test : Target → Bool) (targets : List Target) (from at : ℕ) (u : Target) → at < length targets → u ≡ get_or targets at u → IsLabel u.label
    → AreValid test targets from at → AreValid test targets from (at + 1)
valid_take test targets from at u inside read label valid y t low high is h = elim (cases_eq y at) [
  | inl same ↦
      let there : get_or targets at u ≡ t = get_or_from_slice_get targets at t u (ap (slice_get targets) (sym same) ∙ is) in
      subst (λ (v : Target). IsLabel v.label) (read ∙ there) label
  | inr other ↦ valid y t low (omega (arith, high, other)) is h
]

-- each of them that is wanted has a valid label, where that is so of the range
pub range_valid : (targets : List Target) (b : Beginning) (rules : Bool) (from to : ℕ)
    → IsPlaceOf (texts_of targets) (b.0 ++ b.1 ∷ []) from → IsPlaceOf (texts_of targets) (b.0 ++ (b.1 + 1) ∷ []) to → AreValid (is_wanted rules) targets from to
    → (y : ℕ) (t : Target) → slice_get targets y ≡ Some t → (begins b t && is_wanted rules t) ≡ true → IsLabel t.label
range_valid targets b rules from to low high valid y t at h =
    let inside : y < length targets = slice_get_within targets y t at in
    let is : t ≡ get_or targets y t = sym (get_or_from_slice_get targets y t t at) in
    let both = and_parts (begins b t) (is_wanted rules t) h in
    let range : (nat_le from y && nat_lt y to) ≡ true = sym (begins_at targets b from to low high y inside) ∙ (passes_at (begins b) targets y t inside is ∙ both.0) in
    let ends = and_parts (nat_le from y) (nat_lt y to) range in
    valid y t (leb-true from y ends.0) (ltb-true y to ends.1) at both.1

-- ---- the targets of a package, and those beneath it

either_valid : (a b w : Bool) → ((a || b) && w) ≡ true → ((a && w) ≡ true) ⊎ ((b && w) ≡ true)
either_valid true b w h = inl h
either_valid false b w h = inr h

pub named_shallow : (targets : List Target) (rules : Bool) (p : PackageParts) (before after : List Bool) → IsPackage p → AddsValid (λ t. begins (own p) t && is_wanted rules t) targets before after
    → Adds (names (pattern_at false rules p)) targets before after
named_shallow targets rules p before after valid adds =
    let test : Target → Bool = λ t. begins (own p) t && is_wanted rules t in
    let shallow : (t : Target) → names_in false rules p t ≡ test t = λ t. shallow_by (begins (own p) t) (begins (beneath p) t) (is_wanted rules t) in
    adds_where test (names (pattern_at false rules p)) targets before after
    (λ y t at. same_named false rules p t valid (λ h. adds.valid y t at (sym (shallow t) ∙ h)) ∙ shallow t) adds.adds

pub named_deep : (targets : List Target) (rules : Bool) (p : PackageParts) (before middle after : List Bool) → IsPackage p → AddsValid (λ t. begins (own p) t && is_wanted rules t) targets before middle
    → AddsValid (λ t. begins (beneath p) t && is_wanted rules t) targets middle after → Adds (names (pattern_at true rules p)) targets before after
named_deep targets rules p before middle after valid first second =
    adds_where (names_in true rules p) (names (pattern_at true rules p)) targets before after
    (λ y t at. same_named true rules p t valid (λ h. elim (either_valid (begins (own p) t) (begins (beneath p) t) (is_wanted rules t) h) [ inl k ↦ first.valid y t at k | inr k ↦ second.valid y t at k ]))
    (adds_then (names_in true rules p) (λ t. begins (own p) t && is_wanted rules t) (λ t. begins (beneath p) t && is_wanted rules t) targets before middle after
    (λ t. deep_by (begins (own p) t) (begins (beneath p) t) (is_wanted rules t)) first.adds second.adds)
