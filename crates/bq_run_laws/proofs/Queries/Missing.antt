-- The fault of a query is that of the first of its patterns of which something is missing.
use Rattle.std.proofs.Common.{◌≡◌, ◌∙◌, Bool, true, false, List, [], ◌∷◌, ◌++◌, Option, Some, None, cond, if◌then◌else◌, is_some, inl, inr, refl, sym, ap, subst}
use Rattle.std.specs.List.{Contains, find}
use Rattle.std.specs.Option.{option_or}
use Rattle.std.proofs.lemmas.Bool.{false≢true}
use Rattle.std.proofs.lemmas.Slice.Eq.{bytes_eq-Decides}
use Rattle.bq_label.specs.Label.{LabelParts, PackageParts, package_at, package_of, full_form}
use Rattle.bq_label.proofs.Above.{equal_bytes, same_bytes}
use Rattle.bq_label.proofs.Orders.{at_head, in_tail, head_or_tail}
use Rattle.bq_label.proofs.Readings.{first_of_two, second_of_two}
use Rattle.bq_label.proofs.Segments.{two_true}
use Rattle.bq_package_target.proofs.Writing.{none_in}
use Rattle.bq_query_lex.specs.declared.query_error.QueryErr.{QueryErr}
use Rattle.bq_query_lex.specs.declared.query_error.QueryErr.TheVariants as e
use Rattle.bq_query_lex.specs.declared.pattern.TargetPattern.{TargetPattern}
use Rattle.bq_query_check.specs.Verdict.{Fault}
use Rattle.bq_query_check.specs.Formula.{Formula, named, variable, let_in, combined, one, two}
use Rattle.bq_query.specs.Faults.{fault_in}
use Rattle.bq_query_function.specs.Missing.{first_missing, has_package}
use Rattle.bq_query_function.specs.Words.{has_label, is_package}
use Rattle.bq_query_target_graph.specs.Graph.{GraphParts}
use Rattle.bq_run_laws.specs.Queries.Missing.{target_patterns, missing_of, AreThere, FailsForFirstMissing, MissingPackageFirst}

none_some : {A : Type 0} (x : A) → None ≡ Some x → ⊥
none_some x e = cc

-- ---- the fault of a query is that of its patterns in order

first_then : (f g h : Fault) → option_or (option_or f g) h ≡ option_or f (option_or g h)
first_then None g h = refl
first_then (Some why) g h = refl

module _ (w : GraphParts) where
  joined : (xs ys : List TargetPattern) → first_missing w.packages w.targets (xs ++ ys) ≡ option_or (first_missing w.packages w.targets xs) (first_missing w.packages w.targets ys)
  joined [] ys = refl
  joined (x ∷ xs) ys = ap (option_or (missing_of w x)) (joined xs ys) ∙ sym (first_then (missing_of w x) (first_missing w.packages w.targets xs) (first_missing w.packages w.targets ys))

  both : (a b : Fault) (xs ys : List TargetPattern) → a ≡ first_missing w.packages w.targets xs → b ≡ first_missing w.packages w.targets ys → option_or a b ≡ first_missing w.packages w.targets (xs ++ ys)
  both a b xs ys e f = ap (λ (g : Fault). option_or g b) e ∙ (ap (option_or (first_missing w.packages w.targets xs)) f ∙ sym (joined xs ys))

  of_patterns : (x : Formula) → fault_in w x ≡ first_missing w.packages w.targets (target_patterns x)
  of_patterns (named patterns) = refl
  of_patterns (variable k) = refl
  of_patterns (let_in a b) = both (fault_in w a) (fault_in w b) (target_patterns a) (target_patterns b) (of_patterns a) (of_patterns b)
  of_patterns (combined o a b) = both (fault_in w a) (fault_in w b) (target_patterns a) (target_patterns b) (of_patterns a) (of_patterns b)
  of_patterns (one f a) = of_patterns a
  of_patterns (two f a b) = both (fault_in w a) (fault_in w b) (target_patterns a) (target_patterns b) (of_patterns a) (of_patterns b)

  -- ---- the first of patterns

  record First (patterns : List TargetPattern) (why : QueryErr) : Type 0 where
    before : List TargetPattern
    pattern : TargetPattern
    after : List TargetPattern
    is : patterns ≡ before ++ pattern ∷ after
    there : AreThere w before
    missing : missing_of w pattern ≡ Some why

  first_by : (x : TargetPattern) (xs : List TargetPattern) (why : QueryErr) (f : Option QueryErr) → missing_of w x ≡ f → (first_missing w.packages w.targets xs ≡ Some why → First xs why)
      → option_or f (first_missing w.packages w.targets xs) ≡ Some why → First (x ∷ xs) why
  first_by x xs why None h later e =
      let r = later e in
      record { before = x ∷ r.before; pattern = r.pattern; after = r.after; is = ap (λ (ws : List TargetPattern). x ∷ ws) r.is; there = (h, r.there); missing = r.missing }
  first_by x xs why (Some other) h later e = record { before = []; pattern = x; after = xs; is = refl; there = tt; missing = h ∙ e }

  first : (patterns : List TargetPattern) (why : QueryErr) → first_missing w.packages w.targets patterns ≡ Some why → First patterns why
  first [] why e = absurd (none_some why e)
  first (x ∷ xs) why e = first_by x xs why (missing_of w x) refl (first xs why) e

  is_first : (before : List TargetPattern) (pattern : TargetPattern) (after : List TargetPattern) (why : QueryErr) → AreThere w before → missing_of w pattern ≡ Some why
      → first_missing w.packages w.targets (before ++ pattern ∷ after) ≡ Some why
  is_first [] pattern after why h e = ap (λ (f : Fault). option_or f (first_missing w.packages w.targets after)) e
  is_first (x ∷ xs) pattern after why h e = ap (λ (f : Fault). option_or f (first_missing w.packages w.targets (xs ++ pattern ∷ after))) h.0 ∙ is_first xs pattern after why h.1 e

  all_by : (x : TargetPattern) (xs : List TargetPattern) (f : Option QueryErr) → missing_of w x ≡ f → (first_missing w.packages w.targets xs ≡ None → AreThere w xs) → option_or f (first_missing w.packages w.targets xs) ≡ None
      → AreThere w (x ∷ xs)
  all_by x xs None h later e = (h, later e)
  all_by x xs (Some why) h later e = absurd (none_some why (sym e))

  all_there : (patterns : List TargetPattern) → first_missing w.packages w.targets patterns ≡ None → AreThere w patterns
  all_there [] e = tt
  all_there (x ∷ xs) e = all_by x xs (missing_of w x) refl (all_there xs) e

  none_missing : (patterns : List TargetPattern) → AreThere w patterns → first_missing w.packages w.targets patterns ≡ None
  none_missing [] h = refl
  none_missing (x ∷ xs) h = ap (λ (f : Fault). option_or f (first_missing w.packages w.targets xs)) h.0 ∙ none_missing xs h.1

pub fails_for_first : (w : GraphParts) (x : Formula) → FailsForFirstMissing w x
fails_for_first w x = record {
  first = λ why e.
      let r = first w (target_patterns x) why (sym (of_patterns w x) ∙ e) in
      record { before = r.before; pattern = r.pattern; after = r.after; patterns = r.is; there = r.there; missing = r.missing };
  fails = λ why r. of_patterns w x ∙ (ap (first_missing w.packages w.targets) r.patterns ∙ is_first w r.before r.pattern r.after why r.there r.missing);
  answers = λ e. all_there w (target_patterns x) (sym (of_patterns w x) ∙ e);
  all_there = λ h. of_patterns w x ∙ none_missing w (target_patterns x) h;
}

-- ---- a label

module _ {X : Type 0} (test : X → Bool) where
  finds_by : (b : Bool) (x : X) (rest : Option X) → b ≡ true → is_some (cond b (Some x) rest) ≡ true
  finds_by true x rest h = refl
  finds_by false x rest h = absurd (false≢true h)

  finds_later : (b : Bool) (x : X) (rest : Option X) → is_some rest ≡ true → is_some (cond b (Some x) rest) ≡ true
  finds_later true x rest h = refl
  finds_later false x rest h = h

  -- what passes a test is found
  finds : (xs : List X) (z : X) → Contains xs z → test z ≡ true → is_some (find test xs) ≡ true
  finds [] z c h = absurd (none_in z c)
  finds (x ∷ xs) z c h = elim (head_or_tail x xs z c) [
    | inl same ↦ finds_by (test x) x (find test xs) (ap test same ∙ h)
    | inr later ↦ finds_later (test x) x (find test xs) (finds xs z later h)
  ]

  not_by : (b : Bool) (x : X) (rest : Option X) → (b ≡ true → ⊥) → is_some rest ≡ false → is_some (cond b (Some x) rest) ≡ false
  not_by true x rest h e = absurd (h refl)
  not_by false x rest h e = e

  -- where nothing passes, nothing is
  finds_not : (xs : List X) → ((z : X) → Contains xs z → test z ≡ true → ⊥) → is_some (find test xs) ≡ false
  finds_not [] h = refl
  finds_not (x ∷ xs) h = not_by (test x) x (find test xs) (h x (at_head x xs)) (finds_not xs (λ z c. h z (in_tail x xs z c)))

same_package : (p q : PackageParts) → is_package p q ≡ true → q ≡ p
same_package p q h =
    let repo : q.repo ≡ p.repo = same_bytes q.repo p.repo (first_of_two _ _ h) in
    let path : q.package ≡ p.package = same_bytes q.package p.package (second_of_two _ _ h) in
    λ i. package_at (repo i) (path i)

is_itself : (p : PackageParts) → is_package p p ≡ true
is_itself p = two_true _ _ (equal_bytes p.repo p.repo refl) (equal_bytes p.package p.package refl)

-- what is reported of a label by whether its package and a target of it are found
abbrev reported : LabelParts → Bool → Bool → Fault
reported l p t = if p then (if t then None else Some (e.NoSuchTarget (full_form l))) else Some (e.NoSuchPackage (full_form l))

pub missing_package_first : (w : GraphParts) (l : LabelParts) → MissingPackageFirst w l
missing_package_first w l =
    let there : Bool = is_some (find (has_label l) w.targets) in
    let owner : Contains w.packages (package_of l) → has_package w.packages (package_of l) ≡ true =
    λ c. finds (is_package (package_of l)) w.packages (package_of l) c (is_itself (package_of l)) in
    record {
      no_package = λ n. ap (λ b. reported l b there) (finds_not (is_package (package_of l)) w.packages (λ q c h. n (subst (λ (r : PackageParts). Contains w.packages r) (same_package (package_of l) q h) c)));
      no_target = λ c n.
          ap (λ b. reported l b there) (owner c)
          ∙ ap (λ b. reported l true b) (finds_not (has_label l) w.targets (λ t d h. n t d ((bytes_eq-Decides (full_form t.label) (full_form l)).0 h)));
      both_there = λ c t d same.
          ap (λ b. reported l b there) (owner c)
          ∙ ap (λ b. reported l true b) (finds (has_label l) w.targets t d ((bytes_eq-Decides (full_form t.label) (full_form l)).1 same));
    }
