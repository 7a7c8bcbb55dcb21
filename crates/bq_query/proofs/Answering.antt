-- What answering a tree ensures, where its parts are answered.
use Rattle.std.proofs.Common.{◌≡◌, ◌∙◌, Bool, List, [], ◌∷◌, ◌++◌, Option, Some, None, Result, Ok, Err, length, refl, sym, ap, subst}
use Rattle.std.specs.Prelude.{MatchOption, IfOk}
use Rattle.std.specs.Option.{option_or}
use Rattle.bq_label.specs.Label.{PackageParts}
use Rattle.bq_package_target.specs.declared.target.Target.{Target}
use Rattle.bq_query_graph.specs.Marks.{IsSet, Marked}
use Rattle.bq_query_lex.specs.declared.query_error.QueryErr.{QueryErr}
use Rattle.bq_query_function.specs.Sets.{SetOfOne, SetOfTwo, OfOne, OfTwo}
use Rattle.bq_query_check.specs.Formula.{Formula, named, let_in, one, two}
use Rattle.bq_query_lex.specs.QueryError.{Meets}
use Rattle.bq_query_lex.specs.declared.pattern.TargetPattern.{TargetPattern}
use Rattle.bq_query_function.specs.Words.{Those, one_names}
use Rattle.bq_query_function.specs.Missing.{first_missing}
use Rattle.bq_query_target_graph.specs.Graph.{GraphParts}
use Rattle.bq_query.specs.Stands.{Stands, Bound}
use Rattle.bq_query.specs.Faults.{Has, Answers, fault_in}
use Rattle.bq_query.proofs.Same.{one_stands, two_stand}
use Rattle.bq_query.proofs.Formulas.{let_stands, popped}

-- the formula in other words
pub reworded : {A : Type 0} (marks : A → List Bool) (w : GraphParts) (x y : Formula) (bound : Bound) (before : Bound) (result : Result A QueryErr) (after : Bound) → x ≡ y
    → Answers marks w y bound before result after → Answers marks w x bound before result after
reworded marks w x y bound before result after e h = subst (λ (z : Formula). Answers marks w z bound before result after) (sym e) h

-- the bindings were kept before
pub kept_before : {A : Type 0} (marks : A → List Bool) (w : GraphParts) (x : Formula) (start before : Bound) (result : Result A QueryErr) (after : Bound) → before ≡ start
    → Answers marks w x before before result after → Answers marks w x start start result after
kept_before marks w x start before result after e h = subst (λ (bs : Bound). Answers marks w x bs bs result after) e h

-- ---- patterns

named_by : {A : Type 0} (marks : A → List Bool) (w : GraphParts) (patterns : List TargetPattern) (bound : Bound) (result : Result A QueryErr) → Meets (first_missing w.packages w.targets patterns) result
    → IfOk result (λ r. IsSet (length w.targets) (marks r) (Those (one_names patterns) w.targets)) → Answers marks w (named patterns) bound bound result bound
named_by marks w patterns bound (Ok r) none stands = (record { none = none; stands = stands }, refl)
named_by marks w patterns bound (Err why) fault stands = fault

pub named_answered : {A : Type 0} (marks : A → List Bool) (w : GraphParts) (packages : List PackageParts) (targets : List Target) (patterns : List TargetPattern) (bound : Bound) (result : Result A QueryErr) → packages ≡ w.packages
    → targets ≡ w.targets → Meets (first_missing packages targets patterns) result → IfOk result (λ r. IsSet (length targets) (marks r) (Those (one_names patterns) targets)) → Answers marks w (named patterns) bound bound result bound
named_answered marks w packages targets patterns bound result e f fault stands =
    named_by marks w patterns bound result
    (subst (λ (ps : List PackageParts). Meets (first_missing ps w.targets patterns) result) e (subst (λ (ts : List Target). Meets (first_missing packages ts patterns) result) f fault))
    (subst (λ (ts : List Target). IfOk result (λ r. IsSet (length ts) (marks r) (Those (one_names patterns) ts))) f stands)

-- ---- functions

pub has_one : (w : GraphParts) (bound : Bound) (f : SetOfOne) (a : Formula) (x r : List Bool) → Has w bound a x → IsSet (length w.targets) r (OfOne w f (Marked x)) → Has w bound (one f a) r
has_one w bound f a x r h t = record { none = h.none; stands = one_stands (length w.targets) (length w.targets) x r (Stands w a bound) h.stands w f t }

-- the first of two sets fails, or the second
pub first_fails : (w : GraphParts) (f : SetOfTwo) (a b : Formula) (why : QueryErr) → fault_in w a ≡ Some why → fault_in w (two f a b) ≡ Some why
first_fails w f a b why h = ap (λ e. option_or e (fault_in w b)) h

pub second_fails : (w : GraphParts) (f : SetOfTwo) (a b : Formula) (why : QueryErr) → fault_in w a ≡ None → fault_in w b ≡ Some why → fault_in w (two f a b) ≡ Some why
second_fails w f a b why none h = ap (λ e. option_or e (fault_in w b)) none ∙ h

-- both have sets
pub both_answered : (w : GraphParts) (f : SetOfTwo) (a b : Formula) (before middle after : Bound) (x y r : List Bool) → Has w before a x × (middle ≡ before)
    → Has w middle b y × (after ≡ middle) → IsSet (length w.targets) r (OfTwo w f (Marked x) (Marked y)) → Has w before (two f a b) r × (after ≡ before)
both_answered w f a b before middle after x y r h k t =
    let second : Has w before b y = subst (λ (bs : Bound). Has w bs b y) h.1 k.0 in (
      record {
        none = ap (λ e. option_or e (fault_in w b)) h.0.none ∙ second.none;
        stands = two_stand (length w.targets) (length w.targets) x y r (Stands w a before) (Stands w b before) h.0.stands second.stands w f t;
      },
      k.1 ∙ h.1,
    )

-- ---- lets

let_known : {A : Type 0} (marks : A → List Bool) (w : GraphParts) (a b : Formula) (before : Bound) (set : List Bool) (result : Result A QueryErr) (after : Bound)
    → Has w before a set → Answers marks w b (before ++ set ∷ []) before result after
    → Answers marks w (let_in a b) before before result after
let_known marks w a b before set (Ok r) after h k = (
  record {
    none = ap (λ e. option_or e (fault_in w b)) h.none ∙ k.0.none;
    stands = let_stands w a b before set (marks r) h.stands k.0.stands;
  },
  k.1,
)
let_known marks w a b before set (Err why) after h k = λ other. ap (λ e. option_or e (fault_in w b)) h.none ∙ k other

-- something is missing from the value
pub value_fails : (w : GraphParts) (a b : Formula) (why : QueryErr) → fault_in w a ≡ Some why → fault_in w (let_in a b) ≡ Some why
value_fails w a b why h = ap (λ e. option_or e (fault_in w b)) h

-- the value has a set
pub let_answered : {A : Type 0} (marks : A → List Bool) (w : GraphParts) (a b : Formula) (before middle : Bound) (set : List Bool) (result : Result A QueryErr) (after : Bound)
    → Has w before a set × (middle ≡ before) → Answers marks w b (middle ++ set ∷ []) middle result after
    → Answers marks w (let_in a b) before before result after
let_answered marks w a b before middle set result after h k =
    let_known marks w a b before set result after h.0 (subst (λ (bs : Bound). Answers marks w b (bs ++ set ∷ []) bs result after) h.1 k)

not_empty : {X : Type 0} (xs : List X) (y : X) → (xs ++ y ∷ []) ≡ [] → ⊥
not_empty [] y e = let h : (y ∷ []) ≡ [] = e in cc
not_empty (x ∷ xs) y e = let h : (x ∷ (xs ++ y ∷ [])) ≡ [] = e in cc

-- the last binding is popped
pub popped_kept : (before old new : Bound) (b : List Bool) (result : Option (List Bool)) → MatchOption result ((old ≡ []) × (new ≡ [])) (λ last. old ≡ new ++ last ∷ []) → old ≡ before ++ b ∷ []
    → new ≡ before
popped_kept before old new b None h e = absurd (not_empty before b (sym e ∙ h.0))
popped_kept before old new b (Some last) h e = popped before old new b last e h
