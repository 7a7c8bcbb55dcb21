-- The variables of what a tree says are bound by the lets around them.
use Rattle.std.proofs.Common.{◌≡◌, ◌≢◌, ◌≤◌, ◌<◌, ◌+◌, ◌++◌, ◌∙◌, ◌||◌, ℕ, zero, suc, Bool, true, false, List, [], ◌∷◌, map, length, get_or, Some, slice_get, bytes_eq, inl, inr, refl, sym, ap, subst, arith}
use Rattle.std.specs.List.{list_any, AllByRecursion}
use Rattle.std.proofs.lemmas.List.{length-append}
use Rattle.std.proofs.lemmas.Bool.{cases_eq, false≢true}
use Rattle.std.proofs.lemmas.Slice.Eq.{bytes_eq-Decides}
use Rattle.bq_query_parse.specs.declared.tree.SetOperation.{SetOperation}
use Rattle.bq_query_parse.specs.declared.tree.Query.{Query}
use Rattle.bq_query_function.specs.declared.signature.QueryArgumentKind.{QueryArgumentKind}
use Rattle.bq_query_check.specs.Call.{Given}
use Rattle.bq_query_check.proofs.Calls.{none_some, same_some, IsApplied, called_is_applied}
use Rattle.bq_query_check.specs.Formula.{Formula, Step, named, variable, let_in, combined, chained, step_of, formula_of, IsClosed, AreClosed}
use Rattle.bq_query_lex.specs.declared.query_error.QueryErr.TheVariants.{UnboundVariable}
use Rattle.bq_query_check.specs.Verdict as spec
use Rattle.bq_query_check.specs.Verdict.{no_fault}
use Rattle.bq_query_check.specs.Checked.{Holds, FirstFails}
use Rattle.bq_query_check.specs.FormulaOf.{IsInnermost, IsFormulaOf, AreStepsOf, AreArgumentsOf, IsArgumentOf}
use Rattle.bq_query_check.specs.declared.formula.ChainStep.{ChainStep}
use Rattle.bq_query_check.proofs.Says.{step_says}

-- ---- names

-- what is there has a place among them
pub place_below : {A : Type 0} (xs : List A) (at : ℕ) (x : A) → slice_get xs at ≡ Some x → at < length xs
place_below [] at x e = absurd (none_some x e)
place_below (y ∷ ys) zero x e = omega arith
place_below (y ∷ ys) (suc at) x e = let h = place_below ys at x e in omega (arith, h)

-- the name is none of them
none_by : (n name : List ℕ) (ns : List (List ℕ)) (b : Bool) → bytes_eq name n ≡ b → n ≢ name → list_any (bytes_eq name) ns ≡ false → (b || list_any (bytes_eq name) ns) ≡ false
none_by n name ns true e other rest = absurd (other (sym ((bytes_eq-Decides name n).0 e)))
none_by n name ns false e other rest = rest

pub none_bound : (names : List (List ℕ)) (name : List ℕ) → ((k : ℕ) → slice_get names k ≢ Some name) → list_any (bytes_eq name) names ≡ false
none_bound [] name h = refl
none_bound (n ∷ ns) name h = none_by n name ns (bytes_eq name n) refl (λ e. h 0 (ap Some e)) (none_bound ns name (λ k. h (suc k)))

-- one that is not this name is passed by
pub later_more : (names : List (List ℕ)) (name : List ℕ) (at : ℕ) (b : List ℕ) → b ≡ get_or names at b → bytes_eq b name ≡ false → ((k : ℕ) → at + 1 ≤ k → slice_get names k ≢ Some name)
    → (k : ℕ) → at ≤ k → slice_get names k ≢ Some name
later_more names name at b is other later k h e = elim (cases_eq at k) [
  | inl same ↦ false≢true (sym other ∙ (bytes_eq-Decides b name).1 (is ∙ found_here names name at b (subst (λ (i : ℕ). slice_get names i ≡ Some name) (sym same) e)))
  | inr differ ↦ later k (omega (arith, differ)) e
]
  where
    found_here : (names : List (List ℕ)) (name : List ℕ) (at : ℕ) (d : List ℕ) → slice_get names at ≡ Some name → get_or names at d ≡ name
    found_here [] name at d e = absurd (none_some name e)
    found_here (n ∷ ns) name zero d e = same_some n name e
    found_here (n ∷ ns) name (suc at) d e = found_here ns name at d e

-- it is one of them
or_true : (a b : Bool) → b ≡ true → (a || b) ≡ true
or_true true b h = refl
or_true false b h = h

pub some_bound : (names : List (List ℕ)) (name : List ℕ) (at : ℕ) → slice_get names at ≡ Some name → list_any (bytes_eq name) names ≡ true
some_bound [] name at e = absurd (none_some name e)
some_bound (n ∷ ns) name zero e = ap (λ b. b || list_any (bytes_eq name) ns) ((bytes_eq-Decides name n).1 (sym (same_some n name e)))
some_bound (n ∷ ns) name (suc at) e = or_true (bytes_eq name n) (list_any (bytes_eq name) ns) (some_bound ns name at e)

-- what holds of a name that is bound, and what fails of one that is not
pub bound_holds : (names : List (List ℕ)) (name : List ℕ) (at : ℕ) → IsInnermost names name at → AllByRecursion Holds (no_fault (spec.variable names name) ∷ [])
bound_holds names name at h = let t = some_bound names name at h.there in (rw t refl, tt)

pub unbound_fails : (names : List (List ℕ)) (name : List ℕ) → list_any (bytes_eq name) names ≡ false → FirstFails (no_fault (spec.variable names name) ∷ []) (UnboundVariable name)
unbound_fails names name f = inl (rw f refl)

-- ---- formulas

pub chained_closed : (n : ℕ) (x : Formula) (ss : List Step) → IsClosed n x → AreClosed n ss → IsClosed n (chained x ss)
chained_closed n x [] h k = h
chained_closed n x (s ∷ ss) h k = chained_closed n (combined s.operator x s.formula) ss (h, k.0) k.1

-- of a chain the first operand is, and each further one
pub first_closed : (n : ℕ) (x : Formula) (ss : List Step) → IsClosed n (chained x ss) → IsClosed n x
first_closed n x [] h = h
first_closed n x (s ∷ ss) h = (first_closed n (combined s.operator x s.formula) ss h).0

pub further_closed : (n : ℕ) (x : Formula) (ss : List Step) → IsClosed n (chained x ss) → AreClosed n ss
further_closed n x [] h = tt
further_closed n x (s ∷ ss) h = ((first_closed n (combined s.operator x s.formula) ss h).1, further_closed n (combined s.operator x s.formula) ss h)

pub operand_closed : (n : ℕ) (os : List ChainStep) (at : ℕ) (o : ChainStep) → AreClosed n (map step_of os) → at < length os → o ≡ get_or os at o → IsClosed n (formula_of o.operand)
operand_closed n [] at o h l e = absurd (omega arith)
operand_closed n (p ∷ os) zero o h l e = let same = ap (λ (s : Step). s.formula) (step_says p) in subst (λ (q : ChainStep). IsClosed n (formula_of q.operand)) (sym e) (subst (IsClosed n) same h.0)
operand_closed n (p ∷ os) (suc at) o h l e = operand_closed n os at o h.1 (omega arith) e

as_said : (n : ℕ) (x y : Formula) → x ≡ y → IsClosed n y → IsClosed n x
as_said n x y e h = subst (IsClosed n) (sym e) h

-- so is what a function makes of formulas
all_more : {A : Type 0} (P : A → Type 0) (xs : List A) (x : A) → AllByRecursion P xs → P x → AllByRecursion P (xs ++ x ∷ [])
all_more P [] x h p = (p, tt)
all_more P (y ∷ ys) x h p = (h.0, all_more P ys x h.1 p)

applied_closed : (n : ℕ) {xs : List Formula} {y : Formula} → IsApplied xs y → AllByRecursion (IsClosed n) xs → IsClosed n y
applied_closed n IsApplied.of_one h = h.0
applied_closed n IsApplied.of_two h = (h.0, h.1.0)

mutual
  pub formula_closed : {ns : List (List ℕ)} {x : Query} {y : Formula} → IsFormulaOf ns x y → IsClosed (length ns) y
  formula_closed (IsFormulaOf.word {ns = ns} {y = y} e f) = as_said (length ns) y (named f.0) f.2 tt
  formula_closed (IsFormulaOf.bound {ns = ns} {y = y} {n = n} e b) = as_said (length ns) y (variable b.0) b.2 (place_below ns b.0 n b.1.there)
  formula_closed (IsFormulaOf.parenthesized e h) = formula_closed h
  formula_closed (IsFormulaOf.set_of {ns = ns} {y = y} e f) = as_said (length ns) y (named f.0) f.2 tt
  formula_closed (IsFormulaOf.call {ns = ns} {y = y} {row = row} {g = g} e k h c) = applied_closed (length ns) (called_is_applied row g y c) (arguments_closed h tt)
  formula_closed (IsFormulaOf.binding {ns = ns} {y = y} {a = a} {b = b} {n = n} e h k f) =
      as_said (length ns) y (let_in a b) f (formula_closed h, subst (λ (m : ℕ). IsClosed m b) (length-append ns (n ∷ [])) (formula_closed k))
  formula_closed (IsFormulaOf.chain {ns = ns} {y = y} {a = a} {steps = ss} e h s f) =
      as_said (length ns) y (chained a ss) f (chained_closed (length ns) a ss (formula_closed h) (steps_closed s))

  steps_closed : {ns : List (List ℕ)} {os : List SetOperation} {ss : List Step} → AreStepsOf ns os ss → AreClosed (length ns) ss
  steps_closed AreStepsOf.no_more = tt
  steps_closed (AreStepsOf.one_more e h rest) = (formula_closed h, steps_closed rest)

  argument_closed : {ns : List (List ℕ)} {k : QueryArgumentKind} {x : Query} {g h : Given} → IsArgumentOf ns k x g h → AllByRecursion (IsClosed (length ns)) g.sets → AllByRecursion (IsClosed (length ns)) h.sets
  argument_closed (IsArgumentOf.set {ns = ns} {a = a} {g = g} h) all = all_more (IsClosed (length ns)) g.sets a all (formula_closed h)
  argument_closed (IsArgumentOf.attribute w) all = all
  argument_closed (IsArgumentOf.pattern w) all = all
  argument_closed (IsArgumentOf.limit n) all = all

  arguments_closed : {ns : List (List ℕ)} {ks : List QueryArgumentKind} {xs : List Query} {g h : Given} → AreArgumentsOf ns ks xs g h → AllByRecursion (IsClosed (length ns)) g.sets → AllByRecursion (IsClosed (length ns)) h.sets
  arguments_closed AreArgumentsOf.no_argument all = all
  arguments_closed (AreArgumentsOf.one_argument h rest) all = arguments_closed rest (argument_closed h all)
