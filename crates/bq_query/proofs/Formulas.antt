-- The sets of formulas whose parts' sets are known.
use Rattle.std.proofs.Common.{◌≡◌, ◌∙◌, Bool, List, [], ◌∷◌, ◌++◌, length, Some, None, refl, sym, ap, subst}
use Rattle.std.specs.Option.{option_or}
use Rattle.bq_query_graph.specs.Marks.{IsSet, Marked}
use Rattle.bq_query_target_graph.specs.Graph.{GraphParts}
use Rattle.bq_query_check.specs.Formula.{Formula, let_in, combined, Step, chained}
use Rattle.bq_query_lex.specs.declared.query_error.QueryErr.{QueryErr}
use Rattle.bq_query.specs.Stands.{Stands, Bound}
use Rattle.bq_query.specs.Operators.{Combined}
use Rattle.bq_query.specs.Faults.{fault_in, Has}
use Rattle.bq_query.proofs.Same.{set_as, one_list, combined_stands}
use Rattle.bq_query.proofs.Firsts.{fault_stays}

-- `let name = a in b`, where `set` is that of `a`
pub let_stands : (w : GraphParts) (a b : Formula) (bound : Bound) (set r : List Bool) → IsSet (length w.targets) set (Stands w a bound)
    → IsSet (length w.targets) r (Stands w b (bound ++ set ∷ [])) → IsSet (length w.targets) r (Stands w (let_in a b) bound)
let_stands w a b bound set r s t =
    set_as (Stands w b (bound ++ set ∷ [])) (Stands w (let_in a b) bound) (length w.targets) r (λ y h. (set, s, h))
    (λ y h. subst (λ (xs : List Bool). Stands w b (bound ++ xs ∷ []) y) (one_list (Stands w a bound) (length w.targets) h.0 set h.1 s) h.2) t

-- a part of a chain is done, and has these marks: what is left makes of it what the whole chain says
pub record SoFar (w : GraphParts) (bound : Bound) (whole : Formula) (left : List Step) (set : List Bool) : Type 0 where
  pub done : Formula
  pub goes_on : chained done left ≡ whole
  pub has : Has w bound done set

-- nothing of it
pub none_done : (w : GraphParts) (bound : Bound) (x : Formula) (steps : List Step) (set : List Bool) → Has w bound x set → SoFar w bound (chained x steps) steps set
none_done w bound x steps set h = record { done = x; goes_on = refl; has = h }

-- one operation more
pub one_more : (w : GraphParts) (bound : Bound) (whole : Formula) (o : Step) (left : List Step) (set operand r : List Bool) → SoFar w bound whole (o ∷ left) set → fault_in w o.formula ≡ None
    → IsSet (length w.targets) operand (Stands w o.formula bound) → IsSet (length w.targets) r (Combined o.operator (Marked set) (Marked operand)) → SoFar w bound whole left r
one_more w bound whole o left set operand r so_far none s t = record {
  done = combined o.operator so_far.done o.formula;
  goes_on = so_far.goes_on;
  has = record {
    none = ap (λ f. option_or f (fault_in w o.formula)) so_far.has.none ∙ none;
    stands = combined_stands (length w.targets) (length w.targets) set operand r (Stands w so_far.done bound) (Stands w o.formula bound) so_far.has.stands s o.operator t;
  };
}

-- an operand of which something is missing
pub fails_there : (w : GraphParts) (bound : Bound) (whole : Formula) (o : Step) (left : List Step) (set : List Bool) (why : QueryErr) → SoFar w bound whole (o ∷ left) set → fault_in w o.formula ≡ Some why
    → fault_in w whole ≡ Some why
fails_there w bound whole o left set why so_far h =
    ap (fault_in w) (sym so_far.goes_on) ∙ fault_stays w (combined o.operator so_far.done o.formula) left why (ap (λ f. option_or f (fault_in w o.formula)) so_far.has.none ∙ h)

-- all of it
pub all_done : (w : GraphParts) (bound : Bound) (whole : Formula) (set : List Bool) → SoFar w bound whole [] set → Has w bound whole set
all_done w bound whole set so_far = subst (λ (x : Formula). Has w bound x set) so_far.goes_on so_far.has

-- ---- lets

cons_same : {X : Type 0} (x y : X) (xs ys : List X) → (x ∷ xs) ≡ (y ∷ ys) → (x ≡ y) × (xs ≡ ys)
cons_same x y xs ys e = (cc, cc)

no_more : {X : Type 0} (bs : List X) (x y b : X) → (x ∷ []) ≡ (b ∷ (bs ++ y ∷ [])) → ⊥
no_more [] x y b e = let h = (cons_same x b [] (y ∷ []) e).1 in cc
no_more (c ∷ cs) x y b e = let h = (cons_same x b [] (c ∷ (cs ++ y ∷ [])) e).1 in cc

same_front : {X : Type 0} (before after : List X) (x y : X) → (before ++ x ∷ []) ≡ (after ++ y ∷ []) → before ≡ after
same_front [] [] x y e = refl
same_front [] (b ∷ bs) x y e = absurd (no_more bs x y b e)
same_front (a ∷ rest) [] x y e = absurd (no_more rest y x a (sym e))
same_front (a ∷ rest) (b ∷ bs) x y e = let h = cons_same a b (rest ++ x ∷ []) (bs ++ y ∷ []) e in ap (λ c. c ∷ rest) h.0 ∙ ap (λ cs. b ∷ cs) (same_front rest bs x y h.1)

-- the last one that is pushed is popped
pub popped : {X : Type 0} (before pushed after : List X) (x y : X) → pushed ≡ before ++ x ∷ [] → pushed ≡ after ++ y ∷ [] → after ≡ before
popped before pushed after x y e f = sym (same_front before after x y (sym e ∙ f))
