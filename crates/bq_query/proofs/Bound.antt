-- Formulas whose variables have sets: so have their parts, and those sets are what their variables stand for.
use Rattle.std.proofs.Common.{◌≡◌, ◌∙◌, ℕ, ◌<◌, Bool, List, [], ◌∷◌, ◌++◌, map, length, get_or, refl, sym, ap, subst}
use Rattle.std.proofs.lemmas.List.{length-append}
use Rattle.std.proofs.lemmas.List.Elements.{All-push}
use Rattle.bq_query_graph.specs.Marks.{Marked}
use Rattle.bq_query_check.specs.declared.formula.ChainStep.{ChainStep}
use Rattle.bq_query_function.specs.Sets.{SetOfOne, SetOfTwo}
use Rattle.bq_query_check.specs.Formula.{Formula, step_of, variable, let_in, one, two, chained, IsClosed, AreClosed}
use Rattle.bq_query_check.proofs.Closed.{first_closed, further_closed}
use Rattle.bq_query_target_graph.specs.Graph.{GraphParts}
use Rattle.bq_query.specs.Stands.{Bound, AreSets}
use Rattle.bq_query.specs.Faults.{Has, AreBound}

-- ---- variables

pub variable_has : (w : GraphParts) (bound : Bound) (k : ℕ) (r : List Bool) → k < length bound → AreSets w bound → r ≡ get_or bound k [] → Has w bound (variable k) r
variable_has w bound k r there sets same = record {
  none = refl;
  stands = (ap length same ∙ sets k [] there, λ y. (λ h. subst (λ (s : List Bool). Marked s y) same h, λ h. subst (λ (s : List Bool). Marked s y) (sym same) h));
}

-- ---- parts

-- the same formula, and the same sets
pub bound_as : (w : GraphParts) (x y : Formula) (before after : Bound) → x ≡ y → after ≡ before → AreBound w x before → AreBound w y after
bound_as w x y before after e f h = subst (λ (b : Bound). AreBound w y b) (sym f) (subst (λ (z : Formula). AreBound w z before) e h)

pub one_bound : (w : GraphParts) (s : SetOfOne) (a : Formula) (bound : Bound) → AreBound w (one s a) bound → AreBound w a bound
one_bound w s a bound h = record { closed = h.closed; sets = h.sets }

pub first_bound : (w : GraphParts) (s : SetOfTwo) (a b : Formula) (bound : Bound) → AreBound w (two s a b) bound → AreBound w a bound
first_bound w s a b bound h = record { closed = h.closed.0; sets = h.sets }

pub second_bound : (w : GraphParts) (s : SetOfTwo) (a b : Formula) (bound : Bound) → AreBound w (two s a b) bound → AreBound w b bound
second_bound w s a b bound h = record { closed = h.closed.1; sets = h.sets }

pub value_bound : (w : GraphParts) (a b : Formula) (bound : Bound) → AreBound w (let_in a b) bound → AreBound w a bound
value_bound w a b bound h = record { closed = h.closed.0; sets = h.sets }

pub body_bound : (w : GraphParts) (a b : Formula) (bound : Bound) (set : List Bool) → length set ≡ length w.targets → AreBound w (let_in a b) bound → AreBound w b (bound ++ set ∷ [])
body_bound w a b bound set long h = record {
  closed = subst (λ (n : ℕ). IsClosed n b) (sym (length-append bound (set ∷ []))) h.closed.1;
  sets = All-push (λ s. length s ≡ length w.targets) bound set h.sets long;
}

pub start_bound : (w : GraphParts) (x : Formula) (os : List ChainStep) (bound : Bound) → AreBound w (chained x (map step_of os)) bound → AreBound w x bound
start_bound w x os bound h = record { closed = first_closed (length bound) x (map step_of os) h.closed; sets = h.sets }

pub rest_closed : (w : GraphParts) (x : Formula) (os : List ChainStep) (bound : Bound) → AreBound w (chained x (map step_of os)) bound → AreClosed (length bound) (map step_of os)
rest_closed w x os bound h = further_closed (length bound) x (map step_of os) h.closed
