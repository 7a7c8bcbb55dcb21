-- Sets in other words: what the operators name of marks they name of what is marked.
use Rattle.std.proofs.Common.{◌≡◌, ◌∙◌, ℕ, Bool, true, false, List, [], ◌∷◌, get_or, inl, inr, refl, sym}
use Rattle.std.specs.Bool.{Decides}
use Rattle.std.proofs.lemmas.List.{ext_get_or}
use Rattle.bq_query_graph.specs.Marks.{IsSet, Marked}
use Rattle.bq_query_parse.specs.declared.tree.SetOperator.{SetOperator}
use Rattle.bq_query_parse.specs.declared.tree.SetOperator.TheVariants as op
use Rattle.bq_query_function.specs.Sets.{SetOfOne, SetOfTwo, OfOne, OfTwo}
use Rattle.bq_query_function.proofs.Within.{Within, one_in, two_in}
use Rattle.bq_query.specs.Operators.{Combined}
use Rattle.bq_query_target_graph.specs.Graph.{GraphParts}

pub set_as : (P Q : ℕ → Type 0) (n : ℕ) (ms : List Bool) → Within P Q → Within Q P → IsSet n ms P → IsSet n ms Q
set_as P Q n ms f g s = (s.0, λ y. (λ h. f y ((s.1 y).0 h), λ q. (s.1 y).1 (g y q)))

-- what is marked is of the set, and the other way around
pub to_set : (P : ℕ → Type 0) (n : ℕ) (ms : List Bool) → IsSet n ms P → Within (Marked ms) P
to_set P n ms s y h = (s.1 y).0 h

pub from_set : (P : ℕ → Type 0) (n : ℕ) (ms : List Bool) → IsSet n ms P → Within P (Marked ms)
from_set P n ms s y p = (s.1 y).1 p

-- ---- the operators

combined_in : (o : SetOperator) (A C B D : ℕ → Type 0) → Within A C → Within B D → Within D B → Within (Combined o A B) (Combined o C D)
combined_in op.Union A C B D f h k y e = elim e [ inl a ↦ inl (f y a) | inr b ↦ inr (h y b) ]
combined_in op.Intersect A C B D f h k y e = (f y e.0, h y e.1)
combined_in op.Except A C B D f h k y e = (f y e.0, λ d. e.1 (k y d))

module _ (n m : ℕ) (x r : List Bool) (X : ℕ → Type 0) (s : IsSet n x X) where
  pub one_stands : (w : GraphParts) (k : SetOfOne) → IsSet m r (OfOne w k (Marked x)) → IsSet m r (OfOne w k X)
  one_stands w k t =
      let here = one_in w.targets w.packages w.edges w.edges (λ a b p. p) k in
      set_as (OfOne w k (Marked x)) (OfOne w k X) m r (here (Marked x) X (to_set X n x s)) (here X (Marked x) (from_set X n x s)) t

module _ (n m : ℕ) (u x r : List Bool) (U X : ℕ → Type 0) (a : IsSet n u U) (s : IsSet n x X) where
  pub two_stand : (w : GraphParts) (k : SetOfTwo) → IsSet m r (OfTwo w k (Marked u) (Marked x)) → IsSet m r (OfTwo w k U X)
  two_stand w k t =
      let here = two_in w.targets w.packages w.edges w.edges (λ a b p. p) k in
      set_as (OfTwo w k (Marked u) (Marked x)) (OfTwo w k U X) m r (here (Marked u) U (Marked x) X (to_set U n u a) (to_set X n x s))
      (here U (Marked u) X (Marked x) (from_set U n u a) (from_set X n x s)) t

  pub combined_stands : (o : SetOperator) → IsSet m r (Combined o (Marked u) (Marked x)) → IsSet m r (Combined o U X)
  combined_stands o t =
      set_as (Combined o (Marked u) (Marked x)) (Combined o U X) m r (combined_in o (Marked u) U (Marked x) X (to_set U n u a) (to_set X n x s) (from_set X n x s))
      (combined_in o U (Marked u) X (Marked x) (from_set U n u a) (from_set X n x s) (to_set X n x s)) t

-- ---- one set has one list of marks

same_by : (a b : Bool) (P : Type 0) → Decides a P → Decides b P → a ≡ b
same_by true true P d e = refl
same_by true false P d e = sym (e.1 (d.0 refl))
same_by false true P d e = d.1 (e.0 refl)
same_by false false P d e = refl

pub one_list : (P : ℕ → Type 0) (n : ℕ) (xs ys : List Bool) → IsSet n xs P → IsSet n ys P → xs ≡ ys
one_list P n xs ys s t = ext_get_or false xs ys (s.0 ∙ sym t.0) (λ i h. same_by (get_or xs i false) (get_or ys i false) (P i) (s.1 i) (t.1 i))
