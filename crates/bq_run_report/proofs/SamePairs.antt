-- What a formula stands for hangs on the pairs of a graph alone, and not on how its rows are written.
use Rattle.std.proofs.Common.{◌≡◌, ℕ, List, [], ◌∷◌, ◌++◌, inl, inr, refl, length}
use Rattle.bq_label.specs.Label.{PackageParts}
use Rattle.bq_query_function.proofs.Within.{Within, PairsIn, graph, one_in, two_in}
use Rattle.bq_query_check.specs.Formula.{Formula, named, variable, let_in, combined, one, two}
use Rattle.bq_query_parse.specs.declared.tree.SetOperator.{SetOperator}
use Rattle.bq_query_parse.specs.declared.tree.SetOperator.TheVariants as op
use Rattle.bq_package_target.specs.declared.target.Target.{Target}
use Rattle.bq_query.specs.Faults.{fault_in}
use Rattle.bq_query.specs.Operators.{Combined}
use Rattle.bq_query.specs.Stands.{Stands, Bound}
use Rattle.bq_query.proofs.Same.{set_as}

-- the same targets
abbrev pub Same : (ℕ → Type 0) → (ℕ → Type 0) → Type 0
Same P Q = Within P Q × Within Q P

turned : (P Q : ℕ → Type 0) → Same P Q → Same Q P
turned P Q s = (s.1, s.0)

combined_in : (o : SetOperator) (A C B D : ℕ → Type 0) → Same A C → Same B D → Within (Combined o A B) (Combined o C D)
combined_in op.Union A C B D f k y e = elim e [ inl a ↦ inl (f.0 y a) | inr b ↦ inr (k.0 y b) ]
combined_in op.Intersect A C B D f k y e = (f.0 y e.0, k.0 y e.1)
combined_in op.Except A C B D f k y e = (f.0 y e.0, λ d. e.1 (k.1 y d))

-- ---- graphs that differ in their edges

module _ (ts : List Target) (ps : List PackageParts) (g h : List (List ℕ)) where
  -- what is missing hangs on the targets and packages alone
  pub same_fault : (x : Formula) → fault_in (graph ts ps g) x ≡ fault_in (graph ts ps h) x
  same_fault (named patterns) = refl
  same_fault (variable k) = refl
  same_fault (let_in a b) = rw (same_fault a, same_fault b) refl
  same_fault (combined o a b) = rw (same_fault a, same_fault b) refl
  same_fault (one s a) = same_fault a
  same_fault (two s a b) = rw (same_fault a, same_fault b) refl

module _ (ts : List Target) (ps : List PackageParts) (g h : List (List ℕ)) (to : PairsIn g h) (from : PairsIn h g) where
  abbrev left : Formula → Bound → ℕ → Type 0
  left x bound y = Stands (graph ts ps g) x bound y

  abbrev right : Formula → Bound → ℕ → Type 0
  right x bound y = Stands (graph ts ps h) x bound y

  pub same_set : (x : Formula) (bound : Bound) → Same (left x bound) (right x bound)
  same_set (named patterns) bound = (λ y e. e, λ y e. e)
  same_set (variable k) bound = (λ y e. e, λ y e. e)
  same_set (let_in a b) bound =
      let s = same_set a bound in (
        λ y e. (e.0, set_as (left a bound) (right a bound) (length ts) e.0 s.0 s.1 e.1, (same_set b (bound ++ e.0 ∷ [])).0 y e.2),
        λ y e. (e.0, set_as (right a bound) (left a bound) (length ts) e.0 s.1 s.0 e.1, (same_set b (bound ++ e.0 ∷ [])).1 y e.2),
      )
  same_set (combined o a b) bound =
      let s = same_set a bound in
      let t = same_set b bound in (
        combined_in o (left a bound) (right a bound) (left b bound) (right b bound) s t,
        combined_in o (right a bound) (left a bound) (right b bound) (left b bound) (turned (left a bound) (right a bound) s) (turned (left b bound) (right b bound) t),
      )
  same_set (one f a) bound =
      let s = same_set a bound in
      (one_in ts ps g h to f (left a bound) (right a bound) s.0, one_in ts ps h g from f (right a bound) (left a bound) s.1)
  same_set (two f a b) bound =
      let s = same_set a bound in
      let t = same_set b bound in (
        two_in ts ps g h to f (left a bound) (right a bound) (left b bound) (right b bound) s.0 t.0,
        two_in ts ps h g from f (right a bound) (left a bound) (right b bound) (left b bound) s.1 t.1,
      )
