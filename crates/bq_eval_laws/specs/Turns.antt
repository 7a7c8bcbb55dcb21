-- The laws of a comprehension's turns: there is one for each element, from the first on, and each begins with what the one before it leaves.
-- A clause has all clauses after it inside (Starlark specification, "Comprehensions").
use Rattle.std.specs.Prelude.{◌≡◌, List, [], ◌∷◌, ◌++◌}
use Rattle.bq_parse_grammar.specs.declared.tree.Clause.{Clause, out-Clause}
use Rattle.bq_parse_grammar.specs.declared.tree.Expr.{Expr}
use Rattle.bq_parse_grammar.specs.declared.tree.TargetExpr.{TargetExpr}
use Rattle.bq_value.specs.Contents.{Contents}
use Rattle.bq_value.specs.Datum.{Datum}
use Rattle.bq_builtin_machine.specs.Action.{done, stopped}
use Rattle.bq_builtin_machine.specs.State.{Stop}
use Rattle.bq_eval_spec.specs.Primitives.{Primitives}
use Rattle.bq_eval_spec.specs.Comprehensions.{Turn, turn, for_clause, clause_by, clauses}
use Rattle.bq_eval_spec.specs.Environment.{Scoping}
use Rattle.bq_eval_spec.specs.Trees.{Eval}

module _ {S V : Type 0} (once : Datum → Turn S V) where
  -- These elements have their turns, one after another: from the first environment, list or dict, and state on, they end with the second
  -- ones.
  pub data Collects : List Datum → V → Contents → S → V → Contents → S → Type 0 where
    no_element : {env : V} {c : Contents} {s : S} → Collects [] env c s env c s
    first_element : {v : Datum} {vs : List Datum} {env mid new : V} {c d e : Contents} {s t u : S} → once v env c s ≡ done (d, mid) t → Collects vs mid d t new e u → Collects (v ∷ vs) env c s new e u

  -- one of the turns stops, after those before it
  pub data CollectingStops : List Datum → V → Contents → S → Stop → Type 0 where
    at_element : {v : Datum} {vs : List Datum} {env : V} {c : Contents} {s : S} {why : Stop} → once v env c s ≡ stopped why → CollectingStops (v ∷ vs) env c s why
    after_element : {v : Datum} {vs : List Datum} {env mid : V} {c d : Contents} {s t : S} {why : Stop} → once v env c s ≡ done (d, mid) t → CollectingStops vs mid d t why
        → CollectingStops (v ∷ vs) env c s why

module _ {S R V : Type 0} (m : Primitives S) (scoping : Scoping R V) where
  -- a `for` clause, whose iterable is evaluated in the environment `there`, has a turn for each element, from the first on
  abbrev pub ElementsInOrder : Type 0
  ElementsInOrder =
      (eval : Eval S V) (there env : V) (target : TargetExpr) (x : Expr) (inner : Turn S V) (c : Contents) (v : Datum) (vs : List Datum) (s t u : S) → eval x there s ≡ done v t
      → m.begin_walk v t ≡ done vs u
      → ((new : V) (d : Contents) (w : S) → Collects (turn m scoping target inner) vs env c u new d w → for_clause m scoping eval target x there inner env c s ≡ done (d, new) (m.end_walk v w))
      × ((why : Stop) → CollectingStops (turn m scoping target inner) vs env c u why → for_clause m scoping eval target x there inner env c s ≡ stopped why)

  -- of the clauses after the first, each has those after it inside, and the last one the element
  abbrev pub ClausesNest : Type 0
  ClausesNest =
      (eval : Eval S V) (inner : Turn S V) (env : V) (c : Contents) (s : S)
      → (clauses m scoping eval [] inner env c s ≡ inner env c s)
      × ((x : Clause) → clauses m scoping eval (x ∷ []) inner env c s ≡ clause_by m scoping eval (out-Clause x) env inner env c s)
      × ((xs ys : List Clause) → clauses m scoping eval (xs ++ ys) inner env c s ≡ clauses m scoping eval xs (clauses m scoping eval ys inner) env c s)
