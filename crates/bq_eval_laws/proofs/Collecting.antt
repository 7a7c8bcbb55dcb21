-- The turns of a comprehension, one after another, and its clauses, each inside the one before.
use Rattle.std.proofs.Common.{◌≡◌, ◌∙◌, List, [], ◌∷◌, ◌++◌, refl}
use Rattle.bq_parse_grammar.specs.declared.tree.Clause.{Clause, out-Clause}
use Rattle.bq_parse_grammar.specs.declared.tree.TargetExpr.{TargetExpr}
use Rattle.bq_value.specs.Contents.{Contents}
use Rattle.bq_value.specs.Datum.{Datum}
use Rattle.bq_builtin_machine.specs.Action.{Action, ◌>>=◌, pure, done, stopped, following}
use Rattle.bq_builtin_machine.specs.State.{Stop}
use Rattle.bq_eval_spec.specs.Primitives.{Primitives, change}
use Rattle.bq_eval_spec.specs.Comprehensions.{Turn, turn, turns, for_clause, clause_by, clauses}
use Rattle.bq_eval_spec.specs.Environment.{Scoping}
use Rattle.bq_eval_spec.specs.Trees.{Eval}
use Rattle.bq_eval_laws.specs.Turns.{Collects, no_element, first_element, CollectingStops, at_element, after_element, ElementsInOrder, ClausesNest}
use Rattle.bq_eval_laws.proofs.InOrder.{goes, ends}

module _ {S R V : Type 0} (m : Primitives S) (scoping : Scoping R V) where
  module _ (target : TargetExpr) (inner : Turn S V) where
    abbrev once : Datum → Turn S V
    once = turn m scoping target inner

    abbrev rest : List Datum → Contents × V → Action S (Contents × V)
    rest vs r = turns m scoping target inner vs r.1 r.0

    collected : (vs : List Datum) (env : V) (c : Contents) (s : S) (new : V) (d : Contents) (t : S) → Collects once vs env c s new d t → turns m scoping target inner vs env c s ≡ done (d, new) t
    unfolding turns
    collected vs env c s new d t no_element = refl
    collected vs env c s new d t (first_element {v = v} {vs = ws} {mid = mid} {d = e} {t = u} h k) = goes (once v env c s) (rest ws) (e, mid) u h ∙ collected ws mid e u new d t k

    collecting_stops : (vs : List Datum) (env : V) (c : Contents) (s : S) (why : Stop) → CollectingStops once vs env c s why → turns m scoping target inner vs env c s ≡ stopped why
    unfolding turns
    collecting_stops vs env c s why (at_element {v = v} {vs = ws} h) = ends (once v env c s) (rest ws) why h
    collecting_stops vs env c s why (after_element {v = v} {vs = ws} {mid = mid} {d = e} {t = u} h k) = goes (once v env c s) (rest ws) (e, mid) u h ∙ collecting_stops ws mid e u why k

  pub elements : ElementsInOrder m scoping
  unfolding for_clause
  elements eval there env target x inner c v vs s t u h begun =
      let ended : Contents × V → Action S (Contents × V) = λ r. change m (m.end_walk v) >>= λ _. pure r in
      let walked : for_clause m scoping eval target x there inner env c s ≡ following (turns m scoping target inner vs env c u) ended =
      goes (eval x there s) (λ a. m.begin_walk a >>= λ bs. turns m scoping target inner bs env c >>= λ r. change m (m.end_walk a) >>= λ _. pure r) v t h
      ∙ goes (m.begin_walk v t) (λ bs. turns m scoping target inner bs env c >>= ended) vs u begun in (
        λ new d w all. walked ∙ goes (turns m scoping target inner vs env c u) ended (d, new) w (collected target inner vs env c u new d w all),
        λ why all. walked ∙ ends (turns m scoping target inner vs env c u) ended why (collecting_stops target inner vs env c u why all),
      )

  -- ---- clauses

  module _ (eval : Eval S V) (inner : Turn S V) where
    nested : (xs ys : List Clause) (env : V) (c : Contents) (s : S) → clauses m scoping eval (xs ++ ys) inner env c s ≡ clauses m scoping eval xs (clauses m scoping eval ys inner) env c s
    unfolding clauses
    nested [] ys env c s = refl
    nested (x ∷ xs) ys env c s =
        λ i. clause_by m scoping eval (out-Clause x) env (λ e d t. nested xs ys e d t i) env c s

  pub clauses_nest : ClausesNest m scoping
  unfolding clauses
  clauses_nest eval inner env c s = (refl, λ x. refl, λ xs ys. nested eval inner xs ys env c s)
