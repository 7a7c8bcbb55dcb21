-- Comprehensions (Starlark specification, "Comprehensions"): the first iterable is evaluated outside, all else in a
-- block of its own, whose names are the variables of all its clauses. What is bound in it is not seen around it.
use Rattle.std.specs.Prelude.{List, [], ◌∷◌, if◌then◌else◌}
use Rattle.bq_parse_grammar.specs.declared.tree.Argument.TheOpen.{Clause-F}
use Rattle.bq_parse_grammar.specs.declared.tree.Clause.{Clause, out-Clause}
use Rattle.bq_parse_grammar.specs.declared.tree.ComprehensionFrame.{ComprehensionFrame}
use Rattle.bq_parse_grammar.specs.declared.tree.Expr.{Expr}
use Rattle.bq_parse_grammar.specs.declared.tree.Pair.{Pair, out-Pair}
use Rattle.bq_parse_grammar.specs.declared.tree.TargetExpr.{TargetExpr}
use Rattle.bq_resolve_scope.specs.Names.{ClauseLayer}
use Rattle.bq_value.specs.Contents.{Contents}
use Rattle.bq_value.specs.Datum.{Datum}
use Rattle.bq_builtin_machine.specs.Action.{Action, ◌>>=◌, pure}
use Rattle.bq_eval_spec.specs.Primitives.{Primitives, change}
use Rattle.bq_eval_spec.specs.Environment.{Scoping}
use Rattle.bq_eval_spec.specs.Targets.{bind_variables}
use Rattle.bq_eval_spec.specs.Trees.{Eval}

-- what is done in a turn, to an environment and to the list or dict so far
abbrev pub Turn : Type 0 → Type 0 → Type 0
Turn S V = V → Contents → Action S (Contents × V)

module _ {S V : Type 0} (m : Primitives S) (eval : Eval S V) where
  -- one more element
  unfoldable pub element : Expr → Turn S V
  element x env c = eval x env >>= λ v. m.add c v >>= λ d. pure (d, env)

  -- one more pair, or a new value of a key that is there
  unfoldable pub pair_element : Pair → Turn S V
  pair_element p env c = eval (out-Pair p).key env >>= λ k. eval (out-Pair p).value env >>= λ v. m.put_pair c k v >>= λ d. pure (d, env)

-- ---- clauses: `inner` is what the clauses after this one do, and at last the element or pair

module _ {S R V : Type 0} (m : Primitives S) (scoping : Scoping R V) where
  -- one turn of a `for` clause: a step, its variables, and what stands further in
  unfoldable pub turn : TargetExpr → Turn S V → Datum → Turn S V
  turn t inner v env c = m.step 1 >>= λ _. bind_variables m scoping t v env >>= λ new. inner new c

  -- the turns over these elements
  unfoldable pub turns : TargetExpr → Turn S V → List Datum → Turn S V
  turns t inner [] env c = pure (c, env)
  turns t inner (v ∷ vs) env c = turn t inner v env c >>= λ r. turns t inner vs r.1 r.0

  module _ (eval : Eval S V) where
    -- `for t in x`, where `x` is evaluated in the environment `there`
    unfoldable pub for_clause : TargetExpr → Expr → V → Turn S V → Turn S V
    for_clause t x there inner env c = eval x there >>= λ v. m.begin_walk v >>= λ vs. turns t inner vs env c >>= λ r. change m (m.end_walk v) >>= λ _. pure r

    -- `if x`
    unfoldable pub if_clause : Expr → Turn S V → Turn S V
    if_clause x inner env c = eval x env >>= λ v. λ s. (if m.truth v s then inner env c else pure (c, env)) s

    -- a clause, by its form
    abbrev pub clause_by : ClauseLayer → V → Turn S V → Turn S V
    clause_by (Clause-F.For t x) there inner env c = for_clause t x there inner env c
    clause_by (Clause-F.If x) there inner env c = if_clause x inner env c

    -- the clauses, each inside the one before
    unfoldable pub clauses : List Clause → Turn S V → Turn S V
    clauses [] inner env c = inner env c
    clauses (x ∷ xs) inner env c = clause_by (out-Clause x) env (clauses xs inner) env c

    -- all clauses, where the first iterable is evaluated in the environment `there`
    unfoldable pub first_clauses : List Clause → V → Turn S V → Turn S V
    first_clauses [] there inner env c = inner env c
    first_clauses (x ∷ xs) there inner env c = clause_by (out-Clause x) there (clauses xs inner) env c

    -- from an empty list or dict
    unfoldable pub comprehension : Contents → Turn S V → List Clause → ComprehensionFrame → V → Action S Datum
    comprehension none inner cs own env = m.step 1 >>= λ _. first_clauses cs env inner (scoping.in_comprehension env cs own) none >>= λ r. m.make r.0
