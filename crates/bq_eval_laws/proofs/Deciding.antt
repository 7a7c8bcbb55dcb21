-- What decides is evaluated first, and then only what it chooses.
use Rattle.std.proofs.Common.{◌≡◌, ◌∙◌, ◌∷◌, Bool, true, false, ap}
use Rattle.std.specs.Prelude.{if◌then◌else◌}
use Rattle.bq_parse_grammar.specs.declared.tree.Branch.{out-Branch}
use Rattle.bq_parse_grammar.specs.declared.tree.Clause.{out-Clause}
use Rattle.bq_value.specs.Datum.{Datum}
use Rattle.bq_value.specs.Contents.{Contents}
use Rattle.bq_builtin_machine.specs.Action.{Action, ◌>>=◌, pure}
use Rattle.bq_eval_spec.specs.Primitives.{Primitives}
use Rattle.bq_eval_spec.specs.Targets.{bind_variables}
use Rattle.bq_eval_spec.specs.Comprehensions.{turn, if_clause, clause_by, clauses, first_clauses, comprehension}
use Rattle.bq_eval_spec.specs.Statements.{Flow, block, branches}
use Rattle.bq_eval_spec.specs.Environment.{Scoping}
use Rattle.bq_eval_laws.specs.Decides.{LeftSidesDecide, BranchConditionsFirst, FiltersFirst, VariablesFirst, ClausesFirst}
use Rattle.bq_eval_laws.proofs.InOrder.{goes, ends}

-- one of two, where the test is known
chosen_by : {S A : Type 0} (b c : Bool) (yes_run no_run : Action S A) (s : S) → b ≡ c → (if b then yes_run else no_run) s ≡ (if c then yes_run else no_run) s
chosen_by b c yes_run no_run s h = ap (λ t. (if t then yes_run else no_run) s) h

module _ {S Round V : Type 0} (m : Primitives S) (scoping : Scoping Round V) where
  pub left_sides : LeftSidesDecide m scoping
  left_sides eval env y v s = (
    chosen_by (m.truth v s) false (eval y env) (pure v) s,
    chosen_by (m.truth v s) true (eval y env) (pure v) s,
    chosen_by (m.truth v s) true (pure v) (eval y env) s,
    chosen_by (m.truth v s) false (pure v) (eval y env) s,
  )

  pub branch_conditions : BranchConditionsFirst m scoping
  unfolding branches
  branch_conditions eval run env b bs otherwise v s t h =
      let taken : Action S (Flow × V) = block m scoping eval run (out-Branch b).block env in
      let rest : Action S (Flow × V) = branches m scoping eval run bs otherwise env in
      let is : branches m scoping eval run (b ∷ bs) otherwise env s ≡ (if m.truth v t then taken else rest) t =
      goes (eval (out-Branch b).condition env s) (λ w u. (if m.truth w u then taken else rest) u) v t h in (
        λ so. is ∙ chosen_by (m.truth v t) true taken rest t so,
        λ so. is ∙ chosen_by (m.truth v t) false taken rest t so,
      )

  pub filters : FiltersFirst m scoping
  unfolding if_clause
  filters eval env x inner c v s t h =
      let is : if_clause m scoping eval x inner env c s ≡ (if m.truth v t then inner env c else pure (c, env)) t =
      goes (eval x env s) (λ w u. (if m.truth w u then inner env c else pure (c, env)) u) v t h in (
        λ so. is ∙ chosen_by (m.truth v t) true (inner env c) (pure (c, env)) t so,
        λ so. is ∙ chosen_by (m.truth v t) false (inner env c) (pure (c, env)) t so,
      )

  pub variables : VariablesFirst m scoping
  unfolding turn
  variables env new t inner v c r s u step h = goes (m.step 1 r) _ tt s step ∙ goes (bind_variables m scoping t v env s) (λ e. inner e c) new u h

  pub clauses_first : ClausesFirst m scoping
  unfolding comprehension first_clauses
  clauses_first eval env first inner c cs own r s step =
      let begun : Action S (Contents × V) = clause_by m scoping eval (out-Clause c) env (clauses m scoping eval cs inner) (scoping.in_comprehension env (c ∷ cs) own) first in
      let made : Action S Datum = begun >>= λ q. m.make q.0 in
      let is : comprehension m scoping eval first inner (c ∷ cs) own env r ≡ made s = goes (m.step 1 r) (λ _. made) tt s step in
      (is, λ why h. is ∙ ends (begun s) (λ q. m.make q.0) why h)
