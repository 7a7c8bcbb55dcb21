-- The open loops of a comprehension: what they still do, by the definition (`Comprehensions` of
-- `bq_eval_spec`), and how many turns and ends of loops that takes. `body` is what is before the clauses.
use Rattle.std.specs.Prelude.{ℕ, suc, ◌+◌, List, [], ◌∷◌, Option, Some, None, Result, Ok, Err, map, reverse, if◌then◌else◌}
use Rattle.bq_parse_grammar.specs.declared.tree.Argument.TheOpen.{Clause-F}
use Rattle.bq_parse_grammar.specs.declared.tree.Clause.{Clause, out-Clause}
use Rattle.bq_parse_grammar.specs.declared.tree.TargetExpr.{TargetExpr}
use Rattle.bq_resolve_scope.specs.Names.{ClauseLayer}
use Rattle.bq_value.specs.declared.error.EvalErr.{EvalErr}
use Rattle.bq_value.specs.Contents.{Contents}
use Rattle.bq_value.specs.Datum.{Datum}
use Rattle.bq_builtin_machine.specs.Action.{Action, Run, done, stopped, following, ◌>>=◌, pure}
use Rattle.bq_eval_spec.specs.Frame.{Frame}
use Rattle.bq_eval_spec.specs.Primitives.{Primitives, change}
use Rattle.bq_eval_spec.specs.Comprehensions.{Turn, clauses, turn, turns}
use Rattle.bq_eval_spec.specs.Slots.{by_slots}
use Rattle.bq_eval_spec.specs.Targets.{bind_variables}
use Rattle.bq_eval_spec.specs.Trees.{Eval}
use Rattle.bq_eval_rules.specs.declared.open_loop.ForClause.{ForClause}
use Rattle.bq_eval_rules.specs.declared.open_loop.OpenLoop.{OpenLoop}
use Rattle.bq_eval_rules.specs.declared.open_loop.Reached.{Reached}
use Rattle.bq_eval_rules.specs.declared.open_loop.Reached.TheVariants as reaches
use Rattle.bq_eval_rules.specs.Answers.{AnswerPlace, reason_of}

-- a `for` clause whose walk has begun: the clauses after it, what is walked, and the elements that are still to come
pub record Loop : Type 0 where
  pub target : TargetExpr
  pub after : List Clause
  pub walked : Datum
  pub elements : List Datum

-- an open loop of the code
abbrev pub loop_of : OpenLoop → Loop
loop_of l = record { target = l.target.now; after = l.after.now; walked = l.walked; elements = l.elements }

-- the code has the innermost loop last
unfoldable pub loops_of : List OpenLoop → List Loop
loops_of ls = reverse (map loop_of ls)

-- the loop that the clauses of a turn reached, if there is one: its clause lies in a place. Where they stopped, the place for answers says why
abbrev pub loop_reached : Reached → Option ForClause → AnswerPlace → Result (Option ForClause) EvalErr
loop_reached reaches.End next place = Ok None
loop_reached reaches.Loop next place = Ok next
loop_reached reaches.Stopped next place = Err (reason_of place)

-- what comes after a run that isn't stopped
abbrev pub counted : {S A : Type 0} → Run S A → (A → S → ℕ) → ℕ
counted (done a s) count = count a s
counted (stopped why) count = 0

-- how many turns and ends of loops come, from a frame, a list or dict so far, and a state
abbrev pub Count : Type 0 → Type 0
Count S = Frame → Contents → S → ℕ

module _ {S : Type 0} (m : Primitives S) where
  -- those of a turn: `inside` counts the clauses after the `for`
  unfoldable pub turn_count : TargetExpr → Count S → Datum → Count S
  turn_count t inside v env c s = counted (following (m.step 1 s) (λ _. bind_variables m by_slots t v env)) (λ new. inside new c)

  -- those of these turns
  unfoldable pub turns_count : TargetExpr → Turn S Frame → Count S → List Datum → Count S
  turns_count t inner inside [] env c s = 1
  turns_count t inner inside (v ∷ vs) env c s = suc (turn_count t inside v env c s + counted (turn m by_slots t inner v env c s) (λ r. turns_count t inner inside vs r.1 r.0))

module _ {S : Type 0} (m : Primitives S) (eval : Eval S Frame) where
  -- a `for` clause opens its loop
  unfoldable pub opening : ForClause → Frame → Action S Loop
  opening f env = eval f.iterable.now env >>= λ v. m.begin_walk v >>= λ vs. pure (record { target = f.target.now; after = f.after.now; walked = v; elements = vs })

  module _ (body : Turn S Frame) where
    -- the turns that are left, and the end of the walk
    unfoldable pub loop_left : Loop → Turn S Frame
    loop_left l env c = turns m by_slots l.target (clauses m by_slots eval l.after body) l.elements env c >>= λ r. change m (m.end_walk l.walked) >>= λ _. pure r

    -- those of all the loops, of which the innermost is the first
    unfoldable pub loops_left : List Loop → Turn S Frame
    loops_left [] env c = pure (c, env)
    loops_left (l ∷ ls) env c = loop_left l env c >>= λ r. loops_left ls r.1 r.0

    -- after clauses that may have reached a loop
    abbrev pub reached_left : Option ForClause → Turn S Frame
    reached_left None env c = pure (c, env)
    reached_left (Some f) env c = opening f env >>= λ l. loop_left l env c

    -- ---- the same, counted

    -- those of a clause, by its form
    abbrev pub clause_count_by : ClauseLayer → Turn S Frame → Count S → Count S
    clause_count_by (Clause-F.For t x) inner inside env c s = counted (following (eval x env s) m.begin_walk) (λ vs. turns_count m t inner inside vs env c)
    clause_count_by (Clause-F.If x) inner inside env c s = counted (eval x env s) (λ v t. if m.truth v t then inside env c t else 0)

    -- those of clauses, each inside the one before
    unfoldable pub clauses_count : List Clause → Count S
    clauses_count [] env c s = 0
    clauses_count (x ∷ xs) env c s = clause_count_by (out-Clause x) (clauses m by_slots eval xs body) (clauses_count xs) env c s

    -- those of a loop
    unfoldable pub loop_count : Loop → Count S
    loop_count l env c s = turns_count m l.target (clauses m by_slots eval l.after body) (clauses_count l.after) l.elements env c s

    -- those of all the loops
    unfoldable pub loops_count : List Loop → Count S
    loops_count [] env c s = 0
    loops_count (l ∷ ls) env c s = loop_count l env c s + counted (loop_left l env c s) (λ r. loops_count ls r.1 r.0)

    -- those after clauses that may have reached a loop
    abbrev pub reached_count : Option ForClause → Count S
    reached_count None env c s = 0
    reached_count (Some f) env c s = counted (opening f env s) (λ l. loop_count l env c)
