-- What comes after a statement that has ended a function, and after others.
use Rattle.std.proofs.Common.{◌≡◌, ◌∙◌, ℕ, zero, suc, ◌<◌, List, [], ◌∷◌, length, get_or, drop, Result, Ok, Err, refl, sym, ap, subst, arith}
use Rattle.bq_parse_grammar.specs.declared.tree.SmallStmt.{SmallStmt}
use Rattle.bq_parse_grammar.specs.declared.tree.Stmt.{Stmt}
use Rattle.bq_parse_grammar.specs.declared.tree.TargetExpr.{TargetExpr}
use Rattle.bq_value.specs.declared.error.EvalErr.{EvalErr}
use Rattle.bq_value.specs.Datum.{Datum}
use Rattle.bq_builtin_machine.specs.Action.{Run, done, following, pure}
use Rattle.bq_eval_spec.specs.Frame.{Frame}
use Rattle.bq_eval_spec.specs.Primitives.{Primitives}
use Rattle.bq_eval_spec.specs.Calls.{answered}
use Rattle.bq_eval_spec.specs.Statements.{Exec, Flow, answer, block, go_on, line, small_stmt, turn, turn_on, turns}
use Rattle.bq_eval_spec.specs.Slots.{by_slots}
use Rattle.bq_eval_spec.specs.Trees.{Eval}
use Rattle.bq_eval_rules.specs.declared.flow.Ending.{Ending}
use Rattle.bq_eval_rules.specs.declared.flow.Flow.TheVariants as variants
use Rattle.bq_eval_rules.specs.Acts.{Acts}
use Rattle.bq_eval_rules.specs.Answers.{AnswerPlace}
use Rattle.bq_eval_rules.specs.Flows.{ending_in, ending_of, flow_of, result_of}
use Rattle.bq_eval_rules.specs.Runners.{WalkEnds}

-- what a function returns that has ended
pub ended_result : (place : AnswerPlace) → place ≡ result_of (flow_of variants.Ended place)
ended_result (Ok v) = refl
ended_result (Err e) = refl

module _ {S : Type 0} (m : Primitives S) (last : Frame) (s : S) where
  -- a value that a function returns
  pub value_returned : (place : AnswerPlace) (run : Run S Datum) → Acts m (λ v. v) place s run → Acts {B = Flow × Frame} m (λ f. (f, last)) (flow_of variants.Ended place) s (following run (λ v. pure (answer v, last)))
  value_returned (Ok v) run h = ap (λ r. following r (λ v. pure (answer v, last))) h
  value_returned (Err e) run h = λ why is. ap (λ r. following r (λ v. pure (answer v, last))) (h why is)

  -- the statements after one that has ended the function, and the turns after one
  module _ (run : Run S (Flow × Frame)) (next : Exec S Frame) where
    pub ends_block : (place : AnswerPlace) → Acts m (λ f. (f, last)) (flow_of variants.Ended place) s run → Acts m (λ f. (f, last)) (flow_of variants.Ended place) s (following run (go_on next))
    ends_block (Ok v) h = ap (λ r. following r (go_on next)) h
    ends_block (Err e) h = λ why is. ap (λ r. following r (go_on next)) (h why is)

    pub ends_turns : (place : AnswerPlace) → Acts m (λ f. (f, last)) (flow_of variants.Ended place) s run → Acts m (λ f. (f, last)) (flow_of variants.Ended place) s (following run (turn_on next))
    ends_turns (Ok v) h = ap (λ r. following r (turn_on next)) h
    ends_turns (Err e) h = λ why is. ap (λ r. following r (turn_on next)) (h why is)

  -- the body of a function
  pub body_returns : (flow : Result Flow EvalErr) (run : Run S (Flow × Frame)) → Acts m (λ f. (f, last)) flow s run → Acts m (λ v. v) (result_of flow) s (following run (λ r. pure (answered r.0)))
  body_returns (Ok f) run h = ap (λ r. following r (λ r. pure (answered r.0))) h
  body_returns (Err e) run h = λ why is. ap (λ r. following r (λ r. pure (answered r.0))) (h why is)

  -- the statements of a file
  pub lines_end : (result : Result Ending EvalErr) (flow : Result Flow EvalErr) (run : Run S (Flow × Frame)) → ending_in result ≡ flow → Acts m (λ f. (f, last)) flow s run → Acts m (λ f. (ending_of f, last)) result s run
  lines_end (Ok e) flow run is h = let P : Result Flow EvalErr → Type 0 = λ r. Acts m (λ f. (f, last)) r s run in subst P (sym is) h
  lines_end (Err e) flow run is h = let P : Result Flow EvalErr → Type 0 = λ r. Acts m (λ f. (f, last)) r s run in subst P (sym is) h

-- the end of the walk over a value, after its turns
pub walk_ends : {S : Type 0} (m : Primitives S) (v : Datum) (last : Frame) (flow : Result Flow EvalErr) (s t : S) (run : Run S (Flow × Frame))
    → Acts m (λ f. (f, last)) flow s run → WalkEnds m flow v s t → Acts m (λ f. (f, last)) flow t (following run (λ r u. done r (m.end_walk v u)))
walk_ends {S = S} m v last (Ok f) s t run h is = ap (λ r. following r (λ r u. done r (m.end_walk v u))) h ∙ ap (λ u. done (f, last) u) (sym is)
walk_ends {S = S} m v last (Err e) s t run h is =
    let P : S → Type 0 = λ u. Acts {A = Flow} m (λ f. (f, last)) (Err e) u (following run (λ r u. done r (m.end_walk v u))) in
    subst P (sym is) (λ why bad. ap (λ r. following r (λ r u. done r (m.end_walk v u))) (h why bad))

-- ---- a statement has ended the function, after those before it

module _ {S : Type 0} (m : Primitives S) (last : Frame) (t : S) (place : AnswerPlace) where
  ends_all : {A : Type 0} (step : A → Exec S Frame) (all : List A → Exec S Frame) → ((x : A) (xs : List A) (env : Frame) (s : S) → all (x ∷ xs) env s ≡ following (step x env s) (go_on (all xs)))
      → (xs : List A) (i : ℕ) (x : A) → i < length xs → x ≡ get_or xs i x → (env : Frame) (s : S)
      → Acts m (λ f. (f, last)) (flow_of variants.Ended place) t (step x env s) → Acts m (λ f. (f, last)) (flow_of variants.Ended place) t (all (drop i xs) env s)
  ends_all step all first [] i x within is env s h = absurd (omega (arith, within))
  ends_all step all first (y ∷ ys) zero x within is env s h =
      let P : Run S (Flow × Frame) → Type 0 = λ run. Acts m (λ f. (f, last)) (flow_of variants.Ended place) t run in
      subst P (ap (λ z. following (step z env s) (go_on (all ys))) is ∙ sym (first y ys env s)) (ends_block m last t (step x env s) (all ys) place h)
  ends_all step all first (y ∷ ys) (suc i) x within is env s h = ends_all step all first ys i x (omega (arith, within)) is env s h

  pub ends_line : (eval : Eval S Frame) (xs : List SmallStmt) (i : ℕ) (x : SmallStmt) → i < length xs → x ≡ get_or xs i x → (env : Frame) (s : S)
      → Acts m (λ f. (f, last)) (flow_of variants.Ended place) t (small_stmt m by_slots eval x env s) → Acts m (λ f. (f, last)) (flow_of variants.Ended place) t (line m by_slots eval (drop i xs) env s)
  unfolding line
  ends_line eval xs i x within is env s h = ends_all (small_stmt m by_slots eval) (line m by_slots eval) (λ x xs env s. refl) xs i x within is env s h

  pub ends_statements : (eval : Eval S Frame) (run : Stmt → Exec S Frame) (xs : List Stmt) (i : ℕ) (x : Stmt) → i < length xs → x ≡ get_or xs i x → (env : Frame) (s : S)
      → Acts m (λ f. (f, last)) (flow_of variants.Ended place) t (run x env s) → Acts m (λ f. (f, last)) (flow_of variants.Ended place) t (block m by_slots eval run (drop i xs) env s)
  unfolding block
  ends_statements eval run xs i x within is env s h = ends_all run (block m by_slots eval run) (λ x xs env s. refl) xs i x within is env s h

  -- in a turn of a loop
  pub ends_loop : (eval : Eval S Frame) (run : Stmt → Exec S Frame) (target : TargetExpr) (body : List Stmt) (v : Datum) (vs old : List Datum) → old ≡ v ∷ vs → (env : Frame) (s : S)
      → Acts m (λ f. (f, last)) (flow_of variants.Ended place) t (turn m by_slots eval run target body v env s) → Acts m (λ f. (f, last)) (flow_of variants.Ended place) t (turns m by_slots eval run target body old env s)
  unfolding turns
  ends_loop eval run target body v vs old is env s h =
      let P : List Datum → Type 0 = λ xs. Acts m (λ f. (f, last)) (flow_of variants.Ended place) t (turns m by_slots eval run target body xs env s) in
      subst P (sym is) (ends_turns m last t (turn m by_slots eval run target body v env s) (turns m by_slots eval run target body vs) place h)
