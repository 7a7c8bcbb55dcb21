-- What an evaluator does at the clauses of a comprehension: up to the first loop, and in the loops that are open.
use Rattle.std.specs.Prelude.{◌≡◌, List, [], Option, Result, IfOk}
use Rattle.bq_parse_grammar.specs.declared.tree.Clause.{Clause}
use Rattle.bq_parse_grammar.specs.declared.tree.ComprehensionFrame.{ComprehensionFrame}
use Rattle.bq_parse_grammar.specs.declared.tree.Expr.{Expr}
use Rattle.bq_parse_grammar.specs.declared.tree.Pair.{Pair}
use Rattle.bq_value.specs.declared.error.EvalErr.{EvalErr}
use Rattle.bq_value.specs.Contents.{Contents, items, pairs}
use Rattle.bq_value.specs.Datum.{Datum}
use Rattle.bq_builtin_machine.specs.Action.{Action}
use Rattle.bq_eval_spec.specs.Frame.{Frame}
use Rattle.bq_eval_spec.specs.Primitives.{Primitives}
use Rattle.bq_eval_spec.specs.Comprehensions.{Turn, element, pair_element, turn, clauses, first_clauses, comprehension}
use Rattle.bq_eval_spec.specs.Slots.{by_slots}
use Rattle.bq_eval_rules.specs.declared.comprehensions.ElementExpr.{ElementExpr}
use Rattle.bq_eval_rules.specs.declared.comprehensions.ElementExpr.TheVariants as elements
use Rattle.bq_eval_rules.specs.declared.evaluator.Evaluator.{Evaluator}
use Rattle.bq_eval_rules.specs.declared.open_loop.ForClause.{ForClause}
use Rattle.bq_eval_rules.specs.declared.open_loop.OpenLoop.{OpenLoop}
use Rattle.bq_eval_rules.specs.Acts.{Leaves}
use Rattle.bq_eval_rules.specs.Evaluators.{evals_in, frame_of}
use Rattle.bq_eval_rules.specs.OpenLoops.{Loop, Count, loop_left, reached_left, turn_count, clauses_count, reached_count}

module _ {S R C F : Type 0} (m : Primitives S) (e : Evaluator R C F) (x : ElementExpr) where
  -- one more element, or one more pair
  abbrev pub element_in : Turn S Frame
  element_in = elim x [ elements.Item y ↦ element m (evals_in m e) y.now | elements.Pair p ↦ pair_element m (evals_in m e) p.now ]

  -- clauses, and at last the element
  abbrev pub clauses_in : List Clause → Turn S Frame
  clauses_in cs = clauses m by_slots (evals_in m e) cs element_in

  -- all clauses of a comprehension, where the first iterable is evaluated in the frame around it
  abbrev pub all_clauses_in : List Clause → Turn S Frame
  all_clauses_in cs = first_clauses m by_slots (evals_in m e) cs (frame_of e) element_in

  -- a comprehension, from an empty list or dict
  abbrev pub comprehension_in : Contents → List Clause → ComprehensionFrame → Action S Datum
  comprehension_in none cs own = comprehension m by_slots (evals_in m e) none element_in cs own (frame_of e)

  -- the turns that are left of a loop, and the end of its walk
  abbrev pub turns_left : Loop → Turn S Frame
  turns_left l = loop_left m (evals_in m e) element_in l

module _ {S R C F : Type 0} (m : Primitives S) (e : Evaluator R C F) (cs : List Clause) (own : ComprehensionFrame) where
  -- `[x for ..]`
  abbrev pub list_comprehension_in : Expr → Action S Datum
  list_comprehension_in x = comprehension m by_slots (evals_in m e) (items []) (element m (evals_in m e) x) cs own (frame_of e)

  -- `{key: value for ..}`
  abbrev pub dict_comprehension_in : Pair → Action S Datum
  dict_comprehension_in p = comprehension m by_slots (evals_in m e) (pairs []) (pair_element m (evals_in m e) p) cs own (frame_of e)

module _ {S R C F : Type 0} (m : Primitives S) (seen : R → S) (e : Evaluator R C F) (x : ElementExpr) where
  -- A call did the first part of a turn: up to a loop, which it returns, or up to the end of the turn. After the turn come
  -- the frame, the list or dict and the runtime before the call, its result, and these three after it.
  abbrev pub ReachesLoop : Turn S Frame → Frame → Contents → R → Result (Option ForClause) EvalErr → Frame → Contents → R → Type 0
  ReachesLoop whole frame content old result changed filled new =
      Leaves m (λ reached. reached_left m (evals_in m e) (element_in m e x) reached changed filled (seen new))
      result (seen new) (whole frame content (seen old))

  -- such a call left as many turns and ends of loops to its loop as there are in the turn
  abbrev pub CountsLoop : Count S → Frame → Contents → R → Result (Option ForClause) EvalErr → Frame → Contents → R → Type 0
  CountsLoop whole frame content old result changed filled new =
      IfOk result (λ reached. whole frame content (seen old)
      ≡ reached_count m (evals_in m e) (element_in m e x) reached changed filled (seen new))

  -- these two of a call that runs clauses, which leave the frame as it is
  abbrev pub ClausesReach : List Clause → Frame → Contents → R → Result (Option ForClause) EvalErr → Contents → R → Type 0
  ClausesReach cs frame content old result filled new = ReachesLoop (clauses_in m e x cs) frame content old result frame filled new

  abbrev pub ClausesCount : List Clause → Frame → Contents → R → Result (Option ForClause) EvalErr → Contents → R → Type 0
  ClausesCount cs frame content old result filled new = CountsLoop (clauses_count m (evals_in m e) (element_in m e x) cs) frame content old result frame filled new

  -- these two of a call that begins a turn of a loop, with an element
  abbrev pub TurnReaches : OpenLoop → Datum → Frame → Contents → R → Result (Option ForClause) EvalErr → Frame → Contents → R → Type 0
  TurnReaches l v = ReachesLoop (turn m by_slots l.target.now (clauses_in m e x l.after.now) v)

  abbrev pub TurnCounts : OpenLoop → Datum → Frame → Contents → R → Result (Option ForClause) EvalErr → Frame → Contents → R → Type 0
  TurnCounts l v = CountsLoop (turn_count m l.target.now (clauses_count m (evals_in m e) (element_in m e x) l.after.now) v)
