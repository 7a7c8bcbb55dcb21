-- the clauses that are left, with the values that are left, decide
use Rattle.std.proofs.Common.{◌≡◌, drop}
use Rattle.bq_eval_frame.specs.Slots.{slots_of}
use Rattle.bq_eval_spec.specs.Slots.{first_of_clauses}
use Rattle.bq_eval.proofs.loads.first_of_clauses.Given as goal

abbrev pub invariant-loop-clause : goal.invariant-loop-clause
invariant-loop-clause l = first_of_clauses (drop l.clause-index l.clauses) l.left (slots_of l.globals) ≡ first_of_clauses l.clauses l.fn.values (slots_of l.fn.globals)
