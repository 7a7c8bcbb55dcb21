-- Conditions.
use Rattle.std.specs.Prelude.{Bool}
use Rattle.bq_parse_grammar.specs.declared.tree.Choice.{Choice, out-Choice}
use Rattle.bq_value.specs.Datum.{Datum}
use Rattle.bq_builtin_machine.specs.Action.{Action, done, ◌>>=◌}
use Rattle.bq_eval_spec.specs.Frame.{Frame}
use Rattle.bq_eval_spec.specs.Primitives.{Primitives}
use Rattle.bq_eval_spec.specs.Trees.{Eval}

module _ {S : Type 0} (m : Primitives S) where
  -- whether a value counts as true
  abbrev pub truth_of : Datum → Action S Bool
  truth_of v = λ s. done (m.truth v s) s

  -- whether what an action gives counts as true
  abbrev pub decision : Action S Datum → Action S Bool
  decision action = action >>= λ v. truth_of v

  -- the step of a choice, and its condition
  abbrev pub chooses : Eval S Frame → Choice → Frame → Action S Bool
  chooses eval c env = m.step 1 >>= λ _. decision (eval (out-Choice c).condition env)
