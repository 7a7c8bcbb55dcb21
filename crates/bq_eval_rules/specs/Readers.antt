-- What a reader evaluates: the expressions of statements, and the places and the operands of assignments.
use Rattle.std.specs.Prelude.{ℕ, List}
use Rattle.bq_parse_grammar.specs.declared.tree.Operator.{Operator}
use Rattle.bq_parse_grammar.specs.declared.tree.Expr.{Expr}
use Rattle.bq_parse_grammar.specs.declared.tree.TargetExpr.{TargetExpr}
use Rattle.bq_value.specs.Datum.{Datum}
use Rattle.bq_builtin_machine.specs.Action.{Action, ◌>>=◌, pure}
use Rattle.bq_eval_spec.specs.Frame.{Frame}
use Rattle.bq_eval_spec.specs.Primitives.{Primitives}
use Rattle.bq_eval_spec.specs.Targets.{Places, places_each, places_of, places_to}
use Rattle.bq_eval_spec.specs.Trees.{Eval}
use Rattle.bq_eval_rules.specs.declared.reader.Reader.{Reader}
use Rattle.bq_eval_rules.specs.Round.{evals}

module _ {S R C : Type 0} (m : Primitives S) (reader : Reader R C) where
  -- what an expression means
  abbrev pub evals_of : Eval S Frame
  evals_of = evals m reader.context.now

  -- the places so far, and those of each of these targets, which are at most this many layers deep
  abbrev pub places_in_each : ℕ → List TargetExpr → Frame → Places → Action S Places
  places_in_each depth ts = places_each m evals_of (places_to m evals_of depth) ts

  -- the places so far, and those of a target whose parts are at most this many layers deep
  abbrev pub places_in_target : ℕ → TargetExpr → Frame → Places → Action S Places
  places_in_target depth t = places_of m evals_of (places_to m evals_of depth) t

  -- the new value for `op= x`, from the old one
  abbrev pub augmented : Operator → Expr → Frame → Datum → Action S Datum
  augmented op x env old = evals_of x env >>= m.augment op old

  -- `v[w] op= x`, where `v` and `w` are values
  abbrev pub augment_at : Datum → Datum → Operator → Expr → Frame → Action S (Unit {0})
  augment_at v w op x env = m.index v w >>= λ old. augmented op x env old >>= m.set_index v w

  -- `x[i] = v`, where `v` is a value
  abbrev pub assign_at : Expr → Expr → Datum → Frame → Action S Frame
  assign_at x i v env = evals_of x env >>= λ u. evals_of i env >>= λ w. m.set_index u w v >>= λ _. pure env
