-- The laws of augmented assignments: what the target holds is read first, then the right side is evaluated, and the operands of a target
-- `y[i]` are evaluated once, before all of it (Starlark specification, "Augmented assignments").
use Rattle.std.specs.Prelude.{◌≡◌, [], ◌∷◌, Some}
use Rattle.bq_parse_grammar.specs.declared.tree.Operator.{Operator}
use Rattle.bq_parse_grammar.specs.declared.tree.Expr.{Expr}
use Rattle.bq_parse_grammar.specs.declared.tree.Identifier.{Identifier}
use Rattle.bq_value.specs.Datum.{Datum}
use Rattle.bq_builtin_machine.specs.Action.{done, ◌>>=◌, pure}
use Rattle.bq_eval_spec.specs.Primitives.{Primitives}
use Rattle.bq_eval_spec.specs.Targets.{augment_name, augment_index}
use Rattle.bq_eval_spec.specs.Trees.{Eval}
use Rattle.bq_eval_spec.specs.Environment.{Scoping}
use Rattle.bq_eval_laws.specs.Order.{Evaluates}

module _ {S R V : Type 0} (m : Primitives S) (scoping : Scoping R V) where
  -- `name op= x`, where the name has the value `old`
  abbrev pub NamesAugmentedInOrder : Type 0
  NamesAugmentedInOrder =
      (eval : Eval S V) (env : V) (n : Identifier) (o : Operator) (x : Expr) (old v : Datum) (s t : S) → scoping.own_value env n ≡ Some old → Evaluates eval env (x ∷ []) s (v ∷ []) t
      → augment_name m scoping eval n o x env s ≡ (m.augment o old v >>= λ new. pure (scoping.bind env n new)) t

  -- `y[i] op= x`
  abbrev pub PlacesAugmentedInOrder : Type 0
  PlacesAugmentedInOrder =
      (eval : Eval S V) (env : V) (y i : Expr) (o : Operator) (x : Expr) (u w old v : Datum) (r s t q : S) → Evaluates eval env (y ∷ i ∷ []) r (u ∷ w ∷ []) s → m.index u w s ≡ done old t
      → Evaluates eval env (x ∷ []) t (v ∷ []) q
      → augment_index m eval y i o x env r ≡ (m.augment o old v >>= λ new. m.set_index u w new >>= λ _. pure env) q
