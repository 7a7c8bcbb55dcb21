-- Augmented assignments read their target, and then evaluate their right side.
use Rattle.std.proofs.Common.{◌≡◌, ◌∙◌, Option, Some, ap}
use Rattle.bq_value.specs.Datum.{Datum}
use Rattle.bq_builtin_machine.specs.Action.{done, ◌>>=◌, pure}
use Rattle.bq_eval_spec.specs.Primitives.{Primitives}
use Rattle.bq_eval_spec.specs.Targets.{bound, augment_name, augment_index}
use Rattle.bq_eval_spec.specs.Environment.{Scoping}
use Rattle.bq_eval_laws.specs.Order.{none_left, and_then}
use Rattle.bq_eval_laws.specs.Updates.{NamesAugmentedInOrder, PlacesAugmentedInOrder}
use Rattle.bq_eval_laws.proofs.InOrder.{goes}

module _ {S Round V : Type 0} (m : Primitives S) (scoping : Scoping Round V) where
  held : (o : Option Datum) (old : Datum) (s : S) → o ≡ Some old → bound m o s ≡ done old s
  unfolding bound
  held o old s h = ap (λ x. bound m x s) h

  pub names : NamesAugmentedInOrder m scoping
  unfolding augment_name
  names eval env n o x old v s t bound_to (and_then h none_left) =
      goes (bound m (scoping.own_value env n) s) (λ u. eval x env >>= λ w. m.augment o u w >>= λ new. pure (scoping.bind env n new)) old s (held (scoping.own_value env n) old s bound_to)
      ∙ goes (eval x env s) (λ w. m.augment o old w >>= λ new. pure (scoping.bind env n new)) v t h

  pub places : PlacesAugmentedInOrder m scoping
  unfolding augment_index
  places eval env y i o x u w old v r s t q (and_then {t = p} g (and_then h none_left)) read (and_then k none_left) =
      goes (eval y env r) _ u p g ∙ (goes (eval i env p) _ w s h ∙ (goes (m.index u w s) _ old t read ∙ goes (eval x env t) _ v q k))
