-- The expressions in a statement resolve to what means the same, and no slot is given back.
use Rattle.std.proofs.Common.{◌≡◌, List, Result, Ok, Err, refl, arith}
use Rattle.bq_base.specs.declared.fault.NameFault.{NameFault}
use Rattle.bq_base.specs.declared.fault.Fault.{Fault}
use Rattle.bq_parse_grammar.specs.declared.tree.Expr.{Expr}
use Rattle.bq_resolve_scope.specs.Names.{max_layers, place_among}
use Rattle.bq_resolve_scope.specs.Scope.{BlockParts, FileParts}
use Rattle.bq_resolve_scope.specs.Statements as scope
use Rattle.bq_resolve_scope.specs.Visit.{Passed}
use Rattle.bq_eval_spec.specs.Frame.{Frame, Surroundings, empty}
use Rattle.bq_eval_spec.specs.Primitives.{Primitives, stuck}
use Rattle.bq_eval_spec.specs.Expressions.{expr_to}
use Rattle.bq_eval_spec.specs.Slots.{by_slots}
use Rattle.bq_eval_spec.specs.Trees.{Eval, Calls}
use Rattle.bq_eval_spec.specs.Names.{Env, Round, by_names}
use Rattle.bq_eval_by_name.specs.Shows.{Below, Nested, through}
use Rattle.bq_eval_by_name.proofs.Runs.{itself}
use Rattle.bq_eval_by_name.proofs.Walks.{Walked, Walks, walks_weaker}
use Rattle.bq_eval_by_name.proofs.Parts.{ExprAgree}
use Rattle.bq_eval_by_name.proofs.ResolvedParts.{Stands}
use Rattle.bq_eval_by_name.proofs.ExpressionAgreement.{expr_walks}
use Rattle.bq_eval_by_name.specs.StatementAgreement.{EvalsAgree}

-- no slot is given back, whatever expressions mean
module _ {S : Type 0} (m : Primitives S) (file : FileParts) (blocks : List BlockParts) (nested : Nested blocks) where
  slots_grow : (x : Expr) → Walks {A = Expr} blocks (λ _. Unit {0}) (scope.expr file blocks x)
  unfolding scope.expr
  slots_grow x =
      let surroundings : Surroundings = record { globals = empty; loaded = empty } in
      let round : Round = record { globals = λ n. through empty (place_among n file.globals); loaded = λ n. through empty (place_among n file.loaded); universe = file.universe } in
      let call : Calls S = λ v p. stuck m in
      walks_weaker blocks (λ z. Stands (expr_to max_layers m by_names call round) (expr_to max_layers m by_slots call surroundings) blocks x z) (λ _. Unit {0}) (scope.expr file blocks x) (λ z _. tt)
      (expr_walks m file round surroundings call call (record { globals = λ n. refl; loaded = λ n. refl; universe = refl }) (λ v p s. refl) max_layers max_layers max_layers (omega arith) (omega arith) blocks nested x)

  module _ (R : Env → Frame → Type 0) (E : Eval S Env) (F : Eval S Frame) (evals : EvalsAgree file blocks R E F) where
    visited : (x : Expr) (p : Passed) → Below blocks p.slots → (r : Result (Expr × Passed) (Fault NameFault)) → scope.expr file blocks x p ≡ r → Walked {A = Expr} (λ _. Unit {0}) p.slots r
        → Walked {A = Expr} (λ z. ExprAgree R E F x z) p.slots r
    visited x p below (Err why) e w = tt
    visited x p below (Ok q) e w = (w.0, λ env frame h s. rw (evals x q.0 p q.1 below e env frame s h) (itself (F q.0 frame s)))

    pub visits : (x : Expr) → Walks {A = Expr} blocks (λ z. ExprAgree R E F x z) (scope.expr file blocks x)
    visits x p below = visited x p below (scope.expr file blocks x p) refl (slots_grow x p below)
