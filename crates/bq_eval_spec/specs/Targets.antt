-- What is assigned to (Starlark specification, "Assignments"): the operands and indices of a target are evaluated first, from left to
-- right, and then its parts are bound from left to right.
use Rattle.std.specs.Prelude.{ℕ, zero, suc, List, [], ◌∷◌, ◌++◌, length, Option, Some, None}
use Rattle.bq_base.specs.declared.fault.EvalFault.TheVariants.{Unbound}
use Rattle.bq_parse_grammar.specs.declared.tree.Argument.TheOpen.{TargetExpr-F}
use Rattle.bq_parse_grammar.specs.declared.tree.Expr.{Expr}
use Rattle.bq_parse_grammar.specs.declared.tree.Identifier.{Identifier}
use Rattle.bq_parse_grammar.specs.declared.tree.Operator.{Operator}
use Rattle.bq_parse_grammar.specs.declared.tree.TargetExpr.{TargetExpr, out-TargetExpr}
use Rattle.bq_resolve_scope.specs.Names.{TargetLayer, max_layers}
use Rattle.bq_value.specs.Datum.{Datum}
use Rattle.bq_builtin_machine.specs.Action.{Action, ◌>>=◌, pure}
use Rattle.bq_eval_spec.specs.Primitives.{Primitives, stop, stuck}
use Rattle.bq_eval_spec.specs.Environment.{Scoping}
use Rattle.bq_eval_spec.specs.Trees.{Eval}

-- the operands of a target's index expressions with their indices, in order
abbrev pub Places : Type 0
Places = List (Datum × Datum)

-- a value is bound; what is left of the places is those of the targets that come after
abbrev pub Binds : Type 0 → Type 0 → Type 0
Binds S V = Datum → V → Places → Action S (V × Places)

module _ {S : Type 0} (m : Primitives S) where
  -- the value of a variable, or F49
  unfoldable pub bound : Option Datum → Action S Datum
  bound None = stop m Unbound
  bound (Some v) = pure v

module _ {S V : Type 0} (m : Primitives S) where
  -- ---- binding a target's parts

  -- `x[i] = v`, where `x` and `i` were evaluated before; the variables of a `for` have no such part
  unfoldable pub bind_place : Binds S V
  bind_place v env [] = stuck m
  bind_place v env (p ∷ ps) = m.set_index p.0 p.1 v >>= λ _. pure (env, ps)

  -- each of these gets one of the elements
  unfoldable pub bind_each : (TargetExpr → Binds S V) → List TargetExpr → List Datum → V → Places → Action S (V × Places)
  bind_each inner (t ∷ ts) (v ∷ vs) env ps = inner t v env ps >>= λ r. bind_each inner ts vs r.0 r.1
  bind_each inner _ _ env ps = pure (env, ps)

  -- Unpacking: an iterable of just as many elements (F57).
  unfoldable pub unpack : (TargetExpr → Binds S V) → List TargetExpr → Binds S V
  unpack inner ts v env ps = m.parts (length ts) v >>= λ vs. bind_each inner ts vs env ps

  module _ {R : Type 0} (scoping : Scoping R V) where
    -- a target takes its value, by its form
    abbrev pub bind_by : (TargetExpr → Binds S V) → TargetLayer → Binds S V
    bind_by inner (TargetExpr-F.TargetExpr::Name n) v env ps = pure (scoping.bind env n v, ps)
    bind_by inner (TargetExpr-F.TargetExpr::Index x i) v env ps = bind_place v env ps
    bind_by inner (TargetExpr-F.TargetExpr::Tuple ts) v env ps = unpack inner ts v env ps
    bind_by inner (TargetExpr-F.TargetExpr::List ts) v env ps = unpack inner ts v env ps

    -- a target takes its value, where `inner` says so of those in it
    unfoldable pub bind_target : (TargetExpr → Binds S V) → TargetExpr → Binds S V
    bind_target inner t v env ps = bind_by inner (out-TargetExpr t) v env ps

    -- of targets that are at most this many layers deep; no tree that is parsed has a deeper one
    unfoldable pub bind_to : ℕ → TargetExpr → Binds S V
    bind_to zero t v env ps = stuck m
    bind_to (suc depth) t v env ps = bind_target (bind_to depth) t v env ps

    -- a `for` binds its variables
    unfoldable pub bind_variables : TargetExpr → Datum → V → Action S V
    bind_variables t v env = bind_to max_layers t v env [] >>= λ r. pure r.0

  -- ---- a target's places

  module _ (eval : Eval S V) where
    -- the place `x[i]`
    unfoldable pub place : Expr → Expr → V → Places → Action S Places
    place x i env ps = eval x env >>= λ v. eval i env >>= λ w. pure (ps ++ (v, w) ∷ [])

    -- the places in these targets, from the left
    unfoldable pub places_each : (TargetExpr → V → Places → Action S Places) → List TargetExpr → V → Places → Action S Places
    places_each inner [] env ps = pure ps
    places_each inner (t ∷ ts) env ps = inner t env ps >>= λ qs. places_each inner ts env qs

    -- the places in a target, by its form
    abbrev pub places_by : (TargetExpr → V → Places → Action S Places) → TargetLayer → V → Places → Action S Places
    places_by inner (TargetExpr-F.TargetExpr::Name n) env ps = pure ps
    places_by inner (TargetExpr-F.TargetExpr::Index x i) env ps = place x i env ps
    places_by inner (TargetExpr-F.TargetExpr::Tuple ts) env ps = places_each inner ts env ps
    places_by inner (TargetExpr-F.TargetExpr::List ts) env ps = places_each inner ts env ps

    -- the places so far, and those of a target, where `inner` says so of those in it
    unfoldable pub places_of : (TargetExpr → V → Places → Action S Places) → TargetExpr → V → Places → Action S Places
    places_of inner t env ps = places_by inner (out-TargetExpr t) env ps

    -- of targets that are at most this many layers deep
    unfoldable pub places_to : ℕ → TargetExpr → V → Places → Action S Places
    places_to zero t env ps = stuck m
    places_to (suc depth) t env ps = places_of (places_to depth) t env ps

  -- ---- assignments

  module _ (eval : Eval S V) where
    -- `y[i] op= x`: `y` and `i` are evaluated once
    unfoldable pub augment_index : Expr → Expr → Operator → Expr → V → Action S V
    augment_index y i op x env =
        eval y env >>= λ u. eval i env >>= λ w. m.index u w >>= λ old. eval x env >>= λ v. m.augment op old v >>= λ new. m.set_index u w new >>= λ _. pure env

  module _ {R : Type 0} (scoping : Scoping R V) (eval : Eval S V) where
    -- an assignment: the places of its target are evaluated, then all take their values
    unfoldable pub assign : TargetExpr → Datum → V → Action S V
    assign t v env = places_to eval max_layers t env [] >>= λ ps. bind_to scoping max_layers t v env ps >>= λ r. pure r.0

    -- `name op= x`: the name is one of its own block, so that unbound there it is F49, whatever is around the block
    unfoldable pub augment_name : Identifier → Operator → Expr → V → Action S V
    augment_name n op x env = bound m (scoping.own_value env n) >>= λ old. eval x env >>= λ v. m.augment op old v >>= λ new. pure (scoping.bind env n new)

    -- `t op= x`, by the form of `t`; the grammar has no augmented assignment to a tuple or list
    abbrev pub augment_by : TargetLayer → Operator → Expr → V → Action S V
    augment_by (TargetExpr-F.TargetExpr::Name n) op x env = augment_name n op x env
    augment_by (TargetExpr-F.TargetExpr::Index y i) op x env = augment_index eval y i op x env
    augment_by _ op x env = stuck m

    -- `t op= x`
    unfoldable pub augment : TargetExpr → Operator → Expr → V → Action S V
    augment t op x env = augment_by (out-TargetExpr t) op x env
