-- Targets resolve to what does the same.
use Rattle.std.proofs.Common.{◌≡◌, ℕ, zero, suc, Bool, true, false, ◌&&◌, ◌||◌, List, [], ◌∷◌, inl, inr, Ok, Err, refl, ap, arith}
use Rattle.std.specs.Prelude.{if◌then◌else◌}
use Rattle.bq_base.specs.declared.fault.NameFault.{NameFault}
use Rattle.bq_base.specs.declared.fault.Fault.{Fault}
use Rattle.bq_base.specs.declared.fault.NameFault.TheVariants as f
use Rattle.bq_parse_grammar.specs.declared.tree.Argument.TheOpen.{TargetExpr-F}
use Rattle.bq_parse_grammar.specs.declared.tree.Expr.{Expr}
use Rattle.bq_parse_grammar.specs.declared.tree.FileKind.{FileKind}
use Rattle.bq_parse_grammar.specs.declared.tree.Identifier.{Identifier}
use Rattle.bq_parse_grammar.specs.declared.tree.TargetExpr.{TargetExpr, out-TargetExpr}
use Rattle.bq_parse_grammar.specs.declared.tree.TargetExpr.TheVariants as target
use Rattle.bq_resolve_scope.specs.Expressions as scope
use Rattle.bq_resolve_scope.specs.Expressions.{refer}
use Rattle.bq_resolve_scope.specs.Names.{Name, TargetLayer, has, with_name}
use Rattle.bq_resolve_scope.specs.Scope.{BlockParts, FileParts, use_of}
use Rattle.bq_resolve_scope.specs.Visit.{Passed, Visit, ◌>>=◌, pure, given, fault_of, each}
use Rattle.bq_resolve_laws.specs.Binds.{AnyOf, target_binds_by, TargetBindsTo}
use Rattle.bq_eval_spec.specs.Frame.{Frame}
use Rattle.bq_eval_spec.specs.Primitives.{Primitives}
use Rattle.bq_eval_spec.specs.Slots.{by_slots}
use Rattle.bq_eval_spec.specs.Trees.{Eval}
use Rattle.bq_eval_spec.specs.Names.{Env, own_value, by_names}
use Rattle.bq_eval_by_name.proofs.Walks.{Pairwise, Every, Walked, Walks, walks_bind, walks_weaker, walks_map, Refers, walks_refer, walks_two, walks_some}
use Rattle.bq_eval_by_name.proofs.Parts.{ExprAgree}
use Rattle.bq_eval_by_name.proofs.Making.{made_target}
use Rattle.bq_eval_by_name.proofs.BoundNames.{IsKept}
use Rattle.bq_eval_by_name.proofs.Targets.{NamesAlike, TargetAgree, LayerAgree, layer_agrees, name_agrees, index_agrees, tuple_agrees, list_agrees}

-- ---- lists

-- what holds of all names that these bind holds of those of each
pub of_each : {A : Type 0} (K : Name → Type 0) (B : Name → A → Type 0) (xs : List A) → ((name : Name) → AnyOf (B name) xs → K name) → Every (λ x. (name : Name) → B name x → K name) xs
of_each K B [] h = tt
of_each K B (x ∷ xs) h = (λ name at. h name (inl at), of_each K B xs (λ name at. h name (inr at)))

-- ---- a name is bound

bound_by : (t : Bool) (why : Fault NameFault) (p q : Passed) → p.slots ≡ q.slots → Walked {A = Unit {0}} (λ _. Unit {0}) p.slots (if t then Err why else Ok (tt, q))
bound_by true why p q e = tt
bound_by false why p q e = (omega (arith, e), tt)

bind_walks : (kind : FileKind) (blocks : List BlockParts) (i : Identifier) → Walks {A = Unit {0}} blocks (λ _. Unit {0}) (scope.bind_in kind blocks i)
unfolding scope.bind_global
bind_walks kind [] i = λ u below. bound_by (scope.is_bzl kind && (has u.bound i.name || has u.loaded i.name)) (fault_of f.Rebound i) u (record u { bound = with_name u.bound i.name }) refl
bind_walks kind (block ∷ blocks) i = λ u below. (omega arith, tt)

module _ {S : Type 0} (m : Primitives S) (file : FileParts) (blocks : List BlockParts) (R : Env → Frame → Type 0) (E : Eval S Env) (F : Eval S Frame) where
  abbrev pub TargetGood : ℕ → TargetExpr → TargetExpr → Type 0
  TargetGood n t u = TargetAgree m by_names by_slots R E F n t u

  -- a target's outermost layer
  abbrev pub LayerGood : ℕ → TargetLayer → TargetLayer → Type 0
  LayerGood n o p = LayerAgree m by_names by_slots R E F n o p

  abbrev Good : ℕ → TargetLayer → TargetExpr → Type 0
  Good n o u = LayerGood n o (out-TargetExpr u)

  abbrev pub Placed : Identifier → Identifier → Type 0
  Placed i j = Refers i (scope.place_of (use_of file blocks i.name)) j

  pub names_alike : (i j : Identifier) → IsKept file blocks R i.name → Placed i j → NamesAlike by_names by_slots R i j
  names_alike i j kept at env frame h =
      let keeps = kept at.0 at.1 env frame h in
      rw at.2 (ap own_value keeps.0, keeps.1)

  pub bound_walks : (i : Identifier) → Walks {A = Identifier} blocks (λ j. Placed i j) (scope.bound_at file blocks i)
  unfolding scope.bound_at
  bound_walks i =
      walks_bind blocks (λ _. Unit {0}) (λ j. Placed i j) (scope.bind_in file.universe.kind blocks i)
      (λ _. given (fault_of f.UnknownName i) (scope.place_of (use_of file blocks i.name)) >>= λ x. pure (refer i x)) (bind_walks file.universe.kind blocks i)
      (λ _ _. walks_refer blocks (fault_of f.UnknownName i) i (scope.place_of (use_of file blocks i.name)))

  -- ---- all targets

  module _ (visit : List BlockParts → Expr → Visit Expr) (visits : (x : Expr) → Walks {A = Expr} blocks (λ z. ExprAgree R E F x z) (visit blocks x)) where
    -- `R` holds wherever the target binds a name
    abbrev KeptIn : ℕ → TargetExpr → Type 0
    KeptIn n t = (name : Name) → TargetBindsTo n name t → IsKept file blocks R name

    target_by_walks : (n : ℕ) (inner : TargetExpr → Visit TargetExpr) → ((t : TargetExpr) → KeptIn n t → Walks {A = TargetExpr} blocks (λ u. TargetGood n t u) (inner t)) → (o : TargetLayer)
        → ((name : Name) → target_binds_by (TargetBindsTo n name) name o → IsKept file blocks R name)
        → Walks {A = TargetExpr} blocks (λ u. Good n o u) (scope.target_by file visit inner blocks o)
    target_by_walks n inner inners (TargetExpr-F.TargetExpr::Name i) kept =
        walks_map blocks (λ j. Placed i j) (λ u. Good n (TargetExpr-F.TargetExpr::Name i) u) (scope.bound_at file blocks i) (λ j. target.Name j)
        (λ j at. made_target (λ p. LayerGood n (TargetExpr-F.TargetExpr::Name i) p) (target.Name j) (TargetExpr-F.TargetExpr::Name j) (target.rolls-Name j)
        (name_agrees m by_names by_slots R E F n i j (names_alike i j (kept i.name refl) at))) (bound_walks i)
    target_by_walks n inner inners (TargetExpr-F.TargetExpr::Index x i) kept =
        walks_two blocks (λ z. ExprAgree R E F x z) (λ z. ExprAgree R E F i z) (λ u. Good n (TargetExpr-F.TargetExpr::Index x i) u) (visit blocks x) (visit blocks i) (λ y j. target.Index y j)
        (λ y j h k. made_target (λ p. LayerGood n (TargetExpr-F.TargetExpr::Index x i) p) (target.Index y j) (TargetExpr-F.TargetExpr::Index y j) (target.rolls-Index y j)
        (index_agrees m by_names by_slots R E F x i y j h k n)) (visits x) (visits i)
    target_by_walks n inner inners (TargetExpr-F.TargetExpr::Tuple ts) kept =
        walks_map blocks (λ us. Pairwise (TargetGood n) ts us) (λ u. Good n (TargetExpr-F.TargetExpr::Tuple ts) u) (each inner [] ts) (λ us. target.Tuple us)
        (λ us h. made_target (λ p. LayerGood n (TargetExpr-F.TargetExpr::Tuple ts) p) (target.Tuple us) (TargetExpr-F.TargetExpr::Tuple us) (target.rolls-Tuple us)
        (tuple_agrees m by_names by_slots R E F n ts us h)) (walks_some blocks (TargetGood n) (KeptIn n) inner inners ts (of_each (IsKept file blocks R) (TargetBindsTo n) ts kept))
    target_by_walks n inner inners (TargetExpr-F.TargetExpr::List ts) kept =
        walks_map blocks (λ us. Pairwise (TargetGood n) ts us) (λ u. Good n (TargetExpr-F.TargetExpr::List ts) u) (each inner [] ts) (λ us. target.List us)
        (λ us h. made_target (λ p. LayerGood n (TargetExpr-F.TargetExpr::List ts) p) (target.List us) (TargetExpr-F.TargetExpr::List us) (target.rolls-List us)
        (list_agrees m by_names by_slots R E F n ts us h)) (walks_some blocks (TargetGood n) (KeptIn n) inner inners ts (of_each (IsKept file blocks R) (TargetBindsTo n) ts kept))

    pub target_walks : (n : ℕ) (t : TargetExpr) → KeptIn n t → Walks {A = TargetExpr} blocks (λ u. TargetGood n t u) (scope.target_to file visit n blocks t)
    unfolding scope.target_to TargetBindsTo
    target_walks zero t kept = λ u below. tt
    target_walks (suc n) t kept =
        walks_weaker blocks (λ u. Good n (out-TargetExpr t) u) (λ u. TargetGood (suc n) t u) (scope.target_by file visit (scope.target_to file visit n blocks) blocks (out-TargetExpr t))
        (layer_agrees m by_names by_slots R E F n t) (target_by_walks n (scope.target_to file visit n blocks) (target_walks n) (out-TargetExpr t) kept)
