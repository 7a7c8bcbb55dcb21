-- Targets and clauses of a comprehension resolve to what means the same.
use Rattle.std.proofs.Common.{◌≡◌, ◌≤◌, ◌+◌, ℕ, zero, suc, true, List, [], ◌∷◌, length, Option, Some, None, is_some, refl, sym, ap, ◌∙◌, subst, arith}
use Rattle.bq_base.specs.declared.fault.NameFault.TheVariants as f
use Rattle.bq_parse_grammar.specs.declared.tree.Argument.TheOpen.{Clause-F, TargetExpr-F}
use Rattle.bq_parse_grammar.specs.declared.tree.Clause.{Clause, out-Clause}
use Rattle.bq_parse_grammar.specs.declared.tree.Clause.TheVariants as clause
use Rattle.bq_parse_grammar.specs.declared.tree.ComprehensionFrame.{ComprehensionFrame}
use Rattle.bq_parse_grammar.specs.declared.tree.Expr.{Expr}
use Rattle.bq_parse_grammar.specs.declared.tree.Identifier.{Identifier}
use Rattle.bq_parse_grammar.specs.declared.tree.Referent.{Referent}
use Rattle.bq_parse_grammar.specs.declared.tree.Referent.TheVariants as b
use Rattle.bq_parse_grammar.specs.declared.tree.TargetExpr.{TargetExpr, out-TargetExpr}
use Rattle.bq_parse_grammar.specs.declared.tree.TargetExpr.TheVariants as target
use Rattle.bq_resolve_scope.specs.Expressions as scope
use Rattle.bq_resolve_scope.specs.Expressions.{refer}
use Rattle.bq_resolve_scope.specs.Names.{Name, TargetLayer, ClauseLayer, max_layers, has, comprehension_names}
use Rattle.bq_resolve_scope.specs.Scope.{BlockParts, FileParts, or_else, slot_in, slot_of, use_of}
use Rattle.bq_resolve_scope.specs.Visit.{Passed, Visit, ◌>>=◌, pure, given, fault_of, each}
use Rattle.bq_value.specs.Datum.{Datum}
use Rattle.bq_eval_spec.specs.Frame.{Frame}
use Rattle.bq_eval_spec.specs.Primitives.{Primitives}
use Rattle.bq_eval_spec.specs.Slots.{by_slots}
use Rattle.bq_eval_spec.specs.Trees.{Eval}
use Rattle.bq_eval_spec.specs.Names.{Env, by_names}
use Rattle.bq_eval_by_name.specs.Shows.{Nested, Shows}
use Rattle.bq_eval_by_name.proofs.Slots.{held}
use Rattle.bq_eval_by_name.proofs.ComprehensionNames.{NamesIn, names_in_by, variables_in, VariablesIn, variables_are_in}
use Rattle.bq_eval_by_name.proofs.Walks.{Pairwise, After, Every, Walks, from, below_more, walks_bind, walks_weaker, walks_pure, walks_map, Refers, walks_refer, walks_two, walks_each, walks_some}
use Rattle.bq_eval_by_name.proofs.Envs.{shows_bind}
use Rattle.bq_eval_by_name.proofs.Parts.{Agree}
use Rattle.bq_eval_by_name.proofs.Turns.{BindAgree, BindLayer, layer_binds, name_binds, index_binds, unpack_binds, ClauseAgree, ClauseLayerAgree, for_alike, if_alike}
use Rattle.bq_eval_by_name.proofs.Clauses.{ClausesAgree}
use Rattle.bq_eval_by_name.proofs.Making.{made_target, made_clause}

-- ---- names of the innermost block

slot_by : (block : BlockParts) (rest : List BlockParts) (name : Name) (o : Option ℕ) → slot_in block name ≡ o → is_some o ≡ true → (slot : ℕ) × (or_else o (slot_of rest name) ≡ Some slot)
slot_by block rest name None e h = absurd (let no : ⊥ = cc in no)
slot_by block rest name (Some slot) e h = (slot, refl)

pub slot_held : (block : BlockParts) (rest : List BlockParts) (name : Name) → has block.names name ≡ true → (slot : ℕ) × (slot_of (block ∷ rest) name ≡ Some slot)
unfolding slot_of
slot_held block rest name h = slot_by block rest name (slot_in block name) refl (held block name ∙ h)

pub use_is : (file : FileParts) (blocks : List BlockParts) (name : Name) (slot : ℕ) → slot_of blocks name ≡ Some slot → use_of file blocks name ≡ Some (b.Local slot)
unfolding use_of
use_is file blocks name slot at = rw at refl

-- what is around a block is resolved among more
pub walks_inside : {A : Type 0} (block : BlockParts) (rest : List BlockParts) (P : A → Type 0) (v : Visit A) → Walks {A = A} rest P v → Walks {A = A} (block ∷ rest) P v
walks_inside block rest P v h u below = h u below.1

module _ {S : Type 0} (m : Primitives S) (file : FileParts) (visit : List BlockParts → Expr → Visit Expr) (E : Eval S Env) (F : Eval S Frame)
    (visits : (blocks : List BlockParts) → Nested blocks → (x : Expr) → Walks {A = Expr} blocks (λ z. Agree m E F (Shows blocks) x z) (visit blocks x)) where
  module _ (block : BlockParts) (rest : List BlockParts) (nested : Nested (block ∷ rest)) where
    -- ---- targets

    abbrev TargetGood : ℕ → TargetExpr → TargetExpr → Type 0
    TargetGood n t u = BindAgree m by_names by_slots (Shows (block ∷ rest)) n t u

    abbrev Layers : ℕ → TargetLayer → TargetLayer → Type 0
    Layers n o p = BindLayer m by_names by_slots (Shows (block ∷ rest)) n o p

    abbrev LayerGood : ℕ → TargetLayer → TargetExpr → Type 0
    LayerGood n o u = Layers n o (out-TargetExpr u)

    abbrev Placed : Identifier → Identifier → Type 0
    Placed i j = Refers i (scope.place_of (use_of file (block ∷ rest) i.name)) j

    name_walks : (n : ℕ) (i : Identifier) → has block.names i.name ≡ true
        → Walks {A = TargetExpr} (block ∷ rest) (λ u. LayerGood n (TargetExpr-F.TargetExpr::Name i) u) (scope.bound_at file (block ∷ rest) i >>= λ j. pure (target.Name j))
    unfolding scope.bound_at
    name_walks n i h =
        walks_map (block ∷ rest) (λ j. Placed i j) (λ u. LayerGood n (TargetExpr-F.TargetExpr::Name i) u) (scope.bound_at file (block ∷ rest) i) (λ j. target.Name j)
        (λ j at. made_target (λ p. Layers n (TargetExpr-F.TargetExpr::Name i) p) (target.Name j) (TargetExpr-F.TargetExpr::Name j) (target.rolls-Name j)
        (name_binds m by_names by_slots (Shows (block ∷ rest)) n i j (binds j at.0 at.1 at.2)))
        (walks_bind (block ∷ rest) (λ _. Unit {0}) (λ j. Placed i j) (pure (tt {0}))
        (λ _. given (fault_of f.UnknownName i) (scope.place_of (use_of file (block ∷ rest) i.name)) >>= λ x. pure (refer i x)) (walks_pure (block ∷ rest) (λ _. Unit {0}) (tt {0}) (tt {0}))
        (λ _ _. walks_refer (block ∷ rest) (fault_of f.UnknownName i) i (scope.place_of (use_of file (block ∷ rest) i.name))))
      where
        binds : (j : Identifier) (x : Referent) → scope.place_of (use_of file (block ∷ rest) i.name) ≡ Some x → j ≡ refer i x → (env : Env) (frame : Frame) → Shows (block ∷ rest) env frame
            → (v : Datum) → Shows (block ∷ rest) (by_names.bind env i v) (by_slots.bind frame j v)
        binds j x e is env frame shows v =
            let at = slot_held block rest i.name h in
            let used : use_of file (block ∷ rest) i.name ≡ Some (b.Local at.0) = use_is file (block ∷ rest) i.name at.0 at.1 in
            let place : scope.place_of (use_of file (block ∷ rest) i.name) ≡ Some (b.Local at.0) = ap scope.place_of used in
            let one : x ≡ b.Local at.0 = cc in
            rw (is, one) (shows_bind (block ∷ rest) nested env frame i.name at.0 v at.1 shows)

    target_by_walks : (n : ℕ) (inner : TargetExpr → Visit TargetExpr) → ((t : TargetExpr) → NamesIn block.names n t → Walks {A = TargetExpr} (block ∷ rest) (λ u. TargetGood n t u) (inner t)) → (o : TargetLayer)
        → names_in_by (NamesIn block.names n) block.names o → Walks {A = TargetExpr} (block ∷ rest) (λ u. LayerGood n o u) (scope.target_by file visit inner (block ∷ rest) o)
    target_by_walks n inner inners (TargetExpr-F.TargetExpr::Name i) h = name_walks n i h
    target_by_walks n inner inners (TargetExpr-F.TargetExpr::Index x i) h =
        walks_two (block ∷ rest) (λ z. Agree m E F (Shows (block ∷ rest)) x z) (λ z. Agree m E F (Shows (block ∷ rest)) i z) (λ u. LayerGood n (TargetExpr-F.TargetExpr::Index x i) u) (visit (block ∷ rest) x)
        (visit (block ∷ rest) i) (λ y j. target.Index y j)
        (λ y j p q. made_target (λ l. Layers n (TargetExpr-F.TargetExpr::Index x i) l) (target.Index y j) (TargetExpr-F.TargetExpr::Index y j) (target.rolls-Index y j)
        (index_binds m by_names by_slots (Shows (block ∷ rest)) n x i y j)) (visits (block ∷ rest) nested x) (visits (block ∷ rest) nested i)
    target_by_walks n inner inners (TargetExpr-F.TargetExpr::Tuple ts) h =
        walks_map (block ∷ rest) (λ us. Pairwise (TargetGood n) ts us) (λ u. LayerGood n (TargetExpr-F.TargetExpr::Tuple ts) u) (each inner [] ts) (λ us. target.Tuple us)
        (λ us k. made_target (λ p. Layers n (TargetExpr-F.TargetExpr::Tuple ts) p) (target.Tuple us) (TargetExpr-F.TargetExpr::Tuple us) (target.rolls-Tuple us)
        (unpack_binds m by_names by_slots (Shows (block ∷ rest)) n ts us k)) (walks_some (block ∷ rest) (TargetGood n) (NamesIn block.names n) inner inners ts h)
    target_by_walks n inner inners (TargetExpr-F.TargetExpr::List ts) h =
        walks_map (block ∷ rest) (λ us. Pairwise (TargetGood n) ts us) (λ u. LayerGood n (TargetExpr-F.TargetExpr::List ts) u) (each inner [] ts) (λ us. target.List us)
        (λ us k. made_target (λ p. Layers n (TargetExpr-F.TargetExpr::List ts) p) (target.List us) (TargetExpr-F.TargetExpr::List us) (target.rolls-List us)
        (unpack_binds m by_names by_slots (Shows (block ∷ rest)) n ts us k)) (walks_some (block ∷ rest) (TargetGood n) (NamesIn block.names n) inner inners ts h)

    target_walks : (n : ℕ) (t : TargetExpr) → NamesIn block.names n t → Walks {A = TargetExpr} (block ∷ rest) (λ u. TargetGood n t u) (scope.target_to file visit n (block ∷ rest) t)
    unfolding scope.target_to NamesIn
    target_walks zero t h = λ u below. tt
    target_walks (suc n) t h =
        walks_weaker (block ∷ rest) (λ u. LayerGood n (out-TargetExpr t) u) (λ u. TargetGood (suc n) t u) (scope.target_by file visit (scope.target_to file visit n (block ∷ rest)) (block ∷ rest) (out-TargetExpr t))
        (layer_binds m by_names by_slots (Shows (block ∷ rest)) n t) (target_by_walks n (scope.target_to file visit n (block ∷ rest)) (target_walks n) (out-TargetExpr t) h)

    -- ---- clauses

    abbrev ClauseLayers : List BlockParts → ClauseLayer → ClauseLayer → Type 0
    ClauseLayers round o p = ClauseLayerAgree m by_names by_slots (Shows (block ∷ rest)) E F (Shows round) o p

    abbrev ClauseGood : List BlockParts → Clause → Clause → Type 0
    ClauseGood round c d = ClauseAgree m by_names by_slots (Shows (block ∷ rest)) E F (Shows round) c d

    clause_walks : (round : List BlockParts) → ((x : Expr) → Walks {A = Expr} (block ∷ rest) (λ z. Agree m E F (Shows round) x z) (visit round x)) → (o : ClauseLayer) → variables_in block.names o
        → Walks {A = Clause} (block ∷ rest) (λ d. ClauseLayers round o (out-Clause d)) (scope.clause_by file visit round (block ∷ rest) o)
    clause_walks round over (Clause-F.For t x) h =
        walks_two (block ∷ rest) (λ u. TargetGood max_layers t u) (λ z. Agree m E F (Shows round) x z) (λ d. ClauseLayers round (Clause-F.For t x) (out-Clause d))
        (scope.target_to file visit max_layers (block ∷ rest) t) (visit round x) (λ u y. clause.For u y)
        (λ u y p q. made_clause (λ l. ClauseLayers round (Clause-F.For t x) l) (clause.For u y) (Clause-F.For u y) (clause.rolls-For u y)
        (for_alike m by_names by_slots (Shows (block ∷ rest)) E F (Shows round) t u x y p q)) (target_walks max_layers t h) (over x)
    clause_walks round over (Clause-F.If x) h =
        walks_map (block ∷ rest) (λ z. Agree m E F (Shows (block ∷ rest)) x z) (λ d. ClauseLayers round (Clause-F.If x) (out-Clause d)) (visit (block ∷ rest) x) (λ y. clause.If y)
        (λ y p. made_clause (λ l. ClauseLayers round (Clause-F.If x) l) (clause.If y) (Clause-F.If y) (clause.rolls-If y)
        (if_alike m by_names by_slots (Shows (block ∷ rest)) E F (Shows round) x y p)) (visits (block ∷ rest) nested x)

    later_walks : (c : Clause) → VariablesIn block.names c → Walks {A = Clause} (block ∷ rest) (λ d. ClauseGood (block ∷ rest) c d) (scope.clause_by file visit (block ∷ rest) (block ∷ rest) (out-Clause c))
    later_walks c h = clause_walks (block ∷ rest) (visits (block ∷ rest) nested) (out-Clause c) h

    abbrev ClausesGood : List Clause → List Clause → Type 0
    ClausesGood cs ds = ClausesAgree m by_names by_slots E F (Shows (block ∷ rest)) (Shows rest) cs ds

    pub clauses_walk : (cs : List Clause) → Every (VariablesIn block.names) cs → Walks {A = List Clause} (block ∷ rest) (λ ds. ClausesGood cs ds) (scope.clauses file visit rest (block ∷ rest) cs)
    unfolding scope.clauses
    clauses_walk [] h = walks_pure (block ∷ rest) (λ ds. ClausesGood [] ds) [] tt
    clauses_walk (c ∷ cs) h =
        walks_bind (block ∷ rest) (λ d. ClauseGood rest c d) (λ ds. ClausesGood (c ∷ cs) ds) (scope.clause_by file visit rest (block ∷ rest) (out-Clause c))
        (λ y. each (λ z. scope.clause_by file visit (block ∷ rest) (block ∷ rest) (out-Clause z)) (y ∷ []) cs)
        (clause_walks rest (λ x. walks_inside block rest (λ z. Agree m E F (Shows rest) x z) (visit rest x) (visits rest nested.1 x)) (out-Clause c) h.0)
        (λ y k. walks_weaker (block ∷ rest) (λ zs. After (ClauseGood (block ∷ rest)) (y ∷ []) cs zs) (λ ds. ClausesGood (c ∷ cs) ds)
        (each (λ z. scope.clause_by file visit (block ∷ rest) (block ∷ rest) (out-Clause z)) (y ∷ []) cs)
        (λ zs a. subst (λ ds. ClausesGood (c ∷ cs) ds) (sym a.2) (k, a.1))
        (walks_each (block ∷ rest) (ClauseGood (block ∷ rest)) (VariablesIn block.names) (λ z. scope.clause_by file visit (block ∷ rest) (block ∷ rest) (out-Clause z)) later_walks (y ∷ []) cs h.1))

  -- ---- comprehensions: what is before the clauses resolves to something of which `P` holds

  module _ {A : Type 0} (element : List BlockParts → Visit A) (make : A → List Clause → ComprehensionFrame → Expr) (P : List BlockParts → A → Type 0)
      (elements : (blocks : List BlockParts) → Nested blocks → Walks {A = A} blocks (λ y. P blocks y) (element blocks)) where
    -- its clauses, in a block of its own
    abbrev pub Comprehends : List BlockParts → List Clause → (ComprehensionFrame → Expr) → Type 0
    Comprehends rest cs made =
        (y : A) × (ds : List Clause) × (base : ℕ) × (nested : Nested (record { base = base; names = comprehension_names cs } ∷ rest)) × P (record { base = base; names = comprehension_names cs } ∷ rest) y
        × ClausesAgree m by_names by_slots E F (Shows (record { base = base; names = comprehension_names cs } ∷ rest)) (Shows rest) cs ds × (made ≡ make y ds)

    pub block_walks : (rest : List BlockParts) → Nested rest → (cs : List Clause) → Walks {A = ComprehensionFrame → Expr} rest (λ made. Comprehends rest cs made) (scope.in_block file visit element make rest cs)
    unfolding scope.in_block
    block_walks rest nested cs u below =
        let block : BlockParts = record { base = u.slots; names = comprehension_names cs } in
        let next : Passed = record u { slots = u.slots + length (comprehension_names cs) } in
        let around : Nested (block ∷ rest) = (below, nested) in
        let more : u.slots ≤ u.slots + length (comprehension_names cs) = omega arith in
        let same : u.slots + length (comprehension_names cs) ≤ u.slots + length (comprehension_names cs) = omega arith in
        from (λ made. Comprehends rest cs made) u.slots next.slots
        ((element (block ∷ rest) >>= λ x. scope.clauses file visit rest (block ∷ rest) cs >>= λ ys. pure (make x ys)) next) more
        (walks_two (block ∷ rest) (λ y. P (block ∷ rest) y) (λ ds. ClausesAgree m by_names by_slots E F (Shows (block ∷ rest)) (Shows rest) cs ds) (λ made. Comprehends rest cs made) (element (block ∷ rest))
        (scope.clauses file visit rest (block ∷ rest) cs) make (λ y ds h k. (y, ds, u.slots, around, h, k, refl))
        (elements (block ∷ rest) around) (clauses_walk block rest around cs (variables_are_in cs)) next (same, below_more rest u.slots next.slots more below))
