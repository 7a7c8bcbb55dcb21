-- Expressions resolve to what means the same.
use Rattle.std.proofs.Common.{◌≡◌, ℕ, List, [], ◌∷◌, Result, Ok, Err, refl, sym, subst, arith}
use Rattle.bq_base.specs.declared.fault.NameFault.{NameFault}
use Rattle.bq_base.specs.declared.fault.Fault.{Fault}
use Rattle.bq_base.specs.declared.fault.NameFault.TheVariants as f
use Rattle.bq_parse_grammar.specs.declared.tree.Argument.TheOpen.{Expr-F}
use Rattle.bq_parse_grammar.specs.declared.tree.Clause.{Clause}
use Rattle.bq_parse_grammar.specs.declared.tree.ComprehensionFrame.{ComprehensionFrame}
use Rattle.bq_parse_grammar.specs.declared.tree.ComprehensionFrame.TheVariants as frames
use Rattle.bq_parse_grammar.specs.declared.tree.Expr.{Expr, out-Expr, roll-Expr}
use Rattle.bq_parse_grammar.specs.declared.tree.Expr.TheVariants as e
use Rattle.bq_parse_grammar.specs.Targets.{ExprLayer}
use Rattle.bq_resolve_scope.specs.Expressions as scope
use Rattle.bq_resolve_scope.specs.Names.{comprehension_names}
use Rattle.bq_resolve_scope.specs.Scope.{BlockParts, FileParts, use_of}
use Rattle.bq_resolve_scope.specs.Visit.{Passed, Visit, fault_of, each}
use Rattle.bq_value.specs.Contents.{Contents, items, pairs}
use Rattle.bq_value.specs.Datum.{Datum}
use Rattle.bq_builtin_machine.specs.Action.{Action}
use Rattle.bq_builtin_machine.specs.Args as args
use Rattle.bq_eval_spec.specs.Frame.{Frame, Surroundings, empty}
use Rattle.bq_eval_spec.specs.Primitives.{Primitives}
use Rattle.bq_eval_spec.specs.Comprehensions as turns
use Rattle.bq_eval_spec.specs.Comprehensions.{Turn}
use Rattle.bq_eval_spec.specs.Expressions as forms
use Rattle.bq_eval_spec.specs.Slots.{opened, by_slots}
use Rattle.bq_eval_spec.specs.Trees.{Eval, Calls}
use Rattle.bq_eval_spec.specs.Names.{Env, Round, declare, by_names}
use Rattle.bq_eval_by_name.specs.Shows.{Nested, Shows, Around}
use Rattle.bq_eval_by_name.proofs.Runs.{itself}
use Rattle.bq_eval_by_name.proofs.Walks.{Pairwise, Walked, Walks, walks_weaker, walks_pure, walks_map, Refers, walks_refer, walks_two, walks_all}
use Rattle.bq_eval_by_name.proofs.Envs.{shows_declare, shows_framed}
use Rattle.bq_eval_by_name.proofs.Uses.{use_alike, use_is_plain}
use Rattle.bq_eval_by_name.proofs.Parts.{Both, Agree, PairAgree, OperationAgree, ChoiceAgree, list_alike, tuple_alike, dict_alike, unary_alike, binary_alike, compare_alike, conditional_alike}
use Rattle.bq_eval_by_name.proofs.Turns.{TurnAlike, element_alike, pair_element_alike}
use Rattle.bq_eval_by_name.proofs.Clauses.{comprehension_alike}
use Rattle.bq_eval_by_name.proofs.Making.{made_expr}
use Rattle.bq_eval_by_name.proofs.ResolvedParts.{IsPlain, Stands, Means, pair_walks, operation_walks, choice_walks, primary_walks}
use Rattle.bq_eval_by_name.proofs.ResolvedClauses.{Comprehends, block_walks}

module _ {S : Type 0} (m : Primitives S) (file : FileParts) (visit : List BlockParts → Expr → Visit Expr) (E : Eval S Env) (F : Eval S Frame) (call other : Calls S)
    (called : (v : Datum) (p : args.Passed) (s : S) → call v p s ≡ other v p s) (round : Round) (surroundings : Surroundings) (around : Around file round surroundings)
    (values : (blocks : List BlockParts) → Nested blocks → (x : Expr) → Walks {A = Expr} blocks (λ z. Stands E F blocks x z) (visit blocks x)) where
  visits : (blocks : List BlockParts) → Nested blocks → (x : Expr) → Walks {A = Expr} blocks (λ z. Agree m E F (Shows blocks) x z) (visit blocks x)
  visits blocks nested x = walks_weaker blocks (λ z. Stands E F blocks x z) (λ z. Agree m E F (Shows blocks) x z) (visit blocks x) (λ z h. h.1) (values blocks nested x)

  -- what this does in an environment, the tree means in a frame, looked at for a layer more
  abbrev Meant : List BlockParts → (Env → Action S Datum) → Expr → Type 0
  Meant blocks g z = Means m F other surroundings blocks g (out-Expr z)

  -- ---- comprehensions: what is before the clauses, and the comprehension that is made of it

  module _ {A : Type 0} (element : List BlockParts → Visit A) (make : A → List Clause → ComprehensionFrame → Expr) (P : List BlockParts → A → Type 0)
      (elements : (blocks : List BlockParts) → Nested blocks → Walks {A = A} blocks (λ y. P blocks y) (element blocks)) (none : Contents) (inner : Turn S Env) (within : A → Turn S Frame)
      (alike : (blocks : List BlockParts) (y : A) → P blocks y → TurnAlike m by_names by_slots (Shows blocks) inner (within y))
      (made : (blocks : List BlockParts) (g : Env → Action S Datum) (y : A) (ds : List Clause) (own : ComprehensionFrame) → Both (Shows blocks) g (turns.comprehension m by_slots F none (within y) ds own)
      → Meant blocks g (make y ds own)) where
    abbrev Made : List BlockParts → List Clause → (ComprehensionFrame → Expr) → Type 0
    Made rest cs z = Comprehends m file visit E F visits element make P elements rest cs z

    -- its block opens in the frame around it, or in one of its own
    abbrev Opens : List BlockParts → List Clause → ComprehensionFrame → Type 0
    Opens rest cs mine =
        (base : ℕ) → Nested (record { base = base; names = comprehension_names cs } ∷ rest) → (env : Env) (frame : Frame) → Shows rest env frame
        → Shows (record { base = base; names = comprehension_names cs } ∷ rest) (declare env (comprehension_names cs)) (opened frame mine)

    comprehends : (rest : List BlockParts) (cs : List Clause) (own mine : ComprehensionFrame) → Opens rest cs mine → (z : ComprehensionFrame → Expr) → Made rest cs z
        → Meant rest (turns.comprehension m by_names E none inner cs own) (z mine)
    comprehends rest cs own mine opens z h =
        subst (λ f. Meant rest (turns.comprehension m by_names E none inner cs own) (f mine)) (sym h.6)
        (made rest (turns.comprehension m by_names E none inner cs own) h.0 h.1 mine
        (comprehension_alike m by_names by_slots E F (Shows (record { base = h.2; names = comprehension_names cs } ∷ rest)) (Shows rest) cs h.1 h.5 own mine (opens h.2 h.3) none inner (within h.0)
        (alike (record { base = h.2; names = comprehension_names cs } ∷ rest) h.0 h.4)))

    framed_walks : (cs : List Clause) (own : ComprehensionFrame) (k : ℕ) (r : Result ((ComprehensionFrame → Expr) × Passed) (Fault NameFault)) → Walked {A = ComprehensionFrame → Expr} (λ z. Made [] cs z) 0 r
        → Walked {A = Expr} (λ z. Meant [] (turns.comprehension m by_names E none inner cs own) z) k (scope.framed k r)
    framed_walks cs own k (Err why) h = tt
    framed_walks cs own k (Ok p) h = (
      omega arith,
      comprehends [] cs own (frames.Own p.1.slots)
          (λ base nested env frame shows. shows_declare (record { base = base; names = comprehension_names cs }) [] env empty nested.0 (shows_framed env frame shows)) p.0 h.1,
    )

    comprehension_walks : (blocks : List BlockParts) → Nested blocks → (cs : List Clause) (own : ComprehensionFrame)
        → Walks {A = Expr} blocks (λ z. Meant blocks (turns.comprehension m by_names E none inner cs own) z) (scope.comprehension file visit element make blocks cs)
    unfolding scope.comprehension
    comprehension_walks [] nested cs own = λ u below.
        framed_walks cs own u.slots (scope.in_block file visit element make [] cs (record u { slots = 0 })) (block_walks m file visit E F visits element make P elements [] tt cs (record u { slots = 0 }) tt)
    comprehension_walks (b ∷ bs) nested cs own =
        walks_map (b ∷ bs) (λ z. Made (b ∷ bs) cs z) (λ z. Meant (b ∷ bs) (turns.comprehension m by_names E none inner cs own) z) (scope.in_block file visit element make (b ∷ bs) cs) (λ z. z frames.Shared)
        (comprehends (b ∷ bs) cs own frames.Shared (λ base inside env frame shows. shows_declare (record { base = base; names = comprehension_names cs }) (b ∷ bs) env frame inside.0 shows))
        (block_walks m file visit E F visits element make P elements (b ∷ bs) nested cs)

  -- ---- all forms

  module _ (blocks : List BlockParts) (nested : Nested blocks) where
    abbrev Here : ExprLayer → Expr → Type 0
    Here o z = Meant blocks (forms.expr_by m by_names E call round o) z

    made : (o : ExprLayer) (z : Expr) (p : ExprLayer) → roll-Expr p ≡ z → IsPlain p
        → Both (Shows blocks) (forms.expr_by m by_names E call round o) (forms.expr_by m by_slots F other surroundings p) → Here o z
    made o z p rolls plain h = made_expr (λ q. Means m F other surroundings blocks (forms.expr_by m by_names E call round o) q) z p rolls (plain, h)

    pub expr_by_walks : (o : ExprLayer) → Walks {A = Expr} blocks (λ z. Here o z) (scope.expr_by file visit blocks o)
    unfolding scope.use_at
    expr_by_walks (Expr-F.Expr::Name n) =
        walks_map blocks (λ j. Refers n (use_of file blocks n.name) j) (λ z. Here (Expr-F.Expr::Name n) z) (scope.use_at file blocks n) (λ j. e.Name j)
        (λ j at. made (Expr-F.Expr::Name n) (e.Name j) (Expr-F.Expr::Name j) (e.rolls-Name j) (rw at.2 (use_is_plain file blocks n.name at.0 at.1))
        (λ env frame shows s. rw at.2 (use_alike m round surroundings frame file around blocks env shows n at.0 at.1 s)))
        (walks_refer blocks (fault_of f.UnknownName n) n (use_of file blocks n.name))
    expr_by_walks (Expr-F.Int i) = walks_pure blocks (λ z. Here (Expr-F.Int i) z) (e.Int i) (made (Expr-F.Int i) (e.Int i) (Expr-F.Int i) (e.rolls-Int i) refl (λ env frame shows s. itself _))
    expr_by_walks (Expr-F.String t) = walks_pure blocks (λ z. Here (Expr-F.String t) z) (e.String t) (made (Expr-F.String t) (e.String t) (Expr-F.String t) (e.rolls-String t) refl (λ env frame shows s. itself _))
    expr_by_walks (Expr-F.Expr::List xs) =
        walks_map blocks (λ ys. Pairwise (Agree m E F (Shows blocks)) xs ys) (λ z. Here (Expr-F.Expr::List xs) z) (each (visit blocks) [] xs) (λ ys. e.List ys)
        (λ ys h. made (Expr-F.Expr::List xs) (e.List ys) (Expr-F.Expr::List ys) (e.rolls-List ys) refl (list_alike m E F (Shows blocks) xs ys h)) (walks_all blocks (Agree m E F (Shows blocks)) (visit blocks) (visits blocks nested) xs)
    expr_by_walks (Expr-F.Expr::Tuple xs) =
        walks_map blocks (λ ys. Pairwise (Agree m E F (Shows blocks)) xs ys) (λ z. Here (Expr-F.Expr::Tuple xs) z) (each (visit blocks) [] xs) (λ ys. e.Tuple ys)
        (λ ys h. made (Expr-F.Expr::Tuple xs) (e.Tuple ys) (Expr-F.Expr::Tuple ys) (e.rolls-Tuple ys) refl (tuple_alike m E F (Shows blocks) xs ys h)) (walks_all blocks (Agree m E F (Shows blocks)) (visit blocks) (visits blocks nested) xs)
    expr_by_walks (Expr-F.Dict ps) =
        walks_map blocks (λ qs. Pairwise (PairAgree m E F (Shows blocks)) ps qs) (λ z. Here (Expr-F.Dict ps) z) (each (scope.pair file visit blocks) [] ps) (λ qs. e.Dict qs)
        (λ qs h. made (Expr-F.Dict ps) (e.Dict qs) (Expr-F.Dict qs) (e.rolls-Dict qs) refl (dict_alike m E F (Shows blocks) ps qs h))
        (walks_all blocks (PairAgree m E F (Shows blocks)) (scope.pair file visit blocks) (pair_walks m file visit E F blocks (visits blocks nested)) ps)
    expr_by_walks (Expr-F.ListComprehension x cs own) =
        comprehension_walks (λ bs. visit bs x) e.ListComprehension (λ bs y. Agree m E F (Shows bs) x y) (λ bs ns. visits bs ns x) (items []) (turns.element m E x) (turns.element m F)
        (λ bs y h. element_alike m by_names by_slots (Shows bs) E F x y h)
        (λ bs g y ds mine h. made_expr (λ q. Means m F other surroundings bs g q) (e.ListComprehension y ds mine) (Expr-F.ListComprehension y ds mine) (e.rolls-ListComprehension y ds mine) (refl, h)) blocks nested cs own
    expr_by_walks (Expr-F.DictComprehension p cs own) =
        comprehension_walks (λ bs. scope.pair file visit bs p) e.DictComprehension (λ bs y. PairAgree m E F (Shows bs) p y) (λ bs ns. pair_walks m file visit E F bs (visits bs ns) p) (pairs []) (turns.pair_element m E p)
        (turns.pair_element m F) (λ bs y h. pair_element_alike m by_names by_slots (Shows bs) E F p y h)
        (λ bs g y ds mine h. made_expr (λ q. Means m F other surroundings bs g q) (e.DictComprehension y ds mine) (Expr-F.DictComprehension y ds mine) (e.rolls-DictComprehension y ds mine) (refl, h)) blocks nested cs own
    expr_by_walks (Expr-F.Primary x ss) = primary_walks m file visit E F blocks (visits blocks nested) call other called surroundings round around (values blocks nested) x ss
    expr_by_walks (Expr-F.Unary os x) =
        walks_map blocks (λ y. Agree m E F (Shows blocks) x y) (λ z. Here (Expr-F.Unary os x) z) (visit blocks x) (λ y. e.Unary os y)
        (λ y h. made (Expr-F.Unary os x) (e.Unary os y) (Expr-F.Unary os y) (e.rolls-Unary os y) refl (unary_alike m E F (Shows blocks) os x y h)) (visits blocks nested x)
    expr_by_walks (Expr-F.Binary x os) =
        walks_two blocks (λ y. Agree m E F (Shows blocks) x y) (λ ps. Pairwise (OperationAgree m E F (Shows blocks)) os ps) (λ z. Here (Expr-F.Binary x os) z) (visit blocks x) (each (scope.operation file visit blocks) [] os)
        (λ y ps. e.Binary y ps) (λ y ps h k. made (Expr-F.Binary x os) (e.Binary y ps) (Expr-F.Binary y ps) (e.rolls-Binary y ps) refl (binary_alike m E F (Shows blocks) x y os ps h k)) (visits blocks nested x)
        (walks_all blocks (OperationAgree m E F (Shows blocks)) (scope.operation file visit blocks) (operation_walks m file visit E F blocks (visits blocks nested)) os)
    expr_by_walks (Expr-F.Compare x o y) =
        walks_two blocks (λ v. Agree m E F (Shows blocks) x v) (λ w. Agree m E F (Shows blocks) y w) (λ z. Here (Expr-F.Compare x o y) z) (visit blocks x) (visit blocks y) (λ v w. e.Compare v o w)
        (λ v w h k. made (Expr-F.Compare x o y) (e.Compare v o w) (Expr-F.Compare v o w) (e.rolls-Compare v o w) refl (compare_alike m E F (Shows blocks) x y o v w h k)) (visits blocks nested x) (visits blocks nested y)
    expr_by_walks (Expr-F.Conditional xs x) =
        walks_two blocks (λ ys. Pairwise (ChoiceAgree m E F (Shows blocks)) xs ys) (λ w. Agree m E F (Shows blocks) x w) (λ z. Here (Expr-F.Conditional xs x) z) (each (scope.choice file visit blocks) [] xs) (visit blocks x)
        (λ ys w. e.Conditional ys w) (λ ys w h k. made (Expr-F.Conditional xs x) (e.Conditional ys w) (Expr-F.Conditional ys w) (e.rolls-Conditional ys w) refl (conditional_alike m E F (Shows blocks) xs ys x w h k))
        (walks_all blocks (ChoiceAgree m E F (Shows blocks)) (scope.choice file visit blocks) (choice_walks m file visit E F blocks (visits blocks nested)) xs) (visits blocks nested x)
    expr_by_walks Expr-F.Lambda = walks_pure blocks (λ z. Here Expr-F.Lambda z) e.Lambda (made Expr-F.Lambda e.Lambda Expr-F.Lambda e.rolls-Lambda refl (λ env frame shows s. refl))
