-- A tree is sound that is no deeper than the layers that are looked at, and in which nothing is left out or misplaced.
use Rattle.std.proofs.Common.{◌≡◌, ◌∙◌, ◌≤◌, ℕ, zero, suc, ◌+◌, Bool, true, false, ◌||◌, List, [], ◌∷◌, map, Option, Some, None, refl, sym, ap, arith}
use Rattle.std.specs.List.{AllByRecursion, list_any}
use Rattle.std.specs.Option.{option_map}
use Rattle.bq_parse_grammar.specs.declared.tree.Argument.TheOpen.{Argument-F, Clause-F, Expr-F, Suffix-F, TargetExpr-F}
use Rattle.bq_parse_grammar.specs.declared.tree.Argument.{Argument, out-Argument}
use Rattle.bq_parse_grammar.specs.declared.tree.Branch.{Branch, out-Branch}
use Rattle.bq_parse_grammar.specs.declared.tree.Choice.{Choice, out-Choice}
use Rattle.bq_parse_grammar.specs.declared.tree.Clause.{Clause, out-Clause}
use Rattle.bq_parse_grammar.specs.declared.tree.Expr.{Expr, out-Expr}
use Rattle.bq_parse_grammar.specs.declared.tree.Operation.{Operation, out-Operation}
use Rattle.bq_parse_grammar.specs.declared.tree.Pair.{Pair, out-Pair}
use Rattle.bq_parse_grammar.specs.declared.tree.Referent.{Referent}
use Rattle.bq_parse_grammar.specs.declared.tree.Referent.TheVariants as referent
use Rattle.bq_parse_grammar.specs.declared.tree.SmallKind.{SmallKind}
use Rattle.bq_parse_grammar.specs.declared.tree.SmallKind.TheVariants as small
use Rattle.bq_parse_grammar.specs.declared.tree.SmallStmt.{SmallStmt}
use Rattle.bq_parse_grammar.specs.declared.tree.Stmt.{Stmt, out-Stmt}
use Rattle.bq_parse_grammar.specs.declared.tree.Stmt.TheOpen.{Stmt-F}
use Rattle.bq_parse_grammar.specs.declared.tree.Suffix.{Suffix, out-Suffix}
use Rattle.bq_parse_grammar.specs.declared.tree.TargetExpr.{TargetExpr, out-TargetExpr}
use Rattle.bq_parse_grammar.specs.Targets.{ExprLayer, SuffixLayer}
use Rattle.bq_parse_laws.specs.Depth.{deepest, argument_step, clause_step, suffix_step, target_step, expr_step, expr_depth, target_depth, argument_depth, clause_depth, suffix_depth, choice_depth, operation_depth, pair_depth, kind_depth, small_depth, stmt_step, stmt_depth, branch_depth}
use Rattle.bq_parse_laws.specs.LeftOut.{sum_of, optional_count, argument_left, clause_left, suffix_left, target_left, expr_left, expr_count, target_count, argument_count, clause_count, suffix_count, choice_count, operation_count, pair_count, kind_count, small_count, stmt_left, stmt_count, branch_count, stmt_nested, has_nested, branch_has_nested}
use Rattle.bq_resolve_scope.specs.Names.{TargetLayer, ClauseLayer, max_layers}
use Rattle.bq_eval_spec.specs.Trees.{ArgumentLayer, StmtLayer}
use Rattle.bq_eval_laws.specs.Layers.{PairParts, OperationParts, ChoiceParts, ArgumentLayerParts, ArgumentParts, OptionalParts, SuffixLayerParts, SuffixParts, ClauseLayerParts, ClauseParts, ExprParts, TargetParts}
use Rattle.bq_eval_laws.specs.Fits.{IndexParts, VariablesOfLayer, Variables, VariableParts}
use Rattle.bq_eval_laws.specs.Referents.{RefersToAny, RefersToPlace}
use Rattle.bq_eval_laws.proofs.Fitting.{depths, stmt_depths, target_is_deep, expr_is_deep, stmt_is_deep}
use Rattle.bq_eval_laws.proofs.Measures.{argument_inside, clause_inside, suffix_inside, target_inside, expr_inside, stmt_inside, opened_argument, opened_clause, opened_suffix, opened_target, opened_expr, opened_pair, opened_operation, opened_choice, opened_stmt, opened_branch, argument_of, clause_of, expr_of, suffix_of, choice_of, operation_of, pair_of, stmt_of, branch_of}
use Rattle.bq_eval_laws.specs.Sound.{NameIsPlace, TargetIsSoundTo, NoExpr, AreNames, IsOneLayer, IsOne, SuffixIsKeptLayer, SuffixIsKept, IsKept, ExprIsSoundTo, ExprIsSound, PlaceIsSound, KindIsSound, SmallIsSound, BranchIsSound, StmtLayerIsSound, StmtIsSound}
use Rattle.bq_eval_laws.proofs.LeftOut.{lefts, stmt_lefts, stmt_nests}
use Rattle.bq_eval_laws.proofs.Misplaced.{InTarget, loose_at, stray_at, resolved, variables_by, place_by, several_by, all_variables, all_places, kind_by, small_by, stmt_step_by, stmts_by}

-- ---- lists: what holds of each that is no deeper, and in which nothing is counted

pub each_one : {A : Type 0} (c : A → ℕ) (P : A → Type 0) → ((x : A) → c x ≡ 0 → P x) → (xs : List A) → sum_of (map c xs) ≡ 0 → AllByRecursion P xs
each_one c P holds [] k = tt
each_one c P holds (x ∷ xs) k =
    let a : c x ≡ 0 = omega arith in
    let b : sum_of (map c xs) ≡ 0 = omega arith in
    (holds x a, each_one c P holds xs b)

each_two : {A : Type 0} (d w : A → ℕ) (n : ℕ) (P : A → Type 0) → ((x : A) → d x ≤ n → w x ≡ 0 → P x) → (xs : List A) → deepest (map d xs) ≤ n → sum_of (map w xs) ≡ 0 → AllByRecursion P xs
each_two d w n P holds [] h l = tt
each_two d w n P holds (x ∷ xs) h l =
    let a : d x ≤ n = omega arith in
    let b : w x ≡ 0 = omega arith in
    let deep : deepest (map d xs) ≤ n = omega arith in
    let rest : sum_of (map w xs) ≡ 0 = omega arith in
    (holds x a b, each_two d w n P holds xs deep rest)

each_three : {A : Type 0} (d c w : A → ℕ) (n : ℕ) (P : A → Type 0) → ((x : A) → d x ≤ n → c x ≡ 0 → w x ≡ 0 → P x) → (xs : List A) → deepest (map d xs) ≤ n → sum_of (map c xs) ≡ 0
    → sum_of (map w xs) ≡ 0 → AllByRecursion P xs
each_three d c w n P holds [] h k l = tt
each_three d c w n P holds (x ∷ xs) h k l =
    let a : d x ≤ n = omega arith in
    let b : c x ≡ 0 = omega arith in
    let e : w x ≡ 0 = omega arith in
    let deep : deepest (map d xs) ≤ n = omega arith in
    let none : sum_of (map c xs) ≡ 0 = omega arith in
    let rest : sum_of (map w xs) ≡ 0 = omega arith in
    (holds x a b e, each_three d c w n P holds xs deep none rest)

pub both_off : (a b : Bool) → (a || b) ≡ false → (a ≡ false) × (b ≡ false)
both_off true b h = absurd (let no : ⊥ = cc in no)
both_off false b h = (refl, h)

-- where no `def` is in any of these
each_four : {A : Type 0} (d c w : A → ℕ) (b : A → Bool → Bool) (n : ℕ) (P : A → Type 0) → ((x : A) → d x ≤ n → c x ≡ 0 → b x true ≡ false → w x ≡ 0 → P x) → (xs : List A)
    → deepest (map d xs) ≤ n → sum_of (map c xs) ≡ 0 → list_any (λ f. f true) (map b xs) ≡ false → sum_of (map w xs) ≡ 0 → AllByRecursion P xs
each_four d c w b n P holds [] h k f l = tt
each_four d c w b n P holds (x ∷ xs) h k f l =
    let flat : (b x true ≡ false) × (list_any (λ g. g true) (map b xs) ≡ false) = both_off (b x true) (list_any (λ g. g true) (map b xs)) f in
    let deep : deepest (map d xs) ≤ n = omega arith in
    let none : sum_of (map c xs) ≡ 0 = omega arith in
    let rest : sum_of (map w xs) ≡ 0 = omega arith in
    (holds x (omega arith) (omega arith) flat.0 (omega arith), each_four d c w b n P holds xs deep none flat.1 rest)

-- where two facts hold of each, the first does, and so does the second

firsts : {A : Type 0} (P Q : A → Type 0) (xs : List A) → AllByRecursion (λ x. P x × Q x) xs → AllByRecursion P xs
firsts P Q [] h = tt
firsts P Q (x ∷ xs) h = (h.0.0, firsts P Q xs h.1)

seconds : {A : Type 0} (P Q : A → Type 0) (xs : List A) → AllByRecursion (λ x. P x × Q x) xs → AllByRecursion Q xs
seconds P Q [] h = tt
seconds P Q (x ∷ xs) h = (h.0.1, seconds P Q xs h.1)

-- ---- names

refers : (r : Referent) → loose_at r ≡ 0 → RefersToAny r
refers (referent.Unresolved line) h = absurd (omega arith)
refers (referent.Local slot) h = tt
refers (referent.Global k) h = tt
refers (referent.Loaded k) h = tt
refers (referent.Predeclared p) h = tt
refers (referent.Member p) h = tt

is_place : (r : Referent) → stray_at r ≡ 0 → RefersToPlace r
is_place (referent.Unresolved line) h = absurd (omega arith)
is_place (referent.Local slot) h = tt
is_place (referent.Global k) h = tt
is_place (referent.Loaded k) h = absurd (omega arith)
is_place (referent.Predeclared p) h = absurd (omega arith)
is_place (referent.Member p) h = absurd (omega arith)

-- ---- the variables of a `for`

names_layer : (layers : ℕ) → ((t : TargetExpr) → target_depth t ≤ layers → variables_by resolved t ≡ 0 → TargetIsSoundTo NoExpr layers t) → (o : TargetLayer) → target_step (target_inside depths o) ≤ layers + 1
    → (resolved.target_step (target_inside resolved o)).variables ≡ 0 → TargetParts (TargetIsSoundTo NoExpr layers) o × IndexParts NoExpr o × NameIsPlace o
names_layer layers inners (TargetExpr-F.TargetExpr::Name n) h l = (tt, tt, is_place n.referent l)
names_layer layers inners (TargetExpr-F.TargetExpr::Index x i) h l = absurd (omega arith)
names_layer layers inners (TargetExpr-F.TargetExpr::Tuple ts) h l = (each_two target_depth (variables_by resolved) layers (TargetIsSoundTo NoExpr layers) inners ts (omega arith) (sym (all_variables resolved ts) ∙ l), tt, tt)
names_layer layers inners (TargetExpr-F.TargetExpr::List ts) h l = (each_two target_depth (variables_by resolved) layers (TargetIsSoundTo NoExpr layers) inners ts (omega arith) (sym (all_variables resolved ts) ∙ l), tt, tt)

are_names : (layers : ℕ) (t : TargetExpr) → target_depth t ≤ layers → variables_by resolved t ≡ 0 → TargetIsSoundTo NoExpr layers t
unfolding TargetIsSoundTo
are_names zero t h l = absurd (omega (arith, opened_target depths t, target_is_deep (out-TargetExpr t)))
are_names (suc layers) t h l =
    names_layer layers (are_names layers) (out-TargetExpr t) (omega (arith, opened_target depths t)) (sym (ap (λ (c : InTarget). c.variables) (opened_target resolved t)) ∙ l)

module _ (build : Bool) where
  -- ---- expressions: `P` holds of those that are at most this deep, and in which nothing is left out or misplaced

  module _ (n : ℕ) (P : Expr → Type 0) (sound : (x : Expr) → expr_depth x ≤ n → expr_count build x ≡ 0 → expr_of resolved x ≡ 0 → P x) where
    argument : (o : ArgumentLayer) → argument_step (argument_inside depths o) ≤ n → argument_left build (argument_inside (lefts build) o) ≡ 0 → resolved.argument_step (argument_inside resolved o) ≡ 0
        → ArgumentLayerParts P o
    argument (Argument-F.Positional x) h k l = sound x h k l
    argument (Argument-F.Named name x) h k l = sound x h k l
    argument (Argument-F.Star x) h k l = sound x h (omega arith) l
    argument (Argument-F.StarStar x) h k l = sound x h (omega arith) l

    arguments : (xs : List Argument) → deepest (map argument_depth xs) ≤ n → sum_of (map (argument_count build) xs) ≡ 0 → sum_of (map (argument_of resolved) xs) ≡ 0 → AllByRecursion (ArgumentParts P) xs
    arguments =
        each_three argument_depth (argument_count build) (argument_of resolved) n (ArgumentParts P)
        (λ x h k l. argument (out-Argument x) (omega (arith, opened_argument depths x)) (omega (arith, opened_argument (lefts build) x)) (omega (arith, opened_argument resolved x)))

    slice : (i j k : Option Expr) → suffix_step (Suffix-F.Slice (option_map expr_depth i) (option_map expr_depth j) (option_map expr_depth k)) ≤ n
        → optional_count (option_map (expr_count build) i) + (optional_count (option_map (expr_count build) j) + optional_count (option_map (expr_count build) k)) ≡ 0
        → optional_count (option_map (expr_of resolved) i) + (optional_count (option_map (expr_of resolved) j) + optional_count (option_map (expr_of resolved) k)) ≡ 0 → OptionalParts P i × OptionalParts P j × OptionalParts P k
    slice None None None h c l = (tt, tt, tt)
    slice None None (Some k) h c l = (tt, tt, sound k (omega arith) (omega arith) (omega arith))
    slice None (Some j) None h c l = (tt, sound j (omega arith) (omega arith) (omega arith), tt)
    slice None (Some j) (Some k) h c l = (tt, sound j (omega arith) (omega arith) (omega arith), sound k (omega arith) (omega arith) (omega arith))
    slice (Some i) None None h c l = (sound i (omega arith) (omega arith) (omega arith), tt, tt)
    slice (Some i) None (Some k) h c l = (sound i (omega arith) (omega arith) (omega arith), tt, sound k (omega arith) (omega arith) (omega arith))
    slice (Some i) (Some j) None h c l = (sound i (omega arith) (omega arith) (omega arith), sound j (omega arith) (omega arith) (omega arith), tt)
    slice (Some i) (Some j) (Some k) h c l =
        (sound i (omega arith) (omega arith) (omega arith), sound j (omega arith) (omega arith) (omega arith), sound k (omega arith) (omega arith) (omega arith))

    suffix : (o : SuffixLayer) → suffix_step (suffix_inside depths o) ≤ n → suffix_left (suffix_inside (lefts build) o) ≡ 0 → resolved.suffix_step (suffix_inside resolved o) ≡ 0
        → SuffixLayerParts P o × SuffixIsKeptLayer o
    suffix (Suffix-F.Call xs) h k l = (arguments xs h k l, tt)
    suffix (Suffix-F.Method name xs) h k l = (arguments xs h k l, tt)
    suffix (Suffix-F.Attribute name) h k l = absurd (omega arith)
    suffix (Suffix-F.Suffix::Index i) h k l = (sound i h k l, tt)
    suffix (Suffix-F.Slice i j y) h k l = (slice i j y h k l, tt)

    suffixes : (ss : List Suffix) → deepest (map suffix_depth ss) ≤ n → sum_of (map (suffix_count build) ss) ≡ 0 → sum_of (map (suffix_of resolved) ss) ≡ 0 → AllByRecursion (λ s. SuffixParts P s × SuffixIsKept s) ss
    suffixes =
        each_three suffix_depth (suffix_count build) (suffix_of resolved) n (λ s. SuffixParts P s × SuffixIsKept s)
        (λ s h k l. suffix (out-Suffix s) (omega (arith, opened_suffix depths s)) (omega (arith, opened_suffix (lefts build) s)) (omega (arith, opened_suffix resolved s)))

    pair : (p : Pair) → pair_depth p ≤ n → pair_count build p ≡ 0 → pair_of resolved p ≡ 0 → PairParts P p
    pair p h k l =
        let d = opened_pair depths p in
        let c = opened_pair (lefts build) p in
        let w = opened_pair resolved p in
        (sound (out-Pair p).key (omega arith) (omega arith) (omega arith), sound (out-Pair p).value (omega arith) (omega arith) (omega arith))

    choice : (o : Choice) → choice_depth o ≤ n → choice_count build o ≡ 0 → choice_of resolved o ≡ 0 → ChoiceParts P o
    choice o h k l =
        let d = opened_choice depths o in
        let c = opened_choice (lefts build) o in
        let w = opened_choice resolved o in
        (sound (out-Choice o).condition (omega arith) (omega arith) (omega arith), sound (out-Choice o).value (omega arith) (omega arith) (omega arith))

    operation : (o : Operation) → operation_depth o ≤ n → operation_count build o ≡ 0 → operation_of resolved o ≡ 0 → OperationParts P o
    operation o h k l =
        sound (out-Operation o).operand (omega (arith, opened_operation depths o)) (omega (arith, opened_operation (lefts build) o)) (omega (arith, opened_operation resolved o))

    -- ---- clauses, and their variables

    module _ (few : n ≤ max_layers) where
      clause : (o : ClauseLayer) → clause_step (clause_inside depths o) ≤ n → clause_left (clause_inside (lefts build) o) ≡ 0 → resolved.clause_step (clause_inside resolved o) ≡ 0
          → ClauseLayerParts P o × VariablesOfLayer AreNames o
      clause (Clause-F.For t x) h k l = (sound x (omega arith) (omega arith) (omega arith), are_names max_layers t (omega arith) (omega arith))
      clause (Clause-F.If x) h k l = (sound x h k l, tt)

      clauses : (cs : List Clause) → deepest (map clause_depth cs) ≤ n → sum_of (map (clause_count build) cs) ≡ 0 → sum_of (map (clause_of resolved) cs) ≡ 0
          → AllByRecursion (λ c. ClauseParts P c × Variables AreNames c) cs
      clauses =
          each_three clause_depth (clause_count build) (clause_of resolved) n (λ c. ClauseParts P c × Variables AreNames c)
          (λ c h k l. clause (out-Clause c) (omega (arith, opened_clause depths c)) (omega (arith, opened_clause (lefts build) c)) (omega (arith, opened_clause resolved c)))

      -- ---- expressions

      parts : (o : ExprLayer) → expr_step (expr_inside depths o) ≤ n + 1 → expr_left (expr_inside (lefts build) o) ≡ 0 → resolved.expr_step (expr_inside resolved o) ≡ 0
          → ExprParts P o × VariableParts AreNames o × IsKept o
      parts (Expr-F.Expr::Name i) h k l = (tt, tt, refers i.referent l)
      parts (Expr-F.Int i) h k l = (tt, tt, tt)
      parts (Expr-F.String i) h k l = (tt, tt, tt)
      parts (Expr-F.Expr::List xs) h k l = (each_three expr_depth (expr_count build) (expr_of resolved) n P sound xs (omega arith) k l, tt, tt)
      parts (Expr-F.Expr::Tuple xs) h k l = (each_three expr_depth (expr_count build) (expr_of resolved) n P sound xs (omega arith) k l, tt, tt)
      parts (Expr-F.Dict ps) h k l = (each_three pair_depth (pair_count build) (pair_of resolved) n (PairParts P) pair ps (omega arith) k l, tt, tt)
      parts (Expr-F.ListComprehension x cs own) h k l =
          let all = clauses cs (omega arith) (omega arith) (omega arith) in
          ((sound x (omega arith) (omega arith) (omega arith), firsts (ClauseParts P) (Variables AreNames) cs all), seconds (ClauseParts P) (Variables AreNames) cs all, tt)
      parts (Expr-F.DictComprehension p cs own) h k l =
          let all = clauses cs (omega arith) (omega arith) (omega arith) in
          ((pair p (omega arith) (omega arith) (omega arith), firsts (ClauseParts P) (Variables AreNames) cs all), seconds (ClauseParts P) (Variables AreNames) cs all, tt)
      parts (Expr-F.Primary x ss) h k l =
          let all = suffixes ss (omega arith) (omega arith) (omega arith) in
          ((sound x (omega arith) (omega arith) (omega arith), firsts (SuffixParts P) SuffixIsKept ss all), tt, seconds (SuffixParts P) SuffixIsKept ss all)
      parts (Expr-F.Unary os x) h k l = (sound x (omega arith) k l, tt, tt)
      parts (Expr-F.Binary x os) h k l =
          ((sound x (omega arith) (omega arith) (omega arith), each_three operation_depth (operation_count build) (operation_of resolved) n (OperationParts P) operation os (omega arith) (omega arith) (omega arith)), tt, tt)
      parts (Expr-F.Compare x o y) h k l = ((sound x (omega arith) (omega arith) (omega arith), sound y (omega arith) (omega arith) (omega arith)), tt, tt)
      parts (Expr-F.Conditional cs x) h k l =
          ((each_three choice_depth (choice_count build) (choice_of resolved) n (ChoiceParts P) choice cs (omega arith) (omega arith) (omega arith), sound x (omega arith) (omega arith) (omega arith)), tt, tt)
      parts Expr-F.Lambda h k l = absurd (omega arith)

    -- ---- what is assigned to

    place_layer : (layers : ℕ) → ((t : TargetExpr) → target_depth t ≤ layers → target_depth t ≤ n + 1 → target_count build t ≡ 0 → place_by resolved t ≡ 0 → TargetIsSoundTo P layers t) → (o : TargetLayer)
        → target_step (target_inside depths o) ≤ layers + 1 → target_step (target_inside depths o) ≤ n + 1 → target_left (target_inside (lefts build) o) ≡ 0
        → (resolved.target_step (target_inside resolved o)).place ≡ 0 → TargetParts (TargetIsSoundTo P layers) o × IndexParts P o × NameIsPlace o
    place_layer layers inners (TargetExpr-F.TargetExpr::Name i) h g k l = (tt, tt, is_place i.referent l)
    place_layer layers inners (TargetExpr-F.TargetExpr::Index x i) h g k l = (tt, (sound x (omega arith) (omega arith) (omega arith), sound i (omega arith) (omega arith) (omega arith)), tt)
    place_layer layers inners (TargetExpr-F.TargetExpr::Tuple ts) h g k l = (
      each_three target_depth (target_count build) (place_by resolved) (deepest (map target_depth ts)) (TargetIsSoundTo P layers) (λ t a b c. inners t (omega arith) (omega arith) b c) ts (omega arith) k
          (sym (all_places resolved ts) ∙ l),
      tt,
      tt,
    )
    place_layer layers inners (TargetExpr-F.TargetExpr::List ts) h g k l = (
      each_three target_depth (target_count build) (place_by resolved) (deepest (map target_depth ts)) (TargetIsSoundTo P layers) (λ t a b c. inners t (omega arith) (omega arith) b c) ts (omega arith) k
          (sym (all_places resolved ts) ∙ l),
      tt,
      tt,
    )

    place : (layers : ℕ) (t : TargetExpr) → target_depth t ≤ layers → target_depth t ≤ n + 1 → target_count build t ≡ 0 → place_by resolved t ≡ 0 → TargetIsSoundTo P layers t
    unfolding TargetIsSoundTo
    place zero t h g k l = absurd (omega (arith, opened_target depths t, target_is_deep (out-TargetExpr t)))
    place (suc layers) t h g k l =
        place_layer layers (place layers) (out-TargetExpr t) (omega (arith, opened_target depths t)) (omega (arith, opened_target depths t)) (omega (arith, opened_target (lefts build) t))
        (sym (ap (λ (c : InTarget). c.place) (opened_target resolved t)) ∙ l)

  expr_is_sound : (n : ℕ) → n ≤ max_layers → (x : Expr) → expr_depth x ≤ n → expr_count build x ≡ 0 → expr_of resolved x ≡ 0 → ExprIsSoundTo n x
  unfolding ExprIsSoundTo
  expr_is_sound zero few x h k l = absurd (omega (arith, opened_expr depths x, expr_is_deep (out-Expr x)))
  expr_is_sound (suc n) few x h k l =
      let fewer : n ≤ max_layers = omega arith in
      parts n (ExprIsSoundTo n) (expr_is_sound n fewer) fewer (out-Expr x) (omega (arith, opened_expr depths x)) (omega (arith, opened_expr (lefts build) x)) (omega (arith, opened_expr resolved x))

  -- ---- statements

  pub an_expr_is_sound : (x : Expr) → expr_depth x ≤ max_layers → expr_count build x ≡ 0 → expr_of resolved x ≡ 0 → ExprIsSound x
  an_expr_is_sound x h k l = expr_is_sound max_layers (omega arith) x h k l

  a_place_is_sound : (t : TargetExpr) → target_depth t ≤ max_layers → target_count build t ≡ 0 → place_by resolved t ≡ 0 → PlaceIsSound t
  a_place_is_sound t h k l = place max_layers ExprIsSound an_expr_is_sound max_layers t h (omega arith) k l

  one_layer : (o : TargetLayer) → (resolved.target_step (target_inside resolved o)).several ≡ 0 → IsOneLayer o
  one_layer (TargetExpr-F.TargetExpr::Name i) l = tt
  one_layer (TargetExpr-F.TargetExpr::Index x i) l = tt
  one_layer (TargetExpr-F.TargetExpr::Tuple ts) l = absurd (omega arith)
  one_layer (TargetExpr-F.TargetExpr::List ts) l = absurd (omega arith)

  is_one : (t : TargetExpr) → several_by resolved t ≡ 0 → IsOne t
  is_one t l = one_layer (out-TargetExpr t) (sym (ap (λ (c : InTarget). c.several) (opened_target resolved t)) ∙ l)

  kind_is_sound : (x : SmallKind) → kind_depth x ≤ max_layers → kind_count build x ≡ 0 → kind_by resolved x ≡ 0 → KindIsSound x
  kind_is_sound (small.Expr x) h k l = an_expr_is_sound x h k l
  kind_is_sound (small.Assign t x) h k l = (a_place_is_sound t (omega arith) (omega arith) (omega arith), an_expr_is_sound x (omega arith) (omega arith) (omega arith))
  kind_is_sound (small.Augment t o x) h k l =
      (a_place_is_sound t (omega arith) (omega arith) (omega arith), is_one t (omega arith), an_expr_is_sound x (omega arith) (omega arith) (omega arith))
  kind_is_sound (small.Return None) h k l = tt
  kind_is_sound (small.Return (Some x)) h k l = an_expr_is_sound x h k l
  kind_is_sound small.Break h k l = tt
  kind_is_sound small.Continue h k l = tt
  kind_is_sound small.Pass h k l = tt
  kind_is_sound (small.Load y) h k l = tt

  pub small_is_sound : (x : SmallStmt) → small_depth x ≤ max_layers → small_count build x ≡ 0 → small_by resolved x ≡ 0 → SmallIsSound x
  small_is_sound x h k l = kind_is_sound x.kind h k l

  module _ (n : ℕ) (few : n ≤ max_layers) (inner : Stmt → Type 0)
      (inners : (x : Stmt) → stmt_depth x ≤ n → stmt_count build x ≡ 0 → has_nested x true ≡ false → (stmt_of (stmts_by resolved)) x ≡ 0 → inner x) where
    block : (xs : List Stmt) → deepest (map stmt_depth xs) ≤ n → sum_of (map (stmt_count build) xs) ≡ 0 → list_any (λ f. f true) (map has_nested xs) ≡ false → sum_of (map (stmt_of (stmts_by resolved)) xs) ≡ 0
        → AllByRecursion inner xs
    block = each_four stmt_depth (stmt_count build) (stmt_of (stmts_by resolved)) has_nested n inner inners

    branch : (b : Branch) → branch_depth b ≤ n → branch_count build b ≡ 0 → branch_has_nested b true ≡ false → (branch_of (stmts_by resolved)) b ≡ 0 → BranchIsSound inner b
    branch b h k f l =
        let d = opened_branch stmt_depths b in
        let c = opened_branch (stmt_lefts build) b in
        let w = opened_branch (stmts_by resolved) b in (
          an_expr_is_sound (out-Branch b).condition (omega arith) (omega arith) (omega arith),
          block (out-Branch b).block (omega arith) (omega arith) (sym (ap (λ (g : Bool → Bool). g true) (opened_branch stmt_nests b)) ∙ f) (omega arith),
        )

    layer : (o : StmtLayer) → stmt_step (stmt_inside stmt_depths o) ≤ n + 1 → stmt_left build (stmt_inside (stmt_lefts build) o) ≡ 0
        → stmt_nested (stmt_inside stmt_nests o) true ≡ false → stmt_step_by resolved (stmt_inside (stmts_by resolved) o) ≡ 0 → StmtLayerIsSound inner o
    layer (Stmt-F.Simple xs) h k f l = each_three small_depth (small_count build) (small_by resolved) max_layers SmallIsSound small_is_sound xs (omega arith) k l
    layer (Stmt-F.If bs zs) h k f l =
        let flat = both_off (list_any (λ g. g true) (map branch_has_nested bs)) (list_any (λ g. g true) (map has_nested zs)) f in (
          each_four branch_depth (branch_count build) (branch_of (stmts_by resolved)) branch_has_nested n (BranchIsSound inner) branch bs (omega arith) (omega arith) flat.0 (omega arith),
          block zs (omega arith) (omega arith) flat.1 (omega arith),
        )
    layer (Stmt-F.For t x body) h k f l =
        (are_names max_layers t (omega arith) (omega arith), an_expr_is_sound x (omega arith) (omega arith) (omega arith), block body (omega arith) (omega arith) f (omega arith))
    layer (Stmt-F.Def i ps body) h k f l = absurd (let no : ⊥ = cc in no)

  pub stmt_is_sound : (n : ℕ) → n ≤ max_layers → (x : Stmt) → stmt_depth x ≤ n → stmt_count build x ≡ 0 → has_nested x true ≡ false → (stmt_of (stmts_by resolved)) x ≡ 0 → StmtIsSound n x
  unfolding StmtIsSound
  stmt_is_sound zero few x h k f l = absurd (omega (arith, opened_stmt stmt_depths x, stmt_is_deep (out-Stmt x)))
  stmt_is_sound (suc n) few x h k f l =
      let fewer : n ≤ max_layers = omega arith in
      layer n fewer (StmtIsSound n) (stmt_is_sound n fewer) (out-Stmt x) (omega (arith, opened_stmt stmt_depths x)) (omega (arith, opened_stmt (stmt_lefts build) x))
      (sym (ap (λ (g : Bool → Bool). g true) (opened_stmt stmt_nests x)) ∙ f) (omega (arith, opened_stmt (stmts_by resolved) x))
