-- Statements do the same in two kinds of environments, where the expressions, targets and statements in them do.
use Rattle.std.proofs.Common.{◌≡◌, List, [], ◌∷◌, Option, Some, None, refl, subst}
use Rattle.bq_parse_grammar.specs.declared.tree.Branch.{Branch, out-Branch}
use Rattle.bq_parse_grammar.specs.declared.tree.Expr.{Expr}
use Rattle.bq_parse_grammar.specs.declared.tree.Load.{Load}
use Rattle.bq_parse_grammar.specs.declared.tree.Operator.{Operator}
use Rattle.bq_parse_grammar.specs.declared.tree.SmallKind.{SmallKind}
use Rattle.bq_parse_grammar.specs.declared.tree.SmallKind.TheVariants as small
use Rattle.bq_parse_grammar.specs.declared.tree.SmallStmt.{SmallStmt}
use Rattle.bq_parse_grammar.specs.declared.tree.Stmt.{Stmt}
use Rattle.bq_parse_grammar.specs.declared.tree.Stmt.TheOpen.{Stmt-F}
use Rattle.bq_parse_grammar.specs.declared.tree.TargetExpr.{TargetExpr}
use Rattle.bq_resolve_scope.specs.Names.{max_layers}
use Rattle.bq_value.specs.Datum.{Datum}
use Rattle.bq_eval_spec.specs.Primitives.{Primitives}
use Rattle.bq_eval_spec.specs.Environment.{Scoping}
use Rattle.bq_eval_spec.specs.Statements as forms
use Rattle.bq_eval_spec.specs.Statements.{Flow, next, leave, again, answer, Exec}
use Rattle.bq_eval_spec.specs.Targets as targets
use Rattle.bq_eval_spec.specs.Trees.{Eval, StmtLayer}
use Rattle.bq_eval_by_name.specs.Alike.{Alike}
use Rattle.bq_eval_by_name.proofs.Runs.{then_alike, then_same, then_both, choice}
use Rattle.bq_eval_by_name.proofs.Walks.{Pairwise, Optional}
use Rattle.bq_eval_by_name.proofs.Parts.{ExprAgree}
use Rattle.bq_eval_by_name.proofs.Turns.{variables_alike}
use Rattle.bq_eval_by_name.specs.StatementAgreement.{Ended}
use Rattle.bq_eval_by_name.proofs.Targets.{TargetAgree, assign_alike}

module _ {S Q P V W : Type 0} (m : Primitives S) (left : Scoping Q V) (right : Scoping P W) (R : V → W → Type 0) where
  abbrev pub RunsAlike : Exec S V → Exec S W → Type 0
  RunsAlike f g = (env : V) (peer : W) → R env peer → (s : S) → Alike (Ended R) (f env s) (g peer s)

  -- ---- what comes after a statement

  go_on_by : (f : Exec S V) (g : Exec S W) → RunsAlike f g → (flow : Flow) (env : V) (peer : W) → R env peer → (s : S)
      → Alike (Ended R) (forms.go_on f (flow, env) s) (forms.go_on g (flow, peer) s)
  go_on_by f g h next env peer r s = h env peer r s
  go_on_by f g h leave env peer r s = (refl, (refl, r))
  go_on_by f g h again env peer r s = (refl, (refl, r))
  go_on_by f g h (answer v) env peer r s = (refl, (refl, r))

  pub go_on_alike : (f : Exec S V) (g : Exec S W) → RunsAlike f g → (a : Flow × V) (b : Flow × W) → Ended R a b → (s : S) → Alike (Ended R) (forms.go_on f a s) (forms.go_on g b s)
  go_on_alike f g h (flow, env) (other, peer) e s =
      subst (λ z. Alike (Ended R) (forms.go_on f (flow, env) s) (forms.go_on g (z, peer) s)) e.0 (go_on_by f g h flow env peer e.1 s)

  turn_on_by : (f : Exec S V) (g : Exec S W) → RunsAlike f g → (flow : Flow) (env : V) (peer : W) → R env peer → (s : S)
      → Alike (Ended R) (forms.turn_on f (flow, env) s) (forms.turn_on g (flow, peer) s)
  turn_on_by f g h next env peer r s = h env peer r s
  turn_on_by f g h leave env peer r s = (refl, (refl, r))
  turn_on_by f g h again env peer r s = h env peer r s
  turn_on_by f g h (answer v) env peer r s = (refl, (refl, r))

  turn_on_alike : (f : Exec S V) (g : Exec S W) → RunsAlike f g → (a : Flow × V) (b : Flow × W) → Ended R a b → (s : S) → Alike (Ended R) (forms.turn_on f a s) (forms.turn_on g b s)
  turn_on_alike f g h (flow, env) (other, peer) e s =
      subst (λ z. Alike (Ended R) (forms.turn_on f (flow, env) s) (forms.turn_on g (z, peer) s)) e.0 (turn_on_by f g h flow env peer e.1 s)

  module _ (E : Eval S V) (F : Eval S W) where
    -- ---- small statements

    abbrev pub SmallAgree : SmallStmt → SmallStmt → Type 0
    SmallAgree x z = RunsAlike (forms.small_stmt m left E x) (forms.small_stmt m right F z)

    abbrev pub KindAgree : SmallKind → SmallKind → Type 0
    KindAgree k l = (forms.steps_of k ≡ forms.steps_of l) × RunsAlike (forms.small_by m left E k) (forms.small_by m right F l)

    pub small_agrees : (x z : SmallStmt) → KindAgree x.kind z.kind → SmallAgree x z
    unfolding forms.small_stmt
    small_agrees x z h env peer r s = rw h.0 (then_both (Ended R) (m.step (forms.steps_of z.kind) s) _ _ (λ _ t. h.1 env peer r t))

    pub expr_agrees : (x y : Expr) → ExprAgree R E F x y → KindAgree (small.Expr x) (small.Expr y)
    unfolding forms.steps_of forms.expr_stmt
    expr_agrees x y h = (refl, λ env peer r s. then_same (Ended R) _ _ _ _ (h env peer r s) (λ v t. (refl, (refl, r))))

    pub assign_agrees : (t u : TargetExpr) (x y : Expr) → TargetAgree m left right R E F max_layers t u → ExprAgree R E F x y → KindAgree (small.Assign t x) (small.Assign u y)
    unfolding forms.steps_of forms.assign_stmt
    assign_agrees t u x y h k = (
      refl,
      λ env peer r s. then_same (Ended R) _ _ _ _ (k env peer r s) (λ v w. then_alike R (Ended R) _ _ _ _ (assign_alike m left right R E F t u h v env peer r w) (λ a b q z. (refl, (refl, z)))),
    )

    pub augment_agrees : (t u : TargetExpr) (o : Operator) (x y : Expr) → TargetAgree m left right R E F max_layers t u → ExprAgree R E F x y → KindAgree (small.Augment t o x) (small.Augment u o y)
    unfolding forms.steps_of targets.augment
    augment_agrees t u o x y h k = (refl, λ env peer r s. then_alike R (Ended R) _ _ _ _ (h.augment o x y k env peer r s) (λ a b q z. (refl, (refl, z))))

    return_alike : (x y : Option Expr) → Optional (ExprAgree R E F) x y → RunsAlike (forms.small_by m left E (small.Return x)) (forms.return_stmt m right F y)
    unfolding forms.return_stmt
    return_alike None None h env peer r s = (refl, (refl, r))
    return_alike (Some x) (Some y) h env peer r s = then_same (Ended R) _ _ _ _ (h env peer r s) (λ v t. (refl, (refl, r)))
    return_alike None (Some y) h env peer r s = absurd h
    return_alike (Some x) None h env peer r s = absurd h

    pub return_agrees : (x y : Option Expr) → Optional (ExprAgree R E F) x y → KindAgree (small.Return x) (small.Return y)
    unfolding forms.steps_of
    return_agrees x y h = (refl, return_alike x y h)

    pub break_agrees : KindAgree small.Break small.Break
    unfolding forms.steps_of
    break_agrees = (refl, λ env peer r s. (refl, (refl, r)))

    pub continue_agrees : KindAgree small.Continue small.Continue
    unfolding forms.steps_of
    continue_agrees = (refl, λ env peer r s. (refl, (refl, r)))

    pub pass_agrees : KindAgree small.Pass small.Pass
    unfolding forms.steps_of
    pass_agrees = (refl, λ env peer r s. (refl, (refl, r)))

    pub load_agrees : (l : Load) → KindAgree (small.Load l) (small.Load l)
    unfolding forms.steps_of
    load_agrees l = (refl, λ env peer r s. (refl, (refl, r)))

    pub line_alike : (xs ys : List SmallStmt) → Pairwise SmallAgree xs ys → RunsAlike (forms.line m left E xs) (forms.line m right F ys)
    unfolding forms.line
    line_alike [] [] h env peer r s = (refl, (refl, r))
    line_alike (x ∷ xs) (y ∷ ys) h env peer r s =
        then_alike (Ended R) (Ended R) _ _ _ _ (h.0 env peer r s) (λ a b w k. go_on_alike (forms.line m left E xs) (forms.line m right F ys) (line_alike xs ys h.1) a b k w)
    line_alike [] (y ∷ ys) h env peer r s = absurd h
    line_alike (x ∷ xs) [] h env peer r s = absurd h

    -- ---- statements: `run` and `other` do those inside
    module _ (run : Stmt → Exec S V) (other : Stmt → Exec S W) where
      abbrev pub StmtAlike : Stmt → Stmt → Type 0
      StmtAlike x z = RunsAlike (run x) (other z)

      pub block_alike : (xs zs : List Stmt) → Pairwise StmtAlike xs zs → RunsAlike (forms.block m left E run xs) (forms.block m right F other zs)
      unfolding forms.block
      block_alike [] [] h env peer r s = (refl, (refl, r))
      block_alike (x ∷ xs) (z ∷ zs) h env peer r s =
          then_alike (Ended R) (Ended R) _ _ _ _ (h.0 env peer r s) (λ a b w k. go_on_alike (forms.block m left E run xs) (forms.block m right F other zs) (block_alike xs zs h.1) a b k w)
      block_alike [] (z ∷ zs) h env peer r s = absurd h
      block_alike (x ∷ xs) [] h env peer r s = absurd h

      abbrev pub BranchAgree : Branch → Branch → Type 0
      BranchAgree b d = ExprAgree R E F (out-Branch b).condition (out-Branch d).condition × Pairwise StmtAlike (out-Branch b).block (out-Branch d).block

      branches_alike : (bs ds : List Branch) → Pairwise BranchAgree bs ds → (xs zs : List Stmt) → Pairwise StmtAlike xs zs
          → RunsAlike (forms.branches m left E run bs xs) (forms.branches m right F other ds zs)
      unfolding forms.branches
      branches_alike [] [] h xs zs k env peer r s = block_alike xs zs k env peer r s
      branches_alike (b ∷ bs) (d ∷ ds) h xs zs k env peer r s =
          then_same (Ended R) _ _ _ _ (h.0.0 env peer r s)
          (λ t w. choice (Ended R) (m.truth t w) _ _ _ _ w (block_alike (out-Branch b).block (out-Branch d).block h.0.1 env peer r w) (branches_alike bs ds h.1 xs zs k env peer r w))
      branches_alike [] (d ∷ ds) h xs zs k env peer r s = absurd h
      branches_alike (b ∷ bs) [] h xs zs k env peer r s = absurd h

      module _ (t u : TargetExpr) (h : TargetAgree m left right R E F max_layers t u) (xs zs : List Stmt) (k : Pairwise StmtAlike xs zs) where
        turn_alike : (v : Datum) → RunsAlike (forms.turn m left E run t xs v) (forms.turn m right F other u zs v)
        unfolding forms.turn
        turn_alike v env peer r s =
            then_both (Ended R) _ _ _ (λ _ w. then_alike R (Ended R) _ _ _ _ (variables_alike m left right R t u h.binding v env peer r w) (λ a b q z. block_alike xs zs k a b z q))

        turns_alike : (vs : List Datum) → RunsAlike (forms.turns m left E run t xs vs) (forms.turns m right F other u zs vs)
        unfolding forms.turns
        turns_alike [] env peer r s = (refl, (refl, r))
        turns_alike (v ∷ vs) env peer r s =
            then_alike (Ended R) (Ended R) _ _ _ _ (turn_alike v env peer r s) (λ a b w z. turn_on_alike (forms.turns m left E run t xs vs) (forms.turns m right F other u zs vs) (turns_alike vs) a b z w)

        for_alike : (x y : Expr) → ExprAgree R E F x y → RunsAlike (forms.for_loop m left E run t x xs) (forms.for_loop m right F other u y zs)
        unfolding forms.for_loop
        for_alike x y l env peer r s =
            then_same (Ended R) _ _ _ _ (l env peer r s)
            (λ v w. then_both (Ended R) _ _ _ (λ vs q. then_alike (Ended R) (Ended R) _ _ _ _ (turns_alike vs env peer r q) (λ a b z ended. (refl, ended))))

      -- ---- a statement's outermost layer

      abbrev pub LayerAlike : StmtLayer → StmtLayer → Type 0
      LayerAlike o p = RunsAlike (forms.stmt_by m left E run o) (forms.stmt_by m right F other p)

      pub simple_layer : (xs ys : List SmallStmt) → Pairwise SmallAgree xs ys → LayerAlike (Stmt-F.Simple xs) (Stmt-F.Simple ys)
      simple_layer xs ys h = line_alike xs ys h

      pub if_layer : (bs ds : List Branch) → Pairwise BranchAgree bs ds → (xs zs : List Stmt) → Pairwise StmtAlike xs zs
          → LayerAlike (Stmt-F.If bs xs) (Stmt-F.If ds zs)
      if_layer bs ds h xs zs k env peer r s = then_both (Ended R) (m.step 1 s) _ _ (λ _ w. branches_alike bs ds h xs zs k env peer r w)

      pub for_layer : (t u : TargetExpr) (x y : Expr) (xs zs : List Stmt) → TargetAgree m left right R E F max_layers t u → ExprAgree R E F x y → Pairwise StmtAlike xs zs
          → LayerAlike (Stmt-F.For t x xs) (Stmt-F.For u y zs)
      for_layer t u x y xs zs h l k env peer r s = then_both (Ended R) (m.step 1 s) _ _ (λ _ w. for_alike t u h xs zs k x y l env peer r w)
