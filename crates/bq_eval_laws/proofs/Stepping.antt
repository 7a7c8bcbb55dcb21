-- Each node takes its steps first.
use Rattle.std.proofs.Common.{◌≡◌, ◌∙◌, ℕ, suc, List, [], ◌∷◌, length, Option, Some, None, refl, sym, ap}
use Rattle.bq_parse_grammar.specs.declared.tree.Argument.TheOpen.{Expr-F}
use Rattle.bq_parse_grammar.specs.declared.tree.Expr.{Expr, out-Expr}
use Rattle.bq_parse_grammar.specs.declared.tree.SmallKind.{SmallKind}
use Rattle.bq_parse_grammar.specs.declared.tree.SmallKind.TheVariants as small
use Rattle.bq_parse_grammar.specs.declared.tree.Stmt.{Stmt, out-Stmt}
use Rattle.bq_parse_grammar.specs.declared.tree.Stmt.TheOpen.{Stmt-F}
use Rattle.bq_parse_grammar.specs.declared.tree.Suffix.{Suffix}
use Rattle.bq_parse_grammar.specs.Targets.{ExprLayer}
use Rattle.bq_value.specs.Datum.{Datum, int, string}
use Rattle.bq_builtin_machine.specs.Action.{Action, done, stopped}
use Rattle.bq_builtin_machine.specs.State.{Stop}
use Rattle.bq_eval_spec.specs.Primitives.{Primitives}
use Rattle.bq_eval_spec.specs.Comprehensions as comprehensions
use Rattle.bq_eval_spec.specs.Comprehensions.{comprehension}
use Rattle.bq_eval_spec.specs.Environment.{NameValue, variable, predeclared, NamespaceCall, Scoping}
use Rattle.bq_eval_spec.specs.Expressions.{value_by, use_of, literal, list_display, tuple_display, dict_display, unary, binary, compare, choice, chosen, conditional, operand, call_member, primary_by, primary, expr_by, expr}
use Rattle.bq_eval_spec.specs.Module.{def_stmt}
use Rattle.bq_eval_spec.specs.Statements.{Exec, steps_of, small_stmt, branches, turn, for_loop, stmt_by, stmt}
use Rattle.bq_eval_spec.specs.Targets.{bound}
use Rattle.bq_eval_spec.specs.Trees.{Eval, Calls, StmtLayer}
use Rattle.bq_eval_laws.specs.Depth.{MembersAreSuffixes}
use Rattle.bq_eval_laws.specs.Steps.{expr_steps, small_steps, stmt_steps, literal_value, used, ExpressionsStepFirst, SmallStatementsStepFirst, StatementsStepFirst, TurnsStepFirst, DefsStepFirst, NamesAreRead, LiteralsAreValues}
use Rattle.bq_eval_laws.proofs.InOrder.{goes, ends}

module _ {S R V : Type 0} (m : Primitives S) (scoping : Scoping R V) where
  -- the number of steps is the one that is written
  as_many : (s : S) (why : Stop) (k n : ℕ) → Some k ≡ Some n → m.step n s ≡ stopped why → m.step k s ≡ stopped why
  as_many s why k n e h = let same : k ≡ n = cc in ap (λ i. m.step i s) same ∙ h

  module _ (eval : Eval S V) (call : Calls S) (round : R) (env : V) (s : S) (why : Stop) where
    -- what begins with these steps stops where they stop
    abbrev StopsWith : ℕ → Action S Datum → Type 0
    StopsWith n action = m.step n s ≡ stopped why → action s ≡ stopped why

    primary_stops : (x : Expr) (ss : List Suffix) (o : Option NamespaceCall) → scoping.member round env x ss ≡ o → MembersAreSuffixes scoping → StopsWith (length ss) (primary_by m scoping eval call round x ss o env)
    unfolding operand call_member
    primary_stops x ss None e members h = ends (m.step (length ss) s) _ why h
    primary_stops x ss (Some (found, xs, rest)) e members h =
        let p = members round env x ss found xs rest e in
        ends (m.step (suc (length rest)) s) _ why (sym (ap (λ (ys : List Suffix). m.step (length ys) s) p.1) ∙ h)

    by_form : (o : ExprLayer) (n : ℕ) → MembersAreSuffixes scoping → expr_steps o ≡ Some n → StopsWith n (expr_by m scoping eval call round o env)
    unfolding use_of literal list_display tuple_display dict_display comprehension primary unary binary compare conditional choice
    by_form (Expr-F.Expr::Name x) n members e h = ends (m.step 1 s) _ why (as_many s why 1 n e h)
    by_form (Expr-F.Int x) n members e h = ends (m.step 1 s) _ why (as_many s why 1 n e h)
    by_form (Expr-F.String t) n members e h = ends (m.step 1 s) _ why (as_many s why 1 n e h)
    by_form (Expr-F.Expr::List xs) n members e h = ends (m.step 1 s) _ why (as_many s why 1 n e h)
    by_form (Expr-F.Expr::Tuple xs) n members e h = ends (m.step 1 s) _ why (as_many s why 1 n e h)
    by_form (Expr-F.Dict ps) n members e h = ends (m.step 1 s) _ why (as_many s why 1 n e h)
    by_form (Expr-F.ListComprehension x cs own) n members e h = ends (m.step 1 s) _ why (as_many s why 1 n e h)
    by_form (Expr-F.DictComprehension p cs own) n members e h = ends (m.step 1 s) _ why (as_many s why 1 n e h)
    by_form (Expr-F.Primary x ss) n members e h = primary_stops x ss (scoping.member round env x ss) refl members (as_many s why (length ss) n e h)
    by_form (Expr-F.Unary os x) n members e h = ends (m.step (length os) s) _ why (as_many s why (length os) n e h)
    by_form (Expr-F.Binary x os) n members e h = ends (m.step (length os) s) _ why (as_many s why (length os) n e h)
    by_form (Expr-F.Compare x o y) n members e h = ends (m.step 1 s) _ why (as_many s why 1 n e h)
    by_form (Expr-F.Conditional [] x) n members e h = absurd (let no : ⊥ = cc in no)
    by_form (Expr-F.Conditional (c ∷ cs) x) n members e h =
        ends (choice m eval c env s) (λ o. chosen m eval (conditional m eval cs x env) o) why (ends (m.step 1 s) _ why (as_many s why 1 n e h))
    by_form Expr-F.Lambda n members e h = absurd (let no : ⊥ = cc in no)

  pub expressions : ExpressionsStepFirst m scoping
  unfolding expr
  expressions eval call round env x n s why members e h = by_form eval call round env s why (out-Expr x) n members e h

  -- ---- statements

  pub same_steps : (x : SmallKind) → small_steps x ≡ steps_of x
  unfolding steps_of
  same_steps (small.Expr x) = refl
  same_steps (small.Assign t x) = refl
  same_steps (small.Augment t o x) = refl
  same_steps (small.Return x) = refl
  same_steps small.Break = refl
  same_steps small.Continue = refl
  same_steps small.Pass = refl
  same_steps (small.Load l) = refl

  pub small_statements : SmallStatementsStepFirst m scoping
  unfolding small_stmt
  small_statements eval x env s why h = ends (m.step (steps_of x.kind) s) _ why (sym (ap (λ n. m.step n s) (same_steps x.kind)) ∙ h)

  module _ (eval : Eval S V) (run : Stmt → Exec S V) (env : V) (s : S) (why : Stop) where
    stmt_by_form : (o : StmtLayer) (n : ℕ) → stmt_steps o ≡ Some n → m.step n s ≡ stopped why → stmt_by m scoping eval run o env s ≡ stopped why
    stmt_by_form (Stmt-F.Simple xs) n e h = absurd (let no : ⊥ = cc in no)
    stmt_by_form (Stmt-F.If bs otherwise) n e h = ends (m.step 1 s) (λ _. branches m scoping eval run bs otherwise env) why (as_many s why 1 n e h)
    stmt_by_form (Stmt-F.For t x body) n e h = ends (m.step 1 s) (λ _. for_loop m scoping eval run t x body env) why (as_many s why 1 n e h)
    stmt_by_form (Stmt-F.Def d ps body) n e h = absurd (let no : ⊥ = cc in no)

  pub statements : StatementsStepFirst m scoping
  unfolding stmt
  statements eval run x env n s why e h = stmt_by_form eval run env s why (out-Stmt x) n e h

  pub turns : TurnsStepFirst m scoping
  unfolding turn comprehensions.turn
  turns eval run inner t body v c env s why h = (ends (m.step 1 s) _ why h, ends (m.step 1 s) _ why h)

  pub defs : DefsStepFirst m scoping
  unfolding def_stmt
  defs own eval d globals s why h = ends (m.step 1 s) _ why h

  -- ---- names and literals

  value_is : (o : Option NameValue) (s : S) → value_by m o s ≡ used m o s
  unfolding bound
  value_is (Some (variable (Some v))) s = refl
  value_is (Some (variable None)) s = refl
  value_is (Some (predeclared p)) s = refl
  value_is None s = refl

  pub names : NamesAreRead m scoping
  unfolding expr use_of
  names eval call round env x n r s e step =
      ap (λ (o : ExprLayer). expr_by m scoping eval call round o env r) e
      ∙ (goes (m.step 1 r) (λ _. value_by m (scoping.value round env n)) tt s step ∙ value_is (scoping.value round env n) s)

  literal_by : (eval : Eval S V) (call : Calls S) (round : R) (env : V) (o : ExprLayer) (v : Datum) (r s : S) → literal_value o ≡ Some v → m.step 1 r ≡ done tt s
      → expr_by m scoping eval call round o env r ≡ done v s
  unfolding literal
  literal_by eval call round env (Expr-F.Int n) v r s e step = let same : int n ≡ v = cc in goes (m.step 1 r) _ tt s step ∙ ap (λ w. done w s) same
  literal_by eval call round env (Expr-F.String t) v r s e step = let same : string t ≡ v = cc in goes (m.step 1 r) _ tt s step ∙ ap (λ w. done w s) same
  literal_by eval call round env (Expr-F.Expr::Name n) v r s e step = absurd (let no : ⊥ = cc in no)
  literal_by eval call round env (Expr-F.Expr::List xs) v r s e step = absurd (let no : ⊥ = cc in no)
  literal_by eval call round env (Expr-F.Expr::Tuple xs) v r s e step = absurd (let no : ⊥ = cc in no)
  literal_by eval call round env (Expr-F.Dict ps) v r s e step = absurd (let no : ⊥ = cc in no)
  literal_by eval call round env (Expr-F.ListComprehension x cs own) v r s e step = absurd (let no : ⊥ = cc in no)
  literal_by eval call round env (Expr-F.DictComprehension p cs own) v r s e step = absurd (let no : ⊥ = cc in no)
  literal_by eval call round env (Expr-F.Primary x ss) v r s e step = absurd (let no : ⊥ = cc in no)
  literal_by eval call round env (Expr-F.Unary os x) v r s e step = absurd (let no : ⊥ = cc in no)
  literal_by eval call round env (Expr-F.Binary x os) v r s e step = absurd (let no : ⊥ = cc in no)
  literal_by eval call round env (Expr-F.Compare x o y) v r s e step = absurd (let no : ⊥ = cc in no)
  literal_by eval call round env (Expr-F.Conditional cs x) v r s e step = absurd (let no : ⊥ = cc in no)
  literal_by eval call round env Expr-F.Lambda v r s e step = absurd (let no : ⊥ = cc in no)

  pub literals : LiteralsAreValues m scoping
  unfolding expr
  literals eval call round env x v r s e step = literal_by eval call round env (out-Expr x) v r s e step
