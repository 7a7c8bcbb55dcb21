-- How many nodes of a tree the language leaves out is a measure of its form, and so is whether a `def` is in a `def`.
use Rattle.std.proofs.Common.{◌≡◌, ◌∙◌, ℕ, ◌+◌, Bool, Option, Some, None, refl, ap}
use Rattle.std.specs.Option.{option_map}
use Rattle.bq_parse_grammar.specs.declared.tree.Expr.{Expr}
use Rattle.bq_parse_grammar.specs.declared.tree.SmallKind.TheVariants as small
use Rattle.bq_parse_laws.specs.LeftOut.{sum_of, division, argument_left, clause_left, choice_left, operation_left, pair_left, suffix_left, target_left, expr_left, expr_count, target_count, small_count, branch_left, stmt_left, branch_nested, stmt_nested}
use Rattle.bq_eval_laws.proofs.Measures.{Steps, Measure, StmtSteps, StmtMeasure}

abbrev pub lefts : Bool → Steps ℕ ℕ ℕ ℕ ℕ ℕ ℕ ℕ
lefts build = record {
  argument_step = argument_left build;
  clause_step = clause_left;
  expr_step = expr_left;
  suffix_step = suffix_left;
  target_step = target_left;
  choice_step = choice_left;
  operation_step = operation_left;
  pair_step = pair_left;
}

abbrev pub left_out : Bool → Measure ℕ ℕ ℕ ℕ ℕ ℕ ℕ ℕ
left_out build = record {
  after = lefts build;
  expr_before = expr_left;
  target_before = target_left;
  of_name = λ n r refers. refl;
  of_other = λ o other. refl;
  of_list = λ x cs own other. refl;
  of_dict = λ p cs own other. refl;
  of_method = λ n r xs. refl;
  of_variable = λ n r refers. refl;
  of_target = λ o other. refl;
}

pub return_left : (build : Bool) (line : ℕ) (x y : Option Expr) → option_map (expr_count build) y ≡ option_map (expr_count build) x
    → small_count build (record { line = line; kind = small.Return y }) ≡ small_count build (record { line = line; kind = small.Return x })
return_left build line None None h = refl
return_left build line None (Some y) h = absurd (let no : ⊥ = cc in no)
return_left build line (Some x) None h = absurd (let no : ⊥ = cc in no)
return_left build line (Some x) (Some y) h = cc

abbrev pub stmt_lefts : Bool → StmtSteps ℕ ℕ ℕ
stmt_lefts build = record { small_step = small_count build; stmt_step = stmt_left build; branch_step = branch_left build }

abbrev pub stmts_left : (build : Bool) → StmtMeasure (left_out build) ℕ ℕ ℕ
stmts_left build = record {
  later = stmt_lefts build;
  earlier = stmt_lefts build;
  of_expr = λ line x y h. h;
  of_assign = λ line t u x y h k. ap (λ n. n + expr_count build y) h ∙ ap (λ n. target_count build t + n) k;
  of_augment = λ line t u o x y h k. ap (λ n. n + (division o + expr_count build y)) h ∙ ap (λ n. target_count build t + (division o + n)) k;
  of_return = return_left build;
  of_rest = λ line k none. refl;
  of_line = λ xs ys h. ap (λ ns. sum_of ns) h;
  of_if = λ bs zs. refl;
  of_loop = λ t u x y body h k. ap (λ n. n + (expr_count build y + sum_of body)) h ∙ ap (λ n. target_count build t + (n + sum_of body)) k;
  of_branch = λ x y block h. ap (λ n. n + sum_of block) h;
}

abbrev pub stmt_nests : StmtSteps (Unit {0}) (Bool → Bool) (Bool → Bool)
stmt_nests = record { small_step = λ x. tt; stmt_step = stmt_nested; branch_step = branch_nested }

abbrev pub stmts_nested : (build : Bool) → StmtMeasure (left_out build) (Unit {0}) (Bool → Bool) (Bool → Bool)
stmts_nested build = record {
  later = stmt_nests;
  earlier = stmt_nests;
  of_expr = λ line x y h. refl;
  of_assign = λ line t u x y h k. refl;
  of_augment = λ line t u o x y h k. refl;
  of_return = λ line x y h. refl;
  of_rest = λ line k none. refl;
  of_line = λ xs ys h. refl;
  of_if = λ bs zs. refl;
  of_loop = λ t u x y body h k. refl;
  of_branch = λ x y block h. refl;
}
