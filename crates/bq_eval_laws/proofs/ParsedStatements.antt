-- Nothing is misplaced in a statement that the grammar gives.
use Rattle.std.proofs.Common.{◌≡◌, ◌∙◌, ℕ, zero, suc, ◌+◌, List, [], ◌∷◌, map, ap, arith}
use Rattle.bq_parse_grammar.specs.declared.parameters.AllowedParameters.{AllowedParameters}
use Rattle.bq_parse_grammar.specs.declared.parameters.ParameterKind.{ParameterKind}
use Rattle.bq_parse_grammar.specs.declared.tree.Argument.TheOpen.{Expr-F, TargetExpr-F}
use Rattle.bq_parse_grammar.specs.declared.tree.Expr.{Expr}
use Rattle.bq_parse_grammar.specs.declared.tree.Expr.TheVariants as expr
use Rattle.bq_parse_grammar.specs.declared.tree.Identifier.{Identifier}
use Rattle.bq_parse_grammar.specs.declared.tree.Parameter.{Parameter}
use Rattle.bq_parse_grammar.specs.declared.tree.SmallStmt.{SmallStmt}
use Rattle.bq_parse_grammar.specs.declared.tree.Stmt.{Stmt}
use Rattle.bq_parse_grammar.specs.declared.tree.Stmt.TheOpen.{Stmt-F}
use Rattle.bq_parse_grammar.specs.declared.tree.Stmt.TheVariants as st
use Rattle.bq_parse_grammar.specs.declared.tree.Suffix.{Suffix}
use Rattle.bq_parse_grammar.specs.declared.tree.TargetExpr.{TargetExpr}
use Rattle.bq_parse_grammar.specs.declared.tree.TargetExpr.TheVariants as target
use Rattle.bq_parse_grammar.specs.Grammar.{primary_of, targets_of, IsTestTo, IsOperandTo, IsSuffixTo}
use Rattle.bq_parse_grammar.specs.Lexeme.{Lexeme}
use Rattle.bq_parse_grammar.specs.Literals.{identifier}
use Rattle.bq_parse_grammar.specs.Phrases.{Phrase, none, Repeat, CommaThen}
use Rattle.bq_parse_grammar.specs.Statements as S
use Rattle.bq_parse_grammar.specs.Statements.{IsIndexed, IsItemOver, IsItem, IsTargetOver, IsTarget, IsParameter, AreParameters, IsSmallKind, IsSmall, AreSmall, IsSuite, IsBranch, IsElif, IsElse, IsStmtOver, IsStmt}
use Rattle.bq_parse_laws.specs.LeftOut.{sum_of}
use Rattle.bq_eval_laws.proofs.Measures.{target_of, made_target, made_expr, made_stmt, made_branch}
use Rattle.bq_eval_laws.proofs.Misplaced.{InTarget, parsed, stmts_by, wrong, suffix_wrong, variables_wrong, place_wrong, several, all_places, parameter_wrong, kind_wrong, small_wrong, stmt_wrong, branch_wrong}
use Rattle.bq_eval_laws.proofs.ParsedExpressions.{Lacks, none_lacks, row_lacks, commas_lack, listed_lacks, operand_to_lacks, suffix_to_lacks, index_to_lacks, test_to_lacks, expr_to_lacks, vars_to_lack}

-- ---- targets

name_is : (n : Identifier) → target_of parsed (target.Name n) ≡ record { variables = 0; place = 0; several = 0 }
name_is n = made_target parsed (target.Name n) (TargetExpr-F.TargetExpr::Name n) (target.rolls-Name n)

index_is : (x i : Expr) → target_of parsed (target.Index x i) ≡ record { variables = 1; place = wrong x + wrong i; several = 0 }
index_is x i = made_target parsed (target.Index x i) (TargetExpr-F.TargetExpr::Index x i) (target.rolls-Index x i)

place_of_tuple : (ts : List TargetExpr) → place_wrong (target.Tuple ts) ≡ sum_of (map place_wrong ts)
place_of_tuple ts = ap (λ (c : InTarget). c.place) (made_target parsed (target.Tuple ts) (TargetExpr-F.TargetExpr::Tuple ts) (target.rolls-Tuple ts)) ∙ all_places parsed ts

place_of_list : (ts : List TargetExpr) → place_wrong (target.List ts) ≡ sum_of (map place_wrong ts)
place_of_list ts = ap (λ (c : InTarget). c.place) (made_target parsed (target.List ts) (TargetExpr-F.TargetExpr::List ts) (target.rolls-List ts)) ∙ all_places parsed ts

targets_lack : (X : Phrase TargetExpr) → Lacks place_wrong X → (ts mid rest : List Lexeme) (x y : TargetExpr) (xs : List TargetExpr) → X ts mid x → Repeat (CommaThen X) mid rest xs → y ≡ targets_of x xs
    → place_wrong y ≡ 0
targets_lack X inner ts mid rest x y [] p q f = ap place_wrong f ∙ inner ts mid x p
targets_lack X inner ts mid rest x y (z ∷ zs) p q f =
    let e : place_wrong y ≡ sum_of (map place_wrong (x ∷ z ∷ zs)) = ap place_wrong f ∙ place_of_tuple (x ∷ z ∷ zs) in
    let a : place_wrong x ≡ 0 = inner ts mid x p in
    let d : sum_of (map place_wrong (z ∷ zs)) ≡ 0 = commas_lack place_wrong X inner mid rest (z ∷ zs) q in
    omega arith

applied_lacks : (depth : ℕ) (ts mid rest : List Lexeme) (x : Expr) (xs : List Suffix) → IsOperandTo depth ts mid x → Repeat (IsSuffixTo depth) mid rest xs → wrong (primary_of x xs) ≡ 0
applied_lacks depth ts mid rest x [] p q = operand_to_lacks depth ts mid x p
applied_lacks depth ts mid rest x (z ∷ zs) p q =
    let e : wrong (primary_of x (z ∷ zs)) ≡ wrong x + sum_of (map suffix_wrong (z ∷ zs)) = made_expr parsed (expr.Primary x (z ∷ zs)) (Expr-F.Primary x (z ∷ zs)) (expr.rolls-Primary x (z ∷ zs)) in
    let a : wrong x ≡ 0 = operand_to_lacks depth ts mid x p in
    let b : sum_of (map suffix_wrong (z ∷ zs)) ≡ 0 = row_lacks suffix_wrong (IsSuffixTo depth) (suffix_to_lacks depth) mid rest (z ∷ zs) q in
    omega arith

-- `x[i]` is one target
indexed_one : (depth : ℕ) → Lacks several (IsIndexed depth)
indexed_one depth ts rest y (S.indexed c x xs i p q f r g h) = ap several h ∙ ap (λ (c : InTarget). c.several) (index_is (primary_of x xs) i)

indexed_lacks : (depth : ℕ) → Lacks place_wrong (IsIndexed depth)
indexed_lacks depth ts rest y (S.indexed {o = o} c {mid = mid} {us = us} x xs i p q f r g h) =
    let e : place_wrong y ≡ wrong (primary_of x xs) + wrong i = ap place_wrong h ∙ ap (λ (c : InTarget). c.place) (index_is (primary_of x xs) i) in
    let a : wrong (primary_of x xs) ≡ 0 = applied_lacks depth ts mid (o ∷ us) x xs p q in
    let b : wrong i ≡ 0 = index_to_lacks depth us (c ∷ rest) i r in
    omega arith

item_lacks : (depth : ℕ) (X : Phrase TargetExpr) → Lacks place_wrong X → Lacks place_wrong (IsItemOver depth X)
item_lacks depth X inner ts rest y (S.name {t = t} f g) = ap place_wrong g ∙ ap (λ (c : InTarget). c.place) (name_is (identifier t))
item_lacks depth X inner ts rest y (S.index p) = indexed_lacks depth ts rest y p
item_lacks depth X inner ts rest y (S.parenthesized {c = c} {ts = us} f p g h) = inner us (c ∷ rest) y p
item_lacks depth X inner ts rest y (S.tuple {c = c} {ts = us} {mid = mid} {x = x} {xs = xs} f p g q h) =
    let e : place_wrong y ≡ sum_of (map place_wrong (x ∷ xs)) = ap place_wrong h ∙ place_of_tuple (x ∷ xs) in
    let a : place_wrong x ≡ 0 = inner us (c ∷ mid) x p in
    let b : sum_of (map place_wrong xs) ≡ 0 = listed_lacks place_wrong X inner _ mid rest xs q in
    omega arith
item_lacks depth X inner ts rest y (S.list {ts = us} {x = x} {xs = xs} f q h) = ap place_wrong h ∙ (place_of_list (x ∷ xs) ∙ listed_lacks place_wrong X inner _ us rest (x ∷ xs) q)

item_to_lacks : (depth : ℕ) → Lacks place_wrong (IsItem depth)
item_to_lacks zero = item_lacks zero none (none_lacks place_wrong)
item_to_lacks (suc depth) = item_lacks (suc depth) (IsItem depth) (item_to_lacks depth)

target_lacks : (depth : ℕ) → Lacks place_wrong (IsTarget depth)
target_lacks depth ts rest y (S.items {mid = mid} {x = x} {xs = xs} p q f) = targets_lack (IsItem depth) (item_to_lacks depth) ts mid rest x y xs p q f

-- ---- parameters

module _ (T : Phrase Expr) (tests : Lacks wrong T) where
  parameter_lacks : (q : ParameterKind) → Lacks parameter_wrong (IsParameter T q)
  parameter_lacks q ts rest y (S.plain f g) = ap parameter_wrong g
  parameter_lacks q ts rest y (S.default {ts = us} {x = x} f g p h) = ap parameter_wrong h ∙ tests us rest x p
  parameter_lacks q ts rest y (S.bare f g) = ap parameter_wrong g
  parameter_lacks q ts rest y (S.star f g h) = ap parameter_wrong h
  parameter_lacks q ts rest y (S.star_star f g h) = ap parameter_wrong h

  parameters_lack : (s : AllowedParameters) (ts rest : List Lexeme) (xs : List Parameter) → AreParameters T s ts rest xs → sum_of (map parameter_wrong xs) ≡ 0
  parameters_lack s ts rest xs (S.no_parameter e f) = omega arith
  parameters_lack s ts rest xs (S.last_parameter {q = q} {t = t} {x = x} e p d f) = let a : parameter_wrong x ≡ 0 = parameter_lacks q ts (t ∷ rest) x p in omega arith
  parameters_lack s ts rest xs (S.more_parameters {c' = c} {q = q} {t = t} {mid = mid} {x = x} {xs = zs} e p f r) =
      let a : parameter_wrong x ≡ 0 = parameter_lacks q ts (t ∷ mid) x p in
      let b : sum_of (map parameter_wrong zs) ≡ 0 = parameters_lack c mid rest zs r in
      omega arith

-- ---- small statements

module _ (depth : ℕ) where
  kind_lacks : Lacks kind_wrong (IsSmallKind depth)
  kind_lacks ts rest y (S.return f g) = ap kind_wrong g
  kind_lacks ts rest y (S.returned {ts = us} x f p g) = ap kind_wrong g ∙ expr_to_lacks depth us rest x p
  kind_lacks ts rest y (S.break f g) = ap kind_wrong g
  kind_lacks ts rest y (S.continue f g) = ap kind_wrong g
  kind_lacks ts rest y (S.pass f g) = ap kind_wrong g
  kind_lacks ts rest y (S.load f g h i j p l) = ap kind_wrong l
  kind_lacks ts rest y (S.load_alone f g h i j l) = ap kind_wrong l
  kind_lacks ts rest y (S.assign {q = q} {mid = mid} x v p f r g) =
      let e : kind_wrong y ≡ place_wrong x + wrong v = ap kind_wrong g in
      let a : place_wrong x ≡ 0 = target_lacks depth ts (q ∷ mid) x p in
      let b : wrong v ≡ 0 = expr_to_lacks depth mid rest v r in
      omega arith
  kind_lacks ts rest y (S.augment_name {n = n} {q = q} {ts = us} {o = o} v f g r h) =
      let e : kind_wrong y ≡ several (target.Name (identifier n)) + (place_wrong (target.Name (identifier n)) + wrong v) = ap kind_wrong h in
      let one : several (target.Name (identifier n)) ≡ 0 = ap (λ (c : InTarget). c.several) (name_is (identifier n)) in
      let a : place_wrong (target.Name (identifier n)) ≡ 0 = ap (λ (c : InTarget). c.place) (name_is (identifier n)) in
      let b : wrong v ≡ 0 = expr_to_lacks depth us rest v r in
      omega arith
  kind_lacks ts rest y (S.augment_index {q = q} {mid = mid} {o = o} x v p g r h) =
      let e : kind_wrong y ≡ several x + (place_wrong x + wrong v) = ap kind_wrong h in
      let one : several x ≡ 0 = indexed_one depth ts (q ∷ mid) x p in
      let a : place_wrong x ≡ 0 = indexed_lacks depth ts (q ∷ mid) x p in
      let b : wrong v ≡ 0 = expr_to_lacks depth mid rest v r in
      omega arith
  kind_lacks ts rest y (S.expression x p g) = ap kind_wrong g ∙ expr_to_lacks depth ts rest x p

  small_lacks : Lacks small_wrong (IsSmall depth)
  small_lacks ts rest y (S.small_stmt {x = x} p f) = ap small_wrong f ∙ kind_lacks ts rest x p

  line_lacks : (ts rest : List Lexeme) (xs : List SmallStmt) → AreSmall depth ts rest xs → sum_of (map small_wrong xs) ≡ 0
  line_lacks ts rest xs (S.last {n = n} {x = x} p f) = let a : small_wrong x ≡ 0 = small_lacks ts (n ∷ rest) x p in omega arith
  line_lacks ts rest xs (S.last_semicolon {c = c} {n = n} {x = x} p f g) = let a : small_wrong x ≡ 0 = small_lacks ts (c ∷ n ∷ rest) x p in omega arith
  line_lacks ts rest xs (S.another {c = c} {mid = mid} {x = x} {xs = zs} p f q) =
      let a : small_wrong x ≡ 0 = small_lacks ts (c ∷ mid) x p in
      let b : sum_of (map small_wrong zs) ≡ 0 = line_lacks mid rest zs q in
      omega arith

-- ---- statements with blocks

module _ (depth : ℕ) (X : Phrase Stmt) (inner : Lacks stmt_wrong X) where
  simple_lacks : (ts rest : List Lexeme) (xs : List SmallStmt) (y : Stmt) → AreSmall depth ts rest xs → y ≡ st.Simple xs → stmt_wrong y ≡ 0
  simple_lacks ts rest xs y p f = ap stmt_wrong f ∙ (made_stmt (stmts_by parsed) (st.Simple xs) (Stmt-F.Simple xs) (st.rolls-Simple xs) ∙ line_lacks depth ts rest xs p)

  suite_lacks : (ts rest : List Lexeme) (ys : List Stmt) → IsSuite depth X ts rest ys → sum_of (map stmt_wrong ys) ≡ 0
  suite_lacks ts rest ys (S.line {xs = xs} {y = y} p f) = let a : stmt_wrong y ≡ 0 = simple_lacks ts rest xs y p f in omega arith
  suite_lacks ts rest ys (S.block {o = o} {ts = us} {mid = mid} {x = x} {xs = xs} f g p q h) =
      let a : stmt_wrong x ≡ 0 = inner us mid x p in
      let b : sum_of (map stmt_wrong xs) ≡ 0 = row_lacks stmt_wrong X inner mid (o ∷ rest) xs q in
      omega arith

  branch_lacks : Lacks branch_wrong (IsBranch depth X)
  branch_lacks ts rest y (S.branch {c = c} {mid = mid} x {xs = xs} p f q g) =
      let e : branch_wrong y ≡ wrong x + sum_of (map stmt_wrong xs) = ap branch_wrong g ∙ made_branch (stmts_by parsed) x xs in
      let a : wrong x ≡ 0 = test_to_lacks depth ts (c ∷ mid) x p in
      let b : sum_of (map stmt_wrong xs) ≡ 0 = suite_lacks mid rest xs q in
      omega arith

  elif_lacks : Lacks branch_wrong (IsElif depth X)
  elif_lacks ts rest y (S.elif {ts = us} f p) = branch_lacks us rest y p

  else_lacks : (ts rest : List Lexeme) (zs : List Stmt) → IsElse depth X ts rest zs → sum_of (map stmt_wrong zs) ≡ 0
  else_lacks ts rest zs S.no_else = omega arith
  else_lacks ts rest zs (S.an_else {ts = us} f g p) = suite_lacks us rest zs p

  stmt_lacks : Lacks stmt_wrong (IsStmtOver depth X)
  stmt_lacks ts rest y (S.simple {xs = xs} p f) = simple_lacks ts rest xs y p f
  stmt_lacks ts rest y (S.if_stmt {ts = us} {mid = mid} {us = vs} {x = x} {xs = xs} {zs = zs} f p q r g) =
      let e : stmt_wrong y ≡ sum_of (map branch_wrong (x ∷ xs)) + sum_of (map stmt_wrong zs)
      = ap stmt_wrong g ∙ made_stmt (stmts_by parsed) (st.If (x ∷ xs) zs) (Stmt-F.If (x ∷ xs) zs) (st.rolls-If (x ∷ xs) zs) in
      let a : branch_wrong x ≡ 0 = branch_lacks us mid x p in
      let b : sum_of (map branch_wrong xs) ≡ 0 = row_lacks branch_wrong (IsElif depth X) elif_lacks mid vs xs q in
      let c : sum_of (map stmt_wrong zs) ≡ 0 = else_lacks vs rest zs r in
      omega arith
  stmt_lacks ts rest y (S.for_stmt {i = i} {c = c} {ts = us} {mid = mid} {us = vs} v x {xs = xs} f p g q h r j) =
      let e : stmt_wrong y ≡ variables_wrong v + (wrong x + sum_of (map stmt_wrong xs)) = ap stmt_wrong j ∙ made_stmt (stmts_by parsed) (st.For v x xs) (Stmt-F.For v x xs) (st.rolls-For v x xs) in
      let a : variables_wrong v ≡ 0 = vars_to_lack depth us (i ∷ mid) v p in
      let b : wrong x ≡ 0 = expr_to_lacks depth mid (c ∷ vs) x q in
      let d : sum_of (map stmt_wrong xs) ≡ 0 = suite_lacks vs rest xs r in
      omega arith
  stmt_lacks ts rest y (S.def_stmt {n = n} {c = c} {ts = us} {mid = mid} qs {xs = xs} f g h p i r j) =
      let e : stmt_wrong y ≡ sum_of (map parameter_wrong qs) + sum_of (map stmt_wrong xs)
      = ap stmt_wrong j ∙ made_stmt (stmts_by parsed) (st.Def (identifier n) qs xs) (Stmt-F.Def (identifier n) qs xs) (st.rolls-Def (identifier n) qs xs) in
      let a : sum_of (map parameter_wrong qs) ≡ 0 = parameters_lack (IsTestTo depth) (test_to_lacks depth) _ us (c ∷ mid) qs p in
      let d : sum_of (map stmt_wrong xs) ≡ 0 = suite_lacks mid rest xs r in
      omega arith

pub stmt_to_lacks : (depth : ℕ) → Lacks stmt_wrong (IsStmt depth)
stmt_to_lacks zero = stmt_lacks zero none (none_lacks stmt_wrong)
stmt_to_lacks (suc depth) = stmt_lacks (suc depth) (IsStmt depth) (stmt_to_lacks depth)
