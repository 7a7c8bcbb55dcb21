-- How deep the trees of statements are: an indent adds one.
use Rattle.std.proofs.Common.{◌≡◌, ℕ, zero, suc, ◌+◌, ◌*◌, ◌≤◌, max, List, [], ◌∷◌, map, ap, ◌∙◌, arith}
use Rattle.bq_parse_grammar.specs.Lexeme.{Lexeme}
use Rattle.bq_parse_grammar.specs.Literals.{identifier}
use Rattle.bq_parse_grammar.specs.declared.parameters.AllowedParameters.{AllowedParameters}
use Rattle.bq_parse_grammar.specs.declared.parameters.ParameterKind.{ParameterKind}
use Rattle.bq_parse_grammar.specs.declared.tree.Expr.{Expr}
use Rattle.bq_parse_grammar.specs.declared.tree.Parameter.{Parameter}
use Rattle.bq_parse_grammar.specs.declared.tree.SmallStmt.{SmallStmt}
use Rattle.bq_parse_grammar.specs.declared.tree.Stmt.{Stmt}
use Rattle.bq_parse_grammar.specs.declared.tree.Suffix.{Suffix}
use Rattle.bq_parse_grammar.specs.declared.tree.TargetExpr.{TargetExpr}
use Rattle.bq_parse_grammar.specs.Phrases.{Phrase, none, Repeat}
use Rattle.bq_parse_grammar.specs.Grammar.{primary_of, IsTestTo, IsOperandTo, IsSuffixTo}
use Rattle.bq_parse_grammar.specs.Statements as S
use Rattle.bq_parse_grammar.specs.Statements.{IsIndexed, IsItemOver, IsItem, IsTarget, IsParameter, AreParameters, IsSmallKind, IsSmall, AreSmall, IsSuite, IsBranch, IsElif, IsElse, IsStmtOver, IsStmt}
use Rattle.bq_parse_laws.specs.Depth.{deepest, expr_depth, target_depth, suffix_depth, parameter_depth, kind_depth, small_depth, stmt_depth, branch_depth}
use Rattle.bq_parse_laws.proofs.DepthLayers as D
use Rattle.bq_parse_laws.proofs.ExpressionDepths.{Within, none_within, wider, row_within, listed_within, targets_within, operand_to_within, suffix_to_within, index_to_within, test_to_within, expr_to_within, vars_wide}

-- ---- targets

applied_within : (depth : ℕ) (ts mid rest : List Lexeme) (x : Expr) (xs : List Suffix) → IsOperandTo depth ts mid x → Repeat (IsSuffixTo depth) mid rest xs
    → expr_depth (primary_of x xs) ≤ 14 * depth + 2
applied_within depth ts mid rest x [] p q = let a : expr_depth x ≤ 14 * depth + 1 = operand_to_within depth ts mid x p in omega arith
applied_within depth ts mid rest x (z ∷ zs) p q =
    let e = D.depth-Primary x (z ∷ zs) in
    let a : expr_depth x ≤ 14 * depth + 1 = operand_to_within depth ts mid x p in
    let b : deepest (map suffix_depth (z ∷ zs)) ≤ 14 * depth + 1 = row_within suffix_depth (14 * depth + 1) (IsSuffixTo depth) (suffix_to_within depth) mid rest (z ∷ zs) q in
    omega arith

indexed_within : (depth : ℕ) → Within target_depth (14 * depth + 3) (IsIndexed depth)
indexed_within depth ts rest y (S.indexed {o = o} c {mid = mid} {us = us} x xs i p q f r g h) =
    let e : target_depth y ≡ max (expr_depth (primary_of x xs)) (expr_depth i) + 1 = ap target_depth h ∙ D.depth-target_Index (primary_of x xs) i in
    let a : expr_depth (primary_of x xs) ≤ 14 * depth + 2 = applied_within depth ts mid (o ∷ us) x xs p q in
    let b : expr_depth i ≤ 14 * depth + 1 = index_to_within depth us (c ∷ rest) i r in
    omega arith

item_within : (depth n : ℕ) (X : Phrase TargetExpr) → 14 * depth + 3 ≤ n + 1 → Within target_depth n X → Within target_depth (n + 1) (IsItemOver depth X)
item_within depth n X wide inner ts rest y (S.name {t = t} f g) = let e : target_depth y ≡ 1 = ap target_depth g ∙ D.depth-target_Name (identifier t) in omega arith
item_within depth n X wide inner ts rest y (S.index p) = let a : target_depth y ≤ 14 * depth + 3 = indexed_within depth ts rest y p in omega arith
item_within depth n X wide inner ts rest y (S.parenthesized {c = c} {ts = us} f p g h) = let a : target_depth y ≤ n = inner us (c ∷ rest) y p in omega arith
item_within depth n X wide inner ts rest y (S.tuple {c = c} {ts = us} {mid = mid} {x = x} {xs = xs} f p g q h) =
    let e : target_depth y ≡ max (target_depth x) (deepest (map target_depth xs)) + 1 = ap target_depth h ∙ D.depth-target_Tuple (x ∷ xs) in
    let a : target_depth x ≤ n = inner us (c ∷ mid) x p in
    let b : deepest (map target_depth xs) ≤ n = listed_within target_depth n X inner _ mid rest xs q in
    omega arith
item_within depth n X wide inner ts rest y (S.list {ts = us} {x = x} {xs = xs} f q h) =
    let e : target_depth y ≡ deepest (map target_depth (x ∷ xs)) + 1 = ap target_depth h ∙ D.depth-target_List (x ∷ xs) in
    let b : deepest (map target_depth (x ∷ xs)) ≤ n = listed_within target_depth n X inner _ us rest (x ∷ xs) q in
    omega arith

item_to_within : (depth : ℕ) → Within target_depth (14 * depth + 3) (IsItem depth)
item_to_within zero = item_within zero 2 none (omega arith) (none_within target_depth 2)
item_to_within (suc depth) = wider target_depth (14 * depth + 16 + 1) (14 * suc depth + 3) (IsItem (suc depth)) (omega arith)
    (item_within (suc depth) (14 * depth + 16) (IsItem depth) (omega arith) (wider target_depth (14 * depth + 3) (14 * depth + 16) (IsItem depth) (omega arith) (item_to_within depth)))

target_within : (depth : ℕ) → Within target_depth (14 * depth + 3 + 1) (IsTarget depth)
target_within depth ts rest y (S.items {mid = mid} {x = x} {xs = xs} p q f) = targets_within (14 * depth + 3) (IsItem depth) (item_to_within depth) ts mid rest x y xs p q f

-- ---- parameters

module _ (n : ℕ) (T : Phrase Expr) (tests : Within expr_depth n T) where
  parameter_within : (q : ParameterKind) → Within parameter_depth n (IsParameter T q)
  parameter_within q ts rest y (S.plain f g) = let e : parameter_depth y ≡ 0 = ap parameter_depth g in omega arith
  parameter_within q ts rest y (S.default {ts = us} {x = x} f g p h) =
      let e : parameter_depth y ≡ expr_depth x = ap parameter_depth h in
      let a : expr_depth x ≤ n = tests us rest x p in
      omega arith
  parameter_within q ts rest y (S.bare f g) = let e : parameter_depth y ≡ 0 = ap parameter_depth g in omega arith
  parameter_within q ts rest y (S.star f g h) = let e : parameter_depth y ≡ 0 = ap parameter_depth h in omega arith
  parameter_within q ts rest y (S.star_star f g h) = let e : parameter_depth y ≡ 0 = ap parameter_depth h in omega arith

  parameters_within : (s : AllowedParameters) (ts rest : List Lexeme) (xs : List Parameter) → AreParameters T s ts rest xs → deepest (map parameter_depth xs) ≤ n
  parameters_within s ts rest xs (S.no_parameter e f) = omega arith
  parameters_within s ts rest xs (S.last_parameter {q = q} {t = t} {x = x} e p d f) =
      let a : parameter_depth x ≤ n = parameter_within q ts (t ∷ rest) x p in
      omega arith
  parameters_within s ts rest xs (S.more_parameters {c' = s'} {q = q} {t = t} {mid = mid} {x = x} {xs = zs} e p f r) =
      let a : parameter_depth x ≤ n = parameter_within q ts (t ∷ mid) x p in
      let b : deepest (map parameter_depth zs) ≤ n = parameters_within s' mid rest zs r in
      omega arith

-- ---- small statements

module _ (depth : ℕ) where
  kind_within : Within kind_depth (14 * depth + 15) (IsSmallKind depth)
  kind_within ts rest y (S.return f g) = let e : kind_depth y ≡ 0 = ap kind_depth g in omega arith
  kind_within ts rest y (S.returned {ts = us} x f p g) =
      let e : kind_depth y ≡ expr_depth x = ap kind_depth g in
      let a : expr_depth x ≤ 14 * depth + 14 + 1 = expr_to_within depth us rest x p in
      omega arith
  kind_within ts rest y (S.break f g) = let e : kind_depth y ≡ 0 = ap kind_depth g in omega arith
  kind_within ts rest y (S.continue f g) = let e : kind_depth y ≡ 0 = ap kind_depth g in omega arith
  kind_within ts rest y (S.pass f g) = let e : kind_depth y ≡ 0 = ap kind_depth g in omega arith
  kind_within ts rest y (S.load f g h i j p l) = let e : kind_depth y ≡ 0 = ap kind_depth l in omega arith
  kind_within ts rest y (S.load_alone f g h i j l) = let e : kind_depth y ≡ 0 = ap kind_depth l in omega arith
  kind_within ts rest y (S.assign {q = q} {mid = mid} x v p f r g) =
      let e : kind_depth y ≡ max (target_depth x) (expr_depth v) = ap kind_depth g in
      let a : target_depth x ≤ 14 * depth + 3 + 1 = target_within depth ts (q ∷ mid) x p in
      let b : expr_depth v ≤ 14 * depth + 14 + 1 = expr_to_within depth mid rest v r in
      omega arith
  kind_within ts rest y (S.augment_name {n = n} {q = q} {ts = us} {o = o} v f g r h) =
      let e = ap kind_depth h in
      let d = D.depth-target_Name (identifier n) in
      let b : expr_depth v ≤ 14 * depth + 14 + 1 = expr_to_within depth us rest v r in
      omega arith
  kind_within ts rest y (S.augment_index {q = q} {mid = mid} {o = o} x v p g r h) =
      let e : kind_depth y ≡ max (target_depth x) (expr_depth v) = ap kind_depth h in
      let a : target_depth x ≤ 14 * depth + 3 = indexed_within depth ts (q ∷ mid) x p in
      let b : expr_depth v ≤ 14 * depth + 14 + 1 = expr_to_within depth mid rest v r in
      omega arith
  kind_within ts rest y (S.expression x p g) =
      let e : kind_depth y ≡ expr_depth x = ap kind_depth g in
      let a : expr_depth x ≤ 14 * depth + 14 + 1 = expr_to_within depth ts rest x p in
      omega arith

  small_within : Within small_depth (14 * depth + 15) (IsSmall depth)
  small_within ts rest y (S.small_stmt {x = x} p f) =
      let e : small_depth y ≡ kind_depth x = ap small_depth f in
      let a : kind_depth x ≤ 14 * depth + 15 = kind_within ts rest x p in
      omega arith

  line_within : (ts rest : List Lexeme) (xs : List SmallStmt) → AreSmall depth ts rest xs → deepest (map small_depth xs) ≤ 14 * depth + 15
  line_within ts rest xs (S.last {n = n} {x = x} p f) = let a : small_depth x ≤ 14 * depth + 15 = small_within ts (n ∷ rest) x p in omega arith
  line_within ts rest xs (S.last_semicolon {c = c} {n = n} {x = x} p f g) = let a : small_depth x ≤ 14 * depth + 15 = small_within ts (c ∷ n ∷ rest) x p in omega arith
  line_within ts rest xs (S.another {c = c} {mid = mid} {x = x} {xs = zs} p f q) =
      let a : small_depth x ≤ 14 * depth + 15 = small_within ts (c ∷ mid) x p in
      let b : deepest (map small_depth zs) ≤ 14 * depth + 15 = line_within mid rest zs q in
      omega arith

-- ---- statements with blocks

module _ (depth : ℕ) (X : Phrase Stmt) (inner : Within stmt_depth (14 * depth + 16) X) where
  simple_within : (ts rest : List Lexeme) (xs : List SmallStmt) (y : Stmt) → AreSmall depth ts rest xs → stmt_depth y ≡ deepest (map small_depth xs) + 1 → stmt_depth y ≤ 14 * depth + 16
  simple_within ts rest xs y p e = let a : deepest (map small_depth xs) ≤ 14 * depth + 15 = line_within depth ts rest xs p in omega arith

  suite_within : (ts rest : List Lexeme) (ys : List Stmt) → IsSuite depth X ts rest ys → deepest (map stmt_depth ys) ≤ 14 * depth + 16
  suite_within ts rest ys (S.line {xs = xs} {y = y} p f) =
      let a : stmt_depth y ≤ 14 * depth + 16 = simple_within ts rest xs y p (ap stmt_depth f ∙ D.depth-Simple xs) in
      omega arith
  suite_within ts rest ys (S.block {o = o} {ts = us} {mid = mid} {x = x} {xs = xs} f g p q h) =
      let a : stmt_depth x ≤ 14 * depth + 16 = inner us mid x p in
      let b : deepest (map stmt_depth xs) ≤ 14 * depth + 16 = row_within stmt_depth (14 * depth + 16) X inner mid (o ∷ rest) xs q in
      omega arith

  branch_within : Within branch_depth (14 * depth + 16) (IsBranch depth X)
  branch_within ts rest y (S.branch {c = c} {mid = mid} x {xs = xs} p f q g) =
      let e : branch_depth y ≡ max (expr_depth x) (deepest (map stmt_depth xs)) = ap branch_depth g ∙ D.depth-branch x xs in
      let a : expr_depth x ≤ 14 * depth + 14 = test_to_within depth ts (c ∷ mid) x p in
      let b : deepest (map stmt_depth xs) ≤ 14 * depth + 16 = suite_within mid rest xs q in
      omega arith

  elif_within : Within branch_depth (14 * depth + 16) (IsElif depth X)
  elif_within ts rest y (S.elif {ts = us} f p) = branch_within us rest y p

  else_within : (ts rest : List Lexeme) (zs : List Stmt) → IsElse depth X ts rest zs → deepest (map stmt_depth zs) ≤ 14 * depth + 16
  else_within ts rest zs S.no_else = omega arith
  else_within ts rest zs (S.an_else {ts = us} f g p) = suite_within us rest zs p

  stmt_within : Within stmt_depth (14 * depth + 17) (IsStmtOver depth X)
  stmt_within ts rest y (S.simple {xs = xs} p f) =
      let a : stmt_depth y ≤ 14 * depth + 16 = simple_within ts rest xs y p (ap stmt_depth f ∙ D.depth-Simple xs) in
      omega arith
  stmt_within ts rest y (S.if_stmt {ts = us} {mid = mid} {us = vs} {x = x} {xs = xs} {zs = zs} f p q r g) =
      let e : stmt_depth y ≡ max (max (branch_depth x) (deepest (map branch_depth xs))) (deepest (map stmt_depth zs)) + 1 = ap stmt_depth g ∙ D.depth-stmt_If (x ∷ xs) zs in
      let a : branch_depth x ≤ 14 * depth + 16 = branch_within us mid x p in
      let b : deepest (map branch_depth xs) ≤ 14 * depth + 16 = row_within branch_depth (14 * depth + 16) (IsElif depth X) elif_within mid vs xs q in
      let c : deepest (map stmt_depth zs) ≤ 14 * depth + 16 = else_within vs rest zs r in
      omega arith
  stmt_within ts rest y (S.for_stmt {i = i} {c = c} {ts = us} {mid = mid} {us = vs} v x {xs = xs} f p g q h r j) =
      let e : stmt_depth y ≡ max (target_depth v) (max (expr_depth x) (deepest (map stmt_depth xs))) + 1 = ap stmt_depth j ∙ D.depth-stmt_For v x xs in
      let a : target_depth v ≤ 14 * depth + 14 = vars_wide depth us (i ∷ mid) v p in
      let b : expr_depth x ≤ 14 * depth + 14 + 1 = expr_to_within depth mid (c ∷ vs) x q in
      let d : deepest (map stmt_depth xs) ≤ 14 * depth + 16 = suite_within vs rest xs r in
      omega arith
  stmt_within ts rest y (S.def_stmt {n = n} {c = c} {ts = us} {mid = mid} qs {xs = xs} f g h p i r j) =
      let e : stmt_depth y ≡ max (deepest (map parameter_depth qs)) (deepest (map stmt_depth xs)) + 1 = ap stmt_depth j ∙ D.depth-stmt_Def (identifier n) qs xs in
      let a : deepest (map parameter_depth qs) ≤ 14 * depth + 14 = parameters_within (14 * depth + 14) (IsTestTo depth) (test_to_within depth) _ us (c ∷ mid) qs p in
      let d : deepest (map stmt_depth xs) ≤ 14 * depth + 16 = suite_within mid rest xs r in
      omega arith

pub stmt_to_within : (depth : ℕ) → Within stmt_depth (14 * depth + 17) (IsStmt depth)
stmt_to_within zero = stmt_within zero none (none_within stmt_depth 16)
stmt_to_within (suc depth) = stmt_within (suc depth) (IsStmt depth) (wider stmt_depth (14 * depth + 17) (14 * suc depth + 16) (IsStmt depth) (omega arith) (stmt_to_within depth))
