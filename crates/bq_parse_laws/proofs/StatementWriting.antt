-- Each statement takes what its tree writes.
use Rattle.std.proofs.Common.{◌≡◌, ℕ, zero, suc, List, [], ◌∷◌, Some, refl, sym, ap, ◌∙◌, subst}
use Rattle.bq_source.specs.declared.token.TokenKind.TheVariants as k
use Rattle.bq_parse_grammar.specs.Lexeme.{Lexeme}
use Rattle.bq_parse_grammar.specs.Literals.{identifier}
use Rattle.bq_parse_grammar.specs.Operators.{augmented}
use Rattle.bq_parse_grammar.specs.declared.parameters.AllowedParameters.{AllowedParameters}
use Rattle.bq_parse_grammar.specs.declared.parameters.ParameterKind.{ParameterKind}
use Rattle.bq_parse_grammar.specs.declared.tree.Branch.{Branch, out-Branch}
use Rattle.bq_parse_grammar.specs.declared.tree.Expr.{Expr}
use Rattle.bq_parse_grammar.specs.declared.tree.Operator.{Operator}
use Rattle.bq_parse_grammar.specs.declared.tree.Parameter.{Parameter}
use Rattle.bq_parse_grammar.specs.declared.tree.SmallKind.{SmallKind}
use Rattle.bq_parse_grammar.specs.declared.tree.SmallStmt.{SmallStmt}
use Rattle.bq_parse_grammar.specs.declared.tree.Stmt.{Stmt, out-Stmt}
use Rattle.bq_parse_grammar.specs.declared.tree.Stmt.TheOpen.{Stmt-F}
use Rattle.bq_parse_grammar.specs.declared.tree.Suffix.{Suffix}
use Rattle.bq_parse_grammar.specs.declared.tree.TargetExpr.{TargetExpr, out-TargetExpr}
use Rattle.bq_parse_grammar.specs.Phrases.{Phrase, none, Repeat}
use Rattle.bq_parse_grammar.specs.Grammar.{primary_of, IsTestTo, IsOperandTo, IsSuffixTo}
use Rattle.bq_parse_grammar.specs.Statements as S
use Rattle.bq_parse_grammar.specs.Statements.{IsIndexed, IsItemOver, IsItem, IsTarget, IsParameter, AreParameters, IsLoadClause, IsSmallKind, IsSmall, AreSmall, IsSuite, IsBranch, IsElif, IsElse, IsStmtOver, IsStmt}
use Rattle.bq_parse_laws.specs.Parts as parts
use Rattle.bq_parse_laws.specs.Parts.{Part, row, listed, assignment_kind, token_of, parameter_parts, small_parts, else_parts, stmt_parts_by}
use Rattle.bq_parse_laws.specs.Writes as W
use Rattle.bq_parse_laws.specs.Writes.{Writes}
use Rattle.bq_parse_laws.proofs.Operators.{assignment_token}
use Rattle.bq_parse_laws.proofs.Layers as L
use Rattle.bq_parse_laws.proofs.ExpressionWriting.{Tells, none_tells, row_tells, listed_tells, made_expr, made_target, targets_tell, operand_to_tells, suffix_to_tells, index_to_tells, test_to_tells, expr_to_tells, vars_to_tell}

-- ---- targets

-- an operand and what is done to it
applied : (depth : ℕ) (ts mid rest : List Lexeme) (x : Expr) (xs : List Suffix) → IsOperandTo depth ts mid x → Repeat (IsSuffixTo depth) mid rest xs → (ps : List Part)
    → Writes ps rest → Writes (parts.expr (primary_of x xs) ∷ ps) ts
applied depth ts mid rest x [] p q ps w = operand_to_tells depth ts mid x p ps (row_tells parts.suffix (IsSuffixTo depth) (suffix_to_tells depth) mid rest [] q ps w)
applied depth ts mid rest x (z ∷ zs) p q ps w = made_expr (L.out-Primary x (z ∷ zs))
    (operand_to_tells depth ts mid x p (row parts.suffix (z ∷ zs) ps) (row_tells parts.suffix (IsSuffixTo depth) (suffix_to_tells depth) mid rest (z ∷ zs) q ps w))

indexed_tells : (depth : ℕ) → Tells parts.target (IsIndexed depth)
indexed_tells depth ts rest y (S.indexed {o = o} c {mid = mid} {us = us} x xs i p q f r g h) ps w = made_target (ap out-TargetExpr h ∙ L.out-target_Index (primary_of x xs) i)
    (applied depth ts mid (o ∷ us) x xs p q (parts.token k.LeftBracket ∷ parts.open_expr i ∷ parts.token k.RightBracket ∷ ps)
    (W.token f (index_to_tells depth us (c ∷ rest) i r (parts.token k.RightBracket ∷ ps) (W.token g w))))

item_tells : (depth : ℕ) (X : Phrase TargetExpr) → Tells parts.target X → Tells parts.target (IsItemOver depth X)
item_tells depth X inner ts rest y (S.name {t = t} f g) ps w = made_target (ap out-TargetExpr g ∙ L.out-target_Name (identifier t)) (W.word f refl w)
item_tells depth X inner ts rest y (S.index p) ps w = indexed_tells depth ts rest y p ps w
item_tells depth X inner ts rest y (S.parenthesized {c = c} {ts = us} f p g h) ps w =
    W.target_in_parentheses (W.token f (inner us (c ∷ rest) y p (parts.token k.RightParen ∷ ps) (W.token g w)))
item_tells depth X inner ts rest y (S.tuple {c = c} {ts = us} {mid = mid} {x = x} {xs = xs} f p g q h) ps w = made_target (ap out-TargetExpr h ∙ L.out-target_Tuple (x ∷ xs))
    (W.token f (inner us (c ∷ mid) x p (parts.token k.Comma ∷ listed k.Comma parts.target xs (parts.token k.RightParen ∷ ps)) (W.token g (listed_tells parts.target X inner k.RightParen mid rest xs q ps w))))
item_tells depth X inner ts rest y (S.list {ts = us} {x = x} {xs = xs} f q h) ps w = made_target (ap out-TargetExpr h ∙ L.out-target_List (x ∷ xs))
    (W.token f (listed_tells parts.target X inner k.RightBracket us rest (x ∷ xs) q ps w))

item_to_tells : (depth : ℕ) → Tells parts.target (IsItem depth)
item_to_tells zero = item_tells zero none (none_tells parts.target)
item_to_tells (suc depth) = item_tells (suc depth) (IsItem depth) (item_to_tells depth)

target_tells : (depth : ℕ) → Tells parts.open_target (IsTarget depth)
target_tells depth ts rest y (S.items {mid = mid} {x = x} {xs = xs} p q f) ps w = targets_tell (IsItem depth) (item_to_tells depth) ts mid rest x y xs p q f ps w

-- ---- parameters

module _ (T : Phrase Expr) (tests : Tells parts.expr T) where
  made_parameter : {y z : Parameter} {ps : List Part} {ts : List Lexeme} → y ≡ z → Writes (parameter_parts z ps) ts → Writes (parts.parameter y ∷ ps) ts
  made_parameter {ps = ps} {ts = ts} f w = W.parameter (subst (λ m. Writes (parameter_parts m ps) ts) (sym f) w)

  parameter_tells : (q : ParameterKind) → Tells parts.parameter (IsParameter T q)
  parameter_tells q ts rest y (S.plain f g) ps w = made_parameter g (W.word f refl w)
  parameter_tells q ts rest y (S.default {ts = us} {x = x} f g p h) ps w = made_parameter h (W.word f refl (W.token g (tests us rest x p ps w)))
  parameter_tells q ts rest y (S.bare f g) ps w = made_parameter g (W.token f w)
  parameter_tells q ts rest y (S.star f g h) ps w = made_parameter h (W.token f (W.word g refl w))
  parameter_tells q ts rest y (S.star_star f g h) ps w = made_parameter h (W.token f (W.word g refl w))

  pub parameters_tell : (s : AllowedParameters) (ts rest : List Lexeme) (xs : List Parameter) → AreParameters T s ts rest xs → (ps : List Part) → Writes ps rest
      → Writes (listed k.Comma parts.parameter xs (parts.token k.RightParen ∷ ps)) ts
  parameters_tell s ts rest xs (S.no_parameter e f) ps w = W.token f w
  parameters_tell s ts rest xs (S.last_parameter {q = q} {t = t} {x = x} e p d f) ps w =
      parameter_tells q ts (t ∷ rest) x p (parts.maybe k.Comma ∷ parts.token k.RightParen ∷ ps) (W.absent (W.token f w))
  parameters_tell s ts rest xs (S.more_parameters {c' = s'} {q = q} {t = t} {mid = mid} {x = x} {xs = []} e p f r) ps w =
      parameter_tells q ts (t ∷ mid) x p (parts.maybe k.Comma ∷ parts.token k.RightParen ∷ ps) (W.there (W.token f (parameters_tell s' mid rest [] r ps w)))
  parameters_tell s ts rest xs (S.more_parameters {c' = s'} {q = q} {t = t} {mid = mid} {x = x} {xs = z ∷ zs} e p f r) ps w =
      parameter_tells q ts (t ∷ mid) x p (parts.token k.Comma ∷ listed k.Comma parts.parameter (z ∷ zs) (parts.token k.RightParen ∷ ps)) (W.token f (parameters_tell s' mid rest (z ∷ zs) r ps w))

-- ---- small statements

load_clause_tells : Tells parts.load_clause IsLoadClause
load_clause_tells ts rest y (S.same_name f g h i) ps w = W.same_name f g i w
load_clause_tells ts rest y (S.renamed {n = n} {q = q} {t = t} {b = b} f g h i j l) ps w =
    W.renamed (subst (λ m. Writes (parts.word m.local ∷ parts.token k.Assign ∷ parts.text m.symbol ∷ ps) ts) (sym l) (W.word f refl (W.token g (W.text h i w))))

made_small : {y z : SmallKind} (ps : List Part) {ts : List Lexeme} → y ≡ z → Writes (small_parts z ps) ts → Writes (small_parts y ps) ts
made_small ps {ts = ts} f w = subst (λ m. Writes (small_parts m ps) ts) (sym f) w

assignment_tells : (o : Operator) (q : Lexeme) (ts : List Lexeme) → augmented q.kind ≡ Some o → (ps : List Part) → Writes ps ts → Writes (token_of (assignment_kind o) ps) (q ∷ ts)
assignment_tells o q ts h ps w = subst (λ r. Writes (token_of r ps) (q ∷ ts)) (sym (assignment_token q.kind o h)) (W.token refl w)

module _ (depth : ℕ) where
  kind_tells : (ts rest : List Lexeme) (y : SmallKind) → IsSmallKind depth ts rest y → (ps : List Part) → Writes ps rest → Writes (small_parts y ps) ts
  kind_tells ts rest y (S.return f g) ps w = made_small ps g (W.token f w)
  kind_tells ts rest y (S.returned {ts = us} x f p g) ps w = made_small ps g (W.token f (expr_to_tells depth us rest x p ps w))
  kind_tells ts rest y (S.break f g) ps w = made_small ps g (W.token f w)
  kind_tells ts rest y (S.continue f g) ps w = made_small ps g (W.token f w)
  kind_tells ts rest y (S.pass f g) ps w = made_small ps g (W.token f w)
  kind_tells ts rest y (S.load {ts = us} {xs = []} f g h i j p l) ps w =
      made_small ps l (W.token f (W.token g (W.text h i (W.there (W.token j (listed_tells parts.load_clause IsLoadClause load_clause_tells k.RightParen us rest [] p ps w))))))
  kind_tells ts rest y (S.load {ts = us} {xs = z ∷ zs} f g h i j p l) ps w =
      made_small ps l (W.token f (W.token g (W.text h i (W.token j (listed_tells parts.load_clause IsLoadClause load_clause_tells k.RightParen us rest (z ∷ zs) p ps w)))))
  kind_tells ts rest y (S.load_alone f g h i j l) ps w = made_small ps l (W.token f (W.token g (W.text h i (W.absent (W.token j w)))))
  kind_tells ts rest y (S.assign {q = q} {mid = mid} x v p f r g) ps w =
      made_small ps g (target_tells depth ts (q ∷ mid) x p (parts.token k.Assign ∷ parts.open_expr v ∷ ps) (W.token f (expr_to_tells depth mid rest v r ps w)))
  kind_tells ts rest y (S.augment_name {n = n} {q = q} {ts = us} {o = o} v f g r h) ps w =
      made_small ps h (made_target (L.out-target_Name (identifier n)) (W.word f refl (assignment_tells o q us g (parts.open_expr v ∷ ps) (expr_to_tells depth us rest v r ps w))))
  kind_tells ts rest y (S.augment_index {q = q} {mid = mid} {o = o} x v p g r h) ps w =
      made_small ps h (indexed_tells depth ts (q ∷ mid) x p (token_of (assignment_kind o) (parts.open_expr v ∷ ps)) (assignment_tells o q mid g (parts.open_expr v ∷ ps) (expr_to_tells depth mid rest v r ps w)))
  kind_tells ts rest y (S.expression x p g) ps w = made_small ps g (expr_to_tells depth ts rest x p ps w)

  small_tells : Tells parts.small_stmt (IsSmall depth)
  small_tells ts rest y (S.small_stmt {x = x} p f) ps w =
      W.small_stmt (ap (λ m. m.line) f) (subst (λ m. Writes (small_parts m ps) ts) (sym (ap (λ m. m.kind) f)) (kind_tells ts rest x p ps w))

  line_tells : (ts rest : List Lexeme) (xs : List SmallStmt) → AreSmall depth ts rest xs → (ps : List Part) → Writes ps rest
      → Writes (listed k.Semicolon parts.small_stmt xs (parts.token k.Newline ∷ ps)) ts
  line_tells ts rest xs (S.last {n = n} {x = x} p f) ps w = small_tells ts (n ∷ rest) x p (parts.maybe k.Semicolon ∷ parts.token k.Newline ∷ ps) (W.absent (W.token f w))
  line_tells ts rest xs (S.last_semicolon {c = c} {n = n} {x = x} p f g) ps w =
      small_tells ts (c ∷ n ∷ rest) x p (parts.maybe k.Semicolon ∷ parts.token k.Newline ∷ ps) (W.there (W.token f (W.token g w)))
  line_tells ts rest xs (S.another {c = c} {mid = mid} {x = x} {xs = []} p f q) ps w = absurd (no_line mid rest q)
    where
      no_line : (us vs : List Lexeme) → AreSmall depth us vs [] → ⊥
      no_line us vs r = elim r [ ]
  line_tells ts rest xs (S.another {c = c} {mid = mid} {x = x} {xs = z ∷ zs} p f q) ps w =
      small_tells ts (c ∷ mid) x p (parts.token k.Semicolon ∷ listed k.Semicolon parts.small_stmt (z ∷ zs) (parts.token k.Newline ∷ ps)) (W.token f (line_tells mid rest (z ∷ zs) q ps w))

-- ---- statements with blocks

made_stmt : {y : Stmt} {l : Stmt-F Stmt Branch} {ps : List Part} {ts : List Lexeme} → out-Stmt y ≡ l → Writes (stmt_parts_by l ps) ts → Writes (parts.stmt y ∷ ps) ts
made_stmt {ps = ps} {ts = ts} f w = W.stmt (subst (λ m. Writes (stmt_parts_by m ps) ts) (sym f) w)

module _ (depth : ℕ) (X : Phrase Stmt) (inner : Tells parts.stmt X) where
  simple_tells : (ts rest : List Lexeme) (xs : List SmallStmt) (y : Stmt) → AreSmall depth ts rest xs → out-Stmt y ≡ Stmt-F.Simple xs → (ps : List Part) → Writes ps rest
      → Writes (parts.stmt y ∷ ps) ts
  simple_tells ts rest xs y p f ps w = made_stmt f (line_tells depth ts rest xs p ps w)

  suite_tells : Tells parts.suite (IsSuite depth X)
  suite_tells ts rest ys (S.line {xs = xs} {y = y} p f) ps w = W.on_the_line xs f (simple_tells ts rest xs y p (ap out-Stmt f ∙ L.out-Simple xs) ps w)
  suite_tells ts rest ys (S.block {o = o} {ts = us} {mid = mid} {x = x} {xs = xs} f g p q h) ps w =
      W.suite (W.token f (W.token g (inner us mid x p (row parts.stmt xs (parts.token k.Outdent ∷ ps))
      (row_tells parts.stmt X inner mid (o ∷ rest) xs q (parts.token k.Outdent ∷ ps) (W.token h w)))))

  branch_tells : Tells parts.branch (IsBranch depth X)
  branch_tells ts rest y (S.branch {c = c} {mid = mid} x {xs = xs} p f q g) ps w =
      W.branch (subst (λ m. Writes (parts.expr m.condition ∷ parts.token k.Colon ∷ parts.suite m.block ∷ ps) ts) (sym (ap out-Branch g ∙ L.opened_branch (record { condition = x; block = xs })))
      (test_to_tells depth ts (c ∷ mid) x p (parts.token k.Colon ∷ parts.suite xs ∷ ps) (W.token f (suite_tells mid rest xs q ps w))))

  elif_tells : Tells parts.elif (IsElif depth X)
  elif_tells ts rest y (S.elif {ts = us} f p) ps w = W.elif (W.token f (branch_tells us rest y p ps w))

  else_tells : (ts rest : List Lexeme) (zs : List Stmt) → IsElse depth X ts rest zs → (ps : List Part) → Writes ps rest → Writes (else_parts zs ps) ts
  else_tells ts rest zs S.no_else ps w = w
  else_tells ts rest zs (S.an_else {ts = us} {xs = []} f g p) ps w = absurd (no_suite us rest p)
    where
      no_suite : (us vs : List Lexeme) → IsSuite depth X us vs [] → ⊥
      no_suite us vs r = elim r [ ]
  else_tells ts rest zs (S.an_else {ts = us} {xs = x ∷ xs} f g p) ps w = W.token f (W.token g (suite_tells us rest (x ∷ xs) p ps w))

  stmt_tells : Tells parts.stmt (IsStmtOver depth X)
  stmt_tells ts rest y (S.simple {xs = xs} p f) ps w = simple_tells ts rest xs y p (ap out-Stmt f ∙ L.out-Simple xs) ps w
  stmt_tells ts rest y (S.if_stmt {ts = us} {mid = mid} {us = vs} {x = x} {xs = xs} {zs = zs} f p q r g) ps w = made_stmt (ap out-Stmt g ∙ L.out-stmt_If (x ∷ xs) zs)
      (W.token f (branch_tells us mid x p (row parts.elif xs (else_parts zs ps)) (row_tells parts.elif (IsElif depth X) elif_tells mid vs xs q (else_parts zs ps) (else_tells vs rest zs r ps w))))
  stmt_tells ts rest y (S.for_stmt {i = i} {c = c} {ts = us} {mid = mid} {us = vs} v x {xs = xs} f p g q h r j) ps w = made_stmt (ap out-Stmt j ∙ L.out-stmt_For v x xs)
      (W.token f (vars_to_tell depth us (i ∷ mid) v p (parts.token k.In ∷ parts.open_expr x ∷ parts.token k.Colon ∷ parts.suite xs ∷ ps)
      (W.token g (expr_to_tells depth mid (c ∷ vs) x q (parts.token k.Colon ∷ parts.suite xs ∷ ps) (W.token h (suite_tells vs rest xs r ps w))))))
  stmt_tells ts rest y (S.def_stmt {n = n} {c = c} {ts = us} {mid = mid} qs {xs = xs} f g h p i r j) ps w = made_stmt (ap out-Stmt j ∙ L.out-stmt_Def (identifier n) qs xs)
      (W.token f (W.word g refl (W.token h (parameters_tell (IsTestTo depth) (test_to_tells depth) _ us (c ∷ mid) qs p (parts.token k.Colon ∷ parts.suite xs ∷ ps)
      (W.token i (suite_tells mid rest xs r ps w))))))

pub stmt_to_tells : (depth : ℕ) → Tells parts.stmt (IsStmt depth)
stmt_to_tells zero = stmt_tells zero none (none_tells parts.stmt)
stmt_to_tells (suc depth) = stmt_tells (suc depth) (IsStmt depth) (stmt_to_tells depth)
