-- Nothing is misplaced in an expression that the grammar gives.
use Rattle.std.proofs.Common.{◌≡◌, ◌∙◌, ℕ, zero, suc, Bool, true, false, ◌+◌, pos, List, [], ◌∷◌, map, Option, Some, None, refl, ap, arith}
use Rattle.std.specs.Option.{option_map}
use Rattle.bq_source.specs.declared.token.TokenKind.{TokenKind}
use Rattle.bq_source.specs.declared.token.TokenKind.TheVariants as k
use Rattle.bq_parse_grammar.specs.declared.arguments.Allowed.{Allowed}
use Rattle.bq_parse_grammar.specs.declared.arguments.ArgumentKind.{ArgumentKind}
use Rattle.bq_parse_grammar.specs.declared.tree.Argument.TheOpen.{Argument-F, Clause-F, Expr-F, Suffix-F, TargetExpr-F}
use Rattle.bq_parse_grammar.specs.declared.tree.Argument.{Argument}
use Rattle.bq_parse_grammar.specs.declared.tree.Argument.TheVariants as argument
use Rattle.bq_parse_grammar.specs.declared.tree.Clause.{Clause}
use Rattle.bq_parse_grammar.specs.declared.tree.Clause.TheVariants as clause
use Rattle.bq_parse_grammar.specs.declared.tree.ComprehensionFrame.TheVariants as frame
use Rattle.bq_parse_grammar.specs.declared.tree.Expr.{Expr}
use Rattle.bq_parse_grammar.specs.declared.tree.Expr.TheVariants as expr
use Rattle.bq_parse_grammar.specs.declared.tree.Suffix.TheVariants as suffix
use Rattle.bq_parse_grammar.specs.declared.tree.TargetExpr.{TargetExpr}
use Rattle.bq_parse_grammar.specs.declared.tree.TargetExpr.TheVariants as target
use Rattle.bq_parse_grammar.specs.declared.tree.UnaryOperator.{UnaryOperator}
use Rattle.bq_parse_grammar.specs.Grammar as G
use Rattle.bq_parse_grammar.specs.Grammar.{parenthesized_of, choices_of, last_of, targets_of, IsVarOver, IsVar, IsVarsOver, IsVars, IsPair, IsForClause, IsClause, AreClauses, IsOperand, IsArgument, AreArguments, IsOptionalTest, IsExpr, IsSuffix, IsPrimary, IsPrefixed, IsOperation, IsChain, IsBinary, IsComp, IsOr, IsChoice, IsTest, IsPrimaryTo, IsOrTo, IsTestTo, IsExprTo, IsOperandTo, IsSuffixTo, IsIndexTo}
use Rattle.bq_parse_grammar.specs.Lexeme.{Lexeme}
use Rattle.bq_parse_grammar.specs.Literals.{identifier}
use Rattle.bq_parse_grammar.specs.Operators.{sign, negation}
use Rattle.bq_parse_grammar.specs.Phrases as P
use Rattle.bq_parse_grammar.specs.Phrases.{Phrase, none, Repeat, Listed, CommaThen}
use Rattle.bq_parse_grammar.specs.Turns.{sees}
use Rattle.bq_parse_laws.specs.LeftOut.{sum_of, optional_count}
use Rattle.bq_eval_laws.proofs.Measures.{made_argument, made_clause, made_suffix, made_target, made_expr, made_pair, made_operation, made_choice}
use Rattle.bq_eval_laws.proofs.Misplaced.{InTarget, parsed, wrong, argument_wrong, clause_wrong, suffix_wrong, choice_wrong, operation_wrong, pair_wrong, variables_wrong, all_variables}

-- nothing is counted in the trees of a phrase
abbrev pub Lacks : {A : Type 0} → (A → ℕ) → Phrase A → Type 0
Lacks {A = A} f X = (ts rest : List Lexeme) (x : A) → X ts rest x → f x ≡ 0

pub none_lacks : {A : Type 0} (f : A → ℕ) → Lacks f none
none_lacks f ts rest x p = absurd p

-- ---- lists

module _ {A : Type 0} (f : A → ℕ) (X : Phrase A) (each : Lacks f X) where
  pub row_lacks : (ts rest : List Lexeme) (xs : List A) → Repeat X ts rest xs → sum_of (map f xs) ≡ 0
  row_lacks ts rest xs P.over = omega arith
  row_lacks ts rest xs (P.again {mid = mid} {x = y} {xs = ys} p q) =
      let a : f y ≡ 0 = each ts mid y p in
      let b : sum_of (map f ys) ≡ 0 = row_lacks mid rest ys q in
      omega arith

  pub commas_lack : (ts rest : List Lexeme) (xs : List A) → Repeat (CommaThen X) ts rest xs → sum_of (map f xs) ≡ 0
  commas_lack ts rest xs P.over = omega arith
  commas_lack ts rest xs (P.again {mid = mid} {xs = ys} (P.comma_then {ts = us} {x = y} h p) q) =
      let a : f y ≡ 0 = each us mid y p in
      let b : sum_of (map f ys) ≡ 0 = commas_lack mid rest ys q in
      omega arith

  pub listed_lacks : (close : TokenKind) (ts rest : List Lexeme) (xs : List A) → Listed close X ts rest xs → sum_of (map f xs) ≡ 0
  listed_lacks close ts rest xs (P.none_listed h) = omega arith
  listed_lacks close ts rest xs (P.last_listed {t = t} {x = y} p h) = let a : f y ≡ 0 = each ts (t ∷ rest) y p in omega arith
  listed_lacks close ts rest xs (P.more_listed {t = t} {mid = mid} {x = y} {xs = ys} p h q) =
      let a : f y ≡ 0 = each ts (t ∷ mid) y p in
      let b : sum_of (map f ys) ≡ 0 = listed_lacks close mid rest ys q in
      omega arith

-- ---- variables of a `for`

variables_of_name : (t : Lexeme) → variables_wrong (target.Name (identifier t)) ≡ 0
variables_of_name t = ap (λ (c : InTarget). c.variables) (made_target parsed (target.Name (identifier t)) (TargetExpr-F.TargetExpr::Name (identifier t)) (target.rolls-Name (identifier t)))

variables_of_tuple : (ts : List TargetExpr) → variables_wrong (target.Tuple ts) ≡ sum_of (map variables_wrong ts)
variables_of_tuple ts = ap (λ (c : InTarget). c.variables) (made_target parsed (target.Tuple ts) (TargetExpr-F.TargetExpr::Tuple ts) (target.rolls-Tuple ts)) ∙ all_variables parsed ts

variables_of_list : (ts : List TargetExpr) → variables_wrong (target.List ts) ≡ sum_of (map variables_wrong ts)
variables_of_list ts = ap (λ (c : InTarget). c.variables) (made_target parsed (target.List ts) (TargetExpr-F.TargetExpr::List ts) (target.rolls-List ts)) ∙ all_variables parsed ts

module _ (X : Phrase TargetExpr) (inner : Lacks variables_wrong X) where
  var_lacks : Lacks variables_wrong (IsVarOver X)
  var_lacks ts rest y (G.name {t = n} f g) = ap variables_wrong g ∙ variables_of_name n
  var_lacks ts rest y (G.parenthesized {c = c} {ts = us} f p g) = inner us (c ∷ rest) y p
  var_lacks ts rest y (G.tuple {c = c} {ts = us} {mid = mid} {x = x} {xs = xs} f p g q h) =
      let e : variables_wrong y ≡ sum_of (map variables_wrong (x ∷ xs)) = ap variables_wrong h ∙ variables_of_tuple (x ∷ xs) in
      let a : variables_wrong x ≡ 0 = inner us (c ∷ mid) x p in
      let b : sum_of (map variables_wrong xs) ≡ 0 = listed_lacks variables_wrong X inner _ mid rest xs q in
      omega arith
  var_lacks ts rest y (G.list {ts = us} {x = x} {xs = xs} f q h) = ap variables_wrong h ∙ (variables_of_list (x ∷ xs) ∙ listed_lacks variables_wrong X inner _ us rest (x ∷ xs) q)

  vars_of : (ts mid rest : List Lexeme) (x y : TargetExpr) (xs : List TargetExpr) → X ts mid x → Repeat (CommaThen X) mid rest xs → y ≡ targets_of x xs → variables_wrong y ≡ 0
  vars_of ts mid rest x y [] p q f = ap variables_wrong f ∙ inner ts mid x p
  vars_of ts mid rest x y (z ∷ zs) p q f =
      let e : variables_wrong y ≡ sum_of (map variables_wrong (x ∷ z ∷ zs)) = ap variables_wrong f ∙ variables_of_tuple (x ∷ z ∷ zs) in
      let a : variables_wrong x ≡ 0 = inner ts mid x p in
      let b : sum_of (map variables_wrong (z ∷ zs)) ≡ 0 = commas_lack variables_wrong X inner mid rest (z ∷ zs) q in
      omega arith

  vars_lack : Lacks variables_wrong (IsVarsOver X)
  vars_lack ts rest y (G.vars {mid = mid} {x = x} {xs = xs} p q f) = vars_of ts mid rest x y xs p q f

var_to_lacks : (depth : ℕ) → Lacks variables_wrong (IsVar depth)
var_to_lacks zero = var_lacks none (none_lacks variables_wrong)
var_to_lacks (suc depth) = var_lacks (IsVar depth) (var_to_lacks depth)

pub vars_to_lack : (depth : ℕ) → Lacks variables_wrong (IsVars depth)
vars_to_lack depth = vars_lack (IsVar depth) (var_to_lacks depth)

-- ---- over what is in brackets

module _ (O T : Phrase Expr) (V : Phrase TargetExpr) (ors : Lacks wrong O) (tests : Lacks wrong T) (variables : Lacks variables_wrong V) where
  pair_lacks : Lacks pair_wrong (IsPair O T V)
  pair_lacks ts rest y (G.pair {c = c} {mid = mid} {x = x} {y = z} p f q g) =
      let e : pair_wrong y ≡ wrong x + wrong z = ap pair_wrong g ∙ made_pair parsed x z in
      let a : wrong x ≡ 0 = tests ts (c ∷ mid) x p in
      let b : wrong z ≡ 0 = tests mid rest z q in
      omega arith

  for_lacks : Lacks clause_wrong (IsForClause O T V)
  for_lacks ts rest y (G.for_clause {i = i} {ts = us} {mid = mid} {v = v} {x = x} f p g q h) =
      let e : clause_wrong y ≡ variables_wrong v + wrong x = ap clause_wrong h ∙ made_clause parsed (clause.For v x) (Clause-F.For v x) (clause.rolls-For v x) in
      let a : variables_wrong v ≡ 0 = variables us (i ∷ mid) v p in
      let b : wrong x ≡ 0 = ors mid rest x q in
      omega arith

  clause_lacks : Lacks clause_wrong (IsClause O T V)
  clause_lacks ts rest y (G.a_for p) = for_lacks ts rest y p
  clause_lacks ts rest y (G.an_if {ts = us} {x = x} f p g) = ap clause_wrong g ∙ (made_clause parsed (clause.If x) (Clause-F.If x) (clause.rolls-If x) ∙ ors us rest x p)

  clauses_lack : (ts rest : List Lexeme) (ys : List Clause) → AreClauses O T V ts rest ys → sum_of (map clause_wrong ys) ≡ 0
  clauses_lack ts rest ys (G.clauses {mid = mid} {y = z} {ys = zs} p q) =
      let a : clause_wrong z ≡ 0 = for_lacks ts mid z p in
      let b : sum_of (map clause_wrong zs) ≡ 0 = row_lacks clause_wrong (IsClause O T V) clause_lacks mid rest zs q in
      omega arith

  pub operand_lacks : Lacks wrong (IsOperand O T V)
  operand_lacks ts rest y (G.a_name {t = n} f g) = ap wrong g ∙ made_expr parsed (expr.Name (identifier n)) (Expr-F.Expr::Name (identifier n)) (expr.rolls-Name (identifier n))
  operand_lacks ts rest y (G.an_int {n = m} f g h) = ap wrong h ∙ made_expr parsed (expr.Int (pos m)) (Expr-F.Int (pos m)) (expr.rolls-Int (pos m))
  operand_lacks ts rest y (G.a_string {b = b} f g h) = ap wrong h ∙ made_expr parsed (expr.String b) (Expr-F.String b) (expr.rolls-String b)
  operand_lacks ts rest y (G.empty_tuple f g h) = ap wrong h ∙ made_expr parsed (expr.Tuple []) (Expr-F.Expr::Tuple []) (expr.rolls-Tuple [])
  operand_lacks ts rest y (G.parenthesized {c = c} {ts = us} {x = x} f p g h) = go (sees k.Dot rest) h
    where
      go : (b : Bool) → y ≡ parenthesized_of b x → wrong y ≡ 0
      go true h =
          let e : wrong y ≡ wrong x + 0 = ap wrong h ∙ made_expr parsed (expr.Primary x []) (Expr-F.Primary x []) (expr.rolls-Primary x []) in
          let a : wrong x ≡ 0 = tests us (c ∷ rest) x p in
          omega arith
      go false h = ap wrong h ∙ tests us (c ∷ rest) x p
  operand_lacks ts rest y (G.a_tuple {c = c} {ts = us} {mid = mid} {x = x} {xs = xs} f p g q h) =
      let e : wrong y ≡ sum_of (map wrong (x ∷ xs)) = ap wrong h ∙ made_expr parsed (expr.Tuple (x ∷ xs)) (Expr-F.Expr::Tuple (x ∷ xs)) (expr.rolls-Tuple (x ∷ xs)) in
      let a : wrong x ≡ 0 = tests us (c ∷ mid) x p in
      let b : sum_of (map wrong xs) ≡ 0 = listed_lacks wrong T tests _ mid rest xs q in
      omega arith
  operand_lacks ts rest y (G.a_list {ts = us} {xs = xs} f q h) =
      ap wrong h ∙ (made_expr parsed (expr.List xs) (Expr-F.Expr::List xs) (expr.rolls-List xs) ∙ listed_lacks wrong T tests _ us rest xs q)
  operand_lacks ts rest y (G.a_list_comprehension {c = c} {ts = us} {mid = mid} {x = x} {cs = cs} f p q g h) =
      let e : wrong y ≡ wrong x + sum_of (map clause_wrong cs)
      = ap wrong h ∙ made_expr parsed (expr.ListComprehension x cs frame.Shared) (Expr-F.ListComprehension x cs frame.Shared) (expr.rolls-ListComprehension x cs frame.Shared) in
      let a : wrong x ≡ 0 = tests us mid x p in
      let b : sum_of (map clause_wrong cs) ≡ 0 = clauses_lack mid (c ∷ rest) cs q in
      omega arith
  operand_lacks ts rest y (G.a_dict {ts = us} {ps = xs} f q h) =
      ap wrong h ∙ (made_expr parsed (expr.Dict xs) (Expr-F.Dict xs) (expr.rolls-Dict xs) ∙ listed_lacks pair_wrong (IsPair O T V) pair_lacks _ us rest xs q)
  operand_lacks ts rest y (G.a_dict_comprehension {c = c} {ts = us} {mid = mid} {p = x} {cs = cs} f p q g h) =
      let e : wrong y ≡ pair_wrong x + sum_of (map clause_wrong cs)
      = ap wrong h ∙ made_expr parsed (expr.DictComprehension x cs frame.Shared) (Expr-F.DictComprehension x cs frame.Shared) (expr.rolls-DictComprehension x cs frame.Shared) in
      let a : pair_wrong x ≡ 0 = pair_lacks us mid x p in
      let b : sum_of (map clause_wrong cs) ≡ 0 = clauses_lack mid (c ∷ rest) cs q in
      omega arith

  argument_lacks : (q : ArgumentKind) → Lacks argument_wrong (IsArgument O T V q)
  argument_lacks q ts rest y (G.positional {x = x} p g) = ap argument_wrong g ∙ (made_argument parsed (argument.Positional x) (Argument-F.Positional x) (argument.rolls-Positional x) ∙ tests ts rest x p)
  argument_lacks q ts rest y (G.named {n = m} {ts = us} {x = x} f g p h) =
      ap argument_wrong h ∙ (made_argument parsed (argument.Named m.spelling x) (Argument-F.Named m.spelling x) (argument.rolls-Named m.spelling x) ∙ tests us rest x p)
  argument_lacks q ts rest y (G.star {ts = us} {x = x} f p g) = ap argument_wrong g ∙ (made_argument parsed (argument.Star x) (Argument-F.Star x) (argument.rolls-Star x) ∙ tests us rest x p)
  argument_lacks q ts rest y (G.star_star {ts = us} {x = x} f p g) = ap argument_wrong g ∙ (made_argument parsed (argument.StarStar x) (Argument-F.StarStar x) (argument.rolls-StarStar x) ∙ tests us rest x p)

  arguments_lack : (l : Allowed) (ts rest : List Lexeme) (xs : List Argument) → AreArguments O T V l ts rest xs → sum_of (map argument_wrong xs) ≡ 0
  arguments_lack l ts rest xs (G.no_argument f) = omega arith
  arguments_lack l ts rest xs (G.last_argument {q = q} {t = n} {x = x} e p f) = let w : argument_wrong x ≡ 0 = argument_lacks q ts (n ∷ rest) x p in omega arith
  arguments_lack l ts rest xs (G.more_arguments {s' = m} {q = q} {t = n} {mid = mid} {x = x} {xs = zs} e p f r) =
      let w : argument_wrong x ≡ 0 = argument_lacks q ts (n ∷ mid) x p in
      let b : sum_of (map argument_wrong zs) ≡ 0 = arguments_lack m mid rest zs r in
      omega arith

  -- of what may be absent
  abbrev part_wrong : Option Expr → ℕ
  part_wrong None = 0
  part_wrong (Some x) = wrong x

  optional_lacks : (ts rest : List Lexeme) (x : Option Expr) → IsOptionalTest O T V ts rest x → part_wrong x ≡ 0
  optional_lacks ts rest x G.absent = omega arith
  optional_lacks ts rest x (G.present {x = y} p) = tests ts rest y p

  slice_wrong : (x y z : Option Expr) → part_wrong x ≡ 0 → part_wrong y ≡ 0 → part_wrong z ≡ 0 → suffix_wrong (suffix.Slice x y z) ≡ 0
  slice_wrong x y z h k l = made_suffix parsed (suffix.Slice x y z) (Suffix-F.Slice x y z) (suffix.rolls-Slice x y z) ∙ by x y z h k l
    where
      by : (x y z : Option Expr) → part_wrong x ≡ 0 → part_wrong y ≡ 0 → part_wrong z ≡ 0 → optional_count (option_map wrong x) + (optional_count (option_map wrong y) + optional_count (option_map wrong z)) ≡ 0
      by None None None h k l = omega arith
      by None None (Some z) h k l = omega arith
      by None (Some y) None h k l = omega arith
      by None (Some y) (Some z) h k l = omega arith
      by (Some x) None None h k l = omega arith
      by (Some x) None (Some z) h k l = omega arith
      by (Some x) (Some y) None h k l = omega arith
      by (Some x) (Some y) (Some z) h k l = omega arith

  pub expr_lacks : Lacks wrong (IsExpr O T V)
  expr_lacks ts rest y (G.tests {mid = mid} {x = x} {xs = []} p q f) = ap wrong f ∙ tests ts mid x p
  expr_lacks ts rest y (G.tests {mid = mid} {x = x} {xs = z ∷ zs} p q f) =
      let e : wrong y ≡ sum_of (map wrong (x ∷ z ∷ zs)) = ap wrong f ∙ made_expr parsed (expr.Tuple (x ∷ z ∷ zs)) (Expr-F.Expr::Tuple (x ∷ z ∷ zs)) (expr.rolls-Tuple (x ∷ z ∷ zs)) in
      let a : wrong x ≡ 0 = tests ts mid x p in
      let b : sum_of (map wrong (z ∷ zs)) ≡ 0 = commas_lack wrong T tests mid rest (z ∷ zs) q in
      omega arith

  pub suffix_lacks : Lacks suffix_wrong (IsSuffix O T V)
  suffix_lacks ts rest y (G.attribute {n = m} f g h i) = ap suffix_wrong i ∙ made_suffix parsed (suffix.Attribute (identifier m)) (Suffix-F.Attribute (identifier m)) (suffix.rolls-Attribute (identifier m))
  suffix_lacks ts rest y (G.method {n = m} {ts = us} {xs = xs} f g h p i) =
      ap suffix_wrong i ∙ (made_suffix parsed (suffix.Method (identifier m) xs) (Suffix-F.Method (identifier m) xs) (suffix.rolls-Method (identifier m) xs) ∙ arguments_lack _ us rest xs p)
  suffix_lacks ts rest y (G.call {ts = us} {xs = xs} f p g) = ap suffix_wrong g ∙ (made_suffix parsed (suffix.Call xs) (Suffix-F.Call xs) (suffix.rolls-Call xs) ∙ arguments_lack _ us rest xs p)
  suffix_lacks ts rest y (G.index {c = c} {ts = us} {x = x} f p g h) = ap suffix_wrong h ∙ (made_suffix parsed (suffix.Index x) (Suffix-F.Suffix::Index x) (suffix.rolls-Index x) ∙ expr_lacks us (c ∷ rest) x p)
  suffix_lacks ts rest y (G.slice {p = d} {c = c} {ts = us} {mid = mid} {x = u} {y = v} f p g q h i) =
      ap suffix_wrong i ∙ slice_wrong u v None (optional_lacks us (d ∷ mid) u p) (optional_lacks mid (c ∷ rest) v q) refl
  suffix_lacks ts rest y (G.stepped {p = d} {q = j} {c = c} {ts = us} {mid = mid} {us = vs} {x = u} {y = v} {w = z} f p g q h r i l) =
      ap suffix_wrong l ∙ slice_wrong u v z (optional_lacks us (d ∷ mid) u p) (optional_lacks mid (j ∷ vs) v q) (optional_lacks vs (c ∷ rest) z r)

  pub primary_lacks : Lacks wrong (IsPrimary O T V)
  primary_lacks ts rest y (G.primary {mid = mid} {x = x} {xs = []} p q f) = ap wrong f ∙ operand_lacks ts mid x p
  primary_lacks ts rest y (G.primary {mid = mid} {x = x} {xs = z ∷ zs} p q f) =
      let e : wrong y ≡ wrong x + sum_of (map suffix_wrong (z ∷ zs)) = ap wrong f ∙ made_expr parsed (expr.Primary x (z ∷ zs)) (Expr-F.Primary x (z ∷ zs)) (expr.rolls-Primary x (z ∷ zs)) in
      let a : wrong x ≡ 0 = operand_lacks ts mid x p in
      let b : sum_of (map suffix_wrong (z ∷ zs)) ≡ 0 = row_lacks suffix_wrong (IsSuffix O T V) suffix_lacks mid rest (z ∷ zs) q in
      omega arith

-- ---- operators

prefixed_lacks : (table : TokenKind → Option UnaryOperator) (X : Phrase Expr) → Lacks wrong X → Lacks wrong (IsPrefixed table X)
prefixed_lacks table X each ts rest y (G.prefixed {mid = mid} {x = x} {os = []} q p f) = ap wrong f ∙ each mid rest x p
prefixed_lacks table X each ts rest y (G.prefixed {mid = mid} {x = x} {os = o ∷ os} q p f) =
    ap wrong f ∙ (made_expr parsed (expr.Unary (o ∷ os) x) (Expr-F.Unary (o ∷ os) x) (expr.rolls-Unary (o ∷ os) x) ∙ each mid rest x p)

module _ (l : ℕ) (X : Phrase Expr) (each : Lacks wrong X) where
  operation_lacks : Lacks operation_wrong (IsOperation l X)
  operation_lacks ts rest y (G.operation {ts = us} {x = x} {o = o} h p f) = ap operation_wrong f ∙ (made_operation parsed o x ∙ each us rest x p)

  chain_lacks : Lacks wrong (IsChain l X)
  chain_lacks ts rest y (G.chain {mid = mid} {x = x} {os = []} p q f) = ap wrong f ∙ each ts mid x p
  chain_lacks ts rest y (G.chain {mid = mid} {x = x} {os = o ∷ os} p q f) =
      let e : wrong y ≡ wrong x + sum_of (map operation_wrong (o ∷ os)) = ap wrong f ∙ made_expr parsed (expr.Binary x (o ∷ os)) (Expr-F.Binary x (o ∷ os)) (expr.rolls-Binary x (o ∷ os)) in
      let a : wrong x ≡ 0 = each ts mid x p in
      let b : sum_of (map operation_wrong (o ∷ os)) ≡ 0 = row_lacks operation_wrong (IsOperation l X) operation_lacks mid rest (o ∷ os) q in
      omega arith

module _ (X : Phrase Expr) (each : Lacks wrong X) where
  binary_lacks : (l : ℕ) → Lacks wrong (IsBinary X l)
  binary_lacks zero = prefixed_lacks sign X each
  binary_lacks (suc l) = chain_lacks (suc l) (IsBinary X l) (binary_lacks l)

  comp_lacks : Lacks wrong (IsComp X)
  comp_lacks ts rest y (G.alone p) = binary_lacks 6 ts rest y p
  comp_lacks ts rest y (G.compared {mid = mid} {us = us} {x = x} {y = z} {o = o} p q r f) =
      let e : wrong y ≡ wrong x + wrong z = ap wrong f ∙ made_expr parsed (expr.Compare x o z) (Expr-F.Compare x o z) (expr.rolls-Compare x o z) in
      let a : wrong x ≡ 0 = binary_lacks 6 ts mid x p in
      let b : wrong z ≡ 0 = binary_lacks 6 us rest z r in
      omega arith

  pub or_lacks : Lacks wrong (IsOr X)
  or_lacks = chain_lacks 10 (IsChain 9 (IsPrefixed negation (IsComp X))) (chain_lacks 9 (IsPrefixed negation (IsComp X)) (prefixed_lacks negation (IsComp X) comp_lacks))

  -- a first value, and what may come in its place
  choices_lack : (mid rest : List Lexeme) (cs : List (Expr × Expr)) → Repeat (IsChoice X) mid rest cs → (x : Expr) → wrong x ≡ 0
      → (sum_of (map choice_wrong (choices_of x cs)) ≡ 0) × (wrong (last_of x cs) ≡ 0)
  choices_lack mid rest cs P.over x h = (omega arith, h)
  choices_lack mid rest cs (P.again {mid = us} {xs = ds} (G.choice {l = l} {ts = vs} {mid = ws} {x = d} {y = z} f p g q) qs) x h =
      let e = made_choice parsed x d in
      let a : wrong d ≡ 0 = or_lacks vs (l ∷ ws) d p in
      let w = choices_lack us rest ds qs z (or_lacks ws us z q) in
      let b : sum_of (map choice_wrong (choices_of z ds)) ≡ 0 = w.0 in
      (omega arith, w.1)

  pub test_lacks : Lacks wrong (IsTest X)
  test_lacks ts rest y (G.chosen {mid = mid} {x = x} {cs = []} p q f) = ap wrong f ∙ or_lacks ts mid x p
  test_lacks ts rest y (G.chosen {mid = mid} {x = x} {cs = d ∷ ds} p q f) =
      let cs = choices_of x (d ∷ ds) in
      let z = last_of x (d ∷ ds) in
      let e : wrong y ≡ sum_of (map choice_wrong cs) + wrong z = ap wrong f ∙ made_expr parsed (expr.Conditional cs z) (Expr-F.Conditional cs z) (expr.rolls-Conditional cs z) in
      let w = choices_lack mid rest (d ∷ ds) q x (or_lacks ts mid x p) in
      let a : sum_of (map choice_wrong cs) ≡ 0 = w.0 in
      let b : wrong z ≡ 0 = w.1 in
      omega arith
  test_lacks ts rest y (G.left_out f) = made_expr parsed expr.Lambda Expr-F.Lambda expr.rolls-Lambda

-- ---- in any number of brackets

pub primary_to_lacks : (depth : ℕ) → Lacks wrong (IsPrimaryTo depth)
primary_to_lacks zero = primary_lacks none none none (none_lacks wrong) (none_lacks wrong) (none_lacks variables_wrong)
primary_to_lacks (suc depth) =
    primary_lacks (IsOrTo depth) (IsTestTo depth) (IsVars depth) (or_lacks (IsPrimaryTo depth) (primary_to_lacks depth)) (test_lacks (IsPrimaryTo depth) (primary_to_lacks depth)) (vars_to_lack depth)

pub or_to_lacks : (depth : ℕ) → Lacks wrong (IsOrTo depth)
or_to_lacks depth = or_lacks (IsPrimaryTo depth) (primary_to_lacks depth)

pub test_to_lacks : (depth : ℕ) → Lacks wrong (IsTestTo depth)
test_to_lacks depth = test_lacks (IsPrimaryTo depth) (primary_to_lacks depth)

pub expr_to_lacks : (depth : ℕ) → Lacks wrong (IsExprTo depth)
expr_to_lacks depth = expr_lacks none (IsTestTo depth) none (none_lacks wrong) (test_to_lacks depth) (none_lacks variables_wrong)

pub operand_to_lacks : (depth : ℕ) → Lacks wrong (IsOperandTo depth)
operand_to_lacks zero = operand_lacks none none none (none_lacks wrong) (none_lacks wrong) (none_lacks variables_wrong)
operand_to_lacks (suc depth) = operand_lacks (IsOrTo depth) (IsTestTo depth) (IsVars depth) (or_to_lacks depth) (test_to_lacks depth) (vars_to_lack depth)

pub suffix_to_lacks : (depth : ℕ) → Lacks suffix_wrong (IsSuffixTo depth)
suffix_to_lacks zero = suffix_lacks none none none (none_lacks wrong) (none_lacks wrong) (none_lacks variables_wrong)
suffix_to_lacks (suc depth) = suffix_lacks (IsOrTo depth) (IsTestTo depth) (IsVars depth) (or_to_lacks depth) (test_to_lacks depth) (vars_to_lack depth)

pub index_to_lacks : (depth : ℕ) → Lacks wrong (IsIndexTo depth)
index_to_lacks zero = none_lacks wrong
index_to_lacks (suc depth) = expr_to_lacks depth
