-- How deep the trees of each phrase are: a bracket adds at most one node of each level of the grammar.
use Rattle.std.proofs.Common.{◌≡◌, ℕ, zero, suc, ◌+◌, ◌*◌, ◌≤◌, Bool, true, false, max, pos, List, [], ◌∷◌, map, Option, None, ap, ◌∙◌, arith}
use Rattle.bq_source.specs.declared.token.TokenKind.{TokenKind}
use Rattle.bq_source.specs.declared.token.TokenKind.TheVariants as k
use Rattle.bq_parse_grammar.specs.declared.tree.ComprehensionFrame.TheVariants as frame
use Rattle.bq_parse_grammar.specs.Lexeme.{Lexeme}
use Rattle.bq_parse_grammar.specs.Literals.{identifier}
use Rattle.bq_parse_grammar.specs.declared.tree.Expr.{Expr}
use Rattle.bq_parse_grammar.specs.declared.tree.UnaryOperator.{UnaryOperator}
use Rattle.bq_parse_grammar.specs.declared.arguments.Allowed.{Allowed}
use Rattle.bq_parse_grammar.specs.declared.arguments.ArgumentKind.{ArgumentKind}
use Rattle.bq_parse_grammar.specs.declared.tree.Argument.{Argument}
use Rattle.bq_parse_grammar.specs.declared.tree.Clause.{Clause}
use Rattle.bq_parse_grammar.specs.declared.tree.TargetExpr.{TargetExpr}
use Rattle.bq_parse_grammar.specs.Operators.{sign, negation}
use Rattle.bq_parse_grammar.specs.Phrases as P
use Rattle.bq_parse_grammar.specs.Phrases.{Phrase, none, Repeat, Listed, CommaThen}
use Rattle.bq_parse_grammar.specs.Turns.{sees}
use Rattle.bq_parse_grammar.specs.Grammar as G
use Rattle.bq_parse_grammar.specs.Grammar.{parenthesized_of, choices_of, last_of, targets_of, IsVarOver, IsVar, IsVarsOver, IsVars, IsPair, IsForClause, IsClause, AreClauses, IsOperand, IsArgument, AreArguments, IsOptionalTest, IsExpr, IsSuffix, IsPrimary, IsPrefixed, IsOperation, IsChain, IsBinary, IsComp, IsOr, IsChoice, IsTest, IsPrimaryTo, IsOrTo, IsTestTo, IsExprTo, IsOperandTo, IsSuffixTo, IsIndexTo}
use Rattle.bq_parse_laws.specs.Depth.{deepest, expr_depth, target_depth, argument_depth, clause_depth, suffix_depth, choice_depth, operation_depth, pair_depth}
use Rattle.bq_parse_laws.proofs.DepthLayers as D
use Rattle.bq_parse_laws.proofs.DepthLayers.{part_depth}

-- the trees of a phrase are at most so deep
abbrev pub Within : {A : Type 0} → (A → ℕ) → ℕ → Phrase A → Type 0
Within {A = A} f n X = (ts rest : List Lexeme) (x : A) → X ts rest x → f x ≤ n

pub none_within : {A : Type 0} (f : A → ℕ) (n : ℕ) → Within f n none
none_within f n ts rest x p = absurd p

pub wider : {A : Type 0} (f : A → ℕ) (m n : ℕ) (X : Phrase A) → m ≤ n → Within f m X → Within f n X
wider f m n X h each ts rest x p = let w : f x ≤ m = each ts rest x p in omega arith

-- ---- lists

module _ {A : Type 0} (f : A → ℕ) (n : ℕ) (X : Phrase A) (each : Within f n X) where
  pub row_within : (ts rest : List Lexeme) (xs : List A) → Repeat X ts rest xs → deepest (map f xs) ≤ n
  row_within ts rest xs P.over = omega arith
  row_within ts rest xs (P.again {mid = mid} {x = y} {xs = ys} p q) =
      let a : f y ≤ n = each ts mid y p in
      let b : deepest (map f ys) ≤ n = row_within mid rest ys q in
      omega arith

  pub commas_within : (ts rest : List Lexeme) (xs : List A) → Repeat (CommaThen X) ts rest xs → deepest (map f xs) ≤ n
  commas_within ts rest xs P.over = omega arith
  commas_within ts rest xs (P.again {mid = mid} {xs = ys} (P.comma_then {ts = us} {x = y} g p) q) =
      let a : f y ≤ n = each us mid y p in
      let b : deepest (map f ys) ≤ n = commas_within mid rest ys q in
      omega arith

  pub listed_within : (close : TokenKind) (ts rest : List Lexeme) (xs : List A) → Listed close X ts rest xs → deepest (map f xs) ≤ n
  listed_within close ts rest xs (P.none_listed g) = omega arith
  listed_within close ts rest xs (P.last_listed {t = t} {x = y} p g) =
      let a : f y ≤ n = each ts (t ∷ rest) y p in
      omega arith
  listed_within close ts rest xs (P.more_listed {t = t} {mid = mid} {x = y} {xs = ys} p g q) =
      let a : f y ≤ n = each ts (t ∷ mid) y p in
      let b : deepest (map f ys) ≤ n = listed_within close mid rest ys q in
      omega arith

-- ---- variables of a `for`

module _ (n : ℕ) (X : Phrase TargetExpr) (inner : Within target_depth n X) where
  var_within : Within target_depth (n + 1) (IsVarOver X)
  var_within ts rest y (G.name {t = t} f g) = let e : target_depth y ≡ 1 = ap target_depth g ∙ D.depth-target_Name (identifier t) in omega arith
  var_within ts rest y (G.parenthesized {c = c} {ts = us} f p g) = let a : target_depth y ≤ n = inner us (c ∷ rest) y p in omega arith
  var_within ts rest y (G.tuple {c = c} {ts = us} {mid = mid} {x = x} {xs = xs} f p g q h) =
      let e : target_depth y ≡ max (target_depth x) (deepest (map target_depth xs)) + 1 = ap target_depth h ∙ D.depth-target_Tuple (x ∷ xs) in
      let a : target_depth x ≤ n = inner us (c ∷ mid) x p in
      let b : deepest (map target_depth xs) ≤ n = listed_within target_depth n X inner _ mid rest xs q in
      omega arith
  var_within ts rest y (G.list {ts = us} {x = x} {xs = xs} f q h) =
      let e : target_depth y ≡ deepest (map target_depth (x ∷ xs)) + 1 = ap target_depth h ∙ D.depth-target_List (x ∷ xs) in
      let b : deepest (map target_depth (x ∷ xs)) ≤ n = listed_within target_depth n X inner _ us rest (x ∷ xs) q in
      omega arith

  pub targets_within : (ts mid rest : List Lexeme) (x y : TargetExpr) (xs : List TargetExpr) → X ts mid x → Repeat (CommaThen X) mid rest xs → y ≡ targets_of x xs → target_depth y ≤ n + 1
  targets_within ts mid rest x y [] p q f =
      let e : target_depth y ≡ target_depth x = ap target_depth f in
      let a : target_depth x ≤ n = inner ts mid x p in
      omega arith
  targets_within ts mid rest x y (z ∷ zs) p q f =
      let e : target_depth y ≡ max (target_depth x) (deepest (map target_depth (z ∷ zs))) + 1 = ap target_depth f ∙ D.depth-target_Tuple (x ∷ z ∷ zs) in
      let a : target_depth x ≤ n = inner ts mid x p in
      let b : deepest (map target_depth (z ∷ zs)) ≤ n = commas_within target_depth n X inner mid rest (z ∷ zs) q in
      omega arith

  vars_within : Within target_depth (n + 1) (IsVarsOver X)
  vars_within ts rest y (G.vars {mid = mid} {x = x} {xs = xs} p q f) = targets_within ts mid rest x y xs p q f

pub var_to_within : (depth : ℕ) → Within target_depth (depth + 1) (IsVar depth)
var_to_within zero = var_within 0 none (none_within target_depth 0)
var_to_within (suc depth) = wider target_depth (depth + 1 + 1) (suc depth + 1) (IsVar (suc depth)) (omega arith) (var_within (depth + 1) (IsVar depth) (var_to_within depth))

pub vars_to_within : (depth : ℕ) → Within target_depth (depth + 1 + 1) (IsVars depth)
vars_to_within depth = vars_within (depth + 1) (IsVar depth) (var_to_within depth)

-- ---- over what stands in brackets

module _ (n : ℕ) (O T : Phrase Expr) (V : Phrase TargetExpr) (ors : Within expr_depth n O) (tests : Within expr_depth n T) (variables : Within target_depth n V) where
  pair_within : Within pair_depth n (IsPair O T V)
  pair_within ts rest y (G.pair {c = c} {mid = mid} {x = x} {y = z} p f q g) =
      let e : pair_depth y ≡ max (expr_depth x) (expr_depth z) = ap pair_depth g ∙ D.depth-pair x z in
      let a : expr_depth x ≤ n = tests ts (c ∷ mid) x p in
      let b : expr_depth z ≤ n = tests mid rest z q in
      omega arith

  for_within : Within clause_depth n (IsForClause O T V)
  for_within ts rest y (G.for_clause {i = i} {ts = us} {mid = mid} {v = v} {x = x} f p g q h) =
      let e : clause_depth y ≡ max (target_depth v) (expr_depth x) = ap clause_depth h ∙ D.depth-For v x in
      let a : target_depth v ≤ n = variables us (i ∷ mid) v p in
      let b : expr_depth x ≤ n = ors mid rest x q in
      omega arith

  clause_within : Within clause_depth n (IsClause O T V)
  clause_within ts rest y (G.a_for p) = for_within ts rest y p
  clause_within ts rest y (G.an_if {ts = us} {x = x} f p g) =
      let e : clause_depth y ≡ expr_depth x = ap clause_depth g ∙ D.depth-If x in
      let a : expr_depth x ≤ n = ors us rest x p in
      omega arith

  clauses_within : (ts rest : List Lexeme) (ys : List Clause) → AreClauses O T V ts rest ys → deepest (map clause_depth ys) ≤ n
  clauses_within ts rest ys (G.clauses {mid = mid} {y = z} {ys = zs} p q) =
      let a : clause_depth z ≤ n = for_within ts mid z p in
      let b : deepest (map clause_depth zs) ≤ n = row_within clause_depth n (IsClause O T V) clause_within mid rest zs q in
      omega arith

  pub operand_within : Within expr_depth (n + 1) (IsOperand O T V)
  operand_within ts rest y (G.a_name {t = t} f g) = let e : expr_depth y ≡ 1 = ap expr_depth g ∙ D.depth-Name (identifier t) in omega arith
  operand_within ts rest y (G.an_int {n = m} f g h) = let e : expr_depth y ≡ 1 = ap expr_depth h ∙ D.depth-Int (pos m) in omega arith
  operand_within ts rest y (G.a_string {b = b} f g h) = let e : expr_depth y ≡ 1 = ap expr_depth h ∙ D.depth-String b in omega arith
  operand_within ts rest y (G.empty_tuple f g h) = let e : expr_depth y ≡ 0 + 1 = ap expr_depth h ∙ D.depth-Tuple [] in omega arith
  operand_within ts rest y (G.parenthesized {c = c} {ts = us} {x = x} f p g h) = go (sees k.Dot rest) h
    where
      go : (b : Bool) → y ≡ parenthesized_of b x → expr_depth y ≤ n + 1
      go true h =
          let e : expr_depth y ≡ max (expr_depth x) 0 + 1 = ap expr_depth h ∙ D.depth-Primary x [] in
          let a : expr_depth x ≤ n = tests us (c ∷ rest) x p in
          omega arith
      go false h =
          let e : expr_depth y ≡ expr_depth x = ap expr_depth h in
          let a : expr_depth x ≤ n = tests us (c ∷ rest) x p in
          omega arith
  operand_within ts rest y (G.a_tuple {c = c} {ts = us} {mid = mid} {x = x} {xs = xs} f p g q h) =
      let e : expr_depth y ≡ max (expr_depth x) (deepest (map expr_depth xs)) + 1 = ap expr_depth h ∙ D.depth-Tuple (x ∷ xs) in
      let a : expr_depth x ≤ n = tests us (c ∷ mid) x p in
      let b : deepest (map expr_depth xs) ≤ n = listed_within expr_depth n T tests _ mid rest xs q in
      omega arith
  operand_within ts rest y (G.a_list {ts = us} {xs = xs} f q h) =
      let e : expr_depth y ≡ deepest (map expr_depth xs) + 1 = ap expr_depth h ∙ D.depth-List xs in
      let b : deepest (map expr_depth xs) ≤ n = listed_within expr_depth n T tests _ us rest xs q in
      omega arith
  operand_within ts rest y (G.a_list_comprehension {c = c} {ts = us} {mid = mid} {x = x} {cs = cs} f p q g h) =
      let e : expr_depth y ≡ max (expr_depth x) (deepest (map clause_depth cs)) + 1 = ap expr_depth h ∙ D.depth-ListComprehension x cs frame.Shared in
      let a : expr_depth x ≤ n = tests us mid x p in
      let b : deepest (map clause_depth cs) ≤ n = clauses_within mid (c ∷ rest) cs q in
      omega arith
  operand_within ts rest y (G.a_dict {ts = us} {ps = xs} f q h) =
      let e : expr_depth y ≡ deepest (map pair_depth xs) + 1 = ap expr_depth h ∙ D.depth-Dict xs in
      let b : deepest (map pair_depth xs) ≤ n = listed_within pair_depth n (IsPair O T V) pair_within _ us rest xs q in
      omega arith
  operand_within ts rest y (G.a_dict_comprehension {c = c} {ts = us} {mid = mid} {p = x} {cs = cs} f p q g h) =
      let e : expr_depth y ≡ max (pair_depth x) (deepest (map clause_depth cs)) + 1 = ap expr_depth h ∙ D.depth-DictComprehension x cs frame.Shared in
      let a : pair_depth x ≤ n = pair_within us mid x p in
      let b : deepest (map clause_depth cs) ≤ n = clauses_within mid (c ∷ rest) cs q in
      omega arith

  argument_within : (q : ArgumentKind) → Within argument_depth n (IsArgument O T V q)
  argument_within q ts rest y (G.positional {x = x} p g) =
      let e : argument_depth y ≡ expr_depth x = ap argument_depth g ∙ D.depth-Positional x in
      let a : expr_depth x ≤ n = tests ts rest x p in
      omega arith
  argument_within q ts rest y (G.named {n = m} {ts = us} {x = x} f g p h) =
      let e : argument_depth y ≡ expr_depth x = ap argument_depth h ∙ D.depth-Named m.spelling x in
      let a : expr_depth x ≤ n = tests us rest x p in
      omega arith
  argument_within q ts rest y (G.star {ts = us} {x = x} f p g) =
      let e : argument_depth y ≡ expr_depth x = ap argument_depth g ∙ D.depth-Star x in
      let a : expr_depth x ≤ n = tests us rest x p in
      omega arith
  argument_within q ts rest y (G.star_star {ts = us} {x = x} f p g) =
      let e : argument_depth y ≡ expr_depth x = ap argument_depth g ∙ D.depth-StarStar x in
      let a : expr_depth x ≤ n = tests us rest x p in
      omega arith

  arguments_within : (s : Allowed) (ts rest : List Lexeme) (xs : List Argument) → AreArguments O T V s ts rest xs → deepest (map argument_depth xs) ≤ n
  arguments_within s ts rest xs (G.no_argument f) = omega arith
  arguments_within s ts rest xs (G.last_argument {q = q} {t = t} {x = x} e p f) =
      let a : argument_depth x ≤ n = argument_within q ts (t ∷ rest) x p in
      omega arith
  arguments_within s ts rest xs (G.more_arguments {s' = s'} {q = q} {t = t} {mid = mid} {x = x} {xs = zs} e p f r) =
      let a : argument_depth x ≤ n = argument_within q ts (t ∷ mid) x p in
      let b : deepest (map argument_depth zs) ≤ n = arguments_within s' mid rest zs r in
      omega arith

  optional_within : (ts rest : List Lexeme) (x : Option Expr) → IsOptionalTest O T V ts rest x → part_depth x ≤ n
  optional_within ts rest x G.absent = omega arith
  optional_within ts rest x (G.present {x = y} p) = tests ts rest y p

  pub expr_within : Within expr_depth (n + 1) (IsExpr O T V)
  expr_within ts rest y (G.tests {mid = mid} {x = x} {xs = []} p q f) =
      let e : expr_depth y ≡ expr_depth x = ap expr_depth f in
      let a : expr_depth x ≤ n = tests ts mid x p in
      omega arith
  expr_within ts rest y (G.tests {mid = mid} {x = x} {xs = z ∷ zs} p q f) =
      let e : expr_depth y ≡ max (expr_depth x) (deepest (map expr_depth (z ∷ zs))) + 1 = ap expr_depth f ∙ D.depth-Tuple (x ∷ z ∷ zs) in
      let a : expr_depth x ≤ n = tests ts mid x p in
      let b : deepest (map expr_depth (z ∷ zs)) ≤ n = commas_within expr_depth n T tests mid rest (z ∷ zs) q in
      omega arith

  pub suffix_within : Within suffix_depth (n + 1) (IsSuffix O T V)
  suffix_within ts rest y (G.attribute {n = m} f g h i) = let e : suffix_depth y ≡ 0 = ap suffix_depth i ∙ D.depth-Attribute (identifier m) in omega arith
  suffix_within ts rest y (G.method {n = m} {ts = us} {xs = xs} f g h p i) =
      let e : suffix_depth y ≡ deepest (map argument_depth xs) = ap suffix_depth i ∙ D.depth-Method (identifier m) xs in
      let a : deepest (map argument_depth xs) ≤ n = arguments_within _ us rest xs p in
      omega arith
  suffix_within ts rest y (G.call {ts = us} {xs = xs} f p g) =
      let e : suffix_depth y ≡ deepest (map argument_depth xs) = ap suffix_depth g ∙ D.depth-Call xs in
      let a : deepest (map argument_depth xs) ≤ n = arguments_within _ us rest xs p in
      omega arith
  suffix_within ts rest y (G.index {c = c} {ts = us} {x = x} f p g h) =
      let e : suffix_depth y ≡ expr_depth x = ap suffix_depth h ∙ D.depth-Index x in
      let a : expr_depth x ≤ n + 1 = expr_within us (c ∷ rest) x p in
      omega arith
  suffix_within ts rest y (G.slice {p = d} {c = c} {ts = us} {mid = mid} {x = u} {y = v} f p g q h i) =
      let e : suffix_depth y ≡ max (part_depth u) (max (part_depth v) 0) = ap suffix_depth i ∙ D.depth-Slice u v None in
      let a : part_depth u ≤ n = optional_within us (d ∷ mid) u p in
      let b : part_depth v ≤ n = optional_within mid (c ∷ rest) v q in
      omega arith
  suffix_within ts rest y (G.stepped {p = d} {q = j} {c = c} {ts = us} {mid = mid} {us = vs} {x = u} {y = v} {w = z} f p g q h r i l) =
      let e : suffix_depth y ≡ max (part_depth u) (max (part_depth v) (part_depth z)) = ap suffix_depth l ∙ D.depth-Slice u v z in
      let a : part_depth u ≤ n = optional_within us (d ∷ mid) u p in
      let b : part_depth v ≤ n = optional_within mid (j ∷ vs) v q in
      let w : part_depth z ≤ n = optional_within vs (c ∷ rest) z r in
      omega arith

  pub primary_within : Within expr_depth (n + 2) (IsPrimary O T V)
  primary_within ts rest y (G.primary {mid = mid} {x = x} {xs = []} p q f) =
      let e : expr_depth y ≡ expr_depth x = ap expr_depth f in
      let a : expr_depth x ≤ n + 1 = operand_within ts mid x p in
      omega arith
  primary_within ts rest y (G.primary {mid = mid} {x = x} {xs = z ∷ zs} p q f) =
      let e : expr_depth y ≡ max (expr_depth x) (deepest (map suffix_depth (z ∷ zs))) + 1 = ap expr_depth f ∙ D.depth-Primary x (z ∷ zs) in
      let a : expr_depth x ≤ n + 1 = operand_within ts mid x p in
      let b : deepest (map suffix_depth (z ∷ zs)) ≤ n + 1 = row_within suffix_depth (n + 1) (IsSuffix O T V) suffix_within mid rest (z ∷ zs) q in
      omega arith

-- ---- operators

prefixed_within : (table : TokenKind → Option UnaryOperator) (n : ℕ) (X : Phrase Expr) → Within expr_depth n X → Within expr_depth (n + 1) (IsPrefixed table X)
prefixed_within table n X each ts rest y (G.prefixed {mid = mid} {x = x} {os = []} q p f) =
    let e : expr_depth y ≡ expr_depth x = ap expr_depth f in
    let a : expr_depth x ≤ n = each mid rest x p in
    omega arith
prefixed_within table n X each ts rest y (G.prefixed {mid = mid} {x = x} {os = o ∷ os} q p f) =
    let e : expr_depth y ≡ expr_depth x + 1 = ap expr_depth f ∙ D.depth-Unary (o ∷ os) x in
    let a : expr_depth x ≤ n = each mid rest x p in
    omega arith

module _ (l n : ℕ) (X : Phrase Expr) (each : Within expr_depth n X) where
  operation_within : Within operation_depth n (IsOperation l X)
  operation_within ts rest y (G.operation {ts = us} {x = x} {o = o} h p f) =
      let e : operation_depth y ≡ expr_depth x = ap operation_depth f ∙ D.depth-operation o x in
      let a : expr_depth x ≤ n = each us rest x p in
      omega arith

  chain_within : Within expr_depth (n + 1) (IsChain l X)
  chain_within ts rest y (G.chain {mid = mid} {x = x} {os = []} p q f) =
      let e : expr_depth y ≡ expr_depth x = ap expr_depth f in
      let a : expr_depth x ≤ n = each ts mid x p in
      omega arith
  chain_within ts rest y (G.chain {mid = mid} {x = x} {os = o ∷ os} p q f) =
      let e : expr_depth y ≡ max (expr_depth x) (deepest (map operation_depth (o ∷ os))) + 1 = ap expr_depth f ∙ D.depth-Binary x (o ∷ os) in
      let a : expr_depth x ≤ n = each ts mid x p in
      let b : deepest (map operation_depth (o ∷ os)) ≤ n = row_within operation_depth n (IsOperation l X) operation_within mid rest (o ∷ os) q in
      omega arith

module _ (n : ℕ) (X : Phrase Expr) (each : Within expr_depth n X) where
  binary_within : (l : ℕ) → Within expr_depth (n + 1 + l) (IsBinary X l)
  binary_within zero = wider expr_depth (n + 1) (n + 1 + zero) (IsBinary X zero) (omega arith) (prefixed_within sign n X each)
  binary_within (suc l) = wider expr_depth (n + 1 + l + 1) (n + 1 + suc l) (IsBinary X (suc l)) (omega arith) (chain_within (suc l) (n + 1 + l) (IsBinary X l) (binary_within l))

  comp_within : Within expr_depth (n + 8) (IsComp X)
  comp_within ts rest y (G.alone p) = let a : expr_depth y ≤ n + 1 + 6 = binary_within 6 ts rest y p in omega arith
  comp_within ts rest y (G.compared {mid = mid} {us = us} {x = x} {y = z} {o = o} p q r f) =
      let e : expr_depth y ≡ max (expr_depth x) (expr_depth z) + 1 = ap expr_depth f ∙ D.depth-Compare x o z in
      let a : expr_depth x ≤ n + 1 + 6 = binary_within 6 ts mid x p in
      let b : expr_depth z ≤ n + 1 + 6 = binary_within 6 us rest z r in
      omega arith

  pub or_within : Within expr_depth (n + 8 + 1 + 1 + 1) (IsOr X)
  or_within = chain_within 10 (n + 8 + 1 + 1) (IsChain 9 (IsPrefixed negation (IsComp X)))
      (chain_within 9 (n + 8 + 1) (IsPrefixed negation (IsComp X)) (prefixed_within negation (n + 8) (IsComp X) comp_within))

  -- a first value, and what may come in its place
  choices_within : (mid rest : List Lexeme) (cs : List (Expr × Expr)) → Repeat (IsChoice X) mid rest cs → (x : Expr) → expr_depth x ≤ n + 8 + 1 + 1 + 1
      → (deepest (map choice_depth (choices_of x cs)) ≤ n + 8 + 1 + 1 + 1) × (expr_depth (last_of x cs) ≤ n + 8 + 1 + 1 + 1)
  choices_within mid rest cs P.over x h = (omega arith, h)
  choices_within mid rest cs (P.again {mid = us} {xs = ds} (G.choice {l = l} {ts = vs} {mid = ws} {x = d} {y = z} f p g q) qs) x h =
      let e = D.depth-choice x d in
      let a : expr_depth d ≤ n + 8 + 1 + 1 + 1 = or_within vs (l ∷ ws) d p in
      let w = choices_within us rest ds qs z (or_within ws us z q) in
      let b : deepest (map choice_depth (choices_of z ds)) ≤ n + 8 + 1 + 1 + 1 = w.0 in
      (omega arith, w.1)

  pub test_within : Within expr_depth (n + 12) (IsTest X)
  test_within ts rest y (G.chosen {mid = mid} {x = x} {cs = []} p q f) =
      let e : expr_depth y ≡ expr_depth x = ap expr_depth f in
      let a : expr_depth x ≤ n + 8 + 1 + 1 + 1 = or_within ts mid x p in
      omega arith
  test_within ts rest y (G.chosen {mid = mid} {x = x} {cs = d ∷ ds} p q f) =
      let e : expr_depth y ≡ max (deepest (map choice_depth (choices_of x (d ∷ ds)))) (expr_depth (last_of x (d ∷ ds))) + 1
      = ap expr_depth f ∙ D.depth-Conditional (choices_of x (d ∷ ds)) (last_of x (d ∷ ds)) in
      let w = choices_within mid rest (d ∷ ds) q x (or_within ts mid x p) in
      let a : deepest (map choice_depth (choices_of x (d ∷ ds))) ≤ n + 8 + 1 + 1 + 1 = w.0 in
      let b : expr_depth (last_of x (d ∷ ds)) ≤ n + 8 + 1 + 1 + 1 = w.1 in
      omega arith
  test_within ts rest y (G.left_out f) = let e = D.depth-Lambda in omega arith

-- ---- layers: a bracket adds at most 14

pub primary_to_within : (depth : ℕ) → Within expr_depth (14 * depth + 2) (IsPrimaryTo depth)
primary_to_within zero = primary_within 0 none none none (none_within expr_depth 0) (none_within expr_depth 0) (none_within target_depth 0)
primary_to_within (suc depth) = primary_within (14 * suc depth) (IsOrTo depth) (IsTestTo depth) (IsVars depth)
    (wider expr_depth (14 * depth + 2 + 8 + 1 + 1 + 1) (14 * suc depth) (IsOrTo depth) (omega arith) (or_within (14 * depth + 2) (IsPrimaryTo depth) (primary_to_within depth)))
    (wider expr_depth (14 * depth + 2 + 12) (14 * suc depth) (IsTestTo depth) (omega arith) (test_within (14 * depth + 2) (IsPrimaryTo depth) (primary_to_within depth)))
    (wider target_depth (depth + 1 + 1) (14 * suc depth) (IsVars depth) (omega arith) (vars_to_within depth))

pub or_to_within : (depth : ℕ) → Within expr_depth (14 * depth + 14) (IsOrTo depth)
or_to_within depth = wider expr_depth (14 * depth + 2 + 8 + 1 + 1 + 1) (14 * depth + 14) (IsOrTo depth) (omega arith) (or_within (14 * depth + 2) (IsPrimaryTo depth) (primary_to_within depth))

pub test_to_within : (depth : ℕ) → Within expr_depth (14 * depth + 14) (IsTestTo depth)
test_to_within depth = wider expr_depth (14 * depth + 2 + 12) (14 * depth + 14) (IsTestTo depth) (omega arith) (test_within (14 * depth + 2) (IsPrimaryTo depth) (primary_to_within depth))

pub expr_to_within : (depth : ℕ) → Within expr_depth (14 * depth + 14 + 1) (IsExprTo depth)
expr_to_within depth = expr_within (14 * depth + 14) none (IsTestTo depth) none (none_within expr_depth (14 * depth + 14)) (test_to_within depth) (none_within target_depth (14 * depth + 14))

pub vars_wide : (depth : ℕ) → Within target_depth (14 * depth + 14) (IsVars depth)
vars_wide depth = wider target_depth (depth + 1 + 1) (14 * depth + 14) (IsVars depth) (omega arith) (vars_to_within depth)

pub operand_to_within : (depth : ℕ) → Within expr_depth (14 * depth + 1) (IsOperandTo depth)
operand_to_within zero = operand_within 0 none none none (none_within expr_depth 0) (none_within expr_depth 0) (none_within target_depth 0)
operand_to_within (suc depth) = wider expr_depth (14 * depth + 14 + 1) (14 * suc depth + 1) (IsOperandTo (suc depth)) (omega arith)
    (operand_within (14 * depth + 14) (IsOrTo depth) (IsTestTo depth) (IsVars depth) (or_to_within depth) (test_to_within depth) (vars_wide depth))

pub suffix_to_within : (depth : ℕ) → Within suffix_depth (14 * depth + 1) (IsSuffixTo depth)
suffix_to_within zero = suffix_within 0 none none none (none_within expr_depth 0) (none_within expr_depth 0) (none_within target_depth 0)
suffix_to_within (suc depth) = wider suffix_depth (14 * depth + 14 + 1) (14 * suc depth + 1) (IsSuffixTo (suc depth)) (omega arith)
    (suffix_within (14 * depth + 14) (IsOrTo depth) (IsTestTo depth) (IsVars depth) (or_to_within depth) (test_to_within depth) (vars_wide depth))

pub index_to_within : (depth : ℕ) → Within expr_depth (14 * depth + 1) (IsIndexTo depth)
index_to_within zero = none_within expr_depth (14 * zero + 1)
index_to_within (suc depth) = wider expr_depth (14 * depth + 14 + 1) (14 * suc depth + 1) (IsIndexTo (suc depth)) (omega arith) (expr_to_within depth)
