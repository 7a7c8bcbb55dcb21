-- Each phrase of expressions takes what its tree writes.
use Rattle.std.proofs.Common.{◌≡◌, ℕ, pos, zero, suc, Bool, true, false, List, [], ◌∷◌, Option, Some, None, refl, sym, ap, ◌∙◌, subst}
use Rattle.bq_source.specs.declared.token.TokenKind.{TokenKind}
use Rattle.bq_source.specs.declared.token.TokenKind.TheVariants as k
use Rattle.bq_parse_grammar.specs.declared.tree.ComprehensionFrame.TheVariants as frame
use Rattle.bq_parse_grammar.specs.Lexeme.{Lexeme}
use Rattle.bq_parse_grammar.specs.Literals.{identifier}
use Rattle.bq_parse_grammar.specs.declared.tree.Expr.{Expr, out-Expr}
use Rattle.bq_parse_grammar.specs.declared.tree.UnaryOperator.{UnaryOperator}
use Rattle.bq_parse_grammar.specs.declared.tree.Comparison.{Comparison}
use Rattle.bq_parse_grammar.specs.declared.tree.Comparison.TheVariants as c
use Rattle.bq_parse_grammar.specs.declared.tree.Operation.{out-Operation}
use Rattle.bq_parse_grammar.specs.declared.tree.Pair.{out-Pair}
use Rattle.bq_parse_grammar.specs.declared.tree.Suffix.{Suffix, out-Suffix}
use Rattle.bq_parse_grammar.specs.declared.arguments.Allowed.{Allowed}
use Rattle.bq_parse_grammar.specs.declared.arguments.ArgumentKind.{ArgumentKind}
use Rattle.bq_parse_grammar.specs.declared.tree.Argument.{Argument, out-Argument}
use Rattle.bq_parse_grammar.specs.declared.tree.Clause.{Clause, out-Clause}
use Rattle.bq_parse_grammar.specs.declared.tree.TargetExpr.{TargetExpr, out-TargetExpr}
use Rattle.bq_parse_grammar.specs.Operators.{sign, negation}
use Rattle.bq_parse_grammar.specs.Phrases as P
use Rattle.bq_parse_grammar.specs.Phrases.{Phrase, none, Repeat, Listed, CommaThen}
use Rattle.bq_parse_grammar.specs.Turns.{sees}
use Rattle.bq_parse_grammar.specs.Grammar as G
use Rattle.bq_parse_grammar.specs.Grammar.{parenthesized_of, choices_of, last_of, IsVarOver, IsVar, IsVarsOver, IsVars, IsPair, IsForClause, IsClause, AreClauses, IsOperand, IsArgument, AreArguments, IsOptionalTest, IsExpr, IsSuffix, IsPrimary, IsPrefix, IsPrefixed, IsOperation, IsChain, IsBinary, IsCompOp, IsComp, IsOr, IsChoice, IsTest, IsPrimaryTo, IsOrTo, IsTestTo, IsExprTo, IsOperandTo, IsSuffixTo, IsIndexTo}
use Rattle.bq_parse_grammar.proofs.NextToken.{sees_it}
use Rattle.bq_parse_laws.specs.Parts as parts
use Rattle.bq_parse_laws.specs.Parts.{Part, row, listed, commas, unary, operator_kind, comparison, ExprLayer, expr_parts_by, optional_expr, SuffixLayer, suffix_parts_by, arguments, opening, ArgumentLayer, argument_parts_by, ClauseLayer, clause_parts_by, TargetLayer, target_parts_by}
use Rattle.bq_parse_laws.specs.Writes as W
use Rattle.bq_parse_laws.specs.Writes.{Writes, tokens}
use Rattle.bq_parse_laws.proofs.Operators.{operator_token, IsTable, sign_token, negation_token, comparison_kind, comparison_token}
use Rattle.bq_parse_laws.proofs.Layers as L

-- a phrase takes what is written as this part
abbrev pub Tells : {A : Type 0} → (A → Part) → Phrase A → Type 0
Tells {A = A} f X = (ts rest : List Lexeme) (x : A) → X ts rest x → (ps : List Part) → Writes ps rest → Writes (f x ∷ ps) ts

pub none_tells : {A : Type 0} (f : A → Part) → Tells f none
none_tells f ts rest x p = absurd p

-- ---- lists

module _ {A : Type 0} (f : A → Part) (X : Phrase A) (tell : Tells f X) where
  pub row_tells : (ts rest : List Lexeme) (xs : List A) → Repeat X ts rest xs → (ps : List Part) → Writes ps rest → Writes (row f xs ps) ts
  row_tells ts rest xs P.over ps w = w
  row_tells ts rest xs (P.again {mid = mid} {x = y} {xs = ys} p q) ps w = tell ts mid y p (row f ys ps) (row_tells mid rest ys q ps w)

  pub commas_tell : (ts rest : List Lexeme) (xs : List A) → Repeat (CommaThen X) ts rest xs → (ps : List Part) → Writes ps rest → Writes (commas f xs ps) ts
  commas_tell ts rest xs P.over ps w = w
  commas_tell ts rest xs (P.again {mid = mid} {xs = ys} (P.comma_then {ts = us} {x = y} g p) q) ps w =
      W.token g (tell us mid y p (commas f ys ps) (commas_tell mid rest ys q ps w))

  pub listed_tells : (close : TokenKind) (ts rest : List Lexeme) (xs : List A) → Listed close X ts rest xs → (ps : List Part) → Writes ps rest
      → Writes (listed k.Comma f xs (parts.token close ∷ ps)) ts
  listed_tells close ts rest xs (P.none_listed g) ps w = W.token g w
  listed_tells close ts rest xs (P.last_listed {t = t} {x = y} p g) ps w = tell ts (t ∷ rest) y p (parts.maybe k.Comma ∷ parts.token close ∷ ps) (W.absent (W.token g w))
  listed_tells close ts rest xs (P.more_listed {t = t} {mid = mid} {x = y} {xs = []} p g q) ps w =
      tell ts (t ∷ mid) y p (parts.maybe k.Comma ∷ parts.token close ∷ ps) (W.there (W.token g (listed_tells close mid rest [] q ps w)))
  listed_tells close ts rest xs (P.more_listed {t = t} {mid = mid} {x = y} {xs = z ∷ zs} p g q) ps w =
      tell ts (t ∷ mid) y p (parts.token k.Comma ∷ listed k.Comma f (z ∷ zs) (parts.token close ∷ ps)) (W.token g (listed_tells close mid rest (z ∷ zs) q ps w))

-- ---- made nodes

pub made_expr : {y : Expr} {l : ExprLayer} {ps : List Part} {ts : List Lexeme} → out-Expr y ≡ l → Writes (expr_parts_by l ps) ts → Writes (parts.expr y ∷ ps) ts
made_expr {ps = ps} {ts = ts} f w = W.expr (subst (λ m. Writes (expr_parts_by m ps) ts) (sym f) w)

pub same_expr : {x y : Expr} {ps : List Part} {ts : List Lexeme} → y ≡ x → Writes (parts.expr x ∷ ps) ts → Writes (parts.expr y ∷ ps) ts
same_expr {ps = ps} {ts = ts} f w = subst (λ z. Writes (parts.expr z ∷ ps) ts) (sym f) w

made_suffix : {y : Suffix} {l : SuffixLayer} {ps : List Part} {ts : List Lexeme} → out-Suffix y ≡ l → Writes (suffix_parts_by l ps) ts → Writes (parts.suffix y ∷ ps) ts
made_suffix {ps = ps} {ts = ts} f w = W.suffix (subst (λ m. Writes (suffix_parts_by m ps) ts) (sym f) w)

made_argument : {first : Bool} {y : Argument} {l : ArgumentLayer} {ps : List Part} {ts : List Lexeme} → out-Argument y ≡ l → Writes (argument_parts_by first l ps) ts
    → Writes (parts.argument first y ∷ ps) ts
made_argument {first = b} {ps = ps} {ts = ts} f w = W.argument (subst (λ m. Writes (argument_parts_by b m ps) ts) (sym f) w)

made_clause : {y : Clause} {l : ClauseLayer} {ps : List Part} {ts : List Lexeme} → out-Clause y ≡ l → Writes (clause_parts_by l ps) ts → Writes (parts.clause y ∷ ps) ts
made_clause {ps = ps} {ts = ts} f w = W.clause (subst (λ m. Writes (clause_parts_by m ps) ts) (sym f) w)

pub made_target : {y : TargetExpr} {l : TargetLayer} {ps : List Part} {ts : List Lexeme} → out-TargetExpr y ≡ l → Writes (target_parts_by l ps) ts → Writes (parts.target y ∷ ps) ts
made_target {ps = ps} {ts = ts} f w = W.target (subst (λ m. Writes (target_parts_by m ps) ts) (sym f) w)

-- ---- variables of a `for`

module _ (X : Phrase TargetExpr) (inner : Tells parts.target X) where
  var_tells : Tells parts.target (IsVarOver X)
  var_tells ts rest y (G.name {t = t} f g) ps w = made_target (ap out-TargetExpr g ∙ L.out-target_Name (identifier t)) (W.word f refl w)
  var_tells ts rest y (G.parenthesized {c = c} {ts = us} f p g) ps w = W.target_in_parentheses (W.token f (inner us (c ∷ rest) y p (parts.token k.RightParen ∷ ps) (W.token g w)))
  var_tells ts rest y (G.tuple {c = c} {ts = us} {mid = mid} {x = x} {xs = xs} f p g q h) ps w = made_target (ap out-TargetExpr h ∙ L.out-target_Tuple (x ∷ xs))
      (W.token f (inner us (c ∷ mid) x p (parts.token k.Comma ∷ listed k.Comma parts.target xs (parts.token k.RightParen ∷ ps)) (W.token g (listed_tells parts.target X inner k.RightParen mid rest xs q ps w))))
  var_tells ts rest y (G.list {ts = us} {x = x} {xs = xs} f q h) ps w = made_target (ap out-TargetExpr h ∙ L.out-target_List (x ∷ xs))
      (W.token f (listed_tells parts.target X inner k.RightBracket us rest (x ∷ xs) q ps w))

  pub same_target : {x y : TargetExpr} {ps : List Part} {ts : List Lexeme} → y ≡ x → Writes (parts.target x ∷ ps) ts → Writes (parts.target y ∷ ps) ts
  same_target {ps = ps} {ts = ts} f w = subst (λ z. Writes (parts.target z ∷ ps) ts) (sym f) w

  -- one or more with commas between them
  pub targets_tell : (ts mid rest : List Lexeme) (x y : TargetExpr) (xs : List TargetExpr) → X ts mid x → Repeat (CommaThen X) mid rest xs → y ≡ G.targets_of x xs
      → (ps : List Part) → Writes ps rest → Writes (parts.open_target y ∷ ps) ts
  targets_tell ts mid rest x y [] p q f ps w = W.whole_target (same_target f (inner ts mid x p ps (commas_tell parts.target X inner mid rest [] q ps w)))
  targets_tell ts mid rest x y (z ∷ zs) p q f ps w = W.open_targets x z zs f (inner ts mid x p (commas parts.target (z ∷ zs) ps) (commas_tell parts.target X inner mid rest (z ∷ zs) q ps w))

  vars_tell : Tells parts.open_target (IsVarsOver X)
  vars_tell ts rest y (G.vars {mid = mid} {x = x} {xs = xs} p q f) ps w = targets_tell ts mid rest x y xs p q f ps w

pub var_to_tells : (depth : ℕ) → Tells parts.target (IsVar depth)
var_to_tells zero = var_tells none (none_tells parts.target)
var_to_tells (suc depth) = var_tells (IsVar depth) (var_to_tells depth)

pub vars_to_tell : (depth : ℕ) → Tells parts.open_target (IsVars depth)
vars_to_tell depth = vars_tell (IsVar depth) (var_to_tells depth)

-- ---- over what stands in brackets

module _ (O T : Phrase Expr) (V : Phrase TargetExpr) (ors : Tells parts.expr O) (tests : Tells parts.expr T) (variables : Tells parts.open_target V) where
  pair_tells : Tells parts.pair (IsPair O T V)
  pair_tells ts rest y (G.pair {c = c} {mid = mid} {x = x} {y = z} p f q g) ps w =
      W.pair (subst (λ m. Writes (parts.expr m.key ∷ parts.token k.Colon ∷ parts.expr m.value ∷ ps) ts) (sym (ap out-Pair g ∙ L.opened_pair (record { key = x; value = z })))
      (tests ts (c ∷ mid) x p (parts.token k.Colon ∷ parts.expr z ∷ ps) (W.token f (tests mid rest z q ps w))))

  for_tells : Tells parts.clause (IsForClause O T V)
  for_tells ts rest y (G.for_clause {i = i} {ts = us} {mid = mid} {v = v} {x = x} f p g q h) ps w = made_clause (ap out-Clause h ∙ L.out-For v x)
      (W.token f (variables us (i ∷ mid) v p (parts.token k.In ∷ parts.expr x ∷ ps) (W.token g (ors mid rest x q ps w))))

  clause_tells : Tells parts.clause (IsClause O T V)
  clause_tells ts rest y (G.a_for p) ps w = for_tells ts rest y p ps w
  clause_tells ts rest y (G.an_if {ts = us} {x = x} f p g) ps w = made_clause (ap out-Clause g ∙ L.out-If x) (W.token f (ors us rest x p ps w))

  clauses_tell : (ts rest : List Lexeme) (ys : List Clause) → AreClauses O T V ts rest ys → (ps : List Part) → Writes ps rest → Writes (row parts.clause ys ps) ts
  clauses_tell ts rest ys (G.clauses {mid = mid} {y = z} {ys = zs} p q) ps w =
      for_tells ts mid z p (row parts.clause zs ps) (row_tells parts.clause (IsClause O T V) clause_tells mid rest zs q ps w)

  pub operand_tells : Tells parts.expr (IsOperand O T V)
  operand_tells ts rest y (G.a_name {t = t} f g) ps w = made_expr (ap out-Expr g ∙ L.out-Name (identifier t)) (W.word f refl w)
  operand_tells ts rest y (G.an_int {n = n} f g h) ps w = made_expr (ap out-Expr h ∙ L.out-Int (pos n)) (W.number f g w)
  operand_tells ts rest y (G.a_string {b = b} f g h) ps w = made_expr (ap out-Expr h ∙ L.out-String b) (W.text f g w)
  operand_tells ts rest y (G.empty_tuple f g h) ps w = made_expr (ap out-Expr h ∙ L.out-Tuple []) (W.token f (W.token g w))
  operand_tells ts rest y (G.parenthesized {o = o} {c = c} {ts = us} {x = x} f p g h) ps w = go (sees k.Dot rest) h
    where
      written : Writes (parts.token k.LeftParen ∷ parts.expr x ∷ parts.token k.RightParen ∷ ps) (o ∷ us)
      written = W.token f (tests us (c ∷ rest) x p (parts.token k.RightParen ∷ ps) (W.token g w))

      go : (b : Bool) → y ≡ parenthesized_of b x → Writes (parts.expr y ∷ ps) (o ∷ us)
      go true h = made_expr (ap out-Expr h ∙ L.out-Primary x []) written
      go false h = same_expr h (W.in_parentheses written)
  operand_tells ts rest y (G.a_tuple {c = c} {ts = us} {mid = mid} {x = x} {xs = xs} f p g q h) ps w = made_expr (ap out-Expr h ∙ L.out-Tuple (x ∷ xs))
      (W.token f (tests us (c ∷ mid) x p (parts.token k.Comma ∷ listed k.Comma parts.expr xs (parts.token k.RightParen ∷ ps)) (W.token g (listed_tells parts.expr T tests k.RightParen mid rest xs q ps w))))
  operand_tells ts rest y (G.a_list {ts = us} {xs = xs} f q h) ps w = made_expr (ap out-Expr h ∙ L.out-List xs) (W.token f (listed_tells parts.expr T tests k.RightBracket us rest xs q ps w))
  operand_tells ts rest y (G.a_list_comprehension {c = c} {ts = us} {mid = mid} {x = x} {cs = cs} f p q g h) ps w = made_expr (ap out-Expr h ∙ L.out-ListComprehension x cs frame.Shared)
      (W.token f (tests us mid x p (row parts.clause cs (parts.token k.RightBracket ∷ ps)) (clauses_tell mid (c ∷ rest) cs q (parts.token k.RightBracket ∷ ps) (W.token g w))))
  operand_tells ts rest y (G.a_dict {ts = us} {ps = xs} f q h) ps w = made_expr (ap out-Expr h ∙ L.out-Dict xs)
      (W.token f (listed_tells parts.pair (IsPair O T V) pair_tells k.RightBrace us rest xs q ps w))
  operand_tells ts rest y (G.a_dict_comprehension {c = c} {ts = us} {mid = mid} {p = x} {cs = cs} f p q g h) ps w = made_expr (ap out-Expr h ∙ L.out-DictComprehension x cs frame.Shared)
      (W.token f (pair_tells us mid x p (row parts.clause cs (parts.token k.RightBrace ∷ ps)) (clauses_tell mid (c ∷ rest) cs q (parts.token k.RightBrace ∷ ps) (W.token g w))))

  -- after the token before it
  argument_tells : (first : Bool) (q : ArgumentKind) (o : Lexeme) → o.kind ≡ opening first → (ts rest : List Lexeme) (x : Argument) → IsArgument O T V q ts rest x → (ps : List Part)
      → Writes ps rest → Writes (parts.argument first x ∷ ps) (o ∷ ts)
  argument_tells b q o e ts rest y (G.positional {x = x} p g) ps w = made_argument (ap out-Argument g ∙ L.out-Positional x) (W.token e (tests ts rest x p ps w))
  argument_tells b q o e ts rest y (G.named {n = n} {ts = us} {x = x} f g p h) ps w =
      made_argument (ap out-Argument h ∙ L.out-Named n.spelling x) (W.token e (W.spelled f refl (W.token g (tests us rest x p ps w))))
  argument_tells b q o e ts rest y (G.star {ts = us} {x = x} f p g) ps w = made_argument (ap out-Argument g ∙ L.out-Star x) (W.both e f (tests us rest x p ps w))
  argument_tells b q o e ts rest y (G.star_star {ts = us} {x = x} f p g) ps w = made_argument (ap out-Argument g ∙ L.out-StarStar x) (W.both e f (tests us rest x p ps w))

  -- after a comma
  others_tell : (s : Allowed) (o : Lexeme) → o.kind ≡ k.Comma → (ts rest : List Lexeme) (xs : List Argument) → AreArguments O T V s ts rest xs → (ps : List Part) → Writes ps rest
      → Writes (row (parts.argument false) xs (parts.maybe k.Comma ∷ parts.token k.RightParen ∷ ps)) (o ∷ ts)
  others_tell s o h ts rest xs (G.no_argument f) ps w = W.there (W.token h (W.token f w))
  others_tell s o h ts rest xs (G.last_argument {q = q} {t = t} {x = x} e p f) ps w =
      argument_tells false q o h ts (t ∷ rest) x p (parts.maybe k.Comma ∷ parts.token k.RightParen ∷ ps) (W.absent (W.token f w))
  others_tell s o h ts rest xs (G.more_arguments {s' = s'} {q = q} {t = t} {mid = mid} {x = x} {xs = zs} e p f r) ps w =
      argument_tells false q o h ts (t ∷ mid) x p (row (parts.argument false) zs (parts.maybe k.Comma ∷ parts.token k.RightParen ∷ ps)) (others_tell s' t f mid rest zs r ps w)

  arguments_tell : (s : Allowed) (o : Lexeme) → o.kind ≡ k.LeftParen → (ts rest : List Lexeme) (xs : List Argument) → AreArguments O T V s ts rest xs → (ps : List Part) → Writes ps rest
      → Writes (arguments xs ps) (o ∷ ts)
  arguments_tell s o h ts rest xs (G.no_argument f) ps w = W.token h (W.token f w)
  arguments_tell s o h ts rest xs (G.last_argument {q = q} {t = t} {x = x} e p f) ps w =
      argument_tells true q o h ts (t ∷ rest) x p (parts.maybe k.Comma ∷ parts.token k.RightParen ∷ ps) (W.absent (W.token f w))
  arguments_tell s o h ts rest xs (G.more_arguments {s' = s'} {q = q} {t = t} {mid = mid} {x = x} {xs = zs} e p f r) ps w =
      argument_tells true q o h ts (t ∷ mid) x p (row (parts.argument false) zs (parts.maybe k.Comma ∷ parts.token k.RightParen ∷ ps)) (others_tell s' t f mid rest zs r ps w)

  optional_tells : (ts rest : List Lexeme) (x : Option Expr) → IsOptionalTest O T V ts rest x → (ps : List Part) → Writes ps rest → Writes (optional_expr x ps) ts
  optional_tells ts rest x G.absent ps w = w
  optional_tells ts rest x (G.present {x = y} p) ps w = tests ts rest y p ps w

  pub expr_tells : Tells parts.open_expr (IsExpr O T V)
  expr_tells ts rest y (G.tests {mid = mid} {x = x} {xs = []} p q f) ps w = W.whole_expr (same_expr f (tests ts mid x p ps (commas_tell parts.expr T tests mid rest [] q ps w)))
  expr_tells ts rest y (G.tests {mid = mid} {x = x} {xs = z ∷ zs} p q f) ps w =
      W.open_tuple x z zs f (tests ts mid x p (commas parts.expr (z ∷ zs) ps) (commas_tell parts.expr T tests mid rest (z ∷ zs) q ps w))

  -- after the second part
  stepped_tells : (us rest : List Lexeme) (c : Lexeme) (z : Option Expr) → IsOptionalTest O T V us (c ∷ rest) z → c.kind ≡ k.RightBracket → (q : Lexeme) → q.kind ≡ k.Colon
      → (ps : List Part) → Writes ps rest → Writes (parts.step_parts z (parts.token k.RightBracket ∷ ps)) (q ∷ us)
  stepped_tells us rest c None p f q g ps w = W.there (W.token g (optional_tells us (c ∷ rest) None p (parts.token k.RightBracket ∷ ps) (W.token f w)))
  stepped_tells us rest c (Some z) p f q g ps w = W.token g (optional_tells us (c ∷ rest) (Some z) p (parts.token k.RightBracket ∷ ps) (W.token f w))

  pub suffix_tells : Tells parts.suffix (IsSuffix O T V)
  suffix_tells ts rest y (G.attribute {n = n} f g h i) ps w = made_suffix (ap out-Suffix i ∙ L.out-Attribute (identifier n)) (W.attribute f g refl h w)
  suffix_tells ts rest y (G.method {n = n} {o = o} {ts = us} {xs = xs} f g h p i) ps w = made_suffix (ap out-Suffix i ∙ L.out-Method (identifier n) xs)
      (W.method f g refl (sees_it o us k.LeftParen h) (arguments_tell _ o h us rest xs p ps w))
  suffix_tells ts rest y (G.call {o = o} {ts = us} {xs = xs} f p g) ps w = made_suffix (ap out-Suffix g ∙ L.out-Call xs) (arguments_tell _ o f us rest xs p ps w)
  suffix_tells ts rest y (G.index {c = c} {ts = us} {x = x} f p g h) ps w = made_suffix (ap out-Suffix h ∙ L.out-Index x)
      (W.token f (expr_tells us (c ∷ rest) x p (parts.token k.RightBracket ∷ ps) (W.token g w)))
  suffix_tells ts rest y (G.slice {p = d} {c = c} {ts = us} {mid = mid} {x = a} {y = b} f p g q h i) ps w = made_suffix (ap out-Suffix i ∙ L.out-Slice a b None)
      (W.token f (optional_tells us (d ∷ mid) a p (parts.token k.Colon ∷ optional_expr b (parts.maybe k.Colon ∷ parts.token k.RightBracket ∷ ps))
      (W.token g (optional_tells mid (c ∷ rest) b q (parts.maybe k.Colon ∷ parts.token k.RightBracket ∷ ps) (W.absent (W.token h w))))))
  suffix_tells ts rest y (G.stepped {p = d} {q = j} {c = c} {ts = us} {mid = mid} {us = vs} {x = a} {y = b} {w = z} f p g q h r i l) ps w = made_suffix (ap out-Suffix l ∙ L.out-Slice a b z)
      (W.token f (optional_tells us (d ∷ mid) a p (parts.token k.Colon ∷ optional_expr b (parts.step_parts z (parts.token k.RightBracket ∷ ps)))
      (W.token g (optional_tells mid (j ∷ vs) b q (parts.step_parts z (parts.token k.RightBracket ∷ ps)) (stepped_tells vs rest c z r i j h ps w)))))

  pub primary_tells : Tells parts.expr (IsPrimary O T V)
  primary_tells ts rest y (G.primary {mid = mid} {x = x} {xs = []} p q f) ps w = same_expr f (operand_tells ts mid x p ps (row_tells parts.suffix (IsSuffix O T V) suffix_tells mid rest [] q ps w))
  primary_tells ts rest y (G.primary {mid = mid} {x = x} {xs = z ∷ zs} p q f) ps w = made_expr (ap out-Expr f ∙ L.out-Primary x (z ∷ zs))
      (operand_tells ts mid x p (row parts.suffix (z ∷ zs) ps) (row_tells parts.suffix (IsSuffix O T V) suffix_tells mid rest (z ∷ zs) q ps w))

-- ---- operators

prefixes_tell : (table : TokenKind → Option UnaryOperator) → IsTable table → (ts rest : List Lexeme) (os : List UnaryOperator) → Repeat (IsPrefix table) ts rest os
    → (ps : List Part) → Writes ps rest → Writes (row unary os ps) ts
prefixes_tell table known ts rest os P.over ps w = w
prefixes_tell table known ts rest os (P.again {x = o} {xs = us} (G.prefix {t = t} {rest = mid} h) q) ps w = W.token (known t.kind o h) (prefixes_tell table known mid rest us q ps w)

prefixed_tells : (table : TokenKind → Option UnaryOperator) → IsTable table → (X : Phrase Expr) → Tells parts.expr X → Tells parts.expr (IsPrefixed table X)
prefixed_tells table known X tell ts rest y (G.prefixed {mid = mid} {x = x} {os = []} q p f) ps w =
    same_expr f (prefixes_tell table known ts mid [] q (parts.expr x ∷ ps) (tell mid rest x p ps w))
prefixed_tells table known X tell ts rest y (G.prefixed {mid = mid} {x = x} {os = o ∷ os} q p f) ps w = made_expr (ap out-Expr f ∙ L.out-Unary (o ∷ os) x)
    (prefixes_tell table known ts mid (o ∷ os) q (parts.expr x ∷ ps) (tell mid rest x p ps w))

module _ (l : ℕ) (X : Phrase Expr) (tell : Tells parts.expr X) where
  operation_tells : Tells parts.operation (IsOperation l X)
  operation_tells ts rest y (G.operation {t = t} {ts = us} {x = x} {o = o} h p f) ps w =
      W.operation (subst (λ m. Writes (parts.token (operator_kind m.operator) ∷ parts.expr m.operand ∷ ps) ts) (sym (ap out-Operation f ∙ L.opened_operation (record { operator = o; operand = x })))
      (W.token (operator_token l t.kind o h) (tell us rest x p ps w)))

  chain_tells : Tells parts.expr (IsChain l X)
  chain_tells ts rest y (G.chain {mid = mid} {x = x} {os = []} p q f) ps w = same_expr f (tell ts mid x p ps (row_tells parts.operation (IsOperation l X) operation_tells mid rest [] q ps w))
  chain_tells ts rest y (G.chain {mid = mid} {x = x} {os = o ∷ os} p q f) ps w = made_expr (ap out-Expr f ∙ L.out-Binary x (o ∷ os))
      (tell ts mid x p (row parts.operation (o ∷ os) ps) (row_tells parts.operation (IsOperation l X) operation_tells mid rest (o ∷ os) q ps w))

known_comparison : (o : Comparison) (t : Lexeme) (rest : List Lexeme) → comparison_kind o ≡ Some t.kind → (ps : List Part) → Writes ps rest → Writes (comparison o ps) (t ∷ rest)
known_comparison c.Equal t rest h ps w = W.token (cc) w
known_comparison c.NotEqual t rest h ps w = W.token (cc) w
known_comparison c.Less t rest h ps w = W.token (cc) w
known_comparison c.Greater t rest h ps w = W.token (cc) w
known_comparison c.LessEqual t rest h ps w = W.token (cc) w
known_comparison c.GreaterEqual t rest h ps w = W.token (cc) w
known_comparison c.In t rest h ps w = W.token (cc) w
known_comparison c.NotIn t rest h ps w = absurd (cc)

module _ (X : Phrase Expr) (tell : Tells parts.expr X) where
  unary_tells : Tells parts.expr (IsPrefixed sign X)
  unary_tells = prefixed_tells sign sign_token X tell

  binary_tells : (l : ℕ) → Tells parts.expr (IsBinary X l)
  binary_tells zero = unary_tells
  binary_tells (suc l) = chain_tells (suc l) (IsBinary X l) (binary_tells l)

  comp_op_tells : (ts rest : List Lexeme) (o : Comparison) → IsCompOp X ts rest o → (ps : List Part) → Writes ps rest → Writes (comparison o ps) ts
  comp_op_tells ts rest o (G.one_token {t = t} h) ps w = known_comparison o t rest (comparison_token t.kind o h) ps w
  comp_op_tells ts rest o (G.not_in f g) ps w = W.token f (W.token g w)

  comp_tells : Tells parts.expr (IsComp X)
  comp_tells ts rest y (G.alone p) ps w = binary_tells 6 ts rest y p ps w
  comp_tells ts rest y (G.compared {mid = mid} {us = us} {x = x} {y = z} {o = o} p q r f) ps w = made_expr (ap out-Expr f ∙ L.out-Compare x o z)
      (binary_tells 6 ts mid x p (comparison o (parts.expr z ∷ ps)) (comp_op_tells mid us o q (parts.expr z ∷ ps) (binary_tells 6 us rest z r ps w)))

  not_tells : Tells parts.expr (IsPrefixed negation (IsComp X))
  not_tells = prefixed_tells negation negation_token (IsComp X) comp_tells

  pub or_tells : Tells parts.expr (IsOr X)
  or_tells = chain_tells 10 (IsChain 9 (IsPrefixed negation (IsComp X))) (chain_tells 9 (IsPrefixed negation (IsComp X)) not_tells)

  -- a first value, and what may come in its place
  choices_tell : (mid rest : List Lexeme) (cs : List (Expr × Expr)) → Repeat (IsChoice X) mid rest cs → (x : Expr) (ts : List Lexeme)
      → ((ps : List Part) → Writes ps mid → Writes (parts.expr x ∷ ps) ts) → (ps : List Part) → Writes ps rest
      → Writes (row parts.choice (choices_of x cs) (parts.expr (last_of x cs) ∷ ps)) ts
  choices_tell mid rest cs P.over x ts first ps w = first ps w
  choices_tell mid rest cs (P.again {mid = us} {xs = ds} (G.choice {l = l} {ts = vs} {mid = ws} {x = d} {y = z} f p g q) qs) x ts first ps w =
      W.choice (subst (λ m. Writes (parts.expr m.value ∷ parts.token k.If ∷ parts.expr m.condition ∷ parts.token k.Else ∷ row parts.choice (choices_of z ds) (parts.expr (last_of z ds) ∷ ps)) ts)
      (sym (L.opened_choice (record { value = x; condition = d })))
      (first (parts.token k.If ∷ parts.expr d ∷ parts.token k.Else ∷ row parts.choice (choices_of z ds) (parts.expr (last_of z ds) ∷ ps))
      (W.token f (or_tells vs (l ∷ ws) d p (parts.token k.Else ∷ row parts.choice (choices_of z ds) (parts.expr (last_of z ds) ∷ ps))
      (W.token g (choices_tell us rest ds qs z ws (λ qs v. or_tells ws us z q qs v) ps w))))))

  pub test_tells : Tells parts.expr (IsTest X)
  test_tells ts rest y (G.chosen {mid = mid} {x = x} {cs = []} p q f) ps w = same_expr f (choices_tell mid rest [] q x ts (λ qs v. or_tells ts mid x p qs v) ps w)
  test_tells ts rest y (G.chosen {mid = mid} {x = x} {cs = d ∷ ds} p q f) ps w = made_expr (ap out-Expr f ∙ L.out-Conditional (choices_of x (d ∷ ds)) (last_of x (d ∷ ds)))
      (choices_tell mid rest (d ∷ ds) q x ts (λ qs v. or_tells ts mid x p qs v) ps w)
  test_tells ts rest y (G.left_out f) ps w = made_expr L.out-Lambda (W.token f W.anything)

-- ---- layers

pub primary_to_tells : (depth : ℕ) → Tells parts.expr (IsPrimaryTo depth)
primary_to_tells zero = primary_tells none none none (none_tells parts.expr) (none_tells parts.expr) (none_tells parts.open_target)
primary_to_tells (suc depth) = primary_tells (IsOrTo depth) (IsTestTo depth) (IsVars depth) (or_tells (IsPrimaryTo depth) (primary_to_tells depth))
    (test_tells (IsPrimaryTo depth) (primary_to_tells depth)) (vars_to_tell depth)

pub operand_to_tells : (depth : ℕ) → Tells parts.expr (IsOperandTo depth)
operand_to_tells zero = operand_tells none none none (none_tells parts.expr) (none_tells parts.expr) (none_tells parts.open_target)
operand_to_tells (suc depth) = operand_tells (IsOrTo depth) (IsTestTo depth) (IsVars depth) (or_tells (IsPrimaryTo depth) (primary_to_tells depth))
    (test_tells (IsPrimaryTo depth) (primary_to_tells depth)) (vars_to_tell depth)

pub suffix_to_tells : (depth : ℕ) → Tells parts.suffix (IsSuffixTo depth)
suffix_to_tells zero = suffix_tells none none none (none_tells parts.expr) (none_tells parts.expr) (none_tells parts.open_target)
suffix_to_tells (suc depth) = suffix_tells (IsOrTo depth) (IsTestTo depth) (IsVars depth) (or_tells (IsPrimaryTo depth) (primary_to_tells depth))
    (test_tells (IsPrimaryTo depth) (primary_to_tells depth)) (vars_to_tell depth)

pub test_to_tells : (depth : ℕ) → Tells parts.expr (IsTestTo depth)
test_to_tells depth = test_tells (IsPrimaryTo depth) (primary_to_tells depth)

pub expr_to_tells : (depth : ℕ) → Tells parts.open_expr (IsExprTo depth)
expr_to_tells depth = expr_tells none (IsTestTo depth) none (none_tells parts.expr) (test_to_tells depth) (none_tells parts.open_target)

pub index_to_tells : (depth : ℕ) → Tells parts.open_expr (IsIndexTo depth)
index_to_tells zero = none_tells parts.open_expr
index_to_tells (suc depth) = expr_to_tells depth

pub rest_writes : (rest : List Lexeme) → Writes (tokens rest) rest
rest_writes [] = W.over
rest_writes (t ∷ ts) = W.token refl (rest_writes ts)
