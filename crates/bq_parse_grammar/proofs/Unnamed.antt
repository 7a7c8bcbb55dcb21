-- A test that begins with `identifier =` is no more than the name, so no positional argument looks like a named one.
use Rattle.std.proofs.Common.{◌≡◌, ℕ, zero, suc, Bool, true, false, ◌&&◌, List, [], ◌∷◌, Option, Some, None, refl, sym, ap, ◌∙◌, subst}
use Rattle.bq_source.specs.declared.token.TokenKind.{TokenKind}
use Rattle.bq_source.specs.declared.token.TokenKind.TheVariants as k
use Rattle.bq_source.specs.Token.{same_kind}
use Rattle.bq_parse_grammar.specs.Lexeme.{Lexeme}
use Rattle.bq_parse_grammar.specs.declared.tree.Expr.{Expr}
use Rattle.bq_parse_grammar.specs.declared.tree.Operation.{Operation}
use Rattle.bq_parse_grammar.specs.declared.tree.Suffix.{Suffix}
use Rattle.bq_parse_grammar.specs.declared.tree.TargetExpr.{TargetExpr}
use Rattle.bq_parse_grammar.specs.declared.tree.Comparison.{Comparison}
use Rattle.bq_parse_grammar.specs.declared.tree.UnaryOperator.{UnaryOperator}
use Rattle.bq_parse_grammar.specs.Operators.{operator_at, sign, negation, comparison}
use Rattle.bq_parse_grammar.specs.Phrases.{Phrase, none, Repeat, over, again}
use Rattle.bq_parse_grammar.specs.Grammar as G
use Rattle.bq_parse_grammar.specs.Grammar.{IsOperand, IsSuffix, IsPrimary, IsPrimaryTo, IsPrefixed, IsOperation, IsChain, IsBinary, IsCompOp, IsComp, IsOr, IsChoice, IsTest}
use Rattle.bq_parse_grammar.specs.Turns.{sees}
use Rattle.bq_parse_grammar.specs.Reading.{is_named}
use Rattle.bq_parse_grammar.proofs.NextToken.{is_kind}
use Rattle.bq_parse_grammar.proofs.Classes.{first_suffix}
use Rattle.bq_parse_grammar.proofs.Agrees.{Begins}

-- a test that ends before a token other than `=` doesn't begin with `identifier =`
abbrev pub Unnamed : Phrase Expr → Type 0
Unnamed T = (ts rest : List Lexeme) (x : Expr) → T ts rest x → sees k.Assign rest ≡ false → is_named ts ≡ false

-- what begins with `identifier =` ends before the `=`
abbrev Alone : Phrase Expr → Type 0
Alone X = (n u : Lexeme) (us rest : List Lexeme) (x : Expr) → n.kind ≡ k.Identifier → u.kind ≡ k.Assign → X (n ∷ u ∷ us) rest x → rest ≡ u ∷ us

abbrev is_word : TokenKind → Bool
is_word k.Identifier = true
is_word _ = false

abbrev is_assign : TokenKind → Bool
is_assign k.Assign = true
is_assign _ = false

no_other : (f : TokenKind → Bool) (a b q : TokenKind) → q ≡ a → q ≡ b → f a ≡ true → f b ≡ false → ⊥
no_other f a b q g h i j = let w = sym i ∙ ap f (sym g ∙ h) ∙ j in absurd (cc)

stays : {A : Type 0} (X : Phrase A) (u : Lexeme) (us mid rest : List Lexeme) (xs : List A) → mid ≡ u ∷ us
    → ((m : List Lexeme) (y : A) → X (u ∷ us) m y → ⊥) → Repeat X mid rest xs → rest ≡ u ∷ us
stays X u us mid rest xs e unseen over = e
stays X u us mid rest xs e unseen (again {mid = m} {x = y} p ps) = absurd (unseen m y (subst (λ w. X w m y) e p))

no_value : {B : Type 0} (o : Option B) (y : B) → o ≡ None → o ≡ Some y → ⊥
no_value o y e f = let w = sym e ∙ f in absurd (cc)

module _ (O T : Phrase Expr) (V : Phrase TargetExpr) where
  pub suffix_begins : (ts rest : List Lexeme) (y : Suffix) → IsSuffix O T V ts rest y → Begins first_suffix ts
  suffix_begins ts rest y (G.attribute f g h i) = ap first_suffix f
  suffix_begins ts rest y (G.method f g h p i) = ap first_suffix f
  suffix_begins ts rest y (G.call f p g) = ap first_suffix f
  suffix_begins ts rest y (G.index f p g h) = ap first_suffix f
  suffix_begins ts rest y (G.slice f p g q h i) = ap first_suffix f
  suffix_begins ts rest y (G.stepped f p g q h w i j) = ap first_suffix f

  operand_alone : Alone (IsOperand O T V)
  operand_alone n u us rest x f g (G.a_name h i) = refl
  operand_alone n u us rest x f g (G.an_int h i j) = refl
  operand_alone n u us rest x f g (G.a_string h i j) = refl
  operand_alone n u us rest x f g (G.empty_tuple h i j) = absurd (no_other is_word k.Identifier k.LeftParen n.kind f h refl refl)
  operand_alone n u us rest x f g (G.parenthesized h p i j) = absurd (no_other is_word k.Identifier k.LeftParen n.kind f h refl refl)
  operand_alone n u us rest x f g (G.a_tuple h p i ps j) = absurd (no_other is_word k.Identifier k.LeftParen n.kind f h refl refl)
  operand_alone n u us rest x f g (G.a_list h ps i) = absurd (no_other is_word k.Identifier k.LeftBracket n.kind f h refl refl)
  operand_alone n u us rest x f g (G.a_list_comprehension h p cs i j) = absurd (no_other is_word k.Identifier k.LeftBracket n.kind f h refl refl)
  operand_alone n u us rest x f g (G.a_dict h ps i) = absurd (no_other is_word k.Identifier k.LeftBrace n.kind f h refl refl)
  operand_alone n u us rest x f g (G.a_dict_comprehension h p cs i j) = absurd (no_other is_word k.Identifier k.LeftBrace n.kind f h refl refl)

  primary_alone : Alone (IsPrimary O T V)
  primary_alone n u us rest x f g (G.primary {mid = mid} {x = y} {xs = xs} p ps h) =
      stays (IsSuffix O T V) u us mid rest xs (operand_alone n u us mid y f g p)
      (λ m z q. let w = sym (suffix_begins (u ∷ us) m z q) ∙ ap first_suffix g in absurd (cc)) ps

prefixed_alone : (table : TokenKind → Option UnaryOperator) (Operand : Phrase Expr) → table k.Identifier ≡ None → Alone Operand → Alone (IsPrefixed table Operand)
prefixed_alone table Operand unseen alone n u us rest x f g (G.prefixed {x = y} over p h) = alone n u us rest y f g p
prefixed_alone table Operand unseen alone n u us rest x f g (G.prefixed (again (G.prefix {y = o} e) ps) p h) = absurd (no_value (table n.kind) o (ap table f ∙ unseen) e)

chain_alone : (l : ℕ) (Operand : Phrase Expr) → Alone Operand → Alone (IsChain l Operand)
chain_alone l Operand alone n u us rest x f g (G.chain {mid = mid} {x = y} {os = os} p ps h) = stays (IsOperation l Operand) u us mid rest os (alone n u us mid y f g p) stop ps
  where
    stop : (m : List Lexeme) (z : Operation) → IsOperation l Operand (u ∷ us) m z → ⊥
    stop m z (G.operation {o = o} e q i) = no_value (operator_at l u.kind) o (ap (operator_at l) g) e

module _ (Primary : Phrase Expr) (alone : Alone Primary) where
  binary_alone : (l : ℕ) → Alone (IsBinary Primary l)
  binary_alone zero = prefixed_alone sign Primary refl alone
  binary_alone (suc l) = chain_alone (suc l) (IsBinary Primary l) (binary_alone l)

  comp_alone : Alone (IsComp Primary)
  comp_alone n u us rest x f g (G.alone p) = binary_alone 6 n u us rest x f g p
  comp_alone n u us rest x f g (G.compared {mid = mid} {us = ws} {x = y} {o = o} p q r h) =
      absurd (stop u us ws o g (subst (λ m. IsCompOp Primary m ws o) (binary_alone 6 n u us mid y f g p) q))
    where
      stop : (u : Lexeme) (us m : List Lexeme) (o : Comparison) → u.kind ≡ k.Assign → IsCompOp Primary (u ∷ us) m o → ⊥
      stop u us m o g (G.one_token e) = no_value (comparison u.kind) o (ap comparison g) e
      stop u us m o g (G.not_in e i) = no_other is_assign k.Assign k.Not u.kind g e refl refl

  or_alone : Alone (IsOr Primary)
  or_alone = chain_alone 10 _ (chain_alone 9 _ (prefixed_alone negation (IsComp Primary) refl comp_alone))

  test_alone : Alone (IsTest Primary)
  test_alone n u us rest x f g (G.left_out e) = absurd (no_other is_word k.Identifier k.Lambda n.kind f e refl refl)
  test_alone n u us rest x f g (G.chosen {mid = mid} {x = y} {cs = cs} p ps h) = stays (IsChoice Primary) u us mid rest cs (or_alone n u us mid y f g p) stop ps
    where
      stop : (m : List Lexeme) (z : Expr × Expr) → IsChoice Primary (u ∷ us) m z → ⊥
      stop m z (G.choice e q i r) = no_other is_assign k.Assign k.If u.kind g e refl refl

primary_to_alone : (depth : ℕ) → Alone (IsPrimaryTo depth)
primary_to_alone zero = primary_alone none none none
primary_to_alone (suc depth) = primary_alone _ _ _

unnamed_by : (T : Phrase Expr) → Alone T → Unnamed T
unnamed_by T alone [] rest x p unseen = refl
unnamed_by T alone (t ∷ []) rest x p unseen = refl
unnamed_by T alone (t ∷ u ∷ us) rest x p unseen = go (same_kind t.kind k.Identifier) (same_kind u.kind k.Assign) (is_kind t.kind k.Identifier) (is_kind u.kind k.Assign) refl
  where
    go : (a b : Bool) → (a ≡ true → t.kind ≡ k.Identifier) → (b ≡ true → u.kind ≡ k.Assign) → b ≡ same_kind u.kind k.Assign → (a && b) ≡ false
    go false b f g h = refl
    go true false f g h = refl
    go true true f g h = let w = h ∙ ap (sees k.Assign) (sym (alone t u us rest x (f refl) (g refl) p)) ∙ unseen in absurd (cc)

pub none_unnamed : Unnamed none
none_unnamed ts rest x p unseen = absurd p

pub test_unnamed : (depth : ℕ) → Unnamed (IsTest (IsPrimaryTo depth))
test_unnamed depth = unnamed_by (IsTest (IsPrimaryTo depth)) (test_alone (IsPrimaryTo depth) (primary_to_alone depth))
