-- Expressions: their agreement, and a primary as a test and back.
use Rattle.std.proofs.Common.{◌≡◌, ℕ, zero, suc, Bool, true, false, List, [], ◌∷◌, refl, sym, ap, ◌∙◌, subst, rules}
use Rattle.bq_source.specs.declared.token.TokenKind.TheVariants as k
use Rattle.bq_parse_grammar.specs.Lexeme.{Lexeme}
use Rattle.bq_parse_grammar.specs.declared.tree.Argument.TheOpen.{Expr-F}
use Rattle.bq_parse_grammar.specs.declared.tree.Choice.{Choice}
use Rattle.bq_parse_grammar.specs.declared.tree.Comparison.{Comparison}
use Rattle.bq_parse_grammar.specs.declared.tree.Expr.{Expr, out-Expr, the_lemmas}
use Rattle.bq_parse_grammar.specs.declared.tree.Expr.TheVariants as e
use Rattle.bq_parse_grammar.specs.declared.tree.Nested.TheVariants.{Test}
use Rattle.bq_parse_grammar.specs.declared.tree.Operation.{Operation}
use Rattle.bq_parse_grammar.specs.declared.tree.Suffix.{Suffix}
use Rattle.bq_parse_grammar.specs.declared.tree.UnaryOperator.{UnaryOperator}
use Rattle.bq_parse_grammar.specs.Phrases.{Phrase, none, Repeat, over, again, CommaThen}
use Rattle.bq_parse_grammar.specs.Grammar as G
use Rattle.bq_parse_grammar.specs.Grammar.{tuple_of, primary_of, choices_of, last_of, IsExpr, IsPrefixed, IsChain, IsBinary, IsComp, IsNot, IsAnd, IsOr, IsTest, IsPrimaryTo, IsTestTo, IsExprTo, IsOperandTo, IsSuffixTo}
use Rattle.bq_parse_grammar.specs.Targets.{ExprLayer}
use Rattle.bq_parse_grammar.specs.Turns.{Parse}
use Rattle.bq_parse_grammar.specs.Reading.{chained, phrase}
use Rattle.bq_parse_grammar.specs.ReadingStatements.{expr, expr_to}
use Rattle.bq_parse_grammar.proofs.Classes.{implied, ends, first_test}
use Rattle.bq_parse_grammar.proofs.Agrees.{Begins, Stops, Owes, Met, Agrees, seq, owes_as, met_then, stops_no, stops_wide}
use Rattle.bq_parse_grammar.proofs.Lists.{chain_of, chained_sound, chained_stops, chained_met}
use Rattle.bq_parse_grammar.proofs.Vars.{test_to_agrees}

pub clash : {a : Bool} → a ≡ true → a ≡ false → ⊥
clash h g = let w = sym h ∙ g in absurd (cc)

-- ---- Expr = Test { ',' Test }

tuple_chain : (x : Expr) (xs : List Expr) → chain_of e.Tuple x xs ≡ tuple_of x xs
tuple_chain x [] = refl
tuple_chain x (y ∷ ys) = refl

expr_agrees : (T : Phrase Expr) (r : Parse Expr) → Agrees first_test (ends 11) T r → Agrees first_test (ends 12) (IsExpr none T none) (expr r)
unfolding expr
expr_agrees T r ag = record { begins = begins; sound = sound; complete = complete }
  where
    begins : (ts rest : List Lexeme) (y : Expr) → IsExpr none T none ts rest y → Begins first_test ts
    begins ts rest y (G.tests {mid = mid} {x = x} p ps f) = ag.begins ts mid x p

    sound : (ts : List Lexeme) → Owes Expr (IsExpr none T none ts) (expr r ts)
    sound ts = seq (T ts) (IsExpr none T none ts) (r ts) (λ x mid. chained e.Tuple r x mid) (ag.sound ts)
        (λ x mid p. owes_as (λ rest y. (xs : List Expr) × (y ≡ chain_of e.Tuple x xs) × Repeat (CommaThen T) mid rest xs) (IsExpr none T none ts) (chained e.Tuple r x mid)
        (chained_sound T r ag e.Tuple x mid) (λ y rest w. G.tests p w.2 (w.1 ∙ tuple_chain x w.0)))
        (λ h rest. let x = h rest in (x.0, G.tests x.1 over refl))

    wide : (rest : List Lexeme) → Stops (ends 12) rest → Stops (ends 11) rest
    wide rest st = stops_wide (ends 12) (ends 11) rest (implied (ends 12) (ends 11) refl) st

    complete : (ts rest : List Lexeme) (y : Expr) → IsExpr none T none ts rest y → Stops (ends 12) rest → Met 1 ts (expr r ts) y rest
    complete ts rest y (G.tests {mid = mid} {x = x} {xs = xs} p ps f) st =
        met_then (r ts) (λ x mid. chained e.Tuple r x mid) (ag.complete ts mid x p (chained_stops T r ag e.Tuple refl mid rest xs ps (wide rest st)))
        (chained_met T r ag e.Tuple refl x y mid rest xs ps (wide rest st) (stops_no (ends 12) rest k.Comma st refl) (f ∙ sym (tuple_chain x xs)))

pub expr_to_agrees : (depth : ℕ) → Agrees first_test (ends 12) (IsExprTo depth) (expr_to (suc depth))
expr_to_agrees depth = expr_agrees (IsTestTo depth) (phrase (suc depth) Test) (test_to_agrees depth)

-- ---- the trees that may be targets

abbrev pub form_by : ExprLayer → Bool
form_by (Expr-F.Expr::Name n) = true
form_by (Expr-F.Primary x xs) = true
form_by (Expr-F.Expr::Tuple xs) = true
form_by (Expr-F.Expr::List xs) = true
form_by _ = false

abbrev pub has_form : Expr → Bool
has_form x = form_by (out-Expr x)

form-Lambda : has_form e.Lambda ≡ false
form-Lambda = search (rules, the_lemmas)

form-Conditional : (cs : List Choice) (x : Expr) → has_form (e.Conditional cs x) ≡ false
form-Conditional cs x = search (rules, the_lemmas)

form-Binary : (x : Expr) (os : List Operation) → has_form (e.Binary x os) ≡ false
form-Binary x os = search (rules, the_lemmas)

form-Unary : (os : List UnaryOperator) (x : Expr) → has_form (e.Unary os x) ≡ false
form-Unary os x = search (rules, the_lemmas)

form-Compare : (x : Expr) (o : Comparison) (y : Expr) → has_form (e.Compare x o y) ≡ false
form-Compare x o y = search (rules, the_lemmas)

-- ---- a test that has such a tree is a primary

prefixed_down : (table : _) (Operand : Phrase Expr) (ts rest : List Lexeme) (x : Expr) → IsPrefixed table Operand ts rest x → has_form x ≡ true → Operand ts rest x
prefixed_down table Operand ts rest x (G.prefixed over p f) h = subst (λ y. Operand ts rest y) (sym f) p
prefixed_down table Operand ts rest x (G.prefixed {x = y} (again {x = o} {xs = os} q qs) p f) h = absurd (clash h (ap has_form f ∙ form-Unary (o ∷ os) y))

chain_down : (l : ℕ) (Operand : Phrase Expr) (ts rest : List Lexeme) (x : Expr) → IsChain l Operand ts rest x → has_form x ≡ true → Operand ts rest x
chain_down l Operand ts rest x (G.chain p over f) h = subst (λ y. Operand ts rest y) (sym f) p
chain_down l Operand ts rest x (G.chain {x = y} p (again {x = o} {xs = os} q qs) f) h = absurd (clash h (ap has_form f ∙ form-Binary y (o ∷ os)))

module _ (Primary : Phrase Expr) where
  binary_down : (l : ℕ) (ts rest : List Lexeme) (x : Expr) → IsBinary Primary l ts rest x → has_form x ≡ true → Primary ts rest x
  binary_down zero ts rest x p h = prefixed_down _ Primary ts rest x p h
  binary_down (suc l) ts rest x p h = binary_down l ts rest x (chain_down (suc l) (IsBinary Primary l) ts rest x p h) h

  comp_down : (ts rest : List Lexeme) (x : Expr) → IsComp Primary ts rest x → has_form x ≡ true → Primary ts rest x
  comp_down ts rest x (G.alone p) h = binary_down 6 ts rest x p h
  comp_down ts rest x (G.compared {x = y} {y = z} {o = o} p q r f) h = absurd (clash h (ap has_form f ∙ form-Compare y o z))

  or_down : (ts rest : List Lexeme) (x : Expr) → IsOr Primary ts rest x → has_form x ≡ true → Primary ts rest x
  or_down ts rest x p h =
      comp_down ts rest x (prefixed_down _ (IsComp Primary) ts rest x (chain_down 9 (IsNot Primary) ts rest x (chain_down 10 (IsAnd Primary) ts rest x p h) h) h) h

  pub test_down : (ts rest : List Lexeme) (x : Expr) → IsTest Primary ts rest x → has_form x ≡ true → Primary ts rest x
  test_down ts rest x (G.left_out f) h = absurd (clash h form-Lambda)
  test_down ts rest x (G.chosen p over f) h = or_down ts rest x (subst (λ y. IsOr Primary ts rest y) (sym f) p) h
  test_down ts rest x (G.chosen {x = y} p (again {x = c} {xs = cs} q qs) f) h = absurd (clash h (ap has_form f ∙ form-Conditional (choices_of y (c ∷ cs)) (last_of y (c ∷ cs))))

  binary_up : (l : ℕ) (ts rest : List Lexeme) (x : Expr) → Primary ts rest x → IsBinary Primary l ts rest x
  binary_up zero ts rest x p = G.prefixed over p refl
  binary_up (suc l) ts rest x p = G.chain (binary_up l ts rest x p) over refl

  pub test_up : (ts rest : List Lexeme) (x : Expr) → Primary ts rest x → IsTest Primary ts rest x
  test_up ts rest x p = G.chosen (G.chain (G.chain (G.prefixed over (G.alone (binary_up 6 ts rest x p)) refl) over refl) over refl) over refl

-- ---- primaries of a depth

pub data Parts (depth : ℕ) (ts rest : List Lexeme) (x : Expr) : Type 0 where
  parts : (mid : List Lexeme) (y : Expr) (ys : List Suffix) → IsOperandTo depth ts mid y → Repeat (IsSuffixTo depth) mid rest ys → x ≡ primary_of y ys → Parts depth ts rest x

pub parts_of : (depth : ℕ) (ts rest : List Lexeme) (x : Expr) → IsPrimaryTo depth ts rest x → Parts depth ts rest x
parts_of zero ts rest x (G.primary {mid = mid} {x = y} {xs = ys} p ps f) = parts mid y ys p ps f
parts_of (suc depth) ts rest x (G.primary {mid = mid} {x = y} {xs = ys} p ps f) = parts mid y ys p ps f

pub primary_with : (depth : ℕ) (ts mid rest : List Lexeme) (x y : Expr) (ys : List Suffix) → IsOperandTo depth ts mid y → Repeat (IsSuffixTo depth) mid rest ys → x ≡ primary_of y ys
    → IsPrimaryTo depth ts rest x
primary_with zero ts mid rest x y ys p ps f = G.primary p ps f
primary_with (suc depth) ts mid rest x y ys p ps f = G.primary p ps f

pub expr_up : (depth : ℕ) (ts rest : List Lexeme) (x : Expr) → IsPrimaryTo depth ts rest x → IsExprTo depth ts rest x
expr_up depth ts rest x p = G.tests (test_up (IsPrimaryTo depth) ts rest x p) over refl
