-- An operator has one token, or two in `not in`: the tables of the grammar, read backwards.
use Rattle.std.proofs.Common.{◌≡◌, ℕ, ◌==◌, Bool, true, false, cond, Option, Some, None, refl, sym, ap, ◌∙◌}
use Rattle.bq_source.specs.declared.token.TokenKind.{TokenKind}
use Rattle.bq_source.specs.declared.token.TokenKind.TheVariants as k
use Rattle.bq_parse_grammar.specs.declared.tree.Operator.{Operator}
use Rattle.bq_parse_grammar.specs.declared.tree.UnaryOperator.{UnaryOperator}
use Rattle.bq_parse_grammar.specs.declared.tree.Comparison.{Comparison}
use Rattle.bq_parse_grammar.specs.declared.tree.Comparison.TheVariants as c
use Rattle.bq_parse_grammar.specs.Operators.{binary_operator, operator_at, sign, negation, comparison, augmented}
use Rattle.bq_parse_grammar.proofs.Cases.{of_level}
use Rattle.bq_parse_laws.specs.Parts.{operator_kind, unary_kind, assignment_kind}

-- ---- operators between operands

binary_token : Option (ℕ × Operator) → TokenKind → TokenKind
binary_token None q = q
binary_token (Some p) q = operator_kind p.1

binary_tokens : (q : TokenKind) → binary_token (binary_operator q) q ≡ q
unfolding binary_token
binary_tokens k.Star = refl
binary_tokens k.SlashSlash = refl
binary_tokens k.Percent = refl
binary_tokens k.Slash = refl
binary_tokens k.Plus = refl
binary_tokens k.Minus = refl
binary_tokens k.LessLess = refl
binary_tokens k.GreaterGreater = refl
binary_tokens k.Ampersand = refl
binary_tokens k.Caret = refl
binary_tokens k.Pipe = refl
binary_tokens k.And = refl
binary_tokens k.Or = refl
binary_tokens _ = refl

of_level_is : (l : ℕ) (r : Option (ℕ × Operator)) (o : Operator) → of_level l r ≡ Some o → (p : ℕ × Operator) × (r ≡ Some p) × (p.1 ≡ o)
of_level_is l None o h = absurd (cc)
of_level_is l (Some p) o h = go (p.0 == l) h
  where
    go : (b : Bool) → cond b (Some p.1) None ≡ Some o → (z : ℕ × Operator) × (Some p ≡ Some z) × (z.1 ≡ o)
    go true g = (p, refl, cc)
    go false g = absurd (cc)

pub operator_token : (l : ℕ) (q : TokenKind) (o : Operator) → operator_at l q ≡ Some o → q ≡ operator_kind o
unfolding binary_token
operator_token l q o h = let w = of_level_is l (binary_operator q) o h in
    sym (binary_tokens q) ∙ ap (λ r. binary_token r q) w.1 ∙ ap operator_kind w.2

-- ---- operators before an operand

unary_token : Option UnaryOperator → TokenKind → TokenKind
unary_token None q = q
unary_token (Some p) q = unary_kind p

signs : (q : TokenKind) → unary_token (sign q) q ≡ q
unfolding unary_token
signs k.Plus = refl
signs k.Minus = refl
signs k.Tilde = refl
signs _ = refl

negations : (q : TokenKind) → unary_token (negation q) q ≡ q
unfolding unary_token
negations k.Not = refl
negations _ = refl

-- each token that the table knows is its operator's
abbrev pub IsTable : (TokenKind → Option UnaryOperator) → Type 0
IsTable table = (q : TokenKind) (o : UnaryOperator) → table q ≡ Some o → q ≡ unary_kind o

pub sign_token : IsTable sign
unfolding unary_token
sign_token q o h = sym (signs q) ∙ ap (λ r. unary_token r q) h

pub negation_token : IsTable negation
unfolding unary_token
negation_token q o h = sym (negations q) ∙ ap (λ r. unary_token r q) h

-- ---- comparisons

abbrev pub comparison_kind : Comparison → Option TokenKind
comparison_kind c.Equal = Some k.EqualEqual
comparison_kind c.NotEqual = Some k.NotEqual
comparison_kind c.Less = Some k.Less
comparison_kind c.Greater = Some k.Greater
comparison_kind c.LessEqual = Some k.LessEqual
comparison_kind c.GreaterEqual = Some k.GreaterEqual
comparison_kind c.In = Some k.In
comparison_kind c.NotIn = None

comparison_of : Option Comparison → TokenKind → Option TokenKind
comparison_of None q = Some q
comparison_of (Some p) q = comparison_kind p

comparisons : (q : TokenKind) → comparison_of (comparison q) q ≡ Some q
unfolding comparison_of
comparisons k.EqualEqual = refl
comparisons k.NotEqual = refl
comparisons k.Less = refl
comparisons k.Greater = refl
comparisons k.LessEqual = refl
comparisons k.GreaterEqual = refl
comparisons k.In = refl
comparisons _ = refl

pub comparison_token : (q : TokenKind) (o : Comparison) → comparison q ≡ Some o → comparison_kind o ≡ Some q
unfolding comparison_of
comparison_token q o h = sym (ap (λ r. comparison_of r q) h) ∙ comparisons q

-- ---- augmented assignments

assignment_of : Option Operator → TokenKind → Option TokenKind
assignment_of None q = Some q
assignment_of (Some p) q = assignment_kind p

assignments : (q : TokenKind) → assignment_of (augmented q) q ≡ Some q
unfolding assignment_of
assignments k.PlusAssign = refl
assignments k.MinusAssign = refl
assignments k.StarAssign = refl
assignments k.SlashAssign = refl
assignments k.SlashSlashAssign = refl
assignments k.PercentAssign = refl
assignments k.AmpersandAssign = refl
assignments k.PipeAssign = refl
assignments k.CaretAssign = refl
assignments k.LessLessAssign = refl
assignments k.GreaterGreaterAssign = refl
assignments _ = refl

pub assignment_token : (q : TokenKind) (o : Operator) → augmented q ≡ Some o → assignment_kind o ≡ Some q
unfolding assignment_of
assignment_token q o h = sym (ap (λ r. assignment_of r q) h) ∙ assignments q
