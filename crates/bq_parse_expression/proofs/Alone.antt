-- A name or a literal is the whole phrase where nothing after it goes on with an expression.
use Rattle.std.proofs.Common.{◌≡◌, ◌∙◌, ℕ, zero, suc, Bool, true, false, ◌&&◌, ◌||◌, if◌then◌else◌, List, [], ◌∷◌, Option, Some, None, Ok, Err, refl, ap}
use Rattle.bq_source.specs.declared.token.TokenKind.{TokenKind}
use Rattle.bq_source.specs.declared.token.TokenKind.TheVariants as k
use Rattle.bq_source.specs.Token.{same_kind}
use Rattle.bq_source.specs.Number.{int_value}
use Rattle.bq_source.specs.StringLiteral.{string_value}
use Rattle.bq_parse_grammar.specs.Lexeme.{Lexeme}
use Rattle.bq_parse_grammar.specs.declared.refusal.SyntaxErr.TheVariants.{Lambda}
use Rattle.bq_parse_grammar.specs.declared.tree.Expr.{Expr}
use Rattle.bq_parse_grammar.specs.declared.tree.Expr.TheVariants as expr
use Rattle.bq_parse_grammar.specs.declared.tree.Nested.{Nested}
use Rattle.bq_parse_grammar.specs.declared.tree.Nested.TheVariants.{Or, Test}
use Rattle.bq_parse_grammar.specs.declared.tree.TargetExpr.{TargetExpr}
use Rattle.bq_parse_grammar.specs.declared.tree.UnaryOperator.{UnaryOperator}
use Rattle.bq_parse_grammar.specs.Grammar.{binary_of, unary_of, primary_of}
use Rattle.bq_parse_grammar.specs.Operators.{operator_at, sign, negation, comparison}
use Rattle.bq_parse_grammar.specs.Turns.{Found, Parse, ◌>>=◌, sees, next, repeat}
use Rattle.bq_parse_grammar.specs.Reading.{has, is_known, looked_up, int_of, string_of, begins_suffix, suffix, operand, operand_by, primary, prefixed, operation, chain, binary, begins_comparison, comp_op, comp_after, comp, not_test, and_test, or_test, conditional, test, phrase_by}
use Rattle.bq_parse_grammar.specs.Tokens.{kind_ahead}
use Rattle.bq_parse_expression.specs.Lone.{is_atom, ends_phrase, is_so, stands_alone}
use Rattle.bq_parse_expression.proofs.LoopTurns.{none_follow, no_choice}

-- what is read leaves these tokens
abbrev pub Leaves : {A : Type 0} → Found A → List Lexeme → Type 0
Leaves (Err e) rest = Unit {0}
Leaves (Ok p) rest = p.1 ≡ rest

-- no production goes on with these tokens
pub record Quiet (ts : List Lexeme) : Type 0 where
  pub no_suffix : begins_suffix ts ≡ false
  pub no_operator : (l : ℕ) → has (operator_at l) ts ≡ false
  pub no_comparison : begins_comparison ts ≡ false
  pub no_choice_next : sees k.If ts ≡ false

-- a first operand comes next without signs
pub record Bare (ts : List Lexeme) : Type 0 where
  pub no_sign : has sign ts ≡ false
  pub no_negation : has negation ts ≡ false
  pub no_lambda : sees k.Lambda ts ≡ false

-- ---- one token

no_suffix_by : (q : TokenKind) → ends_phrase q ≡ true → (same_kind q k.Dot || (same_kind q k.LeftParen || same_kind q k.LeftBracket)) ≡ false
unfolding same_kind
no_suffix_by k.Comma e = refl
no_suffix_by k.RightParen e = refl
no_suffix_by k.RightBracket e = refl
no_suffix_by k.RightBrace e = refl
no_suffix_by k.Colon e = refl
no_suffix_by k.Newline e = refl
no_suffix_by _ e = absurd (cc)

no_operator_by : (q : TokenKind) (l : ℕ) → ends_phrase q ≡ true → is_known (operator_at l q) ≡ false
no_operator_by k.Comma l e = refl
no_operator_by k.RightParen l e = refl
no_operator_by k.RightBracket l e = refl
no_operator_by k.RightBrace l e = refl
no_operator_by k.Colon l e = refl
no_operator_by k.Newline l e = refl
no_operator_by _ l e = absurd (cc)

no_comparison_by : (q : TokenKind) → ends_phrase q ≡ true → (is_known (comparison q) || same_kind q k.Not) ≡ false
unfolding same_kind
no_comparison_by k.Comma e = refl
no_comparison_by k.RightParen e = refl
no_comparison_by k.RightBracket e = refl
no_comparison_by k.RightBrace e = refl
no_comparison_by k.Colon e = refl
no_comparison_by k.Newline e = refl
no_comparison_by _ e = absurd (cc)

no_if_by : (q : TokenKind) → ends_phrase q ≡ true → same_kind q k.If ≡ false
unfolding same_kind
no_if_by k.Comma e = refl
no_if_by k.RightParen e = refl
no_if_by k.RightBracket e = refl
no_if_by k.RightBrace e = refl
no_if_by k.Colon e = refl
no_if_by k.Newline e = refl
no_if_by _ e = absurd (cc)

pub quiet : (ts : List Lexeme) → is_so ends_phrase (kind_ahead ts) ≡ true → Quiet ts
quiet [] e = absurd (cc)
quiet (t ∷ ts) e = record {
  no_suffix = no_suffix_by t.kind e;
  no_operator = λ l. no_operator_by t.kind l e;
  no_comparison = no_comparison_by t.kind e;
  no_choice_next = no_if_by t.kind e;
}

bare_by : (q : TokenKind) → is_atom q ≡ true → (is_known (sign q) ≡ false) × ((is_known (negation q) ≡ false) × (same_kind q k.Lambda ≡ false))
unfolding same_kind
bare_by k.Identifier e = (refl, (refl, refl))
bare_by k.String e = (refl, (refl, refl))
bare_by k.Int e = (refl, (refl, refl))
bare_by _ e = absurd (cc)

bare : (ts : List Lexeme) → is_so is_atom (kind_ahead ts) ≡ true → Bare ts
bare [] e = absurd (cc)
bare (t ∷ ts) e = let b = bare_by t.kind e in record { no_sign = b.0; no_negation = b.1.0; no_lambda = b.1.1 }

-- ---- what a token alone reads as

int_leaves : (n : Option ℕ) (ts : List Lexeme) → Leaves (int_of n ts) ts
int_leaves None ts = tt
int_leaves (Some n) ts = refl

string_leaves : (b : Option (List ℕ)) (ts : List Lexeme) → Leaves (string_of b ts) ts
string_leaves None ts = tt
string_leaves (Some b) ts = refl

module _ (inner : Nested → Parse Expr) (variables : Parse TargetExpr) where
  leaves_by : (q : TokenKind) (t : Lexeme) (ts : List Lexeme) → is_atom q ≡ true → Leaves (operand_by inner variables q t ts) ts
  leaves_by k.Identifier t ts e = refl
  leaves_by k.String t ts e = string_leaves (string_value t.spelling) ts
  leaves_by k.Int t ts e = int_leaves (int_value t.spelling) ts
  leaves_by _ t ts e = absurd (cc)

  operand_leaves : (ts : List Lexeme) → is_so is_atom (kind_ahead ts) ≡ true → Leaves (operand inner variables ts) (next ts)
  unfolding operand
  operand_leaves [] e = absurd (cc)
  operand_leaves (t ∷ ts) e = leaves_by t.kind t ts e

  -- ---- level by level

  suffixed : (r : Found Expr) (rest : List Lexeme) → Leaves r rest → Quiet rest
      → (r >>= λ x mid. repeat begins_suffix (suffix inner variables) [] mid >>= λ xs end. Ok (primary_of x xs, end)) ≡ r
  suffixed (Err e) rest leaves calm = refl
  suffixed (Ok p) rest leaves calm =
      ap (λ f. f >>= λ xs end. Ok (primary_of p.0 xs, end)) (none_follow begins_suffix (suffix inner variables) [] p.1 (ap begins_suffix leaves ∙ calm.no_suffix))

as_read : {A : Type 0} (r : Found A) → (r >>= λ x rest. Ok (x, rest)) ≡ r
as_read (Err e) = refl
as_read (Ok p) = refl

pub unsigned : (table : TokenKind → Option UnaryOperator) (one : Parse Expr) (ts : List Lexeme) → has table ts ≡ false → prefixed table one ts ≡ one ts
unfolding prefixed
unsigned table one ts none =
    ap (λ f. f >>= λ os mid. one mid >>= λ x rest. Ok (unary_of os x, rest)) (none_follow (has table) (looked_up table) [] ts none) ∙ as_read (one ts)

unchained_by : (l : ℕ) (one : Parse Expr) (r : Found Expr) (rest : List Lexeme) → Leaves r rest → Quiet rest
    → (r >>= λ x mid. repeat (has (operator_at l)) (operation l one) [] mid >>= λ os end. Ok (binary_of x os, end)) ≡ r
unchained_by l one (Err e) rest leaves calm = refl
unchained_by l one (Ok p) rest leaves calm =
    ap (λ f. f >>= λ os end. Ok (binary_of p.0 os, end)) (none_follow (has (operator_at l)) (operation l one) [] p.1 (ap (has (operator_at l)) leaves ∙ calm.no_operator l))

-- a chain that is what its first operand reads as
unchained : (l : ℕ) (one : Parse Expr) (ts : List Lexeme) (r : Found Expr) (rest : List Lexeme) → one ts ≡ r → Leaves r rest → Quiet rest → chain l one ts ≡ r
unfolding chain
unchained l one ts r rest reads leaves calm =
    ap (λ f. f >>= λ x mid. repeat (has (operator_at l)) (operation l one) [] mid >>= λ os end. Ok (binary_of x os, end)) reads ∙ unchained_by l one r rest leaves calm

module _ (base : Parse Expr) where
  compared_by : (r : Found Expr) (rest : List Lexeme) → Leaves r rest → Quiet rest → (r >>= λ x mid. comp_after base x mid) ≡ r
  compared_by (Err e) rest leaves calm = refl
  compared_by (Ok p) rest leaves calm =
      ap (λ b. if b then (comp_op p.1 >>= λ o us. binary base 6 us >>= λ y end. Ok (expr.Compare p.0 o y, end)) else Ok (p.0, p.1)) (ap begins_comparison leaves ∙ calm.no_comparison)

  chosen_by : (r : Found Expr) (rest : List Lexeme) → Leaves r rest → Quiet rest → (r >>= λ x mid. conditional base x mid) ≡ r
  chosen_by (Err e) rest leaves calm = refl
  chosen_by (Ok p) rest leaves calm = no_choice base p.0 p.1 (ap (sees k.If) leaves ∙ calm.no_choice_next)

  levels : (l : ℕ) (ts : List Lexeme) (r : Found Expr) (rest : List Lexeme) → base ts ≡ r → Bare ts → Leaves r rest → Quiet rest → binary base l ts ≡ r
  levels zero ts r rest reads plain leaves calm = unsigned sign base ts plain.no_sign ∙ reads
  levels (suc l) ts r rest reads plain leaves calm = unchained (suc l) (binary base l) ts r rest (levels l ts r rest reads plain leaves calm) leaves calm

  compared : (ts : List Lexeme) (r : Found Expr) (rest : List Lexeme) → base ts ≡ r → Bare ts → Leaves r rest → Quiet rest → comp base ts ≡ r
  unfolding comp
  compared ts r rest reads plain leaves calm =
      ap (λ f. f >>= λ x mid. comp_after base x mid) (levels 6 ts r rest reads plain leaves calm) ∙ compared_by r rest leaves calm

  or_alone : (ts : List Lexeme) (r : Found Expr) (rest : List Lexeme) → base ts ≡ r → Bare ts → Leaves r rest → Quiet rest → or_test base ts ≡ r
  or_alone ts r rest reads plain leaves calm =
      let negated : not_test base ts ≡ r = unsigned negation (comp base) ts plain.no_negation ∙ compared ts r rest reads plain leaves calm in
      unchained 10 (and_test base) ts r rest (unchained 9 (not_test base) ts r rest negated leaves calm) leaves calm

  test_alone : (ts : List Lexeme) (r : Found Expr) (rest : List Lexeme) → base ts ≡ r → Bare ts → Leaves r rest → Quiet rest → test base ts ≡ r
  unfolding test
  test_alone ts r rest reads plain leaves calm =
      ap (λ b. if b then Err Lambda else (or_test base ts >>= λ x mid. conditional base x mid)) plain.no_lambda
      ∙ (ap (λ f. f >>= λ x mid. conditional base x mid) (or_alone ts r rest reads plain leaves calm) ∙ chosen_by r rest leaves calm)

  pub phrase_alone : (which : Nested) (ts : List Lexeme) (r : Found Expr) (rest : List Lexeme) → base ts ≡ r → Bare ts → Leaves r rest → Quiet rest
      → phrase_by base which ts ≡ r
  phrase_alone Or ts r rest reads plain leaves calm = or_alone ts r rest reads plain leaves calm
  phrase_alone Test ts r rest reads plain leaves calm = test_alone ts r rest reads plain leaves calm

both_left : (a b : Bool) → (a && b) ≡ true → a ≡ true
both_left true b e = refl
both_left false b e = absurd (cc)

both_right : (a b : Bool) → (a && b) ≡ true → b ≡ true
both_right true b e = e
both_right false b e = absurd (cc)

-- a token that stands alone is the phrase
pub lone_phrase : (inner : Nested → Parse Expr) (variables : Parse TargetExpr) (which : Nested) (ts : List Lexeme) → stands_alone ts ≡ true
    → phrase_by (primary inner variables) which ts ≡ operand inner variables ts
unfolding primary
lone_phrase inner variables which ts alone =
    let first = both_left (is_so is_atom (kind_ahead ts)) (is_so ends_phrase (kind_ahead (next ts))) alone in
    let last = both_right (is_so is_atom (kind_ahead ts)) (is_so ends_phrase (kind_ahead (next ts))) alone in
    let leaves = operand_leaves inner variables ts first in
    let calm = quiet (next ts) last in
    phrase_alone (primary inner variables) which ts (operand inner variables ts) (next ts)
    (suffixed inner variables (operand inner variables ts) (next ts) leaves calm) (bare ts first) leaves calm
