-- What comes next: where it is a word, a variable or an operand is its name; where it is a string, an operand is that; what a table says of it.
use Rattle.std.proofs.Common.{◌≡◌, ◌∙◌, ℕ, Bool, true, if◌then◌else◌, List, [], ◌∷◌, Option, Some, None, Ok, Err, refl, ap, sym}
use denote.Enum.Bare.{true_same}
use Rattle.bq_source.specs.contracts.token.TokenKind.{the_type}
use Rattle.bq_source.specs.declared.token.TokenKind.{TokenKind}
use Rattle.bq_source.specs.declared.token.TokenKind.TheVariants as k
use Rattle.bq_source.specs.Token.{same_kind}
use Rattle.bq_parse_grammar.specs.Lexeme.{Lexeme}
use Rattle.bq_parse_grammar.specs.Literals.{identifier}
use Rattle.bq_parse_grammar.specs.declared.refusal.SyntaxErr.TheVariants.{Syntax}
use Rattle.bq_parse_grammar.specs.declared.tree.Identifier.{Identifier}
use Rattle.bq_parse_grammar.specs.declared.tree.Expr.{Expr}
use Rattle.bq_parse_grammar.specs.declared.tree.Expr.TheVariants as e
use Rattle.bq_parse_grammar.specs.declared.tree.Nested.{Nested}
use Rattle.bq_parse_grammar.specs.declared.tree.TargetExpr.{TargetExpr}
use Rattle.bq_parse_grammar.specs.declared.tree.TargetExpr.TheVariants as target
use Rattle.bq_source.specs.StringLiteral.{string_value}
use Rattle.bq_parse_grammar.specs.Turns.{Found, Parse, ◌>>=◌, next}
use Rattle.bq_parse_grammar.specs.Reading.{word, var, var_by, operand, operand_by, string_of, spelling_of, has, is_known, looked_up, known}
use Rattle.bq_parse_grammar.specs.ReadingStatements.{text_of}
use Rattle.bq_parse_grammar.specs.Tokens.{kind_ahead, known_by}

kind_is : (a b : TokenKind) → a ≡ b → same_kind a b ≡ true
unfolding same_kind
kind_is a b e = true_same the_type a b e

abbrev name_if : {A : Type 0} → (Identifier → A) → Lexeme → List Lexeme → Bool → Found A
name_if f t ts b = (if b then Ok (identifier t, ts) else Err Syntax) >>= λ n rest. Ok (f n, rest)

-- where a word comes next, a variable or an operand is its name
pub word_is_var : (inner : Parse TargetExpr) (ts : List Lexeme) → kind_ahead ts ≡ Some k.Identifier
    → var inner ts ≡ (word ts >>= λ n rest. Ok (target.Name n, rest))
unfolding var
word_is_var inner [] next_is = absurd (cc)
word_is_var inner (t ∷ ts) next_is =
    let is : t.kind ≡ k.Identifier = cc in
    ap (λ q. var_by inner q t ts) is ∙ sym (ap (name_if target.Name t ts) (kind_is t.kind k.Identifier is))

pub word_is_operand : (inner : Nested → Parse Expr) (variables : Parse TargetExpr) (ts : List Lexeme) → kind_ahead ts ≡ Some k.Identifier
    → operand inner variables ts ≡ (word ts >>= λ n rest. Ok (e.Name n, rest))
unfolding operand
word_is_operand inner variables [] next_is = absurd (cc)
word_is_operand inner variables (t ∷ ts) next_is =
    let is : t.kind ≡ k.Identifier = cc in
    ap (λ q. operand_by inner variables q t ts) is ∙ sym (ap (name_if e.Name t ts) (kind_is t.kind k.Identifier is))

string_by : (value : Option (List ℕ)) (ts : List Lexeme) → string_of value ts ≡ (text_of value ts >>= λ b rest. Ok (e.String b, rest))
string_by None ts = refl
string_by (Some b) ts = refl

pub string_is_operand : (inner : Nested → Parse Expr) (variables : Parse TargetExpr) (ts : List Lexeme) → kind_ahead ts ≡ Some k.String
    → operand inner variables ts ≡ (text_of (string_value (spelling_of ts)) (next ts) >>= λ b rest. Ok (e.String b, rest))
unfolding operand
string_is_operand inner variables [] next_is = absurd (cc)
string_is_operand inner variables (t ∷ ts) next_is =
    let is : t.kind ≡ k.String = cc in
    ap (λ q. operand_by inner variables q t ts) is ∙ string_by (string_value t.spelling) ts

-- a token of a table comes next
pub has_by : {B : Type 0} (table : TokenKind → Option B) (ts : List Lexeme) → has table ts ≡ is_known (known_by table (kind_ahead ts))
has_by table [] = refl
has_by table (t ∷ ts) = refl

pub looked_up_by : {B : Type 0} (table : TokenKind → Option B) (ts : List Lexeme) → looked_up table ts ≡ known (known_by table (kind_ahead ts)) (next ts)
looked_up_by table [] = refl
looked_up_by table (t ∷ ts) = refl
