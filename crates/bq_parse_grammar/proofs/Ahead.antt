-- What a place in the tokens shows.
use Rattle.std.proofs.Common.{◌≡◌, ◌∙◌, ℕ, zero, suc, ◌-◌, Bool, true, false, ◌&&◌, List, [], ◌∷◌, length, drop, if◌then◌else◌, Option, Some, Ok, Err, refl, ap, sym, All}
use Rattle.std.proofs.lemmas.List.Elements.{All-head}
use Rattle.std.specs.Prelude.{IsSome}
use Rattle.bq_source.specs.declared.token.TokenKind.{TokenKind}
use Rattle.bq_source.specs.declared.token.TokenKind.TheVariants as k
use Rattle.bq_source.specs.declared.token.Token.{Token}
use Rattle.bq_source.specs.Spelling.{Lies}
use Rattle.bq_source.specs.StringLiteral.{string_value}
use Rattle.bq_source.specs.Token.{same_kind}
use Rattle.bq_parse_grammar.specs.Lexeme.{Lexeme, lexemes}
use Rattle.bq_parse_grammar.specs.Literals.{identifier, named}
use Rattle.bq_parse_grammar.specs.Statements.{line_of}
use Rattle.bq_parse_grammar.specs.declared.refusal.SyntaxErr.TheVariants.{Syntax}
use Rattle.bq_parse_grammar.specs.declared.tree.Identifier.{Identifier}
use Rattle.bq_parse_grammar.specs.Turns.{Found, sees, next}
use Rattle.bq_parse_grammar.specs.Operators.{binary_operator, operator_at}
use Rattle.bq_parse_grammar.proofs.Cases.{of_level}
use Rattle.bq_parse_grammar.specs.Reading.{has, is_known, known, looked_up, spelling_of, is_named, word}
use Rattle.bq_parse_grammar.specs.Tokens.{kind_ahead, known_by}

pub as_many : (text : List ℕ) (ts : List Token) → length (lexemes text ts) ≡ length ts
as_many text [] = refl
as_many text (t ∷ ts) = ap suc (as_many text ts)

-- the tokens of a text after the first `n`
pub later : (text : List ℕ) (n : ℕ) (ts : List Token) → drop n (lexemes text ts) ≡ lexemes text (drop n ts)
later text zero ts = refl
later text (suc n) [] = refl
later text (suc n) (t ∷ ts) = later text n ts

-- what the last of the first `n` tokens is, found by the tokens or by their spellings
pub ended : (text : List ℕ) (q : TokenKind) (ts : List Token) (left n : ℕ) → n ≡ length ts - left - 1
    → sees q (lexemes text (drop n ts)) ≡ sees q (drop (length (lexemes text ts) - left - 1) (lexemes text ts))
ended text q ts left n e =
    ap (λ m. sees q (lexemes text (drop m ts))) e ∙ (sym (ap (sees q) (later text (length ts - left - 1) ts)) ∙ ap (λ m. sees q (drop (m - left - 1) (lexemes text ts))) (sym (as_many text ts)))

-- a string literal that comes next has a value
pub string_ahead : (text : List ℕ) (ts : List Token) → All (Lies text) ts → kind_ahead (lexemes text ts) ≡ Some k.String
    → IsSome (string_value (spelling_of (lexemes text ts)))
string_ahead text [] lie next_is = absurd (cc)
string_ahead text (t ∷ ts) lie next_is = let is : t.kind ≡ k.String = cc in (All-head (Lies text) t ts lie).quoted is

and_false : (b : Bool) → (b && false) ≡ false
and_false true = refl
and_false false = refl

-- a named argument, by its first two tokens
pub named_ahead : (ts : List Lexeme) → is_named ts ≡ (sees k.Identifier ts && sees k.Assign (next ts))
named_ahead [] = refl
named_ahead (t ∷ []) = sym (and_false (same_kind t.kind k.Identifier))
named_ahead (t ∷ u ∷ us) = refl

-- an operator of one level, by the operator that comes next
pub level_ahead : (level : ℕ) (ts : List Lexeme) → has (operator_at level) ts ≡ is_known (of_level level (known_by binary_operator (kind_ahead ts)))
level_ahead level [] = refl
level_ahead level (t ∷ ts) = refl

pub level_known : (level : ℕ) (ts : List Lexeme) → looked_up (operator_at level) ts ≡ known (of_level level (known_by binary_operator (kind_ahead ts))) (next ts)
level_known level [] = refl
level_known level (t ∷ ts) = refl

-- what a table says of the next token
pub has_by : {B : Type 0} (table : TokenKind → Option B) (ts : List Lexeme) → has table ts ≡ is_known (known_by table (kind_ahead ts))
has_by table [] = refl
has_by table (t ∷ ts) = refl

pub looked_up_by : {B : Type 0} (table : TokenKind → Option B) (ts : List Lexeme) → looked_up table ts ≡ known (known_by table (kind_ahead ts)) (next ts)
looked_up_by table [] = refl
looked_up_by table (t ∷ ts) = refl

abbrev word_if : Lexeme → List Lexeme → Bool → Found Identifier
word_if t ts b = if b then Ok (identifier t, ts) else Err Syntax

-- a word, by whether one comes next
pub word_seen : (ts : List Lexeme) → sees k.Identifier ts ≡ true → word ts ≡ Ok (named (spelling_of ts) (line_of ts), next ts)
word_seen [] e = absurd (cc)
word_seen (t ∷ ts) e = ap (word_if t ts) e

pub word_unseen : (ts : List Lexeme) → sees k.Identifier ts ≡ false → word ts ≡ Err Syntax
word_unseen [] e = refl
word_unseen (t ∷ ts) e = ap (word_if t ts) e
