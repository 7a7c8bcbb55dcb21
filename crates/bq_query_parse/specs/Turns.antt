-- The steps that every reading is made of.
use Rattle.std.specs.Prelude.{ℕ, zero, suc, List, [], ◌∷◌, ◌++◌, length, Bool, false, Option, Some, None, Result, Ok, Err, if◌then◌else◌, ◌≡◌, ◌≢◌}
use Rattle.bq_query_lex.specs.declared.token.QueryTokenKind.{QueryTokenKind}
use Rattle.bq_query_parse.specs.Lexeme.{Lexeme, same_kind}
use Rattle.bq_query_parse.specs.declared.refusal.QuerySyntaxErr.{QuerySyntaxErr}
use Rattle.bq_query_parse.specs.declared.refusal.QuerySyntaxErr.TheVariants.{Memory}

-- what was read and the tokens after it, or nothing
abbrev pub Found : Type 0 → Type 0
Found A = Option (A × List Lexeme)

-- reads something at the beginning of some tokens
abbrev pub Parse : Type 0 → Type 0
Parse A = List Lexeme → Found A

infixl 10 ◌>>=◌
-- what is read behind what was found; nothing where that was nothing
abbrev pub ◌>>=◌ : {A B : Type 0} → Found A → (A → Parse B) → Found B
None >>= f = None
(Some p) >>= f = f p.0 p.1

-- what a function that reads ensures: what the definition reads, out of memory aside
abbrev pub Reads : {A : Type 0} → Found A → Result A QuerySyntaxErr → List Lexeme → Type 0
Reads found (Ok x) rest = found ≡ Some (x, rest)
Reads found (Err e) rest = e ≢ Memory → found ≡ None

-- ---- the next token

-- a token of this kind comes next
abbrev pub sees : QueryTokenKind → List Lexeme → Bool
sees kind [] = false
sees kind (t ∷ ts) = same_kind t.kind kind

-- the tokens without the first one
abbrev pub next : List Lexeme → List Lexeme
next [] = []
next (t ∷ ts) = ts

-- after the next token, if it is of this kind
abbrev pub after : QueryTokenKind → List Lexeme → List Lexeme
after kind ts = if sees kind ts then next ts else ts

-- passes the next token, which must be of this kind
abbrev pub expect : QueryTokenKind → Parse (Unit {0})
expect kind ts = if sees kind ts then Some (tt, next ts) else None

-- ---- repetition: what is found so far, and what one turn makes of it

-- a turn ends the repetition, with the tokens after it, goes on with what is found and these tokens, or fails
pub data Turn (S : Type 0) : Type 0 where
  ended : S → List Lexeme → Turn S
  goes : S → List Lexeme → Turn S
  failed : Turn S

-- what is read where a turn ended so: all that is found, what `go` reads from there on, or nothing
abbrev pub next_turn : {S : Type 0} → (S → Parse S) → Turn S → Found S
next_turn go (ended s rest) = Some (s, rest)
next_turn go (goes s rest) = go s rest
next_turn go failed = None

-- The number bounds the turns. Each turn that goes on takes a token, so after as many as there are tokens none is left.
unfoldable pub turns : {S : Type 0} → (S → List Lexeme → Turn S) → ℕ → S → Parse S
turns turn zero s ts = Some (s, ts)
turns turn (suc n) s ts = next_turn (turns turn n) (turn s ts)

-- ---- { X }, where X begins with a token that `begins` knows

-- a repetition with one item more; it fails where that wasn't read
abbrev pub goes_with : {A : Type 0} → List A → Found A → Turn (List A)
goes_with found None = failed
goes_with found (Some p) = goes (found ++ p.0 ∷ []) p.1

-- one item more, where the next token begins one; else the repetition ends
abbrev pub repeat_turn : {A : Type 0} → (List Lexeme → Bool) → Parse A → List A → List Lexeme → Turn (List A)
repeat_turn begins one found ts = if begins ts then goes_with found (one ts) else ended found ts

-- the items found, and all further ones
unfoldable pub repeat : {A : Type 0} → (List Lexeme → Bool) → Parse A → List A → Parse (List A)
repeat begins one found ts = turns (repeat_turn begins one) (length ts) found ts
