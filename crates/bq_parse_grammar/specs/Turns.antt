-- The steps that every reading is made of.
use Rattle.std.specs.Prelude.{ℕ, zero, suc, List, [], ◌∷◌, ◌++◌, length, Bool, false, Result, Ok, Err, if◌then◌else◌, ◌≡◌, ◌≢◌}
use Rattle.bq_source.specs.declared.token.TokenKind.{TokenKind}
use Rattle.bq_source.specs.declared.token.TokenKind.TheVariants as k
use Rattle.bq_source.specs.Token.{same_kind}
use Rattle.bq_parse_grammar.specs.Lexeme.{Lexeme}
use Rattle.bq_parse_grammar.specs.declared.refusal.SyntaxErr.{SyntaxErr}
use Rattle.bq_parse_grammar.specs.declared.refusal.SyntaxErr.TheVariants.{Memory, Syntax}

-- what was read and the tokens after it, or why nothing was
abbrev pub Found : Type 0 → Type 0
Found A = Result (A × List Lexeme) SyntaxErr

-- reads something at the beginning of some tokens
abbrev pub Parse : Type 0 → Type 0
Parse A = List Lexeme → Found A

infixl 10 ◌>>=◌
-- what is read behind what was found
abbrev pub ◌>>=◌ : {A B : Type 0} → Found A → (A → Parse B) → Found B
(Err e) >>= f = Err e
(Ok p) >>= f = f p.0 p.1

-- what a function that reads ensures: what the definition reads, out of memory aside
abbrev pub Reads : {A : Type 0} → Found A → Result A SyntaxErr → List Lexeme → Type 0
Reads found (Ok x) rest = found ≡ Ok (x, rest)
Reads found (Err e) rest = e ≢ Memory → found ≡ Err e

-- ---- the next token

-- a token of this kind comes next
abbrev pub sees : TokenKind → List Lexeme → Bool
sees kind [] = false
sees kind (t ∷ ts) = same_kind t.kind kind

-- what stands behind the first token
abbrev pub next : List Lexeme → List Lexeme
next [] = []
next (t ∷ ts) = ts

-- after the next token, if it is of this kind
abbrev pub after : TokenKind → List Lexeme → List Lexeme
after kind ts = if sees kind ts then next ts else ts

-- passes the next token, which must be of this kind
abbrev pub expect : TokenKind → Parse (Unit {0})
expect kind ts = if sees kind ts then Ok (tt, next ts) else Err Syntax

-- ---- repetition: what is found so far, and what one turn makes of it

-- what a turn of a repetition comes to: its end, another turn, or a fault
pub data Turn (S : Type 0) : Type 0 where
  ended : S → List Lexeme → Turn S
  goes : S → List Lexeme → Turn S
  failed : SyntaxErr → Turn S

-- what follows a turn
abbrev pub next_turn : {S : Type 0} → (S → Parse S) → Turn S → Found S
next_turn go (ended s rest) = Ok (s, rest)
next_turn go (goes s rest) = go s rest
next_turn go (failed e) = Err e

-- The number bounds the turns. Each turn that goes on takes a token, so after as many as there are tokens none is left, and `finish`
-- says what that makes.
unfoldable pub turns : {S : Type 0} → (S → List Lexeme → Turn S) → (S → Parse S) → ℕ → S → Parse S
turns turn finish zero s ts = finish s ts
turns turn finish (suc n) s ts = next_turn (turns turn finish n) (turn s ts)

-- the repetition may end where the tokens do
abbrev pub whole : {S : Type 0} → S → Parse S
whole s ts = Ok (s, ts)

-- a list without its closing bracket
abbrev pub cut_off : {S : Type 0} → S → Parse S
cut_off s ts = Err Syntax

-- ---- { X }, where X begins with a token that `begins` knows

-- one more was read, and another turn follows
abbrev pub goes_with : {A : Type 0} → List A → Found A → Turn (List A)
goes_with found (Err e) = failed e
goes_with found (Ok p) = goes (found ++ p.0 ∷ []) p.1

-- one more, where one begins
abbrev pub repeat_turn : {A : Type 0} → (List Lexeme → Bool) → Parse A → List A → List Lexeme → Turn (List A)
repeat_turn begins one found ts = if begins ts then goes_with found (one ts) else ended found ts

-- as many as there are, at most a number of turns
abbrev pub repeat_from : {A : Type 0} → (List Lexeme → Bool) → Parse A → ℕ → List A → Parse (List A)
repeat_from begins one = turns (repeat_turn begins one) whole

-- the items found, and all further ones
unfoldable pub repeat : {A : Type 0} → (List Lexeme → Bool) → Parse A → List A → Parse (List A)
repeat begins one found ts = repeat_from begins one (length ts) found ts

-- ---- [ X { ',' X } [','] ] close

-- after an item comes a comma or the closing bracket
abbrev pub after_item : {A : Type 0} → TokenKind → List A → List Lexeme → Turn (List A)
after_item close found ts = if sees k.Comma ts then goes found (next ts) else (if sees close ts then ended found (next ts) else failed Syntax)

-- one more in a bracketed list, and what follows it
abbrev pub with_item : {A : Type 0} → TokenKind → List A → Found A → Turn (List A)
with_item close found (Err e) = failed e
with_item close found (Ok p) = after_item close (found ++ p.0 ∷ []) p.1

-- the next of a bracketed list, or its end
abbrev pub listed_turn : {A : Type 0} → TokenKind → Parse A → List A → List Lexeme → Turn (List A)
listed_turn close one found ts = if sees close ts then ended found (next ts) else with_item close found (one ts)

-- a bracketed list, at most a number of turns long
abbrev pub listed_to : {A : Type 0} → TokenKind → Parse A → ℕ → List A → Parse (List A)
listed_to close one = turns (listed_turn close one) cut_off

-- the items found, and all further ones; the opening bracket is passed already
unfoldable pub listed_from : {A : Type 0} → TokenKind → Parse A → List A → Parse (List A)
listed_from close one found ts = listed_to close one (length ts) found ts
