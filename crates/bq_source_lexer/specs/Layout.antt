-- What every reading of a text is, in words of the text and the tokens: cut from the left into gaps, line ends and tokens, with a
-- newline token after the last token of each logical line and none elsewhere, and indents and outdents as the widths of the
-- lines say. `tokens_cut_the_text` and `faults_are_in_the_text` prove it.
use Rattle.std.specs.Prelude.{ℕ, ◌+◌, ◌≤◌, ◌≡◌, List, [], ◌∷◌, ◌++◌, length, drop, true, false, ◌==◌, Option, Some, None, replicate, if◌then◌else◌}
use Rattle.std.specs.List.{prefix_len}
use Rattle.bq_source.specs.declared.token.TokenKind.{TokenKind}
use Rattle.bq_source.specs.declared.token.TokenKind.TheVariants as k
use Rattle.bq_source.specs.declared.token.Token.{Token}
use Rattle.bq_source_lexer.specs.declared.place.OpenBracket.{OpenBracket}
use Rattle.bq_source.specs.declared.operators.Lexeme.{Lexeme}
use Rattle.bq_source.specs.declared.operators.Lexeme.TheVariants.{Closes}
use Rattle.bq_base.specs.declared.fault.Fault.{Fault}
use Rattle.bq_base.specs.declared.fault.TokenFault.{TokenFault}
use Rattle.bq_base.specs.declared.fault.TokenFault.TheVariants as f
use Rattle.bq_base.specs.Fault.{fault_at}
use Rattle.bq_source.specs.Token.{same_kind}
use Rattle.bq_source.specs.Lexis.{begins_with, newlines}
use Rattle.bq_source.specs.Operators.{kind_of}
use Rattle.bq_source.specs.Spelling.{IsGap, IsLineEnd, IsSpelled, IsMisspelled, IsNoGap}
use Rattle.bq_source_lexer.specs.Indentation.{IsOpen, width_before, AreOpenAbove, AreMarks}

-- the brackets that are open after a closing one; `None` where it doesn't close the innermost
abbrev pub closed_by : List OpenBracket → TokenKind → Option (List OpenBracket)
closed_by [] kind = None
closed_by (o ∷ os) kind = if same_kind o.closing kind then Some os else None

-- the brackets that are open after a token, the innermost first
abbrev pub opened_by : TokenKind → ℕ → List OpenBracket → Option (List OpenBracket)
opened_by k.LeftParen line unclosed = Some (record { closing = k.RightParen; line = line } ∷ unclosed)
opened_by k.LeftBracket line unclosed = Some (record { closing = k.RightBracket; line = line } ∷ unclosed)
opened_by k.LeftBrace line unclosed = Some (record { closing = k.RightBrace; line = line } ∷ unclosed)
opened_by k.RightParen line unclosed = closed_by unclosed k.RightParen
opened_by k.RightBracket line unclosed = closed_by unclosed k.RightBracket
opened_by k.RightBrace line unclosed = closed_by unclosed k.RightBrace
opened_by kind line unclosed = Some unclosed

-- these tokens leave these brackets open, and each that closes one closes the innermost, which is of its kind
pub data Leaves : List Token → List OpenBracket → Type 0 where
  no_token : Leaves [] []
  one_token : {before ts : List Token} {os us : List OpenBracket} (t : Token) → Leaves before os → opened_by t.kind t.line os ≡ Some us
      → ts ≡ before ++ t ∷ [] → Leaves ts us

-- a logical line has begun, and its newline has not come
pub record IsInLine (tokens : List Token) : Type 0 where
  pub before : List Token
  pub last : Token
  pub whole : tokens ≡ before ++ last ∷ []
  pub open_ : same_kind last.kind k.Newline ≡ false

-- no token has come since the last newline token
pub data IsBetween (tokens : List Token) : Type 0 where
  first : tokens ≡ [] → IsBetween tokens
  after : (before : List Token) (last : Token) → tokens ≡ before ++ last ∷ [] → same_kind last.kind k.Newline ≡ true → IsBetween tokens

-- what comes before a place in a text
pub record Before : Type 0 where
  -- how many bytes
  pub at : ℕ
  -- the line of the next byte, from 1
  pub line : ℕ
  -- the text from the start of the logical line on, and the line of that
  pub from : List ℕ
  pub from_line : ℕ
  -- the widths of the logical lines that have tokens, the newest first
  pub widths : List ℕ
  pub tokens : List Token

-- before the first byte of this text: byte 0, line 1, no widths and no tokens
abbrev pub beginning : List ℕ → Before
beginning text = record { at = 0; line = 1; from = text; from_line = 1; widths = []; tokens = [] }

-- with these bytes more
abbrev pub past : List ℕ → Before → Before
past bs b = record b { at = b.at + length bs; line = b.line + newlines bs }

-- where a logical line starts
abbrev pub line_from : List ℕ → Before → Before
line_from rest b = record b { from = rest; from_line = b.line }

-- the token of this kind whose bytes come next: it starts at this place, on the line of its first byte
abbrev pub token_of : TokenKind → List ℕ → Before → Token
token_of kind bs b = record { kind = kind; start = b.at; end = b.at + length bs; line = b.line }

-- with these tokens after those that there are
abbrev pub with_tokens : List Token → Before → Before
with_tokens ts b = record b { tokens = b.tokens ++ ts }

-- the spaces at the start of the logical line, and what comes after them
abbrev pub width : Before → ℕ
width b = prefix_len (λ c. c == 32) b.from

-- a tab comes right after the spaces at the start of the logical line
abbrev pub has_tab : Before → Type 0
has_tab b = begins_with 9 (drop (width b) b.from) ≡ true

-- the token has no bytes: it starts and ends at this place, on its line
abbrev pub IsEmptyAt : Before → Token → Type 0
IsEmptyAt b t = (t.start ≡ b.at) × (t.end ≡ b.at) × (t.line ≡ b.line)

-- The first token of a line is next: it has no tab in its indentation, and these marks come before it.
pub record IsIndented (b : Before) (marks : List Token) : Type 0 where
  pub between : IsBetween b.tokens
  pub no_tab : has_tab b → ⊥
  pub marked : AreMarks (IsEmptyAt b) (width b) b.widths marks

-- one piece of the text
pub data Takes (b : Before) (text : List ℕ) (c : Before) (rest : List ℕ) : Type 0 where
  gap : (bs : List ℕ) → text ≡ bs ++ rest → IsGap bs rest → c ≡ past bs b → Takes b text c rest
  -- in brackets a line end is a gap
  in_brackets : (bs : List ℕ) (o : OpenBracket) (os : List OpenBracket) → text ≡ bs ++ rest → IsLineEnd bs → IsInLine b.tokens → Leaves b.tokens (o ∷ os)
      → c ≡ past bs b → Takes b text c rest
  blank_line : (bs : List ℕ) → text ≡ bs ++ rest → IsLineEnd bs → IsBetween b.tokens → c ≡ line_from rest (past bs b) → Takes b text c rest
  line_end : (bs : List ℕ) → text ≡ bs ++ rest → IsLineEnd bs → IsInLine b.tokens → Leaves b.tokens []
      → c ≡ line_from rest (past bs (with_tokens (token_of k.Newline bs b ∷ []) b)) → Takes b text c rest
  token : (lexeme : Lexeme) (bs : List ℕ) (us : List OpenBracket) → text ≡ bs ++ rest → IsSpelled lexeme bs rest → IsInLine b.tokens
      → Leaves c.tokens us → c ≡ past bs (with_tokens (token_of (kind_of lexeme) bs b ∷ []) b) → Takes b text c rest
  first_token : (lexeme : Lexeme) (bs : List ℕ) (us : List OpenBracket) (marks : List Token) → text ≡ bs ++ rest → IsSpelled lexeme bs rest → IsIndented b marks
      → Leaves c.tokens us → c ≡ past bs (record (with_tokens (marks ++ token_of (kind_of lexeme) bs b ∷ []) b) { widths = width b ∷ b.widths }) → Takes b text c rest

-- some pieces in a row
pub data Cut : Before → List ℕ → Before → List ℕ → Type 0 where
  here : {b : Before} {text : List ℕ} → Cut b text b text
  on : {b c d : Before} {text mid rest : List ℕ} → Takes b text c mid → Cut c mid d rest → Cut b text d rest

-- the newline token that the end of the text supplies
pub data Supplies (b : Before) (ts : List Token) : Type 0 where
  none : IsBetween b.tokens → ts ≡ [] → Supplies b ts
  newline : IsInLine b.tokens → ts ≡ token_of k.Newline [] b ∷ [] → Supplies b ts

-- at the end of the text no bracket is open, and each open width gets its outdent
pub record Finishes (b : Before) (ts : List Token) : Type 0 where
  pub closed : Leaves b.tokens []
  pub supplied : List Token
  pub supplies : Supplies b supplied
  pub us : List ℕ
  pub above : AreOpenAbove 0 b.widths us
  pub whole : ts ≡ b.tokens ++ supplied ++ replicate (length us) (token_of k.Outdent [] b)

-- the text reads as these tokens
pub record Reads (text : List ℕ) (ts : List Token) : Type 0 where
  pub end : Before
  pub cut : Cut (beginning text) text end []
  pub finishes : Finishes end ts

-- the next token stands at a width that is open
pub data IsPlaced (b : Before) : Type 0 where
  inside : IsInLine b.tokens → IsPlaced b
  indented : (marks : List Token) → IsIndented b marks → IsPlaced b

-- after these bytes the rest begins with this fault
pub data FaultAfter (b : Before) (rest : List ℕ) (e : Fault TokenFault) : Type 0 where
  misspelled : (kind : TokenFault) (lines : ℕ) → IsMisspelled rest kind lines → IsPlaced b → e ≡ fault_at kind (b.line + lines) → FaultAfter b rest e
  tab : IsBetween b.tokens → IsNoGap rest → has_tab b → e ≡ fault_at f.Tab b.from_line → FaultAfter b rest e
  uneven : IsBetween b.tokens → IsNoGap rest → (has_tab b → ⊥) → width b ≤ width_before b.widths → (IsOpen (width b) b.widths → ⊥)
      → e ≡ fault_at f.Indent b.from_line → FaultAfter b rest e
  closes_none : (kind : TokenKind) (bs after : List ℕ) (os : List OpenBracket) → rest ≡ bs ++ after → IsSpelled (Closes kind) bs after → IsPlaced b → Leaves b.tokens os
      → closed_by os kind ≡ None → e ≡ fault_at f.Bracket b.line → FaultAfter b rest e
  never_closed : (o : OpenBracket) (os : List OpenBracket) → rest ≡ [] → Leaves b.tokens (o ∷ os) → e ≡ fault_at f.Bracket o.line → FaultAfter b rest e

-- the text can be cut up to a fault
pub record IsFaulty (text : List ℕ) (e : Fault TokenFault) : Type 0 where
  pub end : Before
  pub rest : List ℕ
  pub cut : Cut (beginning text) text end rest
  pub fault : FaultAfter end rest e
