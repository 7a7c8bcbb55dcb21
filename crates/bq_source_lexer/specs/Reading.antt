-- Which tokens a text reads as, or which fault it has: the relation `Lexes`. It stands on a step: what the next piece of the
-- text adds to the tokens, and to the lines, brackets and widths that are open. Laws say what every reading is in words of the
-- text and the tokens.
--
-- A rule names its paragraph of the Starlark specification, "Lexical elements"; "(ours)" marks where `bq` differs.
use Rattle.std.specs.Prelude.{ℕ, ◌+◌, ◌<◌, ◌≤◌, List, [], ◌∷◌, ◌++◌, length, take, drop, ◌==◌, nat_lt, Option, Some, None, Result, Ok, Err, ◌≡◌, if◌then◌else◌}
use Rattle.std.specs.List.{prefix_len}
use Rattle.bq_source.specs.declared.lexis.RunClass.TheVariants.{Space}
use Rattle.bq_source.specs.declared.token.TokenKind.{TokenKind}
use Rattle.bq_source.specs.declared.token.TokenKind.TheVariants as k
use Rattle.bq_source.specs.declared.token.Token.{Token}
use Rattle.bq_source.specs.declared.operators.Lexeme.{Lexeme}
use Rattle.bq_source.specs.declared.operators.Lexeme.TheVariants.{Plain, Opens, Closes}
use Rattle.bq_source.specs.declared.piece.Extent.{Extent}
use Rattle.bq_source.specs.declared.piece.Piece.TheVariants.{Gap, LineEnd, Lexed, Bad}
use Rattle.bq_source_lexer.specs.declared.place.Margin.{Margin}
use Rattle.bq_source_lexer.specs.declared.place.OpenBracket.{OpenBracket}
use Rattle.bq_base.specs.declared.fault.TokenFault.{TokenFault}
use Rattle.bq_base.specs.declared.fault.Fault.{Fault}
use Rattle.bq_base.specs.declared.fault.TokenFault.TheVariants as f
use Rattle.bq_base.specs.Fault.{fault_at}
use Rattle.bq_source.specs.Token.{same_kind}
use Rattle.bq_source.specs.Lexis.{has, begins_with, newlines}
use Rattle.bq_source.specs.Operators.{kind_of}
use Rattle.bq_source.specs.Piece.{next_piece}

-- how far a text is cut
pub record State : Type 0 where
  -- how many bytes are cut
  pub at : ℕ
  -- the line of the next byte, from 1
  pub line : ℕ
  pub rest : List ℕ
  -- the margin of the logical line, as long as it has no token
  pub margin : Option Margin
  -- the brackets that are open, the innermost first
  pub open_brackets : List OpenBracket
  -- the widths above 0 that are open, the greatest first
  pub widths : List ℕ
  pub tokens : List Token

-- "Indentation": the spaces at the start of a logical line, and whether a tab follows them
abbrev pub margin_of : List ℕ → ℕ → Margin
margin_of text line =
    let width = prefix_len (has Space) text in record { width = width; tab = begins_with 9 (drop width text); line = line }

-- a logical line starts here
abbrev pub begin_line : State → State
begin_line s = record s { margin = Some (margin_of s.rest s.line) }

-- before the first byte
abbrev pub start : List ℕ → State
start text = record { at = 0; line = 1; rest = text; margin = Some (margin_of text 1); open_brackets = []; widths = []; tokens = [] }

-- bytes that make no token
abbrev pub skip : Extent → State → State
skip extent s = record s { at = s.at + extent.len; line = s.line + extent.lines; rest = drop extent.len s.rest }

-- a token of these bytes, on the line where it begins
abbrev pub token_at : TokenKind → ℕ → State → Token
token_at kind n s = record { kind = kind; start = s.at; end = s.at + n; line = s.line }

-- a token of no bytes
abbrev pub push_empty : TokenKind → State → State
push_empty kind s = record s { tokens = s.tokens ++ token_at kind 0 s ∷ [] }

-- a token of the next bytes
abbrev pub push_token : TokenKind → Extent → State → State
push_token kind extent s = skip extent (record s { tokens = s.tokens ++ token_at kind extent.len s ∷ [] })

-- "White space": a newline ends the logical line; in brackets it means nothing, nor where the line has no token
abbrev pub end_line_by : List OpenBracket → Option Margin → Extent → State → State
end_line_by (o ∷ os) margin extent s = skip extent s
end_line_by [] (Some margin) extent s = begin_line (skip extent s)
end_line_by [] None extent s = begin_line (push_token k.Newline extent s)

-- the end of a line, which makes a token outside brackets
unfoldable pub end_line : Extent → State → State
end_line extent s = end_line_by s.open_brackets s.margin extent s

-- Every width above this one is closed.
abbrev pub close_above : ℕ → List ℕ → State → State
close_above width [] s = s
close_above width (w ∷ ws) s =
    if nat_lt width w then close_above width ws (push_empty k.Outdent (record s { widths = ws })) else record s { widths = w ∷ ws }

-- the width of the lines that are open
abbrev pub width_of : List ℕ → ℕ
width_of [] = 0
width_of (w ∷ ws) = w

-- "Indentation": a greater width is opened; a smaller one closes those above it, and has to be open
abbrev pub at_width : ℕ → ℕ → State → Result State (Fault TokenFault)
at_width width line s =
    if width_of s.widths == width then Ok s else Err (fault_at f.Indent line)

-- a line is indented so: further in, as far as before, or as far as a line further out
unfoldable pub set_width : ℕ → ℕ → State → Result State (Fault TokenFault)
set_width width line s =
    if nat_lt (width_of s.widths) width then Ok (record (push_empty k.Indent s) { widths = width ∷ s.widths })
    else at_width width line (close_above width s.widths s)

-- The first token of a line is preceded by what its margin makes, which has no tab (ours).
unfoldable pub indent : State → Result State (Fault TokenFault)
indent s = elim s.margin [
  | None ↦ Ok s
  | Some margin ↦ if margin.tab then Err (fault_at f.Tab margin.line)
      else set_width margin.width margin.line (record s { margin = None })
]

-- a closing bracket must be of the innermost open one's kind
abbrev pub close_by : List OpenBracket → TokenKind → State → Result State (Fault TokenFault)
close_by [] kind s = Err (fault_at f.Bracket s.line)
close_by (o ∷ os) kind s = if same_kind o.closing kind then Ok (record s { open_brackets = os }) else Err (fault_at f.Bracket s.line)

-- what a token does to the brackets
abbrev pub nest_by : Lexeme → State → Result State (Fault TokenFault)
nest_by (Plain kind) s = Ok s
nest_by (Opens kind closing) s = Ok (record s { open_brackets = record { closing = closing; line = s.line } ∷ s.open_brackets })
nest_by (Closes kind) s = close_by s.open_brackets kind s

-- a bracket opens or closes
unfoldable pub nest : Lexeme → State → Result State (Fault TokenFault)
nest lexeme s = nest_by lexeme s

-- what follows, unless there was a fault
abbrev pub and_then : Result State (Fault TokenFault) → (State → Result State (Fault TokenFault)) → Result State (Fault TokenFault)
and_then (Ok s) next = next s
and_then (Err e) next = Err e

-- a token, behind what its margin makes
unfoldable pub take_token : Lexeme → Extent → State → Result State (Fault TokenFault)
take_token lexeme extent s = and_then (indent s) (λ t. and_then (nest lexeme t) (λ u. Ok (push_token (kind_of lexeme) extent u)))

-- a byte of the lexis at a wrong place takes precedence over one that is not of it
unfoldable pub refuse : Fault TokenFault → State → Result State (Fault TokenFault)
refuse fault s = and_then (indent s) (λ t. Err fault)

-- past the next piece of the text
unfoldable pub step : State → Result State (Fault TokenFault)
step s = elim (next_piece s.rest) [
  | Gap extent ↦ Ok (skip extent s)
  | LineEnd extent ↦ Ok (end_line extent s)
  | Lexed lexeme extent ↦ take_token lexeme extent s
  | Bad kind lines ↦ refuse (fault_at kind (s.line + lines)) s
]

-- The end of the text ends a logical line that no newline ended, and closes every width. A bracket that is open is never closed: the
-- innermost one is named.
unfoldable pub finish : State → Result (List Token) (Fault TokenFault)
finish s = elim s.open_brackets [
  | o ∷ os ↦ Err (fault_at f.Bracket o.line)
  | [] ↦ Ok ((close_above 0 s.widths (elim s.margin [ Some margin ↦ s | None ↦ push_empty k.Newline s ])).tokens)
]

-- from a state the text is cut up to its end, or up to the first place from where it can't be cut
pub data Runs : State → Result (List Token) (Fault TokenFault) → Type 0 where
  ends : {s : State} {r : Result (List Token) (Fault TokenFault)} → s.rest ≡ [] → finish s ≡ r → Runs s r
  stops : {s : State} {e : Fault TokenFault} → 0 < length s.rest → step s ≡ Err e → Runs s (Err e)
  goes : {s t : State} {r : Result (List Token) (Fault TokenFault)} → 0 < length s.rest → step s ≡ Ok t → Runs t r → Runs s r

-- the most bytes that a file may have
abbrev pub max_file_bytes : ℕ
max_file_bytes = 1048576

-- the line of the byte after these, from 1
abbrev pub line_behind : List ℕ → ℕ
line_behind bs = 1 + newlines bs

-- A text reads as these tokens, or has this fault. A file that is too long takes precedence over all, and names the line of the
-- first byte past the limit.
pub data Lexes : List ℕ → Result (List Token) (Fault TokenFault) → Type 0 where
  too_long : {text : List ℕ} → max_file_bytes < length text → Lexes text (Err (fault_at f.FileTooLong (line_behind (take max_file_bytes text))))
  cut : {text : List ℕ} {r : Result (List Token) (Fault TokenFault)} → length text ≤ max_file_bytes → Runs (start text) r → Lexes text r
