-- The lexer counts lines from 1: so is the line of each token, and that of a fault.
use Rattle.std.proofs.Common.{ℕ, ◌≤◌, List, [], ◌∷◌, ◌++◌, nat_lt, Option, Some, None, Result, Ok, Err, subst, arith}
use Rattle.std.specs.Prelude.{◌==◌}
use Rattle.std.specs.List.{AllByRecursion}
use Rattle.bq_source.specs.declared.token.TokenKind.{TokenKind}
use Rattle.bq_source.specs.declared.token.TokenKind.TheVariants as k
use Rattle.bq_source.specs.declared.token.Token.{Token}
use Rattle.bq_source.specs.declared.operators.Lexeme.{Lexeme}
use Rattle.bq_source.specs.declared.operators.Lexeme.TheVariants.{Plain, Opens, Closes}
use Rattle.bq_source.specs.declared.piece.Extent.{Extent}
use Rattle.bq_source.specs.declared.piece.Piece.{Piece}
use Rattle.bq_source.specs.declared.piece.Piece.TheVariants.{Gap, LineEnd, Lexed, Bad}
use Rattle.bq_source.specs.Token.{same_kind}
use Rattle.bq_source.specs.Operators.{kind_of}
use Rattle.bq_source.specs.Piece.{next_piece}
use Rattle.bq_source_lexer.specs.declared.place.Margin.{Margin}
use Rattle.bq_source_lexer.specs.declared.place.OpenBracket.{OpenBracket}
use Rattle.bq_source_lexer.specs.Reading.{State, skip, token_at, push_empty, push_token, end_line, end_line_by, close_above, width_of, set_width, indent, close_by, nest, nest_by, take_token, refuse, and_then, step, finish, Runs, ends, stops, goes, Lexes, too_long, cut}
use Rattle.bq_source_lexer.proofs.Cases.{end_text, finish_by, advance, indent_by}
use Rattle.bq_base.specs.declared.fault.TokenFault.{TokenFault}
use Rattle.bq_base.specs.declared.fault.Fault.{Fault}
use Rattle.bq_base.proofs.Choices.{by_test}

pub all_append : {A : Type 0} (P : A → Type 0) (xs ys : List A) → AllByRecursion P xs → AllByRecursion P ys → AllByRecursion P (xs ++ ys)
all_append P [] ys h g = g
all_append P (x ∷ xs) ys h g = (h.0, all_append P xs ys h.1 g)

abbrev TokenCounts : Token → Type 0
TokenCounts t = 1 ≤ t.line

abbrev BracketCounts : OpenBracket → Type 0
BracketCounts o = 1 ≤ o.line

abbrev MarginCounts : Option Margin → Type 0
MarginCounts None = Unit {0}
MarginCounts (Some m) = 1 ≤ m.line

-- all lines that a state keeps are counted from 1
record Counts (s : State) : Type 0 where
  line : 1 ≤ s.line
  margin : MarginCounts s.margin
  brackets : AllByRecursion BracketCounts s.open_brackets
  tokens : AllByRecursion TokenCounts s.tokens

abbrev StaysCounted : Result State (Fault TokenFault) → Type 0
StaysCounted (Ok t) = Counts t
StaysCounted (Err e) = 1 ≤ e.line

skipped : (e : Extent) (s : State) → Counts s → Counts (skip e s)
skipped e s g = record { line = let a = g.line in omega arith; margin = g.margin; brackets = g.brackets; tokens = g.tokens }

with_token : (t : Token) (s : State) → 1 ≤ t.line → Counts s → AllByRecursion TokenCounts (s.tokens ++ t ∷ [])
with_token t s h g = all_append TokenCounts s.tokens (t ∷ []) g.tokens (h, tt)

pushed : (kind : TokenKind) (s : State) → Counts s → Counts (push_empty kind s)
pushed kind s g = record { line = g.line; margin = g.margin; brackets = g.brackets; tokens = with_token (token_at kind 0 s) s g.line g }

closed : (width : ℕ) (ws : List ℕ) (s : State) → Counts s → Counts (close_above width ws s)
closed width [] s g = g
closed width (w ∷ ws) s g =
    by_test Counts (nat_lt width w) _ _
    (λ _. closed width ws (push_empty k.Outdent (record s { widths = ws })) (pushed k.Outdent (record s { widths = ws }) record { line = g.line; margin = g.margin; brackets = g.brackets; tokens = g.tokens }))
    (λ _. record { line = g.line; margin = g.margin; brackets = g.brackets; tokens = g.tokens })

wide : (width line : ℕ) (s : State) → 1 ≤ line → Counts s → StaysCounted (set_width width line s)
unfolding set_width
wide width line s h g =
    by_test StaysCounted (nat_lt (width_of s.widths) width) _ _
    (λ _. let p = pushed k.Indent s g in record { line = p.line; margin = p.margin; brackets = p.brackets; tokens = p.tokens }) (λ _.
    by_test StaysCounted (width_of (close_above width s.widths s).widths == width) _ _ (λ _. closed width s.widths s g) (λ _. h))

indented_by : (m : Option Margin) (s : State) → MarginCounts m → Counts s → StaysCounted (indent_by m s)
indented_by None s h g = g
indented_by (Some m) s h g =
    by_test StaysCounted m.tab _ _ (λ _. h) (λ _. wide m.width m.line (record s { margin = None }) h record { line = g.line; margin = tt; brackets = g.brackets; tokens = g.tokens })

indented : (s : State) → Counts s → StaysCounted (indent s)
unfolding indent
indented s g = indented_by s.margin s g.margin g

closed_by : (os : List OpenBracket) (kind : TokenKind) (s : State) → AllByRecursion BracketCounts os → Counts s → StaysCounted (close_by os kind s)
closed_by [] kind s h g = g.line
closed_by (o ∷ os) kind s h g =
    by_test StaysCounted (same_kind o.closing kind) _ _ (λ _. record { line = g.line; margin = g.margin; brackets = h.1; tokens = g.tokens }) (λ _. g.line)

nested_by : (lexeme : Lexeme) (s : State) → Counts s → StaysCounted (nest_by lexeme s)
nested_by (Plain kind) s g = g
nested_by (Opens kind closing) s g = record { line = g.line; margin = g.margin; brackets = (g.line, g.brackets); tokens = g.tokens }
nested_by (Closes kind) s g = closed_by s.open_brackets kind s g.brackets g

nested : (lexeme : Lexeme) (s : State) → Counts s → StaysCounted (nest lexeme s)
unfolding nest
nested lexeme s g = nested_by lexeme s g

taken : (kind : TokenKind) (e : Extent) (s : State) → Counts s → Counts (push_token kind e s)
taken kind e s g = record { line = let a = g.line in omega arith; margin = g.margin; brackets = g.brackets; tokens = with_token (token_at kind e.len s) s g.line g }

line_ended : (os : List OpenBracket) (m : Option Margin) (e : Extent) (s : State) → Counts s → Counts (end_line_by os m e s)
line_ended (o ∷ os) m e s g = skipped e s g
line_ended [] (Some m) e s g = let n = skipped e s g in record { line = n.line; margin = n.line; brackets = n.brackets; tokens = n.tokens }
line_ended [] None e s g = let n = taken k.Newline e s g in record { line = n.line; margin = n.line; brackets = n.brackets; tokens = n.tokens }

then : (r : Result State (Fault TokenFault)) (next : State → Result State (Fault TokenFault)) → StaysCounted r → ((t : State) → Counts t → StaysCounted (next t)) → StaysCounted (and_then r next)
then (Ok t) next h f = f t h
then (Err e) next h f = h

advanced : (p : Piece) (s : State) → Counts s → StaysCounted (advance p s)
unfolding end_line take_token refuse
advanced (Gap e) s g = skipped e s g
advanced (LineEnd e) s g = line_ended s.open_brackets s.margin e s g
advanced (Lexed lexeme e) s g =
    then (indent s) _ (indented s g) (λ t h. then (nest lexeme t) _ (nested lexeme t h) (λ u i. taken (kind_of lexeme) e u i))
advanced (Bad kind lines) s g = then (indent s) _ (indented s g) (λ t h. let a = g.line in omega arith)

stepped : (s : State) → Counts s → StaysCounted (step s)
unfolding step
stepped s g = advanced (next_piece s.rest) s g

ended : (m : Option Margin) (s : State) → Counts s → Counts (end_text m s)
ended None s g = pushed k.Newline s g
ended (Some m) s g = g

-- tokens, or a fault, from line 1 on
abbrev pub ReadingCounts : Result (List Token) (Fault TokenFault) → Type 0
ReadingCounts (Ok ts) = AllByRecursion (λ t. 1 ≤ t.line) ts
ReadingCounts (Err e) = 1 ≤ e.line

finished : (os : List OpenBracket) (s : State) → AllByRecursion BracketCounts os → Counts s → ReadingCounts (finish_by os s)
finished (o ∷ os) s h g = h.0
finished [] s h g = (closed 0 s.widths (end_text s.margin s) (ended s.margin s g)).tokens

finishes : (s : State) → Counts s → ReadingCounts (finish s)
unfolding finish
finishes s g = finished s.open_brackets s g.brackets g

counted : {s : State} {r : Result (List Token) (Fault TokenFault)} → Runs s r → Counts s → ReadingCounts r
counted {s = s} (ends e h) g = subst ReadingCounts h (finishes s g)
counted {s = s} (stops some h) g = subst StaysCounted h (stepped s g)
counted {s = s} (goes some h on) g = counted on (subst StaysCounted h (stepped s g))

pub read : (text : List ℕ) (r : Result (List Token) (Fault TokenFault)) → Lexes text r → ReadingCounts r
read text r (too_long l) = omega arith
read text r (cut l h) = counted h record { line = omega arith; margin = omega arith; brackets = tt; tokens = tt }

pub tokens_count : (text : List ℕ) (ts : List Token) → Lexes text (Ok ts) → AllByRecursion (λ t. 1 ≤ t.line) ts
tokens_count text ts h = read text (Ok ts) h

pub fault_counts : (text : List ℕ) (why : Fault TokenFault) → Lexes text (Err why) → 1 ≤ why.line
fault_counts text why h = read text (Err why) h
