-- Parts of definitions, as words that proofs name.
use Rattle.std.specs.Prelude.{Option, Some, None, Result, Ok, Err, if◌then◌else◌, ◌+◌, List, [], ◌∷◌}
use Rattle.bq_source_lexer.specs.declared.place.Margin.{Margin}
use Rattle.bq_base.specs.declared.fault.TokenFault.{TokenFault}
use Rattle.bq_base.specs.declared.fault.Fault.{Fault}
use Rattle.bq_base.specs.Fault.{fault_at}
use Rattle.bq_source_lexer.specs.Reading.{State, set_width, skip, end_line, take_token, refuse, push_empty, close_above}
use Rattle.bq_base.specs.declared.fault.TokenFault.TheVariants as f
use Rattle.bq_source.specs.declared.piece.Piece.{Piece}
use Rattle.bq_source.specs.declared.piece.Piece.TheVariants.{Gap, LineEnd, Lexed, Bad}
use Rattle.bq_source.specs.declared.token.Token.{Token}
use Rattle.bq_source_lexer.specs.declared.place.OpenBracket.{OpenBracket}
use Rattle.bq_source.specs.declared.token.TokenKind.TheVariants as k

-- The margin counts once a token comes. It has no tab (ours).
abbrev pub indent_by : Option Margin → State → Result State (Fault TokenFault)
indent_by o s = elim o [
  | None ↦ Ok s
  | Some margin ↦ if margin.tab then Err (fault_at f.Tab margin.line)
      else set_width margin.width margin.line (record s { margin = None })
]

-- a piece of the text
abbrev pub advance : Piece → State → Result State (Fault TokenFault)
advance o s = elim o [
  | Gap extent ↦ Ok (skip extent s)
  | LineEnd extent ↦ Ok (end_line extent s)
  | Lexed lexeme extent ↦ take_token lexeme extent s
  | Bad kind lines ↦ refuse (fault_at kind (s.line + lines)) s
]

-- the end of the text ends a logical line that no newline ended
abbrev pub end_text : Option Margin → State → State
end_text o s = elim o [ Some margin ↦ s | None ↦ push_empty k.Newline s ]

-- the end of the text, by the brackets that are open
abbrev pub finish_by : List OpenBracket → State → Result (List Token) (Fault TokenFault)
finish_by brackets s = elim brackets [
  | o ∷ os ↦ Err (fault_at f.Bracket o.line)
  | [] ↦ Ok ((close_above 0 s.widths (elim s.margin [ Some margin ↦ s | None ↦ push_empty k.Newline s ])).tokens)
]
