-- What the calls of this crate answer.
use Rattle.std.specs.Prelude.{◌≤◌, List, Result, Ok, Err}
use Rattle.std.specs.List.{AllByRecursion}
use Rattle.bq_base.specs.declared.fault.Fault.{Fault}
use Rattle.bq_base.specs.declared.fault.StatementFault.{StatementFault}
use Rattle.bq_base.specs.Fault.{fault_at}
use Rattle.bq_parse_grammar.specs.Lexeme.{Lexeme}
use Rattle.bq_parse_grammar.specs.Statements.{line_of}
use Rattle.bq_parse_laws.specs.Depth.{max_depth, stmt_depth}
use Rattle.bq_parse_grammar.specs.declared.tree.TopLevel.{TopLevel}

-- a statement, or its fault at its first line
abbrev pub at_line : List Lexeme → Result TopLevel StatementFault → Result TopLevel (Fault StatementFault)
at_line ts (Ok x) = Ok x
at_line ts (Err why) = Err (fault_at why (line_of ts))

-- what is given, as it is
abbrev pub itself : {A : Type 0} → A → A
itself x = x

-- none is deeper than the brackets and indents that may be open, times the levels of the grammar
abbrev pub AreShallow : List TopLevel → Type 0
AreShallow statements = AllByRecursion (λ x. stmt_depth x.statement ≤ max_depth) statements
