-- What the tokens of a top-level statement read as.
use Rattle.std.specs.Prelude.{List, true, false, ◌||◌, Result, Ok, Err, ◌≡◌}
use Rattle.bq_base.specs.declared.fault.StatementFault.{StatementFault}
use Rattle.bq_base.specs.declared.fault.StatementFault.TheVariants as f
use Rattle.bq_parse_grammar.specs.Lexeme.{Lexeme}
use Rattle.bq_parse_grammar.specs.declared.tree.FileKind.{FileKind}
use Rattle.bq_parse_grammar.specs.declared.tree.FileKind.TheVariants as file
use Rattle.bq_parse_grammar.specs.declared.tree.TopLevel.{TopLevel}
use Rattle.bq_parse_grammar.specs.Statements.{IsTopLevel}
use Rattle.bq_parse_grammar.specs.Nesting.{max_nesting, Nests}
use Rattle.bq_parse_grammar.specs.LeftOut.{leaves_out, nested_def, barred_in_build}

-- the statement's tokens and its tree have nothing that the language leaves out
abbrev pub IsKept : List Lexeme → TopLevel → Type 0
IsKept ts x = (leaves_out ts || nested_def max_nesting false x.statement) ≡ false

-- a statement of a BUILD file which only a `.bzl` file may have
abbrev pub IsBarred : FileKind → List Lexeme → Type 0
IsBarred kind ts = (kind ≡ file.Build) × (barred_in_build ts ≡ true)

-- F11 takes precedence over F10, F10 over F12, F12 over F13. With a `lambda` there are many trees, and all are left out.
pub data ReadsAs (kind : FileKind) : List Lexeme → Result TopLevel StatementFault → Type 0 where
  too_deep : {ts : List Lexeme} → (Nests 0 ts → ⊥) → ReadsAs kind ts (Err f.Nesting)
  no_tree : {ts : List Lexeme} → Nests 0 ts → ((x : TopLevel) → IsTopLevel max_nesting ts x → ⊥) → ReadsAs kind ts (Err f.Syntax)
  left_out : {ts : List Lexeme} {x : TopLevel} → Nests 0 ts → IsTopLevel max_nesting ts x → (leaves_out ts || nested_def max_nesting false x.statement) ≡ true
      → ReadsAs kind ts (Err f.LeftOut)
  not_in_build : {ts : List Lexeme} {x : TopLevel} → Nests 0 ts → IsTopLevel max_nesting ts x → IsKept ts x → IsBarred kind ts
      → ReadsAs kind ts (Err f.NotInBuild)
  read : {ts : List Lexeme} {x : TopLevel} → Nests 0 ts → IsTopLevel max_nesting ts x → IsKept ts x → (IsBarred kind ts → ⊥) → ReadsAs kind ts (Ok x)
