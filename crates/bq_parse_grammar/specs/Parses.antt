-- What a file's tokens read as: the relation `Parses`, and the function that gives its only answer.
use Rattle.std.specs.Prelude.{suc, List, [], ◌∷◌, Bool, true, false, ◌&&◌, ◌||◌, Result, Ok, Err, ◌≡◌, if◌then◌else◌}
use Rattle.bq_base.specs.declared.fault.Fault.{Fault}
use Rattle.bq_base.specs.declared.fault.StatementFault.{StatementFault}
use Rattle.bq_base.specs.declared.fault.StatementFault.TheVariants as f
use Rattle.bq_base.specs.Fault.{fault_at}
use Rattle.bq_parse_grammar.specs.Lexeme.{Lexeme}
use Rattle.bq_parse_grammar.specs.declared.refusal.SyntaxErr.{SyntaxErr}
use Rattle.bq_parse_grammar.specs.declared.refusal.SyntaxErr.TheVariants.{Memory, Syntax, Lambda}
use Rattle.bq_parse_grammar.specs.declared.tree.FileKind.{FileKind}
use Rattle.bq_parse_grammar.specs.declared.tree.FileKind.TheVariants as file
use Rattle.bq_parse_grammar.specs.declared.tree.TopLevel.{TopLevel}
use Rattle.bq_parse_grammar.specs.LeftOut.{leaves_out, nested_def, barred_in_build}
use Rattle.bq_parse_grammar.specs.Nesting.{max_nesting, nests}
use Rattle.bq_parse_grammar.specs.Pieces.{pieces}
use Rattle.bq_parse_grammar.specs.ReadingStatements.{top_level}
use Rattle.bq_parse_grammar.specs.Statements.{line_of}
use Rattle.bq_parse_grammar.specs.Verdict.{ReadsAs}

-- ---- the relation

-- the statements of these pieces, or the fault of the first faulty one, at its first line
pub data ReadsAll (kind : FileKind) : List (List Lexeme) → Result (List TopLevel) (Fault StatementFault) → Type 0 where
  over : ReadsAll kind [] (Ok [])
  good : {p : List Lexeme} {ps : List (List Lexeme)} {x : TopLevel} {xs : List TopLevel}
      → ReadsAs kind p (Ok x) → ReadsAll kind ps (Ok xs) → ReadsAll kind (p ∷ ps) (Ok (x ∷ xs))
  later : {p : List Lexeme} {ps : List (List Lexeme)} {x : TopLevel} {why : Fault StatementFault}
      → ReadsAs kind p (Ok x) → ReadsAll kind ps (Err why) → ReadsAll kind (p ∷ ps) (Err why)
  bad : {p : List Lexeme} {ps : List (List Lexeme)} {why : StatementFault} {at : Fault StatementFault}
      → ReadsAs kind p (Err why) → at ≡ fault_at why (line_of p) → ReadsAll kind (p ∷ ps) (Err at)

-- the top-level statements of a file, or its first faulty one's fault
abbrev pub Parses : FileKind → List Lexeme → Result (List TopLevel) (Fault StatementFault) → Type 0
Parses kind ts r = ReadsAll kind (pieces ts) r

-- ---- the function

-- it is a BUILD file
abbrev pub is_build : FileKind → Bool
is_build file.Build = true
is_build file.Bzl = false

-- of a statement that has a tree
abbrev pub allowed : FileKind → List Lexeme → TopLevel → Result TopLevel StatementFault
allowed kind ts x =
    if leaves_out ts || nested_def max_nesting false x.statement then Err f.LeftOut
    else (if is_build kind && barred_in_build ts then Err f.NotInBuild else Ok x)

-- of a statement in which few enough brackets and indents are open; a reading never wants memory
abbrev pub judged : FileKind → List Lexeme → Result TopLevel SyntaxErr → Result TopLevel StatementFault
judged kind ts (Ok x) = allowed kind ts x
judged kind ts (Err Memory) = Err f.Syntax
judged kind ts (Err Syntax) = Err f.Syntax
judged kind ts (Err Lambda) = Err f.LeftOut

-- what the tokens of a top-level statement read as
unfoldable pub verdict : FileKind → List Lexeme → Result TopLevel StatementFault
verdict kind ts = if nests 0 ts then judged kind ts (top_level (suc max_nesting) ts) else Err f.Nesting

-- the first statement, and what the further ones read as
abbrev pub first_and : List Lexeme → Result TopLevel StatementFault → Result (List TopLevel) (Fault StatementFault) → Result (List TopLevel) (Fault StatementFault)
first_and p (Err why) more = Err (fault_at why (line_of p))
first_and p (Ok x) (Err why) = Err why
first_and p (Ok x) (Ok xs) = Ok (x ∷ xs)

-- the statements of all pieces, or the first fault
abbrev pub all_read : FileKind → List (List Lexeme) → Result (List TopLevel) (Fault StatementFault)
all_read kind [] = Ok []
all_read kind (p ∷ ps) = first_and p (verdict kind p) (all_read kind ps)

-- the top-level statements of a file, or its first fault
unfoldable pub statements_of : FileKind → List Lexeme → Result (List TopLevel) (Fault StatementFault)
statements_of kind ts = all_read kind (pieces ts)
