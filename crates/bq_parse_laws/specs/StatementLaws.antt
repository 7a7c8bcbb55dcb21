-- What the grammar of statements and their reading have to do with each other.
use Rattle.std.specs.Prelude.{ℕ, suc, List, [], ◌∷◌, Bool, true, false, ◌≡◌, ◌⊎◌, Result, Ok, Err}
use Rattle.bq_base.specs.declared.fault.Fault.{Fault}
use Rattle.bq_base.specs.declared.fault.StatementFault.{StatementFault}
use Rattle.bq_source.specs.declared.token.TokenKind.{TokenKind}
use Rattle.bq_source.specs.declared.token.TokenKind.TheVariants as k
use Rattle.bq_parse_grammar.specs.Lexeme.{Lexeme}
use Rattle.bq_parse_grammar.specs.declared.refusal.SyntaxErr.TheVariants.{Lambda}
use Rattle.bq_parse_grammar.specs.declared.tree.Expr.{Expr}
use Rattle.bq_parse_grammar.specs.declared.tree.FileKind.{FileKind}
use Rattle.bq_parse_grammar.specs.declared.tree.Stmt.{Stmt}
use Rattle.bq_parse_grammar.specs.declared.tree.TargetExpr.{TargetExpr}
use Rattle.bq_parse_grammar.specs.declared.tree.TopLevel.{TopLevel}
use Rattle.bq_parse_grammar.specs.Grammar.{IsExprTo}
use Rattle.bq_parse_grammar.specs.Laws.{NoLambda}
use Rattle.bq_parse_grammar.specs.Parses.{Parses, verdict, statements_of}
use Rattle.bq_parse_grammar.specs.ReadingStatements.{statement}
use Rattle.bq_parse_grammar.specs.Statements.{IsTarget, IsStmt}
use Rattle.bq_parse_grammar.specs.Targets.{target_to}
use Rattle.bq_parse_grammar.specs.Verdict.{ReadsAs}

-- the tokens are a target just where they are an expression that can be taken for it
abbrev pub TargetsAreExpressions : ℕ → List Lexeme → List Lexeme → TargetExpr → Type 0
TargetsAreExpressions depth ts rest x =
    (IsTarget depth ts rest x → (y : Expr) × IsExprTo depth ts rest y × (target_to (suc (suc depth)) y ≡ Ok x))
    × ((y : Expr) → IsExprTo depth ts rest y → target_to (suc (suc depth)) y ≡ Ok x → IsTarget depth ts rest x)

-- what is read is a statement; where the reading stops at `lambda`, there is a statement before whatever tokens
abbrev pub Sound : ℕ → List Lexeme → Type 0
Sound depth ts =
    ((x : Stmt) (rest : List Lexeme) → statement (suc depth) ts ≡ Ok (x, rest) → IsStmt depth ts rest x)
    × (statement (suc depth) ts ≡ Err Lambda → (rest : List Lexeme) → (x : Stmt) × IsStmt depth ts rest x)

-- a token that can't go on with a statement
abbrev pub ends_statement : TokenKind → Bool
ends_statement k.Elif = false
ends_statement k.Else = false
ends_statement _ = true

-- there is no next token, or it can't go on with a statement
abbrev pub EndsStatement : List Lexeme → Type 0
EndsStatement [] = Unit {0}
EndsStatement (t ∷ ts) = ends_statement t.kind ≡ true

-- each statement is read whole, or the reading stops at `lambda`
abbrev pub Complete : ℕ → List Lexeme → List Lexeme → Type 0
Complete depth ts rest =
    (x : Stmt) → IsStmt depth ts rest x → EndsStatement rest → (statement (suc depth) ts ≡ Ok (x, rest)) ⊎ (statement (suc depth) ts ≡ Err Lambda)

-- tokens without `lambda` are one statement at most, of those that end in one place
abbrev pub OneStatement : ℕ → List Lexeme → List Lexeme → Type 0
OneStatement depth ts rest = NoLambda ts → EndsStatement rest → (x y : Stmt) → IsStmt depth ts rest x → IsStmt depth ts rest y → x ≡ y

-- the tokens of a top-level statement read as what `verdict` says, and as nothing else
abbrev pub OneVerdict : FileKind → List Lexeme → Type 0
OneVerdict kind ts = ReadsAs kind ts (verdict kind ts) × ((r : Result TopLevel StatementFault) → ReadsAs kind ts r → r ≡ verdict kind ts)

-- a file's tokens read as what `statements_of` says, and as nothing else
abbrev pub OneReading : FileKind → List Lexeme → Type 0
OneReading kind ts = Parses kind ts (statements_of kind ts) × ((r : Result (List TopLevel) (Fault StatementFault)) → Parses kind ts r → r ≡ statements_of kind ts)
