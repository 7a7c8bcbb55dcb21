-- Which tokens parts are written as. Each node is written by its parts, in order; the tree leaves open no more than these: around
-- an expression or a target there may be parentheses, where a list of tests may stand a tuple of two or more needs none, after the last
-- item of a list there may be a comma, after a slice's second part a colon, and after a line's last statement a semicolon; a suite of
-- one line may stand on the line of its head, and a load may name a symbol once where the name is the same.
use Rattle.std.specs.Prelude.{ℕ, pos, Bool, true, false, List, [], ◌∷◌, Some, ◌≡◌}
use Rattle.bq_source.specs.declared.token.TokenKind.{TokenKind}
use Rattle.bq_source.specs.declared.token.TokenKind.TheVariants as k
use Rattle.bq_source.specs.Number.{int_value}
use Rattle.bq_source.specs.StringLiteral.{string_value}
use Rattle.bq_parse_grammar.specs.Lexeme.{Lexeme}
use Rattle.bq_parse_grammar.specs.Literals.{identifier, named}
use Rattle.bq_parse_grammar.specs.Statements.{line_of}
use Rattle.bq_parse_grammar.specs.Turns.{sees}
use Rattle.bq_parse_grammar.specs.declared.tree.Identifier.{Identifier}
use Rattle.bq_parse_grammar.specs.declared.tree.Argument.{Argument}
use Rattle.bq_parse_grammar.specs.declared.tree.Choice.{Choice}
use Rattle.bq_parse_grammar.specs.declared.tree.Clause.{Clause}
use Rattle.bq_parse_grammar.specs.declared.tree.Expr.{Expr}
use Rattle.bq_parse_grammar.specs.declared.tree.Expr.TheVariants as e
use Rattle.bq_parse_grammar.specs.declared.tree.Operation.{Operation}
use Rattle.bq_parse_grammar.specs.declared.tree.Pair.{Pair}
use Rattle.bq_parse_grammar.specs.declared.tree.Suffix.{Suffix}
use Rattle.bq_parse_grammar.specs.declared.tree.TargetExpr.{TargetExpr}
use Rattle.bq_parse_grammar.specs.declared.tree.TargetExpr.TheVariants as t
use Rattle.bq_parse_grammar.specs.declared.tree.Parameter.{Parameter}
use Rattle.bq_parse_grammar.specs.declared.tree.SmallStmt.{SmallStmt}
use Rattle.bq_parse_grammar.specs.declared.tree.LoadClause.{LoadClause}
use Rattle.bq_parse_grammar.specs.declared.tree.Branch.{Branch}
use Rattle.bq_parse_grammar.specs.declared.tree.Stmt.{Stmt}
use Rattle.bq_parse_grammar.specs.declared.tree.Stmt.TheVariants as s
use Rattle.bq_parse_grammar.specs.declared.tree.TopLevel.{TopLevel}
use Rattle.bq_parse_laws.specs.Parts as parts
use Rattle.bq_parse_laws.specs.Parts.{Part, row, commas}

-- the tokens, to the last, are those that these parts are written as, in their order
pub data Writes : List Part → List Lexeme → Type 0 where
  over : Writes [] []
  -- tokens
  token : {q : TokenKind} {w : Lexeme} {ps : List Part} {ts : List Lexeme} → w.kind ≡ q → Writes ps ts → Writes (parts.token q ∷ ps) (w ∷ ts)
  there : {q : TokenKind} {ps : List Part} {ts : List Lexeme} → Writes (parts.token q ∷ ps) ts → Writes (parts.maybe q ∷ ps) ts
  absent : {q : TokenKind} {ps : List Part} {ts : List Lexeme} → Writes ps ts → Writes (parts.maybe q ∷ ps) ts
  both : {q r : TokenKind} {v w : Lexeme} {ps : List Part} {ts : List Lexeme} → v.kind ≡ q → w.kind ≡ r → Writes ps ts → Writes (parts.both q r ∷ ps) (v ∷ w ∷ ts)
  method : {n : Identifier} {v w : Lexeme} {ps : List Part} {ts : List Lexeme} → v.kind ≡ k.Dot → w.kind ≡ k.Identifier → n ≡ identifier w
      → sees k.LeftParen ts ≡ true → Writes ps ts → Writes (parts.method n ∷ ps) (v ∷ w ∷ ts)
  attribute : {n : Identifier} {v w : Lexeme} {ps : List Part} {ts : List Lexeme} → v.kind ≡ k.Dot → w.kind ≡ k.Identifier → n ≡ identifier w
      → sees k.LeftParen ts ≡ false → Writes ps ts → Writes (parts.attribute n ∷ ps) (v ∷ w ∷ ts)
  word : {n : Identifier} {w : Lexeme} {ps : List Part} {ts : List Lexeme} → w.kind ≡ k.Identifier → n ≡ identifier w → Writes ps ts
      → Writes (parts.word n ∷ ps) (w ∷ ts)
  spelled : {b : List ℕ} {w : Lexeme} {ps : List Part} {ts : List Lexeme} → w.kind ≡ k.Identifier → b ≡ w.spelling → Writes ps ts
      → Writes (parts.spelled b ∷ ps) (w ∷ ts)
  number : {n : ℕ} {w : Lexeme} {ps : List Part} {ts : List Lexeme} → w.kind ≡ k.Int → int_value w.spelling ≡ Some n → Writes ps ts
      → Writes (parts.number (pos n) ∷ ps) (w ∷ ts)
  text : {b : List ℕ} {w : Lexeme} {ps : List Part} {ts : List Lexeme} → w.kind ≡ k.String → string_value w.spelling ≡ Some b → Writes ps ts
      → Writes (parts.text b ∷ ps) (w ∷ ts)
  anything : {ts : List Lexeme} → Writes (parts.anything ∷ []) ts
  -- expressions
  expr : {x : Expr} {ps : List Part} {ts : List Lexeme} → Writes (parts.expr_parts x ps) ts → Writes (parts.expr x ∷ ps) ts
  in_parentheses : {x : Expr} {ps : List Part} {ts : List Lexeme}
      → Writes (parts.token k.LeftParen ∷ parts.expr x ∷ parts.token k.RightParen ∷ ps) ts → Writes (parts.expr x ∷ ps) ts
  whole_expr : {x : Expr} {ps : List Part} {ts : List Lexeme} → Writes (parts.expr x ∷ ps) ts → Writes (parts.open_expr x ∷ ps) ts
  open_tuple : {z : Expr} (x y : Expr) (xs : List Expr) {ps : List Part} {ts : List Lexeme} → z ≡ e.Tuple (x ∷ y ∷ xs)
      → Writes (parts.expr x ∷ commas parts.expr (y ∷ xs) ps) ts → Writes (parts.open_expr z ∷ ps) ts
  pair : {x : Pair} {ps : List Part} {ts : List Lexeme} → Writes (parts.pair_parts x ps) ts → Writes (parts.pair x ∷ ps) ts
  operation : {x : Operation} {ps : List Part} {ts : List Lexeme} → Writes (parts.operation_parts x ps) ts → Writes (parts.operation x ∷ ps) ts
  choice : {x : Choice} {ps : List Part} {ts : List Lexeme} → Writes (parts.choice_parts x ps) ts → Writes (parts.choice x ∷ ps) ts
  suffix : {x : Suffix} {ps : List Part} {ts : List Lexeme} → Writes (parts.suffix_parts x ps) ts → Writes (parts.suffix x ∷ ps) ts
  argument : {first : Bool} {x : Argument} {ps : List Part} {ts : List Lexeme} → Writes (parts.argument_parts first x ps) ts
      → Writes (parts.argument first x ∷ ps) ts
  clause : {x : Clause} {ps : List Part} {ts : List Lexeme} → Writes (parts.clause_parts x ps) ts → Writes (parts.clause x ∷ ps) ts
  -- targets
  target : {x : TargetExpr} {ps : List Part} {ts : List Lexeme} → Writes (parts.target_parts x ps) ts → Writes (parts.target x ∷ ps) ts
  target_in_parentheses : {x : TargetExpr} {ps : List Part} {ts : List Lexeme}
      → Writes (parts.token k.LeftParen ∷ parts.target x ∷ parts.token k.RightParen ∷ ps) ts → Writes (parts.target x ∷ ps) ts
  whole_target : {x : TargetExpr} {ps : List Part} {ts : List Lexeme} → Writes (parts.target x ∷ ps) ts → Writes (parts.open_target x ∷ ps) ts
  open_targets : {z : TargetExpr} (x y : TargetExpr) (xs : List TargetExpr) {ps : List Part} {ts : List Lexeme} → z ≡ t.Tuple (x ∷ y ∷ xs)
      → Writes (parts.target x ∷ commas parts.target (y ∷ xs) ps) ts → Writes (parts.open_target z ∷ ps) ts
  -- statements
  parameter : {x : Parameter} {ps : List Part} {ts : List Lexeme} → Writes (parts.parameter_parts x ps) ts → Writes (parts.parameter x ∷ ps) ts
  same_name : {x : LoadClause} {b : List ℕ} {w : Lexeme} {ps : List Part} {ts : List Lexeme} → w.kind ≡ k.String → string_value w.spelling ≡ Some b
      → x ≡ record { local = named b w.line; symbol = b } → Writes ps ts → Writes (parts.load_clause x ∷ ps) (w ∷ ts)
  renamed : {x : LoadClause} {ps : List Part} {ts : List Lexeme} → Writes (parts.word x.local ∷ parts.token k.Assign ∷ parts.text x.symbol ∷ ps) ts
      → Writes (parts.load_clause x ∷ ps) ts
  small_stmt : {x : SmallStmt} {ps : List Part} {ts : List Lexeme} → x.line ≡ line_of ts → Writes (parts.small_parts x.kind ps) ts
      → Writes (parts.small_stmt x ∷ ps) ts
  branch : {x : Branch} {ps : List Part} {ts : List Lexeme} → Writes (parts.branch_parts x ps) ts → Writes (parts.branch x ∷ ps) ts
  elif : {x : Branch} {ps : List Part} {ts : List Lexeme} → Writes (parts.token k.Elif ∷ parts.branch x ∷ ps) ts → Writes (parts.elif x ∷ ps) ts
  suite : {xs : List Stmt} {ps : List Part} {ts : List Lexeme}
      → Writes (parts.token k.Newline ∷ parts.token k.Indent ∷ row parts.stmt xs (parts.token k.Outdent ∷ ps)) ts → Writes (parts.suite xs ∷ ps) ts
  on_the_line : {x : Stmt} (xs : List SmallStmt) {ps : List Part} {ts : List Lexeme} → x ≡ s.Simple xs → Writes (parts.stmt x ∷ ps) ts
      → Writes (parts.suite (x ∷ []) ∷ ps) ts
  stmt : {x : Stmt} {ps : List Part} {ts : List Lexeme} → Writes (parts.stmt_parts x ps) ts → Writes (parts.stmt x ∷ ps) ts

-- the tokens are those that this part writes, and then the rest
abbrev pub tokens : List Lexeme → List Part
tokens [] = []
tokens (w ∷ ws) = parts.token w.kind ∷ tokens ws

-- a top-level statement has its first token's line, and takes what its tree writes
abbrev pub WritesAll : List Lexeme → TopLevel → Type 0
WritesAll ts x = (x.line ≡ line_of ts) × Writes (parts.stmt x.statement ∷ []) ts

-- each statement writes its piece
abbrev pub EachWrites : List (List Lexeme) → List TopLevel → Type 0
EachWrites [] [] = Unit {0}
EachWrites (p ∷ ps) (x ∷ xs) = WritesAll p x × EachWrites ps xs
EachWrites _ _ = ⊥
