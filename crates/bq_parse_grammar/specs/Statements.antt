-- The grammar of statements, by the Starlark specification, "Grammar reference": a case for each production, under its production.
-- Indents count among the brackets: `depth` is how many of both may still be opened.
use Rattle.std.specs.Prelude.{ℕ, zero, suc, List, [], ◌∷◌, Bool, true, false, ◌≡◌, Option, Some, None}
use Rattle.bq_source.specs.declared.token.TokenKind.TheVariants as k
use Rattle.bq_parse_grammar.specs.Lexeme.{Lexeme}
use Rattle.bq_parse_grammar.specs.declared.tree.Expr.{Expr}
use Rattle.bq_parse_grammar.specs.declared.tree.Suffix.{Suffix}
use Rattle.bq_parse_grammar.specs.declared.tree.Operator.{Operator}
use Rattle.bq_parse_grammar.specs.declared.tree.TargetExpr.{TargetExpr}
use Rattle.bq_parse_grammar.specs.declared.tree.TargetExpr.TheVariants as target
use Rattle.bq_parse_grammar.specs.declared.parameters.AllowedParameters.{AllowedParameters}
use Rattle.bq_parse_grammar.specs.declared.parameters.AllowedParameters.TheVariants as ap
use Rattle.bq_parse_grammar.specs.declared.parameters.ParameterKind.{ParameterKind}
use Rattle.bq_parse_grammar.specs.declared.parameters.ParameterKind.TheVariants as pk
use Rattle.bq_parse_grammar.specs.declared.tree.Parameter.{Parameter}
use Rattle.bq_parse_grammar.specs.declared.tree.Parameter.TheVariants as p
use Rattle.bq_parse_grammar.specs.declared.tree.SmallKind.{SmallKind}
use Rattle.bq_parse_grammar.specs.declared.tree.SmallKind.TheVariants as small
use Rattle.bq_parse_grammar.specs.declared.tree.SmallStmt.{SmallStmt}
use Rattle.bq_parse_grammar.specs.declared.tree.LoadClause.{LoadClause}
use Rattle.bq_parse_grammar.specs.declared.tree.Branch.{Branch, roll-Branch}
use Rattle.bq_parse_grammar.specs.declared.tree.Stmt.{Stmt}
use Rattle.bq_parse_grammar.specs.declared.tree.Stmt.TheVariants as s
use Rattle.bq_parse_grammar.specs.declared.tree.TopLevel.{TopLevel}
use Rattle.bq_source.specs.StringLiteral.{string_value}
use Rattle.bq_parse_grammar.specs.Literals.{identifier, is_identifier, named}
use Rattle.bq_parse_grammar.specs.Operators.{augmented}
use Rattle.bq_parse_grammar.specs.Phrases.{Phrase, none, Repeat, Listed, CommaThen}
use Rattle.bq_parse_grammar.specs.Turns.{sees}
use Rattle.bq_parse_grammar.specs.Grammar.{primary_of, targets_of, IsTestTo, IsExprTo, IsOperandTo, IsSuffixTo, IsIndexTo, IsVars}

-- the line of the first token
abbrev pub line_of : List Lexeme → ℕ
line_of [] = 0
line_of (t ∷ ts) = t.line

-- ---- targets

-- Primary '[' Expr ']'
pub data IsIndexed (depth : ℕ) : List Lexeme → List Lexeme → TargetExpr → Type 0 where
  indexed : {o : Lexeme} (c : Lexeme) {ts mid us rest : List Lexeme} (x : Expr) (xs : List Suffix) (i : Expr) {y : TargetExpr} → IsOperandTo depth ts mid x
      → Repeat (IsSuffixTo depth) mid (o ∷ us) xs → o.kind ≡ k.LeftBracket → IsIndexTo depth us (c ∷ rest) i → c.kind ≡ k.RightBracket
      → y ≡ target.Index (primary_of x xs) i → IsIndexed depth ts rest y

-- Item = identifier | Primary '[' Expr ']' | '(' Target [','] ')' | '[' Target [','] ']'
pub data IsItemOver (depth : ℕ) (Inner : Phrase TargetExpr) : List Lexeme → List Lexeme → TargetExpr → Type 0 where
  name : {t : Lexeme} {rest : List Lexeme} {x : TargetExpr} → t.kind ≡ k.Identifier → x ≡ target.Name (identifier t) → IsItemOver depth Inner (t ∷ rest) rest x
  index : {ts rest : List Lexeme} {x : TargetExpr} → IsIndexed depth ts rest x → IsItemOver depth Inner ts rest x
  -- '(' Item ')', not before a dot, before which it is an operand and no target
  parenthesized : {o c : Lexeme} {ts rest : List Lexeme} {x : TargetExpr} → o.kind ≡ k.LeftParen → Inner ts (c ∷ rest) x → c.kind ≡ k.RightParen
      → sees k.Dot rest ≡ false → IsItemOver depth Inner (o ∷ ts) rest x
  -- '(' Item ',' [ Item { ',' Item } [','] ] ')'
  tuple : {o c : Lexeme} {ts mid rest : List Lexeme} {x y : TargetExpr} {xs : List TargetExpr} → o.kind ≡ k.LeftParen → Inner ts (c ∷ mid) x → c.kind ≡ k.Comma
      → Listed k.RightParen Inner mid rest xs → y ≡ target.Tuple (x ∷ xs) → IsItemOver depth Inner (o ∷ ts) rest y
  -- '[' Item { ',' Item } [','] ']'
  list : {o : Lexeme} {ts rest : List Lexeme} {x y : TargetExpr} {xs : List TargetExpr} → o.kind ≡ k.LeftBracket → Listed k.RightBracket Inner ts rest (x ∷ xs)
      → y ≡ target.List (x ∷ xs) → IsItemOver depth Inner (o ∷ ts) rest y

-- one of the targets of an assignment, in which at most this many brackets nest
abbrev pub IsItem : ℕ → Phrase TargetExpr
IsItem zero = IsItemOver zero none
IsItem (suc depth) = IsItemOver (suc depth) (IsItem depth)

-- Target = Item { ',' Item }
pub data IsTargetOver (Item : Phrase TargetExpr) : List Lexeme → List Lexeme → TargetExpr → Type 0 where
  items : {ts mid rest : List Lexeme} {x y : TargetExpr} {xs : List TargetExpr} → Item ts mid x → Repeat (CommaThen Item) mid rest xs → y ≡ targets_of x xs
      → IsTargetOver Item ts rest y

-- what stands before the `=` of an AssignStmt, Item { ',' Item }
abbrev pub IsTarget : ℕ → Phrase TargetExpr
IsTarget depth = IsTargetOver (IsItem depth)

-- ---- parameters

-- At most one `*` and one `**`, which is the last; before `*` none without default after one with; a bare `*` has a name after it.
abbrev pub parameters_after : AllowedParameters → ParameterKind → Option AllowedParameters
parameters_after ap.All pk.Plain = Some ap.All
parameters_after ap.All pk.Default = Some ap.AfterDefault
parameters_after ap.All pk.BareStar = Some ap.AfterBareStar
parameters_after ap.All pk.Star = Some ap.AfterStar
parameters_after ap.All pk.StarStar = Some ap.AfterStarStar
parameters_after ap.AfterDefault pk.Default = Some ap.AfterDefault
parameters_after ap.AfterDefault pk.BareStar = Some ap.AfterBareStar
parameters_after ap.AfterDefault pk.Star = Some ap.AfterStar
parameters_after ap.AfterDefault pk.StarStar = Some ap.AfterStarStar
parameters_after ap.AfterBareStar pk.Plain = Some ap.AfterStar
parameters_after ap.AfterBareStar pk.Default = Some ap.AfterStar
parameters_after ap.AfterStar pk.Plain = Some ap.AfterStar
parameters_after ap.AfterStar pk.Default = Some ap.AfterStar
parameters_after ap.AfterStar pk.StarStar = Some ap.AfterStarStar
parameters_after _ _ = None

-- the parameters may end here
abbrev pub may_end : AllowedParameters → Bool
may_end ap.AfterBareStar = false
may_end _ = true

-- Parameter = identifier | identifier '=' Test | '*' [identifier] | '**' identifier
pub data IsParameter (Test : Phrase Expr) : ParameterKind → List Lexeme → List Lexeme → Parameter → Type 0 where
  plain : {n : Lexeme} {rest : List Lexeme} {y : Parameter} → n.kind ≡ k.Identifier → y ≡ p.Plain (identifier n) → IsParameter Test pk.Plain (n ∷ rest) rest y
  default : {n q : Lexeme} {ts rest : List Lexeme} {x : Expr} {y : Parameter} → n.kind ≡ k.Identifier → q.kind ≡ k.Assign → Test ts rest x
      → y ≡ p.Default (identifier n) x → IsParameter Test pk.Default (n ∷ q ∷ ts) rest y
  bare : {t : Lexeme} {rest : List Lexeme} {y : Parameter} → t.kind ≡ k.Star → y ≡ p.BareStar → IsParameter Test pk.BareStar (t ∷ rest) rest y
  star : {t n : Lexeme} {rest : List Lexeme} {y : Parameter} → t.kind ≡ k.Star → n.kind ≡ k.Identifier → y ≡ p.Star (identifier n)
      → IsParameter Test pk.Star (t ∷ n ∷ rest) rest y
  star_star : {t n : Lexeme} {rest : List Lexeme} {y : Parameter} → t.kind ≡ k.StarStar → n.kind ≡ k.Identifier → y ≡ p.StarStar (identifier n)
      → IsParameter Test pk.StarStar (t ∷ n ∷ rest) rest y

-- [ Parameter { ',' Parameter } [','] ] ')', each as those before it allow
pub data AreParameters (Test : Phrase Expr) : AllowedParameters → List Lexeme → List Lexeme → List Parameter → Type 0 where
  no_parameter : {c : AllowedParameters} {t : Lexeme} {rest : List Lexeme} → may_end c ≡ true → t.kind ≡ k.RightParen → AreParameters Test c (t ∷ rest) rest []
  last_parameter : {c c' : AllowedParameters} {q : ParameterKind} {t : Lexeme} {ts rest : List Lexeme} {x : Parameter} → parameters_after c q ≡ Some c'
      → IsParameter Test q ts (t ∷ rest) x → may_end c' ≡ true → t.kind ≡ k.RightParen → AreParameters Test c ts rest (x ∷ [])
  more_parameters : {c c' : AllowedParameters} {q : ParameterKind} {t : Lexeme} {ts mid rest : List Lexeme} {x : Parameter} {xs : List Parameter}
      → parameters_after c q ≡ Some c' → IsParameter Test q ts (t ∷ mid) x → t.kind ≡ k.Comma → AreParameters Test c' mid rest xs
      → AreParameters Test c ts rest (x ∷ xs)

-- ---- small statements

-- LoadClause = [ identifier '=' ] string, whose value is a name
pub data IsLoadClause : List Lexeme → List Lexeme → LoadClause → Type 0 where
  same_name : {t : Lexeme} {rest : List Lexeme} {b : List ℕ} {y : LoadClause} → t.kind ≡ k.String → string_value t.spelling ≡ Some b
      → is_identifier b ≡ true → y ≡ record { local = named b t.line; symbol = b } → IsLoadClause (t ∷ rest) rest y
  renamed : {n q t : Lexeme} {rest : List Lexeme} {b : List ℕ} {y : LoadClause} → n.kind ≡ k.Identifier → q.kind ≡ k.Assign → t.kind ≡ k.String
      → string_value t.spelling ≡ Some b → is_identifier b ≡ true → y ≡ record { local = identifier n; symbol = b }
      → IsLoadClause (n ∷ q ∷ t ∷ rest) rest y

-- Small = 'return' [Expr] | 'break' | 'continue' | 'pass' | 'load' '(' string { ',' LoadClause } [','] ')'
--       | Target '=' Expr | ( identifier | Primary '[' Expr ']' ) Aug Expr | Expr
pub data IsSmallKind (depth : ℕ) : List Lexeme → List Lexeme → SmallKind → Type 0 where
  return : {t : Lexeme} {rest : List Lexeme} {y : SmallKind} → t.kind ≡ k.Return → y ≡ small.Return None → IsSmallKind depth (t ∷ rest) rest y
  returned : {t : Lexeme} {ts rest : List Lexeme} (x : Expr) {y : SmallKind} → t.kind ≡ k.Return → IsExprTo depth ts rest x → y ≡ small.Return (Some x)
      → IsSmallKind depth (t ∷ ts) rest y
  break : {t : Lexeme} {rest : List Lexeme} {y : SmallKind} → t.kind ≡ k.Break → y ≡ small.Break → IsSmallKind depth (t ∷ rest) rest y
  continue : {t : Lexeme} {rest : List Lexeme} {y : SmallKind} → t.kind ≡ k.Continue → y ≡ small.Continue → IsSmallKind depth (t ∷ rest) rest y
  pass : {t : Lexeme} {rest : List Lexeme} {y : SmallKind} → t.kind ≡ k.Pass → y ≡ small.Pass → IsSmallKind depth (t ∷ rest) rest y
  load : {t o m c : Lexeme} {ts rest : List Lexeme} {b : List ℕ} {xs : List LoadClause} {y : SmallKind} → t.kind ≡ k.Load → o.kind ≡ k.LeftParen
      → m.kind ≡ k.String → string_value m.spelling ≡ Some b → c.kind ≡ k.Comma → Listed k.RightParen IsLoadClause ts rest xs
      → y ≡ small.Load (record { label = b; clauses = xs }) → IsSmallKind depth (t ∷ o ∷ m ∷ c ∷ ts) rest y
  load_alone : {t o m c : Lexeme} {rest : List Lexeme} {b : List ℕ} {y : SmallKind} → t.kind ≡ k.Load → o.kind ≡ k.LeftParen → m.kind ≡ k.String
      → string_value m.spelling ≡ Some b → c.kind ≡ k.RightParen → y ≡ small.Load (record { label = b; clauses = [] })
      → IsSmallKind depth (t ∷ o ∷ m ∷ c ∷ rest) rest y
  assign : {q : Lexeme} {ts mid rest : List Lexeme} (x : TargetExpr) (v : Expr) {y : SmallKind} → IsTarget depth ts (q ∷ mid) x → q.kind ≡ k.Assign
      → IsExprTo depth mid rest v → y ≡ small.Assign x v → IsSmallKind depth ts rest y
  augment_name : {n q : Lexeme} {ts rest : List Lexeme} {o : Operator} (v : Expr) {y : SmallKind} → n.kind ≡ k.Identifier → augmented q.kind ≡ Some o
      → IsExprTo depth ts rest v → y ≡ small.Augment (target.Name (identifier n)) o v → IsSmallKind depth (n ∷ q ∷ ts) rest y
  augment_index : {q : Lexeme} {ts mid rest : List Lexeme} {o : Operator} (x : TargetExpr) (v : Expr) {y : SmallKind} → IsIndexed depth ts (q ∷ mid) x
      → augmented q.kind ≡ Some o → IsExprTo depth mid rest v → y ≡ small.Augment x o v → IsSmallKind depth ts rest y
  expression : {ts rest : List Lexeme} (x : Expr) {y : SmallKind} → IsExprTo depth ts rest x → y ≡ small.Expr x → IsSmallKind depth ts rest y

-- SmallStmt, with the line that it begins on
pub data IsSmall (depth : ℕ) : List Lexeme → List Lexeme → SmallStmt → Type 0 where
  small_stmt : {ts rest : List Lexeme} {x : SmallKind} {y : SmallStmt} → IsSmallKind depth ts rest x → y ≡ record { line = line_of ts; kind = x }
      → IsSmall depth ts rest y

-- Simple = Small { ';' Small } [';'] newline
pub data AreSmall (depth : ℕ) : List Lexeme → List Lexeme → List SmallStmt → Type 0 where
  last : {n : Lexeme} {ts rest : List Lexeme} {x : SmallStmt} → IsSmall depth ts (n ∷ rest) x → n.kind ≡ k.Newline → AreSmall depth ts rest (x ∷ [])
  last_semicolon : {c n : Lexeme} {ts rest : List Lexeme} {x : SmallStmt} → IsSmall depth ts (c ∷ n ∷ rest) x → c.kind ≡ k.Semicolon
      → n.kind ≡ k.Newline → AreSmall depth ts rest (x ∷ [])
  another : {c : Lexeme} {ts mid rest : List Lexeme} {x : SmallStmt} {xs : List SmallStmt} → IsSmall depth ts (c ∷ mid) x → c.kind ≡ k.Semicolon
      → AreSmall depth mid rest xs → AreSmall depth ts rest (x ∷ xs)

-- ---- statements with blocks

module _ (depth : ℕ) (Inner : Phrase Stmt) where
  -- Suite = newline indent Stmt { Stmt } outdent | Simple
  pub data IsSuite : List Lexeme → List Lexeme → List Stmt → Type 0 where
    line : {ts rest : List Lexeme} {xs : List SmallStmt} {y : Stmt} → AreSmall depth ts rest xs → y ≡ s.Simple xs → IsSuite ts rest (y ∷ [])
    block : {n i o : Lexeme} {ts mid rest : List Lexeme} {x : Stmt} {xs : List Stmt} → n.kind ≡ k.Newline → i.kind ≡ k.Indent → Inner ts mid x
        → Repeat Inner mid (o ∷ rest) xs → o.kind ≡ k.Outdent → IsSuite (n ∷ i ∷ ts) rest (x ∷ xs)

  -- Branch = Test ':' Suite
  pub data IsBranch : List Lexeme → List Lexeme → Branch → Type 0 where
    branch : {c : Lexeme} {ts mid rest : List Lexeme} (x : Expr) {xs : List Stmt} {y : Branch} → IsTestTo depth ts (c ∷ mid) x → c.kind ≡ k.Colon
        → IsSuite mid rest xs → y ≡ roll-Branch (record { condition = x; block = xs }) → IsBranch ts rest y

  -- 'elif' Branch
  pub data IsElif : List Lexeme → List Lexeme → Branch → Type 0 where
    elif : {t : Lexeme} {ts rest : List Lexeme} {y : Branch} → t.kind ≡ k.Elif → IsBranch ts rest y → IsElif (t ∷ ts) rest y

  -- [ 'else' ':' Suite ]
  pub data IsElse : List Lexeme → List Lexeme → List Stmt → Type 0 where
    no_else : {ts : List Lexeme} → IsElse ts ts []
    an_else : {t c : Lexeme} {ts rest : List Lexeme} {xs : List Stmt} → t.kind ≡ k.Else → c.kind ≡ k.Colon → IsSuite ts rest xs → IsElse (t ∷ c ∷ ts) rest xs

  -- Stmt = Simple | 'if' Branch { 'elif' Branch } [ 'else' ':' Suite ] | 'for' Vars 'in' Expr ':' Suite
  --      | 'def' identifier '(' Parameters ':' Suite
  pub data IsStmtOver : List Lexeme → List Lexeme → Stmt → Type 0 where
    simple : {ts rest : List Lexeme} {xs : List SmallStmt} {y : Stmt} → AreSmall depth ts rest xs → y ≡ s.Simple xs → IsStmtOver ts rest y
    if_stmt : {t : Lexeme} {ts mid us rest : List Lexeme} {x : Branch} {xs : List Branch} {zs : List Stmt} {y : Stmt} → t.kind ≡ k.If → IsBranch ts mid x
        → Repeat IsElif mid us xs → IsElse us rest zs → y ≡ s.If (x ∷ xs) zs → IsStmtOver (t ∷ ts) rest y
    for_stmt : {t i c : Lexeme} {ts mid us rest : List Lexeme} (v : TargetExpr) (x : Expr) {xs : List Stmt} {y : Stmt} → t.kind ≡ k.For
        → IsVars depth ts (i ∷ mid) v → i.kind ≡ k.In → IsExprTo depth mid (c ∷ us) x → c.kind ≡ k.Colon → IsSuite us rest xs → y ≡ s.For v x xs
        → IsStmtOver (t ∷ ts) rest y
    def_stmt : {t n o c : Lexeme} {ts mid rest : List Lexeme} (ps : List Parameter) {xs : List Stmt} {y : Stmt} → t.kind ≡ k.Def → n.kind ≡ k.Identifier
        → o.kind ≡ k.LeftParen → AreParameters (IsTestTo depth) ap.All ts (c ∷ mid) ps → c.kind ≡ k.Colon → IsSuite mid rest xs
        → y ≡ s.Def (identifier n) ps xs → IsStmtOver (t ∷ n ∷ o ∷ ts) rest y

-- in which at most this many brackets and indents nest
abbrev pub IsStmt : ℕ → Phrase Stmt
IsStmt zero = IsStmtOver zero none
IsStmt (suc depth) = IsStmtOver (suc depth) (IsStmt depth)

-- a top-level statement, which takes all of these tokens
pub data IsTopLevel (depth : ℕ) : List Lexeme → TopLevel → Type 0 where
  top_level : {ts : List Lexeme} (x : Stmt) {y : TopLevel} → IsStmt depth ts [] x → y ≡ record { line = line_of ts; statement = x } → IsTopLevel depth ts y
