-- Reading of statements by recursive descent: what each production of `specs/Statements.antt` finds in the tokens, under the same
-- name and in the same order. `depth` is one more than how many brackets and indents may still be opened.
use Rattle.std.specs.Prelude.{ℕ, zero, suc, ◌-◌, List, [], ◌∷◌, ◌++◌, length, drop, Bool, true, false, not, ◌||◌, Option, Some, None, Result, Ok, Err, if◌then◌else◌}
use Rattle.bq_source.specs.declared.token.TokenKind.{TokenKind}
use Rattle.bq_source.specs.declared.token.TokenKind.TheVariants as k
use Rattle.bq_source.specs.StringLiteral.{string_value}
use Rattle.bq_parse_grammar.specs.Lexeme.{Lexeme}
use Rattle.bq_parse_grammar.specs.declared.refusal.SyntaxErr.{SyntaxErr}
use Rattle.bq_parse_grammar.specs.declared.refusal.SyntaxErr.TheVariants.{Syntax}
use Rattle.bq_parse_grammar.specs.declared.tree.Nested.TheVariants.{Test}
use Rattle.bq_parse_grammar.specs.declared.tree.Expr.{Expr}
use Rattle.bq_parse_grammar.specs.declared.tree.Expr.TheVariants as e
use Rattle.bq_parse_grammar.specs.declared.parameters.AllowedParameters.{AllowedParameters}
use Rattle.bq_parse_grammar.specs.declared.parameters.AllowedParameters.TheVariants as ap
use Rattle.bq_parse_grammar.specs.declared.parameters.ParameterKind.{ParameterKind}
use Rattle.bq_parse_grammar.specs.declared.parameters.ParameterKind.TheVariants as pk
use Rattle.bq_parse_grammar.specs.declared.tree.Parameter.{Parameter}
use Rattle.bq_parse_grammar.specs.declared.tree.Parameter.TheVariants as p
use Rattle.bq_parse_grammar.specs.declared.tree.SmallKind.{SmallKind}
use Rattle.bq_parse_grammar.specs.declared.tree.SmallKind.TheVariants as small
use Rattle.bq_parse_grammar.specs.declared.tree.SmallStmt.{SmallStmt}
use Rattle.bq_parse_grammar.specs.declared.tree.LoadClause.{LoadClause}
use Rattle.bq_parse_grammar.specs.declared.tree.Branch.{Branch, roll-Branch}
use Rattle.bq_parse_grammar.specs.declared.tree.Stmt.{Stmt}
use Rattle.bq_parse_grammar.specs.declared.tree.Stmt.TheVariants as s
use Rattle.bq_parse_grammar.specs.declared.tree.TopLevel.{TopLevel}
use Rattle.bq_parse_grammar.specs.Literals.{is_identifier, named}
use Rattle.bq_parse_grammar.specs.Operators.{augmented}
use Rattle.bq_parse_grammar.specs.Turns.{Found, Parse, ◌>>=◌, sees, next, expect, Turn, ended, goes, failed, turns, cut_off, repeat, listed_from}
use Rattle.bq_parse_grammar.specs.Reading.{word, has, looked_up, chained, variables_to, is_named, phrase}
use Rattle.bq_parse_grammar.specs.Statements.{line_of, parameters_after, may_end}
use Rattle.bq_parse_grammar.specs.Targets.{target_to, augmented_target}

-- Expr = Test { ',' Test }
unfoldable pub expr : Parse Expr → Parse Expr
expr one ts = one ts >>= λ x mid. chained e.Tuple one x mid

-- an expression, or a tuple without brackets
abbrev pub expr_to : ℕ → Parse Expr
expr_to depth = expr (phrase depth Test)

-- what is made without reading a token
abbrev pub made : {A : Type 0} → Result A SyntaxErr → Parse A
made (Err why) ts = Err why
made (Ok x) ts = Ok (x, ts)

-- ---- parameters

-- by the first tokens
abbrev pub parameter_kind : List Lexeme → ParameterKind
parameter_kind ts =
    if sees k.StarStar ts then pk.StarStar
    else (if sees k.Star ts then (if sees k.Identifier (next ts) then pk.Star else pk.BareStar) else (if is_named ts then pk.Default else pk.Plain))

-- a parameter, by its form
abbrev pub parameter_by : ℕ → ParameterKind → Parse Parameter
parameter_by depth pk.Plain ts = word ts >>= λ n rest. Ok (p.Plain n, rest)
parameter_by depth pk.Default ts = word ts >>= λ n mid. expect k.Assign mid >>= λ _ us. phrase depth Test us >>= λ x rest. Ok (p.Default n x, rest)
parameter_by depth pk.BareStar ts = Ok (p.BareStar, next ts)
parameter_by depth pk.Star ts = word (next ts) >>= λ n rest. Ok (p.Star n, rest)
parameter_by depth pk.StarStar ts = word (next ts) >>= λ n rest. Ok (p.StarStar n, rest)

-- a parameter, if its form may follow those before it
abbrev pub allowed_parameter : ℕ → Option AllowedParameters → ParameterKind → Parse (Parameter × AllowedParameters)
allowed_parameter depth None q ts = Err Syntax
allowed_parameter depth (Some c) q ts = parameter_by depth q ts >>= λ x rest. Ok ((x, c), rest)

-- a parameter, where it may stand, and what may still come after it
unfoldable pub parameter : ℕ → AllowedParameters → Parse (Parameter × AllowedParameters)
parameter depth c ts = allowed_parameter depth (parameters_after c (parameter_kind ts)) (parameter_kind ts) ts

-- at the closing bracket
abbrev pub close_parameters : List Parameter × AllowedParameters → List Lexeme → Turn (List Parameter × AllowedParameters)
close_parameters p ts = if may_end p.1 then ended p ts else failed Syntax

-- what follows a parameter: a comma and the next, or the end
abbrev pub after_parameter : List Parameter × AllowedParameters → List Lexeme → Turn (List Parameter × AllowedParameters)
after_parameter p ts = if sees k.Comma ts then goes p (next ts) else (if sees k.RightParen ts then close_parameters p (next ts) else failed Syntax)

-- one more parameter, and what follows it
abbrev pub with_parameter : List Parameter → Found (Parameter × AllowedParameters) → Turn (List Parameter × AllowedParameters)
with_parameter found (Err why) = failed why
with_parameter found (Ok z) = after_parameter (found ++ z.0.0 ∷ [], z.0.1) z.1

-- the next parameter, or the end of them
abbrev pub parameter_turn : ℕ → List Parameter × AllowedParameters → List Lexeme → Turn (List Parameter × AllowedParameters)
parameter_turn depth p ts = if sees k.RightParen ts then close_parameters p (next ts) else with_parameter p.0 (parameter depth p.1 ts)

-- after '('
unfoldable pub parameters : ℕ → Parse (List Parameter)
parameters depth ts = turns (parameter_turn depth) cut_off (length ts) ([], ap.All) ts >>= λ p rest. Ok (p.0, rest)

-- ---- small statements

-- the text that a literal stands for, if it stands for one
abbrev pub text_of : Option (List ℕ) → Parse (List ℕ)
text_of None ts = Err Syntax
text_of (Some b) ts = Ok (b, ts)

-- a string, and what it stands for
abbrev pub text : Parse (List ℕ)
text [] = Err Syntax
text (t ∷ ts) = if sees k.String (t ∷ ts) then text_of (string_value t.spelling) ts else Err Syntax

-- a string that is a name
unfoldable pub symbol : Parse (List ℕ)
symbol ts = text ts >>= λ b rest. if is_identifier b then Ok (b, rest) else Err Syntax

-- what a load binds: `"symbol"`, or `name = "symbol"`
unfoldable pub load_clause : Parse LoadClause
load_clause ts =
    if sees k.String ts then (symbol ts >>= λ b rest. Ok (record { local = named b (line_of ts); symbol = b }, rest))
    else (word ts >>= λ n mid. expect k.Assign mid >>= λ _ us. symbol us >>= λ b rest. Ok (record { local = n; symbol = b }, rest))

-- what follows the label of a load
abbrev pub load_after : List ℕ → Parse SmallKind
load_after b ts =
    if sees k.Comma ts then (listed_from k.RightParen load_clause [] (next ts) >>= λ xs rest. Ok (small.Load (record { label = b; clauses = xs }), rest))
    else (expect k.RightParen ts >>= λ _ rest. Ok (small.Load (record { label = b; clauses = [] }), rest))

-- after 'load'
unfoldable pub load : Parse SmallKind
load ts = expect k.LeftParen ts >>= λ _ us. text us >>= λ b mid. load_after b mid

-- a small statement ends here
abbrev pub ends_small : List Lexeme → Bool
ends_small ts = sees k.Newline ts || sees k.Semicolon ts

-- after 'return'
unfoldable pub returned : ℕ → Parse SmallKind
returned depth ts = if ends_small ts then Ok (small.Return None, ts) else (expr_to depth ts >>= λ x rest. Ok (small.Return (Some x), rest))

-- the last token before `rest` is of this kind
abbrev pub ended_by : TokenKind → List Lexeme → List Lexeme → Bool
ended_by kind ts rest = sees kind (drop (length ts - length rest - 1) ts)

-- after the left side and '='
abbrev pub assigned : ℕ → Expr → Parse SmallKind
assigned depth x ts = made (target_to (suc depth) x) ts >>= λ y us. expr_to depth us >>= λ v rest. Ok (small.Assign y v, rest)

-- After the left side, which stands in parentheses or not: `(x) += 1` isn't an augmented assignment.
abbrev pub augmented_as : ℕ → Bool → Expr → Parse SmallKind
augmented_as depth true x ts = Err Syntax
augmented_as depth false x ts =
    made (augmented_target x) ts >>= λ y us. looked_up augmented us >>= λ o ws. expr_to depth ws >>= λ v rest. Ok (small.Augment y o v, rest)

-- after an expression, which a `)` ends or not
abbrev pub after_expression : ℕ → Bool → Expr → Parse SmallKind
after_expression depth closed x ts =
    if sees k.Assign ts then assigned depth x (next ts) else (if has augmented ts then augmented_as depth closed x ts else Ok (small.Expr x, ts))

-- an assignment, or an expression alone
unfoldable pub expression : ℕ → Parse SmallKind
expression depth ts = expr_to depth ts >>= λ x mid. after_expression depth (ended_by k.RightParen ts mid) x mid

-- a small statement, by its first token
abbrev pub small_by : ℕ → TokenKind → Lexeme → Parse SmallKind
small_by depth k.Return t ts = returned depth ts
small_by depth k.Break t ts = Ok (small.Break, ts)
small_by depth k.Continue t ts = Ok (small.Continue, ts)
small_by depth k.Pass t ts = Ok (small.Pass, ts)
small_by depth k.Load t ts = load ts
small_by depth _ t ts = expression depth (t ∷ ts)

-- what a small statement is
unfoldable pub small_kind : ℕ → Parse SmallKind
small_kind depth [] = Err Syntax
small_kind depth (t ∷ ts) = small_by depth t.kind t ts

-- a small statement, with its line
unfoldable pub small_stmt : ℕ → Parse SmallStmt
small_stmt depth ts = small_kind depth ts >>= λ x rest. Ok (record { line = line_of ts; kind = x }, rest)

-- after a ';'
abbrev pub after_semicolon : List SmallStmt → List Lexeme → Turn (List SmallStmt)
after_semicolon found ts = if sees k.Newline ts then ended found (next ts) else goes found ts

-- what follows a small statement: a semicolon, or the end of the line
abbrev pub after_small : List SmallStmt → List Lexeme → Turn (List SmallStmt)
after_small found ts = if sees k.Semicolon ts then after_semicolon found (next ts) else (if sees k.Newline ts then ended found (next ts) else failed Syntax)

-- one more small statement, and what follows it
abbrev pub with_small : List SmallStmt → Found SmallStmt → Turn (List SmallStmt)
with_small found (Err why) = failed why
with_small found (Ok z) = after_small (found ++ z.0 ∷ []) z.1

-- the next small statement of a line
abbrev pub small_turn : ℕ → List SmallStmt → List Lexeme → Turn (List SmallStmt)
small_turn depth found ts = with_small found (small_stmt depth ts)

-- the small statements of a line, and its end
unfoldable pub simple : ℕ → Parse (List SmallStmt)
simple depth ts = turns (small_turn depth) cut_off (length ts) [] ts

-- ---- statements with blocks

-- a block goes on
abbrev pub in_block : List Lexeme → Bool
in_block ts = not (sees k.Outdent ts)

module _ (depth : ℕ) (inner : Parse Stmt) where
  -- after the newline
  unfoldable pub block : Parse (List Stmt)
  block ts =
      expect k.Indent ts >>= λ _ us. inner us >>= λ x mid. repeat in_block inner (x ∷ []) mid >>= λ xs ws. expect k.Outdent ws >>= λ _ rest. Ok (xs, rest)

  -- what stands behind a colon: a block, or small statements on the same line
  unfoldable pub suite : Parse (List Stmt)
  suite ts = if sees k.Newline ts then block (next ts) else (simple depth ts >>= λ xs rest. Ok (s.Simple xs ∷ [], rest))

  -- a condition and its block
  unfoldable pub branch : Parse Branch
  branch ts =
      phrase depth Test ts >>= λ x mid. expect k.Colon mid >>= λ _ us. suite us >>= λ xs rest. Ok (roll-Branch (record { condition = x; block = xs }), rest)

  -- `elif` with its branch
  unfoldable pub elif : Parse Branch
  elif ts = expect k.Elif ts >>= λ _ us. branch us

  -- `else` with its block, if it is there
  unfoldable pub else_suite : Parse (List Stmt)
  else_suite ts = if sees k.Else ts then (expect k.Colon (next ts) >>= λ _ us. suite us) else Ok ([], ts)

  -- after 'if'
  unfoldable pub if_stmt : Parse Stmt
  if_stmt ts = branch ts >>= λ x mid. repeat (sees k.Elif) elif (x ∷ []) mid >>= λ xs us. else_suite us >>= λ zs rest. Ok (s.If xs zs, rest)

  -- after 'for'
  unfoldable pub for_stmt : Parse Stmt
  for_stmt ts =
      variables_to depth ts >>= λ v mid. expect k.In mid >>= λ _ us. expr_to depth us >>= λ x ws. expect k.Colon ws >>= λ _ vs.
      suite vs >>= λ xs rest. Ok (s.For v x xs, rest)

  -- after 'def'
  unfoldable pub def_stmt : Parse Stmt
  def_stmt ts =
      word ts >>= λ n mid. expect k.LeftParen mid >>= λ _ us. parameters depth us >>= λ ps ws. expect k.Colon ws >>= λ _ vs.
      suite vs >>= λ xs rest. Ok (s.Def n ps xs, rest)

  -- a line of small statements
  unfoldable pub simple_stmt : Parse Stmt
  simple_stmt ts = simple depth ts >>= λ xs rest. Ok (s.Simple xs, rest)

  -- a statement, by its first token
  abbrev pub stmt_by : TokenKind → Lexeme → Parse Stmt
  stmt_by k.If t ts = if_stmt ts
  stmt_by k.For t ts = for_stmt ts
  stmt_by k.Def t ts = def_stmt ts
  stmt_by _ t ts = simple_stmt (t ∷ ts)

  -- a statement
  unfoldable pub stmt : Parse Stmt
  stmt [] = Err Syntax
  stmt (t ∷ ts) = stmt_by t.kind t ts

-- a statement in which fewer brackets and indents than this number may be open
unfoldable pub statement : ℕ → Parse Stmt
statement zero ts = Err Syntax
statement (suc depth) ts = stmt (suc depth) (statement depth) ts

-- nothing is left
abbrev pub all_taken : List Lexeme → Stmt → List Lexeme → Result TopLevel SyntaxErr
all_taken ts x [] = Ok (record { line = line_of ts; statement = x })
all_taken ts x (u ∷ us) = Err Syntax

-- a statement at the top level, which takes all tokens of its piece
abbrev pub top_level_by : List Lexeme → Found Stmt → Result TopLevel SyntaxErr
top_level_by ts (Err why) = Err why
top_level_by ts (Ok z) = all_taken ts z.0 z.1

-- the top-level statement that all of these tokens are
unfoldable pub top_level : ℕ → List Lexeme → Result TopLevel SyntaxErr
top_level depth ts = top_level_by ts (statement depth ts)
