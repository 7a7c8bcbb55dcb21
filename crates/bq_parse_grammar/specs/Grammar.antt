-- The grammar of expressions, by the Starlark specification, "Grammar reference": a case for each production, under its
-- production. Brackets alone let a phrase stand in a phrase of its own kind, so the productions come in layers: `Inner` is what may
-- stand in brackets, with one bracket fewer open.
use Rattle.std.specs.Prelude.{ℕ, pos, zero, suc, List, [], ◌∷◌, Bool, true, false, ◌≡◌, Option, Some, None}
use Rattle.bq_source.specs.declared.token.TokenKind.{TokenKind}
use Rattle.bq_source.specs.declared.token.TokenKind.TheVariants as k
use Rattle.bq_parse_grammar.specs.Lexeme.{Lexeme}
use Rattle.bq_parse_grammar.specs.declared.tree.Expr.{Expr}
use Rattle.bq_parse_grammar.specs.declared.tree.ComprehensionFrame.TheVariants as frame
use Rattle.bq_parse_grammar.specs.declared.tree.Expr.TheVariants as e
use Rattle.bq_parse_grammar.specs.declared.tree.Operator.{Operator}
use Rattle.bq_parse_grammar.specs.declared.tree.UnaryOperator.{UnaryOperator}
use Rattle.bq_parse_grammar.specs.declared.tree.Comparison.{Comparison}
use Rattle.bq_parse_grammar.specs.declared.tree.Comparison.TheVariants as c
use Rattle.bq_parse_grammar.specs.declared.tree.Operation.{Operation, roll-Operation}
use Rattle.bq_parse_grammar.specs.declared.tree.Choice.{Choice, roll-Choice}
use Rattle.bq_parse_grammar.specs.declared.tree.Pair.{Pair, roll-Pair}
use Rattle.bq_parse_grammar.specs.declared.tree.Suffix.{Suffix}
use Rattle.bq_parse_grammar.specs.declared.tree.Suffix.TheVariants as s
use Rattle.bq_parse_grammar.specs.declared.arguments.Allowed.{Allowed}
use Rattle.bq_parse_grammar.specs.declared.arguments.Allowed.TheVariants as al
use Rattle.bq_parse_grammar.specs.declared.arguments.ArgumentKind.{ArgumentKind}
use Rattle.bq_parse_grammar.specs.declared.arguments.ArgumentKind.TheVariants as ak
use Rattle.bq_parse_grammar.specs.declared.tree.Argument.{Argument}
use Rattle.bq_parse_grammar.specs.declared.tree.Argument.TheVariants as a
use Rattle.bq_parse_grammar.specs.declared.tree.Clause.{Clause}
use Rattle.bq_parse_grammar.specs.declared.tree.Clause.TheVariants as cl
use Rattle.bq_parse_grammar.specs.declared.tree.TargetExpr.{TargetExpr}
use Rattle.bq_parse_grammar.specs.declared.tree.TargetExpr.TheVariants as target
use Rattle.bq_source.specs.Number.{int_value}
use Rattle.bq_source.specs.StringLiteral.{string_value}
use Rattle.bq_parse_grammar.specs.Literals.{identifier}
use Rattle.bq_parse_grammar.specs.Operators.{operator_at, sign, negation, comparison}
use Rattle.bq_parse_grammar.specs.Turns.{sees}
use Rattle.bq_parse_grammar.specs.Phrases.{Phrase, none, Repeat, Listed, CommaThen}

-- ---- the trees of chains: a chain of one is its only part

-- the tree of an Expression, Test { ',' Test }: several are a tuple
abbrev pub tuple_of : Expr → List Expr → Expr
tuple_of x [] = x
tuple_of x (y ∷ ys) = e.Tuple (x ∷ y ∷ ys)

-- an operand with operators behind it, if there are any
abbrev pub binary_of : Expr → List Operation → Expr
binary_of x [] = x
binary_of x (y ∷ ys) = e.Binary x (y ∷ ys)

-- an operand with operators before it, if there are any
abbrev pub unary_of : List UnaryOperator → Expr → Expr
unary_of [] x = x
unary_of (y ∷ ys) x = e.Unary (y ∷ ys) x

-- an operand with suffixes, if there are any
abbrev pub primary_of : Expr → List Suffix → Expr
primary_of x [] = x
primary_of x (y ∷ ys) = e.Primary x (y ∷ ys)

-- An operand in parentheses. Before a dot its tree keeps them, as an operand to which nothing is done: `(attr).int()` isn't
-- `attr.int()`. Elsewhere the tree is that of the operand without them.
abbrev pub parenthesized_of : Bool → Expr → Expr
parenthesized_of true x = e.Primary x []
parenthesized_of false x = x

-- `x if c else y if d else z`: the choices `x if c` and `y if d`, and the last value
abbrev pub choices_of : Expr → List (Expr × Expr) → List Choice
choices_of x [] = []
choices_of x (p ∷ ps) = roll-Choice (record { value = x; condition = p.0 }) ∷ choices_of p.1 ps

-- the value behind the last `else`
abbrev pub last_of : Expr → List (Expr × Expr) → Expr
last_of x [] = x
last_of x (p ∷ ps) = last_of p.1 ps

-- the tree of an IfExpr, `x if c else y if d else z`
abbrev pub conditional_of : Expr → List (Expr × Expr) → Expr
conditional_of x [] = x
conditional_of x (p ∷ ps) = e.Conditional (choices_of x (p ∷ ps)) (last_of x (p ∷ ps))

-- the tree of Var { ',' Var } and of Item { ',' Item }: several are a tuple
abbrev pub targets_of : TargetExpr → List TargetExpr → TargetExpr
targets_of x [] = x
targets_of x (y ∷ ys) = target.Tuple (x ∷ y ∷ ys)

-- ---- variables of a `for`

-- Var = identifier | '(' Vars [','] ')' | '[' Vars [','] ']'
pub data IsVarOver (Inner : Phrase TargetExpr) : List Lexeme → List Lexeme → TargetExpr → Type 0 where
  name : {t : Lexeme} {rest : List Lexeme} {x : TargetExpr} → t.kind ≡ k.Identifier → x ≡ target.Name (identifier t) → IsVarOver Inner (t ∷ rest) rest x
  -- '(' Var ')'
  parenthesized : {o c : Lexeme} {ts rest : List Lexeme} {x : TargetExpr} → o.kind ≡ k.LeftParen → Inner ts (c ∷ rest) x → c.kind ≡ k.RightParen
      → IsVarOver Inner (o ∷ ts) rest x
  -- '(' Var ',' [ Var { ',' Var } [','] ] ')'
  tuple : {o c : Lexeme} {ts mid rest : List Lexeme} {x y : TargetExpr} {xs : List TargetExpr} → o.kind ≡ k.LeftParen → Inner ts (c ∷ mid) x → c.kind ≡ k.Comma
      → Listed k.RightParen Inner mid rest xs → y ≡ target.Tuple (x ∷ xs) → IsVarOver Inner (o ∷ ts) rest y
  -- '[' Var { ',' Var } [','] ']'
  list : {o : Lexeme} {ts rest : List Lexeme} {x y : TargetExpr} {xs : List TargetExpr} → o.kind ≡ k.LeftBracket → Listed k.RightBracket Inner ts rest (x ∷ xs)
      → y ≡ target.List (x ∷ xs) → IsVarOver Inner (o ∷ ts) rest y

-- in which at most this many brackets nest
abbrev pub IsVar : ℕ → Phrase TargetExpr
IsVar zero = IsVarOver none
IsVar (suc depth) = IsVarOver (IsVar depth)

-- Vars = Var { ',' Var }
pub data IsVarsOver (Var : Phrase TargetExpr) : List Lexeme → List Lexeme → TargetExpr → Type 0 where
  vars : {ts mid rest : List Lexeme} {x y : TargetExpr} {xs : List TargetExpr} → Var ts mid x → Repeat (CommaThen Var) mid rest xs → y ≡ targets_of x xs
      → IsVarsOver Var ts rest y

-- LoopVariables, Vars, in which at most this many brackets nest
abbrev pub IsVars : ℕ → Phrase TargetExpr
IsVars depth = IsVarsOver (IsVar depth)

-- ---- what arguments may still come

-- Positional arguments come first, at most one `*` and one `**`, which is the last; named ones may follow `*`.
abbrev pub allowed_after : Allowed → ArgumentKind → Option Allowed
allowed_after al.All ak.Positional = Some al.All
allowed_after al.All ak.Named = Some al.AfterNamed
allowed_after al.All ak.Star = Some al.AfterStar
allowed_after al.All ak.StarStar = Some al.AfterStarStar
allowed_after al.AfterNamed ak.Named = Some al.AfterNamed
allowed_after al.AfterNamed ak.Star = Some al.AfterStar
allowed_after al.AfterNamed ak.StarStar = Some al.AfterStarStar
allowed_after al.AfterStar ak.Named = Some al.AfterStar
allowed_after al.AfterStar ak.StarStar = Some al.AfterStarStar
allowed_after _ _ = None

-- ---- expressions over what stands in brackets

module _ (InnerOr InnerTest : Phrase Expr) (InnerVars : Phrase TargetExpr) where
  -- Pair = Test ':' Test
  pub data IsPair : List Lexeme → List Lexeme → Pair → Type 0 where
    pair : {c : Lexeme} {ts mid rest : List Lexeme} {x y : Expr} {p : Pair} → InnerTest ts (c ∷ mid) x → c.kind ≡ k.Colon → InnerTest mid rest y
        → p ≡ roll-Pair (record { key = x; value = y }) → IsPair ts rest p

  -- ForClause = 'for' Vars 'in' Or
  pub data IsForClause : List Lexeme → List Lexeme → Clause → Type 0 where
    for_clause : {f i : Lexeme} {ts mid rest : List Lexeme} {v : TargetExpr} {x : Expr} {y : Clause} → f.kind ≡ k.For → InnerVars ts (i ∷ mid) v → i.kind ≡ k.In
        → InnerOr mid rest x → y ≡ cl.For v x → IsForClause (f ∷ ts) rest y

  -- Clause = ForClause | 'if' Or
  pub data IsClause : List Lexeme → List Lexeme → Clause → Type 0 where
    a_for : {ts rest : List Lexeme} {y : Clause} → IsForClause ts rest y → IsClause ts rest y
    an_if : {i : Lexeme} {ts rest : List Lexeme} {x : Expr} {y : Clause} → i.kind ≡ k.If → InnerOr ts rest x → y ≡ cl.If x → IsClause (i ∷ ts) rest y

  -- Clauses = ForClause { Clause }
  pub data AreClauses : List Lexeme → List Lexeme → List Clause → Type 0 where
    clauses : {ts mid rest : List Lexeme} {y : Clause} {ys : List Clause} → IsForClause ts mid y → Repeat IsClause mid rest ys → AreClauses ts rest (y ∷ ys)

  -- Operand = identifier | int | string
  --         | '(' ')' | '(' Test ')' | '(' Test ',' [ Test { ',' Test } [','] ] ')'
  --         | '[' [ Test { ',' Test } [','] ] ']' | '[' Test Clauses ']'
  --         | '{' [ Pair { ',' Pair } [','] ] '}' | '{' Pair Clauses '}'
  pub data IsOperand : List Lexeme → List Lexeme → Expr → Type 0 where
    a_name : {t : Lexeme} {rest : List Lexeme} {y : Expr} → t.kind ≡ k.Identifier → y ≡ e.Name (identifier t) → IsOperand (t ∷ rest) rest y
    an_int : {t : Lexeme} {rest : List Lexeme} {n : ℕ} {y : Expr} → t.kind ≡ k.Int → int_value t.spelling ≡ Some n → y ≡ e.Int (pos n) → IsOperand (t ∷ rest) rest y
    a_string : {t : Lexeme} {rest : List Lexeme} {b : List ℕ} {y : Expr} → t.kind ≡ k.String → string_value t.spelling ≡ Some b → y ≡ e.String b
        → IsOperand (t ∷ rest) rest y
    empty_tuple : {o c : Lexeme} {rest : List Lexeme} {y : Expr} → o.kind ≡ k.LeftParen → c.kind ≡ k.RightParen → y ≡ e.Tuple [] → IsOperand (o ∷ c ∷ rest) rest y
    parenthesized : {o c : Lexeme} {ts rest : List Lexeme} {x y : Expr} → o.kind ≡ k.LeftParen → InnerTest ts (c ∷ rest) x → c.kind ≡ k.RightParen
        → y ≡ parenthesized_of (sees k.Dot rest) x → IsOperand (o ∷ ts) rest y
    a_tuple : {o c : Lexeme} {ts mid rest : List Lexeme} {x y : Expr} {xs : List Expr} → o.kind ≡ k.LeftParen → InnerTest ts (c ∷ mid) x → c.kind ≡ k.Comma
        → Listed k.RightParen InnerTest mid rest xs → y ≡ e.Tuple (x ∷ xs) → IsOperand (o ∷ ts) rest y
    a_list : {o : Lexeme} {ts rest : List Lexeme} {y : Expr} {xs : List Expr} → o.kind ≡ k.LeftBracket → Listed k.RightBracket InnerTest ts rest xs
        → y ≡ e.List xs → IsOperand (o ∷ ts) rest y
    a_list_comprehension : {o c : Lexeme} {ts mid rest : List Lexeme} {x y : Expr} {cs : List Clause} → o.kind ≡ k.LeftBracket → InnerTest ts mid x
        → AreClauses mid (c ∷ rest) cs → c.kind ≡ k.RightBracket → y ≡ e.ListComprehension x cs frame.Shared → IsOperand (o ∷ ts) rest y
    a_dict : {o : Lexeme} {ts rest : List Lexeme} {y : Expr} {ps : List Pair} → o.kind ≡ k.LeftBrace → Listed k.RightBrace IsPair ts rest ps
        → y ≡ e.Dict ps → IsOperand (o ∷ ts) rest y
    a_dict_comprehension : {o c : Lexeme} {ts mid rest : List Lexeme} {p : Pair} {y : Expr} {cs : List Clause} → o.kind ≡ k.LeftBrace → IsPair ts mid p
        → AreClauses mid (c ∷ rest) cs → c.kind ≡ k.RightBrace → y ≡ e.DictComprehension p cs frame.Shared → IsOperand (o ∷ ts) rest y

  -- Argument = Test | identifier '=' Test | '*' Test | '**' Test
  pub data IsArgument : ArgumentKind → List Lexeme → List Lexeme → Argument → Type 0 where
    positional : {ts rest : List Lexeme} {x : Expr} {y : Argument} → InnerTest ts rest x → y ≡ a.Positional x
        → IsArgument ak.Positional ts rest y
    named : {n q : Lexeme} {ts rest : List Lexeme} {x : Expr} {y : Argument} → n.kind ≡ k.Identifier → q.kind ≡ k.Assign → InnerTest ts rest x
        → y ≡ a.Named n.spelling x → IsArgument ak.Named (n ∷ q ∷ ts) rest y
    star : {t : Lexeme} {ts rest : List Lexeme} {x : Expr} {y : Argument} → t.kind ≡ k.Star → InnerTest ts rest x → y ≡ a.Star x
        → IsArgument ak.Star (t ∷ ts) rest y
    star_star : {t : Lexeme} {ts rest : List Lexeme} {x : Expr} {y : Argument} → t.kind ≡ k.StarStar → InnerTest ts rest x → y ≡ a.StarStar x
        → IsArgument ak.StarStar (t ∷ ts) rest y

  -- [ Argument { ',' Argument } [','] ] ')', each as those before it allow
  pub data AreArguments : Allowed → List Lexeme → List Lexeme → List Argument → Type 0 where
    no_argument : {s : Allowed} {t : Lexeme} {rest : List Lexeme} → t.kind ≡ k.RightParen → AreArguments s (t ∷ rest) rest []
    last_argument : {s s' : Allowed} {q : ArgumentKind} {t : Lexeme} {ts rest : List Lexeme} {x : Argument} → allowed_after s q ≡ Some s'
        → IsArgument q ts (t ∷ rest) x → t.kind ≡ k.RightParen → AreArguments s ts rest (x ∷ [])
    more_arguments : {s s' : Allowed} {q : ArgumentKind} {t : Lexeme} {ts mid rest : List Lexeme} {x : Argument} {xs : List Argument}
        → allowed_after s q ≡ Some s' → IsArgument q ts (t ∷ mid) x → t.kind ≡ k.Comma → AreArguments s' mid rest xs → AreArguments s ts rest (x ∷ xs)

  -- [ Test ]
  pub data IsOptionalTest : List Lexeme → List Lexeme → Option Expr → Type 0 where
    absent : {ts : List Lexeme} → IsOptionalTest ts ts None
    present : {ts rest : List Lexeme} {x : Expr} → InnerTest ts rest x → IsOptionalTest ts rest (Some x)

  -- Expr = Test { ',' Test }
  pub data IsExpr : List Lexeme → List Lexeme → Expr → Type 0 where
    tests : {ts mid rest : List Lexeme} {x y : Expr} {xs : List Expr} → InnerTest ts mid x → Repeat (CommaThen InnerTest) mid rest xs → y ≡ tuple_of x xs
        → IsExpr ts rest y

  -- Suffix = '.' identifier [ '(' Arguments ')' ] | '(' Arguments ')' | '[' Expr ']' | '[' [Test] ':' [Test] [ ':' [Test] ] ']'
  pub data IsSuffix : List Lexeme → List Lexeme → Suffix → Type 0 where
    -- Not before `(`: `.id(..)` is a method call, never an attribute whose value is called, or `a.b(c)` would have two trees.
    attribute : {d n : Lexeme} {rest : List Lexeme} {y : Suffix} → d.kind ≡ k.Dot → n.kind ≡ k.Identifier → sees k.LeftParen rest ≡ false
        → y ≡ s.Attribute (identifier n) → IsSuffix (d ∷ n ∷ rest) rest y
    method : {d n o : Lexeme} {ts rest : List Lexeme} {xs : List Argument} {y : Suffix} → d.kind ≡ k.Dot → n.kind ≡ k.Identifier → o.kind ≡ k.LeftParen
        → AreArguments al.All ts rest xs → y ≡ s.Method (identifier n) xs → IsSuffix (d ∷ n ∷ o ∷ ts) rest y
    call : {o : Lexeme} {ts rest : List Lexeme} {xs : List Argument} {y : Suffix} → o.kind ≡ k.LeftParen → AreArguments al.All ts rest xs
        → y ≡ s.Call xs → IsSuffix (o ∷ ts) rest y
    index : {o c : Lexeme} {ts rest : List Lexeme} {x : Expr} {y : Suffix} → o.kind ≡ k.LeftBracket → IsExpr ts (c ∷ rest) x → c.kind ≡ k.RightBracket
        → y ≡ s.Index x → IsSuffix (o ∷ ts) rest y
    slice : {o p c : Lexeme} {ts mid rest : List Lexeme} {x y : Option Expr} {z : Suffix} → o.kind ≡ k.LeftBracket → IsOptionalTest ts (p ∷ mid) x
        → p.kind ≡ k.Colon → IsOptionalTest mid (c ∷ rest) y → c.kind ≡ k.RightBracket → z ≡ s.Slice x y None → IsSuffix (o ∷ ts) rest z
    stepped : {o p q c : Lexeme} {ts mid us rest : List Lexeme} {x y w : Option Expr} {z : Suffix} → o.kind ≡ k.LeftBracket → IsOptionalTest ts (p ∷ mid) x
        → p.kind ≡ k.Colon → IsOptionalTest mid (q ∷ us) y → q.kind ≡ k.Colon → IsOptionalTest us (c ∷ rest) w → c.kind ≡ k.RightBracket
        → z ≡ s.Slice x y w → IsSuffix (o ∷ ts) rest z

  -- Primary = Operand { Suffix }
  pub data IsPrimary : List Lexeme → List Lexeme → Expr → Type 0 where
    primary : {ts mid rest : List Lexeme} {x y : Expr} {xs : List Suffix} → IsOperand ts mid x → Repeat IsSuffix mid rest xs → y ≡ primary_of x xs
        → IsPrimary ts rest y

-- ---- operators

-- an operator that stands before its operand
pub data IsPrefix (table : TokenKind → Option UnaryOperator) : List Lexeme → List Lexeme → UnaryOperator → Type 0 where
  prefix : {t : Lexeme} {rest : List Lexeme} {y : UnaryOperator} → table t.kind ≡ Some y → IsPrefix table (t ∷ rest) rest y

-- { operator } Operand
pub data IsPrefixed (table : TokenKind → Option UnaryOperator) (Operand : Phrase Expr) : List Lexeme → List Lexeme → Expr → Type 0 where
  prefixed : {ts mid rest : List Lexeme} {x y : Expr} {os : List UnaryOperator} → Repeat (IsPrefix table) ts mid os → Operand mid rest x → y ≡ unary_of os x
      → IsPrefixed table Operand ts rest y

-- operator Operand
pub data IsOperation (l : ℕ) (Operand : Phrase Expr) : List Lexeme → List Lexeme → Operation → Type 0 where
  operation : {t : Lexeme} {ts rest : List Lexeme} {x : Expr} {o : Operator} {y : Operation} → operator_at l t.kind ≡ Some o → Operand ts rest x
      → y ≡ roll-Operation (record { operator = o; operand = x }) → IsOperation l Operand (t ∷ ts) rest y

-- Operand { operator Operand }
pub data IsChain (l : ℕ) (Operand : Phrase Expr) : List Lexeme → List Lexeme → Expr → Type 0 where
  chain : {ts mid rest : List Lexeme} {x y : Expr} {os : List Operation} → Operand ts mid x → Repeat (IsOperation l Operand) mid rest os → y ≡ binary_of x os
      → IsChain l Operand ts rest y

module _ (IsPrimary : Phrase Expr) where
  -- Unary = { '+' | '-' | '~' } Primary
  abbrev pub IsUnary : Phrase Expr
  IsUnary = IsPrefixed sign IsPrimary

  -- Bor = Xor { '|' Xor }, Xor = Band { '^' Band }, Band = Shift { '&' Shift }, Shift = Sum { ('<<' | '>>') Sum },
  -- Sum = Prod { ('+' | '-') Prod }, Prod = Unary { ('*' | '//' | '%' | '/') Unary }: Prod is level 1, Bor level 6
  abbrev pub IsBinary : ℕ → Phrase Expr
  IsBinary zero = IsUnary
  IsBinary (suc l) = IsChain (suc l) (IsBinary l)

  -- CompOp = '==' | '!=' | '<' | '>' | '<=' | '>=' | 'in' | 'not' 'in'
  pub data IsCompOp : List Lexeme → List Lexeme → Comparison → Type 0 where
    one_token : {t : Lexeme} {rest : List Lexeme} {y : Comparison} → comparison t.kind ≡ Some y → IsCompOp (t ∷ rest) rest y
    not_in : {n i : Lexeme} {rest : List Lexeme} → n.kind ≡ k.Not → i.kind ≡ k.In → IsCompOp (n ∷ i ∷ rest) rest c.NotIn

  -- Comp = Bor [ CompOp Bor ]
  pub data IsComp : List Lexeme → List Lexeme → Expr → Type 0 where
    alone : {ts rest : List Lexeme} {x : Expr} → IsBinary 6 ts rest x → IsComp ts rest x
    compared : {ts mid us rest : List Lexeme} {x y z : Expr} {o : Comparison} → IsBinary 6 ts mid x → IsCompOp mid us o → IsBinary 6 us rest y
        → z ≡ e.Compare x o y → IsComp ts rest z

  -- Not = { 'not' } Comp
  abbrev pub IsNot : Phrase Expr
  IsNot = IsPrefixed negation IsComp

  -- And = Not { 'and' Not }
  abbrev pub IsAnd : Phrase Expr
  IsAnd = IsChain 9 IsNot

  -- Or = And { 'or' And }
  abbrev pub IsOr : Phrase Expr
  IsOr = IsChain 10 IsAnd

  -- Choice = 'if' Or 'else' Or
  pub data IsChoice : List Lexeme → List Lexeme → Expr × Expr → Type 0 where
    choice : {i l : Lexeme} {ts mid rest : List Lexeme} {x y : Expr} → i.kind ≡ k.If → IsOr ts (l ∷ mid) x → l.kind ≡ k.Else → IsOr mid rest y
        → IsChoice (i ∷ ts) rest (x, y)

  -- Test = Or { Choice } | 'lambda' ..
  pub data IsTest : List Lexeme → List Lexeme → Expr → Type 0 where
    chosen : {ts mid rest : List Lexeme} {x y : Expr} {cs : List (Expr × Expr)} → IsOr ts mid x → Repeat IsChoice mid rest cs → y ≡ conditional_of x cs
        → IsTest ts rest y
    -- What follows is made up: a statement with a `lambda` has a tree exactly where the tokens before it begin some statement in
    -- which a test stands in its place.
    left_out : {t : Lexeme} {ts rest : List Lexeme} → t.kind ≡ k.Lambda → IsTest (t ∷ ts) rest e.Lambda

-- ---- expressions in which at most this many brackets nest

-- PrimaryExpr, Operand { Suffix }
abbrev pub IsPrimaryTo : ℕ → Phrase Expr
IsPrimaryTo zero = IsPrimary none none none
IsPrimaryTo (suc depth) = IsPrimary (IsOr (IsPrimaryTo depth)) (IsTest (IsPrimaryTo depth)) (IsVars depth)

-- what stands around `if` and `else` in an IfExpr: BinaryExpr, UnaryExpr or PrimaryExpr
abbrev pub IsOrTo : ℕ → Phrase Expr
IsOrTo depth = IsOr (IsPrimaryTo depth)

-- Test, Or { Choice }
abbrev pub IsTestTo : ℕ → Phrase Expr
IsTestTo depth = IsTest (IsPrimaryTo depth)

-- Expression, Test { ',' Test }
abbrev pub IsExprTo : ℕ → Phrase Expr
IsExprTo depth = IsExpr none (IsTestTo depth) none

-- Operand: a name, a literal, or what stands in brackets of its own
abbrev pub IsOperandTo : ℕ → Phrase Expr
IsOperandTo zero = IsOperand none none none
IsOperandTo (suc depth) = IsOperand (IsOrTo depth) (IsTestTo depth) (IsVars depth)

-- DotSuffix, CallSuffix and SliceSuffix
abbrev pub IsSuffixTo : ℕ → Phrase Suffix
IsSuffixTo zero = IsSuffix none none none
IsSuffixTo (suc depth) = IsSuffix (IsOrTo depth) (IsTestTo depth) (IsVars depth)

-- what stands in the brackets of an index
abbrev pub IsIndexTo : ℕ → Phrase Expr
IsIndexTo zero = none
IsIndexTo (suc depth) = IsExprTo depth
