-- Reading by recursive descent: what each production of the grammar finds in the tokens. It finds just the trees that the
-- grammar relates to them (proofs/Agrees.antt, proofs/Tests.antt).
use Rattle.std.specs.Prelude.{ℕ, pos, zero, suc, List, [], ◌∷◌, ◌++◌, length, Bool, true, false, ◌||◌, ◌&&◌, Option, Some, None, Ok, Err, if◌then◌else◌}
use Rattle.bq_source.specs.declared.token.TokenKind.{TokenKind}
use Rattle.bq_source.specs.declared.token.TokenKind.TheVariants as k
use Rattle.bq_source.specs.Token.{same_kind}
use Rattle.bq_parse_grammar.specs.Lexeme.{Lexeme}
use Rattle.bq_parse_grammar.specs.declared.refusal.SyntaxErr.TheVariants.{Syntax, Lambda}
use Rattle.bq_parse_grammar.specs.declared.tree.Nested.{Nested}
use Rattle.bq_parse_grammar.specs.declared.tree.Nested.TheVariants.{Or, Test}
use Rattle.bq_parse_grammar.specs.declared.tree.Identifier.{Identifier}
use Rattle.bq_parse_grammar.specs.declared.tree.Expr.{Expr}
use Rattle.bq_parse_grammar.specs.declared.tree.ComprehensionFrame.TheVariants as frame
use Rattle.bq_parse_grammar.specs.declared.tree.Expr.TheVariants as e
use Rattle.bq_parse_grammar.specs.declared.tree.UnaryOperator.{UnaryOperator}
use Rattle.bq_parse_grammar.specs.declared.tree.Comparison.{Comparison}
use Rattle.bq_parse_grammar.specs.declared.tree.Comparison.TheVariants as c
use Rattle.bq_parse_grammar.specs.declared.tree.Operation.{Operation, roll-Operation}
use Rattle.bq_parse_grammar.specs.declared.tree.Choice.{Choice, roll-Choice}
use Rattle.bq_parse_grammar.specs.declared.tree.Pair.{Pair, roll-Pair}
use Rattle.bq_parse_grammar.specs.declared.tree.Suffix.{Suffix}
use Rattle.bq_parse_grammar.specs.declared.tree.Suffix.TheVariants as s
use Rattle.bq_parse_grammar.specs.declared.arguments.Allowed.{Allowed}
use Rattle.bq_parse_grammar.specs.declared.arguments.Allowed.TheVariants as al
use Rattle.bq_parse_grammar.specs.declared.arguments.ArgumentKind.{ArgumentKind}
use Rattle.bq_parse_grammar.specs.declared.arguments.ArgumentKind.TheVariants as ak
use Rattle.bq_parse_grammar.specs.declared.tree.Argument.{Argument}
use Rattle.bq_parse_grammar.specs.declared.tree.Argument.TheVariants as a
use Rattle.bq_parse_grammar.specs.declared.tree.Clause.{Clause}
use Rattle.bq_parse_grammar.specs.declared.tree.Clause.TheVariants as cl
use Rattle.bq_parse_grammar.specs.declared.tree.TargetExpr.{TargetExpr}
use Rattle.bq_parse_grammar.specs.declared.tree.TargetExpr.TheVariants as target
use Rattle.bq_source.specs.Number.{int_value}
use Rattle.bq_source.specs.StringLiteral.{string_value}
use Rattle.bq_parse_grammar.specs.Literals.{identifier}
use Rattle.bq_parse_grammar.specs.Operators.{operator_at, sign, negation, comparison}
use Rattle.bq_parse_grammar.specs.Grammar.{binary_of, unary_of, primary_of, parenthesized_of, allowed_after}
use Rattle.bq_parse_grammar.specs.Turns.{Found, Parse, ◌>>=◌, sees, next, expect, Turn, ended, goes, failed, turns, whole, cut_off, repeat, listed_from}

-- a word, and what it names
abbrev pub word : Parse Identifier
word [] = Err Syntax
word (t ∷ ts) = if sees k.Identifier (t ∷ ts) then Ok (identifier t, ts) else Err Syntax

-- ---- tokens that a table knows

-- there is a value
abbrev pub is_known : {B : Type 0} → Option B → Bool
is_known None = false
is_known (Some y) = true

-- a token of the table comes next
abbrev pub has : {B : Type 0} → (TokenKind → Option B) → List Lexeme → Bool
has table [] = false
has table (t ∷ ts) = is_known (table t.kind)

-- what a token stands for, or a fault of syntax
abbrev pub known : {B : Type 0} → Option B → Parse B
known None ts = Err Syntax
known (Some y) ts = Ok (y, ts)

-- what the table says of the next token
abbrev pub looked_up : {B : Type 0} → (TokenKind → Option B) → Parse B
looked_up table [] = Err Syntax
looked_up table (t ∷ ts) = known (table t.kind) ts

-- ---- an item, and the further ones after commas

-- the items of a list in brackets after the first
abbrev pub items_after : {A : Type 0} → TokenKind → Parse A → A → Parse (List A)
items_after close one x ts =
    if sees k.Comma ts then listed_from close one (x ∷ []) (next ts) else (expect close ts >>= λ _ rest. Ok (x ∷ [], rest))

-- one more, behind a comma
abbrev pub after_comma : {A : Type 0} → Parse A → Parse A
after_comma one ts = expect k.Comma ts >>= λ _ us. one us

-- { ',' X } after a first X: what it is alone, or with the others
abbrev pub chained : {A : Type 0} → (List A → A) → Parse A → A → Parse A
chained many one x ts =
    if sees k.Comma ts
    then (after_comma one ts >>= λ y mid. repeat (sees k.Comma) (after_comma one) (x ∷ y ∷ []) mid >>= λ xs rest. Ok (many xs, rest))
    else Ok (x, ts)

-- ---- variables of a `for`

-- what follows the first variable in parentheses: a comma makes a tuple of it
abbrev pub vars_after : Parse TargetExpr → TargetExpr → Parse TargetExpr
vars_after inner x ts =
    if sees k.Comma ts then (listed_from k.RightParen inner (x ∷ []) (next ts) >>= λ xs rest. Ok (target.Tuple xs, rest))
    else (expect k.RightParen ts >>= λ _ rest. Ok (x, rest))

-- after '('
unfoldable pub var_in_parens : Parse TargetExpr → Parse TargetExpr
var_in_parens inner ts = inner ts >>= λ x mid. vars_after inner x mid

-- after '['
unfoldable pub var_in_brackets : Parse TargetExpr → Parse TargetExpr
var_in_brackets inner ts = inner ts >>= λ x mid. items_after k.RightBracket inner x mid >>= λ xs rest. Ok (target.List xs, rest)

-- a variable, by its first token
abbrev pub var_by : Parse TargetExpr → TokenKind → Lexeme → Parse TargetExpr
var_by inner k.Identifier t ts = Ok (target.Name (identifier t), ts)
var_by inner k.LeftParen t ts = var_in_parens inner ts
var_by inner k.LeftBracket t ts = var_in_brackets inner ts
var_by inner _ t ts = Err Syntax

-- a variable of a `for`, or several in brackets
unfoldable pub var : Parse TargetExpr → Parse TargetExpr
var inner [] = Err Syntax
var inner (t ∷ ts) = var_by inner t.kind t ts

-- a variable in which fewer brackets than this number may be open
unfoldable pub var_to : ℕ → Parse TargetExpr
var_to zero ts = Err Syntax
var_to (suc depth) ts = var (var_to depth) ts

-- the variables of a `for`: one, or a tuple without brackets
unfoldable pub vars : Parse TargetExpr → Parse TargetExpr
vars one ts = one ts >>= λ x mid. chained target.Tuple one x mid

-- the variables of a `for` in which fewer than `depth` brackets may be open
abbrev pub variables_to : ℕ → Parse TargetExpr
variables_to depth = vars (var_to depth)

-- ---- what needs nothing of what stands in brackets

-- `for` or `if` stands here
abbrev pub begins_clause : List Lexeme → Bool
begins_clause ts = sees k.For ts || sees k.If ts

-- an integer, if the literal stands for one
abbrev pub int_of : Option ℕ → Parse Expr
int_of None ts = Err Syntax
int_of (Some n) ts = Ok (e.Int (pos n), ts)

-- a string, if the literal stands for one
abbrev pub string_of : Option (List ℕ) → Parse Expr
string_of None ts = Err Syntax
string_of (Some b) ts = Ok (e.String b, ts)

-- `identifier =` comes next
abbrev pub is_named : List Lexeme → Bool
is_named (t ∷ u ∷ us) = same_kind t.kind k.Identifier && same_kind u.kind k.Assign
is_named _ = false

-- by the first tokens
abbrev pub argument_kind : List Lexeme → ArgumentKind
argument_kind ts =
    if sees k.Star ts then ak.Star
    else (if sees k.StarStar ts then ak.StarStar else (if is_named ts then ak.Named else ak.Positional))

-- how the first token is written
abbrev pub spelling_of : List Lexeme → List ℕ
spelling_of [] = []
spelling_of (t ∷ ts) = t.spelling

-- what follows an argument: a comma and the next, or the end
abbrev pub after_argument : List Argument → Allowed → List Lexeme → Turn (List Argument × Allowed)
after_argument found s ts =
    if sees k.Comma ts then goes (found, s) (next ts) else (if sees k.RightParen ts then ended (found, s) (next ts) else failed Syntax)

-- one more argument, and what follows it
abbrev pub with_argument : List Argument → Found (Argument × Allowed) → Turn (List Argument × Allowed)
with_argument found (Err why) = failed why
with_argument found (Ok p) = after_argument (found ++ p.0.0 ∷ []) p.0.1 p.1

-- `.`, `(` or `[` stands here
abbrev pub begins_suffix : List Lexeme → Bool
begins_suffix ts = sees k.Dot ts || (sees k.LeftParen ts || sees k.LeftBracket ts)

-- ---- operands and what is done to them, over what stands in brackets

module _ (inner : Nested → Parse Expr) (variables : Parse TargetExpr) where
  -- `key: value`
  unfoldable pub pair : Parse Pair
  pair ts = inner Test ts >>= λ x mid. expect k.Colon mid >>= λ _ us. inner Test us >>= λ y rest. Ok (roll-Pair (record { key = x; value = y }), rest)

  -- `for variables in iterable`
  unfoldable pub for_clause : Parse Clause
  for_clause ts =
      expect k.For ts >>= λ _ us. variables us >>= λ v mid. expect k.In mid >>= λ _ ws. inner Or ws >>= λ x rest. Ok (cl.For v x, rest)

  -- a `for` or an `if` of a comprehension
  unfoldable pub clause : Parse Clause
  clause ts = if sees k.If ts then (inner Or (next ts) >>= λ x rest. Ok (cl.If x, rest)) else for_clause ts

  -- the clauses of a comprehension, which begin with a `for`
  unfoldable pub clauses : Parse (List Clause)
  clauses ts = for_clause ts >>= λ y mid. repeat begins_clause clause (y ∷ []) mid

  -- a comprehension's clauses, and its closing bracket
  unfoldable pub comprehension : TokenKind → Parse (List Clause)
  comprehension close ts = clauses ts >>= λ ys mid. expect close mid >>= λ _ rest. Ok (ys, rest)

  -- what follows the first expression in parentheses: a comma makes a tuple of it
  abbrev pub parens_after : Expr → Parse Expr
  parens_after x ts =
      if sees k.Comma ts then (listed_from k.RightParen (inner Test) (x ∷ []) (next ts) >>= λ xs rest. Ok (e.Tuple xs, rest))
      else (expect k.RightParen ts >>= λ _ rest. Ok (parenthesized_of (sees k.Dot rest) x, rest))

  -- after '('
  unfoldable pub in_parens : Parse Expr
  in_parens ts = if sees k.RightParen ts then Ok (e.Tuple [], next ts) else (inner Test ts >>= λ x mid. parens_after x mid)

  -- what follows the first expression in brackets: a comprehension or a list
  abbrev pub brackets_after : Expr → Parse Expr
  brackets_after x ts =
      if sees k.For ts then (comprehension k.RightBracket ts >>= λ ys rest. Ok (e.ListComprehension x ys frame.Shared, rest))
      else (items_after k.RightBracket (inner Test) x ts >>= λ xs rest. Ok (e.List xs, rest))

  -- after '['
  unfoldable pub in_brackets : Parse Expr
  in_brackets ts = if sees k.RightBracket ts then Ok (e.List [], next ts) else (inner Test ts >>= λ x mid. brackets_after x mid)

  -- what follows the first pair in braces: a comprehension or a dict
  abbrev pub braces_after : Pair → Parse Expr
  braces_after x ts =
      if sees k.For ts then (comprehension k.RightBrace ts >>= λ ys rest. Ok (e.DictComprehension x ys frame.Shared, rest))
      else (items_after k.RightBrace pair x ts >>= λ xs rest. Ok (e.Dict xs, rest))

  -- after '{'
  unfoldable pub in_braces : Parse Expr
  in_braces ts = if sees k.RightBrace ts then Ok (e.Dict [], next ts) else (pair ts >>= λ x mid. braces_after x mid)

  -- an operand, by its first token
  abbrev pub operand_by : TokenKind → Lexeme → Parse Expr
  operand_by k.Identifier t ts = Ok (e.Name (identifier t), ts)
  operand_by k.Int t ts = int_of (int_value t.spelling) ts
  operand_by k.String t ts = string_of (string_value t.spelling) ts
  operand_by k.LeftParen t ts = in_parens ts
  operand_by k.LeftBracket t ts = in_brackets ts
  operand_by k.LeftBrace t ts = in_braces ts
  operand_by _ t ts = Err Syntax

  -- a name, a literal, or what stands in brackets
  unfoldable pub operand : Parse Expr
  operand [] = Err Syntax
  operand (t ∷ ts) = operand_by t.kind t ts

  -- ---- arguments

  -- an argument, by its form
  abbrev pub argument_by : ArgumentKind → Parse Argument
  argument_by ak.Positional ts = inner Test ts >>= λ x rest. Ok (a.Positional x, rest)
  argument_by ak.Named ts = inner Test (next (next ts)) >>= λ x rest. Ok (a.Named (spelling_of ts) x, rest)
  argument_by ak.Star ts = inner Test (next ts) >>= λ x rest. Ok (a.Star x, rest)
  argument_by ak.StarStar ts = inner Test (next ts) >>= λ x rest. Ok (a.StarStar x, rest)

  -- an argument, if its form may follow those before it
  abbrev pub allowed_argument : Option Allowed → ArgumentKind → Parse (Argument × Allowed)
  allowed_argument None q ts = Err Syntax
  allowed_argument (Some s) q ts = argument_by q ts >>= λ x rest. Ok ((x, s), rest)

  -- an argument, where it may stand, and what may still come after it
  unfoldable pub argument : Allowed → Parse (Argument × Allowed)
  argument s ts = allowed_argument (allowed_after s (argument_kind ts)) (argument_kind ts) ts

  -- the next argument, or the end of them
  abbrev pub argument_turn : List Argument × Allowed → List Lexeme → Turn (List Argument × Allowed)
  argument_turn p ts = if sees k.RightParen ts then ended p (next ts) else with_argument p.0 (argument p.1 ts)

  -- after '('
  unfoldable pub arguments : Parse (List Argument)
  arguments ts = turns argument_turn cut_off (length ts) ([], al.All) ts >>= λ p rest. Ok (p.0, rest)

  -- ---- suffixes

  -- [ Test ], where a colon or the closing bracket follows
  unfoldable pub optional_test : Parse (Option Expr)
  optional_test ts = if sees k.Colon ts || sees k.RightBracket ts then Ok (None, ts) else (inner Test ts >>= λ x rest. Ok (Some x, rest))

  -- after the second part
  unfoldable pub slice_end : Option Expr → Option Expr → Parse Suffix
  slice_end x y ts =
      if sees k.Colon ts then (optional_test (next ts) >>= λ w mid. expect k.RightBracket mid >>= λ _ rest. Ok (s.Slice x y w, rest))
      else (expect k.RightBracket ts >>= λ _ rest. Ok (s.Slice x y None, rest))

  -- after the first colon
  unfoldable pub slice_after : Option Expr → Parse Suffix
  slice_after x ts = optional_test ts >>= λ y mid. slice_end x y mid

  -- what follows the first expression of a subscript: a slice or an index
  abbrev pub subscript_after : Expr → Parse Suffix
  subscript_after x ts =
      if sees k.Colon ts then slice_after (Some x) (next ts)
      else (chained e.Tuple (inner Test) x ts >>= λ y mid. expect k.RightBracket mid >>= λ _ rest. Ok (s.Index y, rest))

  -- after '['
  unfoldable pub subscript : Parse Suffix
  subscript ts = if sees k.Colon ts then slice_after None (next ts) else (inner Test ts >>= λ x mid. subscript_after x mid)

  -- what follows `.name`: a call of a method, or nothing
  abbrev pub member_after : Identifier → Parse Suffix
  member_after n ts =
      if sees k.LeftParen ts then (arguments (next ts) >>= λ xs rest. Ok (s.Method n xs, rest)) else Ok (s.Attribute n, ts)

  -- after '.'
  unfoldable pub member : Parse Suffix
  member ts = word ts >>= λ n mid. member_after n mid

  -- a member, a call or a subscript
  unfoldable pub suffix : Parse Suffix
  suffix ts =
      if sees k.Dot ts then member (next ts)
      else (if sees k.LeftParen ts then (arguments (next ts) >>= λ xs rest. Ok (s.Call xs, rest)) else (expect k.LeftBracket ts >>= λ _ us. subscript us))

  -- an operand with its suffixes
  unfoldable pub primary : Parse Expr
  primary ts = operand ts >>= λ x mid. repeat begins_suffix suffix [] mid >>= λ xs rest. Ok (primary_of x xs, rest)

-- ---- operators

-- operators of a table, and what they stand before
unfoldable pub prefixed : (TokenKind → Option UnaryOperator) → Parse Expr → Parse Expr
prefixed table one ts = repeat (has table) (looked_up table) [] ts >>= λ os mid. one mid >>= λ x rest. Ok (unary_of os x, rest)

-- a binary operator of a level, and its right operand
unfoldable pub operation : ℕ → Parse Expr → Parse Operation
operation l one ts = looked_up (operator_at l) ts >>= λ o us. one us >>= λ x rest. Ok (roll-Operation (record { operator = o; operand = x }), rest)

-- operands with operators of one level between them, from the left
unfoldable pub chain : ℕ → Parse Expr → Parse Expr
chain l one ts = one ts >>= λ x mid. repeat (has (operator_at l)) (operation l one) [] mid >>= λ os rest. Ok (binary_of x os, rest)

-- an operator that compares stands here
abbrev pub begins_comparison : List Lexeme → Bool
begins_comparison ts = has comparison ts || sees k.Not ts

-- an operator that compares
unfoldable pub comp_op : Parse Comparison
comp_op ts = if sees k.Not ts then (expect k.In (next ts) >>= λ _ rest. Ok (c.NotIn, rest)) else looked_up comparison ts

-- `if c else y` behind an expression: one more choice, and what is otherwise
abbrev pub with_choice : List Choice × Expr → Found (Expr × Expr) → Turn (List Choice × Expr)
with_choice p (Err why) = failed why
with_choice p (Ok q) = goes (p.0 ++ roll-Choice (record { value = p.1; condition = q.0.0 }) ∷ [], q.0.1) q.1

-- an expression with its choices, if it has any
abbrev pub chosen_of : List Choice × Expr → Expr
chosen_of ([], x) = x
chosen_of (y ∷ ys, x) = e.Conditional (y ∷ ys) x

module _ (base : Parse Expr) where
  -- signs, and what they stand before
  abbrev pub unary : Parse Expr
  unary = prefixed sign base

  -- an expression of binary operators up to a level
  abbrev pub binary : ℕ → Parse Expr
  binary zero = unary
  binary (suc l) = chain (suc l) (binary l)

  -- what follows the left side of a comparison; they aren't chained
  abbrev pub comp_after : Expr → Parse Expr
  comp_after x ts =
      if begins_comparison ts then (comp_op ts >>= λ o us. binary 6 us >>= λ y rest. Ok (e.Compare x o y, rest)) else Ok (x, ts)

  -- a comparison, or what stands in one
  unfoldable pub comp : Parse Expr
  comp ts = binary 6 ts >>= λ x mid. comp_after x mid

  -- `not x`
  abbrev pub not_test : Parse Expr
  not_test = prefixed negation comp

  -- `x and y`
  abbrev pub and_test : Parse Expr
  and_test = chain 9 not_test

  -- `x or y`
  abbrev pub or_test : Parse Expr
  or_test = chain 10 and_test

  -- `if condition else otherwise`
  unfoldable pub choice : Parse (Expr × Expr)
  choice ts = expect k.If ts >>= λ _ us. or_test us >>= λ x mid. expect k.Else mid >>= λ _ ws. or_test ws >>= λ y rest. Ok ((x, y), rest)

  -- the next choice, or the end of them
  abbrev pub choice_turn : List Choice × Expr → List Lexeme → Turn (List Choice × Expr)
  choice_turn p ts = if sees k.If ts then with_choice p (choice ts) else ended p ts

  -- the choices after a first value
  unfoldable pub conditional : Expr → Parse Expr
  conditional x ts = turns choice_turn whole (length ts) ([], x) ts >>= λ p rest. Ok (chosen_of p, rest)

  -- an expression of any form; a lambda is refused by a fault of its own
  unfoldable pub test : Parse Expr
  test ts = if sees k.Lambda ts then Err Lambda else (or_test ts >>= λ x mid. conditional x mid)

  -- the two forms of expressions that stand inside others
  abbrev pub phrase_by : Nested → Parse Expr
  phrase_by Or = or_test
  phrase_by Test = test

-- a phrase in which fewer brackets than this number may be open
unfoldable pub phrase : ℕ → Nested → Parse Expr
phrase zero which ts = Err Syntax
phrase (suc depth) which ts = phrase_by (primary (phrase depth) (vars (var_to depth))) which ts
