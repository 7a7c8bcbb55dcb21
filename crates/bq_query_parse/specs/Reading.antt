-- Reading by recursive descent: what each production of the grammar finds in the tokens.
use Rattle.std.specs.Prelude.{ℕ, zero, suc, List, [], ◌∷◌, ◌++◌, drop, length, Bool, true, false, ◌==◌, Option, Some, None, if◌then◌else◌}
use Rattle.bq_query_lex.specs.declared.token.QueryTokenKind.{QueryTokenKind}
use Rattle.bq_query_lex.specs.declared.token.QueryTokenKind.TheVariants as k
use Rattle.bq_query_lex.specs.Lexis.{is_variable_name}
use Rattle.bq_query_parse.specs.Lexeme.{Lexeme, same_kind, unquoted}
use Rattle.bq_query_parse.specs.Turns.{Found, Parse, ◌>>=◌, sees, next, expect, Turn, ended, goes, failed, turns, repeat}
use Rattle.bq_query_parse.specs.Grammar.{operator, operation, chain_of}
use Rattle.bq_query_parse.specs.declared.tree.SetOperator.{SetOperator}
use Rattle.bq_query_parse.specs.declared.tree.Query.{Query}
use Rattle.bq_query_parse.specs.declared.tree.Query.TheVariants as q
use Rattle.bq_query_parse.specs.declared.tree.SetOperation.{SetOperation}

-- ---- tokens

-- the bytes of the next token; none where there is no token
abbrev pub spelling_of : List Lexeme → List ℕ
spelling_of [] = []
spelling_of (t ∷ ts) = t.spelling

-- a word, in quotes or without
abbrev pub is_word : QueryTokenKind → Bool
is_word k.Word = true
is_word k.Quoted = true
is_word _ = false

-- the next token is a word, in quotes or without
abbrev pub begins_word : List Lexeme → Bool
begins_word [] = false
begins_word (t ∷ ts) = is_word t.kind

-- the bytes of the token `t` of this kind, if that is a word: what is in the quotes, where it has them
abbrev pub word_by : QueryTokenKind → Lexeme → Parse (List ℕ)
word_by k.Word t ts = Some (t.spelling, ts)
word_by k.Quoted t ts = Some (unquoted t.spelling, ts)
word_by _ t ts = None

-- the next token, which must be a word: its bytes, without quotes
abbrev pub a_word : Parse (List ℕ)
a_word [] = None
a_word (t ∷ ts) = word_by t.kind t ts

-- the name of a variable, without quotes
abbrev pub a_name : Parse (List ℕ)
a_name [] = None
a_name (t ∷ ts) = if same_kind t.kind k.Word then (if is_variable_name t.spelling then Some (t.spelling, ts) else None) else None

-- there is a value
abbrev pub is_known : {B : Type 0} → Option B → Bool
is_known None = false
is_known (Some y) = true

-- what is there, after which all these tokens come; nothing is read where it is missing
abbrev pub known : {B : Type 0} → Option B → Parse B
known None ts = None
known (Some y) ts = Some (y, ts)

-- the next token is an operator
abbrev pub begins_operation : List Lexeme → Bool
begins_operation [] = false
begins_operation (t ∷ ts) = is_known (operator t.kind)

-- the next token, which must be an operator
abbrev pub an_operator : Parse SetOperator
an_operator [] = None
an_operator (t ∷ ts) = known (operator t.kind) ts

-- '(', where one more may be opened
abbrev pub opening : ℕ → Parse (Unit {0})
opening depth ts = if depth == 0 then None else expect k.Open ts

-- ---- productions, over the reader of the queries inside one more parenthesis or let

-- a comma, and then what `one` reads
abbrev pub after_comma : {A : Type 0} → Parse A → Parse A
after_comma one ts = expect k.Comma ts >>= λ _ us. one us

-- after '('
unfoldable pub arguments : Parse Query → Parse (List Query)
arguments inner ts =
    if sees k.Close ts then Some ([], next ts)
    else (inner ts >>= λ x mid. repeat (sees k.Comma) (after_comma inner) (x ∷ []) mid >>= λ xs us. expect k.Close us >>= λ _ rest. Some (xs, rest))

-- `( query )`, where one more parenthesis may be opened
unfoldable pub parenthesized : ℕ → Parse Query → Parse Query
parenthesized depth inner ts = opening depth ts >>= λ _ us. inner us >>= λ x mid. expect k.Close mid >>= λ _ rest. Some (q.Parenthesized x, rest)

-- after 'set'
unfoldable pub set_of : ℕ → Parse Query
set_of depth ts = opening depth ts >>= λ _ us. repeat begins_word a_word [] us >>= λ ws mid. expect k.Close mid >>= λ _ rest. Some (q.Set ws, rest)

-- after the function's name
unfoldable pub call : ℕ → Parse Query → List ℕ → Parse Query
call depth inner name ts = opening depth ts >>= λ _ us. arguments inner us >>= λ xs rest. Some (q.Call name xs, rest)

-- after a word without quotes
abbrev pub word_or_call : ℕ → Parse Query → List ℕ → Parse Query
word_or_call depth inner w ts = if sees k.Open ts then call depth inner w ts else Some (q.Word w, ts)

-- an operand whose first token `t` is of this kind, with `ts` after it
abbrev pub operand_by : ℕ → Parse Query → QueryTokenKind → Lexeme → Parse Query
operand_by depth inner k.Word t ts = word_or_call depth inner t.spelling ts
operand_by depth inner k.Quoted t ts = Some (q.Word (unquoted t.spelling), ts)
operand_by depth inner k.Variable t ts = Some (q.Variable (drop 1 t.spelling), ts)
operand_by depth inner k.Open t ts = parenthesized depth inner (t ∷ ts)
operand_by depth inner k.Set t ts = set_of depth ts
operand_by depth inner _ t ts = None

-- a word, a call, a variable, a query in parentheses, or `set(..)`
unfoldable pub operand : ℕ → Parse Query → Parse Query
operand depth inner [] = None
operand depth inner (t ∷ ts) = operand_by depth inner t.kind t ts

-- after the name and '='
unfoldable pub binding : Parse Query → List ℕ → Parse Query
binding inner name ts = inner ts >>= λ x mid. expect k.In mid >>= λ _ us. inner us >>= λ y rest. Some (q.Let name x y, rest)

-- after 'let'
unfoldable pub let_in : ℕ → Parse Query → Parse Query
let_in depth inner ts = if depth == 0 then None else (a_name ts >>= λ name us. expect k.Equals us >>= λ _ vs. binding inner name vs)

-- a let, or an operand
abbrev pub term : ℕ → Parse Query → Parse Query
term depth inner ts = if sees k.Let ts then let_in depth inner (next ts) else operand depth inner ts

-- an operator and its right operand, which may be a let
unfoldable pub an_operation : ℕ → Parse Query → Parse SetOperation
an_operation depth inner ts = an_operator ts >>= λ o us. term depth inner us >>= λ x rest. Some (operation o x, rest)

-- the items found and one more, which may be the last; failed where it wasn't read
abbrev pub joined : {A : Type 0} → List A → Bool → Found A → Turn (List A)
joined found last None = failed
joined found true (Some p) = ended (found ++ p.0 ∷ []) p.1
joined found false (Some p) = goes (found ++ p.0 ∷ []) p.1

-- a let is the last operand
abbrev pub operation_turn : ℕ → Parse Query → List SetOperation → List Lexeme → Turn (List SetOperation)
operation_turn depth inner found ts =
    if begins_operation ts then joined found (sees k.Let (next ts)) (an_operation depth inner ts) else ended found ts

-- the operations found, and all further ones
unfoldable pub operations : ℕ → Parse Query → List SetOperation → Parse (List SetOperation)
operations depth inner found ts = turns (operation_turn depth inner) (length ts) found ts

-- a let, or an operand with all operations after it
unfoldable pub query_in : ℕ → Parse Query → Parse Query
query_in depth inner ts =
    if sees k.Let ts then let_in depth inner (next ts)
    else (operand depth inner ts >>= λ x mid. operations depth inner [] mid >>= λ os rest. Some (chain_of x os, rest))

-- a query in which fewer than a number of parentheses and lets may be open
unfoldable pub query_to : ℕ → Parse Query
query_to zero ts = None
query_to (suc depth) ts = query_in depth (query_to depth) ts
