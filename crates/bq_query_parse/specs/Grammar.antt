-- The grammar of queries, by the Bazel query reference, "Expressions: syntax and semantics of the grammar": a case for each
-- production, under its production. `Inner` is a query inside one more parenthesis or let, of which `depth` more may be opened.
use Rattle.std.specs.Prelude.{ℕ, zero, suc, List, [], ◌∷◌, drop, ◌≡◌, ◌<◌, true, Option, Some, None}
use Rattle.bq_query_lex.specs.declared.token.QueryTokenKind.{QueryTokenKind}
use Rattle.bq_query_lex.specs.declared.token.QueryTokenKind.TheVariants as k
use Rattle.bq_query_lex.specs.Lexis.{is_variable_name}
use Rattle.bq_query_parse.specs.Lexeme.{Lexeme, unquoted}
use Rattle.bq_query_parse.specs.Phrases.{Phrase, none, Repeat, CommaThen}
use Rattle.bq_query_parse.specs.declared.tree.SetOperator.{SetOperator}
use Rattle.bq_query_parse.specs.declared.tree.SetOperator.TheVariants as o
use Rattle.bq_query_parse.specs.declared.tree.Query.{Query}
use Rattle.bq_query_parse.specs.declared.tree.Query.TheVariants as q
use Rattle.bq_query_parse.specs.declared.tree.SetOperation.{SetOperation, roll-SetOperation}

-- the operators, all of one precedence
abbrev pub operator : QueryTokenKind → Option SetOperator
operator k.Union = Some o.Union
operator k.Intersect = Some o.Intersect
operator k.Except = Some o.Except
operator _ = None

-- an operator and its right operand
abbrev pub operation : SetOperator → Query → SetOperation
operation o x = roll-SetOperation (record { operator = o; operand = x })

-- a chain of one is its only part
abbrev pub chain_of : Query → List SetOperation → Query
chain_of x [] = x
chain_of x (y ∷ ys) = q.Chain x (y ∷ ys)

-- Word = word | quoted
pub data IsWord : List Lexeme → List Lexeme → List ℕ → Type 0 where
  bare : {t : Lexeme} {rest : List Lexeme} {w : List ℕ} → t.kind ≡ k.Word → w ≡ t.spelling → IsWord (t ∷ rest) rest w
  quoted : {t : Lexeme} {rest : List Lexeme} {w : List ℕ} → t.kind ≡ k.Quoted → w ≡ unquoted t.spelling → IsWord (t ∷ rest) rest w

-- Arguments = [ Query { ',' Query } ] ')'
pub data AreArguments (Inner : Phrase Query) : List Lexeme → List Lexeme → List Query → Type 0 where
  no_arguments : {c : Lexeme} {rest : List Lexeme} → c.kind ≡ k.Close → AreArguments Inner (c ∷ rest) rest []
  arguments : {c : Lexeme} {ts mid rest : List Lexeme} {x : Query} {xs : List Query}
      → Inner ts mid x → Repeat (CommaThen Inner) mid (c ∷ rest) xs → c.kind ≡ k.Close → AreArguments Inner ts rest (x ∷ xs)

-- Operand = Word | variable | '(' Query ')' | 'set' '(' { Word } ')' | word '(' Arguments
pub data IsOperand (depth : ℕ) (Inner : Phrase Query) : List Lexeme → List Lexeme → Query → Type 0 where
  word : {ts rest : List Lexeme} {w : List ℕ} → IsWord ts rest w → IsOperand depth Inner ts rest (q.Word w)
  variable : {t : Lexeme} {rest : List Lexeme} {x : Query} → t.kind ≡ k.Variable → x ≡ q.Variable (drop 1 t.spelling)
      → IsOperand depth Inner (t ∷ rest) rest x
  parenthesized : {p c : Lexeme} {ts rest : List Lexeme} {x : Query} → 0 < depth → p.kind ≡ k.Open → Inner ts (c ∷ rest) x → c.kind ≡ k.Close
      → IsOperand depth Inner (p ∷ ts) rest (q.Parenthesized x)
  set : {s p c : Lexeme} {ts rest : List Lexeme} {ws : List (List ℕ)} → 0 < depth → s.kind ≡ k.Set → p.kind ≡ k.Open
      → Repeat IsWord ts (c ∷ rest) ws → c.kind ≡ k.Close → IsOperand depth Inner (s ∷ p ∷ ts) rest (q.Set ws)
  call : {f p : Lexeme} {ts rest : List Lexeme} {xs : List Query} {y : Query} → 0 < depth → f.kind ≡ k.Word → p.kind ≡ k.Open
      → AreArguments Inner ts rest xs → y ≡ q.Call f.spelling xs → IsOperand depth Inner (f ∷ p ∷ ts) rest y

-- Let = 'let' name '=' Query 'in' Query
pub data IsLet (depth : ℕ) (Inner : Phrase Query) : List Lexeme → List Lexeme → Query → Type 0 where
  let_in : {l n e i : Lexeme} {ts mid rest : List Lexeme} {x y z : Query} → 0 < depth → l.kind ≡ k.Let
      → n.kind ≡ k.Word → is_variable_name n.spelling ≡ true → e.kind ≡ k.Equals → Inner ts (i ∷ mid) x → i.kind ≡ k.In → Inner mid rest y
      → z ≡ q.Let n.spelling x y → IsLet depth Inner (l ∷ n ∷ e ∷ ts) rest z

-- Operations = { operator Operand } [ operator Let ]
pub data AreOperations (depth : ℕ) (Inner : Phrase Query) : List Lexeme → List Lexeme → List SetOperation → Type 0 where
  no_more : {ts : List Lexeme} → AreOperations depth Inner ts ts []
  one_more : {t : Lexeme} {ts mid rest : List Lexeme} {o : SetOperator} {x : Query} {xs : List SetOperation} → operator t.kind ≡ Some o
      → IsOperand depth Inner ts mid x → AreOperations depth Inner mid rest xs → AreOperations depth Inner (t ∷ ts) rest (operation o x ∷ xs)
  last_one : {t : Lexeme} {ts rest : List Lexeme} {o : SetOperator} {x : Query} → operator t.kind ≡ Some o
      → IsLet depth Inner ts rest x → AreOperations depth Inner (t ∷ ts) rest (operation o x ∷ [])

-- Query = Let | Operand Operations
-- What follows `in` reaches as far as it can, so a let stands alone or last.
pub data IsQueryOver (depth : ℕ) (Inner : Phrase Query) : List Lexeme → List Lexeme → Query → Type 0 where
  bound : {ts rest : List Lexeme} {x : Query} → IsLet depth Inner ts rest x → IsQueryOver depth Inner ts rest x
  chained : {ts mid rest : List Lexeme} {x y : Query} {os : List SetOperation}
      → IsOperand depth Inner ts mid x → AreOperations depth Inner mid rest os → y ≡ chain_of x os → IsQueryOver depth Inner ts rest y

-- a query in which a number of parentheses and lets may be open
abbrev pub IsQueryTo : ℕ → Phrase Query
IsQueryTo zero = IsQueryOver 0 none
IsQueryTo (suc depth) = IsQueryOver (suc depth) (IsQueryTo depth)

-- the most levels that a query is nested
abbrev pub max_open : ℕ
max_open = 64
