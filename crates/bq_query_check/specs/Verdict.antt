-- What must hold of the tree of a query, in the order of its text: that there is no fault at a place, at one place that of the least number
-- first, and that a text is a pattern. The first of these that doesn't hold is the query's error.
use Rattle.std.specs.Prelude.{ℕ, ◌==◌, ◌&&◌, nat_le, not, Bool, List, [], ◌∷◌, ◌++◌, length, Option, Some, None, bytes_eq, if◌then◌else◌}
use Rattle.std.specs.List.{flat_map, list_any, list_all}
use Rattle.std.specs.Option.{option_map, option_or, unwrap_or}
use Rattle.bq_source.specs.Lexis.{is_digit}
use Rattle.bq_query_lex.specs.declared.query_error.QueryErr.{QueryErr}
use Rattle.bq_query_lex.specs.declared.query_error.QueryErr.TheVariants as e
use Rattle.bq_query_function.specs.declared.signature.QueryArgumentKind.{QueryArgumentKind}
use Rattle.bq_query_function.specs.declared.signature.QueryArgumentKind.TheVariants as kind
use Rattle.bq_query_function.specs.Functions.{Row}
use Rattle.bq_query_function.specs.Calls.{function_named, is_left_out, mandatory}
use Rattle.bq_query_lex.specs.PatternReading.{word_fault, words_fault}
use Rattle.bq_query_parse.specs.declared.tree.Query.{Query, fold-Query}
use Rattle.bq_query_parse.specs.declared.tree.SetOperation.{SetOperation, fold-SetOperation}
use Rattle.bq_query_parse.specs.declared.tree.Query.TheOpen as tree
use Rattle.bq_query_parse.specs.declared.tree.Query.TheOpen.{Query-F, SetOperation-F}

-- nothing, or a fault
abbrev pub Fault : Type 0
Fault = Option QueryErr

-- ---- names

-- the names are those that the lets around it bind
abbrev pub variable : List (List ℕ) → List ℕ → Fault
variable names name = if list_any (bytes_eq name) names then None else Some (e.UnboundVariable name)

-- a function that there isn't, or that is left out
abbrev pub unknown : List ℕ → QueryErr
unknown name = if is_left_out name then e.LeftOut name else e.UnknownFunction name

-- a function takes so many arguments
abbrev pub fits : Row → ℕ → Bool
fits row n = nat_le (mandatory row.parameters) n && nat_le n (length row.parameters)

-- the fault of the call of a function with a number of arguments
abbrev pub function : List ℕ → ℕ → Fault
function name n = elim (function_named name) [ Some row ↦ if fits row n then None else Some e.Arguments | None ↦ Some (unknown name) ]

-- a number of edges: 1 to 9 digits
abbrev pub is_number : List ℕ → Bool
is_number w = not (length w == 0) && (nat_le (length w) 9 && list_all is_digit w)

-- ---- trees

-- what must hold at a place of a query: that it has no such fault, or that a text is a regular expression (Q4)
pub data Need : Type 0 where
  no_fault : Fault → Need
  regex : List ℕ → Need

-- what is known of a part of a tree: the word that it is, if it is one; the faults at its first token; and what must hold of all of it,
-- in the order of its text, where the lets around it bind these names
pub record Part : Type 0 where
  pub word : Option (List ℕ)
  pub at_first : List (List ℕ) → Fault
  pub all : List (List ℕ) → List Need

-- an argument that has to be one word and is not: Q8 at its first token, where a lesser number is a fault of the token too
abbrev pub no_word : Part → List (List ℕ) → Fault
no_word x names = option_or (x.at_first names) (Some e.Arguments)

-- an argument that has to be a word, of which this must hold
abbrev pub word_with : (List ℕ → Need) → Part → List (List ℕ) → Need
word_with need x names = unwrap_or (option_map need x.word) (no_fault (no_word x names))

-- an argument of a kind: a regular expression, the name of an attribute and a number have to be words
abbrev pub argument : QueryArgumentKind → Part → List (List ℕ) → List Need
argument kind.Query x names = x.all names
argument kind.Pattern x names = word_with regex x names ∷ []
argument kind.Attribute x names = word_with (λ w. no_fault None) x names ∷ []
argument kind.Number x names = word_with (λ w. no_fault (if is_number w then None else Some e.Arguments)) x names ∷ []

-- what arguments need, each by its kind, from the left
abbrev pub arguments : List QueryArgumentKind → List Part → List (List ℕ) → List Need
arguments ks [] names = []
arguments [] (x ∷ xs) names = []
arguments (k ∷ ks) (x ∷ xs) names = argument k x names ++ arguments ks xs names

-- what these parts need, from the left
abbrev pub parts : List Part → List (List ℕ) → List Need
parts xs names = flat_map (λ x. x.all names) xs

-- a call needs a function that takes so many arguments, and what they need
abbrev pub call : List ℕ → List Part → List (List ℕ) → List Need
call name xs names = no_fault (function name (length xs)) ∷ arguments (unwrap_or (option_map (λ row. row.parameters) (function_named name)) []) xs names

-- a part that is no word, with no fault at its first token
abbrev pub larger : (List (List ℕ) → List Need) → Part
larger all = record { word = None; at_first = λ names. None; all = all }

-- an operator needs what its right operand needs
abbrev pub operation_step : SetOperation-F Part Part → Part
operation_step o = o.operand

-- what a query needs, by its form, from the left
abbrev pub query_step : Query-F Part Part → Part
query_step (tree.Word w) = record { word = Some w; at_first = λ names. word_fault w; all = λ names. no_fault (word_fault w) ∷ [] }
query_step (tree.Variable n) = record { word = None; at_first = λ names. variable names n; all = λ names. no_fault (variable names n) ∷ [] }
query_step (tree.Parenthesized x) = larger x.all
query_step (tree.Set ws) = larger (λ names. no_fault (words_fault ws) ∷ [])
query_step (tree.Call f xs) = record { word = None; at_first = λ names. function f (length xs); all = λ names. call f xs names }
query_step (tree.Let n x y) = larger (λ names. x.all names ++ y.all (names ++ n ∷ []))
query_step (tree.Chain x os) = record { word = None; at_first = x.at_first; all = λ names. x.all names ++ parts os names }

-- what a query needs
abbrev pub part_of : Query → Part
part_of = fold-Query Part Part query_step operation_step

-- what is known of an operator's right operand
abbrev pub operation_part : SetOperation → Part
operation_part = fold-SetOperation Part Part query_step operation_step

-- a whole query: no name is bound
abbrev pub needs : Query → List Need
needs x = (part_of x).all []
