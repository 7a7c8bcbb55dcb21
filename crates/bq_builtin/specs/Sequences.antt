-- The functions `list`, `tuple`, `reversed`, `enumerate` and `zip` (Starlark, "list", "tuple", "reversed", "enumerate", "zip").
use Rattle.std.specs.Prelude.{ℕ, zero, suc, min, ℤ, pos, ◌+ℤ◌, List, [], ◌∷◌, ◌++◌, map, take, drop, length, reverse, codes, Option, Some, None, Result, Ok}
use Rattle.bq_base.specs.declared.fault.EvalFault.{EvalFault}
use Rattle.bq_builtin_strings.specs.Integer.{fitted}
use Rattle.bq_value.specs.Datum as datum
use Rattle.bq_value.specs.Datum.{Datum, end, data_of}
use Rattle.bq_value.specs.Cells.{StoreView}
use Rattle.bq_builtin_machine.specs.Args.{Passed}
use Rattle.bq_builtin_machine.specs.Iteration.{elements_in}
use Rattle.bq_builtin_machine.specs.Answer.{and_then}
use Rattle.bq_builtin_methods.specs.Arguments.{integer}
use Rattle.bq_builtin.specs.Arguments.{by_place, only_argument, only_argument_if_any, one_and_named}
use Rattle.bq_builtin.specs.Elements.{room_for, listed, listed_if_any}

-- `tuple(x)`: the elements of x
unfoldable pub tuple : StoreView → Passed → Result Datum EvalFault
tuple s p = and_then (only_argument_if_any p) (λ o. and_then (listed_if_any s o) (λ xs. Ok (datum.tuple (data_of xs))))

-- ---- the values of the new lists

-- `list(x)`: the elements of x
unfoldable pub list : StoreView → Passed → Result (List Datum) EvalFault
list s p = and_then (only_argument_if_any p) (λ o. listed_if_any s o)

-- `reversed(x)`: the elements of x, the last one first
unfoldable pub reversed : StoreView → Passed → Result (List Datum) EvalFault
reversed s p = and_then (only_argument p) (λ v. and_then (listed s v) (λ xs. Ok (reverse xs)))

-- ---- `enumerate(x, start = 0)`

-- the first number of `enumerate`, 0 where none is given
abbrev pub start_or_zero : Option Datum → Result ℤ EvalFault
start_or_zero None = Ok (pos 0)
start_or_zero (Some v) = integer v

-- the last of a number of integers, of which the first one is `start`, fits 64 bits (F41)
abbrev pub numbers_fit : ℤ → ℕ → Result (Unit {0}) EvalFault
numbers_fit start zero = Ok tt
numbers_fit start (suc n) = and_then (fitted (start +ℤ pos n)) (λ last. Ok tt)

-- `(number, value)`
abbrev pub numbered_value : ℤ → Datum → Datum
numbered_value number v = datum.tuple (datum.datum (datum.int number) (datum.datum v end))

-- each value with its number, where the first one has the number `start`
abbrev pub numbered : ℤ → List Datum → List Datum
numbered start [] = []
numbered start (v ∷ vs) = numbered_value start v ∷ numbered (start +ℤ pos 1) vs

-- `enumerate(x, start)`: the elements, each in a pair behind its number
unfoldable pub enumerate : StoreView → Passed → Result (List Datum) EvalFault
enumerate s p =
    and_then (one_and_named (codes "start") p) (λ r. and_then (start_or_zero r.1) (λ start. and_then (elements_in s r.0) (λ xs. and_then (numbers_fit start (length xs)) (λ _. and_then (room_for (length xs)) (λ _. Ok (numbered start xs))))))

-- ---- `zip(x, y, ..)`

-- the first elements of lists, where each has one
abbrev pub heads : List (List Datum) → List Datum
heads [] = []
heads (xs ∷ xss) = take 1 xs ++ heads xss

-- a number of tuples: the first elements of the lists, the second ones, and so on
abbrev pub rows : ℕ → List (List Datum) → List Datum
rows zero xss = []
rows (suc n) xss = datum.tuple (data_of (heads xss)) ∷ rows n (map (drop 1) xss)

-- the least of `n` and of the lengths of these lists
abbrev pub shortest_from : ℕ → List (List Datum) → ℕ
shortest_from n [] = n
shortest_from n (xs ∷ xss) = shortest_from (min n (length xs)) xss

-- the length of the shortest list; of no list, 0
abbrev pub shortest : List (List Datum) → ℕ
shortest [] = 0
shortest (xs ∷ xss) = shortest_from (length xs) xss

-- the elements of each value
abbrev pub elements_of_each : StoreView → List Datum → Result (List (List Datum)) EvalFault
elements_of_each s [] = Ok []
elements_of_each s (v ∷ vs) = and_then (elements_in s v) (λ xs. and_then (elements_of_each s vs) (λ xss. Ok (xs ∷ xss)))

-- `zip(..)`: as many rows as the shortest argument has elements, each with one of every argument
unfoldable pub zip : StoreView → Passed → Result (List Datum) EvalFault
zip s p = and_then (by_place p) (λ vs. and_then (elements_of_each s vs) (λ xss. and_then (room_for (shortest xss)) (λ _. Ok (rows (shortest xss) xss))))
