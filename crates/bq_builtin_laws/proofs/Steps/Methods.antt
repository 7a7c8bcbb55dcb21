-- Methods have numbers of steps and outcomes of their own.
use Rattle.std.proofs.Common.{ℕ, Bool, true, false, cond, List, [], ◌∷◌, map, slice_get, Option, Some, None}
use Rattle.std.specs.List.{AllByRecursion}
use Rattle.std.specs.Map.{lookup}
use Rattle.std.specs.Str.{bytes_eq}
use Rattle.bq_base.specs.declared.fault.EvalFault.TheVariants as f
use Rattle.bq_value.specs.Contents.{Contents, items, pairs, rule}
use Rattle.bq_value.specs.Datum.{Datum, string, cell}
use Rattle.bq_builtin_format.specs.Method.{formatted}
use Rattle.bq_builtin_machine.specs.Answer.{and_then, as_string}
use Rattle.bq_builtin_machine.specs.Action.{Action, pure, given}
use Rattle.bq_builtin_machine.specs.Args.{Passed}
use Rattle.bq_builtin_methods.specs.Calling.{called}
use Rattle.bq_builtin_machine.specs.Cells.{content}
use Rattle.bq_builtin_machine.specs.Iteration.{elements}
use Rattle.bq_builtin_machine.specs.Machine.{walk}
use Rattle.bq_builtin_machine.specs.State.{State}
use Rattle.bq_builtin_methods.specs.Method.{Method, fits}
use Rattle.bq_builtin_methods.specs.Methods.{string_methods, list_methods, dict_methods}
use Rattle.bq_builtin_methods.specs.Call.{if_found, called_on, call_in, call_by, call_of_cell, call_method}
use Rattle.bq_builtin_string_methods.specs.Affixes.{texts_of}
use Rattle.bq_builtin_string_methods.specs.Format.{format_text}
use Rattle.bq_builtin_string_methods.specs.Longer.{join, joined}
use Rattle.bq_builtin_laws.specs.Steps.Laws.{Own}
use Rattle.bq_builtin_laws.proofs.Steps.Machine.{pure_owns, stop_owns, given_owns, bind_owns, then_owns, walk_owns, content_owns, elements_owns}
use Rattle.bq_builtin_laws.proofs.Steps.Collections.{lists_own, dicts_own}
use Rattle.bq_builtin_laws.proofs.Steps.Rows.{ActionOwns, called_owns, ActionsOwn, each_owns}
use Rattle.bq_builtin_laws.proofs.Steps.Walks.{formatted_takes}

-- ---- calls by the rows of a table

chosen_owns : {M : Type 0} (b : Bool) (method : M) (o : Option M) (run : M → Action State Datum) → Own (run method) → Own (if_found o run) → Own (if_found (cond b (Some method) o) run)
chosen_owns true method o run h k = h
chosen_owns false method o run h k = k

module _ {R : Type 0} (receiver : R) (args : Passed) where
  method_owns_on : (method : Method R) → ActionOwns (method.1 receiver) → Own (called_on method receiver args)
  method_owns_on method own = then_owns (given (fits method.0 args)) (called (method.1 receiver) args) (given_owns (fits method.0 args)) (called_owns (method.1 receiver) args own)

  found_owns : (table : List (List ℕ × Method R)) (name : List ℕ) → AllByRecursion ActionOwns (map (λ row. row.1.1 receiver) table) → Own (if_found (lookup (bytes_eq name) table) (λ method. called_on method receiver args))
  found_owns [] name own = stop_owns Datum f.NoMethod
  found_owns (row ∷ table) name own =
      chosen_owns (bytes_eq name row.0) row.1 (lookup (bytes_eq name) table) (λ method. called_on method receiver args) (method_owns_on row.1 own.0) (found_owns table name own.1)

  in_table : (table : List (List ℕ × Method R)) (name : List ℕ) → ActionsOwn (map (λ row. row.1.1 receiver) table) → Own (call_in table name receiver args)
  unfolding call_in
  in_table table name own = found_owns table name (each_owns (map (λ row. row.1.1 receiver) table) own)

-- ---- the actions of strings, in the order of their rows

joined_owns : (text : List ℕ) (o : Option Datum) → Own (joined text o)
joined_owns text None = stop_owns Datum f.Args
joined_owns text (Some v) =
    bind_owns (elements v) _ (elements_owns v) (λ vs. given_owns (as_string (and_then (texts_of vs) (λ strings. join text strings))))

format_owns : (text : List ℕ) (args : Passed) → Own (format_text text args)
format_owns text args =
    bind_owns (walk (λ store n. formatted store n text args.positional args.named)) (λ bytes. pure (string bytes))
    (walk_owns (λ store n. formatted store n text args.positional args.named) (λ store. formatted_takes store text args.positional args.named)) (λ bytes. pure_owns (string bytes))

strings_own : (text : List ℕ) → ActionsOwn (map (λ row. row.1.1 text) string_methods)
unfolding string_methods
strings_own text = (format_owns text, (λ args. joined_owns text (slice_get args.positional 0), tt))

-- ---- calls

by_owns : (c : Contents) (name : List ℕ) (home number : ℕ) (args : Passed) → Own (call_by c name home number args)
by_owns (items xs) name home number args = in_table (home, number) args list_methods name (lists_own home number)
by_owns (pairs ps) name home number args = in_table (home, number) args dict_methods name (dicts_own home number)
by_owns (rule class) name home number args = stop_owns Datum f.NoMethod

of_cell_owns : (name : List ℕ) (home number : ℕ) (args : Passed) → Own (call_of_cell name home number args)
unfolding call_of_cell
of_cell_owns name home number args = bind_owns (content home number) (λ c. call_by c name home number args) (content_owns home number) (λ c. by_owns c name home number args)

pub method_owns : (name : List ℕ) (v : Datum) (args : Passed) → Own (call_method name v args)
unfolding call_method
method_owns name (string text) args = in_table text args string_methods name (strings_own text)
method_owns name (cell home number) args = of_cell_owns name home number args
method_owns name v args = stop_owns Datum f.NoMethod
