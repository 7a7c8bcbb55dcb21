-- What the rules of the language ask for: steps, operators, lists and dicts, walks, built-in functions. The rules hold for any meaning
-- of these, and any state `S`.
use Rattle.std.specs.Prelude.{ℕ, List, Bool, Result, Ok, Err}
use Rattle.bq_base.specs.declared.fault.EvalFault.{EvalFault}
use Rattle.bq_base.specs.declared.fault.EvalFault.TheVariants.{BadValue}
use Rattle.bq_parse_grammar.specs.declared.tree.Comparison.{Comparison}
use Rattle.bq_parse_grammar.specs.declared.tree.Operator.{Operator}
use Rattle.bq_parse_grammar.specs.declared.tree.UnaryOperator.{UnaryOperator}
use Rattle.bq_predeclared.specs.declared.predeclared.Predeclared.{Predeclared}
use Rattle.bq_predeclared.specs.declared.rule_function.RuleFunction.{RuleFunction}
use Rattle.bq_value.specs.Contents.{Contents}
use Rattle.bq_value.specs.Datum.{Datum}
use Rattle.bq_builtin_machine.specs.Action.{Action, done, stopped}
use Rattle.bq_builtin_machine.specs.Args.{Passed}
use Rattle.bq_builtin_machine.specs.State.{State, stop_at}

-- what the language is made of, over a state `S`: a meaning is said over these, and what each does stands where it is made
pub record Primitives (S : Type 0) : Type 0 where
  -- what a state has of the machine's
  pub machine : S → State
  -- takes a number of steps (F53)
  pub step : ℕ → Action S (Unit {0})
  -- the top-level statement that runs is on this line
  pub at_line : ℕ → S → S
  -- whether a value counts as true
  pub truth : Datum → S → Bool
  -- the value of a predeclared name
  pub predeclared : Predeclared → Datum
  pub unary : UnaryOperator → Datum → Action S Datum
  -- an operator between two operands, but for `and` and `or`
  pub binary : Operator → Datum → Datum → Action S Datum
  pub compare : Comparison → Datum → Datum → Action S Datum
  -- what an augmented assignment makes of a value: `+=` changes a list in place, and `|=` a dict
  pub augment : Operator → Datum → Datum → Action S Datum
  -- `x[i]`
  pub index : Datum → Datum → Action S Datum
  -- `x[i] = v`
  pub set_index : Datum → Datum → Datum → Action S (Unit {0})
  -- `x[start:stop:step]`, where a part that is left out is `None`
  pub slice : Datum → Datum → Datum → Datum → Action S Datum
  -- a new list or dict
  pub make : Contents → Action S Datum
  -- a list with one more element (F54)
  pub add : Contents → Datum → Action S Contents
  -- a dict with one more pair, whose key isn't there yet (F46)
  pub add_pair : Contents → Datum → Datum → Action S Contents
  -- a dict in which the key has this value
  pub put_pair : Contents → Datum → Datum → Action S Contents
  -- the elements of an iterable that has exactly this many (F57)
  pub parts : ℕ → Datum → Action S (List Datum)
  -- the elements of an iterable (F40); a list or dict may not be changed from now on (F48)
  pub begin_walk : Datum → Action S (List Datum)
  -- it may be changed again
  pub end_walk : Datum → S → S
  -- `f(.. , v ..)`, `name = v`, `*v` and `**v`: the arguments so far, and these (F40, F54)
  pub pass : Passed → Datum → Action S Passed
  pub pass_named : Passed → List ℕ → Datum → Action S Passed
  pub pass_all : Passed → Datum → Action S Passed
  pub pass_all_named : Passed → Datum → Action S Passed
  -- a built-in function
  pub call_built_in : Predeclared → Passed → Action S Datum
  -- a function that declares rules
  pub call_rule_function : RuleFunction → Passed → Action S Datum
  -- what a cell holds, which is a rule, or can't be called (F40)
  pub call_cell : ℕ → ℕ → Passed → Action S Datum
  -- `v.name(..)`
  pub call_method : List ℕ → Datum → Passed → Action S Datum
  -- a function of a module becomes active (F50), and is left
  pub enter : ℕ → ℕ → Action S (Unit {0})
  pub leave : S → S

-- The rules have a meaning for each tree. One that no file resolves to stops with this fault, F57, which the rules give nowhere else.
abbrev pub stuck_fault : EvalFault
stuck_fault = BadValue

module _ {S : Type 0} (m : Primitives S) where
  -- the run stops with a fault, on the line that it is on
  abbrev pub stop : {A : Type 0} → EvalFault → Action S A
  stop kind = λ s. stopped (stop_at kind (m.machine s))

  -- the run has come to what no file that is resolved has
  abbrev pub stuck : {A : Type 0} → Action S A
  stuck = stop stuck_fault

  -- a result as what an evaluation does
  abbrev pub given_by : {A : Type 0} → Result A EvalFault → Action S A
  given_by (Ok x) = λ s. done x s
  given_by (Err kind) = stop kind

  -- a change that nothing refuses
  abbrev pub change : (S → S) → Action S (Unit {0})
  change f = λ s. done tt (f s)
