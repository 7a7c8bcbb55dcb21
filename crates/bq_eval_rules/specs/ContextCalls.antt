-- Calls of the functions of a program, in a context.
use Rattle.std.specs.Prelude.{ℕ, List, Option}
use Rattle.bq_resolve_scope.specs.declared.file.Function.{Function}
use Rattle.bq_value.specs.Datum.{Datum}
use Rattle.bq_builtin_machine.specs.Action.{Action}
use Rattle.bq_builtin_machine.specs.Args.{Passed}
use Rattle.bq_eval_spec.specs.Calls.{TreeUnit, Units, inner_calls, run_body, call_function, call_at}
use Rattle.bq_eval_spec.specs.Frame.{Frame, Surroundings}
use Rattle.bq_eval_spec.specs.Primitives.{Primitives}
use Rattle.bq_eval_spec.specs.Slots.{by_slots}
use Rattle.bq_eval_spec.specs.Trees.{Calls}
use Rattle.bq_eval_rules.specs.declared.context.Context.{Context}
use Rattle.bq_eval_rules.specs.Round.{units_at, globals_of}

module _ {S : Type 0} (m : Primitives S) (c : Context) where
  -- the modules, with the own module's globals as they are now
  abbrev pub units_of : Units Surroundings
  units_of = units_at c.program.now (globals_of c.own)

  -- what calls mean in the body of a function that is called here, if one more may become active
  abbrev pub calls_left : Option (Calls S)
  calls_left = inner_calls c.left m by_slots units_of

  -- the body of a function
  abbrev pub body_here : TreeUnit Surroundings → Function → Frame → Action S Datum
  body_here = run_body m by_slots calls_left

  -- a call of a function, by the number of its module and its place there
  abbrev pub call_here : ℕ → ℕ → TreeUnit Surroundings → Function → List Datum → Passed → Action S Datum
  call_here = call_function m by_slots calls_left

  -- a call of the function of a module at a place
  abbrev pub call_place : ℕ → ℕ → List Datum → Passed → Action S Datum
  call_place = call_at m by_slots units_of calls_left
