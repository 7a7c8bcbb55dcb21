-- What a context says of the environment of an expression or a statement.
use Rattle.std.specs.Prelude.{List, map, slice_get, Option, option_copied, if◌then◌else◌}
use Rattle.std.specs.Borrow.{Bor}
use Rattle.std.specs.declared.alloc.Global.{Global}
use Rattle.std.specs.declared.sync.Arc.{Arc}
use Rattle.bq_parse_grammar.specs.declared.tree.Stmt.{Stmt}
use Rattle.bq_resolve_scope.specs.Names.{max_layers}
use Rattle.bq_resolve_scope.specs.declared.file.ResolvedFile.{ResolvedFile}
use Rattle.bq_value.specs.Cells.{FrozenView}
use Rattle.bq_eval_spec.specs.Frame.{Frame, Surroundings, empty}
use Rattle.bq_eval_spec.specs.Primitives.{Primitives}
use Rattle.bq_eval_spec.specs.Trees.{Eval, Calls}
use Rattle.bq_eval_spec.specs.Expressions.{expr_to}
use Rattle.bq_eval_spec.specs.Calls.{Units, calls}
use Rattle.bq_eval_spec.specs.Statements.{Exec, run_in}
use Rattle.bq_eval_spec.specs.Module.{Own, with_own}
use Rattle.bq_eval_spec.specs.Slots.{by_slots, frozen_units, surroundings_of}
use Rattle.bq_eval_frame.specs.Slots.{slots_of}
use Rattle.bq_eval_rules.specs.declared.context.Globals.{Globals}
use Rattle.bq_eval_rules.specs.declared.context.Globals.TheVariants as g
use Rattle.bq_eval_rules.specs.declared.context.Program.{Program}
use Rattle.bq_eval_rules.specs.declared.context.Context.{Context}

-- the values of the globals of a file
unfoldable pub globals_of : Globals → Frame
globals_of g.Absent = empty
globals_of (g.Running frame) = slots_of frame.now
globals_of (g.Frozen vs) = λ k. slice_get vs.now k

-- what is around the code of a context
unfoldable pub round_of : Context → Surroundings
round_of c = surroundings_of c.loaded.now (globals_of c.globals)

-- ---- the modules of a program

-- the module that is evaluated
abbrev pub own_of : Program → Own Surroundings Frame
own_of p = record { number = p.number; functions = p.functions.now; round = surroundings_of p.loaded.now }

-- the frozen modules that a program loads
abbrev pub views_of : List (Arc FrozenView Global) → List FrozenView
views_of fs = map (λ f. f.value) fs

-- the files that are lent to a program, by the numbers of their modules
abbrev pub lent_files : List (Option (Bor ResolvedFile)) → List (Option ResolvedFile)
lent_files files = map option_copied files

-- where the own module's globals are these
unfoldable pub units_at : Program → Frame → Units Surroundings
units_at p globals = with_own (frozen_units (lent_files p.code.now) (views_of p.frozen.now)) (own_of p) globals

-- what calls mean
unfoldable pub inside : {S : Type 0} → Primitives S → Context → Calls S
inside m c = calls c.left m by_slots (units_at c.program.now (globals_of c.own))

-- ---- statements

-- what an expression means outside functions, where the frame is the globals
unfoldable pub outside_functions : {S : Type 0} → Primitives S → Context → Eval S Frame
outside_functions m c = λ x env. expr_to max_layers m by_slots (calls c.left m by_slots (units_at c.program.now env)) (surroundings_of c.program.now.loaded.now env) x empty

-- what an expression means in a function
unfoldable pub in_function : {S : Type 0} → Primitives S → Context → Eval S Frame
in_function m c = expr_to max_layers m by_slots (inside m c) (round_of c)

-- what an expression of a statement means
unfoldable pub evals : {S : Type 0} → Primitives S → Context → Eval S Frame
evals m c = if c.outside then outside_functions m c else in_function m c

-- what a statement means
abbrev pub execs : {S : Type 0} → Primitives S → Context → Stmt → Exec S Frame
execs m c = run_in m by_slots (evals m c)
