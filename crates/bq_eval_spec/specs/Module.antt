-- What a file's evaluation gives: its environment, in the state that its statements leave (Starlark specification, "Module
-- execution"). The parts of a file are its functions, in the order of their `def`s, and its lines.
use Rattle.std.specs.Prelude.{ℕ, List, [], ◌∷◌, ◌==◌, Some, if◌then◌else◌}
use Rattle.bq_resolve_scope.specs.declared.file.Def.{Def}
use Rattle.bq_resolve_scope.specs.declared.file.FileLine.{FileLine}
use Rattle.bq_resolve_scope.specs.declared.file.Function.{Function}
use Rattle.bq_resolve_scope.specs.declared.file.Outside.{Outside}
use Rattle.bq_resolve_scope.specs.declared.file.Outside.TheVariants as outside
use Rattle.bq_value.specs.Datum.{function, data_of}
use Rattle.bq_builtin_machine.specs.Action.{Action, ◌>>=◌, pure}
use Rattle.bq_eval_spec.specs.Primitives.{Primitives, change}
use Rattle.bq_eval_spec.specs.Calls.{Units, calls, max_active}
use Rattle.bq_eval_spec.specs.Environment.{Scoping}
use Rattle.bq_eval_spec.specs.Expressions.{eval_in, values}
use Rattle.bq_eval_spec.specs.Statements.{Exec, next, go_on, line}
use Rattle.bq_eval_spec.specs.Trees.{Eval}

-- the module that is evaluated: its number, its functions, and what is around its blocks, by what its own environment is
pub record Own (R V : Type 0) : Type 0 where
  pub number : ℕ
  pub functions : List Function
  pub round : V → R

-- the frozen modules, and the file's own, whose globals are as they are now
abbrev pub with_own : {R V : Type 0} → Units R → Own R V → V → Units R
with_own units own globals = λ n. if n == own.number then Some (record { functions = own.functions; round = own.round globals }) else units n

module _ {S R V : Type 0} (m : Primitives S) (scoping : Scoping R V) (own : Own R V) (eval : Eval S V) where
  -- A `def` takes a step, and binds its name to the function. Defaults are evaluated once, at the `def`, and outside the function.
  unfoldable pub def_stmt : Def → Exec S V
  def_stmt d globals =
      m.step 1 >>= λ _. values m eval d.defaults globals []
      >>= λ vs. pure (next, scoping.bind globals d.name (function own.number d.function d.name.name (data_of vs)))

  -- what stands on a line outside functions, by its form
  abbrev pub outside_by : Outside → Exec S V
  outside_by (outside.Simple xs) globals = line m scoping eval xs globals
  outside_by (outside.Def d) globals = def_stmt d globals

  -- a fault names the line of the top-level statement that runs
  unfoldable pub top_level : FileLine → Exec S V
  top_level l globals = change m (m.at_line l.line) >>= λ _. outside_by l.statement globals

  -- the lines of a file, in order
  unfoldable pub top_levels : List FileLine → Exec S V
  top_levels [] globals = pure (next, globals)
  top_levels (l ∷ ls) globals = top_level l globals >>= λ r. go_on (top_levels ls) r

-- what an expression means outside functions, where no block is open
unfoldable pub eval_top : {S R V : Type 0} → Primitives S → Scoping R V → Units R → Own R V → Eval S V
eval_top m scoping units own = λ x globals. eval_in m scoping (calls max_active m scoping (with_own units own globals)) (own.round globals) x scoping.outside

-- a file's lines, among these modules, where its loads have bound the first of its globals
unfoldable pub module_meaning : {S R V : Type 0} → Primitives S → Scoping R V → Units R → Own R V → List FileLine → V → Action S V
module_meaning m scoping units own lines globals = top_levels m scoping own (eval_top m scoping units own) lines globals >>= λ r. pure r.1
