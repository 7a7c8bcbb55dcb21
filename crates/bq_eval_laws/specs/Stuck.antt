-- What it is that the evaluation of a file gets stuck: the rules have a meaning for each tree, and of a tree that no file resolves to it
-- is that the run stops with the fault of `stuck` (bq_eval_spec).
use Rattle.std.specs.Prelude.{◌≡◌, ◌==◌, ℕ, List, Bool, false, Option, Some, Ok}
use Rattle.std.specs.List.{AllByRecursion}
use Rattle.bq_base.specs.Fault.{eval_fault_number}
use Rattle.bq_base.specs.declared.fault.EvalFault.{EvalFault}
use Rattle.bq_parse_grammar.specs.Lexeme.{Lexeme}
use Rattle.bq_parse_grammar.specs.Parses.{Parses}
use Rattle.bq_parse_grammar.specs.declared.tree.Comparison.{Comparison}
use Rattle.bq_parse_grammar.specs.declared.tree.FileKind.{FileKind}
use Rattle.bq_parse_grammar.specs.declared.tree.Operator.{Operator}
use Rattle.bq_parse_grammar.specs.declared.tree.TopLevel.{TopLevel}
use Rattle.bq_parse_grammar.specs.declared.tree.UnaryOperator.{UnaryOperator}
use Rattle.bq_predeclared.specs.declared.predeclared.Predeclared.{Predeclared}
use Rattle.bq_predeclared.specs.declared.rule_function.RuleFunction.{RuleFunction}
use Rattle.bq_resolve_scope.specs.Files.{resolved}
use Rattle.bq_resolve_scope.specs.Universe.{UniverseParts}
use Rattle.bq_resolve_scope.specs.declared.file.ResolvedFile.{ResolvedFile}
use Rattle.bq_value.specs.Cells.{FrozenView}
use Rattle.bq_value.specs.Contents.{Contents}
use Rattle.bq_value.specs.Datum.{Datum}
use Rattle.bq_builtin_machine.specs.Action.{Action, Run, done, stopped}
use Rattle.bq_builtin_machine.specs.Args.{Passed}
use Rattle.bq_eval_spec.specs.Frame.{Frame}
use Rattle.bq_eval_spec.specs.Primitives.{Primitives, stuck_fault}
use Rattle.bq_eval_spec.specs.Slots.{frozen_units, module_meaning}

-- a fault is that of `stuck`
abbrev pub is_stuck : EvalFault → Bool
is_stuck kind = eval_fault_number kind == eval_fault_number stuck_fault

-- a run that does not stop with it
abbrev pub IsUnstuck : {S A : Type 0} → Run S A → Type 0
IsUnstuck (done x s) = Unit {0}
IsUnstuck (stopped why) = is_stuck why.kind ≡ false

-- an action that gets stuck in no state
abbrev pub Unstuck : {S : Type 0} (A : Type 0) → Action S A → Type 0
Unstuck {S = S} A action = (s : S) → IsUnstuck (action s)

-- what the rules ask for does not stop with that fault
pub record NeverStuck {S : Type 0} (m : Primitives S) : Type 0 where
  pub of_step : (n : ℕ) → Unstuck (Unit {0}) (m.step n)
  pub of_unary : (o : UnaryOperator) (v : Datum) → Unstuck Datum (m.unary o v)
  pub of_binary : (o : Operator) (v w : Datum) → Unstuck Datum (m.binary o v w)
  pub of_compare : (o : Comparison) (v w : Datum) → Unstuck Datum (m.compare o v w)
  pub of_augment : (o : Operator) (v w : Datum) → Unstuck Datum (m.augment o v w)
  pub of_index : (v i : Datum) → Unstuck Datum (m.index v i)
  pub of_set_index : (v i w : Datum) → Unstuck (Unit {0}) (m.set_index v i w)
  pub of_slice : (v i j k : Datum) → Unstuck Datum (m.slice v i j k)
  pub of_make : (c : Contents) → Unstuck Datum (m.make c)
  pub of_add : (c : Contents) (v : Datum) → Unstuck Contents (m.add c v)
  pub of_add_pair : (c : Contents) (k v : Datum) → Unstuck Contents (m.add_pair c k v)
  pub of_put_pair : (c : Contents) (k v : Datum) → Unstuck Contents (m.put_pair c k v)
  pub of_parts : (count : ℕ) (v : Datum) → Unstuck (List Datum) (m.parts count v)
  pub of_begin_walk : (v : Datum) → Unstuck (List Datum) (m.begin_walk v)
  pub of_pass : (p : Passed) (v : Datum) → Unstuck Passed (m.pass p v)
  pub of_pass_named : (p : Passed) (name : List ℕ) (v : Datum) → Unstuck Passed (m.pass_named p name v)
  pub of_pass_all : (p : Passed) (v : Datum) → Unstuck Passed (m.pass_all p v)
  pub of_pass_all_named : (p : Passed) (v : Datum) → Unstuck Passed (m.pass_all_named p v)
  pub of_built_in : (x : Predeclared) (p : Passed) → Unstuck Datum (m.call_built_in x p)
  pub of_rule_function : (function : RuleFunction) (p : Passed) → Unstuck Datum (m.call_rule_function function p)
  pub of_cell : (home number : ℕ) (p : Passed) → Unstuck Datum (m.call_cell home number p)
  pub of_method : (name : List ℕ) (v : Datum) (p : Passed) → Unstuck Datum (m.call_method name v p)
  pub of_enter : (home place : ℕ) → Unstuck (Unit {0}) (m.enter home place)

-- what a file resolves to that some tokens read as
pub record IsResolvedFile (file : ResolvedFile) : Type 0 where
  pub kind : FileKind
  pub lexemes : List Lexeme
  pub statements : List TopLevel
  pub universe : UniverseParts
  pub parses : Parses kind lexemes (Ok statements)
  pub resolves : resolved universe statements ≡ Ok file

-- a file that is there was parsed and resolved
abbrev pub IfAny : Option ResolvedFile → Type 0
IfAny (Some file) = IsResolvedFile file
IfAny _ = Unit {0}

-- A file that was parsed and resolved runs without getting stuck, whatever modules it loads, if their files were parsed and resolved too.
abbrev pub ResolvedFilesRunUnstuck : {S : Type 0} → Primitives S → Type 0
ResolvedFilesRunUnstuck m =
    (files : List (Option ResolvedFile)) → AllByRecursion IfAny files → (number : ℕ) (file : ResolvedFile) → IsResolvedFile file → (loaded : List FrozenView) (imports : List Datum)
    → Unstuck Frame (module_meaning m (frozen_units files loaded) number file imports)
