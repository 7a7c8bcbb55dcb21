-- Relations between actions that respect the rules of the language: they hold of a value, of a fault, of what is asked for, of one action
-- after another where they hold of both, and of a choice where they hold of what is chosen from. So they hold of what a program means; of a
-- file, if they hold of the beginning of a statement on any line too (`OfLines`).
use Rattle.std.proofs.Common.{ℕ, List}
use Rattle.std.specs.Prelude.{if◌then◌else◌}
use Rattle.bq_base.specs.declared.fault.EvalFault.{EvalFault}
use Rattle.bq_parse_grammar.specs.declared.tree.Comparison.{Comparison}
use Rattle.bq_parse_grammar.specs.declared.tree.Operator.{Operator}
use Rattle.bq_parse_grammar.specs.declared.tree.UnaryOperator.{UnaryOperator}
use Rattle.bq_predeclared.specs.declared.predeclared.Predeclared.{Predeclared}
use Rattle.bq_predeclared.specs.declared.rule_function.RuleFunction.{RuleFunction}
use Rattle.bq_value.specs.Contents.{Contents}
use Rattle.bq_value.specs.Datum.{Datum}
use Rattle.bq_builtin_machine.specs.Action.{Action, ◌>>=◌, pure}
use Rattle.bq_builtin_machine.specs.Args.{Passed}
use Rattle.bq_eval_spec.specs.Primitives.{Primitives, stop, change}

abbrev pub Relation : Type 0 → Type 1
Relation S = (A : Type 0) → Action S A → Action S A → Type 0

-- what is taken where a value counts as true, or else the other
abbrev pub choosing : {S A : Type 0} → Primitives S → Datum → Action S A → Action S A → Action S A
choosing m v a b = λ s. (if m.truth v s then a else b) s

pub record Respects {S : Type 0} (m : Primitives S) (K : Relation S) : Type 1 where
  pub of_value : (A : Type 0) (x : A) → K A (pure x) (pure x)
  pub of_stop : (A : Type 0) (kind : EvalFault) → K A (stop m kind) (stop m kind)
  pub of_both : (A B : Type 0) (a b : Action S A) (f g : A → Action S B) → K A a b → ((x : A) → K B (f x) (g x)) → K B (a >>= f) (b >>= g)
  pub of_choice : (A : Type 0) (v : Datum) (a b c d : Action S A) → K A a b → K A c d → K A (choosing m v a c) (choosing m v b d)
  pub of_step : (n : ℕ) → K (Unit {0}) (m.step n) (m.step n)
  pub of_unary : (o : UnaryOperator) (v : Datum) → K Datum (m.unary o v) (m.unary o v)
  pub of_binary : (o : Operator) (v w : Datum) → K Datum (m.binary o v w) (m.binary o v w)
  pub of_compare : (o : Comparison) (v w : Datum) → K Datum (m.compare o v w) (m.compare o v w)
  pub of_augment : (o : Operator) (v w : Datum) → K Datum (m.augment o v w) (m.augment o v w)
  pub of_index : (v i : Datum) → K Datum (m.index v i) (m.index v i)
  pub of_set_index : (v i w : Datum) → K (Unit {0}) (m.set_index v i w) (m.set_index v i w)
  pub of_slice : (v i j k : Datum) → K Datum (m.slice v i j k) (m.slice v i j k)
  pub of_make : (c : Contents) → K Datum (m.make c) (m.make c)
  pub of_add : (c : Contents) (v : Datum) → K Contents (m.add c v) (m.add c v)
  pub of_add_pair : (c : Contents) (k v : Datum) → K Contents (m.add_pair c k v) (m.add_pair c k v)
  pub of_put_pair : (c : Contents) (k v : Datum) → K Contents (m.put_pair c k v) (m.put_pair c k v)
  pub of_parts : (count : ℕ) (v : Datum) → K (List Datum) (m.parts count v) (m.parts count v)
  pub of_begin_walk : (v : Datum) → K (List Datum) (m.begin_walk v) (m.begin_walk v)
  pub of_end_walk : (v : Datum) → K (Unit {0}) (change m (m.end_walk v)) (change m (m.end_walk v))
  pub of_pass : (p : Passed) (v : Datum) → K Passed (m.pass p v) (m.pass p v)
  pub of_pass_named : (p : Passed) (name : List ℕ) (v : Datum) → K Passed (m.pass_named p name v) (m.pass_named p name v)
  pub of_pass_all : (p : Passed) (v : Datum) → K Passed (m.pass_all p v) (m.pass_all p v)
  pub of_pass_all_named : (p : Passed) (v : Datum) → K Passed (m.pass_all_named p v) (m.pass_all_named p v)
  pub of_built_in : (x : Predeclared) (p : Passed) → K Datum (m.call_built_in x p) (m.call_built_in x p)
  pub of_rule_function : (function : RuleFunction) (p : Passed) → K Datum (m.call_rule_function function p) (m.call_rule_function function p)
  pub of_cell : (home number : ℕ) (p : Passed) → K Datum (m.call_cell home number p) (m.call_cell home number p)
  pub of_method : (name : List ℕ) (v : Datum) (p : Passed) → K Datum (m.call_method name v p) (m.call_method name v p)
  pub of_enter : (home place : ℕ) → K (Unit {0}) (m.enter home place) (m.enter home place)
  pub of_leave : K (Unit {0}) (change m m.leave) (change m m.leave)

-- the relation holds of what each top-level statement begins with
abbrev pub OfLines : {S : Type 0} → Primitives S → Relation S → Type 0
OfLines m K = (n : ℕ) → K (Unit {0}) (change m (m.at_line n)) (change m (m.at_line n))
