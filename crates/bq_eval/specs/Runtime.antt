-- What the rules of the language ask for, on the state of a machine, beside which a host keeps something: the operators, walks, built-in
-- functions and methods of the language, the functions that declare rules, and the functions of the host.
use Rattle.std.specs.Prelude.{◌≡◌, List, refl}
use Rattle.bq_value.specs.Truth.{truth_of}
use Rattle.bq_resolve_scope.specs.Names.{Name}
use Rattle.bq_builtin_machine.specs.State.{State}
use Rattle.bq_builtin_machine.specs.Action.{on_machine}
use Rattle.bq_builtin_machine.specs.Machine as machine
use Rattle.bq_builtin_machine.specs.Cells as cells
use Rattle.bq_builtin_machine.specs.Iteration as iteration
use Rattle.bq_builtin_machine.specs.Calls as calls
use Rattle.bq_builtin_operators.specs.Operate as operate
use Rattle.bq_builtin_augment.specs.InPlace as in_place
use Rattle.bq_builtin_methods.specs.Call as methods
use Rattle.bq_eval_spec.specs.Primitives.{Primitives}
use Rattle.bq_package_values.specs.BuiltIns.{predeclared_value}
use Rattle.bq_package_attributes.specs.Call as rules
use Rattle.bq_eval.specs.Making as making
use Rattle.bq_eval.specs.Passing as passing
use Rattle.bq_eval.specs.Unpacking as unpacking
use Rattle.bq_eval.specs.Calling.{HostCalls, call_built_in}

-- a change of the machine, which leaves alone what a host keeps
abbrev pub of_machine : {W : Type 0} → (State → State) → State × W → State × W
of_machine f s = (f s.0, s.1)

-- where the schema's rules have these names
unfoldable pub primitives : {W : Type 0} → List Name → HostCalls W → Primitives (State × W)
primitives names host = record {
  machine = λ s. s.0;
  step = λ count. on_machine (machine.step count);
  at_line = λ line. of_machine (λ s. record s { line = line });
  truth = λ v s. truth_of s.0.store v;
  predeclared = predeclared_value names;
  unary = λ operator v. on_machine (operate.unary operator v);
  binary = λ operator v w. on_machine (operate.binary operator v w);
  compare = λ operator v w. on_machine (operate.compare operator v w);
  augment = λ operator v w. on_machine (in_place.augment operator v w);
  index = λ v i. on_machine (operate.index v i);
  set_index = λ v i w. on_machine (in_place.set_index v i w);
  slice = λ v start stop step. on_machine (operate.slice v start stop step);
  make = λ content. on_machine (cells.new_content content);
  add = λ content v. on_machine (making.add content v);
  add_pair = λ content k v. on_machine (making.add_pair content k v);
  put_pair = λ content k v. on_machine (making.put_pair content k v);
  parts = λ count v. on_machine (unpacking.parts count v);
  begin_walk = λ v. on_machine (iteration.begin_walk v);
  end_walk = λ v. of_machine (iteration.end_walk v);
  pass = λ args v. on_machine (passing.pass args v);
  pass_named = λ args name v. on_machine (passing.pass_named args name v);
  pass_all = λ args v. on_machine (passing.pass_all args v);
  pass_all_named = λ args v. on_machine (passing.pass_all_named args v);
  call_built_in = call_built_in host;
  call_rule_function = rules.call_rule_function host;
  call_cell = rules.call_cell host;
  call_method = λ name v args. on_machine (methods.call_method name v args);
  enter = λ home place. on_machine (calls.enter home place);
  leave = of_machine calls.leave;
}

-- the machine's state, as the operations see it, is the first part of the state
pub machine_of : {W : Type 0} (rules : List Name) (host : HostCalls W) (s : State × W) → (primitives rules host).machine s ≡ s.0
unfolding primitives
machine_of rules host s = refl
