-- Calls of the functions that declare rules, and of rules (Bazel, "attr", "rule").
use Rattle.std.specs.Prelude.{ℕ, Bool, List, Option, Some, None, Result, Ok, Err, if◌then◌else◌}
use Rattle.bq_base.specs.declared.fault.EvalFault.{EvalFault}
use Rattle.bq_base.specs.declared.fault.EvalFault.TheVariants.{WrongType, BadValue, NotInPackage}
use Rattle.bq_predeclared.specs.declared.rule_function.RuleFunction.{RuleFunction}
use Rattle.bq_predeclared.specs.declared.rule_function.RuleFunction.TheVariants as f
use Rattle.bq_value_datum.specs.Class.{Class}
use Rattle.bq_predeclared.specs.declared.attribute_type.AttributeType.{AttributeType}
use Rattle.bq_value.specs.Datum as datum
use Rattle.bq_value.specs.Datum.{Datum}
use Rattle.bq_value.specs.Contents as contents
use Rattle.bq_value.specs.Contents.{Contents}
use Rattle.bq_value.specs.Cells.{content_at, kind_of}
use Rattle.bq_builtin_machine.specs.Action.{Action, ◌>>=◌, pure, stop, look, on_machine}
use Rattle.bq_builtin_machine.specs.Args.{Passed}
use Rattle.bq_builtin_machine.specs.Cells.{new_content}
use Rattle.bq_builtin_machine.specs.State.{State}
use Rattle.bq_package_values.specs.Host.{HostCalls, ReadDefault}
use Rattle.bq_package_attributes.specs.Attribute.{attribute}
use Rattle.bq_package_attributes.specs.Rule.{class}

-- `attr.NAME(..)`
unfoldable pub new_attribute : ReadDefault → AttributeType → Passed → Action State Datum
new_attribute read type args = look (λ s. attribute read s.store type args) >>= λ x. pure (datum.attribute x)

-- `rule(..)`: a new cell, which holds the attributes
unfoldable pub new_rule : Bool → Passed → Action State Datum
new_rule in_build args = look (λ s. class in_build s.store args) >>= λ x. new_content (contents.rule x)

-- a call of `rule`, or of a function of `attr`, which has a type
abbrev pub declare : ReadDefault → Bool → RuleFunction → Passed → Action State Datum
declare read in_build f.Rule args = new_rule in_build args
declare read in_build (f.Attr type) args = new_attribute read type args

-- a call of a function that declares rules
unfoldable pub call_rule_function : {W : Type 0} → HostCalls W → RuleFunction → Passed → Action (State × W) Datum
call_rule_function host function args = λ s. on_machine (declare (host.read_default s.1) (host.in_build s.1) function args) s

-- ---- rules

-- the attributes of the rule that a cell holds (F40)
abbrev pub class_in : Option Contents → Result Class EvalFault
class_in (Some (contents.rule x)) = Ok x
class_in _ = Err WrongType

-- a rule of a kind is the host's to carry out; one without a kind can't be called (F57)
abbrev pub call_kind : {W : Type 0} → HostCalls W → Option (List ℕ) → Class → Passed → Action (State × W) Datum
call_kind host None x args = on_machine (stop BadValue)
call_kind host (Some kind) x args = host.call_rule kind x args

-- a call of a rule that is the cell `number` of module `home`, with these arguments; F70 while no BUILD file is evaluated
unfoldable pub call_class : {W : Type 0} → HostCalls W → ℕ → ℕ → Class → Passed → Action (State × W) Datum
call_class host home number x args = λ s. (if host.in_build s.1 then call_kind host (kind_of s.0.store home number) x args else on_machine (stop NotInPackage)) s

-- a call of a cell
unfoldable pub call_cell : {W : Type 0} → HostCalls W → ℕ → ℕ → Passed → Action (State × W) Datum
call_cell host home number args = on_machine (look (λ s. class_in (content_at s.store home number))) >>= λ x. call_class host home number x args
