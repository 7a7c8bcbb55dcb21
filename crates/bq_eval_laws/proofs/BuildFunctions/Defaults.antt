-- Defaults are taken as calls of rules take values: another type alone is another fault.
use Rattle.std.proofs.Common.{◌≡◌, ◌∙◌, Result, Ok, ap}
use Rattle.bq_base.specs.declared.fault.EvalFault.{EvalFault}
use Rattle.bq_base.specs.declared.fault.EvalFault.TheVariants as f
use Rattle.bq_predeclared.specs.declared.attribute_type.AttributeType.{AttributeType}
use Rattle.bq_value_datum.specs.declared.attribute_value.AttributeValue.{AttributeValue}
use Rattle.bq_value.specs.Datum.{Datum}
use Rattle.bq_value.specs.Cells.{StoreView}
use Rattle.bq_package_values.specs.declared.written.Written.{Written}
use Rattle.bq_package_values.specs.Steps.{and_then}
use Rattle.bq_package_values.specs.Types.{written_as, IsWritten, each_type_reads}
use Rattle.bq_package_values.specs.Values.{typed, value_as}
use Rattle.bq_package.specs.Calls.{own_of, packages_of, default_value}
use Rattle.bq_eval_laws.specs.BuildFunctions.Defaults.{DefaultsAreTakenAsValues}
use Rattle.bq_package_values.proofs.Steps.{both_ok}

-- what a value is written as doesn't depend on the fault of other types
ok_too : (why kind : EvalFault) (store : StoreView) (type : AttributeType) (v : Datum) (next : Written → Result AttributeValue EvalFault) (x : AttributeValue)
    → and_then (written_as why store type v) next ≡ Ok x → and_then (written_as kind store type v) next ≡ Ok x
ok_too why kind store type v next x h =
    let r = both_ok (written_as why store type v) next x h in
    let is : IsWritten store v type r.0 = ((each_type_reads why store type v).found r.0).0 r.1 in
    ap (λ (q : Result Written EvalFault). and_then q next) (((each_type_reads kind store type v).found r.0).1 is) ∙ r.2

pub defaults_are_taken_as_values : DefaultsAreTakenAsValues
unfolding default_value value_as
defaults_are_taken_as_values held store type v x = (
  ok_too f.WrongType f.AttributeType store type v (typed (own_of held) (packages_of held)) x,
  ok_too f.AttributeType f.WrongType store type v (typed (own_of held) (packages_of held)) x,
)
