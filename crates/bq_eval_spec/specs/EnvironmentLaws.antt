-- Words of the laws.
use Rattle.std.specs.Prelude.{◌≡◌, ◌≢◌, Some}
use Rattle.bq_resolve_scope.specs.Names.{Name}
use Rattle.bq_value.specs.Datum.{Datum}
use Rattle.bq_eval_spec.specs.Names.{Env, bind}

-- a name that is bound has its value, and every other name what it had
abbrev pub BindingIsOfOneName : Type 0
BindingIsOfOneName = (env : Env) (name other : Name) (v : Datum) → (bind env name v name ≡ Some (Some v)) × (other ≢ name → bind env name v other ≡ env other)
