-- Words of the laws.
use Rattle.std.specs.Prelude.{◌≡◌, ◌≢◌, ℕ, Some}
use Rattle.bq_value.specs.Datum.{Datum}
use Rattle.bq_eval_spec.specs.Frame.{Frame, fill}

-- a name that is bound has its value, and every other name what it had
abbrev pub BindingIsOfOneName : Type 0
BindingIsOfOneName = (env : Frame) (slot other : ℕ) (v : Datum) → (fill env slot v slot ≡ Some v) × (other ≢ slot → fill env slot v other ≡ env other)
