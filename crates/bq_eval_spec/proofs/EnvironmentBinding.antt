-- Environments, one name at a time.
use Rattle.std.proofs.Common.{◌≡◌, ◌≢◌, Bool, true, false, Option, Some, bytes_eq, refl}
use Rattle.std.specs.Prelude.{if◌then◌else◌}
use Rattle.std.proofs.lemmas.Slice.Eq.{bytes_eq-Decides}
use Rattle.bq_resolve_scope.specs.Names.{Name}
use Rattle.bq_value.specs.Datum.{Datum}
use Rattle.bq_eval_spec.specs.Names.{bind}
use Rattle.bq_eval_spec.specs.EnvironmentLaws.{BindingIsOfOneName}

others : (v : Datum) (rest : Option (Option Datum)) (name other : Name) (t : Bool) → bytes_eq other name ≡ t → other ≢ name → (if t then Some (Some v) else rest) ≡ rest
others v rest name other true e apart = absurd (apart ((bytes_eq-Decides other name).0 e))
others v rest name other false e apart = refl

pub one_name : BindingIsOfOneName
unfolding bind
one_name env name other v = (rw ((bytes_eq-Decides name name).1 refl) refl, λ apart. others v (env other) name other (bytes_eq other name) refl apart)
