-- Frames, one name at a time.
use Rattle.std.proofs.Common.{◌≡◌, ◌≢◌, ℕ, ◌==◌, Bool, Option, Some, if◌then◌else◌, refl, ap, eq-eqb, ne_eqb}
use Rattle.bq_value.specs.Datum.{Datum}
use Rattle.bq_eval_spec.specs.Frame.{fill}
use Rattle.bq_eval_spec.specs.FrameLaws.{BindingIsOfOneName}

own : (v : Datum) (rest : Option Datum) (slot : ℕ) → (if slot == slot then Some v else rest) ≡ Some v
own v rest slot = let f : Bool → Option Datum = λ b. if b then Some v else rest in ap f (eq-eqb slot slot refl)

others : (v : Datum) (rest : Option Datum) (slot other : ℕ) → other ≢ slot → (if other == slot then Some v else rest) ≡ rest
others v rest slot other apart = let f : Bool → Option Datum = λ b. if b then Some v else rest in ap f (ne_eqb other slot apart)

pub one_name : BindingIsOfOneName
unfolding fill
one_name env slot other v = (own v (env slot) slot, λ apart. others v (env other) slot other apart)
