-- Errors of one kind as errors of another: what a call gives in the one it gives in the other.
use Rattle.std.proofs.Common.{◌≡◌, ◌∙◌, Result, Ok, Err, refl, sym, ap}
use Rattle.bq_base.specs.declared.fault.Fault.{Fault}
use Rattle.bq_base.specs.declared.fault.SourceErr.{SourceErr}
use Rattle.bq_base.specs.declared.fault.SourceErr.TheVariants.{Bad, Memory}
use Rattle.bq_base.specs.Fault.{fault_as, or_fault_as, err_as}

module _ {B K J : Type 0} (kind : K → J) where
  -- where a definition is refused for the reason of an error, it is, as one of the other kind, for that of the other error
  pub bad_as : (e : SourceErr K) (joined : SourceErr J) → joined ≡ err_as kind e → (definition : Result B (Fault K)) → ((why : Fault K) → e ≡ Bad why → definition ≡ Err why)
      → (why : Fault J) → joined ≡ Bad why → or_fault_as kind definition ≡ Err why
  bad_as (Bad at) joined is definition gives why e =
      let same : fault_as kind at ≡ why = let bads : Bad (fault_as kind at) ≡ Bad why = sym is ∙ e in cc in
      ap (or_fault_as kind) (gives at refl) ∙ ap (λ (z : Fault J). Err z) same
  bad_as Memory joined is definition gives why e = absurd (let bads : Memory ≡ Bad why = sym is ∙ e in let no : ⊥ = cc in no)
