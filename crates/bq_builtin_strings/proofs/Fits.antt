-- What a checked operation answers.
use Rattle.std.proofs.Common.{◌≡◌, ◌<◌, ◌≤◌, ◌^◌, ◌∙◌, ℕ, ℤ, sym, ap, arith, to_z, true, Option, Some, None, Ok, Err, refl, inl, inr}
use Rattle.std.proofs.lemmas.Int.{to_z_pos}
use Rattle.std.proofs.lemmas.Bool.{cases_Bool, ltb-true, lt-ltb}
use Rattle.std.specs.Prelude.{pos, negsuc, FitsSigned, ok_or}
use Rattle.std.specs.Int.{w64}
use Rattle.bq_base.specs.declared.fault.EvalFault.TheVariants.{Overflow}
use Rattle.bq_builtin_strings.specs.Integer.{fits, fitted, Fitted}

within : (z : ℤ) → fits z ≡ true → FitsSigned w64 z
within (pos n) e = record { sfits = ltb-true _ _ e }
within (negsuc n) e = record { sfits = ltb-true _ _ e }

found : (z : ℤ) → FitsSigned w64 z → fits z ≡ true
found (pos n) h = lt-ltb _ _ h.sfits
found (negsuc n) h = lt-ltb _ _ h.sfits

pub fitted_some : (z : ℤ) → FitsSigned w64 z → fitted z ≡ Ok z
unfolding fitted
fitted_some z h = rw (found z h) refl

pub fitted_none : (z : ℤ) → (FitsSigned w64 z → ⊥) → fitted z ≡ Err Overflow
unfolding fitted
fitted_none z h = elim (cases_Bool (fits z)) [ inl y ↦ absurd (h (within z y)) | inr n ↦ rw n refl ]

-- a count
pub count_fits : (n : ℕ) → n ≤ 9223372036854775807 → Ok (to_z w64 n) ≡ fitted (pos n)
count_fits n l = let small : n < 2 ^ 63 = omega (arith, l) in ap Ok (to_z_pos w64 n small) ∙ sym (fitted_some (pos n) (record { sfits = small }))

pub count_is_too_great : (n : ℕ) → 9223372036854775807 < n → Err Overflow ≡ fitted (pos n)
count_is_too_great n l = sym (fitted_none (pos n) (λ f. let small : n < 2 ^ 63 = f.sfits in omega (arith, l, small)))

pub fitted_is : (answer : Option ℤ) (z : ℤ) → Fitted answer z → ok_or answer Overflow ≡ fitted z
fitted_is None z h = rw (fitted_none z h) refl
fitted_is (Some v) z h = rw (fitted_some z h.0, h.1) refl
