-- Opposite comparisons differ.
use Rattle.std.proofs.Common.{◌≡◌, ◌∙◌, refl, ap, ℕ, Bool, Ok, Err}
use Rattle.std.specs.Prelude.{not}
use Rattle.std.specs.declared.cmp.Ordering.{Ordering}
use Rattle.std.specs.declared.cmp.Ordering.TheVariants.{Less, Equal, Greater}
use Rattle.std.specs.Ordering.{is_lt, is_le, is_gt, is_ge}
use Rattle.bq_base.specs.declared.fault.EvalFault.{EvalFault}
use Rattle.bq_value.specs.Looked.{Looked}
use Rattle.bq_builtin_machine.specs.Machine.{looked_order}
use Rattle.bq_builtin_operators.specs.Comparing.{negated, by_order, compared}
use Rattle.bq_builtin_laws.specs.Operators.Comparisons.{OppositesDiffer}

abbrev answer : Bool → ℕ → Looked Bool
answer so left = Ok (so, left)

abbrev refusal : EvalFault → Looked Bool
refusal why = Err why

no_answer : (so : Bool) (left : ℕ) (why : EvalFault) → answer so left ≡ refusal why → ⊥
no_answer so left why e = cc

no_refusal : (so : Bool) (left : ℕ) (why : EvalFault) → refusal why ≡ answer so left → ⊥
no_refusal so left why e = cc

-- one test of an order is the other one turned
turned : (test other : Ordering → Bool) → ((o : Ordering) → other o ≡ not (test o)) → (r : Looked Ordering) (so : Bool) (left : ℕ) → by_order test r ≡ Ok (so, left)
    → by_order other r ≡ Ok (not so, left)
turned test other same (Ok (o, k)) so left e = ap (λ (b : Bool). answer b k) (same o) ∙ ap negated e
turned test other same (Err kind) so left e = absurd (no_refusal so left kind e)

still_refused : (test other : Ordering → Bool) (r : Looked Ordering) (why : EvalFault) → by_order test r ≡ Err why → by_order other r ≡ Err why
still_refused test other (Ok (o, k)) why e = absurd (no_answer (test o) k why e)
still_refused test other (Err kind) why e = e

at_least : (o : Ordering) → is_ge o ≡ not (is_lt o)
at_least Less = refl
at_least Equal = refl
at_least Greater = refl

above : (o : Ordering) → is_gt o ≡ not (is_le o)
above Less = refl
above Equal = refl
above Greater = refl

pub opposites : OppositesDiffer
unfolding compared
opposites s n a b = record {
  equal = record { answered = λ so left e. ap negated e; refused = λ why e. ap negated e };
  within = record { answered = λ so left e. ap negated e; refused = λ why e. ap negated e };
  less = record {
    answered = turned is_lt is_ge at_least (looked_order s n a b);
    refused = still_refused is_lt is_ge (looked_order s n a b);
  };
  less_equal = record {
    answered = turned is_le is_gt above (looked_order s n a b);
    refused = still_refused is_le is_gt (looked_order s n a b);
  };
}
