use Rattle.std.proofs.Common.{◌≡◌, ℕ, None, vec_len}
use Rattle.bq_load_order.specs.Again.{number_at}
use Rattle.bq_load_order.proofs.keep.no_numbers.Given as goal

abbrev pub invariant-loop : goal.invariant-loop
invariant-loop l = (vec_len l.numbers ≡ l.counter) × ((m : ℕ) → number_at l.numbers.items m ≡ None)
