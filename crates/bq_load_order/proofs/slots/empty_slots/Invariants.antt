use Rattle.std.proofs.Common.{◌≡◌, ℕ, None, vec_len, get_or}
use Rattle.bq_load_order.proofs.slots.empty_slots.Given as goal

abbrev pub invariant-loop : goal.invariant-loop
invariant-loop g l = (vec_len l.slots ≡ l.counter) × ((m : ℕ) → get_or l.slots.items m None ≡ None)
