-- What the threads of a pool promise is what the pool's outcomes make of it, and none of them was refused memory.
use Rattle.std.proofs.Common.{◌≡◌, ℕ, ◌+◌, ◌<◌, ◌≤◌, List, Result, Ok, All, IsOk, is_ok, length, take, get_or, sym, ap, subst, arith}
use Rattle.std.proofs.lemmas.List.{take_more, take_all}
use Rattle.std.proofs.lemmas.List.Elements.{All-push}
use Rattle.std.specs.declared.alloc.AllocError.{AllocError}
use Rattle.bq_board.specs.Graph.{Loads}
use Rattle.bq_load_order.specs.Outcome.{outcome}
use Rattle.bq_load_workers.specs.Brought.{IsAnswer}
use Rattle.bq_load_workers.specs.declared.pool.WorkDone.{WorkDone}

module _ {X M N V F : Type 0} (see : M → V) (see_fault : N → F) (means : X → ℕ → List V → Result V F) where
  -- an answer by one evaluator and graph is one by others that are the same
  pub answer_by : (x y : X) (p q : Loads) → x ≡ y → p ≡ q → (r : Result (WorkDone M N) AllocError) → IsAnswer see see_fault (outcome (means x) p) (length p) r → IsAnswer see see_fault (outcome (means y) q) (length q) r
  answer_by x y p q a b r h = subst (λ (z : X). IsAnswer see see_fault (outcome (means z) q) (length q) r) a (subst (λ (o : Loads). IsAnswer see see_fault (outcome (means x) o) (length o) r) b h)

-- the answers that were looked at are no refusals
module _ {T E : Type 0} (rs : List (Result T E)) where
  pub had_none : All IsOk (take 0 rs)
  had_none k d h = absurd (omega arith)

  pub had_more : (i : ℕ) (r : Result T E) (x : T) → i < length rs → r ≡ get_or rs i r → r ≡ Ok x → All IsOk (take i rs) → All IsOk (take (i + 1) rs)
  had_more i r x h read is had = let one : IsOk r = ap is_ok is in
      subst (All IsOk) (sym (take_more rs i r h)) (All-push IsOk (take i rs) (get_or rs i r) had (subst IsOk read one))

  pub had_all : (i : ℕ) → length rs ≤ i → All IsOk (take i rs) → All IsOk rs
  had_all i h had = subst (All IsOk) (take_all i rs h) had
