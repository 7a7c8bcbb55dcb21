-- Modules that were read at once: what was read of a label's place stays so while labels are added.
use Rattle.std.proofs.Common.{◌≡◌, ◌∙◌, ℕ, List, [], ◌∷◌, ◌++◌, Option, None, Some, Result, Ok, Err, zero, suc, slice_get, sym, subst, All, append-nil}
use Rattle.std.specs.Prelude.{IfOk, IfSome}
use Rattle.std.specs.declared.alloc.AllocError.{AllocError}
use Rattle.bq_label.specs.Label.{LabelParts}
use Rattle.bq_label_set.specs.Labels.{with_labels}
use Rattle.bq_label_set.proofs.Added.{numbers_stay}
use Rattle.bq_load_front.specs.Inputs.{InputParts}
use Rattle.bq_load_discover.specs.declared.modules.Module.{Module}
use Rattle.bq_load_discover.specs.declared.waves.Reading.{Reading}
use Rattle.bq_load_discover.specs.Exploring.{IsModuleAt}
use Rattle.bq_load_discover.specs.Waves.{IsReading, Grows}

still_there : {X : Type 0} (xs ys : List X) (n : ℕ) (x : X) → slice_get xs n ≡ Some x → slice_get (xs ++ ys) n ≡ Some x
still_there [] ys n x e = absurd (cc)
still_there (z ∷ xs) ys zero x e = e
still_there (z ∷ xs) ys (suc n) x e = still_there xs ys n x e

-- labels that are added come last
pub grows : (ls now more : List LabelParts) → now ≡ with_labels ls more → Grows ls now
grows ls now more e = let g = numbers_stay ls more in (g.0, e ∙ g.1)

pub grows_none : (ls : List LabelParts) → Grows ls ls
grows_none ls = ([], sym (append-nil ls))

-- the next place is after those that are read
pub at_next : (inputs : InputParts) (ls : List LabelParts) (place n : ℕ) (m : Module) → place ≡ n → IsModuleAt inputs ls place m → IsModuleAt inputs ls n m
at_next inputs ls place n m e at = subst (λ (z : ℕ). IsModuleAt inputs ls z m) e at

module _ (inputs : InputParts) (ls now : List LabelParts) (g : Grows ls now) where
  pub still_at : (n : ℕ) (m : Module) → IsModuleAt inputs ls n m → IsModuleAt inputs now n m
  still_at n m at = (at.0, subst (λ (z : List LabelParts). slice_get z n ≡ Some at.0) (sym g.1) (still_there ls g.0 n at.0 at.1), at.2)

  if_some : (n : ℕ) (o : Option Module) → IfSome o (IsModuleAt inputs ls n) → IfSome o (IsModuleAt inputs now n)
  if_some n None h = h
  if_some n (Some m) h = still_at n m h

  if_ok : (n : ℕ) (r : Result (Option Module) AllocError) → IfOk r (λ o. IfSome o (IsModuleAt inputs ls n)) → IfOk r (λ o. IfSome o (IsModuleAt inputs now n))
  if_ok n (Err e) h = h
  if_ok n (Ok o) h = if_some n o h

  pub still_read : (rs : List Reading) → All (IsReading inputs ls) rs → All (IsReading inputs now) rs
  still_read rs h k d lt = if_ok _ _ (h k d lt)
