-- The attributes of a rule, place by place.
use Rattle.std.proofs.Common.{◌≡◌, ◌∙◌, ap, refl, ℕ, ◌+◌, Bool, true, false, List, Some, drop, slice_get}
use Rattle.std.specs.List.{list_all}
use Rattle.bq_value_datum.specs.Class.{Class}
use Rattle.bq_value_datum.specs.declared.attribute.Attribute.{Attribute}
use Rattle.bq_value.proofs.Lookups.{drop_found}

module _ (f : List ℕ × Attribute → Bool) (x : Class) (n : ℕ) (e : List ℕ × Attribute) (past : list_all f x ≡ list_all f (drop n x)) (there : slice_get x n ≡ Some e) where
  -- the attribute at the place fails, and so do all
  pub one_fails : f e ≡ false → list_all f x ≡ false
  one_fails h = past ∙ ap (list_all f) (drop_found x n e there) ∙ (rw h refl)

  -- it passes, and those after it are left
  pub one_passes : f e ≡ true → list_all f x ≡ list_all f (drop (n + 1) x)
  one_passes h = past ∙ ap (list_all f) (drop_found x n e there) ∙ (rw h refl)
