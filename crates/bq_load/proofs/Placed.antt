-- Maps of the places of names, one for each of some modules.
use Rattle.std.proofs.Common.{◌≡◌, sym, subst, ℕ, zero, suc, ◌<◌, List, [], ◌∷◌, ◌++◌, length, map, get_or, Option, Some, None, slice_get, arith}
use Rattle.std.specs.Prelude.{IfSome}
use Rattle.std.specs.declared.alloc.Global.{Global}
use Rattle.std.specs.declared.sync.Arc.{Arc}
use Rattle.bq_resolve_scope.specs.Names.{Name}
use Rattle.bq_resolve_scope.specs.declared.file.ResolvedFile.{ResolvedFile}
use Rattle.bq_load_module.specs.declared.outcome.LoadedModule.{LoadedModule}
use Rattle.bq_load.specs.Views.{module_view, module_views}
use Rattle.bq_load.specs.Places.{Places, HasPlaces, AllPlaced}
use Rattle.bq_load.specs.Imports.{names_in, names_by, names_of}

module _ {M : Type 0} (names : M → List Name) where
  -- one more has its places
  pub next_placed : (ms : List M) (i : ℕ) (m : M) (ps : List (Option Places)) (p : Option Places) → i < length ms → m ≡ get_or ms i m → length ps ≡ i → IfSome p (HasPlaces 0 (names m))
      → AllPlaced (map names ms) ps → AllPlaced (map names ms) (ps ++ p ∷ [])
  next_placed [] i m ps p below is wide has all = absurd (omega (arith, below))
  next_placed (n ∷ ms) zero m [] p below is wide has all = (rw (sym is) has, tt)
  next_placed (n ∷ ms) (suc i) m [] p below is wide has all = absurd (omega (arith, wide))
  next_placed (n ∷ ms) zero m (q ∷ ps) p below is wide has all = absurd (omega (arith, wide))
  next_placed (n ∷ ms) (suc i) m (q ∷ ps) p below is wide has all = (all.0, next_placed ms i m ps p (omega (arith, below)) is (omega (arith, wide)) has all.1)

-- a module that has a map has its places there
module _ (resolved : List (Option ResolvedFile)) where
  pub placed_at : (ms : List (Arc LoadedModule Global)) (ps : List (Option Places)) (i : ℕ) (p : Places) → AllPlaced (names_of resolved ms) ps → slice_get ps i ≡ Some (Some p)
      → HasPlaces 0 (names_by resolved (slice_get (module_views ms) i)) p
  placed_at [] [] i p all has = absurd (cc)
  placed_at [] (q ∷ ps) i p all has = absurd all
  placed_at (m ∷ ms) [] i p all has = absurd (cc)
  placed_at (m ∷ ms) (None ∷ ps) zero p all has = absurd (cc)
  placed_at (m ∷ ms) (Some q ∷ ps) zero p all has =
      let is : q ≡ p = cc in
      subst (λ (z : Places). HasPlaces 0 (names_in resolved (module_view m.value)) z) is all.0
  placed_at (m ∷ ms) (q ∷ ps) (suc i) p all has = placed_at ms ps i p all.1 has
