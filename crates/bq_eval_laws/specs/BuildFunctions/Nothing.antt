-- What it is that a call of `glob` gives nothing (Bazel, "glob": allow_empty).
use Rattle.std.specs.Prelude.{◌≡◌, ℕ, List, [], ◌∷◌}
use Rattle.std.specs.List.{Contains}
use Rattle.bq_package.specs.declared.glob.GlobRequest.{GlobRequest}
use Rattle.bq_package.specs.Glob.{names_of}
use Rattle.bq_package.specs.Place.{PlaceView}

-- why a call of `glob` gives nothing: for one of its patterns, or for all of them without what is excluded
pub data GivesNothing (p : PlaceView) (r : GlobRequest) : Type 0 where
  -- one of the patterns matches no file of the package, whatever the others match
  idle : (pattern : List ℕ) → Contains r.include pattern → names_of p (pattern ∷ []) [] ≡ [] → GivesNothing p r
  -- nothing is left of what they match
  empty : names_of p r.include r.exclude ≡ [] → GivesNothing p r
