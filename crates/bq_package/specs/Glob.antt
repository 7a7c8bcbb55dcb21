-- Calls of `glob` (Bazel, Build Encyclopedia, "Functions"): F52, F73, F57, F77, F76.
use Rattle.std.specs.Prelude.{ℕ, pos, Bool, true, false, ◌||◌, List, [], ◌∷◌, Option, Some, None, Result, Ok, Err, if◌then◌else◌}
use Rattle.std.specs.List.{list_any}
use Rattle.std.specs.Ordering.{int_eq}
use Rattle.bq_base.specs.declared.fault.EvalFault.{EvalFault}
use Rattle.bq_base.specs.declared.fault.EvalFault.TheVariants.{BadValue, GlobPattern, GlobEmpty}
use Rattle.bq_value.specs.Datum.{Datum, boolean, int}
use Rattle.bq_value.specs.Cells.{StoreView}
use Rattle.bq_value.specs.Truth.{truth_of}
use Rattle.bq_builtin_machine.specs.Args.{Passed}
use Rattle.bq_builtin_machine.specs.Binding.{bind}
pub use Rattle.bq_label_glob.specs.Matching.{is_nothing}
use Rattle.bq_label_glob.specs.Pattern.{is_pattern}
use Rattle.bq_label_glob.specs.Names.{glob}
use Rattle.bq_package_values.specs.Steps.{and_then, in_turn}
use Rattle.bq_package.specs.declared.glob.GlobRequest.{GlobRequest}
use Rattle.bq_package.specs.Place.{PlaceView}
use Rattle.bq_package_values.specs.Parameters.{argument}
use Rattle.bq_package.specs.Bound.{glob_parameters, texts_of}

-- a pattern, if it is well formed
abbrev pub pattern : List ℕ → Result (List ℕ) EvalFault
pattern text = if is_pattern text then Ok text else Err GlobPattern

-- texts as patterns (F77)
unfoldable pub patterns : List (List ℕ) → Result (List (List ℕ)) EvalFault
patterns texts = in_turn pattern [] texts

-- directories are never given, and asking for them is F57 (ours)
abbrev pub excludes_directories : Option Datum → Bool
excludes_directories None = true
excludes_directories (Some (int n)) = int_eq n (pos 1)
excludes_directories (Some (boolean b)) = b
excludes_directories (Some _) = false

-- whether nothing may be given: by the truth of the argument
abbrev pub allows_empty : StoreView → Option Datum → Bool
allows_empty store None = true
allows_empty store (Some v) = truth_of store v

-- what `glob` is asked for, if its patterns are well formed
unfoldable pub request_by : Bool → Bool → List (List ℕ) → List (List ℕ) → Result GlobRequest EvalFault
request_by excludes allows include exclude =
    if excludes then and_then (patterns include) (λ is. and_then (patterns exclude) (λ es. Ok (record { include = is; exclude = es; allows_empty = allows })))
    else Err BadValue

-- what a call asks for, of the arguments of its parameters
unfoldable pub request_of : StoreView → List (Option Datum) → Result GlobRequest EvalFault
request_of store vs =
    and_then (texts_of store (argument vs 0)) (λ include.
    and_then (texts_of store (argument vs 1)) (λ exclude.
    request_by (excludes_directories (argument vs 2)) (allows_empty store (argument vs 3)) include exclude))

-- the names of the package's files that some pattern matches and no excluded one
abbrev pub names_of : PlaceView → List (List ℕ) → List (List ℕ) → List (List ℕ)
names_of p include exclude = glob p.paths p.packages p.own include exclude

-- the pattern matches no file of the package
abbrev pub is_idle : PlaceView → List ℕ → Bool
is_idle p pattern = is_nothing (names_of p (pattern ∷ []) [])

-- F76 where nothing may not be given, and some pattern matches no file, or nothing is given
unfoldable pub found : PlaceView → GlobRequest → Result (List (List ℕ)) EvalFault
found p r =
    if r.allows_empty then Ok (names_of p r.include r.exclude)
    else (if list_any (is_idle p) r.include || is_nothing (names_of p r.include r.exclude) then Err GlobEmpty else Ok (names_of p r.include r.exclude))

-- the names that a call gives
unfoldable pub globbed : PlaceView → StoreView → Passed → Result (List (List ℕ)) EvalFault
globbed p store passed = and_then (bind glob_parameters passed) (λ b. and_then (request_of store b.values) (found p))
