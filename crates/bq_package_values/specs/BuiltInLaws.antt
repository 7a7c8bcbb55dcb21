-- Words of the laws.
use Rattle.std.specs.Prelude.{◌≡◌, ◌≤◌, ℕ, List, Option, Some, None, length, slice_get}
use Rattle.bq_predeclared.specs.declared.predeclared.Predeclared.{Predeclared}
use Rattle.bq_predeclared.specs.Predeclared.{predeclared_named}
use Rattle.bq_resolve_scope.specs.Names.{Name, place_among}
use Rattle.bq_resolve_scope.specs.Universe.{in_build, max_rules}
use Rattle.bq_value.specs.Datum.{Datum, function_of, built_in, built_in_name}
use Rattle.bq_package_values.specs.BuiltIns.{predeclared_value}

-- the names of a schema's rules: none of them twice, none predeclared, and no more than are functions
pub record AreRules (rules : List Name) : Type 0 where
  pub once : (i : ℕ) (name : Name) → slice_get rules i ≡ Some name → place_among name rules ≡ Some i
  pub own : (i : ℕ) (name : Name) → slice_get rules i ≡ Some name → predeclared_named name ≡ None
  pub few : length rules ≤ max_rules

-- what has this name in a BUILD file that doesn't bind it
unfoldable pub function_named : List Name → Name → Option Predeclared
function_named rules name = in_build rules name (predeclared_named name)

-- a built-in function that calls this, and prints the name that stands for it
abbrev pub IsWhatItIsCalled : List Name → Predeclared → Datum → Type 0
IsWhatItIsCalled rules x (built_in f) = (function_of f ≡ x) × (function_named rules (built_in_name f) ≡ Some x)
IsWhatItIsCalled rules x v = Unit {0}

-- a built-in function prints a name that stands for it in a BUILD file, where the rules are those of a schema
abbrev pub EachIsWhatItIsCalled : Type 0
EachIsWhatItIsCalled = (rules : List Name) → AreRules rules → (x : Predeclared) → IsWhatItIsCalled rules x (predeclared_value rules x)
