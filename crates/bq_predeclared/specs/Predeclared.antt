-- The predeclared names (Starlark specification, "Built-in constants and functions"; Bazel, Build Encyclopedia, "Functions"), but for
-- those of rules and of the functions that declare rules.
use Rattle.std.specs.Prelude.{ℕ, suc, List, [], ◌∷◌, Bool, false, Option, Some, None, codes, slice_get, bytes_eq, if◌then◌else◌}
use Rattle.bq_predeclared.specs.declared.predeclared.Predeclared.{Predeclared}
use Rattle.bq_predeclared.specs.declared.predeclared.Predeclared.TheVariants as p
use Rattle.bq_predeclared.specs.declared.host_function.HostFunction.TheVariants as host
use Rattle.bq_predeclared.specs.HostFunctions.{host_function_name}

-- the names of the built-in functions of the language, each at the place of its function
abbrev pub built_in_names : List (List ℕ)
built_in_names =
    codes "all" ∷ codes "any" ∷ codes "bool" ∷ codes "dict" ∷ codes "enumerate" ∷ codes "fail" ∷ codes "int" ∷ codes "len" ∷ codes "list"
    ∷ codes "max" ∷ codes "min" ∷ codes "print" ∷ codes "range" ∷ codes "repr" ∷ codes "reversed" ∷ codes "select" ∷ codes "sorted"
    ∷ codes "str" ∷ codes "tuple" ∷ codes "type" ∷ codes "zip" ∷ []

-- the constants and the build functions
abbrev pub others : List Predeclared
others =
    p.None ∷ p.True ∷ p.False ∷ p.Host host.Glob ∷ p.Host host.PackageName ∷ p.Host host.Package ∷ p.Host host.Licenses
    ∷ p.Host host.ExportsFiles ∷ p.Host host.PackageGroup ∷ []

-- the name that it is looked up by, in the language or as a build function; the functions that declare rules aren't looked up so
abbrev pub name_of : Predeclared → Option (List ℕ)
name_of p.None = Some (codes "None")
name_of p.True = Some (codes "True")
name_of p.False = Some (codes "False")
name_of (p.BuiltIn place) = slice_get built_in_names place
name_of (p.Host f) = host_function_name f
name_of (p.RuleFunction f) = None

-- a predeclared value has this name
abbrev pub is_named : List ℕ → Predeclared → Bool
is_named name x = elim (name_of x) [ None ↦ false | Some own ↦ bytes_eq name own ]

-- the place of the name among these, of which the first has this place
unfoldable pub place_from : ℕ → List ℕ → List (List ℕ) → Option ℕ
place_from place name [] = None
place_from place name (x ∷ xs) = if bytes_eq name x then Some place else place_from (suc place) name xs

-- the first value of this name
unfoldable pub first_named : List ℕ → List Predeclared → Option Predeclared
first_named name [] = None
first_named name (x ∷ xs) = if is_named name x then Some x else first_named name xs

-- what the name stands for
unfoldable pub predeclared_named : List ℕ → Option Predeclared
predeclared_named name = elim (place_from 0 name built_in_names) [ Some place ↦ Some (p.BuiltIn place) | None ↦ first_named name others ]
