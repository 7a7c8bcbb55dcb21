-- The places of names in a list of them, for those who look for many.
use Rattle.std.specs.Prelude.{◌≡◌, ℕ, List, [], ◌∷◌, Option, IfSome, ⊤}
use Rattle.std.specs.Ordering.{nat_cmp}
use Rattle.std.specs.List.{position_from}
use Rattle.std.specs.Str.{bytes_eq}
use Rattle.std.specs.Cmp.Lexicographic.{slice_cmp}
use Rattle.std.specs.BTreeMap.{BTreeMap, get_by}
use Rattle.std.specs.Borrow.{Bor}
use Rattle.bq_resolve_scope.specs.Names.{Name}

-- for each name of a list, the place of its first occurrence
abbrev pub Places : Type 0
Places = BTreeMap (Bor (List ℕ)) ℕ

-- the place that a map has for a name
abbrev pub place_in : Places → Name → Option ℕ
place_in m name = get_by (λ k. slice_cmp nat_cmp name k.now) m

-- the map gives each name the place of its first occurrence in the list, which begins at place `i`, and no other name a place
abbrev pub HasPlaces : ℕ → List Name → Places → Type 0
HasPlaces i ns m = (name : Name) → place_in m name ≡ position_from (bytes_eq name) i ns

-- each map is beside a list of names, and has its places
abbrev pub AllPlaced : List (List Name) → List (Option Places) → Type 0
AllPlaced nss [] = ⊤
AllPlaced [] (m ∷ ms) = ⊥
AllPlaced (ns ∷ nss) (m ∷ ms) = IfSome m (HasPlaces 0 ns) × AllPlaced nss ms
