-- What holds of each row of the table holds of the function that a name has.
use Rattle.std.proofs.Common.{◌≡◌, ◌∙◌, ℕ, zero, suc, List, [], ◌∷◌, Bool, true, false, Some, None, refl, sym, ap, subst, cond}
use Rattle.std.specs.Prelude.{◌&&◌}
use Rattle.std.specs.List.{list_all}
use Rattle.std.specs.Map.{lookup}
use Rattle.std.specs.Str.{bytes_eq}
use Rattle.std.proofs.lemmas.Bool.{false≢true}
use Rattle.bq_query_function.specs.declared.signature.QueryArgumentKind.{QueryArgumentKind}
use Rattle.bq_query_function.specs.declared.signature.QueryArgumentKind.TheVariants as kind
use Rattle.bq_query_function.specs.Functions.{Row, functions}
use Rattle.bq_query_function.specs.Calls.{function_named}

-- one or two
abbrev pub is_one_or_two : ℕ → Bool
is_one_or_two zero = false
is_one_or_two (suc zero) = true
is_one_or_two (suc (suc zero)) = true
is_one_or_two (suc (suc (suc n))) = false

-- after so many sets there are one or two in all, and a number of edges comes last
abbrev pub has_sets : ℕ → List QueryArgumentKind → Bool
has_sets n [] = is_one_or_two n
has_sets n (kind.Query ∷ ks) = has_sets (suc n) ks
has_sets n (kind.Pattern ∷ ks) = has_sets n ks
has_sets n (kind.Attribute ∷ ks) = has_sets n ks
has_sets n (kind.Number ∷ []) = is_one_or_two n
has_sets n (kind.Number ∷ k ∷ ks) = false

-- a row takes one set or two
abbrev pub is_row : Row → Bool
is_row row = has_sets 0 row.parameters

-- what passes a test in each row of a table passes it where it is found
found_by : (b : Bool) (value row : Row) (rest : List (List ℕ × Row)) (name : List ℕ → Bool) → is_row value ≡ true → (lookup name rest ≡ Some row → is_row row ≡ true)
    → cond b (Some value) (lookup name rest) ≡ Some row → is_row row ≡ true
found_by true value row rest name is inner h =
    let same : value ≡ row = cc in
    subst (λ (r : Row). is_row r ≡ true) same is
found_by false value row rest name is inner h = inner h

both : (a b : Bool) → (a && b) ≡ true → (a ≡ true) × (b ≡ true)
both true b h = (refl, h)
both false b h = absurd (false≢true h)

found : (table : List (List ℕ × Row)) (name : List ℕ → Bool) (row : Row) → list_all (λ (e : List ℕ × Row). is_row e.1) table ≡ true → lookup name table ≡ Some row → is_row row ≡ true
found [] name row all h = cc
found (e ∷ table) name row all h =
    let here = both (is_row e.1) (list_all (λ (e : List ℕ × Row). is_row e.1) table) all in
    found_by (name e.0) e.1 row table name here.0 (found table name row here.1) h

pub named_is_row : (name : List ℕ) (row : Row) → function_named name ≡ Some row → is_row row ≡ true
named_is_row name row h = found functions (bytes_eq name) row refl h
