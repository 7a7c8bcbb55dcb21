-- Tables have a name for each of their methods.
use Rattle.std.proofs.Common.{◌≡◌, ◌∙◌, sym, refl, ℕ, Bool, true, false, not, ◌&&◌, List, [], ◌∷◌, inl, inr}
use Rattle.std.specs.List.{IsDistinct, AllByRecursion, list_any}
use Rattle.std.specs.Map.{keys_of}
use Rattle.std.specs.Str.{bytes_eq}
use Rattle.std.specs.Cmp.Lexicographic.{nat_list_eq_equiv}
use Rattle.std.proofs.lemmas.Bool.{cases_Bool, false≢true}
use Rattle.std.proofs.lemmas.Map.Entries.{lookup_from_place}
use Rattle.bq_builtin_methods.specs.Methods.{string_methods, list_methods, dict_methods}
use Rattle.bq_builtin_methods.specs.TableLaws.{NamesItsMethods}

-- the test of it, which computes
abbrev are_distinct : List (List ℕ) → Bool
are_distinct [] = true
are_distinct (x ∷ xs) = not (list_any (bytes_eq x) xs) && are_distinct xs

none_equal : (x : List ℕ) (xs : List (List ℕ)) → list_any (bytes_eq x) xs ≡ false → AllByRecursion (λ y. bytes_eq x y ≡ false) xs
none_equal x [] h = tt
none_equal x (y ∷ ys) h = elim (cases_Bool (bytes_eq x y)) [
  | inl is ↦ absurd (false≢true (sym h ∙ rw is refl))
  | inr apart ↦ (apart, none_equal x ys (sym (rw apart refl) ∙ h))
]

distinct : (xs : List (List ℕ)) → are_distinct xs ≡ true → IsDistinct bytes_eq xs
unfolding IsDistinct
distinct [] h = tt
distinct (x ∷ xs) h = elim (cases_Bool (list_any (bytes_eq x) xs)) [
  | inl again ↦ absurd (false≢true (sym (rw again refl) ∙ h))
  | inr once ↦ (none_equal x xs once, distinct xs (sym (rw once refl) ∙ h))
]

named : {M : Type 0} (table : List (List ℕ × M)) → are_distinct (keys_of table) ≡ true → NamesItsMethods table
named table h = record {
  distinct = distinct (keys_of table) h;
  found = λ i name method at. lookup_from_place nat_list_eq_equiv table i name method (distinct (keys_of table) h) at;
}

pub strings_named : NamesItsMethods string_methods
unfolding string_methods
strings_named = named string_methods refl

pub lists_named : NamesItsMethods list_methods
unfolding list_methods
lists_named = named list_methods refl

pub dicts_named : NamesItsMethods dict_methods
unfolding dict_methods
dicts_named = named dict_methods refl
