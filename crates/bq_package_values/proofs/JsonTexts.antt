-- The texts of lists and of objects are those of the values.
use Rattle.std.proofs.Common.{◌≡◌, ℕ, List, [], ◌∷◌, ◌++◌, map, refl, ap, ◌∙◌}
use Rattle.std.specs.List.{flat_map}
use Rattle.std.proofs.lemmas.List.{append_assoc}
use Rattle.bq_package_values.specs.JsonValue.{Json, array, object, items_of, Named, fields_of, member_of, value_text, items_text, more_items, fields_text, more_fields}
use Rattle.bq_package_values.specs.JsonString.{json_string}
use Rattle.bq_package_values.specs.JsonParts.{Member, comma, json_array, json_key, json_object, member_text}

module _ {X : Type 0} (text : X → List ℕ) (value : X → Json) (same : (x : X) → text x ≡ value_text (value x)) where
  further : (xs : List X) → flat_map (λ x. comma ++ text x) xs ++ 93 ∷ [] ≡ more_items (items_of value xs)
  further [] = refl
  further (x ∷ xs) =
      append_assoc (comma ++ text x) (flat_map (λ x. comma ++ text x) xs) (93 ∷ [])
      ∙ ap (λ t. 44 ∷ (t ++ (flat_map (λ x. comma ++ text x) xs ++ 93 ∷ []))) (same x)
      ∙ ap (λ t. 44 ∷ (value_text (value x) ++ t)) (further xs)

  pub array_text : (xs : List X) → json_array text xs ≡ value_text (array (items_of value xs))
  unfolding json_array
  array_text [] = refl
  array_text (x ∷ xs) =
      ap (λ t. 91 ∷ t)
      (append_assoc (text x) (flat_map (λ x. comma ++ text x) xs) (93 ∷ [])
      ∙ ap (λ t. t ++ (flat_map (λ x. comma ++ text x) xs ++ 93 ∷ [])) (same x)
      ∙ ap (λ t. value_text (value x) ++ t) (further xs))

-- a key and its value, and then more
member_and : (n : Named) (more : List ℕ) → member_text (member_of n) ++ more ≡ json_string n.key ++ (58 ∷ (value_text n.value ++ more))
member_and n more =
    append_assoc (json_key n.key) (value_text n.value) more ∙ append_assoc (json_string n.key) (58 ∷ []) (value_text n.value ++ more)

further_members : (ns : List Named) → flat_map (λ m. comma ++ member_text m) (map member_of ns) ++ 125 ∷ [] ≡ more_fields (fields_of ns)
further_members [] = refl
further_members (n ∷ ns) =
    let rest = flat_map (λ m. comma ++ member_text m) (map member_of ns) in
    append_assoc (comma ++ member_text (member_of n)) rest (125 ∷ [])
    ∙ ap (λ t. 44 ∷ t) (member_and n (rest ++ 125 ∷ []) ∙ ap (λ t. json_string n.key ++ (58 ∷ (value_text n.value ++ t))) (further_members ns))

pub object_text : (ns : List Named) → json_object (map member_of ns) ≡ value_text (object (fields_of ns))
unfolding json_object
object_text [] = refl
object_text (n ∷ ns) =
    let rest = flat_map (λ m. comma ++ member_text m) (map member_of ns) in
    ap (λ t. 123 ∷ t)
    (append_assoc (member_text (member_of n)) rest (125 ∷ [])
    ∙ member_and n (rest ++ 125 ∷ [])
    ∙ ap (λ t. json_string n.key ++ (58 ∷ (value_text n.value ++ t))) (further_members ns))
