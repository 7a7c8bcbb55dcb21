-- The type that a name finds has the name.
use Rattle.std.proofs.Common.{◌≡◌, ℕ, Bool, true, false, List, [], ◌∷◌, Option, Some, refl, sym, subst, bytes_eq, cond}
use Rattle.std.specs.List.{find}
use Rattle.std.proofs.lemmas.Slice.Eq.{bytes_eq-Decides}
use Rattle.bq_predeclared.specs.AttributeType.{types, type_name, type_named}
use Rattle.bq_predeclared.specs.AttributeTypeLaws.{NoOtherTypeIsNamed}
use Rattle.bq_predeclared.specs.declared.attribute_type.AttributeType.{AttributeType}

found_by : (b : Bool) (name : List ℕ) (x y : AttributeType) (rest : Option AttributeType) → bytes_eq name (type_name x) ≡ b → (rest ≡ Some y → type_name y ≡ name) → cond b (Some x) rest ≡ Some y
    → type_name y ≡ name
found_by true name x y rest t inner h =
    let e : x ≡ y = cc in
    subst (λ z. type_name z ≡ name) e (sym ((bytes_eq-Decides name (type_name x)).0 t))
found_by false name x y rest t inner h = inner h

found_among : (name : List ℕ) (xs : List AttributeType) (y : AttributeType) → find (λ k. bytes_eq name (type_name k)) xs ≡ Some y → type_name y ≡ name
found_among name [] y h = cc
found_among name (x ∷ xs) y h = found_by (bytes_eq name (type_name x)) name x y (find (λ k. bytes_eq name (type_name k)) xs) refl (found_among name xs y) h

pub no_other_named : NoOtherTypeIsNamed
unfolding type_named
no_other_named kind name h = found_among name types kind h
