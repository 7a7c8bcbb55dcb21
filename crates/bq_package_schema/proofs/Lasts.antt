-- One more attribute of the last rule.
use Rattle.std.proofs.Common.{◌≡◌, ◌∙◌, ℕ, List, [], ◌∷◌, ◌++◌, length, Option, Some, None, refl, sym, ap, arith}
use Rattle.bq_value_datum.specs.declared.attribute.Attribute.{Attribute}
use Rattle.bq_value_datum.specs.Class.{Class, extended}
use Rattle.bq_package_schema.specs.Schema.{Rules, last_of, with_last, with_attribute_of_last}
use Rattle.bq_package_schema.proofs.Cases.{last_by, onto}

abbrev rules_of : List (List ℕ) → List Class → Rules
rules_of names classes = record { names = names; classes = classes }

pub last_pushed : {A : Type 0} (xs : List A) (x : A) → last_of (xs ++ x ∷ []) ≡ Some (xs, x)
unfolding last_of
last_pushed [] x = refl
last_pushed (y ∷ ys) x = ap (λ o. Some (last_by y o)) (last_pushed ys x)

none_last : {A : Type 0} (xs : List A) → length xs ≡ 0 → last_of xs ≡ None
unfolding last_of
none_last [] h = refl
none_last (x ∷ xs) h = absurd (omega (arith, h))

pub of_none : (names : List (List ℕ)) (classes : List Class) (name : List ℕ) (a : Attribute) → length classes ≡ 0 → with_attribute_of_last (rules_of names classes) name a ≡ None
unfolding with_attribute_of_last
of_none names classes name a h = ap (onto (rules_of names classes) name a) (none_last classes h)

-- what becomes of the last class is what becomes of the rules
pub of_last : (names : List (List ℕ)) (classes before : List Class) (class : Class) (name : List ℕ) (a : Attribute) (o : Option Class) → classes ≡ before ++ class ∷ [] → o ≡ extended class name a
    → with_last (rules_of names classes) before o ≡ with_attribute_of_last (rules_of names classes) name a
unfolding with_attribute_of_last
of_last names classes before class name a o h e =
    ap (with_last (rules_of names classes) before) e
    ∙ ap (onto (rules_of names classes) name a) (let is : Some (before, class) ≡ last_of classes = rw h (rw (last_pushed before class) refl) in is)

pub no_last : (names : List (List ℕ)) (classes : List Class) (name : List ℕ) (a : Attribute) → classes ≡ [] → None ≡ with_attribute_of_last (rules_of names classes) name a
no_last names classes name a h = sym (of_none names classes name a (ap length h))

-- the last class has an attribute of the name
pub none_more : (names : List (List ℕ)) (classes before : List Class) (class : Class) (name : List ℕ) (a : Attribute) → classes ≡ before ++ class ∷ [] → None ≡ extended class name a
    → None ≡ with_attribute_of_last (rules_of names classes) name a
none_more names classes before class name a h e = of_last names classes before class name a None h e

-- it has none
pub one_more : (names : List (List ℕ)) (classes before : List Class) (class next : Class) (name : List ℕ) (a : Attribute) → classes ≡ before ++ class ∷ [] → Some next ≡ extended class name a
    → Some (rules_of names (before ++ next ∷ [])) ≡ with_attribute_of_last (rules_of names classes) name a
one_more names classes before class next name a h e = of_last names classes before class name a (Some next) h e
