-- A table that is read place by place.
use Rattle.std.proofs.Common.{◌≡◌, ◌∙◌, ℕ, Bool, true, false, ◌&&◌, ◌+◌, inl, inr, List, [], ◌++◌, Some, None, sym, ap, drop, append_assoc, append-nil, slice_get}
use Rattle.std.specs.List.{list_all}
use Rattle.std.proofs.lemmas.List.{drop_all}
use Rattle.std.proofs.lemmas.Option.{slice_get_cases}
use Rattle.bq_value_datum.specs.Class.{Class}
use Rattle.bq_value_datum.specs.declared.attribute.Attribute.{Attribute}
use Rattle.bq_package_target.specs.declared.value.GivenAttribute.{GivenAttribute}
use Rattle.bq_value.specs.Datum.{Datum}
use Rattle.bq_value.proofs.Lookups.{drop_found}
use Rattle.bq_package_attributes.specs.Declarations.{is_met, default_for, defaults}

-- ---- the attributes that have to be given

module _ (keywords : List (Datum × Datum)) (class : Class) (i : ℕ) where
  -- the first of those that are left is met
  pub met_next : (e : List ℕ × Attribute) → Some e ≡ slice_get class i → is_met keywords e ≡ true → list_all (is_met keywords) (drop i class) ≡ list_all (is_met keywords) (drop (i + 1) class)
  met_next e h is = ap (list_all (is_met keywords)) (drop_found class i e (sym h)) ∙ ap (λ (b : Bool). b && list_all (is_met keywords) (drop (i + 1) class)) is

  -- it isn't
  pub met_stops : (e : List ℕ × Attribute) → Some e ≡ slice_get class i → is_met keywords e ≡ false → list_all (is_met keywords) (drop i class) ≡ false
  met_stops e h is = ap (list_all (is_met keywords)) (drop_found class i e (sym h)) ∙ ap (λ (b : Bool). b && list_all (is_met keywords) (drop (i + 1) class)) is

-- ---- defaults

-- the default of one attribute more
pub defaults_next : (keywords : List (Datum × Datum)) (class : Class) (i : ℕ) (e : List ℕ × Attribute) (gs more all : List GivenAttribute) → Some e ≡ slice_get class i
    → gs ++ defaults keywords (drop i class) ≡ all → more ≡ gs ++ default_for keywords e → more ++ defaults keywords (drop (i + 1) class) ≡ all
defaults_next keywords class i e gs more all h past grown =
    rw (grown, append_assoc gs (default_for keywords e) (defaults keywords (drop (i + 1) class))) (ap (λ (z : Class). gs ++ defaults keywords z) (sym (drop_found class i e (sym h))) ∙ past)

-- no attribute is left
pub defaults_end : (keywords : List (Datum × Datum)) (class : Class) (i : ℕ) (gs all : List GivenAttribute) → None ≡ slice_get class i → gs ++ defaults keywords (drop i class) ≡ all → gs ≡ all
defaults_end keywords class i gs all h past = elim ((slice_get_cases class i).1) [
  | inl w ↦ let bad : Some w.0 ≡ None = sym w.2 ∙ sym h in absurd (cc)
  | inr w ↦ let left : drop i class ≡ [] = drop_all i class w.0 in sym (append-nil gs) ∙ (ap (λ (z : Class). gs ++ defaults keywords z) (sym left) ∙ past)
]
