-- The attributes of a rule are those of its dict.
use Rattle.std.proofs.Common.{◌≡◌, ◌∙◌, sym, ap, refl, ℕ, List, [], ◌∷◌, Result, Ok, Err}
use Rattle.std.specs.Prelude.{◌++◌, map}
use Rattle.std.proofs.lemmas.List.{map_push, append_assoc, append-nil}
use Rattle.bq_base.specs.declared.fault.EvalFault.{EvalFault}
use Rattle.bq_base.specs.declared.fault.EvalFault.TheVariants.{WrongType}
use Rattle.bq_value_datum.specs.Class.{Class}
use Rattle.bq_value_datum.specs.declared.attribute.Attribute.{Attribute}
use Rattle.bq_value.specs.Datum as datum
use Rattle.bq_value.specs.Datum.{Datum}
use Rattle.bq_package_attributes.specs.RuleLaws.{ARuleHasTheAttributesOfItsDict}
use Rattle.bq_package_attributes.specs.Rule.{attribute_in, entry, entries}
use Rattle.bq_package_values.specs.Steps.{and_then, in_turn}
use Rattle.bq_package_values.specs.Texts.{text_in}

-- the pair of a dict that an attribute comes from
abbrev pub pair : List ℕ × Attribute → Datum × Datum
pair e = (datum.string e.0, datum.attribute e.1)

text_is : (k : Datum) (name : List ℕ) → text_in WrongType k ≡ Ok name → k ≡ datum.string name
unfolding text_in
text_is (datum.string s) name h = let e : s ≡ name = cc in ap datum.string e
text_is _ name h = absurd (cc)

attribute_is : (v : Datum) (x : Attribute) → attribute_in v ≡ Ok x → v ≡ datum.attribute x
attribute_is (datum.attribute a) x h = let e : a ≡ x = cc in ap datum.attribute e
attribute_is _ x h = absurd (cc)

by_parts : (p : Datum × Datum) (r : Result (List ℕ) EvalFault) (q : Result Attribute EvalFault) (e : List ℕ × Attribute) → text_in WrongType p.0 ≡ r → attribute_in p.1 ≡ q → and_then r (λ name. and_then q (λ x. Ok (name, x))) ≡ Ok e
    → p ≡ pair e
by_parts p (Err why) q e is_r is_q h = absurd (cc)
by_parts p (Ok name) (Err why) e is_r is_q h = absurd (cc)
by_parts p (Ok name) (Ok x) e is_r is_q h =
    let both : (name, x) ≡ e = cc in
    let first : p.0 ≡ datum.string e.0 = text_is p.0 e.0 (is_r ∙ ap (λ (d : List ℕ × Attribute). Ok d.0) both) in
    let second : p.1 ≡ datum.attribute e.1 = attribute_is p.1 e.1 (is_q ∙ ap (λ (d : List ℕ × Attribute). Ok d.1) both) in
    λ i. (first i, second i)

pub entry_is : (p : Datum × Datum) (e : List ℕ × Attribute) → entry p ≡ Ok e → p ≡ pair e
entry_is p e h = by_parts p (text_in WrongType p.0) (attribute_in p.1) e refl refl h

-- what is there already comes from the pairs before
abbrev ComeFrom : List (Datum × Datum) → Class → Class → Type 0
ComeFrom ps done x = in_turn entry done ps ≡ Ok x → map pair done ++ ps ≡ map pair x

next_are : (p : Datum × Datum) (ps : List (Datum × Datum)) (done x : Class) (r : Result (List ℕ × Attribute) EvalFault) → entry p ≡ r → ((e : List ℕ × Attribute) → ComeFrom ps (done ++ e ∷ []) x)
    → and_then r (λ e. in_turn entry (done ++ e ∷ []) ps) ≡ Ok x → map pair done ++ p ∷ ps ≡ map pair x
next_are p ps done x (Err why) is later h = absurd (cc)
next_are p ps done x (Ok e) is later h =
    ap (λ q. map pair done ++ q ∷ ps) (entry_is p e is) ∙ sym (append_assoc (map pair done) (pair e ∷ []) ps) ∙ ap (λ es. es ++ ps) (sym (map_push pair done e)) ∙ later e h

all_are : (ps : List (Datum × Datum)) (done x : Class) → ComeFrom ps done x
unfolding in_turn
all_are [] done x h = let same : done ≡ x = cc in append-nil (map pair done) ∙ ap (map pair) same
all_are (p ∷ ps) done x h = next_are p ps done x (entry p) refl (λ e. all_are ps (done ++ e ∷ []) x) h

pub attributes_are : ARuleHasTheAttributesOfItsDict
unfolding entries
attributes_are ps x h = all_are ps [] x h
