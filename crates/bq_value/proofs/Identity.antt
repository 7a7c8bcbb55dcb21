-- Rules are equal where they are one cell, and attributes where they say the same.
use Rattle.std.proofs.Common.{◌≡◌, ◌∙◌, ◌==◌, ◌&&◌, ℕ, zero, suc, Bool, true, Option, Some, Ok, refl, sym, ap}
use Rattle.std.specs.Prelude.{◌↔◌}
use Rattle.bq_value_datum.specs.Class.{Class}
use Rattle.bq_value_datum.specs.AttributeSame.{same_attribute}
use Rattle.bq_value_datum.specs.declared.attribute.Attribute.{Attribute}
use Rattle.bq_value.specs.Datum.{cell, attribute}
use Rattle.bq_value.specs.Contents.{Contents, rule}
use Rattle.bq_value.specs.Cells.{StoreView, content_at}
use Rattle.bq_value.specs.SameLaws.{attributes_decide}
use Rattle.bq_value.specs.Equality.{cells_equal, equal_at}
use Rattle.bq_value.specs.WalkLaws.{Equals}
use Rattle.bq_value.proofs.Ranges.{both_true, all_true, nat_true, nat_test}
use Rattle.bq_value.proofs.Alike.{answer_of}

cells_answer : (l : ℕ) (s : StoreView) (one : Bool) (c d : Option Contents) (p q : Class) → c ≡ Some (rule p) → d ≡ Some (rule q) → (so : Bool) (n m : ℕ) → cells_equal (equal_at l s) n one c d ≡ Ok (so, m) → one ≡ so
cells_answer l s one c d p q at bt so n m e =
    answer_of one so n m
    (ap (λ (f : Option Contents). cells_equal (equal_at l s) n one f (Some (rule q))) (sym at) ∙ (ap (cells_equal (equal_at l s) n one c) (sym bt) ∙ e))

rule_answer : (l : ℕ) (s : StoreView) (a i b j : ℕ) (p q : Class) → content_at s a i ≡ Some (rule p) → content_at s b j ≡ Some (rule q)
    → (so : Bool) (n m : ℕ) → equal_at (suc l) s n (cell a i) (cell b j) ≡ Ok (so, m) → ((a == b) && (i == j)) ≡ so
rule_answer l s a i b j p q at bt so zero m is = absurd (cc)
rule_answer l s a i b j p q at bt so (suc n) m is = cells_answer l s ((a == b) && (i == j)) (content_at s a i) (content_at s b j) p q at bt so n m is

pub rules_by_cell : (s : StoreView) (a i b j : ℕ) (p q : Class) (so : Bool) → content_at s a i ≡ Some (rule p) → content_at s b j ≡ Some (rule q) → Equals s (cell a i) (cell b j) so → (so ≡ true) ↔ ((a ≡ b) × (i ≡ j))
rules_by_cell s a i b j p q so at bt h =
    let e : ((a == b) && (i == j)) ≡ so = rule_answer 63 s a i b j p q at bt so h.steps h.left h.is in (
      λ y. let r = both_true (a == b) (i == j) (e ∙ y) in (nat_true a b r.0, nat_true i j r.1),
      λ r. sym e ∙ all_true (a == b) (i == j) (nat_test a b r.0) (nat_test i j r.1),
    )

attribute_answer : (l : ℕ) (s : StoreView) (a b : Attribute) (so : Bool) (n m : ℕ) → equal_at (suc l) s n (attribute a) (attribute b) ≡ Ok (so, m) → same_attribute a b ≡ so
attribute_answer l s a b so zero m is = absurd (cc)
attribute_answer l s a b so (suc n) m is = answer_of (same_attribute a b) so n m is

pub attributes_by_parts : (s : StoreView) (a b : Attribute) (so : Bool) → Equals s (attribute a) (attribute b) so → (so ≡ true) ↔ (a ≡ b)
attributes_by_parts s a b so h =
    let e : same_attribute a b ≡ so = attribute_answer 63 s a b so h.steps h.left h.is in
    (λ y. (attributes_decide a b).0 (e ∙ y), λ r. sym e ∙ (attributes_decide a b).1 r)

pub attributes_in_a_step : (s : StoreView) (a b : Attribute) (n : ℕ) → equal_at 64 s (suc n) (attribute a) (attribute b) ≡ Ok (same_attribute a b, n)
attributes_in_a_step s a b n = refl
