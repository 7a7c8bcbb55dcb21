-- A text names a package as the reading function says, both ways.
use Rattle.std.proofs.Common.{◌≡◌, ◌∙◌, ◌++◌, ◌==◌, ◌&&◌, ℕ, Bool, true, false, List, [], ◌∷◌, Option, Some, None, drop, option_and_then, if◌then◌else◌, refl, sym, ap, subst, arith, inl, inr}
use Rattle.std.proofs.lemmas.Bool.{cases_Bool}
use Rattle.std.proofs.lemmas.Bool.Decides.{nat_tests}
use Rattle.bq_label.specs.Paths.{is_package, is_repository}
use Rattle.bq_label.specs.Label.{PackageParts, IsPackage, Spells, package_at}
use Rattle.bq_label.specs.Reading.{first_is, package_if_valid, package_of_text, package_parts, split_once}
use Rattle.bq_label.proofs.Cases.{package_of_repository}
use Rattle.bq_label.proofs.Cuts.{cut_joined, cut_whole}
use Rattle.bq_label.proofs.Readings.{first_of_two, no_slash, second_of_two}

valid_is : (p : PackageParts) → IsPackage p → package_if_valid p ≡ Some p
unfolding package_if_valid
valid_is p h = rw (h.valid_repo, h.valid_package) refl

-- what names a package is read as it
pub package_written : (text : List ℕ) (p : PackageParts) → Spells p text → IsPackage p → package_of_text text ≡ Some p
unfolding package_of_text package_parts
package_written text p (Spells.main repo is) h = ap package_of_text is ∙ (ap (λ (r : List ℕ). package_if_valid (package_at r p.package)) (sym repo) ∙ valid_is p h)
package_written text p (Spells.other is) h =
    ap package_of_text is
    ∙ (ap (λ (o : Option (List ℕ × List ℕ)). option_and_then package_if_valid (package_of_repository o)) (cut_joined 47 p.repo (47 ∷ p.package) (no_slash p.repo h.valid_repo)) ∙ valid_is p h)

none_some : (p : PackageParts) → None ≡ Some p → ⊥
none_some p e = cc

some_is : (p q : PackageParts) → Some p ≡ Some q → p ≡ q
some_is p q e = cc

valid_read : (q p : PackageParts) → package_if_valid q ≡ Some p → (q ≡ p) × IsPackage p
unfolding package_if_valid
valid_read q p e = elim (cases_Bool (is_repository q.repo && is_package q.package)) [
  | inl y ↦
      let same = some_is q p (sym (rw y refl) ∙ e) in
      (same, subst IsPackage same (record { valid_repo = first_of_two _ _ y; valid_package = second_of_two _ _ y }))
  | inr n ↦ absurd (none_some p (sym (rw n refl) ∙ e))
]

-- behind `@`
module _ (p : PackageParts) where
  by_slash : (bs r x : List ℕ) (c : ℕ) → bs ≡ r ++ 47 ∷ c ∷ x → option_and_then package_if_valid (package_of_repository (Some (r, c ∷ x))) ≡ Some p → Spells p (64 ∷ bs) × IsPackage p
  by_slash bs r x c whole e = elim (cases_Bool (c == 47)) [
    | inl y ↦
        let slash : c ≡ 47 = grind (arith, nat_tests) in
        let v = valid_read (package_at r x) p (sym (rw y refl) ∙ e) in
        let text : bs ≡ r ++ 47 ∷ 47 ∷ x = whole ∙ ap (λ (d : ℕ). r ++ 47 ∷ d ∷ x) slash in
        (Spells.other (ap (λ (t : List ℕ). 64 ∷ t) (text ∙ ap (λ (q : PackageParts). q.repo ++ 47 ∷ 47 ∷ q.package) v.0)), v.1)
    | inr n ↦ absurd (none_some p (sym (rw n refl) ∙ e))
  ]

  behind : (bs : List ℕ) (o : Option (List ℕ × List ℕ)) → split_once 47 bs ≡ o → option_and_then package_if_valid (package_of_repository o) ≡ Some p → Spells p (64 ∷ bs) × IsPackage p
  behind bs None cut e = absurd (none_some p e)
  behind bs (Some (r, [])) cut e = absurd (none_some p e)
  behind bs (Some (r, c ∷ x)) cut e = by_slash bs r x c (cut_whole 47 bs (r, c ∷ x) cut) e

  in_main : (b : ℕ) (bs : List ℕ) → option_and_then package_if_valid (if b == 47 && first_is 47 bs then Some (package_at [] (drop 1 bs)) else None) ≡ Some p → Spells p (b ∷ bs) × IsPackage p
  in_main b [] e = absurd (none_some p (sym (ap (λ (t : Bool). option_and_then package_if_valid (if t then Some (package_at [] []) else None)) (and_false (b == 47))) ∙ e))
    where
      and_false : (t : Bool) → (t && false) ≡ false
      and_false true = refl
      and_false false = refl
  in_main b (c ∷ x) e = elim (cases_Bool (b == 47 && c == 47)) [
    | inl y ↦
        let first : b ≡ 47 = let f : (b == 47) ≡ true = first_of_two (b == 47) (c == 47) y in grind (arith, nat_tests) in
        let second : c ≡ 47 = let f : (c == 47) ≡ true = second_of_two (b == 47) (c == 47) y in grind (arith, nat_tests) in
        let v = valid_read (package_at [] x) p (sym (rw y refl) ∙ e) in (
          Spells.main (ap (λ (q : PackageParts). q.repo) (sym v.0)) (ap (λ (d : ℕ). d ∷ c ∷ x) first ∙ (ap (λ (d : ℕ). 47 ∷ d ∷ x) second ∙ ap (λ (q : PackageParts). 47 ∷ 47 ∷ q.package) v.0)),
          v.1,
        )
    | inr n ↦ absurd (none_some p (sym (rw n refl) ∙ e))
  ]

-- what is read as a package names it
pub package_read : (text : List ℕ) (p : PackageParts) → package_of_text text ≡ Some p → Spells p text × IsPackage p
unfolding package_of_text package_parts
package_read [] p e = absurd (none_some p e)
package_read (b ∷ bs) p e = elim (cases_Bool (b == 64)) [
  | inl y ↦
      let at : b ≡ 64 = grind (arith, nat_tests) in
      let r = behind p bs (split_once 47 bs) refl (sym (rw y refl) ∙ e) in
      (subst (λ (d : ℕ). Spells p (d ∷ bs)) (sym at) r.0, r.1)
  | inr n ↦ in_main p b bs (sym (rw n refl) ∙ e)
]
