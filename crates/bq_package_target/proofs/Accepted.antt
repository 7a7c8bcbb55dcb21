-- Which calls are accepted, and what they leave.
use Rattle.std.proofs.Common.{◌≡◌, ◌∙◌, ℕ, true, false, List, [], ◌∷◌, ◌++◌, refl, sym, ap, subst, inl, inr, append_assoc}
use Rattle.std.specs.Str.{bytes_eq}
use Rattle.std.specs.List.{AllByRecursion, IsDistinct}
use Rattle.std.specs.Cmp.Lexicographic.{nat_list_eq_equiv}
use Rattle.std.proofs.lemmas.Bool.{cases_Bool}
use Rattle.std.proofs.lemmas.List.{map-append}
use Rattle.std.proofs.lemmas.Map.Keys.{IsDistinct-head, IsDistinct-tail}
use Rattle.bq_package_target.specs.declared.target.Target.{Target}
use Rattle.bq_package_target.specs.declared.state.Declared.TheVariants.{Accepted, Refused}
use Rattle.bq_package_target.specs.Names.{with_name, are_new}
use Rattle.bq_base_texts.specs.NameSet.{has}
use Rattle.bq_package_target.specs.Target.{names_of, declares}
use Rattle.bq_package_target.specs.Package.{PackageTargets, finished}
use Rattle.bq_package_target.specs.Laws.{KeepsOrder, AcceptsDistinct}
use Rattle.bq_package_target.proofs.Taking.{none_new, new_more, with_new, distinct_from_new}
use Rattle.bq_package_target.proofs.States.{declared_new, declared_old}

reach : (p n : List ℕ) (qs rest : List (List ℕ)) → AllByRecursion (λ y. bytes_eq p y ≡ false) (qs ++ n ∷ rest) → bytes_eq p n ≡ false
reach p n [] rest a = a.0
reach p n (q ∷ qs) rest a = reach p n qs rest a.1

lacks : (names rest : List (List ℕ)) (n : List ℕ) → IsDistinct bytes_eq (names ++ n ∷ rest) → has names n ≡ false
lacks [] rest n d = refl
lacks (m ∷ names) rest n d =
    let apart : bytes_eq m n ≡ false = reach m n names rest (IsDistinct-head bytes_eq m (names ++ n ∷ rest) d) in
    let turned : bytes_eq n m ≡ false = nat_list_eq_equiv.symm n m ∙ apart in
    rw turned (lacks names rest n (IsDistinct-tail bytes_eq m (names ++ n ∷ rest) d))

pub new_from_distinct : (names ns : List (List ℕ)) → IsDistinct bytes_eq (names ++ ns) → are_new names ns ≡ true
new_from_distinct names [] d = none_new names
new_from_distinct names (n ∷ ns) d =
    let free : has names n ≡ false = lacks names ns n d in
    let longer : IsDistinct bytes_eq ((names ++ n ∷ []) ++ ns) = subst (λ (z : List (List ℕ)). IsDistinct bytes_eq z) (sym (append_assoc names (n ∷ []) ns)) d in
    let more : are_new (with_name names n) ns ≡ true = ap (λ (z : List (List ℕ)). are_new z ns) (with_new names n free) ∙ new_from_distinct (names ++ n ∷ []) ns longer in
    new_more names n ns free ∙ more

not_both : (p q : PackageTargets) → Accepted p ≡ Refused q → ⊥
not_both p q e = cc

accepted_is : (p q : PackageTargets) → Accepted p ≡ Accepted q → p ≡ q
accepted_is p q e = cc

refused_is : (p q : PackageTargets) → Refused p ≡ Refused q → p ≡ q
refused_is p q e = cc

pub keeps_order : (p : PackageTargets) (t : Target) (q : PackageTargets) → KeepsOrder p t q
keeps_order p t q = elim (cases_Bool (are_new (names_of p.targets) (names_of (declares t)))) [
  | inl new ↦
      let now : PackageTargets = record { build_file = p.build_file; targets = p.targets ++ declares t } in
      record {
        accepted = λ e. ap (λ (z : PackageTargets). z.targets) (accepted_is q now (sym e ∙ declared_new p t new));
        refused = λ e. absurd (not_both now q (sym (declared_new p t new) ∙ e));
      }
  | inr old ↦ record {
    accepted = λ e. absurd (not_both q p (sym e ∙ declared_old p t old));
    refused = λ e. refused_is q p (sym e ∙ declared_old p t old);
  }
]

pub come_first : (p : PackageTargets) → (more : List Target) × ((finished p).targets ≡ p.targets ++ more)
unfolding finished
come_first p = (_, refl)

pub accepts_distinct : (p : PackageTargets) (t : Target) → AcceptsDistinct p t
accepts_distinct p t d =
    let names : List (List ℕ) = names_of p.targets in
    let added : List (List ℕ) = names_of (declares t) in
    let both : names_of (p.targets ++ declares t) ≡ names ++ added = map-append (λ (z : Target). z.label.name) p.targets (declares t) in (
      λ a.
          elim (cases_Bool (are_new names added)) [
            | inl new ↦ subst (λ (z : List (List ℕ)). IsDistinct bytes_eq z) (sym both) (distinct_from_new names added d new)
            | inr old ↦ absurd (not_both a.0 p (sym a.1 ∙ declared_old p t old))
          ],
      λ e.
          let new : are_new names added ≡ true = new_from_distinct names added (subst (λ (z : List (List ℕ)). IsDistinct bytes_eq z) both e) in
          (record { build_file = p.build_file; targets = p.targets ++ declares t }, declared_new p t new),
    )
