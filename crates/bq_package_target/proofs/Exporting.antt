-- Files may be exported exactly where no other target has one of their names.
use Rattle.std.proofs.Common.{◌≡◌, ◌∙◌, sym, ap, subst, refl, ℕ, inl, inr, Bool, true, false, List, [], ◌∷◌, Option, Some, None}
use Rattle.std.specs.Prelude.{bytes_eq, not, if◌then◌else◌}
use Rattle.std.specs.List.{Contains, IsDistinct, AllByRecursion, list_any}
use Rattle.std.proofs.lemmas.Slice.Eq.{bytes_eq-Decides}
use Rattle.bq_base.proofs.Choices.{by_bool}
use Rattle.bq_label.specs.Label.{LabelParts}
use Rattle.bq_label.proofs.Orders.{at_head, in_tail, head_or_tail}
use Rattle.bq_package_target.specs.declared.target.Target.{Target}
use Rattle.bq_package_target.specs.declared.state.Declared.TheVariants.{Accepted, Refused}
use Rattle.bq_package_target.specs.Calls.{exported}
use Rattle.bq_package_target.specs.Package.{PackageTargets, target_named, is_taken}
use Rattle.bq_package_target.proofs.Cases.{is_other}
use Rattle.bq_package_target.specs.Target.{is_source, names_of}
use Rattle.bq_package_target.proofs.States.{exported_old}
use Rattle.bq_package_target.specs.SourceFiles.{HasOtherNamed}
use Rattle.bq_package_target.proofs.Writing.{none_in}

-- the first target of a name
record IsFound (ts : List Target) (name : List ℕ) (t : Target) : Type 0 where
  known : Contains ts t
  named : t.label.name ≡ name

found : (ts : List Target) (name : List ℕ) (t : Target) → target_named ts name ≡ Some t → IsFound ts name t
found [] name t h = absurd (cc)
found (u ∷ ts) name t h = elim (by_bool (bytes_eq name u.label.name)) [
  | inl e ↦
      let here : Some u ≡ Some t = rw e at h in
      let is : u ≡ t = cc in
      record { known = subst (λ (x : Target). Contains (u ∷ ts) x) is (at_head u ts); named = ap (λ (x : Target). x.label.name) (sym is) ∙ sym ((bytes_eq-Decides name u.label.name).0 e) }
  | inr e ↦
      let later : target_named ts name ≡ Some t = rw e at h in
      let r = found ts name t later in
      record { known = in_tail u ts t r.known; named = r.named }
]

other_by : (ts : List Target) (name : List ℕ) (o : Option Target) → target_named ts name ≡ o → is_other o ≡ true → (t : Target) × (target_named ts name ≡ Some t) × (is_source t.kind ≡ false)
other_by ts name None e h = absurd (cc)
other_by ts name (Some t) e h = (t, e, turned (is_source t.kind) h)
  where
    turned : (b : Bool) → not b ≡ true → b ≡ false
    turned false k = refl
    turned true k = absurd (cc)

any_taken : (ts : List Target) (ls : List LabelParts) → list_any (is_taken ts) ls ≡ true → HasOtherNamed ts ls
unfolding is_taken
any_taken ts [] h = absurd (cc)
any_taken ts (l ∷ ls) h = elim (by_bool (is_other (target_named ts l.name))) [
  | inl e ↦
      let o = other_by ts l.name (target_named ts l.name) refl e in
      let f = found ts l.name o.0 o.1 in
      record { label = l; exported = at_head l ls; target = o.0; known = f.known; named = f.named; other = o.2 }
  | inr e ↦
      let rest : list_any (is_taken ts) ls ≡ true = rw e at h in
      let r = any_taken ts ls rest in
      record { label = r.label; exported = in_tail l ls r.label r.exported; target = r.target; known = r.known; named = r.named; other = r.other }
]

refused_by : (b : Bool) (p q z : PackageTargets) → (if b then Refused p else Accepted z) ≡ Refused q → b ≡ true
refused_by true p q z h = refl
refused_by false p q z h = absurd (cc)

pub taken_if_refused : (p q : PackageTargets) (ls : List LabelParts) (line : ℕ) → exported p ls line ≡ Refused q → HasOtherNamed p.targets ls
unfolding exported
taken_if_refused p q ls line h = any_taken p.targets ls (refused_by (list_any (is_taken p.targets) ls) p q _ h)

-- ---- where names differ, the first target of a name is the only one

differs : (ts : List Target) (name : List ℕ) (t : Target) → AllByRecursion (λ n. bytes_eq name n ≡ false) (names_of ts) → Contains ts t → bytes_eq name t.label.name ≡ false
differs [] name t all c = absurd (none_in t c)
differs (u ∷ ts) name t all c = elim (head_or_tail u ts t c) [
  | inl e ↦ ap (λ (x : Target). bytes_eq name x.label.name) (sym e) ∙ all.0
  | inr later ↦ differs ts name t all.1 later
]

only_named : (ts : List Target) (t : Target) → IsDistinct bytes_eq (names_of ts) → Contains ts t → target_named ts t.label.name ≡ Some t
unfolding IsDistinct
only_named [] t d c = absurd (none_in t c)
only_named (u ∷ ts) t d c = elim (head_or_tail u ts t c) [
  | inl e ↦ let same = (bytes_eq-Decides t.label.name u.label.name).1 (ap (λ (x : Target). x.label.name) (sym e)) in rw same (ap Some e)
  | inr later ↦
      let apart = differs ts u.label.name t d.0 later in
      let turned : bytes_eq t.label.name u.label.name ≡ false = turn u.label.name t.label.name apart in
      rw turned (only_named ts t d.1 later)
]
  where
    turn : (a b : List ℕ) → bytes_eq a b ≡ false → bytes_eq b a ≡ false
    turn a b apart = elim (by_bool (bytes_eq b a)) [
      | inr f ↦ f
      | inl f ↦ let same = (bytes_eq-Decides a b).1 (sym ((bytes_eq-Decides b a).0 f)) in absurd (cc)
    ]

taken_one : (ts : List Target) (l : LabelParts) (t : Target) → IsDistinct bytes_eq (names_of ts) → Contains ts t → t.label.name ≡ l.name → is_source t.kind ≡ false → is_taken ts l ≡ true
unfolding is_taken
taken_one ts l t d c named other =
    ap is_other (ap (target_named ts) (sym named) ∙ only_named ts t d c) ∙ ap not other

any_of : (ts : List Target) (ls : List LabelParts) (l : LabelParts) → Contains ls l → is_taken ts l ≡ true → list_any (is_taken ts) ls ≡ true
any_of ts [] l c h = absurd (none_in l c)
any_of ts (m ∷ ls) l c h = elim (by_bool (is_taken ts m)) [
  | inl t ↦ rw t refl
  | inr t ↦ rw t (elim (head_or_tail m ls l c) [
    | inl e ↦ let is : is_taken ts m ≡ true = ap (is_taken ts) e ∙ h in absurd (cc)
    | inr later ↦ any_of ts ls l later h
  ])
]

pub refused_if_taken : (p : PackageTargets) (ls : List LabelParts) (line : ℕ) → IsDistinct bytes_eq (names_of p.targets) → HasOtherNamed p.targets ls → exported p ls line ≡ Refused p
refused_if_taken p ls line d x = exported_old p ls line (any_of p.targets ls x.label x.exported (taken_one p.targets x.label x.target d x.known x.named x.other))
