-- Labels, and when two of them are one.
use Rattle.std.specs.Prelude.{◌≡◌, ℕ, List, [], ◌∷◌, ◌++◌, Bool, true, false, ◌&&◌, bytes_eq, IsTrue, refl, if◌then◌else◌}
use Rattle.std.proofs.Common.{ap}
use Rattle.std.specs.Bool.{Decides}
use Rattle.std.specs.List.{list_any}
use Rattle.std.specs.Cmp.{IsEquivalence, decided}
use Rattle.std.specs.Cmp.Lexicographic.{bytes_decides}
use Rattle.bq_label.specs.Label.{LabelParts, label_at}

-- two labels are the same
unfoldable pub same_label : LabelParts → LabelParts → Bool
same_label a b = bytes_eq a.name b.name && (bytes_eq a.package b.package && bytes_eq a.repo b.repo)

first : (a b : Bool) → (a && b) ≡ true → a ≡ true
first true b h = refl
first false b h = cc

second : (a b : Bool) → (a && b) ≡ true → b ≡ true
second true b h = h
second false b h = cc

both : (a b : Bool) → a ≡ true → b ≡ true → (a && b) ≡ true
both a b e f = cc

-- labels are the same exactly where their repositories, packages and names are equal
pub same_label-Decides : (a b : LabelParts) → Decides (same_label a b) (a ≡ b)
unfolding same_label
same_label-Decides a b = (
  λ h.
      let n = bytes_eq a.name b.name in
      let p = bytes_eq a.package b.package in
      let r = bytes_eq a.repo b.repo in
      let rest : (p && r) ≡ true = second n (p && r) h in
      let e : a.name ≡ b.name = (bytes_decides a.name b.name).0 (first n (p && r) h) in
      let f : a.package ≡ b.package = (bytes_decides a.package b.package).0 (first p r rest) in
      let g : a.repo ≡ b.repo = (bytes_decides a.repo b.repo).0 (second p r rest) in
      let one : label_at a.repo a.package a.name ≡ label_at b.repo b.package b.name = cc in
      one,
  λ e.
      both (bytes_eq a.name b.name) (bytes_eq a.package b.package && bytes_eq a.repo b.repo) ((bytes_decides a.name b.name).1 (ap (λ (l : LabelParts). l.name) e))
      (both (bytes_eq a.package b.package) (bytes_eq a.repo b.repo) ((bytes_decides a.package b.package).1 (ap (λ (l : LabelParts). l.package) e))
      ((bytes_decides a.repo b.repo).1 (ap (λ (l : LabelParts). l.repo) e))),
)

-- to be the same label is reflexive, symmetric and transitive
pub same_label-equiv : IsEquivalence same_label
same_label-equiv = decided same_label same_label-Decides

-- one of them is this label
abbrev pub has_label : List LabelParts → LabelParts → Bool
has_label ls l = list_any (same_label l) ls

-- the label as the last, where it isn't there
unfoldable pub with_label : List LabelParts → LabelParts → List LabelParts
with_label ls l = if has_label ls l then ls else ls ++ l ∷ []

-- labels put in turn
unfoldable pub with_labels : List LabelParts → List LabelParts → List LabelParts
with_labels ls [] = ls
with_labels ls (m ∷ ms) = with_labels (with_label ls m) ms
