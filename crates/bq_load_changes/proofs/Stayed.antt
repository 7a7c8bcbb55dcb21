-- Modules that have stayed what they were, one after another.
use Rattle.std.proofs.Common.{◌≡◌, ◌<◌, true, ℕ, zero, suc, List, [], ◌∷◌, ◌++◌, length, get_or, Option, Some, None, IfSome, refl, subst, sym}
use Rattle.std.specs.Prelude.{slice_get}
use Rattle.std.proofs.lemmas.Option.{slice_get_read}
use Rattle.bq_label.specs.declared.packages.BuildFile.{BuildFile}
use Rattle.bq_label.specs.declared.workspace.File.{File}
use Rattle.bq_label.specs.Label.{LabelParts}
use Rattle.bq_load_order.specs.Again.{number_at}
use Rattle.bq_label.specs.Packages.{label_file}
use Rattle.bq_label_set.specs.Labels.{same_label}
use Rattle.bq_load_front.specs.Parsed.{kind_of}
use Rattle.bq_load_changes.specs.Same.{HasStayed, HaveStayed, is_untouched, same_content}

pub has_stayed : (before after : List File) (touched : List BuildFile) (had : List LabelParts) (l : LabelParts) (m : ℕ) (other : LabelParts) → slice_get had m ≡ Some other → same_label other l ≡ true → is_untouched touched l (kind_of l) ≡ true
    → same_content (label_file before l) (label_file after l) ≡ true → HasStayed before after touched had l m m
has_stayed before after touched had l m other at same free text = record { number = refl; other = other; label = at; same = same; text = text; untouched = free }

-- each number of a list holds at its place
abbrev AreHeld : (ℕ → ℕ → Type 0) → List (Option ℕ) → Type 0
AreHeld P was = (m k : ℕ) → number_at was m ≡ Some k → P m k

this_number : (P : ℕ → Type 0) (o : Option ℕ) → IfSome o P → (k : ℕ) → o ≡ Some k → P k
this_number P None h k e = absurd (cc)
this_number P (Some j) h k e = let same : j ≡ k = cc in subst P same h

held_more : (P : ℕ → ℕ → Type 0) (was : List (Option ℕ)) (o : Option ℕ) → AreHeld P was → IfSome o (P (length was)) → AreHeld P (was ++ o ∷ [])
held_more P [] o all here zero k e = this_number (P 0) o here k e
held_more P [] o all here (suc m) k e = absurd (cc)
held_more P (x ∷ xs) o all here zero k e = all 0 k e
held_more P (x ∷ xs) o all here (suc m) k e = held_more (λ (n : ℕ). P (suc n)) xs o (λ n j h. all (suc n) j h) here m k e

module _ (before after : List File) (touched : List BuildFile) (had labels : List LabelParts) where
  pub none_stayed : HaveStayed before after touched had labels []
  none_stayed m k e = absurd (cc)

  abbrev Stays : ℕ → ℕ → Type 0
  Stays m k = (l : LabelParts) × (slice_get labels m ≡ Some l) × HasStayed before after touched had l m k

  with_label : (m : ℕ) (l : LabelParts) → slice_get labels m ≡ Some l → (o : Option ℕ) → IfSome o (HasStayed before after touched had l m) → IfSome o (Stays m)
  with_label m l at None h = tt
  with_label m l at (Some k) h = (l, at, h)

  pub more_stayed : (was new : List (Option ℕ)) (o : Option ℕ) (m : ℕ) (l : LabelParts) → m < length labels → l ≡ get_or labels m l → length was ≡ m → IfSome o (HasStayed before after touched had l m) → new ≡ was ++ o ∷ []
      → HaveStayed before after touched had labels was → HaveStayed before after touched had labels new
  more_stayed was new o m l within read wide here more all =
      let at : slice_get labels m ≡ Some l = slice_get_read labels (length labels) m l refl within read in
      let so : IfSome o (Stays (length was)) = subst (λ (n : ℕ). IfSome o (Stays n)) (sym wide) (with_label m l at o here) in
      subst (HaveStayed before after touched had labels) (sym more) (held_more Stays was o all so)
