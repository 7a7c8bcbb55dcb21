-- `%%` takes no value, and is a percent sign.
use Rattle.std.proofs.Common.{◌≡◌, ◌∙◌, refl, sym, ap, subst, ℕ, zero, suc, ◌+◌, ◌≤◌, inl, inr, Bool, true, false, List, [], ◌∷◌, ◌++◌, length, take, drop, Option, Some, None, Ok, codes, arith}
use Rattle.std.specs.Prelude.{◌==◌, nat_le}
use Rattle.std.specs.Option.{option_map}
use Rattle.std.proofs.lemmas.Bool.{eqb-true}
use Rattle.std.proofs.lemmas.Bool.Decides.{nat_tests}
use Rattle.bq_base.proofs.Choices.{by_bool}
use Rattle.bq_builtin_strings.specs.Search.{find}
use Rattle.bq_builtin_strings.specs.Parts.{around, partition}
use Rattle.bq_value.specs.Cells.{StoreView}
use Rattle.bq_value.specs.Datum.{Datum}
use Rattle.bq_value.specs.Looked.{Looked}
use Rattle.bq_value_text.specs.Page.{PageView, written, max_text}
use Rattle.bq_value_text.proofs.Pages.{written_more}
use Rattle.bq_builtin_format.specs.Percent.{DraftView, and_write, and_then, converted, values_after, ended, filled_by, filled, blank, text_by, text_filled}
use Rattle.bq_builtin_laws.specs.Formats.Doubled.{doubled}
use Rattle.bq_builtin_laws.proofs.Formats.Malformed.{draft}

abbrev onto_page : Bool → PageView → DraftView
onto_page malformed page = record { page = page; malformed = malformed }

-- bytes after bytes are both in a row
more : (d : DraftView) (a b : List ℕ) → and_write d (a ++ b) ≡ and_write (and_write d a) b
more d a b = ap (onto_page d.malformed) (sym (written_more d.page a b))

-- ---- a byte that is no percent sign

-- with one byte more before the first percent sign
abbrev later_part : ℕ → Option (List ℕ × List ℕ) → Option (List ℕ × List ℕ)
later_part b None = None
later_part b (Some p) = Some (b ∷ p.0, p.1)

around_later : (b : ℕ) (t : List ℕ) (o : Option ℕ) → around (codes "%") (b ∷ t) (option_map (λ k. suc k) o) ≡ later_part b (around (codes "%") t o)
around_later b t None = refl
around_later b t (Some at) =
    let e : suc at + length (codes "%") ≡ suc (at + length (codes "%")) = omega arith in
    ap (λ (n : ℕ). Some (b ∷ take at t, drop n (b ∷ t))) e

partition_later : (b : ℕ) (t : List ℕ) → (37 == b) ≡ false → partition (codes "%") (b ∷ t) ≡ later_part b (partition (codes "%") t)
unfolding partition find
partition_later b t h = rw h (around_later b t (find (codes "%") t))

module _ (s : StoreView) (n : ℕ) (vs : List Datum) where
  -- the end of a format, and a conversion in it, after what is written
  abbrev at_end : DraftView → Looked DraftView
  at_end d = draft (ended d vs) n

  abbrev with_rest : ℕ → List ℕ → DraftView → Looked DraftView
  with_rest most rest d = and_then (converted s d n rest vs) (λ e m. filled most s e m (values_after rest vs) (drop 1 rest))

  part_later : (most : ℕ) (d : DraftView) (b : ℕ) (t : List ℕ) (o : Option (List ℕ × List ℕ)) → filled_by (filled most s) s d n vs (b ∷ t) (later_part b o) ≡ filled_by (filled most s) s (and_write d (b ∷ [])) n vs t o
  part_later most d b t None = ap at_end (more d (b ∷ []) t)
  part_later most d b t (Some p) = ap (with_rest most p.1) (more d (b ∷ []) p.0)

  byte_filled : (most : ℕ) (d : DraftView) (b : ℕ) (t : List ℕ) → (37 == b) ≡ false → filled most s d n vs (b ∷ t) ≡ filled most s (and_write d (b ∷ [])) n vs t
  unfolding filled
  byte_filled zero d b t h = ap at_end (more d (b ∷ []) t)
  byte_filled (suc most) d b t h = ap (filled_by (filled most s) s d n vs (b ∷ t)) (partition_later b t h) ∙ part_later most d b t (partition (codes "%") t)

  -- two percent signs
  pair_filled : (most : ℕ) (d : DraftView) (t : List ℕ) → filled (suc most) s d n vs (37 ∷ 37 ∷ t) ≡ filled most s (and_write (and_write d []) (codes "%")) n vs t
  unfolding filled partition find
  pair_filled most d t = refl

-- ---- the whole text

module _ (s : StoreView) (n : ℕ) where
  -- with as many percent signs at most as bytes are left
  abbrev Gives : List ℕ → Type 0
  Gives text = (most : ℕ) (d : DraftView) → length (doubled text) ≤ most → filled most s d n [] (doubled text) ≡ draft (and_write d text) n

  nothing_gives : (most : ℕ) (d : DraftView) → filled most s d n [] [] ≡ draft (and_write d []) n
  unfolding filled partition find
  nothing_gives zero d = refl
  nothing_gives (suc most) d = refl

  sign_gives : (text : List ℕ) → Gives text → (most : ℕ) (d : DraftView) → length (37 ∷ 37 ∷ doubled text) ≤ most → filled most s d n [] (37 ∷ 37 ∷ doubled text) ≡ draft (and_write d (37 ∷ text)) n
  sign_gives text later zero d fits = absurd (omega (arith, fits))
  sign_gives text later (suc most) d fits =
      let both : and_write (and_write (and_write d []) (codes "%")) text ≡ and_write d (37 ∷ text) = ap (λ (e : DraftView). and_write e text) (sym (more d [] (codes "%"))) ∙ sym (more d (codes "%") text) in
      pair_filled s n [] most d (doubled text) ∙ (later most (and_write (and_write d []) (codes "%")) (omega (arith, fits)) ∙ ap (λ (e : DraftView). draft e n) both)

  if_sign : (b : ℕ) (bs : List ℕ) → Gives bs → (most : ℕ) (d : DraftView) → length (doubled (b ∷ bs)) ≤ most → (37 == b) ≡ true → filled most s d n [] (doubled (b ∷ bs)) ≡ draft (and_write d (b ∷ bs)) n
  if_sign b bs later most d fits t =
      let shape : doubled (b ∷ bs) ≡ 37 ∷ 37 ∷ doubled bs = rw t refl in
      ap (filled most s d n []) shape ∙ (sign_gives bs later most d (subst (λ (f : List ℕ). length f ≤ most) shape fits) ∙ ap (λ (c : ℕ). draft (and_write d (c ∷ bs)) n) (eqb-true 37 b t))

  if_other : (b : ℕ) (bs : List ℕ) → Gives bs → (most : ℕ) (d : DraftView) → length (doubled (b ∷ bs)) ≤ most → (37 == b) ≡ false → filled most s d n [] (doubled (b ∷ bs)) ≡ draft (and_write d (b ∷ bs)) n
  if_other b bs later most d fits t =
      let shape : doubled (b ∷ bs) ≡ b ∷ doubled bs = rw t refl in
      let room : length (b ∷ doubled bs) ≤ most = subst (λ (f : List ℕ). length f ≤ most) shape fits in
      ap (filled most s d n []) shape ∙ (byte_filled s n [] most d b (doubled bs) t ∙ (later most (and_write d (b ∷ [])) (omega (arith, room)) ∙ ap (λ (e : DraftView). draft e n) (sym (more d (b ∷ []) bs))))

  text_gives : (text : List ℕ) → Gives text
  text_gives [] most d fits = nothing_gives most d
  text_gives (b ∷ bs) most d fits = elim (by_bool (37 == b)) [
    | inl t ↦ if_sign b bs (text_gives bs) most d fits t
    | inr t ↦ if_other b bs (text_gives bs) most d fits t
  ]

  finish : (text : List ℕ) → length text ≤ max_text → text_by (draft (and_write blank text) n) ≡ Ok (text, n)
  unfolding written
  finish text fits = let yes : nat_le (length {A = ℕ} [] + length text) max_text ≡ true = grind (arith, nat_tests, fits) in rw yes refl

pub doubled_gives : (s : StoreView) (n : ℕ) (text : List ℕ) → length text ≤ max_text → text_filled s n (doubled text) [] ≡ Ok (text, n)
doubled_gives s n text fits = ap text_by (text_gives s n text (length (doubled text)) blank (omega arith)) ∙ finish s n text fits
