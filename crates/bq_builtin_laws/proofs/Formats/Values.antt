-- A format takes as many values as it has conversions for them.
use Rattle.std.proofs.Common.{◌≡◌, ◌∙◌, sym, ap, refl, ℕ, zero, suc, inl, inr, true, false, cond, List, [], ◌∷◌, ◌++◌, drop, length, Option, Some, None, Ok, Err, codes}
use Rattle.std.specs.Prelude.{◌==◌}
use Rattle.bq_base.specs.declared.fault.EvalFault.TheVariants.{Format}
use Rattle.bq_base.proofs.Choices.{by_bool}
use Rattle.bq_builtin_strings.specs.Parts.{partition}
use Rattle.bq_value_text.specs.Shown.{text_shown, repr_shown}
use Rattle.bq_value.specs.Cells.{StoreView}
use Rattle.bq_value.specs.Datum.{Datum, int}
use Rattle.bq_value.specs.Looked.{Looked}
use Rattle.bq_builtin_format.specs.Percent.{DraftView, and_write, spoiled, and_then, decimal, takes_value, shown, next_shown, converted, values_after, ended, filled_by, filled, blank, text_by, text_filled}
use Rattle.bq_builtin_laws.proofs.Formats.Malformed.{draft, IsMalformed, onto_malformed, then_malformed, text_malformed, text_whole, not_both}

-- ---- what is malformed stays so

decimal_malformed : (d : DraftView) (v : Datum) → d.malformed ≡ true → (decimal d v).malformed ≡ true
decimal_malformed d (int z) h = h
decimal_malformed d v h = refl

shown_malformed : (s : StoreView) (d : DraftView) (n k : ℕ) (v : Datum) → d.malformed ≡ true → IsMalformed (shown s d n k v)
shown_malformed s d n k v h = elim (by_bool (k == 115)) [
  | inl t ↦ rw t (onto_malformed d.malformed (text_shown s d.page n v) h)
  | inr t ↦ elim (by_bool (k == 114)) [
    | inl u ↦ rw (t, u) (onto_malformed d.malformed (repr_shown s d.page n v) h)
    | inr u ↦ rw (t, u) (decimal_malformed d v h)
  ]
]

next_malformed : (s : StoreView) (d : DraftView) (n k : ℕ) (vs : List Datum) → d.malformed ≡ true → IsMalformed (next_shown s d n k vs)
next_malformed s d n k [] h = refl
next_malformed s d n k (v ∷ vs) h = shown_malformed s d n k v h

converted_malformed : (s : StoreView) (d : DraftView) (n : ℕ) (text : List ℕ) (vs : List Datum) → d.malformed ≡ true → IsMalformed (converted s d n text vs)
converted_malformed s d n [] vs h = refl
converted_malformed s d n (k ∷ rest) vs h = elim (by_bool (takes_value k)) [
  | inl t ↦ rw t (next_malformed s d n k vs h)
  | inr t ↦ elim (by_bool (k == 37)) [
    | inl u ↦ rw (t, u) h
    | inr u ↦ rw (t, u) refl
  ]
]

ended_malformed : (d : DraftView) (vs : List Datum) → d.malformed ≡ true → (ended d vs).malformed ≡ true
ended_malformed d [] h = h
ended_malformed d (v ∷ vs) h = refl

-- with a number of percent signs
abbrev KeepsMalformed : StoreView → ℕ → Type 0
KeepsMalformed s most = (d : DraftView) (n : ℕ) (vs : List Datum) (text : List ℕ) → d.malformed ≡ true → IsMalformed (filled most s d n vs text)

part_malformed : (s : StoreView) (most : ℕ) → KeepsMalformed s most → (d : DraftView) (n : ℕ) (vs : List Datum) (text : List ℕ) (o : Option (List ℕ × List ℕ)) → d.malformed ≡ true → IsMalformed (filled_by (filled most s) s d n vs text o)
part_malformed s most later d n vs text None h = ended_malformed (and_write d text) vs h
part_malformed s most later d n vs text (Some p) h =
    then_malformed (converted s (and_write d p.0) n p.1 vs) (λ e m. filled most s e m (values_after p.1 vs) (drop 1 p.1)) (converted_malformed s (and_write d p.0) n p.1 vs h)
    (λ e m bad. later e m (values_after p.1 vs) (drop 1 p.1) bad)

filled_malformed : (most : ℕ) (s : StoreView) → KeepsMalformed s most
unfolding filled
filled_malformed zero s d n vs text h = ended_malformed (and_write d text) vs h
filled_malformed (suc most) s d n vs text h = part_malformed s most (filled_malformed most s) d n vs text (partition (codes "%") text) h

-- ---- values that are left over

-- a run that is whole is malformed with more values
abbrev Spoils : Looked DraftView → Looked DraftView → Type 0
Spoils r more = (e : DraftView) (k : ℕ) → r ≡ draft e k → e.malformed ≡ false → (z : DraftView) × (j : ℕ) × (more ≡ draft z j) × (z.malformed ≡ true)

no_draft : (r : Looked DraftView) (e : DraftView) (k : ℕ) → IsMalformed r → r ≡ draft e k → e.malformed ≡ false → ⊥
no_draft (Ok p) e k h is whole = let same : p.0 ≡ e = cc in not_both e.malformed (ap (λ (x : DraftView). x.malformed) (sym same) ∙ h) whole
no_draft (Err kind) e k h is whole = cc

spoils_nothing : (r more : Looked DraftView) → IsMalformed r → Spoils r more
spoils_nothing r more h e k is whole = absurd (no_draft r e k h is whole)

module _ (v : Datum) (more : List Datum) where
  end_spoils : (d : DraftView) (n : ℕ) (vs : List Datum) → Spoils (draft (ended d vs) n) (draft (ended d (vs ++ v ∷ more)) n)
  end_spoils d n [] e k is whole = (spoiled d, n, refl, refl)
  end_spoils d n (w ∷ ws) e k is whole = absurd (no_draft (draft (spoiled d) n) e k refl is whole)

  then_spoils : (r : Looked DraftView) (f g : DraftView → ℕ → Looked DraftView) → ((d : DraftView) (n : ℕ) → Spoils (f d n) (g d n)) → Spoils (and_then r f) (and_then r g)
  then_spoils (Ok p) f g h = h p.0 p.1
  then_spoils (Err kind) f g h = λ e k is whole. absurd (cc)

  abbrev AllSpoil : StoreView → ℕ → Type 0
  AllSpoil s most = (d : DraftView) (n : ℕ) (vs : List Datum) (text : List ℕ) → Spoils (filled most s d n vs text) (filled most s d n (vs ++ v ∷ more) text)

  module _ (s : StoreView) (most : ℕ) (later : AllSpoil s most) (d : DraftView) (n : ℕ) where
    -- the conversion after a percent sign, and what comes then
    abbrev after : List Datum → List ℕ → List ℕ → Looked DraftView
    after ws before rest = and_then (converted s (and_write d before) n rest ws) (λ e m. filled most s e m (values_after rest ws) (drop 1 rest))

    malformed_after : (ws : List Datum) (before rest : List ℕ) → IsMalformed (converted s (and_write d before) n rest ws) → IsMalformed (after ws before rest)
    malformed_after ws before rest h =
        then_malformed (converted s (and_write d before) n rest ws) (λ e m. filled most s e m (values_after rest ws) (drop 1 rest)) h (λ e m bad. filled_malformed most s e m (values_after rest ws) (drop 1 rest) bad)

    taking : (ws : List Datum) (before : List ℕ) (k : ℕ) (rest : List ℕ) → takes_value k ≡ true → Spoils (after ws before (k ∷ rest)) (after (ws ++ v ∷ more) before (k ∷ rest))
    taking [] before k rest t = spoils_nothing (after [] before (k ∷ rest)) (after (v ∷ more) before (k ∷ rest)) (malformed_after [] before (k ∷ rest) (rw t refl))
    taking (w ∷ ws) before k rest t =
        rw t (then_spoils (shown s (and_write d before) n k w) (λ e m. filled most s e m ws rest) (λ e m. filled most s e m (ws ++ v ∷ more) rest) (λ e m. later e m ws rest))

    by_rest : (vs : List Datum) (before rest : List ℕ) → Spoils (after vs before rest) (after (vs ++ v ∷ more) before rest)
    by_rest vs before [] = spoils_nothing (after vs before []) (after (vs ++ v ∷ more) before []) (malformed_after vs before [] refl)
    by_rest vs before (k ∷ rest) = elim (by_bool (takes_value k)) [
      | inl t ↦ taking vs before k rest t
      | inr t ↦
          rw t (then_spoils (cond (k == 37) (Ok (and_write (and_write d before) (codes "%"), n)) (Ok (spoiled (and_write d before), n))) (λ e m. filled most s e m vs rest) (λ e m. filled most s e m (vs ++ v ∷ more) rest)
          (λ e m. later e m vs rest))
    ]

    by_part : (vs : List Datum) (text : List ℕ) (o : Option (List ℕ × List ℕ)) → Spoils (filled_by (filled most s) s d n vs text o) (filled_by (filled most s) s d n (vs ++ v ∷ more) text o)
    by_part vs text None = end_spoils (and_write d text) n vs
    by_part vs text (Some p) = by_rest vs p.0 p.1

  filled_spoils : (most : ℕ) (s : StoreView) → AllSpoil s most
  unfolding filled
  filled_spoils zero s d n vs text = end_spoils (and_write d text) n vs
  filled_spoils (suc most) s d n vs text = by_part s most (filled_spoils most s) d n vs text (partition (codes "%") text)

pub too_many : (s : StoreView) (n : ℕ) (format : List ℕ) (values more : List Datum) (v : Datum) (text : List ℕ × ℕ) → text_filled s n format values ≡ Ok text → text_filled s n format (values ++ v ∷ more) ≡ Err Format
too_many s n format values more v text h =
    let w = text_whole (filled (length format) s blank n values format) text h in
    let z = filled_spoils v more (length format) s blank n values format w.made w.left w.is w.whole in
    ap text_by z.2 ∙ text_malformed z.0 z.1 z.3
