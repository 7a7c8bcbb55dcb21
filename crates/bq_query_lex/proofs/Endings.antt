-- What is before an ending, by the tests of the code, and the endings that are passed over.
use Rattle.std.proofs.Common.{◌≡◌, ◌∙◌, ℕ, ◌<◌, ◌≤◌, ◌+◌, ◌-◌, true, false, List, [], ◌∷◌, length, take, drop, map, get_or, refl, sym, ap, arith}
use Rattle.std.proofs.lemmas.List.{take_all}
use Rattle.std.specs.Prelude.{Option, Some, None, nat_eq}
use Rattle.std.specs.Option.{option_map, unwrap_or}
use Rattle.std.specs.List.{ends_with, list_any}
use Rattle.bq_query_lex.specs.declared.target_pattern.PatternForm.{PatternForm}
use Rattle.bq_query_lex.specs.TargetPatterns.{is_colon, part_before, form_by}

module _ (end : List ℕ) (n : ℕ) (word : List ℕ) where
  pub other_end : ends_with nat_eq word end ≡ false → part_before end n word ≡ None
  unfolding part_before
  other_end h = rw h refl

  pub with_colon : (k : ℕ) → k ≡ length word - n → ends_with nat_eq word end ≡ true → list_any is_colon (take k word) ≡ true → part_before end n word ≡ None
  unfolding part_before
  with_colon k e h c = let there : list_any is_colon (take (length word - n) word) ≡ true = ap (λ (m : ℕ). list_any is_colon (take m word)) (sym e) ∙ c in rw (h, there) refl

  pub a_package : (k : ℕ) → k ≡ length word - n → ends_with nat_eq word end ≡ true → list_any is_colon (take k word) ≡ false → part_before end n word ≡ Some (take k word)
  unfolding part_before
  a_package k e h c =
      let there : list_any is_colon (take (length word - n) word) ≡ false = ap (λ (m : ℕ). list_any is_colon (take m word)) (sym e) ∙ c in
      rw (h, there) (ap (λ (m : ℕ). Some (take m word)) (sym e))

-- ---- one step along the endings

-- an ending, how many of its bytes are left out, and its form
abbrev pub Ending : Type 0
Ending = List ℕ × ℕ × PatternForm

-- the form of an ending, and the part before it, if the word has that ending
abbrev pub form_or : PatternForm → PatternForm × List ℕ → Option (List ℕ) → PatternForm × List ℕ
form_or f other o = unwrap_or (option_map (λ part. (f, part)) o) other

module _ {X : Type 0} (f : X → Ending) (word : List ℕ) (answer : PatternForm × List ℕ) where
  pub passed_over : (es : List X) (d : X) (k : ℕ) → 0 < length es → length es ≤ k + 1 → form_by (map f es) word ≡ answer → part_before (f (get_or es 0 d)).0 (f (get_or es 0 d)).1 word ≡ None
      → form_by (map f (take k (drop 1 es))) word ≡ answer
  passed_over [] d k h l i n = absurd (omega (arith, h))
  passed_over (e ∷ es) d k h l i n = ap (λ (zs : List X). form_by (map f zs) word) (take_all k es (omega (arith, l))) ∙ (sym (ap (form_or (f e).2 (form_by (map f es) word)) n) ∙ i)

  pub chosen : (es : List X) (d : X) (part : List ℕ) → 0 < length es → form_by (map f es) word ≡ answer → part_before (f (get_or es 0 d)).0 (f (get_or es 0 d)).1 word ≡ Some part → ((f (get_or es 0 d)).2, part) ≡ answer
  chosen [] d part h i n = absurd (omega (arith, h))
  chosen (e ∷ es) d part h i n = sym (ap (form_or (f e).2 (form_by (map f es) word)) n) ∙ i
