-- Strings whose ends are stripped.
use Rattle.std.proofs.Common.{◌≡◌, ◌∙◌, refl, sym, ap, subst, ℕ, ◌+◌, ◌-◌, ◌<◌, ◌≤◌, Bool, false, List, [], ◌∷◌, ◌++◌, length, take, drop, get_or, Result, Ok, arith, length-append, length-drop, length-take-le}
use Rattle.std.specs.Prelude.{reverse, slice_get}
use Rattle.std.specs.List.{prefix_len, suffix_len}
use Rattle.std.proofs.Math.Seq.{get_or-append_seam}
use Rattle.std.proofs.lemmas.List.{take-append-drop, get_or-take, get_or-drop, get_or-reverse, length-reverse}
use Rattle.std.proofs.lemmas.List.Sums.{prefix_len-le-length, prefix_len_passes, prefix_len_stops, suffix_len-le-length}
use Rattle.bq_base.specs.declared.fault.EvalFault.{EvalFault}
use Rattle.bq_value.specs.Datum.{Datum}
use Rattle.bq_builtin_strings.specs.Trim as trim
use Rattle.bq_builtin_strings.specs.Trim.{is_among, lstrip, rstrip}
use Rattle.bq_builtin_string_methods.specs.Argument.{bytes_in}
use Rattle.bq_builtin_machine.specs.Answer.{and_then}
use Rattle.bq_builtin_string_methods.specs.Strips.{without, strip}
use Rattle.bq_builtin_string_methods.specs.declared.strips.StripMethod.{StripMethod}
use Rattle.bq_builtin_string_methods.specs.declared.strips.StripMethod.TheVariants.{Strip, Lstrip, Rstrip}
use Rattle.bq_builtin_laws.specs.StringMethods.Stripped.{AreOf, BeginsOutside, IsCutAtStart, IsCutAtEnd, IsCutAtBothEnds}

module _ (set : List ℕ) where
  abbrev p : ℕ → Bool
  p = is_among set

  -- ---- at the start

  start_cut : (text : List ℕ) → AreOf set (take (prefix_len p text) text)
  start_cut text k d below =
      let most : length (take (prefix_len p text) text) ≡ prefix_len p text = length-take-le (prefix_len p text) text (prefix_len-le-length p text) in
      let inside : k < prefix_len p text = omega (arith, below, most) in
      ap p (get_or-take (prefix_len p text) text k d inside) ∙ prefix_len_passes p text k d inside

  start_begins : (text : List ℕ) → BeginsOutside set (drop (prefix_len p text) text)
  start_begins text b rest is =
      let some : prefix_len p text < length text = omega (arith, length-drop (prefix_len p text) text, ap length is) in
      let same : prefix_len p text + 0 ≡ prefix_len p text = omega arith in
      let first : b ≡ get_or text (prefix_len p text) 0 = ap (λ (xs : List ℕ). get_or xs 0 0) (sym is) ∙ (get_or-drop (prefix_len p text) text 0 0 ∙ ap (λ (n : ℕ). get_or text n 0) same) in
      ap p first ∙ prefix_len_stops p text 0 some

  at_start : (text : List ℕ) → IsCutAtStart set text (lstrip set text)
  unfolding lstrip
  at_start text = record {
    before = take (prefix_len p text) text;
    whole = sym (take-append-drop (prefix_len p text) text);
    cut = start_cut text;
    begins = start_begins text;
  }

  -- ---- at the end

  -- how much is left
  abbrev rest_len : List ℕ → ℕ
  rest_len text = length text - suffix_len p text

  end_cut : (text : List ℕ) → AreOf set (drop (rest_len text) text)
  end_cut text k d below =
      let fits : suffix_len p text ≤ length text = suffix_len-le-length p text in
      let inside : k < suffix_len p text = omega (arith, below, fits, length-drop (rest_len text) text) in
      let back : length text - 1 - (suffix_len p text - 1 - k) ≡ rest_len text + k = omega (arith, inside, fits) in
      let there : get_or (reverse text) (suffix_len p text - 1 - k) d ≡ get_or text (rest_len text + k) d =
      get_or-reverse text (suffix_len p text - 1 - k) d (omega (arith, inside, fits)) ∙ ap (λ (n : ℕ). get_or text n d) back in
      ap p (get_or-drop (rest_len text) text k d ∙ sym there) ∙ prefix_len_passes p (reverse text) (suffix_len p text - 1 - k) d (omega (arith, inside))

  end_ends : (text more : List ℕ) (b : ℕ) → take (rest_len text) text ≡ more ++ b ∷ [] → is_among set b ≡ false
  end_ends text more b is =
      let fits : suffix_len p text ≤ length text = suffix_len-le-length p text in
      let size : length (take (rest_len text) text) ≡ rest_len text = length-take-le (rest_len text) text (omega arith) in
      let len : length more + 1 ≡ rest_len text = omega (arith, size, ap length is, length-append more (b ∷ [])) in
      let some : suffix_len p text < length text = omega (arith, len) in
      let last : b ≡ get_or text (length more) 0 =
      sym (get_or-append_seam more b [] 0) ∙ (ap (λ (xs : List ℕ). get_or xs (length more) 0) (sym is) ∙ get_or-take (rest_len text) text (length more) 0 (omega (arith, len))) in
      let back : length text - 1 - suffix_len p text ≡ length more = omega (arith, len, some) in
      let there : get_or (reverse text) (suffix_len p text) 0 ≡ get_or text (length more) 0 = get_or-reverse text (suffix_len p text) 0 some ∙ ap (λ (n : ℕ). get_or text n 0) back in
      ap p (last ∙ sym there) ∙ prefix_len_stops p (reverse text) 0 (omega (arith, some, length-reverse text))

  at_end : (text : List ℕ) → IsCutAtEnd set text (rstrip set text)
  unfolding rstrip
  at_end text = record {
    after = drop (rest_len text) text;
    whole = sym (take-append-drop (rest_len text) text);
    cut = end_cut text;
    ends = end_ends text;
  }

  -- ---- at both ends

  -- a beginning of a text begins as the text does
  begins_as : (text left after : List ℕ) → text ≡ left ++ after → BeginsOutside set text → BeginsOutside set left
  begins_as text left after whole h b rest is = h b (rest ++ after) (whole ∙ ap (λ (t : List ℕ). t ++ after) is)

  at_both : (text : List ℕ) → IsCutAtBothEnds set text (trim.strip set text)
  at_both text =
      let start = at_start text in
      let last = at_end (lstrip set text) in
      record {
        before = start.before;
        after = last.after;
        whole = start.whole ∙ ap (λ (t : List ℕ). start.before ++ t) last.whole;
        cut_before = start.cut;
        cut_after = last.cut;
        begins = begins_as (lstrip set text) (rstrip set (lstrip set text)) last.after last.whole start.begins;
        ends = last.ends;
      }

-- ---- the methods

abbrev result : List ℕ → Result (List ℕ) EvalFault
result text = Ok text

same_text : (a b : List ℕ) → result a ≡ result b → a ≡ b
same_text a b e = cc

module _ (text set left : List ℕ) (vs : List Datum) (asked : bytes_in (slice_get vs 0) ≡ Ok set) where
  left_by : (m : StripMethod) → strip m text vs ≡ and_then (bytes_in (slice_get vs 0)) (λ end. result (without m end text)) → strip m text vs ≡ Ok left → without m set text ≡ left
  left_by m by h = same_text (without m set text) left (ap (λ (r : Result (List ℕ) EvalFault). and_then r (λ end. result (without m end text))) (sym asked) ∙ (sym by ∙ h))

  pub both_ends : strip Strip text vs ≡ Ok left → IsCutAtBothEnds set text left
  unfolding strip
  both_ends h = let is : trim.strip set text ≡ left = left_by Strip refl h in subst (IsCutAtBothEnds set text) is (at_both set text)

  pub the_start : strip Lstrip text vs ≡ Ok left → IsCutAtStart set text left
  unfolding strip
  the_start h = let is : lstrip set text ≡ left = left_by Lstrip refl h in subst (IsCutAtStart set text) is (at_start set text)

  pub the_end : strip Rstrip text vs ≡ Ok left → IsCutAtEnd set text left
  unfolding strip
  the_end h = let is : rstrip set text ≡ left = left_by Rstrip refl h in subst (IsCutAtEnd set text) is (at_end set text)
