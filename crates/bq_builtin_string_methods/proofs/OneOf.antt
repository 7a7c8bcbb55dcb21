-- Whether one of some strings is at an end, one string after another.
use Rattle.std.proofs.Common.{◌≡◌, ◌∙◌, ℕ, ◌+◌, ◌<◌, ◌≤◌, Bool, true, false, List, [], ◌∷◌, Some, Result, Ok, Err, length, drop, get_or, refl, ap}
use Rattle.std.proofs.lemmas.List.{drop_more, drop_all}
use Rattle.std.specs.Prelude.{◌||◌}
use Rattle.std.specs.List.{list_any}
use Rattle.bq_base.specs.declared.fault.EvalFault.{EvalFault}
use Rattle.bq_value.specs.Datum.{Datum, none}
use Rattle.bq_builtin_string_methods.specs.Argument.{text_in}
use Rattle.bq_builtin_machine.specs.Answer.{and_then}
use Rattle.bq_builtin_string_methods.specs.Affixes.{texts_of}

module _ (p : List ℕ → Bool) where
  -- whether one was found so far, or is among the strings of these
  abbrev pub found_after : Bool → Result (List (List ℕ)) EvalFault → Result Bool EvalFault
  found_after found r = and_then r (λ texts. Ok (found || list_any p texts))

  onto : (found : Bool) (text : List ℕ) (r : Result (List (List ℕ)) EvalFault) → found_after found (and_then r (λ texts. Ok (text ∷ texts))) ≡ found_after (found || p text) r
  onto true text (Ok texts) = refl
  onto false text (Ok texts) = refl
  onto found text (Err kind) = refl

  pub found_more : (found : Bool) (vs : List Datum) (i : ℕ) (text : List ℕ) → i < length vs → text_in (Some (get_or vs i none)) ≡ Ok text → found_after found (texts_of (drop i vs)) ≡ found_after (found || p text) (texts_of (drop (i + 1) vs))
  found_more found vs i text within is =
      ap (λ (l : List Datum). found_after found (texts_of l)) (drop_more vs i none within)
      ∙ (ap (λ (r : Result (List ℕ) EvalFault). found_after found (and_then r (λ t. and_then (texts_of (drop (i + 1) vs)) (λ texts. Ok (t ∷ texts))))) is ∙ onto found text (texts_of (drop (i + 1) vs)))

  pub found_bad : (found : Bool) (vs : List Datum) (i : ℕ) (kind : EvalFault) → i < length vs → text_in (Some (get_or vs i none)) ≡ Err kind → found_after found (texts_of (drop i vs)) ≡ Err kind
  found_bad found vs i kind within is =
      ap (λ (l : List Datum). found_after found (texts_of l)) (drop_more vs i none within)
      ∙ ap (λ (r : Result (List ℕ) EvalFault). found_after found (and_then r (λ t. and_then (texts_of (drop (i + 1) vs)) (λ texts. Ok (t ∷ texts))))) is

  or_none : (so : Bool) → so || false ≡ so
  or_none true = refl
  or_none false = refl

  pub found_end : (found : Bool) (vs : List Datum) (i : ℕ) → length vs ≤ i → found_after found (texts_of (drop i vs)) ≡ Ok found
  found_end found vs i end = ap (λ (l : List Datum). found_after found (texts_of l)) (drop_all i vs end) ∙ ap Ok (or_none found)

  pub one_text : (text : List ℕ) → list_any p (text ∷ []) ≡ p text
  one_text text = or_none (p text)
