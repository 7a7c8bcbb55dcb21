-- Tuples of affixes.
use Rattle.std.proofs.Common.{◌≡◌, ◌∙◌, ap, ℕ, Bool, true, false, List, [], ◌∷◌, length, None, Result, Ok}
use Rattle.std.specs.Prelude.{◌||◌, Any, All, slice_index_or}
use Rattle.std.specs.List.{list_any}
use Rattle.std.proofs.lemmas.List.Folds.{list_any-from_Any, list_any_none}
use Rattle.bq_base.specs.declared.fault.EvalFault.{EvalFault}
use Rattle.bq_builtin_strings.specs.Place.{bound}
use Rattle.bq_value.specs.Datum.{Datum, boolean, string, tuple, data_of, list_of_data_of}
use Rattle.bq_builtin_string_methods.specs.Affixes.{has_end, texts_of, ends}
use Rattle.bq_builtin_string_methods.specs.Argument.{part_of}
use Rattle.bq_builtin_machine.specs.Answer.{and_then}
use Rattle.bq_builtin_string_methods.specs.declared.affixes.EndMethod.{EndMethod}

-- the region that is looked at where none is given
abbrev whole : List ℕ → List ℕ
whole text = part_of text (bound (length text) 0 None) (bound (length text) (length text) None)

abbrev answer : Bool → Result Datum EvalFault
answer b = Ok (boolean b)

same : (a b : Bool) → answer a ≡ answer b → a ≡ b
same a b e = cc

module _ (m : EndMethod) (text : List ℕ) where
  of_one : (t : List ℕ) (b : Bool) → ends m text (string t ∷ []) ≡ Ok (boolean b) → has_end m (whole text) t ≡ b
  unfolding ends
  of_one t b h = alone (has_end m (whole text) t) b h
    where
      alone : (x c : Bool) → answer (x || false) ≡ answer c → x ≡ c
      alone true c e = same true c e
      alone false c e = same false c e

  of_tuple : (vs : List Datum) (texts : List (List ℕ)) → texts_of vs ≡ Ok texts → ends m text (tuple (data_of vs) ∷ []) ≡ Ok (boolean (list_any (has_end m (whole text)) texts))
  unfolding ends
  of_tuple vs texts h =
      ap (λ ws. and_then (texts_of ws) (λ ts. answer (list_any (has_end m (whole text)) ts))) (list_of_data_of vs)
      ∙ ap (λ r. and_then r (λ ts. answer (list_any (has_end m (whole text)) ts))) h

  pub one_ends : (vs : List Datum) (texts : List (List ℕ)) → texts_of vs ≡ Ok texts → Any (λ t. ends m text (string t ∷ []) ≡ Ok (boolean true)) texts → ends m text (tuple (data_of vs) ∷ []) ≡ Ok (boolean true)
  one_ends vs texts h any =
      of_tuple vs texts h ∙ ap answer (list_any-from_Any (has_end m (whole text)) texts (any.0, any.1, any.2, any.3, of_one any.1 true any.4))

  pub none_ends : (vs : List Datum) (texts : List (List ℕ)) → texts_of vs ≡ Ok texts → All (λ t. ends m text (string t ∷ []) ≡ Ok (boolean false)) texts → ends m text (tuple (data_of vs) ∷ []) ≡ Ok (boolean false)
  none_ends vs texts h all =
      of_tuple vs texts h ∙ ap answer (list_any_none (has_end m (whole text)) texts (λ k d below. of_one (slice_index_or texts k d) false (all k d below)))
