-- The parts of a partition.
use Rattle.std.proofs.Common.{◌≡◌, subst, refl, ℕ, ◌+◌, Bool, true, false, List, [], ◌∷◌, take, drop, length, Option, Some, None, Result, Ok, Err}
use Rattle.std.specs.Prelude.{bytes_eq, if◌then◌else◌}
use Rattle.bq_base.specs.declared.fault.EvalFault.{EvalFault}
use Rattle.bq_base.specs.declared.fault.EvalFault.TheVariants.{BadValue}
use Rattle.bq_builtin_strings.specs.Search.{IsLeastPlace, IsGreatestPlace, find, rfind}
use Rattle.bq_builtin_strings.specs.Parts as parts
use Rattle.bq_builtin_strings.specs.Parts.{around}
use Rattle.bq_builtin_strings.proofs.Places.{find_least, rfind_greatest, found_whole, rfound_whole}
use Rattle.bq_value.specs.Datum.{Datum, string}
use Rattle.bq_builtin_string_methods.specs.Cuts.{three_parts, cut_once, partition}
use Rattle.bq_builtin_string_methods.specs.declared.cuts.Side.{Side}
use Rattle.bq_builtin_string_methods.specs.declared.cuts.Side.TheVariants.{Left, Right}
use Rattle.bq_builtin_laws.specs.StringMethods.Parts.{AreThreeParts, cut, whole_first, whole_last}

abbrev result : Datum → Result Datum EvalFault
result v = Ok v

module _ (separator text : List ℕ) where
  some_by : (b : Bool) (x v : Datum) → (if b then Err BadValue else Ok x) ≡ result v → x ≡ v
  some_by true x v h = absurd (cc)
  some_by false x v h = cc

  left : (o : Option ℕ) → find separator text ≡ o → AreThreeParts separator text (three_parts Left separator text (around separator text o)) Left
  left None e = whole_first (subst (IsLeastPlace separator text) e (find_least separator text)) refl
  left (Some at) e = cut (take at text) (drop (at + length separator) text) refl (found_whole separator text at e)

  right : (o : Option ℕ) → rfind separator text ≡ o → AreThreeParts separator text (three_parts Right separator text (around separator text o)) Right
  right None e = whole_last (subst (IsGreatestPlace separator text) e (rfind_greatest separator text)) refl
  right (Some at) e = cut (take at text) (drop (at + length separator) text) refl (rfound_whole separator text at e)

  by_side : (side : Side) → AreThreeParts separator text (three_parts side separator text (cut_once side separator text)) side
  unfolding parts.partition parts.rpartition
  by_side Left = left (find separator text) refl
  by_side Right = right (rfind separator text) refl

pub three_parts_are : (side : Side) (separator text : List ℕ) (v : Datum) → partition side text (string separator ∷ []) ≡ Ok v → AreThreeParts separator text v side
unfolding partition
three_parts_are side separator text v h =
    subst (λ x. AreThreeParts separator text x side) (some_by separator text (bytes_eq separator []) (three_parts side separator text (cut_once side separator text)) v h) (by_side separator text side)
