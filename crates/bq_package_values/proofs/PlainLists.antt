-- A list of plain names is, as a list of labels, that of the package's own labels of these names.
use Rattle.std.proofs.Common.{◌≡◌, ◌∙◌, Bool, true, false, List, [], ◌∷◌, map, Ok, refl, ap}
use Rattle.std.proofs.lemmas.Bool.{false≢true}
use Rattle.std.specs.List.{AllZip, list_all}
use Rattle.bq_base.specs.declared.fault.EvalFault.{EvalFault}
use Rattle.bq_base.specs.declared.fault.EvalFault.TheVariants as f
use Rattle.bq_label.specs.declared.packages.BuildFile.{BuildFile}
use Rattle.bq_label.specs.Label.{PackageParts, LabelParts, IsPackage, label_in}
use Rattle.bq_label.proofs.Readings.{first_of_two, second_of_two}
use Rattle.bq_value.specs.Datum.{Datum, none, boolean, int, string, tuple, range, cell, function, built_in, rule_function, attribute}
use Rattle.bq_value.specs.Cells.{StoreView}
use Rattle.bq_package_values.specs.declared.label_texts.TextKind.TheVariants as k
use Rattle.bq_package_values.specs.Scope.{ShortNamesCross}
use Rattle.bq_package_values.specs.Texts.{text_in, elements_in, all_texts, texts_in}
use Rattle.bq_package_values.specs.PlainNames.{is_plain_name}
use Rattle.bq_package_values.specs.PlainLists.{is_plain, text, own_label}
use Rattle.bq_package_values.specs.Types.{written_as}
use Rattle.bq_package_values.specs.Values.{typed, value_as, AreLabelsOf}
use Rattle.bq_package_values.proofs.PlainNames.{both_true, plain_labels}
use Rattle.bq_package_values.proofs.Turns.{answered_in_turn}

-- a plain name is a string
abbrev IsName : EvalFault → Datum → Type 0
IsName why v = (text_in why v ≡ Ok (text v)) × (is_plain_name (text v) ≡ true)

is_name : (why : EvalFault) (v : Datum) → is_plain v ≡ true → IsName why v
unfolding text_in
is_name why none h = absurd (false≢true h)
is_name why (boolean b) h = absurd (false≢true h)
is_name why (int n) h = absurd (false≢true h)
is_name why (string s) h = (refl, h)
is_name why (tuple vs) h = absurd (false≢true h)
is_name why (range a b c) h = absurd (false≢true h)
is_name why (cell m n) h = absurd (false≢true h)
is_name why (function m n name vs) h = absurd (false≢true h)
is_name why (built_in b) h = absurd (false≢true h)
is_name why (rule_function g) h = absurd (false≢true h)
is_name why (attribute x) h = absurd (false≢true h)

module _ (why : EvalFault) where
  are_texts : (vs : List Datum) → list_all is_plain vs ≡ true → AllZip (λ v s. text_in why v ≡ Ok s) vs (map text vs)
  are_texts [] h = tt
  are_texts (v ∷ vs) h = ((is_name why v (first_of_two (is_plain v) _ h)).0, are_texts vs (second_of_two (is_plain v) _ h))

  are_names : (vs : List Datum) → list_all is_plain vs ≡ true → list_all is_plain_name (map text vs) ≡ true
  are_names [] h = refl
  are_names (v ∷ vs) h =
      both_true (is_plain_name (text v)) (list_all is_plain_name (map text vs)) (is_name why v (first_of_two (is_plain v) _ h)).1 (are_names vs (second_of_two (is_plain v) _ h))

  texts_are : (store : StoreView) (v : Datum) (vs : List Datum) → elements_in why store v ≡ Ok vs → list_all is_plain vs ≡ true → texts_in why store v ≡ Ok (map text vs)
  unfolding texts_in all_texts
  texts_are store v vs is h = rw is (answered_in_turn (text_in why) [] vs (map text vs) (are_texts vs h))

of_texts : (own : PackageParts) (vs : List Datum) → map (own_label own) vs ≡ map (label_in own) (map text vs)
of_texts own [] = refl
of_texts own (v ∷ vs) = ap (λ (ls : List LabelParts). label_in own (text v) ∷ ls) (of_texts own vs)

pub plain_list : (own : PackageParts) (packages : List BuildFile) (valid : IsPackage own) (cross : Bool) (short : ShortNamesCross own packages cross) (stay : cross ≡ false) (store : StoreView)
    (v : Datum) (vs : List Datum) (ls : List LabelParts) → elements_in f.AttributeType store v ≡ Ok vs → list_all is_plain vs ≡ true → ls ≡ map (own_label own) vs → AreLabelsOf own packages store v ls
unfolding value_as written_as typed
plain_list own packages valid cross short stay store v vs ls elements plain are =
    let names = are_names f.AttributeType vs plain in
    rw (
      texts_are f.AttributeType store v vs elements plain,
      plain_labels own packages k.Label valid cross short stay (map text vs) ls names (are ∙ of_texts own vs),
    ) refl
