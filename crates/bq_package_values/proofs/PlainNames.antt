-- Plain names are labels of the package, and read as them.
use Rattle.std.proofs.Common.{◌≡◌, ◌∙◌, ◌++◌, ◌&&◌, ◌==◌, ◌<◌, ℕ, Bool, true, false, List, [], ◌∷◌, map, length, get_or, Ok, inl, inr, refl, sym, ap, append_assoc, append-nil}
use Rattle.std.proofs.lemmas.Bool.{cases_Bool, false≢true}
use Rattle.std.proofs.lemmas.List.Folds.{list_all_at}
use Rattle.std.specs.List.{list_all, list_any, slice_split}
use Rattle.bq_label.specs.declared.packages.BuildFile.{BuildFile}
use Rattle.bq_label.specs.Label.{PackageParts, LabelParts, IsPackage, ReadsAs, bare_name, BeginsOther, at_sign, label_in}
use Rattle.bq_label.specs.Paths.{is_slash, is_path_byte, is_segment, is_path, HasNoSlash}
use Rattle.bq_label.proofs.Readings.{first_of_two, second_of_two, none_of, path_begins, label_from_reading}
use Rattle.bq_package_values.specs.declared.label_texts.TextKind.{TextKind}
use Rattle.bq_package_values.specs.declared.label_texts.TextKind.TheVariants as k
use Rattle.bq_package_values.specs.Steps.{in_turn}
use Rattle.bq_package_values.specs.Scope.{ShortNamesCross, own_label_crosses, inside, all_inside}
use Rattle.bq_package_values.specs.PlainNames.{is_plain_byte, is_plain_name}
use Rattle.bq_package_values.specs.LabelTexts.{without_colon, read, read_all, label, labels}
use Rattle.bq_package_values.proofs.ValueCases.{label_found}
use Rattle.bq_package_values.proofs.Crossings.{in_own}

pub both_true : (a b : Bool) → a ≡ true → b ≡ true → (a && b) ≡ true
both_true true b h k = k
both_true false b h k = absurd (false≢true h)

path_bytes : (n : List ℕ) → list_all is_plain_byte n ≡ true → list_all is_path_byte n ≡ true
path_bytes [] h = refl
path_bytes (b ∷ bs) h =
    both_true (is_path_byte b) (list_all is_path_byte bs) (first_of_two (is_path_byte b) _ (first_of_two (is_plain_byte b) _ h)) (path_bytes bs (second_of_two (is_plain_byte b) _ h))

plain_bytes : (n : List ℕ) → is_plain_name n ≡ true → list_all is_plain_byte n ≡ true
unfolding is_plain_name
plain_bytes n h = first_of_two (list_all is_plain_byte n) (is_segment n) (second_of_two _ _ h)

plain_segment : (n : List ℕ) → is_plain_name n ≡ true → is_segment n ≡ true
unfolding is_plain_name
plain_segment n h = second_of_two (list_all is_plain_byte n) (is_segment n) (second_of_two _ _ h)

no_slash : (n : List ℕ) → is_plain_name n ≡ true → HasNoSlash n
no_slash n h = none_of is_plain_byte 47 refl n (plain_bytes n h)

one_segment : (n : List ℕ) → HasNoSlash n → slice_split is_slash n ≡ n ∷ []
one_segment [] h = refl
one_segment (b ∷ bs) h = elim (cases_Bool (b == 47)) [
  | inl y ↦ absurd (false≢true (sym h ∙ rw y refl))
  | inr o ↦ rw (o, one_segment bs (sym (rw o refl) ∙ h)) refl
]

pub plain_is_path : (n : List ℕ) → is_plain_name n ≡ true → is_path n ≡ true
unfolding is_path
plain_is_path n h =
    let segments : list_all is_segment (slice_split is_slash n) ≡ true = ap (list_all is_segment) (one_segment n (no_slash n h)) ∙ both_true (is_segment n) true (plain_segment n h) refl in
    both_true (list_all is_path_byte n) (list_all is_segment (slice_split is_slash n)) (path_bytes n (plain_bytes n h)) segments

-- one of those that pass, by its place
pub passes_at : {X : Type 0} (p : X → Bool) (xs : List X) (i : ℕ) (x : X) → list_all p xs ≡ true → i < length xs → x ≡ get_or xs i x → p x ≡ true
passes_at p xs i x h within is = elim (cases_Bool (p x)) [
  | inl y ↦ y
  | inr o ↦ absurd (false≢true (sym (list_all_at p xs i x within (ap p (sym is) ∙ o)) ∙ h))
]

-- one of the names, by its place
pub plain_at : (ns : List (List ℕ)) (i : ℕ) (n : List ℕ) → list_all is_plain_name ns ≡ true → i < length ns → n ≡ get_or ns i n → is_path n ≡ true
plain_at ns i n h within is = plain_is_path n (passes_at is_plain_name ns i n h within is)

begins_other : (n : List ℕ) → is_plain_name n ≡ true → BeginsOther at_sign n
begins_other [] h = tt
begins_other (b ∷ bs) h = λ e. false≢true (sym (ap is_plain_byte e) ∙ first_of_two (is_plain_byte b) _ (plain_bytes (b ∷ bs) h))

plain_reads_as : (own : PackageParts) (n : List ℕ) → IsPackage own → is_plain_name n ≡ true → ReadsAs own n (label_in own n)
plain_reads_as own n valid h = record {
  written = bare_name refl (begins_other n h) refl;
  valid = record { valid_repo = valid.valid_repo; valid_package = valid.valid_package; valid_name = plain_is_path n h };
}

plain_reads : (own : PackageParts) (kind : TextKind) (n : List ℕ) → IsPackage own → is_plain_name n ≡ true → read own kind n ≡ Ok (label_in own n)
unfolding read without_colon
plain_reads own k.Name n valid h = rw (plain_is_path n h) refl
plain_reads own k.Output [] valid h = absurd (false≢true (plain_segment [] h))
plain_reads own k.Output (b ∷ bs) valid h = rw ((path_begins b bs (plain_is_path (b ∷ bs) h)).1, plain_is_path (b ∷ bs) h) refl
plain_reads own k.Label n valid h = ap label_found (label_from_reading own n (label_in own n) (plain_reads_as own n valid h))

module _ (own : PackageParts) (packages : List BuildFile) (kind : TextKind) (valid : IsPackage own) (cross : Bool) (short : ShortNamesCross own packages cross) (stay : cross ≡ false) where
  stays : (n : List ℕ) → is_plain_name n ≡ true → own_label_crosses own packages (label_in own n) ≡ false
  unfolding own_label_crosses
  stays n h = rw (in_own own n) (short n (no_slash n h) ∙ stay)

  pub plain_label : (n : List ℕ) (l : LabelParts) → is_plain_name n ≡ true → l ≡ label_in own n → label own packages kind n ≡ Ok l
  unfolding label inside
  plain_label n l h is = rw (is, plain_reads own kind n valid h, stays n h) refl

  all_read : (done : List LabelParts) (ns : List (List ℕ)) → list_all is_plain_name ns ≡ true → in_turn (read own kind) done ns ≡ Ok (done ++ map (label_in own) ns)
  unfolding in_turn
  all_read done [] h = ap Ok (sym (append-nil done))
  all_read done (n ∷ ns) h =
      rw (plain_reads own kind n valid (first_of_two (is_plain_name n) _ h)) (all_read (done ++ label_in own n ∷ []) ns (second_of_two (is_plain_name n) _ h) ∙ ap Ok (append_assoc done (label_in own n ∷ []) (map (label_in own) ns)))

  none_crosses : (ns : List (List ℕ)) → list_all is_plain_name ns ≡ true → list_any (own_label_crosses own packages) (map (label_in own) ns) ≡ false
  none_crosses [] h = refl
  none_crosses (n ∷ ns) h = rw (stays n (first_of_two (is_plain_name n) _ h)) (none_crosses ns (second_of_two (is_plain_name n) _ h))

  pub plain_labels : (ns : List (List ℕ)) (ls : List LabelParts) → list_all is_plain_name ns ≡ true → ls ≡ map (label_in own) ns → labels own packages kind ns ≡ Ok ls
  unfolding labels read_all all_inside
  plain_labels ns ls h is = rw (is, all_read [] ns h, none_crosses ns h) refl
