-- A word that begins as a pattern is one exactly where it reads as a label.
use Rattle.std.proofs.Common.{◌≡◌, ◌≢◌, ◌⊎◌, ◌∙◌, ℕ, ◌+◌, ◌++◌, ◌==◌, Bool, true, false, List, [], ◌∷◌, Option, Some, None, length, take, drop, codes, refl, sym, ap, subst, append_assoc, arith, inl, inr}
use Rattle.std.specs.Prelude.{◌||◌, is_some}
use Rattle.std.specs.Option.{option_map}
use Rattle.std.specs.List.{list_all, list_any, slice_split}
use Rattle.std.proofs.lemmas.Bool.{false≢true}
use Rattle.std.proofs.lemmas.Bool.Decides.{nat_tests}
use Rattle.std.proofs.lemmas.List.{append-nil}
use Rattle.std.proofs.lemmas.List.Folds.{list_all-append, list_any-append}
use Rattle.bq_label.specs.Paths.{is_package, is_path, is_path_byte, is_repository, is_segment, is_slash}
use Rattle.bq_label.specs.Label.{PackageParts, LabelParts, BeginsOther, IsLabel, IsPackage, IsWritten, Spells, absolute, at_sign, bare_name, external, external_short, label_at, last_segment, own_name, package_at, package_of, repository, short}
use Rattle.bq_label.specs.Reading.{package_of_text}
use Rattle.bq_label.proofs.Cuts.{last_whole}
use Rattle.bq_label.proofs.PackageTexts.{package_read}
use Rattle.bq_label.proofs.Readings.{first_of_two, label_from_reading, no_slash, path_begins, reading_from_label, second_of_two}
use Rattle.bq_label.proofs.Segments.{last_cut, last_joined, path_joined, split_joined, two_true}
use Rattle.bq_query_lex.specs.declared.target_pattern.PatternForm.{PatternForm}
use Rattle.bq_query_lex.specs.declared.target_pattern.PatternForm.TheVariants as form
use Rattle.bq_query_lex.specs.TargetPatterns.{begins_pattern, endings, form_by, is_colon, part_before, word_form}
use Rattle.bq_query_lex.specs.declared.pattern.TargetPattern.TheVariants as pattern
use Rattle.bq_query_lex.proofs.Endings.{Ending, form_or}
use Rattle.bq_query_lex.specs.DotPatterns.{IsDots, dots_by}
use Rattle.bq_query_lex.specs.PatternReading.{PatternsReadAsLabels, label_named, pattern_by, pattern_of}
use Rattle.bq_query_lex.proofs.Patterns.{FirstFit, all_from, all_to, empty_no_path, first_fit, has_colon, label_in_it, named, other_end, parted, root_end, rules_from, rules_to, skip_all, spelled_by}

abbrev dots : List ℕ
dots = 46 ∷ 46 ∷ 46 ∷ []

abbrev root : PackageParts
root = package_at [] []

-- ---- paths

path_join : (d n : List ℕ) → is_path d ≡ true → is_path n ≡ true → is_path (d ++ 47 ∷ n) ≡ true
unfolding is_path
path_join d n h k =
    let bd : Bool = list_all is_path_byte d in
    let bn : Bool = list_all is_path_byte n in
    let sd : Bool = list_all is_segment (slice_split is_slash d) in
    let sn : Bool = list_all is_segment (slice_split is_slash n) in
    let bytes : list_all is_path_byte (d ++ 47 ∷ n) ≡ true = list_all-append is_path_byte d (47 ∷ n) ∙ two_true bd bn (first_of_two bd sd h) (first_of_two bn sn k) in
    let segments : list_all is_segment (slice_split is_slash (d ++ 47 ∷ n)) ≡ true =
    ap (list_all is_segment) (split_joined d n) ∙ (list_all-append is_segment (slice_split is_slash d) (slice_split is_slash n) ∙ two_true sd sn (second_of_two bd sd h) (second_of_two bn sn k)) in
    two_true (list_all is_path_byte (d ++ 47 ∷ n)) (list_all is_segment (slice_split is_slash (d ++ 47 ∷ n))) bytes segments

or_true : (b : Bool) → (b || true) ≡ true
or_true true = refl
or_true false = refl

path_is_package : (d : List ℕ) → is_path d ≡ true → is_package d ≡ true
unfolding is_package
path_is_package d h = rw h (or_true _)

package_is_path : (d n : List ℕ) → is_package (d ++ 47 ∷ n) ≡ true → is_path (d ++ 47 ∷ n) ≡ true
unfolding is_package
package_is_path [] n h = h
package_is_path (b ∷ bs) n h = h

dots_valid : is_path dots ≡ true
unfolding is_path
dots_valid = refl

all_valid : is_path (codes "all") ≡ true
unfolding is_path
all_valid = refl

star_valid : is_path (codes "*") ≡ true
unfolding is_path
star_valid = refl

targets_valid : is_path (codes "all-targets") ≡ true
unfolding is_path
targets_valid = refl

root_valid : IsPackage root
unfolding is_package is_path is_repository
root_valid = record { valid_repo = refl; valid_package = refl }

-- a path of one segment more
module _ (p : PackageParts) (hp : IsPackage p) where
  abbrev below : PackageParts
  below = package_at p.repo (p.package ++ dots_by p.package)

  below_by : (path : List ℕ) → is_package path ≡ true → (is_package (path ++ dots_by path) ≡ true) × (last_segment (path ++ dots_by path) ≡ dots)
  unfolding is_package
  below_by [] h = (path_is_package dots dots_valid, last_whole dots refl)
  below_by (b ∷ bs) h = (path_is_package ((b ∷ bs) ++ 47 ∷ dots) (path_join (b ∷ bs) dots h dots_valid), last_joined (b ∷ bs) dots ∙ last_whole dots refl)

  below_valid : IsPackage below
  below_valid = record { valid_repo = hp.valid_repo; valid_package = (below_by p.package hp.valid_package).0 }

  spells_below : (text : List ℕ) → Spells p text → Spells below (text ++ dots_by p.package)
  spells_below text (Spells.main repo is) = Spells.main repo (ap (λ (t : List ℕ). t ++ dots_by p.package) is)
  spells_below text (Spells.other is) = Spells.other (ap (λ (t : List ℕ). t ++ dots_by p.package) is ∙ ap (λ (t : List ℕ). 64 ∷ t) (append_assoc p.repo (47 ∷ 47 ∷ p.package) (dots_by p.package)))

  abbrev its_label : LabelParts
  its_label = label_at p.repo below.package dots

  written_short : (text : List ℕ) → Spells below text → IsWritten root text its_label
  written_short text (Spells.main repo is) = short is (sym (below_by p.package hp.valid_package).1) repo
  written_short text (Spells.other is) = external_short is (sym (below_by p.package hp.valid_package).1)

  -- a word with dots is a label
  pub alone_label : (word : List ℕ) → IsDots p [] word → label_named word ≡ Some its_label
  alone_label word d =
      let valid : IsLabel its_label = record { valid_repo = hp.valid_repo; valid_package = below_valid.valid_package; valid_name = dots_valid } in
      let whole : word ≡ d.0 ++ dots_by p.package = d.2 ∙ ap (λ (t : List ℕ). d.0 ++ t) (append-nil (dots_by p.package)) in
      label_from_reading root word its_label (record { written = subst (λ (t : List ℕ). IsWritten root t its_label) (sym whole) (written_short (d.0 ++ dots_by p.package) (spells_below d.0 d.1)); valid = valid })

  pub ended_label : (n word : List ℕ) → is_path n ≡ true → IsDots p (58 ∷ n) word → label_named word ≡ Some (label_at p.repo below.package n)
  ended_label n word valid d =
      ap label_named (d.2 ∙ sym (append_assoc d.0 (dots_by p.package) (58 ∷ n))) ∙ label_in_it below below_valid (d.0 ++ dots_by p.package) n (spells_below d.0 d.1) valid

-- ---- a package's text whose last segment is the dots

record Dotted (front : List ℕ) : Type 0 where
  p : PackageParts
  valid : IsPackage p
  text : List ℕ
  spells : Spells p text
  whole : front ++ 47 ∷ dots ≡ text ++ dots_by p.package

-- what is before the path, and the texts of the packages of this repository
respelled : (q : PackageParts) (text : List ℕ) → Spells q text → (g : List ℕ) × (text ≡ g ++ 47 ∷ 47 ∷ q.package) × ((path : List ℕ) → Spells (package_at q.repo path) (g ++ 47 ∷ 47 ∷ path))
respelled q text (Spells.main repo is) = ([], is, λ path. Spells.main repo refl)
respelled q text (Spells.other is) = (64 ∷ q.repo, is, λ path. Spells.other refl)

last_dots : (front a n : List ℕ) → list_any is_slash n ≡ false → front ++ 47 ∷ dots ≡ a ++ 47 ∷ n → n ≡ dots
last_dots front a n plain e = sym (last_whole n plain) ∙ (sym (last_joined a n) ∙ (sym (ap last_segment e) ∙ (last_joined front dots ∙ last_whole dots refl)))

module _ (q : PackageParts) (hq : IsPackage q) (front : List ℕ) (h : Spells q (front ++ 47 ∷ dots)) where
  in_root : list_any is_slash q.package ≡ false → Dotted front
  unfolding is_package
  in_root plain =
      let r = respelled q (front ++ 47 ∷ dots) h in
      let is : q.package ≡ dots = last_dots front (r.0 ++ 47 ∷ []) q.package plain (r.1 ∙ sym (append_assoc r.0 (47 ∷ []) (47 ∷ q.package))) in
      record {
        p = package_at q.repo [];
        valid = record { valid_repo = hq.valid_repo; valid_package = refl };
        text = r.0 ++ 47 ∷ 47 ∷ [];
        spells = r.2 [];
        whole = r.1 ∙ (ap (λ (t : List ℕ). r.0 ++ 47 ∷ 47 ∷ t) is ∙ sym (append_assoc r.0 (47 ∷ 47 ∷ []) dots));
      }

  in_path : (d n : List ℕ) → q.package ≡ d ++ 47 ∷ n → list_any is_slash n ≡ false → is_path d ≡ true → Dotted front
  in_path [] n cut plain valid = absurd (empty_no_path valid)
  in_path (b ∷ bs) n cut plain valid =
      let r = respelled q (front ++ 47 ∷ dots) h in
      let whole : front ++ 47 ∷ dots ≡ (r.0 ++ 47 ∷ 47 ∷ b ∷ bs) ++ 47 ∷ n = r.1 ∙ (ap (λ (t : List ℕ). r.0 ++ 47 ∷ 47 ∷ t) cut ∙ sym (append_assoc r.0 (47 ∷ 47 ∷ b ∷ bs) (47 ∷ n))) in
      record {
        p = package_at q.repo (b ∷ bs);
        valid = record { valid_repo = hq.valid_repo; valid_package = path_is_package (b ∷ bs) valid };
        text = r.0 ++ 47 ∷ 47 ∷ b ∷ bs;
        spells = r.2 (b ∷ bs);
        whole = whole ∙ ap (λ (t : List ℕ). (r.0 ++ 47 ∷ 47 ∷ b ∷ bs) ++ 47 ∷ t) (last_dots front (r.0 ++ 47 ∷ 47 ∷ b ∷ bs) n plain whole);
      }

  dotted : Dotted front
  dotted = elim (last_cut q.package) [
    | inl plain ↦ in_root plain
    | inr cut ↦ in_path cut.directory cut.name cut.whole cut.plain (path_joined cut.directory cut.name (package_is_path cut.directory cut.name (sym (ap is_package cut.whole) ∙ hq.valid_package))).0
  ]

-- ---- a label that ends with dots

slash_in : (d n : List ℕ) → list_any is_slash (d ++ 47 ∷ n) ≡ true
slash_in [] n = refl
slash_in (b ∷ d) n = rw (slash_in d n) (or_true (b == 47))

no_bare : (b : ℕ) (bs : List ℕ) → begins_pattern (b ∷ bs) ≡ true → (b == 47) ≡ false → b ≢ 64 → ⊥
no_bare b bs begins slash at = let other : (b == 64) ≡ false = grind (arith, nat_tests, at) in false≢true (sym (rw (slash, other) refl) ∙ begins)

-- no name in a package begins as a pattern
bare : (text name : List ℕ) → begins_pattern text ≡ true → text ≡ name → BeginsOther at_sign text → is_path name ≡ true → ⊥
bare [] name begins is other valid = false≢true begins
bare (b ∷ bs) name begins is other valid = no_bare b bs begins (path_begins b bs (ap is_path is ∙ valid)).0 other

package_is_valid : (l : LabelParts) → IsLabel l → IsPackage (package_of l)
package_is_valid l h = record { valid_repo = h.valid_repo; valid_package = h.valid_package }

not_nothing : (xs : List ℕ) (y : ℕ) (ys : List ℕ) → xs ++ y ∷ ys ≢ []
not_nothing [] y ys e = cc e
not_nothing (x ∷ xs) y ys e = cc e

module _ (front : List ℕ) (none : list_any is_colon front ≡ false) where
  abbrev body : List ℕ
  body = front ++ 47 ∷ dots

  none_in : list_any is_colon body ≡ false
  none_in = list_any-append is_colon front (47 ∷ dots) ∙ rw none refl

  alone_by : (l : LabelParts) → begins_pattern body ≡ true → IsLabel l → IsWritten root body l → Spells (package_of l) body
  alone_by l begins h (absolute t r) = absurd (has_colon (47 ∷ 47 ∷ l.package) l.name (sym (ap (list_any is_colon) t) ∙ none_in))
  alone_by l begins h (short t m r) = Spells.main r t
  alone_by l begins h (own_name t e) = absurd (has_colon [] l.name (sym (ap (list_any is_colon) t) ∙ none_in))
  alone_by l begins h (bare_name t b e) = absurd (bare body l.name begins t b h.valid_name)
  alone_by l begins h (external t) =
      let whole : body ≡ (64 ∷ (l.repo ++ 47 ∷ 47 ∷ l.package)) ++ 58 ∷ l.name = t ∙ ap (λ (x : List ℕ). 64 ∷ x) (sym (append_assoc l.repo (47 ∷ 47 ∷ l.package) (58 ∷ l.name))) in
      absurd (has_colon (64 ∷ (l.repo ++ 47 ∷ 47 ∷ l.package)) l.name (sym (ap (list_any is_colon) whole) ∙ none_in))
  alone_by l begins h (external_short t m) = Spells.other t
  alone_by l begins h (repository t e m) = absurd (false≢true (sym (ap (list_any is_slash) t ∙ no_slash l.repo h.valid_repo) ∙ slash_in front dots))

  -- nothing follows them
  alone : (l : LabelParts) → begins_pattern body ≡ true → label_named body ≡ Some l → Dotted front
  alone l begins h =
      let r = reading_from_label root body l h in
      dotted (package_of l) (package_is_valid l r.valid) front (alone_by l begins r.valid r.written)

  -- a colon and a name follow them
  ended : (n : List ℕ) (l : LabelParts) → label_named (body ++ 58 ∷ n) ≡ Some l → Dotted front
  ended n l h =
      let r = reading_from_label root (body ++ 58 ∷ n) l h in
      dotted (package_of l) (package_is_valid l r.valid) front (spelled_by body none_in (not_nothing front 47 dots) n l r.valid r.written)

-- ---- words

-- the word ends so, and no colon is before the end
record Ends (s word : List ℕ) : Type 0 where
  front : List ℕ
  none : list_any is_colon front ≡ false
  whole : word ≡ front ++ other_end s

no_left : (a b : Bool) → (a || b) ≡ false → a ≡ false
no_left true b h = h
no_left false b h = refl

none_before : (xs ys : List ℕ) → list_any is_colon (xs ++ ys) ≡ false → list_any is_colon xs ≡ false
none_before xs ys h = no_left (list_any is_colon xs) (list_any is_colon ys) (sym (list_any-append is_colon xs ys) ∙ h)

module _ (word part s : List ℕ) (n m : ℕ) (long : length (root_end s) ≡ 2 + n) (rest : length (other_end s) ≡ m) where
  at_root : part_before (root_end s) n word ≡ Some part → Ends s word
  at_root h =
      let cut = parted word (root_end s) n (47 ∷ 47 ∷ []) part long refl h in
      record {
        front = cut.front ++ 47 ∷ [];
        none = none_before (cut.front ++ 47 ∷ []) (47 ∷ []) (ap (list_any is_colon) (append_assoc cut.front (47 ∷ []) (47 ∷ []) ∙ sym cut.part_is) ∙ cut.none);
        whole = cut.whole ∙ sym (append_assoc cut.front (47 ∷ []) (other_end s));
      }

  at_other : part_before (other_end s) m word ≡ Some part → Ends s word
  at_other h =
      let cut = parted word (other_end s) m [] part (omega (arith, rest)) refl h in
      record { front = cut.front; none = ap (list_any is_colon) (sym (append-nil cut.front) ∙ sym cut.part_is) ∙ cut.none; whole = cut.whole }

-- it is the dots after a package
dots_at : (s word : List ℕ) (e : Ends s word) (d : Dotted e.front) → IsDots d.p s word
dots_at s word e d =
    let whole : word ≡ (d.text ++ dots_by d.p.package) ++ s = e.whole ∙ (sym (append_assoc e.front (47 ∷ dots) s) ∙ ap (λ (t : List ℕ). t ++ s) d.whole) in
    (d.text, d.spells, whole ∙ append_assoc d.text (dots_by d.p.package) s)

same_some : {A B : Type 0} (o : Option A) (q : Option B) → ((x : A) → o ≡ Some x → (y : B) × (q ≡ Some y)) → ((y : B) → q ≡ Some y → (x : A) × (o ≡ Some x)) → is_some o ≡ is_some q
same_some None None f g = refl
same_some (Some x) (Some y) f g = refl
same_some None (Some y) f g = let h = g y refl in absurd (cc h.1)
same_some (Some x) None f g = let h = f x refl in absurd (cc h.1)

mapped : {A B : Type 0} (f : A → B) (o : Option A) → is_some (option_map f o) ≡ is_some o
mapped f None = refl
mapped f (Some x) = refl

module _ (word : List ℕ) (begins : begins_pattern word ≡ true) where
  abbrev part : List ℕ
  part = (word_form word).1

  abbrev Package : Type 0
  Package = (p : PackageParts) × (package_of_text part ≡ Some p)

  abbrev Label : Type 0
  Label = (l : LabelParts) × (label_named word ≡ Some l)

  -- ---- dots

  alone_dots : (l : LabelParts) → label_named word ≡ Some l → (e : Ends [] word) → Dotted e.front
  alone_dots l h e = alone e.front e.none l (ap begins_pattern (sym e.whole) ∙ begins) (ap label_named (sym e.whole) ∙ h)

  ended_dots : (n : List ℕ) (l : LabelParts) → label_named word ≡ Some l → (e : Ends (58 ∷ n) word) → Dotted e.front
  ended_dots n l h e = ended e.front e.none n l (ap label_named (append_assoc e.front (47 ∷ dots) (58 ∷ n) ∙ sym e.whole) ∙ h)

  rules_ends : FirstFit word endings form.RulesBeneath part → Ends [] word ⊎ Ends (codes ":all") word
  rules_ends (inl a) = inl (at_root word part [] 3 4 refl refl a.1)
  rules_ends (inr (first, inl a)) = inl (at_other word part [] 3 4 refl refl a.1)
  rules_ends (inr (first, inr (second, inl a))) = inr (at_root word part (codes ":all") 7 8 refl refl a.1)
  rules_ends (inr (first, inr (second, inr (third, inl a)))) = inr (at_other word part (codes ":all") 7 8 refl refl a.1)
  rules_ends (inr (first, inr (second, inr (third, inr (fourth, rest))))) =
      absurd (skip_all root word root_valid (drop 4 endings) [] form.RulesBeneath part (λ e. cc e, (λ e. cc e, (λ e. cc e, (λ e. cc e, (λ e. cc e, (λ e. cc e, (λ e. cc e, tt))))))) rest)

  all_after : FirstFit word (drop 4 endings) form.AllBeneath part → Ends (codes ":*") word ⊎ Ends (codes ":all-targets") word
  all_after (inl a) = inl (at_root word part (codes ":*") 5 6 refl refl a.1)
  all_after (inr (first, inl a)) = inl (at_other word part (codes ":*") 5 6 refl refl a.1)
  all_after (inr (first, inr (second, inl a))) = inr (at_root word part (codes ":all-targets") 15 16 refl refl a.1)
  all_after (inr (first, inr (second, inr (third, inl a)))) = inr (at_other word part (codes ":all-targets") 15 16 refl refl a.1)
  all_after (inr (first, inr (second, inr (third, inr (fourth, rest))))) = absurd (skip_all root word root_valid (drop 8 endings) [] form.AllBeneath part (λ e. cc e, (λ e. cc e, (λ e. cc e, tt))) rest)

  all_ends : FirstFit word endings form.AllBeneath part → Ends (codes ":*") word ⊎ Ends (codes ":all-targets") word
  all_ends h = all_after (skip_all root word root_valid (take 4 endings) (drop 4 endings) form.AllBeneath part (λ e. cc e, (λ e. cc e, (λ e. cc e, (λ e. cc e, tt)))) h)

  rules_package : (l : LabelParts) → label_named word ≡ Some l → Ends [] word ⊎ Ends (codes ":all") word → Package
  rules_package l h (inl e) = let d = alone_dots l h e in (d.p, (rules_to d.p word d.valid (inl (dots_at [] word e d))).1)
  rules_package l h (inr e) = let d = ended_dots (codes "all") l h e in (d.p, (rules_to d.p word d.valid (inr (dots_at (codes ":all") word e d))).1)

  all_package : (l : LabelParts) → label_named word ≡ Some l → Ends (codes ":*") word ⊎ Ends (codes ":all-targets") word → Package
  all_package l h (inl e) = let d = ended_dots (codes "*") l h e in (d.p, (all_to d.p word d.valid (inl (dots_at (codes ":*") word e d))).1)
  all_package l h (inr e) = let d = ended_dots (codes "all-targets") l h e in (d.p, (all_to d.p word d.valid (inr (dots_at (codes ":all-targets") word e d))).1)

  rules_label : (p : PackageParts) → IsPackage p → IsDots p [] word ⊎ IsDots p (codes ":all") word → Label
  rules_label p hp (inl d) = (its_label p hp, alone_label p hp word d)
  rules_label p hp (inr d) = (label_at p.repo (p.package ++ dots_by p.package) (codes "all"), ended_label p hp (codes "all") word all_valid d)

  all_label : (p : PackageParts) → IsPackage p → IsDots p (codes ":*") word ⊎ IsDots p (codes ":all-targets") word → Label
  all_label p hp (inl d) = (label_at p.repo (p.package ++ dots_by p.package) (codes "*"), ended_label p hp (codes "*") word star_valid d)
  all_label p hp (inr d) = (label_at p.repo (p.package ++ dots_by p.package) (codes "all-targets"), ended_label p hp (codes "all-targets") word targets_valid d)

  -- ---- a colon and a name

  record Named (n : List ℕ) : Type 0 where
    none : list_any is_colon part ≡ false
    whole : word ≡ part ++ 58 ∷ n
    valid : is_path n ≡ true

  named_by : (n : List ℕ) (m : ℕ) → length (58 ∷ n) ≡ m → is_path n ≡ true → part_before (58 ∷ n) m word ≡ Some part → Named n
  named_by n m long valid h =
      let cut = parted word (58 ∷ n) m [] part (omega (arith, long)) refl h in
      record { none = cut.none; whole = cut.whole ∙ ap (λ (t : List ℕ). t ++ 58 ∷ n) (sym (append-nil cut.front) ∙ sym cut.part_is); valid = valid }

  part_some : (n : List ℕ) → word ≡ part ++ 58 ∷ n → part ≢ []
  part_some n whole e = let alone : word ≡ 58 ∷ n = whole ∙ ap (λ (t : List ℕ). t ++ 58 ∷ n) e in false≢true (ap begins_pattern (sym alone) ∙ begins)

  named_package : (n : List ℕ) → Named n → (l : LabelParts) → label_named word ≡ Some l → Package
  named_package n is l h =
      let r = reading_from_label root (part ++ 58 ∷ n) l (ap label_named (sym is.whole) ∙ h) in
      (package_of l, named (package_of l) (package_is_valid l r.valid) part (spelled_by part is.none (part_some n is.whole) n l r.valid r.written))

  named_label : (n : List ℕ) → Named n → (p : PackageParts) → package_of_text part ≡ Some p → Label
  named_label n is p h =
      (label_at p.repo p.package n, ap label_named is.whole ∙ label_in_it p (package_read part p h).1 part n (package_read part p h).0 is.valid)

  rules_named : FirstFit word (drop 8 endings) form.Rules part → Named (codes "all")
  rules_named (inl a) = named_by (codes "all") 4 refl all_valid a.1
  rules_named (inr (first, inl a)) = absurd (cc a.0)
  rules_named (inr (first, inr (second, inl a))) = absurd (cc a.0)
  rules_named (inr (first, inr (second, inr (third, rest)))) = absurd rest

  all_named : FirstFit word (drop 8 endings) form.All part → Named (codes "*") ⊎ Named (codes "all-targets")
  all_named (inl a) = absurd (cc a.0)
  all_named (inr (first, inl a)) = inl (named_by (codes "*") 2 refl star_valid a.1)
  all_named (inr (first, inr (second, inl a))) = inr (named_by (codes "all-targets") 12 refl targets_valid a.1)
  all_named (inr (first, inr (second, inr (third, rest)))) = absurd rest

  -- ---- forms

  fit : (f : PatternForm) → (form.Target ≡ f → ⊥) → (word_form word).0 ≡ f → FirstFit word endings f part
  fit f other is = elim (first_fit word endings f part is refl) [ inl t ↦ absurd (other t) | inr h ↦ h ]

  same : ((p : PackageParts) → package_of_text part ≡ Some p → Label) → ((l : LabelParts) → label_named word ≡ Some l → Package) → is_some (package_of_text part) ≡ is_some (label_named word)
  same = same_some (package_of_text part) (label_named word)

  rules_same : (word_form word).0 ≡ form.Rules → is_some (package_of_text part) ≡ is_some (label_named word)
  rules_same is =
      let h = skip_all root word root_valid (take 8 endings) (drop 8 endings) form.Rules part (λ e. cc e, (λ e. cc e, (λ e. cc e, (λ e. cc e, (λ e. cc e, (λ e. cc e, (λ e. cc e, (λ e. cc e, tt)))))))) (fit form.Rules (λ e. cc e) is) in
      let n = rules_named h in
      same (named_label (codes "all") n) (named_package (codes "all") n)

  all_same : (word_form word).0 ≡ form.All → is_some (package_of_text part) ≡ is_some (label_named word)
  all_same is =
      let h = skip_all root word root_valid (take 8 endings) (drop 8 endings) form.All part (λ e. cc e, (λ e. cc e, (λ e. cc e, (λ e. cc e, (λ e. cc e, (λ e. cc e, (λ e. cc e, (λ e. cc e, tt)))))))) (fit form.All (λ e. cc e) is) in
      elim (all_named h) [
        | inl n ↦ same (named_label (codes "*") n) (named_package (codes "*") n)
        | inr n ↦ same (named_label (codes "all-targets") n) (named_package (codes "all-targets") n)
      ]

  rules_beneath_same : (word_form word).0 ≡ form.RulesBeneath → is_some (package_of_text part) ≡ is_some (label_named word)
  rules_beneath_same is =
      same
      (λ p h. let hp = (package_read part p h).1 in rules_label p hp (rules_from p word hp begins (is, h)))
      (λ l h. rules_package l h (rules_ends (fit form.RulesBeneath (λ e. cc e) is)))

  all_beneath_same : (word_form word).0 ≡ form.AllBeneath → is_some (package_of_text part) ≡ is_some (label_named word)
  all_beneath_same is =
      same
      (λ p h. let hp = (package_read part p h).1 in all_label p hp (all_from p word hp begins (is, h)))
      (λ l h. all_package l h (all_ends (fit form.AllBeneath (λ e. cc e) is)))

  -- a word of no other form is named whole
  abbrev NoTarget : List Ending → Type 0
  NoTarget [] = Unit {0}
  NoTarget (e ∷ es) = (e.2 ≡ form.Target → ⊥) × NoTarget es

  whole_by : (e : Ending) (es : List Ending) (o : Option (List ℕ)) → (e.2 ≡ form.Target → ⊥) → ((form_by es word).0 ≡ form.Target → (form_by es word).1 ≡ word)
      → (form_or e.2 (form_by es word) o).0 ≡ form.Target → (form_or e.2 (form_by es word) o).1 ≡ word
  whole_by e es None never more h = more h
  whole_by e es (Some x) never more h = absurd (never h)

  whole : (es : List Ending) → NoTarget es → (form_by es word).0 ≡ form.Target → (form_by es word).1 ≡ word
  whole [] none h = refl
  whole (e ∷ es) none h = whole_by e es (part_before e.0 e.1 word) none.0 (whole es none.1) h

  target_same : (word_form word).0 ≡ form.Target → is_some (label_named part) ≡ is_some (label_named word)
  target_same is =
      ap (λ (t : List ℕ). is_some (label_named t))
      (whole endings (λ e. cc e, (λ e. cc e, (λ e. cc e, (λ e. cc e, (λ e. cc e, (λ e. cc e, (λ e. cc e, (λ e. cc e, (λ e. cc e, (λ e. cc e, (λ e. cc e, tt))))))))))) is)

  by_form : (f : PatternForm) → (word_form word).0 ≡ f → is_some (pattern_by f part) ≡ is_some (label_named word)
  by_form form.Target is = mapped pattern.Target (label_named part) ∙ target_same is
  by_form form.Rules is = mapped pattern.Rules (package_of_text part) ∙ rules_same is
  by_form form.All is = mapped pattern.All (package_of_text part) ∙ all_same is
  by_form form.RulesBeneath is = mapped pattern.RulesBeneath (package_of_text part) ∙ rules_beneath_same is
  by_form form.AllBeneath is = mapped pattern.AllBeneath (package_of_text part) ∙ all_beneath_same is

pub patterns_read_as_labels : PatternsReadAsLabels
unfolding pattern_of
patterns_read_as_labels word begins = by_form word begins (word_form word).0 refl
