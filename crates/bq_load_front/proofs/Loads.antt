-- The labels of loads are those that each load names, up to the first that names no file.
use Rattle.std.proofs.Common.{◌≡◌, ◌∙◌, ◌⊎◌, List, [], ◌∷◌, ◌++◌, map, Option, None, Some, Result, Ok, Err, refl, sym, ap, subst, inl, inr, append-nil, append_assoc, arith}
use Rattle.std.specs.List.{Contains}
use Rattle.bq_base.specs.declared.fault.FaultKind.{FaultKind}
use Rattle.bq_base.specs.declared.fault.LoadFault.{LoadFault}
use Rattle.bq_base.specs.declared.fault.Fault.{Fault}
use Rattle.bq_base.specs.Fault.{kind_of_load, or_fault_as}
use Rattle.bq_label.specs.declared.workspace.File.{File}
use Rattle.bq_label.specs.Label.{PackageParts, LabelParts, package_of}
use Rattle.bq_label.specs.Packages.{label_file}
use Rattle.bq_label.proofs.Orders.{head_or_tail}
use Rattle.bq_resolve_laws.specs.Files.{ParsedFile}
use Rattle.bq_resolve_laws.specs.Loads.{WrittenLoad, file_loads}
use Rattle.bq_load_front.specs.Resolved.{◌>>=◌}
use Rattle.bq_load_front.specs.Inputs.{InputParts, universe_of}
use Rattle.bq_load_front.specs.Parsed.{ParsedFront, file_named, labels_of, kind_of, front_from, loads_in}
use Rattle.bq_load_front.specs.Reading.{file_of_text, parsed_of}
use Rattle.bq_load_front.proofs.Cases.{parsed_at}
use Rattle.bq_load_front.specs.FileLaws.{named, IsFirstBadLoad, IsNamed, AreRead, LoadedFiles, LoadsOfFiles}

no_head : {X : Type 0} (x : X) (xs : List X) → [] ≡ x ∷ xs → ⊥
no_head x xs e = cc

heads : {X : Type 0} (x y : X) (xs ys : List X) → x ∷ xs ≡ y ∷ ys → x ≡ y
heads x y xs ys e = cc

tails : {X : Type 0} (x y : X) (xs ys : List X) → x ∷ xs ≡ y ∷ ys → xs ≡ ys
tails x y xs ys e = cc

not_both : (ls : List LabelParts) (why : Fault LoadFault) → Ok ls ≡ Err why → ⊥
not_both ls why e = cc

abbrev good : List LabelParts → Result (List LabelParts) (Fault LoadFault)
good ls = Ok ls

abbrev faulty : Fault LoadFault → Result (List LabelParts) (Fault LoadFault)
faulty why = Err why

same_labels : (a b : List LabelParts) → good a ≡ good b → a ≡ b
same_labels a b e = cc

same_fault : (a b : Fault LoadFault) → faulty a ≡ faulty b → a ≡ b
same_fault a b e = cc

module _ {A : Type 0} (load : A → Result LabelParts (Fault LoadFault)) where
  goes : (done : List LabelParts) (xs : List A) (ls : List LabelParts) → map load xs ≡ map named ls → labels_of load done xs ≡ Ok (done ++ ls)
  unfolding labels_of
  goes done [] [] e = ap (λ (z : List LabelParts). Ok z) (sym (append-nil done))
  goes done [] (l ∷ ls) e = absurd (no_head (named l) (map named ls) e)
  goes done (x ∷ xs) [] e = absurd (no_head (load x) (map load xs) (sym e))
  goes done (x ∷ xs) (l ∷ ls) e =
      let one : load x ≡ Ok l = heads (load x) (named l) (map load xs) (map named ls) e in
      let rest : map load xs ≡ map named ls = tails (load x) (named l) (map load xs) (map named ls) e in
      rw one (goes (done ++ l ∷ []) xs ls rest ∙ ap (λ (z : List LabelParts). Ok z) (append_assoc done (l ∷ []) ls))

  stops : (done : List LabelParts) (before : List A) (x : A) (after : List A) (ls : List LabelParts) (why : Fault LoadFault) → map load before ≡ map named ls → load x ≡ Err why
      → labels_of load done (before ++ x ∷ after) ≡ Err why
  unfolding labels_of
  stops done [] x after ls why e bad = rw bad refl
  stops done (y ∷ before) x after [] why e bad = absurd (no_head (load y) (map load before) (sym e))
  stops done (y ∷ before) x after (l ∷ ls) why e bad =
      let one : load y ≡ Ok l = heads (load y) (named l) (map load before) (map named ls) e in
      let rest : map load before ≡ map named ls = tails (load y) (named l) (map load before) (map named ls) e in
      rw one (stops (done ++ l ∷ []) before x after ls why rest bad)

  AllName : List A → Type 0
  AllName xs = (ls : List LabelParts) × (map load xs ≡ map named ls)

  SomeBad : List A → Type 0
  SomeBad xs = (why : Fault LoadFault) × IsFirstBadLoad load xs why

  one_more : (x : A) (xs : List A) (l : LabelParts) → load x ≡ Ok l → AllName xs ⊎ SomeBad xs → AllName (x ∷ xs) ⊎ SomeBad (x ∷ xs)
  unfolding AllName SomeBad
  one_more x xs l e (inl h) = inl (l ∷ h.0, ap (λ (z : Result LabelParts (Fault LoadFault)). z ∷ map load xs) e ∙ ap (λ (z : List (Result LabelParts (Fault LoadFault))). named l ∷ z) h.1)
  one_more x xs l e (inr h) =
      let b = h.1 in
      inr (
        h.0,
        record {
          before = x ∷ b.before;
          load = b.load;
          after = b.after;
          split = ap (λ (z : List A). x ∷ z) b.split;
          labels = l ∷ b.labels;
          earlier = ap (λ (z : Result LabelParts (Fault LoadFault)). z ∷ map load b.before) e ∙ ap (λ (z : List (Result LabelParts (Fault LoadFault))). named l ∷ z) b.earlier;
          bad = b.bad;
        },
      )

  first_bad : (x : A) (xs : List A) (why : Fault LoadFault) → load x ≡ Err why → SomeBad (x ∷ xs)
  unfolding SomeBad
  first_bad x xs why e = (why, record { before = []; load = x; after = xs; split = refl; labels = []; earlier = refl; bad = e })

  by_load : (x : A) (xs : List A) → AllName xs ⊎ SomeBad xs → (r : Result LabelParts (Fault LoadFault)) → load x ≡ r → AllName (x ∷ xs) ⊎ SomeBad (x ∷ xs)
  by_load x xs h (Ok l) e = one_more x xs l e h
  by_load x xs h (Err why) e = inr (first_bad x xs why e)

  cut : (xs : List A) → AllName xs ⊎ SomeBad xs
  unfolding AllName
  cut [] = inl ([], refl)
  cut (x ∷ xs) = by_load x xs (cut xs) (load x) refl

  bad_gives : (xs : List A) (why : Fault LoadFault) → IsFirstBadLoad load xs why → labels_of load [] xs ≡ Err why
  bad_gives xs why b = ap (λ (z : List A). labels_of load [] z) b.split ∙ stops [] b.before b.load b.after b.labels why b.earlier b.bad

  labels_back : (xs : List A) (ls : List LabelParts) → labels_of load [] xs ≡ Ok ls → AllName xs ⊎ SomeBad xs → map load xs ≡ map named ls
  unfolding AllName SomeBad
  labels_back xs ls e (inl h) = h.1 ∙ ap (λ (z : List LabelParts). map named z) (same_labels h.0 ls (sym (goes [] xs h.0 h.1) ∙ e))
  labels_back xs ls e (inr h) = absurd (not_both ls h.0 (sym e ∙ bad_gives xs h.0 h.1))

  fault_back : (xs : List A) (why : Fault LoadFault) → labels_of load [] xs ≡ Err why → AllName xs ⊎ SomeBad xs → IsFirstBadLoad load xs why
  unfolding AllName SomeBad
  fault_back xs why e (inl h) = absurd (not_both h.0 why (sym (goes [] xs h.0 h.1) ∙ e))
  fault_back xs why e (inr h) = subst (λ (z : Fault LoadFault). IsFirstBadLoad load xs z) (same_fault h.0 why (sym (bad_gives xs h.0 h.1) ∙ e)) h.1

pub are_read : {A : Type 0} (load : A → Result LabelParts (Fault LoadFault)) (xs : List A) → AreRead load xs
are_read load xs = (
  λ ls. (λ e. labels_back load xs ls e (cut load xs), λ h. goes load [] xs ls h),
  λ why. (λ e. fault_back load xs why e (cut load xs), λ b. bad_gives load xs why b),
)

pub loads_of_files : LoadsOfFiles
loads_of_files inputs own xs = are_read (file_named inputs own) xs

-- ---- what a module loads

none_in : {X : Type 0} (z : X) → Contains [] z → ⊥
none_in z c = omega arith

module _ (inputs : InputParts) (own : PackageParts) where
  abbrev named_file : WrittenLoad → Result LabelParts (Fault LoadFault)
  named_file x = file_named inputs own x

  by_a_load : (xs : List WrittenLoad) (ls : List LabelParts) (l : LabelParts) → map named_file xs ≡ map named ls → Contains ls l → IsNamed inputs own l
  by_a_load xs [] l e c = absurd (none_in l c)
  by_a_load [] (k ∷ ls) l e c = absurd (no_head (named k) (map named ls) e)
  by_a_load (x ∷ xs) (k ∷ ls) l e c = elim (head_or_tail k ls l c) [
    | inl same ↦ record { load = x; names = heads (named_file x) (named k) (map named_file xs) (map named ls) e ∙ ap named same }
    | inr later ↦ by_a_load xs ls l (tails (named_file x) (named k) (map named_file xs) (map named ls) e) later
  ]

module _ (inputs : InputParts) (m l : LabelParts) where
  abbrev front_with : ParsedFile → Result (List LabelParts) (Fault LoadFault) → Result ParsedFront (Fault FaultKind)
  front_with file r = or_fault_as kind_of_load r >>= λ ls. Ok (record { file = file; loads = ls })

  of_loads : (file : ParsedFile) (r : Result (List LabelParts) (Fault LoadFault)) → labels_of (file_named inputs (package_of m)) [] (file_loads file.statements) ≡ r → Contains (loads_in (front_with file r)) l
      → IsNamed inputs (package_of m) l
  of_loads file (Ok ls) e c =
      let read : WrittenLoad → Result LabelParts (Fault LoadFault) = file_named inputs (package_of m) in
      by_a_load inputs (package_of m) (file_loads file.statements) ls l (labels_back read (file_loads file.statements) ls e (cut read (file_loads file.statements))) c
  of_loads file (Err why) e c = absurd (none_in l c)

  of_file : (r : Result ParsedFile (Fault FaultKind)) → Contains (loads_in (r >>= front_from inputs m)) l → IsNamed inputs (package_of m) l
  of_file (Ok file) c = of_loads file (labels_of (file_named inputs (package_of m)) [] (file_loads file.statements)) refl c
  of_file (Err why) c = absurd (none_in l c)

  of_text : (x : Option File) → Contains (loads_in (parsed_at inputs m x)) l → IsNamed inputs (package_of m) l
  of_text None c = absurd (none_in l c)
  of_text (Some x) c = of_file (file_of_text (universe_of inputs (kind_of m)) x.content) c

pub loaded_files : LoadedFiles
unfolding parsed_of
loaded_files inputs m l c = of_text inputs m l (label_file inputs.files m) c
