-- The targets that a call declares are source files, or in the line that is passed to it.
use Rattle.std.proofs.Common.{◌≡◌, ◌∷◌, ◌++◌, ℕ, Bool, true, false, List, [], map, Option, Some, None, Result, Ok, Err, slice_get, inl, inr, refl}
use Rattle.std.specs.List.{AllByRecursion}
use Rattle.bq_base.specs.declared.fault.EvalFault.{EvalFault}
use Rattle.bq_label.specs.declared.packages.BuildFile.{BuildFile}
use Rattle.bq_label.specs.Label.{LabelParts, PackageParts}
use Rattle.bq_value_datum.specs.Class.{Class}
use Rattle.bq_value.specs.Cells.{StoreView}
use Rattle.bq_value.specs.Datum.{Datum}
use Rattle.bq_builtin_machine.specs.Args.{Passed}
use Rattle.bq_builtin_machine.specs.Binding.{bind}
use Rattle.bq_package_target.specs.declared.target.Target.{Target}
use Rattle.bq_package_target.specs.declared.value.GivenAttribute.{GivenAttribute}
use Rattle.bq_package_target.specs.Package.{new_files, files}
use Rattle.bq_package_target.specs.Target.{names_of, source, generated, declares}
use Rattle.bq_package_target.specs.Value.{outputs_in}
use Rattle.bq_package_values.specs.Parameters.{argument}
use Rattle.bq_package_values.specs.Steps.{and_then}
use Rattle.bq_package_attributes.specs.Arguments.{nothing_given, with_arguments}
use Rattle.bq_package_attributes.specs.Declarations.{keywords_alone, gives_mandatory, defaults, if_whole, target, declaration}
use Rattle.bq_package.specs.Bound.{group_parameters, text_of, texts_of}
use Rattle.bq_package.specs.Groups.{names_first, group, group_labels, group_of, group_named}
use Rattle.bq_package.specs.Place.{PlaceView}
use Rattle.bq_package.specs.Rules.{declared_target, target_by, rule_target}
use Rattle.bq_load_laws.specs.Packages.Declared.{IsFile, IsFileOrIn}

module _ (line : ℕ) where
  abbrev pub AllIn : List Target → Type 0
  AllIn ts = AllByRecursion (IsFileOrIn line) ts

  outputs_in_line : (t : Target) → t.line ≡ line → (ls : List LabelParts) → AllIn (map (generated t) ls)
  outputs_in_line t e [] = tt
  outputs_in_line t e (l ∷ ls) = (inr e, outputs_in_line t e ls)

  -- a target, and what it makes
  pub call_declares : (t : Target) → t.line ≡ line → AllIn (declares t)
  unfolding declares
  call_declares t e = (inr e, outputs_in_line t e (outputs_in t.attributes))

  pub all_in : (ts : List Target) → AllByRecursion IsFile ts → AllIn ts
  all_in [] h = tt
  all_in (t ∷ ts) h = (inl h.0, all_in ts h.1)

sources_are_files : (line : ℕ) (ls : List LabelParts) → AllByRecursion IsFile (map (λ l. source l line) ls)
sources_are_files line [] = tt
sources_are_files line (l ∷ ls) = (refl, sources_are_files line ls)

pub files_are_files : (line : ℕ) (ts : List Target) (ls : List LabelParts) → AllByRecursion IsFile (files line ts ls)
unfolding files
files_are_files line ts ls = sources_are_files line (new_files (names_of ts) ls)

-- ---- the line of what a call declares

-- a target in this line, or none
abbrev pub IsAt : ℕ → Result Target EvalFault → Type 0
IsAt line (Ok t) = t.line ≡ line
IsAt line (Err why) = Unit {0}

module _ (line : ℕ) where
  then_at : {A : Type 0} (r : Result A EvalFault) (next : A → Result Target EvalFault) → ((a : A) → IsAt line (next a)) → IsAt line (and_then r next)
  then_at (Ok a) next h = h a
  then_at (Err why) next h = tt

  whole_at : (others : Bool) (rule : List ℕ) (class : Class) (l : Option LabelParts) (attributes : List GivenAttribute) → IsAt line (if_whole others rule class line l attributes)
  whole_at others rule class None attributes = tt
  whole_at true rule class (Some l) attributes = refl
  whole_at false rule class (Some l) attributes = tt

  keywords_at : (own : PackageParts) (packages : List BuildFile) (store : StoreView) (class : Class) (rule : List ℕ) (keywords : List (Datum × Datum)) → IsAt line (target own packages store class rule line keywords)
  unfolding target
  keywords_at own packages store class rule keywords =
      then_at (with_arguments own packages store class nothing_given keywords)
      (λ g. if_whole (gives_mandatory class keywords) rule class line g.name (g.attributes ++ defaults keywords class))
      (λ g. whole_at (gives_mandatory class keywords) rule class g.name (g.attributes ++ defaults keywords class))

  pub declared_at : (p : PlaceView) (store : StoreView) (rule : List ℕ) (class : Class) (passed : Passed) → IsAt line (declared_target p store line rule class passed)
  unfolding declared_target declaration
  declared_at p store rule class passed =
      then_at (bind keywords_alone passed) (λ b. target p.own p.packages store class rule line b.keywords) (λ b. keywords_at p.own p.packages store class rule b.keywords)

  by_class : (p : PlaceView) (store : StoreView) (rule : Option (List ℕ)) (class : Option Class) (passed : Passed) → IsAt line (target_by p store line rule class passed)
  by_class p store None class passed = tt
  by_class p store (Some rule) None passed = tt
  by_class p store (Some rule) (Some class) passed = declared_at p store rule class passed

  pub rule_at : (p : PlaceView) (store : StoreView) (rule : ℕ) (passed : Passed) → IsAt line (rule_target p store line rule passed)
  unfolding rule_target
  rule_at p store rule passed = by_class p store (slice_get p.rules.names rule) (slice_get p.rules.classes rule) passed

  labels_at : (p : PlaceView) (first : Bool) (name : List ℕ) (includes : List (List ℕ)) → IsAt line (and_then (group_labels p first name includes) (λ r. Ok (group line r.0 r.1)))
  labels_at p first name includes = then_at (group_labels p first name includes) (λ r. Ok (group line r.0 r.1)) (λ r. refl)

  values_at : (p : PlaceView) (store : StoreView) (first : Bool) (values : List (Option Datum)) → IsAt line (group_of p store line first values)
  unfolding group_of
  values_at p store first values =
      then_at (text_of (argument values 0))
      (λ name. and_then (texts_of store (argument values 2)) (λ includes. and_then (group_labels p first name includes) (λ r. Ok (group line r.0 r.1))))
      (λ name. then_at (texts_of store (argument values 2)) (λ includes. and_then (group_labels p first name includes) (λ r. Ok (group line r.0 r.1))) (λ includes. labels_at p first name includes))

  pub group_at : (p : PlaceView) (store : StoreView) (passed : Passed) → IsAt line (group_named p store line passed)
  unfolding group_named
  group_at p store passed =
      then_at (bind group_parameters passed) (λ b. group_of p store line (names_first passed) b.values) (λ b. values_at p store (names_first passed) b.values)
