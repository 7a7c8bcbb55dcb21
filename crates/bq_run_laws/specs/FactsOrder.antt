-- In which order a run that is asked for facts (`--facts`) writes them: a reader of JSON finds one that says how many follow, and then objects of
-- targets, of modules and of faults.
use Rattle.std.specs.Prelude.{◌≡◌, ◌⊎◌, ℕ, List, [], ◌∷◌, ◌++◌, Option, codes, length}
use Rattle.std.specs.List.{AllByRecursion, flat_map}
use Rattle.bq_label.specs.declared.workspace.File.{File}
use Rattle.bq_package_values.specs.JsonValue.{Json, Named, fields_of, object, value_text}
use Rattle.bq_facts.specs.declared.header.Origin.{Origin}
use Rattle.bq_facts.specs.Objects.{header_value}
use Rattle.bq_run_write.specs.Report.{ReportView}
use Rattle.bq_run_facts.specs.Facts.{IsFactsOn}

-- a line for each of these values
abbrev pub lines_of : List Json → List ℕ
lines_of vs = flat_map (λ v. value_text v ++ 10 ∷ []) vs

-- an object whose first member has this key
pub record BeginsWithKey (key : List ℕ) (v : Json) : Type 0 where
  pub first : Named
  pub further : List Named
  pub object : v ≡ object (fields_of (first ∷ further))
  pub named : first.key ≡ key

-- The text is a line for each object: for the first, which says by which program it was made and how many of each kind follow; for those that
-- begin with `target`, for those that begin with `module`, and for those that begin with `fault`.
pub record AreTargetsModulesFaults (origin : Origin) (text : List ℕ) : Type 0 where
  pub targets : List Json
  pub modules : List Json
  pub faults : List Json
  pub is : text ≡ lines_of (header_value origin (record { targets = length targets; modules = length modules; faults = length faults }) ∷ (targets ++ (modules ++ faults)))
  pub of_targets : AllByRecursion (BeginsWithKey (codes "target")) targets
  pub of_modules : AllByRecursion (BeginsWithKey (codes "module")) modules
  pub of_faults : AllByRecursion (BeginsWithKey (codes "fault")) faults

-- so is what a run writes that is asked for facts, unless it writes nothing
abbrev pub TargetsComeFirst : Type 0
TargetsComeFirst =
    (origin : Origin) (files : List File) (query : Option (List ℕ)) (r : ReportView) → IsFactsOn origin files query r
    → (r.answer ≡ []) ⊎ AreTargetsModulesFaults origin r.answer
