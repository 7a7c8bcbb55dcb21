-- In which order a load is refused for the file that it names (ours: the order).
use Rattle.std.specs.Prelude.{◌≡◌, ℕ, not, List, [], ◌∷◌, Option, Some, None, Result, Ok, Err, is_some}
use Rattle.bq_base.specs.declared.fault.LoadFault.{LoadFault}
use Rattle.bq_base.specs.declared.fault.Fault.{Fault}
use Rattle.bq_base.specs.declared.fault.LoadFault.TheVariants.{BadLoadLabel, NoSuchFile, NoPackage, CrossesPackage}
use Rattle.bq_label.specs.declared.workspace.File.{File}
use Rattle.bq_label.specs.declared.packages.BuildFile.{BuildFile}
use Rattle.bq_label.specs.Label.{LabelParts, PackageParts, package_of}
use Rattle.bq_label.specs.Packages.{package_named, label_file}
use Rattle.bq_load_front.specs.Crossing.{crosses}
use Rattle.bq_load_front.specs.NamedFile.{bzl_label}
use Rattle.bq_builtin_machine.specs.Refusals.{when, first_fault}

-- F32: the package is one; F37: no other owns the file; F31: the file is there
abbrev pub finding : List File → List BuildFile → LabelParts → List (Option LoadFault)
finding files packages l =
    when (not (is_some (package_named packages (package_of l)))) NoPackage ∷ when (crosses packages l) CrossesPackage ∷ when (not (is_some (label_file files l))) NoSuchFile ∷ []

-- the first of F32, F37 and F31 that a load of this label has; None where it has none of them or there is no label
abbrev pub finding_any : List File → List BuildFile → Option LabelParts → Option LoadFault
finding_any files packages None = None
finding_any files packages (Some l) = first_fault (finding files packages l)

-- F30 first: the text is the label of a .bzl file
abbrev pub loading : List File → List BuildFile → PackageParts → List ℕ → List (Option LoadFault)
loading files packages own text = when (not (is_some (bzl_label own text))) BadLoadLabel ∷ finding_any files packages (bzl_label own text) ∷ []

-- why a load names no file, if it names none
abbrev pub fault_of_load : Result LabelParts (Fault LoadFault) → Option LoadFault
fault_of_load (Ok l) = None
fault_of_load (Err why) = Some why.kind

-- a load names no file for the first fault that these checks find, and names one where they find none
abbrev pub LoadFailsForFirst : Result LabelParts (Fault LoadFault) → List (Option LoadFault) → Type 0
LoadFailsForFirst load checks = fault_of_load load ≡ first_fault checks
