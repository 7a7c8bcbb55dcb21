-- The file that a load names (Bazel, "Load statements": "a label that identifies a Starlark file", a .bzl file).
use Rattle.std.specs.Prelude.{ℕ, List, Bool, ◌||◌, nat_eq, Option, None, Some, Result, Ok, Err, is_some, codes, if◌then◌else◌}
use Rattle.std.specs.List.{starts_with, ends_with}
use Rattle.std.specs.Option.{option_and_then}
use Rattle.bq_base.specs.declared.fault.Fault.{Fault}
use Rattle.bq_base.specs.declared.fault.LoadFault.{LoadFault}
use Rattle.bq_base.specs.declared.fault.LoadFault.TheVariants as f
use Rattle.bq_base.specs.Fault.{fault_at}
use Rattle.bq_label.specs.declared.workspace.File.{File}
use Rattle.bq_label.specs.declared.packages.BuildFile.{BuildFile}
use Rattle.bq_label.specs.Label.{PackageParts, LabelParts, package_of, full_form}
use Rattle.bq_label.specs.Reading.{label_of}
use Rattle.bq_label.specs.Packages.{package_named, label_file}
use Rattle.bq_load_front.specs.Crossing.{crosses}

-- the text begins as labels of loads do: a bare name is none (ours)
unfoldable pub has_load_form : List ℕ → Bool
has_load_form text = starts_with nat_eq text (codes "//") || starts_with nat_eq text (codes "@") || starts_with nat_eq text (codes ":")

-- the label of a .bzl file that the text reads as in this package: it ends in `.bzl`
unfoldable pub bzl_label : PackageParts → List ℕ → Option LabelParts
bzl_label own text =
    if has_load_form text then option_and_then (λ l. if ends_with nat_eq l.name (codes ".bzl") then Some l else None) (label_of own text) else None

-- why the label names no file that can be loaded, the first that applies
unfoldable pub fault_of_file : List File → List BuildFile → LabelParts → Option LoadFault
fault_of_file files packages l =
    if is_some (package_named packages (package_of l))
    then (if crosses packages l then Some f.CrossesPackage else (if is_some (label_file files l) then None else Some f.NoSuchFile))
    else Some f.NoPackage

-- a label, unless it has a fault
abbrev pub unless_fault : ℕ → LabelParts → Option LoadFault → Result LabelParts (Fault LoadFault)
unless_fault line l None = Ok l
unless_fault line l (Some kind) = Err (record { kind = kind; line = line; detail = full_form l })

-- the file that a load names, or the fault of its line
abbrev pub file_named : List File → List BuildFile → ℕ → Option LabelParts → Result LabelParts (Fault LoadFault)
file_named files packages line None = Err (fault_at f.BadLoadLabel line)
file_named files packages line (Some l) = unless_fault line l (fault_of_file files packages l)

-- the label of the file that a load in the package `own`, in this line, names by this text
unfoldable pub load_label : List File → List BuildFile → PackageParts → ℕ → List ℕ → Result LabelParts (Fault LoadFault)
load_label files packages own line text = file_named files packages line (bzl_label own text)
