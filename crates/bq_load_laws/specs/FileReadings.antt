-- What a file reads as, and what that depends on.
use Rattle.std.specs.Prelude.{◌≡◌, ℕ, List, Option, true, codes, is_some, nat_eq}
use Rattle.std.specs.List.{ends_with}
use Rattle.std.specs.Option.{option_map}
use Rattle.bq_label.specs.declared.workspace.File.{File}
use Rattle.bq_label.specs.Label.{LabelParts}
use Rattle.bq_label.specs.Packages.{label_file}
use Rattle.bq_label.specs.Workspace.{paths_of}
use Rattle.bq_load_front.specs.Inputs.{InputParts}
use Rattle.bq_load_front.specs.Front.{front_of}

-- the text of the file that a label names
abbrev pub text_of : List File → LabelParts → Option (List ℕ)
text_of files l = option_map (λ f. f.content) (label_file files l)

-- the same labels name files
abbrev pub AreThereAlike : List File → List File → Type 0
AreThereAlike files others = (l : LabelParts) → is_some (label_file files l) ≡ is_some (label_file others l)

-- the same labels of .bzl files name files
abbrev pub AreLoadedAlike : List File → List File → Type 0
AreLoadedAlike files others = (l : LabelParts) → ends_with nat_eq l.name (codes ".bzl") ≡ true → is_some (label_file files l) ≡ is_some (label_file others l)

-- workspaces with the same paths in the same order have a file for the same labels, whatever is in their files
abbrev pub FilesAreThereByPaths : Type 0
FilesAreThereByPaths = (files others : List File) → paths_of files ≡ paths_of others → AreThereAlike files others

-- a file reads alike where its text, the rules and the packages are the same, and the same labels of .bzl files name files
abbrev pub FrontsAreByText : Type 0
FrontsAreByText =
    (inputs others : InputParts) → inputs.rules ≡ others.rules → inputs.packages ≡ others.packages → AreLoadedAlike inputs.files others.files
    → (l : LabelParts) → text_of inputs.files l ≡ text_of others.files l → front_of inputs l ≡ front_of others l
