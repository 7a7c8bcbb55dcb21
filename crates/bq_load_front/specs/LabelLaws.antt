-- Words of the laws of loads.
use Rattle.std.specs.Prelude.{◌≡◌, ℕ, ◌++◌, ◌⊎◌, ◌↔◌, List, Some, Ok, codes}
use Rattle.bq_label.specs.declared.workspace.File.{File}
use Rattle.bq_label.specs.declared.packages.BuildFile.{BuildFile}
use Rattle.bq_label.specs.Label.{PackageParts, LabelParts, ReadsAs, package_of}
use Rattle.bq_label.specs.Packages.{IsListed, IsFileOf, label_path, owner_of}
use Rattle.bq_load_front.specs.NamedFile.{load_label}

-- the text begins with `//`, `@` or `:`
abbrev pub HasLoadForm : List ℕ → Type 0
HasLoadForm text = (rest : List ℕ) × ((text ≡ codes "//" ++ rest) ⊎ ((text ≡ codes "@" ++ rest) ⊎ (text ≡ codes ":" ++ rest)))

-- the text names a .bzl file of the workspace, by this label: the file is at the label's path in the label's repository, in a
-- package, and no other package owns it
pub record NamesFile (files : List File) (packages : List BuildFile) (own : PackageParts) (text : List ℕ) (l : LabelParts) : Type 0 where
  pub form : HasLoadForm text
  pub reads : ReadsAs own text l
  pub bzl : (stem : List ℕ) × (l.name ≡ stem ++ codes ".bzl")
  pub listed : IsListed packages (package_of l)
  pub owned : (b : BuildFile) → owner_of packages (label_path l) ≡ Some b → b.id ≡ package_of l
  pub file : (f : File) × IsFileOf files l f

-- a load is read as this label exactly where its text names a .bzl file of the workspace by it
abbrev pub LoadsNameFiles : Type 0
LoadsNameFiles =
    (files : List File) (packages : List BuildFile) (own : PackageParts) (line : ℕ) (text : List ℕ) (l : LabelParts)
    → (load_label files packages own line text ≡ Ok l) ↔ NamesFile files packages own text l
