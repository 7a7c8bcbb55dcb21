-- What is read of a workspace, by its schema.
use Rattle.std.proofs.Common.{◌≡◌, ◌∙◌, ℕ, List, ap}
use Rattle.bq_label.specs.declared.workspace.File.{File}
use Rattle.bq_label.specs.declared.packages.BuildFile.{BuildFile}
use Rattle.bq_label.specs.Packages.{packages_of}
use Rattle.bq_package_schema.specs.Schema.{Rules}
use Rattle.bq_load_front.specs.Inputs.{InputParts}
use Rattle.bq_load_discover.specs.LoadGraph.{inputs_of}

abbrev parts : List File → List BuildFile → List (List ℕ) → InputParts
parts files packages rules = record { files = files; packages = packages; rules = rules }

pub are_inputs : (i : InputParts) (files : List File) (rules : Rules) (packages : List BuildFile) → i.files ≡ files → i.packages ≡ packages → packages ≡ packages_of files
    → i.rules ≡ rules.names → i ≡ inputs_of files rules
are_inputs i files rules packages a b c d =
    let known : i.packages ≡ packages_of files = b ∙ c in
    ap (λ (z : List File). parts z i.packages i.rules) a ∙ (ap (λ (z : List BuildFile). parts files z i.rules) known ∙ ap (λ (z : List (List ℕ)). parts files (packages_of files) z) d)
