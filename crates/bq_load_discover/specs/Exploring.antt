-- Modules that are found along loads.
use Rattle.std.specs.Prelude.{◌≡◌, ◌+◌, ◌≤◌, ℕ, Bool, true, false, List, length, map, take, Option, None, Some, slice_get, Vec}
use Rattle.std.specs.List.{All, Contains, IsDistinct}
use Rattle.bq_label.specs.declared.packages.BuildFile.{BuildFile}
use Rattle.bq_label.specs.Label.{LabelParts}
use Rattle.bq_label.specs.Packages.{build_label}
use Rattle.bq_label_set.specs.Labels.{same_label}
use Rattle.bq_base.specs.declared.limits.Limits.{Limits}
use Rattle.std.specs.Global.{Global}
use Rattle.bq_load_front.specs.Inputs.{InputParts}
use Rattle.bq_load_front.specs.Reading.{parsed_of, loads_of}
use Rattle.bq_load_discover.specs.declared.modules.Module.{Module}
use Rattle.bq_load_discover.specs.Module.{module_of, labels_of, IsRead}
use Rattle.bq_load_discover.specs.Modules.{IsModule, AreTooMany}

-- The labels that were found are those of modules, the BUILD files are among them, and the first of them are read: what these load is
-- found.
pub record Explores (inputs : InputParts) (ls : List LabelParts) (ms : List Module) : Type 0 where
  pub within : length ms ≤ length ls
  pub read : ms ≡ map (module_of inputs) (take (length ms) ls)
  pub distinct : IsDistinct same_label ls
  pub only : (l : LabelParts) → Contains ls l → IsModule inputs.packages (parsed_of inputs) l
  pub builds : (b : BuildFile) (l : LabelParts) → Contains inputs.packages b → build_label b ≡ Some l → Contains ls l
  pub closed : (m l : LabelParts) → Contains (take (length ms) ls) m → Contains (loads_of inputs m) l → Contains ls l

-- the module is that of the label at this place
abbrev pub IsModuleAt : InputParts → List LabelParts → ℕ → Module → Type 0
IsModuleAt inputs ls place m = (l : LabelParts) × (slice_get ls place ≡ Some l) × (m ≡ module_of inputs l)

-- the module is the next to be read, that of the first label that is not read yet
abbrev pub IsNextIn : InputParts → List LabelParts → List Module → Module → Type 0
IsNextIn inputs ls ms m = IsModuleAt inputs ls (length ms) m

-- one more module is read, after a number of others; or all that was found is read
abbrev pub AfterReading : Bool → ℕ → List LabelParts → List Module → Type 0
AfterReading true n ls ms = length ms ≡ n + 1
AfterReading false n ls ms = (length ms ≡ n) × (length ls ≤ n)

-- all modules, each once
pub record AreFound (limits : Limits) (inputs : InputParts) (ms : List Module) : Type 0 where
  pub few : length ms ≤ limits.modules
  pub read : All (IsRead inputs) ms
  pub distinct : IsDistinct same_label (labels_of ms)
  pub all : (l : LabelParts) → IsModule inputs.packages (parsed_of inputs) l → Contains (labels_of ms) l
  pub only : (l : LabelParts) → Contains (labels_of ms) l → IsModule inputs.packages (parsed_of inputs) l

-- all modules, or there are too many
abbrev pub Finds : Limits → InputParts → Option (Vec Module Global) → Type 0
Finds limits inputs None = AreTooMany limits inputs.packages (parsed_of inputs)
Finds limits inputs (Some ms) = AreFound limits inputs ms.items
