-- Modules that several threads read at once.
use Rattle.std.specs.Prelude.{◌≡◌, List, ◌++◌, IfOk, IfSome}
use Rattle.bq_label.specs.Label.{LabelParts}
use Rattle.bq_load_front.specs.Inputs.{InputParts}
use Rattle.bq_load_discover.specs.declared.waves.Reading.{Reading}
use Rattle.bq_load_discover.specs.Exploring.{IsModuleAt}

-- what was read, if anything, is the module of the label at its place
abbrev pub IsReading : InputParts → List LabelParts → Reading → Type 0
IsReading inputs ls r = IfOk r.read (λ o. IfSome o (IsModuleAt inputs ls r.place))

-- labels were added after those that were there
abbrev pub Grows : List LabelParts → List LabelParts → Type 0
Grows old new = (more : List LabelParts) × (new ≡ old ++ more)
