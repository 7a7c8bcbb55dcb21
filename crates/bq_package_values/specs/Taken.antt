-- Which values an attribute of each type takes, and why it refuses the others (Bazel, "attr"), in words of the value alone. `Values.antt`
-- computes just this: the laws `each_type_takes_its_values` and `each_type_refuses_other_values`.
use Rattle.std.specs.Prelude.{◌≡◌, ◌≢◌, ◌⊎◌, ℕ, true, List, ◌∷◌, Some, All, Any}
use Rattle.std.specs.List.{AllZip}
use Rattle.bq_base.specs.declared.fault.EvalFault.{EvalFault}
use Rattle.bq_base.specs.declared.fault.EvalFault.TheVariants as f
use Rattle.bq_label.specs.declared.packages.BuildFile.{BuildFile}
use Rattle.bq_label.specs.Label.{PackageParts, LabelParts, package_of, label_in, ReadsAs}
use Rattle.bq_label.specs.Paths.{is_path}
use Rattle.bq_label.specs.Packages.{label_path, owner_of}
use Rattle.bq_predeclared.specs.declared.attribute_type.AttributeType.{AttributeType}
use Rattle.bq_value_datum.specs.declared.attribute_value.AttributeValue.{AttributeValue}
use Rattle.bq_value_datum.specs.declared.attribute_value.AttributeValue.TheVariants as a
use Rattle.bq_value.specs.Datum.{Datum}
use Rattle.bq_value.specs.Cells.{StoreView}
use Rattle.bq_package_values.specs.declared.label_texts.TextKind.{TextKind}
use Rattle.bq_package_values.specs.declared.label_texts.TextKind.TheVariants as k
use Rattle.bq_package_values.specs.declared.written.Written.{Written}
use Rattle.bq_package_values.specs.declared.written.Written.TheVariants as w
use Rattle.bq_package_values.specs.Types.{IsWritten}

-- the text is the name of a file of the package, before which a colon may stand
pub data NamesFile (own : PackageParts) (text : List ℕ) (l : LabelParts) : Type 0 where
  bare : is_path text ≡ true → l ≡ label_in own text → NamesFile own text l
  after_colon : (name : List ℕ) → text ≡ 58 ∷ name → is_path name ≡ true → l ≡ label_in own name → NamesFile own text l

-- the text stands for the label in a file of the package
abbrev pub StandsFor : PackageParts → TextKind → List ℕ → LabelParts → Type 0
StandsFor own k.Label text l = ReadsAs own text l
StandsFor own k.Name text l = (is_path text ≡ true) × (l ≡ label_in own text)
StandsFor own k.Output text l = NamesFile own text l

-- the text stands for no label
abbrev pub StandsForNone : PackageParts → TextKind → List ℕ → Type 0
StandsForNone own kind text = (l : LabelParts) → ¬ (StandsFor own kind text l)

-- the label is of the package, and another package owns the path that it names
pub record CrossesInto (own : PackageParts) (packages : List BuildFile) (l : LabelParts) : Type 0 where
  pub owner : BuildFile
  pub mine : package_of l ≡ own
  pub owned : owner_of packages (label_path l) ≡ Some owner
  pub other : package_of l ≢ owner.id

-- no other package owns the path that the label names, if the label is of this package
abbrev pub StaysInside : PackageParts → List BuildFile → LabelParts → Type 0
StaysInside own packages l = ¬ (CrossesInto own packages l)

-- a text stands for this label, which stays inside
abbrev pub StandsInside : PackageParts → List BuildFile → TextKind → List ℕ → LabelParts → Type 0
StandsInside own packages kind text l = StandsFor own kind text l × StaysInside own packages l

-- texts stand for these labels, all of which stay inside
abbrev pub AllStandInside : PackageParts → List BuildFile → TextKind → List (List ℕ) → List LabelParts → Type 0
AllStandInside own packages kind texts ls = AllZip (StandsFor own kind) texts ls × All (StaysInside own packages) ls

-- what is written, as the value that it is once its labels are read
abbrev pub IsTyped : PackageParts → List BuildFile → Written → AttributeValue → Type 0
IsTyped own packages (w.Value x) y = y ≡ x
IsTyped own packages (w.Label text) y = (l : LabelParts) × StandsInside own packages k.Label text l × (y ≡ a.Label l)
IsTyped own packages (w.LabelList texts) y = (ls : List LabelParts) × AllStandInside own packages k.Label texts ls × (y ≡ a.LabelList ls)
IsTyped own packages (w.Output text) y = (l : LabelParts) × StandsInside own packages k.Output text l × (y ≡ a.Output l)
IsTyped own packages (w.OutputList texts) y = (ls : List LabelParts) × AllStandInside own packages k.Output texts ls × (y ≡ a.OutputList ls)

-- what a value is as the value of an attribute of a type
abbrev pub IsTakenAs : PackageParts → List BuildFile → StoreView → Datum → AttributeValue → AttributeType → Type 0
IsTakenAs own packages store v y type = (x : Written) × IsWritten store v type x × IsTyped own packages x y

-- a text stands for nothing, or for a label that crosses into another package (F37)
abbrev pub IsBadText : PackageParts → List BuildFile → TextKind → EvalFault → List ℕ → EvalFault → Type 0
IsBadText own packages kind none text why =
    (StandsForNone own kind text × (why ≡ none)) ⊎ ((l : LabelParts) × StandsFor own kind text l × CrossesInto own packages l × (why ≡ f.CrossesPackage))

-- one of the texts stands for nothing; or else one of their labels crosses into another package
abbrev pub AreBadTexts : PackageParts → List BuildFile → TextKind → EvalFault → List (List ℕ) → EvalFault → Type 0
AreBadTexts own packages kind none texts why =
    (Any (StandsForNone own kind) texts × (why ≡ none))
    ⊎ ((ls : List LabelParts) × AllZip (StandsFor own kind) texts ls × Any (CrossesInto own packages) ls × (why ≡ f.CrossesPackage))

-- why what is written is refused: F78 or F75, where a text stands for nothing; then F37
abbrev pub IsUntyped : PackageParts → List BuildFile → Written → EvalFault → Type 0
IsUntyped own packages (w.Value x) why = ⊥
IsUntyped own packages (w.Label text) why = IsBadText own packages k.Label f.BadLabel text why
IsUntyped own packages (w.LabelList texts) why = AreBadTexts own packages k.Label f.BadLabel texts why
IsUntyped own packages (w.Output text) why = IsBadText own packages k.Output f.BadName text why
IsUntyped own packages (w.OutputList texts) why = AreBadTexts own packages k.Output f.BadName texts why

-- why a value isn't taken: F73, where it is of another type, whatever its texts are; then for its texts
abbrev pub IsRefusedFor : PackageParts → List BuildFile → StoreView → Datum → AttributeType → EvalFault → Type 0
IsRefusedFor own packages store v type why =
    (((x : Written) → ¬ (IsWritten store v type x)) × (why ≡ f.AttributeType)) ⊎ ((x : Written) × IsWritten store v type x × IsUntyped own packages x why)
