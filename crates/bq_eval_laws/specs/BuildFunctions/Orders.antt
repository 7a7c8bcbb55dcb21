-- In which order the calls of build functions are refused (ours: the order).
use Rattle.std.specs.Prelude.{ℕ, not, List, [], ◌∷◌, Option, Some, None, Result}
use Rattle.bq_base.specs.declared.fault.EvalFault.{EvalFault}
use Rattle.bq_base.specs.declared.fault.EvalFault.TheVariants.{BadValue, DoubleTarget}
use Rattle.bq_value.specs.Datum.{Datum}
use Rattle.bq_value.specs.Cells.{StoreView}
use Rattle.bq_builtin_machine.specs.Args.{Passed}
use Rattle.bq_builtin_machine.specs.Binding.{bind}
use Rattle.bq_builtin_machine.specs.State.{State}
use Rattle.bq_value_datum.specs.Class.{Class}
use Rattle.bq_package_target.specs.Calls.{declared}
use Rattle.bq_package_target.specs.declared.state.Declared.{Declared}
use Rattle.bq_package_target.specs.declared.state.Declared.TheVariants.{Accepted, Refused}
use Rattle.bq_package_target.specs.declared.target.Target.{Target}
use Rattle.bq_package_values.specs.declared.label_texts.TextKind.TheVariants as k
use Rattle.bq_package_values.specs.LabelTexts.{labels}
use Rattle.bq_package_values.specs.Parameters.{argument}
use Rattle.bq_package.specs.Bound.{glob_parameters, exports_parameters, texts_of}
use Rattle.bq_package.specs.Calls.{Declaring}
use Rattle.bq_package.specs.Glob.{patterns, excludes_directories, request_of, found}
use Rattle.bq_package.specs.Place.{PlaceView}
use Rattle.bq_package.specs.Rules.{declared_target}
use Rattle.bq_builtin_machine.specs.Refusals.{Check, when, first_fault, fault_in, fault_then}

-- F74: the names are new
abbrev pub taken : Declared → Check
taken (Accepted q) = None
taken (Refused q) = Some DoubleTarget

-- what is read of the arguments, and then the names that it declares
abbrev pub then_taken : {A : Type 0} → Result A EvalFault → (A → Declared) → List Check
then_taken read declare = fault_in read ∷ fault_then read (λ a. taken (declare a)) ∷ []

-- the target that is read of the arguments, and then its name
abbrev pub adding : Declaring → Result Target EvalFault → List Check
adding d read = then_taken read (declared d.package)

-- the target that a call of a rule of a .bzl file declares
abbrev pub bzl_target : Declaring → State → List ℕ → Class → Passed → Result Target EvalFault
bzl_target d s rule class passed = declared_target d.place s.store s.line rule class passed

-- ---- `glob`

-- F73 of both lists, then directories that are asked for (F57), then the patterns of both lists (F77)
abbrev pub requesting : StoreView → List (Option Datum) → List Check
requesting store values =
    fault_in (texts_of store (argument values 0))
    ∷ fault_in (texts_of store (argument values 1))
    ∷ when (not (excludes_directories (argument values 2))) BadValue
    ∷ fault_then (texts_of store (argument values 0)) (λ include. fault_in (patterns include))
    ∷ fault_then (texts_of store (argument values 1)) (λ exclude. fault_in (patterns exclude))
    ∷ []

-- the form of the arguments (F52), what they are, and that nothing is given (F76)
abbrev pub globbing : PlaceView → StoreView → Passed → List Check
globbing p store passed =
    fault_in (bind glob_parameters passed)
    ∷ fault_then (bind glob_parameters passed) (λ b. first_fault (requesting store b.values))
    ∷ fault_then (bind glob_parameters passed) (λ b. fault_then (request_of store b.values) (λ r. fault_in (found p r)))
    ∷ []

-- ---- `exports_files`

-- the form of the arguments (F52), strings (F73), labels of the package (F75, F37)
abbrev pub naming_files : PlaceView → StoreView → Passed → List Check
naming_files p store passed =
    fault_in (bind exports_parameters passed)
    ∷ fault_then (bind exports_parameters passed) (λ b. fault_in (texts_of store (argument b.values 0)))
    ∷ fault_then (bind exports_parameters passed) (λ b. fault_then (texts_of store (argument b.values 0)) (λ texts. fault_in (labels p.own p.packages k.Name texts)))
    ∷ []
