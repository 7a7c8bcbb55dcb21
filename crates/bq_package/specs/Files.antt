-- Calls of `exports_files` (Bazel, Build Encyclopedia, "Functions"): F52, F73, F75, F37.
use Rattle.std.specs.Prelude.{List, Result}
use Rattle.bq_base.specs.declared.fault.EvalFault.{EvalFault}
use Rattle.bq_label.specs.Label.{LabelParts}
use Rattle.bq_value.specs.Cells.{StoreView}
use Rattle.bq_builtin_machine.specs.Args.{Passed}
use Rattle.bq_builtin_machine.specs.Binding.{bind}
use Rattle.bq_package_values.specs.declared.label_texts.TextKind.TheVariants as k
use Rattle.bq_package_values.specs.Steps.{and_then}
use Rattle.bq_package_values.specs.LabelTexts.{labels}
use Rattle.bq_package.specs.Place.{PlaceView}
use Rattle.bq_package_values.specs.Parameters.{argument}
use Rattle.bq_package.specs.Bound.{exports_parameters, texts_of}

-- the files that a call names
unfoldable pub files_named : PlaceView → StoreView → Passed → Result (List LabelParts) EvalFault
files_named p store passed =
    and_then (bind exports_parameters passed) (λ b. and_then (texts_of store (argument b.values 0)) (labels p.own p.packages k.Name))
