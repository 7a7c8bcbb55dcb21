-- Parts of definitions, as words that proofs name.
use Rattle.std.specs.Prelude.{Bool, Err, None, Ok, Option, Result, Some, false, not}
use Rattle.bq_base.specs.declared.fault.EvalFault.{EvalFault}
use Rattle.bq_base.specs.declared.fault.EvalFault.TheVariants.{BadLabel}
use Rattle.bq_label.specs.Label.{LabelParts}
use Rattle.bq_label.specs.declared.packages.BuildFile.{BuildFile}
use Rattle.bq_package_target.specs.Target.{is_of}

-- a label that was read, or the fault that it is none
abbrev pub label_found : Option LabelParts → Result LabelParts EvalFault
label_found o = elim o [ None ↦ Err BadLabel | Some l ↦ Ok l ]

-- a path lies in another package than its label's (F37)
abbrev pub is_owned_by_other : LabelParts → Option BuildFile → Bool
is_owned_by_other l o = elim o [ None ↦ false | Some b ↦ not (is_of b.id l) ]
