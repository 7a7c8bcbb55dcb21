-- Parts of definitions, as words that proofs name.
use Rattle.std.specs.Prelude.{Bool, false, not, Option, Some, None, List, [], ◌∷◌}
use Rattle.bq_package_target.specs.declared.target.Target.{Target}
use Rattle.bq_package_target.specs.Target.{is_source}
use Rattle.bq_label.specs.Label.{LabelParts}
use Rattle.bq_package_target.specs.declared.target.TargetKind.{TargetKind}
use Rattle.bq_package_target.specs.declared.target.TargetKind.TheVariants as k

-- a target that is not a source file
abbrev pub is_other : Option Target → Bool
is_other o = elim o [ None ↦ false | Some t ↦ not (is_source t.kind) ]

-- a generated file depends on its rule, another target on the labels that its attributes name
abbrev pub dependencies_by : TargetKind → List LabelParts → List LabelParts
dependencies_by o named = elim o [ k.Generated rule ↦ rule ∷ [] | _ ↦ named ]
