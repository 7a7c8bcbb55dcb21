-- The lines of labels that name no target.
use Rattle.std.proofs.Common.{◌≡◌, ap, List}
use Rattle.std.specs.List.{Contains}
use Rattle.bq_base_texts.specs.declared.fault_line.FaultLine.{FaultLine}
use Rattle.bq_package_target.specs.Package.{PackageTargets}
use Rattle.bq_query_target_graph.specs.Dangling.{all_dangling}
use Rattle.bq_query_target_graph.proofs.Danglings.{in_words}
use Rattle.bq_package_target.proofs.Writing.{only_written}
use Rattle.bq_run_laws.specs.DanglingLabels.Lines.{IsToldAt}

pub told : (ps : List PackageTargets) (x : FaultLine) → Contains (all_dangling ps) x → IsToldAt ps x
told ps x c =
    let d = (in_words ps x).0 c in
    record {
      owner = d.owner;
      known = d.known;
      target = d.target;
      declared = d.declared;
      label = d.label;
      writes = only_written d.target d.label d.named;
      elsewhere = d.elsewhere;
      kind = ap (λ (y : FaultLine). y.kind) d.line;
      file = ap (λ (y : FaultLine). y.label) d.line;
      line = ap (λ (y : FaultLine). y.line) d.line;
      detail = ap (λ (y : FaultLine). y.detail) d.line;
    }
