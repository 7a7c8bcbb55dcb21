use Rattle.std.proofs.Common.{◌∙◌, [], List, sym, ap, subst}
use Rattle.bq_label_set.specs.Labels.{with_labels}
use Rattle.bq_load_discover.specs.declared.modules.Module.{Module}
use Rattle.bq_load_discover.specs.Modules.{build_labels}
use Rattle.bq_load_discover.specs.Exploring.{Explores}
use Rattle.bq_load_discover.proofs.Exploring.{begins}
use Rattle.bq_load_discover.proofs.exploration.Exploration.new.Goals as goal

pub returns : goal.returns
returns c =
    let found = c.in_ok-build_labels.field-0 in
    let is = c.in_ok-build_labels.ensures ∙ ap (λ ps. with_labels [] (build_labels ps)) c.packages.ensures in
    subst (λ (z : List Module). Explores c.args.inputs.now found z) (sym c.new.ensures.items) (begins c.args.inputs.now found is)
