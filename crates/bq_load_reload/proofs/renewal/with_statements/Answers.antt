use Rattle.bq_load_discover.specs.LoadGraph.{inputs_of}
use Rattle.bq_load_reload.proofs.Renewed.{all_as_read, is_numbered, is_same, packages_read}
use Rattle.bq_load_reload.proofs.renewal.with_statements.Goals as goal

pub modules_again-requires-clause-packages : goal.modules_again-requires-clause-packages
modules_again-requires-clause-packages c = packages_read c.args.sources.now.workspace.now c.args.sources.now.schema.now c.args.graph c.requires c.into_all-labels.result.3 c.into_all-labels.ensures.packages

pub modules_again-requires-clause-stay : goal.modules_again-requires-clause-stay
modules_again-requires-clause-stay c =
    all_as_read (inputs_of c.args.sources.now.workspace.now c.args.sources.now.schema.now) c.args.graph c.requires c.deref.result.now 0 c.into_all-labels.result.1.items c.into_all-labels.ensures.modules

pub of-requires : goal.of-requires
of-requires c =
    let all = c.into_all-labels.ensures in
    is_numbered (inputs_of c.args.sources.now.workspace.now c.args.sources.now.schema.now) c.args.graph c.into_all-labels.result.0 c.in_ok-again.again.modules.items c.into_all-labels.result.1.items c.into_all-labels.result.2 c.into_all-labels.result.3
    all.labels c.in_ok-again.ensures.read all.modules all.edges all.valid

pub returns : goal.returns
returns c =
    let all = c.into_all-labels.ensures in
    is_same (inputs_of c.args.sources.now.workspace.now c.args.sources.now.schema.now) c.args.graph c.into_all-labels.result.0 c.in_ok-again.again.modules.items c.into_all-labels.result.1.items c.into_all-labels.result.2 c.into_all-labels.result.3
    all.labels c.in_ok-again.ensures.read all.modules all.edges c.requires all.packages c.of.result c.of.ensures
