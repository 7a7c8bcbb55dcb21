use Rattle.std.proofs.Common.{subst}
use Rattle.bq_base.specs.declared.limits.Limits.{Limits}
use Rattle.bq_load_discover.specs.LoadGraph.{DiscoversWithin, inputs_of}
use Rattle.bq_load_discover.proofs.discovery.discover.Goals as goal

pub returns : goal.returns
returns c = subst (λ (l : Limits). DiscoversWithin l (inputs_of c.args.workspace.now c.args.schema.now) c.discover_for.result) c.standard.ensures.value c.discover_for.ensures
