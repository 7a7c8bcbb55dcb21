use Rattle.std.proofs.Common.{subst}
use Rattle.bq_base.specs.declared.limits.Limits.{Limits}
use Rattle.bq_load.specs.Loaded.{LoadsWithin}
use Rattle.bq_load.proofs.load.load_with.Goals as goal

pub returns : goal.returns
returns g c = subst (λ (l : Limits). LoadsWithin c.args.workspace.now c.args.schema.now l c.load_within.result) c.standard_with-limits.ensures.value c.load_within.ensures
