use Rattle.std.proofs.Common.{subst}
use Rattle.bq_base.specs.declared.limits.Limits.{Limits}
use Rattle.bq_load.specs.Loaded.{LoadsWithin}
use Rattle.bq_load.proofs.load.load_one_thread.Goals as goal

pub returns : goal.returns
returns c = subst (λ (l : Limits). LoadsWithin c.args.workspace.now c.args.schema.now l c.one_thread_within.result) c.standard_with.ensures.value c.one_thread_within.ensures
