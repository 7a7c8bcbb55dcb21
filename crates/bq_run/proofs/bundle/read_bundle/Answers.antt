use Rattle.std.proofs.Common.{◌≡◌, None, Some, subst}
use Rattle.std.specs.Prelude.{IfOk, IfSome, IsErrOf}
use Rattle.bq_base.specs.declared.limits.Limits.{Limits}
use Rattle.bq_run_write.specs.declared.error.RunErr.TheVariants as run
use Rattle.bq_run.specs.Bundle.{bundle_within}
use Rattle.bq_run.proofs.bundle.read_bundle.Goals as goal

pub returns-clause-found : goal.returns-clause-found
returns-clause-found g c =
    subst (λ (l : Limits). IfOk c.read_bundle_within.result (λ w. IfSome (g.R.ByteSource.remaining c.args.reader.now) (λ input. bundle_within l input ≡ Some w)))
    c.standard.ensures.value c.read_bundle_within.ensures.found

pub returns-clause-none : goal.returns-clause-none
returns-clause-none g c =
    subst (λ (l : Limits). IsErrOf c.read_bundle_within.result run.Bundle → IfSome (g.R.ByteSource.remaining c.args.reader.now) (λ input. bundle_within l input ≡ None))
    c.standard.ensures.value c.read_bundle_within.ensures.none
