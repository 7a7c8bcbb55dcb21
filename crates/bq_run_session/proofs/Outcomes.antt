-- A session over a workspace that is loaded.
use Rattle.std.proofs.Common.{ℕ, List, Option, None, Some, Result, Err, subst, refl}
use Rattle.std.specs.Io.KnownBytes.{Appends, Keeps}
use Rattle.bq_label.specs.declared.workspace.File.{File}
use Rattle.bq_run.specs.declared.options.Options.{Options}
use Rattle.bq_run_device.specs.Device.{Begins}
use Rattle.bq_run_report.specs.declared.session.Session.{Session}
use Rattle.bq_run_write.specs.declared.error.RunErr.{RunErr}
use Rattle.bq_run_write.specs.declared.error.RunErr.TheVariants as run
use Rattle.bq_run_session.specs.declared.ending.SessionStatus.{SessionStatus}
use Rattle.bq_run_session.specs.Outcome.{Answers, DoesAnswer, at_first}
use Rattle.bq_run_session.specs.Session.{IsOn}

pub keeps_itself : (known : Option (List ℕ)) → Keeps known known
keeps_itself None = tt
keeps_itself (Some xs) = refl

module _ (version : List ℕ) (o : Options) (files : List File) (s : Session) (on : IsOn files o.limits s) (known : Option (List ℕ)) (f f' a a' : Option (List ℕ)) where
  pub all_written : (result : Result SessionStatus RunErr) → Appends f f' s.faults → Answers version o (at_first files on.inside) known result a a' → DoesAnswer version o files known result f f' a a'
  all_written result faults done = DoesAnswer.answered on.inside on.loaded (subst (Appends f f') on.over.faults faults) done

  pub faults_cut : Begins f f' s.faults → Keeps a a' → DoesAnswer version o files known (Err run.Write) f f' a a'
  faults_cut begins keeps = DoesAnswer.faults_cut on.inside on.loaded refl (subst (Begins f f') on.over.faults begins) keeps
