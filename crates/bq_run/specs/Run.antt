-- What a run writes for the bytes that it reads, and how it ends.
use Rattle.std.specs.Prelude.{◌≡◌, ◌≤◌, ℕ, List, [], Err}
use Rattle.bq_base.specs.Limits.{AreBounded}
use Rattle.bq_label.specs.declared.workspace.File.{File}
use Rattle.bq_load_workers.specs.Workers.{max_workers}
use Rattle.bq_run_write.specs.Deeds.{Run, run_report}
use Rattle.bq_run_write.specs.Report.{ReportView}
use Rattle.bq_run_write.specs.declared.error.RunErr.TheVariants as run
use Rattle.bq_run.specs.WorkspaceRun.{IsReportOn}
use Rattle.bq_run.specs.Written.{IsBundleWithin}
use Rattle.bq_run.specs.declared.options.Options.{Options}

-- a run over a workspace
abbrev pub IsRunOver : Options → List File → Run → Type 0
IsRunOver options files what = (r : ReportView) × IsReportOn options files r × (what ≡ run_report r)

-- a run over the bytes of a bundle, or over bytes that are none (E2 to E5)
pub data IsRunOf (options : Options) (input : List ℕ) (what : Run) : Type 0 where
  no_bundle : ((files : List File) → ¬ IsBundleWithin options.limits input files) → what ≡ record { faults = []; answer = []; end = Err run.Bundle } → IsRunOf options input what
  bundle : (files : List File) → IsBundleWithin options.limits input files → IsRunOver options files what → IsRunOf options input what

-- how many workers a run may have, how many steps a module, and how large the workspace may be
pub record IsInRange (o : Options) : Type 0 where
  pub some_job : 1 ≤ o.jobs
  pub jobs : o.jobs ≤ max_workers
  pub some_step : 1 ≤ o.limits.steps
  pub steps : o.limits.steps ≤ 1000000000
  pub bounded : AreBounded o.limits
