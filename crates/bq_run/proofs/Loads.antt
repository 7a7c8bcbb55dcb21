-- A report on what was loaded is a report on the workspace.
use Rattle.std.proofs.Common.{◌≡◌, ◌∙◌, ℕ, List, Ok, ap, subst, sym}
use Rattle.bq_base_texts.specs.declared.fault_line.FaultLine.{FaultLine}
use Rattle.bq_label.specs.declared.packages.BuildFile.{BuildFile}
use Rattle.bq_label.specs.declared.workspace.File.{File}
use Rattle.bq_label.specs.Packages.{packages_of}
use Rattle.bq_package_schema.specs.Schema.{Rules}
use Rattle.bq_package_target.specs.Package.{PackageTargets}
use Rattle.bq_load_by_name.specs.LoadGraph.{GraphParts, IsReadGraph, inputs_of}
use Rattle.bq_load_by_name.specs.Schema.{schema_in}
use Rattle.bq_load_by_name.specs.Loading.{loading_in}
use Rattle.bq_load_by_name.specs.Loaded.{IsGathered, IsLoaded}
use Rattle.bq_load_by_name.specs.Views.{OutcomeView}
use Rattle.bq_load_by_name.specs.Reading.{parsed_of}
use Rattle.bq_load_by_name.specs.Results.{Loaded, LoadsByNames}
use Rattle.bq_load_by_name.proofs.Outcomes.{outcomes_agree}
use Rattle.bq_query_check.specs.Checked.{IsChecked}
use Rattle.bq_query_check.specs.Formula.{Formula}
use Rattle.bq_run_write.specs.Report.{ReportView}
use Rattle.bq_run_report.specs.Report.{Inside, Reports, inside}
use Rattle.bq_run.specs.WorkspaceRun.{IsReportOn, inside_by, loaded_in}
use Rattle.bq_run.specs.declared.options.Options.{Options}

abbrev inside_of : List ℕ → List FaultLine → List PackageTargets → Inside
inside_of a b c = record { prints = a; faults = b; packages = c }

loaded_inside : (bs : List BuildFile) (os : List OutcomeView) (l : Loaded) → IsGathered bs os l → inside l ≡ inside_by bs os
loaded_inside bs os l is =
    ap (λ (a : List ℕ). inside_of a l.faults l.packages) is.prints
    ∙ ap (λ (b : List FaultLine). inside_of (inside_by bs os).prints b l.packages) is.faults
    ∙ ap (λ (c : List PackageTargets). inside_of (inside_by bs os).prints (inside_by bs os).faults c) is.packages

pub loaded_report : (o : Options) (files : List File) (x : Formula) (rules : Rules) (l : Loaded) (r : ReportView) → IsChecked o.query.items x → schema_in files ≡ Ok rules
    → LoadsByNames files rules o.limits (Ok l) → Reports (inside l) x o.output r → IsReportOn o files r
loaded_report o files x rules l r checked schema loads reports =
    IsReportOn.loaded x rules loads.0 loads.2 loads.3 checked schema loads.1 loads.4 loads.6 (subst (λ (i : Inside). Reports i x o.output r) (loaded_inside _ _ l loads.5) reports)

-- what is inside a workspace whose modules gave this by slots is what they give by names
module _ (files : List File) (rules : Rules) (limit : ℕ) (g : GraphParts) (is : IsReadGraph (inputs_of files rules) g) where
  pub inside_by_names : (l : Loaded) → IsLoaded (loading_in files rules limit g) g.edges l → inside l ≡ loaded_in files rules (parsed_of (inputs_of files rules)) limit g.labels g.edges
  inside_by_names l by_slots = loaded_inside (packages_of files) _ l by_slots ∙ sym (ap (inside_by (packages_of files)) (outcomes_agree files rules limit g is))
