-- The faults of modules, and their lines, are those of the stages of modules.
use Rattle.std.proofs.Common.{◌≡◌, ℕ, inl, inr, true, List, [], ◌∷◌, Result, Ok, Err, refl, sym, subst, arith, Contains, IfErr}
use Rattle.std.specs.List.{AllByRecursion}
use Rattle.std.proofs.lemmas.List.Elements.{Contains-append_cases}
use Rattle.bq_base.specs.declared.fault.Fault.{Fault}
use Rattle.bq_base.specs.declared.fault.FaultKind.{FaultKind}
use Rattle.bq_base.specs.declared.fault.TokenFault.{TokenFault}
use Rattle.bq_base.specs.declared.fault.TokenFault.TheVariants as t
use Rattle.bq_base.specs.declared.fault.StatementFault.{StatementFault}
use Rattle.bq_base.specs.declared.fault.StatementFault.TheVariants as s
use Rattle.bq_base.specs.declared.fault.NameFault.{NameFault}
use Rattle.bq_base.specs.declared.fault.NameFault.TheVariants as n
use Rattle.bq_base.specs.declared.fault.LoadFault.{LoadFault}
use Rattle.bq_base.specs.declared.fault.LoadFault.TheVariants as l
use Rattle.bq_base.specs.declared.fault.EvalFault.{EvalFault}
use Rattle.bq_base.specs.declared.fault.EvalFault.TheVariants as e
use Rattle.bq_base.specs.Fault.{fault_as, kind_of_token, kind_of_statement, kind_of_name, kind_of_load, kind_of_eval}
use Rattle.bq_label.specs.declared.workspace.File.{File}
use Rattle.bq_label.specs.Label.{LabelParts}
use Rattle.bq_label.specs.Workspace.{IsWorkspace}
use Rattle.bq_label.proofs.Orders.{head_or_tail}
use Rattle.bq_base_texts.specs.declared.fault_line.FaultLine.{FaultLine}
use Rattle.bq_base_texts.specs.FaultLine.{sorted_lines}
use Rattle.bq_base_texts.proofs.LineOrder.{same_lines}
use Rattle.bq_load.specs.declared.loaded.Loaded.{Loaded}
use Rattle.bq_base.specs.declared.limits.Limits.{Limits}
use Rattle.bq_load.specs.Loaded.{line_of, lines_by, fault_lines, LoadsWithin}
use Rattle.bq_load.specs.Results.{outcomes}
use Rattle.bq_load.specs.Loading.{loading_in}
use Rattle.bq_load.specs.Views.{ModuleView, FailedView, OutcomeView}
use Rattle.bq_load_discover.specs.LoadGraph.{GraphParts, IsReadGraph, inputs_of}
use Rattle.bq_load_front.specs.Inputs.{InputParts}
use Rattle.bq_package_schema.specs.Schema.{Rules}
use Rattle.bq_load_laws.specs.Faults.Parts.{is_of_module, FailsIn, FailsInItsPart, FaultsAreOfModules, FaultLinesAreOfModules}
use Rattle.bq_load_laws.proofs.Faults.Outcomes.{outcomes_fail}

of_token : (kind : TokenFault) → is_of_module (kind_of_token kind) ≡ true
of_token t.BadByte = refl
of_token _ = refl

of_statement : (kind : StatementFault) → is_of_module (kind_of_statement kind) ≡ true
of_statement s.Syntax = refl
of_statement _ = refl

of_name : (kind : NameFault) → is_of_module (kind_of_name kind) ≡ true
of_name n.Nesting = refl
of_name _ = refl

of_load : (kind : LoadFault) → is_of_module (kind_of_load kind) ≡ true
of_load l.BadLoadLabel = refl
of_load _ = refl

of_eval : (kind : EvalFault) → is_of_module (kind_of_eval kind) ≡ true
of_eval e.CrossesPackage = refl
of_eval _ = refl

by_stage : {K : Type 0} (kind : K → FaultKind) (at : Fault K) (why : Fault FaultKind) → why ≡ fault_as kind at → is_of_module (kind at.kind) ≡ true → is_of_module why.kind ≡ true
by_stage kind at why is h = subst (λ (z : Fault FaultKind). is_of_module z.kind ≡ true) (sym is) h

pub of_module : FaultsAreOfModules
of_module inputs m why (FailsIn.of_tokens x at there reads is) = by_stage kind_of_token at why is (of_token at.kind)
of_module inputs m why (FailsIn.of_statements x tokens at there reads parses is) = by_stage kind_of_statement at why is (of_statement at.kind)
of_module inputs m why (FailsIn.of_names x tokens trees at there reads parses names shallow is) = by_stage kind_of_name at why is (of_name at.kind)
of_module inputs m why (FailsIn.of_loads x file at there has in_load is) = by_stage kind_of_load at why is (of_load at.kind)
of_module inputs m why (FailsIn.of_evaluation x file at there has in_statement is) = by_stage kind_of_eval at why is (of_eval at.kind)

none_in : (line : FaultLine) → Contains [] line → ⊥
none_in line c = omega arith

-- what holds of each fault of a module, by its number and its line, holds of each fault line
module _ (Q : FaultKind → ℕ → Type 0) (holds : (inputs : InputParts) (l : LabelParts) (why : Fault FaultKind) → FailsIn inputs l why → Q why.kind why.line) where
  module _ (inputs : InputParts) (line : FaultLine) where
    by_result : (l : LabelParts) (r : Result ModuleView FailedView) → IfErr r (λ m. FailsIn inputs l m.fault) → Contains (lines_by l r) line → Q line.kind line.line
    by_result l (Ok m) h c = absurd (none_in line c)
    by_result l (Err m) h c = elim (head_or_tail (line_of l m) [] line c) [
      | inl same ↦ subst (λ (z : FaultLine). Q z.kind z.line) same (holds inputs l m.fault h)
      | inr more ↦ absurd (none_in line more)
    ]

    by_outcomes : (os : List OutcomeView) → AllByRecursion (FailsInItsPart inputs) os → Contains (fault_lines os) line → Q line.kind line.line
    by_outcomes [] all c = absurd (none_in line c)
    by_outcomes (o ∷ os) all c = elim (Contains-append_cases (lines_by o.label o.result) (fault_lines os) line c) [
      | inl here ↦ by_result o.label o.result all.0 here
      | inr later ↦ by_outcomes os all.1 later
    ]

  pub lines_in_graph : (files : List File) (rules : Rules) (limit : ℕ) (g : GraphParts) → IsWorkspace files → IsReadGraph (inputs_of files rules) g → (line : FaultLine)
      → Contains (sorted_lines (fault_lines (outcomes (loading_in files rules limit g) g.edges))) line → Q line.kind line.line
  lines_in_graph files rules limit g w is line c =
      let os = outcomes (loading_in files rules limit g) g.edges in
      by_outcomes (inputs_of files rules) line os (outcomes_fail files rules limit g w is) ((same_lines (fault_lines os) line).0 c)

  pub lines_loaded : (files : List File) (rules : Rules) (limits : Limits) (l : Loaded) → IsWorkspace files → LoadsWithin files rules limits (Ok l) → (line : FaultLine) → Contains l.faults line
      → Q line.kind line.line
  lines_loaded files rules limits l w h line c = lines_in_graph files rules limits.steps h.0 w h.1 line (subst (λ (z : List FaultLine). Contains z line) h.2.faults c)

pub lines_of_modules : FaultLinesAreOfModules
lines_of_modules = lines_loaded (λ kind line. is_of_module kind ≡ true) of_module
