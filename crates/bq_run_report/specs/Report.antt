-- What a run over a workspace that is loaded writes, and how it ends.
use Rattle.std.specs.Prelude.{◌≡◌, ◌↔◌, ℕ, ◌++◌, List, [], None, Some, Result, Ok, Err}
use Rattle.std.specs.List.{Contains, flat_map}
use Rattle.std.specs.List.Sorted.{IsStrictlyIncreasing}
use Rattle.bq_load.specs.declared.loaded.Loaded.{Loaded}
use Rattle.bq_base_texts.specs.declared.fault_line.FaultLine.{FaultLine}
use Rattle.bq_base_texts.specs.FaultLine.{put_lines}
use Rattle.bq_base_texts.specs.LineText.{line_text}
use Rattle.bq_package_target.specs.Package.{PackageTargets}
use Rattle.bq_query_target_graph.specs.Graph.{GraphParts}
use Rattle.bq_query_target_graph.specs.Edges.{IsGraphOf}
use Rattle.bq_query_target_graph.specs.Dangling.{dangling_lines}
use Rattle.bq_query_check.specs.Formula.{Formula}
use Rattle.bq_query.specs.Stands.{Stands}
use Rattle.bq_query.specs.Faults.{fault_in}
use Rattle.bq_query.specs.Printed.{printed}
use Rattle.bq_query.specs.declared.print.OutputForm.{OutputForm}
use Rattle.bq_run_write.specs.Ending.{status_by}
use Rattle.bq_run_write.specs.Report.{ReportView}
use Rattle.bq_run_write.specs.declared.ending.NoAnswer.{NoAnswer}
use Rattle.bq_run_write.specs.declared.ending.NoAnswer.TheVariants.{Query}
use Rattle.bq_run_write.specs.declared.ending.Status.{Status}
use Rattle.bq_run_report.specs.declared.reply.Reply.{Reply}
use Rattle.bq_run_report.specs.declared.session.Session.{Session}

-- ---- what is in a workspace that is loaded

-- what loading leaves for a report
pub record Inside : Type 0 where
  -- the lines of what its modules printed
  pub prints : List ℕ
  -- the lines of its modules' faults, in order
  pub faults : List FaultLine
  -- its packages in order
  pub packages : List PackageTargets

-- what loading gave, as a report needs it: prints, fault lines and packages
abbrev pub inside : Loaded → Inside
inside l = record { prints = l.prints; faults = l.faults; packages = l.packages }

-- the lines of all its faults: a label that names no target is one more
abbrev pub all_faults : Inside → List FaultLine
all_faults i = put_lines i.faults (dangling_lines i.packages)

-- the lines of prints, and those of faults behind them
abbrev pub fault_text : Inside → List ℕ
fault_text i = i.prints ++ flat_map line_text (all_faults i)

-- the session is over a workspace with this in it
pub record IsOver (i : Inside) (s : Session) : Type 0 where
  pub faults : s.faults ≡ fault_text i
  pub status : s.status ≡ status_by (all_faults i)
  pub graph : IsGraphOf i.packages s.graph

-- ---- the answer

-- the targets that a query stands for, by number, in the order of their labels
pub record IsAnswer (w : GraphParts) (x : Formula) (v : List ℕ) : Type 0 where
  pub ascending : IsStrictlyIncreasing v
  pub members : (y : ℕ) → Contains v y ↔ Stands w x [] y

-- the answer's text, and how the run ends
pub record ReplyView : Type 0 where
  pub text : List ℕ
  pub end : Result Status NoAnswer

-- the text and the ending of a reply, as contracts see them
abbrev pub reply_view : Reply → ReplyView
reply_view r = record { text = r.text; end = r.end }

-- the reply to a query over a graph: the lines of its answer, or the fault of a word that names what is not there
abbrev pub Replies : GraphParts → Formula → OutputForm → Status → ReplyView → Type 0
Replies w x form status reply = elim (fault_in w x) [
  | None ↦ (v : List ℕ) × IsAnswer w x v × (reply ≡ record { text = printed form w.targets v; end = Ok status })
  | Some why ↦ reply ≡ record { text = []; end = Err (Query why) }
]

-- ---- the report

-- the report on a workspace and on the query of this formula
pub record Reports (i : Inside) (x : Formula) (form : OutputForm) (r : ReportView) : Type 0 where
  pub graph : GraphParts
  pub made : IsGraphOf i.packages graph
  pub faults : r.faults ≡ fault_text i
  pub reply : Replies graph x form (status_by (all_faults i)) (record { text = r.answer; end = r.end })
