-- A workspace that is loaded and a query have one report.
use Rattle.std.proofs.Common.{◌≡◌, ◌∙◌, ℕ, List, [], None, Some, Result, Ok, ap, subst, sym}
use Rattle.bq_label.specs.Label.{PackageParts}
use Rattle.bq_query_check.specs.Formula.{Formula}
use Rattle.bq_query_check.specs.Verdict.{Fault}
use Rattle.bq_package_target.specs.declared.target.Target.{Target}
use Rattle.bq_query_target_graph.specs.Graph.{GraphParts}
use Rattle.bq_query_target_graph.specs.Edges.{DependsOn, IsGraphOf}
use Rattle.bq_query.specs.Faults.{fault_in}
use Rattle.bq_query.specs.Printed.{printed}
use Rattle.bq_query.specs.declared.print.OutputForm.{OutputForm}
use Rattle.bq_run_write.specs.declared.ending.NoAnswer.{NoAnswer}
use Rattle.bq_run_write.specs.declared.ending.Status.{Status}
use Rattle.bq_run_write.specs.Ending.{status_by}
use Rattle.bq_run_report.specs.Laws.{OneReport}
use Rattle.bq_run_write.specs.Report.{ReportView}
use Rattle.bq_run_report.specs.Report.{IsAnswer, Inside, ReplyView, Replies, all_faults}
use Rattle.bq_run_report.proofs.Parts.{RepliesBy}
use Rattle.bq_run_report.proofs.OneList.{one_list}
use Rattle.bq_query_function.proofs.Within.{PairsIn, graph}
use Rattle.bq_run_report.proofs.SamePairs.{same_fault, same_set}

reply_at : List ℕ → Result Status NoAnswer → ReplyView
reply_at text end = record { text = text; end = end }

report_at : List ℕ → ReplyView → ReportView
report_at faults reply = record { faults = faults; answer = reply.text; end = reply.end }

module _ (ts : List Target) (ps : List PackageParts) (g h : List (List ℕ)) (to : PairsIn g h) (from : PairsIn h g) where
  same_answer : (x : Formula) (v w : List ℕ) → IsAnswer (graph ts ps g) x v → IsAnswer (graph ts ps h) x w → v ≡ w
  same_answer x v w a b =
      let s = same_set ts ps g h to from x [] in
      one_list v w a.ascending b.ascending
      (λ y. (λ c. (b.members y).1 (s.0 y ((a.members y).0 c)), λ c. (a.members y).1 (s.1 y ((b.members y).0 c))))

  same_reply_by : (fault : Fault) (x : Formula) (form : OutputForm) (status : Status) (r s : ReplyView)
      → RepliesBy fault (graph ts ps g) x form status r → RepliesBy fault (graph ts ps h) x form status s → r ≡ s
  unfolding reply_at
  same_reply_by None x form status r s a b =
      let same = same_answer x a.0 b.0 a.1 b.1 in
      a.2 ∙ ap (λ (v : List ℕ). reply_at (printed form ts v) (Ok status)) same ∙ sym b.2
  same_reply_by (Some why) x form status r s a b = a ∙ sym b

  same_reply : (x : Formula) (form : OutputForm) (status : Status) (r s : ReplyView)
      → Replies (graph ts ps g) x form status r → Replies (graph ts ps h) x form status s → r ≡ s
  same_reply x form status r s a b =
      let here = subst (λ (f : Fault). RepliesBy f (graph ts ps h) x form status s) (sym (same_fault ts ps g h x)) b in
      same_reply_by (fault_in (graph ts ps g) x) x form status r s a here

module _ (i : Inside) (f : Formula) (form : OutputForm) where
  replies : GraphParts → ReportView → Type 0
  replies g r = Replies g f form (status_by (all_faults i)) (reply_at r.answer r.end)

  same_reports : (g h : GraphParts) (r s : ReportView) → IsGraphOf i.packages g → IsGraphOf i.packages h → replies g r → replies h s → reply_at r.answer r.end ≡ reply_at s.answer s.end
  unfolding replies
  same_reports g h r s made other a b =
      let t : h.targets ≡ g.targets = other.targets ∙ sym made.targets in
      let p : h.packages ≡ g.packages = other.packages ∙ sym made.packages in
      let to : PairsIn g.edges h.edges = λ x y c. (other.pairs x y).1 (subst (λ (ts : List Target). DependsOn ts x y) (sym t) ((made.pairs x y).0 c)) in
      let from : PairsIn h.edges g.edges = λ x y c. (made.pairs x y).1 (subst (λ (ts : List Target). DependsOn ts x y) t ((other.pairs x y).0 c)) in
      let status = status_by (all_faults i) in
      let reply = reply_at s.answer s.end in
      let moved : Replies (graph g.targets h.packages h.edges) f form status reply =
      subst (λ (ts : List Target). Replies (graph ts h.packages h.edges) f form status reply) t b in
      let here : Replies (graph g.targets g.packages h.edges) f form status reply =
      subst (λ (ps : List PackageParts). Replies (graph g.targets ps h.edges) f form status reply) p moved in
      same_reply g.targets g.packages g.edges h.edges to from f form status (reply_at r.answer r.end) reply a here

pub one_report : OneReport
unfolding report_at reply_at replies
one_report i x form r s a b =
    let faults : r.faults ≡ s.faults = a.faults ∙ sym b.faults in
    let reply = same_reports i x form a.graph b.graph r s a.made b.made a.reply b.reply in
    let one : report_at r.faults (reply_at r.answer r.end) ≡ report_at s.faults (reply_at s.answer s.end) =
    ap (λ (v : ReplyView). report_at r.faults v) reply ∙ ap (λ (fs : List ℕ). report_at fs (reply_at s.answer s.end)) faults in
    one
