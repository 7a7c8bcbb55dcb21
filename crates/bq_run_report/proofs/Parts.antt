-- The report that the session over a workspace and the reply to a query are parts of.
use Rattle.std.proofs.Common.{◌≡◌, ℕ, List, [], None, Some, Ok, Err, subst}
use Rattle.bq_query_target_graph.specs.Graph.{GraphParts}
use Rattle.bq_query_check.specs.Verdict.{Fault}
use Rattle.bq_query_check.specs.Formula.{Formula}
use Rattle.bq_query.specs.Printed.{printed}
use Rattle.bq_query.specs.declared.print.OutputForm.{OutputForm}
use Rattle.bq_run_write.specs.declared.ending.NoAnswer.TheVariants.{Query}
use Rattle.bq_run_write.specs.declared.ending.Status.{Status}
use Rattle.bq_run_report.specs.declared.session.Session.{Session}
use Rattle.bq_run_report.specs.Report.{Inside, IsAnswer, IsOver, ReplyView, Replies, Reports}

-- the reply, by the fault of the query
abbrev pub RepliesBy : Fault → GraphParts → Formula → OutputForm → Status → ReplyView → Type 0
RepliesBy fault w x form status reply = elim fault [
  | None ↦ (v : List ℕ) × IsAnswer w x v × (reply ≡ record { text = printed form w.targets v; end = Ok status })
  | Some why ↦ reply ≡ record { text = []; end = Err (Query why) }
]

pub whole : (i : Inside) (x : Formula) (form : OutputForm) (s : Session) (reply : ReplyView) → IsOver i s → Replies s.graph x form s.status reply
    → Reports i x form (record { faults = s.faults; answer = reply.text; end = reply.end })
whole i x form s reply over replies = record {
  graph = s.graph;
  made = over.graph;
  faults = over.faults;
  reply = subst (λ (status : Status). Replies s.graph x form status reply) over.status replies;
}
