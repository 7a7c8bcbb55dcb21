use Rattle.std.proofs.Common.{◌∙◌, ◌++◌, false, ap, sym}
use Rattle.bq_query_target_graph.specs.Dangling.{dangling}
use Rattle.bq_query_target_graph.proofs.Danglings.{label_found, label_missing}
use Rattle.bq_query_target_graph.proofs.edges.add_label.Goals as goal

pub returns-in_ok-push-in-Some-clause-lines : goal.returns-in_ok-push-in-Some-clause-lines
returns-in_ok-push-in-Some-clause-lines c =
    let s = c.args.source in
    label_found s.labels.now s.files.now s.target.now c.args.label.now c.args.lines.now.items c.in-Some.to (sym c.number.ensures ∙ c.in-Some.is)

pub returns-in_ok-add_dangling-in-None-clause-lines : goal.returns-in_ok-add_dangling-in-None-clause-lines
returns-in_ok-add_dangling-in-None-clause-lines c =
    let s = c.args.source in
    let t = s.target.now in
    let x = c.args.label.now in
    let old = c.args.lines.now.items in
    let p = sym c.number.ensures ∙ c.in-None.is in
    let put = c.in_ok-add_dangling-in-None.ensures ∙ ap (λ z. old ++ dangling (λ _. false) z t.line x) c.file_of-file.ensures in
    label_missing s.labels.now s.files.now t x old c.add_dangling.new.lines.items p put
