use Rattle.std.proofs.Common.{◌≡◌, ◌∙◌, ◌++◌, ◌∷◌, List, ℕ, [], ap, arith, add-zero, sym}
use Rattle.std.proofs.lemmas.List.{take_all}
use Rattle.bq_query_target_graph.specs.Order.{target_labels}
use Rattle.bq_query_target_graph.specs.Edges.{row_of, rows_of}
use Rattle.bq_query_target_graph.specs.Dangling.{dangling_at, dangling_from}
use Rattle.bq_query_target_graph.proofs.Lists.{given_next}
use Rattle.bq_query_target_graph.proofs.RowEdges.{rows_next}
use Rattle.bq_query_target_graph.proofs.edges.found_in.Goals as goal

pub loop-target-init : goal.loop-target-init
loop-target-init c = record {
  numbered = c.of-labels.ensures;
  count = sym (add-zero c.args.first);
  rows = c.in_ok-rows.ensures;
  lines = c.new-dangling.ensures.items;
}

pub loop-target-preserved : goal.loop-target-preserved
loop-target-preserved c =
    let l = c.loop-target in
    let ts = c.args.part.now in
    let files = c.args.files.now in
    let ls = target_labels c.args.targets.now in
    let t = c.target-item.result in
    let row = c.add_dependencies.new.row.items in
    let lines = c.add_dependencies.new.lines.items in
    let same : c.enter.new.self ≡ ls = c.enter.ensures ∙ l.invariant.numbered in
    let named : row ≡ row_of ls t =
    c.in_ok-add_dependencies.ensures.row ∙ (ap (λ (z : List ℕ). z ++ row_of c.enter.new.self t) c.clear.ensures.items ∙ ap (λ z. row_of z t) same) in
    let more : c.push.new.self ≡ l.rows ++ row_of ls t ∷ [] = c.in_ok-push.ensures ∙ ap (λ (z : List ℕ). l.rows ++ z ∷ []) (c.deref.ensures.value ∙ named) in
    let put : lines ≡ l.dangling.items ++ dangling_at ls files t = c.in_ok-add_dependencies.ensures.lines ∙ ap (λ z. l.dangling.items ++ dangling_at z files t) same in
    record {
      numbered = same;
      count = omega (arith, l.invariant.count);
      rows = rows_next ls ts l.target-index t l.rows c.push.new.self c.loop-target-test.true c.target-item.is l.invariant.rows more;
      lines = given_next (dangling_at ls files) ts l.target-index t [] l.dangling.items lines c.loop-target-test.true c.target-item.is l.invariant.lines put;
    }

pub returns : goal.returns
returns c =
    let l = c.loop-target in
    let ts = c.args.part.now in
    let ls = target_labels c.args.targets.now in
    record {
      rows = l.invariant.rows ∙ ap (rows_of ls) (take_all l.target-index ts c.loop-target-test.false);
      lines = l.invariant.lines ∙ ap (dangling_from ls c.args.files.now) (take_all l.target-index ts c.loop-target-test.false);
    }
