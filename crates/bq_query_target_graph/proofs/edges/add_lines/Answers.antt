use Rattle.std.proofs.Common.{◌≡◌, ◌∙◌, ◌∷◌, List, [], ap, arith, sym, rules}
use Rattle.std.specs.Vec.Iter.{into_iter_items}
use Rattle.std.proofs.lemmas.List.{nil_from_length}
use Rattle.bq_base_texts.specs.FaultLine.{put_lines}
use Rattle.bq_base_texts.specs.declared.fault_line.FaultLine.{FaultLine}
use Rattle.bq_query_target_graph.proofs.Danglings.{none_put}
use Rattle.bq_query_target_graph.proofs.edges.add_lines.Goals as goal

pub loop-line-preserved : goal.loop-line-preserved
unfolding put_lines
loop-line-preserved c =
    let l = c.loop-line in
    let rest = into_iter_items c.next.new.self in
    let goes : into_iter_items l.line-iterator ≡ c.in-Some.line ∷ rest = search rules in
    ap (λ (z : List FaultLine). put_lines z rest) c.in_ok-add.ensures ∙ (sym (ap (put_lines l.all) goes) ∙ l.invariant)

pub returns : goal.returns
returns c =
    let l = c.loop-line in
    let none : into_iter_items l.line-iterator ≡ [] = nil_from_length _ (omega (arith, c.in-None.ensures.steps.0, l.line-iterator.rest.ok.0)) in
    sym (none_put l.all) ∙ (sym (ap (put_lines l.all) none) ∙ l.invariant)
