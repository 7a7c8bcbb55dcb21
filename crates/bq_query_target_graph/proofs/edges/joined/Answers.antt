use Rattle.std.proofs.Common.{◌≡◌, ◌∙◌, ◌∷◌, ◌++◌, [], Ok, All, IsOk, ap, append-nil, arith, rules, subst, sym}
use Rattle.std.specs.List.{flat_map}
use Rattle.std.specs.Result.{is_ok}
use Rattle.std.specs.Vec.Iter.{into_iter_items}
use Rattle.std.proofs.lemmas.List.{nil_from_length}
use Rattle.bq_base_texts.specs.FaultLine.{put_lines, sorted_lines}
use Rattle.bq_query_target_graph.specs.Parts.{part_rows, part_lines}
use Rattle.bq_query_target_graph.proofs.Lists.{parts_next, all_next}
use Rattle.bq_query_target_graph.proofs.Danglings.{none_put, put_next}
use Rattle.bq_query_target_graph.proofs.edges.joined.Goals as goal

pub loop-one-preserved : goal.loop-one-preserved
loop-one-preserved c =
    let l = c.loop-one in
    let r = c.in-Some.one in
    let all = c.args.parts.items in
    let old = into_iter_items l.one-iterator in
    let rest = into_iter_items c.next.new.self in
    let goes : old ≡ r ∷ rest = search rules in
    let is : r ≡ Ok c.in-Ok.part = c.in-Ok.is in
    let now = c.add.new.self in
    let added = c.in_ok-add-in-Ok.ensures in
    record {
      given = all_next IsOk all old rest r goes l.invariant.given (ap is_ok is);
      rows = parts_next part_rows (flat_map part_rows all) l.found.rows now.rows old rest r goes l.invariant.rows (added.rows ∙ ap (λ z. l.found.rows ++ part_rows z) (sym is));
      lines = put_next part_lines old rest r l.found.dangling now.dangling (sorted_lines (flat_map part_lines all)) goes l.invariant.lines (added.lines ∙ ap (λ z. put_lines l.found.dangling (part_lines z)) (sym is));
    }

pub returns : goal.returns
returns c =
    let l = c.loop-one in
    let none : into_iter_items l.one-iterator ≡ [] = nil_from_length _ (omega (arith, c.in-None.ensures.steps.0, l.one-iterator.rest.ok.0)) in
    record {
      given = l.invariant.given (subst (λ z. All IsOk z) (sym none) (λ k d h. absurd (omega arith)));
      rows = sym (append-nil l.found.rows) ∙ (sym (ap (λ z. l.found.rows ++ flat_map part_rows z) none) ∙ l.invariant.rows);
      lines = sym (none_put l.found.dangling) ∙ (sym (ap (λ z. put_lines l.found.dangling (flat_map part_lines z)) none) ∙ l.invariant.lines);
    }
