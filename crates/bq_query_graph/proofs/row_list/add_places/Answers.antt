use Rattle.std.proofs.Common.{◌∙◌, ◌+◌, ◌++◌, ◌∷◌, ℕ, List, [], get_or, map, take, sym, ap, arith, append_assoc, append-nil}
use Rattle.std.proofs.lemmas.List.{map_more, take_all}
use Rattle.std.proofs.lemmas.Grind.{common_steps}
use Rattle.bq_query_graph.proofs.row_list.add_places.Goals as goal

pub loop-start-init : goal.loop-start-init
loop-start-init c = record { items = sym (append-nil c.args.starts.now.items); room = omega (arith, c.requires.room) }

pub push_reserved-requires : goal.push_reserved-requires
push_reserved-requires c = omega (arith, c.loop-start.invariant.room, c.loop-start-test.true)

pub overflow_add-by : goal.overflow_add-by
overflow_add-by c = let fits = c.requires.fit c.loop-start.start-index 0 c.loop-start-test.true in grind (arith, common_steps, fits)

pub loop-start-preserved : goal.loop-start-preserved
loop-start-preserved c =
    let l = c.loop-start in
    let more = c.args.further.now in
    let i = l.start-index in
    let next : ℕ = c.args.by + get_or more i 0 in
    record {
      items = c.push_reserved.ensures.items
          ∙ (ap (λ (z : List ℕ). z ++ next ∷ []) l.invariant.items
          ∙ (append_assoc c.args.starts.now.items (map (λ (n : ℕ). c.args.by + n) (take i more)) (next ∷ [])
          ∙ ap (λ (z : List ℕ). c.args.starts.now.items ++ z) (sym (map_more (λ (n : ℕ). c.args.by + n) more i 0 c.loop-start-test.true))));
      room = omega (arith, l.invariant.room, c.push_reserved.ensures.len, c.push_reserved.ensures.capacity);
    }

pub returns : goal.returns
returns c =
    let l = c.loop-start in
    l.invariant.items ∙ ap (λ (z : List ℕ). c.args.starts.now.items ++ map (λ (n : ℕ). c.args.by + n) z) (take_all l.start-index c.args.further.now (omega (arith, c.loop-start-test.false)))
