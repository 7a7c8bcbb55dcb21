use Rattle.std.proofs.Common.{◌≡◌, ℕ, suc, ◌<◌, ◌≤◌, List, [], length, get_or, map, arith, sym, subst, ap, ◌∙◌, Vec, Global}
use Rattle.std.proofs.lemmas.List.{get_or_read, get_or-map, length-map}
use Rattle.bq_board_plan.specs.Counts.{Has, times}
use Rattle.bq_board_plan.specs.Sorting.{Settles}
use Rattle.bq_board_plan.specs.Topological.{IsTopologicalOrder}
use Rattle.bq_board_plan.proofs.Settling.{Has-get_or}
use Rattle.bq_board_plan.proofs.Turning.{few, dependents_inside, dependents_open, turn, ended}
use Rattle.bq_board_plan.proofs.Paths.{not_cyclic, stuck}
use Rattle.bq_board_plan.proofs.graph.Graph.sorted.Goals as goal

abbrev items : Vec ℕ Global → List ℕ
items r = r.items

abbrev lists : List (Vec ℕ Global) → List (List ℕ)
lists vs = map (λ r. r.items) vs

loaders_are : (vs : List (Vec ℕ Global)) (m k : ℕ) (v : Vec ℕ Global) (xs : List ℕ) → k < length vs → v ≡ get_or vs k v → xs ≡ v.items → k ≡ m → xs ≡ get_or (lists vs) m []
loaders_are vs m k v xs h read e same = e ∙ ap items read ∙ sym (get_or-map items vs k v [] h) ∙ ap (λ j. get_or (lists vs) j []) same

pub index-requires-in-loop-at : goal.index-requires-in-loop-at
index-requires-in-loop-at c =
    let more : c.loop-at.at < length c.loop-at.order.modules.items = omega (arith, c.loop-at-test.true, c.len-in-loop-at.ensures, c.loop-at.order.modules.ok) in
    let read : c.index.result.now ≡ get_or c.loop-at.order.modules.items c.loop-at.at 0 = get_or_read c.loop-at.order.modules.items c.loop-at.at c.index.result.now more c.index.ensures 0 in
    let inside : c.index.result.now < length c.in_ok-order.dependents.items = omega (arith, c.loop-at.invariant.within (get_or c.loop-at.order.modules.items c.loop-at.at 0) (Has-get_or c.loop-at.order.modules.items c.loop-at.at more), c.in_ok-order.ensures.dependents.wide, length-map c.in_ok-order.dependents.items items) in
    omega (arith, c.in_ok-order.dependents.ok)

pub settle-requires-clause-known : goal.settle-requires-clause-known
settle-requires-clause-known c =
    let more : c.loop-at.at < length c.loop-at.order.modules.items = omega (arith, c.loop-at-test.true, c.len-in-loop-at.ensures, c.loop-at.order.modules.ok) in
    let read : c.index.result.now ≡ get_or c.loop-at.order.modules.items c.loop-at.at 0 = get_or_read c.loop-at.order.modules.items c.loop-at.at c.index.result.now more c.index.ensures 0 in
    let inside : c.index.result.now < length c.in_ok-order.dependents.items = omega (arith, c.loop-at.invariant.within (get_or c.loop-at.order.modules.items c.loop-at.at 0) (Has-get_or c.loop-at.order.modules.items c.loop-at.at more), c.in_ok-order.ensures.dependents.wide, length-map c.in_ok-order.dependents.items items) in
    let loaders : c.as_slice-loaders.result.now ≡ get_or (lists c.in_ok-order.dependents.items) (get_or c.loop-at.order.modules.items c.loop-at.at 0) [] = loaders_are c.in_ok-order.dependents.items (get_or c.loop-at.order.modules.items c.loop-at.at 0) c.index.result.now c.index-in-loop-at.result.now c.as_slice-loaders.result.now inside c.index-in-loop-at.ensures c.as_slice-loaders.ensures.value read in
    let R : List ℕ → Type 0 = λ t. (u : ℕ) → Has t u → u < length c.loop-at.order.pending.items in
    subst R (sym loaders) (dependents_inside c.args.self.now c.len.ensures.valid.1 c.loop-at.at c.loop-at.order.modules.items c.loop-at.order.pending.items c.loop-at.invariant (lists c.in_ok-order.dependents.items) c.in_ok-order.ensures.dependents more)

pub settle-requires-clause-pending : goal.settle-requires-clause-pending
settle-requires-clause-pending c =
    let more : c.loop-at.at < length c.loop-at.order.modules.items = omega (arith, c.loop-at-test.true, c.len-in-loop-at.ensures, c.loop-at.order.modules.ok) in
    let read : c.index.result.now ≡ get_or c.loop-at.order.modules.items c.loop-at.at 0 = get_or_read c.loop-at.order.modules.items c.loop-at.at c.index.result.now more c.index.ensures 0 in
    let inside : c.index.result.now < length c.in_ok-order.dependents.items = omega (arith, c.loop-at.invariant.within (get_or c.loop-at.order.modules.items c.loop-at.at 0) (Has-get_or c.loop-at.order.modules.items c.loop-at.at more), c.in_ok-order.ensures.dependents.wide, length-map c.in_ok-order.dependents.items items) in
    let loaders : c.as_slice-loaders.result.now ≡ get_or (lists c.in_ok-order.dependents.items) (get_or c.loop-at.order.modules.items c.loop-at.at 0) [] = loaders_are c.in_ok-order.dependents.items (get_or c.loop-at.order.modules.items c.loop-at.at 0) c.index.result.now c.index-in-loop-at.result.now c.as_slice-loaders.result.now inside c.index-in-loop-at.ensures c.as_slice-loaders.ensures.value read in
    let R : List ℕ → Type 0 = λ t. (u : ℕ) → times u t ≤ get_or c.loop-at.order.pending.items u 0 in
    subst R (sym loaders) (dependents_open c.args.self.now c.len.ensures.valid.1 c.loop-at.at c.loop-at.order.modules.items c.loop-at.order.pending.items c.loop-at.invariant (lists c.in_ok-order.dependents.items) c.in_ok-order.ensures.dependents more)

pub loop-at-smaller : goal.loop-at-smaller
loop-at-smaller c =
    let more : c.loop-at.at < length c.loop-at.order.modules.items = omega (arith, c.loop-at-test.true, c.len-in-loop-at.ensures, c.loop-at.order.modules.ok) in
    omega (arith, few c.args.self.now c.len.ensures.valid.1 c.loop-at.at c.loop-at.order.modules.items c.loop-at.order.pending.items c.loop-at.invariant)

pub loop-at-preserved : goal.loop-at-preserved
loop-at-preserved c =
    let more : c.loop-at.at < length c.loop-at.order.modules.items = omega (arith, c.loop-at-test.true, c.len-in-loop-at.ensures, c.loop-at.order.modules.ok) in
    let read : c.index.result.now ≡ get_or c.loop-at.order.modules.items c.loop-at.at 0 = get_or_read c.loop-at.order.modules.items c.loop-at.at c.index.result.now more c.index.ensures 0 in
    let inside : c.index.result.now < length c.in_ok-order.dependents.items = omega (arith, c.loop-at.invariant.within (get_or c.loop-at.order.modules.items c.loop-at.at 0) (Has-get_or c.loop-at.order.modules.items c.loop-at.at more), c.in_ok-order.ensures.dependents.wide, length-map c.in_ok-order.dependents.items items) in
    let loaders : c.as_slice-loaders.result.now ≡ get_or (lists c.in_ok-order.dependents.items) (get_or c.loop-at.order.modules.items c.loop-at.at 0) [] = loaders_are c.in_ok-order.dependents.items (get_or c.loop-at.order.modules.items c.loop-at.at 0) c.index.result.now c.index-in-loop-at.result.now c.as_slice-loaders.result.now inside c.index-in-loop-at.ensures c.as_slice-loaders.ensures.value read in
    let R : List ℕ → Type 0 = λ t. Settles t c.loop-at.order.pending.items c.settle.new.pending.items c.loop-at.order.modules.items c.settle.new.order.items in
    turn c.args.self.now c.len.ensures.valid.1 c.loop-at.at c.loop-at.order.modules.items c.loop-at.order.pending.items c.loop-at.invariant (lists c.in_ok-order.dependents.items) c.in_ok-order.ensures.dependents more c.settle.new.pending.items c.settle.new.order.items (subst R loaders c.in_ok-settle.ensures)

pub returns : goal.returns
returns c = let d : IsTopologicalOrder c.args.self.now c.loop-at.order.modules.items c.loop-at.order.pending.items = ended c.args.self.now c.len.ensures.valid.1 c.loop-at.at c.loop-at.order.modules.items c.loop-at.order.pending.items c.loop-at.invariant (omega (arith, c.loop-at-test.false, c.len-in-loop-at.ensures, c.loop-at.order.modules.ok)) in
    record {
      order = d;
      cyclic = record { wide = d.wide; none = λ m h e. not_cyclic c.args.self.now c.len.ensures.valid.1 c.loop-at.order.modules.items c.loop-at.order.pending.items d m h e; some = λ m h e. stuck c.args.self.now c.len.ensures.valid.1 c.loop-at.order.modules.items c.loop-at.order.pending.items d (suc (length c.args.self.now)) m h e };
    }
