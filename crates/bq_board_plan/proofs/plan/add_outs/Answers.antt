use Rattle.std.proofs.Common.{◌≡◌, ℕ, ◌+◌, ◌<◌, List, ◌∷◌, ◌++◌, [], length, take, get_or, set, arith, sym, subst, ap, ◌∙◌, Vec, Global, append_assoc, length-append, length-take-le, length-set}
use Rattle.std.proofs.lemmas.List.{take_more, map-set, length-map}
use Rattle.bq_board_plan.specs.Graph.{Loads, row, lists}
use Rattle.bq_board_plan.specs.Plan.{OutsOf, AddsOuts}
use Rattle.bq_board_plan.proofs.Settling.{Has-get_or}
use Rattle.bq_board_plan.proofs.Rows.{items, row_is}
use Rattle.bq_board_plan.proofs.Outs.{outs_more}
use Rattle.std.proofs.lemmas.Grind.{common_steps}
use Rattle.bq_board_plan.proofs.plan.add_outs.Goals as goal

pub index_mut-requires : goal.index_mut-requires
index_mut-requires c = omega (arith, c.requires.known (get_or c.args.loaded.now c.loop-l.l-index 0) (Has-get_or c.args.loaded.now c.loop-l.l-index c.loop-l-test.true), c.loop-l.invariant.wide, c.loop-l.outs.ok)

step : (xs : List ℕ) (i first : ℕ) (old now : List (Vec ℕ Global)) → AddsOuts first (take i xs) (lists old) (lists now) → length now ≡ length old → i < length xs → get_or xs i 0 < length old
    → (was new : Vec ℕ Global) → was ≡ get_or now (get_or xs i 0) was → new.items ≡ was.items ++ (first + i) ∷ [] → AddsOuts first (take (i + 1) xs) (lists old) (lists (set now (get_or xs i 0) new))
step xs i first old now a same h lt was new read e srcs is o =
    let x : ℕ = get_or xs i 0 in let begun : List ℕ = srcs ++ take i xs in
    let at : row (lists now) x ≡ was.items = row_is now x was (omega arith) read in
    let count : first + i ≡ length begun = omega (arith, length-append srcs (take i xs), length-take-le i xs (omega arith)) in
    let more : OutsOf (begun ++ x ∷ []) (length (lists old)) (set (lists now) x new.items) = outs_more begun (length (lists old)) (lists now) (a srcs is o) x (omega (arith, length-map old items)) new.items
    (e ∙ ap (λ t. t ++ (first + i) ∷ []) (sym at) ∙ ap (λ n. row (lists now) x ++ n ∷ []) count) in
    let whole : begun ++ x ∷ [] ≡ srcs ++ take (i + 1) xs = append_assoc srcs (take i xs) (x ∷ []) ∙ ap (λ t. srcs ++ t) (sym (take_more xs i 0 h)) in
    let P : Loads → Type 0 = λ t. OutsOf (srcs ++ take (i + 1) xs) (length (lists old)) t in
    subst P (sym (map-set items now x new)) (subst (λ (t : List ℕ). OutsOf t (length (lists old)) (set (lists now) x new.items)) whole more)

pub loop-l-preserved : goal.loop-l-preserved
loop-l-preserved c =
    let known = c.requires.known (get_or c.args.loaded.now c.loop-l.l-index 0) (Has-get_or c.args.loaded.now c.loop-l.l-index c.loop-l-test.true) in
    let i = c.loop-l.invariant in record {
      outs = step c.args.loaded.now c.loop-l.l-index c.args.first c.args.outs.now.items c.loop-l.outs.items i.outs i.wide c.loop-l-test.true known c.index_mut.result.now c.push.new.self c.index_mut.ensures.value
          (c.in_ok-push.ensures.items ∙ ap (λ n. c.index_mut.result.now.items ++ n ∷ []) i.next);
      wide = length-set c.loop-l.outs.items (get_or c.args.loaded.now c.loop-l.l-index 0) c.push.new.self ∙ i.wide;
      next = omega (arith, i.next);
    }

pub returns : goal.returns
returns c = grind (arith, common_steps)
