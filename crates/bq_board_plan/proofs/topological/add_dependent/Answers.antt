use Rattle.std.proofs.Common.{◌≡◌, ℕ, ◌+◌, ◌<◌, List, ◌∷◌, ◌++◌, [], length, take, get_or, set, map, arith, sym, subst, ap, ◌∙◌, Vec, Global}
use Rattle.std.proofs.lemmas.List.{take_more, map-set, get_or-map, length-map}
use Rattle.bq_board_plan.specs.Counts.{Has}
use Rattle.bq_board_plan.specs.Sorting.{Adds}
use Rattle.bq_board_plan.proofs.Settling.{Has-get_or}
use Rattle.bq_board_plan.proofs.Beginning.{adds_more}
use Rattle.std.proofs.lemmas.Grind.{common_steps}
use Rattle.bq_board_plan.proofs.topological.add_dependent.Goals as goal

inside : (loaded : List ℕ) (i : ℕ) (old dependents : List (Vec ℕ Global)) (u : ℕ) → ((l : ℕ) → Has loaded l → l < length old) → i < length loaded → Adds u (take i loaded) (map (λ r. r.items) old) (map (λ r. r.items) dependents) → get_or loaded i 0 < length dependents
inside loaded i old dependents u known h a = let items : Vec ℕ Global → List ℕ = λ r. r.items in omega (arith, known (get_or loaded i 0) (Has-get_or loaded i h), a.wide, length-map dependents items, length-map old items)

pub index_mut-requires : goal.index_mut-requires
index_mut-requires c = omega (arith, inside c.args.loaded.now c.loop-l.l-index c.args.dependents.now.items c.loop-l.dependents.items c.args.u c.requires c.loop-l-test.true c.loop-l.invariant, c.loop-l.dependents.ok)

step : (u : ℕ) (xs : List ℕ) (i : ℕ) (old dependents : List (Vec ℕ Global)) → Adds u (take i xs) (map (λ r. r.items) old) (map (λ r. r.items) dependents) → i < length xs → get_or xs i 0 < length dependents
    → (was now : Vec ℕ Global) → was ≡ get_or dependents (get_or xs i 0) was → now.items ≡ was.items ++ u ∷ [] → Adds u (take (i + 1) xs) (map (λ r. r.items) old) (map (λ r. r.items) (set dependents (get_or xs i 0) now))
step u xs i old dependents a h lt was now read e =
    let x : ℕ = get_or xs i 0 in
    let items : Vec ℕ Global → List ℕ = λ r. r.items in
    let at : get_or (map items dependents) x [] ≡ was.items = get_or-map items dependents x was [] lt ∙ ap items (sym read) in
    let more : Adds u (take i xs ++ x ∷ []) (map items old) (set (map items dependents) x now.items) = adds_more u x (take i xs) (map items old) (map items dependents) a (omega (arith, a.wide, length-map dependents items)) now.items (e ∙ ap (λ r. r ++ u ∷ []) (sym at)) in
    let P : List (List ℕ) → Type 0 = λ t. Adds u (take (i + 1) xs) (map items old) t in
    let Q : List ℕ → Type 0 = λ t. Adds u t (map items old) (set (map items dependents) x now.items) in
    subst P (sym (map-set items dependents x now)) (subst Q (sym (take_more xs i 0 h)) more)

pub loop-l-preserved : goal.loop-l-preserved
loop-l-preserved c = step c.args.u c.args.loaded.now c.loop-l.l-index c.args.dependents.now.items c.loop-l.dependents.items c.loop-l.invariant c.loop-l-test.true (inside c.args.loaded.now c.loop-l.l-index c.args.dependents.now.items c.loop-l.dependents.items c.args.u c.requires c.loop-l-test.true c.loop-l.invariant) c.index_mut.result.now c.push.new.self c.index_mut.ensures.value c.in_ok-push.ensures.items

pub returns : goal.returns
returns c = grind (arith, common_steps)
