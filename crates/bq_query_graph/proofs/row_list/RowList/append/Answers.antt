use Rattle.std.proofs.Common.{◌≡◌, ◌∙◌, ◌+◌, ◌-◌, ◌<◌, ◌≤◌, ◌^◌, ◌++◌, ℕ, List, length, take, drop, map, ap, arith}
use Rattle.std.specs.List.{All}
use Rattle.std.proofs.lemmas.List.{length-append, length-drop, take_all}
use Rattle.std.proofs.lemmas.List.Elements.{All-take, All-drop}
use Rattle.std.proofs.lemmas.Grind.{common_steps}
use Rattle.bq_query_graph.specs.Rows.{rows}
use Rattle.bq_query_graph.proofs.Lists.{length_places, rows_are, stays_flat, appended, starts_within}
use Rattle.bq_query_graph.proofs.row_list.RowList.append.Goals as goal

pub slice_bounds-add_places-count : goal.slice_bounds-add_places-count
slice_bounds-add_places-count c =
    let long = length_places 0 (rows c.other.inside.starts.items c.other.inside.heads.items) in
    omega (arith, long, ap length c.other.invariant.starts, ap length c.deref.ensures.value)

pub slice_bounds-add_places-start : goal.slice_bounds-add_places-start
slice_bounds-add_places-start c =
    let long = length_places 0 (rows c.other.inside.starts.items c.other.inside.heads.items) in
    omega (arith, long, ap length c.other.invariant.starts, ap length c.deref.ensures.value)

pub add_places-requires-clause-fit : goal.add_places-requires-clause-fit
add_places-requires-clause-fit c k d h =
    let heads = c.other.inside.heads.items in
    let here = c.deref.result.now in
    let within : All (λ (n : ℕ). n ≤ length heads) here = rw c.deref.ensures.value (starts_within _ _ heads c.other.invariant) in
    let place = All-take (λ (n : ℕ). n ≤ length heads) (length here - 1) (drop 1 here) (All-drop (λ (n : ℕ). n ≤ length heads) 1 here within) k d h in
    let before : c.len-before.result ≡ length c.self.inside.heads.items = grind (arith, common_steps) in
    let all = ap length c.in_ok-append.ensures.items ∙ length-append c.self.inside.heads.items heads in
    let fits : length c.append.new.self.items < 2 ^ 63 = grind (arith, common_steps) in
    omega (arith, place, before, all, fits)

pub invariant_of-self-2 : goal.invariant_of-self-2
invariant_of-self-2 c =
    let g = rows c.self.inside.starts.items c.self.inside.heads.items in
    let h = rows c.other.inside.starts.items c.other.inside.heads.items in
    let more = c.other.inside.starts.items in
    let here = c.deref.result.now in
    let before : c.len-before.result ≡ length c.self.inside.heads.items = grind (arith, common_steps) in
    let whole = take_all (length here - 1) (drop 1 here) (omega (arith, length-drop 1 here)) in
    let moved = ap (λ (z : List ℕ). map (λ (n : ℕ). c.len-before.result + n) z) (whole ∙ ap (λ (z : List ℕ). drop 1 z) c.deref.ensures.value) ∙ ap (λ (b : ℕ). map (λ (n : ℕ). b + n) (drop 1 more)) before in
    let starts = c.add_places.ensures
    ∙ (ap (λ (z : List ℕ). z ++ map (λ (n : ℕ). c.len-before.result + n) (take (length here - 1) (drop 1 here))) c.in_ok-reserve.ensures.items
    ∙ ap (λ (z : List ℕ). c.self.inside.starts.items ++ z) moved) in
    let flat = appended g h c.self.inside.starts.items c.self.inside.heads.items more c.other.inside.heads.items c.add_places.new.starts.items c.append.new.self.items c.self.invariant c.other.invariant c.in_ok-append.ensures.items starts in
    stays_flat _ _ _ flat

pub returns : goal.returns
returns c =
    let g = rows c.self.inside.starts.items c.self.inside.heads.items in
    let h = rows c.other.inside.starts.items c.other.inside.heads.items in
    let more = c.other.inside.starts.items in
    let here = c.deref.result.now in
    let before : c.len-before.result ≡ length c.self.inside.heads.items = grind (arith, common_steps) in
    let whole = take_all (length here - 1) (drop 1 here) (omega (arith, length-drop 1 here)) in
    let moved = ap (λ (z : List ℕ). map (λ (n : ℕ). c.len-before.result + n) z) (whole ∙ ap (λ (z : List ℕ). drop 1 z) c.deref.ensures.value) ∙ ap (λ (b : ℕ). map (λ (n : ℕ). b + n) (drop 1 more)) before in
    let starts = c.add_places.ensures
    ∙ (ap (λ (z : List ℕ). z ++ map (λ (n : ℕ). c.len-before.result + n) (take (length here - 1) (drop 1 here))) c.in_ok-reserve.ensures.items
    ∙ ap (λ (z : List ℕ). c.self.inside.starts.items ++ z) moved) in
    let flat = appended g h c.self.inside.starts.items c.self.inside.heads.items more c.other.inside.heads.items c.add_places.new.starts.items c.append.new.self.items c.self.invariant c.other.invariant c.in_ok-append.ensures.items starts in
    rows_are _ _ _ flat ∙ (ap (λ (z : List (List ℕ)). z ++ h) c.self.view_is ∙ ap (λ (z : List (List ℕ)). c.args.self.now ++ z) c.other.view_is)
