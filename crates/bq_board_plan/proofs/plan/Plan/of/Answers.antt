use Rattle.std.proofs.Common.{◌≡◌, ℕ, ◌+◌, ◌-◌, ◌<◌, List, ◌++◌, length, take, sym, subst, ap, ◌∙◌, arith}
use Rattle.std.specs.Prelude.{replicate, vec_len}
use Rattle.std.proofs.lemmas.List.{take_all}
use Rattle.std.proofs.lemmas.Grind.{common_steps}
use Rattle.bq_board_plan.specs.Graph.{Loads, row, sources, edges, lists}
use Rattle.bq_base.specs.Limits.{number_bound}
use Rattle.bq_board_plan.specs.Plan.{start, OutsOf, StartsBelow, TargetsBelow}
use Rattle.bq_board_plan.proofs.Edges.{start_next, start_le}
use Rattle.bq_board_plan.proofs.Outs.{sources_next, sources_start}
use Rattle.bq_board_plan.proofs.Targets.{targets_none, targets_more, targets_all}
use Rattle.bq_board_plan.proofs.plan.Plan.of.Goals as goal

few : (p : Loads) (m next : ℕ) (loaded : List ℕ) → m < length p → edges p < number_bound → next ≡ start p m → loaded ≡ row p m → next + length loaded < number_bound
few p m next loaded h all is same = omega (arith, start_next p m h, start_le p (m + 1), ap (length {A = ℕ}) same)

pub loop-m-init : goal.loop-m-init
loop-m-init c =
    let p : Loads = c.args.graph in
    let starts : StartsBelow p 0 0 c.push.new.self.items = grind (arith, common_steps) in
    let targets : TargetsBelow p 0 c.new-targets.result.items = subst (λ (ts : List ℕ). TargetsBelow p 0 ts) (sym c.new-targets.ensures.items) (targets_none p) in
    let outs : OutsOf (sources (take 0 p)) (length p) (lists c.in_ok-outs.outs.items) = grind (arith, common_steps) in
    record { starts = starts; targets = targets; outs = outs }

pub overflow_cast-next : goal.overflow_cast-next
overflow_cast-next c = omega (arith, few c.args.graph c.loop-m.m c.loop-m.next c.row-loaded.result.now (omega arith) c.row-loaded.ensures.valid.0.1 c.loop-m.invariant.starts.ends c.row-loaded.ensures.row)

pub add_outs-requires-clause-known : goal.add_outs-requires-clause-known
add_outs-requires-clause-known c = grind (arith, common_steps)

pub add_outs-requires-clause-few : goal.add_outs-requires-clause-few
add_outs-requires-clause-few c = omega (arith, few c.args.graph c.loop-m.m c.loop-m.next c.row-loaded.result.now (omega arith) c.row-loaded.ensures.valid.0.1 c.loop-m.invariant.starts.ends c.row-loaded.ensures.row)

pub overflow_add-next : goal.overflow_add-next
overflow_add-next c = omega (arith, few c.args.graph c.loop-m.m c.loop-m.next c.row-loaded.result.now (omega arith) c.row-loaded.ensures.valid.0.1 c.loop-m.invariant.starts.ends c.row-loaded.ensures.row)

pub loop-m-preserved : goal.loop-m-preserved
loop-m-preserved c =
    let p : Loads = c.args.graph in let m = c.loop-m.m in let i = c.loop-m.invariant in let h : m < length p = omega arith in
    let ts = c.loop-m.targets.items in
    let more : ℕ = length (row p m) in
    let long : length c.row-loaded.result.now ≡ more = ap (length {A = ℕ}) c.row-loaded.ensures.row in
    let next : ℕ = c.loop-m.next + length c.row-loaded.result.now in
    let old : Loads = lists c.loop-m.outs.items in let new : Loads = lists c.add_outs.new.outs.items in
    let is : length old ≡ length p = i.outs.wide in
    let begun : List ℕ = sources (take m p) in
    let got : OutsOf (begun ++ c.row-loaded.result.now) (length old) new = c.in_ok-add_outs.ensures begun (sources_start p m ∙ sym i.starts.ends) (subst (λ (n : ℕ). OutsOf begun n old) (sym is) i.outs) in
    let whole : begun ++ c.row-loaded.result.now ≡ sources (take (m + 1) p) = ap (λ t. begun ++ t) c.row-loaded.ensures.row ∙ sym (sources_next p m h) in
    let kept : take next ts ≡ ts = take_all next ts (omega (arith, i.targets.wide, i.starts.ends)) in
    let count : next - vec_len c.loop-m.targets ≡ more = omega (arith, i.targets.wide, i.starts.ends, long, c.loop-m.targets.ok) in
    let same : c.resize.new.self.items ≡ ts ++ replicate more m =
    c.in_ok-resize.ensures.items ∙ (ap (λ (t : List ℕ). t ++ replicate (next - vec_len c.loop-m.targets) m) kept ∙ ap (λ (n : ℕ). ts ++ replicate n m) count) in
    let starts : StartsBelow p (m + 1) next c.push-in-loop-m.new.self.items = grind (arith, common_steps) in
    record {
      starts = starts;
      targets = targets_more p m ts c.resize.new.self.items more i.targets h (λ j. more) same;
      outs = subst (λ (t : List ℕ × ℕ). OutsOf t.0 t.1 new) (λ j. (whole j, is j)) got;
    }

pub invariant_of-result : goal.invariant_of-result
invariant_of-result c =
    let p : Loads = c.args.graph in let i = c.loop-m.invariant in
    let end : c.loop-m.m ≡ length p = omega (arith, c.len-m-end.ensures.len) in (
      (c.len-m-end.ensures.valid, c.requires),
      record { wide = i.starts.wide ∙ ap (λ (n : ℕ). n + 1) end; at = λ k h. i.starts.at k (omega (arith, end)) },
      targets_all p c.loop-m.m c.loop-m.targets.items end i.targets,
      subst (λ (t : Loads). OutsOf (sources t) (length p) (lists c.loop-m.outs.items)) (take_all c.loop-m.m p (omega (arith, end))) i.outs,
    )
