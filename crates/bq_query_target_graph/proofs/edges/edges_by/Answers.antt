use Rattle.std.proofs.Common.{◌≡◌, ◌<◌, ◌+◌, ◌/◌, ◌%◌, ℕ, min, List, IfOk, Result, length, get_or, subst, rules}
use denote.Param.Send.{sendable}
use Rattle.std.proofs.Crossing.{crosses}
use Rattle.std.specs.Fork.{slice_chunk}
use Rattle.std.specs.declared.alloc.AllocError.{AllocError}
use Rattle.bq_package_target.specs.declared.target.Target.{Target}
use Rattle.bq_query_target_graph.specs.Order.{target_labels}
use Rattle.bq_query_target_graph.specs.Parts.{IsFoundIn}
use Rattle.bq_query_target_graph.specs.declared.edges.Part.{Part}
use Rattle.bq_package_target.proofs.Crossing.Targets.{target_sync}
use Rattle.bq_query_target_graph.proofs.Crossing.{part_send}
use Rattle.bq_query_target_graph.proofs.Parts.{joined_rows, joined_lines}
use Rattle.bq_query_target_graph.proofs.edges.edges_by.Goals as goal

pub map_chunks-requires-sync-T : goal.map_chunks-requires-sync-T
map_chunks-requires-sync-T g c κs = let t = target_sync in search sendable depth 60 fits 20000

pub map_chunks-requires-send-X : goal.map_chunks-requires-send-X
map_chunks-requires-send-X g c κs = let p = part_send in search (crosses, sendable) depth 60 fits 20000

pub returns : goal.returns
returns g c =
    let ls = target_labels c.args.targets.now in
    let files = c.args.files.now in
    let ts = c.args.targets.now in
    let rs = c.in_ok-parts.parts.items in
    let size = c.max-size.result in
    let some : 0 < size = search rules in
    let count : length rs ≡ length ts / size + min 1 (length ts % size) = search rules in
    let each : (n : ℕ) (d : Result Part AllocError) → n < length rs → IfOk (get_or rs n d) (IsFoundIn ls files (slice_chunk ts size n)) =
    λ n d h.
    let k = (c.in_ok-parts.ensures.each n d h).1 in
    subst (λ (us : List Target). IfOk (get_or rs n d) (IsFoundIn ls files us)) k.argument_is.value k.call in
    let joined = c.joined.ensures in
    record {
      rows = joined_rows ls files size ts rs some count each c.joined.result joined.given joined.rows;
      lines = joined_lines ls files size ts rs some count each c.joined.result joined.given joined.lines;
    }
