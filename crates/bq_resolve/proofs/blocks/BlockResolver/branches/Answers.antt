use Rattle.std.proofs.Common.{◌≡◌, ◌∙◌, ◌≤◌, length, Ok, length-set, arith}
use Rattle.std.proofs.lemmas.Grind.{common_steps}
use Rattle.bq_resolve_scope.specs.Statements.{branch}
use Rattle.bq_resolve.specs.Inner.{inner}
use Rattle.bq_resolve.proofs.Each.{each_more, each_fault, each_end}
use Rattle.bq_resolve.proofs.blocks.BlockResolver.branches.Goals as goal

pub loop-at-preserved : goal.loop-at-preserved
loop-at-preserved g c =
    let one = branch c.args.self.now.scope.file.now (inner c.args.self.now.scope c.args.self.now.layers c.args.looping) c.args.self.now.scope.blocks.now in
    let went : one c.item_mut.result.now c.loop-at.walk ≡ Ok (c.if_branch.new.branch, c.if_branch.new.walk) = grind (arith, common_steps) in
    let len : c.len-at-end.result ≡ length c.loop-at.branches = c.loop-at.invariant.0 in
    (grind (arith, common_steps, length-set), each_more one c.loop-at.branches c.loop-at.at c.item_mut.result.now c.loop-at.walk c.item_mut.ensures.value c.if_branch.new.branch c.if_branch.new.walk went ∙ c.loop-at.invariant.1)

pub returns-in_err-if_branch : goal.returns-in_err-if_branch
returns-in_err-if_branch g c =
    let one = branch c.args.self.now.scope.file.now (inner c.args.self.now.scope c.args.self.now.layers c.args.looping) c.args.self.now.scope.blocks.now in
    let fault = each_fault one c.loop-at.branches c.loop-at.at c.item_mut.result.now c.loop-at.walk c.item_mut.ensures.value in
    grind (arith, common_steps, fault)

pub returns : goal.returns
returns g c =
    let one = branch c.args.self.now.scope.file.now (inner c.args.self.now.scope c.args.self.now.layers c.args.looping) c.args.self.now.scope.blocks.now in
    let past : length c.loop-at.branches ≤ c.loop-at.at = grind (arith, common_steps) in
    let end = each_end one c.loop-at.branches c.loop-at.at c.loop-at.walk past in
    grind (arith, common_steps, end)
