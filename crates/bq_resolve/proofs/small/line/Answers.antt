use Rattle.std.proofs.Common.{◌≡◌, ◌∙◌, ◌≤◌, length, Ok, length-set, arith}
use Rattle.std.proofs.lemmas.Grind.{common_steps}
use Rattle.bq_resolve_scope.specs.Statements.{small_stmt}
use Rattle.bq_resolve.proofs.Each.{each_more, each_fault, each_end}
use Rattle.bq_resolve.proofs.small.line.Goals as goal

pub loop-at-preserved : goal.loop-at-preserved
loop-at-preserved c =
    let one = small_stmt c.args.scope.now.file.now c.args.scope.now.blocks.now c.args.looping in
    let went : one c.item_mut.result.now c.loop-at.walk ≡ Ok (c.small_stmt.new.statement, c.small_stmt.new.walk) = grind (arith, common_steps) in
    let len : c.len-at-end.result ≡ length c.loop-at.statements = c.loop-at.invariant.0 in
    (grind (arith, common_steps, length-set), each_more one c.loop-at.statements c.loop-at.at c.item_mut.result.now c.loop-at.walk c.item_mut.ensures.value c.small_stmt.new.statement c.small_stmt.new.walk went ∙ c.loop-at.invariant.1)

pub returns-in_err-small_stmt : goal.returns-in_err-small_stmt
returns-in_err-small_stmt c =
    let one = small_stmt c.args.scope.now.file.now c.args.scope.now.blocks.now c.args.looping in
    let fault = each_fault one c.loop-at.statements c.loop-at.at c.item_mut.result.now c.loop-at.walk c.item_mut.ensures.value in
    grind (arith, common_steps, fault)

pub returns : goal.returns
returns c =
    let one = small_stmt c.args.scope.now.file.now c.args.scope.now.blocks.now c.args.looping in
    let past : length c.loop-at.statements ≤ c.loop-at.at = grind (arith, common_steps) in
    let end = each_end one c.loop-at.statements c.loop-at.at c.loop-at.walk past in
    grind (arith, common_steps, end)
