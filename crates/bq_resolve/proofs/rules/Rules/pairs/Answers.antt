use Rattle.std.proofs.Common.{◌≡◌, ◌∙◌, ◌≤◌, length, Ok, length-set, arith}
use Rattle.std.proofs.lemmas.Grind.{common_steps}
use Rattle.bq_resolve_scope.specs.Expressions.{pair, expr_to}
use Rattle.bq_resolve.proofs.Each.{each_more, each_fault, each_end}
use Rattle.bq_resolve.proofs.rules.Rules.pairs.Goals as goal

pub loop-at-preserved : goal.loop-at-preserved
loop-at-preserved g c =
    let one = pair c.args.self.now.scope.file.now (expr_to c.args.self.now.depth c.args.self.now.scope.file.now) c.args.self.now.scope.blocks.now in
    let went : one c.item_mut.result.now c.loop-at.walk ≡ Ok (c.pair.new.pair, c.pair.new.walk) = grind (arith, common_steps) in
    let len : c.len-at-end.result ≡ length c.loop-at.pairs = c.loop-at.invariant.0 in
    (grind (arith, common_steps, length-set), each_more one c.loop-at.pairs c.loop-at.at c.item_mut.result.now c.loop-at.walk c.item_mut.ensures.value c.pair.new.pair c.pair.new.walk went ∙ c.loop-at.invariant.1)

pub returns-in_err-pair : goal.returns-in_err-pair
returns-in_err-pair g c =
    let one = pair c.args.self.now.scope.file.now (expr_to c.args.self.now.depth c.args.self.now.scope.file.now) c.args.self.now.scope.blocks.now in
    let fault = each_fault one c.loop-at.pairs c.loop-at.at c.item_mut.result.now c.loop-at.walk c.item_mut.ensures.value in
    grind (arith, common_steps, fault)

pub returns : goal.returns
returns g c =
    let one = pair c.args.self.now.scope.file.now (expr_to c.args.self.now.depth c.args.self.now.scope.file.now) c.args.self.now.scope.blocks.now in
    let past : length c.loop-at.pairs ≤ c.loop-at.at = grind (arith, common_steps) in
    let end = each_end one c.loop-at.pairs c.loop-at.at c.loop-at.walk past in
    grind (arith, common_steps, end)
