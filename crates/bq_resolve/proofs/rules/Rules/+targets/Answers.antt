use Rattle.std.proofs.Common.{◌≡◌, ◌∙◌, ◌≤◌, length, Ok, length-set, arith}
use Rattle.std.proofs.lemmas.Grind.{common_steps}
use Rattle.bq_parse_grammar.specs.declared.tree.TargetExpr.{out-TargetExpr}
use Rattle.bq_resolve_scope.specs.Expressions.{target_to, expr_to}
use Rattle.bq_resolve.proofs.ExpressionLayers.{tuple_form, list_form}
use Rattle.bq_resolve.proofs.Each.{each_more, each_fault, each_end}
use Rattle.bq_resolve.proofs.rules.Rules.+targets.Goals as goal

pub targets_to-loop-at-preserved : goal.targets_to-loop-at-preserved
targets_to-loop-at-preserved g t c =
    let one = target_to c.args.self.now.scope.file.now (expr_to c.args.self.now.depth c.args.self.now.scope.file.now) c.args.layers c.args.self.now.scope.blocks.now in
    let went : one c.item_mut.result.now c.loop-at.walk ≡ Ok (c.target_to.new.target, c.target_to.new.walk) = grind (arith, common_steps) in
    let len : c.len-at-end.result ≡ length c.loop-at.targets = c.loop-at.invariant.0 in
    (grind (arith, common_steps, length-set), each_more one c.loop-at.targets c.loop-at.at c.item_mut.result.now c.loop-at.walk c.item_mut.ensures.value c.target_to.new.target c.target_to.new.walk went ∙ c.loop-at.invariant.1)

pub targets_to-returns-in_err-target_to : goal.targets_to-returns-in_err-target_to
targets_to-returns-in_err-target_to g t c =
    let one = target_to c.args.self.now.scope.file.now (expr_to c.args.self.now.depth c.args.self.now.scope.file.now) c.args.layers c.args.self.now.scope.blocks.now in
    let fault = each_fault one c.loop-at.targets c.loop-at.at c.item_mut.result.now c.loop-at.walk c.item_mut.ensures.value in
    grind (arith, common_steps, fault)

pub targets_to-returns : goal.targets_to-returns
targets_to-returns g t c =
    let one = target_to c.args.self.now.scope.file.now (expr_to c.args.self.now.depth c.args.self.now.scope.file.now) c.args.layers c.args.self.now.scope.blocks.now in
    let past : length c.loop-at.targets ≤ c.loop-at.at = grind (arith, common_steps) in
    let end = each_end one c.loop-at.targets c.loop-at.at c.loop-at.walk past in
    grind (arith, common_steps, end)

pub target_to-returns-in-Tuple : goal.target_to-returns-in-Tuple
unfolding out-TargetExpr denote.Hole.Carrier.out
target_to-returns-in-Tuple g t c =
    let walked = rw c.in-Tuple.targets-is at c.targets_to.ensures in
    rw c.in-Tuple.is
    (tuple_form c.args.self.now.scope.file.now (expr_to c.args.self.now.depth c.args.self.now.scope.file.now) c.args.layers c.args.self.now.scope.blocks.now c.args.walk.now c.targets_to.new.walk c.if-layers-eq0.false c.targets_to.result c.in-Tuple.targets c.targets_to.new.targets walked)

pub target_to-returns-in-List : goal.target_to-returns-in-List
unfolding out-TargetExpr denote.Hole.Carrier.out
target_to-returns-in-List g t c =
    let walked = rw c.in-List.targets-is at c.targets_to-in-List.ensures in
    rw c.in-List.is
    (list_form c.args.self.now.scope.file.now (expr_to c.args.self.now.depth c.args.self.now.scope.file.now) c.args.layers c.args.self.now.scope.blocks.now c.args.walk.now c.targets_to-in-List.new.walk c.if-layers-eq0.false c.targets_to-in-List.result c.in-List.targets c.targets_to-in-List.new.targets walked)
