use Rattle.std.proofs.Common.{◌≡◌, ◌∙◌, ◌≤◌, length, Ok, length-set, arith}
use Rattle.std.proofs.lemmas.Grind.{common_steps}
use Rattle.bq_parse_grammar.specs.declared.tree.Argument.{Argument, out-Argument}
use Rattle.bq_resolve_scope.specs.Expressions.{argument_by, arguments, expr_to}
use Rattle.bq_resolve_scope.specs.Visit.{Visit}
use Rattle.bq_resolve.proofs.Each.{each_more, each_fault, each_end}
use Rattle.bq_resolve.proofs.rules.Rules.arguments.Goals as goal

pub loop-at-preserved : goal.loop-at-preserved
loop-at-preserved g c =
    let one : Argument → Visit Argument = λ x. argument_by c.args.self.now.scope.file.now (expr_to c.args.self.now.depth c.args.self.now.scope.file.now) c.args.self.now.scope.blocks.now (out-Argument x) in
    let went : one c.item_mut.result.now c.loop-at.walk ≡ Ok (c.argument.new.argument, c.argument.new.walk) = grind (arith, common_steps) in
    let len : c.len-at-end.result ≡ length c.loop-at.arguments = c.loop-at.invariant.0 in
    (grind (arith, common_steps, length-set), each_more one c.loop-at.arguments c.loop-at.at c.item_mut.result.now c.loop-at.walk c.item_mut.ensures.value c.argument.new.argument c.argument.new.walk went ∙ c.loop-at.invariant.1)

pub returns-in_err-argument : goal.returns-in_err-argument
unfolding arguments
returns-in_err-argument g c =
    let one : Argument → Visit Argument = λ x. argument_by c.args.self.now.scope.file.now (expr_to c.args.self.now.depth c.args.self.now.scope.file.now) c.args.self.now.scope.blocks.now (out-Argument x) in
    let fault = each_fault one c.loop-at.arguments c.loop-at.at c.item_mut.result.now c.loop-at.walk c.item_mut.ensures.value in
    grind (arith, common_steps, fault)

pub returns : goal.returns
unfolding arguments
returns g c =
    let one : Argument → Visit Argument = λ x. argument_by c.args.self.now.scope.file.now (expr_to c.args.self.now.depth c.args.self.now.scope.file.now) c.args.self.now.scope.blocks.now (out-Argument x) in
    let past : length c.loop-at.arguments ≤ c.loop-at.at = grind (arith, common_steps) in
    let end = each_end one c.loop-at.arguments c.loop-at.at c.loop-at.walk past in
    grind (arith, common_steps, end)
