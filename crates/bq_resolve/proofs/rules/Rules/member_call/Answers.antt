use Rattle.std.proofs.Common.{◌≡◌, Ok, rules, arith}
use Rattle.std.proofs.lemmas.Grind.{common_steps}
use Rattle.bq_parse_grammar.specs.declared.tree.Expr.{out-Expr}
use Rattle.bq_parse_grammar.specs.declared.tree.Suffix.{out-Suffix}
use Rattle.bq_resolve_scope.specs.Expressions.{expr_to}
use Rattle.bq_resolve.specs.Members.{as_member, member_suffix_by}
use Rattle.bq_resolve.proofs.Members.{member_more, member_fault}
use Rattle.bq_resolve.proofs.rules.Rules.member_call.Goals as goal

pub returns-in_err-member_suffix : goal.returns-in_err-member_suffix
returns-in_err-member_suffix g c =
    let fault = member_fault c.args.self.now.scope.file.now (expr_to c.args.self.now.depth c.args.self.now.scope.file.now) c.args.self.now.scope.blocks.now c.args.member c.args.operand.now c.args.suffixes.now c.item_mut.result.now c.args.walk.now c.item_mut.ensures.value in
    grind (arith, common_steps, fault)

pub returns : goal.returns
returns g c =
    let went : member_suffix_by c.args.self.now.scope.file.now (expr_to c.args.self.now.depth c.args.self.now.scope.file.now) c.args.self.now.scope.blocks.now c.args.member (out-Suffix c.item_mut.result.now) c.args.walk.now ≡ Ok (c.member_suffix.new.suffix, c.member_suffix.new.walk) = grind (arith, common_steps) in
    let named : c.refer.new.operand ≡ as_member c.args.member (out-Expr c.args.operand.now) c.args.operand.now = first_of (search rules, grind (arith, common_steps)) in
    member_more c.args.self.now.scope.file.now (expr_to c.args.self.now.depth c.args.self.now.scope.file.now) c.args.self.now.scope.blocks.now c.args.member c.args.operand.now c.args.suffixes.now c.item_mut.result.now c.args.walk.now c.item_mut.ensures.value
    c.member_suffix.new.suffix c.member_suffix.new.walk went c.refer.new.operand c.suffixes_from.new.suffixes c.suffixes_from.new.walk c.suffixes_from.result named c.suffixes_from.ensures
