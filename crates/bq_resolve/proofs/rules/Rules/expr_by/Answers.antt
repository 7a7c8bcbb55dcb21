use Rattle.bq_resolve_scope.specs.Expressions.{expr_to}
use Rattle.bq_resolve.proofs.Forms.{list_form, dict_form}
use Rattle.bq_parse_grammar.specs.declared.tree.Expr.TheVariants as e
use Rattle.bq_resolve.proofs.rules.Rules.expr_by.Goals as goal

pub returns-in-ListComprehension : goal.returns-in-ListComprehension
returns-in-ListComprehension g c =
    let q = c.in-ListComprehension in
    let new = c.list_comprehension.new in
    let written = rw (q.element-is, q.clauses-is) at c.list_comprehension.ensures in
    list_form c.args.self.now.scope.file.now (expr_to c.args.self.now.depth c.args.self.now.scope.file.now) c.args.self.now.scope.blocks.now c.args.expr.now (e.ListComprehension new.element new.clauses new.frame) c.args.walk.now new.walk
    c.list_comprehension.result q.element q.clauses q.frame q.is written

pub returns-in-DictComprehension : goal.returns-in-DictComprehension
returns-in-DictComprehension g c =
    let q = c.in-DictComprehension in
    let new = c.dict_comprehension.new in
    let written = rw (q.pair-is, q.clauses-is) at c.dict_comprehension.ensures in
    dict_form c.args.self.now.scope.file.now (expr_to c.args.self.now.depth c.args.self.now.scope.file.now) c.args.self.now.scope.blocks.now c.args.expr.now (e.DictComprehension new.pair new.clauses new.frame) c.args.walk.now new.walk
    c.dict_comprehension.result q.pair q.clauses q.frame q.is written
