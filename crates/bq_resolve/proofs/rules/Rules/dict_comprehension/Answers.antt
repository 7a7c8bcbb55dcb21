use Rattle.std.proofs.Common.{◌≡◌, Ok, ap, refl, true, false, sym, ◌∙◌, length, rules, arith}
use Rattle.std.proofs.lemmas.Grind.{common_steps}
use Rattle.std.specs.Bool.{◌==◌}
use Rattle.bq_parse_grammar.specs.declared.tree.ComprehensionFrame.{ComprehensionFrame}
use Rattle.bq_parse_grammar.specs.declared.tree.ComprehensionFrame.TheVariants as frame
use Rattle.bq_parse_grammar.specs.declared.tree.Expr.{Expr}
use Rattle.bq_parse_grammar.specs.declared.tree.Expr.TheVariants as e
use Rattle.bq_resolve_scope.specs.Visit.{Visit}
use Rattle.bq_resolve_scope.specs.Expressions.{in_block, comprehension, framed, pair, expr_to}
use Rattle.bq_resolve.proofs.Frames.{inside_block, own_frame}
use Rattle.bq_resolve.proofs.rules.Rules.dict_comprehension.Goals as goal

pub returns-then-not-is_empty : goal.returns-then-not-is_empty
unfolding comprehension
returns-then-not-is_empty g c =
    let v : Visit (ComprehensionFrame → Expr) = in_block c.args.self.now.scope.file.now (expr_to c.args.self.now.depth c.args.self.now.scope.file.now) (λ bs. pair c.args.self.now.scope.file.now (expr_to c.args.self.now.depth c.args.self.now.scope.file.now) bs c.args.pair.now) e.DictComprehension c.args.self.now.scope.blocks.now c.args.clauses.now in
    let some : (length c.args.self.now.scope.blocks.now == 0) ≡ false = sym c.is_empty.ensures ∙ c.if-not-is_empty.true in
    let make : ComprehensionFrame → Expr = e.DictComprehension c.dict_in_block.new.pair c.dict_in_block.new.clauses in
    inside_block c.args.self.now.scope.blocks.now v c.args.walk.now c.dict_in_block.new.walk c.dict_in_block.result make some c.dict_in_block.ensures

pub returns : goal.returns
unfolding comprehension
returns g c =
    let v : Visit (ComprehensionFrame → Expr) = in_block c.args.self.now.scope.file.now (expr_to c.args.self.now.depth c.args.self.now.scope.file.now) (λ bs. pair c.args.self.now.scope.file.now (expr_to c.args.self.now.depth c.args.self.now.scope.file.now) bs c.args.pair.now) e.DictComprehension c.args.self.now.scope.blocks.now c.args.clauses.now in
    let none : (length c.args.self.now.scope.blocks.now == 0) ≡ true = sym c.is_empty.ensures ∙ c.if-not-is_empty.false in
    let make : ComprehensionFrame → Expr = e.DictComprehension c.dict_in_block-2.new.pair c.dict_in_block-2.new.clauses in
    let inside : v (record c.args.walk.now { slots = 0 }) ≡ Ok (make, c.dict_in_block-2.new.walk) = first_of (search rules, grind (arith, common_steps)) in
    own_frame c.args.self.now.scope.blocks.now v c.args.walk.now c.frame.new.self (Ok tt) (make (frame.Own c.frame.result)) none
    (ap (framed c.args.walk.now.slots) inside ∙ rw (c.frame.ensures.had, c.frame.ensures.has, c.frame-had.ensures.had) refl)
