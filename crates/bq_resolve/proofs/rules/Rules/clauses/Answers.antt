use Rattle.std.proofs.Common.{◌≡◌, Ok, arith}
use Rattle.std.proofs.lemmas.Grind.{common_steps}
use Rattle.bq_parse_grammar.specs.declared.tree.Clause.{out-Clause}
use Rattle.bq_resolve_scope.specs.Expressions.{clause_by, expr_to}
use Rattle.bq_resolve.proofs.Each.{clauses_more, clauses_fault}
use Rattle.bq_resolve.proofs.rules.Rules.clauses.Goals as goal

pub returns-in_err-clause : goal.returns-in_err-clause
returns-in_err-clause g c =
    let fault = clauses_fault c.args.self.now.scope.file.now (expr_to c.args.self.now.depth c.args.self.now.scope.file.now) c.args.round.now c.args.self.now.scope.blocks.now c.args.clauses.now c.item_mut.result.now c.args.walk.now c.item_mut.ensures.value in
    grind (arith, common_steps, fault)

pub returns : goal.returns
returns g c =
    let went : clause_by c.args.self.now.scope.file.now (expr_to c.args.self.now.depth c.args.self.now.scope.file.now) c.args.round.now c.args.self.now.scope.blocks.now (out-Clause c.item_mut.result.now) c.args.walk.now ≡ Ok (c.clause.new.clause, c.clause.new.walk) = grind (arith, common_steps) in
    rw (clauses_more c.args.self.now.scope.file.now (expr_to c.args.self.now.depth c.args.self.now.scope.file.now) c.args.round.now c.args.self.now.scope.blocks.now c.args.clauses.now c.item_mut.result.now c.clause.new.clause c.args.walk.now c.clause.new.walk c.item_mut.ensures.value went) c.further_clauses.ensures
