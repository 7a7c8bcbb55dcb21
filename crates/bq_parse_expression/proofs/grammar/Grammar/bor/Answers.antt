use Rattle.std.proofs.Common.{rules, sym, subst, arith}
use Rattle.std.proofs.lemmas.Grind.{common_steps}
use Rattle.bq_parse_grammar.specs.declared.tree.Expr.{Expr}
use Rattle.bq_parse_grammar.specs.Reading.{unary, primary, phrase, variables_to}
use Rattle.bq_parse_grammar.specs.Turns.{Found, Reads, ◌>>=◌}
use Rattle.bq_parse_expression.specs.Further.{further}
use Rattle.bq_parse_expression.proofs.AfterOperand.{first_of_all, goes_on}
use Rattle.bq_parse_expression.proofs.grammar.Grammar.bor.Goals as goal

pub returns-in_err-first : goal.returns-in_err-first
returns-in_err-first g c =
    let base = primary (phrase c.args.self.now.depth) (variables_to c.args.self.now.depth) in
    let inner : Reads (unary base c.args.tokens.now >>= λ x mid. further base 6 x mid) c.from_residual.result c.unary.new.tokens = first_of (grind (arith, common_steps), search rules) in
    subst (λ (f : Found Expr). Reads f c.from_residual.result c.unary.new.tokens) (sym (first_of_all base 6 c.args.tokens.now)) inner

pub returns : goal.returns
returns g c =
    let base = primary (phrase c.args.self.now.depth) (variables_to c.args.self.now.depth) in
    subst (λ (f : Found Expr). Reads f c.further.result c.further.new.tokens)
    (sym (goes_on base 6 c.args.tokens.now c.in_ok-first.first c.unary.new.tokens c.in_ok-first.ensures)) c.further.ensures
