use Rattle.std.proofs.Common.{◌≡◌, Result, sym, ap, subst, arith}
use Rattle.bq_parse_grammar.specs.declared.refusal.SyntaxErr.{SyntaxErr}
use Rattle.bq_parse_grammar.specs.declared.tree.TargetExpr.{TargetExpr}
use Rattle.bq_parse_grammar.specs.Targets.{target_to}
use Rattle.bq_parse.specs.Makes.{Makes}
use Rattle.bq_parse.proofs.LoopTurns.{deeper}
use Rattle.bq_parse.proofs.targets.+target_to.Goals as goal

pub returns-then-depth-eq0 : goal.returns-then-depth-eq0
unfolding target_to
returns-then-depth-eq0 t c =
    let none : c.args.depth ≡ 0 = omega arith in
    let P : Result TargetExpr SyntaxErr → Type 0 = λ r. Makes (target_to c.args.depth c.args.expr) r in
    subst P (sym c.refused.ensures) (λ _. ap (λ n. target_to n c.args.expr) none)

pub returns : goal.returns
unfolding target_to
returns t c = rw (deeper (λ n. target_to n c.args.expr) c.args.depth (omega arith)) c.target.ensures
