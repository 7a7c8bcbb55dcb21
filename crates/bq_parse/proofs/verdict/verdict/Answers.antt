use Rattle.std.proofs.Common.{◌≡◌, ◌∙◌, true, Ok, Err, refl, sym, ap, rules, arith}
use Rattle.std.proofs.lemmas.Grind.{common_steps}
use Rattle.bq_base.specs.Fault.{fault_at}
use Rattle.bq_parse_grammar.specs.Nesting.{nests}
use Rattle.bq_parse_grammar.specs.Parses.{allowed, verdict}
use Rattle.bq_parse_grammar.specs.ReadingStatements.{top_level}
use Rattle.bq_parse_grammar.specs.Statements.{line_of}
use Rattle.bq_parse.specs.Answers.{at_line}
use Rattle.bq_parse.proofs.Files.{verdict_of}
use Rattle.bq_parse.proofs.verdict.verdict.Goals as goal

pub returns-in-Err : goal.returns-in-Err
returns-in-Err c =
    let ts = c.args.tokens.now in
    let x = c.in-Ok.statement in
    let fits : nests 0 ts ≡ true = sym c.nests.ensures ∙ c.if-not-nests.false in
    let tree : top_level 65 ts ≡ Ok x = ap (top_level 65) (sym c.here-rest.ensures) ∙ c.in-Ok.ensures in
    let named : allowed c.args.kind ts x ≡ Err c.in-Err.why = c.in-Err.ensures c.in-Err.why refl in
    let all : at_line ts (verdict c.args.kind ts) ≡ Err (fault_at c.in-Err.why (line_of ts)) = ap (at_line ts) (verdict_of c.args.kind ts x fits tree ∙ named) in
    first_of (search (rules, all), grind (arith, common_steps, all))
