use Rattle.std.proofs.Common.{◌≡◌, ◌∙◌, ◌-◌, length, drop, ap, arith}
use Rattle.std.proofs.lemmas.Grind.{common_steps}
use Rattle.std.proofs.lemmas.List.{take_rest}
use Rattle.bq_parse_grammar.specs.Lexeme.{lexemes}
use Rattle.bq_parse_grammar.specs.Turns.{sees}
use Rattle.bq_parse_grammar.proofs.Ahead.{ended}
use Rattle.bq_parse_grammar.proofs.tokens.Tokens.ended_by.Goals as goal

pub returns : goal.returns
returns c =
    let here = c.self.inside.rest.now in
    let text = c.self.inside.text.now in
    let last = c.saturating_sub-at.result in
    let at : last ≡ length here - length c.args.rest.now - 1 = grind (arith, common_steps) in
    let seen : c.sees.result ≡ sees c.args.kind (lexemes text (drop last here)) =
    c.sees.ensures ∙ ap (λ ts. sees c.args.kind (lexemes text ts)) (take_rest here last) in
    let found = ended text c.args.kind here (length c.args.rest.now) last at in
    grind (arith, common_steps, seen, found)
