use Rattle.std.proofs.Common.{rules, arith}
use Rattle.std.proofs.lemmas.Grind.{common_steps}
use Rattle.bq_source_lexer.proofs.Keeping.{indent_part}
use Rattle.bq_source_lexer.proofs.place.Lexer.take_token.Goals as goal

pub push_token-requires-in-Plain : goal.push_token-requires-in-Plain
push_token-requires-in-Plain c = indent_part c.args.self.now c.indent.new.self c.args.extent c.in_ok-indent.ensures c.requires

pub push_token-requires-in-Opens : goal.push_token-requires-in-Opens
push_token-requires-in-Opens c =
    let part = indent_part c.args.self.now c.indent.new.self c.args.extent c.in_ok-indent.ensures c.requires in
    first_of (search (rules, part), grind (arith, common_steps, part))

pub push_token-requires-in-Some : goal.push_token-requires-in-Some
push_token-requires-in-Some c =
    let part = indent_part c.args.self.now c.indent.new.self c.args.extent c.in_ok-indent.ensures c.requires in
    first_of (search (rules, part), grind (arith, common_steps, part))
