use Rattle.std.proofs.Common.{◌≡◌, ◌∷◌, ◌<◌, drop, rules, arith}
use Rattle.std.specs.List.{prefix_len}
use Rattle.std.proofs.lemmas.Grind.{common_steps}
use Rattle.bq_source.specs.StringLiteral.{is_plain}
use Rattle.bq_source_lexer.proofs.FirstBytes.{string_piece}
use Rattle.bq_source_lexer.proofs.frequent.string.Goals as goal

pub returns-in-34-2-clause-piece : goal.returns-in-34-2-clause-piece
returns-in-34-2-clause-piece c =
    let after = drop 1 c.args.text.now in
    let len = c.plain_len-len.result in
    let text : c.args.text.now ≡ 34 ∷ after = first_of (search rules, grind (arith, common_steps)) in
    let run : len ≡ prefix_len (is_plain 34) after = first_of (search rules, grind (arith, common_steps)) in
    let some : 0 < len = grind (arith, common_steps) in
    let next : drop len after ≡ 34 ∷ drop 1 (drop len after) = first_of (search rules, grind (arith, common_steps)) in
    string_piece c.args.text.now after (drop 1 (drop len after)) len text run some next
