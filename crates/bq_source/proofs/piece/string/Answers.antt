use Rattle.std.proofs.Common.{◌≡◌, ◌∷◌, ◌+◌, drop, false, rules, arith}
use Rattle.std.specs.List.{prefix_len}
use Rattle.std.proofs.lemmas.Grind.{common_steps}
use Rattle.bq_source.specs.StringLiteral.{begins_pair, is_plain}
use Rattle.bq_source.proofs.Fitting.{plain_piece}
use Rattle.bq_source.proofs.OneLine.{plain_string}
use Rattle.bq_source.proofs.piece.string.Goals as goal

pub returns-in-34-rest_of-clause-piece : goal.returns-in-34-rest_of-clause-piece
returns-in-34-rest_of-clause-piece c =
    let after = drop 1 c.args.text.now in
    let end = c.past_plain-end.result in
    let text : c.args.text.now ≡ 34 ∷ after = first_of (search rules, grind (arith, common_steps)) in
    let single : begins_pair 34 after ≡ false = first_of (search rules, grind (arith, common_steps)) in
    let run : end ≡ prefix_len (is_plain 34) after = first_of (search rules, grind (arith, common_steps)) in
    let next : drop end after ≡ 34 ∷ drop 1 (drop end after) = first_of (search rules, grind (arith, common_steps)) in
    plain_piece c.args.text.now (end + 2) (plain_string c.args.text.now after (drop 1 (drop end after)) end text single run next)
