use Rattle.std.proofs.Common.{◌≡◌, ◌∙◌, true, arith, rules, tests}
use Rattle.std.proofs.lemmas.Grind.{common_steps}
use Rattle.std.proofs.lemmas.Result.{IfOk-weaker}
use Rattle.std.specs.Prelude.{bytes_eq}
use Rattle.std.specs.Cmp.Lexicographic.{bytes_decides}
use Rattle.bq_query_target_graph.proofs.dangling.share_of.Goals as goal

pub returns-then-eq : goal.returns-then-eq
returns-then-eq c =
    let text = c.args.text in
    let other = c.args.other.now in
    let told : bytes_eq other text ≡ true = first_of (search (rules, tests), grind (arith, common_steps)) in
    IfOk-weaker c.share.result (λ b. b ≡ other) (λ b. b ≡ text) (λ b h. h ∙ (bytes_decides other text).0 told) c.share.ensures
