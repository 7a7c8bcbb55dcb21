use Rattle.std.proofs.Common.{◌≡◌, length, sym, ◌∙◌, rules, arith}
use Rattle.std.proofs.lemmas.Grind.{common_steps}
use Rattle.bq_parse.proofs.LeftOut.{starred_over}
use Rattle.bq_parse.proofs.left_out.has_starred.Goals as goal

pub returns : goal.returns
returns c =
    let none : length c.tokens.rest ≡ 0 = first_of (search rules, grind (arith, common_steps)) in
    sym (c.tokens.invariant ∙ starred_over c.tokens.rest none)
