use Rattle.std.proofs.Common.{◌≡◌, length, sym, ◌∙◌, rules, arith}
use Rattle.std.proofs.lemmas.Grind.{common_steps}
use Rattle.bq_parse.proofs.LeftOut.{leaves_out_over}
use Rattle.bq_parse.proofs.left_out.leaves_out.Goals as goal

pub returns : goal.returns
returns c =
    let none : length c.tokens.rest ≡ 0 = first_of (search rules, grind (arith, common_steps)) in
    sym (c.tokens.invariant ∙ leaves_out_over c.tokens.rest none)
