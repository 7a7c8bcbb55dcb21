use Rattle.std.proofs.Common.{◌≡◌, length, arith}
use Rattle.std.proofs.lemmas.Bool.Decides.{nat_tests}
use Rattle.bq_package_values.proofs.Fronts.{all_escaped}
use Rattle.bq_package_values.proofs.json_string.push_escaped.Goals as goal

pub returns : goal.returns
returns c =
    let none : length c.loop-rest.rest.now ≡ 0 = grind (arith, nat_tests) in
    all_escaped c.loop-rest.text.items c.loop-rest.rest.now _ none c.loop-rest.invariant
