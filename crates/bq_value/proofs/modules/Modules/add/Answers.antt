use Rattle.std.proofs.Common.{◌≡◌, ◌-◌, ◌^◌, ◌<◌, ◌≤◌, subst, arith}
use Rattle.std.proofs.lemmas.Nat.{leading_length}
use Rattle.std.proofs.lemmas.Grind.{common_steps}
use lib.Count.{count_leading_zeros}
use Rattle.bq_value.proofs.Tries.{pow_le}
use Rattle.bq_value.proofs.modules.Modules.add.Goals as goal

pub lone-requires-clause-to : goal.lone-requires-clause-to
lone-requires-clause-to c =
    let home = c.args.home in
    let least = 32 - count_leading_zeros 32 home in
    let m = leading_length 32 home c.ranges.home.fits in
    let same : m.0 ≡ least = omega (arith, m.1) in
    let within : home < 2 ^ least = subst (λ n. home < 2 ^ n) same m.2 in
    let le : least ≤ c.max-height.result = grind (arith, common_steps, c.max-height.ensures) in
    omega (arith, within, pow_le least c.max-height.result le)
