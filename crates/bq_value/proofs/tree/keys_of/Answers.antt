use Rattle.std.proofs.Common.{◌≡◌, ◌∙◌, ◌-◌, ◌*◌, ◌^◌, ◌%◌, ◌<◌, ◌≤◌, ℕ, ap, arith, bit_or}
use Rattle.bq_value.specs.Tries.{keys}
use Rattle.bq_value.proofs.Tries.{width, narrow, both_keys}
use Rattle.bq_value.proofs.tree.keys_of.Goals as goal

pub overflow_shl-result : goal.overflow_shl-result
overflow_shl-result c =
    let low : c.args.height ≤ 6 = c.if-height-gt-BLOCK.false in
    omega (arith, width c.args.height low c.requires.above, narrow c.args.height low c.requires.above)

pub returns : goal.returns
returns c low =
    let h = c.args.height in
    let l = c.args.left.now in
    let r = c.args.right.now in
    ap (λ (w : ℕ). bit_or (c.keys.result * 2 ^ w % 2 ^ 64) c.keys-2.result) (width h low c.requires.above)
    ∙ (ap (λ (n : ℕ). bit_or (n * 2 ^ (2 ^ (h - 1)) % 2 ^ 64) c.keys-2.result) c.keys.ensures
    ∙ (ap (λ (n : ℕ). bit_or (keys r * 2 ^ (2 ^ (h - 1)) % 2 ^ 64) n) c.keys-2.ensures
    ∙ both_keys l r h low c.requires.above c.requires.left c.requires.right))
