use Rattle.std.proofs.Common.{◌≡◌, ℕ, length, bit_or, refl, arith}
use Rattle.std.proofs.lemmas.Simd.{zip2_splat, zip2_of_maps}
use Rattle.bq_source.specs.StringLiteral.{is_plain}
use Rattle.bq_source.proofs.Blocks.{mask_of, fails}
use Rattle.bq_source_lexer.proofs.frequent.others.Goals as goal

pub returns : goal.returns
returns c =
    let v = c.args.block in
    let long : length v ≡ 16 = c.fits-block.0 in
    let quotes = zip2_of_maps bit_or _ _ v (zip2_splat {Y = ℕ} _ v 16 34 long) (zip2_splat {Y = ℕ} _ v 16 92 long) in
    mask_of _ (fails (is_plain 34)) v _ (omega (arith, long)) c.fits-block.1
    (zip2_of_maps bit_or _ _ v (zip2_of_maps bit_or _ _ v quotes (zip2_splat {Y = ℕ} _ v 16 10 long)) (zip2_splat {Y = ℕ} _ v 16 13 long)) refl
