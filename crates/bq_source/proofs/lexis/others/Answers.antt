use Rattle.std.proofs.Common.{◌≡◌, ◌∙◌, ℕ, ◌+◌, ◌-◌, ◌%◌, length, map, cond, leb, bit_and, bit_or, refl, sym, ap, arith}
use Rattle.std.specs.Simd.Lanes.{mask_l}
use Rattle.std.proofs.lemmas.Simd.{zip2_splat, zip2_of_maps, splat_is_map}
use Rattle.bq_source.specs.declared.lexis.RunClass.TheVariants.{Space, Blank, Word}
use Rattle.bq_source.specs.Lexis.{has}
use Rattle.bq_source.proofs.Blocks.{mask_of, fails}
use Rattle.bq_source.proofs.lexis.others.Goals as goal

pub returns-in-Space : goal.returns-in-Space
returns-in-Space c =
    let v = c.args.block in
    let long : length v ≡ 16 = c.fits-block.0 in
    mask_of _ (fails (has Space)) v _ (omega (arith, long)) c.fits-block.1 (zip2_splat {Y = ℕ} _ v 16 32 long) refl
    ∙ ap (λ class. mask_l (map (fails (has class)) v)) (sym c.in-Space.is)

pub returns-in-Blank : goal.returns-in-Blank
returns-in-Blank c =
    let v = c.args.block in
    let long : length v ≡ 16 = c.fits-block.0 in
    mask_of _ (fails (has Blank)) v _ (omega (arith, long)) c.fits-block.1
    (zip2_of_maps _ _ _ v (zip2_splat {Y = ℕ} _ v 16 32 long) (zip2_splat {Y = ℕ} _ v 16 9 long)) refl
    ∙ ap (λ class. mask_l (map (fails (has class)) v)) (sym c.in-Blank.is)

-- the comparison `>=` has its sides changed
abbrev at_most : ℕ → ℕ → ℕ
at_most a b = cond (leb a b) 255 0

abbrev less : ℕ → ℕ → ℕ
less a b = (a + (256 - b)) % 256

pub returns-in-Word : goal.returns-in-Word
returns-in-Word c =
    let v = c.args.block in
    let long : length v ≡ 16 = c.fits-block.0 in
    let letters = zip2_of_maps less _ _ v (zip2_splat bit_or v 16 32 long) (splat_is_map v 16 97 long) in
    let no_letters = zip2_of_maps at_most _ _ v (splat_is_map v 16 26 long) letters in
    let no_digits = zip2_of_maps at_most _ _ v (splat_is_map v 16 10 long) (zip2_splat less v 16 48 long) in
    mask_of _ (fails (has Word)) v _ (omega (arith, long)) c.fits-block.1
    (zip2_of_maps bit_and _ _ v (zip2_of_maps bit_and _ _ v no_letters no_digits) (zip2_splat {Y = ℕ} _ v 16 95 long)) refl
    ∙ ap (λ class. mask_l (map (fails (has class)) v)) (sym c.in-Word.is)
