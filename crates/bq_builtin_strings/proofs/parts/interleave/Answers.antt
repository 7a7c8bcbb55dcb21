use Rattle.std.proofs.Common.{◌≡◌, ◌∙◌, ◌++◌, ◌∷◌, [], ◌-◌, ◌+◌, ◌<◌, ap, ℕ, List, length, take, drop, min, arith, get_or, length-take}
use Rattle.std.proofs.lemmas.List.{get_or-take}
use Rattle.bq_builtin_strings.specs.Parts.{interleave}
use Rattle.bq_builtin_strings.proofs.Pieces.{interleave_goes, interleave_whole, interleave_full}
use Rattle.bq_builtin_strings.proofs.parts.interleave.Goals as goal

pub loop-byte-preserved : goal.loop-byte-preserved
loop-byte-preserved c =
    let new : List ℕ = c.args.new.now in
    let text : List ℕ = c.args.text.now in
    let i = c.loop-byte.byte-index in
    let len : length (take c.min-len.result text) ≡ min c.min-len.result (length text) = length-take c.min-len.result text in
    let within : i < c.min-len.result = omega arith in
    let byte : ℕ = get_or (take c.min-len.result text) i 0 in
    let made = c.in_ok-push.ensures.items ∙ ap (λ (t : List ℕ). t ++ byte ∷ []) c.in_ok-extend_from_slice.ensures.items in
    ap (λ (t : List ℕ). t ++ interleave new (c.args.most - (i + 1)) (drop (i + 1) text)) made
    ∙ interleave_goes new c.args.most text i byte c.loop-byte.made.items _ (omega (arith, c.min-len.ensures)) (omega (arith, c.min-len.ensures)) (get_or-take c.min-len.result text i 0 within) c.loop-byte.invariant

pub returns-then-most-text : goal.returns-then-most-text
returns-then-most-text c =
    let len : length (take c.min-len.result c.args.text.now) ≡ min c.min-len.result (length c.args.text.now) = length-take c.min-len.result c.args.text.now in
    c.in_ok-extend_from_slice-2.ensures.items
    ∙ interleave_whole c.args.new.now c.args.most c.args.text.now c.loop-byte.byte-index c.min-len.result c.loop-byte.made.items _ (omega (arith, c.min-len.ensures)) c.min-len.ensures c.if-most-text.true c.loop-byte.invariant

pub returns : goal.returns
returns c =
    let len : length (take c.min-len.result c.args.text.now) ≡ min c.min-len.result (length c.args.text.now) = length-take c.min-len.result c.args.text.now in
    c.in_ok-extend_from_slice-3.ensures.items
    ∙ (ap (λ (t : List ℕ). t ++ c.args.new.now) c.in_ok-extend_from_slice-2.ensures.items
    ∙ interleave_full c.args.new.now c.args.most c.args.text.now c.loop-byte.byte-index c.min-len.result c.loop-byte.made.items _ (omega (arith, c.min-len.ensures)) c.min-len.ensures c.if-most-text.false c.loop-byte.invariant)
