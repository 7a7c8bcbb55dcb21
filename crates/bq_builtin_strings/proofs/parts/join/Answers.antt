use Rattle.std.proofs.Common.{◌∙◌, ◌++◌, ◌-◌, ◌+◌, ap, sym, ℕ, List, length, take, drop, arith}
use Rattle.std.proofs.lemmas.List.{take_rest}
use Rattle.bq_builtin_strings.specs.Parts.{joined_on}
use Rattle.bq_builtin_strings.proofs.Pieces.{join_none, join_first, join_goes, join_ends}
use Rattle.bq_builtin_strings.proofs.parts.join.Goals as goal

pub returns-in_default : goal.returns-in_default
returns-in_default c = c.new-text.ensures.items ∙ sym (join_none c.args.separator.now c.args.parts.now c.in_default.len_below)

pub loop-part-init : goal.loop-part-init
loop-part-init c =
    let sep : List ℕ = c.args.separator.now in
    let parts : List (List ℕ) = c.args.parts.now in
    let first : List ℕ = c.first-item.result in
    let made = c.in_ok-extend_from_slice.ensures.items ∙ (ap (λ (t : List ℕ). t ++ c.as_slice.result.now) c.new-text.ensures.items ∙ c.as_slice.ensures) in
    ap (λ (t : List ℕ). t ++ joined_on sep (take (length parts - 1) (drop 1 parts))) made
    ∙ (ap (λ (v : List (List ℕ)). first ++ joined_on sep v) (take_rest parts 1) ∙ sym (join_first sep parts first (omega arith) c.first-item.is))

pub loop-part-preserved : goal.loop-part-preserved
loop-part-preserved c =
    let sep : List ℕ = c.args.separator.now in
    let parts : List (List ℕ) = c.args.parts.now in
    let rest : List (List ℕ) = take (length parts - 1) (drop 1 parts) in
    let made = c.in_ok-extend_from_slice-3.ensures.items ∙ (ap (λ (t : List ℕ). t ++ c.as_slice-in-loop-part.result.now) c.in_ok-extend_from_slice-2.ensures.items ∙ ap (λ (p : List ℕ). (c.loop-part.text.items ++ sep) ++ p) c.as_slice-in-loop-part.ensures) in
    ap (λ (t : List ℕ). t ++ joined_on sep (drop (c.loop-part.part-index + 1) rest)) made
    ∙ join_goes sep rest c.loop-part.part-index c.part-item.result c.loop-part.text.items _ c.loop-part-test.true c.part-item.is c.loop-part.invariant

pub returns : goal.returns
returns c = join_ends c.args.separator.now _ c.loop-part.part-index c.loop-part.text.items _ c.loop-part-test.false c.loop-part.invariant
