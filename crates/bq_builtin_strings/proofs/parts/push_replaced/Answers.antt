use Rattle.std.proofs.Common.{◌∙◌, ◌++◌, ◌-◌, ap, sym, ℕ, List, append_assoc}
use Rattle.bq_builtin_strings.specs.Parts.{replace_cuts}
use Rattle.bq_builtin_strings.proofs.Pieces.{replace_stops, replace_goes}
use Rattle.bq_builtin_strings.proofs.parts.push_replaced.Goals as goal

pub cuts-preserved : goal.cuts-preserved
cuts-preserved c =
    let old : List ℕ = c.args.finder.now in
    let new : List ℕ = c.args.new.now in
    let left : List ℕ = replace_cuts old new (c.cuts.left - 1) c.in-Some.after.now in
    let made = c.in_ok-extend_from_slice-2.ensures.items ∙ ap (λ (t : List ℕ). t ++ new) c.in_ok-extend_from_slice.ensures.items in
    ap (λ (t : List ℕ). t ++ left) made
    ∙ (append_assoc (c.cuts.made.items ++ c.in-Some.before.now) new left
    ∙ (append_assoc c.cuts.made.items c.in-Some.before.now (new ++ left)
    ∙ (ap (λ (t : List ℕ). c.cuts.made.items ++ t) (sym (replace_goes old new c.cuts.left c.cuts.rest.now c.in-Some.before.now c.in-Some.after.now c.in-Some.ensures.cut)) ∙ c.cuts.invariant)))

pub returns : goal.returns
returns c =
    c.in_ok-extend_from_slice-3.ensures.items
    ∙ (ap (λ (t : List ℕ). c.cuts.made.items ++ t) (sym (replace_stops c.args.finder.now c.args.new.now c.cuts.left c.cuts.rest.now c.in_default.ensures.cut)) ∙ c.cuts.invariant)
