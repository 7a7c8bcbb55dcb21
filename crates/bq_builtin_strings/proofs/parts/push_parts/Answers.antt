use Rattle.std.proofs.Common.{◌∙◌, ◌++◌, ◌∷◌, [], ◌-◌, ap, sym, subst, ℕ, List, append_assoc}
use Rattle.std.specs.Prelude.{OnOk, ◌≡◌}
use Rattle.bq_builtin_strings.specs.Parts.{split}
use Rattle.bq_builtin_strings.proofs.Pieces.{split_stops, split_goes}
use Rattle.bq_builtin_strings.proofs.parts.push_parts.Goals as goal

pub cuts-preserved : goal.cuts-preserved
cuts-preserved c =
    let sep : List ℕ = c.args.finder.now in
    let left : List (List ℕ) = split sep (c.cuts.left - 1) c.in-Some.after.now in
    ap (λ (v : List (List ℕ)). v ++ left) c.in_ok-push_part.ensures
    ∙ (append_assoc c.cuts.parts.items (c.in-Some.before.now ∷ []) left
    ∙ (ap (λ (v : List (List ℕ)). c.cuts.parts.items ++ v) (sym (split_goes sep c.cuts.left c.cuts.rest.now c.in-Some.before.now c.in-Some.after.now c.in-Some.ensures.cut)) ∙ c.cuts.invariant))

pub returns : goal.returns
returns c =
    let P : List (List ℕ) → Type 0 = λ parts. OnOk c.push_part-2.result (c.push_part-2.new.parts.items ≡ parts) in
    let all = ap (λ (v : List (List ℕ)). c.cuts.parts.items ++ v) (sym (split_stops c.args.finder.now c.cuts.left c.cuts.rest.now c.in_default.ensures.cut)) ∙ c.cuts.invariant in
    subst P all c.push_part-2.ensures
