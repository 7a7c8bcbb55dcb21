use Rattle.std.proofs.Common.{◌∙◌, ◌++◌, ◌∷◌, [], ◌-◌, ap, sym, ℕ, List, append_assoc, reverse}
use Rattle.std.proofs.lemmas.List.{reverse-append}
use Rattle.bq_builtin_strings.specs.Parts.{rsplit}
use Rattle.bq_builtin_strings.proofs.Pieces.{rsplit_stops, rsplit_goes}
use Rattle.bq_builtin_strings.proofs.parts.push_last_parts.Goals as goal

pub cuts-preserved : goal.cuts-preserved
cuts-preserved c =
    let sep : List ℕ = c.args.finder.now in
    let left : List (List ℕ) = rsplit sep (c.cuts.left - 1) c.in-Some.before.now in
    ap (λ (v : List (List ℕ)). left ++ reverse v) c.in_ok-push_part.ensures
    ∙ (ap (λ (v : List (List ℕ)). left ++ v) (reverse-append c.cuts.parts.items (c.in-Some.after.now ∷ []))
    ∙ (sym (append_assoc left (c.in-Some.after.now ∷ []) (reverse c.cuts.parts.items))
    ∙ (ap (λ (v : List (List ℕ)). v ++ reverse c.cuts.parts.items) (sym (rsplit_goes sep c.cuts.left c.cuts.rest.now c.in-Some.before.now c.in-Some.after.now c.in-Some.ensures.cut)) ∙ c.cuts.invariant)))

pub returns : goal.returns
returns c =
    let parts : List (List ℕ) = c.cuts.parts.items in
    ap reverse c.in_ok-push_part-2.ensures
    ∙ (reverse-append parts (c.cuts.rest.now ∷ [])
    ∙ (ap (λ (v : List (List ℕ)). v ++ reverse parts) (sym (rsplit_stops c.args.finder.now c.cuts.left c.cuts.rest.now c.in_default.ensures.cut)) ∙ c.cuts.invariant))
