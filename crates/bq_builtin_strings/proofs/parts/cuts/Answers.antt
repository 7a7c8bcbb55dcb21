use Rattle.std.proofs.Common.{◌≡◌, ◌∙◌, ◌-◌, ◌+◌, ap, sym, Some, None, ℕ, List, arith}
use Rattle.bq_builtin_strings.specs.Parts.{cut_within, cuts}
use Rattle.bq_builtin_strings.proofs.Pieces.{cuts_stop, cuts_go}
use Rattle.bq_builtin_strings.proofs.parts.cuts.Goals as goal

pub cuts-preserved : goal.cuts-preserved
cuts-preserved c =
    let sep : List ℕ = c.args.separator.now in
    let e : cut_within sep c.cuts.left c.cuts.rest.now ≡ Some (c.in-Some.field-0-0.now, c.in-Some.after.now) = ap (λ (s : List ℕ). cut_within s c.cuts.left c.cuts.rest.now) (sym c.new-finder.ensures) ∙ c.in-Some.ensures.cut in
    let one : cuts sep c.cuts.left c.cuts.rest.now ≡ 1 + cuts sep (c.cuts.left - 1) c.in-Some.after.now = cuts_go sep c.cuts.left c.cuts.rest.now c.in-Some.field-0-0.now c.in-Some.after.now e in
    (omega (arith, c.cuts.invariant.0), omega (arith, one, c.cuts.invariant.1, c.in-Some.ensures.some_left))

pub returns : goal.returns
returns c =
    let sep : List ℕ = c.args.separator.now in
    let e : cut_within sep c.cuts.left c.cuts.rest.now ≡ None = ap (λ (s : List ℕ). cut_within s c.cuts.left c.cuts.rest.now) (sym c.new-finder.ensures) ∙ c.in_default.ensures.cut in
    let end : cuts sep c.cuts.left c.cuts.rest.now ≡ 0 = cuts_stop sep c.cuts.left c.cuts.rest.now e in
    omega (arith, end, c.cuts.invariant.0, c.cuts.invariant.1)
