use Rattle.std.proofs.Common.{◌∙◌, ap, sym, Some, take, drop, ◌+◌, ℕ, List}
use Rattle.std.proofs.lemmas.List.{take_rest}
use Rattle.bq_builtin_strings.specs.Parts.{around}
use Rattle.bq_builtin_strings.proofs.Places.{find_is}
use Rattle.bq_builtin_strings.proofs.Pieces.{partition_at}
use Rattle.bq_builtin_strings.proofs.parts.cut.Goals as goal

pub returns-in_err-at : goal.returns-in_err-at
returns-in_err-at c =
    let sep : List ℕ = c.args.finder.now in
    rw c.from_residual.ensures (partition_at sep c.args.text.now c.find.result (find_is sep c.args.text.now c.find.result c.find.ensures) ∙ ap (around sep c.args.text.now) c.in_err-at.was)

pub returns : goal.returns
returns c =
    let sep : List ℕ = c.args.finder.now in
    let at = c.in_ok-at.at in
    partition_at sep c.args.text.now c.find.result (find_is sep c.args.text.now c.find.result c.find.ensures)
    ∙ (ap (around sep c.args.text.now) c.in_ok-at.was
    ∙ (ap (λ (n : ℕ). Some (take at c.args.text.now, drop (at + n) c.args.text.now)) (sym c.requires)
    ∙ ap (λ (t : List ℕ). Some (take at c.args.text.now, t)) (sym (take_rest c.args.text.now (at + c.args.len)))))
