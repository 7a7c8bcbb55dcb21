use Rattle.std.proofs.Common.{◌+◌, ℕ, List, length, sym, subst}
use Rattle.std.proofs.lemmas.List.{take_rest}
use Rattle.bq_label_glob.specs.Segment.{IsAfterFirst}
use Rattle.bq_label_glob.proofs.Pieces.{piece_found, no_piece_found}
use Rattle.bq_label_glob.proofs.segment.after_first.Goals as goal

pub returns-in-Some : goal.returns-in-Some
returns-in-Some c =
    let piece : List ℕ = c.args.piece.now in
    let text : List ℕ = c.args.text.now in
    subst (λ (rest : List ℕ). IsAfterFirst piece text rest) (sym (take_rest text (c.in-Some.at + length piece))) (piece_found piece text c.in-Some.at c.in-Some.ensures)

pub returns-in-None : goal.returns-in-None
returns-in-None c = no_piece_found c.args.piece.now c.args.text.now c.in-None.ensures
