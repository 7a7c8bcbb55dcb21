use Rattle.std.proofs.Common.{◌+◌, ℕ, List, take, sym, subst}
use Rattle.std.proofs.lemmas.List.{take_rest}
use Rattle.bq_label_glob.specs.Segment.{IsCutAtStar}
use Rattle.bq_label_glob.proofs.Pieces.{star_found, no_star_found}
use Rattle.bq_label_glob.proofs.segment.cut_at_star.Goals as goal

pub returns-in-Some : goal.returns-in-Some
returns-in-Some c =
    let pattern : List ℕ = c.args.pattern.now in
    let at : ℕ = c.in-Some.at in
    subst (λ (rest : List ℕ). IsCutAtStar pattern (take at pattern) rest) (sym (take_rest pattern (at + 1))) (star_found pattern at c.in-Some.ensures)

pub returns-in-None : goal.returns-in-None
returns-in-None c = no_star_found c.args.pattern.now c.in-None.ensures
