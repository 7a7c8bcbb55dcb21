use Rattle.std.proofs.Common.{◌∙◌, ◌++◌, ◌∷◌, [], ◌+◌, ℕ, List, take, sym, ap}
use Rattle.std.specs.List.{slice_split}
use Rattle.std.proofs.lemmas.List.{take_rest}
use Rattle.bq_label.specs.Paths.{is_slash}
use Rattle.bq_label_glob.proofs.Ends.{last_slash, no_slash_at_all}
use Rattle.bq_label_glob.proofs.segment.split_last.Goals as goal

pub returns-in-Some-clause-cut : goal.returns-in-Some-clause-cut
returns-in-Some-clause-cut c =
    let path : List ℕ = c.args.path.now in
    last_slash path c.in-Some.at c.in-Some.ensures
    ∙ ap (λ (s : List ℕ). slice_split is_slash (take c.in-Some.at path) ++ s ∷ []) (sym (take_rest path (c.in-Some.at + 1)))

pub returns-in-None-clause-cut : goal.returns-in-None-clause-cut
returns-in-None-clause-cut c = no_slash_at_all c.args.path.now c.in-None.ensures
