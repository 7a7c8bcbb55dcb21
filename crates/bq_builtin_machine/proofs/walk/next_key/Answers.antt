use Rattle.std.proofs.Common.{◌≡◌, ◌∙◌, ◌+◌, ap, sym, drop, ◌∷◌}
use Rattle.std.proofs.lemmas.List.{drop-map}
use Rattle.bq_value.specs.Pairs.{keys}
use Rattle.bq_builtin_machine.proofs.walk.next_key.Goals as goal

pub returns : goal.returns
returns c =
    let pairs = c.args.dict.now in
    let at = c.args.at.now in
    let here = drop-map (λ p. p.0) at pairs in
    let next = drop-map (λ p. p.0) (at + 1) pairs in
    let pair = ap keys c.pair.ensures in
    cc (here, next, pair, c.value.ensures.same, c.in_ok-value.ensures)
