use Rattle.std.proofs.Common.{◌≡◌, ◌∙◌, ◌<◌, ap, sym, length, Some, slice_get, get_or, arith}
use Rattle.std.proofs.lemmas.Grind.{common_steps}
use Rattle.std.proofs.lemmas.Option.{slice_get-get_or}
use Rattle.bq_facts.proofs.labels.labels_at.Goals as goal

pub loop-at-preserved : goal.loop-at-preserved
loop-at-preserved c =
    let at = get_or c.args.numbers.now c.loop-at.at-index 0 in
    let t = c.index-targets-at.result in
    let inside : at < length c.args.targets.now = c.requires c.loop-at.at-index 0 c.loop-at-test.true in
    let there : slice_get c.args.targets.now at ≡ Some t = slice_get-get_or c.args.targets.now at t inside ∙ ap Some (sym c.index-targets-at.is) in
    grind (arith, common_steps, there)
