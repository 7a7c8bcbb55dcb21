use Rattle.std.proofs.Common.{◌∙◌, sym, ap}
use Rattle.std.proofs.lemmas.List.Folds.{list_any_at}
use Rattle.bq_label_glob.specs.Unmatched.{is_plain}
use Rattle.bq_label_glob.proofs.unmatched.any_matches_none.Goals as goal

pub has_match-requires : goal.has_match-requires
has_match-requires c = λ plain.
    let ps = c.args.patterns.now in
    let p = c.pattern-item.result in
    c.in_ok-set.ensures (list_any_at is_plain ps c.loop-pattern.pattern-index p c.loop-pattern-test.true (ap is_plain (sym c.pattern-item.is) ∙ plain))
