use Rattle.std.proofs.Common.{◌∙◌, ap, sym, rules}
use Rattle.std.specs.Map.{lookup}
use Rattle.indexmap.proofs.CallerLemmas.{filter-RetainsPairs}
use Rattle.bq_value_datum.specs.Same.{same}
use Rattle.bq_value_dict.specs.Places.{live, empty_from, is_empty}
use Rattle.bq_value_dict.proofs.Live.{is_there, live_kept, none_kept}
use Rattle.bq_value_dict.proofs.Empty.{none_empty}
use Rattle.bq_value_dict.proofs.places.close_up.Goals as goal

pub returns-clause-pairs : goal.returns-clause-pairs
returns-clause-pairs c =
    let kept = filter-RetainsPairs _ is_there _ (λ k v b w g call. search rules) _ _ c.retain.ensures.filtered in
    ap live kept ∙ live_kept c.args.entries.now.entries

pub returns-clause-places : goal.returns-clause-places
returns-clause-places c =
    let kept = filter-RetainsPairs _ is_there _ (λ k v b w g call. search rules) _ _ c.retain.ensures.filtered in
    c.clear.ensures.items ∙ sym (ap (empty_from 0) kept ∙ none_empty 0 c.args.entries.now.entries)

pub returns-clause-free : goal.returns-clause-free
returns-clause-free c key =
    let kept = filter-RetainsPairs _ is_there _ (λ k v b w g call. search rules) _ _ c.retain.ensures.filtered in
    ap (λ ps. is_empty (lookup (same key) ps)) kept ∙ none_kept key c.args.entries.now.entries
