use Rattle.std.proofs.Common.{◌∙◌, ap, sym}
use Rattle.indexmap.specs.IndexMap.{swap_remove_entry}
use Rattle.bq_value_datum.specs.Same.{same}
use Rattle.bq_value_dict.specs.Places.{live, empty_from}
use Rattle.bq_value_dict.proofs.Freed.{freed_place, live_freed, empty_freed}
use Rattle.bq_value_dict.proofs.places.free_key.Goals as goal

pub returns-clause-pairs : goal.returns-clause-pairs
returns-clause-pairs c =
    let key = c.args.key.now in
    let entries = c.args.entries.now.entries in
    let other = c.in-Some.other in
    let gone = sym c.is_empty_place.ensures ∙ c.if-not-is_empty_place.false in
    let moved = c.swap_remove-empty.ensures.entries ∙ (ap (swap_remove_entry (same key)) c.in_ok-insert.ensures.entries ∙ freed_place key entries other gone c.in-Some.ensures) in
    ap live moved ∙ live_freed key entries other gone

pub returns-clause-kept : goal.returns-clause-kept
returns-clause-kept c =
    let key = c.args.key.now in
    let entries = c.args.entries.now.entries in
    let other = c.in-Some.other in
    let gone = sym c.is_empty_place.ensures ∙ c.if-not-is_empty_place.false in
    let moved = c.swap_remove-empty.ensures.entries ∙ (ap (swap_remove_entry (same key)) c.in_ok-insert.ensures.entries ∙ freed_place key entries other gone c.in-Some.ensures) in
    c.requires ∙ sym (ap (empty_from 0) moved ∙ empty_freed 0 key entries other gone)
