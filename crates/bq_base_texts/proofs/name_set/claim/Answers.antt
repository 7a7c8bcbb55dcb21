use Rattle.std.proofs.Common.{◌≡◌, ◌∙◌, false, sym}
use Rattle.bq_base_texts.specs.NameSet.{has}
use Rattle.bq_base_texts.proofs.NameLookups.{all_placed, candidates, still_placed}
use Rattle.bq_base_texts.proofs.name_set.claim.Goals as goal

pub returns-in_err-first-clause-kept : goal.returns-in_err-first-clause-kept
returns-in_err-first-clause-kept c = all_placed c.args.names.now _ _ _ _ c.requires c.put_first.ensures.all

pub is_there-requires : goal.is_there-requires
is_there-requires c = rw (c.put_first.ensures.colliding) (candidates c.args.names.now _ _ c.args.name.now _ c.requires c.in_ok-first.ensures.first)

pub returns-then-is_there-clause-kept : goal.returns-then-is_there-clause-kept
returns-then-is_there-clause-kept c = all_placed c.args.names.now _ _ _ _ c.requires c.put_first.ensures.all

pub returns-then-is_none-clause-kept : goal.returns-then-is_none-clause-kept
returns-then-is_none-clause-kept c = all_placed c.args.names.now _ _ _ _ c.requires c.put_first.ensures.all

pub returns-in_err-put_colliding-clause-kept : goal.returns-in_err-put_colliding-clause-kept
returns-in_err-put_colliding-clause-kept c =
    let new : has c.args.names.now c.args.name.now ≡ false = sym c.is_there.ensures ∙ c.if-is_there.false in
    let first = c.put_first.new.self in
    still_placed c.args.names.now first.by_hash _ first.colliding _ c.args.name.now (all_placed c.args.names.now _ first.by_hash _ first.colliding c.requires c.put_first.ensures.all) new c.put_colliding.ensures.others

pub returns-clause-kept : goal.returns-clause-kept
returns-clause-kept c =
    let new : has c.args.names.now c.args.name.now ≡ false = sym c.is_there.ensures ∙ c.if-is_there.false in
    let first = c.put_first.new.self in
    still_placed c.args.names.now first.by_hash _ first.colliding _ c.args.name.now (all_placed c.args.names.now _ first.by_hash _ first.colliding c.requires c.put_first.ensures.all) new c.put_colliding.ensures.others
