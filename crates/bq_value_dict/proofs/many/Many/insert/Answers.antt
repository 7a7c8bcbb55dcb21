use Rattle.std.proofs.Common.{◌∙◌, ap, sym}
use Rattle.std.specs.Option.{option_flatten}
use Rattle.bq_value_dict.specs.Pairs.{found, put}
use Rattle.bq_value_dict.specs.Places.{live, empty_from}
use Rattle.bq_value_dict.proofs.Live.{found_before, put_live}
use Rattle.bq_value_dict.proofs.Empty.{put_empty}
use Rattle.bq_value_dict.proofs.many.Many.insert.Goals as goal

pub invariant_of-self-2 : goal.invariant_of-self-2
invariant_of-self-2 c =
    let entries = c.free_key.new.entries.entries in
    c.in_ok-free_key.ensures.kept ∙ sym (ap (empty_from 0) c.in_ok-insert.ensures.entries ∙ put_empty 0 c.args.key c.args.value entries c.in_ok-free_key.ensures.free)

pub returns-clause-before : goal.returns-clause-before
returns-clause-before c =
    let key = c.args.key in
    let entries = c.free_key.new.entries.entries in
    c.flatten.ensures
    ∙ (ap option_flatten c.in_ok-insert.ensures.old ∙ (sym (found_before key entries c.in_ok-free_key.ensures.free) ∙ ap (found key) (c.in_ok-free_key.ensures.pairs ∙ c.self.view_is)))

pub returns-clause-after : goal.returns-clause-after
returns-clause-after c =
    let key = c.args.key in
    let value = c.args.value in
    let entries = c.free_key.new.entries.entries in
    ap live c.in_ok-insert.ensures.entries
    ∙ (put_live key value entries c.in_ok-free_key.ensures.free ∙ ap (put key value) (c.in_ok-free_key.ensures.pairs ∙ c.self.view_is))
