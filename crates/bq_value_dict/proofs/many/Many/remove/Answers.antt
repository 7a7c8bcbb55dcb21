use Rattle.std.proofs.Common.{◌≡◌, ◌∙◌, ◌+◌, ap, sym, arith, not, is_some, None, Some}
use Rattle.std.specs.Option.{option_flatten}
use Rattle.indexmap.specs.IndexMap.{set_value_at}
use Rattle.bq_value_dict.specs.Pairs.{found, without}
use Rattle.bq_value_dict.specs.Places.{live, empty_from, with_index}
use Rattle.bq_value_dict.proofs.Puts.{absent}
use Rattle.bq_value_dict.proofs.Live.{first, found_live, without_live, none_of, same_some, at_first}
use Rattle.bq_value_dict.proofs.Empty.{left_empty}
use Rattle.bq_value_dict.proofs.many.Many.remove.Goals as goal

pub returns-in_err-index-clause-before : goal.returns-in_err-index-clause-before
returns-in_err-index-clause-before c =
    let key = c.args.key.now in
    let entries = c.self.inside.entries.entries in
    let none = none_of _ (sym c.in_err-index.ensures.found) in
    let gone = sym (ap (found key) c.self.view_is) ∙ (found_live key entries c.in_err-index.ensures.unique ∙ ap option_flatten none) in
    c.from_residual.ensures ∙ sym gone

pub returns-in_err-index-clause-after : goal.returns-in_err-index-clause-after
returns-in_err-index-clause-after c =
    let key = c.args.key.now in
    let entries = c.self.inside.entries.entries in
    let none = none_of _ (sym c.in_err-index.ensures.found) in
    let gone = sym (ap (found key) c.self.view_is) ∙ (found_live key entries c.in_err-index.ensures.unique ∙ ap option_flatten none) in
    sym (absent key _ gone)

pub returns-then-is_none-clause-before : goal.returns-then-is_none-clause-before
returns-then-is_none-clause-before c =
    let key = c.args.key.now in
    let entries = c.self.inside.entries.entries in
    let none = none_of _ (c.is_none.ensures ∙ ap not c.if-is_none.true) in
    let there = sym c.in_ok-index.ensures.value ∙ (c.index.ensures ∙ ap Some none) in
    let gone = sym (ap (found key) c.self.view_is) ∙ (found_live key entries c.in_ok-index.ensures.unique ∙ ap option_flatten there) in
    sym gone

pub returns-then-is_none-clause-after : goal.returns-then-is_none-clause-after
returns-then-is_none-clause-after c =
    let key = c.args.key.now in
    let entries = c.self.inside.entries.entries in
    let none = none_of _ (c.is_none.ensures ∙ ap not c.if-is_none.true) in
    let there = sym c.in_ok-index.ensures.value ∙ (c.index.ensures ∙ ap Some none) in
    let gone = sym (ap (found key) c.self.view_is) ∙ (found_live key entries c.in_ok-index.ensures.unique ∙ ap option_flatten there) in
    sym (absent key _ gone)

pub leave_empty-requires : goal.leave_empty-requires
leave_empty-requires c =
    let key = c.args.key.now in
    let entries = c.self.inside.entries.entries in
    let index = c.in_ok-index.index in
    let value = c.replace-value.result in
    let at = at_first key entries index c.in_ok-index.ensures.index in
    let there = sym c.in_ok-index.ensures.value ∙ (c.index_mut.ensures.value ∙ ap Some (sym c.replace-value.ensures.value)) in
    let now_is = same_some _ _ (sym c.index.ensures ∙ (c.in_ok-index.ensures.value ∙ there)) in
    let some = sym (ap is_some now_is) ∙ (c.is_none.ensures ∙ ap not c.if-is_none.false) in
    let sum : 0 + first key entries ≡ first key entries = omega arith in
    ap (λ w. empty_from 0 (set_value_at entries index w)) c.replace-value.ensures.after
    ∙ (ap (λ i. empty_from 0 (set_value_at entries i None)) (sym at)
    ∙ (left_empty 0 key entries value there some ∙ (ap (λ i. with_index i (empty_from 0 entries)) (sum ∙ at) ∙ ap (with_index index) (sym c.self.invariant))))

pub returns-clause-before : goal.returns-clause-before
returns-clause-before c =
    let key = c.args.key.now in
    let entries = c.self.inside.entries.entries in
    let index = c.in_ok-index.index in
    let value = c.replace-value.result in
    let at = at_first key entries index c.in_ok-index.ensures.index in
    let there = sym c.in_ok-index.ensures.value ∙ (c.index_mut.ensures.value ∙ ap Some (sym c.replace-value.ensures.value)) in
    let now_is = same_some _ _ (sym c.index.ensures ∙ (c.in_ok-index.ensures.value ∙ there)) in
    let some = sym (ap is_some now_is) ∙ (c.is_none.ensures ∙ ap not c.if-is_none.false) in
    sym (sym (ap (found key) c.self.view_is) ∙ (found_live key entries c.in_ok-index.ensures.unique ∙ ap option_flatten there))

pub returns-clause-after : goal.returns-clause-after
returns-clause-after c =
    let key = c.args.key.now in
    let entries = c.self.inside.entries.entries in
    let index = c.in_ok-index.index in
    let value = c.replace-value.result in
    let at = at_first key entries index c.in_ok-index.ensures.index in
    let there = sym c.in_ok-index.ensures.value ∙ (c.index_mut.ensures.value ∙ ap Some (sym c.replace-value.ensures.value)) in
    let now_is = same_some _ _ (sym c.index.ensures ∙ (c.in_ok-index.ensures.value ∙ there)) in
    let some = sym (ap is_some now_is) ∙ (c.is_none.ensures ∙ ap not c.if-is_none.false) in
    c.leave_empty.ensures.pairs
    ∙ (ap (λ w. live (set_value_at entries index w)) c.replace-value.ensures.after
    ∙ (ap (λ i. live (set_value_at entries i None)) (sym at) ∙ (without_live key entries value there some ∙ ap (without key) c.self.view_is)))
