use Rattle.std.proofs.Common.{◌≡◌, ◌∙◌, ◌<◌, ◌≤◌, ap, sym, subst, arith, length}
use Rattle.bq_value_dict.specs.Pairs.{without, HasNoKeyTwice}
use Rattle.bq_value_dict.specs.Places.{rank}
use Rattle.bq_value_dict.proofs.Puts.{absent, once_without}
use Rattle.bq_value_dict.proofs.Ranks.{found_at, none_at, without_at}
use Rattle.bq_value_dict.proofs.few.Few.remove.Goals as goal

pub returns-then-at-len-clause-before : goal.returns-then-at-len-clause-before
returns-then-at-len-clause-before c =
    let key = c.args.key.now in
    let all = c.deref.ensures.value ∙ c.self.view_is in
    let at = c.index_of-at.ensures ∙ ap (rank key) all in
    let less : rank key c.args.self.now < length c.args.self.now = omega (arith, c.if-at-len.true, c.len.ensures, at, ap length c.self.view_is) in
    cc (found_at key c.remove-key.result c.args.self.now less, at, c.self.view_is, c.remove-key.ensures.value)

pub returns-then-at-len-clause-after : goal.returns-then-at-len-clause-after
returns-then-at-len-clause-after c =
    let key = c.args.key.now in
    let at = c.index_of-at.ensures ∙ ap (rank key) (c.deref.ensures.value ∙ c.self.view_is) in
    cc (without_at key c.args.self.now, at, c.self.view_is, c.remove-key.ensures.items)

pub invariant_of-self : goal.invariant_of-self
invariant_of-self c =
    let key = c.args.key.now in
    let at = c.index_of-at.ensures ∙ ap (rank key) (c.deref.ensures.value ∙ c.self.view_is) in
    let after : without key c.args.self.now ≡ c.remove-key.new.self.items = cc (without_at key c.args.self.now, at, c.self.view_is, c.remove-key.ensures.items) in
    subst HasNoKeyTwice after (once_without key c.args.self.now (subst HasNoKeyTwice c.self.view_is c.self.invariant))

pub returns-clause-before : goal.returns-clause-before
returns-clause-before c =
    let key = c.args.key.now in
    let at = c.index_of-at.ensures ∙ ap (rank key) (c.deref.ensures.value ∙ c.self.view_is) in
    sym (none_at key c.args.self.now (omega (arith, c.if-at-len.false, c.len.ensures, at, ap length c.self.view_is)))

pub returns-clause-after : goal.returns-clause-after
returns-clause-after c =
    let key = c.args.key.now in
    let at = c.index_of-at.ensures ∙ ap (rank key) (c.deref.ensures.value ∙ c.self.view_is) in
    let none = none_at key c.args.self.now (omega (arith, c.if-at-len.false, c.len.ensures, at, ap length c.self.view_is)) in
    sym (absent key c.args.self.now none)
