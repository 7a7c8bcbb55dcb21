use Rattle.std.proofs.Common.{◌≡◌, ◌∙◌, ◌<◌, ◌≤◌, ◌++◌, ◌∷◌, [], None, ap, sym, subst, arith, length, set}
use Rattle.bq_value_dict.specs.Pairs.{found, put, HasNoKeyTwice}
use Rattle.bq_value_dict.specs.Places.{rank}
use Rattle.bq_value_dict.proofs.Copies.{new_last}
use Rattle.bq_value_dict.proofs.Puts.{once_put}
use Rattle.bq_value_dict.proofs.Ranks.{found_at, none_at, put_at}
use Rattle.bq_value_dict.proofs.few.Few.insert.Goals as goal

pub returns-then-at-len-clause-before : goal.returns-then-at-len-clause-before
returns-then-at-len-clause-before c =
    let key = c.args.key in
    let all = c.deref.ensures.value ∙ c.self.view_is in
    let at = c.index_of-at.ensures ∙ ap (rank key) all in
    let less : rank key c.args.self.now < length c.args.self.now = omega (arith, c.if-at-len.true, c.len.ensures, at, ap length c.self.view_is) in
    cc (found_at key c.index_mut.result.now c.args.self.now less, at, c.self.view_is, c.index_mut.ensures.value, c.replace.ensures.value)

pub returns-then-at-len-clause-after : goal.returns-then-at-len-clause-after
returns-then-at-len-clause-after c =
    let key = c.args.key in
    let all = c.deref.ensures.value ∙ c.self.view_is in
    let at = c.index_of-at.ensures ∙ ap (rank key) all in
    let less : rank key c.args.self.now < length c.args.self.now = omega (arith, c.if-at-len.true, c.len.ensures, at, ap length c.self.view_is) in
    cc (put_at key c.args.value c.index_mut.result.now c.args.self.now less, at, c.self.view_is, c.index_mut.ensures.value, c.replace.ensures.after)

pub invariant_of-self : goal.invariant_of-self
invariant_of-self c =
    let key = c.args.key in
    let all = c.deref.ensures.value ∙ c.self.view_is in
    let at = c.index_of-at.ensures ∙ ap (rank key) all in
    let less : rank key c.args.self.now < length c.args.self.now = omega (arith, c.if-at-len.true, c.len.ensures, at, ap length c.self.view_is) in
    let after : put key c.args.value c.args.self.now ≡ set c.self.inside.pairs.items c.index_of-at.result (c.index_mut.result.now.0, c.replace.new.dest) =
    cc (put_at key c.args.value c.index_mut.result.now c.args.self.now less, at, c.self.view_is, c.index_mut.ensures.value, c.replace.ensures.after) in
    subst HasNoKeyTwice after (once_put key c.args.value c.args.self.now (subst HasNoKeyTwice c.self.view_is c.self.invariant))

pub returns-clause-before : goal.returns-clause-before
returns-clause-before c =
    let key = c.args.key in
    let all = c.deref.ensures.value ∙ c.self.view_is in
    let at = c.index_of-at.ensures ∙ ap (rank key) all in
    sym (none_at key c.args.self.now (omega (arith, c.if-at-len.false, c.len.ensures, at, ap length c.self.view_is)))

pub returns-clause-after : goal.returns-clause-after
returns-clause-after c =
    let key = c.args.key in
    let all = c.deref.ensures.value ∙ c.self.view_is in
    let at = c.index_of-at.ensures ∙ ap (rank key) all in
    let none = none_at key c.args.self.now (omega (arith, c.if-at-len.false, c.len.ensures, at, ap length c.self.view_is)) in
    c.in_ok-push.ensures.items ∙ (ap (λ ps. ps ++ (key, c.args.value) ∷ []) c.self.view_is ∙ sym (new_last key c.args.value c.args.self.now none))

pub invariant_of-self-2 : goal.invariant_of-self-2
invariant_of-self-2 c =
    let key = c.args.key in
    let all = c.deref.ensures.value ∙ c.self.view_is in
    let at = c.index_of-at.ensures ∙ ap (rank key) all in
    let none = none_at key c.args.self.now (omega (arith, c.if-at-len.false, c.len.ensures, at, ap length c.self.view_is)) in
    let after = c.in_ok-push.ensures.items ∙ (ap (λ ps. ps ++ (key, c.args.value) ∷ []) c.self.view_is ∙ sym (new_last key c.args.value c.args.self.now none)) in
    subst HasNoKeyTwice (sym after) (once_put key c.args.value c.args.self.now (subst HasNoKeyTwice c.self.view_is c.self.invariant))
