use Rattle.std.proofs.Common.{◌≡◌, ◌∙◌, ◌+◌, ap, sym, subst, true, false, drop, List, ℕ, length, take}
use Rattle.bq_package_target.specs.Target.{names_of}
use Rattle.bq_package_target.specs.Names.{with_name}
use Rattle.bq_base_texts.specs.NameSet.{has}
use Rattle.bq_package_target.proofs.Taking.{Takes, was_there, was_new, front_more, takes_none, takes_more, takes_stop, takes_all, takes_end}
use Rattle.bq_package_target.proofs.Walking.{names_left, names_done}
use Rattle.bq_package_target.proofs.declare.take_names.Goals as goal

pub loop-target-init : goal.loop-target-init
loop-target-init c = takes_none c.args.names.now (names_of c.args.targets.now)

pub returns-then-not-branch-clause-new : goal.returns-then-not-branch-clause-new
returns-then-not-branch-clause-new c =
    let l = c.loop-target in
    let ts = c.args.targets.now in
    let t = c.target-item.result in
    let there : has l.names t.label.name ≡ true = sym (ap (has l.names) c.name.ensures.value) ∙ was_there (has l.names c.name.result.now) c.in_ok-add.field-0 c.in_ok-add.ensures.added c.if-not-branch.true in
    sym (takes_stop c.args.names.now (names_of ts) l.names (names_of (drop (l.target-index + 1) ts)) t.label.name (names_left c.args.names.now l.names ts l.target-index t c.loop-target-test.true c.target-item.is l.invariant) there)

pub returns-then-not-branch-clause-after : goal.returns-then-not-branch-clause-after
returns-then-not-branch-clause-after c =
    let l = c.loop-target in
    let first = c.args.names.now in
    let front : take (length first) c.add.new.self ≡ first = subst (λ (z : List (List ℕ)). take (length first) z ≡ first) (sym c.in_ok-add.ensures.after) (front_more l.names c.name.result.now first l.invariant.front) in
    c.truncate.ensures ∙ (ap (λ (k : ℕ). take k c.add.new.self) c.len-before.ensures ∙ front)

pub loop-target-preserved : goal.loop-target-preserved
loop-target-preserved c =
    let l = c.loop-target in
    let ts = c.args.targets.now in
    let t = c.target-item.result in
    let left = names_of (drop (l.target-index + 1) ts) in
    let lacks : has l.names t.label.name ≡ false = sym (ap (has l.names) c.name.ensures.value) ∙ was_new (has l.names c.name.result.now) c.in_ok-add.field-0 c.in_ok-add.ensures.added c.if-not-branch.false in
    let now = c.in_ok-add.ensures.after ∙ ap (with_name l.names) c.name.ensures.value in
    subst (λ (z : List (List ℕ)). Takes c.args.names.now (names_of ts) z left) (sym now)
    (takes_more c.args.names.now (names_of ts) l.names left t.label.name (names_left c.args.names.now l.names ts l.target-index t c.loop-target-test.true c.target-item.is l.invariant) lacks)

pub returns-clause-new : goal.returns-clause-new
returns-clause-new c =
    let l = c.loop-target in
    let ts = c.args.targets.now in
    sym (takes_all c.args.names.now (names_of ts) l.names (names_done c.args.names.now l.names ts l.target-index c.loop-target-test.false l.invariant))

pub returns-clause-after : goal.returns-clause-after
returns-clause-after c =
    let l = c.loop-target in
    let ts = c.args.targets.now in
    takes_end c.args.names.now (names_of ts) l.names (names_done c.args.names.now l.names ts l.target-index c.loop-target-test.false l.invariant)
