use Rattle.std.proofs.Common.{◌≡◌, ◌∙◌, ◌++◌, cond, ap, sym, true, false, List, ℕ, length, take}
use Rattle.bq_package_target.specs.Target.{names_of}
use Rattle.bq_package_target.specs.Names.{with_name, are_new}
use Rattle.bq_base_texts.specs.NameSet.{has}
use Rattle.bq_package_target.proofs.Taking.{was_there, was_new, with_old, new_more, new_less, all_more, front_more, front_is}
use Rattle.bq_package_target.proofs.declare.take_all_names.Goals as goal

pub returns-then-not-branch-clause-new : goal.returns-then-not-branch-clause-new
returns-then-not-branch-clause-new c =
    let names = c.args.names.now in
    let n = c.args.target.now.label.name in
    let there : has names n ≡ true = sym (ap (has names) c.name.ensures.value) ∙ was_there (has names c.name.result.now) c.in_ok-add.field-0 c.in_ok-add.ensures.added c.if-not-branch.true in
    sym (new_less names n (names_of c.args.made.now) there)

pub returns-then-not-branch-clause-after : goal.returns-then-not-branch-clause-after
returns-then-not-branch-clause-after c =
    let names = c.args.names.now in
    let n = c.args.target.now.label.name in
    let there : has names n ≡ true = sym (ap (has names) c.name.ensures.value) ∙ was_there (has names c.name.result.now) c.in_ok-add.field-0 c.in_ok-add.ensures.added c.if-not-branch.true in
    c.in_ok-add.ensures.after ∙ (ap (with_name names) c.name.ensures.value ∙ with_old names n there)

pub returns-then-not-branch-2-clause-new : goal.returns-then-not-branch-2-clause-new
returns-then-not-branch-2-clause-new c =
    let names = c.args.names.now in
    let n = c.args.target.now.label.name in
    let left = names_of c.args.made.now in
    let lacks : has names n ≡ false = sym (ap (has names) c.name.ensures.value) ∙ was_new (has names c.name.result.now) c.in_ok-add.field-0 c.in_ok-add.ensures.added c.if-not-branch.false in
    let with_own = c.in_ok-add.ensures.after ∙ ap (with_name names) c.name.ensures.value in
    sym c.if-not-branch-2.true ∙ (c.in_ok-take_names.ensures.new ∙ (ap (λ (z : List (List ℕ)). are_new z left) with_own ∙ sym (new_more names n left lacks)))

pub returns-then-not-branch-2-clause-after : goal.returns-then-not-branch-2-clause-after
returns-then-not-branch-2-clause-after c =
    let names = c.args.names.now in
    let n = c.args.target.now.label.name in
    let own = c.add.new.self in
    let with_own = c.in_ok-add.ensures.after ∙ ap (with_name names) c.name.ensures.value in
    let taken : c.take_names.new.names ≡ with_name names n =
    c.in_ok-take_names.ensures.after ∙ (ap (λ b. cond b (own ++ names_of c.args.made.now) own) c.if-not-branch-2.true ∙ with_own) in
    c.truncate.ensures ∙ (ap (λ (k : ℕ). take k c.take_names.new.names) c.len-first.ensures ∙ (ap (take (length names)) taken ∙ front_more names n names (front_is names)))

pub returns-clause-new : goal.returns-clause-new
returns-clause-new c =
    let names = c.args.names.now in
    let n = c.args.target.now.label.name in
    let left = names_of c.args.made.now in
    let lacks : has names n ≡ false = sym (ap (has names) c.name.ensures.value) ∙ was_new (has names c.name.result.now) c.in_ok-add.field-0 c.in_ok-add.ensures.added c.if-not-branch.false in
    let with_own = c.in_ok-add.ensures.after ∙ ap (with_name names) c.name.ensures.value in
    sym c.if-not-branch-2.false ∙ (c.in_ok-take_names.ensures.new ∙ (ap (λ (z : List (List ℕ)). are_new z left) with_own ∙ sym (new_more names n left lacks)))

pub returns-clause-after : goal.returns-clause-after
returns-clause-after c =
    let names = c.args.names.now in
    let n = c.args.target.now.label.name in
    let left = names_of c.args.made.now in
    let own = c.add.new.self in
    let lacks : has names n ≡ false = sym (ap (has names) c.name.ensures.value) ∙ was_new (has names c.name.result.now) c.in_ok-add.field-0 c.in_ok-add.ensures.added c.if-not-branch.false in
    let with_own = c.in_ok-add.ensures.after ∙ ap (with_name names) c.name.ensures.value in
    c.in_ok-take_names.ensures.after
    ∙ (ap (λ b. cond b (own ++ left) own) c.if-not-branch-2.false ∙ (ap (λ (z : List (List ℕ)). z ++ left) with_own ∙ sym (all_more names n left lacks)))
