use Rattle.std.proofs.Common.{◌≡◌, ◌∙◌, refl, ap, sym, true, false}
use Rattle.bq_package_target.specs.Names.{with_name}
use Rattle.bq_base_texts.specs.NameSet.{has}
use Rattle.bq_package_target.proofs.Taking.{was_there, was_new}
use Rattle.bq_package_target.proofs.Finding.{finds_old, finds_new}
use Rattle.bq_package_target.proofs.files.Files.add.Goals as goal

pub returns-then-not-branch : goal.returns-then-not-branch
returns-then-not-branch c =
    let names = c.args.self.now.names in
    let label = c.args.label.now in
    let there : has names label.name ≡ true = sym (ap (has names) c.name.ensures.value) ∙ was_there (has names c.name.result.now) c.in_ok-add.field-0 c.in_ok-add.ensures.added c.if-not-branch.true in
    finds_old c.args.line label c.args.self.now c.add.new.self there (c.in_ok-add.ensures.after ∙ ap (with_name names) c.name.ensures.value)

pub returns : goal.returns
returns c =
    let names = c.args.self.now.names in
    let label = c.args.label.now in
    let lacks : has names label.name ≡ false = sym (ap (has names) c.name.ensures.value) ∙ was_new (has names c.name.result.now) c.in_ok-add.field-0 c.in_ok-add.ensures.added c.if-not-branch.false in
    finds_new c.args.line label c.args.self.now c.add.new.self c.push.new.self lacks (c.in_ok-add.ensures.after ∙ ap (with_name names) c.name.ensures.value)
    (c.in_ok-push.ensures.ok ∙ rw (c.in_ok-label.ensures, c.none.ensures) refl)
