use Rattle.std.proofs.Common.{◌≡◌, ◌∙◌, List, None, subst, arith}
use Rattle.std.proofs.lemmas.Grind.{common_steps}
use Rattle.bq_label.specs.Label.{LabelParts}
use Rattle.bq_label_set.specs.Numbering.{AreNumbered, first_number, colliding_number}
use Rattle.bq_label_set.proofs.Numbered.{late_number, late_within}
use Rattle.bq_label_set.proofs.Put.{none_colliding}
use Rattle.bq_label_set.proofs.label_set.LabelSet.number.Goals as goal

pub returns-then-is_empty-clause-number : goal.returns-then-is_empty-clause-number
returns-then-is_empty-clause-number c =
    let p = c.self.inside.numbers.by_hash in
    let q = c.self.inside.numbers.colliding in
    let are = subst (λ (ls : List LabelParts). AreNumbered ls p q) c.self.view_is c.self.invariant in
    let first : c.copied-first.result ≡ first_number p c.args.label.now = grind (arith, common_steps) in
    let none : None ≡ colliding_number q c.args.label.now = grind (arith, common_steps, none_colliding) in
    late_number c.args.self.now p q c.args.label.now c.copied-first.result None None are first none c.in_default.ensures.nowhere tt (λ i h at. absurd (cc))

pub returns-clause-number : goal.returns-clause-number
returns-clause-number c =
    let p = c.self.inside.numbers.by_hash in
    let q = c.self.inside.numbers.colliding in
    let are = subst (λ (ls : List LabelParts). AreNumbered ls p q) c.self.view_is c.self.invariant in
    let first : c.copied-first.result ≡ first_number p c.args.label.now = grind (arith, common_steps) in
    let late : c.copied-late.result ≡ colliding_number q c.args.label.now = grind (arith, common_steps) in
    late_number c.args.self.now p q c.args.label.now c.copied-first.result c.copied-late.result c.checked-2.result are first late c.in_default.ensures.nowhere c.checked-2.ensures.there c.checked-2.ensures.nowhere

pub returns-clause-within : goal.returns-clause-within
returns-clause-within c = late_within c.args.self.now c.args.label.now c.copied-late.result c.checked-2.result c.checked-2.ensures.there
