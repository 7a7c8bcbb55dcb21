use Rattle.std.proofs.Common.{◌≡◌, Ok, arith}
use Rattle.std.proofs.lemmas.Grind.{common_steps}
use Rattle.bq_package_values.specs.Steps.{in_turn}
use Rattle.bq_package_values.specs.LabelTexts.{read, IsReadLast, read_all}
use Rattle.bq_package_values.proofs.Steps.{of_some, of_last}
use Rattle.bq_package_values.proofs.label_texts.read_all.Goals as goal

pub loop-text-preserved : goal.loop-text-preserved
unfolding read_all in_turn
loop-text-preserved c =
    let own = c.args.own.now in
    let kind = c.args.kind in
    let labels = c.push.new.self.items in
    let last = of_last (λ l. read own kind c.text-item.result ≡ Ok l) c.loop-text.labels.items labels c.in_ok-label.label c.in_ok-push.ensures.items c.in_ok-label.ensures in
    (grind (arith, common_steps), of_some (λ b. IsReadLast own kind b.now labels) _ last)

pub returns-in_err-label : goal.returns-in_err-label
unfolding read_all in_turn
returns-in_err-label c = grind (arith, common_steps)
