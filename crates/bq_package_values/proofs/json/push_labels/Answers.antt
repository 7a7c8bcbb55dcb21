use Rattle.std.proofs.Common.{◌∙◌, ◌++◌, ℕ, List, refl, ap}
use Rattle.bq_package_values.proofs.JsonTexts.{array_text}
use Rattle.bq_package_values.specs.Json.{json_label, label_json}
use Rattle.bq_package_values.proofs.json.push_labels.Goals as goal

pub returns : goal.returns
returns c = c.in_ok-push_array.ensures ∙ ap (λ (t : List ℕ). c.args.text.now.items ++ t) (array_text json_label label_json (λ l. refl) c.args.labels.now)
