use Rattle.std.proofs.Common.{◌∙◌, ◌++◌, ℕ, List, refl, ap}
use Rattle.bq_package_values.specs.JsonValue as json
use Rattle.bq_package_values.specs.JsonString.{json_string}
use Rattle.bq_package_values.proofs.JsonTexts.{array_text}
use Rattle.bq_facts.proofs.lists.push_strings.Goals as goal

pub returns : goal.returns
returns c = c.in_ok-push_string_array.ensures ∙ ap (λ (t : List ℕ). c.args.text.now ++ t) (array_text json_string json.string (λ s. refl) c.args.strings.now)
