use Rattle.std.proofs.Common.{◌≡◌, ◌≢◌, ◌<◌, ℕ, List, length, slice_index, add-one, arith}
use Rattle.std.proofs.lemmas.Grind.{common_steps}
use Rattle.bq_label.proofs.Cuts.{cut_here, cut_nowhere, rest_of}
use Rattle.bq_label.proofs.split.split_once.Goals as goal

pub returns-in-Some : goal.returns-in-Some
returns-in-Some c =
    let text : List ℕ = c.args.text.now in
    let at : ℕ = c.in-Some.at in
    let within : at < length text = grind (arith, common_steps) in
    let there : slice_index text at ≡ c.args.byte = grind (arith, common_steps) in
    let first : (k : ℕ) → k < at → slice_index text k ≢ c.args.byte = grind (arith, common_steps) in
    rw (rest_of, add-one) (cut_here c.args.byte text at within there first)

pub returns-in-None : goal.returns-in-None
returns-in-None c =
    let nowhere : (k : ℕ) → k < length c.args.text.now → slice_index c.args.text.now k ≢ c.args.byte = grind (arith, common_steps) in
    cut_nowhere _ _ nowhere
