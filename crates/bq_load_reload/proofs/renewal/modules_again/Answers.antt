use Rattle.std.proofs.Common.{◌≡◌, ◌∙◌, true, IfOk, sym, subst}
use Rattle.bq_load_front.specs.Inputs.{InputParts}
use Rattle.bq_load_discover.proofs.Inputs.{are_inputs}
use Rattle.bq_load_reload.specs.Renewal.{AreAsRead, modules_in}
use Rattle.bq_load_reload.proofs.renewal.modules_again.Goals as goal

pub all_read_again-requires : goal.all_read_again-requires
all_read_again-requires c =
    let read = c.in_ok-inputs.ensures in
    let same = are_inputs c.in_ok-inputs.inputs c.args.sources.now.workspace.now c.args.sources.now.schema.now c.args.packages.now read.files read.packages c.requires.packages (read.rules ∙ c.in_ok-names.ensures) in
    subst (λ (z : InputParts). AreAsRead z c.args.numbers.now 0 c.args.modules.items) (sym same) c.requires.stay

pub returns-clause-read : goal.returns-clause-read
returns-clause-read c =
    let read = c.in_ok-inputs.ensures in
    let same = are_inputs c.in_ok-inputs.inputs c.args.sources.now.workspace.now c.args.sources.now.schema.now c.args.packages.now read.files read.packages c.requires.packages (read.rules ∙ c.in_ok-names.ensures) in
    subst (λ (z : InputParts). IfOk c.all_read_again.result (λ r. r.modules.items ≡ modules_in z c.args.modules.items)) same c.all_read_again.ensures.read
