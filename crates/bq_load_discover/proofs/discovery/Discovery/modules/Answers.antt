use Rattle.std.proofs.Common.{◌≡◌, ◌∙◌, IfOk, subst}
use Rattle.bq_load_front.specs.Inputs.{InputParts}
use Rattle.bq_load_discover.specs.Exploring.{Finds}
use Rattle.bq_load_discover.specs.LoadGraph.{inputs_of}
use Rattle.bq_load_discover.proofs.Inputs.{are_inputs}
use Rattle.bq_load_discover.proofs.discovery.Discovery.modules.Goals as goal

pub returns : goal.returns
returns c =
    let inputs = c.in_ok-inputs.inputs in
    let read = c.in_ok-inputs.ensures in
    let same : inputs ≡ inputs_of c.args.self.now.workspace.now c.args.self.now.schema.now =
    are_inputs inputs c.args.self.now.workspace.now c.args.self.now.schema.now c.args.self.now.packages.now read.files read.packages c.requires.packages (read.rules ∙ c.in_ok-names.ensures) in
    subst (λ (z : InputParts). IfOk c.explore.result (Finds c.args.limits z)) same c.explore.ensures
