use Rattle.std.proofs.Common.{◌≡◌, ℕ, Option, subst, Vec}
use Rattle.std.specs.Global.{Global}
use Rattle.bq_load_front.specs.Inputs.{InputParts}
use Rattle.bq_load_front.specs.Reading.{parsed_of}
use Rattle.bq_load_discover.specs.declared.modules.Module.{Module}
use Rattle.bq_load_discover.specs.declared.load_err.LoadErr.TheVariants.{TooManyModules, Schema}
use Rattle.bq_load_discover.specs.Exploring.{AreFound, Finds}
use Rattle.bq_load_discover.specs.LoadGraph.{inputs_of}
use Rattle.bq_load_discover.specs.Modules.{AreTooMany}
use Rattle.bq_load_discover.proofs.discovery.load_graph_of.Goals as goal

other_error : (line : ℕ) → TooManyModules ≡ Schema line → ⊥
other_error line e = cc

pub returns-in-None : goal.returns-in-None
returns-in-None c =
    let inputs : InputParts = inputs_of c.args.workspace.now c.args.schema.now in
    let many : AreTooMany c.args.limits inputs.packages (parsed_of inputs) = subst (λ (o : Option (Vec Module Global)). Finds c.args.limits (inputs_of c.args.workspace.now c.args.schema.now) o) c.in-None.is c.requires.found in
    (λ t. many, other_error)

pub returns-in-Some : goal.returns-in-Some
returns-in-Some c =
    let found : AreFound c.args.limits (inputs_of c.args.workspace.now c.args.schema.now) c.in-Some.modules.items = subst (λ (o : Option (Vec Module Global)). Finds c.args.limits (inputs_of c.args.workspace.now c.args.schema.now) o) c.in-Some.is c.requires.found in
    c.load_graph.ensures (inputs_of c.args.workspace.now c.args.schema.now) found c.requires.packages
