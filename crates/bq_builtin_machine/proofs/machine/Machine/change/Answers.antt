use Rattle.std.proofs.Common.{◌∙◌, refl}
use Rattle.bq_builtin_machine.proofs.Within.{known_by}
use Rattle.bq_builtin_machine.proofs.machine.Machine.change.Goals as goal

pub returns : goal.returns
returns c =
    let own = c.in_ok-can_change.ensures.own in
    let at = c.in_ok-content.ensures.own own in
    (rw (← c.self.view_is) refl, record { lends = tt; says = rw (← c.self.view_is) c.in_ok-can_change.ensures.says; now = rw (← c.self.view_is) (known_by c.self.inside.store c.args.cell.module c.args.cell.number own ∙ at) })
