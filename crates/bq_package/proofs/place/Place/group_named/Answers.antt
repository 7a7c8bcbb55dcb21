use Rattle.std.proofs.Common.{◌∙◌, List, Option, Bool, Result, ap, subst}
use Rattle.bq_base.specs.Gives.{Gives}
use Rattle.bq_base.specs.declared.fault.EvalFault.{EvalFault}
use Rattle.bq_value.specs.Datum.{Datum}
use Rattle.bq_value.specs.declared.error.EvalErr.TheVariants.{Bad}
use Rattle.bq_builtin_machine.specs.Binding.{BoundView}
use Rattle.bq_package_target.specs.declared.target.Target.{Target}
use Rattle.bq_package.specs.Place.{place_of}
use Rattle.bq_package.specs.Groups.{group_of, group_named}
use Rattle.bq_package.proofs.place.Place.group_named.Goals as goal

pub returns : goal.returns
unfolding group_named
returns c =
    let p = place_of c.args.self.now in
    let of : Bool → List (Option Datum) → Result Target EvalFault = group_of p c.args.store.now c.args.line in
    let values = c.deref.ensures.value ∙ ap (λ (b : BoundView). b.values) c.bound.view_is in
    let is = ap (λ first. of first c.deref.result.now) c.names_first-first.ensures ∙ ap (of _) values in
    rw c.in_ok-bound.ensures (subst (λ (z : Result Target EvalFault). Gives (λ t. t) Bad c.group_of.result z) is c.group_of.ensures)
