use Rattle.std.proofs.Common.{sym, subst}
use Rattle.bq_value.specs.Datum.{Datum}
use Rattle.bq_value.specs.Key.{IsKey}
use Rattle.bq_value.proofs.Keys.{walked_key}
use Rattle.bq_value.proofs.key_walk.key_of.Goals as goal

pub new-requires : goal.new-requires
new-requires c =
    let P : Datum → Type 0 = IsKey in
    subst P (sym c.in_ok-value.ensures) (walked_key 64 c.args.steps c.in_ok-left.left c.args.value.now (sym c.in_ok-left.ensures))
