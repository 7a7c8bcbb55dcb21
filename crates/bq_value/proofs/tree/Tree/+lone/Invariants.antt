use Rattle.std.proofs.Common.{◌≡◌, ◌+◌, ◌-◌, ◌*◌, ◌^◌, ◌<◌, ◌≤◌, ◌∷◌, [], None, IfOk, MatchOption, ℕ, length}
use Rattle.std.specs.Option.{option_copied, unwrap_or}
use Rattle.bq_value.specs.Cells.{module_at}
use Rattle.bq_value.specs.Tries.{bare, leaf, IsShaped, IsFork, Joins, entries, keys}
use Rattle.bq_value.proofs.tree.Tree.+lone.Given as goal

-- proposed from what the function passes where it calls itself
abbrev pub decreases-lone : goal.decreases-lone
decreases-lone l = l.height
