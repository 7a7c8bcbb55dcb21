-- What a claim answers.
use Rattle.std.specs.Prelude.{◌≡◌, ℕ, List, ◌++◌, length}
use Rattle.bq_board_plan.specs.Counts.{Has}
use Rattle.bq_board_plan.specs.Plan.{Into}
use Rattle.bq_board.specs.Steps.{Fed, IsNew, with_claimed, with_taken, with_missed}
use Rattle.bq_board.specs.declared.view.View.{View}
use Rattle.bq_board.specs.declared.claim.Claim.{Claim}
use Rattle.bq_board.specs.declared.claim.Claim.TheVariants.{Won, Taken, Waiting}

module _ {B : Type 0} where
  -- more edges were seen, and nothing else was noted
  abbrev pub Saw : View B → View B → Type 0
  Saw v w = (es : List ℕ) × (w ≡ record v { seen = v.seen ++ es })

  abbrev pub Answers : View B → ℕ → View B → Claim → View B → Type 0
  Answers v m u Won w = (w ≡ with_claimed u m) × Fed u m × ¬ Has v.counts (length v.plan) × IsNew u m
  Answers v m u Taken w = w ≡ with_taken u m
  Answers v m u (Waiting e) w = (w ≡ with_missed u e) × Into v.plan m e × ¬ Has u.seen e × ¬ Has v.posted e × ¬ Has v.counts (length v.plan)

  abbrev pub Answered : View B → ℕ → Claim → View B → Type 0
  Answered v m r w = (u : View B) × Saw v u × Answers v m u r w
