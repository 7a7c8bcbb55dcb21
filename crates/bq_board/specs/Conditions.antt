-- The conditions of `fetch`, `post` and `finish`, from call to call: what a seat still may do, and must do, for the modules that it won.
-- A worker that claims a module, fetches all edges into it, posts all edges out of it and finishes it meets them by the lemmas of proofs/Conditions.antt.
use Rattle.std.specs.Prelude.{◌≡◌, ◌≢◌, ℕ, ◌≤◌, ◌⊎◌, List, take}
use Rattle.bq_board_plan.specs.Counts.{Has}
use Rattle.bq_board_plan.specs.Graph.{Loads}
use Rattle.bq_board_plan.specs.Plan.{source, Into}
use Rattle.bq_board.specs.declared.view.View.{View}
use Rattle.bq_board.specs.declared.claim.Claim.{Claim}
use Rattle.bq_board.specs.declared.claim.Claim.TheVariants.{Won, Taken, Waiting}

module _ {B : Type 0} (p : Loads) where
  -- the seat won m, and has posted no edge out of it and not finished it
  pub record Owes (v : View B) (m : ℕ) : Type 0 where
    pub claimed : Has v.claimed m
    pub finished : ¬ Has v.finished m
    pub posted : (e : ℕ) → source p e ≡ m → ¬ Has v.posted e

  -- and has fetched no edge into it
  pub record Holds (v : View B) (m : ℕ) : Type 0 where
    pub owes : Owes v m
    pub fetched : (e : ℕ) → Into p m e → ¬ Has v.fetched e

  -- what holds of k before holds of it after
  abbrev pub KeepsAt : View B → View B → ℕ → Type 0
  KeepsAt v w k = (Holds v k → Holds w k) × (Owes v k → Owes w k)

  -- what the seat held or owed before it holds or owes after: of each module
  abbrev pub KeepsAll : View B → View B → Type 0
  KeepsAll v w = (k : ℕ) → KeepsAt v w k

  -- and of each module but `m`
  abbrev pub KeepsOthers : View B → ℕ → View B → Type 0
  KeepsOthers v m w = (k : ℕ) → k ≢ m → KeepsAt v w k

  -- a module that was won is held
  abbrev pub HoldsIfWon : View B → ℕ → Claim → Type 0
  HoldsIfWon w m Won = Holds w m
  HoldsIfWon w m Taken = Unit {0}
  HoldsIfWon w m (Waiting e) = Unit {0}

  -- from v to u, edges into m were fetched: none from e on, and no others
  pub record Collects (v : View B) (m e : ℕ) (u : View B) : Type 0 where
    pub view : u ≡ record v { fetched = u.fetched }
    pub rest : (d : ℕ) → Into p m d → e ≤ d → ¬ Has u.fetched d
    pub fresh : (d : ℕ) → Has u.fetched d → Has v.fetched d ⊎ Into p m d

-- from v to u, the first i edges of es were posted, and no others
pub record Delivers {B : Type 0} (v : View B) (es : List ℕ) (i : ℕ) (u : View B) : Type 0 where
  pub view : u ≡ record v { opened = u.opened; posted = u.posted }
  pub all : (d : ℕ) → Has (take i es) d → Has u.posted d
  pub fresh : (d : ℕ) → Has u.posted d → Has v.posted d ⊎ Has (take i es) d
