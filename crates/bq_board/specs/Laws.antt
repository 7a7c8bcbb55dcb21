-- The board's rule in its users' words.
use Rattle.std.specs.Prelude.{◌≡◌, ℕ, ◌+◌, ◌<◌, ◌≤◌, ◌↔◌, List, length, slice_index, Option, Some, None}
use lib.ListN.{get_elem?}
use mathlib.Core.Option.{none, some}
use Rattle.atomic_table.specs.Table.{State}
use Rattle.bq_board_plan.specs.Counts.{total, times, Has}
use Rattle.bq_board_plan.specs.Graph.{Loads, edges}
use Rattle.bq_board_plan.specs.Plan.{source, Into}
use Rattle.bq_board.specs.Board.{RuleHolds, edge_word, module_word, Posted}
use Rattle.bq_board.specs.declared.view.View.{View}

-- what is said of a base, a plan, a number of seats and a state of the board, by which values belong to which modules
abbrev pub Law : Type 0 → Type 0 → Type 1
Law B V = (B → ℕ → V → Type 0) → B → Loads → ℕ → State (Option V) (View B) → Type 0

module _ {B V : Type 0} where
  -- it holds in each state that meets the rule
  abbrev pub ByRule : (B → ℕ → V → Type 0) → Law B V → Type 0
  ByRule fact says = (b : B) (p : Loads) (seats : ℕ) (s : State (Option V) (View B)) → RuleHolds fact b p seats s → says fact b p seats s

  -- it holds of each seat's view
  abbrev pub EachView : State (Option V) (View B) → (View B → Type 0) → Type 0
  EachView s says = (j : ℕ) (v : View B) → get_elem? s.views j ≡ some v → says v

  -- x is in this list of some seat's view
  abbrev pub SomeDid : State (Option V) (View B) → (View B → List ℕ) → ℕ → Type 0
  SomeDid s did x = (j : ℕ) × (v : View B) × (get_elem? s.views j ≡ some v) × Has (did v) x

  -- it occurs at most once in these lists of all views
  abbrev pub Once : State (Option V) (View B) → (View B → List ℕ) → ℕ → Type 0
  Once s did x = total (λ v. times x (did v)) s.views ≤ 1

  abbrev pub EdgeLaw : Law B V
  EdgeLaw fact b p seats s = (e : ℕ) → e < edges p →
      ((slice_index s.words (edge_word p e) ≡ 0) ↔ ¬ SomeDid s (λ v. v.opened) e)
      × ((slice_index s.words (edge_word p e) ≡ 3) ↔ (SomeDid s (λ v. v.opened) e × ¬ SomeDid s (λ v. v.posted) e))
      × ((slice_index s.words (edge_word p e) ≡ 1) ↔ (SomeDid s (λ v. v.posted) e × ¬ SomeDid s (λ v. v.fetched) e))
      × ((slice_index s.words (edge_word p e) ≡ 2) ↔ SomeDid s (λ v. v.fetched) e)
      × Once s (λ v. v.opened) e × Once s (λ v. v.posted) e × Once s (λ v. v.fetched) e

  abbrev pub ModuleLaw : Law B V
  ModuleLaw fact b p seats s = (m : ℕ) → m < length p →
      ((slice_index s.words (module_word m) ≡ 1) ↔ SomeDid s (λ v. v.claimed) m)
      × ((slice_index s.words (module_word m) ≡ 0) ↔ ¬ SomeDid s (λ v. v.claimed) m)
      × Once s (λ v. v.claimed) m

  abbrev pub LoadLaw : Law B V
  LoadLaw fact b p seats s = (m e : ℕ) → SomeDid s (λ v. v.claimed) m → Into p m e → SomeDid s (λ v. v.posted) e

  abbrev pub OwnerLaw : Law B V
  OwnerLaw fact b p seats s = EachView s (λ v.
      ((e : ℕ) → Has v.opened e → (e < edges p) × Has v.claimed (source p e))
      × ((e : ℕ) → Has v.posted e → Has v.opened e)
      × ((e : ℕ) → Has v.fetched e → (m : ℕ) × Has v.claimed m × Into p m e)
      × ((m : ℕ) → Has v.finished m → Has v.claimed m × ((e : ℕ) → e < edges p → source p e ≡ m → Has v.posted e))
      × ((m : ℕ) → times m v.finished ≤ 1))

  abbrev pub DoneLaw : Law B V
  DoneLaw fact b p seats s = (slice_index s.words 0 ≡ total (λ v. length v.finished) s.views)
      × (slice_index s.words 0 ≤ length p)
      × EachView s (λ v. (n : ℕ) → Has v.counts n → n ≤ slice_index s.words 0)

  abbrev pub SlotLaw : Law B V
  SlotLaw fact b p seats s = (e : ℕ) → e < edges p →
      (slice_index s.words (edge_word p e) ≡ 0 → get_elem? s.homes e ≡ some (some None))
      × (2 ≤ slice_index s.words (edge_word p e) → get_elem? s.homes e ≡ some none)
      × (slice_index s.words (edge_word p e) ≡ 1 → (x : V) × (get_elem? s.homes e ≡ some (some (Some x))) × fact b (source p e) x)

  abbrev pub NoteLaw : Law B V
  NoteLaw fact b p seats s = EachView s (λ v.
      ((e : ℕ) → Has v.seen e → (e < edges p) × Posted (slice_index s.words (edge_word p e)))
      × ((m : ℕ) → Has v.taken m → (m < length p) × (slice_index s.words (module_word m) ≡ 1)))

  -- the seats, and those that may still be cut from them, are as many as the board was opened for
  abbrev pub SeatLaw : Law B V
  SeatLaw fact b p seats s = length s.views + total (λ v. v.spare) s.views ≡ seats
