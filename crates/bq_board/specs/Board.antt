-- The board's words, slots and views, and the rule over them.
-- Word 0 counts the finished modules. Then comes a word for each module, then a word for each edge. Each edge has a slot, which is with the board or with a seat.
use Rattle.std.specs.Prelude.{◌≡◌, ℕ, ◌+◌, ◌*◌, ◌<◌, ◌≤◌, List, [], length, slice_index, Option, Some, None}
use lib.ListN.{get_elem?}
use mathlib.Core.Option.{none, some}
use mathlib.Core.Option as maybe
use Rattle.atomic_table.specs.Table.{State}
use Rattle.bq_board_plan.specs.Counts.{total, times, Has}
use Rattle.bq_board_plan.specs.Graph.{Loads, edges, IsGraph}
use Rattle.bq_board_plan.specs.Plan.{source, Into}
use Rattle.bq_board.specs.declared.view.View.{View}

-- the index of a module's word, which is 0 while the module is free and 1 once it is claimed
abbrev pub module_word : ℕ → ℕ
module_word m = 1 + m

-- the index of an edge's word, which is 0 while the edge is empty, 3 while it is being filled, 1 once it is posted and 2 once it is fetched
abbrev pub edge_word : Loads → ℕ → ℕ
edge_word p e = 1 + length p + e

-- the word of an edge that is posted, whether it is fetched since then or not
abbrev pub Posted : ℕ → Type 0
Posted w = (1 ≤ w) × (w ≤ 2)

-- an edge's word is 0, 3, 1 and 2 as it was opened, posted and fetched, each at most once and in this order
abbrev pub Phase : ℕ → ℕ → ℕ → ℕ → Type 0
Phase w opened posted fetched = (w + 2 * posted ≡ 3 * opened + fetched) × (fetched ≤ posted) × (posted ≤ opened) × (opened ≤ 1)

module _ {B : Type 0} where
  -- the view of a seat that has done nothing, and from which some more may be cut
  abbrev pub blank_with : B → Loads → ℕ → View B
  blank_with b p spare = record { of = record {}; base = b; plan = p; seen = []; missed = []; opened = []; posted = []; fetched = []; claimed = []; taken = []; finished = []; counts = []; spare = spare }

  -- and from which none may be cut
  abbrev pub blank : B → Loads → View B
  blank b p = blank_with b p 0

  -- what a seat's view says of the board
  pub record ViewHolds (b : B) (p : Loads) (ws : List ℕ) (v : View B) : Type 0 where
    pub base : v.base ≡ b
    pub plan : v.plan ≡ p
    pub claims : (m : ℕ) → Has v.claimed m → m < length p
    pub opens : (e : ℕ) → Has v.opened e → (e < edges p) × Has v.claimed (source p e)
    pub posts : (e : ℕ) → Has v.posted e → Has v.opened e
    pub fetches : (e : ℕ) → Has v.fetched e → (m : ℕ) × Has v.claimed m × Into p m e
    pub ends : (m : ℕ) → Has v.finished m → Has v.claimed m × ((e : ℕ) → e < edges p → source p e ≡ m → Has v.posted e)
    pub ends_once : (m : ℕ) → times m v.finished ≤ 1
    pub counts : (n : ℕ) → Has v.counts n → n ≤ slice_index ws 0
    pub seen : (e : ℕ) → Has v.seen e → (e < edges p) × Posted (slice_index ws (edge_word p e))
    pub taken : (m : ℕ) → Has v.taken m → (m < length p) × (slice_index ws (module_word m) ≡ 1)

module _ {B V : Type 0} (fact : B → ℕ → V → Type 0) (b : B) (p : Loads) where
  -- where the slot of the edge e is, at the word w
  pub record SlotHolds (e w : ℕ) (h : maybe.Option (maybe.Option (Option V))) : Type 0 where
    pub empty : w ≡ 0 → h ≡ some (some None)
    pub out : 2 ≤ w → h ≡ some none
    pub full : w ≡ 1 → (x : V) × (h ≡ some (some (Some x))) × fact b (source p e) x

  -- the rule of a board with `seats` seats: what holds of words, slots and all views between any two steps
  pub record RuleHolds (seats : ℕ) (s : State (Option V) (View B)) : Type 0 where
    pub sound : IsGraph p
    pub wide : length s.words ≡ 1 + length p + edges p
    pub deep : length s.homes ≡ edges p
    pub edge : (e : ℕ) → e < edges p → Phase (slice_index s.words (edge_word p e)) (total (λ v. times e v.opened) s.views) (total (λ v. times e v.posted) s.views) (total (λ v. times e v.fetched) s.views)
    pub lies : (e : ℕ) → e < edges p → SlotHolds e (slice_index s.words (edge_word p e)) (get_elem? s.homes e)
    pub claim : (m : ℕ) → m < length p → (slice_index s.words (module_word m) ≡ total (λ v. times m v.claimed) s.views) × (slice_index s.words (module_word m) ≤ 1)
    pub ready : (m e : ℕ) → m < length p → Into p m e → slice_index s.words (module_word m) ≡ 1 → Posted (slice_index s.words (edge_word p e))
    pub done : slice_index s.words 0 ≡ total (λ v. length v.finished) s.views
    pub cut : total (λ v. 1 + v.spare) s.views ≡ seats
    pub each : (j : ℕ) (v : View B) → get_elem? s.views j ≡ some v → ViewHolds b p s.words v
