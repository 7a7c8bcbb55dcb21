-- What each step means to its seat: how its view changes, and which slot comes or goes.
use Rattle.std.specs.Prelude.{◌≡◌, ◌≢◌, ℕ, ◌≤◌, [], ◌∷◌, ◌++◌, length, Option, Some, None}
use Rattle.atomic_table.specs.Table.{Me, Step, rest}
use Rattle.bq_board_plan.specs.Counts.{Has}
use Rattle.bq_board_plan.specs.Plan.{source, Into}
use Rattle.bq_board.specs.Board.{edge_word, module_word, Posted}
use Rattle.bq_board.specs.declared.view.View.{View}

module _ {B : Type 0} where
  abbrev pub with_seen : View B → ℕ → View B
  with_seen v e = record v { seen = v.seen ++ e ∷ [] }

  abbrev pub with_missed : View B → ℕ → View B
  with_missed v e = record v { missed = v.missed ++ e ∷ [] }

  abbrev pub with_opened : View B → ℕ → View B
  with_opened v e = record v { opened = v.opened ++ e ∷ [] }

  abbrev pub with_posted : View B → ℕ → View B
  with_posted v e = record v { posted = v.posted ++ e ∷ [] }

  abbrev pub with_fetched : View B → ℕ → View B
  with_fetched v e = record v { fetched = v.fetched ++ e ∷ [] }

  abbrev pub with_claimed : View B → ℕ → View B
  with_claimed v m = record v { claimed = v.claimed ++ m ∷ [] }

  abbrev pub with_taken : View B → ℕ → View B
  with_taken v m = record v { taken = v.taken ++ m ∷ [] }

  abbrev pub with_finished : View B → ℕ → View B
  with_finished v m = record v { finished = v.finished ++ m ∷ [] }

  abbrev pub with_count : View B → ℕ → View B
  with_count v n = record v { counts = v.counts ++ n ∷ [] }

  -- all edges into m are seen or posted
  abbrev pub Fed : View B → ℕ → Type 0
  Fed v m = (e : ℕ) → Into v.plan m e → Has (v.seen ++ v.posted) e

  -- the edge that was looked at was posted; or it was missed, isn't one that this view knows as posted, and not all modules were finished
  abbrev pub Looked : View B → ℕ → ℕ → View B → Type 0
  Looked v e r w = (Posted r → w ≡ with_seen v e) × (¬ Posted r → (w ≡ with_missed v e) × ¬ Has v.seen e × ¬ Has v.posted e × ¬ Has v.counts (length v.plan))

  -- the view has done nothing for m yet
  abbrev pub IsNew : View B → ℕ → Type 0
  IsNew v m = ¬ Has v.claimed m × ¬ Has v.finished m × ((e : ℕ) → source v.plan e ≡ m → ¬ Has v.posted e) × ((e : ℕ) → Into v.plan m e → ¬ Has v.fetched e)

  -- the exchange found the module free: it is this view's, and not all modules were finished; or it found it claimed
  abbrev pub Claimed : View B → ℕ → ℕ → View B → Type 0
  Claimed v m r w = (r ≡ 0 → (w ≡ with_claimed v m) × ¬ Has v.counts (length v.plan) × IsNew v m) × (r ≢ 0 → w ≡ with_taken v m)

  -- the number found: at least each one found before and as many as this view finished, and at most the number of modules
  abbrev pub Counted : View B → ℕ → View B → Type 0
  Counted v r w = (w ≡ with_count v r) × (length v.finished ≤ r) × ((n : ℕ) → Has v.counts n → n ≤ r) × (r ≤ length v.plan)

-- Of the step, the seat before, the number found and the seat after. A step on a word of another kind says nothing
abbrev pub Play : Type 0 → Type 0 → Type 1
Play B V = Step (Option V) → Me (Option V) (View B) → ℕ → Me (Option V) (View B) → Type 0

module _ {B V : Type 0} where
  -- the load of an edge's word
  abbrev pub looked : Play B V
  looked st m r n = (n.1 ≡ m.1) × ((e : ℕ) → st.word ≡ edge_word m.0.plan e → Looked m.0 e r n.0)

  -- the exchange of a module's word
  abbrev pub tried : Play B V
  tried st m r n = (n.1 ≡ m.1) × ((k : ℕ) → st.word ≡ module_word k → Claimed m.0 k r n.0)

  -- the empty slot goes to the seat
  abbrev pub opened : Play B V
  opened st m r n = (e : ℕ) → st.word ≡ edge_word m.0.plan e → n ≡ (with_opened m.0 e, (e, None) ∷ m.1)

  -- the filled slot goes back to the board
  abbrev pub posted : Play B V
  posted st m r n = (e : ℕ) → st.word ≡ edge_word m.0.plan e → n ≡ (with_posted m.0 e, rest m.1)

  -- the slot goes to the seat, with a parcel that belongs to the edge's source
  abbrev pub fetched : (B → ℕ → V → Type 0) → Play B V
  fetched fact st m r n = (e : ℕ) → st.word ≡ edge_word m.0.plan e → (x : V) × (n ≡ (with_fetched m.0 e, (e, Some x) ∷ m.1)) × fact m.0.base (source m.0.plan e) x

  -- one more module is finished
  abbrev pub added : ℕ → Play B V
  added k st m r n = n ≡ (with_finished m.0 k, m.1)

  -- the load of the count
  abbrev pub counted : Play B V
  counted st m r n = (n.1 ≡ m.1) × Counted m.0 r n.0
