-- The laws follow from the rule.
use Rattle.std.proofs.Common.{◌≡◌, ℕ, ◌+◌, ◌<◌, List, get_or, arith}
use Rattle.std.specs.Prelude.{Option}
use mathlib.Core.Logic.{dite}
use native.Mathlib.Decide.{ℕ_discrete}
use Rattle.atomic_table.specs.Table.{State}
use Rattle.bq_board_plan.specs.Counts.{total, times}
use Rattle.bq_board_plan.specs.Graph.{Loads}
use Rattle.bq_board.specs.Board.{RuleHolds, module_word}
use Rattle.bq_board.specs.Laws.{SomeDid, EdgeLaw, ModuleLaw, LoadLaw, OwnerLaw, DoneLaw, SlotLaw, NoteLaw, SeatLaw}
use Rattle.bq_board.specs.declared.view.View.{View}
use Rattle.bq_board_plan.proofs.Sums.{term_le, some_term, total_more}
use Rattle.bq_board_plan.proofs.Edges.{start_le}
use Rattle.bq_board.proofs.Keeps.{done_le}

module _ (B V : Type 0) (fact : B → ℕ → V → Type 0) (b : B) (p : Loads) (seats : ℕ) (s : State (Option V) (View B)) (k : RuleHolds fact b p seats s) where
  did : (f : View B → List ℕ) (x : ℕ) → 0 < total (λ v. times x (f v)) s.views → SomeDid s f x
  did f x h = some_term (λ v. times x (f v)) s.views h

  counts : (f : View B → List ℕ) (x : ℕ) → SomeDid s f x → 0 < total (λ v. times x (f v)) s.views
  counts f x d = let t = term_le (λ v. times x (f v)) s.views d.0 d.1 d.2 in let had = d.3 in omega arith

  none : (f : View B → List ℕ) (x : ℕ) → ¬ SomeDid s f x → total (λ v. times x (f v)) s.views ≡ 0
  none f x never = dite (ℕ_discrete (total (λ v. times x (f v)) s.views) 0) (λ z. z) (λ nz. absurd (never (did f x (omega arith))))

  pub edge_says : EdgeLaw fact b p seats s
  edge_says e h =
      let ph = k.edge e h in
      let o : View B → List ℕ = λ v. v.opened in let q : View B → List ℕ = λ v. v.posted in let f : View B → List ℕ = λ v. v.fetched in (
        ((λ w d. absurd (let n = counts o e d in omega arith)), (λ never. let z = none o e never in omega arith)),
        ((λ w. (did o e (omega arith), λ d. absurd (let n = counts q e d in omega arith))), (λ t. let n = counts o e t.0 in let z = none q e t.1 in omega arith)),
        ((λ w. (did q e (omega arith), λ d. absurd (let n = counts f e d in omega arith))), (λ t. let n = counts q e t.0 in let z = none f e t.1 in omega arith)),
        ((λ w. did f e (omega arith)), (λ d. let n = counts f e d in omega arith)),
        ph.3,
        omega arith,
        omega arith,
      )

  pub module_says : ModuleLaw fact b p seats s
  module_says m h = let q = k.claim m h in let c : View B → List ℕ = λ v. v.claimed in (
    ((λ w. did c m (omega arith)), (λ d. let n = counts c m d in omega arith)),
    ((λ w d. absurd (let n = counts c m d in omega arith)), (λ never. let z = none c m never in omega arith)),
    omega arith,
  )

  pub load_says : LoadLaw fact b p seats s
  load_says m e d into =
      let lt = (k.each d.0 d.1 d.2).claims m d.3 in let q = k.claim m lt in let n = counts (λ v. v.claimed) m d in
      let one : get_or s.words (module_word m) 0 ≡ 1 = omega arith in let r = k.ready m e lt into one in let ph = k.edge e (omega (arith, start_le p (m + 1), into.1)) in
      did (λ v. v.posted) e (omega arith)

  pub owner_says : OwnerLaw fact b p seats s
  owner_says j v at = let g = k.each j v at in (g.opens, g.posts, g.fetches, g.ends, g.ends_once)

  pub done_says : DoneLaw fact b p seats s
  done_says = (k.done, done_le B V fact b p seats s k, λ j v at. (k.each j v at).counts)

  pub slot_says : SlotLaw fact b p seats s
  slot_says e h = let l = k.lies e h in (l.empty, l.out, l.full)

  pub note_says : NoteLaw fact b p seats s
  note_says j v at = let g = k.each j v at in (g.seen, g.taken)

  pub seats_say : SeatLaw fact b p seats s
  seats_say = omega (arith, k.cut, total_more (λ v. v.spare) s.views)
