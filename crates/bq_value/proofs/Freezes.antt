-- What cells hold after a module was frozen or loaded, or another cell was changed.
use Rattle.std.proofs.Common.{◌≡◌, ◌≢◌, ◌∙◌, ap, sym, refl, cond, ℕ, zero, suc, Bool, true, false, List, [], ◌∷◌, Option, Some, None, is_some, slice_get, set, ◌==◌}
use Rattle.std.proofs.lemmas.Bool.{eqb-true, eqb-false, ne_eqb}
use Rattle.std.specs.Prelude.{fold, nat_lt}
use Rattle.std.specs.Option.{option_or}
use Rattle.bq_value_datum.specs.Datum.{Datum}
use Rattle.bq_value_content.specs.Contents.{Contents}
use Rattle.bq_value.specs.Lending.{with_cell}
use Rattle.bq_value.specs.Cells.{FrozenCells, Modules, StoreView, FrozenView, module_at, cell_of, content_at, frozen_at, frozen, placed, added}
use Rattle.bq_value.proofs.Cases.{brought, with_loaded}

pub frozen_keeps : (s : StoreView) (names : List (List ℕ)) (gs : List Datum) (home number : ℕ) → frozen_at (frozen s names gs) home number ≡ content_at s home number
unfolding content_at frozen_at
frozen_keeps s names gs home number = refl

or_none : (o : Option FrozenCells) → o ≡ option_or o None
or_none (Some x) = refl
or_none None = refl

-- a module before others of which none has its number
front_by : (home : ℕ) (m : ℕ × FrozenCells) (o : Option FrozenCells) (b : Bool) → (b ≡ true → o ≡ None) → cond b (Some m.1) o ≡ option_or o (cond b (Some m.1) None)
front_by home m o true e = sym (ap (λ q. option_or q (Some m.1)) (e refl))
front_by home m o false e = or_none o

rest_none : (c : FrozenCells) (o : Option FrozenCells) (b : Bool) → cond b (Some c) o ≡ None → o ≡ None
rest_none c o true e = cc
rest_none c o false e = e

behind_by : (c : FrozenCells) (o p q : Option FrozenCells) (b : Bool) → o ≡ option_or p q → cond b (Some c) o ≡ option_or (cond b (Some c) p) q
behind_by c o p q true e = refl
behind_by c o p q false e = e

place_by : (home : ℕ) (m n : ℕ × FrozenCells) (ms : Modules) (b : Bool) → module_at home (m ∷ n ∷ ms) ≡ option_or (module_at home (n ∷ ms)) (module_at home (m ∷ []))
    → module_at home (n ∷ placed m ms) ≡ option_or (module_at home (n ∷ ms)) (module_at home (m ∷ []))
    → module_at home (cond b (m ∷ n ∷ ms) (n ∷ placed m ms)) ≡ option_or (module_at home (n ∷ ms)) (module_at home (m ∷ []))
place_by home m n ms true e f = e
place_by home m n ms false e f = f

-- a new module in its place
at_placed : (home : ℕ) (m : ℕ × FrozenCells) (ms : Modules) → module_at m.0 ms ≡ None → module_at home (placed m ms) ≡ option_or (module_at home ms) (module_at home (m ∷ []))
at_placed home m [] absent = refl
at_placed home m (n ∷ ms) absent =
    place_by home m n ms (nat_lt m.0 n.0)
    (front_by home m (module_at home (n ∷ ms)) (home == m.0) (λ e. ap (λ k. module_at k (n ∷ ms)) (eqb-true home m.0 e) ∙ absent))
    (behind_by n.1 (module_at home (placed m ms)) (module_at home ms) (module_at home (m ∷ [])) (home == n.0)
    (at_placed home m ms (rest_none n.1 (module_at m.0 ms) (m.0 == n.0) absent)))

none_by : (o : Option FrozenCells) → is_some o ≡ false → o ≡ None
none_by (Some x) e = absurd (cc)
none_by None e = refl

-- of two modules with one number the first counts
one_by : (found : Option FrozenCells) (own : FrozenCells) (r : Option FrozenCells) (b : Bool) → option_or found (option_or (cond b (Some own) None) r) ≡ option_or found (cond b (Some own) r)
one_by found own r true = refl
one_by found own r false = refl

or_or : (a b c : Option FrozenCells) → option_or (option_or a b) c ≡ option_or a (option_or b c)
or_or (Some x) b c = refl
or_or None b c = refl

there : (found : Option FrozenCells) (own : FrozenCells) (r : Option FrozenCells) (b : Bool) → (b ≡ true → is_some found ≡ true) → option_or found r ≡ option_or found (cond b (Some own) r)
there (Some x) own r b h = refl
there None own r false h = refl
there None own r true h = absurd (no (h refl))
  where
    no : false ≡ true → ⊥
    no e = cc

some_there : (home : ℕ) (ms : Modules) (m : ℕ) → is_some (module_at m ms) ≡ true → (home == m) ≡ true → is_some (module_at home ms) ≡ true
some_there home ms m h e = ap (λ n. is_some (module_at n ms)) (eqb-true home m e) ∙ h

added_by : (home : ℕ) (ms : Modules) (m : ℕ × FrozenCells) (r : Option FrozenCells) (b : Bool) → is_some (module_at m.0 ms) ≡ b
    → option_or (module_at home (cond b ms (placed m ms))) r ≡ option_or (module_at home ms) (cond (home == m.0) (Some m.1) r)
added_by home ms m r true e = there (module_at home ms) m.1 r (home == m.0) (some_there home ms m.0 e)
added_by home ms m r false e =
    ap (λ o. option_or o r) (at_placed home m ms (none_by (module_at m.0 ms) e)) ∙ (or_or (module_at home ms) (module_at home (m ∷ [])) r ∙ one_by (module_at home ms) m.1 r (home == m.0))

pub at_loaded : (home : ℕ) (ms more : Modules) → module_at home (fold added ms more) ≡ option_or (module_at home ms) (module_at home more)
at_loaded home ms [] = or_none (module_at home ms)
at_loaded home ms (m ∷ more) = at_loaded home (added ms m) more ∙ added_by home ms m (module_at home more) (is_some (module_at m.0 ms)) refl

pub load_brings : (s : StoreView) (f : FrozenView) (home number : ℕ) → home ≢ s.own → module_at home s.loaded ≡ None
    → content_at (with_loaded (fold added s.loaded (brought f)) s) home number ≡ frozen_at f home number
unfolding content_at frozen_at
load_brings s f home number apart absent =
    ap (λ b. cond b (slice_get s.cells number) (cell_of number (module_at home (fold added s.loaded (brought f))))) (ne_eqb home s.own apart)
    ∙ (ap (cell_of number) (at_loaded home s.loaded (brought f) ∙ ap (λ o. option_or o (module_at home (brought f))) absent) ∙ by (home == f.own))
  where
    by : (b : Bool) → cell_of number (cond b (Some f.cells) (module_at home f.reached)) ≡ cond b (slice_get f.cells.cells number) (cell_of number (module_at home f.reached))
    by true = refl
    by false = refl

keeps_by : (s : StoreView) (f : FrozenView) (home number : ℕ) (b : Bool) (o : Option FrozenCells) → module_at home s.loaded ≡ o → (b ≡ false → is_some o ≡ true)
    → cond b (slice_get s.cells number) (cell_of number (option_or o (module_at home (brought f)))) ≡ cond b (slice_get s.cells number) (cell_of number o)
keeps_by s f home number true o e h = refl
keeps_by s f home number false (Some x) e h = refl
keeps_by s f home number false None e h = absurd (no (h refl))
  where
    no : false ≡ true → ⊥
    no e = cc

some_by : (o : Option FrozenCells) → o ≢ None → is_some o ≡ true
some_by (Some x) h = refl
some_by None h = absurd (h refl)

pub load_keeps : (s : StoreView) (f : FrozenView) (home number : ℕ) → (home ≢ s.own → module_at home s.loaded ≢ None)
    → content_at (with_loaded (fold added s.loaded (brought f)) s) home number ≡ content_at s home number
unfolding content_at
load_keeps s f home number h =
    ap (λ o. cond (home == s.own) (slice_get s.cells number) (cell_of number o)) (at_loaded home s.loaded (brought f))
    ∙ keeps_by s f home number (home == s.own) (module_at home s.loaded) refl (λ e. some_by (module_at home s.loaded) (h (eqb-false home s.own e)))

pub other_modules : (s : StoreView) (place : ℕ) (c : Contents) (home number : ℕ) → home ≢ s.own → content_at (with_cell s place c) home number ≡ content_at s home number
unfolding content_at
other_modules s place c home number apart =
    ap (λ b. cond b (slice_get (set s.cells place c) number) (cell_of number (module_at home s.loaded))) (ne_eqb home s.own apart)
    ∙ sym (ap (λ b. cond b (slice_get s.cells number) (cell_of number (module_at home s.loaded))) (ne_eqb home s.own apart))

set_other : (cs : List Contents) (place : ℕ) (c : Contents) (number : ℕ) → number ≢ place → slice_get (set cs place c) number ≡ slice_get cs number
set_other [] place c number apart = refl
set_other (x ∷ cs) zero c zero apart = absurd (apart refl)
set_other (x ∷ cs) zero c (suc number) apart = refl
set_other (x ∷ cs) (suc place) c zero apart = refl
set_other (x ∷ cs) (suc place) c (suc number) apart = set_other cs place c number (λ e. apart (ap suc e))

pub other_cells : (s : StoreView) (place : ℕ) (c : Contents) (home number : ℕ) → number ≢ place → content_at (with_cell s place c) home number ≡ content_at s home number
unfolding content_at
other_cells s place c home number apart = ap (λ o. cond (home == s.own) o (cell_of number (module_at home s.loaded))) (set_other s.cells place c number apart)
