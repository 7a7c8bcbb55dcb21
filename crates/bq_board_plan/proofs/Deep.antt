-- The longest path that starts at a module has one edge more than the longest that starts at one of its loads; which modules are too deep.
use Rattle.std.proofs.Common.{◌≡◌, ℕ, zero, suc, ◌+◌, ◌<◌, ◌≤◌, Bool, true, false, List, [], length, take, get_or, set, sym, refl, ap, subst, ◌∙◌, inl, inr, arith, true≢false, length-set, get_or-set_same, get_or-set_other, length-take-le}
use mathlib.Core.Logic.{dite}
use native.Mathlib.Decide.{ℕ_discrete, dec_le}
use Rattle.std.proofs.lemmas.List.{take_all, length-replicate}
use Rattle.std.specs.Prelude.{not, ◌&&◌, replicate, nat_le}
use Rattle.std.proofs.lemmas.Bool.{le-leb, lt-leb}
use Rattle.bq_board_plan.specs.Counts.{Has}
use Rattle.bq_board_plan.specs.Graph.{Loads, row}
use Rattle.bq_board_plan.specs.Cycles.{starts_path, is_cyclic}
use Rattle.bq_board_plan.specs.Depth.{max_load_depth, is_too_deep, IsDepth, HasDepths, IsOneAbove, DepthsBelow, TooDeepByPaths, DeepEnough, NotBoth, LoadsADeep, DeepIsReached}
use Rattle.bq_board_plan.specs.Topological.{IsTopologicalOrder, MarksCycles}
use Rattle.bq_board_plan.proofs.Sums.{times_same}
use Rattle.bq_board_plan.proofs.Settling.{at_zero, Has-get_or, times_take_more}
use Rattle.bq_board_plan.proofs.Turning.{times_take_mono}
use Rattle.bq_board_plan.proofs.Rows.{Has_take_more}
use Rattle.bq_board_plan.proofs.Paths.{bool_cases, any_has, any_none, longer, loads_acyclic, path_is, is_path}

-- ---- the largest of some numbers, and one more

pub above_none : (f : ℕ → ℕ) → IsOneAbove f [] 0
above_none f = record { over = λ x h. absurd (omega arith); some = λ h. absurd (omega arith) }

module _ (f : ℕ → ℕ) (xs : List ℕ) (i d : ℕ) (a : IsOneAbove f (take i xs) d) (h : i < length xs) where
  more_has : (x : ℕ) → Has (take i xs) x → Has (take (i + 1) xs) x
  more_has x k = omega (arith, times_take_mono x i (i + 1) xs (omega arith))

  -- the next is larger
  pub above_grows : d ≤ f (get_or xs i 0) → IsOneAbove f (take (i + 1) xs) (f (get_or xs i 0) + 1)
  above_grows le = record {
    over = λ x k. elim (Has_take_more xs i x h k) [ inl old ↦ omega (arith, a.over x old) | inr new ↦ omega (arith, ap f new) ];
    some = λ _. (get_or xs i 0, omega (arith, times_take_more xs i (get_or xs i 0) h, times_same (get_or xs i 0) (take i xs)), refl);
  }

  pub above_stays : f (get_or xs i 0) < d → IsOneAbove f (take (i + 1) xs) d
  above_stays lt = record {
    over = λ x k. elim (Has_take_more xs i x h k) [ inl old ↦ a.over x old | inr new ↦ omega (arith, ap f new) ];
    some = λ pos. let s = a.some pos in (s.0, more_has s.0 s.1, s.2);
  }

-- ---- paths

path_up_to : (p : Loads) (n d m : ℕ) → n ≤ d → starts_path p d m ≡ true → starts_path p n m ≡ true
path_up_to p n d m h t = elim (bool_cases (starts_path p n m)) [
  | inl there ↦ there
  | inr none_there ↦ absurd (true≢false (sym t ∙ longer p n d m h none_there))
]

pub depth_has : (p : Loads) (n m d : ℕ) → IsDepth p m d → n ≤ d → starts_path p n m ≡ true
depth_has p n m d is h = path_up_to p n d m h is.0

pub depth_ends : (p : Loads) (n m d : ℕ) → IsDepth p m d → d < n → starts_path p n m ≡ false
depth_ends p n m d is h = longer p (suc d) n m (omega arith) is.1

module _ (p : Loads) (m : ℕ) (f : ℕ → ℕ) (each : (l : ℕ) → Has (row p m) l → IsDepth p l (f l)) where
  one_deeper : (d : ℕ) → IsOneAbove f (row p m) d → starts_path p d m ≡ true
  unfolding starts_path
  one_deeper zero a = refl
  one_deeper (suc k) a =
      let s = a.some (omega arith) in
      any_has (starts_path p k) (row p m) s.0 s.1 (depth_has p k s.0 (f s.0) (each s.0 s.1) (omega (arith, s.2)))

  no_deeper : (d : ℕ) → IsOneAbove f (row p m) d → starts_path p (suc d) m ≡ false
  unfolding starts_path
  no_deeper d a = any_none (starts_path p d) (row p m) (λ l h. depth_ends p d l (f l) (each l h) (a.over l h))

  pub depth_is : (d : ℕ) → IsOneAbove f (row p m) d → IsDepth p m d
  depth_is d a = (one_deeper d a, no_deeper d a)

-- ---- one pass along a topological order

pub get_or-zeros : (n m : ℕ) → ◌≡◌ {A = ℕ} (get_or (replicate n 0) m 0) 0
get_or-zeros zero m = refl
get_or-zeros (suc n) zero = refl
get_or-zeros (suc n) (suc m) = get_or-zeros n m

pub depths_none : (p : Loads) (n : ℕ) (depths : List ℕ) → n ≡ length p → depths ≡ replicate n 0 → DepthsBelow p [] depths
depths_none p n depths e is = record {
  wide = ap length is ∙ length-replicate n 0 ∙ e;
  low = λ m. omega (arith, ap (λ ds. get_or ds m 0) is, get_or-zeros n m);
  each = λ m h. absurd (omega arith);
}

module _ (p : Loads) (order pending : List ℕ) (sorted : IsTopologicalOrder p order pending) (i : ℕ) (h : i < length order) (depths : List ℕ) (b : DepthsBelow p (take i order) depths) where
  pub loads_low : (l : ℕ) → get_or depths l 0 ≤ i
  loads_low l = omega (arith, b.low l, length-take-le i order (omega arith))

  -- the next module of the order, all of whose loads come before it
  pub depths_more : (m d : ℕ) → m ≡ get_or order i 0 → IsOneAbove (λ l. get_or depths l 0) (row p m) d → DepthsBelow p (take (i + 1) order) (set depths m d)
  depths_more m d is a =
      let known : m < length p = omega (arith, is, sorted.within (get_or order i 0) (Has-get_or order i h)) in
      let after : (l : ℕ) → Has (row p m) l → IsDepth p l (get_or depths l 0) = λ l k. b.each l (sorted.after i l h (subst (λ (x : ℕ). Has (row p x) l) is k)) in
      let mine : IsDepth p m d = depth_is p m (λ l. get_or depths l 0) after d a in
      let same : get_or (set depths m d) m 0 ≡ d = get_or-set_same depths m d 0 (omega (arith, b.wide)) in
      let wide : length (take (i + 1) order) ≡ i + 1 = length-take-le (i + 1) order (omega arith) in
      let small : d ≤ i + 1 = dite (ℕ_discrete d 0) (λ z. omega arith) (λ nz. let s = a.some (omega arith) in omega (arith, s.2, loads_low s.0)) in record {
        wide = length-set depths m d ∙ b.wide;
        low = λ x. dite (ℕ_discrete x m)
            (λ e. omega (arith, ap (λ y. get_or (set depths m d) y 0) e))
            (λ ne. omega (arith, get_or-set_other depths m x d 0 ne, loads_low x));
        each = λ x k. dite (ℕ_discrete x m)
            (λ e. let P : ℕ → Type 0 = λ y. IsDepth p y (get_or (set depths m d) y 0) in subst P (sym e) (subst (IsDepth p m) (sym same) mine))
            (λ ne. subst (IsDepth p x) (sym (get_or-set_other depths m x d 0 ne))
            (elim (Has_take_more order i x h k) [ inl old ↦ b.each x old | inr new ↦ absurd (ne (sym new ∙ sym is)) ]));
      }

pub depths_all : (p : Loads) (order pending : List ℕ) → IsTopologicalOrder p order pending → MarksCycles p pending → (i : ℕ) → length order ≤ i → (depths : List ℕ) → DepthsBelow p (take i order) depths → HasDepths p depths
depths_all p order pending sorted marks i le depths b = record {
  wide = b.wide;
  each = λ m h e. b.each m (subst (λ (xs : List ℕ). Has xs m) (sym (take_all i order le))
      (dite (ℕ_discrete (get_or pending m 0) 0)
      (λ z. omega (arith, sorted.once m h, at_zero (get_or pending m 0) z))
      (λ nz. absurd (true≢false (sym (marks.some m h (omega arith)) ∙ e)))));
}

-- ---- which modules are too deep

not_both : (a b : Bool) → a ≡ true → (not a && b) ≡ false
not_both true b e = refl
not_both false b e = absurd (cc)

just_second : (a b : Bool) → a ≡ false → (not a && b) ≡ b
just_second true b e = absurd (cc)
just_second false b e = refl

two_true : (a b : Bool) → (not a && b) ≡ true → (a ≡ false) × (b ≡ true)
two_true true b e = absurd (cc)
two_true false b e = (refl, e)

pub cyclic_not_deep : (p : Loads) (m : ℕ) → is_cyclic p m ≡ true → is_too_deep p m ≡ false
unfolding is_too_deep
cyclic_not_deep p m e = not_both (is_cyclic p m) (starts_path p (suc max_load_depth) m) e

pub deep_by_path : (p : Loads) (m : ℕ) → is_cyclic p m ≡ false → is_too_deep p m ≡ starts_path p (suc max_load_depth) m
unfolding is_too_deep
deep_by_path p m e = just_second (is_cyclic p m) (starts_path p (suc max_load_depth) m) e

pub deep_both : (p : Loads) (m : ℕ) → is_too_deep p m ≡ true → (is_cyclic p m ≡ false) × (starts_path p (suc max_load_depth) m ≡ true)
unfolding is_too_deep
deep_both p m e = two_true (is_cyclic p m) (starts_path p (suc max_load_depth) m) e

pub too_deep_by_paths : (p : Loads) → TooDeepByPaths p
too_deep_by_paths p m = (
  (λ e. let b = deep_both p m e in (b.0, path_is p (suc max_load_depth) m b.1)),
  (λ b. deep_by_path p m b.0 ∙ is_path p (suc max_load_depth) m b.1),
)

pub deep_enough_is : (p : Loads) → DeepEnough p
deep_enough_is p m _ none_longer = elim (bool_cases (is_too_deep p m)) [
  | inl yes_it ↦ absurd (none_longer ((too_deep_by_paths p m).0 yes_it).1)
  | inr not_it ↦ not_it
]

pub not_both_is : (p : Loads) → NotBoth p
not_both_is p m b = true≢false (sym b.1 ∙ cyclic_not_deep p m b.0)

pub loads_a_deep : (p : Loads) → LoadsADeep p
loads_a_deep p m = (
  (λ e. let b = (too_deep_by_paths p m).0 e in (b.0, b.1)),
  (λ b. (too_deep_by_paths p m).1 (b.0, b.1)),
)

pub deep_is_reached : (p : Loads) → DeepIsReached p
deep_is_reached p m l h e acyclic =
    let b = deep_both p l e in
    deep_by_path p m acyclic ∙ path_up_to p (suc max_load_depth) (suc (suc max_load_depth)) m (omega arith) (is_path p (suc (suc max_load_depth)) m (l, h, path_is p (suc max_load_depth) l b.1))

-- ---- tests

path_test : (p : Loads) (n m d : ℕ) → IsDepth p m d → nat_le n d ≡ starts_path p n m
path_test p n m d is = dite (dec_le n d)
    (λ le. le-leb n d le ∙ sym (depth_has p n m d is le))
    (λ gt. let past : d < n = omega arith in lt-leb n d past ∙ sym (depth_ends p n m d is past))

pub limit_test : (p : Loads) (m d : ℕ) → IsDepth p m d → nat_le max_load_depth d ≡ starts_path p max_load_depth m
limit_test p m d is = path_test p max_load_depth m d is

pub deep_test : (p : Loads) (m d : ℕ) → is_cyclic p m ≡ false → IsDepth p m d → nat_le (suc max_load_depth) d ≡ is_too_deep p m
deep_test p m d e is = path_test p (suc max_load_depth) m d is ∙ sym (deep_by_path p m e)

-- what isn't cyclic loads nothing cyclic
pub loads_not_cyclic : (p : Loads) (m l : ℕ) → is_cyclic p m ≡ false → Has (row p m) l → is_cyclic p l ≡ false
loads_not_cyclic p m l e h = longer p (length p) (suc (length p)) l (omega arith) (loads_acyclic p (length p) m l e h)
