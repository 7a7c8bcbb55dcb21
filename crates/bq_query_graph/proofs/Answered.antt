-- What the searches mark is what the query names.
use Rattle.std.proofs.Common.{◌≡◌, ℕ, ◌<◌, Bool, true, false, List, [], ◌∷◌, length, get_or, replicate, refl, ap, ◌∙◌, arith}
use Rattle.std.proofs.lemmas.List.{get_or-replicate}
use Rattle.std.specs.List.{AllByRecursion}
use Rattle.bq_query_graph.specs.Paths.{Pair, Ends, EndsWithin, Deps, DepsWithin, Rdeps, RdepsWithin, OnPaths, AreBelow, AreTurned}
use Rattle.bq_query_graph.specs.Marks.{Marked, IsSet, Step, Both}
use Rattle.bq_query_graph.proofs.Grows.{marked_below}
use Rattle.bq_query_graph.proofs.Walks.{path_map, Back, turned, forth}

-- the same set by other words
pub set_as : (P Q : ℕ → Type 0) → (n m : ℕ) (ms : List Bool) → n ≡ m → ((y : ℕ) → P y → Q y) → ((y : ℕ) → Q y → P y) → IsSet n ms P → IsSet m ms Q
set_as P Q n m ms e f g s = (s.0 ∙ e, λ y. (λ h. f y ((s.1 y).0 h), λ q. (s.1 y).1 (g y q)))

-- every target is allowed
abbrev pub Everything : List (List ℕ) → List Bool → Type 0
Everything g all = all ≡ replicate (length g) true

marked_all : (n y : ℕ) (all : List Bool) → all ≡ replicate n true → y < n → Marked all y
marked_all n y all e l = ap (λ (xs : List Bool). get_or xs y false) e ∙ get_or-replicate n y true false l

pub deps_as : (g : List (List ℕ)) (all xs : List Bool) → AreBelow g → length xs ≡ length g → Everything g all → (m : ℕ) (ms : List Bool) → length g ≡ m → IsSet (length g) ms (Ends (Step g all) (Both xs all)) → IsSet m ms (Deps g (Marked xs))
deps_as g all xs below long e m ms same =
    set_as (Ends (Step g all) (Both xs all)) (Deps g (Marked xs)) (length g) m ms same
    (λ y r. record { from = r.from; starts = r.starts.0; through = r.through; path = path_map (Step g all) (Pair g) (λ a b p. p.0) r.from r.through y r.path })
    (λ y r. record {
      from = r.from;
      starts = (r.starts, marked_all (length g) r.from all e (omega (arith, marked_below xs r.from r.starts, long)));
      through = r.through;
      path = path_map (Pair g) (Step g all) (λ a b p. (p, marked_all (length g) b all e (below a b p))) r.from r.through y r.path;
    })

pub deps_within_as : (g : List (List ℕ)) (all xs : List Bool) (n : ℕ) → AreBelow g → length xs ≡ length g → Everything g all → (ms : List Bool) → IsSet (length g) ms (EndsWithin (Step g all) (Both xs all) n) → IsSet (length g) ms (DepsWithin g (Marked xs) n)
deps_within_as g all xs n below long e ms =
    set_as (EndsWithin (Step g all) (Both xs all) n) (DepsWithin g (Marked xs) n) (length g) (length g) ms refl
    (λ y (e, few). (record { from = e.from; starts = e.starts.0; through = e.through; path = path_map (Step g all) (Pair g) (λ a b p. p.0) e.from e.through y e.path }, few))
    (λ y (r, few). (
      record {
        from = r.from;
        starts = (r.starts, marked_all (length g) r.from all e (omega (arith, marked_below xs r.from r.starts, long)));
        through = r.through;
        path = path_map (Pair g) (Step g all) (λ a b p. (p, marked_all (length g) b all e (below a b p))) r.from r.through y r.path;
      },
      few,
    ))

-- d marks deps(u)
pub rdeps_as : (g h : List (List ℕ)) → (U : ℕ → Type 0) → (xs d : List Bool) → AreTurned g h → IsSet (length g) d (Deps g U) → (ms : List Bool) → IsSet (length h) ms (Ends (Step h d) (Both xs d)) → IsSet (length g) ms (Rdeps g U (Marked xs))
rdeps_as g h U xs d t s ms =
    set_as (Ends (Step h d) (Both xs d)) (Rdeps g U (Marked xs)) (length h) (length g) ms t.long
    (λ y r. let f = forth (Pair g) (Deps g U) r.from r.through y (path_map (Step h d) (Back (Pair g) (Deps g U)) (λ a b p. (t.from b a p.0, (s.1 b).0 p.1)) r.from r.through y r.path) ((s.1 r.from).0 r.starts.1) in
    record { to = r.from; ends = r.starts.0; through = f.through; path = f.path; inside = f.inside })
    (λ y r. let f = turned (Pair g) (Deps g U) y r.through r.to r.path r.inside in
    record {
      from = r.to;
      starts = (r.ends, (s.1 r.to).1 f.ends);
      through = f.through;
      path = path_map (Back (Pair g) (Deps g U)) (Step h d) (λ a b p. (t.to b a p.0, (s.1 b).1 p.1)) r.to f.through y f.path;
    })

pub rdeps_within_as : (g h : List (List ℕ)) → (U : ℕ → Type 0) → (xs d : List Bool) (n : ℕ) → AreTurned g h → IsSet (length g) d (Deps g U) → (ms : List Bool) → IsSet (length h) ms (EndsWithin (Step h d) (Both xs d) n) → IsSet (length g) ms (RdepsWithin g U (Marked xs) n)
rdeps_within_as g h U xs d n t s ms =
    set_as (EndsWithin (Step h d) (Both xs d) n) (RdepsWithin g U (Marked xs) n) (length h) (length g) ms t.long
    (λ y (r, few). let f = forth (Pair g) (Deps g U) r.from r.through y (path_map (Step h d) (Back (Pair g) (Deps g U)) (λ a b p. (t.from b a p.0, (s.1 b).0 p.1)) r.from r.through y r.path) ((s.1 r.from).0 r.starts.1) in
    (record { to = r.from; ends = r.starts.0; through = f.through; path = f.path; inside = f.inside }, omega (arith, f.long, few)))
    (λ y (r, few). let f = turned (Pair g) (Deps g U) y r.through r.to r.path r.inside in (
      record {
        from = r.to;
        starts = (r.ends, (s.1 r.to).1 f.ends);
        through = f.through;
        path = path_map (Back (Pair g) (Deps g U)) (Step h d) (λ a b p. (t.to b a p.0, (s.1 b).1 p.1)) r.to f.through y f.path;
      },
      omega (arith, f.long, few),
    ))

always : (xs : List ℕ) → AllByRecursion (λ _. Unit {0}) xs
always [] = tt
always (x ∷ xs) = (tt, always xs)

-- d marks deps(a), e what reaches b
pub paths_as : (g h : List (List ℕ)) (xs ys d e : List Bool) → AreTurned g h → IsSet (length g) d (Deps g (Marked xs)) → IsSet (length h) e (Deps h (Marked ys)) → (n : ℕ) (ms : List Bool) → n ≡ length g → IsSet n ms (Both d e) → IsSet (length g) ms (OnPaths g (Marked xs) (Marked ys))
paths_as g h xs ys d e t s u n ms same =
    set_as (Both d e) (OnPaths g (Marked xs) (Marked ys)) n (length g) ms same
    (λ y p. let r = (u.1 y).0 p.1 in
    let f = forth (Pair g) (λ _. Unit {0}) r.from r.through y (path_map (Pair h) (Back (Pair g) (λ _. Unit {0})) (λ a b q. (t.from b a q, tt)) r.from r.through y r.path) tt in
    record { reached = (s.1 y).0 p.0; to = r.from; ends = r.starts; through = f.through; path = f.path })
    (λ y r. let f = turned (Pair g) (λ _. Unit {0}) y r.through r.to r.path (always (y ∷ r.through)) in (
      (s.1 y).1 r.reached,
      (u.1 y).1 (record { from = r.to; starts = r.ends; through = f.through; path = path_map (Back (Pair g) (λ _. Unit {0})) (Pair h) (λ a b q. t.to b a q.0) r.to f.through y f.path }),
    ))
