-- The laws of the operators.
use Rattle.std.proofs.Common.{ℕ, ◌≤◌, Bool, List, [], ◌∷◌, length, refl, subst, arith}
use Rattle.bq_query_graph.specs.Paths.{Pair, IsPath}
use Rattle.bq_query_graph.specs.Marks.{Marked}
use Rattle.bq_query_graph.specs.Laws.{DepsIsLeast, DepsGrows, RdepsIsMeet, PathsAreMeet}
use Rattle.bq_query_graph.proofs.Walks.{along, ends_weaker}
use Rattle.bq_query_graph.proofs.Between.{deps_next, stays}
use Rattle.bq_query_graph.proofs.Shortest.{simple, simple_few}

pub least : (g : List (List ℕ)) (x : List Bool) → DepsIsLeast g x
least g x =
    record {
      holds = λ y m. record { from = y; starts = m; through = []; path = refl };
      closed = λ a b d p. deps_next g (Marked x) a b d p;
      least = λ ms into next y d. along (Pair g) (Marked ms) next d.from d.through y d.path (into d.from d.starts);
    }

no_edge : (g : List (List ℕ)) (x : List Bool) (y from : ℕ) (us : List ℕ) → length us ≤ 0 → IsPath (Pair g) from us y → Marked x from → Marked x y
no_edge g x y from [] l p m = subst (Marked x) p m
no_edge g x y from (u ∷ us) l p m = absurd (omega (arith, l))

pub grown : (g : List (List ℕ)) (x : List Bool) → DepsGrows g x
grown g x =
    record {
      none = λ y. (λ d. no_edge g x y d.0.from d.0.through d.1 d.0.path d.0.starts, λ m. (record { from = y; starts = m; through = []; path = refl }, omega arith));
      grows = λ n m y l d. ends_weaker (Pair g) (Marked x) n m y l d;
      all = λ below y. (
        λ d. d.0,
        λ d. let s = simple (Pair g) (length g) below d.from d.through y d.path in
            (record { from = d.from; starts = d.starts; through = s.through; path = s.path }, simple_few (Pair g) (length g) d.from y s),
      );
    }

pub meet : (g : List (List ℕ)) (u x : List Bool) → RdepsIsMeet g u x
meet g u x =
    record {
      all = λ y. (
        λ r. (r.inside.0, record { to = r.to; ends = r.ends; through = r.through; path = r.path }),
        λ r. record { to = r.1.to; ends = r.1.ends; through = r.1.through; path = r.1.path; inside = stays g (Marked u) y r.1.through r.1.to r.0 r.1.path },
      );
      within = λ n y. (
        λ r. (r.0.inside.0, record { to = r.0.to; ends = r.0.ends; through = r.0.through; path = r.0.path; few = r.1 }),
        λ r. (record { to = r.1.to; ends = r.1.ends; through = r.1.through; path = r.1.path; inside = stays g (Marked u) y r.1.through r.1.to r.0 r.1.path }, r.1.few),
      );
    }

pub paths_meet : (g : List (List ℕ)) (a b : List Bool) → PathsAreMeet g a b
paths_meet g a b y = (
  λ r. (r.reached, record { to = r.to; ends = r.ends; through = r.through; path = r.path }),
  λ r. record { reached = r.0; to = r.1.to; ends = r.1.ends; through = r.1.through; path = r.1.path },
)
