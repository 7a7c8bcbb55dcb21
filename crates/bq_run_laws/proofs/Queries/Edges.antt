-- Paths are edges one after another.
use Rattle.std.proofs.Common.{◌≡◌, ◌↔◌, ℕ, zero, suc, ◌≤◌, List, [], ◌∷◌, ◌++◌, length, refl, sym, ap, subst}
use Rattle.std.specs.List.{AllByRecursion}
use Rattle.bq_query_graph.specs.Paths.{Pair, IsPath, Deps, DepsWithin, Rdeps, RdepsWithin, OnPaths}
use Rattle.bq_package_target.specs.Package.{PackageTargets}
use Rattle.bq_query_target_graph.specs.Edges.{IsGraphOf}
use Rattle.bq_query_target_graph.specs.Graph.{GraphParts}
use Rattle.bq_package_target.proofs.Writing.{only_written, all_written}
use Rattle.bq_query.specs.Stands.{Stands}
use Rattle.bq_run_laws.specs.Queries.Edges.{IsEdge, EdgesLead, IsReached, LeadsInto, FunctionsByEdges}

-- ---- paths in a graph

-- one edge more at the end
path_more : (E : ℕ → ℕ → Type 0) (x : ℕ) (us : List ℕ) (y z : ℕ) → IsPath E x us y → E y z → IsPath E x (us ++ z ∷ []) z
path_more E x [] y z p e = (subst (λ (v : ℕ). E v z) (sym p) e, refl)
path_more E x (u ∷ us) y z p e = (p.0, path_more E u us y z p.1 e)

-- what follows a dependency is one
deps_more : (g : List (List ℕ)) (U : ℕ → Type 0) (y z : ℕ) → Deps g U y → Pair g y z → Deps g U z
deps_more g U y z d e = record { from = d.from; starts = d.starts; through = d.through ++ z ∷ []; path = path_more (Pair g) d.from d.through y z d.path e }

-- so is all of a path from one
all_inside : (g : List (List ℕ)) (U : ℕ → Type 0) (y : ℕ) (us : List ℕ) (z : ℕ) → Deps g U y → IsPath (Pair g) y us z → AllByRecursion (Deps g U) (y ∷ us)
all_inside g U y [] z d p = (d, tt)
all_inside g U y (u ∷ us) z d p = (d, all_inside g U u us z (deps_more g U y u d p.0) p.1)

-- ---- over the graph of packages

module _ (ps : List PackageTargets) (g : GraphParts) (made : IsGraphOf ps g) where
  edge : (a b : ℕ) → Pair g.edges a b → IsEdge g.targets a b
  edge a b p =
      let d = (made.pairs a b).0 p in
      record { source = d.source; from = d.from; target = d.target; to = d.to; depends = only_written d.source d.target.label d.named }

  pair : (a b : ℕ) → IsEdge g.targets a b → Pair g.edges a b
  pair a b e = (made.pairs a b).1 (record { source = e.source; from = e.from; target = e.target; to = e.to; named = all_written e.source e.target.label e.depends })

  leads : (x : ℕ) (us : List ℕ) (z : ℕ) → IsPath (Pair g.edges) x us z → EdgesLead g.targets (length us) x z
  leads x [] z p = p
  leads x (u ∷ us) z p = (u, edge x u p.0, leads u us z p.1)

  -- a path of `n` edges
  record Path (n x z : ℕ) : Type 0 where
    through : List ℕ
    long : length through ≡ n
    path : IsPath (Pair g.edges) x through z

  path_of : (n x z : ℕ) → EdgesLead g.targets n x z → Path n x z
  path_of zero x z h = record { through = []; long = refl; path = h }
  path_of (suc n) x z h = let p = path_of n h.0 z h.2 in record { through = h.0 ∷ p.through; long = ap suc p.long; path = (pair x h.0 h.1, p.path) }

  module _ (X : ℕ → Type 0) (y : ℕ) where
    reached : Deps g.edges X y ↔ ((k : ℕ) × IsReached g.targets k X y)
    reached = (
      λ e. (length e.through, record { from = e.from; starts = e.starts; lead = leads e.from e.through y e.path }),
      λ h. let p = path_of h.0 h.1.from y h.1.lead in record { from = h.1.from; starts = h.1.starts; through = p.through; path = p.path },
    )

    reached_within : (n : ℕ) → DepsWithin g.edges X n y ↔ ((k : ℕ) × (k ≤ n) × IsReached g.targets k X y)
    reached_within n = (
      λ (e, few). (length e.through, few, record { from = e.from; starts = e.starts; lead = leads e.from e.through y e.path }),
      λ h. let p = path_of h.0 h.2.from y h.2.lead in
          (record { from = h.2.from; starts = h.2.starts; through = p.through; path = p.path }, subst (λ (k : ℕ). k ≤ n) (sym p.long) h.1),
    )

  module _ (U X : ℕ → Type 0) (y : ℕ) where
    leads_into : Rdeps g.edges U X y ↔ (Deps g.edges U y × ((k : ℕ) × LeadsInto g.targets k X y))
    leads_into = (
      λ e. (e.inside.0, (length e.through, record { to = e.to; ends = e.ends; lead = leads y e.through e.to e.path })),
      λ h. let i = h.1.1 in let p = path_of h.1.0 y i.to i.lead in record {
        to = i.to;
        ends = i.ends;
        through = p.through;
        path = p.path;
        inside = all_inside g.edges U y p.through i.to h.0 p.path;
      },
    )

    leads_into_within : (n : ℕ) → RdepsWithin g.edges U X n y ↔ (Deps g.edges U y × ((k : ℕ) × (k ≤ n) × LeadsInto g.targets k X y))
    leads_into_within n = (
      λ (e, few). (e.inside.0, (length e.through, few, record { to = e.to; ends = e.ends; lead = leads y e.through e.to e.path })),
      λ h. let i = h.1.2 in let p = path_of h.1.0 y i.to i.lead in (
        record { to = i.to; ends = i.ends; through = p.through; path = p.path; inside = all_inside g.edges U y p.through i.to h.0 p.path },
        subst (λ (k : ℕ). k ≤ n) (sym p.long) h.1.1,
      ),
    )

    on_paths : OnPaths g.edges U X y ↔ (Deps g.edges U y × ((k : ℕ) × LeadsInto g.targets k X y))
    on_paths = (
      λ e. (e.reached, (length e.through, record { to = e.to; ends = e.ends; lead = leads y e.through e.to e.path })),
      λ h. let i = h.1.1 in let p = path_of h.1.0 y i.to i.lead in record { reached = h.0; to = i.to; ends = i.ends; through = p.through; path = p.path },
    )

pub by_edges : FunctionsByEdges
by_edges ps w a b n bound y made = record {
  deps = reached ps w made (Stands w a bound) y;
  deps_within = reached_within ps w made (Stands w a bound) y n;
  rdeps = leads_into ps w made (Stands w a bound) (Stands w b bound) y;
  rdeps_within = leads_into_within ps w made (Stands w a bound) (Stands w b bound) y n;
  allpaths = on_paths ps w made (Stands w a bound) (Stands w b bound) y;
}
