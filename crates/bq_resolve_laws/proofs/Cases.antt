-- Parts of definitions, as words that proofs name.
use Rattle.std.specs.Prelude.{List, []}
use Rattle.std.specs.List.{flat_map}
use Rattle.bq_parse_grammar.specs.declared.tree.Branch.{Branch}
use Rattle.bq_parse_grammar.specs.declared.tree.SmallStmt.{SmallStmt}
use Rattle.bq_parse_grammar.specs.declared.tree.Stmt.{Stmt}
use Rattle.bq_parse_grammar.specs.declared.tree.Stmt.TheOpen.{Stmt-F}
use Rattle.bq_resolve_laws.specs.Loads.{WrittenLoad, loads_by}
use Rattle.bq_resolve_scope.specs.Names.{with_name, with_each, with_small, with_load}
use Rattle.bq_resolve_laws.specs.Violations.{Before}

-- what the small statements of a line load
abbrev pub line_loads : List SmallStmt → List WrittenLoad
line_loads xs = flat_map (λ x. loads_by x.line x.kind) xs

-- what a statement loads
abbrev pub stmt_loads : Stmt-F Stmt Branch → List WrittenLoad
stmt_loads o = elim o [ Stmt-F.Simple xs ↦ line_loads xs | _ ↦ [] ]

-- the names bound and loaded so far, behind a statement of this form
abbrev pub after_by : Before → Stmt-F Stmt Branch → Before
after_by before o = elim o [
  | Stmt-F.Simple xs ↦ record { bound = with_each with_small before.bound xs; loaded = with_each with_load before.loaded xs }
  | Stmt-F.Def n ps body ↦ record before { bound = with_name before.bound n.name }
  | _ ↦ before
]
