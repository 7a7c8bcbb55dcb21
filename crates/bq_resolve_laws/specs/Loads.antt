-- The loads of a file as they are written: where each is, the text of its label, and which symbols of the other file it names.
use Rattle.std.specs.Prelude.{ℕ, List, [], ◌∷◌, map}
use Rattle.std.specs.List.{flat_map}
use Rattle.bq_parse_grammar.specs.declared.tree.SmallKind.{SmallKind}
use Rattle.bq_parse_grammar.specs.declared.tree.SmallKind.TheVariants as small
use Rattle.bq_parse_grammar.specs.declared.tree.Stmt.{out-Stmt}
use Rattle.bq_parse_grammar.specs.declared.tree.Stmt.TheOpen.{Stmt-F}
use Rattle.bq_parse_grammar.specs.declared.tree.TopLevel.{TopLevel}
use Rattle.bq_resolve_scope.specs.declared.loads.LoadStmt.{LoadStmt}
use Rattle.bq_resolve_scope.specs.Names.{Name}

-- the line of a load, the text of its label, and the symbols that its clauses name
pub record WrittenLoad : Type 0 where
  pub line : ℕ
  pub label : List ℕ
  pub symbols : List Name

-- what a small statement loads, if it is a load
abbrev pub loads_by : ℕ → SmallKind → List WrittenLoad
loads_by line (small.Load l) = record { line = line; label = l.label; symbols = map (λ c. c.symbol) l.clauses } ∷ []
loads_by line _ = []

-- the loads of a file, in the order in which they are written; they stand at its top level alone
unfoldable pub file_loads : List TopLevel → List WrittenLoad
file_loads ts = flat_map (λ t. elim (out-Stmt t.statement) [ Stmt-F.Simple xs ↦ flat_map (λ x. loads_by x.line x.kind) xs | _ ↦ [] ]) ts

-- the same of a resolved load
abbrev pub written_load : LoadStmt → WrittenLoad
written_load l = record { line = l.line; label = l.label; symbols = map (λ c. c.symbol) l.clauses }
