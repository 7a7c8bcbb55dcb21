-- What a file resolves to, or its first fault.
use Rattle.std.specs.Prelude.{ℕ, List, [], false, Result, Ok, Err}
use Rattle.bq_base.specs.declared.fault.NameFault.{NameFault}
use Rattle.bq_base.specs.declared.fault.Fault.{Fault}
use Rattle.bq_parse_grammar.specs.declared.tree.Branch.{Branch}
use Rattle.bq_parse_grammar.specs.declared.tree.Identifier.{Identifier}
use Rattle.bq_parse_grammar.specs.declared.tree.Parameter.{Parameter}
use Rattle.bq_parse_grammar.specs.declared.tree.Stmt.{Stmt, out-Stmt}
use Rattle.bq_parse_grammar.specs.declared.tree.Stmt.TheOpen.{Stmt-F}
use Rattle.bq_parse_grammar.specs.declared.tree.TopLevel.{TopLevel}
use Rattle.bq_resolve_scope.specs.declared.file.FileLine.{FileLine}
use Rattle.bq_resolve_scope.specs.declared.file.Outside.{Outside}
use Rattle.bq_resolve_scope.specs.declared.file.Outside.TheVariants as s
use Rattle.bq_resolve_scope.specs.declared.file.ResolvedFile.{ResolvedFile}
use Rattle.bq_resolve_scope.specs.Universe.{UniverseParts}
use Rattle.bq_resolve_scope.specs.Names.{function_names, global_names, loaded_names}
use Rattle.bq_resolve_scope.specs.Scope.{FileParts}
use Rattle.bq_resolve_scope.specs.Visit.{Passed, Visit, ◌>>=◌, pure, each, nothing_passed}
use Rattle.bq_resolve_scope.specs.Expressions.{bound_at}
use Rattle.bq_resolve_scope.specs.Statements.{misplaced, small_stmt, no_parameters, parameters, function}

-- all names of a file, wherever in it they are bound: they shadow those that every file has in all of it
unfoldable pub file_names : UniverseParts → List TopLevel → FileParts
file_names universe ts = record { universe = universe; globals = global_names ts; loaded = loaded_names ts }

module _ (file : FileParts) where
  -- the name of a function is bound before its parameters are looked at
  unfoldable pub def_stmt : Identifier → List Parameter → List Stmt → Visit Outside
  def_stmt n ps body =
      bound_at file [] n >>= λ m. parameters file no_parameters ps
      >>= λ l. function file n.name l.parameters (function_names ps body) body >>= λ k. pure (s.Def (record { name = m; function = k; defaults = l.defaults }))

  -- `if` and `for` stand in functions
  abbrev pub file_stmt : ℕ → Stmt-F Stmt Branch → Visit Outside
  file_stmt line (Stmt-F.Simple xs) = each (small_stmt file [] false) [] xs >>= λ ys. pure (s.Simple ys)
  file_stmt line (Stmt-F.If bs zs) = misplaced line
  file_stmt line (Stmt-F.For t x body) = misplaced line
  file_stmt line (Stmt-F.Def n ps body) = def_stmt n ps body

  -- a statement at the top level
  unfoldable pub top_level : TopLevel → Visit FileLine
  top_level t = file_stmt t.line (out-Stmt t.statement) >>= λ x. pure (record { line = t.line; statement = x })

-- what a walk over a file gives
abbrev pub resolved_by : FileParts → Result (List FileLine × Passed) (Fault NameFault) → Result ResolvedFile (Fault NameFault)
resolved_by file (Err why) = Err why
resolved_by file (Ok r) = Ok (record { statements = r.0; functions = r.1.functions; globals = file.globals; loads = r.1.loads })

-- a file, resolved among its names
abbrev pub resolved_in : FileParts → List TopLevel → Result ResolvedFile (Fault NameFault)
resolved_in file ts = resolved_by file (each (top_level file) [] ts nothing_passed)

-- a file, resolved in a universe of predeclared names
unfoldable pub resolved : UniverseParts → List TopLevel → Result ResolvedFile (Fault NameFault)
resolved universe ts = resolved_in (file_names universe ts) ts
