-- The parts of a file as it is parsed: its functions, its lines, and what its loads bind. Its names refer to nothing yet.
use Rattle.std.specs.Prelude.{ℕ, ◌+◌, List, [], ◌∷◌, ◌++◌, length, map}
use Rattle.bq_parse_grammar.specs.declared.tree.Expr.{Expr}
use Rattle.bq_parse_grammar.specs.declared.tree.LoadClause.{LoadClause}
use Rattle.bq_parse_grammar.specs.declared.tree.Parameter.{Parameter}
use Rattle.bq_parse_grammar.specs.declared.tree.Parameter.TheVariants as parameter
use Rattle.bq_parse_grammar.specs.declared.tree.SmallKind.{SmallKind}
use Rattle.bq_parse_grammar.specs.declared.tree.SmallKind.TheVariants as small
use Rattle.bq_parse_grammar.specs.declared.tree.SmallStmt.{SmallStmt}
use Rattle.bq_parse_grammar.specs.declared.tree.Stmt.{out-Stmt}
use Rattle.bq_parse_grammar.specs.declared.tree.Stmt.TheOpen.{Stmt-F}
use Rattle.bq_parse_grammar.specs.declared.tree.TopLevel.{TopLevel}
use Rattle.bq_resolve_scope.specs.declared.file.FileLine.{FileLine}
use Rattle.bq_resolve_scope.specs.declared.file.Formal.{Formal}
use Rattle.bq_resolve_scope.specs.declared.file.Formal.TheVariants as formal
use Rattle.bq_resolve_scope.specs.declared.file.Function.{Function}
use Rattle.bq_resolve_scope.specs.declared.file.Outside.{Outside}
use Rattle.bq_resolve_scope.specs.declared.file.Outside.TheVariants as outside
use Rattle.bq_eval_spec.specs.Trees.{StmtLayer}

-- ---- functions

-- a parameter, apart from its default
abbrev pub formal_of : Parameter → Formal
formal_of (parameter.Plain n) = formal.Plain n
formal_of (parameter.Default n x) = formal.Default n
formal_of parameter.BareStar = formal.BareStar
formal_of (parameter.Star n) = formal.Star n
formal_of (parameter.StarStar n) = formal.StarStar n

-- the defaults of those parameters that have one
abbrev pub defaults_of : List Parameter → List Expr
defaults_of [] = []
defaults_of (parameter.Default n x ∷ ps) = x ∷ defaults_of ps
defaults_of (_ ∷ ps) = defaults_of ps

-- the function that a statement defines, if it defines one; by names there are no slots
abbrev pub functions_by : StmtLayer → List Function
functions_by (Stmt-F.Def n ps body) = record { name = n.name; parameters = map formal_of ps; slots = 0; body = body } ∷ []
functions_by _ = []

-- the functions of a file, in the order of their `def`s
abbrev pub functions_of : List TopLevel → List Function
functions_of [] = []
functions_of (t ∷ ts) = functions_by (out-Stmt t.statement) ++ functions_of ts

-- ---- lines

-- What stands on a line, where this many functions are before it. `if` and `for` may not occur there: a file that has one is F23,
-- and isn't evaluated.
abbrev pub outside_by : ℕ → StmtLayer → Outside
outside_by place (Stmt-F.Simple xs) = outside.Simple xs
outside_by place (Stmt-F.If bs otherwise) = outside.Simple []
outside_by place (Stmt-F.For t x body) = outside.Simple []
outside_by place (Stmt-F.Def n ps body) = outside.Def (record { name = n; function = place; defaults = defaults_of ps })

-- the lines of these statements, where this many functions are before them
abbrev pub lines_from : ℕ → List TopLevel → List FileLine
lines_from place [] = []
lines_from place (t ∷ ts) =
    record { line = t.line; statement = outside_by place (out-Stmt t.statement) } ∷ lines_from (place + length (functions_by (out-Stmt t.statement))) ts

-- ---- loads

-- what a small statement binds by loading
abbrev pub clauses_by : SmallKind → List LoadClause
clauses_by (small.Load l) = l.clauses
clauses_by _ = []

-- what the small statements of a line bind by loading
abbrev pub line_clauses : List SmallStmt → List LoadClause
line_clauses [] = []
line_clauses (x ∷ xs) = clauses_by x.kind ++ line_clauses xs

-- what a statement binds by loading
abbrev pub clauses_of : StmtLayer → List LoadClause
clauses_of (Stmt-F.Simple xs) = line_clauses xs
clauses_of _ = []

-- the clauses of a file's loads, in order
abbrev pub load_clauses : List TopLevel → List LoadClause
load_clauses [] = []
load_clauses (t ∷ ts) = clauses_of (out-Stmt t.statement) ++ load_clauses ts
