-- What a file resolves to has the loads of the file, in their order, and its globals.
use Rattle.std.proofs.Common.{◌≡◌, ℕ, ◌+◌, List, [], ◌∷◌, ◌++◌, map, length, refl, ap, ◌∙◌}
use Rattle.bq_parse_grammar.specs.declared.tree.Branch.{Branch}
use Rattle.bq_parse_grammar.specs.declared.tree.Load.{Load}
use Rattle.bq_parse_grammar.specs.declared.tree.LoadClause.{LoadClause}
use Rattle.bq_parse_grammar.specs.declared.tree.SmallKind.{SmallKind}
use Rattle.bq_parse_grammar.specs.declared.tree.SmallKind.TheVariants as small
use Rattle.bq_parse_grammar.specs.declared.tree.SmallStmt.{SmallStmt}
use Rattle.bq_parse_grammar.specs.declared.tree.Stmt.{Stmt, out-Stmt}
use Rattle.bq_parse_grammar.specs.declared.tree.Stmt.TheOpen.{Stmt-F}
use Rattle.bq_parse_grammar.specs.declared.tree.TopLevel.{TopLevel}
use Rattle.bq_resolve_scope.specs.declared.file.Function.{Function}
use Rattle.bq_resolve_scope.specs.declared.file.FileLine.{FileLine}
use Rattle.bq_resolve_scope.specs.declared.file.Outside.{Outside}
use Rattle.bq_resolve_scope.specs.declared.loads.LoadStmt.{LoadStmt}
use Rattle.bq_resolve_scope.specs.declared.loads.LoadedSymbol.{LoadedSymbol}
use Rattle.bq_resolve_scope.specs.Files.{file_names}
use Rattle.bq_resolve_scope.specs.Names.{Name}
use Rattle.bq_resolve_scope.specs.Scope.{FileParts}
use Rattle.bq_resolve_laws.specs.Resolution.{InOrder, InTurn, SymbolIs, LoadIs, loads_are, OuterIs, file_stmt_is, TopLevelIs}
use Rattle.bq_resolve_laws.proofs.ResolvedFiles.{to_themselves}
use Rattle.bq_resolve_laws.specs.NameLaws.{LoadsAreKept, GlobalsAreKept}
use Rattle.bq_resolve_laws.specs.Loads.{WrittenLoad, written_load, loads_by, file_loads}
use Rattle.bq_resolve_laws.proofs.Cases.{line_loads, stmt_loads}

-- loads as they are written
abbrev lines : List LoadStmt → List WrittenLoad
lines ls = map written_load ls

none_same : (ls : List LoadStmt) → ls ≡ [] → lines ls ≡ []
none_same ls e = ap lines e

lines_both : (ls ms : List LoadStmt) → lines (ls ++ ms) ≡ lines ls ++ lines ms
lines_both [] ms = refl
lines_both (l ∷ ls) ms = ap (λ xs. written_load l ∷ xs) (lines_both ls ms)

joined : (ls ms all : List LoadStmt) (xs ys : List WrittenLoad) → lines ls ≡ xs → lines ms ≡ ys → all ≡ ls ++ ms → lines all ≡ xs ++ ys
joined ls ms all xs ys h k e = ap lines e ∙ lines_both ls ms ∙ ap (λ zs. zs ++ lines ms) h ∙ ap (λ zs. xs ++ zs) k

module _ (file : FileParts) where
  symbols_same : (cs : List LoadClause) (xs : List LoadedSymbol) → InOrder (SymbolIs file) cs xs → map (λ x. x.symbol) xs ≡ map (λ c. c.symbol) cs
  symbols_same [] [] h = refl
  symbols_same (c ∷ cs) (x ∷ xs) h = ap (λ n. n ∷ map (λ y. y.symbol) xs) (ap (λ z. z.symbol) h.0) ∙ ap (λ ns. c.symbol ∷ ns) (symbols_same cs xs h.1)
  symbols_same [] (x ∷ xs) h = absurd h
  symbols_same (c ∷ cs) [] h = absurd h

  -- a load with these symbols
  abbrev load_with : ℕ → List ℕ → List Name → WrittenLoad
  load_with line label names = record { line = line; label = label; symbols = names }

  load_same : (line : ℕ) (l : Load) (z : LoadStmt) → LoadIs file line l z → written_load z ≡ load_with line l.label (map (λ c. c.symbol) l.clauses)
  unfolding LoadIs
  load_same line l z h = ap written_load h.2 ∙ ap (load_with line l.label) (symbols_same l.clauses h.0 h.1)

  kind_same : (line : ℕ) (k : SmallKind) (ls : List LoadStmt) → loads_are file line k ls → lines ls ≡ loads_by line k
  kind_same line (small.Load l) ls h = ap lines h.2 ∙ ap (λ x. x ∷ []) (load_same line l h.0 h.1)
  kind_same line (small.Expr x) ls h = none_same ls h
  kind_same line (small.Assign t x) ls h = none_same ls h
  kind_same line (small.Augment t o x) ls h = none_same ls h
  kind_same line (small.Return x) ls h = none_same ls h
  kind_same line small.Break ls h = none_same ls h
  kind_same line small.Continue ls h = none_same ls h
  kind_same line small.Pass ls h = none_same ls h

  line_same : (k : ℕ) (xs : List SmallStmt) (ys : List SmallStmt) (fs : List Function) (ls : List LoadStmt) → InTurn (OuterIs file) k xs ys fs ls → lines ls ≡ line_loads xs
  unfolding OuterIs
  line_same k [] ys fs ls h = none_same ls h.2
  line_same k (x ∷ xs) ys fs ls h =
      joined h.4 h.5 ls (loads_by x.line x.kind) (line_loads xs) (kind_same x.line x.kind h.4 h.6.2) (line_same (k + length h.2) xs h.1 h.3 h.5 h.7) h.10

  stmt_same : (k : ℕ) (o : Stmt-F Stmt Branch) (z : Outside) (fs : List Function) (ls : List LoadStmt) → file_stmt_is file k o z fs ls → lines ls ≡ stmt_loads o
  stmt_same k (Stmt-F.Simple xs) z fs ls h = line_same k xs h.0 fs ls h.1
  stmt_same k (Stmt-F.If bs zs) z fs ls h = absurd h
  stmt_same k (Stmt-F.For t x body) z fs ls h = absurd h
  stmt_same k (Stmt-F.Def n ps body) z fs ls h = none_same ls h.8

  all_same : (k : ℕ) (ts : List TopLevel) (ys : List FileLine) (fs : List Function) (ls : List LoadStmt) → InTurn (TopLevelIs file) k ts ys fs ls → lines ls ≡ file_loads ts
  unfolding TopLevelIs file_loads
  all_same k [] ys fs ls h = none_same ls h.2
  all_same k (t ∷ ts) ys fs ls h =
      joined h.4 h.5 ls (stmt_loads (out-Stmt t.statement)) (file_loads ts) (stmt_same k (out-Stmt t.statement) h.6.0 h.2 h.4 h.6.1) (all_same (k + length h.2) ts h.1 h.3 h.5 h.7) h.10

pub loads_kept : LoadsAreKept
loads_kept file resolved_file is =
    all_same (file_names file.universe file.statements) 0 file.statements resolved_file.statements resolved_file.functions resolved_file.loads (to_themselves file.universe file.statements resolved_file is.names).0

pub globals_kept : GlobalsAreKept
globals_kept file resolved_file is = (to_themselves file.universe file.statements resolved_file is.names).1
