-- The clauses of a file's loads go to the places of their names among the file's globals.
use Rattle.std.proofs.Common.{◌≡◌, ℕ, ◌+◌, List, [], ◌∷◌, ◌++◌, length, Option, refl, sym, ap, ◌∙◌, subst}
use Rattle.bq_parse_grammar.specs.declared.tree.Branch.{Branch}
use Rattle.bq_parse_grammar.specs.declared.tree.Load.{Load}
use Rattle.bq_parse_grammar.specs.declared.tree.LoadClause.{LoadClause}
use Rattle.bq_parse_grammar.specs.declared.tree.SmallKind.{SmallKind}
use Rattle.bq_parse_grammar.specs.declared.tree.SmallKind.TheVariants as small
use Rattle.bq_parse_grammar.specs.declared.tree.SmallStmt.{SmallStmt}
use Rattle.bq_parse_grammar.specs.declared.tree.Stmt.{Stmt, out-Stmt}
use Rattle.bq_parse_grammar.specs.declared.tree.Stmt.TheOpen.{Stmt-F}
use Rattle.bq_parse_grammar.specs.declared.tree.TopLevel.{TopLevel}
use Rattle.bq_resolve_scope.specs.declared.file.Function.{Function}
use Rattle.bq_resolve_scope.specs.declared.file.FileLine.{FileLine}
use Rattle.bq_resolve_scope.specs.declared.file.Outside.{Outside}
use Rattle.bq_resolve_scope.specs.declared.loads.LoadStmt.{LoadStmt}
use Rattle.bq_resolve_scope.specs.declared.loads.LoadedSymbol.{LoadedSymbol}
use Rattle.bq_resolve_scope.specs.Scope.{FileParts}
use Rattle.bq_resolve_laws.specs.Resolution.{InOrder, InTurn, SymbolIs, LoadIs, loads_are, OuterIs, file_stmt_is, TopLevelIs}
use Rattle.bq_resolve_laws.proofs.Makes.{append_none, append_all}
use Rattle.bq_eval_spec.specs.Files.{clauses_by, line_clauses, clauses_of, load_clauses}
use Rattle.bq_eval_by_name.proofs.Loads.{Sent, global_places, all_places}

module _ (file : FileParts) where
  sent_both : (cs ds : List LoadClause) (os ps : List (Option ℕ)) → Sent file.globals cs os → Sent file.globals ds ps → Sent file.globals (cs ++ ds) (os ++ ps)
  sent_both [] ds [] ps h k = k
  sent_both (c ∷ cs) ds (o ∷ os) ps h k = (h.0, sent_both cs ds os ps h.1 k)
  sent_both [] ds (o ∷ os) ps h k = absurd h
  sent_both (c ∷ cs) ds [] ps h k = absurd h

  places_both : (ls ms : List LoadStmt) → all_places file.globals (ls ++ ms) ≡ all_places file.globals ls ++ all_places file.globals ms
  places_both [] ms = refl
  places_both (l ∷ ls) ms =
      ap (λ os. global_places file.globals l.clauses ++ os) (places_both ls ms) ∙ sym (append_all (global_places file.globals l.clauses) (all_places file.globals ls) (all_places file.globals ms))

  symbols_sent : (cs : List LoadClause) (xs : List LoadedSymbol) → InOrder (SymbolIs file) cs xs → Sent file.globals cs (global_places file.globals xs)
  symbols_sent [] [] h = tt
  symbols_sent (c ∷ cs) (x ∷ xs) h = (ap (λ z. z.global) h.0, symbols_sent cs xs h.1)
  symbols_sent [] (x ∷ xs) h = absurd h
  symbols_sent (c ∷ cs) [] h = absurd h

  load_sent : (line : ℕ) (l : Load) (z : LoadStmt) → LoadIs file line l z → Sent file.globals l.clauses (all_places file.globals (z ∷ []))
  unfolding LoadIs
  load_sent line l z h =
      subst (λ w. Sent file.globals l.clauses (all_places file.globals (w ∷ []))) (sym h.2)
      (subst (λ os. Sent file.globals l.clauses os) (append_none (global_places file.globals h.0)) (symbols_sent l.clauses h.0 h.1))

  -- no load, no place
  none_sent : (ls : List LoadStmt) → ls ≡ [] → Sent file.globals [] (all_places file.globals ls)
  none_sent ls e = subst (λ ms. Sent file.globals [] (all_places file.globals ms)) (sym e) tt

  kind_sent : (line : ℕ) (k : SmallKind) (ls : List LoadStmt) → loads_are file line k ls → Sent file.globals (clauses_by k) (all_places file.globals ls)
  kind_sent line (small.Load l) ls h = subst (λ ms. Sent file.globals l.clauses (all_places file.globals ms)) (sym h.2) (load_sent line l h.0 h.1)
  kind_sent line (small.Expr x) ls h = none_sent ls h
  kind_sent line (small.Assign t x) ls h = none_sent ls h
  kind_sent line (small.Augment t o x) ls h = none_sent ls h
  kind_sent line (small.Return x) ls h = none_sent ls h
  kind_sent line small.Break ls h = none_sent ls h
  kind_sent line small.Continue ls h = none_sent ls h
  kind_sent line small.Pass ls h = none_sent ls h

  joined : (cs ds : List LoadClause) (ls ms all : List LoadStmt) → Sent file.globals cs (all_places file.globals ls) → Sent file.globals ds (all_places file.globals ms) → all ≡ ls ++ ms
      → Sent file.globals (cs ++ ds) (all_places file.globals all)
  joined cs ds ls ms all h k e =
      subst (λ ns. Sent file.globals (cs ++ ds) (all_places file.globals ns)) (sym e)
      (subst (λ os. Sent file.globals (cs ++ ds) os) (sym (places_both ls ms)) (sent_both cs ds (all_places file.globals ls) (all_places file.globals ms) h k))

  line_sent : (k : ℕ) (xs : List SmallStmt) (ys : List SmallStmt) (fs : List Function) (ls : List LoadStmt) → InTurn (OuterIs file) k xs ys fs ls → Sent file.globals (line_clauses xs) (all_places file.globals ls)
  unfolding OuterIs
  line_sent k [] ys fs ls h = none_sent ls h.2
  line_sent k (x ∷ xs) ys fs ls h =
      joined (clauses_by x.kind) (line_clauses xs) h.4 h.5 ls (kind_sent x.line x.kind h.4 h.6.2) (line_sent (k + length h.2) xs h.1 h.3 h.5 h.7) h.10

  stmt_sent : (k : ℕ) (o : Stmt-F Stmt Branch) (z : Outside) (fs : List Function) (ls : List LoadStmt) → file_stmt_is file k o z fs ls → Sent file.globals (clauses_of o) (all_places file.globals ls)
  stmt_sent k (Stmt-F.Simple xs) z fs ls h = line_sent k xs h.0 fs ls h.1
  stmt_sent k (Stmt-F.If bs zs) z fs ls h = absurd h
  stmt_sent k (Stmt-F.For t x body) z fs ls h = absurd h
  stmt_sent k (Stmt-F.Def n ps body) z fs ls h = none_sent ls h.8

  pub all_sent : (k : ℕ) (ts : List TopLevel) (ys : List FileLine) (fs : List Function) (ls : List LoadStmt) → InTurn (TopLevelIs file) k ts ys fs ls
      → Sent file.globals (load_clauses ts) (all_places file.globals ls)
  unfolding TopLevelIs
  all_sent k [] ys fs ls h = none_sent ls h.2
  all_sent k (t ∷ ts) ys fs ls h =
      joined (clauses_of (out-Stmt t.statement)) (load_clauses ts) h.4 h.5 ls (stmt_sent k (out-Stmt t.statement) h.6.0 h.2 h.4 h.6.1) (all_sent (k + length h.2) ts h.1 h.3 h.5 h.7) h.10
