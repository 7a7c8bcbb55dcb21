-- What a file resolves to has lines, and so has its fault.
use Rattle.std.proofs.Common.{◌≡◌, ◌≢◌, ℕ, ◌+◌, ◌≤◌, List, [], ◌∷◌, length, Some, Ok, Err, inl, inr, refl, sym, subst}
use Rattle.std.specs.List.{AllByRecursion}
use Rattle.bq_base.specs.declared.fault.NameFault.{NameFault}
use Rattle.bq_base.specs.declared.fault.Fault.{Fault}
use Rattle.bq_base.specs.declared.fault.NameFault.TheVariants as f
use Rattle.bq_parse_grammar.specs.Lexeme.{Lexeme}
use Rattle.bq_parse_grammar.specs.Parses.{Parses}
use Rattle.bq_parse_grammar.specs.Pieces.{pieces}
use Rattle.bq_parse_grammar.specs.declared.tree.Branch.{Branch}
use Rattle.bq_parse_grammar.specs.declared.tree.FileKind.{FileKind}
use Rattle.bq_parse_grammar.specs.declared.tree.SmallKind.{SmallKind}
use Rattle.bq_parse_grammar.specs.declared.tree.SmallKind.TheVariants as small
use Rattle.bq_parse_grammar.specs.declared.tree.SmallStmt.{SmallStmt}
use Rattle.bq_parse_grammar.specs.declared.tree.Stmt.{Stmt, out-Stmt}
use Rattle.bq_parse_grammar.specs.declared.tree.Stmt.TheOpen.{Stmt-F}
use Rattle.bq_parse_grammar.specs.declared.tree.TopLevel.{TopLevel}
use Rattle.bq_parse_laws.specs.Parts as parts
use Rattle.bq_parse_laws.proofs.FileDepths.{file_within}
use Rattle.bq_resolve_scope.specs.declared.file.Function.{Function}
use Rattle.bq_resolve_scope.specs.declared.file.FileLine.{FileLine}
use Rattle.bq_resolve_scope.specs.declared.file.Outside.{Outside}
use Rattle.bq_resolve_scope.specs.declared.loads.LoadStmt.{LoadStmt}
use Rattle.bq_resolve_scope.specs.declared.file.ResolvedFile.{ResolvedFile}
use Rattle.bq_resolve_scope.specs.Files.{file_names, resolved}
use Rattle.bq_resolve_scope.specs.Scope.{FileParts}
use Rattle.bq_resolve_scope.specs.Universe.{UniverseParts}
use Rattle.bq_resolve_laws.specs.Resolution.{InTurn, LoadIs, loads_are, OuterIs, file_stmt_is, TopLevelIs}
use Rattle.bq_resolve_laws.specs.Violations.{Before, first, nothing_before, after, in_top_level, violations}
use Rattle.bq_resolve_laws.proofs.FaultyFiles.{first_violation}
use Rattle.bq_resolve_laws.proofs.ResolvedFiles.{to_themselves}
use Rattle.bq_resolve_laws.proofs.Depths.Files.{none_too_deep}
use Rattle.bq_load_laws.proofs.Tokens.{all_append}
use Rattle.bq_load_laws.proofs.Pieces.{Numbered, IsOf, trees_are}
use Rattle.bq_load_laws.proofs.Names.Fine.{Fine, OnLine, turn_fine}
use Rattle.bq_load_laws.proofs.Names.Parts.{LoadFine, LoadsFine, TopFine}
use Rattle.bq_load_laws.proofs.Names.Written.{written_fine}

-- ---- trees

abbrev pub TreeFine : FileParts → TopLevel → Type 0
TreeFine file t = (1 ≤ t.line) × TopFine file (out-Stmt t.statement)

tree_fine : (file : FileParts) (p : List Lexeme) (t : TopLevel) → IsOf p t → TreeFine file t
tree_fine file p t i = (i.line, (written_fine file (parts.stmt t.statement ∷ []) p i.writes i.stand).0.1)

trees_fine : (file : FileParts) (kind : FileKind) (ts : List Lexeme) (xs : List TopLevel) → Numbered ts → Parses kind ts (Ok xs) → AllByRecursion (TreeFine file) xs
trees_fine file kind ts xs h g = trees_are (TreeFine file) (tree_fine file) kind ts (Ok xs) h g

-- ---- the fault

top_fine : (file : FileParts) (before : Before) (t : TopLevel) → TreeFine file t → Fine (in_top_level file before t)
unfolding in_top_level
top_fine file before t h = h.1.0 before t.line h.0

violations_fine : (universe : UniverseParts) (xs : List TopLevel) → AllByRecursion (TreeFine (file_names universe xs)) xs → Fine (violations universe xs)
unfolding violations
violations_fine universe xs h =
    let file : FileParts = file_names universe xs in turn_fine (TreeFine file) (in_top_level file) after (top_fine file) nothing_before xs h

first_fine : (ws : List (Fault NameFault)) (why : Fault NameFault) → Fine ws → first ws ≡ Some why → OnLine why
first_fine [] why h e = absurd (let no : ⊥ = cc in no)
first_fine (w ∷ ws) why h e = let same : w ≡ why = cc in subst OnLine same h.0

-- it isn't F11
on_a_line : (why : Fault NameFault) → OnLine why → why.kind ≢ f.Nesting → 1 ≤ why.line
on_a_line why (inl h) n = h
on_a_line why (inr e) n = absurd (n e)

pub fault_stands : (universe : UniverseParts) (kind : FileKind) (ts : List Lexeme) (xs : List TopLevel) (why : Fault NameFault) → Numbered ts → Parses kind ts (Ok xs) → resolved universe xs ≡ Err why → 1 ≤ why.line
fault_stands universe kind ts xs why h g e =
    on_a_line why (first_fine (violations universe xs) why (violations_fine universe xs (trees_fine (file_names universe xs) kind ts xs h g)) ((first_violation universe xs why).0 e))
    (none_too_deep universe xs why (file_within kind (pieces ts) xs (Ok xs) refl g) e)

-- ---- loads and statements

abbrev LoadsStand : List LoadStmt → Type 0
LoadsStand ls = AllByRecursion (λ l. 1 ≤ l.line) ls

module _ {A B : Type 0} (R : ℕ → A → B → List Function → List LoadStmt → Type 0) (P : A → Type 0) (Q : B → Type 0)
    (each : (k : ℕ) (x : A) (y : B) (fs : List Function) (ls : List LoadStmt) → P x → R k x y fs ls → Q y × LoadsStand ls) where
  turn_stands : (k : ℕ) (xs : List A) (ys : List B) (fs : List Function) (ls : List LoadStmt) → AllByRecursion P xs → InTurn R k xs ys fs ls → AllByRecursion Q ys × LoadsStand ls
  turn_stands k [] ys fs ls h (e, g, i) = (subst (AllByRecursion Q) (sym e) tt, subst LoadsStand (sym i) tt)
  turn_stands k (x ∷ xs) ys fs ls h (y, zs, gs, hs, l, ms, r, t, e, g, i) =
      let here = each k x y gs l h.0 r in
      let later = turn_stands (k + length gs) xs zs hs ms h.1 t in
      (subst (AllByRecursion Q) (sym e) (here.0, later.0), subst LoadsStand (sym i) (all_append (λ l. 1 ≤ l.line) l ms here.1 later.1))

module _ (file : FileParts) where
  no_loads : (ls : List LoadStmt) → ls ≡ [] → LoadsStand ls
  no_loads ls e = subst LoadsStand (sym e) tt

  loads_stand : (line : ℕ) (x : SmallKind) (ls : List LoadStmt) → LoadFine line x → loads_are file line x ls → LoadsStand ls
  unfolding LoadIs
  loads_stand line (small.Load l) ls h (z, (xs, a, b), e) = subst LoadsStand (sym e) (subst (λ (y : LoadStmt). 1 ≤ y.line) (sym b) h, tt)
  loads_stand line (small.Expr x) ls h e = no_loads ls e
  loads_stand line (small.Assign t x) ls h e = no_loads ls e
  loads_stand line (small.Augment t o x) ls h e = no_loads ls e
  loads_stand line (small.Return x) ls h e = no_loads ls e
  loads_stand line small.Break ls h e = no_loads ls e
  loads_stand line small.Continue ls h e = no_loads ls e
  loads_stand line small.Pass ls h e = no_loads ls e

  outer_stands : (k : ℕ) (x : SmallStmt) (z : SmallStmt) (fs : List Function) (ls : List LoadStmt) → LoadFine x.line x.kind → OuterIs file k x z fs ls → Unit {0} × LoadsStand ls
  unfolding OuterIs
  outer_stands k x z fs ls h r = (tt, loads_stand x.line x.kind ls h r.2)

  stmt_stands : (k : ℕ) (o : Stmt-F Stmt Branch) (z : Outside) (fs : List Function) (ls : List LoadStmt) → LoadsFine o → file_stmt_is file k o z fs ls → LoadsStand ls
  stmt_stands k (Stmt-F.Simple xs) z fs ls h r = (turn_stands (OuterIs file) (λ x. LoadFine x.line x.kind) (λ y. Unit {0}) outer_stands k xs r.0 fs ls h r.1).1
  stmt_stands k (Stmt-F.If bs zs) z fs ls h r = absurd r
  stmt_stands k (Stmt-F.For t x body) z fs ls h r = absurd r
  stmt_stands k (Stmt-F.Def n ps body) z fs ls h (u, ds, g, a, b, d, e, i, j) = no_loads ls j

  top_stands : (k : ℕ) (t : TopLevel) (z : FileLine) (fs : List Function) (ls : List LoadStmt) → TreeFine file t → TopLevelIs file k t z fs ls → (1 ≤ z.line) × LoadsStand ls
  unfolding TopLevelIs
  top_stands k t z fs ls h (x, r, e) = (subst (λ (y : FileLine). 1 ≤ y.line) (sym e) h.0, stmt_stands k (out-Stmt t.statement) x fs ls h.1.1 r)

pub resolved_stands : (universe : UniverseParts) (kind : FileKind) (ts : List Lexeme) (xs : List TopLevel) (resolved_file : ResolvedFile) → Numbered ts → Parses kind ts (Ok xs) → resolved universe xs ≡ Ok resolved_file
    → AllByRecursion (λ x. 1 ≤ x.line) resolved_file.statements × AllByRecursion (λ l. 1 ≤ l.line) resolved_file.loads
resolved_stands universe kind ts xs resolved_file h g e =
    let file : FileParts = file_names universe xs in
    turn_stands (TopLevelIs file) (TreeFine file) (λ x. 1 ≤ x.line) (top_stands file) 0 xs resolved_file.statements resolved_file.functions resolved_file.loads (trees_fine file kind ts xs h g) (to_themselves universe xs resolved_file e).0
