-- The faults of a statement name lines, where those of its parts do.
use Rattle.std.proofs.Common.{ℕ, ◌≤◌, List, [], ◌∷◌, Bool, true, false, Option, Some, None, inl}
use Rattle.std.specs.List.{AllByRecursion, flat_map}
use Rattle.bq_base.specs.declared.fault.NameFault.TheVariants as f
use Rattle.bq_base.specs.Fault.{fault_at}
use Rattle.bq_base.proofs.Choices.{by_test}
use Rattle.bq_source.specs.declared.token.TokenKind.TheVariants as k
use Rattle.bq_parse_grammar.specs.declared.tree.Branch.{Branch, out-Branch}
use Rattle.bq_parse_grammar.specs.declared.tree.Identifier.{Identifier}
use Rattle.bq_parse_grammar.specs.declared.tree.LoadClause.{LoadClause}
use Rattle.bq_parse_grammar.specs.declared.tree.Operator.{Operator}
use Rattle.bq_parse_grammar.specs.declared.tree.Parameter.{Parameter}
use Rattle.bq_parse_grammar.specs.declared.tree.Parameter.TheVariants as p
use Rattle.bq_parse_grammar.specs.declared.tree.SmallKind.{SmallKind}
use Rattle.bq_parse_grammar.specs.declared.tree.SmallKind.TheVariants as small
use Rattle.bq_parse_grammar.specs.declared.tree.SmallStmt.{SmallStmt}
use Rattle.bq_parse_grammar.specs.declared.tree.Stmt.{Stmt, out-Stmt}
use Rattle.bq_parse_grammar.specs.declared.tree.Stmt.TheOpen.{Stmt-F}
use Rattle.bq_parse_grammar.specs.declared.tree.TargetExpr.{TargetExpr}
use Rattle.bq_parse_grammar.specs.Literals.{name_line}
use Rattle.bq_parse_laws.specs.Parts as parts
use Rattle.bq_parse_laws.specs.Parts.{Part, assignment_kind, token_of, parameter_parts, load_parts, small_parts, branch_parts, else_parts, if_parts, stmt_parts_by, stmt_parts}
use Rattle.bq_resolve_scope.specs.Visit.{fault_of}
use Rattle.bq_resolve_scope.specs.Names.{Name, has, function_names, with_parameter, with_load_clause}
use Rattle.bq_resolve_scope.specs.Scope.{FileParts}
use Rattle.bq_resolve_laws.specs.Violations.{Around, Before, in_turn, misplaced_at, after_small, in_binding, in_load_clause, in_expr, in_target, in_small, in_branch, in_stmt_to, in_parameter_name, in_parameter, in_function, in_file_target, in_file_small}
use Rattle.bq_load_laws.proofs.Names.Fine.{Fine, two_fine, when_fine, unless_fine, all_fine, turn_fine}
use Rattle.bq_load_laws.proofs.Names.Parts.{ExprFine, expr_sound, TargetFine, ParameterFine, LoadClauseFine, LoadFine, SmallKindFine, SmallFine, StmtFine, StmtLayerFine, stmt_of_layer, BranchFine, AllFine, row_fine, listed_fine}
use Rattle.bq_load_laws.proofs.Names.Expressions.{binding_fine}

-- the line of a small statement is looked at only where a word begins it
abbrev pub BeginsWithToken : List Part → Type 0
BeginsWithToken (parts.token q ∷ ps) = Unit {0}
BeginsWithToken _ = ⊥

module _ (file : FileParts) where
  target_sound : (around : Around) (t : TargetExpr) → TargetFine file t → Fine (in_target file around t)
  unfolding in_target
  target_sound around t h = h.0 (in_expr file) (expr_sound file) _ around

  file_target_sound : (before : Before) (t : TargetExpr) → TargetFine file t → Fine (in_file_target file before t)
  unfolding in_file_target
  file_target_sound before t h = h.1 _ before

  misplaced_fine : (line : ℕ) → 1 ≤ line → Fine (misplaced_at line)
  misplaced_fine line h = (inl h, tt)

  -- ---- parameters

  name_fine : (names : List Name) (n : Identifier) → 1 ≤ name_line n → Fine (in_parameter_name file names n)
  name_fine names n h = when_fine _ _ h

  pub parameter_told : (x : Parameter) (ps : List Part) → AllFine file (parameter_parts x ps) → AllFine file (parts.parameter x ∷ ps)
  unfolding in_parameter
  parameter_told (p.Plain n) ps h = (λ names. name_fine names n h.0, h.1)
  parameter_told (p.Default n x) ps h = (λ names. two_fine (in_parameter_name file names n) _ (name_fine names n h.0) (expr_sound file [] x h.1.1.0), h.1.1.1)
  parameter_told p.BareStar ps h = (λ names. tt, h.1)
  parameter_told (p.Star n) ps h = (λ names. name_fine names n h.1.0, h.1.1)
  parameter_told (p.StarStar n) ps h = (λ names. name_fine names n h.1.0, h.1.1)

  -- ---- small statements

  load_clause_fine : (before : Before) (x : LoadClause) → 1 ≤ name_line x.local → Fine (in_load_clause file before x)
  unfolding in_load_clause
  load_clause_fine before x h =
      let twice : Fine (fault_of f.BoundTwice x.local ∷ []) = (inl h, tt) in
      by_test Fine (has before.loaded x.local.name) _ _ (λ _. twice) (λ _. when_fine _ _ h)

  load_told : (xs : List LoadClause) (ps : List Part) → AllFine file (load_parts xs ps) → AllByRecursion LoadClauseFine xs × AllFine file ps
  load_told [] ps h = (tt, h.1)
  load_told (x ∷ xs) ps h = listed_fine file parts.load_clause LoadClauseFine (λ x g. g) k.Comma (x ∷ xs) ps h.1

  assignment_told : (o : Operator) (ps : List Part) → AllFine file (token_of (assignment_kind o) ps) → AllFine file ps
  assignment_told o ps h = token_told (assignment_kind o) h
    where
      token_told : (q : Option _) → AllFine file (token_of q ps) → AllFine file ps
      token_told None h = h
      token_told (Some q) h = h.1

  pub small_told : (x : SmallKind) (line : ℕ) (ps : List Part) → (BeginsWithToken (small_parts x ps) → 1 ≤ line) → AllFine file (small_parts x ps) → SmallKindFine file line x × AllFine file ps
  small_told (small.Expr x) line ps s h = ((λ around looping. expr_sound file around x h.0, λ before. expr_sound file [] x h.0, tt), h.1)
  small_told (small.Assign t x) line ps s h = (
    (
      λ around looping. two_fine (in_target file around t) _ (target_sound around t h.0) (expr_sound file around x h.1.1.0),
      λ before. two_fine (in_file_target file before t) _ (file_target_sound before t h.0) (expr_sound file [] x h.1.1.0),
      tt,
    ),
    h.1.1.1,
  )
  small_told (small.Augment t o x) line ps s h =
      let i = assignment_told o (parts.open_expr x ∷ ps) h.1 in (
        (
          λ around looping. two_fine (in_target file around t) _ (target_sound around t h.0) (expr_sound file around x i.0),
          λ before. two_fine (in_file_target file before t) _ (file_target_sound before t h.0) (expr_sound file [] x i.0),
          tt,
        ),
        i.1,
      )
  small_told (small.Return None) line ps s h = ((λ around looping. tt, λ before. misplaced_fine line (s tt), tt), h.1)
  small_told (small.Return (Some x)) line ps s h = ((λ around looping. expr_sound file around x h.1.0, λ before. misplaced_fine line (s tt), tt), h.1.1)
  small_told small.Break line ps s h = ((λ around looping. unless_fine looping (fault_at f.BadFlow line) (s tt), λ before. misplaced_fine line (s tt), tt), h.1)
  small_told small.Continue line ps s h = ((λ around looping. unless_fine looping (fault_at f.BadFlow line) (s tt), λ before. misplaced_fine line (s tt), tt), h.1)
  small_told small.Pass line ps s h = ((λ around looping. tt, λ before. tt, tt), h.1)
  small_told (small.Load l) line ps s h =
      let i = load_told l.clauses (parts.token k.RightParen ∷ ps) h.1.1.1 in (
        (
          λ around looping. misplaced_fine line (s tt),
          λ before. turn_fine LoadClauseFine (in_load_clause file) (λ b c. record b { loaded = with_load_clause b.loaded c }) (λ b c g. load_clause_fine b c g) before l.clauses i.0,
          s tt,
        ),
        i.1.1,
      )

  -- ---- statements

  branch_fine : (b : Branch) → ExprFine file (out-Branch b).condition → AllByRecursion (StmtFine file) (out-Branch b).block → BranchFine file b
  unfolding in_branch
  branch_fine b h g inner each around = two_fine (in_expr file around (out-Branch b).condition) _ (expr_sound file around _ h) (all_fine (StmtFine file) inner each _ g)

  pub branch_told : (x : Branch) (ps : List Part) → AllFine file (branch_parts x ps) → AllFine file (parts.branch x ∷ ps)
  branch_told x ps h = (branch_fine x h.0 h.1.1.0, h.1.1.1)

  else_told : (xs : List Stmt) (ps : List Part) → AllFine file (else_parts xs ps) → AllByRecursion (StmtFine file) xs × AllFine file ps
  else_told [] ps h = (tt, h)
  else_told (x ∷ xs) ps h = (h.1.1.0, h.1.1.1)

  if_told : (xs : List Branch) (zs : List Stmt) (ps : List Part) → AllFine file (if_parts xs zs ps) → AllByRecursion (BranchFine file) xs × AllByRecursion (StmtFine file) zs × AllFine file ps
  if_told [] zs ps h = let e = else_told zs ps h in (tt, e.0, e.1)
  if_told (x ∷ xs) zs ps h =
      let i = row_fine file parts.elif (BranchFine file) (λ x g. g) xs (else_parts zs ps) h.1.1 in
      let e = else_told zs ps i.1 in ((h.1.0, i.0), e.0, e.1)

  small_fine : (around : Around) (looping : Bool) (x : SmallStmt) → SmallFine file x → Fine (in_small file around looping x)
  unfolding in_small
  small_fine around looping x h = h.0 around looping

  file_small_fine : (before : Before) (x : SmallStmt) → SmallFine file x → Fine (in_file_small file before x)
  unfolding in_file_small
  file_small_fine before x h = h.1 before

  loads_fine : (xs : List SmallStmt) → AllByRecursion (SmallFine file) xs → AllByRecursion (λ x. LoadFine x.line x.kind) xs
  loads_fine [] h = tt
  loads_fine (x ∷ xs) h = (h.0.2, loads_fine xs h.1)

  function_fine : (ps : List Parameter) (body : List Stmt) → AllByRecursion (ParameterFine file) ps → AllByRecursion (StmtFine file) body → Fine (in_function file ps body)
  unfolding in_function
  function_fine ps body h g =
      two_fine (in_turn (in_parameter file) with_parameter [] ps) _ (turn_fine (ParameterFine file) (in_parameter file) with_parameter (λ names q i. i names) [] ps h)
      (all_fine (StmtFine file) (in_stmt_to file _ (function_names ps body ∷ []) false) (λ x i. i.0 _ (function_names ps body ∷ []) false) body g)

  stmt_by : (l : Stmt-F Stmt Branch) (ps : List Part) → AllFine file (stmt_parts_by l ps) → StmtLayerFine file l × AllFine file ps
  stmt_by (Stmt-F.Simple xs) ps h =
      let i = listed_fine file parts.small_stmt (SmallFine file) (λ x g. g) k.Semicolon xs (parts.token k.Newline ∷ ps) h in (
        (
          λ inner each around looping. all_fine (SmallFine file) (in_small file around looping) (λ x g. small_fine around looping x g) xs i.0,
          (λ before line n. turn_fine (SmallFine file) (in_file_small file) after_small (λ b x g. file_small_fine b x g) before xs i.0, loads_fine xs i.0),
        ),
        i.1.1,
      )
  stmt_by (Stmt-F.If xs zs) ps h =
      let i = if_told xs zs ps h in (
        (
          λ inner each around looping.
              two_fine (flat_map (in_branch file (inner looping) around) xs) _ (all_fine (BranchFine file) (in_branch file (inner looping) around) (λ b g. g (inner looping) (each looping) around) xs i.0)
              (all_fine (StmtFine file) (inner looping) (each looping) zs i.1),
          (λ before line n. misplaced_fine line n, tt),
        ),
        i.2,
      )
  stmt_by (Stmt-F.For v x xs) ps h = (
    (
      λ inner each around looping.
          two_fine (in_target file around v) _ (target_sound around v h.1.0)
          (two_fine (in_expr file around x) _ (expr_sound file around x h.1.1.1.0) (all_fine (StmtFine file) (inner true) (each true) xs h.1.1.1.1.1.0)),
      (λ before line n. misplaced_fine line n, tt),
    ),
    h.1.1.1.1.1.1,
  )
  stmt_by (Stmt-F.Def n qs xs) ps h =
      let i = listed_fine file parts.parameter (ParameterFine file) (λ x g. g) k.Comma qs (parts.token k.RightParen ∷ parts.token k.Colon ∷ parts.suite xs ∷ ps) h.1.1.1 in (
        (
          λ inner each around looping. misplaced_fine (name_line n) h.1.0,
          (λ before line m. two_fine (in_binding file before n) _ (binding_fine file before n h.1.0) (function_fine qs xs i.0 i.1.1.1.0), tt),
        ),
        i.1.1.1.1,
      )

  pub stmt_told : (x : Stmt) (ps : List Part) → AllFine file (stmt_parts x ps) → AllFine file (parts.stmt x ∷ ps)
  stmt_told x ps h = let i = stmt_by (out-Stmt x) ps h in (stmt_of_layer file x i.0, i.1)
