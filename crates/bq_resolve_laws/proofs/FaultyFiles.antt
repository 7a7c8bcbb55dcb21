-- The fault of a file is the first rule that it breaks.
use Rattle.std.proofs.Common.{◌≡◌, ℕ, zero, suc, Bool, true, false, ◌&&◌, List, [], ◌∷◌, ◌++◌, length, Some, None, Result, Ok, Err, inr, refl, sym, ◌∙◌, ap, subst}
use Rattle.std.specs.Prelude.{◌↔◌, if◌then◌else◌}
use Rattle.std.specs.List.{flat_map}
use Rattle.bq_base.specs.declared.fault.NameFault.{NameFault}
use Rattle.bq_base.specs.declared.fault.Fault.{Fault}
use Rattle.bq_base.specs.declared.fault.NameFault.TheVariants as f
use Rattle.bq_parse_grammar.specs.declared.tree.Argument.TheOpen.{TargetExpr-F}
use Rattle.bq_parse_grammar.specs.declared.tree.Branch.{Branch}
use Rattle.bq_parse_grammar.specs.declared.tree.Expr.{Expr}
use Rattle.bq_parse_grammar.specs.declared.tree.Identifier.{Identifier}
use Rattle.bq_parse_grammar.specs.declared.tree.Load.{Load}
use Rattle.bq_parse_grammar.specs.declared.tree.LoadClause.{LoadClause}
use Rattle.bq_parse_grammar.specs.declared.tree.Operator.{Operator}
use Rattle.bq_parse_grammar.specs.declared.tree.Parameter.{Parameter}
use Rattle.bq_parse_grammar.specs.declared.tree.Parameter.TheVariants as parameter
use Rattle.bq_parse_grammar.specs.declared.tree.SmallKind.{SmallKind}
use Rattle.bq_parse_grammar.specs.declared.tree.SmallKind.TheVariants as small
use Rattle.bq_parse_grammar.specs.declared.tree.SmallStmt.{SmallStmt}
use Rattle.bq_parse_grammar.specs.declared.tree.Stmt.{Stmt, out-Stmt}
use Rattle.bq_parse_grammar.specs.declared.tree.Stmt.TheOpen.{Stmt-F}
use Rattle.bq_parse_grammar.specs.declared.tree.TargetExpr.{TargetExpr, out-TargetExpr}
use Rattle.bq_parse_grammar.specs.declared.tree.TopLevel.{TopLevel}
use Rattle.bq_parse_grammar.specs.declared.tree.Referent.TheVariants as b
use Rattle.bq_resolve_scope.specs.declared.file.Formal.{Formal}
use Rattle.bq_resolve_scope.specs.declared.file.Formal.TheVariants as formal
use Rattle.bq_parse_grammar.specs.declared.tree.TargetExpr.TheVariants as t
use Rattle.bq_resolve_scope.specs.declared.file.FileLine.{FileLine}
use Rattle.bq_resolve_scope.specs.declared.file.Outside.TheVariants as s
use Rattle.bq_resolve_scope.specs.declared.loads.LoadedSymbol.{LoadedSymbol}
use Rattle.bq_resolve_scope.specs.declared.file.ResolvedFile.{ResolvedFile}
use Rattle.bq_resolve_scope.specs.Universe.{UniverseParts}
use Rattle.bq_resolve_scope.specs.Names.{Name, TargetLayer, max_layers, has, place_among, with_name, with_each, with_target_by, with_target_to, with_target, with_small, with_load, with_load_clause, with_parameter, function_names}
use Rattle.bq_resolve_scope.proofs.Cases.{with_small_by, with_load_by}
use Rattle.bq_resolve_scope.specs.Scope.{BlockParts, FileParts}
use Rattle.bq_resolve_scope.specs.Visit.{Passed, Visit, following, ◌>>=◌, pure, stop, fault_of, each, nothing_passed}
use Rattle.bq_resolve_scope.specs.Expressions.{refer, is_bzl, bound_at, target_by, target_to, expr_to}
use Rattle.bq_resolve_scope.specs.Statements as st
use Rattle.bq_resolve_scope.specs.Statements.{ParameterParts, no_parameters, expr, target, load_clause, load, assign, augment, returned, load_in, small_by, small_stmt, stmt_to, named_parameter, default_parameter, next_parameter, parameters, statements_in, with_function, function}
use Rattle.bq_resolve_scope.specs.Files.{file_names, def_stmt, file_stmt, top_level, resolved_by, resolved}
use Rattle.bq_resolve_laws.specs.Binds.{AnyOf, target_binds_by, TargetBindsTo, TargetBinds, kind_binds, SmallBinds, stmt_binds_by, StmtBindsTo, StmtBinds}
use Rattle.bq_resolve_laws.specs.NameLaws.{FaultsAreFirstViolations, FilesWithoutViolationsResolve}
use Rattle.bq_resolve_laws.specs.Violations.{first, in_turn, when, Before, nothing_before, in_binding, in_load_clause, in_expr_to, in_expr, in_stmt_to, in_parameter_name, in_parameter, in_function, in_file_target_by, in_file_target_to, in_file_target, in_file_small_by, in_file_small, after_small, in_top_level_by, in_top_level, after, violations}
use Rattle.bq_resolve_laws.proofs.Cases.{after_by}
use Rattle.bq_resolve_laws.proofs.Binds.{function_binds, file_binds}
use Rattle.bq_resolve_laws.proofs.Finds.{before, Finding, Tells, Finds, Holds, all_on, first_left, tells_bind, tells_map, tells_two, tells_as, tells_each, tells_all, finds_map, finds_two, finds_bind, finds_held}
use Rattle.bq_resolve_laws.proofs.UnknownNames.{global_tells}
use Rattle.bq_resolve_laws.proofs.FaultyExpressions.{expr_finds}
use Rattle.bq_resolve_laws.proofs.FaultyStatements.{an_expr_finds, in_loop_finds, stmt_finds}

-- ---- names that are bound one after the other

all_bound : {A : Type 0} (add : List Name → A → List Name) (b : Before) (xs : List A) → all_on (λ o x. record o { bound = add o.bound x }) b xs ≡ record b { bound = with_each add b.bound xs }
all_bound add b [] = refl
all_bound add b (x ∷ xs) = all_bound add (record b { bound = add b.bound x }) xs

all_loaded : {A : Type 0} (add : List Name → A → List Name) (b : Before) (xs : List A) → all_on (λ o x. record o { loaded = add o.loaded x }) b xs ≡ record b { loaded = with_each add b.loaded xs }
all_loaded add b [] = refl
all_loaded add b (x ∷ xs) = all_loaded add (record b { loaded = add b.loaded x }) xs

all_small : (b : Before) (xs : List SmallStmt) → all_on after_small b xs ≡ record { bound = with_each with_small b.bound xs; loaded = with_each with_load b.loaded xs }
all_small b [] = refl
all_small b (x ∷ xs) = all_small (after_small b x) xs

module _ (file : FileParts) where
  -- ---- targets outside functions

  target_by_tells : (go : TargetExpr → Visit TargetExpr) (F : Before → TargetExpr → List (Fault NameFault)) (add : List Name → TargetExpr → List Name) (P : Name → TargetExpr → Type 0)
      → ((u : TargetExpr) → Holds file.globals (λ name. P name u) → Tells (λ b. F b u) (λ b. record b { bound = add b.bound u }) (go u)) → (o : TargetLayer)
      → Holds file.globals (λ name. target_binds_by (P name) name o)
      → Tells (λ b. in_file_target_by file F add b o) (λ b. record b { bound = with_target_by add b.bound o }) (target_by file (expr_to max_layers file) go [] o)
  unfolding in_expr
  target_by_tells go F add P goes (TargetExpr-F.TargetExpr::Name n) held =
      tells_map (bound_at file [] n) (λ m. t.Name m) (λ b. in_binding file b n) (λ b. record b { bound = with_name b.bound n.name }) (global_tells file n (held n.name refl))
  target_by_tells go F add P goes (TargetExpr-F.TargetExpr::Index x i) held =
      finds_two (expr_to max_layers file [] x) (expr_to max_layers file [] i) (λ y j. t.Index y j) (in_expr_to file max_layers [] x) (in_expr_to file max_layers [] i)
      (expr_finds max_layers file [] x) (expr_finds max_layers file [] i)
  target_by_tells go F add P goes (TargetExpr-F.TargetExpr::Tuple us) held =
      let on : Before → TargetExpr → Before = λ b u. record b { bound = add b.bound u } in
      tells_map (each go [] us) (λ vs. t.Tuple vs) (λ b. in_turn F on b us) (λ b. record b { bound = with_each add b.bound us })
      (tells_as (each go [] us) (λ b. in_turn F on b us) (λ b. all_on on b us) (λ b. record b { bound = with_each add b.bound us }) (λ b. all_bound add b us) (tells_each file.globals go F on P goes [] us held))
  target_by_tells go F add P goes (TargetExpr-F.TargetExpr::List us) held =
      let on : Before → TargetExpr → Before = λ b u. record b { bound = add b.bound u } in
      tells_map (each go [] us) (λ vs. t.List vs) (λ b. in_turn F on b us) (λ b. record b { bound = with_each add b.bound us })
      (tells_as (each go [] us) (λ b. in_turn F on b us) (λ b. all_on on b us) (λ b. record b { bound = with_each add b.bound us }) (λ b. all_bound add b us) (tells_each file.globals go F on P goes [] us held))

  target_to_tells : (layers : ℕ) (u : TargetExpr) → Holds file.globals (λ name. TargetBindsTo layers name u)
      → Tells (λ b. in_file_target_to file layers b u) (λ b. record b { bound = with_target_to layers b.bound u }) (target_to file (expr_to max_layers file) layers [] u)
  unfolding in_file_target_to with_target_to target_to TargetBindsTo
  target_to_tells zero u held = λ z. refl
  target_to_tells (suc layers) u held =
      target_by_tells (target_to file (expr_to max_layers file) layers []) (in_file_target_to file layers) (with_target_to layers) (TargetBindsTo layers) (target_to_tells layers) (out-TargetExpr u) held

  a_target_tells : (u : TargetExpr) → Holds file.globals (λ name. TargetBinds name u) → Tells (λ b. in_file_target file b u) (λ b. record b { bound = with_target b.bound u }) (target file [] u)
  unfolding in_file_target with_target target TargetBinds
  a_target_tells u held = target_to_tells max_layers u held

  -- ---- loads

  clause_by : (t d : Bool) (twice rebound : Fault NameFault) (x : LoadedSymbol) (names : List Name) (u : Passed)
      → Finding {A = LoadedSymbol} (if t then twice ∷ [] else when d rebound) (record (before u) { loaded = names }) (if t then Err twice else (if d then Err rebound else Ok (x, record u { loaded = names })))
  clause_by true d twice rebound x names u = refl
  clause_by false true twice rebound x names u = refl
  clause_by false false twice rebound x names u = (refl, refl)

  clause_tells : (x : LoadClause) → Tells (λ b. in_load_clause file b x) (λ b. record b { loaded = with_load_clause b.loaded x }) (load_clause file x)
  unfolding in_load_clause load_clause
  clause_tells x u =
      let y : LoadedSymbol = record { local = x.local.name; symbol = x.symbol; global = place_among x.local.name file.globals } in
      let twice : Fault NameFault = fault_of f.BoundTwice x.local in
      let rebound : Fault NameFault = fault_of f.Rebound x.local in
      let names : List Name = with_name u.loaded x.local.name in
      let before_it : Bool = has u.bound x.local.name in
      clause_by (has u.loaded x.local.name) (is_bzl file.universe.kind && before_it) twice rebound y names u

  loaded_by : (line : ℕ) (l : Load) (r : Result (List LoadedSymbol × Passed) (Fault NameFault)) (faults : List (Fault NameFault)) (b : Before) → Finding {A = List LoadedSymbol} faults b r
      → Finding {A = SmallKind} faults b (following r (λ xs. st.with_load file line l xs >>= λ _. pure (small.Load l)))
  loaded_by line l (Err why) faults b h = h
  loaded_by line l (Ok p) faults b h = h

  load_tells : (line : ℕ) (l : Load)
      → Tells (λ b. in_turn (in_load_clause file) (λ o x. record o { loaded = with_load_clause o.loaded x }) b l.clauses) (λ b. record b { loaded = with_each with_load_clause b.loaded l.clauses }) (load file line l)
  unfolding load
  load_tells line l u =
      let on : Before → LoadClause → Before = λ o x. record o { loaded = with_load_clause o.loaded x } in
      let all : Before → List (Fault NameFault) = λ b. in_turn (in_load_clause file) on b l.clauses in
      let later : Before → Before = λ b. record b { loaded = with_each with_load_clause b.loaded l.clauses } in
      let v : Visit (List LoadedSymbol) = each (load_clause file) [] l.clauses in
      let told : Tells {A = List LoadedSymbol} all later v = tells_as v all (λ b. all_on on b l.clauses) later (λ b. all_loaded with_load_clause b l.clauses) (tells_all (load_clause file) (in_load_clause file) on clause_tells [] l.clauses) in
      loaded_by line l (v u) (all (before u)) (later (before u)) (told u)

  -- ---- small statements

  assign_tells : (u : TargetExpr) (x : Expr) → Holds file.globals (λ name. TargetBinds name u)
      → Tells (λ b. in_file_target file b u ++ in_expr file [] x) (λ b. record b { bound = with_target b.bound u }) (assign file [] u x)
  unfolding assign
  assign_tells u x held =
      tells_two (target file [] u) (expr file [] x) (λ v y. small.Assign v y) (λ b. in_file_target file b u) (λ b. record b { bound = with_target b.bound u }) (in_expr file [] x)
      (a_target_tells u held) (an_expr_finds file [] x)

  augment_tells : (u : TargetExpr) (o : Operator) (x : Expr) → Holds file.globals (λ name. TargetBinds name u)
      → Tells (λ b. in_file_target file b u ++ in_expr file [] x) (λ b. record b { bound = with_target b.bound u }) (augment file [] u o x)
  unfolding augment
  augment_tells u o x held =
      tells_two (target file [] u) (expr file [] x) (λ v y. small.Augment v o y) (λ b. in_file_target file b u) (λ b. record b { bound = with_target b.bound u }) (in_expr file [] x)
      (a_target_tells u held) (an_expr_finds file [] x)

  small_by_tells : (line : ℕ) (k : SmallKind) → Holds file.globals (λ name. kind_binds name k)
      → Tells (λ b. in_file_small_by file b line k) (λ b. record { bound = with_small_by b.bound k; loaded = with_load_by b.loaded k }) (small_by file [] false line k)
  unfolding returned load_in
  small_by_tells line (small.Expr x) held = finds_map (expr file [] x) (λ y. small.Expr y) (in_expr file [] x) (an_expr_finds file [] x)
  small_by_tells line (small.Assign u x) held = assign_tells u x held
  small_by_tells line (small.Augment u o x) held = augment_tells u o x held
  small_by_tells line (small.Return x) held = λ u. refl
  small_by_tells line small.Break held = in_loop_finds file false line small.Break
  small_by_tells line small.Continue held = in_loop_finds file false line small.Continue
  small_by_tells line small.Pass held = λ u. (refl, refl)
  small_by_tells line (small.Load l) held = load_tells line l

  small_tells : (x : SmallStmt) → Holds file.globals (λ name. SmallBinds name x) → Tells (λ b. in_file_small file b x) (λ b. after_small b x) (small_stmt file [] false x)
  unfolding in_file_small small_stmt with_small with_load SmallBinds
  small_tells x held =
      tells_map (small_by file [] false x.line x.kind) (λ k. record x { kind = k }) (λ b. in_file_small_by file b x.line x.kind)
      (λ b. record { bound = with_small_by b.bound x.kind; loaded = with_load_by b.loaded x.kind }) (small_by_tells x.line x.kind held)

  -- ---- parameters, and the names of those so far

  -- the fault is the first of these; where there is none, these are the names of the parameters so far
  abbrev Naming : List (Fault NameFault) → Before → List Name → Result (ParameterParts × Passed) (Fault NameFault) → Type 0
  Naming faults b names (Err why) = first faults ≡ Some why
  Naming faults b names (Ok p) = (faults ≡ []) × (before p.1 ≡ b) × (p.0.names ≡ names)

  named_by : (t : Bool) (why : Fault NameFault) (l : ParameterParts) (n : Identifier) (x : Formal) (u : Passed)
      → Naming (when t why) (before u) (if t then l.names else l.names ++ n.name ∷ [])
      (let go : Visit ParameterParts = if t then stop why else pure (record l { names = l.names ++ n.name ∷ []; parameters = l.parameters ++ x ∷ [] }) in go u)
  named_by true why l n x u = refl
  named_by false why l n x u = (refl, refl, refl)

  named_finds : (l : ParameterParts) (n : Identifier) (x : Formal) (u : Passed) → Naming (in_parameter_name file l.names n) (before u) (with_name l.names n.name) (named_parameter file l n x u)
  unfolding named_parameter with_name
  named_finds l n x u = named_by (has l.names n.name) (fault_of f.DoubleParameter n) l n x u

  default_made : (m : ParameterParts) (q : Result (Expr × Passed) (Fault NameFault)) (faults : List (Fault NameFault)) (a b : Before) (names : List Name) → a ≡ b → m.names ≡ names → Finding {A = Expr} faults a q
      → Naming faults b names (following q (λ y. pure (record m { defaults = m.defaults ++ y ∷ [] })))
  default_made m (Err why) faults a b names same named h = h
  default_made m (Ok p) faults a b names same named h = (h.0, h.1 ∙ same, named)

  default_by : (x : Expr) (r : Result (ParameterParts × Passed) (Fault NameFault)) (faults : List (Fault NameFault)) (b : Before) (names : List Name) → Naming faults b names r
      → Naming (faults ++ in_expr file [] x) b names (following r (λ m. expr file [] x >>= λ y. pure (record m { defaults = m.defaults ++ y ∷ [] })))
  default_by x (Err why) faults b names h = first_left faults (in_expr file [] x) why h
  default_by x (Ok p) faults b names h =
      subst (λ xs. Naming (xs ++ in_expr file [] x) b names (following (expr file [] x p.1) (λ y. pure (record p.0 { defaults = p.0.defaults ++ y ∷ [] })))) (sym h.0)
      (default_made p.0 (expr file [] x p.1) (in_expr file [] x) (before p.1) b names h.1 h.2 (an_expr_finds file [] x p.1))

  default_finds : (l : ParameterParts) (n : Identifier) (x : Expr) (u : Passed)
      → Naming (in_parameter_name file l.names n ++ in_expr file [] x) (before u) (with_name l.names n.name) (default_parameter file l n x u)
  unfolding default_parameter
  default_finds l n x u =
      default_by x (named_parameter file l n (formal.Default (refer n (b.Local (length l.names)))) u) (in_parameter_name file l.names n) (before u) (with_name l.names n.name)
      (named_finds l n (formal.Default (refer n (b.Local (length l.names)))) u)

  next_finds : (l : ParameterParts) (q : Parameter) (u : Passed) → Naming (in_parameter file l.names q) (before u) (with_parameter l.names q) (next_parameter file l q u)
  unfolding in_parameter next_parameter
  next_finds l (parameter.Plain n) u = named_finds l n (formal.Plain (refer n (b.Local (length l.names)))) u
  next_finds l (parameter.Default n x) u = default_finds l n x u
  next_finds l parameter.BareStar u = (refl, refl, refl)
  next_finds l (parameter.Star n) u = named_finds l n (formal.Star (refer n (b.Local (length l.names)))) u
  next_finds l (parameter.StarStar n) u = named_finds l n (formal.StarStar (refer n (b.Local (length l.names)))) u

  -- the faults in parameters, after those of these names
  abbrev in_parameters : List Name → List Parameter → List (Fault NameFault)
  in_parameters names ps = in_turn (in_parameter file) with_parameter names ps

  rest_by : (ps : List Parameter) (r : Result (ParameterParts × Passed) (Fault NameFault)) (faults : List (Fault NameFault)) (b : Before) (names : List Name)
      → ((m : ParameterParts) (u : Passed) → Finding {A = ParameterParts} (in_parameters m.names ps) (before u) (parameters file m ps u)) → Naming faults b names r
      → Finding {A = ParameterParts} (faults ++ in_parameters names ps) b (following r (λ m. parameters file m ps))
  rest_by ps (Err why) faults b names rest h = first_left faults (in_parameters names ps) why h
  rest_by ps (Ok p) faults b names rest h =
      let one : Finding {A = ParameterParts} (in_parameters p.0.names ps) b (parameters file p.0 ps p.1) = subst (λ c. Finding {A = ParameterParts} (in_parameters p.0.names ps) c (parameters file p.0 ps p.1)) h.1 (rest p.0 p.1) in
      let two : Finding {A = ParameterParts} (in_parameters names ps) b (parameters file p.0 ps p.1) = subst (λ ns. Finding {A = ParameterParts} (in_parameters ns ps) b (parameters file p.0 ps p.1)) h.2 one in
      subst (λ xs. Finding {A = ParameterParts} (xs ++ in_parameters names ps) b (parameters file p.0 ps p.1)) (sym h.0) two

  parameters_find : (ps : List Parameter) (l : ParameterParts) (u : Passed) → Finding {A = ParameterParts} (in_parameters l.names ps) (before u) (parameters file l ps u)
  unfolding parameters
  parameters_find [] l u = (refl, refl)
  parameters_find (q ∷ qs) l u =
      rest_by qs (next_parameter file l q u) (in_parameter file l.names q) (before u) (with_parameter l.names q) (λ m z. parameters_find qs m z) (next_finds l q u)

  -- ---- functions

  function_by : (name : Name) (ps : List Formal) (slots : ℕ) (r : Result (List Stmt × Passed) (Fault NameFault)) (faults : List (Fault NameFault)) (b : Before) → Finding {A = List Stmt} faults b r
      → Finding {A = ℕ} faults b (with_function file name ps slots r)
  function_by name ps slots (Err why) faults b h = h
  function_by name ps slots (Ok p) faults b h = h

  -- the faults in the statements of a function
  abbrev in_body : List Name → List Stmt → List (Fault NameFault)
  in_body names body = flat_map (in_stmt_to file max_layers (names ∷ []) false) body

  body_finds : (names : List Name) (body : List Stmt) → Holds names (λ name. AnyOf (StmtBinds name) body) → Finds (in_body names body) (statements_in file names body)
  unfolding StmtBinds
  body_finds names body held =
      let block : BlockParts = record { base = 0; names = names } in
      finds_held names (stmt_to file max_layers (block ∷ []) false) (in_stmt_to file max_layers (names ∷ []) false) (StmtBindsTo max_layers) (stmt_finds file max_layers block [] false) [] body held

  function_finds : (name : Name) (ps : List Formal) (names : List Name) (body : List Stmt) → Holds names (λ name. AnyOf (StmtBinds name) body) → Finds (in_body names body) (function file name ps names body)
  unfolding function
  function_finds name ps names body held u =
      function_by name ps u.slots (statements_in file names body (record u { slots = length names })) (in_body names body) (before u) (body_finds names body held (record u { slots = length names }))

  -- ---- what stands outside functions

  def_tells : (n : Identifier) (ps : List Parameter) (body : List Stmt) → has file.globals n.name ≡ true
      → Tells (λ b. in_binding file b n ++ in_function file ps body) (λ b. record b { bound = with_name b.bound n.name }) (def_stmt file n ps body)
  unfolding in_function def_stmt
  def_tells n ps body held =
      let names : List Name = function_names ps body in
      tells_bind (bound_at file [] n) (λ m. parameters file no_parameters ps >>= λ l. function file n.name l.parameters names body >>= λ k. pure (s.Def (record { name = m; function = k; defaults = l.defaults })))
      (λ b. in_binding file b n) (λ b. record b { bound = with_name b.bound n.name }) (λ b. in_parameters [] ps ++ in_body names body) (λ b. b) (global_tells file n held)
      (λ m. finds_bind (parameters file no_parameters ps) (λ l. function file n.name l.parameters names body >>= λ k. pure (s.Def (record { name = m; function = k; defaults = l.defaults })))
      (in_parameters [] ps) (in_body names body) (parameters_find ps no_parameters)
      (λ l. finds_map (function file n.name l.parameters names body) (λ k. s.Def (record { name = m; function = k; defaults = l.defaults })) (in_body names body)
      (function_finds n.name l.parameters names body (λ name p. (function_binds ps body name).1 (inr p)))))

  file_stmt_tells : (line layers : ℕ) (o : Stmt-F Stmt Branch) → Holds file.globals (λ name. stmt_binds_by (StmtBindsTo layers name) name o)
      → Tells (λ b. in_top_level_by file b line o) (λ b. after_by b o) (file_stmt file line o)
  file_stmt_tells line layers (Stmt-F.Simple xs) held =
      let later : Before → Before = λ b. record { bound = with_each with_small b.bound xs; loaded = with_each with_load b.loaded xs } in
      let v = each (small_stmt file [] false) [] xs in
      tells_map v (λ ys. s.Simple ys) (λ b. in_turn (in_file_small file) after_small b xs) later
      (tells_as v (λ b. in_turn (in_file_small file) after_small b xs) (λ b. all_on after_small b xs) later (λ b. all_small b xs)
      (tells_each file.globals (small_stmt file [] false) (in_file_small file) after_small SmallBinds small_tells [] xs held))
  file_stmt_tells line layers (Stmt-F.If bs zs) held = λ u. refl
  file_stmt_tells line layers (Stmt-F.For t x body) held = λ u. refl
  file_stmt_tells line layers (Stmt-F.Def n ps body) held = def_tells n ps body (held n.name refl)

  top_level_tells : (i : TopLevel) → Holds file.globals (λ name. StmtBinds name i.statement) → Tells (λ b. in_top_level file b i) (λ b. after b i) (top_level file i)
  unfolding in_top_level after top_level StmtBinds StmtBindsTo max_layers
  top_level_tells i held =
      tells_map (file_stmt file i.line (out-Stmt i.statement)) (λ x. record { line = i.line; statement = x }) (λ b. in_top_level_by file b i.line (out-Stmt i.statement)) (λ b. after_by b (out-Stmt i.statement))
      (file_stmt_tells i.line 1023 (out-Stmt i.statement) held)

  all_tell : (is : List TopLevel) → Holds file.globals (λ name. AnyOf (λ i. StmtBinds name i.statement) is) → Tells (λ b. in_turn (in_top_level file) after b is) (λ b. all_on after b is) (each (top_level file) [] is)
  all_tell is held = tells_each file.globals (top_level file) (in_top_level file) after (λ name i. StmtBinds name i.statement) top_level_tells [] is held

-- ---- files

file_finds : (universe : UniverseParts) (ts : List TopLevel)
    → Finding {A = List FileLine} (violations universe ts) (all_on after nothing_before ts) (each (top_level (file_names universe ts)) [] ts nothing_passed)
unfolding violations file_names
file_finds universe ts = all_tell (file_names universe ts) ts (λ name p. (file_binds ts name).1 p) nothing_passed

first_by : (file : FileParts) (r : Result (List FileLine × Passed) (Fault NameFault)) (faults : List (Fault NameFault)) (b : Before) (why : Fault NameFault) → Finding {A = List FileLine} faults b r
    → (resolved_by file r ≡ Err why) ↔ (first faults ≡ Some why)
first_by file (Err w) faults b why h = (λ e. let same : w ≡ why = cc in h ∙ ap (λ z. Some z) same, λ e. let same : Some w ≡ Some why = sym h ∙ e in cc)
first_by file (Ok p) faults b why h = (λ e. absurd (let no : ⊥ = cc in no), λ e. let none : None ≡ Some why = sym (ap (λ xs. first xs) h.0) ∙ e in absurd (let no : ⊥ = cc in no))

pub first_violation : FaultsAreFirstViolations
unfolding resolved
first_violation universe ts why =
    let file : FileParts = file_names universe ts in
    first_by file (each (top_level file) [] ts nothing_passed) (violations universe ts) (all_on after nothing_before ts) why (file_finds universe ts)

none_by : (file : FileParts) (r : Result (List FileLine × Passed) (Fault NameFault)) (faults : List (Fault NameFault)) (b : Before) → Finding {A = List FileLine} faults b r
    → ((x : ResolvedFile) × (resolved_by file r ≡ Ok x)) ↔ (faults ≡ [])
none_by file (Err w) faults b h = (λ e. let wrong : Err w ≡ Ok e.0 = e.1 in absurd (let no : ⊥ = cc in no), λ e. let none : None ≡ Some w = sym (ap (λ xs. first xs) e) ∙ h in absurd (let no : ⊥ = cc in no))
none_by file (Ok p) faults b h = (λ e. h.0, λ e. (record { statements = p.0; functions = p.1.functions; globals = file.globals; loads = p.1.loads }, refl))

pub without_violations : FilesWithoutViolationsResolve
unfolding resolved
without_violations universe ts =
    let file : FileParts = file_names universe ts in
    none_by file (each (top_level file) [] ts nothing_passed) (violations universe ts) (all_on after nothing_before ts) (file_finds universe ts)
