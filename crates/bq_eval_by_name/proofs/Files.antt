-- A file does by slots what it does by names: each of its statements does, and each `def` is its function of the next place.
use Rattle.std.proofs.Common.{◌≡◌, ℕ, Bool, true, false, ◌&&◌, List, [], ◌∷◌, ◌++◌, length, map, Result, Ok, Err, refl, sym, ap, ◌∙◌, subst, arith}
use Rattle.std.specs.Prelude.{if◌then◌else◌}
use Rattle.bq_base.specs.declared.fault.NameFault.{NameFault}
use Rattle.bq_base.specs.declared.fault.Fault.{Fault}
use Rattle.bq_base.specs.declared.fault.NameFault.TheVariants as f
use Rattle.bq_parse_grammar.specs.declared.tree.Branch.{Branch}
use Rattle.bq_parse_grammar.specs.declared.tree.Identifier.{Identifier}
use Rattle.bq_parse_grammar.specs.declared.tree.LoadClause.{LoadClause}
use Rattle.bq_parse_grammar.specs.declared.tree.Parameter.{Parameter}
use Rattle.bq_parse_grammar.specs.declared.tree.SmallKind.{SmallKind}
use Rattle.bq_parse_grammar.specs.declared.tree.SmallKind.TheVariants as small
use Rattle.bq_parse_grammar.specs.declared.tree.SmallStmt.{SmallStmt}
use Rattle.bq_parse_grammar.specs.declared.tree.Stmt.{Stmt, out-Stmt}
use Rattle.bq_parse_grammar.specs.declared.tree.Stmt.TheOpen.{Stmt-F}
use Rattle.bq_parse_grammar.specs.declared.tree.TopLevel.{TopLevel}
use Rattle.bq_parse_grammar.specs.declared.tree.Expr.{Expr}
use Rattle.bq_resolve_scope.specs.declared.file.Function.{Function}
use Rattle.bq_resolve_scope.specs.declared.file.FileLine.{FileLine}
use Rattle.bq_resolve_scope.specs.declared.file.Outside.{Outside}
use Rattle.bq_resolve_scope.specs.declared.file.Outside.TheVariants as s
use Rattle.bq_resolve_scope.specs.declared.loads.LoadedSymbol.{LoadedSymbol}
use Rattle.bq_resolve_scope.specs.Files.{file_stmt, top_level, def_stmt}
use Rattle.bq_resolve_scope.specs.Names.{Name, max_layers, has, place_among, with_name, function_names}
use Rattle.bq_resolve_scope.specs.Scope.{BlockParts, FileParts, use_of}
use Rattle.bq_resolve_scope.specs.Expressions.{place_of, is_bzl, bound_at}
use Rattle.bq_resolve_scope.specs.Statements as st
use Rattle.bq_resolve_scope.specs.Statements.{ParameterParts, no_parameters, expr, load_clause, small_stmt, stmt_to, parameters, statements_in, with_function, function}
use Rattle.bq_resolve_scope.specs.Visit.{Passed, Visit, ◌>>=◌, pure, fault_of, each}
use Rattle.bq_resolve_laws.specs.Resolution.{InOrder, ExprIs, kind_is, StmtTo}
use Rattle.bq_resolve_laws.proofs.Makes.{append_none, append_one, append_all, makes_all}
use Rattle.bq_resolve_laws.proofs.ResolvedExpressions.{name_makes}
use Rattle.bq_resolve_laws.proofs.ResolvedStatements.{an_expr_makes, assign_makes, augment_makes, returned_makes, in_loop_makes, stmt_makes}
use Rattle.bq_eval_spec.specs.Files.{formal_of, defaults_of, functions_by, functions_of}
use Rattle.bq_eval_by_name.proofs.Walks.{Refers}
use Rattle.bq_eval_by_name.specs.Units.{FunctionIs}
use Rattle.bq_eval_by_name.proofs.FunctionWalks.{Made, Kept, Keeps, Anything, kept, keeps_bind, makes_keep, keeps_makes, keeps_each, middle, same_end, both}
use Rattle.bq_eval_by_name.proofs.Parameters.{Outer, Rows, parameters_keep}
use Rattle.bq_eval_by_name.proofs.Places.{parameters_stay}

module _ (file : FileParts) where
  -- ---- a line adds no function

  clause_by : (a b : Bool) (why rebound : Fault NameFault) (y : LoadedSymbol) (names : List Name) (u : Passed)
      → Kept {A = LoadedSymbol} Anything u (if a then Err why else (if b then Err rebound else Ok (y, record u { loaded = names })))
  clause_by true b why rebound y names u = tt
  clause_by false true why rebound y names u = tt
  clause_by false false why rebound y names u = (tt, refl)

  clause_keeps : (x : LoadClause) → Keeps {A = LoadedSymbol} Anything (load_clause file x)
  unfolding load_clause
  clause_keeps x u =
      clause_by (has u.loaded x.local.name) (is_bzl file.universe.kind && has u.bound x.local.name) (fault_of f.BoundTwice x.local) (fault_of f.Rebound x.local)
      (record { local = x.local.name; symbol = x.symbol; global = place_among x.local.name file.globals }) (with_name u.loaded x.local.name) u

  kind_keeps : (line : ℕ) (k : SmallKind) → Keeps {A = SmallKind} Anything (st.small_by file [] false line k)
  unfolding st.load_in st.load
  kind_keeps line (small.Expr x) =
      keeps_bind Anything Anything (expr file [] x) (λ y. pure (small.Expr y)) (keeps_makes (ExprIs file [] x) (expr file [] x) (an_expr_makes file [] x)) (λ y h u. (tt, refl))
  kind_keeps line (small.Assign u x) = keeps_makes (kind_is file [] (small.Assign u x)) (st.assign file [] u x) (assign_makes file [] u x)
  kind_keeps line (small.Augment u o x) = keeps_makes (kind_is file [] (small.Augment u o x)) (st.augment file [] u o x) (augment_makes file [] u o x)
  kind_keeps line (small.Return x) = keeps_makes (kind_is file [] (small.Return x)) (st.returned file [] line x) (returned_makes file [] line x)
  kind_keeps line small.Break = keeps_makes (kind_is file [] small.Break) (st.in_loop file false line small.Break) (in_loop_makes file false line small.Break)
  kind_keeps line small.Continue = keeps_makes (kind_is file [] small.Continue) (st.in_loop file false line small.Continue) (in_loop_makes file false line small.Continue)
  kind_keeps line small.Pass = λ u. (tt, refl)
  kind_keeps line (small.Load l) =
      keeps_bind Anything Anything (each (load_clause file) [] l.clauses) (λ xs. st.with_load file line l xs >>= λ _. pure (small.Load l)) (keeps_each (load_clause file) clause_keeps [] l.clauses) (λ xs h u. (tt, refl))

  small_keeps : (x : SmallStmt) → Keeps {A = SmallStmt} Anything (small_stmt file [] false x)
  unfolding small_stmt
  small_keeps x = keeps_bind Anything Anything (st.small_by file [] false x.line x.kind) (λ k. pure (record x { kind = k })) (kind_keeps x.line x.kind) (λ k h u. (tt, refl))

  line_keeps : (xs : List SmallStmt) → Keeps {A = List SmallStmt} Anything (each (small_stmt file [] false) [] xs)
  line_keeps xs = keeps_each (small_stmt file [] false) small_keeps [] xs

  -- ---- a `def` adds its function

  -- what it resolves to, where a number of functions are before it
  pub record DefIs (n : Identifier) (ps : List Parameter) (body : List Stmt) (u w : Passed) (x : Outside) : Type 0 where
    pub target : Identifier
    pub at : Refers n (place_of (use_of file [] n.name)) target
    pub defaults : List Expr
    pub defaults_are : InOrder (Outer file) (defaults_of ps) defaults
    pub made : Function
    pub function_is : FunctionIs file (record { name = n.name; parameters = map formal_of ps; slots = 0; body = body }) made
    pub is : x ≡ s.Def (record { name = target; function = length u.functions; defaults = defaults })
    pub adds : w.functions ≡ u.functions ++ made ∷ []

  body_keeps : (names : List Name) (body : List Stmt) → Keeps {A = List Stmt} Anything (statements_in file names body)
  body_keeps names body =
      let block : BlockParts = record { base = 0; names = names } in
      keeps_makes (λ ys. InOrder (StmtTo file max_layers (block ∷ [])) body ys) (statements_in file names body)
      (makes_all (StmtTo file max_layers (block ∷ [])) (stmt_to file max_layers (block ∷ []) false) (stmt_makes file max_layers block [] false) body)

  -- a function, from the walk of its body
  abbrev FunctionMade : Name → ParameterParts → List Name → List Stmt → Passed → ℕ → Passed → Type 0
  FunctionMade name l names body u k w =
      (code : List Stmt) × (end : Passed) × (statements_in file names body (record u { slots = length names }) ≡ Ok (code, end)) × (k ≡ length u.functions)
      × (w.functions ≡ u.functions ++ record { name = name; parameters = l.parameters; slots = end.slots; body = code } ∷ [])

  function_by : (name : Name) (l : ParameterParts) (names : List Name) (body : List Stmt) (u : Passed) (r : Result (List Stmt × Passed) (Fault NameFault)) (k : ℕ) (w : Passed)
      → statements_in file names body (record u { slots = length names }) ≡ r → Kept {A = List Stmt} Anything u r → with_function file name l.parameters u.slots r ≡ Ok (k, w)
      → FunctionMade name l names body u k w
  function_by name l names body u (Err why) k w e h made = absurd (let no : ⊥ = cc in no)
  function_by name l names body u (Ok p) k w e h made =
      let g : Function = record { name = name; parameters = l.parameters; slots = p.1.slots; body = p.0 } in
      let left : Passed = record p.1 { slots = u.slots; functions = p.1.functions ++ g ∷ [] } in
      let same = same_end (length p.1.functions) left (k, w) (Ok (length p.1.functions, left)) refl made in
      (p.0, p.1, e, sym same.0 ∙ ap length h.1, ap (λ z. z.functions) (sym same.1) ∙ ap (λ fs. fs ++ g ∷ []) h.1)

  function_made : (name : Name) (l : ParameterParts) (names : List Name) (body : List Stmt) (u : Passed) (k : ℕ) (w : Passed) → function file name l.parameters names body u ≡ Ok (k, w)
      → FunctionMade name l names body u k w
  unfolding function
  function_made name l names body u k w e =
      function_by name l names body u (statements_in file names body (record u { slots = length names })) k w refl (body_keeps names body (record u { slots = length names })) e

  name_keeps : (n : Identifier) → Keeps {A = Identifier} (Refers n (place_of (use_of file [] n.name))) (bound_at file [] n)
  name_keeps n u = makes_keep (Refers n (place_of (use_of file [] n.name))) (bound_at file [] n) (name_makes file [] n) u

  def_by : (n : Identifier) (ps : List Parameter) (body : List Stmt) (u a b w left : Passed) (x : Outside) (target : Identifier) (l : ParameterParts) (k : ℕ)
      → Refers n (place_of (use_of file [] n.name)) target → a.functions ≡ u.functions → parameters file no_parameters ps a ≡ Ok (l, b) → Rows file (function_names ps body) no_parameters ps l
      → b.functions ≡ a.functions → FunctionMade n.name l (function_names ps body) body b k left → s.Def (record { name = target; function = k; defaults = l.defaults }) ≡ x → left ≡ w → DefIs n ps body u w x
  def_by n ps body u a b w left x target l k at kept_first resolves rows kept_then made is same =
      let names : List Name = function_names ps body in
      let g : Function = record { name = n.name; parameters = l.parameters; slots = made.1.slots; body = made.0 } in
      let before : b.functions ≡ u.functions = kept_then ∙ kept_first in
      let number : k ≡ length u.functions = made.3 ∙ ap length before in
      let adds : w.functions ≡ u.functions ++ g ∷ [] = ap (λ z. z.functions) (sym same) ∙ made.4 ∙ ap (λ fs. fs ++ g ∷ []) before in
      record {
        target = target;
        at = at;
        defaults = l.defaults;
        defaults_are = subst (λ ds. InOrder (Outer file) (defaults_of ps) ds) (sym rows.5) rows.3;
        made = g;
        function_is = record {
          name = refl;
          written = ps;
          formals = refl;
          parts = l;
          before = a;
          after = b;
          parameters_are = resolves;
          parameters = refl;
          start = record b { slots = length names };
          end = made.1;
          room = omega arith;
          body = made.2;
        };
        is = sym is ∙ ap (λ j. s.Def (record { name = target; function = j; defaults = l.defaults })) number;
        adds = adds;
      }

  abbrev last_of : Identifier → ParameterParts → ℕ → Outside
  last_of target l k = s.Def (record { name = target; function = k; defaults = l.defaults })

  body_by : (n : Identifier) (ps : List Parameter) (body : List Stmt) (u a b w : Passed) (x : Outside) (target : Identifier) (l : ParameterParts)
      → Refers n (place_of (use_of file [] n.name)) target → a.functions ≡ u.functions → parameters file no_parameters ps a ≡ Ok (l, b)
      → (let go : Visit Outside = function file n.name l.parameters (function_names ps body) body >>= λ k. pure (last_of target l k) in go b) ≡ Ok (x, w) → DefIs n ps body u w x
  body_by n ps body u a b w x target l at first resolves e =
      let names : List Name = function_names ps body in
      let rows = kept (Rows file names no_parameters ps) (parameters file no_parameters ps) a l b (parameters_keep file names ps no_parameters (parameters_stay ps body)) resolves in
      let last = middle (function file n.name l.parameters names body) (λ k. pure (last_of target l k)) b (x, w) e in
      let ends = same_end (last_of target l last.0) last.1 (x, w) (Ok (last_of target l last.0, last.1)) refl last.3 in
      def_by n ps body u a b w last.1 x target l last.0 at first resolves rows.0 rows.1 (function_made n.name l names body b last.0 last.1 last.2) ends.0 ends.1

  parameters_by : (n : Identifier) (ps : List Parameter) (body : List Stmt) (u a w : Passed) (x : Outside) (target : Identifier) → Refers n (place_of (use_of file [] n.name)) target → a.functions ≡ u.functions
      → (let go : Visit Outside = parameters file no_parameters ps >>= λ l. function file n.name l.parameters (function_names ps body) body >>= λ k. pure (last_of target l k) in go a) ≡ Ok (x, w)
      → DefIs n ps body u w x
  parameters_by n ps body u a w x target at first e =
      let passed = middle (parameters file no_parameters ps) (λ l. function file n.name l.parameters (function_names ps body) body >>= λ k. pure (last_of target l k)) a (x, w) e in
      body_by n ps body u a passed.1 w x target passed.0 at first passed.2 passed.3

  pub def_is : (n : Identifier) (ps : List Parameter) (body : List Stmt) (u w : Passed) (x : Outside) → def_stmt file n ps body u ≡ Ok (x, w) → DefIs n ps body u w x
  unfolding def_stmt
  def_is n ps body u w x e =
      let named =
      middle (bound_at file [] n) (λ target. parameters file no_parameters ps >>= λ l. function file n.name l.parameters (function_names ps body) body >>= λ k. pure (last_of target l k)) u (x, w) e in
      let at = kept (Refers n (place_of (use_of file [] n.name))) (bound_at file [] n) u named.0 named.1 (name_keeps n) named.2 in
      parameters_by n ps body u named.1 w x named.0 at.0 at.1 named.3

  -- ---- a statement adds the functions of its `def`

  -- what it resolves to: a line, or a function
  abbrev pub stmt_is : Stmt-F Stmt Branch → Passed → Passed → Outside → Type 0
  stmt_is (Stmt-F.Simple xs) u w x = (ys : List SmallStmt) × Made (each (small_stmt file [] false) [] xs) ys × (x ≡ s.Simple ys) × (w.functions ≡ u.functions)
  stmt_is (Stmt-F.If bs zs) u w x = ⊥
  stmt_is (Stmt-F.For t y body) u w x = ⊥
  stmt_is (Stmt-F.Def n ps body) u w x = DefIs n ps body u w x

  stmt_by : (line : ℕ) (o : Stmt-F Stmt Branch) (u w : Passed) (x : Outside) → file_stmt file line o u ≡ Ok (x, w) → stmt_is o u w x
  stmt_by line (Stmt-F.Simple xs) u w x e =
      let all = middle (each (small_stmt file [] false) [] xs) (λ ys. pure (s.Simple ys)) u (x, w) e in
      let ends = same_end (s.Simple all.0) all.1 (x, w) (Ok (s.Simple all.0, all.1)) refl all.3 in
      let same = kept Anything (each (small_stmt file [] false) [] xs) u all.0 all.1 (line_keeps xs) all.2 in
      (all.0, (u, all.1, all.2), sym ends.0, ap (λ z. z.functions) (sym ends.1) ∙ same.1)
  stmt_by line (Stmt-F.If bs zs) u w x e = absurd (let no : ⊥ = cc in no)
  stmt_by line (Stmt-F.For t y body) u w x e = absurd (let no : ⊥ = cc in no)
  stmt_by line (Stmt-F.Def n ps body) u w x e = def_is n ps body u w x e

  abbrev pub TopIs : TopLevel → Passed → Passed → FileLine → Type 0
  TopIs t u w y = (x : Outside) × stmt_is (out-Stmt t.statement) u w x × (y ≡ record { line = t.line; statement = x })

  top_is : (t : TopLevel) (u w : Passed) (y : FileLine) → top_level file t u ≡ Ok (y, w) → TopIs t u w y
  unfolding top_level
  top_is t u w y e =
      let one = middle (file_stmt file t.line (out-Stmt t.statement)) (λ x. pure (record { line = t.line; statement = x })) u (y, w) e in
      let x : Outside = one.0 in
      let v : Passed = one.1 in
      let made : FileLine = record { line = t.line; statement = x } in
      let ends = same_end made v (y, w) (Ok (made, v)) refl one.3 in
      (x, stmt_by t.line (out-Stmt t.statement) u w x (subst (λ z. file_stmt file t.line (out-Stmt t.statement) u ≡ Ok (x, z)) ends.1 one.2), sym ends.0)

  -- ---- one after the other

  abbrev pub TopsAre : Passed → List TopLevel → List FileLine → Passed → Type 0
  TopsAre u [] [] v = v ≡ u
  TopsAre u (t ∷ ts) (y ∷ ys) v = (w : Passed) × TopIs t u w y × TopsAre w ts ys v
  TopsAre u _ _ v = ⊥

  pub tops_are : (ts : List TopLevel) (done : List FileLine) (u : Passed) (zs : List FileLine) (v : Passed) → each (top_level file) done ts u ≡ Ok (zs, v)
      → (ys : List FileLine) × TopsAre u ts ys v × (zs ≡ done ++ ys)
  unfolding each
  tops_are [] done u zs v e =
      let ends = same_end done u (zs, v) (Ok (done, u)) refl e in ([], sym ends.1, sym ends.0 ∙ append_none done)
  tops_are (t ∷ ts) done u zs v e =
      let one = middle (top_level file t) (λ y. each (top_level file) (done ++ y ∷ []) ts) u (zs, v) e in
      let rest = tops_are ts (done ++ one.0 ∷ []) one.1 zs v one.3 in
      (one.0 ∷ rest.0, (one.1, top_is t u one.1 one.0 one.2, rest.1), rest.2 ∙ append_one done one.0 rest.0)

  -- ---- the functions of all of them

  abbrev pub Adds : Passed → Passed → List Function → Type 0
  Adds u v ds = (fs : List Function) × (v.functions ≡ u.functions ++ fs) × InOrder (FunctionIs file) ds fs

  pub stmt_adds : (o : Stmt-F Stmt Branch) (u w : Passed) (x : Outside) → stmt_is o u w x → Adds u w (functions_by o)
  stmt_adds (Stmt-F.Simple xs) u w x h = ([], h.3 ∙ append_none u.functions, tt)
  stmt_adds (Stmt-F.If bs zs) u w x h = absurd h
  stmt_adds (Stmt-F.For t y body) u w x h = absurd h
  stmt_adds (Stmt-F.Def n ps body) u w x h = (h.made ∷ [], h.adds, (h.function_is, tt))

  pub tops_add : (ts : List TopLevel) (ys : List FileLine) (u v : Passed) → TopsAre u ts ys v → Adds u v (functions_of ts)
  tops_add [] [] u v h = ([], ap (λ z. z.functions) h ∙ append_none u.functions, tt)
  tops_add (t ∷ ts) (y ∷ ys) u v h =
      let one = stmt_adds (out-Stmt t.statement) u h.0 h.1.0 h.1.1 in
      let rest = tops_add ts ys h.0 v h.2 in (
        one.0 ++ rest.0,
        rest.1 ∙ ap (λ fs. fs ++ rest.0) one.1 ∙ append_all u.functions one.0 rest.0,
        both (FunctionIs file) (functions_by (out-Stmt t.statement)) one.0 (functions_of ts) rest.0 one.2 rest.2,
      )
  tops_add [] (y ∷ ys) u v h = absurd h
  tops_add (t ∷ ts) [] u v h = absurd h
