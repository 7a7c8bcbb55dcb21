-- What files resolve to is what the relation says.
use Rattle.std.proofs.Common.{◌≡◌, ℕ, ◌+◌, Bool, true, false, ◌&&◌, List, [], ◌∷◌, ◌++◌, length, Some, Result, Ok, Err, refl, sym, ◌∙◌, ap, subst, arith, length-append}
use Rattle.std.specs.Prelude.{if◌then◌else◌}
use Rattle.std.specs.List.{flat_map}
use Rattle.bq_base.specs.declared.fault.NameFault.{NameFault}
use Rattle.bq_base.specs.declared.fault.Fault.{Fault}
use Rattle.bq_base.specs.declared.fault.NameFault.TheVariants as f
use Rattle.bq_parse_grammar.specs.declared.tree.Branch.{Branch}
use Rattle.bq_parse_grammar.specs.declared.tree.Expr.{Expr}
use Rattle.bq_parse_grammar.specs.declared.tree.Identifier.{Identifier}
use Rattle.bq_parse_grammar.specs.declared.tree.Load.{Load}
use Rattle.bq_parse_grammar.specs.declared.tree.LoadClause.{LoadClause}
use Rattle.bq_parse_grammar.specs.declared.tree.Parameter.{Parameter}
use Rattle.bq_parse_grammar.specs.declared.tree.Parameter.TheVariants as parameter
use Rattle.bq_parse_grammar.specs.declared.tree.SmallKind.{SmallKind}
use Rattle.bq_parse_grammar.specs.declared.tree.SmallKind.TheVariants as small
use Rattle.bq_parse_grammar.specs.declared.tree.SmallStmt.{SmallStmt}
use Rattle.bq_parse_grammar.specs.declared.tree.Stmt.{Stmt, out-Stmt}
use Rattle.bq_parse_grammar.specs.declared.tree.Stmt.TheOpen.{Stmt-F}
use Rattle.bq_parse_grammar.specs.declared.tree.TopLevel.{TopLevel}
use Rattle.bq_resolve_scope.specs.declared.file.Function.{Function}
use Rattle.bq_parse_grammar.specs.declared.tree.Referent.{Referent}
use Rattle.bq_parse_grammar.specs.declared.tree.Referent.TheVariants as b
use Rattle.bq_resolve_scope.specs.declared.file.Formal.{Formal}
use Rattle.bq_resolve_scope.specs.declared.file.Formal.TheVariants as formal
use Rattle.bq_resolve_scope.specs.declared.file.FileLine.{FileLine}
use Rattle.bq_resolve_scope.specs.declared.file.Outside.{Outside}
use Rattle.bq_resolve_scope.specs.declared.file.Outside.TheVariants as s
use Rattle.bq_resolve_scope.specs.declared.loads.LoadStmt.{LoadStmt}
use Rattle.bq_resolve_scope.specs.declared.loads.LoadedSymbol.{LoadedSymbol}
use Rattle.bq_resolve_scope.specs.declared.file.ResolvedFile.{ResolvedFile}
use Rattle.bq_resolve_scope.specs.Names.{Name, max_layers, has, place_among, with_name, function_names}
use Rattle.bq_resolve_scope.specs.Scope.{BlockParts, FileParts, use_of}
use Rattle.bq_resolve_scope.specs.Visit.{Passed, Visit, following, ◌>>=◌, pure, stop, fault_of, each, nothing_passed}
use Rattle.bq_resolve_scope.specs.Expressions.{refer, place_of, is_bzl, bound_at}
use Rattle.bq_resolve_scope.specs.Statements as st
use Rattle.bq_resolve_scope.specs.Statements.{ParameterParts, no_parameters, expr, load_clause, load, load_in, returned, small_by, small_stmt, stmt_to, named_parameter, default_parameter, next_parameter, parameters, statements_in, with_function, function}
use Rattle.bq_resolve_scope.specs.Files.{file_names, def_stmt, file_stmt, top_level, resolved_by, resolved}
use Rattle.bq_resolve_laws.specs.Resolution.{InOrder, InTurn, ExprIs, SmallIs, StmtTo, kind_is, formal_at, slot_after, formals, default_of, FunctionIs, SymbolIs, LoadIs, loads_are, OuterIs, file_stmt_is, TopLevelIs, FilesResolveToThemselves}
use Rattle.bq_resolve_laws.proofs.Makes.{append_none, append_one, append_all, Making, Makes, makes_bind, makes_weaker, makes_map, makes_all, in_order_both, Gaining, Gains, Turns, gains_none, gains_map, gains_weaker, gains_each, gains_bind}
use Rattle.bq_resolve_laws.proofs.ResolvedExpressions.{name_makes}
use Rattle.bq_resolve_laws.proofs.ResolvedStatements.{an_expr_makes, assign_makes, augment_makes, returned_makes, in_loop_makes, stmt_makes}

module _ (file : FileParts) where
  -- ---- loads

  clause_by : (t d : Bool) (why rebound : Fault NameFault) (y : LoadedSymbol) (names : List Name) (u : Passed)
      → Making {A = LoadedSymbol} (λ z. z ≡ y) u (if t then Err why else (if d then Err rebound else Ok (y, record u { loaded = names })))
  clause_by true d why rebound y names u = tt
  clause_by false true why rebound y names u = tt
  clause_by false false why rebound y names u = (refl, refl, refl)

  clause_makes : (x : LoadClause) → Makes (SymbolIs file x) (load_clause file x)
  unfolding load_clause
  clause_makes x u =
      clause_by (has u.loaded x.local.name) (is_bzl file.universe.kind && has u.bound x.local.name) (fault_of f.BoundTwice x.local) (fault_of f.Rebound x.local)
      (record { local = x.local.name; symbol = x.symbol; global = place_among x.local.name file.globals }) (with_name u.loaded x.local.name) u

  -- a small statement outside functions: it adds its load, if it is one, and no function
  abbrev outer : ℕ → SmallKind → ℕ → SmallKind → List Function → List LoadStmt → Type 0
  outer line k n z fs ls = kind_is file [] k z × (fs ≡ []) × loads_are file line k ls

  load_by : (line : ℕ) (l : Load) (u : Passed) (r : Result (List LoadedSymbol × Passed) (Fault NameFault)) → Making {A = List LoadedSymbol} (λ ys. InOrder (SymbolIs file) l.clauses ys) u r
      → Gaining {A = SmallKind} (outer line (small.Load l)) u (following r (λ xs. st.with_load file line l xs >>= λ _. pure (small.Load l)))
  unfolding LoadIs
  load_by line l u (Err why) h = tt
  load_by line l u (Ok p) h =
      let z : LoadStmt = record { label = l.label; line = line; clauses = p.0 } in
      ([], z ∷ [], (refl, refl, (z, (p.0, h.0, refl), refl)), h.1 ∙ append_none u.functions, ap (λ ls. ls ++ z ∷ []) h.2)

  load_gains : (line : ℕ) (l : Load) → Gains (outer line (small.Load l)) (load file line l)
  unfolding load
  load_gains line l u = load_by line l u (each (load_clause file) [] l.clauses u) (makes_all (SymbolIs file) (load_clause file) clause_makes l.clauses u)

  -- ---- small statements

  none : (line : ℕ) (k : SmallKind) (v : Visit SmallKind) → loads_are file line k [] → Makes (kind_is file [] k) v → Gains (outer line k) v
  none line k v e makes = gains_none (kind_is file [] k) (outer line k) v (λ n z p. (p, refl, e)) makes

  outer_by : (line : ℕ) (k : SmallKind) → Gains (outer line k) (small_by file [] false line k)
  unfolding load_in
  outer_by line (small.Expr x) = none line (small.Expr x) (expr file [] x >>= λ y. pure (small.Expr y)) refl (makes_map (ExprIs file [] x) (expr file [] x) (λ y. small.Expr y) (an_expr_makes file [] x))
  outer_by line (small.Assign t x) = none line (small.Assign t x) (st.assign file [] t x) refl (assign_makes file [] t x)
  outer_by line (small.Augment t o x) = none line (small.Augment t o x) (st.augment file [] t o x) refl (augment_makes file [] t o x)
  outer_by line (small.Return x) = none line (small.Return x) (returned file [] line x) refl (returned_makes file [] line x)
  outer_by line small.Break = none line small.Break (st.in_loop file false line small.Break) refl (in_loop_makes file false line small.Break)
  outer_by line small.Continue = none line small.Continue (st.in_loop file false line small.Continue) refl (in_loop_makes file false line small.Continue)
  outer_by line small.Pass = none line small.Pass (pure small.Pass) refl (λ u. (refl, refl, refl))
  outer_by line (small.Load l) = load_gains line l

  outer_gains : (x : SmallStmt) → Gains (λ n z fs ls. OuterIs file n x z fs ls) (small_stmt file [] false x)
  unfolding OuterIs SmallIs small_stmt
  outer_gains x u =
      gains_weaker (λ n z fs ls. (k : SmallKind) × outer x.line x.kind n k fs ls × (z ≡ record x { kind = k })) (λ n z fs ls. OuterIs file n x z fs ls) u
      (following (small_by file [] false x.line x.kind u) (λ k. pure (record x { kind = k }))) (λ n z fs ls h. ((h.0, h.1.0, h.2), h.1.1, h.1.2))
      (gains_map (outer x.line x.kind) (small_by file [] false x.line x.kind) (λ k. record x { kind = k }) (outer_by x.line x.kind) u)

  -- ---- parameters

  -- `m` is `l`, this parameter and these defaults, and has so many slots
  abbrev Row : ParameterParts → ℕ → Formal → List Expr → ParameterParts → Type 0
  Row l k x ds m = (length m.names ≡ k) × (m.parameters ≡ l.parameters ++ x ∷ []) × (m.defaults ≡ l.defaults ++ ds)

  -- `m` is `l` and what is made of a parameter
  abbrev Step : ParameterParts → ℕ → Formal → List Expr → ParameterParts → Type 0
  Step l k x es m = (ds : List Expr) × Row l k x ds m × InOrder (ExprIs file []) es ds

  -- `m` is `l` and what is made of these parameters
  abbrev Rows : ParameterParts → List Parameter → ParameterParts → Type 0
  Rows l ps m =
      (ds : List Expr) × InOrder (ExprIs file []) (flat_map default_of ps) ds × (m.parameters ≡ l.parameters ++ formals (length l.names) ps) × (m.defaults ≡ l.defaults ++ ds)

  named_by : (t : Bool) (why : Fault NameFault) (l : ParameterParts) (n : Identifier) (x : Formal) (u : Passed)
      → Making {A = ParameterParts} (Row l (length l.names + 1) x []) u (let go : Visit ParameterParts = if t then stop why else pure (record l { names = l.names ++ n.name ∷ []; parameters = l.parameters ++ x ∷ [] }) in go u)
  named_by true why l n x u = tt
  named_by false why l n x u = ((omega (arith, length-append l.names (n.name ∷ [])), refl, append_none l.defaults), refl, refl)

  named_makes : (l : ParameterParts) (n : Identifier) (x : Formal) → Makes (Row l (length l.names + 1) x []) (named_parameter file l n x)
  unfolding named_parameter
  named_makes l n x u = named_by (has l.names n.name) (fault_of f.DoubleParameter n) l n x u

  plain_makes : (l : ParameterParts) (n : Identifier) (x : Formal) → Makes (Step l (length l.names + 1) x []) (named_parameter file l n x)
  plain_makes l n x = makes_weaker (Row l (length l.names + 1) x []) (Step l (length l.names + 1) x []) (named_parameter file l n x) (λ m h. ([], h, tt)) (named_makes l n x)

  default_makes : (l : ParameterParts) (n : Identifier) (e : Expr) → Makes (Step l (length l.names + 1) (formal.Default (refer n (b.Local (length l.names)))) (e ∷ [])) (default_parameter file l n e)
  unfolding default_parameter
  default_makes l n e =
      let x : Formal = formal.Default (refer n (b.Local (length l.names))) in
      let k : ℕ = length l.names + 1 in
      makes_bind (Row l k x []) (Step l k x (e ∷ [])) (named_parameter file l n x) (λ m. expr file [] e >>= λ y. pure (record m { defaults = m.defaults ++ y ∷ [] })) (named_makes l n x)
      (λ m h. makes_bind (ExprIs file [] e) (Step l k x (e ∷ [])) (expr file [] e) (λ y. pure (record m { defaults = m.defaults ++ y ∷ [] })) (an_expr_makes file [] e)
      (λ y is u. ((y ∷ [], (h.0, h.1, ap (λ ds. ds ++ y ∷ []) (h.2 ∙ sym (append_none l.defaults))), (is, tt)), refl, refl)))

  next_makes : (l : ParameterParts) (q : Parameter) → Makes (Step l (slot_after (length l.names) q) (formal_at (length l.names) q) (default_of q)) (next_parameter file l q)
  unfolding next_parameter
  next_makes l (parameter.Plain n) = plain_makes l n (formal.Plain (refer n (b.Local (length l.names))))
  next_makes l (parameter.Default n x) = default_makes l n x
  next_makes l parameter.BareStar = λ u. (([], (refl, refl, append_none l.defaults), tt), refl, refl)
  next_makes l (parameter.Star n) = plain_makes l n (formal.Star (refer n (b.Local (length l.names))))
  next_makes l (parameter.StarStar n) = plain_makes l n (formal.StarStar (refer n (b.Local (length l.names))))

  joined : (l m z : ParameterParts) (q : Parameter) (qs : List Parameter) → Step l (slot_after (length l.names) q) (formal_at (length l.names) q) (default_of q) m → Rows m qs z → Rows l (q ∷ qs) z
  joined l m z q qs h rows =
      let x : Formal = formal_at (length l.names) q in
      let ys : List Formal = formals (slot_after (length l.names) q) qs in (
        h.0 ++ rows.0,
        in_order_both (ExprIs file []) (default_of q) (flat_map default_of qs) h.0 rows.0 h.2 rows.1,
        rows.2 ∙ ap (λ k. m.parameters ++ formals k qs) h.1.0 ∙ ap (λ w. w ++ ys) h.1.1 ∙ append_one l.parameters x ys,
        rows.3 ∙ ap (λ w. w ++ rows.0) h.1.2 ∙ append_all l.defaults h.0 rows.0,
      )

  parameters_make : (ps : List Parameter) (l : ParameterParts) → Makes (Rows l ps) (parameters file l ps)
  unfolding parameters
  parameters_make [] l = λ u. (([], tt, append_none l.parameters, append_none l.defaults), refl, refl)
  parameters_make (q ∷ qs) l =
      makes_bind (Step l (slot_after (length l.names) q) (formal_at (length l.names) q) (default_of q)) (Rows l (q ∷ qs)) (next_parameter file l q) (λ m. parameters file m qs) (next_makes l q)
      (λ m h. makes_weaker (Rows m qs) (Rows l (q ∷ qs)) (parameters file m qs) (λ z rows. joined l m z q qs h rows) (parameters_make qs m))

  -- ---- functions

  -- `z` is the number of the function that is added
  abbrev Counted : Identifier → List Parameter → List Stmt → ℕ → ℕ → List Function → List LoadStmt → Type 0
  Counted n ps body k z fs ls = (z ≡ k) × ((g : Function) × FunctionIs file n ps body g × (fs ≡ g ∷ [])) × (ls ≡ [])

  function_by : (n : Identifier) (ps : List Parameter) (rows : List Formal) (body : List Stmt) (u old : Passed) (r : Result (List Stmt × Passed) (Fault NameFault)) → u.functions ≡ old.functions → u.loads ≡ old.loads
      → rows ≡ formals 0 ps → Making {A = List Stmt} (λ ys. InOrder (StmtTo file max_layers (record { base = 0; names = function_names ps body } ∷ [])) body ys) u r
      → Gaining {A = ℕ} (Counted n ps body) old (with_function file n.name rows old.slots r)
  unfolding FunctionIs
  function_by n ps rows body u old (Err why) ef el are h = tt
  function_by n ps rows body u old (Ok p) ef el are h =
      let g : Function = record { name = n.name; parameters = rows; slots = p.1.slots; body = p.0 } in
      let same : p.1.functions ≡ old.functions = h.1 ∙ ef in
      (g ∷ [], [], (ap length same, (g, (p.1.slots, p.0, h.0, ap (λ fs. record { name = n.name; parameters = fs; slots = p.1.slots; body = p.0 }) are), refl), refl), ap (λ z. z ++ g ∷ []) same, (h.2 ∙ el) ∙ append_none old.loads)

  function_gains : (n : Identifier) (ps : List Parameter) (rows : List Formal) (body : List Stmt) → rows ≡ formals 0 ps
      → Gains (Counted n ps body) (function file n.name rows (function_names ps body) body)
  unfolding function
  function_gains n ps rows body are old =
      let names : List Name = function_names ps body in
      let u : Passed = record old { slots = length names } in
      let block : BlockParts = record { base = 0; names = names } in
      function_by n ps rows body u old (statements_in file names body u) refl refl are
      (makes_all (StmtTo file max_layers (block ∷ [])) (stmt_to file max_layers (block ∷ []) false) (stmt_makes file max_layers block [] false) body u)

  -- ---- what stands outside functions

  -- a `def`
  abbrev defined : Identifier → List Parameter → List Stmt → ℕ → Outside → List Function → List LoadStmt → Type 0
  defined n ps body k z fs ls = file_stmt_is file k (Stmt-F.Def n ps body) z fs ls

  -- a name that is bound outside functions, with what it refers to
  abbrev Bound : Identifier → Identifier → Type 0
  Bound n m = (x : Referent) × (place_of (use_of file [] n.name) ≡ Some x) × (m ≡ refer n x)

  made : (n : Identifier) (ps : List Parameter) (body : List Stmt) (m : Identifier) (l : ParameterParts) → Bound n m → InOrder (ExprIs file []) (flat_map default_of ps) l.defaults
      → (k : ℕ) (z : Outside) (fs : List Function) (ls : List LoadStmt) → ((x : ℕ) × Counted n ps body k x fs ls × (z ≡ s.Def (record { name = m; function = x; defaults = l.defaults })))
      → defined n ps body k z fs ls
  made n ps body m l e are k z fs ls h = (
    e.0,
    l.defaults,
    h.1.1.0,
    e.1,
    are,
    h.1.1.1,
    h.2 ∙ ap (λ w. s.Def (record { name = m; function = w; defaults = l.defaults })) h.1.0 ∙ ap (λ w. s.Def (record { name = w; function = k; defaults = l.defaults })) e.2,
    h.1.1.2,
    h.1.2,
  )

  def_gains : (n : Identifier) (ps : List Parameter) (body : List Stmt) → Gains (defined n ps body) (def_stmt file n ps body)
  unfolding def_stmt
  def_gains n ps body =
      let names : List Name = function_names ps body in
      gains_bind (Bound n) (defined n ps body) (bound_at file [] n)
      (λ m. parameters file no_parameters ps >>= λ l. function file n.name l.parameters names body >>= λ k. pure (s.Def (record { name = m; function = k; defaults = l.defaults })))
      (name_makes file [] n)
      (λ m e. gains_bind (Rows no_parameters ps) (defined n ps body) (parameters file no_parameters ps)
      (λ l. function file n.name l.parameters names body >>= λ k. pure (s.Def (record { name = m; function = k; defaults = l.defaults }))) (parameters_make ps no_parameters)
      (λ l rows u. gains_weaker (λ k z fs ls. (x : ℕ) × Counted n ps body k x fs ls × (z ≡ s.Def (record { name = m; function = x; defaults = l.defaults }))) (defined n ps body) u
      (following (function file n.name l.parameters names body u) (λ k. pure (s.Def (record { name = m; function = k; defaults = l.defaults }))))
      (made n ps body m l e (subst (λ ds. InOrder (ExprIs file []) (flat_map default_of ps) ds) (sym rows.3) rows.1))
      (gains_map (Counted n ps body) (function file n.name l.parameters names body) (λ k. s.Def (record { name = m; function = k; defaults = l.defaults }))
      (function_gains n ps l.parameters body rows.2) u)))

  line_gains : (xs : List SmallStmt) → Gains (λ k z fs ls. (ys : List SmallStmt) × InTurn (OuterIs file) k xs ys fs ls × (z ≡ s.Simple ys)) (each (small_stmt file [] false) [] xs >>= λ ys. pure (s.Simple ys))
  line_gains xs u =
      gains_weaker (λ k z fs ls. (w : List SmallStmt) × Turns (OuterIs file) [] xs k w fs ls × (z ≡ s.Simple w)) (λ k z fs ls. (ys : List SmallStmt) × InTurn (OuterIs file) k xs ys fs ls × (z ≡ s.Simple ys)) u
      (following (each (small_stmt file [] false) [] xs u) (λ ys. pure (s.Simple ys))) (λ k z fs ls g. (g.1.0, g.1.1, g.2 ∙ ap (λ w. s.Simple w) g.1.2))
      (gains_map (Turns (OuterIs file) [] xs) (each (small_stmt file [] false) [] xs) (λ ys. s.Simple ys) (gains_each (OuterIs file) (small_stmt file [] false) outer_gains [] xs) u)

  file_stmt_gains : (line : ℕ) (o : Stmt-F Stmt Branch) → Gains (λ k z fs ls. file_stmt_is file k o z fs ls) (file_stmt file line o)
  file_stmt_gains line (Stmt-F.Simple xs) = line_gains xs
  file_stmt_gains line (Stmt-F.If bs zs) = λ u. tt
  file_stmt_gains line (Stmt-F.For t x body) = λ u. tt
  file_stmt_gains line (Stmt-F.Def n ps body) = def_gains n ps body

  top_level_gains : (i : TopLevel) → Gains (λ k z fs ls. TopLevelIs file k i z fs ls) (top_level file i)
  unfolding TopLevelIs top_level
  top_level_gains i =
      gains_map (λ k z fs ls. file_stmt_is file k (out-Stmt i.statement) z fs ls) (file_stmt file i.line (out-Stmt i.statement)) (λ x. record { line = i.line; statement = x }) (file_stmt_gains i.line (out-Stmt i.statement))

file_by : (file : FileParts) (ts : List TopLevel) (r : Result (List FileLine × Passed) (Fault NameFault)) (x : ResolvedFile) → Gaining {A = List FileLine} (Turns (TopLevelIs file) [] ts) nothing_passed r
    → resolved_by file r ≡ Ok x → InTurn (TopLevelIs file) 0 ts x.statements x.functions x.loads × (x.globals ≡ file.globals)
file_by file ts (Err why) x h e = absurd (let no : ⊥ = cc in no)
file_by file ts (Ok p) x h e =
    let z : ResolvedFile = record { statements = p.0; functions = p.1.functions; globals = file.globals; loads = p.1.loads } in
    let same : z ≡ x = cc in
    let one : InTurn (TopLevelIs file) 0 ts p.0 h.0 h.1 = subst (λ ys. InTurn (TopLevelIs file) 0 ts ys h.0 h.1) (sym h.2.2) h.2.1 in
    let two : InTurn (TopLevelIs file) 0 ts p.0 p.1.functions h.1 = subst (λ fs. InTurn (TopLevelIs file) 0 ts p.0 fs h.1) (sym h.3) one in
    let three : InTurn (TopLevelIs file) 0 ts z.statements z.functions z.loads = subst (λ ls. InTurn (TopLevelIs file) 0 ts p.0 p.1.functions ls) (sym h.4) two in
    (subst (λ y. InTurn (TopLevelIs file) 0 ts y.statements y.functions y.loads) same three, sym (ap (λ y. y.globals) same))

pub to_themselves : FilesResolveToThemselves
unfolding resolved file_names
to_themselves universe ts x e =
    let file : FileParts = file_names universe ts in
    file_by file ts (each (top_level file) [] ts nothing_passed) x (gains_each (TopLevelIs file) (top_level file) (top_level_gains file) [] ts nothing_passed) e
