-- What a file resolves to has trees of the same form: where something holds of what is measured of each tree of the parsed file, it holds
-- of what is measured of each tree of the resolved one.
use Rattle.std.proofs.Common.{◌≡◌, ℕ, Bool, true, false, List, [], ◌∷◌, ◌++◌, map, length, Result, Ok, Err, sym, subst}
use Rattle.std.specs.Prelude.{if◌then◌else◌}
use Rattle.std.specs.List.{AllByRecursion}
use Rattle.bq_base.specs.declared.fault.NameFault.{NameFault}
use Rattle.bq_base.specs.declared.fault.Fault.{Fault}
use Rattle.bq_base.specs.declared.fault.NameFault.TheVariants as f
use Rattle.bq_parse_grammar.specs.declared.tree.Expr.{Expr}
use Rattle.bq_parse_grammar.specs.declared.tree.Identifier.{Identifier}
use Rattle.bq_parse_grammar.specs.declared.tree.Parameter.{Parameter}
use Rattle.bq_parse_grammar.specs.declared.tree.Parameter.TheVariants as parameter
use Rattle.bq_parse_grammar.specs.declared.tree.Referent.TheVariants as b
use Rattle.bq_parse_grammar.specs.declared.tree.Stmt.{Stmt, out-Stmt}
use Rattle.bq_parse_grammar.specs.declared.tree.Stmt.TheOpen.{Stmt-F}
use Rattle.bq_parse_grammar.specs.declared.tree.TopLevel.{TopLevel}
use Rattle.bq_resolve_scope.specs.declared.file.FileLine.{FileLine}
use Rattle.bq_resolve_scope.specs.declared.file.Formal.{Formal}
use Rattle.bq_resolve_scope.specs.declared.file.Formal.TheVariants as formal
use Rattle.bq_resolve_scope.specs.declared.file.Function.{Function}
use Rattle.bq_resolve_scope.specs.declared.file.Outside.{Outside}
use Rattle.bq_resolve_scope.specs.declared.file.Outside.TheVariants as outside
use Rattle.bq_resolve_scope.specs.declared.file.ResolvedFile.{ResolvedFile}
use Rattle.bq_resolve_scope.specs.Names.{Name, max_layers, has, function_names}
use Rattle.bq_resolve_scope.specs.Scope.{BlockParts, FileParts}
use Rattle.bq_resolve_scope.specs.Universe.{UniverseParts}
use Rattle.bq_resolve_scope.specs.Visit.{Passed, Visit, ◌>>=◌, pure, stop, fault_of, each, nothing_passed}
use Rattle.bq_resolve_scope.specs.Expressions.{refer, bound_at}
use Rattle.bq_resolve_scope.specs.Statements.{ParameterParts, no_parameters, expr, small_stmt, stmt_to, named_parameter, default_parameter, next_parameter, parameters, statements_in, with_function, function}
use Rattle.bq_resolve_scope.specs.Files.{file_names, def_stmt, file_stmt, top_level, resolved_by, resolved}
use Rattle.bq_eval_spec.specs.Trees.{StmtLayer}
use Rattle.bq_eval_laws.specs.Referents.{RefersToPlace}
use Rattle.bq_eval_laws.proofs.Gives.{FunctionsAre, Giving, Gives, gives_bind, gives_as, gives_map, gives_each, gives_every, and_last}
use Rattle.bq_eval_laws.proofs.KeptExpressions.{Refers, bound_keeps}
use Rattle.bq_eval_laws.proofs.KeptStatements.{an_expr_keeps, line_keeps, stmt_keeps}
use Rattle.bq_eval_laws.proofs.Measures.{Measure, before, StmtMeasure, expr_of, stmt_of}

-- what holds of the measure of each holds of those of which the same is measured
same_all : {A R : Type 0} (g h : A → R) (Q : R → Type 0) (xs ys : List A) → map g ys ≡ map h xs → AllByRecursion (λ x. Q (h x)) xs → AllByRecursion (λ y. Q (g y)) ys
same_all g h Q [] [] e all = tt
same_all g h Q [] (y ∷ ys) e all = absurd (let no : ⊥ = cc in no)
same_all g h Q (x ∷ xs) [] e all = absurd (let no : ⊥ = cc in no)
same_all g h Q (x ∷ xs) (y ∷ ys) e all =
    let first : h x ≡ g y = cc in
    let rest : map g ys ≡ map h xs = cc in
    (subst Q first all.0, same_all g h Q xs ys rest all.1)

-- `GE` holds of what is measured of each expression, `GW` of each small statement, and `GD` of each statement of a function
module _ {A C E S T H O P W D B : Type 0} (M : Measure A C E S T H O P) (N : StmtMeasure M W D B) (GE : E → Type 0) (GW : W → Type 0) (GD : D → Type 0) where
  abbrev pub ParameterIs : Parameter → Type 0
  ParameterIs (parameter.Default n x) = GE (expr_of (before M) x)
  ParameterIs _ = Unit {0}

  -- a statement outside functions, as it is parsed
  abbrev pub ParsedIs : StmtLayer → Type 0
  ParsedIs (Stmt-F.Simple xs) = AllByRecursion (λ x. GW (N.earlier.small_step x)) xs
  ParsedIs (Stmt-F.Def n ps body) = AllByRecursion ParameterIs ps × AllByRecursion (λ x. GD (stmt_of N.earlier x)) body
  ParsedIs _ = Unit {0}

  -- the name of a parameter refers to its slot
  abbrev pub FormalIs : Formal → Type 0
  FormalIs (formal.Plain n) = RefersToPlace n.referent
  FormalIs (formal.Default n) = RefersToPlace n.referent
  FormalIs formal.BareStar = Unit {0}
  FormalIs (formal.Star n) = RefersToPlace n.referent
  FormalIs (formal.StarStar n) = RefersToPlace n.referent

  abbrev pub FunctionIs : Function → Type 0
  FunctionIs d = AllByRecursion FormalIs d.parameters × AllByRecursion (λ x. GD (stmt_of N.later x)) d.body

  -- and that of a function to where it goes
  abbrev pub OutsideIs : Outside → Type 0
  OutsideIs (outside.Simple xs) = AllByRecursion (λ x. GW (N.later.small_step x)) xs
  OutsideIs (outside.Def d) = RefersToPlace d.name.referent × AllByRecursion (λ x. GE (expr_of M.after x)) d.defaults

  abbrev pub FileIs : ResolvedFile → Type 0
  FileIs z = AllByRecursion (λ l. OutsideIs l.statement) z.statements × AllByRecursion FunctionIs z.functions

  module _ (file : FileParts) where
    -- ---- parameters: those so far, and the defaults

    abbrev PartsAre : ParameterParts → Type 0
    PartsAre l = AllByRecursion FormalIs l.parameters × AllByRecursion (λ x. GE (expr_of M.after x)) l.defaults

    named_by : (q : Bool) (why : Fault NameFault) (l : ParameterParts) (u : Passed) → PartsAre l → FunctionsAre FunctionIs u
        → Giving FunctionIs {A = ParameterParts} PartsAre (let go : Visit ParameterParts = if q then stop why else pure l in go u)
    named_by true why l u h fit = tt
    named_by false why l u h fit = (h, fit)

    named_gives : (l : ParameterParts) (n : Identifier) (x : Formal) → FormalIs x → PartsAre l → Gives FunctionIs {A = ParameterParts} PartsAre (named_parameter file l n x)
    unfolding named_parameter
    named_gives l n x is h u fit =
        named_by (has l.names n.name) (fault_of f.DoubleParameter n) (record l { names = l.names ++ n.name ∷ []; parameters = l.parameters ++ x ∷ [] }) u (and_last FormalIs l.parameters x h.0 is, h.1) fit

    default_gives : (l : ParameterParts) (n : Identifier) (x : Expr) → GE (expr_of (before M) x) → PartsAre l → Gives FunctionIs {A = ParameterParts} PartsAre (default_parameter file l n x)
    unfolding default_parameter
    default_gives l n x h k =
        gives_bind FunctionIs PartsAre PartsAre (named_parameter file l n (formal.Default (refer n (b.Local (length l.names)))))
        (λ m. expr file [] x >>= λ y. pure (record m { defaults = m.defaults ++ y ∷ [] })) (named_gives l n (formal.Default (refer n (b.Local (length l.names)))) tt k)
        (λ m j. gives_map FunctionIs (λ y. expr_of M.after y ≡ expr_of (before M) x) PartsAre (expr file [] x) (λ y. record m { defaults = m.defaults ++ y ∷ [] }) (an_expr_keeps FunctionIs file M N [] x)
        (λ y e. (j.0, and_last (λ z. GE (expr_of M.after z)) m.defaults y j.1 (subst GE (sym e) h))))

    next_gives : (l : ParameterParts) (q : Parameter) → ParameterIs q → PartsAre l → Gives FunctionIs {A = ParameterParts} PartsAre (next_parameter file l q)
    unfolding next_parameter
    next_gives l (parameter.Plain n) h k = named_gives l n (formal.Plain (refer n (b.Local (length l.names)))) tt k
    next_gives l (parameter.Default n x) h k = default_gives l n x h k
    next_gives l parameter.BareStar h k = λ u fit. ((and_last FormalIs l.parameters formal.BareStar k.0 tt, k.1), fit)
    next_gives l (parameter.Star n) h k = named_gives l n (formal.Star (refer n (b.Local (length l.names)))) tt k
    next_gives l (parameter.StarStar n) h k = named_gives l n (formal.StarStar (refer n (b.Local (length l.names)))) tt k

    parameters_give : (ps : List Parameter) (l : ParameterParts) → AllByRecursion ParameterIs ps → PartsAre l → Gives FunctionIs {A = ParameterParts} PartsAre (parameters file l ps)
    unfolding parameters
    parameters_give [] l h k = λ u fit. (k, fit)
    parameters_give (q ∷ ps) l h k =
        gives_bind FunctionIs PartsAre PartsAre (next_parameter file l q) (λ m. parameters file m ps) (next_gives l q h.0 k) (λ m j. parameters_give ps m h.1 j)

    -- ---- functions

    with_gives : (name : Name) (ps : List Formal) → AllByRecursion FormalIs ps → (k : ℕ) (r : Result (List Stmt × Passed) (Fault NameFault)) → Giving FunctionIs {A = List Stmt} (λ ys. AllByRecursion (λ x. GD (stmt_of N.later x)) ys) r
        → Giving FunctionIs {A = ℕ} (λ _. Unit {0}) (with_function file name ps k r)
    with_gives name ps are k (Err why) h = tt
    with_gives name ps are k (Ok p) h = (tt, and_last (λ d. FunctionIs d) p.1.functions (record { name = name; parameters = ps; slots = p.1.slots; body = p.0 }) h.1 (are, h.0))

    function_gives : (name : Name) (ps : List Formal) → AllByRecursion FormalIs ps → (names : List Name) (body : List Stmt) → AllByRecursion (λ x. GD (stmt_of N.earlier x)) body
        → Gives FunctionIs {A = ℕ} (λ _. Unit {0}) (function file name ps names body)
    unfolding function
    function_gives name ps are names body h u fit =
        let block : BlockParts = record { base = 0; names = names } in
        with_gives name ps are u.slots (statements_in file names body (record u { slots = length names }))
        (gives_as FunctionIs {A = List Stmt} (λ ys. map (stmt_of N.later) ys ≡ map (stmt_of N.earlier) body) (λ ys. AllByRecursion (λ x. GD (stmt_of N.later x)) ys) (λ ys e. same_all (stmt_of N.later) (stmt_of N.earlier) GD body ys e h)
        (statements_in file names body) (gives_each FunctionIs (stmt_of N.later) (stmt_of N.earlier) (stmt_to file max_layers (block ∷ []) false) (stmt_keeps FunctionIs file M N max_layers (block ∷ []) false) [] body)
        (record u { slots = length names }) fit)

    -- ---- what is outside functions

    def_gives : (n : Identifier) (ps : List Parameter) (body : List Stmt) → AllByRecursion ParameterIs ps → AllByRecursion (λ x. GD (stmt_of N.earlier x)) body
        → Gives FunctionIs {A = Outside} OutsideIs (def_stmt file n ps body)
    unfolding def_stmt
    def_gives n ps body h k =
        let names : List Name = function_names ps body in
        gives_bind FunctionIs (Refers RefersToPlace n) OutsideIs (bound_at file [] n)
        (λ m. parameters file no_parameters ps >>= λ l. function file n.name l.parameters names body >>= λ k. pure (outside.Def (record { name = m; function = k; defaults = l.defaults })))
        (bound_keeps FunctionIs file [] n)
        (λ m refers. gives_bind FunctionIs PartsAre OutsideIs (parameters file no_parameters ps)
        (λ l. function file n.name l.parameters names body >>= λ k. pure (outside.Def (record { name = m; function = k; defaults = l.defaults }))) (parameters_give ps no_parameters h (tt, tt))
        (λ l j. gives_map FunctionIs (λ _. Unit {0}) OutsideIs (function file n.name l.parameters names body) (λ k. outside.Def (record { name = m; function = k; defaults = l.defaults }))
        (function_gives n.name l.parameters j.0 names body k) (λ k _. (subst (λ z. RefersToPlace z.referent) (sym refers.2) refers.1, j.1))))

    file_stmt_gives : (line : ℕ) (o : StmtLayer) → ParsedIs o → Gives FunctionIs {A = Outside} OutsideIs (file_stmt file line o)
    file_stmt_gives line (Stmt-F.Simple xs) h =
        gives_map FunctionIs (λ ys. map N.later.small_step ys ≡ map N.earlier.small_step xs) OutsideIs (each (small_stmt file [] false) [] xs) (λ ys. outside.Simple ys)
        (line_keeps FunctionIs file M N [] false xs) (λ ys e. same_all N.later.small_step N.earlier.small_step GW xs ys e h)
    file_stmt_gives line (Stmt-F.If bs zs) h = λ u fit. tt
    file_stmt_gives line (Stmt-F.For t x body) h = λ u fit. tt
    file_stmt_gives line (Stmt-F.Def n ps body) h = def_gives n ps body h.0 h.1

    top_level_gives : (t : TopLevel) → ParsedIs (out-Stmt t.statement) → Gives FunctionIs {A = FileLine} (λ l. OutsideIs l.statement) (top_level file t)
    unfolding top_level
    top_level_gives t h =
        gives_map FunctionIs OutsideIs (λ l. OutsideIs l.statement) (file_stmt file t.line (out-Stmt t.statement)) (λ x. record { line = t.line; statement = x })
        (file_stmt_gives t.line (out-Stmt t.statement) h) (λ x p. p)

  file_by : (file : FileParts) (r : Result (List FileLine × Passed) (Fault NameFault)) (z : ResolvedFile) → Giving FunctionIs {A = List FileLine} (λ ls. AllByRecursion (λ l. OutsideIs l.statement) ls) r
      → resolved_by file r ≡ Ok z → FileIs z
  file_by file (Err why) z h e = absurd (let no : ⊥ = cc in no)
  file_by file (Ok p) z h e =
      let made : ResolvedFile = record { statements = p.0; functions = p.1.functions; globals = file.globals; loads = p.1.loads } in
      let same : made ≡ z = cc in
      subst FileIs same h

  pub file_is : (universe : UniverseParts) (ts : List TopLevel) (z : ResolvedFile) → AllByRecursion (λ t. ParsedIs (out-Stmt t.statement)) ts → resolved universe ts ≡ Ok z → FileIs z
  unfolding resolved
  file_is universe ts z all e =
      let file : FileParts = file_names universe ts in
      file_by file (each (top_level file) [] ts nothing_passed) z
      (gives_every FunctionIs (λ l. OutsideIs l.statement) (λ t. ParsedIs (out-Stmt t.statement)) (top_level file) (top_level_gives file) [] ts tt all nothing_passed tt) e
