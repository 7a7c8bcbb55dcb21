-- Files whose statements are not too deep have faults of names alone, so none is F11.
use Rattle.std.proofs.Common.{◌≡◌, ◌≤◌, ℕ, true, false, List, [], ◌∷◌, ◌++◌, map, length, Result, Ok, Err, subst, arith}
use Rattle.std.specs.List.{AllByRecursion}
use Rattle.bq_base.specs.declared.fault.NameFault.{NameFault}
use Rattle.bq_base.specs.declared.fault.Fault.{Fault}
use Rattle.bq_base.specs.declared.fault.NameFault.TheVariants as f
use Rattle.bq_parse_grammar.specs.declared.tree.Branch.{Branch}
use Rattle.bq_parse_grammar.specs.declared.tree.Expr.{Expr}
use Rattle.bq_parse_grammar.specs.declared.tree.Identifier.{Identifier}
use Rattle.bq_parse_grammar.specs.declared.tree.Parameter.{Parameter}
use Rattle.bq_parse_grammar.specs.declared.tree.Parameter.TheVariants as parameter
use Rattle.bq_parse_grammar.specs.declared.tree.Referent.TheVariants as b
use Rattle.bq_parse_grammar.specs.declared.tree.Stmt.{Stmt, out-Stmt}
use Rattle.bq_parse_grammar.specs.declared.tree.Stmt.TheOpen.{Stmt-F}
use Rattle.bq_parse_grammar.specs.declared.tree.TopLevel.{TopLevel}
use Rattle.bq_resolve_scope.specs.declared.file.Formal.{Formal}
use Rattle.bq_resolve_scope.specs.declared.file.Formal.TheVariants as formal
use Rattle.bq_resolve_scope.specs.declared.file.FileLine.{FileLine}
use Rattle.bq_resolve_scope.specs.declared.file.Outside.TheVariants as s
use Rattle.bq_resolve_scope.specs.Names.{Name, max_layers, has, function_names}
use Rattle.bq_resolve_scope.specs.Scope.{BlockParts, FileParts}
use Rattle.bq_resolve_scope.specs.Visit.{Passed, ◌>>=◌, pure, fault_of, each, nothing_passed}
use Rattle.bq_resolve_scope.specs.Expressions.{refer, bound_at}
use Rattle.bq_resolve_scope.specs.Statements.{ParameterParts, no_parameters, expr, small_stmt, stmt_to, named_parameter, default_parameter, next_parameter, parameters, statements_in, with_function, function}
use Rattle.bq_resolve_scope.specs.Universe.{UniverseParts}
use Rattle.bq_resolve_scope.specs.Files.{file_names, def_stmt, file_stmt, top_level, resolved_by, resolved}
use Rattle.bq_parse_laws.specs.Depth.{deepest, max_depth, expr_depth, parameter_depth, small_depth, stmt_depth}
use Rattle.bq_resolve_laws.specs.Depths.Nesting.{NoFileIsTooDeep}
use Rattle.bq_resolve_laws.proofs.Depths.Layers.{stmt_layer, opened_stmt}
use Rattle.bq_resolve_laws.proofs.Depths.Calm.{is_of_names, IsCalm, Calm, flow_is_named, double_is_named, calm_bind, calm_map, calm_choice, calm_each}
use Rattle.bq_resolve_laws.proofs.Depths.Expressions.{name_calm}
use Rattle.bq_resolve_laws.proofs.Depths.Statements.{an_expr_calm, small_calm, stmt_calm}

-- there are enough layers
enough : max_depth ≤ max_layers
unfolding max_layers
enough = omega arith

module _ (file : FileParts) where
  -- ---- parameters

  named_calm : (l : ParameterParts) (n : Identifier) (x : Formal) → Calm (named_parameter file l n x)
  unfolding named_parameter
  named_calm l n x u =
      calm_choice (has l.names n.name) (fault_of f.DoubleParameter n) (record l { names = l.names ++ n.name ∷ []; parameters = l.parameters ++ x ∷ [] }) u double_is_named

  default_calm : (l : ParameterParts) (n : Identifier) (x : Expr) → expr_depth x ≤ max_layers → Calm (default_parameter file l n x)
  unfolding default_parameter
  default_calm l n x h =
      let own : Formal = formal.Default (refer n (b.Local (length l.names))) in
      calm_bind (named_parameter file l n own) (λ m. expr file [] x >>= λ y. pure (record m { defaults = m.defaults ++ y ∷ [] }))
      (named_calm l n own) (λ m. calm_map (expr file [] x) (λ y. record m { defaults = m.defaults ++ y ∷ [] }) (an_expr_calm file [] x h))

  next_calm : (l : ParameterParts) (q : Parameter) → parameter_depth q ≤ max_layers → Calm (next_parameter file l q)
  unfolding next_parameter
  next_calm l (parameter.Plain n) h = named_calm l n (formal.Plain (refer n (b.Local (length l.names))))
  next_calm l (parameter.Default n x) h = default_calm l n x h
  next_calm l parameter.BareStar h = λ u. tt
  next_calm l (parameter.Star n) h = named_calm l n (formal.Star (refer n (b.Local (length l.names))))
  next_calm l (parameter.StarStar n) h = named_calm l n (formal.StarStar (refer n (b.Local (length l.names))))

  parameters_calm : (ps : List Parameter) (l : ParameterParts) → deepest (map parameter_depth ps) ≤ max_layers → Calm (parameters file l ps)
  unfolding parameters
  parameters_calm [] l h = λ u. tt
  parameters_calm (q ∷ ps) l h =
      let a : parameter_depth q ≤ max_layers = omega arith in
      let b : deepest (map parameter_depth ps) ≤ max_layers = omega arith in
      calm_bind (next_parameter file l q) (λ m. parameters file m ps) (next_calm l q a) (λ m. parameters_calm ps m b)

  -- ---- functions

  with_calm : (name : Name) (ps : List Formal) (k : ℕ) (r : Result (List Stmt × Passed) (Fault NameFault)) → IsCalm {A = List Stmt} r → IsCalm {A = ℕ} (with_function file name ps k r)
  with_calm name ps k (Err why) h = h
  with_calm name ps k (Ok p) h = tt

  function_calm : (name : Name) (ps : List Formal) (names : List Name) (body : List Stmt) → deepest (map stmt_depth body) ≤ max_layers → Calm (function file name ps names body)
  unfolding function
  function_calm name ps names body h u =
      let block : BlockParts = record { base = 0; names = names } in
      with_calm name ps u.slots (statements_in file names body (record u { slots = length names }))
      (calm_each stmt_depth max_layers (stmt_to file max_layers (block ∷ []) false) (stmt_calm file max_layers (omega arith) (block ∷ []) false) [] body h (record u { slots = length names }))

  -- ---- what stands outside functions

  def_calm : (n : Identifier) (ps : List Parameter) (body : List Stmt) → deepest (map parameter_depth ps) ≤ max_layers → deepest (map stmt_depth body) ≤ max_layers → Calm (def_stmt file n ps body)
  unfolding def_stmt
  def_calm n ps body h k =
      let names : List Name = function_names ps body in
      calm_bind (bound_at file [] n) (λ m. parameters file no_parameters ps >>= λ l. function file n.name l.parameters names body >>= λ k. pure (s.Def (record { name = m; function = k; defaults = l.defaults })))
      (name_calm file [] n)
      (λ m. calm_bind (parameters file no_parameters ps) (λ l. function file n.name l.parameters names body >>= λ k. pure (s.Def (record { name = m; function = k; defaults = l.defaults })))
      (parameters_calm ps no_parameters h)
      (λ l. calm_map (function file n.name l.parameters names body) (λ k. s.Def (record { name = m; function = k; defaults = l.defaults })) (function_calm n.name l.parameters names body k)))

  file_stmt_calm : (line : ℕ) (o : Stmt-F Stmt Branch) → stmt_layer o ≤ max_layers → Calm (file_stmt file line o)
  file_stmt_calm line (Stmt-F.Simple xs) h =
      calm_map (each (small_stmt file [] false) [] xs) (λ ys. s.Simple ys) (calm_each small_depth max_layers (small_stmt file [] false) (small_calm file [] false) [] xs (omega arith))
  file_stmt_calm line (Stmt-F.If bs zs) h = λ u. flow_is_named
  file_stmt_calm line (Stmt-F.For t x body) h = λ u. flow_is_named
  file_stmt_calm line (Stmt-F.Def n ps body) h = def_calm n ps body (omega arith) (omega arith)

  top_level_calm : (t : TopLevel) → stmt_depth t.statement ≤ max_layers → Calm (top_level file t)
  unfolding top_level
  top_level_calm t h =
      calm_map (file_stmt file t.line (out-Stmt t.statement)) (λ x. record { line = t.line; statement = x })
      (file_stmt_calm t.line (out-Stmt t.statement) (omega (arith, opened_stmt t.statement)))

  all_calm : (ts : List TopLevel) (done : List FileLine) → AllByRecursion (λ t. stmt_depth t.statement ≤ max_depth) ts → Calm (each (top_level file) done ts)
  unfolding each
  all_calm [] done all = λ u. tt
  all_calm (t ∷ ts) done all =
      let a : stmt_depth t.statement ≤ max_depth = all.0 in
      calm_bind (top_level file t) (λ y. each (top_level file) (done ++ y ∷ []) ts) (top_level_calm t (omega (arith, enough))) (λ y. all_calm ts (done ++ y ∷ []) all.1)

file_by : (file : FileParts) (r : Result (List FileLine × Passed) (Fault NameFault)) (why : Fault NameFault) → IsCalm {A = List FileLine} r → resolved_by file r ≡ Err why → is_of_names why.kind ≡ true
file_by file (Err w) why h e =
    let same : w ≡ why = cc in
    let P : Fault NameFault → Type 0 = λ z. is_of_names z.kind ≡ true in subst P same h
file_by file (Ok p) why h e = absurd (let no : ⊥ = cc in no)

all_of_names : (universe : UniverseParts) (ts : List TopLevel) (why : Fault NameFault) → AllByRecursion (λ t. stmt_depth t.statement ≤ max_depth) ts → resolved universe ts ≡ Err why → is_of_names why.kind ≡ true
unfolding resolved
all_of_names universe ts why all e =
    let file : FileParts = file_names universe ts in
    file_by file (each (top_level file) [] ts nothing_passed) why (all_calm file ts [] all nothing_passed) e

pub none_too_deep : NoFileIsTooDeep
none_too_deep universe ts why all e same =
    let named = subst (λ kind. is_of_names kind ≡ true) same (all_of_names universe ts why all e) in
    absurd (let no : ⊥ = cc in no)
