-- Functions have frames for all of their slots, and what stands outside functions needs none.
use Rattle.std.proofs.Common.{◌≡◌, ◌≤◌, ℕ, ◌+◌, Bool, true, false, List, [], ◌∷◌, ◌++◌, map, length, length-append, Result, Ok, Err, refl, sym, ap, ◌∙◌, subst, arith}
use Rattle.std.specs.Prelude.{if◌then◌else◌}
use Rattle.std.specs.List.{AllByRecursion}
use Rattle.bq_base.specs.declared.fault.NameFault.{NameFault}
use Rattle.bq_base.specs.declared.fault.Fault.{Fault}
use Rattle.bq_base.specs.declared.fault.NameFault.TheVariants as f
use Rattle.bq_base.specs.Fault.{fault_at}
use Rattle.bq_parse_grammar.specs.declared.tree.Branch.{Branch}
use Rattle.bq_parse_grammar.specs.declared.tree.Expr.{Expr}
use Rattle.bq_parse_grammar.specs.declared.tree.Identifier.{Identifier}
use Rattle.bq_parse_grammar.specs.declared.tree.Parameter.{Parameter}
use Rattle.bq_parse_grammar.specs.declared.tree.Parameter.TheVariants as parameter
use Rattle.bq_parse_grammar.specs.declared.tree.Stmt.{Stmt, out-Stmt}
use Rattle.bq_parse_grammar.specs.declared.tree.Stmt.TheOpen.{Stmt-F}
use Rattle.bq_parse_grammar.specs.declared.tree.TopLevel.{TopLevel}
use Rattle.bq_resolve_scope.specs.declared.file.Function.{Function}
use Rattle.bq_parse_grammar.specs.declared.tree.Referent.TheVariants as b
use Rattle.bq_resolve_scope.specs.declared.file.Formal.{Formal}
use Rattle.bq_resolve_scope.specs.declared.file.Formal.TheVariants as formal
use Rattle.bq_resolve_scope.specs.declared.file.FileLine.{FileLine}
use Rattle.bq_resolve_scope.specs.declared.file.Outside.{Outside}
use Rattle.bq_resolve_scope.specs.declared.file.Outside.TheVariants as s
use Rattle.bq_resolve_scope.specs.declared.file.ResolvedFile.{ResolvedFile}
use Rattle.bq_resolve_scope.specs.Names.{Name, max_layers, has, with_name, with_each, with_parameter, function_names}
use Rattle.bq_resolve_scope.specs.Scope.{BlockParts, FileParts}
use Rattle.bq_resolve_scope.specs.Visit.{Passed, Visit, ◌>>=◌, pure, stop, fault_of, each, nothing_passed}
use Rattle.bq_resolve_scope.specs.Expressions.{refer, bound_at}
use Rattle.bq_resolve_scope.specs.Statements.{ParameterParts, no_parameters, expr, small_stmt, stmt_to, named_parameter, default_parameter, next_parameter, parameters, statements_in, with_function, function}
use Rattle.bq_resolve_scope.specs.Files.{file_names, def_stmt, file_stmt, top_level, resolved_by, resolved}
use Rattle.bq_resolve_laws.specs.FrameSizes.{most, expr_slots, small_slots, stmt_slots, parameter_slots, FitsItsFrame, file_stmt_slots, top_level_slots, SlotsAreBelow, EverySlotIsBelow}
use Rattle.bq_resolve_laws.proofs.Needs.{Made, Needs, split, pure_is, needs_map, needs_stop, needs_all, most_more}
use Rattle.bq_resolve_laws.proofs.Uses.{name_slots, name_needs}
use Rattle.bq_resolve_laws.proofs.Growth.{parameters_among}
use Rattle.bq_resolve_laws.proofs.Statements.{an_expr_needs, small_needs, stmt_needs}

-- each function fits its frame
abbrev AllFit : List Function → Type 0
AllFit fs = AllByRecursion FitsItsFrame fs

all_more : (fs : List Function) (g : Function) → AllFit fs → FitsItsFrame g → AllFit (fs ++ g ∷ [])
all_more [] g all fits = (fits, tt)
all_more (x ∷ xs) g all fits = (all.0, all_more xs g all.1 fits)

-- ---- parameters: their slots are the first of the function, and their defaults lie outside it

-- the parameters are in the slots of their names, and the defaults have none
record Fitting (l : ParameterParts) : Type 0 where
  slots : most (map parameter_slots l.parameters) ≤ length l.names
  defaults : most (map expr_slots l.defaults) ≤ 0

-- after a parameter: these names, and no function more
record Next (l : ParameterParts) (names : List Name) (u t : Passed) (m : ParameterParts) : Type 0 where
  fitting : Fitting m
  bound : m.names ≡ names
  same : t.functions ≡ u.functions

added : (names : List Name) (name : Name) → has names name ≡ false → with_name names name ≡ names ++ name ∷ []
unfolding with_name
added names name h = rw h refl

named_by : (b : Bool) (why : Fault NameFault) (l m : ParameterParts) (n : Identifier) (x : Formal) (u t : Passed) → has l.names n.name ≡ b → parameter_slots x ≤ length l.names + 1 → Fitting l
    → (let go : Visit ParameterParts = if b then stop why else pure (record l { names = l.names ++ n.name ∷ []; parameters = l.parameters ++ x ∷ [] }) in go u) ≡ Ok (m, t)
    → Next l (with_name l.names n.name) u t m
named_by true why l m n x u t d small fits h = absurd (let no : ⊥ = cc in no)
named_by false why l m n x u t d small fits h =
    let z : ParameterParts = record l { names = l.names ++ n.name ∷ []; parameters = l.parameters ++ x ∷ [] } in
    let p : (z ≡ m) × (u ≡ t) = pure_is z m u t h in
    let k : most (map parameter_slots l.parameters) ≤ length l.names = fits.slots in
    let fit : Fitting z = record { slots = omega (arith, most_more parameter_slots l.parameters x, length-append l.names (n.name ∷ [])); defaults = fits.defaults } in
    record { fitting = subst (λ y. Fitting y) p.0 fit; bound = sym (ap (λ y. y.names) p.0) ∙ sym (added l.names n.name d); same = sym (ap (λ y. y.functions) p.1) }

module _ (file : FileParts) where
  named_fits : (l m : ParameterParts) (n : Identifier) (x : Formal) (u t : Passed) → parameter_slots x ≤ length l.names + 1 → Fitting l
      → named_parameter file l n x u ≡ Ok (m, t) → Next l (with_name l.names n.name) u t m
  unfolding named_parameter
  named_fits l m n x u t small fits h = named_by (has l.names n.name) (fault_of f.DoubleParameter n) l m n x u t refl small fits h

  default_fits : (l m : ParameterParts) (n : Identifier) (x : Expr) (u t : Passed) → Fitting l → default_parameter file l n x u ≡ Ok (m, t) → Next l (with_name l.names n.name) u t m
  unfolding default_parameter
  default_fits l m n x u t fits h =
      let a = split (named_parameter file l n (formal.Default (refer n (b.Local (length l.names))))) (λ z. expr file [] x >>= λ y. pure (record z { defaults = z.defaults ++ y ∷ [] })) u t m h in
      let named : Next l (with_name l.names n.name) u a.0.1 a.0.0 = named_fits l a.0.0 n (formal.Default (refer n (b.Local (length l.names)))) u a.0.1 (omega arith) fits a.1 in
      let b = split (expr file [] x) (λ y. pure (record a.0.0 { defaults = a.0.0.defaults ++ y ∷ [] })) a.0.1 t m a.2 in
      let made : Made expr_slots [] a.0.1 b.0.1 b.0.0 = an_expr_needs file [] x a.0.1 b.0.1 b.0.0 tt (omega arith) b.1 in
      let z : ParameterParts = record a.0.0 { defaults = a.0.0.defaults ++ b.0.0 ∷ [] } in
      let p : (z ≡ m) × (b.0.1 ≡ t) = pure_is z m b.0.1 t b.2 in
      let d : most (map expr_slots a.0.0.defaults) ≤ 0 = named.fitting.defaults in
      let k : expr_slots b.0.0 ≤ 0 = made.fits in
      let fit : Fitting z = record { slots = named.fitting.slots; defaults = omega (arith, most_more expr_slots a.0.0.defaults b.0.0) } in
      record { fitting = subst (λ y. Fitting y) p.0 fit; bound = sym (ap (λ y. y.names) p.0) ∙ named.bound; same = sym (ap (λ y. y.functions) p.1) ∙ made.same ∙ named.same }

  bare_fits : (l m : ParameterParts) (u t : Passed) → Fitting l → pure (record l { parameters = l.parameters ++ formal.BareStar ∷ [] }) u ≡ Ok (m, t) → Next l l.names u t m
  bare_fits l m u t fits h =
      let z : ParameterParts = record l { parameters = l.parameters ++ formal.BareStar ∷ [] } in
      let p : (z ≡ m) × (u ≡ t) = pure_is z m u t h in
      let k : most (map parameter_slots l.parameters) ≤ length l.names = fits.slots in
      let fit : Fitting z = record { slots = omega (arith, most_more parameter_slots l.parameters formal.BareStar); defaults = fits.defaults } in
      record { fitting = subst (λ y. Fitting y) p.0 fit; bound = sym (ap (λ y. y.names) p.0); same = sym (ap (λ y. y.functions) p.1) }

  next_fits : (l m : ParameterParts) (q : Parameter) (u t : Passed) → Fitting l → next_parameter file l q u ≡ Ok (m, t) → Next l (with_parameter l.names q) u t m
  unfolding next_parameter
  next_fits l m (parameter.Plain n) u t fits h = named_fits l m n (formal.Plain (refer n (b.Local (length l.names)))) u t (omega arith) fits h
  next_fits l m (parameter.Default n x) u t fits h = default_fits l m n x u t fits h
  next_fits l m parameter.BareStar u t fits h = bare_fits l m u t fits h
  next_fits l m (parameter.Star n) u t fits h = named_fits l m n (formal.Star (refer n (b.Local (length l.names)))) u t (omega arith) fits h
  next_fits l m (parameter.StarStar n) u t fits h = named_fits l m n (formal.StarStar (refer n (b.Local (length l.names)))) u t (omega arith) fits h

  parameters_fit : (ps : List Parameter) (l m : ParameterParts) (u t : Passed) → Fitting l → parameters file l ps u ≡ Ok (m, t) → Next l (with_each with_parameter l.names ps) u t m
  unfolding parameters
  parameters_fit [] l m u t fits h =
      let p : (l ≡ m) × (u ≡ t) = pure_is l m u t h in
      record { fitting = subst (λ y. Fitting y) p.0 fits; bound = sym (ap (λ y. y.names) p.0); same = sym (ap (λ y. y.functions) p.1) }
  parameters_fit (q ∷ ps) l m u t fits h =
      let a = split (next_parameter file l q) (λ z. parameters file z ps) u t m h in
      let one : Next l (with_parameter l.names q) u a.0.1 a.0.0 = next_fits l a.0.0 q u a.0.1 fits a.1 in
      let rest : Next a.0.0 (with_each with_parameter a.0.0.names ps) a.0.1 t m = parameters_fit ps a.0.0 m a.0.1 t one.fitting a.2 in
      record { fitting = rest.fitting; bound = rest.bound ∙ ap (λ ns. with_each with_parameter ns ps) one.bound; same = rest.same ∙ one.same }

  -- ---- functions

  function_by : (name : Name) (ps : List Formal) (names : List Name) (u t : Passed) (k : ℕ) → most (map parameter_slots ps) ≤ length names → AllFit u.functions
      → (r : Result (List Stmt × Passed) (Fault NameFault))
      → ((p : List Stmt × Passed) → r ≡ Ok p → Made (λ ys. most (map stmt_slots ys)) (record { base = 0; names = names } ∷ []) (record u { slots = length names }) p.1 p.0)
      → with_function file name ps u.slots r ≡ Ok (k, t) → AllFit t.functions
  function_by name ps names u t k small all (Err why) body h = absurd (let no : ⊥ = cc in no)
  function_by name ps names u t k small all (Ok p) body h =
      let made : Made (λ ys. most (map stmt_slots ys)) (record { base = 0; names = names } ∷ []) (record u { slots = length names }) p.1 p.0 = body p refl in
      let g : Function = record { name = name; parameters = ps; slots = p.1.slots; body = p.0 } in
      let kept : length names ≤ p.1.slots = made.kept in
      let fits : FitsItsFrame g = record { parameters = omega arith; body = made.fits } in
      let e : (length p.1.functions ≡ k) × (record p.1 { slots = u.slots; functions = p.1.functions ++ g ∷ [] } ≡ t) = pure_is (length p.1.functions) k (record p.1 { slots = u.slots; functions = p.1.functions ++ g ∷ [] }) t h in
      let all_there : AllFit p.1.functions = subst (λ fs. AllFit fs) (sym made.same) all in
      subst (λ z. AllFit z.functions) e.1 (all_more p.1.functions g all_there fits)

  function_fits : (name : Name) (ps : List Formal) (names : List Name) (body : List Stmt) (u t : Passed) (k : ℕ) → most (map parameter_slots ps) ≤ length names → AllFit u.functions
      → function file name ps names body u ≡ Ok (k, t) → AllFit t.functions
  unfolding function
  function_fits name ps names body u t k small all h =
      let block : BlockParts = record { base = 0; names = names } in
      function_by name ps names u t k small all (statements_in file names body (record u { slots = length names }))
      (λ p e. needs_all (block ∷ []) stmt_slots (stmt_to file max_layers (block ∷ []) false) (stmt_needs file max_layers (block ∷ []) false) body (record u { slots = length names }) p.1 p.0 (omega arith, tt) (omega arith) e)
      h

  -- ---- what stands outside functions

  -- what stands outside functions needs no slot, and all functions still fit
  record Stands {A : Type 0} (g : A → ℕ) (t : Passed) (x : A) : Type 0 where
    all : AllFit t.functions
    none : g x ≤ 0

  of_needs : {A : Type 0} (g : A → ℕ) (v : Visit A) → Needs [] 0 g v → (u t : Passed) (x : A) → AllFit u.functions → v u ≡ Ok (x, t) → Stands g t x
  of_needs g v needs u t x all h = let m : Made g [] u t x = needs u t x tt (omega arith) h in record { all = subst (λ fs. AllFit fs) (sym m.same) all; none = m.fits }

  def_fits : (n : Identifier) (ps : List Parameter) (body : List Stmt) (u t : Passed) (x : Outside) → AllFit u.functions → def_stmt file n ps body u ≡ Ok (x, t) → Stands file_stmt_slots t x
  unfolding def_stmt
  def_fits n ps body u t x all h =
      let names : List Name = function_names ps body in
      let a = split (bound_at file [] n) (λ z. parameters file no_parameters ps >>= λ l. function file n.name l.parameters names body >>= λ k. pure (s.Def (record { name = z; function = k; defaults = l.defaults }))) u t x h in
      let word : Made name_slots [] u a.0.1 a.0.0 = name_needs file [] n u a.0.1 a.0.0 tt (omega arith) a.1 in
      let b = split (parameters file no_parameters ps) (λ l. function file n.name l.parameters names body >>= λ k. pure (s.Def (record { name = a.0.0; function = k; defaults = l.defaults }))) a.0.1 t x a.2 in
      let rows : Next no_parameters (with_each with_parameter [] ps) a.0.1 b.0.1 b.0.0 = parameters_fit ps no_parameters b.0.0 a.0.1 b.0.1 (record { slots = omega arith; defaults = omega arith }) b.1 in
      let d = split (function file n.name b.0.0.parameters names body) (λ k. pure (s.Def (record { name = a.0.0; function = k; defaults = b.0.0.defaults }))) b.0.1 t x b.2 in
      let among : length (with_each with_parameter [] ps) ≤ length names = parameters_among ps body in
      let bound : length b.0.0.names ≡ length (with_each with_parameter [] ps) = ap length rows.bound in
      let small : most (map parameter_slots b.0.0.parameters) ≤ length b.0.0.names = rows.fitting.slots in
      let before : AllFit b.0.1.functions = subst (λ fs. AllFit fs) (sym (rows.same ∙ word.same)) all in
      let after : AllFit d.0.1.functions = function_fits n.name b.0.0.parameters names body b.0.1 d.0.1 d.0.0 (omega arith) before d.1 in
      let z : Outside = s.Def (record { name = a.0.0; function = d.0.0; defaults = b.0.0.defaults }) in
      let p : (z ≡ x) × (d.0.1 ≡ t) = pure_is z x d.0.1 t d.2 in
      let one : name_slots a.0.0 ≤ 0 = word.fits in
      let two : most (map expr_slots b.0.0.defaults) ≤ 0 = rows.fitting.defaults in
      record { all = subst (λ y. AllFit y.functions) {x = d.0.1} p.1 after; none = subst (λ y. file_stmt_slots y ≤ 0) {x = z} p.0 (omega arith) }

  file_stmt_fits : (line : ℕ) (o : Stmt-F Stmt Branch) (u t : Passed) (x : Outside) → AllFit u.functions → file_stmt file line o u ≡ Ok (x, t) → Stands file_stmt_slots t x
  file_stmt_fits line (Stmt-F.Simple xs) u t x all h =
      of_needs file_stmt_slots (each (small_stmt file [] false) [] xs >>= λ ys. pure (s.Simple ys))
      (needs_map [] 0 (λ ys. most (map small_slots ys)) file_stmt_slots (each (small_stmt file [] false) [] xs) (λ ys. s.Simple ys)
      (needs_all [] small_slots (small_stmt file [] false) (small_needs file [] false) xs) (λ ys. omega arith)) u t x all h
  file_stmt_fits line (Stmt-F.If bs zs) u t x all h = of_needs file_stmt_slots (stop (fault_at f.BadFlow line)) (needs_stop [] 0 file_stmt_slots (fault_at f.BadFlow line)) u t x all h
  file_stmt_fits line (Stmt-F.For y z body) u t x all h = of_needs file_stmt_slots (stop (fault_at f.BadFlow line)) (needs_stop [] 0 file_stmt_slots (fault_at f.BadFlow line)) u t x all h
  file_stmt_fits line (Stmt-F.Def n ps body) u t x all h = def_fits n ps body u t x all h

  top_level_fits : (i : TopLevel) (u t : Passed) (x : FileLine) → AllFit u.functions → top_level file i u ≡ Ok (x, t) → Stands top_level_slots t x
  unfolding top_level
  top_level_fits i u t x all h =
      let a = split (file_stmt file i.line (out-Stmt i.statement)) (λ y. pure (record { line = i.line; statement = y })) u t x h in
      let m : Stands file_stmt_slots a.0.1 a.0.0 = file_stmt_fits i.line (out-Stmt i.statement) u a.0.1 a.0.0 all a.1 in
      let z : FileLine = record { line = i.line; statement = a.0.0 } in
      let p : (z ≡ x) × (a.0.1 ≡ t) = pure_is z x a.0.1 t a.2 in
      record { all = subst (λ y. AllFit y.functions) p.1 m.all; none = subst (λ y. top_level_slots y ≤ 0) p.0 m.none }

  all_fit : (is : List TopLevel) (done xs : List FileLine) (u t : Passed) → AllFit u.functions → most (map top_level_slots done) ≤ 0 → each (top_level file) done is u ≡ Ok (xs, t)
      → Stands (λ ys. most (map top_level_slots ys)) t xs
  unfolding each
  all_fit [] done xs u t all none h =
      let p : (done ≡ xs) × (u ≡ t) = pure_is done xs u t h in
      record { all = subst (λ y. AllFit y.functions) p.1 all; none = subst (λ y. most (map top_level_slots y) ≤ 0) p.0 none }
  all_fit (i ∷ is) done xs u t all none h =
      let a = split (top_level file i) (λ y. each (top_level file) (done ++ y ∷ []) is) u t xs h in
      let m : Stands top_level_slots a.0.1 a.0.0 = top_level_fits i u a.0.1 a.0.0 all a.1 in
      let k : top_level_slots a.0.0 ≤ 0 = m.none in
      all_fit is (done ++ a.0.0 ∷ []) xs a.0.1 t m.all (omega (arith, most_more top_level_slots done a.0.0)) a.2

file_by : (file : FileParts) (r : Result (List FileLine × Passed) (Fault NameFault)) (x : ResolvedFile) → ((p : List FileLine × Passed) → r ≡ Ok p → Stands file (λ ys. most (map top_level_slots ys)) p.1 p.0)
    → resolved_by file r ≡ Ok x → SlotsAreBelow x
file_by file (Err why) x known h = absurd (let no : ⊥ = cc in no)
file_by file (Ok p) x known h =
    let z : ResolvedFile = record { statements = p.0; functions = p.1.functions; globals = file.globals; loads = p.1.loads } in
    let e : z ≡ x = cc in
    let m : Stands file (λ ys. most (map top_level_slots ys)) p.1 p.0 = known p refl in
    let n : most (map top_level_slots p.0) ≤ 0 = m.none in
    let below : SlotsAreBelow z = (m.all, omega arith) in
    subst (λ y. SlotsAreBelow y) e below

pub every_slot : EverySlotIsBelow
unfolding resolved
every_slot universe ts r h =
    let file : FileParts = file_names universe ts in
    file_by file (each (top_level file) [] ts nothing_passed) r (λ p e. all_fit file ts [] p.0 nothing_passed p.1 tt (omega arith) e) h
