-- The functions of a file share slots as their `def`s share names and blocks.
use Rattle.std.proofs.Common.{◌≡◌, ◌∙◌, ℕ, Bool, true, false, List, [], ◌∷◌, ◌++◌, map, length, Some, Result, Ok, Err, refl, sym, ap, subst, append_assoc, arith}
use Rattle.std.specs.Prelude.{if◌then◌else◌, ◌&&◌}
use Rattle.std.proofs.lemmas.List.{append-nil}
use Rattle.bq_base.specs.declared.fault.NameFault.{NameFault}
use Rattle.bq_base.specs.declared.fault.Fault.{Fault}
use Rattle.bq_base.specs.declared.fault.NameFault.TheVariants as f
use Rattle.bq_base.specs.Fault.{fault_at}
use Rattle.bq_parse_grammar.specs.declared.tree.Branch.{Branch}
use Rattle.bq_parse_grammar.specs.declared.tree.Expr.{Expr}
use Rattle.bq_parse_grammar.specs.declared.tree.Identifier.{Identifier}
use Rattle.bq_parse_grammar.specs.declared.tree.Load.{Load}
use Rattle.bq_parse_grammar.specs.declared.tree.LoadClause.{LoadClause}
use Rattle.bq_parse_grammar.specs.declared.tree.Parameter.{Parameter}
use Rattle.bq_parse_grammar.specs.declared.tree.Parameter.TheVariants as parameter
use Rattle.bq_parse_grammar.specs.declared.tree.Referent.{Referent}
use Rattle.bq_parse_grammar.specs.declared.tree.Referent.TheVariants as b
use Rattle.bq_parse_grammar.specs.declared.tree.SmallKind.{SmallKind}
use Rattle.bq_parse_grammar.specs.declared.tree.SmallKind.TheVariants as small
use Rattle.bq_parse_grammar.specs.declared.tree.SmallStmt.{SmallStmt}
use Rattle.bq_parse_grammar.specs.declared.tree.Stmt.{Stmt, out-Stmt}
use Rattle.bq_parse_grammar.specs.declared.tree.Stmt.TheOpen.{Stmt-F}
use Rattle.bq_parse_grammar.specs.declared.tree.TopLevel.{TopLevel}
use Rattle.bq_resolve_scope.specs.declared.file.Function.{Function}
use Rattle.bq_resolve_scope.specs.declared.file.Formal.{Formal}
use Rattle.bq_resolve_scope.specs.declared.file.Formal.TheVariants as formal
use Rattle.bq_resolve_scope.specs.declared.file.FileLine.{FileLine}
use Rattle.bq_resolve_scope.specs.declared.file.Outside.{Outside}
use Rattle.bq_resolve_scope.specs.declared.file.Outside.TheVariants as s
use Rattle.bq_resolve_scope.specs.declared.loads.LoadedSymbol.{LoadedSymbol}
use Rattle.bq_resolve_scope.specs.declared.file.ResolvedFile.{ResolvedFile}
use Rattle.bq_resolve_scope.specs.Expressions.{is_bzl, bound_at, place_of, refer}
use Rattle.bq_resolve_scope.specs.Files.{def_stmt, file_names, file_stmt, resolved, resolved_by, top_level}
use Rattle.bq_resolve_scope.specs.Names.{Name, function_names, has, max_layers, with_name}
use Rattle.bq_resolve_scope.specs.Scope.{BlockParts, FileParts, use_of}
use Rattle.bq_resolve_scope.specs.Statements.{ParameterParts, assign, augment, default_parameter, expr, function, in_loop, load, load_clause, load_in, named_parameter, next_parameter, no_parameters, parameters, returned, small_by, small_stmt, statements_in, stmt_to, with_function, with_load}
use Rattle.bq_resolve_scope.specs.Visit.{Passed, Visit, following, ◌>>=◌, each, fault_of, nothing_passed, pure, stop}
use Rattle.bq_resolve_laws.specs.Resolution.{ExprIs, InOrder, StmtTo, kind_is}
use Rattle.bq_resolve_laws.proofs.Makes.{Making, Makes, makes_all}
use Rattle.bq_resolve_laws.proofs.ResolvedExpressions.{name_makes}
use Rattle.bq_resolve_laws.proofs.ResolvedStatements.{an_expr_makes, assign_makes, augment_makes, in_loop_makes, returned_makes, stmt_makes}
use Rattle.bq_resolve_laws.specs.Slots.Sharing.{AreShared, SharesSlots, SlotsAreShared, WrittenDef, def_by, defs_of}
use Rattle.bq_resolve_laws.specs.Slots.Slots.{all, stmt_slots}
use Rattle.bq_resolve_laws.specs.Slots.Uses as uses
use Rattle.bq_resolve_laws.specs.Slots.Uses.{Block, body_uses, own_block}
use Rattle.bq_resolve_laws.proofs.Slots.Lists.{Fits, ended, lists_all, no_fault}
use Rattle.bq_resolve_laws.proofs.Slots.Opened.{in_order_append}
use Rattle.bq_resolve_laws.proofs.Slots.Shared.{are_shared}
use Rattle.bq_resolve_laws.proofs.Slots.Statements.{stmt_lists}

-- ---- walks that add no function

split_by : {A B : Type 0} (go : A → Visit B) (t : Passed) (y : B) (r : Result (A × Passed) (Fault NameFault)) → following r go ≡ Ok (y, t) → (p : A × Passed) × (r ≡ Ok p) × (go p.0 p.1 ≡ Ok (y, t))
split_by {A} {B} go t y (Err why) h = absurd (no_fault {A = B} why (y, t) h)
split_by go t y (Ok p) h = (p, refl, h)

-- a walk after another: where the first ended
split : {A B : Type 0} (v : Visit A) (go : A → Visit B) (u t : Passed) (y : B) → (v >>= go) u ≡ Ok (y, t) → (p : A × Passed) × (v u ≡ Ok p) × (go p.0 p.1 ≡ Ok (y, t))
split v go u t y h = split_by go t y (v u) h

-- where a walk that only makes something ends
pure_is : {A : Type 0} (x y : A) (u t : Passed) → pure x u ≡ Ok (y, t) → (x ≡ y) × (u ≡ t)
pure_is {A = A} x y u t h = let p : (x, u) ≡ (y, t) = ended {A = A} (x, u) (y, t) h in (ap (λ (z : A × Passed). z.0) p, ap (λ (z : A × Passed). z.1) p)

abbrev Quiet : {A : Type 0} → Visit A → Type 0
Quiet {A = A} v = (u t : Passed) (x : A) → v u ≡ Ok (x, t) → t.functions ≡ u.functions

quiet_makes : {A : Type 0} (P : A → Type 0) (v : Visit A) → Makes {A = A} P v → Quiet {A = A} v
quiet_makes {A = A} P v makes u t x h = (subst (λ (r : Result (A × Passed) (Fault NameFault)). Making {A = A} P u r) h (makes u)).1

quiet_pure : {A : Type 0} (x : A) → Quiet {A = A} (pure x)
quiet_pure x u t y h = sym (ap (λ (z : Passed). z.functions) (pure_is x y u t h).1)

quiet_stop : {A : Type 0} (why : Fault NameFault) → Quiet {A = A} (stop why)
quiet_stop {A = A} why u t x h = absurd (no_fault {A = A} why (x, t) h)

quiet_bind : {A B : Type 0} (v : Visit A) (go : A → Visit B) → Quiet {A = A} v → ((x : A) → Quiet {A = B} (go x)) → Quiet {A = B} (v >>= go)
quiet_bind v go first next u t y h = let p = split v go u t y h in next p.0.0 p.0.1 t y p.2 ∙ first u p.0.1 p.0.0 p.1

quiet_each : {A B : Type 0} (one : B → Visit A) → ((x : B) → Quiet {A = A} (one x)) → (done : List A) (xs : List B) → Quiet {A = List A} (each one done xs)
unfolding each
quiet_each one ones done [] = quiet_pure done
quiet_each one ones done (x ∷ xs) = quiet_bind (one x) (λ y. each one (done ++ y ∷ []) xs) (ones x) (λ y. quiet_each one ones (done ++ y ∷ []) xs)

module _ (file : FileParts) where
  -- ---- small statements

  clause_by : (b d : Bool) (why rebound : Fault NameFault) (l : LoadedSymbol) (names : List Name) (u t : Passed) (x : LoadedSymbol) → (let r : Result (LoadedSymbol × Passed) (Fault NameFault) = if b then Err why else (if d then Err rebound else Ok (l, record u { loaded = names })) in r ≡ Ok (x, t)) → t.functions ≡ u.functions
  clause_by true d why rebound l names u t x h = absurd (no_fault {A = LoadedSymbol} why (x, t) h)
  clause_by false true why rebound l names u t x h = absurd (no_fault {A = LoadedSymbol} rebound (x, t) h)
  clause_by false false why rebound l names u t x h = sym (ap (λ (z : LoadedSymbol × Passed). z.1.functions) (ended {A = LoadedSymbol} (l, record u { loaded = names }) (x, t) h))

  clause_quiet : (x : LoadClause) → Quiet {A = LoadedSymbol} (load_clause file x)
  unfolding load_clause
  clause_quiet x u t y h =
      clause_by (has u.loaded x.local.name) (is_bzl file.universe.kind && has u.bound x.local.name) (fault_of f.BoundTwice x.local) (fault_of f.Rebound x.local) _ (with_name u.loaded x.local.name) u t y h

  kept_quiet : (line : ℕ) (l : Load) (xs : List LoadedSymbol) → Quiet {A = Unit {0}} (with_load file line l xs)
  kept_quiet line l xs u t y h = sym (ap (λ (z : Unit {0} × Passed). z.1.functions) (ended {A = Unit {0}} (tt, record u { loads = u.loads ++ record { label = l.label; line = line; clauses = xs } ∷ [] }) (y, t) h))

  load_quiet : (line : ℕ) (l : Load) → Quiet {A = SmallKind} (load file line l)
  unfolding load
  load_quiet line l =
      quiet_bind (each (load_clause file) [] l.clauses) (λ xs. with_load file line l xs >>= λ _. pure (small.Load l)) (quiet_each (load_clause file) clause_quiet [] l.clauses)
      (λ xs. quiet_bind (with_load file line l xs) (λ _. pure (small.Load l)) (kept_quiet line l xs) (λ _. quiet_pure (small.Load l)))

  an_expr_quiet : (x : Expr) → Quiet {A = Expr} (expr file [] x)
  an_expr_quiet x = quiet_makes (ExprIs file [] x) (expr file [] x) (an_expr_makes file [] x)

  small_by_quiet : (line : ℕ) (k : SmallKind) → Quiet {A = SmallKind} (small_by file [] false line k)
  unfolding load_in
  small_by_quiet line (small.Expr x) = quiet_bind (expr file [] x) (λ y. pure (small.Expr y)) (an_expr_quiet x) (λ y. quiet_pure (small.Expr y))
  small_by_quiet line (small.Assign t x) = quiet_makes (kind_is file [] (small.Assign t x)) (assign file [] t x) (assign_makes file [] t x)
  small_by_quiet line (small.Augment t o x) = quiet_makes (kind_is file [] (small.Augment t o x)) (augment file [] t o x) (augment_makes file [] t o x)
  small_by_quiet line (small.Return x) = quiet_makes (kind_is file [] (small.Return x)) (returned file [] line x) (returned_makes file [] line x)
  small_by_quiet line small.Break = quiet_makes (λ (z : SmallKind). z ≡ small.Break) (in_loop file false line small.Break) (in_loop_makes file false line small.Break)
  small_by_quiet line small.Continue = quiet_makes (λ (z : SmallKind). z ≡ small.Continue) (in_loop file false line small.Continue) (in_loop_makes file false line small.Continue)
  small_by_quiet line small.Pass = quiet_pure small.Pass
  small_by_quiet line (small.Load l) = load_quiet line l

  small_quiet : (x : SmallStmt) → Quiet {A = SmallStmt} (small_stmt file [] false x)
  unfolding small_stmt
  small_quiet x = quiet_bind (small_by file [] false x.line x.kind) (λ k. pure (record x { kind = k })) (small_by_quiet x.line x.kind) (λ k. quiet_pure (record x { kind = k }))

  -- ---- parameters

  named_by : (b : Bool) (why : Fault NameFault) (l : ParameterParts) → (let go : Visit ParameterParts = if b then stop why else pure l in Quiet {A = ParameterParts} go)
  named_by true why l = quiet_stop {A = ParameterParts} why
  named_by false why l = quiet_pure l

  named_quiet : (l : ParameterParts) (n : Identifier) (x : Formal) → Quiet {A = ParameterParts} (named_parameter file l n x)
  unfolding named_parameter
  named_quiet l n x = named_by (has l.names n.name) (fault_of f.DoubleParameter n) (record l { names = l.names ++ n.name ∷ []; parameters = l.parameters ++ x ∷ [] })

  default_quiet : (l : ParameterParts) (n : Identifier) (x : Expr) → Quiet {A = ParameterParts} (default_parameter file l n x)
  unfolding default_parameter
  default_quiet l n x =
      let own : Formal = formal.Default (refer n (b.Local (length l.names))) in
      quiet_bind (named_parameter file l n own) (λ m. expr file [] x >>= λ y. pure (record m { defaults = m.defaults ++ y ∷ [] })) (named_quiet l n own)
      (λ m. quiet_bind (expr file [] x) (λ y. pure (record m { defaults = m.defaults ++ y ∷ [] })) (an_expr_quiet x) (λ y. quiet_pure (record m { defaults = m.defaults ++ y ∷ [] })))

  next_quiet : (l : ParameterParts) (q : Parameter) → Quiet {A = ParameterParts} (next_parameter file l q)
  unfolding next_parameter
  next_quiet l (parameter.Plain n) = named_quiet l n (formal.Plain (refer n (b.Local (length l.names))))
  next_quiet l (parameter.Default n x) = default_quiet l n x
  next_quiet l parameter.BareStar = quiet_pure (record l { parameters = l.parameters ++ formal.BareStar ∷ [] })
  next_quiet l (parameter.Star n) = named_quiet l n (formal.Star (refer n (b.Local (length l.names))))
  next_quiet l (parameter.StarStar n) = named_quiet l n (formal.StarStar (refer n (b.Local (length l.names))))

  parameters_quiet : (ps : List Parameter) (l : ParameterParts) → Quiet {A = ParameterParts} (parameters file l ps)
  unfolding parameters
  parameters_quiet [] l = quiet_pure l
  parameters_quiet (q ∷ ps) l = quiet_bind (next_parameter file l q) (λ m. parameters file m ps) (next_quiet l q) (λ m. parameters_quiet ps m)

  -- ---- functions

  body_shares : (names : List Name) (body : List Stmt) (u t : Passed) (ys : List Stmt) → statements_in file names body (record u { slots = length names }) ≡ Ok (ys, t) → AreShared (all (map stmt_slots ys)) (body_uses names body)
  unfolding uses.body_uses
  body_shares names body u t ys h =
      let block : BlockParts = record { base = 0; names = names } in
      let r : Block = own_block names in
      let begun : Passed = record u { slots = length names } in
      let fits : Fits (block ∷ []) begun (r ∷ []) (block ∷ []) = record { stacked = (refl, omega arith); round = (refl, refl, tt) } in
      let made = lists_all (r ∷ []) (block ∷ []) stmt_slots (uses.stmt_to max_layers (r ∷ [])) (stmt_to file max_layers (block ∷ []) false) (stmt_lists file max_layers (r ∷ []) (block ∷ []) false) body (block ∷ []) begun t ys tt fits h in
      let us = (uses.all (uses.stmt_to max_layers (r ∷ [])) body 1).0 in
      subst (λ (ns : List ℕ). AreShared ns us) (sym made.1) (are_shared ((block ∷ []) ++ made.2.more) t.slots made.2.stacked us made.0 made.2.are)

  abbrev Adds : WrittenDef → Passed → Passed → Type 0
  Adds d u t = (g : Function) × SharesSlots d g × (t.functions ≡ u.functions ++ g ∷ [])

  function_by : (name : Name) (rows : List Formal) (ps : List Parameter) (body : List Stmt) (u t : Passed) (k : ℕ) (r : Result (List Stmt × Passed) (Fault NameFault))
      → statements_in file (function_names ps body) body (record u { slots = length (function_names ps body) }) ≡ r → with_function file name rows u.slots r ≡ Ok (k, t) → Adds (record { parameters = ps; body = body }) u t
  function_by name rows ps body u t k (Err why) d h = absurd (no_fault {A = ℕ} why (k, t) h)
  function_by name rows ps body u t k (Ok p) d h =
      let block : BlockParts = record { base = 0; names = function_names ps body } in
      let begun : Passed = record u { slots = length (function_names ps body) } in
      let quiet : p.1.functions ≡ u.functions =
      quiet_makes (λ ys. InOrder (StmtTo file max_layers (block ∷ [])) body ys) (statements_in file (function_names ps body) body)
      (makes_all (StmtTo file max_layers (block ∷ [])) (stmt_to file max_layers (block ∷ []) false) (stmt_makes file max_layers block [] false) body) begun p.1 p.0 d in
      let g : Function = record { name = name; parameters = rows; slots = p.1.slots; body = p.0 } in
      let e = pure_is (length p.1.functions) k (record p.1 { slots = u.slots; functions = p.1.functions ++ g ∷ [] }) t h in
      (g, body_shares (function_names ps body) body u p.1 p.0 d, sym (ap (λ (z : Passed). z.functions) e.1) ∙ ap (λ (fs : List Function). fs ++ g ∷ []) quiet)

  function_adds : (name : Name) (rows : List Formal) (ps : List Parameter) (body : List Stmt) (u t : Passed) (k : ℕ) → function file name rows (function_names ps body) body u ≡ Ok (k, t)
      → Adds (record { parameters = ps; body = body }) u t
  unfolding function
  function_adds name rows ps body u t k h = function_by name rows ps body u t k (statements_in file (function_names ps body) body (record u { slots = length (function_names ps body) })) refl h

  -- walks around it add none
  adds_between : (d : WrittenDef) (u v w t : Passed) → v.functions ≡ u.functions → Adds d v w → w ≡ t → Adds d u t
  adds_between d u v w t before added after =
      (added.0, added.1, sym (ap (λ (z : Passed). z.functions) after) ∙ (added.2 ∙ ap (λ (fs : List Function). fs ++ added.0 ∷ []) before))

  def_adds : (n : Identifier) (ps : List Parameter) (body : List Stmt) (u t : Passed) (x : Outside) → def_stmt file n ps body u ≡ Ok (x, t) → Adds (record { parameters = ps; body = body }) u t
  unfolding def_stmt
  def_adds n ps body u t x h =
      let names : List Name = function_names ps body in
      let a = split (bound_at file [] n) (λ z. parameters file no_parameters ps >>= λ l. function file n.name l.parameters names body >>= λ k. pure (s.Def (record { name = z; function = k; defaults = l.defaults }))) u t x h in
      let b = split (parameters file no_parameters ps) (λ l. function file n.name l.parameters names body >>= λ k. pure (s.Def (record { name = a.0.0; function = k; defaults = l.defaults }))) a.0.1 t x a.2 in
      let d = split (function file n.name b.0.0.parameters names body) (λ k. pure (s.Def (record { name = a.0.0; function = k; defaults = b.0.0.defaults }))) b.0.1 t x b.2 in
      let first : a.0.1.functions ≡ u.functions = quiet_makes (λ m. (y : Referent) × (place_of (use_of file [] n.name) ≡ Some y) × (m ≡ refer n y)) (bound_at file [] n) (name_makes file [] n) u a.0.1 a.0.0 a.1 in
      let second : b.0.1.functions ≡ a.0.1.functions = parameters_quiet ps no_parameters a.0.1 b.0.1 b.0.0 b.1 in
      let last : d.0.1 ≡ t = (pure_is (s.Def (record { name = a.0.0; function = d.0.0; defaults = b.0.0.defaults })) x d.0.1 t d.2).1 in
      adds_between (record { parameters = ps; body = body }) u b.0.1 d.0.1 t (second ∙ first) (function_adds n.name b.0.0.parameters ps body b.0.1 d.0.1 d.0.0 d.1) last

  -- ---- what stands outside functions

  abbrev Share : List WrittenDef → Passed → Type 0
  Share ds u = InOrder SharesSlots ds u.functions

  no_def : (ds : List WrittenDef) (u t : Passed) → Share ds u → t.functions ≡ u.functions → Share (ds ++ []) t
  no_def ds u t h same = subst (λ (fs : List Function). InOrder SharesSlots (ds ++ []) fs) (sym same) (subst (λ (es : List WrittenDef). InOrder SharesSlots es u.functions) (sym (append-nil ds)) h)

  a_def : (ds : List WrittenDef) (d : WrittenDef) (u t : Passed) → Share ds u → Adds d u t → Share (ds ++ d ∷ []) t
  a_def ds d u t h added = subst (λ (fs : List Function). InOrder SharesSlots (ds ++ d ∷ []) fs) (sym added.2) (in_order_append SharesSlots ds (d ∷ []) u.functions (added.0 ∷ []) h (added.1, tt))

  stmt_shares : (line : ℕ) (o : Stmt-F Stmt Branch) (ds : List WrittenDef) (u t : Passed) (x : Outside) → Share ds u → file_stmt file line o u ≡ Ok (x, t) → Share (ds ++ def_by o) t
  stmt_shares line (Stmt-F.Simple xs) ds u t x h e =
      no_def ds u t h (quiet_bind (each (small_stmt file [] false) [] xs) (λ ys. pure (s.Simple ys)) (quiet_each (small_stmt file [] false) small_quiet [] xs) (λ ys. quiet_pure (s.Simple ys)) u t x e)
  stmt_shares line (Stmt-F.If bs zs) ds u t x h e = absurd (no_fault {A = Outside} (fault_at f.BadFlow line) (x, t) e)
  stmt_shares line (Stmt-F.For y z body) ds u t x h e = absurd (no_fault {A = Outside} (fault_at f.BadFlow line) (x, t) e)
  stmt_shares line (Stmt-F.Def n ps body) ds u t x h e = a_def ds (record { parameters = ps; body = body }) u t h (def_adds n ps body u t x e)

  top_shares : (i : TopLevel) (ds : List WrittenDef) (u t : Passed) (x : FileLine) → Share ds u → top_level file i u ≡ Ok (x, t) → Share (ds ++ def_by (out-Stmt i.statement)) t
  unfolding top_level
  top_shares i ds u t x h e =
      let a = split (file_stmt file i.line (out-Stmt i.statement)) (λ y. pure (record { line = i.line; statement = y })) u t x e in
      let last : a.0.1 ≡ t = (pure_is (record { line = i.line; statement = a.0.0 }) x a.0.1 t a.2).1 in
      subst (λ (z : Passed). Share (ds ++ def_by (out-Stmt i.statement)) z) last (stmt_shares i.line (out-Stmt i.statement) ds u a.0.1 a.0.0 h a.1)

  all_share : (is : List TopLevel) (done xs : List FileLine) (ds : List WrittenDef) (u t : Passed) → Share ds u → each (top_level file) done is u ≡ Ok (xs, t) → Share (ds ++ defs_of is) t
  unfolding each
  all_share [] done xs ds u t h e = no_def ds u t h (sym (ap (λ (z : Passed). z.functions) (pure_is done xs u t e).1))
  all_share (i ∷ is) done xs ds u t h e =
      let a = split (top_level file i) (λ y. each (top_level file) (done ++ y ∷ []) is) u t xs e in
      let one : Share (ds ++ def_by (out-Stmt i.statement)) a.0.1 = top_shares i ds u a.0.1 a.0.0 h a.1 in
      subst (λ (es : List WrittenDef). Share es t) (append_assoc ds (def_by (out-Stmt i.statement)) (defs_of is)) (all_share is (done ++ a.0.0 ∷ []) xs (ds ++ def_by (out-Stmt i.statement)) a.0.1 t one a.2)

file_by : (file : FileParts) (ts : List TopLevel) (r : Result (List FileLine × Passed) (Fault NameFault)) (x : ResolvedFile) → ((p : List FileLine × Passed) → r ≡ Ok p → InOrder SharesSlots (defs_of ts) p.1.functions)
    → resolved_by file r ≡ Ok x → InOrder SharesSlots (defs_of ts) x.functions
file_by file ts (Err why) x known h = absurd (let no : ⊥ = cc in no)
file_by file ts (Ok p) x known h =
    let z : ResolvedFile = record { statements = p.0; functions = p.1.functions; globals = file.globals; loads = p.1.loads } in
    let e : z ≡ x = cc in
    subst (λ (y : ResolvedFile). InOrder SharesSlots (defs_of ts) y.functions) e (known p refl)

pub slots_are_shared : SlotsAreShared
unfolding resolved
slots_are_shared universe ts r h =
    let file : FileParts = file_names universe ts in
    file_by file ts (each (top_level file) [] ts nothing_passed) r (λ p e. all_share file ts [] p.0 [] nothing_passed p.1 tt e) h
