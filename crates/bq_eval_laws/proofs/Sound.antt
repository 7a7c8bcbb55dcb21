-- Each file that is parsed and resolved is sound.
use Rattle.std.proofs.Common.{◌≡◌, ◌∙◌, ◌≤◌, ℕ, Bool, true, false, List, [], ◌∷◌, map, Ok, refl, sym, ap, arith}
use Rattle.std.specs.List.{AllByRecursion, list_any}
use Rattle.bq_parse_grammar.specs.declared.tree.Parameter.{Parameter}
use Rattle.bq_parse_grammar.specs.declared.tree.Parameter.TheVariants as parameter
use Rattle.bq_parse_grammar.specs.declared.tree.Stmt.{out-Stmt}
use Rattle.bq_parse_grammar.specs.declared.tree.Stmt.TheOpen.{Stmt-F}
use Rattle.bq_parse_grammar.specs.Parses.{is_build}
use Rattle.bq_parse_grammar.specs.Pieces.{pieces}
use Rattle.bq_parse_laws.specs.Depth.{expr_depth, small_depth, stmt_depth}
use Rattle.bq_parse_laws.specs.LeftOut.{expr_count, parameter_count, small_count, stmt_left, stmt_count, stmt_nested, has_nested}
use Rattle.bq_parse_laws.proofs.FileDepths.{file_within}
use Rattle.bq_resolve_scope.specs.declared.file.Function.{Function}
use Rattle.bq_resolve_scope.specs.declared.file.Outside.{Outside}
use Rattle.bq_resolve_scope.specs.declared.file.Outside.TheVariants as outside
use Rattle.bq_resolve_scope.specs.Names.{max_layers}
use Rattle.bq_eval_spec.specs.Trees.{StmtLayer}
use Rattle.bq_eval_laws.proofs.Fitting.{depth, stmts_depth, IsFew, file_is_few}
use Rattle.bq_eval_laws.proofs.KeptFiles.{ParameterIs, ParsedIs, FunctionIs, OutsideIs, FileIs, file_is}
use Rattle.bq_eval_laws.proofs.Measures.{expr_of, stmt_of, stmt_inside, opened_stmt}
use Rattle.bq_eval_laws.specs.FileSoundness.{EachResolvedFileIsSound}
use Rattle.bq_eval_laws.specs.Sound.{ExprIsSound, SmallIsSound, StmtIsSound, FunctionIsSound, OutsideIsSound, LineIsSound}
use Rattle.bq_eval_laws.proofs.LeftOut.{left_out, stmt_lefts, stmts_left, stmt_nests, stmts_nested}
use Rattle.bq_eval_laws.proofs.Misplaced.{parsed, resolved, misplaced, small_by, stmt_step_by, stmts_by, stmts_misplaced, parameter_wrong, small_wrong, stmt_wrong}
use Rattle.bq_eval_laws.proofs.ParsedFiles.{IsClean, file_is_clean}
use Rattle.bq_eval_laws.proofs.SoundTrees.{each_one, both_off, an_expr_is_sound, small_is_sound, stmt_is_sound}

-- ---- what holds of each

every : {A : Type 0} (P Q : A → Type 0) → ((x : A) → P x → Q x) → (xs : List A) → AllByRecursion P xs → AllByRecursion Q xs
every P Q weaker [] h = tt
every P Q weaker (x ∷ xs) h = (weaker x h.0, every P Q weaker xs h.1)

of_three : {A : Type 0} (P Q R T : A → Type 0) → ((x : A) → P x → Q x → R x → T x) → (xs : List A) → AllByRecursion P xs → AllByRecursion Q xs → AllByRecursion R xs → AllByRecursion T xs
of_three P Q R T holds [] h k l = tt
of_three P Q R T holds (x ∷ xs) h k l = (holds x h.0 k.0 l.0, of_three P Q R T holds xs h.1 k.1 l.1)

of_four : {A : Type 0} (P Q R T U : A → Type 0) → ((x : A) → P x → Q x → R x → T x → U x) → (xs : List A) → AllByRecursion P xs → AllByRecursion Q xs → AllByRecursion R xs → AllByRecursion T xs
    → AllByRecursion U xs
of_four P Q R T U holds [] h k f l = tt
of_four P Q R T U holds (x ∷ xs) h k f l = (holds x h.0 k.0 f.0 l.0, of_four P Q R T U holds xs h.1 k.1 f.1 l.1)

-- ---- of a parsed file

abbrev IsNone : ℕ → Type 0
IsNone n = n ≡ 0

-- no `def` in a `def`
abbrev IsFlat : (Bool → Bool) → Type 0
IsFlat f = f true ≡ false

-- of anything
abbrev Any : {A : Type 0} → A → Type 0
Any x = Unit {0}

any : {A : Type 0} (xs : List A) → AllByRecursion Any xs
any [] = tt
any (x ∷ xs) = (tt, any xs)

flat : {A : Type 0} (b : A → Bool → Bool) (xs : List A) → list_any (λ f. f true) (map b xs) ≡ false → AllByRecursion (λ x. b x true ≡ false) xs
flat b [] h = tt
flat b (x ∷ xs) h = let both = both_off (b x true) (list_any (λ f. f true) (map b xs)) h in (both.0, flat b xs both.1)

module _ (build : Bool) where
  parameter_left : (p : Parameter) → parameter_count build p ≡ 0 → ParameterIs (left_out build) (stmts_left build) IsNone IsNone IsNone p
  parameter_left (parameter.Plain n) h = tt
  parameter_left (parameter.Default n x) h = h
  parameter_left parameter.BareStar h = tt
  parameter_left (parameter.Star n) h = tt
  parameter_left (parameter.StarStar n) h = tt

  parsed_left : (o : StmtLayer) → stmt_left build (stmt_inside (stmt_lefts build) o) ≡ 0 → ParsedIs (left_out build) (stmts_left build) IsNone IsNone IsNone o
  parsed_left (Stmt-F.Simple xs) h = each_one (small_count build) (λ x. small_count build x ≡ 0) (λ x k. k) xs h
  parsed_left (Stmt-F.If bs zs) h = tt
  parsed_left (Stmt-F.For t x body) h = tt
  parsed_left (Stmt-F.Def n ps body) h = (
    each_one (parameter_count build) (λ p. ParameterIs (left_out build) (stmts_left build) IsNone IsNone IsNone p) parameter_left ps (omega arith),
    each_one (stmt_count build) (λ x. stmt_count build x ≡ 0) (λ x k. k) body (omega arith),
  )

  parameter_any : (p : Parameter) → ParameterIs (left_out build) (stmts_nested build) Any Any IsFlat p
  parameter_any (parameter.Plain n) = tt
  parameter_any (parameter.Default n x) = tt
  parameter_any parameter.BareStar = tt
  parameter_any (parameter.Star n) = tt
  parameter_any (parameter.StarStar n) = tt

  parsed_flat : (o : StmtLayer) → stmt_nested (stmt_inside stmt_nests o) false ≡ false → ParsedIs (left_out build) (stmts_nested build) Any Any IsFlat o
  parsed_flat (Stmt-F.Simple xs) h = any xs
  parsed_flat (Stmt-F.If bs zs) h = tt
  parsed_flat (Stmt-F.For t x body) h = tt
  parsed_flat (Stmt-F.Def n ps body) h = (every Any (λ p. ParameterIs (left_out build) (stmts_nested build) Any Any IsFlat p) (λ p _. parameter_any p) ps (any ps), flat has_nested body h)

parameter_right : (p : Parameter) → parameter_wrong p ≡ 0 → ParameterIs misplaced stmts_misplaced IsNone IsNone IsNone p
parameter_right (parameter.Plain n) h = tt
parameter_right (parameter.Default n x) h = h
parameter_right parameter.BareStar h = tt
parameter_right (parameter.Star n) h = tt
parameter_right (parameter.StarStar n) h = tt

parsed_right : (o : StmtLayer) → stmt_step_by parsed (stmt_inside (stmts_by parsed) o) ≡ 0 → ParsedIs misplaced stmts_misplaced IsNone IsNone IsNone o
parsed_right (Stmt-F.Simple xs) h = each_one small_wrong (λ x. small_wrong x ≡ 0) (λ x k. k) xs h
parsed_right (Stmt-F.If bs zs) h = tt
parsed_right (Stmt-F.For t x body) h = tt
parsed_right (Stmt-F.Def n ps body) h =
    (each_one parameter_wrong (λ p. ParameterIs misplaced stmts_misplaced IsNone IsNone IsNone p) parameter_right ps (omega arith), each_one stmt_wrong (λ x. stmt_wrong x ≡ 0) (λ x k. k) body (omega arith))

-- ---- of the resolved one

module _ (build : Bool) where
  outside_is_sound : (x : Outside) → OutsideIs depth stmts_depth IsFew IsFew IsFew x → OutsideIs (left_out build) (stmts_left build) IsNone IsNone IsNone x
      → OutsideIs misplaced stmts_misplaced IsNone IsNone IsNone x → OutsideIsSound x
  outside_is_sound (outside.Simple xs) h k l =
      of_three (λ x. small_depth x ≤ max_layers) (λ x. small_count build x ≡ 0) (λ x. small_by resolved x ≡ 0) SmallIsSound (small_is_sound build) xs h k l
  outside_is_sound (outside.Def d) h k l =
      (h.0, of_three (λ x. expr_depth x ≤ max_layers) (λ x. expr_count build x ≡ 0) (λ x. expr_of resolved x ≡ 0) ExprIsSound (an_expr_is_sound build) d.defaults h.1 k.1 l.1)

  function_is_sound : (d : Function) → FunctionIs depth stmts_depth IsFew IsFew IsFew d → FunctionIs (left_out build) (stmts_left build) IsNone IsNone IsNone d
      → FunctionIs (left_out build) (stmts_nested build) Any Any IsFlat d → FunctionIs misplaced stmts_misplaced IsNone IsNone IsNone d → FunctionIsSound d
  unfolding FunctionIsSound
  function_is_sound d h k f l = (
    h.0,
    of_four (λ x. stmt_depth x ≤ max_layers) (λ x. stmt_count build x ≡ 0) (λ x. has_nested x true ≡ false) (λ x. stmt_of (stmts_by resolved) x ≡ 0) (StmtIsSound max_layers)
        (stmt_is_sound build max_layers (omega arith)) d.body h.1 k.1 f.1 l.1,
  )

pub each_file : EachResolvedFileIsSound
each_file kind ts xs universe file reads resolves =
    let build : Bool = is_build kind in
    let clean : AllByRecursion (IsClean build) xs = file_is_clean kind (pieces ts) xs (Ok xs) refl reads in
    let deep : FileIs depth stmts_depth IsFew IsFew IsFew file = file_is_few universe xs file (file_within kind (pieces ts) xs (Ok xs) refl reads) resolves in
    let left : FileIs (left_out build) (stmts_left build) IsNone IsNone IsNone file = file_is (left_out build) (stmts_left build) IsNone IsNone IsNone universe xs file
    (every (IsClean build) (λ t. ParsedIs (left_out build) (stmts_left build) IsNone IsNone IsNone (out-Stmt t.statement))
    (λ t c. parsed_left build (out-Stmt t.statement) (sym (opened_stmt (stmt_lefts build) t.statement) ∙ c.0)) xs clean) resolves in
    let nested : FileIs (left_out build) (stmts_nested build) Any Any IsFlat file = file_is (left_out build) (stmts_nested build) Any Any IsFlat universe xs file
    (every (IsClean build) (λ t. ParsedIs (left_out build) (stmts_nested build) Any Any IsFlat (out-Stmt t.statement))
    (λ t c. parsed_flat build (out-Stmt t.statement) (sym (ap (λ (g : Bool → Bool). g false) (opened_stmt stmt_nests t.statement)) ∙ c.1)) xs clean) resolves in
    let right : FileIs misplaced stmts_misplaced IsNone IsNone IsNone file = file_is misplaced stmts_misplaced IsNone IsNone IsNone universe xs file
    (every (IsClean build) (λ t. ParsedIs misplaced stmts_misplaced IsNone IsNone IsNone (out-Stmt t.statement))
    (λ t c. parsed_right (out-Stmt t.statement) (sym (opened_stmt (stmts_by parsed) t.statement) ∙ c.2)) xs clean) resolves in (
      of_three (λ l. OutsideIs depth stmts_depth IsFew IsFew IsFew l.statement) (λ l. OutsideIs (left_out build) (stmts_left build) IsNone IsNone IsNone l.statement)
          (λ l. OutsideIs misplaced stmts_misplaced IsNone IsNone IsNone l.statement) LineIsSound (λ l. outside_is_sound build l.statement) file.statements deep.0 left.0 right.0,
      of_four (λ d. FunctionIs depth stmts_depth IsFew IsFew IsFew d) (λ d. FunctionIs (left_out build) (stmts_left build) IsNone IsNone IsNone d)
          (λ d. FunctionIs (left_out build) (stmts_nested build) Any Any IsFlat d) (λ d. FunctionIs misplaced stmts_misplaced IsNone IsNone IsNone d) FunctionIsSound
          (function_is_sound build) file.functions deep.1 left.1 nested.1 right.1,
    )
