-- What a file does, line by line: the same by names and by slots.
use Rattle.std.proofs.Common.{◌≡◌, suc, ◌+◌, List, [], ◌∷◌, length, refl, sym, ap, ◌∙◌, subst, length-append}
use Rattle.bq_parse_grammar.specs.declared.tree.Branch.{Branch}
use Rattle.bq_parse_grammar.specs.declared.tree.Expr.{Expr}
use Rattle.bq_parse_grammar.specs.declared.tree.Identifier.{Identifier}
use Rattle.bq_parse_grammar.specs.declared.tree.Parameter.{Parameter}
use Rattle.bq_parse_grammar.specs.declared.tree.Stmt.{Stmt, out-Stmt}
use Rattle.bq_parse_grammar.specs.declared.tree.Stmt.TheOpen.{Stmt-F}
use Rattle.bq_parse_grammar.specs.declared.tree.TopLevel.{TopLevel}
use Rattle.bq_resolve_scope.specs.declared.file.FileLine.{FileLine}
use Rattle.bq_resolve_scope.specs.declared.file.Outside.{Outside}
use Rattle.bq_resolve_scope.specs.Scope.{FileParts}
use Rattle.bq_resolve_scope.specs.Visit.{Passed}
use Rattle.bq_resolve_laws.specs.Resolution.{InOrder}
use Rattle.bq_value.specs.Datum.{Datum, function, data_of}
use Rattle.bq_eval_spec.specs.Frame.{Frame, Surroundings}
use Rattle.bq_eval_spec.specs.Primitives.{Primitives}
use Rattle.bq_eval_spec.specs.Module as language
use Rattle.bq_eval_spec.specs.Module.{Own, def_stmt, top_level, top_levels}
use Rattle.bq_eval_spec.specs.Slots.{by_slots}
use Rattle.bq_eval_spec.specs.Trees.{Eval}
use Rattle.bq_eval_spec.specs.Files.{functions_by, defaults_of, outside_by, lines_from}
use Rattle.bq_eval_spec.specs.Names.{Env, Round, by_names}
use Rattle.bq_eval_by_name.specs.Alike.{Alike, Same}
use Rattle.bq_eval_by_name.proofs.Runs.{itself, then_alike, then_same, then_both}
use Rattle.bq_eval_by_name.proofs.Walks.{Pairwise}
use Rattle.bq_eval_by_name.proofs.Parts.{ExprAgree, values_alike}
use Rattle.bq_eval_by_name.specs.StatementAgreement.{Ended, EvalsAgree, GlobalsShow, LinesAgree}
use Rattle.bq_eval_by_name.proofs.BoundNames.{global_keeps}
use Rattle.bq_eval_by_name.proofs.Statements.{go_on_alike}
use Rattle.bq_eval_by_name.proofs.ResolvedTargets.{names_alike}
use Rattle.bq_eval_by_name.specs.Units.{FunctionIs}
use Rattle.bq_eval_by_name.proofs.Files.{DefIs, stmt_is, TopIs, TopsAre, stmt_adds}
use Rattle.bq_eval_by_name.proofs.Parameters.{Outer}

same_length : {A B : Type 0} (R : A → B → Type 0) (xs : List A) (ys : List B) → InOrder R xs ys → length xs ≡ length ys
same_length R [] [] h = refl
same_length R (x ∷ xs) (y ∷ ys) h = ap suc (same_length R xs ys h.1)
same_length R [] (y ∷ ys) h = absurd h
same_length R (x ∷ xs) [] h = absurd h

module _ {S : Type 0} (m : Primitives S) (file : FileParts) (own : Own Round Env) (other : Own Surroundings Frame) (E : Eval S Env) (F : Eval S Frame) (numbers : own.number ≡ other.number)
    (agree : EvalsAgree file [] (GlobalsShow file) E F) (lines : LinesAgree m file E F) where
  -- expressions that resolve outside all blocks mean the same
  outer_agree : (xs ys : List Expr) → InOrder (Outer file) xs ys → Pairwise (ExprAgree (GlobalsShow file) E F) xs ys
  outer_agree [] [] h = tt
  outer_agree (x ∷ xs) (y ∷ ys) h =
      (λ env frame reads s. subst (λ r. Alike Same (E x env s) r) (agree x y h.0.0 h.0.1 tt h.0.2 env frame s reads) (itself (E x env s)), outer_agree xs ys h.1)
  outer_agree [] (y ∷ ys) h = absurd h
  outer_agree (x ∷ xs) [] h = absurd h

  def_alike : (n : Identifier) (ps : List Parameter) (body : List Stmt) (u w : Passed) (x : Outside) (is : DefIs file n ps body u w x) (env : Env) (frame : Frame) → GlobalsShow file env frame → (s : S)
      → Alike (Ended (GlobalsShow file)) (def_stmt m by_names own E (record { name = n; function = length u.functions; defaults = defaults_of ps }) env s)
      (def_stmt m by_slots other F (record { name = is.target; function = length u.functions; defaults = is.defaults }) frame s)
  unfolding def_stmt
  def_alike n ps body u w x is env frame reads s =
      then_both (Ended (GlobalsShow file)) (m.step 1 s) _ _
      (λ _ v. then_same (Ended (GlobalsShow file)) _ _ _ _
      (values_alike m E F (GlobalsShow file) (defaults_of ps) is.defaults (outer_agree (defaults_of ps) is.defaults is.defaults_are) env frame reads [] v) (λ vs z. (refl, (refl, bound vs))))
    where
      named : is.target.name ≡ n.name
      named = ap (λ j. j.name) is.at.2

      bound : (vs : List Datum) → GlobalsShow file (by_names.bind env n (function own.number (length u.functions) n.name (data_of vs)))
          (by_slots.bind frame is.target (function other.number (length u.functions) is.target.name (data_of vs)))
      bound vs =
          rw (sym numbers, named)
          ((names_alike m file [] (GlobalsShow file) E F n is.target (global_keeps file n.name) is.at env frame reads).1 (function own.number (length u.functions) n.name (data_of vs)))

  stmt_alike : (o : Stmt-F Stmt Branch) (u w : Passed) (x : Outside) → stmt_is file o u w x → (env : Env) (frame : Frame) → GlobalsShow file env frame → (s : S)
      → Alike (Ended (GlobalsShow file)) (language.outside_by m by_names own E (outside_by (length u.functions) o) env s) (language.outside_by m by_slots other F x frame s)
  stmt_alike (Stmt-F.Simple xs) u w x h env frame reads s = rw h.2 (lines xs h.0 h.1.0 h.1.1 h.1.2 env frame s reads)
  stmt_alike (Stmt-F.If bs zs) u w x h env frame reads s = absurd h
  stmt_alike (Stmt-F.For t y body) u w x h env frame reads s = absurd h
  stmt_alike (Stmt-F.Def n ps body) u w x h env frame reads s = rw h.is (def_alike n ps body u w x h env frame reads s)

  top_alike : (i : TopLevel) (u w : Passed) (y : FileLine) → TopIs file i u w y → (env : Env) (frame : Frame) → GlobalsShow file env frame → (s : S)
      → Alike (Ended (GlobalsShow file)) (top_level m by_names own E (record { line = i.line; statement = outside_by (length u.functions) (out-Stmt i.statement) }) env s)
      (top_level m by_slots other F y frame s)
  unfolding top_level
  top_alike i u w y h env frame reads s = rw h.2 (stmt_alike (out-Stmt i.statement) u w h.0 h.1 env frame reads (m.at_line i.line s))

  pub tops_alike : (ts : List TopLevel) (ys : List FileLine) (u v : Passed) → TopsAre file u ts ys v → (env : Env) (frame : Frame) → GlobalsShow file env frame → (s : S)
      → Alike (Ended (GlobalsShow file)) (top_levels m by_names own E (lines_from (length u.functions) ts) env s) (top_levels m by_slots other F ys frame s)
  unfolding top_levels
  tops_alike [] [] u v h env frame reads s = (refl, (refl, reads))
  tops_alike (t ∷ ts) (y ∷ ys) u v h env frame reads s =
      let w : Passed = h.0 in
      let one = stmt_adds file (out-Stmt t.statement) u w h.1.0 h.1.1 in
      let all : length w.functions ≡ length u.functions + length one.0 = ap length one.1 ∙ length-append u.functions one.0 in
      let count : length w.functions ≡ length u.functions + length (functions_by (out-Stmt t.statement)) =
      all ∙ ap (λ k. length u.functions + k) (sym (same_length (FunctionIs file) (functions_by (out-Stmt t.statement)) one.0 one.2)) in
      let later : List FileLine = lines_from (length u.functions + length (functions_by (out-Stmt t.statement))) ts in
      then_alike (Ended (GlobalsShow file)) (Ended (GlobalsShow file)) _ _ _ _ (top_alike t u w y h.1 env frame reads s)
      (λ a b z k. go_on_alike m by_names by_slots (GlobalsShow file) (top_levels m by_names own E later) (top_levels m by_slots other F ys)
      (λ next peer reads s. subst (λ n. Alike (Ended (GlobalsShow file)) (top_levels m by_names own E (lines_from n ts) next s) (top_levels m by_slots other F ys peer s)) count (tops_alike ts ys w v h.2 next peer reads s)) a b k z)
  tops_alike [] (y ∷ ys) u v h env frame reads s = absurd h
  tops_alike (t ∷ ts) [] u v h env frame reads s = absurd h
