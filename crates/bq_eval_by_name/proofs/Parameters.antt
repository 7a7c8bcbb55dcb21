-- What parameters resolve to: each has the place of its name among the function's names as its slot, and their defaults are those of the
-- parameters that have one.
use Rattle.std.proofs.Common.{◌≡◌, ℕ, Bool, true, false, List, [], ◌∷◌, ◌++◌, length, refl, sym, ap, ◌∙◌, subst}
use Rattle.std.specs.Prelude.{if◌then◌else◌, Some}
use Rattle.bq_base.specs.declared.fault.NameFault.{NameFault}
use Rattle.bq_base.specs.declared.fault.Fault.{Fault}
use Rattle.bq_base.specs.declared.fault.NameFault.TheVariants as f
use Rattle.bq_parse_grammar.specs.declared.tree.Expr.{Expr}
use Rattle.bq_parse_grammar.specs.declared.tree.Identifier.{Identifier}
use Rattle.bq_parse_grammar.specs.declared.tree.Parameter.{Parameter}
use Rattle.bq_parse_grammar.specs.declared.tree.Parameter.TheVariants as parameter
use Rattle.bq_resolve_scope.specs.declared.file.Formal.{Formal}
use Rattle.bq_resolve_scope.specs.declared.file.Formal.TheVariants as formal
use Rattle.bq_parse_grammar.specs.declared.tree.Referent.TheVariants as b
use Rattle.bq_resolve_scope.specs.Names.{Name, has, place_among, with_name, with_each, with_parameter}
use Rattle.bq_resolve_scope.specs.Expressions.{refer}
use Rattle.bq_resolve_scope.specs.Scope.{FileParts}
use Rattle.bq_resolve_scope.specs.Visit.{Passed, Visit, ◌>>=◌, pure, stop, fault_of}
use Rattle.bq_resolve_scope.specs.Statements.{ParameterParts, expr, named_parameter, default_parameter, next_parameter, parameters}
use Rattle.bq_resolve_laws.specs.Resolution.{InOrder, ExprIs}
use Rattle.bq_resolve_laws.proofs.Makes.{append_none, append_one, append_all}
use Rattle.bq_resolve_laws.proofs.ResolvedStatements.{an_expr_makes}
use Rattle.bq_eval_spec.specs.Files.{formal_of, defaults_of}
use Rattle.bq_eval_by_name.proofs.FunctionWalks.{Made, Kept, Keeps, Anything, keeps_bind, keeps_made, keeps_weaker, keeps_makes, both}
use Rattle.bq_eval_by_name.proofs.Places.{Stays, new_place, each_stays, parameter_stays}

-- a parameter among these names, apart from its default
abbrev pub FormalIs : List Name → Formal → Formal → Type 0
FormalIs names (formal.Plain n) z = (k : ℕ) × (place_among n.name names ≡ Some k) × (z ≡ formal.Plain (refer n (b.Local k)))
FormalIs names (formal.Default n) z = (k : ℕ) × (place_among n.name names ≡ Some k) × (z ≡ formal.Default (refer n (b.Local k)))
FormalIs names formal.BareStar z = z ≡ formal.BareStar
FormalIs names (formal.Star n) z = (k : ℕ) × (place_among n.name names ≡ Some k) × (z ≡ formal.Star (refer n (b.Local k)))
FormalIs names (formal.StarStar n) z = (k : ℕ) × (place_among n.name names ≡ Some k) × (z ≡ formal.StarStar (refer n (b.Local k)))

abbrev pub RowIs : List Name → Parameter → Formal → Type 0
RowIs names q z = FormalIs names (formal_of q) z

row_stays : (names more : List Name) → Stays names more → (q : Parameter) (z : Formal) → RowIs names q z → RowIs more q z
row_stays names more stays (parameter.Plain n) z h = (h.0, stays n.name h.0 h.1, h.2)
row_stays names more stays (parameter.Default n x) z h = (h.0, stays n.name h.0 h.1, h.2)
row_stays names more stays parameter.BareStar z h = h
row_stays names more stays (parameter.Star n) z h = (h.0, stays n.name h.0 h.1, h.2)
row_stays names more stays (parameter.StarStar n) z h = (h.0, stays n.name h.0 h.1, h.2)

module _ (file : FileParts) where
  -- an expression that resolves outside all blocks
  abbrev pub Outer : Expr → Expr → Type 0
  Outer x y = Made (expr file [] x) y

  an_expr_keeps : (x : Expr) → Keeps (Outer x) (expr file [] x)
  an_expr_keeps x = keeps_made Anything (expr file [] x) (keeps_makes (ExprIs file [] x) (expr file [] x) (an_expr_makes file [] x))

  -- ---- one parameter

  -- the name is a new one
  abbrev Named : ParameterParts → Name → Formal → ParameterParts → Type 0
  Named l name x m =
      (place_among name m.names ≡ Some (length l.names)) × (m.names ≡ with_name l.names name) × (m.parameters ≡ l.parameters ++ x ∷ []) × (m.defaults ≡ l.defaults)

  named_by : (t : Bool) (why : Fault NameFault) (l : ParameterParts) (n : Identifier) (x : Formal) (u : Passed) → has l.names n.name ≡ t
      → Kept {A = ParameterParts} (Named l n.name x) u
      (let go : Visit ParameterParts = if t then stop why else pure (record l { names = l.names ++ n.name ∷ []; parameters = l.parameters ++ x ∷ [] }) in go u)
  unfolding with_name
  named_by true why l n x u e = tt
  named_by false why l n x u e = ((new_place l.names n.name e, rw e refl, refl, refl), refl)

  named_keeps : (l : ParameterParts) (n : Identifier) (x : Formal) → Keeps (Named l n.name x) (named_parameter file l n x)
  unfolding named_parameter
  named_keeps l n x u = named_by (has l.names n.name) (fault_of f.DoubleParameter n) l n x u refl

  abbrev Step : ParameterParts → Parameter → ParameterParts → Type 0
  Step l q m =
      (z : Formal) × (ds : List Expr) × RowIs m.names q z × InOrder Outer (defaults_of (q ∷ [])) ds × (m.names ≡ with_parameter l.names q)
      × (m.parameters ≡ l.parameters ++ z ∷ []) × (m.defaults ≡ l.defaults ++ ds)

  default_keeps : (l : ParameterParts) (n : Identifier) (x : Expr) → Keeps (Step l (parameter.Default n x)) (default_parameter file l n x)
  unfolding default_parameter
  default_keeps l n x =
      let z : Formal = formal.Default (refer n (b.Local (length l.names))) in
      keeps_bind (Named l n.name z) (Step l (parameter.Default n x)) (named_parameter file l n z) (λ m. expr file [] x >>= λ y. pure (record m { defaults = m.defaults ++ y ∷ [] })) (named_keeps l n z)
      (λ m h. keeps_bind (Outer x) (Step l (parameter.Default n x)) (expr file [] x) (λ y. pure (record m { defaults = m.defaults ++ y ∷ [] })) (an_expr_keeps x)
      (λ y e u. ((z, y ∷ [], (length l.names, h.0, refl), (e, tt), h.1, h.2, ap (λ ds. ds ++ y ∷ []) h.3), refl)))

  -- without a default
  plain_keeps : (l : ParameterParts) (n : Identifier) (z : Formal) (q : Parameter) → with_parameter l.names q ≡ with_name l.names n.name → defaults_of (q ∷ []) ≡ []
      → ((m : ParameterParts) → place_among n.name m.names ≡ Some (length l.names) → RowIs m.names q z) → Keeps (Step l q) (named_parameter file l n z)
  plain_keeps l n z q named none row =
      keeps_weaker (Named l n.name z) (Step l q) (named_parameter file l n z)
      (λ m h. (z, [], row m h.0, subst (λ xs. InOrder Outer xs []) (sym none) tt, h.1 ∙ sym named, h.2, h.3 ∙ append_none l.defaults)) (named_keeps l n z)

  next_keeps : (l : ParameterParts) (q : Parameter) → Keeps (Step l q) (next_parameter file l q)
  unfolding next_parameter
  next_keeps l (parameter.Plain n) = plain_keeps l n (formal.Plain (refer n (b.Local (length l.names)))) (parameter.Plain n) refl refl (λ m h. (length l.names, h, refl))
  next_keeps l (parameter.Default n x) = default_keeps l n x
  next_keeps l parameter.BareStar = λ u. ((formal.BareStar, [], refl, tt, refl, refl, append_none l.defaults), refl)
  next_keeps l (parameter.Star n) = plain_keeps l n (formal.Star (refer n (b.Local (length l.names)))) (parameter.Star n) refl refl (λ m h. (length l.names, h, refl))
  next_keeps l (parameter.StarStar n) = plain_keeps l n (formal.StarStar (refer n (b.Local (length l.names)))) (parameter.StarStar n) refl refl (λ m h. (length l.names, h, refl))

  -- ---- all of them, among the names of the function

  abbrev pub Rows : List Name → ParameterParts → List Parameter → ParameterParts → Type 0
  Rows names l ps m =
      (zs : List Formal) × (ds : List Expr) × InOrder (RowIs names) ps zs × InOrder Outer (defaults_of ps) ds × (m.parameters ≡ l.parameters ++ zs) × (m.defaults ≡ l.defaults ++ ds)

  defaults_first : (q : Parameter) (qs : List Parameter) → defaults_of (q ∷ qs) ≡ defaults_of (q ∷ []) ++ defaults_of qs
  defaults_first (parameter.Plain n) qs = refl
  defaults_first (parameter.Default n x) qs = refl
  defaults_first parameter.BareStar qs = refl
  defaults_first (parameter.Star n) qs = refl
  defaults_first (parameter.StarStar n) qs = refl

  joined : (names : List Name) (l m z : ParameterParts) (q : Parameter) (qs : List Parameter) → Stays m.names names → Step l q m → Rows names m qs z → Rows names l (q ∷ qs) z
  joined names l m z q qs stays h rows = (
    h.0 ∷ rows.0,
    h.1 ++ rows.1,
    (row_stays m.names names stays q h.0 h.2, rows.2),
    subst (λ xs. InOrder Outer xs (h.1 ++ rows.1)) (sym (defaults_first q qs)) (both Outer (defaults_of (q ∷ [])) h.1 (defaults_of qs) rows.1 h.3 rows.3),
    rows.4 ∙ ap (λ w. w ++ rows.0) h.5 ∙ append_one l.parameters h.0 rows.0,
    rows.5 ∙ ap (λ w. w ++ rows.1) h.6 ∙ append_all l.defaults h.1 rows.1,
  )

  pub parameters_keep : (names : List Name) (ps : List Parameter) (l : ParameterParts) → Stays (with_each with_parameter l.names ps) names → Keeps (Rows names l ps) (parameters file l ps)
  unfolding parameters
  parameters_keep names [] l stays = λ u. (([], [], tt, tt, append_none l.parameters, append_none l.defaults), refl)
  parameters_keep names (q ∷ qs) l stays =
      keeps_bind (Step l q) (Rows names l (q ∷ qs)) (next_parameter file l q) (λ m. parameters file m qs) (next_keeps l q)
      (λ m h. let now : Stays (with_each with_parameter m.names qs) names = subst (λ ns. Stays (with_each with_parameter ns qs) names) (sym h.4) stays in
      keeps_weaker (Rows names m qs) (Rows names l (q ∷ qs)) (parameters file m qs)
      (λ z rows. joined names l m z q qs (λ name i e. now name i (each_stays with_parameter parameter_stays m.names qs name i e)) h rows) (parameters_keep names qs m now))
