-- What a call begins with: the environment and the frame say the same, where the parameters have the first slots.
use Rattle.std.proofs.Common.{◌≡◌, ℕ, ◌+◌, List, [], ◌∷◌, map, Option, Some, None, refl, sym, ap, ◌∙◌, subst, zero-add}
use Rattle.std.specs.Option.{option_map}
use Rattle.bq_parse_grammar.specs.declared.tree.Identifier.{Identifier}
use Rattle.bq_resolve_scope.specs.declared.file.Function.{Function}
use Rattle.bq_resolve_scope.specs.declared.file.Formal.{Formal}
use Rattle.bq_resolve_scope.specs.declared.file.Formal.TheVariants as formal
use Rattle.bq_parse_grammar.specs.declared.tree.Parameter.{Parameter}
use Rattle.bq_parse_grammar.specs.declared.tree.Parameter.TheVariants as parameter
use Rattle.bq_parse_grammar.specs.declared.tree.Referent.TheVariants as b
use Rattle.bq_resolve_scope.specs.Names.{Name, place_among, with_each, with_parameter, with_stmt, function_names}
use Rattle.bq_resolve_scope.specs.Expressions.{refer}
use Rattle.bq_resolve_scope.specs.Scope.{BlockParts, FileParts, or_else, slot_in, slot_of}
use Rattle.bq_resolve_scope.specs.Statements.{no_parameters, parameters}
use Rattle.bq_resolve_laws.specs.Resolution.{InOrder}
use Rattle.bq_value.specs.Datum.{Datum, tuple, data_of}
use Rattle.bq_builtin_machine.specs.Args.{Passed}
use Rattle.bq_builtin_machine.specs.Binding.{bind}
use Rattle.bq_eval_spec.specs.Frame.{Frame, empty, fill}
use Rattle.bq_eval_spec.specs.Primitives.{Primitives, given_by}
use Rattle.bq_eval_spec.specs.Calls.{singles, placed_of, has_star, has_star_star, signature, Filling, keywords_of, with_value, with_default, fill_parameter, fill_parameters, entry}
use Rattle.bq_eval_spec.specs.Slots.{by_slots}
use Rattle.bq_eval_spec.specs.Files.{formal_of}
use Rattle.bq_eval_spec.specs.Names as env
use Rattle.bq_eval_spec.specs.Names.{Env, declare, outside, with_formal, by_names}
use Rattle.bq_eval_by_name.specs.Alike.{Alike}
use Rattle.bq_eval_by_name.specs.Shows.{Nested, Shows}
use Rattle.bq_eval_by_name.proofs.Envs.{shows_bind, shows_declare, shows_outside}
use Rattle.bq_eval_by_name.proofs.Runs.{then_alike, then_both}
use Rattle.bq_eval_by_name.specs.Units.{FunctionIs}
use Rattle.bq_eval_by_name.proofs.FunctionWalks.{kept}
use Rattle.bq_eval_by_name.proofs.Parameters.{FormalIs, RowIs, Rows, parameters_keep}
use Rattle.bq_eval_by_name.proofs.Places.{parameters_stay}

-- the block of a function with these names
abbrev pub block_of : List Name → BlockParts
block_of names = record { base = 0; names = names }

alone_by : (o : Option ℕ) (k : ℕ) → o ≡ Some k → or_else (option_map (λ i. 0 + i) o) None ≡ Some k
alone_by None k e = absurd (let no : ⊥ = cc in no)
alone_by (Some i) k e = ap (λ j. Some j) (zero-add i) ∙ e

alone : (names : List Name) (name : Name) (k : ℕ) → place_among name names ≡ Some k → slot_of (block_of names ∷ []) name ≡ Some k
unfolding slot_of slot_in
alone names name k e = alone_by (place_among name names) k e

-- ---- signatures

module _ (ns : List Name) where
  singles_are : (ps zs : List Formal) → InOrder (FormalIs ns) ps zs → singles ps ≡ singles zs
  singles_are [] [] h = refl
  singles_are [] (z ∷ zs) h = absurd h
  singles_are (p ∷ ps) [] h = absurd h
  singles_are (formal.Plain n ∷ ps) (z ∷ zs) h = rw (h.0.2, singles_are ps zs h.1) refl
  singles_are (formal.Default n ∷ ps) (z ∷ zs) h = rw (h.0.2, singles_are ps zs h.1) refl
  singles_are (formal.BareStar ∷ ps) (z ∷ zs) h = rw (h.0, singles_are ps zs h.1) refl
  singles_are (formal.Star n ∷ ps) (z ∷ zs) h = rw (h.0.2, singles_are ps zs h.1) refl
  singles_are (formal.StarStar n ∷ ps) (z ∷ zs) h = rw (h.0.2, singles_are ps zs h.1) refl

  placed_are : (ps zs : List Formal) → InOrder (FormalIs ns) ps zs → placed_of ps ≡ placed_of zs
  placed_are [] [] h = refl
  placed_are [] (z ∷ zs) h = absurd h
  placed_are (p ∷ ps) [] h = absurd h
  placed_are (formal.Plain n ∷ ps) (z ∷ zs) h = rw (h.0.2, placed_are ps zs h.1) refl
  placed_are (formal.Default n ∷ ps) (z ∷ zs) h = rw (h.0.2, placed_are ps zs h.1) refl
  placed_are (formal.BareStar ∷ ps) (z ∷ zs) h = rw h.0 refl
  placed_are (formal.Star n ∷ ps) (z ∷ zs) h = rw h.0.2 refl
  placed_are (formal.StarStar n ∷ ps) (z ∷ zs) h = rw (h.0.2, placed_are ps zs h.1) refl

  star_is : (ps zs : List Formal) → InOrder (FormalIs ns) ps zs → has_star ps ≡ has_star zs
  star_is [] [] h = refl
  star_is [] (z ∷ zs) h = absurd h
  star_is (p ∷ ps) [] h = absurd h
  star_is (formal.Plain n ∷ ps) (z ∷ zs) h = rw (h.0.2, star_is ps zs h.1) refl
  star_is (formal.Default n ∷ ps) (z ∷ zs) h = rw (h.0.2, star_is ps zs h.1) refl
  star_is (formal.BareStar ∷ ps) (z ∷ zs) h = rw (h.0, star_is ps zs h.1) refl
  star_is (formal.Star n ∷ ps) (z ∷ zs) h = rw h.0.2 refl
  star_is (formal.StarStar n ∷ ps) (z ∷ zs) h = rw (h.0.2, star_is ps zs h.1) refl

  star_star_is : (ps zs : List Formal) → InOrder (FormalIs ns) ps zs → has_star_star ps ≡ has_star_star zs
  star_star_is [] [] h = refl
  star_star_is [] (z ∷ zs) h = absurd h
  star_star_is (p ∷ ps) [] h = absurd h
  star_star_is (formal.Plain n ∷ ps) (z ∷ zs) h = rw (h.0.2, star_star_is ps zs h.1) refl
  star_star_is (formal.Default n ∷ ps) (z ∷ zs) h = rw (h.0.2, star_star_is ps zs h.1) refl
  star_star_is (formal.BareStar ∷ ps) (z ∷ zs) h = rw (h.0, star_star_is ps zs h.1) refl
  star_star_is (formal.Star n ∷ ps) (z ∷ zs) h = rw (h.0.2, star_star_is ps zs h.1) refl
  star_star_is (formal.StarStar n ∷ ps) (z ∷ zs) h = rw h.0.2 refl

  signature_is : (ps zs : List Formal) → InOrder (FormalIs ns) ps zs → signature ps ≡ signature zs
  unfolding signature
  signature_is ps zs h = rw (singles_are ps zs h, placed_are ps zs h, star_is ps zs h, star_star_is ps zs h) refl

  -- ---- parameters are bound

  abbrev Filled : Filling Env → Filling Frame → Type 0
  Filled x y = (x.values ≡ y.values) × (x.defaults ≡ y.defaults) × (x.rest ≡ y.rest) × (x.keywords ≡ y.keywords) × Shows (block_of ns ∷ []) x.env y.env

  nested : Nested (block_of ns ∷ [])
  nested = (tt, tt)

  binds : (e : Env) (frame : Frame) (name : Name) (k : ℕ) (v w : Datum) → place_among name ns ≡ Some k → v ≡ w → Shows (block_of ns ∷ []) e frame
      → Shows (block_of ns ∷ []) (env.bind e name v) (fill frame k w)
  binds e frame name k v w at same shows =
      subst (λ z. Shows (block_of ns ∷ []) (env.bind e name v) (fill frame k z)) same (shows_bind (block_of ns ∷ []) nested e frame name k v (alone ns name k at) shows)

  module _ {S : Type 0} (m : Primitives S) where
    value_alike : (n : Identifier) (k : ℕ) → place_among n.name ns ≡ Some k → (vs : List (Option Datum)) (x : Filling Env) (y : Filling Frame) → Filled x y → (s : S)
        → Alike Filled (with_value m by_names n vs x s) (with_value m by_slots (refer n (b.Local k)) vs y s)
    value_alike n k at [] x y h s = refl
    value_alike n k at (None ∷ vs) x y h s = refl
    value_alike n k at (Some v ∷ vs) x y h s = (refl, (refl, h.1, h.2, h.3, binds x.env y.env n.name k v v at refl h.4))

    default_alike : (n : Identifier) (k : ℕ) → place_among n.name ns ≡ Some k → (vs : List (Option Datum)) (ds : List Datum) (x : Filling Env) (y : Filling Frame) → Filled x y → (s : S)
        → Alike Filled (with_default m by_names n vs ds x s) (with_default m by_slots (refer n (b.Local k)) vs ds y s)
    default_alike n k at [] ds x y h s = refl
    default_alike n k at (None ∷ vs) [] x y h s = refl
    default_alike n k at (Some v ∷ vs) [] x y h s = refl
    default_alike n k at (None ∷ vs) (d ∷ ds) x y h s = (refl, (refl, refl, h.2, h.3, binds x.env y.env n.name k d d at refl h.4))
    default_alike n k at (Some v ∷ vs) (d ∷ ds) x y h s = (refl, (refl, refl, h.2, h.3, binds x.env y.env n.name k v v at refl h.4))

    by_alike : (p z : Formal) → FormalIs ns p z → (x : Filling Env) (y : Filling Frame) → Filled x y → (s : S) → Alike Filled (fill_parameter m by_names p x s) (fill_parameter m by_slots z y s)
    unfolding fill_parameter
    by_alike (formal.Plain n) z r x y h s =
        rw r.2 (subst (λ vs. Alike Filled (with_value m by_names n x.values x s) (with_value m by_slots (refer n (b.Local r.0)) vs y s)) h.0 (value_alike n r.0 r.1 x.values x y h s))
    by_alike (formal.Default n) z r x y h s =
        rw r.2
        (subst (λ vs. Alike Filled (with_default m by_names n x.values x.defaults x s) (with_default m by_slots (refer n (b.Local r.0)) vs y.defaults y s)) h.0
        (subst (λ ds. Alike Filled (with_default m by_names n x.values x.defaults x s) (with_default m by_slots (refer n (b.Local r.0)) x.values ds y s)) h.1 (default_alike n r.0 r.1 x.values x.defaults x y h s)))
    by_alike formal.BareStar z r x y h s = rw r (refl, h)
    by_alike (formal.Star n) z r x y h s = rw r.2 (refl, (h.0, h.1, h.2, h.3, binds x.env y.env n.name r.0 x.rest y.rest r.1 h.2 h.4))
    by_alike (formal.StarStar n) z r x y h s = rw r.2 (refl, (h.0, h.1, h.2, h.3, binds x.env y.env n.name r.0 x.keywords y.keywords r.1 h.3 h.4))

    fill_alike : (ps zs : List Formal) → InOrder (FormalIs ns) ps zs → (x : Filling Env) (y : Filling Frame) → Filled x y → (s : S)
        → Alike Filled (fill_parameters m by_names ps x s) (fill_parameters m by_slots zs y s)
    unfolding fill_parameters fill_parameter
    fill_alike [] [] r x y h s = (refl, h)
    fill_alike (p ∷ ps) (z ∷ zs) r x y h s = then_alike Filled Filled _ _ _ _ (by_alike p z r.0 x y h s) (λ a b t k. fill_alike ps zs r.1 a b k t)
    fill_alike [] (z ∷ zs) r x y h s = absurd r
    fill_alike (p ∷ ps) [] r x y h s = absurd r

-- ---- the function

-- in the order of the parameters as they are written
formals_are : (ns : List Name) (ps : List Parameter) (zs : List Formal) → InOrder (RowIs ns) ps zs → InOrder (FormalIs ns) (map formal_of ps) zs
formals_are ns [] [] h = tt
formals_are ns (p ∷ ps) (z ∷ zs) h = (h.0, formals_are ns ps zs h.1)
formals_are ns [] (z ∷ zs) h = absurd h
formals_are ns (p ∷ ps) [] h = absurd h

formal_names : (ns : List Name) (p : Parameter) → with_formal ns (formal_of p) ≡ with_parameter ns p
formal_names ns (parameter.Plain n) = refl
formal_names ns (parameter.Default n x) = refl
formal_names ns parameter.BareStar = refl
formal_names ns (parameter.Star n) = refl
formal_names ns (parameter.StarStar n) = refl

formals_names : (ns : List Name) (ps : List Parameter) → with_each with_formal ns (map formal_of ps) ≡ with_each with_parameter ns ps
formals_names ns [] = refl
formals_names ns (p ∷ ps) = ap (λ ms. with_each with_formal ms (map formal_of ps)) (formal_names ns p) ∙ formals_names (with_parameter ns p) ps

module _ (file : FileParts) (d f : Function) (is : FunctionIs file d f) where
  -- the names of its block are those of the `def`
  pub names_are : env.names_of d ≡ function_names is.written d.body
  unfolding env.names_of function_names
  names_are = ap (λ ps. with_each with_stmt (with_each with_formal [] ps) d.body) is.formals ∙ ap (λ ns. with_each with_stmt ns d.body) (formals_names [] is.written)

  rows : Rows file (function_names is.written d.body) no_parameters is.written is.parts
  rows = (kept (Rows file (function_names is.written d.body) no_parameters is.written) (parameters file no_parameters is.written) is.before is.parts is.after
      (parameters_keep file (function_names is.written d.body) is.written no_parameters (parameters_stay is.written d.body)) is.parameters_are).0

  rows_are : InOrder (FormalIs (env.names_of d)) d.parameters f.parameters
  rows_are =
      subst (λ ns. InOrder (FormalIs ns) d.parameters f.parameters) (sym names_are)
      (subst (λ ps. InOrder (FormalIs (function_names is.written d.body)) ps f.parameters) (sym is.formals)
      (formals_are (function_names is.written d.body) is.written f.parameters
      (subst (λ zs. InOrder (RowIs (function_names is.written d.body)) is.written zs) (sym (is.parameters ∙ rows.4)) rows.2)))

  pub signatures_are : signature d.parameters ≡ signature f.parameters
  signatures_are = signature_is (env.names_of d) d.parameters f.parameters rows_are

  first_shows : Shows (block_of (env.names_of d) ∷ []) (declare outside (env.names_of d)) empty
  first_shows = shows_declare (block_of (env.names_of d)) [] outside empty tt shows_outside

  pub entry_alike : {S : Type 0} (m : Primitives S) (ds : List Datum) (p : Passed) (s : S) → Alike (Shows (block_of (env.names_of d) ∷ [])) (entry m by_names d ds p s) (entry m by_slots f ds p s)
  unfolding entry
  entry_alike m ds p s =
      rw (signatures_are, star_star_is (env.names_of d) d.parameters f.parameters rows_are)
      (then_both (Shows (block_of (env.names_of d) ∷ [])) (given_by m (bind (signature f.parameters) p) s) _ _
      (λ b t. then_both (Shows (block_of (env.names_of d) ∷ [])) (keywords_of m (has_star_star f.parameters) b.keywords t) _ _
      (λ k u. then_alike (Filled (env.names_of d)) (Shows (block_of (env.names_of d) ∷ [])) _ _ _ _
      (fill_alike (env.names_of d) m d.parameters f.parameters rows_are
      (record { values = b.values; defaults = ds; rest = tuple (data_of b.rest); keywords = k; env = declare outside (env.names_of d) })
      (record { values = b.values; defaults = ds; rest = tuple (data_of b.rest); keywords = k; env = empty }) (refl, refl, refl, refl, first_shows) u)
      (λ a c w h. (refl, h.4)))))
