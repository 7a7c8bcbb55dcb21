-- The operands in a target are evaluated, and then its parts take their values, from the left.
use Rattle.std.proofs.Common.{◌≡◌, ◌∙◌, inl, inr, ℕ, zero, suc, List, [], ◌∷◌, ◌++◌, length, refl, sym, ap, subst, append_assoc, append-nil}
use Rattle.std.specs.List.{AllByRecursion}
use Rattle.bq_parse_grammar.specs.declared.tree.Expr.{Expr}
use Rattle.bq_parse_grammar.specs.declared.tree.TargetExpr.{TargetExpr, out-TargetExpr}
use Rattle.bq_resolve_scope.specs.Names.{max_layers, TargetLayer}
use Rattle.bq_value.specs.Datum.{Datum}
use Rattle.bq_builtin_machine.specs.Action.{Action, ◌>>=◌, pure, Run, done, stopped, following}
use Rattle.bq_builtin_machine.specs.State.{Stop}
use Rattle.bq_eval_spec.specs.Primitives.{Primitives}
use Rattle.bq_eval_spec.specs.Environment.{Scoping}
use Rattle.bq_eval_spec.specs.Targets.{Places, bind_place, bind_each, unpack, bind_by, bind_target, bind_to, bind_variables, place, places_each, places_by, places_of, places_to, assign}
use Rattle.bq_eval_spec.specs.Trees.{Eval}
use Rattle.bq_eval_laws.specs.Layers.{TargetParts, TargetIsWithin}
use Rattle.bq_eval_laws.specs.Order.{Evaluates, none_left, and_then, Stops, here, later}
use Rattle.bq_eval_laws.specs.Targets.{HasParts, EvaluatesPlaces, no_target, name_has_none, index_is_one, parts_have_theirs, PlacesStop, operand_stops, operand_of_part_stops, later_operand_stops, TakeValues, no_value, name_takes, place_takes, parts_take, TakingStops, place_stops, parts_stop, part_stops, later_target_stops, AssignmentsInOrder, VariablesInOrder}
use Rattle.bq_eval_laws.proofs.InOrder.{goes, ends}

-- ---- how deep the parts of a target are

-- the parts of a target have a layer less
parts_within : (n : ℕ) (t : TargetExpr) (us : List TargetExpr) → HasParts t us → TargetIsWithin (suc n) t → AllByRecursion (TargetIsWithin n) us
unfolding TargetIsWithin
parts_within n t us (inl e) fits = subst (TargetParts (TargetIsWithin n)) e fits
parts_within n t us (inr e) fits = subst (TargetParts (TargetIsWithin n)) e fits

module _ {S V : Type 0} (m : Primitives S) (eval : Eval S V) (env : V) where
  -- ---- the operands

  abbrev each_place : ℕ → List TargetExpr → Places → Action S Places
  each_place n ts before = places_each m eval (places_to m eval n) ts env before

  of_name : (n : ℕ) (t : TargetExpr) (o : TargetLayer) (before : Places) (s : S) → out-TargetExpr t ≡ o → places_to m eval (suc n) t env before s ≡ places_by m eval (places_to m eval n) o env before s
  unfolding places_to places_of
  of_name n t o before s e = ap (λ (l : TargetLayer). places_by m eval (places_to m eval n) l env before s) e

  of_parts : (n : ℕ) (t : TargetExpr) (us : List TargetExpr) (before : Places) (s : S) → HasParts t us → places_to m eval (suc n) t env before s ≡ each_place n us before s
  of_parts n t us before s (inl e) = of_name n t _ before s e
  of_parts n t us before s (inr e) = of_name n t _ before s e

  of_index : (x i : Expr) (v w : Datum) (before : Places) (r s : S) → Evaluates eval env (x ∷ i ∷ []) r (v ∷ w ∷ []) s → place m eval x i env before r ≡ done (before ++ (v, w) ∷ []) s
  unfolding place
  of_index x i v w before r s (and_then {t = u} h (and_then g none_left)) =
      goes (eval x env r) (λ a. eval i env >>= λ b. pure (before ++ (a, b) ∷ [])) v u h ∙ goes (eval i env u) (λ b. pure (before ++ (v, b) ∷ [])) w s g

  index_stops : (x i : Expr) (before : Places) (s : S) (why : Stop) → Stops eval env (x ∷ i ∷ []) s why → place m eval x i env before s ≡ stopped why
  unfolding place
  index_stops x i before s why (here h) = ends (eval x env s) (λ a. eval i env >>= λ b. pure (before ++ (a, b) ∷ [])) why h
  index_stops x i before s why (later {v = v} {t = u} h (here g)) =
      goes (eval x env s) (λ a. eval i env >>= λ b. pure (before ++ (a, b) ∷ [])) v u h ∙ ends (eval i env u) (λ b. pure (before ++ (v, b) ∷ [])) why g
  index_stops x i before s why (later h (later g k)) = elim k [ ]

  evaluated : (n : ℕ) (ts : List TargetExpr) (before ps : Places) (s u : S) → AllByRecursion (TargetIsWithin n) ts → EvaluatesPlaces eval env ts s ps u → each_place n ts before s ≡ done (before ++ ps) u
  unfolding places_each TargetIsWithin
  evaluated n ts before ps s u fits no_target = ap (λ all. done all s) (sym (append-nil before))
  evaluated zero ts before ps s u fits (name_has_none e k) = absurd fits.0
  evaluated zero ts before ps s u fits (index_is_one e h k) = absurd fits.0
  evaluated zero ts before ps s u fits (parts_have_theirs h k l) = absurd fits.0
  evaluated (suc n) ts before ps s u fits (name_has_none {t = t} {ts = rs} e k) =
      goes (places_to m eval (suc n) t env before s) (λ qs. each_place (suc n) rs qs) before s (of_name n t _ before s e) ∙ evaluated (suc n) rs before ps s u fits.1 k
  evaluated (suc n) ts before ps s u fits (index_is_one {t = t} {ts = rs} {x = x} {i = i} {v = v} {w = w} {ps = qs} {s = r} e h k) =
      goes (places_to m eval (suc n) t env before s) (λ os. each_place (suc n) rs os) (before ++ (v, w) ∷ []) r (of_name n t _ before s e ∙ of_index x i v w before s r h)
      ∙ (evaluated (suc n) rs (before ++ (v, w) ∷ []) qs r u fits.1 k ∙ ap (λ all. done all u) (append_assoc before ((v, w) ∷ []) qs))
  evaluated (suc n) ts before ps s u fits (parts_have_theirs {t = t} {us = us} {ts = rs} {ps = os} {qs = qs} {s = r} h k l) =
      goes (places_to m eval (suc n) t env before s) (λ xs. each_place (suc n) rs xs) (before ++ os) r
      (of_parts n t us before s h ∙ evaluated n us before os s r (parts_within n t us h fits.0) k)
      ∙ (evaluated (suc n) rs (before ++ os) qs r u fits.1 l ∙ ap (λ all. done all u) (append_assoc before os qs))

  -- what one target does
  alone : (n : ℕ) (t : TargetExpr) (before : Places) (s : S) → each_place n (t ∷ []) before s ≡ following (places_to m eval n t env before s) (λ qs. pure qs)
  unfolding places_each
  alone n t before s = refl

  same_run : {A : Type 0} (r : Run S A) → following r (λ x. pure x) ≡ r
  same_run (done x s) = refl
  same_run (stopped why) = refl

  first_of : (n : ℕ) (t : TargetExpr) (before ps : Places) (s u : S) → TargetIsWithin n t → EvaluatesPlaces eval env (t ∷ []) s ps u → places_to m eval n t env before s ≡ done (before ++ ps) u
  first_of n t before ps s u fits h = sym (same_run (places_to m eval n t env before s)) ∙ (sym (alone n t before s) ∙ evaluated n (t ∷ []) before ps s u (fits, tt) h)

  stop_each : (n : ℕ) (ts : List TargetExpr) (before : Places) (s : S) (why : Stop) → AllByRecursion (TargetIsWithin n) ts → PlacesStop eval env ts s why → each_place n ts before s ≡ stopped why
  unfolding places_each TargetIsWithin
  stop_each zero ts before s why fits (operand_stops e h) = absurd fits.0
  stop_each zero ts before s why fits (operand_of_part_stops h k) = absurd fits.0
  stop_each zero ts before s why fits (later_operand_stops h k) = absurd fits.0
  stop_each (suc n) ts before s why fits (operand_stops {t = t} {ts = rs} {x = x} {i = i} e h) =
      ends (places_to m eval (suc n) t env before s) (λ qs. each_place (suc n) rs qs) why (of_name n t _ before s e ∙ index_stops x i before s why h)
  stop_each (suc n) ts before s why fits (operand_of_part_stops {t = t} {us = us} {ts = rs} h k) =
      ends (places_to m eval (suc n) t env before s) (λ qs. each_place (suc n) rs qs) why (of_parts n t us before s h ∙ stop_each n us before s why (parts_within n t us h fits.0) k)
  stop_each (suc n) ts before s why fits (later_operand_stops {t = t} {ts = rs} {ps = ps} {u = u} h k) =
      goes (places_to m eval (suc n) t env before s) (λ qs. each_place (suc n) rs qs) (before ++ ps) u (first_of (suc n) t before ps s u fits.0 h) ∙ stop_each (suc n) rs (before ++ ps) u why fits.1 k

  first_stops : (n : ℕ) (t : TargetExpr) (before : Places) (s : S) (why : Stop) → TargetIsWithin n t → PlacesStop eval env (t ∷ []) s why → places_to m eval n t env before s ≡ stopped why
  first_stops n t before s why fits h = sym (same_run (places_to m eval n t env before s)) ∙ (sym (alone n t before s) ∙ stop_each n (t ∷ []) before s why (fits, tt) h)

-- ---- binding

module _ {S R V : Type 0} (m : Primitives S) (scoping : Scoping R V) where
  abbrev each_value : ℕ → List TargetExpr → List Datum → V → Places → Action S (V × Places)
  each_value n ts vs env ps = bind_each m (bind_to m scoping n) ts vs env ps

  by_form : (n : ℕ) (t : TargetExpr) (o : TargetLayer) (v : Datum) (env : V) (ps : Places) (s : S) → out-TargetExpr t ≡ o
      → bind_to m scoping (suc n) t v env ps s ≡ bind_by m scoping (bind_to m scoping n) o v env ps s
  unfolding bind_to bind_target
  by_form n t o v env ps s e = ap (λ (l : TargetLayer). bind_by m scoping (bind_to m scoping n) l v env ps s) e

  by_parts : (n : ℕ) (t : TargetExpr) (us : List TargetExpr) (v : Datum) (env : V) (ps : Places) (s : S) → HasParts t us
      → bind_to m scoping (suc n) t v env ps s ≡ following (m.parts (length us) v s) (λ ws. each_value n us ws env ps)
  unfolding unpack
  by_parts n t us v env ps s (inl e) = by_form n t _ v env ps s e
  by_parts n t us v env ps s (inr e) = by_form n t _ v env ps s e

  at_place : (a b v : Datum) (env : V) (ps : Places) (r s : S) → m.set_index a b v r ≡ done tt s → bind_place m v env ((a, b) ∷ ps) r ≡ done (env, ps) s
  unfolding bind_place
  at_place a b v env ps r s h = goes (m.set_index a b v r) (λ _. pure (env, ps)) tt s h

  place_refused : (a b v : Datum) (env : V) (ps : Places) (s : S) (why : Stop) → m.set_index a b v s ≡ stopped why → bind_place m v env ((a, b) ∷ ps) s ≡ stopped why
  unfolding bind_place
  place_refused a b v env ps s why h = ends (m.set_index a b v s) (λ _. pure (env, ps)) why h

  abbrev rest : ℕ → List TargetExpr → List Datum → V × Places → Action S (V × Places)
  rest n ts vs r = each_value n ts vs r.0 r.1

  taken : (n : ℕ) (ts : List TargetExpr) (vs : List Datum) (env : V) (ps : Places) (s : S) (new : V) (qs : Places) (u : S) → AllByRecursion (TargetIsWithin n) ts
      → TakeValues m scoping ts vs env ps s new qs u → each_value n ts vs env ps s ≡ done (new, qs) u
  unfolding bind_each TargetIsWithin
  taken n ts vs env ps s new qs u fits no_value = refl
  taken zero ts vs env ps s new qs u fits (name_takes e k) = absurd fits.0
  taken zero ts vs env ps s new qs u fits (place_takes e h k) = absurd fits.0
  taken zero ts vs env ps s new qs u fits (parts_take h p k l) = absurd fits.0
  taken (suc n) ts vs env ps s new qs u fits (name_takes {t = t} {ts = rs} {n = name} {v = v} {vs = ws} e k) =
      goes (bind_to m scoping (suc n) t v env ps s) (rest (suc n) rs ws) (scoping.bind env name v, ps) s (by_form n t _ v env ps s e)
      ∙ taken (suc n) rs ws (scoping.bind env name v) ps s new qs u fits.1 k
  taken (suc n) ts vs env ps s new qs u fits (place_takes {t = t} {ts = rs} {v = v} {a = a} {b = b} {vs = ws} {ps = os} {s = r} e h k) =
      goes (bind_to m scoping (suc n) t v env ps s) (rest (suc n) rs ws) (env, os) r (by_form n t _ v env ps s e ∙ at_place a b v env os s r h) ∙ taken (suc n) rs ws env os r new qs u fits.1 k
  taken (suc n) ts vs env ps s new qs u fits (parts_take {t = t} {us = us} {ts = rs} {v = v} {ws = xs} {vs = ws} {mid = mid} {qs = os} {r = q} {s = r} h p k l) =
      goes (bind_to m scoping (suc n) t v env ps s) (rest (suc n) rs ws) (mid, os) r
      (by_parts n t us v env ps s h ∙ (goes (m.parts (length us) v s) (λ ys. each_value n us ys env ps) xs q p ∙ taken n us xs env ps q mid os r (parts_within n t us h fits.0) k))
      ∙ taken (suc n) rs ws mid os r new qs u fits.1 l

  -- what one target does
  one_value : (n : ℕ) (t : TargetExpr) (v : Datum) (env : V) (ps : Places) (s : S) → each_value n (t ∷ []) (v ∷ []) env ps s ≡ following (bind_to m scoping n t v env ps s) (λ r. pure (r.0, r.1))
  unfolding bind_each
  one_value n t v env ps s = refl

  same_pair : (r : Run S (V × Places)) → following r (λ x. pure (x.0, x.1)) ≡ r
  same_pair (done x s) = refl
  same_pair (stopped why) = refl

  takes : (n : ℕ) (t : TargetExpr) (v : Datum) (env : V) (ps : Places) (s : S) (new : V) (qs : Places) (u : S) → TargetIsWithin n t → TakeValues m scoping (t ∷ []) (v ∷ []) env ps s new qs u
      → bind_to m scoping n t v env ps s ≡ done (new, qs) u
  takes n t v env ps s new qs u fits h = sym (same_pair (bind_to m scoping n t v env ps s)) ∙ (sym (one_value n t v env ps s) ∙ taken n (t ∷ []) (v ∷ []) env ps s new qs u (fits, tt) h)

  taking_stops : (n : ℕ) (ts : List TargetExpr) (vs : List Datum) (env : V) (ps : Places) (s : S) (why : Stop) → AllByRecursion (TargetIsWithin n) ts → TakingStops m scoping ts vs env ps s why
      → each_value n ts vs env ps s ≡ stopped why
  unfolding bind_each TargetIsWithin
  taking_stops zero ts vs env ps s why fits (place_stops e h) = absurd fits.0
  taking_stops zero ts vs env ps s why fits (parts_stop h p) = absurd fits.0
  taking_stops zero ts vs env ps s why fits (part_stops h p k) = absurd fits.0
  taking_stops zero ts vs env ps s why fits (later_target_stops h k) = absurd fits.0
  taking_stops (suc n) ts vs env ps s why fits (place_stops {t = t} {ts = rs} {v = v} {a = a} {b = b} {vs = ws} {ps = os} e h) =
      ends (bind_to m scoping (suc n) t v env ps s) (rest (suc n) rs ws) why (by_form n t _ v env ps s e ∙ place_refused a b v env os s why h)
  taking_stops (suc n) ts vs env ps s why fits (parts_stop {t = t} {us = us} {ts = rs} {v = v} {vs = ws} h p) =
      ends (bind_to m scoping (suc n) t v env ps s) (rest (suc n) rs ws) why (by_parts n t us v env ps s h ∙ ends (m.parts (length us) v s) (λ ys. each_value n us ys env ps) why p)
  taking_stops (suc n) ts vs env ps s why fits (part_stops {t = t} {us = us} {ts = rs} {v = v} {ws = xs} {vs = ws} {u = u} h p k) =
      ends (bind_to m scoping (suc n) t v env ps s) (rest (suc n) rs ws) why
      (by_parts n t us v env ps s h ∙ (goes (m.parts (length us) v s) (λ ys. each_value n us ys env ps) xs u p ∙ taking_stops n us xs env ps u why (parts_within n t us h fits.0) k))
  taking_stops (suc n) ts vs env ps s why fits (later_target_stops {t = t} {ts = rs} {v = v} {vs = ws} {mid = mid} {qs = qs} {u = u} h k) =
      goes (bind_to m scoping (suc n) t v env ps s) (rest (suc n) rs ws) (mid, qs) u (takes (suc n) t v env ps s mid qs u fits.0 h) ∙ taking_stops (suc n) rs ws mid qs u why fits.1 k

  stops_taking : (n : ℕ) (t : TargetExpr) (v : Datum) (env : V) (ps : Places) (s : S) (why : Stop) → TargetIsWithin n t → TakingStops m scoping (t ∷ []) (v ∷ []) env ps s why
      → bind_to m scoping n t v env ps s ≡ stopped why
  stops_taking n t v env ps s why fits h = sym (same_pair (bind_to m scoping n t v env ps s)) ∙ (sym (one_value n t v env ps s) ∙ taking_stops n (t ∷ []) (v ∷ []) env ps s why (fits, tt) h)

  -- ---- assignments

  pub assignments : AssignmentsInOrder m scoping
  unfolding assign
  assignments eval t v env s fits =
      let bound : Places → Action S V = λ ps. bind_to m scoping max_layers t v env ps >>= λ r. pure r.0 in (
        λ ps u placed.
            let begun : assign m scoping eval t v env s ≡ bound ps u = goes (places_to m eval max_layers t env [] s) bound ps u (first_of m eval env max_layers t [] ps s u fits placed) in (
              λ new w all. begun ∙ goes (bind_to m scoping max_layers t v env ps u) (λ r. pure r.0) (new, []) w (takes max_layers t v env ps u new [] w fits all),
              λ why stop. begun ∙ ends (bind_to m scoping max_layers t v env ps u) (λ r. pure r.0) why (stops_taking max_layers t v env ps u why fits stop),
            ),
        λ why stop. ends (places_to m eval max_layers t env [] s) bound why (first_stops m eval env max_layers t [] s why fits stop),
      )

  pub loop_variables : VariablesInOrder m scoping
  unfolding bind_variables
  loop_variables t v env s fits = (
    λ new w all. goes (bind_to m scoping max_layers t v env [] s) (λ r. pure r.0) (new, []) w (takes max_layers t v env [] s new [] w fits all),
    λ why stop. ends (bind_to m scoping max_layers t v env [] s) (λ r. pure r.0) why (stops_taking max_layers t v env [] s why fits stop),
  )
