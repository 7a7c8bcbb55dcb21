-- The laws of targets: the operands of the targets `x[i]` in a target are evaluated in the order in which they are written, and then its
-- parts take their values from the left (Starlark specification, "Assignments").
use Rattle.std.specs.Prelude.{◌≡◌, ◌⊎◌, List, [], ◌∷◌, ◌++◌, length}
use Rattle.bq_parse_grammar.specs.declared.tree.Argument.TheOpen.{TargetExpr-F}
use Rattle.bq_parse_grammar.specs.declared.tree.Expr.{Expr}
use Rattle.bq_parse_grammar.specs.declared.tree.Identifier.{Identifier}
use Rattle.bq_parse_grammar.specs.declared.tree.TargetExpr.{TargetExpr, out-TargetExpr}
use Rattle.bq_resolve_scope.specs.Names.{max_layers}
use Rattle.bq_value.specs.Datum.{Datum}
use Rattle.bq_builtin_machine.specs.Action.{done, stopped}
use Rattle.bq_builtin_machine.specs.State.{Stop}
use Rattle.bq_eval_spec.specs.Primitives.{Primitives}
use Rattle.bq_eval_spec.specs.Environment.{Scoping}
use Rattle.bq_eval_spec.specs.Targets.{Places, bind_variables, assign}
use Rattle.bq_eval_spec.specs.Trees.{Eval}
use Rattle.bq_eval_laws.specs.Layers.{TargetIsWithin}
use Rattle.bq_eval_laws.specs.Order.{Evaluates, Stops}

-- a target is a tuple or a list of these
abbrev pub HasParts : TargetExpr → List TargetExpr → Type 0
HasParts t us = (out-TargetExpr t ≡ TargetExpr-F.TargetExpr::Tuple us) ⊎ (out-TargetExpr t ≡ TargetExpr-F.TargetExpr::List us)

-- ---- before a value is bound

module _ {S V : Type 0} (eval : Eval S V) (env : V) where
  -- The targets `x[i]` in these targets, in the order in which they are written: their operands are evaluated from the first of these
  -- states on, have these values, and leave the second state.
  pub data EvaluatesPlaces : List TargetExpr → S → Places → S → Type 0 where
    no_target : {s : S} → EvaluatesPlaces [] s [] s
    name_has_none : {t : TargetExpr} {ts : List TargetExpr} {n : Identifier} {ps : Places} {s u : S} → out-TargetExpr t ≡ TargetExpr-F.TargetExpr::Name n → EvaluatesPlaces ts s ps u
        → EvaluatesPlaces (t ∷ ts) s ps u
    index_is_one : {t : TargetExpr} {ts : List TargetExpr} {x i : Expr} {v w : Datum} {ps : Places} {r s u : S} → out-TargetExpr t ≡ TargetExpr-F.TargetExpr::Index x i
        → Evaluates eval env (x ∷ i ∷ []) r (v ∷ w ∷ []) s → EvaluatesPlaces ts s ps u → EvaluatesPlaces (t ∷ ts) r ((v, w) ∷ ps) u
    parts_have_theirs : {t : TargetExpr} {us ts : List TargetExpr} {ps qs : Places} {r s u : S} → HasParts t us → EvaluatesPlaces us r ps s → EvaluatesPlaces ts s qs u
        → EvaluatesPlaces (t ∷ ts) r (ps ++ qs) u

  -- one of the operands stops, after those before it
  pub data PlacesStop : List TargetExpr → S → Stop → Type 0 where
    operand_stops : {t : TargetExpr} {ts : List TargetExpr} {x i : Expr} {s : S} {why : Stop} → out-TargetExpr t ≡ TargetExpr-F.TargetExpr::Index x i → Stops eval env (x ∷ i ∷ []) s why
        → PlacesStop (t ∷ ts) s why
    operand_of_part_stops : {t : TargetExpr} {us ts : List TargetExpr} {s : S} {why : Stop} → HasParts t us → PlacesStop us s why → PlacesStop (t ∷ ts) s why
    later_operand_stops : {t : TargetExpr} {ts : List TargetExpr} {ps : Places} {s u : S} {why : Stop} → EvaluatesPlaces (t ∷ []) s ps u → PlacesStop ts u why → PlacesStop (t ∷ ts) s why

-- ---- binding

module _ {S R V : Type 0} (m : Primitives S) (scoping : Scoping R V) where
  -- These targets take these values, from the left: from the first environment, places and state on, they end with the second ones. A target
  -- `x[i]` takes the next of the places; a tuple or list an iterable of as many elements as it has parts, which take one each.
  pub data TakeValues : List TargetExpr → List Datum → V → Places → S → V → Places → S → Type 0 where
    no_value : {env : V} {ps : Places} {s : S} → TakeValues [] [] env ps s env ps s
    name_takes : {t : TargetExpr} {ts : List TargetExpr} {n : Identifier} {v : Datum} {vs : List Datum} {env new : V} {ps qs : Places} {s u : S} → out-TargetExpr t ≡ TargetExpr-F.TargetExpr::Name n
        → TakeValues ts vs (scoping.bind env n v) ps s new qs u → TakeValues (t ∷ ts) (v ∷ vs) env ps s new qs u
    place_takes : {t : TargetExpr} {ts : List TargetExpr} {x i : Expr} {v a b : Datum} {vs : List Datum} {env new : V} {ps qs : Places} {r s u : S}
        → out-TargetExpr t ≡ TargetExpr-F.TargetExpr::Index x i → m.set_index a b v r ≡ done tt s → TakeValues ts vs env ps s new qs u → TakeValues (t ∷ ts) (v ∷ vs) env ((a, b) ∷ ps) r new qs u
    parts_take : {t : TargetExpr} {us ts : List TargetExpr} {v : Datum} {ws vs : List Datum} {env mid new : V} {ps qs rs : Places} {q r s u : S} → HasParts t us
        → m.parts (length us) v q ≡ done ws r → TakeValues us ws env ps r mid qs s → TakeValues ts vs mid qs s new rs u → TakeValues (t ∷ ts) (v ∷ vs) env ps q new rs u

  -- one of the targets stops, after those before it; so does one that has another number of parts than its value has elements
  pub data TakingStops : List TargetExpr → List Datum → V → Places → S → Stop → Type 0 where
    place_stops : {t : TargetExpr} {ts : List TargetExpr} {x i : Expr} {v a b : Datum} {vs : List Datum} {env : V} {ps : Places} {s : S} {why : Stop}
        → out-TargetExpr t ≡ TargetExpr-F.TargetExpr::Index x i → m.set_index a b v s ≡ stopped why → TakingStops (t ∷ ts) (v ∷ vs) env ((a, b) ∷ ps) s why
    parts_stop : {t : TargetExpr} {us ts : List TargetExpr} {v : Datum} {vs : List Datum} {env : V} {ps : Places} {s : S} {why : Stop} → HasParts t us → m.parts (length us) v s ≡ stopped why
        → TakingStops (t ∷ ts) (v ∷ vs) env ps s why
    part_stops : {t : TargetExpr} {us ts : List TargetExpr} {v : Datum} {ws vs : List Datum} {env : V} {ps : Places} {s u : S} {why : Stop} → HasParts t us → m.parts (length us) v s ≡ done ws u
        → TakingStops us ws env ps u why → TakingStops (t ∷ ts) (v ∷ vs) env ps s why
    later_target_stops : {t : TargetExpr} {ts : List TargetExpr} {v : Datum} {vs : List Datum} {env mid : V} {ps qs : Places} {s u : S} {why : Stop} → TakeValues (t ∷ []) (v ∷ []) env ps s mid qs u
        → TakingStops ts vs mid qs u why → TakingStops (t ∷ ts) (v ∷ vs) env ps s why

  -- an assignment: the operands in its target, and then its parts
  abbrev pub AssignmentsInOrder : Type 0
  AssignmentsInOrder =
      (eval : Eval S V) (t : TargetExpr) (v : Datum) (env : V) (s : S) → TargetIsWithin max_layers t
      → ((ps : Places) (u : S) → EvaluatesPlaces eval env (t ∷ []) s ps u
      → ((new : V) (w : S) → TakeValues (t ∷ []) (v ∷ []) env ps u new [] w → assign m scoping eval t v env s ≡ done new w)
      × ((why : Stop) → TakingStops (t ∷ []) (v ∷ []) env ps u why → assign m scoping eval t v env s ≡ stopped why))
      × ((why : Stop) → PlacesStop eval env (t ∷ []) s why → assign m scoping eval t v env s ≡ stopped why)

  -- the variables of a `for`
  abbrev pub VariablesInOrder : Type 0
  VariablesInOrder =
      (t : TargetExpr) (v : Datum) (env : V) (s : S) → TargetIsWithin max_layers t
      → ((new : V) (w : S) → TakeValues (t ∷ []) (v ∷ []) env [] s new [] w → bind_variables m scoping t v env s ≡ done new w)
      × ((why : Stop) → TakingStops (t ∷ []) (v ∷ []) env [] s why → bind_variables m scoping t v env s ≡ stopped why)
