-- What the parameters of a function begin with, in words of the call and the `def` alone (Starlark, "Function definitions", "Function and
-- method calls").
use Rattle.std.specs.Prelude.{◌≡◌, ◌<◌, ◌≤◌, ℕ, Bool, true, false, not, bytes_eq, List, ◌∷◌, ◌++◌, length, map, drop, slice_get, Option, Some, None}
use Rattle.std.specs.List.{AllByRecursion, filter, list_any}
use Rattle.bq_base.specs.declared.fault.EvalFault.TheVariants.{Args}
use Rattle.bq_parse_grammar.specs.declared.tree.Identifier.{Identifier}
use Rattle.bq_resolve_scope.specs.declared.file.Formal.{Formal}
use Rattle.bq_resolve_scope.specs.declared.file.Formal.TheVariants as formal
use Rattle.bq_resolve_scope.specs.declared.file.Function.{Function}
use Rattle.bq_value.specs.Contents.{pairs}
use Rattle.bq_value.specs.Datum.{Datum, string, tuple, data_of}
use Rattle.bq_builtin_machine.specs.Action.{done, stopped}
use Rattle.bq_builtin_machine.specs.Args.{Passed}
use Rattle.bq_builtin_machine.specs.State.{stop_at}
use Rattle.bq_eval_spec.specs.Frame.{Frame}
use Rattle.bq_eval_spec.specs.Primitives.{Primitives}
use Rattle.bq_eval_spec.specs.Calls.{entry}
use Rattle.bq_eval_spec.specs.Environment.{Scoping}
use Rattle.bq_eval_spec.specs.Slots.{slot_of, by_slots}
use Rattle.bq_eval_laws.specs.Frames.{goes_into}

-- a parameter takes one argument: it is none with a star
abbrev pub takes_one : Formal → Bool
takes_one (formal.Plain n) = true
takes_one (formal.Default n) = true
takes_one _ = false

-- a parameter has a default
abbrev pub has_default : Formal → Bool
has_default (formal.Default n) = true
has_default _ = false

-- a `*`, with a name or without one
abbrev pub is_star : Formal → Bool
is_star formal.BareStar = true
is_star (formal.Star n) = true
is_star _ = false

-- a named argument of that name is for this parameter
abbrev pub is_for : List ℕ → Formal → Bool
is_for name (formal.Plain n) = bytes_eq name n.name
is_for name (formal.Default n) = bytes_eq name n.name
is_for name _ = false

-- the name that a parameter binds
abbrev pub bound_name : Formal → Option Identifier
bound_name (formal.Plain n) = Some n
bound_name (formal.Default n) = Some n
bound_name formal.BareStar = None
bound_name (formal.Star n) = Some n
bound_name (formal.StarStar n) = Some n

-- none of these is a `*`
abbrev pub HasNoStar : List Formal → Type 0
HasNoStar = AllByRecursion (λ q. is_star q ≡ false)

-- how many of these take one argument
abbrev pub count_of_one : List Formal → ℕ
count_of_one ps = length (filter takes_one ps)

-- The parameters of a function are these, this one, and those. Where a file is resolved, each has a name and a slot of its own.
pub record IsParameter (d : Function) (before : List Formal) (q : Formal) (after : List Formal) (n : Identifier) : Type 0 where
  pub among : d.parameters ≡ before ++ q ∷ after
  pub name : bound_name q ≡ Some n
  pub own_name : AllByRecursion (λ f. is_for n.name f ≡ false) before
  pub own_slot : AllByRecursion (λ f. goes_into (slot_of n.referent) f ≡ false) after

-- What a parameter begins with that comes after these parameters, where the `def` has evaluated these defaults.
pub data BeginsWith (defaults : List Datum) (p : Passed) (before : List Formal) : Formal → Identifier → Datum → Type 0 where
  -- with the positional argument at its place, unless it comes after a `*`
  from_place : {q : Formal} {n : Identifier} {v : Datum} → takes_one q ≡ true → HasNoStar before → slice_get p.positional (count_of_one before) ≡ Some v → BeginsWith defaults p before q n v
  -- with the argument of its name
  from_name : {q : Formal} {n : Identifier} {v : Datum} → takes_one q ≡ true → (k : ℕ) → slice_get p.named k ≡ Some (n.name, v) → BeginsWith defaults p before q n v
  -- with its default, if it has no argument: after a `*` no positional one is for it
  from_default : {q : Formal} {n : Identifier} {v : Datum} → has_default q ≡ true → (HasNoStar before → length p.positional ≤ count_of_one before)
      → ((k : ℕ) (w : Datum) → slice_get p.named k ≡ Some (n.name, w) → ⊥) → slice_get defaults (length (filter has_default before)) ≡ Some v → BeginsWith defaults p before q n v
  -- `*args` with a tuple of the positional arguments that are left
  from_rest : {own n : Identifier} → HasNoStar before → BeginsWith defaults p before (formal.Star own) n (tuple (data_of (drop (count_of_one before) p.positional)))

-- the named arguments that are for none of these parameters, in order, as the pairs of a dict
abbrev pub for_none : List Formal → List (List ℕ × Datum) → List (Datum × Datum)
for_none ps named = map (λ a. (string a.0, a.1)) (filter (λ a. not (list_any (is_for a.0) ps)) named)

module _ {S : Type 0} (m : Primitives S) where
  -- a parameter begins with its argument, else with its default; `*args` with what is left
  abbrev pub ParametersBegin : Type 0
  ParametersBegin =
      (d : Function) (defaults : List Datum) (p : Passed) (s t : S) (env : Frame) (before after : List Formal) (q : Formal) (n : Identifier) (v : Datum) → entry m by_slots d defaults p s ≡ done env t
      → IsParameter d before q after n → BeginsWith defaults p before q n v → env (slot_of n.referent) ≡ Some v

  -- `**kwargs` begins with a new dict of the named arguments that are left
  abbrev pub KeywordsBegin : Type 0
  KeywordsBegin =
      (d : Function) (defaults : List Datum) (p : Passed) (s t u : S) (env : Frame) (before after : List Formal) (q n : Identifier) (v : Datum) → entry m by_slots d defaults p s ≡ done env t
      → IsParameter d before (formal.StarStar q) after n → m.make (pairs (for_none d.parameters p.named)) s ≡ done v u → env (slot_of n.referent) ≡ Some v

module _ {S R V : Type 0} (m : Primitives S) (scoping : Scoping R V) where
  -- More positional arguments than there are parameters before a bare `*`: no parameter after it takes one.
  abbrev pub BareStarsEndThem : Type 0
  BareStarsEndThem =
      (d : Function) (defaults : List Datum) (p : Passed) (s : S) (before after : List Formal) → d.parameters ≡ before ++ formal.BareStar ∷ after → HasNoStar before → HasNoStar after
      → count_of_one before < length p.positional → entry m scoping d defaults p s ≡ stopped (stop_at Args (m.machine s))
