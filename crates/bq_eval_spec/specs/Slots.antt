-- The meaning by slots: an environment is a frame, and each name says where its value is.
use Rattle.std.specs.Prelude.{ℕ, List, [], ◌∷◌, length, take, drop, Option, Some, None, slice_get}
use Rattle.bq_parse_grammar.specs.declared.tree.Argument.TheOpen.{Expr-F, Suffix-F}
use Rattle.bq_parse_grammar.specs.declared.tree.ComprehensionFrame.{ComprehensionFrame}
use Rattle.bq_parse_grammar.specs.declared.tree.ComprehensionFrame.TheVariants as frames
use Rattle.bq_parse_grammar.specs.declared.tree.Expr.{out-Expr}
use Rattle.bq_parse_grammar.specs.declared.tree.Referent.{Referent}
use Rattle.bq_parse_grammar.specs.declared.tree.Referent.TheVariants as referent
use Rattle.bq_parse_grammar.specs.declared.tree.Suffix.{Suffix, out-Suffix}
use Rattle.bq_parse_grammar.specs.Targets.{ExprLayer, SuffixLayer}
use Rattle.bq_predeclared.specs.declared.predeclared.Predeclared.{Predeclared}
use Rattle.bq_resolve_scope.specs.declared.file.ResolvedFile.{ResolvedFile}
use Rattle.bq_resolve_scope.specs.declared.loads.LoadStmt.{LoadStmt}
use Rattle.bq_resolve_scope.specs.declared.loads.LoadedSymbol.{LoadedSymbol}
use Rattle.bq_value.specs.Cells.{FrozenView, globals_at}
use Rattle.bq_value.specs.Datum.{Datum}
use Rattle.bq_builtin_machine.specs.Action.{Action}
use Rattle.bq_eval_spec.specs.Frame.{Frame, empty, fill, Surroundings}
use Rattle.bq_eval_spec.specs.Primitives.{Primitives}
use Rattle.bq_eval_spec.specs.Calls.{TreeUnit, Units}
use Rattle.bq_eval_spec.specs.Environment.{NameValue, variable, predeclared, NamespaceCall, Scoping}
use Rattle.bq_eval_spec.specs.Module as meaning
use Rattle.bq_eval_spec.specs.Module.{Own}

-- ---- names

-- What is at the place that a name refers to. A namespace is no value: it has what the member that is called is.
abbrev pub value_at : Surroundings → Frame → Referent → Option NameValue
value_at round frame (referent.Unresolved line) = None
value_at round frame (referent.Local slot) = Some (variable (frame slot))
value_at round frame (referent.Global k) = Some (variable (round.globals k))
value_at round frame (referent.Loaded k) = Some (variable (round.loaded k))
value_at round frame (referent.Predeclared p) = Some (predeclared p)
value_at round frame (referent.Member p) = Some (predeclared p)

-- where the value of a variable goes: outside functions the file's globals are the frame
abbrev pub slot_of : Referent → ℕ
slot_of (referent.Local slot) = slot
slot_of (referent.Global k) = k
slot_of _ = 0

-- what the member of a namespace is that this refers to, if it refers to one
abbrev pub member_named : Referent → Option Predeclared
member_named (referent.Member p) = Some p
member_named _ = None

-- a namespace refers to the member of it that is called
abbrev pub member_at : ExprLayer → Option Predeclared
member_at (Expr-F.Expr::Name n) = member_named n.referent
member_at _ = None

-- `.name(arguments)` after a namespace, and what is done to its result
abbrev pub called_by : Option Predeclared → SuffixLayer → List Suffix → Option NamespaceCall
called_by (Some p) (Suffix-F.Method n xs) ss = Some (Some p, xs, ss)
called_by _ _ ss = None

-- the call of a namespace's member, if these suffixes begin with it
abbrev pub called : Option Predeclared → List Suffix → Option NamespaceCall
called p [] = None
called p (s ∷ ss) = called_by p (out-Suffix s) ss

-- outside functions a comprehension has a frame of its own
abbrev pub opened : Frame → ComprehensionFrame → Frame
opened frame frames.Shared = frame
opened frame (frames.Own slots) = empty

-- what names mean
abbrev pub by_slots : Scoping Surroundings Frame
by_slots = record {
  value = λ round frame n. value_at round frame n.referent;
  member = λ round frame x ss. called (member_at (out-Expr x)) ss;
  own_value = λ frame n. frame (slot_of n.referent);
  bind = λ frame n v. fill frame (slot_of n.referent) v;
  outside = empty;
  in_function = λ d. empty;
  in_comprehension = λ frame cs own. opened frame own;
}

-- ---- loads

-- where it is a global
abbrev pub with_first : Option ℕ → Datum → Frame → Frame
with_first None v globals = globals
with_first (Some k) v globals = fill globals k v

-- the clauses of a load take the next values: what is left of these, and the globals then
abbrev pub first_of_clauses : List LoadedSymbol → List Datum → Frame → List Datum × Frame
first_of_clauses (x ∷ xs) (v ∷ vs) globals = first_of_clauses xs vs (with_first x.global v globals)
first_of_clauses _ vs globals = (vs, globals)

-- A loaded name that the file binds too is a global whose first value is the loaded one.
unfoldable pub first_globals : List LoadStmt → List Datum → Frame → Frame
first_globals [] vs globals = globals
first_globals (l ∷ ls) vs globals = (let r = first_of_clauses l.clauses vs globals in first_globals ls r.0 r.1)

-- ---- files

-- what is around the blocks of a file: each clause of its loads has bound a value, by its place among them
abbrev pub surroundings_of : List Datum → Frame → Surroundings
surroundings_of loaded globals = record { globals = globals; loaded = λ k. slice_get loaded k }

-- what a file has from its start on
abbrev pub own_of : ℕ → ResolvedFile → List Datum → Own Surroundings Frame
own_of number file loaded = record { number = number; functions = file.functions; round = surroundings_of loaded }

-- a file, as module `number` among these, with a value for each clause of its loads
unfoldable pub module_meaning : {S : Type 0} → Primitives S → Units Surroundings → ℕ → ResolvedFile → List Datum → Action S Frame
module_meaning m units number file loaded = meaning.module_meaning m by_slots units (own_of number file loaded) file.statements (first_globals file.loads loaded empty)

-- ---- frozen modules

-- of the values that a module ended with the first are those of its globals, and after them come those of what its loads bind
abbrev pub frozen_unit : Option (Option ResolvedFile) → Option (List Datum) → Option (TreeUnit Surroundings)
frozen_unit (Some (Some file)) (Some values) =
    Some (record { functions = file.functions; round = surroundings_of (drop (length file.globals) values) (λ k. slice_get (take (length file.globals) values) k) })
frozen_unit _ _ = None

-- the values of a loaded module, by its number
unfoldable pub globals_among : ℕ → List FrozenView → Option (List Datum)
globals_among n [] = None
globals_among n (f ∷ fs) = elim (globals_at f n) [ Some x ↦ Some x | None ↦ globals_among n fs ]

-- the modules that these frozen ones reach, by their files
unfoldable pub frozen_units : List (Option ResolvedFile) → List FrozenView → Units Surroundings
frozen_units files loaded = λ n. frozen_unit (slice_get files n) (globals_among n loaded)
