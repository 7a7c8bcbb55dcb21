-- The laws of calls: what is called is evaluated first, and then the arguments from left to right, in the order in which they are
-- written, whatever their form (Starlark specification, "Function and method calls").
use Rattle.std.specs.Prelude.{◌≡◌, ℕ, suc, List, [], ◌∷◌, length, Some, None}
use Rattle.bq_parse_grammar.specs.declared.tree.Expr.{Expr}
use Rattle.bq_parse_grammar.specs.declared.tree.Argument.TheOpen.{Argument-F}
use Rattle.bq_parse_grammar.specs.declared.tree.Argument.{Argument, out-Argument}
use Rattle.bq_parse_grammar.specs.declared.tree.Suffix.{Suffix}
use Rattle.bq_predeclared.specs.declared.predeclared.Predeclared.{Predeclared}
use Rattle.bq_value.specs.Datum.{Datum}
use Rattle.bq_builtin_machine.specs.Action.{Action, done, stopped}
use Rattle.bq_builtin_machine.specs.Args.{Passed, nothing_passed}
use Rattle.bq_builtin_machine.specs.State.{Stop}
use Rattle.bq_eval_spec.specs.Primitives.{Primitives}
use Rattle.bq_eval_spec.specs.Expressions.{call_of, method, suffix, suffixes, primary}
use Rattle.bq_eval_spec.specs.Trees.{Eval, Calls, ArgumentLayer}
use Rattle.bq_eval_spec.specs.Environment.{Scoping}

-- the expression of an argument
abbrev pub operand_of : ArgumentLayer → Expr
operand_of (Argument-F.Positional x) = x
operand_of (Argument-F.Named name x) = x
operand_of (Argument-F.Star x) = x
operand_of (Argument-F.StarStar x) = x

module _ {S : Type 0} (m : Primitives S) where
  -- what its value adds to the arguments before it
  abbrev pub passing : ArgumentLayer → Passed → Datum → Action S Passed
  passing (Argument-F.Positional x) p v = m.pass p v
  passing (Argument-F.Named name x) p v = m.pass_named p name v
  passing (Argument-F.Star x) p v = m.pass_all p v
  passing (Argument-F.StarStar x) p v = m.pass_all_named p v

  module _ {V : Type 0} (eval : Eval S V) (env : V) where
    -- These arguments, after those that were passed so far: each is evaluated and passed before the next one, from the first state on.
    pub data Passes : List Argument → Passed → S → Passed → S → Type 0 where
      all_passed : {p : Passed} {s : S} → Passes [] p s p s
      passed_first : {a : Argument} {xs : List Argument} {v : Datum} {p q r : Passed} {s t u w : S} → eval (operand_of (out-Argument a)) env s ≡ done v t
          → passing (out-Argument a) p v t ≡ done q u → Passes xs q u r w → Passes (a ∷ xs) p s r w

    -- one of them stops, where it is evaluated or where its value is passed, after those before it
    pub data PassingStops : List Argument → Passed → S → Stop → Type 0 where
      operand_stops : {a : Argument} {xs : List Argument} {p : Passed} {s : S} {why : Stop} → eval (operand_of (out-Argument a)) env s ≡ stopped why → PassingStops (a ∷ xs) p s why
      value_stops : {a : Argument} {xs : List Argument} {v : Datum} {p : Passed} {s t : S} {why : Stop} → eval (operand_of (out-Argument a)) env s ≡ done v t
          → passing (out-Argument a) p v t ≡ stopped why → PassingStops (a ∷ xs) p s why
      stops_later : {a : Argument} {xs : List Argument} {v : Datum} {p q : Passed} {s t u : S} {why : Stop} → eval (operand_of (out-Argument a)) env s ≡ done v t
          → passing (out-Argument a) p v t ≡ done q u → PassingStops xs q u why → PassingStops (a ∷ xs) p s why

module _ {S R V : Type 0} (m : Primitives S) (scoping : Scoping R V) where
  -- the arguments of `v(..)` and `v.name(..)`, and then the call
  abbrev pub ArgumentsInOrder : Type 0
  ArgumentsInOrder =
      (eval : Eval S V) (env : V) (call : Calls S) (name : List ℕ) (xs : List Argument) (v : Datum) (p : Passed) (s t : S) → Passes m eval env xs nothing_passed s p t
      → (call_of m eval call xs env v s ≡ call v p t) × (method m eval name xs env v s ≡ m.call_method name v p t)

  -- the argument that stops first ends the call, and nothing is called
  abbrev pub ArgumentsStop : Type 0
  ArgumentsStop =
      (eval : Eval S V) (env : V) (call : Calls S) (name : List ℕ) (xs : List Argument) (v : Datum) (why : Stop) (s : S) → PassingStops m eval env xs nothing_passed s why
      → (call_of m eval call xs env v s ≡ stopped why) × (method m eval name xs env v s ≡ stopped why)

  -- what is called, indexed or sliced, and then what is done to it, one after another
  abbrev pub OperandsOfSuffixesFirst : Type 0
  OperandsOfSuffixesFirst =
      (eval : Eval S V) (round : R) (env : V) (call : Calls S) (x : Expr) (xs : List Suffix) (v : Datum) (r s t : S) → scoping.member round env x xs ≡ None → m.step (length xs) r ≡ done tt s
      → eval x env s ≡ done v t → primary m scoping eval call round x xs env r ≡ suffixes m eval call xs env v t

  -- what a namespace has by a name is called in one step with what is done to the result
  abbrev pub MembersInOrder : Type 0
  MembersInOrder =
      (eval : Eval S V) (round : R) (env : V) (call : Calls S) (x : Expr) (ss rest : List Suffix) (p : Predeclared) (xs : List Argument) (v : Datum) (r s t : S)
      → scoping.member round env x ss ≡ Some (Some p, xs, rest) → m.step (suc (length rest)) r ≡ done tt s → call_of m eval call xs env (m.predeclared p) s ≡ done v t
      → primary m scoping eval call round x ss env r ≡ suffixes m eval call rest env v t

  abbrev pub SuffixesInOrder : Type 0
  SuffixesInOrder =
      (eval : Eval S V) (env : V) (call : Calls S) (x : Suffix) (xs : List Suffix) (v w : Datum) (s t : S) → suffix m eval call x env v s ≡ done w t
      → suffixes m eval call (x ∷ xs) env v s ≡ suffixes m eval call xs env w t
