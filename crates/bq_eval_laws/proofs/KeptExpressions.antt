-- An expression resolves to one of the same form: what is measured of it stays as it was.
use Rattle.std.proofs.Common.{◌≡◌, ◌∙◌, ℕ, zero, suc, Bool, true, false, ◌&&◌, ◌||◌, List, [], ◌∷◌, map, ◌++◌, ◌+◌, length, Option, Some, None, Result, Ok, Err, refl, sym, ap}
use Rattle.std.specs.Prelude.{if◌then◌else◌}
use Rattle.std.specs.Option.{option_map}
use Rattle.bq_base.specs.declared.fault.NameFault.{NameFault}
use Rattle.bq_base.specs.declared.fault.Fault.{Fault}
use Rattle.bq_base.specs.declared.fault.NameFault.TheVariants as f
use Rattle.bq_parse_grammar.specs.declared.tree.Argument.TheOpen.{Argument-F, Clause-F, Expr-F, Suffix-F, TargetExpr-F}
use Rattle.bq_parse_grammar.specs.declared.tree.Argument.{Argument, out-Argument}
use Rattle.bq_parse_grammar.specs.declared.tree.Argument.TheVariants as a
use Rattle.bq_parse_grammar.specs.declared.tree.Choice.{Choice, out-Choice, roll-Choice}
use Rattle.bq_parse_grammar.specs.declared.tree.Clause.{Clause, out-Clause}
use Rattle.bq_parse_grammar.specs.declared.tree.Clause.TheVariants as cl
use Rattle.bq_parse_grammar.specs.declared.tree.ComprehensionFrame.{ComprehensionFrame}
use Rattle.bq_parse_grammar.specs.declared.tree.ComprehensionFrame.TheVariants as frame
use Rattle.bq_parse_grammar.specs.declared.tree.Expr.{Expr, out-Expr, roll-Expr, roll-out-Expr}
use Rattle.bq_parse_grammar.specs.declared.tree.Expr.TheVariants as e
use Rattle.bq_parse_grammar.specs.declared.tree.FileKind.{FileKind}
use Rattle.bq_parse_grammar.specs.declared.tree.Identifier.{Identifier}
use Rattle.bq_parse_grammar.specs.declared.tree.Operation.{Operation, out-Operation, roll-Operation}
use Rattle.bq_parse_grammar.specs.declared.tree.Pair.{Pair, out-Pair, roll-Pair}
use Rattle.bq_parse_grammar.specs.declared.tree.Referent.{Referent}
use Rattle.bq_parse_grammar.specs.declared.tree.Referent.TheVariants as b
use Rattle.bq_parse_grammar.specs.declared.tree.Suffix.{Suffix, out-Suffix, roll-Suffix, roll-out-Suffix}
use Rattle.bq_parse_grammar.specs.declared.tree.Suffix.TheVariants as s
use Rattle.bq_parse_grammar.specs.declared.tree.TargetExpr.{TargetExpr, out-TargetExpr}
use Rattle.bq_parse_grammar.specs.declared.tree.TargetExpr.TheVariants as t
use Rattle.bq_parse_grammar.specs.Targets.{ExprLayer, SuffixLayer}
use Rattle.bq_resolve_scope.specs.declared.file.Function.{Function}
use Rattle.bq_resolve_scope.specs.declared.universe.Namespace.{Namespace}
use Rattle.bq_resolve_scope.specs.Names.{Name, place_among, TargetLayer, ClauseLayer, max_layers, has, with_name, comprehension_names}
use Rattle.bq_resolve_scope.specs.Scope.{BlockParts, FileParts, or_else, slot_of, file_has, use_of}
use Rattle.bq_predeclared.specs.declared.predeclared.Predeclared.{Predeclared}
use Rattle.bq_resolve_scope.specs.Universe.{member_named, universe_has}
use Rattle.bq_resolve_scope.specs.Visit.{Passed, Visit, ◌>>=◌, pure, given, fault_of, each, optional}
use Rattle.bq_resolve_scope.specs.Expressions.{refer, place_of, is_bzl, bind_global, bind_in, framed, in_frame, NamedSpace, member_by, member_call, space_of, with_space, namespace_at, use_at, bound_at, target_by, target_to, pair, operation, choice, argument_by, arguments, suffix_by, suffixes, operand, call_member, primary_by, primary, clause_by, clauses, in_block, comprehension, expr_by, expr_to}
use Rattle.bq_eval_spec.specs.Trees.{ArgumentLayer}
use Rattle.bq_eval_laws.specs.Referents.{RefersToAny, RefersToPlace}
use Rattle.bq_eval_laws.proofs.Gives.{FunctionsAre, Giving, Gives, gives_bind, gives_as, gives_map, gives_two, gives_three, gives_given, gives_each, gives_optional}
use Rattle.bq_eval_laws.proofs.Measures.{Measure, before, argument_of, clause_of, expr_of, suffix_of, target_of, choice_of, operation_of, pair_of, argument_inside, clause_inside, suffix_inside, target_inside, expr_inside, made_argument, opened_argument, made_clause, opened_clause, made_suffix, opened_suffix, made_target, opened_target, made_expr, opened_expr, made_pair, opened_pair, made_operation, opened_operation, made_choice, opened_choice}

pub two : {A B R : Type 0} (g : A → B → R) (x y : A) (z w : B) → x ≡ y → z ≡ w → g x z ≡ g y w
two g x y z w h k = ap (λ v. g v z) h ∙ ap (λ v. g y v) k

pub three : {A B C R : Type 0} (g : A → B → C → R) (x y : A) (z w : B) (u v : C) → x ≡ y → z ≡ w → u ≡ v → g x z u ≡ g y w v
three g x y z w u v h k l = ap (λ q. g q z u) h ∙ two (g y) z w u v k l

-- ---- names

-- a name is the same but for what it refers to, of which this holds
abbrev pub Refers : (Referent → Type 0) → Identifier → Identifier → Type 0
Refers Q n m = (r : Referent) × Q r × (m ≡ refer n r)

-- what may be there is something, or a place
abbrev AnyOf : Option Referent → Type 0
AnyOf None = Unit {0}
AnyOf (Some r) = RefersToAny r

abbrev PlaceOf : Option Referent → Type 0
PlaceOf None = Unit {0}
PlaceOf (Some r) = RefersToPlace r

-- what a name stands for is something
stands_for : (o : Option ℕ) (p q : Option ℕ) (u : Option Predeclared) → AnyOf (or_else (option_map b.Local o) (or_else (option_map b.Global p) (or_else (option_map b.Loaded q) (option_map b.Predeclared u))))
stands_for (Some i) p q u = tt
stands_for None (Some i) q u = tt
stands_for None None (Some i) u = tt
stands_for None None None (Some i) = tt
stands_for None None None None = tt

use_stands : (file : FileParts) (blocks : List BlockParts) (name : Name) → AnyOf (use_of file blocks name)
unfolding use_of file_has
use_stands file blocks name = stands_for (slot_of blocks name) (place_among name file.globals) (place_among name file.loaded) (universe_has file.universe name)

place_stands : (o : Option Referent) → PlaceOf (place_of o)
place_stands None = tt
place_stands (Some (b.Unresolved line)) = tt
place_stands (Some (b.Local slot)) = tt
place_stands (Some (b.Global k)) = tt
place_stands (Some (b.Loaded k)) = tt
place_stands (Some (b.Predeclared p)) = tt
place_stands (Some (b.Member p)) = tt

module _ (F : Function → Type 0) where
  global_by : (q : Bool) (why : Fault NameFault) (names : List Name) (u : Passed) → FunctionsAre F u → Giving F {A = Unit {0}} (λ _. Unit {0}) (if q then Err why else Ok (tt, record u { bound = names }))
  global_by true why names u fit = tt
  global_by false why names u fit = (tt, fit)

  bind_gives : (kind : FileKind) (blocks : List BlockParts) (m : Identifier) → Gives F {A = Unit {0}} (λ _. Unit {0}) (bind_in kind blocks m)
  unfolding bind_global
  bind_gives kind [] m = λ u fit. global_by (is_bzl kind && (has u.bound m.name || has u.loaded m.name)) (fault_of f.Rebound m) (with_name u.bound m.name) u fit
  bind_gives kind (x ∷ bs) m = λ u fit. (tt, fit)

  use_by : (n : Identifier) (why : Fault NameFault) (o : Option Referent) → AnyOf o → Gives F {A = Identifier} (Refers RefersToAny n) (given why o >>= λ x. pure (refer n x))
  use_by n why None any u fit = tt
  use_by n why (Some x) any u fit = ((x, any, refl), fit)

  use_keeps : (file : FileParts) (blocks : List BlockParts) (n : Identifier) → Gives F {A = Identifier} (Refers RefersToAny n) (use_at file blocks n)
  unfolding use_at
  use_keeps file blocks n = use_by n (fault_of f.UnknownName n) (use_of file blocks n.name) (use_stands file blocks n.name)

  place_by : (n : Identifier) (why : Fault NameFault) (o : Option Referent) → PlaceOf o → Gives F {A = Identifier} (Refers RefersToPlace n) (given why o >>= λ x. pure (refer n x))
  place_by n why None any u fit = tt
  place_by n why (Some x) any u fit = ((x, any, refl), fit)

  pub bound_keeps : (file : FileParts) (blocks : List BlockParts) (n : Identifier) → Gives F {A = Identifier} (Refers RefersToPlace n) (bound_at file blocks n)
  unfolding bound_at
  bound_keeps file blocks n =
      gives_bind F (λ _. Unit {0}) (Refers RefersToPlace n) (bind_in file.universe.kind blocks n) (λ _. given (fault_of f.UnknownName n) (place_of (use_of file blocks n.name)) >>= λ x. pure (refer n x))
      (bind_gives file.universe.kind blocks n) (λ _ _. place_by n (fault_of f.UnknownName n) (place_of (use_of file blocks n.name)) (place_stands (use_of file blocks n.name)))

  module _ {A C E S T H O P : Type 0} (M : Measure A C E S T H O P) where
    -- a walk to a tree of which the same is measured as of this one
    abbrev pub Keeps : Visit Expr → Expr → Type 0
    Keeps v x = Gives F {A = Expr} (λ y. expr_of M.after y ≡ expr_of (before M) x) v

    module _ (file : FileParts) (visit : List BlockParts → Expr → Visit Expr) (visits : (blocks : List BlockParts) (x : Expr) → Keeps (visit blocks x) x) where
      -- ---- targets

      target_by_keeps : (inner : TargetExpr → Visit TargetExpr) (blocks : List BlockParts) → ((u : TargetExpr) → Gives F {A = TargetExpr} (λ v. target_of M.after v ≡ target_of (before M) u) (inner u)) → (o : TargetLayer)
          → Gives F {A = TargetExpr} (λ z. target_of M.after z ≡ (before M).target_step (target_inside (before M) o)) (target_by file visit inner blocks o)
      target_by_keeps inner blocks inners (TargetExpr-F.TargetExpr::Name n) =
          gives_map F (Refers RefersToPlace n) (λ z. target_of M.after z ≡ (before M).target_step (TargetExpr-F.TargetExpr::Name n)) (bound_at file blocks n) (λ m. t.Name m) (bound_keeps file blocks n)
          (λ m h. made_target M.after (t.Name m) (TargetExpr-F.TargetExpr::Name m) (t.rolls-Name m) ∙ (ap (λ k. M.after.target_step (TargetExpr-F.TargetExpr::Name k)) h.2 ∙ M.of_variable n h.0 h.1))
      target_by_keeps inner blocks inners (TargetExpr-F.TargetExpr::Index x i) =
          gives_two F (λ y. expr_of M.after y ≡ expr_of (before M) x) (λ j. expr_of M.after j ≡ expr_of (before M) i) (λ z. target_of M.after z ≡ (before M).target_step (TargetExpr-F.TargetExpr::Index (expr_of (before M) x) (expr_of (before M) i)))
          (visit blocks x) (visit blocks i) (λ y j. t.Index y j) (visits blocks x) (visits blocks i)
          (λ y j h k. made_target M.after (t.Index y j) (TargetExpr-F.TargetExpr::Index y j) (t.rolls-Index y j)
          ∙ (two (λ v w. M.after.target_step (TargetExpr-F.TargetExpr::Index v w)) (expr_of M.after y) (expr_of (before M) x) (expr_of M.after j) (expr_of (before M) i) h k ∙ M.of_target (TargetExpr-F.TargetExpr::Index (expr_of (before M) x) (expr_of (before M) i)) tt))
      target_by_keeps inner blocks inners (TargetExpr-F.TargetExpr::Tuple us) =
          gives_map F (λ vs. map (target_of M.after) vs ≡ map (target_of (before M)) us) (λ z. target_of M.after z ≡ (before M).target_step (TargetExpr-F.TargetExpr::Tuple (map (target_of (before M)) us))) (each inner [] us) (λ vs. t.Tuple vs)
          (gives_each F (target_of M.after) (target_of (before M)) inner inners [] us)
          (λ vs h. made_target M.after (t.Tuple vs) (TargetExpr-F.TargetExpr::Tuple vs) (t.rolls-Tuple vs) ∙ (ap (λ l. M.after.target_step (TargetExpr-F.TargetExpr::Tuple l)) h ∙ M.of_target (TargetExpr-F.TargetExpr::Tuple (map (target_of (before M)) us)) tt))
      target_by_keeps inner blocks inners (TargetExpr-F.TargetExpr::List us) =
          gives_map F (λ vs. map (target_of M.after) vs ≡ map (target_of (before M)) us) (λ z. target_of M.after z ≡ (before M).target_step (TargetExpr-F.TargetExpr::List (map (target_of (before M)) us))) (each inner [] us) (λ vs. t.List vs)
          (gives_each F (target_of M.after) (target_of (before M)) inner inners [] us)
          (λ vs h. made_target M.after (t.List vs) (TargetExpr-F.TargetExpr::List vs) (t.rolls-List vs) ∙ (ap (λ l. M.after.target_step (TargetExpr-F.TargetExpr::List l)) h ∙ M.of_target (TargetExpr-F.TargetExpr::List (map (target_of (before M)) us)) tt))

      pub target_keeps : (layers : ℕ) (blocks : List BlockParts) (u : TargetExpr) → Gives F {A = TargetExpr} (λ v. target_of M.after v ≡ target_of (before M) u) (target_to file visit layers blocks u)
      unfolding target_to
      target_keeps zero blocks u = λ _ _. tt
      target_keeps (suc layers) blocks u =
          gives_as F {A = TargetExpr} (λ z. target_of M.after z ≡ (before M).target_step (target_inside (before M) (out-TargetExpr u))) (λ z. target_of M.after z ≡ target_of (before M) u) (λ z h. h ∙ sym (opened_target (before M) u))
          (target_by file visit (target_to file visit layers blocks) blocks (out-TargetExpr u)) (target_by_keeps (target_to file visit layers blocks) blocks (target_keeps layers blocks) (out-TargetExpr u))

      -- ---- what is in an expression

      pair_keeps : (blocks : List BlockParts) (p : Pair) → Gives F {A = Pair} (λ z. pair_of M.after z ≡ pair_of (before M) p) (pair file visit blocks p)
      unfolding pair
      pair_keeps blocks p =
          let x : Expr = (out-Pair p).key in
          let z : Expr = (out-Pair p).value in
          gives_two F (λ y. expr_of M.after y ≡ expr_of (before M) x) (λ y. expr_of M.after y ≡ expr_of (before M) z) (λ q. pair_of M.after q ≡ pair_of (before M) p) (visit blocks x) (visit blocks z)
          (λ k v. roll-Pair (record { key = k; value = v })) (visits blocks x) (visits blocks z)
          (λ k v g h. made_pair M.after k v ∙ (two (λ c d. M.after.pair_step (record { key = c; value = d })) (expr_of M.after k) (expr_of (before M) x) (expr_of M.after v) (expr_of (before M) z) g h ∙ sym (opened_pair (before M) p)))

      operation_keeps : (blocks : List BlockParts) (o : Operation) → Gives F {A = Operation} (λ z. operation_of M.after z ≡ operation_of (before M) o) (operation file visit blocks o)
      unfolding operation
      operation_keeps blocks o =
          gives_map F (λ y. expr_of M.after y ≡ expr_of (before M) (out-Operation o).operand) (λ z. operation_of M.after z ≡ operation_of (before M) o) (visit blocks (out-Operation o).operand)
          (λ x. roll-Operation (record { operator = (out-Operation o).operator; operand = x })) (visits blocks (out-Operation o).operand)
          (λ x h. made_operation M.after (out-Operation o).operator x ∙ (ap (λ c. M.after.operation_step (record { operator = (out-Operation o).operator; operand = c })) h ∙ sym (opened_operation (before M) o)))

      choice_keeps : (blocks : List BlockParts) (o : Choice) → Gives F {A = Choice} (λ z. choice_of M.after z ≡ choice_of (before M) o) (choice file visit blocks o)
      unfolding choice
      choice_keeps blocks o =
          let x : Expr = (out-Choice o).value in
          let z : Expr = (out-Choice o).condition in
          gives_two F (λ y. expr_of M.after y ≡ expr_of (before M) x) (λ y. expr_of M.after y ≡ expr_of (before M) z) (λ q. choice_of M.after q ≡ choice_of (before M) o) (visit blocks x) (visit blocks z)
          (λ v y. roll-Choice (record { value = v; condition = y })) (visits blocks x) (visits blocks z)
          (λ v y g h. made_choice M.after v y ∙ (two (λ c d. M.after.choice_step (record { value = c; condition = d })) (expr_of M.after v) (expr_of (before M) x) (expr_of M.after y) (expr_of (before M) z) g h ∙ sym (opened_choice (before M) o)))

      argument_by_keeps : (blocks : List BlockParts) (o : ArgumentLayer) → Gives F {A = Argument} (λ z. argument_of M.after z ≡ (before M).argument_step (argument_inside (before M) o)) (argument_by file visit blocks o)
      argument_by_keeps blocks (Argument-F.Positional x) =
          gives_map F (λ y. expr_of M.after y ≡ expr_of (before M) x) (λ z. argument_of M.after z ≡ (before M).argument_step (Argument-F.Positional (expr_of (before M) x))) (visit blocks x) (λ y. a.Positional y) (visits blocks x)
          (λ y h. made_argument M.after (a.Positional y) (Argument-F.Positional y) (a.rolls-Positional y) ∙ ap (λ c. M.after.argument_step (Argument-F.Positional c)) h)
      argument_by_keeps blocks (Argument-F.Named n x) =
          gives_map F (λ y. expr_of M.after y ≡ expr_of (before M) x) (λ z. argument_of M.after z ≡ (before M).argument_step (Argument-F.Named n (expr_of (before M) x))) (visit blocks x) (λ y. a.Named n y) (visits blocks x)
          (λ y h. made_argument M.after (a.Named n y) (Argument-F.Named n y) (a.rolls-Named n y) ∙ ap (λ c. M.after.argument_step (Argument-F.Named n c)) h)
      argument_by_keeps blocks (Argument-F.Star x) =
          gives_map F (λ y. expr_of M.after y ≡ expr_of (before M) x) (λ z. argument_of M.after z ≡ (before M).argument_step (Argument-F.Star (expr_of (before M) x))) (visit blocks x) (λ y. a.Star y) (visits blocks x)
          (λ y h. made_argument M.after (a.Star y) (Argument-F.Star y) (a.rolls-Star y) ∙ ap (λ c. M.after.argument_step (Argument-F.Star c)) h)
      argument_by_keeps blocks (Argument-F.StarStar x) =
          gives_map F (λ y. expr_of M.after y ≡ expr_of (before M) x) (λ z. argument_of M.after z ≡ (before M).argument_step (Argument-F.StarStar (expr_of (before M) x))) (visit blocks x) (λ y. a.StarStar y) (visits blocks x)
          (λ y h. made_argument M.after (a.StarStar y) (Argument-F.StarStar y) (a.rolls-StarStar y) ∙ ap (λ c. M.after.argument_step (Argument-F.StarStar c)) h)

      arguments_keep : (blocks : List BlockParts) (xs : List Argument) → Gives F {A = List Argument} (λ zs. map (argument_of M.after) zs ≡ map (argument_of (before M)) xs) (arguments file visit blocks xs)
      unfolding arguments
      arguments_keep blocks xs =
          gives_each F (argument_of M.after) (argument_of (before M)) (λ x. argument_by file visit blocks (out-Argument x))
          (λ x. gives_as F {A = Argument} (λ z. argument_of M.after z ≡ (before M).argument_step (argument_inside (before M) (out-Argument x))) (λ z. argument_of M.after z ≡ argument_of (before M) x) (λ z h. h ∙ sym (opened_argument (before M) x))
          (argument_by file visit blocks (out-Argument x)) (argument_by_keeps blocks (out-Argument x))) [] xs

      part_keeps : (blocks : List BlockParts) (x : Option Expr) → Gives F {A = Option Expr} (λ y. option_map (expr_of M.after) y ≡ option_map (expr_of (before M)) x) (optional (visit blocks) x)
      part_keeps blocks x = gives_optional F (expr_of M.after) (expr_of (before M)) (visit blocks) (visits blocks) x

      suffix_by_keeps : (blocks : List BlockParts) (o : SuffixLayer) → Gives F {A = Suffix} (λ z. suffix_of M.after z ≡ (before M).suffix_step (suffix_inside (before M) o)) (suffix_by file visit blocks o)
      suffix_by_keeps blocks (Suffix-F.Call xs) =
          gives_map F (λ zs. map (argument_of M.after) zs ≡ map (argument_of (before M)) xs) (λ z. suffix_of M.after z ≡ (before M).suffix_step (Suffix-F.Call (map (argument_of (before M)) xs))) (arguments file visit blocks xs) (λ ys. s.Call ys)
          (arguments_keep blocks xs) (λ ys h. made_suffix M.after (s.Call ys) (Suffix-F.Call ys) (s.rolls-Call ys) ∙ ap (λ c. M.after.suffix_step (Suffix-F.Call c)) h)
      suffix_by_keeps blocks (Suffix-F.Method n xs) =
          gives_map F (λ zs. map (argument_of M.after) zs ≡ map (argument_of (before M)) xs) (λ z. suffix_of M.after z ≡ (before M).suffix_step (Suffix-F.Method n (map (argument_of (before M)) xs))) (arguments file visit blocks xs) (λ ys. s.Method n ys)
          (arguments_keep blocks xs) (λ ys h. made_suffix M.after (s.Method n ys) (Suffix-F.Method n ys) (s.rolls-Method n ys) ∙ ap (λ c. M.after.suffix_step (Suffix-F.Method n c)) h)
      suffix_by_keeps blocks (Suffix-F.Attribute n) = λ u fit. (made_suffix M.after (s.Attribute n) (Suffix-F.Attribute n) (s.rolls-Attribute n), fit)
      suffix_by_keeps blocks (Suffix-F.Suffix::Index i) =
          gives_map F (λ y. expr_of M.after y ≡ expr_of (before M) i) (λ z. suffix_of M.after z ≡ (before M).suffix_step (Suffix-F.Suffix::Index (expr_of (before M) i))) (visit blocks i) (λ j. s.Index j) (visits blocks i)
          (λ j h. made_suffix M.after (s.Index j) (Suffix-F.Suffix::Index j) (s.rolls-Index j) ∙ ap (λ c. M.after.suffix_step (Suffix-F.Suffix::Index c)) h)
      suffix_by_keeps blocks (Suffix-F.Slice i j k) =
          let part : Option Expr → Option E = λ x. option_map (expr_of M.after) x in
          let old : Option Expr → Option E = λ x. option_map (expr_of (before M)) x in
          gives_three F (λ y. part y ≡ old i) (λ y. part y ≡ old j) (λ y. part y ≡ old k) (λ z. suffix_of M.after z ≡ (before M).suffix_step (Suffix-F.Slice (old i) (old j) (old k)))
          (optional (visit blocks) i) (optional (visit blocks) j) (optional (visit blocks) k) (λ x y z. s.Slice x y z) (part_keeps blocks i) (part_keeps blocks j) (part_keeps blocks k)
          (λ x y z p q r. made_suffix M.after (s.Slice x y z) (Suffix-F.Slice x y z) (s.rolls-Slice x y z)
          ∙ three (λ c d g. M.after.suffix_step (Suffix-F.Slice c d g)) (part x) (old i) (part y) (old j) (part z) (old k) p q r)

      suffixes_keep : (blocks : List BlockParts) (done ss : List Suffix)
          → Gives F {A = List Suffix} (λ zs. map (suffix_of M.after) zs ≡ map (suffix_of M.after) done ++ map (suffix_of (before M)) ss) (suffixes file visit blocks done ss)
      unfolding suffixes
      suffixes_keep blocks done ss =
          gives_each F (suffix_of M.after) (suffix_of (before M)) (λ x. suffix_by file visit blocks (out-Suffix x))
          (λ x. gives_as F {A = Suffix} (λ z. suffix_of M.after z ≡ (before M).suffix_step (suffix_inside (before M) (out-Suffix x))) (λ z. suffix_of M.after z ≡ suffix_of (before M) x) (λ z h. h ∙ sym (opened_suffix (before M) x))
          (suffix_by file visit blocks (out-Suffix x)) (suffix_by_keeps blocks (out-Suffix x))) done ss

      -- ---- operands

      -- an operand with suffixes of the same form
      abbrev Primary : Expr → List Suffix → Expr → Type 0
      Primary x ss z = expr_of M.after z ≡ (before M).expr_step (Expr-F.Primary (expr_of (before M) x) (map (suffix_of (before M)) ss))

      made_primary : (x y : Expr) (ss ts : List Suffix) → expr_of M.after y ≡ expr_of (before M) x → map (suffix_of M.after) ts ≡ map (suffix_of (before M)) ss → Primary x ss (e.Primary y ts)
      made_primary x y ss ts h k =
          made_expr M.after (e.Primary y ts) (Expr-F.Primary y ts) (e.rolls-Primary y ts)
          ∙ (two (λ v w. M.after.expr_step (Expr-F.Primary v w)) (expr_of M.after y) (expr_of (before M) x) (map (suffix_of M.after) ts) (map (suffix_of (before M)) ss) h k
          ∙ M.of_other (Expr-F.Primary (expr_of (before M) x) (map (suffix_of (before M)) ss)) tt)

      operand_keeps : (blocks : List BlockParts) (x : Expr) (ss : List Suffix) → Gives F {A = Expr} (Primary x ss) (operand file visit blocks x ss)
      unfolding operand
      operand_keeps blocks x ss =
          gives_two F (λ y. expr_of M.after y ≡ expr_of (before M) x) (λ ts. map (suffix_of M.after) ts ≡ map (suffix_of (before M)) ss) (Primary x ss) (visit blocks x) (suffixes file visit blocks [] ss) (λ y ts. e.Primary y ts)
          (visits blocks x) (suffixes_keep blocks [] ss) (λ y ts h k. made_primary x y ss ts h k)

      -- ---- `native` and `attr`

      member_keeps : (blocks : List BlockParts) (space : NamedSpace) (m : Identifier) (xs : List Argument) (u : Suffix) (rest : List Suffix) (x : Expr) → roll-Expr (Expr-F.Expr::Name space.1) ≡ x
          → roll-Suffix (Suffix-F.Method m xs) ≡ u → Gives F {A = Expr} (Primary x (u ∷ rest)) (call_member file visit blocks space m xs rest)
      unfolding call_member
      member_keeps blocks space m xs u rest x is_name is_method =
          gives_bind F (λ _. Unit {0}) (Primary x (u ∷ rest)) (given (fault_of f.UnknownName m) (member_named space.0 file.universe.rules m.name))
          (λ p. arguments file visit blocks xs >>= λ ys. suffixes file visit blocks (s.Method (refer m (b.Member p)) ys ∷ []) rest >>= λ ts. pure (e.Primary (e.Name (refer space.1 (b.Member p))) ts))
          (gives_given F (fault_of f.UnknownName m) (member_named space.0 file.universe.rules m.name))
          (λ p _. gives_bind F (λ zs. map (argument_of M.after) zs ≡ map (argument_of (before M)) xs) (Primary x (u ∷ rest)) (arguments file visit blocks xs)
          (λ ys. suffixes file visit blocks (s.Method (refer m (b.Member p)) ys ∷ []) rest >>= λ ts. pure (e.Primary (e.Name (refer space.1 (b.Member p))) ts)) (arguments_keep blocks xs)
          (λ ys h. gives_map F (λ ts. map (suffix_of M.after) ts ≡ suffix_of M.after (s.Method (refer m (b.Member p)) ys) ∷ map (suffix_of (before M)) rest) (Primary x (u ∷ rest))
          (suffixes file visit blocks (s.Method (refer m (b.Member p)) ys ∷ []) rest) (λ ts. e.Primary (e.Name (refer space.1 (b.Member p))) ts)
          (suffixes_keep blocks (s.Method (refer m (b.Member p)) ys ∷ []) rest)
          (λ ts k. made_primary x (e.Name (refer space.1 (b.Member p))) (u ∷ rest) ts
          (made_expr M.after (e.Name (refer space.1 (b.Member p))) (Expr-F.Expr::Name (refer space.1 (b.Member p))) (e.rolls-Name (refer space.1 (b.Member p)))
          ∙ (M.of_name space.1 (b.Member p) tt ∙ sym (made_expr (before M) x (Expr-F.Expr::Name space.1) is_name)))
          (k ∙ ap (λ c. c ∷ map (suffix_of (before M)) rest)
          (made_suffix M.after (s.Method (refer m (b.Member p)) ys) (Suffix-F.Method (refer m (b.Member p)) ys) (s.rolls-Method (refer m (b.Member p)) ys)
          ∙ (M.of_method m (b.Member p) (map (argument_of M.after) ys) ∙ (ap (λ c. M.after.suffix_step (Suffix-F.Method m c)) h ∙ sym (made_suffix (before M) u (Suffix-F.Method m xs) is_method))))))))

      member_by_keeps : (blocks : List BlockParts) (x : Expr) (space : NamedSpace) → roll-Expr (Expr-F.Expr::Name space.1) ≡ x → (u : Suffix) (rest : List Suffix) (o : SuffixLayer) → roll-Suffix o ≡ u
          → Gives F {A = Expr} (Primary x (u ∷ rest)) (primary_by file visit blocks x (u ∷ rest) (member_by space o rest))
      member_by_keeps blocks x space is_name u rest (Suffix-F.Call xs) is = operand_keeps blocks x (u ∷ rest)
      member_by_keeps blocks x space is_name u rest (Suffix-F.Method m xs) is = member_keeps blocks space m xs u rest x is_name is
      member_by_keeps blocks x space is_name u rest (Suffix-F.Attribute m) is = operand_keeps blocks x (u ∷ rest)
      member_by_keeps blocks x space is_name u rest (Suffix-F.Suffix::Index i) is = operand_keeps blocks x (u ∷ rest)
      member_by_keeps blocks x space is_name u rest (Suffix-F.Slice i j y) is = operand_keeps blocks x (u ∷ rest)

      named_keeps : (blocks : List BlockParts) (x : Expr) (ss : List Suffix) (n : Identifier) → roll-Expr (Expr-F.Expr::Name n) ≡ x → (o : Option Namespace)
          → Gives F {A = Expr} (Primary x ss) (primary_by file visit blocks x ss (member_call (with_space n o) ss))
      named_keeps blocks x ss n is None = operand_keeps blocks x ss
      named_keeps blocks x [] n is (Some space) = operand_keeps blocks x []
      named_keeps blocks x (u ∷ us) n is (Some space) = member_by_keeps blocks x (space, n) is u us (out-Suffix u) (roll-out-Suffix u)

      called_keeps : (blocks : List BlockParts) (x : Expr) (ss : List Suffix) (o : ExprLayer) → roll-Expr o ≡ x
          → Gives F {A = Expr} (Primary x ss) (primary_by file visit blocks x ss (member_call (namespace_at file blocks o) ss))
      called_keeps blocks x ss (Expr-F.Expr::Name n) is = named_keeps blocks x ss n is (space_of file blocks n)
      called_keeps blocks x ss (Expr-F.Int i) is = operand_keeps blocks x ss
      called_keeps blocks x ss (Expr-F.String i) is = operand_keeps blocks x ss
      called_keeps blocks x ss (Expr-F.Expr::List xs) is = operand_keeps blocks x ss
      called_keeps blocks x ss (Expr-F.Expr::Tuple xs) is = operand_keeps blocks x ss
      called_keeps blocks x ss (Expr-F.Dict ps) is = operand_keeps blocks x ss
      called_keeps blocks x ss (Expr-F.ListComprehension y cs own) is = operand_keeps blocks x ss
      called_keeps blocks x ss (Expr-F.DictComprehension p cs own) is = operand_keeps blocks x ss
      called_keeps blocks x ss (Expr-F.Primary y ts) is = operand_keeps blocks x ss
      called_keeps blocks x ss (Expr-F.Unary os y) is = operand_keeps blocks x ss
      called_keeps blocks x ss (Expr-F.Binary y os) is = operand_keeps blocks x ss
      called_keeps blocks x ss (Expr-F.Compare y o z) is = operand_keeps blocks x ss
      called_keeps blocks x ss (Expr-F.Conditional cs y) is = operand_keeps blocks x ss
      called_keeps blocks x ss Expr-F.Lambda is = operand_keeps blocks x ss

      primary_keeps : (blocks : List BlockParts) (x : Expr) (ss : List Suffix) → Gives F {A = Expr} (Primary x ss) (primary file visit blocks x ss)
      unfolding primary
      primary_keeps blocks x ss = called_keeps blocks x ss (out-Expr x) (roll-out-Expr x)

      -- ---- comprehensions

      clause_by_keeps : (round blocks : List BlockParts) (o : ClauseLayer) → Gives F {A = Clause} (λ z. clause_of M.after z ≡ (before M).clause_step (clause_inside (before M) o)) (clause_by file visit round blocks o)
      clause_by_keeps round blocks (Clause-F.For u x) =
          gives_two F (λ v. target_of M.after v ≡ target_of (before M) u) (λ y. expr_of M.after y ≡ expr_of (before M) x) (λ z. clause_of M.after z ≡ (before M).clause_step (Clause-F.For (target_of (before M) u) (expr_of (before M) x)))
          (target_to file visit max_layers blocks u) (visit round x) (λ v y. cl.For v y) (target_keeps max_layers blocks u) (visits round x)
          (λ v y h k. made_clause M.after (cl.For v y) (Clause-F.For v y) (cl.rolls-For v y)
          ∙ two (λ c d. M.after.clause_step (Clause-F.For c d)) (target_of M.after v) (target_of (before M) u) (expr_of M.after y) (expr_of (before M) x) h k)
      clause_by_keeps round blocks (Clause-F.If x) =
          gives_map F (λ y. expr_of M.after y ≡ expr_of (before M) x) (λ z. clause_of M.after z ≡ (before M).clause_step (Clause-F.If (expr_of (before M) x))) (visit blocks x) (λ y. cl.If y) (visits blocks x)
          (λ y h. made_clause M.after (cl.If y) (Clause-F.If y) (cl.rolls-If y) ∙ ap (λ c. M.after.clause_step (Clause-F.If c)) h)

      clause_keeps : (round blocks : List BlockParts) (x : Clause) → Gives F {A = Clause} (λ z. clause_of M.after z ≡ clause_of (before M) x) (clause_by file visit round blocks (out-Clause x))
      clause_keeps round blocks x =
          gives_as F {A = Clause} (λ z. clause_of M.after z ≡ (before M).clause_step (clause_inside (before M) (out-Clause x))) (λ z. clause_of M.after z ≡ clause_of (before M) x) (λ z h. h ∙ sym (opened_clause (before M) x))
          (clause_by file visit round blocks (out-Clause x)) (clause_by_keeps round blocks (out-Clause x))

      clauses_keep : (round blocks : List BlockParts) (xs : List Clause) → Gives F {A = List Clause} (λ zs. map (clause_of M.after) zs ≡ map (clause_of (before M)) xs) (clauses file visit round blocks xs)
      unfolding clauses
      clauses_keep round blocks [] = λ u fit. (refl, fit)
      clauses_keep round blocks (x ∷ xs) =
          gives_bind F (λ z. clause_of M.after z ≡ clause_of (before M) x) (λ zs. map (clause_of M.after) zs ≡ clause_of (before M) x ∷ map (clause_of (before M)) xs) (clause_by file visit round blocks (out-Clause x))
          (λ y. each (λ z. clause_by file visit blocks blocks (out-Clause z)) (y ∷ []) xs) (clause_keeps round blocks x)
          (λ y h. gives_as F {A = List Clause} (λ zs. map (clause_of M.after) zs ≡ clause_of M.after y ∷ map (clause_of (before M)) xs) (λ zs. map (clause_of M.after) zs ≡ clause_of (before M) x ∷ map (clause_of (before M)) xs)
          (λ zs k. k ∙ ap (λ c. c ∷ map (clause_of (before M)) xs) h) (each (λ z. clause_by file visit blocks blocks (out-Clause z)) (y ∷ []) xs)
          (gives_each F (clause_of M.after) (clause_of (before M)) (λ z. clause_by file visit blocks blocks (out-Clause z)) (clause_keeps blocks blocks) (y ∷ []) xs))

      -- what is made has this measure, whichever frame it is in
      abbrev Makes : E → (ComprehensionFrame → Expr) → Type 0
      Makes c make = (own : ComprehensionFrame) → expr_of M.after (make own) ≡ c

      framed_keeps : (c : E) (k : ℕ) (r : Result ((ComprehensionFrame → Expr) × Passed) (Fault NameFault)) → Giving F {A = ComprehensionFrame → Expr} (Makes c) r → Giving F {A = Expr} (λ z. expr_of M.after z ≡ c) (framed k r)
      framed_keeps c k (Err why) h = tt
      framed_keeps c k (Ok p) h = (h.0 (frame.Own p.1.slots), h.1)

      in_frame_keeps : (c : E) (blocks : List BlockParts) (v : Visit (ComprehensionFrame → Expr)) → Gives F {A = ComprehensionFrame → Expr} (Makes c) v → Gives F {A = Expr} (λ z. expr_of M.after z ≡ c) (in_frame blocks v)
      in_frame_keeps c [] v h = λ u fit. framed_keeps c u.slots (v (record u { slots = 0 })) (h (record u { slots = 0 }) fit)
      in_frame_keeps c (d ∷ ds) v h = gives_map F (Makes c) (λ z. expr_of M.after z ≡ c) v (λ make. make frame.Shared) h (λ make k. k frame.Shared)

      block_keeps : {X : Type 0} (c : E) (g : X → Type 0) (element : List BlockParts → Visit X) (make : X → List Clause → ComprehensionFrame → Expr) (blocks : List BlockParts) (xs : List Clause)
          → ((bs : List BlockParts) → Gives F {A = X} g (element bs)) → ((x : X) (ys : List Clause) → g x → map (clause_of M.after) ys ≡ map (clause_of (before M)) xs → Makes c (make x ys))
          → Gives F {A = Expr} (λ z. expr_of M.after z ≡ c) (comprehension file visit element make blocks xs)
      unfolding comprehension in_block
      block_keeps c g element make blocks xs elements made =
          in_frame_keeps c blocks (in_block file visit element make blocks xs)
          (λ u fit. let names : List Name = comprehension_names xs in
          let block : BlockParts = record { base = u.slots; names = names } in
          gives_two F g (λ ys. map (clause_of M.after) ys ≡ map (clause_of (before M)) xs) (Makes c) (element (block ∷ blocks)) (clauses file visit blocks (block ∷ blocks) xs) make
          (elements (block ∷ blocks)) (clauses_keep blocks (block ∷ blocks) xs) made (record u { slots = u.slots + length names }) fit)

      -- ---- expressions

      all_keep : (blocks : List BlockParts) (xs : List Expr) → Gives F {A = List Expr} (λ zs. map (expr_of M.after) zs ≡ map (expr_of (before M)) xs) (each (visit blocks) [] xs)
      all_keep blocks xs = gives_each F (expr_of M.after) (expr_of (before M)) (visit blocks) (visits blocks) [] xs

      expr_by_keeps : (blocks : List BlockParts) (o : ExprLayer) → Gives F {A = Expr} (λ z. expr_of M.after z ≡ (before M).expr_step (expr_inside (before M) o)) (expr_by file visit blocks o)
      expr_by_keeps blocks (Expr-F.Expr::Name n) =
          gives_map F (Refers RefersToAny n) (λ z. expr_of M.after z ≡ (before M).expr_step (Expr-F.Expr::Name n)) (use_at file blocks n) (λ m. e.Name m) (use_keeps file blocks n)
          (λ m h. made_expr M.after (e.Name m) (Expr-F.Expr::Name m) (e.rolls-Name m) ∙ (ap (λ k. M.after.expr_step (Expr-F.Expr::Name k)) h.2 ∙ M.of_name n h.0 h.1))
      expr_by_keeps blocks (Expr-F.Int i) = λ u fit. (made_expr M.after (e.Int i) (Expr-F.Int i) (e.rolls-Int i) ∙ M.of_other (Expr-F.Int i) tt, fit)
      expr_by_keeps blocks (Expr-F.String i) = λ u fit. (made_expr M.after (e.String i) (Expr-F.String i) (e.rolls-String i) ∙ M.of_other (Expr-F.String i) tt, fit)
      expr_by_keeps blocks (Expr-F.Expr::List xs) =
          gives_map F (λ zs. map (expr_of M.after) zs ≡ map (expr_of (before M)) xs) (λ z. expr_of M.after z ≡ (before M).expr_step (Expr-F.Expr::List (map (expr_of (before M)) xs))) (each (visit blocks) [] xs) (λ ys. e.List ys) (all_keep blocks xs)
          (λ ys h. made_expr M.after (e.List ys) (Expr-F.Expr::List ys) (e.rolls-List ys) ∙ (ap (λ c. M.after.expr_step (Expr-F.Expr::List c)) h ∙ M.of_other (Expr-F.Expr::List (map (expr_of (before M)) xs)) tt))
      expr_by_keeps blocks (Expr-F.Expr::Tuple xs) =
          gives_map F (λ zs. map (expr_of M.after) zs ≡ map (expr_of (before M)) xs) (λ z. expr_of M.after z ≡ (before M).expr_step (Expr-F.Expr::Tuple (map (expr_of (before M)) xs))) (each (visit blocks) [] xs) (λ ys. e.Tuple ys) (all_keep blocks xs)
          (λ ys h. made_expr M.after (e.Tuple ys) (Expr-F.Expr::Tuple ys) (e.rolls-Tuple ys) ∙ (ap (λ c. M.after.expr_step (Expr-F.Expr::Tuple c)) h ∙ M.of_other (Expr-F.Expr::Tuple (map (expr_of (before M)) xs)) tt))
      expr_by_keeps blocks (Expr-F.Dict ps) =
          gives_map F (λ zs. map (pair_of M.after) zs ≡ map (pair_of (before M)) ps) (λ z. expr_of M.after z ≡ (before M).expr_step (Expr-F.Dict (map (pair_of (before M)) ps))) (each (pair file visit blocks) [] ps) (λ qs. e.Dict qs)
          (gives_each F (pair_of M.after) (pair_of (before M)) (pair file visit blocks) (pair_keeps blocks) [] ps)
          (λ qs h. made_expr M.after (e.Dict qs) (Expr-F.Dict qs) (e.rolls-Dict qs) ∙ (ap (λ c. M.after.expr_step (Expr-F.Dict c)) h ∙ M.of_other (Expr-F.Dict (map (pair_of (before M)) ps)) tt))
      expr_by_keeps blocks (Expr-F.ListComprehension x xs other) =
          block_keeps ((before M).expr_step (Expr-F.ListComprehension (expr_of (before M) x) (map (clause_of (before M)) xs) other)) (λ y. expr_of M.after y ≡ expr_of (before M) x) (λ bs. visit bs x) e.ListComprehension blocks xs (λ bs. visits bs x)
          (λ y ys h k own. made_expr M.after (e.ListComprehension y ys own) (Expr-F.ListComprehension y ys own) (e.rolls-ListComprehension y ys own)
          ∙ (two (λ c d. M.after.expr_step (Expr-F.ListComprehension c d own)) (expr_of M.after y) (expr_of (before M) x) (map (clause_of M.after) ys) (map (clause_of (before M)) xs) h k ∙ (M.of_list (expr_of (before M) x) (map (clause_of (before M)) xs) own other ∙ M.of_other (Expr-F.ListComprehension (expr_of (before M) x) (map (clause_of (before M)) xs) other) tt)))
      expr_by_keeps blocks (Expr-F.DictComprehension p xs other) =
          block_keeps ((before M).expr_step (Expr-F.DictComprehension (pair_of (before M) p) (map (clause_of (before M)) xs) other)) (λ q. pair_of M.after q ≡ pair_of (before M) p) (λ bs. pair file visit bs p) e.DictComprehension blocks xs
          (λ bs. pair_keeps bs p)
          (λ q ys h k own. made_expr M.after (e.DictComprehension q ys own) (Expr-F.DictComprehension q ys own) (e.rolls-DictComprehension q ys own)
          ∙ (two (λ c d. M.after.expr_step (Expr-F.DictComprehension c d own)) (pair_of M.after q) (pair_of (before M) p) (map (clause_of M.after) ys) (map (clause_of (before M)) xs) h k ∙ (M.of_dict (pair_of (before M) p) (map (clause_of (before M)) xs) own other ∙ M.of_other (Expr-F.DictComprehension (pair_of (before M) p) (map (clause_of (before M)) xs) other) tt)))
      expr_by_keeps blocks (Expr-F.Primary x ss) = primary_keeps blocks x ss
      expr_by_keeps blocks (Expr-F.Unary os x) =
          gives_map F (λ y. expr_of M.after y ≡ expr_of (before M) x) (λ z. expr_of M.after z ≡ (before M).expr_step (Expr-F.Unary os (expr_of (before M) x))) (visit blocks x) (λ y. e.Unary os y) (visits blocks x)
          (λ y h. made_expr M.after (e.Unary os y) (Expr-F.Unary os y) (e.rolls-Unary os y) ∙ (ap (λ c. M.after.expr_step (Expr-F.Unary os c)) h ∙ M.of_other (Expr-F.Unary os (expr_of (before M) x)) tt))
      expr_by_keeps blocks (Expr-F.Binary x os) =
          gives_two F (λ y. expr_of M.after y ≡ expr_of (before M) x) (λ ps. map (operation_of M.after) ps ≡ map (operation_of (before M)) os) (λ z. expr_of M.after z ≡ (before M).expr_step (Expr-F.Binary (expr_of (before M) x) (map (operation_of (before M)) os)))
          (visit blocks x) (each (operation file visit blocks) [] os) (λ y ps. e.Binary y ps) (visits blocks x)
          (gives_each F (operation_of M.after) (operation_of (before M)) (operation file visit blocks) (operation_keeps blocks) [] os)
          (λ y ps h k. made_expr M.after (e.Binary y ps) (Expr-F.Binary y ps) (e.rolls-Binary y ps)
          ∙ (two (λ c d. M.after.expr_step (Expr-F.Binary c d)) (expr_of M.after y) (expr_of (before M) x) (map (operation_of M.after) ps) (map (operation_of (before M)) os) h k ∙ M.of_other (Expr-F.Binary (expr_of (before M) x) (map (operation_of (before M)) os)) tt))
      expr_by_keeps blocks (Expr-F.Compare x o z) =
          gives_two F (λ y. expr_of M.after y ≡ expr_of (before M) x) (λ w. expr_of M.after w ≡ expr_of (before M) z) (λ q. expr_of M.after q ≡ (before M).expr_step (Expr-F.Compare (expr_of (before M) x) o (expr_of (before M) z)))
          (visit blocks x) (visit blocks z) (λ y w. e.Compare y o w) (visits blocks x) (visits blocks z)
          (λ y w h k. made_expr M.after (e.Compare y o w) (Expr-F.Compare y o w) (e.rolls-Compare y o w)
          ∙ (two (λ c d. M.after.expr_step (Expr-F.Compare c o d)) (expr_of M.after y) (expr_of (before M) x) (expr_of M.after w) (expr_of (before M) z) h k ∙ M.of_other (Expr-F.Compare (expr_of (before M) x) o (expr_of (before M) z)) tt))
      expr_by_keeps blocks (Expr-F.Conditional xs z) =
          gives_two F (λ ys. map (choice_of M.after) ys ≡ map (choice_of (before M)) xs) (λ w. expr_of M.after w ≡ expr_of (before M) z) (λ q. expr_of M.after q ≡ (before M).expr_step (Expr-F.Conditional (map (choice_of (before M)) xs) (expr_of (before M) z)))
          (each (choice file visit blocks) [] xs) (visit blocks z) (λ ys w. e.Conditional ys w) (gives_each F (choice_of M.after) (choice_of (before M)) (choice file visit blocks) (choice_keeps blocks) [] xs)
          (visits blocks z)
          (λ ys w h k. made_expr M.after (e.Conditional ys w) (Expr-F.Conditional ys w) (e.rolls-Conditional ys w)
          ∙ (two (λ c d. M.after.expr_step (Expr-F.Conditional c d)) (map (choice_of M.after) ys) (map (choice_of (before M)) xs) (expr_of M.after w) (expr_of (before M) z) h k ∙ M.of_other (Expr-F.Conditional (map (choice_of (before M)) xs) (expr_of (before M) z)) tt))
      expr_by_keeps blocks Expr-F.Lambda = λ u fit. (made_expr M.after e.Lambda Expr-F.Lambda e.rolls-Lambda ∙ M.of_other Expr-F.Lambda tt, fit)

    pub expr_keeps : (depth : ℕ) (file : FileParts) (blocks : List BlockParts) (x : Expr) → Keeps (expr_to depth file blocks x) x
    unfolding expr_to
    expr_keeps zero file blocks x = λ _ _. tt
    expr_keeps (suc depth) file blocks x =
        gives_as F {A = Expr} (λ z. expr_of M.after z ≡ (before M).expr_step (expr_inside (before M) (out-Expr x))) (λ z. expr_of M.after z ≡ expr_of (before M) x) (λ z h. h ∙ sym (opened_expr (before M) x))
        (expr_by file (expr_to depth file) blocks (out-Expr x)) (expr_by_keeps file (expr_to depth file) (expr_keeps depth file) blocks (out-Expr x))
