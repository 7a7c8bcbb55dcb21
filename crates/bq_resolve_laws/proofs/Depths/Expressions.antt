-- Expressions that are not too deep have faults of names alone.
use Rattle.std.proofs.Common.{◌≤◌, ℕ, zero, suc, ◌+◌, ◌&&◌, ◌||◌, List, [], ◌∷◌, map, length, Option, Some, None, Result, Ok, Err, arith}
use Rattle.bq_base.specs.declared.fault.NameFault.{NameFault}
use Rattle.bq_base.specs.declared.fault.Fault.{Fault}
use Rattle.bq_base.specs.declared.fault.NameFault.TheVariants as f
use Rattle.bq_parse_grammar.specs.declared.tree.Argument.{Argument, out-Argument}
use Rattle.bq_parse_grammar.specs.declared.tree.Argument.TheOpen.{Expr-F, Suffix-F, Argument-F, Clause-F, TargetExpr-F}
use Rattle.bq_parse_grammar.specs.declared.tree.Argument.TheVariants as a
use Rattle.bq_parse_grammar.specs.declared.tree.Choice.{Choice, out-Choice, roll-Choice}
use Rattle.bq_parse_grammar.specs.declared.tree.Clause.{Clause, out-Clause}
use Rattle.bq_parse_grammar.specs.declared.tree.Clause.TheVariants as cl
use Rattle.bq_parse_grammar.specs.declared.tree.ComprehensionFrame.{ComprehensionFrame}
use Rattle.bq_parse_grammar.specs.declared.tree.ComprehensionFrame.TheVariants as frame
use Rattle.bq_parse_grammar.specs.declared.tree.Expr.{Expr, out-Expr}
use Rattle.bq_parse_grammar.specs.declared.tree.Expr.TheVariants as e
use Rattle.bq_parse_grammar.specs.declared.tree.FileKind.{FileKind}
use Rattle.bq_parse_grammar.specs.declared.tree.Identifier.{Identifier}
use Rattle.bq_parse_grammar.specs.declared.tree.Operation.{Operation, out-Operation, roll-Operation}
use Rattle.bq_parse_grammar.specs.declared.tree.Pair.{Pair, out-Pair, roll-Pair}
use Rattle.bq_parse_grammar.specs.declared.tree.Referent.{Referent}
use Rattle.bq_parse_grammar.specs.declared.tree.Referent.TheVariants as b
use Rattle.bq_parse_grammar.specs.declared.tree.Suffix.{Suffix, out-Suffix}
use Rattle.bq_parse_grammar.specs.declared.tree.Suffix.TheVariants as s
use Rattle.bq_parse_grammar.specs.declared.tree.TargetExpr.{TargetExpr, out-TargetExpr}
use Rattle.bq_parse_grammar.specs.declared.tree.TargetExpr.TheVariants as t
use Rattle.bq_parse_grammar.specs.Targets.{ExprLayer, SuffixLayer}
use Rattle.bq_predeclared.specs.declared.predeclared.Predeclared.{Predeclared}
use Rattle.bq_resolve_scope.specs.Names.{Name, TargetLayer, ClauseLayer, max_layers, has, with_name, comprehension_names}
use Rattle.bq_resolve_scope.specs.Scope.{BlockParts, FileParts, use_of}
use Rattle.bq_resolve_scope.specs.Universe.{member_named}
use Rattle.bq_resolve_scope.specs.Visit.{Passed, Visit, ◌>>=◌, pure, given, fault_of, each, optional}
use Rattle.bq_resolve_scope.specs.Expressions.{refer, NamedSpace, place_of, is_bzl, bind_global, bind_in, framed, in_frame, member_by, member_call, namespace_at, use_at, bound_at, target_by, target_to, pair, operation, choice, argument_by, arguments, suffix_by, suffixes, operand, call_member, primary_by, primary, clause_by, clauses, in_block, comprehension, expr_by, expr_to}
use Rattle.bq_parse_laws.specs.Depth.{deepest, expr_depth, target_depth, argument_depth, clause_depth, suffix_depth, choice_depth, operation_depth, pair_depth}
use Rattle.bq_resolve_laws.proofs.Depths.Layers.{part_depth, argument_layer, clause_layer, suffix_layer, target_layer, expr_layer, opened_argument, opened_clause, opened_suffix, opened_target, target_has_depth, opened_expr, expr_has_depth, opened_pair, opened_operation, opened_choice}
use Rattle.bq_resolve_laws.proofs.Depths.Calm.{IsCalm, Calm, unknown_is_named, rebound_is_named, calm_bind, calm_map, calm_two, calm_three, calm_given, calm_if, calm_each}

-- ---- names

global_calm : (kind : FileKind) (m : Identifier) → Calm (bind_global kind m)
unfolding bind_global
global_calm kind m u =
    calm_if (is_bzl kind && (has u.bound m.name || has u.loaded m.name)) (fault_of f.Rebound m) (tt, record u { bound = with_name u.bound m.name }) rebound_is_named

bind_calm : (kind : FileKind) (blocks : List BlockParts) (m : Identifier) → Calm (bind_in kind blocks m)
bind_calm kind [] m = global_calm kind m
bind_calm kind (b ∷ bs) m = λ u. tt

pub name_calm : (file : FileParts) (blocks : List BlockParts) (m : Identifier) → Calm (bound_at file blocks m)
unfolding bound_at
name_calm file blocks m =
    let place : Visit Referent = given (fault_of f.UnknownName m) (place_of (use_of file blocks m.name)) in
    calm_bind (bind_in file.universe.kind blocks m) (λ _. place >>= λ x. pure (refer m x)) (bind_calm file.universe.kind blocks m)
    (λ _. calm_map place (refer m) (calm_given (fault_of f.UnknownName m) (place_of (use_of file blocks m.name)) unknown_is_named))

use_calm : (file : FileParts) (blocks : List BlockParts) (m : Identifier) → Calm (use_at file blocks m)
unfolding use_at
use_calm file blocks m =
    calm_map (given (fault_of f.UnknownName m) (use_of file blocks m.name)) (refer m) (calm_given (fault_of f.UnknownName m) (use_of file blocks m.name) unknown_is_named)

-- ---- frames

framed_calm : (k : ℕ) (r : Result ((ComprehensionFrame → Expr) × Passed) (Fault NameFault)) → IsCalm {A = ComprehensionFrame → Expr} r → IsCalm (framed k r)
framed_calm k (Err why) h = h
framed_calm k (Ok p) h = tt

frame_calm : (blocks : List BlockParts) (v : Visit (ComprehensionFrame → Expr)) → Calm {A = ComprehensionFrame → Expr} v → Calm (in_frame blocks v)
frame_calm [] v h = λ u. framed_calm u.slots (v (record u { slots = 0 })) (h (record u { slots = 0 }))
frame_calm (b ∷ bs) v h = calm_map v (λ make. make frame.Shared) h

module _ (file : FileParts) (n : ℕ) (visit : List BlockParts → Expr → Visit Expr) (visits : (blocks : List BlockParts) (x : Expr) → expr_depth x ≤ n → Calm (visit blocks x)) where
  -- ---- targets

  target_by_calm : (inner : TargetExpr → Visit TargetExpr) (blocks : List BlockParts) (layers : ℕ) → ((u : TargetExpr) → target_depth u ≤ layers → target_depth u ≤ n → Calm (inner u)) → (o : TargetLayer)
      → target_layer o ≤ layers + 1 → target_layer o ≤ n + 1 → Calm (target_by file visit inner blocks o)
  target_by_calm inner blocks layers inners (TargetExpr-F.TargetExpr::Name m) h k = calm_map (bound_at file blocks m) (λ w. t.Name w) (name_calm file blocks m)
  target_by_calm inner blocks layers inners (TargetExpr-F.TargetExpr::Index x i) h k =
      let p : expr_depth x ≤ n = omega arith in
      let q : expr_depth i ≤ n = omega arith in
      calm_two (visit blocks x) (visit blocks i) (λ y j. t.Index y j) (visits blocks x p) (visits blocks i q)
  target_by_calm inner blocks layers inners (TargetExpr-F.TargetExpr::Tuple us) h k =
      calm_map (each inner [] us) (λ vs. t.Tuple vs) (calm_each target_depth (deepest (map target_depth us)) inner (λ u l. inners u (omega arith) (omega arith)) [] us (omega arith))
  target_by_calm inner blocks layers inners (TargetExpr-F.TargetExpr::List us) h k =
      calm_map (each inner [] us) (λ vs. t.List vs) (calm_each target_depth (deepest (map target_depth us)) inner (λ u l. inners u (omega arith) (omega arith)) [] us (omega arith))

  pub target_calm : (layers : ℕ) (blocks : List BlockParts) (u : TargetExpr) → target_depth u ≤ layers → target_depth u ≤ n + 1 → Calm (target_to file visit layers blocks u)
  unfolding target_to
  target_calm zero blocks u h k = absurd (omega (arith, opened_target u, target_has_depth (out-TargetExpr u)))
  target_calm (suc layers) blocks u h k =
      target_by_calm (target_to file visit layers blocks) blocks layers (λ v p q. target_calm layers blocks v p (omega arith)) (out-TargetExpr u)
      (omega (arith, opened_target u)) (omega (arith, opened_target u))

  -- ---- what stands in an expression

  pair_calm : (blocks : List BlockParts) (p : Pair) → pair_depth p ≤ n → Calm (pair file visit blocks p)
  unfolding pair
  pair_calm blocks p h =
      calm_two (visit blocks (out-Pair p).key) (visit blocks (out-Pair p).value) (λ k v. roll-Pair (record { key = k; value = v }))
      (visits blocks (out-Pair p).key (omega (arith, opened_pair p))) (visits blocks (out-Pair p).value (omega (arith, opened_pair p)))

  operation_calm : (blocks : List BlockParts) (o : Operation) → operation_depth o ≤ n → Calm (operation file visit blocks o)
  unfolding operation
  operation_calm blocks o h =
      calm_map (visit blocks (out-Operation o).operand) (λ x. roll-Operation (record { operator = (out-Operation o).operator; operand = x }))
      (visits blocks (out-Operation o).operand (omega (arith, opened_operation o)))

  choice_calm : (blocks : List BlockParts) (o : Choice) → choice_depth o ≤ n → Calm (choice file visit blocks o)
  unfolding choice
  choice_calm blocks o h =
      calm_two (visit blocks (out-Choice o).value) (visit blocks (out-Choice o).condition) (λ v x. roll-Choice (record { value = v; condition = x }))
      (visits blocks (out-Choice o).value (omega (arith, opened_choice o))) (visits blocks (out-Choice o).condition (omega (arith, opened_choice o)))

  argument_by_calm : (blocks : List BlockParts) (o : Argument-F Argument Clause Expr Suffix TargetExpr Choice Operation Pair) → argument_layer o ≤ n → Calm (argument_by file visit blocks o)
  argument_by_calm blocks (Argument-F.Positional x) h = calm_map (visit blocks x) (λ y. a.Positional y) (visits blocks x h)
  argument_by_calm blocks (Argument-F.Named m x) h = calm_map (visit blocks x) (λ y. a.Named m y) (visits blocks x h)
  argument_by_calm blocks (Argument-F.Star x) h = calm_map (visit blocks x) (λ y. a.Star y) (visits blocks x h)
  argument_by_calm blocks (Argument-F.StarStar x) h = calm_map (visit blocks x) (λ y. a.StarStar y) (visits blocks x h)

  arguments_calm : (blocks : List BlockParts) (xs : List Argument) → deepest (map argument_depth xs) ≤ n → Calm (arguments file visit blocks xs)
  unfolding arguments
  arguments_calm blocks xs h =
      calm_each argument_depth n (λ x. argument_by file visit blocks (out-Argument x)) (λ x k. argument_by_calm blocks (out-Argument x) (omega (arith, opened_argument x))) [] xs h

  optional_calm : (blocks : List BlockParts) (o : Option Expr) → part_depth o ≤ n → Calm (optional (visit blocks) o)
  optional_calm blocks None h = λ u. tt
  optional_calm blocks (Some x) h = calm_map (visit blocks x) (λ y. Some y) (visits blocks x h)

  suffix_by_calm : (blocks : List BlockParts) (o : SuffixLayer) → suffix_layer o ≤ n → Calm (suffix_by file visit blocks o)
  suffix_by_calm blocks (Suffix-F.Call xs) h = calm_map (arguments file visit blocks xs) (λ ys. s.Call ys) (arguments_calm blocks xs h)
  suffix_by_calm blocks (Suffix-F.Method m xs) h = calm_map (arguments file visit blocks xs) (λ ys. s.Method m ys) (arguments_calm blocks xs h)
  suffix_by_calm blocks (Suffix-F.Attribute m) h = λ u. tt
  suffix_by_calm blocks (Suffix-F.Suffix::Index i) h = calm_map (visit blocks i) (λ j. s.Index j) (visits blocks i h)
  suffix_by_calm blocks (Suffix-F.Slice i j k) h =
      calm_three (optional (visit blocks) i) (optional (visit blocks) j) (optional (visit blocks) k) (λ x y z. s.Slice x y z)
      (optional_calm blocks i (omega arith)) (optional_calm blocks j (omega arith)) (optional_calm blocks k (omega arith))

  suffixes_calm : (blocks : List BlockParts) (done : List Suffix) (ss : List Suffix) → deepest (map suffix_depth ss) ≤ n → Calm (suffixes file visit blocks done ss)
  unfolding suffixes
  suffixes_calm blocks done ss h =
      calm_each suffix_depth n (λ x. suffix_by file visit blocks (out-Suffix x)) (λ x k. suffix_by_calm blocks (out-Suffix x) (omega (arith, opened_suffix x))) done ss h

  -- ---- operands

  operand_calm : (blocks : List BlockParts) (x : Expr) (ss : List Suffix) → expr_depth x ≤ n → deepest (map suffix_depth ss) ≤ n → Calm (operand file visit blocks x ss)
  unfolding operand
  operand_calm blocks x ss h k = calm_two (visit blocks x) (suffixes file visit blocks [] ss) (λ y ts. e.Primary y ts) (visits blocks x h) (suffixes_calm blocks [] ss k)

  member_calm : (blocks : List BlockParts) (space : NamedSpace) (m : Identifier) (xs : List Argument) (ss : List Suffix) → deepest (map argument_depth xs) ≤ n → deepest (map suffix_depth ss) ≤ n
      → Calm (call_member file visit blocks space m xs ss)
  unfolding call_member
  member_calm blocks space m xs ss h k =
      let member : Option Predeclared = member_named space.0 file.universe.rules m.name in
      let called : Predeclared → List Argument → List Suffix = λ p ys. s.Method (refer m (b.Member p)) ys ∷ [] in
      let make : Predeclared → List Suffix → Expr = λ p ts. e.Primary (e.Name (refer space.1 (b.Member p))) ts in
      calm_bind (given (fault_of f.UnknownName m) member) (λ p. arguments file visit blocks xs >>= λ ys. suffixes file visit blocks (called p ys) ss >>= λ ts. pure (make p ts))
      (calm_given (fault_of f.UnknownName m) member unknown_is_named)
      (λ p. calm_bind (arguments file visit blocks xs) (λ ys. suffixes file visit blocks (called p ys) ss >>= λ ts. pure (make p ts)) (arguments_calm blocks xs h)
      (λ ys. calm_map (suffixes file visit blocks (called p ys) ss) (make p) (suffixes_calm blocks (called p ys) ss k)))

  member_by_calm : (blocks : List BlockParts) (space : NamedSpace) (x : Expr) (ss rest : List Suffix) (o : SuffixLayer) → expr_depth x ≤ n → deepest (map suffix_depth ss) ≤ n → suffix_layer o ≤ n
      → deepest (map suffix_depth rest) ≤ n → Calm (primary_by file visit blocks x ss (member_by space o rest))
  member_by_calm blocks space x ss rest (Suffix-F.Call xs) h k l m = operand_calm blocks x ss h k
  member_by_calm blocks space x ss rest (Suffix-F.Method name xs) h k l m = member_calm blocks space name xs rest l m
  member_by_calm blocks space x ss rest (Suffix-F.Attribute name) h k l m = operand_calm blocks x ss h k
  member_by_calm blocks space x ss rest (Suffix-F.Suffix::Index i) h k l m = operand_calm blocks x ss h k
  member_by_calm blocks space x ss rest (Suffix-F.Slice i j y) h k l m = operand_calm blocks x ss h k

  member_call_calm : (blocks : List BlockParts) (x : Expr) (o : Option NamedSpace) (ss : List Suffix) → expr_depth x ≤ n → deepest (map suffix_depth ss) ≤ n → Calm (primary_by file visit blocks x ss (member_call o ss))
  member_call_calm blocks x None ss h k = operand_calm blocks x ss h k
  member_call_calm blocks x (Some space) [] h k = operand_calm blocks x [] h k
  member_call_calm blocks x (Some space) (u ∷ us) h k = member_by_calm blocks space x (u ∷ us) us (out-Suffix u) h k (omega (arith, opened_suffix u)) (omega arith)

  primary_calm : (blocks : List BlockParts) (x : Expr) (ss : List Suffix) → expr_depth x ≤ n → deepest (map suffix_depth ss) ≤ n → Calm (primary file visit blocks x ss)
  unfolding primary
  primary_calm blocks x ss h k = member_call_calm blocks x (namespace_at file blocks (out-Expr x)) ss h k

  -- ---- comprehensions

  clause_by_calm : (round blocks : List BlockParts) (o : ClauseLayer) → clause_layer o ≤ n → n ≤ max_layers → Calm (clause_by file visit round blocks o)
  clause_by_calm round blocks (Clause-F.For u x) h small =
      calm_two (target_to file visit max_layers blocks u) (visit round x) (λ v y. cl.For v y) (target_calm max_layers blocks u (omega arith) (omega arith)) (visits round x (omega arith))
  clause_by_calm round blocks (Clause-F.If x) h small = calm_map (visit blocks x) (λ y. cl.If y) (visits blocks x h)

  clauses_calm : (round blocks : List BlockParts) (xs : List Clause) → deepest (map clause_depth xs) ≤ n → n ≤ max_layers → Calm (clauses file visit round blocks xs)
  unfolding clauses
  clauses_calm round blocks [] h small = λ u. tt
  clauses_calm round blocks (x ∷ xs) h small =
      calm_bind (clause_by file visit round blocks (out-Clause x)) (λ y. each (λ z. clause_by file visit blocks blocks (out-Clause z)) (y ∷ []) xs)
      (clause_by_calm round blocks (out-Clause x) (omega (arith, opened_clause x)) small)
      (λ y. calm_each clause_depth n (λ z. clause_by file visit blocks blocks (out-Clause z)) (λ z k. clause_by_calm blocks blocks (out-Clause z) (omega (arith, opened_clause z)) small) (y ∷ []) xs (omega arith))

  block_calm : {A : Type 0} (element : List BlockParts → Visit A) (make : A → List Clause → ComprehensionFrame → Expr) → ((bs : List BlockParts) → Calm {A = A} (element bs)) → (blocks : List BlockParts) (xs : List Clause)
      → deepest (map clause_depth xs) ≤ n → n ≤ max_layers → Calm {A = ComprehensionFrame → Expr} (in_block file visit element make blocks xs)
  unfolding in_block
  block_calm element make elements blocks xs h small u =
      let names : List Name = comprehension_names xs in
      let block : BlockParts = record { base = u.slots; names = names } in
      calm_two (element (block ∷ blocks)) (clauses file visit blocks (block ∷ blocks) xs) make (elements (block ∷ blocks)) (clauses_calm blocks (block ∷ blocks) xs h small) (record u { slots = u.slots + length names })

  comprehension_calm : {A : Type 0} (element : List BlockParts → Visit A) (make : A → List Clause → ComprehensionFrame → Expr) → ((bs : List BlockParts) → Calm {A = A} (element bs)) → (blocks : List BlockParts) (xs : List Clause)
      → deepest (map clause_depth xs) ≤ n → n ≤ max_layers → Calm (comprehension file visit element make blocks xs)
  unfolding comprehension
  comprehension_calm element make elements blocks xs h small = frame_calm blocks (in_block file visit element make blocks xs) (block_calm element make elements blocks xs h small)

  -- ---- expressions

  all_calm : (blocks : List BlockParts) (xs : List Expr) → deepest (map expr_depth xs) ≤ n → Calm (each (visit blocks) [] xs)
  all_calm blocks xs h = calm_each expr_depth n (visit blocks) (visits blocks) [] xs h

  expr_by_calm : (blocks : List BlockParts) (o : ExprLayer) → expr_layer o ≤ n + 1 → n ≤ max_layers → Calm (expr_by file visit blocks o)
  expr_by_calm blocks (Expr-F.Expr::Name m) h small = calm_map (use_at file blocks m) (λ x. e.Name x) (use_calm file blocks m)
  expr_by_calm blocks (Expr-F.Int i) h small = λ u. tt
  expr_by_calm blocks (Expr-F.String b) h small = λ u. tt
  expr_by_calm blocks (Expr-F.Expr::List xs) h small = calm_map (each (visit blocks) [] xs) (λ ys. e.List ys) (all_calm blocks xs (omega arith))
  expr_by_calm blocks (Expr-F.Expr::Tuple xs) h small = calm_map (each (visit blocks) [] xs) (λ ys. e.Tuple ys) (all_calm blocks xs (omega arith))
  expr_by_calm blocks (Expr-F.Dict ps) h small = calm_map (each (pair file visit blocks) [] ps) (λ qs. e.Dict qs) (calm_each pair_depth n (pair file visit blocks) (pair_calm blocks) [] ps (omega arith))
  expr_by_calm blocks (Expr-F.ListComprehension x xs own) h small =
      let p : expr_depth x ≤ n = omega arith in
      comprehension_calm (λ bs. visit bs x) e.ListComprehension (λ bs. visits bs x p) blocks xs (omega arith) small
  expr_by_calm blocks (Expr-F.DictComprehension x xs own) h small =
      let p : pair_depth x ≤ n = omega arith in
      comprehension_calm (λ bs. pair file visit bs x) e.DictComprehension (λ bs. pair_calm bs x p) blocks xs (omega arith) small
  expr_by_calm blocks (Expr-F.Primary x ss) h small = primary_calm blocks x ss (omega arith) (omega arith)
  expr_by_calm blocks (Expr-F.Unary os x) h small = calm_map (visit blocks x) (λ y. e.Unary os y) (visits blocks x (omega arith))
  expr_by_calm blocks (Expr-F.Binary x os) h small =
      calm_two (visit blocks x) (each (operation file visit blocks) [] os) (λ y ps. e.Binary y ps) (visits blocks x (omega arith))
      (calm_each operation_depth n (operation file visit blocks) (operation_calm blocks) [] os (omega arith))
  expr_by_calm blocks (Expr-F.Compare x o z) h small =
      calm_two (visit blocks x) (visit blocks z) (λ y w. e.Compare y o w) (visits blocks x (omega arith)) (visits blocks z (omega arith))
  expr_by_calm blocks (Expr-F.Conditional xs z) h small =
      calm_two (each (choice file visit blocks) [] xs) (visit blocks z) (λ ys w. e.Conditional ys w)
      (calm_each choice_depth n (choice file visit blocks) (choice_calm blocks) [] xs (omega arith)) (visits blocks z (omega arith))
  expr_by_calm blocks Expr-F.Lambda h small = λ u. tt

pub expr_calm : (depth : ℕ) (file : FileParts) → depth ≤ max_layers → (blocks : List BlockParts) (x : Expr) → expr_depth x ≤ depth → Calm (expr_to depth file blocks x)
unfolding expr_to
expr_calm zero file small blocks x h = absurd (omega (arith, opened_expr x, expr_has_depth (out-Expr x)))
expr_calm (suc depth) file small blocks x h =
    expr_by_calm file depth (expr_to depth file) (expr_calm depth file (omega arith)) blocks (out-Expr x) (omega (arith, opened_expr x)) (omega arith)
