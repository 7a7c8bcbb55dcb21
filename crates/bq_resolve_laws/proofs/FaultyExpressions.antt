-- The fault of an expression is the first rule that it breaks.
use Rattle.std.specs.List.{flat_map}
use Rattle.std.proofs.Common.{ℕ, zero, suc, ◌+◌, List, [], ◌∷◌, ◌++◌, length, Option, Some, None, is_some, Result, Ok, Err, inl, inr, refl, subst}
use Rattle.bq_base.specs.declared.fault.NameFault.{NameFault}
use Rattle.bq_base.specs.declared.fault.Fault.{Fault}
use Rattle.bq_base.specs.declared.fault.NameFault.TheVariants as f
use Rattle.bq_parse_grammar.specs.declared.tree.Argument.TheOpen.{Expr-F, Suffix-F, Argument-F, Clause-F, TargetExpr-F}
use Rattle.bq_parse_grammar.specs.declared.tree.Argument.{Argument, out-Argument}
use Rattle.bq_parse_grammar.specs.declared.tree.Choice.{Choice, out-Choice, roll-Choice}
use Rattle.bq_parse_grammar.specs.declared.tree.Clause.{Clause, out-Clause}
use Rattle.bq_parse_grammar.specs.declared.tree.Expr.{Expr, out-Expr}
use Rattle.bq_parse_grammar.specs.declared.tree.Identifier.{Identifier}
use Rattle.bq_parse_grammar.specs.declared.tree.Operation.{Operation, out-Operation, roll-Operation}
use Rattle.bq_parse_grammar.specs.declared.tree.Pair.{Pair, out-Pair, roll-Pair}
use Rattle.bq_parse_grammar.specs.declared.tree.Suffix.{Suffix, out-Suffix}
use Rattle.bq_parse_grammar.specs.declared.tree.TargetExpr.{TargetExpr, out-TargetExpr}
use Rattle.bq_parse_grammar.specs.Targets.{ExprLayer, SuffixLayer}
use Rattle.bq_parse_grammar.specs.declared.tree.Expr.TheVariants as tree
use Rattle.bq_parse_grammar.specs.declared.tree.Argument.TheVariants as a
use Rattle.bq_parse_grammar.specs.declared.tree.Clause.TheVariants as cl
use Rattle.bq_parse_grammar.specs.declared.tree.Suffix.TheVariants as s
use Rattle.bq_parse_grammar.specs.declared.tree.TargetExpr.TheVariants as t
use Rattle.bq_resolve_scope.specs.Names.{Name, TargetLayer, ClauseLayer, max_layers, comprehension_names}
use Rattle.bq_resolve_scope.specs.Scope.{BlockParts, FileParts}
use Rattle.bq_predeclared.specs.declared.predeclared.Predeclared.{Predeclared}
use Rattle.bq_parse_grammar.specs.declared.tree.ComprehensionFrame.{ComprehensionFrame}
use Rattle.bq_parse_grammar.specs.declared.tree.ComprehensionFrame.TheVariants as frame
use Rattle.bq_parse_grammar.specs.declared.tree.Referent.TheVariants as b
use Rattle.bq_resolve_scope.specs.Universe.{member_named}
use Rattle.bq_resolve_scope.specs.Visit.{Passed, Visit, ◌>>=◌, pure, given, fault_of, each, optional}
use Rattle.bq_resolve_scope.specs.Expressions.{refer, bound_at, framed, in_frame, NamedSpace, member_by, member_call, namespace_at, use_at, target_by, target_to, pair, operation, choice, argument_by, arguments, suffix_by, suffixes, operand, call_member, primary_by, primary, clause_by, clauses, in_block, comprehension, expr_by, expr_to}
use Rattle.bq_resolve_laws.specs.Binds.{AnyOf, target_binds_by, TargetBindsTo, TargetBinds, clause_binds_by, ClauseBinds}
use Rattle.bq_resolve_laws.specs.Violations.{of_part, unless, Around, Before, in_use, in_member, in_target_by, in_target_to, in_pair, in_operation, in_choice, in_argument_by, in_arguments, in_suffix_by, in_suffixes, in_operand, in_method, in_primary_by, in_primary, in_clause_by, in_clauses, in_comprehension, in_expr_by, in_expr_to}
use Rattle.bq_resolve_laws.proofs.Binds.{comprehension_binds}
use Rattle.bq_resolve_laws.proofs.Finds.{before, Finding, Finds, Holds, finds_map, finds_two, finds_bind, finds_three, finds_given, finds_each, finds_held, finds_optional}
use Rattle.bq_resolve_laws.proofs.UnknownNames.{around_of, use_finds, the_space, namespace_of, local_finds}

-- ---- frames

framed_finds : (slots : ℕ) (r : Result ((ComprehensionFrame → Expr) × Passed) (Fault NameFault)) (faults : List (Fault NameFault)) (b : Before) → Finding {A = ComprehensionFrame → Expr} faults b r → Finding {A = Expr} faults b (framed slots r)
framed_finds slots (Err why) faults b h = h
framed_finds slots (Ok p) faults b h = h

frame_finds : (blocks : List BlockParts) (v : Visit (ComprehensionFrame → Expr)) (faults : List (Fault NameFault)) → Finds {A = ComprehensionFrame → Expr} faults v → Finds {A = Expr} faults (in_frame blocks v)
frame_finds [] v faults h = λ u. framed_finds u.slots (v (record u { slots = 0 })) faults (before u) (h (record u { slots = 0 }))
frame_finds (b ∷ bs) v faults h = finds_map v (λ w. w frame.Shared) faults h

module _ (file : FileParts) (visit : List BlockParts → Expr → Visit Expr) (inner : Around → Expr → List (Fault NameFault)) (visits : (blocks : List BlockParts) (x : Expr) → Finds (inner (around_of blocks) x) (visit blocks x)) where
  -- ---- targets, whose names the block holds

  target_by_finds : (go : TargetExpr → Visit TargetExpr) (F : TargetExpr → List (Fault NameFault)) (P : Name → TargetExpr → Type 0) (block : BlockParts) (blocks : List BlockParts)
      → ((u : TargetExpr) → Holds block.names (λ name. P name u) → Finds (F u) (go u)) → (o : TargetLayer) → Holds block.names (λ name. target_binds_by (P name) name o)
      → Finds (in_target_by file inner F (around_of (block ∷ blocks)) o) (target_by file visit go (block ∷ blocks) o)
  target_by_finds go F P block blocks goes (TargetExpr-F.TargetExpr::Name n) held = finds_map (bound_at file (block ∷ blocks) n) (λ m. t.Name m) [] (local_finds file block blocks n (held n.name refl))
  target_by_finds go F P block blocks goes (TargetExpr-F.TargetExpr::Index x i) held =
      finds_two (visit (block ∷ blocks) x) (visit (block ∷ blocks) i) (λ y j. t.Index y j) (inner (around_of (block ∷ blocks)) x) (inner (around_of (block ∷ blocks)) i)
      (visits (block ∷ blocks) x) (visits (block ∷ blocks) i)
  target_by_finds go F P block blocks goes (TargetExpr-F.TargetExpr::Tuple us) held = finds_map (each go [] us) (λ vs. t.Tuple vs) (flat_map F us) (finds_held block.names go F P goes [] us held)
  target_by_finds go F P block blocks goes (TargetExpr-F.TargetExpr::List us) held = finds_map (each go [] us) (λ vs. t.List vs) (flat_map F us) (finds_held block.names go F P goes [] us held)

  pub target_finds : (layers : ℕ) (block : BlockParts) (blocks : List BlockParts) (u : TargetExpr) → Holds block.names (λ name. TargetBindsTo layers name u)
      → Finds (in_target_to file inner layers (around_of (block ∷ blocks)) u) (target_to file visit layers (block ∷ blocks) u)
  unfolding in_target_to target_to TargetBindsTo
  target_finds zero block blocks u held = λ z. refl
  target_finds (suc layers) block blocks u held =
      target_by_finds (target_to file visit layers (block ∷ blocks)) (in_target_to file inner layers (around_of (block ∷ blocks))) (TargetBindsTo layers) block blocks
      (target_finds layers block blocks) (out-TargetExpr u) held

  -- ---- what stands in an expression

  pair_finds : (blocks : List BlockParts) (p : Pair) → Finds (in_pair file inner (around_of blocks) p) (pair file visit blocks p)
  unfolding in_pair pair
  pair_finds blocks p =
      finds_two (visit blocks (out-Pair p).key) (visit blocks (out-Pair p).value) (λ k v. roll-Pair (record { key = k; value = v }))
      (inner (around_of blocks) (out-Pair p).key) (inner (around_of blocks) (out-Pair p).value) (visits blocks (out-Pair p).key) (visits blocks (out-Pair p).value)

  operation_finds : (blocks : List BlockParts) (o : Operation) → Finds (in_operation file inner (around_of blocks) o) (operation file visit blocks o)
  unfolding in_operation operation
  operation_finds blocks o =
      finds_map (visit blocks (out-Operation o).operand) (λ x. roll-Operation (record { operator = (out-Operation o).operator; operand = x })) (inner (around_of blocks) (out-Operation o).operand)
      (visits blocks (out-Operation o).operand)

  choice_finds : (blocks : List BlockParts) (o : Choice) → Finds (in_choice file inner (around_of blocks) o) (choice file visit blocks o)
  unfolding in_choice choice
  choice_finds blocks o =
      finds_two (visit blocks (out-Choice o).value) (visit blocks (out-Choice o).condition) (λ v x. roll-Choice (record { value = v; condition = x }))
      (inner (around_of blocks) (out-Choice o).value) (inner (around_of blocks) (out-Choice o).condition) (visits blocks (out-Choice o).value) (visits blocks (out-Choice o).condition)

  argument_by_finds : (blocks : List BlockParts) (o : Argument-F Argument Clause Expr Suffix TargetExpr Choice Operation Pair)
      → Finds (in_argument_by file inner (around_of blocks) o) (argument_by file visit blocks o)
  argument_by_finds blocks (Argument-F.Positional x) = finds_map (visit blocks x) (λ y. a.Positional y) (inner (around_of blocks) x) (visits blocks x)
  argument_by_finds blocks (Argument-F.Named n x) = finds_map (visit blocks x) (λ y. a.Named n y) (inner (around_of blocks) x) (visits blocks x)
  argument_by_finds blocks (Argument-F.Star x) = finds_map (visit blocks x) (λ y. a.Star y) (inner (around_of blocks) x) (visits blocks x)
  argument_by_finds blocks (Argument-F.StarStar x) = finds_map (visit blocks x) (λ y. a.StarStar y) (inner (around_of blocks) x) (visits blocks x)

  arguments_find : (blocks : List BlockParts) (xs : List Argument) → Finds (in_arguments file inner (around_of blocks) xs) (arguments file visit blocks xs)
  unfolding in_arguments arguments
  arguments_find blocks xs =
      finds_each (λ x. argument_by file visit blocks (out-Argument x)) (λ x. in_argument_by file inner (around_of blocks) (out-Argument x)) (λ x. argument_by_finds blocks (out-Argument x)) [] xs

  optional_finds : (blocks : List BlockParts) (o : Option Expr) → Finds (of_part (inner (around_of blocks)) o) (optional (visit blocks) o)
  optional_finds blocks o = finds_optional (visit blocks) (inner (around_of blocks)) (visits blocks) o

  suffix_by_finds : (blocks : List BlockParts) (o : SuffixLayer) → Finds (in_suffix_by file inner (around_of blocks) o) (suffix_by file visit blocks o)
  suffix_by_finds blocks (Suffix-F.Call xs) = finds_map (arguments file visit blocks xs) (λ ys. s.Call ys) (in_arguments file inner (around_of blocks) xs) (arguments_find blocks xs)
  suffix_by_finds blocks (Suffix-F.Method m xs) = finds_map (arguments file visit blocks xs) (λ ys. s.Method m ys) (in_arguments file inner (around_of blocks) xs) (arguments_find blocks xs)
  suffix_by_finds blocks (Suffix-F.Attribute m) = λ u. (refl, refl)
  suffix_by_finds blocks (Suffix-F.Suffix::Index i) = finds_map (visit blocks i) (λ j. s.Index j) (inner (around_of blocks) i) (visits blocks i)
  suffix_by_finds blocks (Suffix-F.Slice i j k) =
      finds_three (optional (visit blocks) i) (optional (visit blocks) j) (optional (visit blocks) k) (λ x y z. s.Slice x y z)
      (of_part (inner (around_of blocks)) i) (of_part (inner (around_of blocks)) j) (of_part (inner (around_of blocks)) k)
      (optional_finds blocks i) (optional_finds blocks j) (optional_finds blocks k)

  suffixes_find : (blocks : List BlockParts) (done : List Suffix) (ss : List Suffix) → Finds (in_suffixes file inner (around_of blocks) ss) (suffixes file visit blocks done ss)
  unfolding in_suffixes suffixes
  suffixes_find blocks done ss =
      finds_each (λ x. suffix_by file visit blocks (out-Suffix x)) (λ x. in_suffix_by file inner (around_of blocks) (out-Suffix x)) (λ x. suffix_by_finds blocks (out-Suffix x)) done ss

  -- ---- operands

  operand_finds : (blocks : List BlockParts) (x : Expr) (ss : List Suffix) → Finds (in_operand file inner (around_of blocks) x ss) (operand file visit blocks x ss)
  unfolding in_operand operand
  operand_finds blocks x ss =
      finds_two (visit blocks x) (suffixes file visit blocks [] ss) (λ y ts. tree.Primary y ts) (inner (around_of blocks) x) (in_suffixes file inner (around_of blocks) ss)
      (visits blocks x) (suffixes_find blocks [] ss)

  member_finds : (blocks : List BlockParts) (space : NamedSpace) (m : Identifier) (xs : List Argument) (ss : List Suffix)
      → Finds (in_member file space.0 m ++ (in_arguments file inner (around_of blocks) xs ++ in_suffixes file inner (around_of blocks) ss)) (call_member file visit blocks space m xs ss)
  unfolding in_member call_member
  member_finds blocks space m xs ss =
      let called : Predeclared → List Argument → List Suffix = λ p ys. s.Method (refer m (b.Member p)) ys ∷ [] in
      let whole : Predeclared → List Suffix → Expr = λ p ts. tree.Primary (tree.Name (refer space.1 (b.Member p))) ts in
      finds_bind (given (fault_of f.UnknownName m) (member_named space.0 file.universe.rules m.name))
      (λ p. arguments file visit blocks xs >>= λ ys. suffixes file visit blocks (called p ys) ss >>= λ ts. pure (whole p ts))
      (unless (is_some (member_named space.0 file.universe.rules m.name)) (fault_of f.UnknownName m)) (in_arguments file inner (around_of blocks) xs ++ in_suffixes file inner (around_of blocks) ss)
      (finds_given (fault_of f.UnknownName m) (member_named space.0 file.universe.rules m.name))
      (λ p. finds_bind (arguments file visit blocks xs) (λ ys. suffixes file visit blocks (called p ys) ss >>= λ ts. pure (whole p ts))
      (in_arguments file inner (around_of blocks) xs) (in_suffixes file inner (around_of blocks) ss) (arguments_find blocks xs)
      (λ ys. finds_map (suffixes file visit blocks (called p ys) ss) (whole p) (in_suffixes file inner (around_of blocks) ss) (suffixes_find blocks (called p ys) ss)))

  method_finds : (blocks : List BlockParts) (space : NamedSpace) (x : Expr) (ss rest : List Suffix) (o : SuffixLayer)
      → Finds (in_method file inner (around_of blocks) space.0 x ss rest o) (primary_by file visit blocks x ss (member_by space o rest))
  method_finds blocks space x ss rest (Suffix-F.Method m xs) = member_finds blocks space m xs rest
  method_finds blocks space x ss rest (Suffix-F.Call xs) = operand_finds blocks x ss
  method_finds blocks space x ss rest (Suffix-F.Attribute m) = operand_finds blocks x ss
  method_finds blocks space x ss rest (Suffix-F.Suffix::Index i) = operand_finds blocks x ss
  method_finds blocks space x ss rest (Suffix-F.Slice i j k) = operand_finds blocks x ss

  primary_by_finds : (blocks : List BlockParts) (x : Expr) (o : Option NamedSpace) (ss : List Suffix)
      → Finds (in_primary_by file inner (around_of blocks) x (the_space o) ss) (primary_by file visit blocks x ss (member_call o ss))
  primary_by_finds blocks x None ss = operand_finds blocks x ss
  primary_by_finds blocks x (Some space) [] = operand_finds blocks x []
  primary_by_finds blocks x (Some space) (y ∷ ys) = method_finds blocks space x (y ∷ ys) ys (out-Suffix y)

  primary_finds : (blocks : List BlockParts) (x : Expr) (ss : List Suffix) → Finds (in_primary file inner (around_of blocks) x ss) (primary file visit blocks x ss)
  unfolding in_primary primary
  primary_finds blocks x ss =
      subst (λ o. Finds (in_primary_by file inner (around_of blocks) x o ss) (primary_by file visit blocks x ss (member_call (namespace_at file blocks (out-Expr x)) ss))) (namespace_of file blocks (out-Expr x))
      (primary_by_finds blocks x (namespace_at file blocks (out-Expr x)) ss)

  -- ---- comprehensions

  clause_by_finds : (round : List BlockParts) (block : BlockParts) (blocks : List BlockParts) (o : ClauseLayer) → Holds block.names (λ name. clause_binds_by name o)
      → Finds (in_clause_by file inner (around_of round) (around_of (block ∷ blocks)) o) (clause_by file visit round (block ∷ blocks) o)
  unfolding TargetBinds
  clause_by_finds round block blocks (Clause-F.For u x) held =
      finds_two (target_to file visit max_layers (block ∷ blocks) u) (visit round x) (λ v y. cl.For v y) (in_target_to file inner max_layers (around_of (block ∷ blocks)) u) (inner (around_of round) x)
      (target_finds max_layers block blocks u held) (visits round x)
  clause_by_finds round block blocks (Clause-F.If x) held = finds_map (visit (block ∷ blocks) x) (λ y. cl.If y) (inner (around_of (block ∷ blocks)) x) (visits (block ∷ blocks) x)

  clause_finds : (round : List BlockParts) (block : BlockParts) (blocks : List BlockParts) (x : Clause) → Holds block.names (λ name. ClauseBinds name x)
      → Finds (in_clause_by file inner (around_of round) (around_of (block ∷ blocks)) (out-Clause x)) (clause_by file visit round (block ∷ blocks) (out-Clause x))
  unfolding ClauseBinds
  clause_finds round block blocks x held = clause_by_finds round block blocks (out-Clause x) held

  clauses_find : (round : List BlockParts) (block : BlockParts) (blocks : List BlockParts) (xs : List Clause) → Holds block.names (λ name. AnyOf (ClauseBinds name) xs)
      → Finds (in_clauses file inner (around_of round) (around_of (block ∷ blocks)) xs) (clauses file visit round (block ∷ blocks) xs)
  unfolding in_clauses clauses
  clauses_find round block blocks [] held = λ u. (refl, refl)
  clauses_find round block blocks (x ∷ xs) held =
      let own : List BlockParts = block ∷ blocks in
      finds_bind (clause_by file visit round own (out-Clause x)) (λ y. each (λ z. clause_by file visit own own (out-Clause z)) (y ∷ []) xs)
      (in_clause_by file inner (around_of round) (around_of own) (out-Clause x)) (flat_map (λ z. in_clause_by file inner (around_of own) (around_of own) (out-Clause z)) xs)
      (clause_finds round block blocks x (λ name p. held name (inl p)))
      (λ y. finds_held block.names (λ z. clause_by file visit own own (out-Clause z)) (λ z. in_clause_by file inner (around_of own) (around_of own) (out-Clause z)) ClauseBinds
      (λ z h. clause_finds own block blocks z h) (y ∷ []) xs (λ name p. held name (inr p)))

  block_finds : {A : Type 0} (element : List BlockParts → Visit A) (F : Around → List (Fault NameFault)) (make : A → List Clause → ComprehensionFrame → Expr) → ((bs : List BlockParts) → Finds {A = A} (F (around_of bs)) (element bs))
      → (blocks : List BlockParts) (xs : List Clause) → Finds {A = ComprehensionFrame → Expr} (in_comprehension file inner F (around_of blocks) xs) (in_block file visit element make blocks xs)
  unfolding in_comprehension in_block
  block_finds element F make elements blocks xs u =
      let names : List Name = comprehension_names xs in
      let block : BlockParts = record { base = u.slots; names = names } in
      finds_two (element (block ∷ blocks)) (clauses file visit blocks (block ∷ blocks) xs) make (F (names ∷ around_of blocks)) (in_clauses file inner (around_of blocks) (names ∷ around_of blocks) xs)
      (elements (block ∷ blocks)) (clauses_find blocks block blocks xs (λ name p. (comprehension_binds xs name).1 p)) (record u { slots = u.slots + length names })

  comprehension_finds : {A : Type 0} (element : List BlockParts → Visit A) (F : Around → List (Fault NameFault)) (make : A → List Clause → ComprehensionFrame → Expr) → ((bs : List BlockParts) → Finds {A = A} (F (around_of bs)) (element bs))
      → (blocks : List BlockParts) (xs : List Clause) → Finds {A = Expr} (in_comprehension file inner F (around_of blocks) xs) (comprehension file visit element make blocks xs)
  unfolding comprehension
  comprehension_finds element F make elements blocks xs =
      frame_finds blocks (in_block file visit element make blocks xs) (in_comprehension file inner F (around_of blocks) xs) (block_finds element F make elements blocks xs)

  -- ---- expressions

  all_find : (blocks : List BlockParts) (xs : List Expr) → Finds (flat_map (inner (around_of blocks)) xs) (each (visit blocks) [] xs)
  all_find blocks xs = finds_each (visit blocks) (inner (around_of blocks)) (visits blocks) [] xs

  expr_by_finds : (blocks : List BlockParts) (o : ExprLayer) → Finds (in_expr_by file inner (around_of blocks) o) (expr_by file visit blocks o)
  expr_by_finds blocks (Expr-F.Expr::Name n) = finds_map (use_at file blocks n) (λ m. tree.Name m) (in_use file (around_of blocks) n) (use_finds file blocks n)
  expr_by_finds blocks (Expr-F.Int i) = λ u. (refl, refl)
  expr_by_finds blocks (Expr-F.String b) = λ u. (refl, refl)
  expr_by_finds blocks (Expr-F.Expr::List xs) = finds_map (each (visit blocks) [] xs) (λ ys. tree.List ys) (flat_map (inner (around_of blocks)) xs) (all_find blocks xs)
  expr_by_finds blocks (Expr-F.Expr::Tuple xs) = finds_map (each (visit blocks) [] xs) (λ ys. tree.Tuple ys) (flat_map (inner (around_of blocks)) xs) (all_find blocks xs)
  expr_by_finds blocks (Expr-F.Dict ps) =
      finds_map (each (pair file visit blocks) [] ps) (λ qs. tree.Dict qs) (flat_map (in_pair file inner (around_of blocks)) ps) (finds_each (pair file visit blocks) (in_pair file inner (around_of blocks)) (pair_finds blocks) [] ps)
  expr_by_finds blocks (Expr-F.ListComprehension x xs slots) = comprehension_finds (λ bs. visit bs x) (λ own. inner own x) (λ y ys own. tree.ListComprehension y ys own) (λ bs. visits bs x) blocks xs
  expr_by_finds blocks (Expr-F.DictComprehension p xs slots) =
      comprehension_finds (λ bs. pair file visit bs p) (λ own. in_pair file inner own p) (λ y ys own. tree.DictComprehension y ys own) (λ bs. pair_finds bs p) blocks xs
  expr_by_finds blocks (Expr-F.Primary x ss) = primary_finds blocks x ss
  expr_by_finds blocks (Expr-F.Unary os x) = finds_map (visit blocks x) (λ y. tree.Unary os y) (inner (around_of blocks) x) (visits blocks x)
  expr_by_finds blocks (Expr-F.Binary x os) =
      finds_two (visit blocks x) (each (operation file visit blocks) [] os) (λ y ps. tree.Binary y ps) (inner (around_of blocks) x) (flat_map (in_operation file inner (around_of blocks)) os)
      (visits blocks x) (finds_each (operation file visit blocks) (in_operation file inner (around_of blocks)) (operation_finds blocks) [] os)
  expr_by_finds blocks (Expr-F.Compare x o z) =
      finds_two (visit blocks x) (visit blocks z) (λ y w. tree.Compare y o w) (inner (around_of blocks) x) (inner (around_of blocks) z) (visits blocks x) (visits blocks z)
  expr_by_finds blocks (Expr-F.Conditional xs z) =
      finds_two (each (choice file visit blocks) [] xs) (visit blocks z) (λ ys w. tree.Conditional ys w) (flat_map (in_choice file inner (around_of blocks)) xs) (inner (around_of blocks) z)
      (finds_each (choice file visit blocks) (in_choice file inner (around_of blocks)) (choice_finds blocks) [] xs) (visits blocks z)
  expr_by_finds blocks Expr-F.Lambda = λ u. (refl, refl)

pub expr_finds : (layers : ℕ) (file : FileParts) (blocks : List BlockParts) (x : Expr) → Finds (in_expr_to file layers (around_of blocks) x) (expr_to layers file blocks x)
unfolding in_expr_to expr_to
expr_finds zero file blocks x = λ u. refl
expr_finds (suc layers) file blocks x = expr_by_finds file (expr_to layers file) (in_expr_to file layers) (expr_finds layers file) blocks (out-Expr x)
