-- Expressions need no more slots than the frame has after them.
use Rattle.std.proofs.Common.{◌≡◌, ◌≤◌, ℕ, zero, suc, ◌+◌, max, List, [], ◌∷◌, map, length, Option, Some, None, Result, Ok, Err, refl, sym, ap, subst, ◌++◌, ◌∙◌, arith}
use Rattle.bq_base.specs.declared.fault.NameFault.{NameFault}
use Rattle.bq_base.specs.declared.fault.Fault.{Fault}
use Rattle.bq_base.specs.declared.fault.NameFault.TheVariants as f
use Rattle.bq_base.specs.Fault.{fault_at}
use Rattle.bq_parse_grammar.specs.declared.tree.Argument.TheOpen.{Expr-F, Suffix-F, Argument-F, Clause-F, TargetExpr-F}
use Rattle.bq_parse_grammar.specs.declared.tree.Argument.{Argument, out-Argument}
use Rattle.bq_parse_grammar.specs.declared.tree.Choice.{Choice, out-Choice, roll-Choice}
use Rattle.bq_parse_grammar.specs.declared.tree.Clause.{Clause, out-Clause}
use Rattle.bq_parse_grammar.specs.declared.tree.Expr.{Expr, out-Expr}
use Rattle.bq_parse_grammar.specs.declared.tree.Identifier.{Identifier}
use Rattle.bq_parse_grammar.specs.declared.tree.Operation.{Operation, out-Operation, roll-Operation}
use Rattle.bq_parse_grammar.specs.declared.tree.Pair.{Pair, out-Pair, roll-Pair}
use Rattle.bq_parse_grammar.specs.declared.tree.Suffix.{Suffix, out-Suffix}
use Rattle.bq_parse_grammar.specs.declared.tree.TargetExpr.{TargetExpr, out-TargetExpr}
use Rattle.bq_parse_grammar.specs.Targets.{ExprLayer, SuffixLayer}
use Rattle.bq_parse_grammar.specs.declared.tree.Expr.TheVariants as tree
use Rattle.bq_parse_grammar.specs.declared.tree.Argument.TheVariants as a
use Rattle.bq_parse_grammar.specs.declared.tree.Clause.TheVariants as cl
use Rattle.bq_parse_grammar.specs.declared.tree.Suffix.TheVariants as s
use Rattle.bq_parse_grammar.specs.declared.tree.TargetExpr.TheVariants as t
use Rattle.bq_resolve_scope.specs.Names.{Name, TargetLayer, ClauseLayer, max_layers, comprehension_names}
use Rattle.bq_resolve_scope.specs.Scope.{BlockParts, FileParts}
use Rattle.bq_predeclared.specs.declared.predeclared.Predeclared.{Predeclared}
use Rattle.bq_parse_grammar.specs.declared.tree.ComprehensionFrame.{ComprehensionFrame}
use Rattle.bq_parse_grammar.specs.declared.tree.ComprehensionFrame.TheVariants as frame
use Rattle.bq_parse_grammar.specs.declared.tree.Referent.TheVariants as b
use Rattle.bq_resolve_scope.specs.Universe.{member_named}
use Rattle.bq_resolve_scope.specs.Visit.{Passed, Visit, ◌>>=◌, pure, given, fault_of, each, optional}
use Rattle.bq_resolve_scope.specs.Expressions.{refer, bound_at, framed, NamedSpace, MemberCall, member_call, namespace_at, use_at, target_by, target_to, pair, operation, choice, argument_by, arguments, suffix_by, suffixes, operand, call_member, primary_by, primary, clause_by, clauses, in_block, comprehension, expr_by, expr_to}
use Rattle.bq_resolve_laws.specs.FrameSizes.{most, framed_slots, ClauseSlots, both_slots, outer_slots, inner_slots, comprehension_slots, expr_slots, argument_slots, clause_slots, suffix_slots, target_slots, choice_slots, operation_slots, pair_slots}
use Rattle.bq_resolve_laws.proofs.Steps as S
use Rattle.bq_resolve_laws.proofs.Needs.{Within, within_more, split, pure_is, Made, Needs, moved, weaker, needs_pure, needs_stop, needs_given, needs_bind, needs_map, needs_two, needs_three, needs_each, needs_all, part, needs_optional, needs_inside}
use Rattle.bq_resolve_laws.proofs.Uses.{name_slots, use_needs, name_needs}

-- of all of these
abbrev exprs_slots : List Expr → ℕ
exprs_slots xs = most (map expr_slots xs)

framed_fits : (n m : ℕ) → m ≤ n → framed_slots n m ≡ 0
framed_fits n m h = grind arith

-- of a clause
abbrev each_clause : Clause → ℕ
each_clause c = both_slots (clause_slots c)

-- of what is made of a frame, where that is the one around
abbrev shared_slots : (ComprehensionFrame → Expr) → ℕ
shared_slots w = expr_slots (w frame.Shared)

-- where a block was opened: what is made needs no more than what the frame then has
record Opened (s t : Passed) (w : ComprehensionFrame → Expr) : Type 0 where
  kept : s.slots ≤ t.slots
  same : t.functions ≡ s.functions
  fits : shared_slots w ≤ t.slots

-- the same outside all blocks: in a frame of its own it needs nothing of the one around
record Alone (s t : Passed) (w : ComprehensionFrame → Expr) : Type 0 where
  same : t.functions ≡ s.functions
  fits : expr_slots (w (frame.Own t.slots)) ≤ 0

-- a comprehension outside all blocks has a frame of its own, with all slots that it needs
framed_by : (v : Visit (ComprehensionFrame → Expr)) → ((s t : Passed) (w : ComprehensionFrame → Expr) → v s ≡ Ok (w, t) → Alone s t w) → (s t : Passed) (x : Expr) (r : Result ((ComprehensionFrame → Expr) × Passed) (Fault NameFault)) → v (record s { slots = 0 }) ≡ r
    → framed s.slots r ≡ Ok (x, t) → Made expr_slots [] s t x
framed_by v alone s t x (Err why) d h = absurd (let no : ⊥ = cc in no)
framed_by v alone s t x (Ok p) d h =
    let o : Alone (record s { slots = 0 }) p.1 p.0 = alone (record s { slots = 0 }) p.1 p.0 d in
    moved [] 0 expr_slots (p.0 (frame.Own p.1.slots)) x s (record p.1 { slots = s.slots }) t refl o.same o.fits (omega arith) h

-- what clauses need: the first iterable, and all else
parts : (cs : List Clause) → most (map both_slots (map clause_slots cs)) ≡ most (map each_clause cs)
parts [] = refl
parts (c ∷ cs) = ap (λ n. max (each_clause c) n) (parts cs)

split_clauses : (xs : List ClauseSlots) → most (map both_slots xs) ≡ max (outer_slots xs) (inner_slots xs)
split_clauses [] = omega arith
split_clauses (x ∷ xs) = omega arith

all_clauses : (cs : List Clause) → max (outer_slots (map clause_slots cs)) (inner_slots (map clause_slots cs)) ≡ most (map each_clause cs)
all_clauses cs = sym (split_clauses (map clause_slots cs)) ∙ parts cs

-- what a walk that goes on with a list begins with
begun : {A B : Type 0} (one : B → Visit A) (y : A) (done : List A) (xs : List B) (s t : Passed) (ys : List A) → each one (y ∷ done) xs s ≡ Ok (ys, t) → (zs : List A) × (ys ≡ y ∷ zs)
unfolding each
begun one y done [] s t ys h = let p : ((y ∷ done) ≡ ys) × (s ≡ t) = pure_is (y ∷ done) ys s t h in (done, sym p.0)
begun one y done (x ∷ xs) s t ys h =
    let a = split (one x) (λ z. each one ((y ∷ done) ++ z ∷ []) xs) s t ys h in
    begun one y (done ++ a.0.0 ∷ []) xs a.0.1 t ys a.2

module _ (file : FileParts) (visit : List BlockParts → Expr → Visit Expr) (visits : (blocks : List BlockParts) (x : Expr) → Needs blocks 0 expr_slots (visit blocks x)) where
  -- ---- targets

  target_by_needs : (inner : TargetExpr → Visit TargetExpr) (blocks : List BlockParts) → ((u : TargetExpr) → Needs blocks 0 target_slots (inner u)) → (o : TargetLayer)
      → Needs blocks 0 target_slots (target_by file visit inner blocks o)
  target_by_needs inner blocks inners (TargetExpr-F.TargetExpr::Name n) =
      needs_map blocks 0 name_slots target_slots (bound_at file blocks n) (λ m. t.Name m) (name_needs file blocks n) (λ m. omega (arith, S.slots-target_Name m))
  target_by_needs inner blocks inners (TargetExpr-F.TargetExpr::Index x i) =
      needs_two blocks expr_slots expr_slots target_slots (visit blocks x) (visit blocks i) (λ y j. t.Index y j) (visits blocks x) (visits blocks i) (λ y j. omega (arith, S.slots-target_Index y j))
  target_by_needs inner blocks inners (TargetExpr-F.TargetExpr::Tuple us) =
      needs_map blocks 0 (λ vs. most (map target_slots vs)) target_slots (each inner [] us) (λ vs. t.Tuple vs) (needs_all blocks target_slots inner inners us) (λ vs. omega (arith, S.slots-target_Tuple vs))
  target_by_needs inner blocks inners (TargetExpr-F.TargetExpr::List us) =
      needs_map blocks 0 (λ vs. most (map target_slots vs)) target_slots (each inner [] us) (λ vs. t.List vs) (needs_all blocks target_slots inner inners us) (λ vs. omega (arith, S.slots-target_List vs))

  pub target_needs : (layers : ℕ) (blocks : List BlockParts) (u : TargetExpr) → Needs blocks 0 target_slots (target_to file visit layers blocks u)
  unfolding target_to
  target_needs zero blocks u = needs_stop blocks 0 target_slots (fault_at f.Nesting 0)
  target_needs (suc layers) blocks u = target_by_needs (target_to file visit layers blocks) blocks (target_needs layers blocks) (out-TargetExpr u)

  -- ---- what stands in an expression

  pair_needs : (blocks : List BlockParts) (p : Pair) → Needs blocks 0 pair_slots (pair file visit blocks p)
  unfolding pair
  pair_needs blocks p =
      needs_two blocks expr_slots expr_slots pair_slots (visit blocks (out-Pair p).key) (visit blocks (out-Pair p).value) (λ k v. roll-Pair (record { key = k; value = v }))
      (visits blocks (out-Pair p).key) (visits blocks (out-Pair p).value) (λ k v. omega (arith, S.slots-pair k v))

  operation_needs : (blocks : List BlockParts) (o : Operation) → Needs blocks 0 operation_slots (operation file visit blocks o)
  unfolding operation
  operation_needs blocks o =
      needs_map blocks 0 expr_slots operation_slots (visit blocks (out-Operation o).operand) (λ x. roll-Operation (record { operator = (out-Operation o).operator; operand = x }))
      (visits blocks (out-Operation o).operand) (λ x. omega (arith, S.slots-operation (out-Operation o).operator x))

  choice_needs : (blocks : List BlockParts) (o : Choice) → Needs blocks 0 choice_slots (choice file visit blocks o)
  unfolding choice
  choice_needs blocks o =
      needs_two blocks expr_slots expr_slots choice_slots (visit blocks (out-Choice o).value) (visit blocks (out-Choice o).condition) (λ v x. roll-Choice (record { value = v; condition = x }))
      (visits blocks (out-Choice o).value) (visits blocks (out-Choice o).condition) (λ v x. omega (arith, S.slots-choice v x))

  argument_by_needs : (blocks : List BlockParts) (o : Argument-F Argument Clause Expr Suffix TargetExpr Choice Operation Pair) → Needs blocks 0 argument_slots (argument_by file visit blocks o)
  argument_by_needs blocks (Argument-F.Positional x) = needs_map blocks 0 expr_slots argument_slots (visit blocks x) (λ y. a.Positional y) (visits blocks x) (λ y. omega (arith, S.slots-Positional y))
  argument_by_needs blocks (Argument-F.Named n x) = needs_map blocks 0 expr_slots argument_slots (visit blocks x) (λ y. a.Named n y) (visits blocks x) (λ y. omega (arith, S.slots-Named n y))
  argument_by_needs blocks (Argument-F.Star x) = needs_map blocks 0 expr_slots argument_slots (visit blocks x) (λ y. a.Star y) (visits blocks x) (λ y. omega (arith, S.slots-Star y))
  argument_by_needs blocks (Argument-F.StarStar x) = needs_map blocks 0 expr_slots argument_slots (visit blocks x) (λ y. a.StarStar y) (visits blocks x) (λ y. omega (arith, S.slots-StarStar y))

  arguments_need : (blocks : List BlockParts) (xs : List Argument) → Needs blocks 0 (λ ys. most (map argument_slots ys)) (arguments file visit blocks xs)
  unfolding arguments
  arguments_need blocks xs = needs_all blocks argument_slots (λ x. argument_by file visit blocks (out-Argument x)) (λ x. argument_by_needs blocks (out-Argument x)) xs

  optional_needs : (blocks : List BlockParts) (o : Option Expr) → Needs blocks 0 (part expr_slots) (optional (visit blocks) o)
  optional_needs blocks o = needs_optional blocks expr_slots (visit blocks) (visits blocks) o

  slice_slots : (x y z : Option Expr) → suffix_slots (s.Slice x y z) ≤ max (part expr_slots x) (max (part expr_slots y) (part expr_slots z))
  slice_slots None None None = omega (arith, S.slots-Slice None None None)
  slice_slots None None (Some z) = omega (arith, S.slots-Slice None None (Some z))
  slice_slots None (Some y) None = omega (arith, S.slots-Slice None (Some y) None)
  slice_slots None (Some y) (Some z) = omega (arith, S.slots-Slice None (Some y) (Some z))
  slice_slots (Some x) None None = omega (arith, S.slots-Slice (Some x) None None)
  slice_slots (Some x) None (Some z) = omega (arith, S.slots-Slice (Some x) None (Some z))
  slice_slots (Some x) (Some y) None = omega (arith, S.slots-Slice (Some x) (Some y) None)
  slice_slots (Some x) (Some y) (Some z) = omega (arith, S.slots-Slice (Some x) (Some y) (Some z))

  suffix_by_needs : (blocks : List BlockParts) (o : SuffixLayer) → Needs blocks 0 suffix_slots (suffix_by file visit blocks o)
  suffix_by_needs blocks (Suffix-F.Call xs) =
      needs_map blocks 0 (λ ys. most (map argument_slots ys)) suffix_slots (arguments file visit blocks xs) (λ ys. s.Call ys) (arguments_need blocks xs) (λ ys. omega (arith, S.slots-Call ys))
  suffix_by_needs blocks (Suffix-F.Method m xs) =
      needs_map blocks 0 (λ ys. most (map argument_slots ys)) suffix_slots (arguments file visit blocks xs) (λ ys. s.Method m ys) (arguments_need blocks xs) (λ ys. omega (arith, S.slots-Method m ys))
  suffix_by_needs blocks (Suffix-F.Attribute m) = needs_pure blocks 0 suffix_slots (s.Attribute m) (omega (arith, S.slots-Attribute m))
  suffix_by_needs blocks (Suffix-F.Suffix::Index i) = needs_map blocks 0 expr_slots suffix_slots (visit blocks i) (λ j. s.Index j) (visits blocks i) (λ j. omega (arith, S.slots-Index j))
  suffix_by_needs blocks (Suffix-F.Slice i j k) =
      needs_three blocks (part expr_slots) (part expr_slots) (part expr_slots) suffix_slots (optional (visit blocks) i) (optional (visit blocks) j) (optional (visit blocks) k)
      (λ x y z. s.Slice x y z) (optional_needs blocks i) (optional_needs blocks j) (optional_needs blocks k) slice_slots

  suffixes_need : (blocks : List BlockParts) (m : ℕ) (done : List Suffix) (ss : List Suffix) → most (map suffix_slots done) ≤ m
      → Needs blocks m (λ ys. most (map suffix_slots ys)) (suffixes file visit blocks done ss)
  unfolding suffixes
  suffixes_need blocks m done ss h = needs_each blocks suffix_slots (λ x. suffix_by file visit blocks (out-Suffix x)) (λ x. suffix_by_needs blocks (out-Suffix x)) m done ss h

  -- ---- operands

  operand_needs : (blocks : List BlockParts) (x : Expr) (ss : List Suffix) → Needs blocks 0 expr_slots (operand file visit blocks x ss)
  unfolding operand
  operand_needs blocks x ss =
      needs_two blocks expr_slots (λ ys. most (map suffix_slots ys)) expr_slots (visit blocks x) (suffixes file visit blocks [] ss) (λ y ts. tree.Primary y ts)
      (visits blocks x) (suffixes_need blocks 0 [] ss (omega arith)) (λ y ts. omega (arith, S.slots-Primary y ts))

  -- the call of a member, which takes the place of the first suffix
  abbrev called : Identifier → Predeclared → List Argument → List Suffix
  called m p ys = s.Method (refer m (b.Member p)) ys ∷ []

  called_slots : (m : Identifier) (p : Predeclared) (ys : List Argument) → most (map suffix_slots (called m p ys)) ≤ max (max 0 0) (most (map argument_slots ys))
  called_slots m p ys = omega (arith, S.slots-Method (refer m (b.Member p)) ys)

  none_of : Predeclared → ℕ
  none_of p = 0

  member_needs : (blocks : List BlockParts) (space : NamedSpace) (m : Identifier) (xs : List Argument) (ss : List Suffix) → Needs blocks 0 expr_slots (call_member file visit blocks space m xs ss)
  unfolding call_member none_of
  member_needs blocks space m xs ss =
      let word : Predeclared → Identifier = λ p. refer space.1 (b.Member p) in
      needs_bind blocks 0 none_of expr_slots (given (fault_of f.UnknownName m) (member_named space.0 file.universe.rules m.name))
      (λ p. arguments file visit blocks xs >>= λ ys. suffixes file visit blocks (called m p ys) ss >>= λ ts. pure (tree.Primary (tree.Name (word p)) ts))
      (needs_given blocks 0 none_of (fault_of f.UnknownName m) (member_named space.0 file.universe.rules m.name) (λ k x w h. omega arith))
      (λ p. needs_bind blocks (max 0 0) (λ ys. most (map argument_slots ys)) expr_slots (arguments file visit blocks xs)
      (λ ys. suffixes file visit blocks (called m p ys) ss >>= λ ts. pure (tree.Primary (tree.Name (word p)) ts))
      (weaker blocks (max 0 0) (λ ys. most (map argument_slots ys)) (arguments file visit blocks xs) (arguments_need blocks xs))
      (λ ys. needs_map blocks (max (max 0 0) (most (map argument_slots ys))) (λ ts. most (map suffix_slots ts)) expr_slots (suffixes file visit blocks (called m p ys) ss)
      (λ ts. tree.Primary (tree.Name (word p)) ts) (suffixes_need blocks (max (max 0 0) (most (map argument_slots ys))) (called m p ys) ss (called_slots m p ys))
      (λ ts. omega (arith, S.slots-Primary (tree.Name (word p)) ts, S.slots-Name (word p)))))

  primary_by_needs : (blocks : List BlockParts) (x : Expr) (ss : List Suffix) (o : Option MemberCall) → Needs blocks 0 expr_slots (primary_by file visit blocks x ss o)
  primary_by_needs blocks x ss None = operand_needs blocks x ss
  primary_by_needs blocks x ss (Some (space, m, xs, rest)) = member_needs blocks space m xs rest

  primary_needs : (blocks : List BlockParts) (x : Expr) (ss : List Suffix) → Needs blocks 0 expr_slots (primary file visit blocks x ss)
  unfolding primary
  primary_needs blocks x ss = primary_by_needs blocks x ss (member_call (namespace_at file blocks (out-Expr x)) ss)

  -- ---- comprehensions

  for_slots : (v : TargetExpr) (y : Expr) → each_clause (cl.For v y) ≡ max (expr_slots y) (target_slots v)
  for_slots v y = ap both_slots (S.slots-For v y)

  if_slots : (y : Expr) → each_clause (cl.If y) ≡ max 0 (expr_slots y)
  if_slots y = ap both_slots (S.slots-If y)

  clause_by_needs : (round blocks : List BlockParts) → ((x : Expr) → Needs blocks 0 expr_slots (visit round x)) → (o : ClauseLayer) → Needs blocks 0 each_clause (clause_by file visit round blocks o)
  clause_by_needs round blocks rounds (Clause-F.For u x) =
      needs_two blocks target_slots expr_slots each_clause (target_to file visit max_layers blocks u) (visit round x) (λ v y. cl.For v y)
      (target_needs max_layers blocks u) (rounds x) (λ v y. omega (arith, for_slots v y))
  clause_by_needs round blocks rounds (Clause-F.If x) = needs_map blocks 0 expr_slots each_clause (visit blocks x) (λ y. cl.If y) (visits blocks x) (λ y. omega (arith, if_slots y))

  first_clause : (y : Clause) → most (map each_clause (y ∷ [])) ≤ max 0 (each_clause y)
  first_clause y = omega arith

  clauses_need : (round blocks : List BlockParts) → ((x : Expr) → Needs blocks 0 expr_slots (visit round x)) → (xs : List Clause) → Needs blocks 0 (λ ys. most (map each_clause ys)) (clauses file visit round blocks xs)
  unfolding clauses
  clauses_need round blocks rounds [] = needs_pure blocks 0 (λ ys. most (map each_clause ys)) [] (omega arith)
  clauses_need round blocks rounds (x ∷ xs) =
      needs_bind blocks 0 each_clause (λ ys. most (map each_clause ys)) (clause_by file visit round blocks (out-Clause x))
      (λ y. each (λ z. clause_by file visit blocks blocks (out-Clause z)) (y ∷ []) xs) (clause_by_needs round blocks rounds (out-Clause x))
      (λ y. needs_each blocks each_clause (λ z. clause_by file visit blocks blocks (out-Clause z)) (λ z. clause_by_needs blocks blocks (visits blocks) (out-Clause z)) (max 0 (each_clause y)) (y ∷ []) xs (first_clause y))

  -- what makes a comprehension of its element, its clauses and its frame
  abbrev Measures : {A : Type 0} → (A → ℕ) → (A → List Clause → ComprehensionFrame → Expr) → Type 0
  Measures {A = A} g make = (x : A) (ys : List Clause) (own : ComprehensionFrame) → expr_slots (make x ys own) ≡ comprehension_slots own (g x) (map clause_slots ys)

  shared_fits : {A : Type 0} (make : A → List Clause → ComprehensionFrame → Expr) (g : A → ℕ) → Measures g make → (x : A) (ys : List Clause) → shared_slots (make x ys) ≤ max (g x) (most (map each_clause ys))
  shared_fits make g measures x ys = omega (arith, measures x ys frame.Shared, all_clauses ys)

  block_needs : {A : Type 0} (element : List BlockParts → Visit A) (make : A → List Clause → ComprehensionFrame → Expr) (g : A → ℕ) → ((bs : List BlockParts) → Needs bs 0 g (element bs))
      → Measures g make → (blocks : List BlockParts) (xs : List Clause) (s t : Passed) (w : ComprehensionFrame → Expr)
      → Within blocks s.slots → in_block file visit element make blocks xs s ≡ Ok (w, t) → Opened s t w
  unfolding in_block
  block_needs element make g elements measures blocks xs s t w within h =
      let names : List Name = comprehension_names xs in
      let block : BlockParts = record { base = s.slots; names = names } in
      let inside : Passed = record s { slots = s.slots + length names } in
      let m : Made shared_slots (block ∷ blocks) inside t w =
      needs_two (block ∷ blocks) g (λ ys. most (map each_clause ys)) shared_slots (element (block ∷ blocks)) (clauses file visit blocks (block ∷ blocks) xs) make (elements (block ∷ blocks))
      (clauses_need blocks (block ∷ blocks) (λ y. needs_inside block blocks expr_slots (visit blocks y) (visits blocks y)) xs) (shared_fits make g measures) inside t w
      (omega arith, within_more blocks s.slots inside.slots (omega arith) within) (omega arith) h in
      let k : s.slots + length names ≤ t.slots = m.kept in
      record { kept = omega arith; same = m.same; fits = m.fits }

  -- outside all blocks the first iterable needs no slot

  clause_outer : (blocks : List BlockParts) (o : ClauseLayer) (s t : Passed) (y : Clause) → clause_by file visit [] blocks o s ≡ Ok (y, t) → (clause_slots y).iterable ≤ 0
  clause_outer blocks (Clause-F.For u x) s t y h =
      let a = split (target_to file visit max_layers blocks u) (λ v. visit [] x >>= λ z. pure (cl.For v z)) s t y h in
      let b = split (visit [] x) (λ z. pure (cl.For a.0.0 z)) a.0.1 t y a.2 in
      let m : Made expr_slots [] a.0.1 b.0.1 b.0.0 = visits [] x a.0.1 b.0.1 b.0.0 tt (omega arith) b.1 in
      let p : (cl.For a.0.0 b.0.0 ≡ y) × (b.0.1 ≡ t) = pure_is (cl.For a.0.0 b.0.0) y b.0.1 t b.2 in
      let e : (clause_slots (cl.For a.0.0 b.0.0)).iterable ≡ expr_slots b.0.0 = ap (λ c. c.iterable) (S.slots-For a.0.0 b.0.0) in
      let n : expr_slots b.0.0 ≤ 0 = m.fits in
      subst (λ z. (clause_slots z).iterable ≤ 0) p.0 (omega arith)
  clause_outer blocks (Clause-F.If x) s t y h =
      let a = split (visit blocks x) (λ z. pure (cl.If z)) s t y h in
      let p : (cl.If a.0.0 ≡ y) × (a.0.1 ≡ t) = pure_is (cl.If a.0.0) y a.0.1 t a.2 in
      let e : (clause_slots (cl.If a.0.0)).iterable ≡ 0 = ap (λ c. c.iterable) (S.slots-If a.0.0) in
      subst (λ z. (clause_slots z).iterable ≤ 0) p.0 (omega arith)

  clauses_outer : (blocks : List BlockParts) (xs : List Clause) (s t : Passed) (ys : List Clause) → clauses file visit [] blocks xs s ≡ Ok (ys, t) → outer_slots (map clause_slots ys) ≤ 0
  unfolding clauses
  clauses_outer blocks [] s t ys h = let p : ([] ≡ ys) × (s ≡ t) = pure_is [] ys s t h in subst (λ zs. outer_slots (map clause_slots zs) ≤ 0) p.0 (omega arith)
  clauses_outer blocks (x ∷ xs) s t ys h =
      let a = split (clause_by file visit [] blocks (out-Clause x)) (λ y. each (λ z. clause_by file visit blocks blocks (out-Clause z)) (y ∷ []) xs) s t ys h in
      let b : (zs : List Clause) × (ys ≡ a.0.0 ∷ zs) = begun (λ z. clause_by file visit blocks blocks (out-Clause z)) a.0.0 [] xs a.0.1 t ys a.2 in
      subst (λ zs. outer_slots (map clause_slots zs) ≤ 0) (sym b.1) (clause_outer blocks (out-Clause x) s a.0.1 a.0.0 a.1)

  own_fits : {A : Type 0} (make : A → List Clause → ComprehensionFrame → Expr) (g : A → ℕ) → Measures g make → (x : A) (ys : List Clause) (slots : ℕ) → shared_slots (make x ys) ≤ slots → outer_slots (map clause_slots ys) ≤ 0
      → expr_slots (make x ys (frame.Own slots)) ≤ 0
  own_fits make g measures x ys slots fits outer =
      let zs : List ClauseSlots = map clause_slots ys in
      let e : shared_slots (make x ys) ≡ max (outer_slots zs) (max (g x) (inner_slots zs)) = measures x ys frame.Shared in
      let n : framed_slots slots (max (g x) (inner_slots zs)) ≡ 0 = framed_fits slots (max (g x) (inner_slots zs)) (omega arith) in
      let d : expr_slots (make x ys (frame.Own slots)) ≡ max (outer_slots zs) (framed_slots slots (max (g x) (inner_slots zs))) = measures x ys (frame.Own slots) in
      omega arith

  alone_needs : {A : Type 0} (element : List BlockParts → Visit A) (make : A → List Clause → ComprehensionFrame → Expr) (g : A → ℕ) → ((bs : List BlockParts) → Needs bs 0 g (element bs))
      → Measures g make → (xs : List Clause) (s t : Passed) (w : ComprehensionFrame → Expr) → in_block file visit element make [] xs s ≡ Ok (w, t) → Alone s t w
  unfolding in_block
  alone_needs element make g elements measures xs s t w h =
      let o : Opened s t w = block_needs element make g elements measures [] xs s t w tt h in
      let blocks : List BlockParts = record { base = s.slots; names = comprehension_names xs } ∷ [] in
      let a = split (element blocks) (λ x. clauses file visit [] blocks xs >>= λ ys. pure (make x ys)) (record s { slots = s.slots + length (comprehension_names xs) }) t w h in
      let b = split (clauses file visit [] blocks xs) (λ ys. pure (make a.0.0 ys)) a.0.1 t w a.2 in
      let p : (make a.0.0 b.0.0 ≡ w) × (b.0.1 ≡ t) = pure_is (make a.0.0 b.0.0) w b.0.1 t b.2 in
      let outer : outer_slots (map clause_slots b.0.0) ≤ 0 = clauses_outer blocks xs a.0.1 b.0.1 b.0.0 b.1 in
      let fits : shared_slots (make a.0.0 b.0.0) ≤ t.slots = subst (λ z. shared_slots z ≤ t.slots) (sym p.0) o.fits in
      record { same = o.same; fits = subst (λ z. expr_slots (z (frame.Own t.slots)) ≤ 0) p.0 (own_fits make g measures a.0.0 b.0.0 t.slots fits outer) }

  comprehension_needs : {A : Type 0} (element : List BlockParts → Visit A) (make : A → List Clause → ComprehensionFrame → Expr) (g : A → ℕ) → ((bs : List BlockParts) → Needs bs 0 g (element bs))
      → Measures g make → (blocks : List BlockParts) (xs : List Clause) → Needs blocks 0 expr_slots (comprehension file visit element make blocks xs)
  unfolding comprehension
  comprehension_needs element make g elements measures [] xs = λ s t x w h e.
      framed_by (in_block file visit element make [] xs) (λ u z y d. alone_needs element make g elements measures xs u z y d) s t x (in_block file visit element make [] xs (record s { slots = 0 })) refl e
  comprehension_needs element make g elements measures (b ∷ bs) xs =
      needs_map (b ∷ bs) 0 shared_slots expr_slots (in_block file visit element make (b ∷ bs) xs) (λ w. w frame.Shared)
      (λ s t x w h e. let o : Opened s t x = block_needs element make g elements measures (b ∷ bs) xs s t x w e in record { kept = o.kept; same = o.same; fits = o.fits }) (λ w. omega arith)

  -- ---- expressions

  all_need : (blocks : List BlockParts) (xs : List Expr) → Needs blocks 0 exprs_slots (each (visit blocks) [] xs)
  all_need blocks xs = needs_all blocks expr_slots (visit blocks) (visits blocks) xs

  expr_by_needs : (blocks : List BlockParts) (o : ExprLayer) → Needs blocks 0 expr_slots (expr_by file visit blocks o)
  expr_by_needs blocks (Expr-F.Expr::Name n) = needs_map blocks 0 name_slots expr_slots (use_at file blocks n) (λ m. tree.Name m) (use_needs file blocks n) (λ m. omega (arith, S.slots-Name m))
  expr_by_needs blocks (Expr-F.Int i) = needs_pure blocks 0 expr_slots (tree.Int i) (omega (arith, S.slots-Int i))
  expr_by_needs blocks (Expr-F.String b) = needs_pure blocks 0 expr_slots (tree.String b) (omega (arith, S.slots-String b))
  expr_by_needs blocks (Expr-F.Expr::List xs) = needs_map blocks 0 exprs_slots expr_slots (each (visit blocks) [] xs) (λ ys. tree.List ys) (all_need blocks xs) (λ ys. omega (arith, S.slots-List ys))
  expr_by_needs blocks (Expr-F.Expr::Tuple xs) = needs_map blocks 0 exprs_slots expr_slots (each (visit blocks) [] xs) (λ ys. tree.Tuple ys) (all_need blocks xs) (λ ys. omega (arith, S.slots-Tuple ys))
  expr_by_needs blocks (Expr-F.Dict ps) =
      needs_map blocks 0 (λ qs. most (map pair_slots qs)) expr_slots (each (pair file visit blocks) [] ps) (λ qs. tree.Dict qs) (needs_all blocks pair_slots (pair file visit blocks) (pair_needs blocks) ps) (λ qs. omega (arith, S.slots-Dict qs))
  expr_by_needs blocks (Expr-F.ListComprehension x xs own) =
      comprehension_needs (λ bs. visit bs x) (λ y ys own. tree.ListComprehension y ys own) expr_slots (λ bs. visits bs x) (λ y ys own. S.slots-ListComprehension y ys own) blocks xs
  expr_by_needs blocks (Expr-F.DictComprehension p xs own) =
      comprehension_needs (λ bs. pair file visit bs p) (λ y ys own. tree.DictComprehension y ys own) pair_slots (λ bs. pair_needs bs p) (λ y ys own. S.slots-DictComprehension y ys own) blocks xs
  expr_by_needs blocks (Expr-F.Primary x ss) = primary_needs blocks x ss
  expr_by_needs blocks (Expr-F.Unary os x) = needs_map blocks 0 expr_slots expr_slots (visit blocks x) (λ y. tree.Unary os y) (visits blocks x) (λ y. omega (arith, S.slots-Unary os y))
  expr_by_needs blocks (Expr-F.Binary x os) =
      needs_two blocks expr_slots (λ ps. most (map operation_slots ps)) expr_slots (visit blocks x) (each (operation file visit blocks) [] os) (λ y ps. tree.Binary y ps)
      (visits blocks x) (needs_all blocks operation_slots (operation file visit blocks) (operation_needs blocks) os) (λ y ps. omega (arith, S.slots-Binary y ps))
  expr_by_needs blocks (Expr-F.Compare x o z) =
      needs_two blocks expr_slots expr_slots expr_slots (visit blocks x) (visit blocks z) (λ y w. tree.Compare y o w) (visits blocks x) (visits blocks z) (λ y w. omega (arith, S.slots-Compare y o w))
  expr_by_needs blocks (Expr-F.Conditional xs z) =
      needs_two blocks (λ ys. most (map choice_slots ys)) expr_slots expr_slots (each (choice file visit blocks) [] xs) (visit blocks z) (λ ys w. tree.Conditional ys w)
      (needs_all blocks choice_slots (choice file visit blocks) (choice_needs blocks) xs) (visits blocks z) (λ ys w. omega (arith, S.slots-Conditional ys w))
  expr_by_needs blocks Expr-F.Lambda = needs_pure blocks 0 expr_slots tree.Lambda (omega (arith, S.slots-Lambda))

pub expr_needs : (depth : ℕ) (file : FileParts) (blocks : List BlockParts) (x : Expr) → Needs blocks 0 expr_slots (expr_to depth file blocks x)
unfolding expr_to
expr_needs zero file blocks x = needs_stop blocks 0 expr_slots (fault_at f.Nesting 0)
expr_needs (suc depth) file blocks x = expr_by_needs file (expr_to depth file) (expr_needs depth file) blocks (out-Expr x)
