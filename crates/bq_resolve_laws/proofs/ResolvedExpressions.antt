-- What expressions resolve to is what the relation says.
use Rattle.std.proofs.Common.{◌≡◌, ℕ, zero, suc, ◌+◌, Bool, true, false, ◌&&◌, ◌||◌, List, [], ◌∷◌, ◌++◌, length, Option, Some, None, Result, Ok, Err, refl, sym, ap, ◌∙◌, subst}
use Rattle.std.specs.Prelude.{if◌then◌else◌}
use Rattle.bq_base.specs.declared.fault.NameFault.{NameFault}
use Rattle.bq_base.specs.declared.fault.Fault.{Fault}
use Rattle.bq_base.specs.declared.fault.NameFault.TheVariants as f
use Rattle.bq_parse_grammar.specs.declared.tree.Argument.TheOpen.{Expr-F, Suffix-F, Argument-F, Clause-F, TargetExpr-F}
use Rattle.bq_parse_grammar.specs.declared.tree.Argument.{Argument, out-Argument}
use Rattle.bq_parse_grammar.specs.declared.tree.Choice.{Choice, out-Choice, roll-Choice}
use Rattle.bq_parse_grammar.specs.declared.tree.Clause.{Clause, out-Clause}
use Rattle.bq_parse_grammar.specs.declared.tree.Expr.{Expr, out-Expr}
use Rattle.bq_parse_grammar.specs.declared.tree.Identifier.{Identifier}
use Rattle.bq_parse_grammar.specs.declared.tree.Operation.{Operation, out-Operation, roll-Operation}
use Rattle.bq_parse_grammar.specs.declared.tree.Pair.{Pair, out-Pair, roll-Pair}
use Rattle.bq_parse_grammar.specs.declared.tree.Suffix.{Suffix, out-Suffix}
use Rattle.bq_parse_grammar.specs.declared.tree.TargetExpr.{TargetExpr, out-TargetExpr}
use Rattle.bq_parse_grammar.specs.Targets.{ExprLayer, SuffixLayer}
use Rattle.bq_parse_grammar.specs.declared.tree.Referent.{Referent}
use Rattle.bq_parse_grammar.specs.declared.tree.Expr.TheVariants as tree
use Rattle.bq_parse_grammar.specs.declared.tree.Argument.TheVariants as a
use Rattle.bq_parse_grammar.specs.declared.tree.Clause.TheVariants as cl
use Rattle.bq_parse_grammar.specs.declared.tree.Suffix.TheVariants as s
use Rattle.bq_parse_grammar.specs.declared.tree.TargetExpr.TheVariants as t
use Rattle.bq_resolve_scope.specs.Names.{Name, TargetLayer, ClauseLayer, max_layers, comprehension_names, has, with_name}
use Rattle.bq_resolve_scope.specs.Scope.{BlockParts, FileParts, use_of}
use Rattle.bq_predeclared.specs.declared.predeclared.Predeclared.{Predeclared}
use Rattle.bq_parse_grammar.specs.declared.tree.ComprehensionFrame.{ComprehensionFrame}
use Rattle.bq_parse_grammar.specs.declared.tree.ComprehensionFrame.TheVariants as frame
use Rattle.bq_parse_grammar.specs.declared.tree.Referent.TheVariants as b
use Rattle.bq_resolve_scope.specs.Universe.{member_named}
use Rattle.bq_resolve_scope.specs.Visit.{Passed, Visit, following, ◌>>=◌, pure, given, fault_of, each, optional}
use Rattle.bq_parse_grammar.specs.declared.tree.FileKind.{FileKind}
use Rattle.bq_resolve_scope.specs.Expressions.{refer, place_of, is_bzl, bind_global, bind_in, bound_at, framed, NamedSpace, MemberCall, member_call, namespace_at, use_at, target_by, target_to, pair, operation, choice, argument_by, arguments, suffix_by, suffixes, operand, call_member, primary_by, primary, clause_by, clauses, in_block, comprehension, expr_by, expr_to}
use Rattle.bq_resolve_laws.specs.Resolution.{InOrder, Maybe, target_is_by, TargetTo, PairIs, OperationIs, ChoiceIs, argument_is_by, ArgumentsAre, suffix_is_by, SuffixesAre, primary_is_by, clause_is_by, ClausesAre, frame_is, comprehension_is, expr_is_by, ExprTo}
use Rattle.bq_resolve_laws.proofs.Makes.{Making, Makes, After, from, makes_bind, makes_weaker, makes_map, makes_two, makes_three, makes_given, makes_each, makes_all, makes_optional}

-- ---- names

global_by : (t : Bool) (why : Fault NameFault) (names : List Name) (u : Passed) → Making {A = Unit {0}} (λ _. Unit {0}) u (if t then Err why else Ok (tt, record u { bound = names }))
global_by true why names u = tt
global_by false why names u = (tt, refl, refl)

bind_makes : (kind : FileKind) (blocks : List BlockParts) (n : Identifier) → Makes {A = Unit {0}} (λ _. Unit {0}) (bind_in kind blocks n)
unfolding bind_global
bind_makes kind [] n = λ u. global_by (is_bzl kind && (has u.bound n.name || has u.loaded n.name)) (fault_of f.Rebound n) (with_name u.bound n.name) u
bind_makes kind (b ∷ bs) n = λ u. (tt, refl, refl)

referred_makes : (why : Fault NameFault) (n : Identifier) (o : Option Referent) → Makes {A = Identifier} (λ m. (x : Referent) × (o ≡ Some x) × (m ≡ refer n x)) (given why o >>= λ x. pure (refer n x))
referred_makes why n o = makes_map {A = Referent} {B = Identifier} (λ x. o ≡ Some x) (given why o) (λ x. refer n x) (makes_given why o)

pub name_makes : (file : FileParts) (blocks : List BlockParts) (n : Identifier)
    → Makes {A = Identifier} (λ m. (x : Referent) × (place_of (use_of file blocks n.name) ≡ Some x) × (m ≡ refer n x)) (bound_at file blocks n)
unfolding bound_at
name_makes file blocks n =
    makes_bind {A = Unit {0}} {B = Identifier} (λ _. Unit {0}) (λ m. (x : Referent) × (place_of (use_of file blocks n.name) ≡ Some x) × (m ≡ refer n x)) (bind_in file.universe.kind blocks n)
    (λ _. given (fault_of f.UnknownName n) (place_of (use_of file blocks n.name)) >>= λ x. pure (refer n x))
    (bind_makes file.universe.kind blocks n) (λ _ _. referred_makes (fault_of f.UnknownName n) n (place_of (use_of file blocks n.name)))

use_makes : (file : FileParts) (blocks : List BlockParts) (n : Identifier) → Makes {A = Identifier} (λ m. (x : Referent) × (use_of file blocks n.name ≡ Some x) × (m ≡ refer n x)) (use_at file blocks n)
unfolding use_at
use_makes file blocks n = referred_makes (fault_of f.UnknownName n) n (use_of file blocks n.name)

-- a node that holds only a name
named_makes : {B : Type 0} (o : Option Referent) (n : Identifier) (v : Visit Identifier) (make : Identifier → B) → Makes {A = Identifier} (λ m. (x : Referent) × (o ≡ Some x) × (m ≡ refer n x)) v
    → Makes {A = B} (λ z. (x : Referent) × (o ≡ Some x) × (z ≡ make (refer n x))) (v >>= λ m. pure (make m))
named_makes {B = B} o n v make h =
    makes_weaker {A = B} (λ z. (m : Identifier) × ((x : Referent) × (o ≡ Some x) × (m ≡ refer n x)) × (z ≡ make m)) (λ z. (x : Referent) × (o ≡ Some x) × (z ≡ make (refer n x)))
    (v >>= λ m. pure (make m)) (λ z g. (g.1.0, g.1.1, g.2 ∙ ap make g.1.2)) (makes_map {A = Identifier} {B = B} (λ m. (x : Referent) × (o ≡ Some x) × (m ≡ refer n x)) v make h)

module _ (file : FileParts) (visit : List BlockParts → Expr → Visit Expr) (Is : List BlockParts → Expr → Expr → Type 0) (visits : (blocks : List BlockParts) (x : Expr) → Makes (Is blocks x) (visit blocks x)) where
  -- ---- targets

  target_by_makes : (go : TargetExpr → Visit TargetExpr) (R : TargetExpr → TargetExpr → Type 0) (blocks : List BlockParts) → ((u : TargetExpr) → Makes (R u) (go u)) → (o : TargetLayer)
      → Makes (target_is_by file Is R blocks o) (target_by file visit go blocks o)
  target_by_makes go R blocks goes (TargetExpr-F.TargetExpr::Name n) = named_makes (place_of (use_of file blocks n.name)) n (bound_at file blocks n) (λ m. t.Name m) (name_makes file blocks n)
  target_by_makes go R blocks goes (TargetExpr-F.TargetExpr::Index x i) = makes_two (Is blocks x) (Is blocks i) (visit blocks x) (visit blocks i) (λ y j. t.Index y j) (visits blocks x) (visits blocks i)
  target_by_makes go R blocks goes (TargetExpr-F.TargetExpr::Tuple us) = makes_map (λ vs. InOrder R us vs) (each go [] us) (λ vs. t.Tuple vs) (makes_all R go goes us)
  target_by_makes go R blocks goes (TargetExpr-F.TargetExpr::List us) = makes_map (λ vs. InOrder R us vs) (each go [] us) (λ vs. t.List vs) (makes_all R go goes us)

  pub target_makes : (layers : ℕ) (blocks : List BlockParts) (u : TargetExpr) → Makes (TargetTo file Is layers blocks u) (target_to file visit layers blocks u)
  unfolding TargetTo target_to
  target_makes zero blocks u = λ z. tt
  target_makes (suc layers) blocks u = target_by_makes (target_to file visit layers blocks) (TargetTo file Is layers blocks) blocks (target_makes layers blocks) (out-TargetExpr u)

  -- ---- what stands in an expression

  pair_makes : (blocks : List BlockParts) (p : Pair) → Makes (PairIs file Is blocks p) (pair file visit blocks p)
  unfolding pair
  pair_makes blocks p =
      makes_two (Is blocks (out-Pair p).key) (Is blocks (out-Pair p).value) (visit blocks (out-Pair p).key) (visit blocks (out-Pair p).value) (λ k v. roll-Pair (record { key = k; value = v }))
      (visits blocks (out-Pair p).key) (visits blocks (out-Pair p).value)

  operation_makes : (blocks : List BlockParts) (o : Operation) → Makes (OperationIs file Is blocks o) (operation file visit blocks o)
  unfolding operation
  operation_makes blocks o =
      makes_map (Is blocks (out-Operation o).operand) (visit blocks (out-Operation o).operand) (λ x. roll-Operation (record { operator = (out-Operation o).operator; operand = x })) (visits blocks (out-Operation o).operand)

  choice_makes : (blocks : List BlockParts) (o : Choice) → Makes (ChoiceIs file Is blocks o) (choice file visit blocks o)
  unfolding choice
  choice_makes blocks o =
      makes_two (Is blocks (out-Choice o).value) (Is blocks (out-Choice o).condition) (visit blocks (out-Choice o).value) (visit blocks (out-Choice o).condition)
      (λ v x. roll-Choice (record { value = v; condition = x })) (visits blocks (out-Choice o).value) (visits blocks (out-Choice o).condition)

  argument_by_makes : (blocks : List BlockParts) (o : Argument-F Argument Clause Expr Suffix TargetExpr Choice Operation Pair) → Makes (argument_is_by file Is blocks o) (argument_by file visit blocks o)
  argument_by_makes blocks (Argument-F.Positional x) = makes_map (Is blocks x) (visit blocks x) (λ y. a.Positional y) (visits blocks x)
  argument_by_makes blocks (Argument-F.Named n x) = makes_map (Is blocks x) (visit blocks x) (λ y. a.Named n y) (visits blocks x)
  argument_by_makes blocks (Argument-F.Star x) = makes_map (Is blocks x) (visit blocks x) (λ y. a.Star y) (visits blocks x)
  argument_by_makes blocks (Argument-F.StarStar x) = makes_map (Is blocks x) (visit blocks x) (λ y. a.StarStar y) (visits blocks x)

  arguments_make : (blocks : List BlockParts) (xs : List Argument) → Makes (ArgumentsAre file Is blocks xs) (arguments file visit blocks xs)
  unfolding arguments
  arguments_make blocks xs =
      makes_all (λ x y. argument_is_by file Is blocks (out-Argument x) y) (λ x. argument_by file visit blocks (out-Argument x)) (λ x. argument_by_makes blocks (out-Argument x)) xs

  optional_makes : (blocks : List BlockParts) (o : Option Expr) → Makes (λ y. Maybe (Is blocks) o y) (optional (visit blocks) o)
  optional_makes blocks o = makes_optional (Is blocks) (visit blocks) (visits blocks) o

  suffix_by_makes : (blocks : List BlockParts) (o : SuffixLayer) → Makes (suffix_is_by file Is blocks o) (suffix_by file visit blocks o)
  suffix_by_makes blocks (Suffix-F.Call xs) = makes_map (ArgumentsAre file Is blocks xs) (arguments file visit blocks xs) (λ ys. s.Call ys) (arguments_make blocks xs)
  suffix_by_makes blocks (Suffix-F.Method m xs) = makes_map (ArgumentsAre file Is blocks xs) (arguments file visit blocks xs) (λ ys. s.Method m ys) (arguments_make blocks xs)
  suffix_by_makes blocks (Suffix-F.Attribute m) = λ u. (refl, refl, refl)
  suffix_by_makes blocks (Suffix-F.Suffix::Index i) = makes_map (Is blocks i) (visit blocks i) (λ j. s.Index j) (visits blocks i)
  suffix_by_makes blocks (Suffix-F.Slice i j k) =
      makes_three (λ x. Maybe (Is blocks) i x) (λ x. Maybe (Is blocks) j x) (λ x. Maybe (Is blocks) k x) (optional (visit blocks) i) (optional (visit blocks) j) (optional (visit blocks) k)
      (λ x y z. s.Slice x y z) (optional_makes blocks i) (optional_makes blocks j) (optional_makes blocks k)

  suffixes_make : (blocks : List BlockParts) (done : List Suffix) (ss : List Suffix) → Makes (λ zs. (ts : List Suffix) × SuffixesAre file Is blocks ss ts × (zs ≡ done ++ ts)) (suffixes file visit blocks done ss)
  unfolding suffixes
  suffixes_make blocks done ss =
      makes_each (λ x y. suffix_is_by file Is blocks (out-Suffix x) y) (λ x. suffix_by file visit blocks (out-Suffix x)) (λ x. suffix_by_makes blocks (out-Suffix x)) done ss

  -- ---- operands

  operand_makes : (blocks : List BlockParts) (x : Expr) (ss : List Suffix) → Makes (primary_is_by file Is blocks x ss None) (operand file visit blocks x ss)
  unfolding operand
  operand_makes blocks x ss =
      let More : List Suffix → Type 0 = λ zs. (ts : List Suffix) × SuffixesAre file Is blocks ss ts × (zs ≡ [] ++ ts) in
      makes_weaker (λ z. (y : Expr) × (zs : List Suffix) × Is blocks x y × More zs × (z ≡ tree.Primary y zs)) (primary_is_by file Is blocks x ss None)
      (visit blocks x >>= λ y. suffixes file visit blocks [] ss >>= λ ts. pure (tree.Primary y ts))
      (λ z g. (g.0, g.3.0, g.2, g.3.1, g.4 ∙ ap (λ ts. tree.Primary g.0 ts) g.3.2))
      (makes_two (Is blocks x) More (visit blocks x) (suffixes file visit blocks [] ss) (λ y ts. tree.Primary y ts) (visits blocks x) (suffixes_make blocks [] ss))

  member_makes : (blocks : List BlockParts) (x : Expr) (all : List Suffix) (space : NamedSpace) (m : Identifier) (xs : List Argument) (ss : List Suffix)
      → Makes (primary_is_by file Is blocks x all (Some (space, m, xs, ss))) (call_member file visit blocks space m xs ss)
  unfolding call_member
  member_makes blocks x all space m xs ss =
      let P : Expr → Type 0 = primary_is_by file Is blocks x all (Some (space, m, xs, ss)) in
      let called : Predeclared → List Argument → List Suffix = λ p ys. s.Method (refer m (b.Member p)) ys ∷ [] in
      let whole : Predeclared → List Suffix → Expr = λ p ts. tree.Primary (tree.Name (refer space.1 (b.Member p))) ts in
      makes_bind (λ p. member_named space.0 file.universe.rules m.name ≡ Some p) P (given (fault_of f.UnknownName m) (member_named space.0 file.universe.rules m.name))
      (λ p. arguments file visit blocks xs >>= λ ys. suffixes file visit blocks (called p ys) ss >>= λ ts. pure (whole p ts))
      (makes_given (fault_of f.UnknownName m) (member_named space.0 file.universe.rules m.name))
      (λ p g. makes_bind (ArgumentsAre file Is blocks xs) P (arguments file visit blocks xs) (λ ys. suffixes file visit blocks (called p ys) ss >>= λ ts. pure (whole p ts)) (arguments_make blocks xs)
      (λ ys r. makes_bind (λ zs. (ts : List Suffix) × SuffixesAre file Is blocks ss ts × (zs ≡ called p ys ++ ts)) P (suffixes file visit blocks (called p ys) ss) (λ ts. pure (whole p ts))
      (suffixes_make blocks (called p ys) ss) (λ zs h u. ((p, ys, h.0, g, r, h.1, ap (whole p) h.2), refl, refl))))

  primary_by_makes : (blocks : List BlockParts) (x : Expr) (ss : List Suffix) (o : Option MemberCall) → Makes (primary_is_by file Is blocks x ss o) (primary_by file visit blocks x ss o)
  primary_by_makes blocks x ss None = operand_makes blocks x ss
  primary_by_makes blocks x ss (Some (space, m, xs, rest)) = member_makes blocks x ss space m xs rest

  primary_makes : (blocks : List BlockParts) (x : Expr) (ss : List Suffix) → Makes (primary_is_by file Is blocks x ss (member_call (namespace_at file blocks (out-Expr x)) ss)) (primary file visit blocks x ss)
  unfolding primary
  primary_makes blocks x ss = primary_by_makes blocks x ss (member_call (namespace_at file blocks (out-Expr x)) ss)

  -- ---- comprehensions

  clause_by_makes : (round blocks : List BlockParts) (o : ClauseLayer) → Makes (clause_is_by file Is round blocks o) (clause_by file visit round blocks o)
  clause_by_makes round blocks (Clause-F.For u x) =
      makes_two (TargetTo file Is max_layers blocks u) (Is round x) (target_to file visit max_layers blocks u) (visit round x) (λ v y. cl.For v y) (target_makes max_layers blocks u) (visits round x)
  clause_by_makes round blocks (Clause-F.If x) = makes_map (Is blocks x) (visit blocks x) (λ y. cl.If y) (visits blocks x)

  clauses_make : (round blocks : List BlockParts) (xs : List Clause) → Makes (ClausesAre file Is round blocks xs) (clauses file visit round blocks xs)
  unfolding clauses
  clauses_make round blocks [] = λ u. (tt, refl, refl)
  clauses_make round blocks (x ∷ xs) =
      makes_bind (clause_is_by file Is round blocks (out-Clause x)) (ClausesAre file Is round blocks (x ∷ xs)) (clause_by file visit round blocks (out-Clause x))
      (λ y. each (λ z. clause_by file visit blocks blocks (out-Clause z)) (y ∷ []) xs) (clause_by_makes round blocks (out-Clause x))
      (λ y r. makes_weaker (After (λ z w. clause_is_by file Is blocks blocks (out-Clause z) w) (y ∷ []) xs) (ClausesAre file Is round blocks (x ∷ xs)) (each (λ z. clause_by file visit blocks blocks (out-Clause z)) (y ∷ []) xs)
      (λ zs g. subst (λ ws. ClausesAre file Is round blocks (x ∷ xs) ws) (sym g.2) (r, g.1))
      (makes_each (λ z w. clause_is_by file Is blocks blocks (out-Clause z) w) (λ z. clause_by file visit blocks blocks (out-Clause z)) (λ z. clause_by_makes blocks blocks (out-Clause z)) (y ∷ []) xs))

  module _ {A : Type 0} (element : List BlockParts → Visit A) (E : List BlockParts → A → Type 0) (make : A → List Clause → ComprehensionFrame → Expr) (elements : (bs : List BlockParts) → Makes {A = A} (E bs) (element bs)) where
    -- its names, in the slots from `base` on
    abbrev block_of : List Clause → ℕ → BlockParts
    block_of xs base = record { base = base; names = comprehension_names xs }

    -- what is made of a comprehension's frame
    abbrev OfFrame : List BlockParts → List Clause → ℕ → (ComprehensionFrame → Expr) → Type 0
    OfFrame blocks xs base w = (x : A) × (ys : List Clause) × E (block_of xs base ∷ blocks) x × ClausesAre file Is blocks (block_of xs base ∷ blocks) xs ys × (w ≡ make x ys)

    block_makes : (blocks : List BlockParts) (xs : List Clause) (u : Passed) → Making {A = ComprehensionFrame → Expr} (OfFrame blocks xs u.slots) u (in_block file visit element make blocks xs u)
    unfolding in_block
    block_makes blocks xs u =
        let block : BlockParts = block_of xs u.slots in
        let opened : Passed = record u { slots = u.slots + length block.names } in
        from (OfFrame blocks xs u.slots) u opened ((element (block ∷ blocks) >>= λ x. clauses file visit blocks (block ∷ blocks) xs >>= λ ys. pure (make x ys)) opened) refl refl
        (makes_two (E (block ∷ blocks)) (ClausesAre file Is blocks (block ∷ blocks) xs) (element (block ∷ blocks)) (clauses file visit blocks (block ∷ blocks) xs) make
        (elements (block ∷ blocks)) (clauses_make blocks (block ∷ blocks) xs) opened)

    in_frame_makes : (blocks : List BlockParts) (xs : List Clause) (base : ℕ) (w : ComprehensionFrame → Expr) (own : ComprehensionFrame) → OfFrame blocks xs base w → frame_is blocks base own
        → comprehension_is file Is E make blocks xs (w own)
    in_frame_makes blocks xs base w own h is = (block_of xs base, h.0, h.1, own, refl, is, h.2, h.3, ap (λ m. m own) h.4)

    own_by : (xs : List Clause) (u : Passed) (r : Result ((ComprehensionFrame → Expr) × Passed) (Fault NameFault)) → Making {A = ComprehensionFrame → Expr} (OfFrame [] xs 0) (record u { slots = 0 }) r
        → Making {A = Expr} (comprehension_is file Is E make [] xs) u (framed u.slots r)
    own_by xs u (Err why) h = tt
    own_by xs u (Ok p) h = (in_frame_makes [] xs 0 p.0 (frame.Own p.1.slots) h.0 (p.1.slots, refl, refl), h.1, h.2)

    shared_by : (b : BlockParts) (bs : List BlockParts) (xs : List Clause) (u : Passed) (r : Result ((ComprehensionFrame → Expr) × Passed) (Fault NameFault)) → Making {A = ComprehensionFrame → Expr} (OfFrame (b ∷ bs) xs u.slots) u r
        → Making {A = Expr} (comprehension_is file Is E make (b ∷ bs) xs) u (following r (λ w. pure (w frame.Shared)))
    shared_by b bs xs u (Err why) h = tt
    shared_by b bs xs u (Ok p) h = (in_frame_makes (b ∷ bs) xs u.slots p.0 frame.Shared h.0 refl, h.1, h.2)

    comprehension_makes : (blocks : List BlockParts) (xs : List Clause) → Makes {A = Expr} (comprehension_is file Is E make blocks xs) (comprehension file visit element make blocks xs)
    unfolding comprehension
    comprehension_makes [] xs u = let opened : Passed = record u { slots = 0 } in own_by xs u (in_block file visit element make [] xs opened) (block_makes [] xs opened)
    comprehension_makes (b ∷ bs) xs u = shared_by b bs xs u (in_block file visit element make (b ∷ bs) xs u) (block_makes (b ∷ bs) xs u)

  -- ---- expressions

  all_make : (blocks : List BlockParts) (xs : List Expr) → Makes (λ ys. InOrder (Is blocks) xs ys) (each (visit blocks) [] xs)
  all_make blocks xs = makes_all (Is blocks) (visit blocks) (visits blocks) xs

  expr_by_makes : (blocks : List BlockParts) (o : ExprLayer) → Makes (expr_is_by file Is blocks o) (expr_by file visit blocks o)
  expr_by_makes blocks (Expr-F.Expr::Name n) = named_makes (use_of file blocks n.name) n (use_at file blocks n) (λ m. tree.Name m) (use_makes file blocks n)
  expr_by_makes blocks (Expr-F.Int i) = λ u. (refl, refl, refl)
  expr_by_makes blocks (Expr-F.String b) = λ u. (refl, refl, refl)
  expr_by_makes blocks (Expr-F.Expr::List xs) = makes_map (λ ys. InOrder (Is blocks) xs ys) (each (visit blocks) [] xs) (λ ys. tree.List ys) (all_make blocks xs)
  expr_by_makes blocks (Expr-F.Expr::Tuple xs) = makes_map (λ ys. InOrder (Is blocks) xs ys) (each (visit blocks) [] xs) (λ ys. tree.Tuple ys) (all_make blocks xs)
  expr_by_makes blocks (Expr-F.Dict ps) =
      makes_map (λ qs. InOrder (PairIs file Is blocks) ps qs) (each (pair file visit blocks) [] ps) (λ qs. tree.Dict qs) (makes_all (PairIs file Is blocks) (pair file visit blocks) (pair_makes blocks) ps)
  expr_by_makes blocks (Expr-F.ListComprehension x xs own) = comprehension_makes {A = Expr} (λ bs. visit bs x) (λ bs y. Is bs x y) (λ y ys own. tree.ListComprehension y ys own) (λ bs. visits bs x) blocks xs
  expr_by_makes blocks (Expr-F.DictComprehension p xs own) =
      comprehension_makes (λ bs. pair file visit bs p) (λ bs q. PairIs file Is bs p q) (λ y ys own. tree.DictComprehension y ys own) (λ bs. pair_makes bs p) blocks xs
  expr_by_makes blocks (Expr-F.Primary x ss) = primary_makes blocks x ss
  expr_by_makes blocks (Expr-F.Unary os x) = makes_map (Is blocks x) (visit blocks x) (λ y. tree.Unary os y) (visits blocks x)
  expr_by_makes blocks (Expr-F.Binary x os) =
      makes_two (Is blocks x) (λ ps. InOrder (OperationIs file Is blocks) os ps) (visit blocks x) (each (operation file visit blocks) [] os) (λ y ps. tree.Binary y ps)
      (visits blocks x) (makes_all (OperationIs file Is blocks) (operation file visit blocks) (operation_makes blocks) os)
  expr_by_makes blocks (Expr-F.Compare x o z) = makes_two (Is blocks x) (Is blocks z) (visit blocks x) (visit blocks z) (λ y w. tree.Compare y o w) (visits blocks x) (visits blocks z)
  expr_by_makes blocks (Expr-F.Conditional xs z) =
      makes_two (λ ys. InOrder (ChoiceIs file Is blocks) xs ys) (Is blocks z) (each (choice file visit blocks) [] xs) (visit blocks z) (λ ys w. tree.Conditional ys w)
      (makes_all (ChoiceIs file Is blocks) (choice file visit blocks) (choice_makes blocks) xs) (visits blocks z)
  expr_by_makes blocks Expr-F.Lambda = λ u. (refl, refl, refl)

pub expr_makes : (layers : ℕ) (file : FileParts) (blocks : List BlockParts) (x : Expr) → Makes (ExprTo file layers blocks x) (expr_to layers file blocks x)
unfolding ExprTo expr_to
expr_makes zero file blocks x = λ u. tt
expr_makes (suc layers) file blocks x = expr_by_makes file (expr_to layers file) (ExprTo file layers) (expr_makes layers file) blocks (out-Expr x)
