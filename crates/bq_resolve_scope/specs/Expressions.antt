-- What an expression resolves to, a case for each form, in the order of its text. `visit` resolves the expressions in it.
use Rattle.std.specs.Prelude.{ℕ, zero, suc, ◌+◌, List, [], ◌∷◌, length, Bool, true, false, ◌||◌, ◌&&◌, Option, Some, None, Result, Ok, Err, if◌then◌else◌}
use Rattle.bq_base.specs.declared.fault.NameFault.{NameFault}
use Rattle.bq_base.specs.declared.fault.Fault.{Fault}
use Rattle.bq_base.specs.declared.fault.NameFault.TheVariants as f
use Rattle.bq_base.specs.Fault.{fault_at}
use Rattle.bq_parse_grammar.specs.declared.tree.FileKind.{FileKind}
use Rattle.bq_parse_grammar.specs.declared.tree.FileKind.TheVariants as kinds
use Rattle.bq_parse_grammar.specs.declared.tree.Identifier.{Identifier}
use Rattle.bq_parse_grammar.specs.declared.tree.Argument.TheOpen.{Expr-F, Suffix-F, Argument-F, Clause-F, TargetExpr-F}
use Rattle.bq_parse_grammar.specs.declared.tree.Argument.{Argument, out-Argument}
use Rattle.bq_parse_grammar.specs.declared.tree.Argument.TheVariants as argument
use Rattle.bq_parse_grammar.specs.declared.tree.Choice.{Choice, out-Choice, roll-Choice}
use Rattle.bq_parse_grammar.specs.declared.tree.Clause.{Clause, out-Clause}
use Rattle.bq_parse_grammar.specs.declared.tree.Clause.TheVariants as clause
use Rattle.bq_parse_grammar.specs.declared.tree.ComprehensionFrame.{ComprehensionFrame}
use Rattle.bq_parse_grammar.specs.declared.tree.ComprehensionFrame.TheVariants as frame
use Rattle.bq_parse_grammar.specs.declared.tree.Expr.{Expr, out-Expr}
use Rattle.bq_parse_grammar.specs.declared.tree.Expr.TheVariants as e
use Rattle.bq_parse_grammar.specs.declared.tree.Operation.{Operation, out-Operation, roll-Operation}
use Rattle.bq_parse_grammar.specs.declared.tree.Pair.{Pair, out-Pair, roll-Pair}
use Rattle.bq_parse_grammar.specs.declared.tree.Referent.{Referent}
use Rattle.bq_parse_grammar.specs.declared.tree.Referent.TheVariants as b
use Rattle.bq_parse_grammar.specs.declared.tree.Suffix.{Suffix, out-Suffix}
use Rattle.bq_parse_grammar.specs.declared.tree.Suffix.TheVariants as suffix
use Rattle.bq_parse_grammar.specs.declared.tree.TargetExpr.{TargetExpr, out-TargetExpr}
use Rattle.bq_parse_grammar.specs.declared.tree.TargetExpr.TheVariants as target
use Rattle.bq_parse_grammar.specs.Targets.{ExprLayer, SuffixLayer}
use Rattle.bq_resolve_scope.specs.declared.universe.Namespace.{Namespace}
use Rattle.bq_resolve_scope.specs.Universe.{member_named, namespace_named}
use Rattle.bq_resolve_scope.specs.Names.{Name, max_layers, has, with_name, TargetLayer, ClauseLayer, comprehension_names}
use Rattle.bq_resolve_scope.specs.Scope.{BlockParts, FileParts, use_of}
use Rattle.bq_resolve_scope.specs.Visit.{Passed, Visit, ◌>>=◌, pure, stop, given, fault_of, each, optional}

-- ---- names

-- a name with what it refers to
abbrev pub refer : Identifier → Referent → Identifier
refer n x = record n { referent = x }

-- where a target's variable is; it has to be one of the function or of the file
abbrev pub place_of : Option Referent → Option Referent
place_of (Some (b.Local slot)) = Some (b.Local slot)
place_of (Some (b.Global k)) = Some (b.Global k)
place_of _ = None

-- it is a .bzl file
abbrev pub is_bzl : FileKind → Bool
is_bzl kinds.Bzl = true
is_bzl kinds.Build = false

-- In a .bzl file no name of the file is bound twice, by a load and a statement neither (F21).
unfoldable pub bind_global : FileKind → Identifier → Visit (Unit {0})
bind_global kind n s =
    if is_bzl kind && (has s.bound n.name || has s.loaded n.name) then Err (fault_of f.Rebound n) else Ok (tt, record s { bound = with_name s.bound n.name })

-- outside functions and comprehensions, where there is no enclosing block, a name that is bound is a global
abbrev pub bind_in : FileKind → List BlockParts → Identifier → Visit (Unit {0})
bind_in kind [] n = bind_global kind n
bind_in kind (block ∷ blocks) n = pure tt

-- ---- comprehensions

-- a block opens: its names get the next slots of the frame
abbrev pub open_block : {A : Type 0} → List Name → (BlockParts → Visit A) → Visit A
open_block names go = λ s. go (record { base = s.slots; names = names }) (record s { slots = s.slots + length names })

-- a comprehension outside functions has a frame of its own; behind it there are as many slots as before
abbrev pub framed : ℕ → Result ((ComprehensionFrame → Expr) × Passed) (Fault NameFault) → Result (Expr × Passed) (Fault NameFault)
framed slots (Err why) = Err why
framed slots (Ok r) = Ok (r.0 (frame.Own r.1.slots), record r.1 { slots = slots })

-- what makes a comprehension of its frame: outside functions that is one of its own
abbrev pub in_frame : List BlockParts → Visit (ComprehensionFrame → Expr) → Visit Expr
in_frame [] v = λ s. framed s.slots (v (record s { slots = 0 }))
in_frame (block ∷ blocks) v = v >>= λ make. pure (make frame.Shared)

-- a namespace, by the name that stands for it
abbrev pub NamedSpace : Type 0
NamedSpace = Namespace × Identifier

-- `.name(arguments)` after a namespace, and what is done to its result
abbrev pub MemberCall : Type 0
MemberCall = NamedSpace × Identifier × List Argument × List Suffix

-- a call of a namespace's member, and what stands behind it
abbrev pub member_by : NamedSpace → SuffixLayer → List Suffix → Option MemberCall
member_by space (Suffix-F.Method m xs) ss = Some (space, m, xs, ss)
member_by space _ ss = None

-- the member of a namespace that is called, if a name is that of a namespace and its first suffix a method
abbrev pub member_call : Option NamedSpace → List Suffix → Option MemberCall
member_call None ss = None
member_call (Some space) [] = None
member_call (Some space) (s ∷ ss) = member_by space (out-Suffix s) ss

-- a name has no meaning here
abbrev pub is_unbound : Option Referent → Bool
is_unbound None = true
is_unbound (Some x) = false

-- a namespace of a .bzl file that binds no such name
unfoldable pub space_of : FileParts → List BlockParts → Identifier → Option Namespace
space_of file blocks n = if is_bzl file.universe.kind && is_unbound (use_of file blocks n.name) then namespace_named n.name else None

-- the namespace that a name stands for, if it stands for one, with that name
abbrev pub with_space : Identifier → Option Namespace → Option NamedSpace
with_space n None = None
with_space n (Some space) = Some (space, n)

-- the namespace that an operand is, if it is one
abbrev pub namespace_at : FileParts → List BlockParts → ExprLayer → Option NamedSpace
namespace_at file blocks (Expr-F.Expr::Name n) = with_space n (space_of file blocks n)
namespace_at file blocks _ = None

-- the use of a name: of the innermost block that holds it, else F20
unfoldable pub use_at : FileParts → List BlockParts → Identifier → Visit Identifier
use_at file blocks n = given (fault_of f.UnknownName n) (use_of file blocks n.name) >>= λ x. pure (refer n x)

-- a name that is bound: its block holds it
unfoldable pub bound_at : FileParts → List BlockParts → Identifier → Visit Identifier
bound_at file blocks n =
    bind_in file.universe.kind blocks n >>= λ _. given (fault_of f.UnknownName n) (place_of (use_of file blocks n.name)) >>= λ x. pure (refer n x)

module _ (file : FileParts) (visit : List BlockParts → Expr → Visit Expr) where
  -- ---- targets

  -- a target, by its form
  abbrev pub target_by : (TargetExpr → Visit TargetExpr) → List BlockParts → TargetLayer → Visit TargetExpr
  target_by inner blocks (TargetExpr-F.TargetExpr::Name n) = bound_at file blocks n >>= λ m. pure (target.Name m)
  target_by inner blocks (TargetExpr-F.TargetExpr::Index x i) = visit blocks x >>= λ y. visit blocks i >>= λ j. pure (target.Index y j)
  target_by inner blocks (TargetExpr-F.TargetExpr::Tuple ts) = each inner [] ts >>= λ us. pure (target.Tuple us)
  target_by inner blocks (TargetExpr-F.TargetExpr::List ts) = each inner [] ts >>= λ us. pure (target.List us)

  -- a target that is at most this many layers deep; no tree that is parsed holds a deeper one
  unfoldable pub target_to : ℕ → List BlockParts → TargetExpr → Visit TargetExpr
  target_to zero blocks t = stop (fault_at f.Nesting 0)
  target_to (suc n) blocks t = target_by (target_to n blocks) blocks (out-TargetExpr t)

  -- ---- what stands in an expression

  -- a pair of a dict
  unfoldable pub pair : List BlockParts → Pair → Visit Pair
  pair blocks p = visit blocks (out-Pair p).key >>= λ k. visit blocks (out-Pair p).value >>= λ v. pure (roll-Pair (record { key = k; value = v }))

  -- an operator and its right operand
  unfoldable pub operation : List BlockParts → Operation → Visit Operation
  operation blocks o = visit blocks (out-Operation o).operand >>= λ x. pure (roll-Operation (record { operator = (out-Operation o).operator; operand = x }))

  -- `value if condition`: the value stands before the condition
  unfoldable pub choice : List BlockParts → Choice → Visit Choice
  choice blocks o = visit blocks (out-Choice o).value >>= λ v. visit blocks (out-Choice o).condition >>= λ x. pure (roll-Choice (record { value = v; condition = x }))

  -- an argument, by its form
  abbrev pub argument_by : List BlockParts → Argument-F Argument Clause Expr Suffix TargetExpr Choice Operation Pair → Visit Argument
  argument_by blocks (Argument-F.Positional x) = visit blocks x >>= λ y. pure (argument.Positional y)
  argument_by blocks (Argument-F.Named name x) = visit blocks x >>= λ y. pure (argument.Named name y)
  argument_by blocks (Argument-F.Star x) = visit blocks x >>= λ y. pure (argument.Star y)
  argument_by blocks (Argument-F.StarStar x) = visit blocks x >>= λ y. pure (argument.StarStar y)

  -- the arguments of a call, from the left
  unfoldable pub arguments : List BlockParts → List Argument → Visit (List Argument)
  arguments blocks xs = each (λ x. argument_by blocks (out-Argument x)) [] xs

  -- a suffix, by its form
  abbrev pub suffix_by : List BlockParts → SuffixLayer → Visit Suffix
  suffix_by blocks (Suffix-F.Call xs) = arguments blocks xs >>= λ ys. pure (suffix.Call ys)
  suffix_by blocks (Suffix-F.Method m xs) = arguments blocks xs >>= λ ys. pure (suffix.Method m ys)
  suffix_by blocks (Suffix-F.Attribute m) = pure (suffix.Attribute m)
  suffix_by blocks (Suffix-F.Suffix::Index i) = visit blocks i >>= λ j. pure (suffix.Index j)
  suffix_by blocks (Suffix-F.Slice i j k) =
      optional (visit blocks) i >>= λ x. optional (visit blocks) j >>= λ y. optional (visit blocks) k >>= λ z. pure (suffix.Slice x y z)

  -- these suffixes so far, and all of those
  unfoldable pub suffixes : List BlockParts → List Suffix → List Suffix → Visit (List Suffix)
  suffixes blocks done ss = each (λ s. suffix_by blocks (out-Suffix s)) done ss

  -- an operand and its suffixes, from the left
  unfoldable pub operand : List BlockParts → Expr → List Suffix → Visit Expr
  operand blocks x ss = visit blocks x >>= λ y. suffixes blocks [] ss >>= λ ts. pure (e.Primary y ts)

  -- `native.name(arguments)` is the build function or rule `name`, `attr.name(arguments)` the function that makes an attribute, else F20
  -- at `name`. Both words refer to it.
  unfoldable pub call_member : List BlockParts → NamedSpace → Identifier → List Argument → List Suffix → Visit Expr
  call_member blocks space m xs ss =
      given (fault_of f.UnknownName m) (member_named space.0 file.universe.rules m.name) >>= λ p. arguments blocks xs
      >>= λ ys. suffixes blocks (suffix.Method (refer m (b.Member p)) ys ∷ []) ss >>= λ ts. pure (e.Primary (e.Name (refer space.1 (b.Member p))) ts)

  -- an operand with suffixes; a call of a namespace's member is one
  abbrev pub primary_by : List BlockParts → Expr → List Suffix → Option MemberCall → Visit Expr
  primary_by blocks x ss None = operand blocks x ss
  primary_by blocks x ss (Some (space, m, xs, rest)) = call_member blocks space m xs rest

  -- an operand with suffixes
  unfoldable pub primary : List BlockParts → Expr → List Suffix → Visit Expr
  primary blocks x ss = primary_by blocks x ss (member_call (namespace_at file blocks (out-Expr x)) ss)

  -- ---- comprehensions: an iterable is resolved among `round`, all else among `blocks`

  -- a clause, by its form; the iterable of the first one is read outside
  abbrev pub clause_by : List BlockParts → List BlockParts → ClauseLayer → Visit Clause
  clause_by round blocks (Clause-F.For t x) = target_to max_layers blocks t >>= λ u. visit round x >>= λ y. pure (clause.For u y)
  clause_by round blocks (Clause-F.If x) = visit blocks x >>= λ y. pure (clause.If y)

  -- the first iterable lies outside the comprehension, all others inside it
  unfoldable pub clauses : List BlockParts → List BlockParts → List Clause → Visit (List Clause)
  clauses round blocks [] = pure []
  clauses round blocks (x ∷ xs) = clause_by round blocks (out-Clause x) >>= λ y. each (λ z. clause_by blocks blocks (out-Clause z)) (y ∷ []) xs

  -- in the frame that is open: the element stands before the clauses, and inside
  unfoldable pub in_block : {A : Type 0} → (List BlockParts → Visit A) → (A → List Clause → ComprehensionFrame → Expr) → List BlockParts → List Clause → Visit (ComprehensionFrame → Expr)
  in_block element make blocks xs =
      open_block (comprehension_names xs) (λ block. element (block ∷ blocks) >>= λ x. clauses blocks (block ∷ blocks) xs >>= λ ys. pure (make x ys))

  -- a comprehension, in a frame where there is none, and in a block of its own
  unfoldable pub comprehension : {A : Type 0} → (List BlockParts → Visit A) → (A → List Clause → ComprehensionFrame → Expr) → List BlockParts → List Clause → Visit Expr
  comprehension element make blocks xs = in_frame blocks (in_block element make blocks xs)

  -- ---- expressions

  -- an expression, by its form
  abbrev pub expr_by : List BlockParts → ExprLayer → Visit Expr
  expr_by blocks (Expr-F.Expr::Name n) = use_at file blocks n >>= λ m. pure (e.Name m)
  expr_by blocks (Expr-F.Int i) = pure (e.Int i)
  expr_by blocks (Expr-F.String s) = pure (e.String s)
  expr_by blocks (Expr-F.Expr::List xs) = each (visit blocks) [] xs >>= λ ys. pure (e.List ys)
  expr_by blocks (Expr-F.Expr::Tuple xs) = each (visit blocks) [] xs >>= λ ys. pure (e.Tuple ys)
  expr_by blocks (Expr-F.Dict ps) = each (pair blocks) [] ps >>= λ qs. pure (e.Dict qs)
  expr_by blocks (Expr-F.ListComprehension x xs own) = comprehension (λ bs. visit bs x) e.ListComprehension blocks xs
  expr_by blocks (Expr-F.DictComprehension p xs own) = comprehension (λ bs. pair bs p) e.DictComprehension blocks xs
  expr_by blocks (Expr-F.Primary x ss) = primary blocks x ss
  expr_by blocks (Expr-F.Unary os x) = visit blocks x >>= λ y. pure (e.Unary os y)
  expr_by blocks (Expr-F.Binary x os) = visit blocks x >>= λ y. each (operation blocks) [] os >>= λ ps. pure (e.Binary y ps)
  expr_by blocks (Expr-F.Compare x o z) = visit blocks x >>= λ y. visit blocks z >>= λ w. pure (e.Compare y o w)
  expr_by blocks (Expr-F.Conditional xs z) = each (choice blocks) [] xs >>= λ ys. visit blocks z >>= λ w. pure (e.Conditional ys w)
  expr_by blocks Expr-F.Lambda = pure e.Lambda

-- an expression that is at most this many layers deep; no tree that is parsed holds a deeper one
unfoldable pub expr_to : ℕ → FileParts → List BlockParts → Expr → Visit Expr
expr_to zero file blocks x = stop (fault_at f.Nesting 0)
expr_to (suc depth) file blocks x = expr_by file (expr_to depth file) blocks (out-Expr x)
