-- Expressions list the slots of their uses.
use Rattle.std.proofs.Common.{◌≡◌, ◌∙◌, ℕ, zero, suc, ◌+◌, List, [], ◌∷◌, ◌++◌, map, length, length-append, Option, Some, None, refl, sym, ap, subst}
use Rattle.std.proofs.lemmas.List.{append-nil}
use Rattle.bq_base.specs.declared.fault.NameFault.TheVariants as f
use Rattle.bq_base.specs.Fault.{fault_at}
use Rattle.bq_parse_grammar.specs.declared.tree.Argument.{Argument, out-Argument}
use Rattle.bq_parse_grammar.specs.declared.tree.Argument.TheOpen.{Expr-F, Suffix-F, Argument-F, Clause-F, TargetExpr-F}
use Rattle.bq_parse_grammar.specs.declared.tree.Argument.TheVariants as a
use Rattle.bq_parse_grammar.specs.declared.tree.Choice.{Choice, out-Choice, roll-Choice}
use Rattle.bq_parse_grammar.specs.declared.tree.Clause.{Clause, out-Clause}
use Rattle.bq_parse_grammar.specs.declared.tree.Clause.TheVariants as cl
use Rattle.bq_parse_grammar.specs.declared.tree.ComprehensionFrame.{ComprehensionFrame}
use Rattle.bq_parse_grammar.specs.declared.tree.ComprehensionFrame.TheVariants as frame
use Rattle.bq_parse_grammar.specs.declared.tree.Expr.{Expr, out-Expr}
use Rattle.bq_parse_grammar.specs.declared.tree.Expr.TheVariants as e
use Rattle.bq_parse_grammar.specs.declared.tree.Identifier.{Identifier}
use Rattle.bq_parse_grammar.specs.declared.tree.Operation.{Operation, out-Operation, roll-Operation}
use Rattle.bq_parse_grammar.specs.declared.tree.Pair.{Pair, out-Pair, roll-Pair}
use Rattle.bq_parse_grammar.specs.declared.tree.Referent.TheVariants as b
use Rattle.bq_parse_grammar.specs.declared.tree.Suffix.{Suffix, out-Suffix}
use Rattle.bq_parse_grammar.specs.declared.tree.Suffix.TheVariants as s
use Rattle.bq_parse_grammar.specs.declared.tree.TargetExpr.{TargetExpr, out-TargetExpr}
use Rattle.bq_parse_grammar.specs.declared.tree.TargetExpr.TheVariants as t
use Rattle.bq_parse_grammar.specs.Targets.{ExprLayer, SuffixLayer}
use Rattle.bq_resolve_scope.specs.Names.{Name, TargetLayer, ClauseLayer, max_layers, comprehension_names}
use Rattle.bq_resolve_scope.specs.Scope.{BlockParts, FileParts}
use Rattle.bq_predeclared.specs.declared.predeclared.Predeclared.{Predeclared}
use Rattle.bq_resolve_scope.specs.Universe.{member_named}
use Rattle.bq_resolve_scope.specs.Visit.{Passed, Visit, ◌>>=◌, pure, given, fault_of, each, optional}
use Rattle.bq_resolve_scope.specs.Expressions.{NamedSpace, bound_at, refer, member_by, member_call, namespace_at, use_at, target_by, target_to, pair, operation, choice, argument_by, arguments, suffix_by, suffixes, operand, call_member, primary_by, primary, clause_by, clauses, in_block, comprehension, expr_by, expr_to}
use Rattle.bq_resolve_scope.specs.Statements.{expr, target}
use Rattle.bq_resolve_laws.specs.Slots.Slots.{all, argument_slots, choice_slots, clause_slots, expr_slots, name_slots, operation_slots, pair_slots, suffix_slots, target_slots}
use Rattle.bq_resolve_laws.specs.Slots.Uses as uses
use Rattle.bq_resolve_laws.specs.Slots.Uses.{Block, Part, Use, both, use_among}
use Rattle.bq_resolve_laws.proofs.Slots.Lists.{Fits, Inside, Listed, Lists, joined, lists_all, lists_bind, lists_each, lists_map, lists_optional, lists_pure, lists_stop, lists_three, lists_two, mapped}
use Rattle.bq_resolve_laws.proofs.Slots.Names.{lists_as, name_lists, namespace_is, unbound_is, use_lists}
use Rattle.bq_resolve_laws.proofs.Slots.Opened.{at_end, round_more, stacked_more}
use Rattle.bq_resolve_laws.proofs.Slots.Steps as S
use Rattle.bq_resolve_laws.proofs.Slots.Steps.{part_slots}

-- of all of these
abbrev exprs_slots : List Expr → List ℕ
exprs_slots xs = all (map expr_slots xs)

-- what lists among the blocks around a block does so inside it
lists_inside : {A : Type 0} (r : Block) (rs : List Block) (b : BlockParts) (bs : List BlockParts) (f : A → List ℕ) (part : Part) (v : Visit A) → Inside bs → Lists {A = A} rs bs [] f part v → Lists {A = A} (r ∷ rs) (b ∷ bs) [] f part v
lists_inside r rs b bs f part v there lists opened s t x inside fits h = lists opened s t x there (record { stacked = fits.stacked; round = fits.round.2 }) h

module _ (file : FileParts) (visit : List BlockParts → Expr → Visit Expr) (listed : List Block → Expr → Part) (visits : (rs : List Block) (bs : List BlockParts) (x : Expr) → Lists rs bs [] expr_slots (listed rs x) (visit bs x))
    (plain : (rs : List Block) (x : Expr) (n : Identifier) (k : ℕ) → out-Expr x ≡ Expr-F.Expr::Name n → use_among rs n.name ≡ [] → listed rs x k ≡ ([], k)) where
  -- ---- targets

  target_by_lists : (inner : TargetExpr → Visit TargetExpr) (part : TargetExpr → Part) (rs : List Block) (bs : List BlockParts) → ((u : TargetExpr) → Lists rs bs [] target_slots (part u) (inner u)) → (o : TargetLayer)
      → Lists rs bs [] target_slots (uses.target_by listed part rs o) (target_by file visit inner bs o)
  target_by_lists inner part rs bs inners (TargetExpr-F.TargetExpr::Name n) =
      lists_map rs bs [] name_slots target_slots (uses.name_use rs n.name) (bound_at file bs n) (λ m. t.Name m) (name_lists file rs bs n) S.slots-target_Name
  target_by_lists inner part rs bs inners (TargetExpr-F.TargetExpr::Index x i) =
      lists_two rs bs expr_slots expr_slots target_slots (listed rs x) (listed rs i) (visit bs x) (visit bs i) (λ y j. t.Index y j) (visits rs bs x) (visits rs bs i) S.slots-target_Index
  target_by_lists inner part rs bs inners (TargetExpr-F.TargetExpr::Tuple us) =
      lists_map rs bs [] (λ vs. all (map target_slots vs)) target_slots (uses.all part us) (each inner [] us) (λ vs. t.Tuple vs) (lists_all rs bs target_slots part inner inners us) S.slots-target_Tuple
  target_by_lists inner part rs bs inners (TargetExpr-F.TargetExpr::List us) =
      lists_map rs bs [] (λ vs. all (map target_slots vs)) target_slots (uses.all part us) (each inner [] us) (λ vs. t.List vs) (lists_all rs bs target_slots part inner inners us) S.slots-target_List

  pub target_lists : (layers : ℕ) (rs : List Block) (bs : List BlockParts) (u : TargetExpr) → Lists rs bs [] target_slots (uses.target_to listed layers rs u) (target_to file visit layers bs u)
  unfolding target_to uses.target_to
  target_lists zero rs bs u = lists_stop rs bs [] target_slots (uses.target_to listed zero rs u) (fault_at f.Nesting 0)
  target_lists (suc layers) rs bs u = target_by_lists (target_to file visit layers bs) (uses.target_to listed layers rs) rs bs (target_lists layers rs bs) (out-TargetExpr u)

  -- ---- what stands in an expression

  pair_lists : (rs : List Block) (bs : List BlockParts) (p : Pair) → Lists rs bs [] pair_slots (uses.pair listed rs p) (pair file visit bs p)
  unfolding pair
  pair_lists rs bs p =
      lists_two rs bs expr_slots expr_slots pair_slots (listed rs (out-Pair p).key) (listed rs (out-Pair p).value) (visit bs (out-Pair p).key) (visit bs (out-Pair p).value) (λ k v. roll-Pair (record { key = k; value = v }))
      (visits rs bs (out-Pair p).key) (visits rs bs (out-Pair p).value) S.slots-pair

  operation_lists : (rs : List Block) (bs : List BlockParts) (o : Operation) → Lists rs bs [] operation_slots (uses.operation listed rs o) (operation file visit bs o)
  unfolding operation
  operation_lists rs bs o =
      lists_map rs bs [] expr_slots operation_slots (listed rs (out-Operation o).operand) (visit bs (out-Operation o).operand) (λ x. roll-Operation (record { operator = (out-Operation o).operator; operand = x }))
      (visits rs bs (out-Operation o).operand) (S.slots-operation (out-Operation o).operator)

  choice_lists : (rs : List Block) (bs : List BlockParts) (o : Choice) → Lists rs bs [] choice_slots (uses.choice listed rs o) (choice file visit bs o)
  unfolding choice
  choice_lists rs bs o =
      lists_two rs bs expr_slots expr_slots choice_slots (listed rs (out-Choice o).value) (listed rs (out-Choice o).condition) (visit bs (out-Choice o).value) (visit bs (out-Choice o).condition)
      (λ v x. roll-Choice (record { value = v; condition = x })) (visits rs bs (out-Choice o).value) (visits rs bs (out-Choice o).condition) S.slots-choice

  argument_by_lists : (rs : List Block) (bs : List BlockParts) (o : Argument-F Argument Clause Expr Suffix TargetExpr Choice Operation Pair) → Lists rs bs [] argument_slots (uses.argument_by listed rs o) (argument_by file visit bs o)
  argument_by_lists rs bs (Argument-F.Positional x) = lists_map rs bs [] expr_slots argument_slots (listed rs x) (visit bs x) (λ y. a.Positional y) (visits rs bs x) S.slots-Positional
  argument_by_lists rs bs (Argument-F.Named n x) = lists_map rs bs [] expr_slots argument_slots (listed rs x) (visit bs x) (λ y. a.Named n y) (visits rs bs x) (S.slots-Named n)
  argument_by_lists rs bs (Argument-F.Star x) = lists_map rs bs [] expr_slots argument_slots (listed rs x) (visit bs x) (λ y. a.Star y) (visits rs bs x) S.slots-Star
  argument_by_lists rs bs (Argument-F.StarStar x) = lists_map rs bs [] expr_slots argument_slots (listed rs x) (visit bs x) (λ y. a.StarStar y) (visits rs bs x) S.slots-StarStar

  arguments_list : (rs : List Block) (bs : List BlockParts) (xs : List Argument) → Lists rs bs [] (λ ys. all (map argument_slots ys)) (uses.arguments listed rs xs) (arguments file visit bs xs)
  unfolding arguments
  arguments_list rs bs xs =
      lists_all rs bs argument_slots (λ x. uses.argument_by listed rs (out-Argument x)) (λ x. argument_by file visit bs (out-Argument x)) (λ x. argument_by_lists rs bs (out-Argument x)) xs

  optional_lists : (rs : List Block) (bs : List BlockParts) (o : Option Expr) → Lists rs bs [] part_slots (uses.optional (listed rs) o) (optional (visit bs) o)
  optional_lists rs bs o = lists_optional rs bs expr_slots part_slots (listed rs) (visit bs) refl (λ _. refl) (visits rs bs) o

  suffix_by_lists : (rs : List Block) (bs : List BlockParts) (o : SuffixLayer) → Lists rs bs [] suffix_slots (uses.suffix_by listed rs o) (suffix_by file visit bs o)
  suffix_by_lists rs bs (Suffix-F.Call xs) =
      lists_map rs bs [] (λ ys. all (map argument_slots ys)) suffix_slots (uses.arguments listed rs xs) (arguments file visit bs xs) (λ ys. s.Call ys) (arguments_list rs bs xs) S.slots-Call
  suffix_by_lists rs bs (Suffix-F.Method m xs) =
      lists_map rs bs [] (λ ys. all (map argument_slots ys)) suffix_slots (uses.arguments listed rs xs) (arguments file visit bs xs) (λ ys. s.Method m ys) (arguments_list rs bs xs) (S.slots-Method m)
  suffix_by_lists rs bs (Suffix-F.Attribute m) = lists_pure rs bs [] suffix_slots (s.Attribute m) (S.slots-Attribute m)
  suffix_by_lists rs bs (Suffix-F.Suffix::Index i) = lists_map rs bs [] expr_slots suffix_slots (listed rs i) (visit bs i) (λ j. s.Index j) (visits rs bs i) S.slots-Index
  suffix_by_lists rs bs (Suffix-F.Slice i j k) =
      lists_three rs bs part_slots part_slots part_slots suffix_slots (uses.optional (listed rs) i) (uses.optional (listed rs) j) (uses.optional (listed rs) k)
      (optional (visit bs) i) (optional (visit bs) j) (optional (visit bs) k) (λ x y z. s.Slice x y z) (optional_lists rs bs i) (optional_lists rs bs j) (optional_lists rs bs k) S.slots-Slice

  suffixes_list : (rs : List Block) (bs : List BlockParts) (done : List Suffix) (ss : List Suffix)
      → Lists rs bs (all (map suffix_slots done)) (λ ys. all (map suffix_slots ys)) (uses.suffixes listed rs ss) (suffixes file visit bs done ss)
  unfolding suffixes
  suffixes_list rs bs done ss =
      lists_each rs bs suffix_slots (λ x. uses.suffix_by listed rs (out-Suffix x)) (λ x. suffix_by file visit bs (out-Suffix x)) (λ x. suffix_by_lists rs bs (out-Suffix x)) done ss

  -- ---- operands

  operand_lists : (rs : List Block) (bs : List BlockParts) (x : Expr) (ss : List Suffix) → Lists rs bs [] expr_slots (both (listed rs x) (uses.suffixes listed rs ss)) (operand file visit bs x ss)
  unfolding operand
  operand_lists rs bs x ss =
      lists_two rs bs expr_slots (λ ts. all (map suffix_slots ts)) expr_slots (listed rs x) (uses.suffixes listed rs ss) (visit bs x) (suffixes file visit bs [] ss) (λ y ts. e.Primary y ts)
      (visits rs bs x) (suffixes_list rs bs [] ss) S.slots-Primary

  -- a name that refers to a namespace's member
  abbrev member_name : Identifier → Predeclared → Identifier
  member_name n p = refer n (b.Member p)

  called : (n : Identifier) (p : Predeclared) (ts : List Suffix) → expr_slots (e.Primary (e.Name (member_name n p)) ts) ≡ all (map suffix_slots ts)
  called n p ts = S.slots-Primary (e.Name (member_name n p)) ts ∙ ap (λ (z : List ℕ). z ++ all (map suffix_slots ts)) (S.slots-Name (member_name n p))

  abbrev first_suffix : Identifier → Predeclared → List Argument → List Suffix
  first_suffix m p ys = s.Method (member_name m p) ys ∷ []

  first_call : (m : Identifier) (p : Predeclared) (ys : List Argument) → all (map suffix_slots (first_suffix m p ys)) ≡ all (map argument_slots ys)
  first_call m p ys = append-nil (suffix_slots (s.Method (member_name m p) ys)) ∙ S.slots-Method (member_name m p) ys

  abbrev calling : List BlockParts → Identifier → Identifier → List Argument → List Suffix → Predeclared → Visit Expr
  calling bs n m xs ss p = arguments file visit bs xs >>= λ ys. suffixes file visit bs (first_suffix m p ys) ss >>= λ ts. pure (e.Primary (e.Name (member_name n p)) ts)

  -- the arguments of what a namespace holds, and what is done to its result
  member_after : (rs : List Block) (bs : List BlockParts) (n m : Identifier) (p : Predeclared) (xs : List Argument) (ss : List Suffix)
      → Lists rs bs [] expr_slots (both (uses.arguments listed rs xs) (uses.suffixes listed rs ss)) (calling bs n m xs ss p)
  member_after rs bs n m p xs ss =
      let make : List Suffix → Expr = λ ts. e.Primary (e.Name (member_name n p)) ts in
      let rest : List Argument → Visit (List Suffix) = λ ys. suffixes file visit bs (first_suffix m p ys) ss in
      lists_bind rs bs [] (λ ys. all (map argument_slots ys)) expr_slots (uses.arguments listed rs xs) (uses.suffixes listed rs ss) (arguments file visit bs xs) (λ ys. rest ys >>= λ ts. pure (make ts))
      (arguments_list rs bs xs)
      (λ ys. subst (λ (d : List ℕ). Lists rs bs d expr_slots (uses.suffixes listed rs ss) (rest ys >>= λ ts. pure (make ts))) (first_call m p ys)
      (mapped rs bs (all (map suffix_slots (first_suffix m p ys))) (λ ts. all (map suffix_slots ts)) expr_slots (uses.suffixes listed rs ss) (rest ys) make (suffixes_list rs bs (first_suffix m p ys) ss) (called n p)))

  member_of : (rs : List Block) (bs : List BlockParts) (n m : Identifier) (xs : List Argument) (ss : List Suffix) (o : Option Predeclared)
      → Lists rs bs [] expr_slots (both (uses.arguments listed rs xs) (uses.suffixes listed rs ss)) (given (fault_of f.UnknownName m) o >>= calling bs n m xs ss)
  member_of rs bs n m xs ss None = lists_stop rs bs [] expr_slots (both (uses.arguments listed rs xs) (uses.suffixes listed rs ss)) (fault_of f.UnknownName m)
  member_of rs bs n m xs ss (Some p) = member_after rs bs n m p xs ss

  member_lists : (rs : List Block) (bs : List BlockParts) (space : NamedSpace) (m : Identifier) (xs : List Argument) (ss : List Suffix)
      → Lists rs bs [] expr_slots (both (uses.arguments listed rs xs) (uses.suffixes listed rs ss)) (call_member file visit bs space m xs ss)
  unfolding call_member
  member_lists rs bs space m xs ss = member_of rs bs space.1 m xs ss (member_named space.0 file.universe.rules m.name)

  -- a namespace is no use of a name that a block holds
  member_part : (rs : List Block) (x : Expr) (first : Suffix) (ss : List Suffix) (m : Identifier) (xs : List Argument) (k : ℕ) → listed rs x k ≡ ([], k) → out-Suffix first ≡ Suffix-F.Method m xs
      → both (uses.arguments listed rs xs) (uses.suffixes listed rs ss) k ≡ both (listed rs x) (uses.suffixes listed rs (first ∷ ss)) k
  member_part rs x first ss m xs k none is =
      sym (ap (λ (q : List Use × ℕ). (q.0 ++ (uses.suffixes listed rs (first ∷ ss) q.1).0, (uses.suffixes listed rs (first ∷ ss) q.1).1)) none
      ∙ ap (λ (o : SuffixLayer). both (uses.suffix_by listed rs o) (uses.suffixes listed rs ss) k) is)

  by_suffix : (rs : List Block) (bs : List BlockParts) (x : Expr) (space : NamedSpace) → namespace_at file bs (out-Expr x) ≡ Some space → (first : Suffix) (ss : List Suffix) (o : SuffixLayer) → out-Suffix first ≡ o
      → Lists rs bs [] expr_slots (both (listed rs x) (uses.suffixes listed rs (first ∷ ss))) (primary_by file visit bs x (first ∷ ss) (member_by space o ss))
  by_suffix rs bs x space named first ss (Suffix-F.Call xs) is = operand_lists rs bs x (first ∷ ss)
  by_suffix rs bs x space named first ss (Suffix-F.Attribute m) is = operand_lists rs bs x (first ∷ ss)
  by_suffix rs bs x space named first ss (Suffix-F.Suffix::Index i) is = operand_lists rs bs x (first ∷ ss)
  by_suffix rs bs x space named first ss (Suffix-F.Slice i j k) is = operand_lists rs bs x (first ∷ ss)
  by_suffix rs bs x space named first ss (Suffix-F.Method m xs) is =
      let name = namespace_is file bs (out-Expr x) space named in
      lists_as rs bs [] expr_slots (both (uses.arguments listed rs xs) (uses.suffixes listed rs ss)) (both (listed rs x) (uses.suffixes listed rs (first ∷ ss))) (call_member file visit bs space m xs ss)
      (λ opened round k. member_part rs x first ss m xs k (plain rs x name.0 k name.1 (unbound_is file opened rs bs name.0.name round name.2)) is) (member_lists rs bs space m xs ss)

  by_namespace : (rs : List Block) (bs : List BlockParts) (x : Expr) (ss : List Suffix) (o : Option NamedSpace) → namespace_at file bs (out-Expr x) ≡ o
      → Lists rs bs [] expr_slots (both (listed rs x) (uses.suffixes listed rs ss)) (primary_by file visit bs x ss (member_call o ss))
  by_namespace rs bs x ss None is = operand_lists rs bs x ss
  by_namespace rs bs x [] (Some space) is = operand_lists rs bs x []
  by_namespace rs bs x (first ∷ ss) (Some space) is = by_suffix rs bs x space is first ss (out-Suffix first) refl

  primary_lists : (rs : List Block) (bs : List BlockParts) (x : Expr) (ss : List Suffix) → Lists rs bs [] expr_slots (both (listed rs x) (uses.suffixes listed rs ss)) (primary file visit bs x ss)
  unfolding primary
  primary_lists rs bs x ss = by_namespace rs bs x ss (namespace_at file bs (out-Expr x)) refl

  -- ---- comprehensions

  clause_by_lists : (round rs : List Block) (outer bs : List BlockParts) → ((x : Expr) → Lists rs bs [] expr_slots (listed round x) (visit outer x)) → (o : ClauseLayer)
      → Lists rs bs [] clause_slots (uses.clause_by listed round rs o) (clause_by file visit outer bs o)
  clause_by_lists round rs outer bs rounds (Clause-F.For u x) =
      lists_two rs bs target_slots expr_slots clause_slots (uses.target_to listed max_layers rs u) (listed round x) (target_to file visit max_layers bs u) (visit outer x) (λ v y. cl.For v y)
      (target_lists max_layers rs bs u) (rounds x) S.slots-For
  clause_by_lists round rs outer bs rounds (Clause-F.If x) = lists_map rs bs [] expr_slots clause_slots (listed rs x) (visit bs x) (λ y. cl.If y) (visits rs bs x) S.slots-If

  clauses_list : (round rs : List Block) (outer bs : List BlockParts) → ((x : Expr) → Lists rs bs [] expr_slots (listed round x) (visit outer x)) → (xs : List Clause)
      → Lists rs bs [] (λ ys. all (map clause_slots ys)) (uses.clauses listed round rs xs) (clauses file visit outer bs xs)
  unfolding clauses
  clauses_list round rs outer bs rounds [] = lists_pure rs bs [] (λ ys. all (map clause_slots ys)) [] refl
  clauses_list round rs outer bs rounds (x ∷ xs) =
      let rest : Part = uses.all (λ z. uses.clause_by listed rs rs (out-Clause z)) xs in
      lists_bind rs bs [] clause_slots (λ ys. all (map clause_slots ys)) (uses.clause_by listed round rs (out-Clause x)) rest (clause_by file visit outer bs (out-Clause x))
      (λ y. each (λ z. clause_by file visit bs bs (out-Clause z)) (y ∷ []) xs) (clause_by_lists round rs outer bs rounds (out-Clause x))
      (λ y. subst (λ (d : List ℕ). Lists rs bs d (λ ys. all (map clause_slots ys)) rest (each (λ z. clause_by file visit bs bs (out-Clause z)) (y ∷ []) xs)) (append-nil (clause_slots y))
      (lists_each rs bs clause_slots (λ z. uses.clause_by listed rs rs (out-Clause z)) (λ z. clause_by file visit bs bs (out-Clause z)) (λ z. clause_by_lists rs rs bs bs (visits rs bs) (out-Clause z)) (y ∷ []) xs))

  module _ {A : Type 0} (element : List BlockParts → Visit A) (part : List Block → Part) (make : A → List Clause → ComprehensionFrame → Expr) (g : A → List ℕ)
      (elements : (rs : List Block) (bs : List BlockParts) → Lists {A = A} rs bs [] g (part rs) (element bs)) (is : (x : A) (ys : List Clause) → expr_slots (make x ys frame.Shared) ≡ g x ++ all (map clause_slots ys)) where
    -- inside a function a comprehension shares its frame
    abbrev shared_slots : (ComprehensionFrame → Expr) → List ℕ
    shared_slots w = expr_slots (w frame.Shared)

    block_lists : (rs : List Block) (bs : List BlockParts) (xs : List Clause) → Lists {A = ComprehensionFrame → Expr} rs bs [] shared_slots (uses.comprehension listed part rs xs) (in_block file visit element make bs xs)
    unfolding in_block
    block_lists rs bs xs opened s t x inside fits h =
        let names : List Name = comprehension_names xs in
        let number : ℕ = length opened in
        let r : Block = record { number = number; names = names } in
        let block : BlockParts = record { base = s.slots; names = names } in
        let there : List BlockParts = opened ++ block ∷ [] in
        let begun : Passed = record s { slots = s.slots + length names } in
        let fits_there : Fits there begun (r ∷ rs) (block ∷ bs) = record { stacked = stacked_more 0 s.slots opened block fits.stacked refl; round = (at_end opened block, refl, round_more opened (block ∷ []) rs bs fits.round) } in
        let inner : Part = uses.in_block listed part r rs xs in
        let made = lists_two (r ∷ rs) (block ∷ bs) g (λ ys. all (map clause_slots ys)) shared_slots (part (r ∷ rs)) (uses.clauses listed rs (r ∷ rs) xs) (element (block ∷ bs)) (clauses file visit bs (block ∷ bs) xs) make
        (elements (r ∷ rs) (block ∷ bs)) (clauses_list rs (r ∷ rs) bs (block ∷ bs) (λ y. lists_inside r rs block bs expr_slots (listed rs y) (visit bs y) inside (visits rs bs y)) xs) is
        there begun t x tt fits_there h in
        let one_more : length there ≡ number + 1 = length-append opened (block ∷ []) in
        let last : Listed there made.0 (inner (number + 1)).0 (inner (number + 1)).1 t.slots = subst (λ (k : ℕ). Listed there made.0 (inner k).0 (inner k).1 t.slots) one_more made.2 in
        (made.0, made.1, joined opened (block ∷ []) [] (inner (number + 1)).0 [] made.0 (inner (number + 1)).1 t.slots tt last)

    comprehension_lists : (rs : List Block) (bs : List BlockParts) (xs : List Clause) → Lists rs bs [] expr_slots (uses.comprehension listed part rs xs) (comprehension file visit element make bs xs)
    unfolding comprehension
    comprehension_lists rs [] xs opened s t x inside fits h = absurd inside
    comprehension_lists rs (b ∷ bs) xs opened s t x inside fits h =
        lists_map rs (b ∷ bs) [] shared_slots expr_slots (uses.comprehension listed part rs xs) (in_block file visit element make (b ∷ bs) xs) (λ w. w frame.Shared) (block_lists rs (b ∷ bs) xs) (λ w. refl) opened s t x inside fits h

  -- ---- expressions

  all_list : (rs : List Block) (bs : List BlockParts) (xs : List Expr) → Lists rs bs [] exprs_slots (uses.all (listed rs) xs) (each (visit bs) [] xs)
  all_list rs bs xs = lists_all rs bs expr_slots (listed rs) (visit bs) (visits rs bs) xs

  expr_by_lists : (rs : List Block) (bs : List BlockParts) (o : ExprLayer) → Lists rs bs [] expr_slots (uses.expr_by listed rs o) (expr_by file visit bs o)
  expr_by_lists rs bs (Expr-F.Expr::Name n) = lists_map rs bs [] name_slots expr_slots (uses.name_use rs n.name) (use_at file bs n) (λ m. e.Name m) (use_lists file rs bs n) S.slots-Name
  expr_by_lists rs bs (Expr-F.Int i) = lists_pure rs bs [] expr_slots (e.Int i) (S.slots-Int i)
  expr_by_lists rs bs (Expr-F.String b) = lists_pure rs bs [] expr_slots (e.String b) (S.slots-String b)
  expr_by_lists rs bs (Expr-F.Expr::List xs) = lists_map rs bs [] exprs_slots expr_slots (uses.all (listed rs) xs) (each (visit bs) [] xs) (λ ys. e.List ys) (all_list rs bs xs) S.slots-List
  expr_by_lists rs bs (Expr-F.Expr::Tuple xs) = lists_map rs bs [] exprs_slots expr_slots (uses.all (listed rs) xs) (each (visit bs) [] xs) (λ ys. e.Tuple ys) (all_list rs bs xs) S.slots-Tuple
  expr_by_lists rs bs (Expr-F.Dict ps) =
      lists_map rs bs [] (λ qs. all (map pair_slots qs)) expr_slots (uses.all (uses.pair listed rs) ps) (each (pair file visit bs) [] ps) (λ qs. e.Dict qs)
      (lists_all rs bs pair_slots (uses.pair listed rs) (pair file visit bs) (pair_lists rs bs) ps) S.slots-Dict
  expr_by_lists rs bs (Expr-F.ListComprehension x xs own) =
      comprehension_lists (λ cs. visit cs x) (λ qs. listed qs x) e.ListComprehension expr_slots (λ qs cs. visits qs cs x) S.slots-ListComprehension rs bs xs
  expr_by_lists rs bs (Expr-F.DictComprehension p xs own) =
      comprehension_lists (λ cs. pair file visit cs p) (λ qs. uses.pair listed qs p) e.DictComprehension pair_slots (λ qs cs. pair_lists qs cs p) S.slots-DictComprehension rs bs xs
  expr_by_lists rs bs (Expr-F.Primary x ss) = primary_lists rs bs x ss
  expr_by_lists rs bs (Expr-F.Unary os x) = lists_map rs bs [] expr_slots expr_slots (listed rs x) (visit bs x) (λ y. e.Unary os y) (visits rs bs x) (S.slots-Unary os)
  expr_by_lists rs bs (Expr-F.Binary x os) =
      lists_two rs bs expr_slots (λ ps. all (map operation_slots ps)) expr_slots (listed rs x) (uses.all (uses.operation listed rs) os) (visit bs x) (each (operation file visit bs) [] os) (λ y ps. e.Binary y ps)
      (visits rs bs x) (lists_all rs bs operation_slots (uses.operation listed rs) (operation file visit bs) (operation_lists rs bs) os) S.slots-Binary
  expr_by_lists rs bs (Expr-F.Compare x o z) =
      lists_two rs bs expr_slots expr_slots expr_slots (listed rs x) (listed rs z) (visit bs x) (visit bs z) (λ y w. e.Compare y o w) (visits rs bs x) (visits rs bs z) (λ y w. S.slots-Compare y o w)
  expr_by_lists rs bs (Expr-F.Conditional xs z) =
      lists_two rs bs (λ ys. all (map choice_slots ys)) expr_slots expr_slots (uses.all (uses.choice listed rs) xs) (listed rs z) (each (choice file visit bs) [] xs) (visit bs z) (λ ys w. e.Conditional ys w)
      (lists_all rs bs choice_slots (uses.choice listed rs) (choice file visit bs) (choice_lists rs bs) xs) (visits rs bs z) S.slots-Conditional
  expr_by_lists rs bs Expr-F.Lambda = lists_pure rs bs [] expr_slots e.Lambda S.slots-Lambda

-- a name that no block holds is no use
plain_name : (layers : ℕ) (rs : List Block) (x : Expr) (n : Identifier) (k : ℕ) → out-Expr x ≡ Expr-F.Expr::Name n → use_among rs n.name ≡ [] → uses.expr_to layers rs x k ≡ ([], k)
unfolding uses.expr_to
plain_name zero rs x n k is none = refl
plain_name (suc layers) rs x n k is none = ap (λ (o : ExprLayer). uses.expr_by (uses.expr_to layers) rs o k) is ∙ ap (λ (us : List Use). (us, k)) none

pub expr_lists : (layers : ℕ) (file : FileParts) (rs : List Block) (bs : List BlockParts) (x : Expr) → Lists rs bs [] expr_slots (uses.expr_to layers rs x) (expr_to layers file bs x)
unfolding expr_to uses.expr_to
expr_lists zero file rs bs x = lists_stop rs bs [] expr_slots (uses.expr_to zero rs x) (fault_at f.Nesting 0)
expr_lists (suc layers) file rs bs x = expr_by_lists file (expr_to layers file) (uses.expr_to layers) (expr_lists layers file) (plain_name layers) rs bs (out-Expr x)

module _ (file : FileParts) where
  pub an_expr_lists : (rs : List Block) (bs : List BlockParts) (x : Expr) → Lists rs bs [] expr_slots (uses.expr rs x) (expr file bs x)
  unfolding expr
  an_expr_lists rs bs x = expr_lists max_layers file rs bs x

  pub a_target_lists : (rs : List Block) (bs : List BlockParts) (u : TargetExpr) → Lists rs bs [] target_slots (uses.target rs u) (target file bs u)
  unfolding target
  a_target_lists rs bs u = target_lists file (expr_to max_layers file) (uses.expr_to max_layers) (expr_lists max_layers file) (plain_name max_layers) max_layers rs bs u
