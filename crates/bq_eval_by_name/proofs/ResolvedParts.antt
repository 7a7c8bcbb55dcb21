-- What is in an expression resolves to what means the same: pairs, operations, choices, arguments and suffixes.
use Rattle.std.proofs.Common.{◌≡◌, List, [], ◌∷◌, Option, Some, None, refl, sym, ap, ◌∙◌, subst}
use Rattle.bq_base.specs.declared.fault.NameFault.TheVariants as f
use Rattle.bq_parse_grammar.specs.declared.tree.Argument.TheOpen.{Argument-F, Expr-F, Suffix-F}
use Rattle.bq_parse_grammar.specs.declared.tree.Argument.{Argument, out-Argument}
use Rattle.bq_parse_grammar.specs.declared.tree.Argument.TheVariants as argument
use Rattle.bq_parse_grammar.specs.declared.tree.Choice.{Choice, out-Choice, roll-Choice, out-roll-Choice}
use Rattle.bq_parse_grammar.specs.declared.tree.Expr.{Expr, out-Expr, out-roll-Expr}
use Rattle.bq_parse_grammar.specs.declared.tree.Expr.TheVariants as e
use Rattle.bq_parse_grammar.specs.declared.tree.Identifier.{Identifier}
use Rattle.bq_parse_grammar.specs.declared.tree.Operation.{Operation, out-Operation, roll-Operation, out-roll-Operation}
use Rattle.bq_parse_grammar.specs.declared.tree.Pair.{Pair, out-Pair, roll-Pair, out-roll-Pair}
use Rattle.bq_parse_grammar.specs.declared.tree.Referent.TheVariants as b
use Rattle.bq_parse_grammar.specs.declared.tree.Suffix.{Suffix, out-Suffix, out-roll-Suffix}
use Rattle.bq_parse_grammar.specs.declared.tree.Suffix.TheVariants as suffix
use Rattle.bq_parse_grammar.specs.Targets.{ExprLayer, SuffixLayer}
use Rattle.bq_predeclared.specs.declared.predeclared.Predeclared.{Predeclared}
use Rattle.bq_resolve_scope.specs.Expressions as scope
use Rattle.bq_resolve_scope.specs.Expressions.{refer, NamedSpace, MemberCall}
use Rattle.bq_resolve_scope.specs.Scope.{BlockParts, FileParts}
use Rattle.bq_resolve_scope.specs.Universe.{member_named}
use Rattle.bq_resolve_scope.specs.Visit.{Visit, ◌>>=◌, pure, given, fault_of, optional}
use Rattle.bq_value.specs.Datum.{Datum}
use Rattle.bq_builtin_machine.specs.Action.{Action}
use Rattle.bq_builtin_machine.specs.Args.{Passed}
use Rattle.bq_eval_spec.specs.Frame.{Frame, Surroundings}
use Rattle.bq_eval_spec.specs.Primitives.{Primitives}
use Rattle.bq_eval_spec.specs.Expressions as forms
use Rattle.bq_eval_spec.specs.Slots.{member_at, called, by_slots}
use Rattle.bq_eval_spec.specs.Trees.{Eval, Calls, ArgumentLayer}
use Rattle.bq_eval_spec.specs.Names.{Env, Round, member_of, by_names}
use Rattle.bq_eval_by_name.specs.Alike.{Alike, Same}
use Rattle.bq_eval_by_name.specs.Shows.{Shows, Around}
use Rattle.bq_eval_by_name.proofs.Walks.{Pairwise, Optional, After, any, Walks, walks_bind, walks_weaker, walks_pure, walks_given, walks_map, walks_two, walks_three, walks_each, walks_all, walks_optional}
use Rattle.bq_eval_by_name.proofs.Uses.{namespace_is}
use Rattle.bq_eval_by_name.proofs.Parts.{Both, ExprAgree, Agree, PairAgree, OperationAgree, ChoiceAgree, ArgumentLayerAgree, ArgumentAgree, SuffixLayerAgree, SuffixAgree}
use Rattle.bq_eval_by_name.proofs.Parts as parts
use Rattle.bq_eval_by_name.proofs.Making.{made_expr, made_argument, made_suffix}

-- the layer is no name of a namespace
abbrev pub IsPlain : ExprLayer → Type 0
IsPlain p = member_at p ≡ None

-- what an expression resolves to: it means the same, and is no name of a namespace
abbrev pub Stands : {S : Type 0} → Eval S Env → Eval S Frame → List BlockParts → Expr → Expr → Type 0
Stands E F blocks x z = IsPlain (out-Expr z) × ExprAgree (Shows blocks) E F x z

-- the same of what is done in an environment, and of a layer that is looked at more
abbrev pub Means : {S : Type 0} → Primitives S → Eval S Frame → Calls S → Surroundings → List BlockParts → (Env → Action S Datum) → ExprLayer → Type 0
Means m F other surroundings blocks g p = IsPlain p × Both (Shows blocks) g (forms.expr_by m by_slots F other surroundings p)

module _ {S : Type 0} (m : Primitives S) (file : FileParts) (visit : List BlockParts → Expr → Visit Expr) (E : Eval S Env) (F : Eval S Frame) (blocks : List BlockParts)
    (visits : (x : Expr) → Walks {A = Expr} blocks (λ z. Agree m E F (Shows blocks) x z) (visit blocks x)) where
  -- what means the same here
  abbrev Agreed : Expr → Expr → Type 0
  Agreed x z = Agree m E F (Shows blocks) x z

  pub pair_walks : (p : Pair) → Walks {A = Pair} blocks (λ z. PairAgree m E F (Shows blocks) p z) (scope.pair file visit blocks p)
  unfolding scope.pair
  pair_walks p =
      walks_two blocks (λ z. Agreed (out-Pair p).key z) (λ z. Agreed (out-Pair p).value z) (λ z. PairAgree m E F (Shows blocks) p z) (visit blocks (out-Pair p).key) (visit blocks (out-Pair p).value)
      (λ k v. roll-Pair (record { key = k; value = v })) made_pair (visits (out-Pair p).key) (visits (out-Pair p).value)
    where
      made_pair : (k v : Expr) → Agreed (out-Pair p).key k → Agreed (out-Pair p).value v → PairAgree m E F (Shows blocks) p (roll-Pair (record { key = k; value = v }))
      made_pair k v h l = subst (λ z. Agreed (out-Pair p).key z.key × Agreed (out-Pair p).value z.value) (sym (out-roll-Pair (record { key = k; value = v }))) (h, l)

  pub operation_walks : (o : Operation) → Walks {A = Operation} blocks (λ z. OperationAgree m E F (Shows blocks) o z) (scope.operation file visit blocks o)
  unfolding scope.operation
  operation_walks o =
      walks_map blocks (λ z. Agreed (out-Operation o).operand z) (λ z. OperationAgree m E F (Shows blocks) o z) (visit blocks (out-Operation o).operand)
      (λ x. roll-Operation (record { operator = (out-Operation o).operator; operand = x })) made_operation (visits (out-Operation o).operand)
    where
      made_operation : (y : Expr) → Agreed (out-Operation o).operand y → OperationAgree m E F (Shows blocks) o (roll-Operation (record { operator = (out-Operation o).operator; operand = y }))
      made_operation y h =
          subst (λ z. ((out-Operation o).operator ≡ z.operator) × Agreed (out-Operation o).operand z.operand) (sym (out-roll-Operation (record { operator = (out-Operation o).operator; operand = y }))) (refl, h)

  pub choice_walks : (a : Choice) → Walks {A = Choice} blocks (λ z. ChoiceAgree m E F (Shows blocks) a z) (scope.choice file visit blocks a)
  unfolding scope.choice
  choice_walks a =
      walks_two blocks (λ z. Agreed (out-Choice a).value z) (λ z. Agreed (out-Choice a).condition z) (λ z. ChoiceAgree m E F (Shows blocks) a z) (visit blocks (out-Choice a).value)
      (visit blocks (out-Choice a).condition) (λ v x. roll-Choice (record { value = v; condition = x })) made_choice (visits (out-Choice a).value) (visits (out-Choice a).condition)
    where
      made_choice : (v x : Expr) → Agreed (out-Choice a).value v → Agreed (out-Choice a).condition x → ChoiceAgree m E F (Shows blocks) a (roll-Choice (record { value = v; condition = x }))
      made_choice v x h l = subst (λ z. Agreed (out-Choice a).value z.value × Agreed (out-Choice a).condition z.condition) (sym (out-roll-Choice (record { value = v; condition = x }))) (h, l)

  -- ---- arguments

  abbrev ArgumentGood : ArgumentLayer → Argument → Type 0
  ArgumentGood o z = ArgumentLayerAgree m E F (Shows blocks) o (out-Argument z)

  argument_by_walks : (o : ArgumentLayer) → Walks {A = Argument} blocks (λ z. ArgumentGood o z) (scope.argument_by file visit blocks o)
  argument_by_walks (Argument-F.Positional x) =
      walks_map blocks (λ z. Agreed x z) (λ z. ArgumentGood (Argument-F.Positional x) z) (visit blocks x) (λ y. argument.Positional y)
      (λ y h. made_argument (λ q. ArgumentLayerAgree m E F (Shows blocks) (Argument-F.Positional x) q) (argument.Positional y) (Argument-F.Positional y) (argument.rolls-Positional y)
      (parts.positional_alike m E F (Shows blocks) x y h)) (visits x)
  argument_by_walks (Argument-F.Named n x) =
      walks_map blocks (λ z. Agreed x z) (λ z. ArgumentGood (Argument-F.Named n x) z) (visit blocks x) (λ y. argument.Named n y)
      (λ y h. made_argument (λ q. ArgumentLayerAgree m E F (Shows blocks) (Argument-F.Named n x) q) (argument.Named n y) (Argument-F.Named n y) (argument.rolls-Named n y)
      (parts.named_alike m E F (Shows blocks) n x y h)) (visits x)
  argument_by_walks (Argument-F.Star x) =
      walks_map blocks (λ z. Agreed x z) (λ z. ArgumentGood (Argument-F.Star x) z) (visit blocks x) (λ y. argument.Star y)
      (λ y h. made_argument (λ q. ArgumentLayerAgree m E F (Shows blocks) (Argument-F.Star x) q) (argument.Star y) (Argument-F.Star y) (argument.rolls-Star y)
      (parts.star_alike m E F (Shows blocks) x y h)) (visits x)
  argument_by_walks (Argument-F.StarStar x) =
      walks_map blocks (λ z. Agreed x z) (λ z. ArgumentGood (Argument-F.StarStar x) z) (visit blocks x) (λ y. argument.StarStar y)
      (λ y h. made_argument (λ q. ArgumentLayerAgree m E F (Shows blocks) (Argument-F.StarStar x) q) (argument.StarStar y) (Argument-F.StarStar y) (argument.rolls-StarStar y)
      (parts.star_star_alike m E F (Shows blocks) x y h)) (visits x)

  argument_walks : (a : Argument) → Walks {A = Argument} blocks (λ z. ArgumentAgree m E F (Shows blocks) a z) (scope.argument_by file visit blocks (out-Argument a))
  argument_walks a = argument_by_walks (out-Argument a)

  pub arguments_walk : (xs : List Argument) → Walks {A = List Argument} blocks (λ ys. Pairwise (ArgumentAgree m E F (Shows blocks)) xs ys) (scope.arguments file visit blocks xs)
  unfolding scope.arguments
  arguments_walk xs = walks_all blocks (ArgumentAgree m E F (Shows blocks)) (λ x. scope.argument_by file visit blocks (out-Argument x)) argument_walks xs

  optional_walks : (o : Option Expr) → Walks {A = Option Expr} blocks (λ y. Optional (Agree m E F (Shows blocks)) o y) (optional (visit blocks) o)
  optional_walks o = walks_optional blocks (Agree m E F (Shows blocks)) (visit blocks) visits o

  module _ (call other : Calls S) (called_alike : (v : Datum) (p : Passed) (s : S) → call v p s ≡ other v p s) where
    -- ---- suffixes

    abbrev LayerGood : SuffixLayer → SuffixLayer → Type 0
    LayerGood o q = SuffixLayerAgree m E F (Shows blocks) call other called_alike o q

    abbrev SuffixGood : SuffixLayer → Suffix → Type 0
    SuffixGood o z = LayerGood o (out-Suffix z)

    suffix_by_walks : (o : SuffixLayer) → Walks {A = Suffix} blocks (λ z. SuffixGood o z) (scope.suffix_by file visit blocks o)
    suffix_by_walks (Suffix-F.Call xs) =
        walks_map blocks (λ ys. Pairwise (ArgumentAgree m E F (Shows blocks)) xs ys) (λ z. SuffixGood (Suffix-F.Call xs) z) (scope.arguments file visit blocks xs) (λ ys. suffix.Call ys)
        (λ ys h. made_suffix (λ q. LayerGood (Suffix-F.Call xs) q) (suffix.Call ys) (Suffix-F.Call ys) (suffix.rolls-Call ys) (parts.call_alike m E F (Shows blocks) call other called_alike xs ys h)) (arguments_walk xs)
    suffix_by_walks (Suffix-F.Method n xs) =
        walks_map blocks (λ ys. Pairwise (ArgumentAgree m E F (Shows blocks)) xs ys) (λ z. SuffixGood (Suffix-F.Method n xs) z) (scope.arguments file visit blocks xs) (λ ys. suffix.Method n ys)
        (λ ys h. made_suffix (λ q. LayerGood (Suffix-F.Method n xs) q) (suffix.Method n ys) (Suffix-F.Method n ys) (suffix.rolls-Method n ys) (parts.method_alike m E F (Shows blocks) n.name xs ys h)) (arguments_walk xs)
    suffix_by_walks (Suffix-F.Attribute n) =
        walks_pure blocks (λ z. SuffixGood (Suffix-F.Attribute n) z) (suffix.Attribute n)
        (made_suffix (λ q. LayerGood (Suffix-F.Attribute n) q) (suffix.Attribute n) (Suffix-F.Attribute n) (suffix.rolls-Attribute n) (λ env frame shows v s. refl))
    suffix_by_walks (Suffix-F.Suffix::Index i) =
        walks_map blocks (λ z. Agreed i z) (λ z. SuffixGood (Suffix-F.Suffix::Index i) z) (visit blocks i) (λ j. suffix.Index j)
        (λ j h. made_suffix (λ q. LayerGood (Suffix-F.Suffix::Index i) q) (suffix.Index j) (Suffix-F.Suffix::Index j) (suffix.rolls-Index j) (parts.index_alike m E F (Shows blocks) i j h)) (visits i)
    suffix_by_walks (Suffix-F.Slice i j k) =
        walks_three blocks (λ y. Optional (Agree m E F (Shows blocks)) i y) (λ y. Optional (Agree m E F (Shows blocks)) j y) (λ y. Optional (Agree m E F (Shows blocks)) k y) (λ z. SuffixGood (Suffix-F.Slice i j k) z)
        (optional (visit blocks) i) (optional (visit blocks) j) (optional (visit blocks) k) (λ x y z. suffix.Slice x y z)
        (λ x y z p q r. made_suffix (λ l. LayerGood (Suffix-F.Slice i j k) l) (suffix.Slice x y z) (Suffix-F.Slice x y z) (suffix.rolls-Slice x y z) (parts.slice_alike m E F (Shows blocks) i j k x y z p q r))
        (optional_walks i) (optional_walks j) (optional_walks k)

    suffix_walks : (a : Suffix) → Walks {A = Suffix} blocks (λ z. SuffixAgree m E F (Shows blocks) call other called_alike a z) (scope.suffix_by file visit blocks (out-Suffix a))
    suffix_walks a = suffix_by_walks (out-Suffix a)

    abbrev SuffixesAfter : List Suffix → List Suffix → List Suffix → Type 0
    SuffixesAfter so_far ss zs = After (SuffixAgree m E F (Shows blocks) call other called_alike) so_far ss zs

    suffixes_walk : (so_far : List Suffix) (ss : List Suffix) → Walks {A = List Suffix} blocks (λ zs. SuffixesAfter so_far ss zs) (scope.suffixes file visit blocks so_far ss)
    unfolding scope.suffixes
    suffixes_walk so_far ss =
        walks_each blocks (SuffixAgree m E F (Shows blocks) call other called_alike) (λ _. Unit {0}) (λ x. scope.suffix_by file visit blocks (out-Suffix x)) (λ x _. suffix_walks x) so_far ss (any ss)

    -- ---- an operand and its suffixes

    module _ (surroundings : Surroundings) where
      abbrev Meant : (Env → Action S Datum) → ExprLayer → Type 0
      Meant g p = Means m F other surroundings blocks g p

      abbrev Good : (Env → Action S Datum) → Expr → Type 0
      Good g z = Meant g (out-Expr z)

      no_call : (ts : List Suffix) → called None ts ≡ None
      no_call [] = refl
      no_call (t ∷ ts) = refl

      -- by slots, an operand that is no namespace is no call of a member
      operand_is : (y : Expr) (ts : List Suffix) (frame : Frame) (s : S) → IsPlain (out-Expr y) → forms.primary m by_slots F other surroundings y ts frame s ≡ forms.operand m F other y ts frame s
      unfolding forms.primary
      operand_is y ts frame s plain = rw (plain, no_call ts) refl

      operand_walks : ((x : Expr) → Walks {A = Expr} blocks (λ z. Stands E F blocks x z) (visit blocks x)) → (x : Expr) (ss : List Suffix)
          → Walks {A = Expr} blocks (λ z. Good (forms.operand m E call x ss) z) (scope.operand file visit blocks x ss)
      unfolding scope.operand
      operand_walks values x ss =
          walks_two blocks (λ z. Stands E F blocks x z) (λ zs. SuffixesAfter [] ss zs) (λ z. Good (forms.operand m E call x ss) z) (visit blocks x) (scope.suffixes file visit blocks [] ss) (λ y ts. e.Primary y ts)
          (λ y ts h a. made_expr (λ p. Meant (forms.operand m E call x ss) p) (e.Primary y ts) (Expr-F.Primary y ts) (e.rolls-Primary y ts) (
            refl,
            λ env frame shows s. rw (operand_is y ts frame s h.0)
                (subst (λ z. Alike Same (forms.operand m E call x ss env s) (forms.operand m F other y z frame s)) (sym a.2) (parts.operand_alike m E F (Shows blocks) call other called_alike x y ss a.0 h.1 a.1 env frame shows s)),
          ))
          (values x) (suffixes_walk [] ss)

      -- by slots, the name of a namespace and its method are the call of the member that both refer to
      member_is : (n i : Identifier) (p : Predeclared) (ys : List Argument) (ts : List Suffix) (frame : Frame) (s : S) → n.referent ≡ b.Member p
          → forms.primary m by_slots F other surroundings (e.Name n) (suffix.Method i ys ∷ ts) frame s ≡ forms.call_member m F other (Some p) ys ts frame s
      unfolding forms.primary
      member_is n i p ys ts frame s refers = rw (name_is, method_is, refers) refl
        where
          name_is : out-Expr (e.Name n) ≡ Expr-F.Expr::Name n
          name_is = sym (ap out-Expr (e.rolls-Name n)) ∙ out-roll-Expr (Expr-F.Expr::Name n)

          method_is : out-Suffix (suffix.Method i ys) ≡ Suffix-F.Method i ys
          method_is = sym (ap out-Suffix (suffix.rolls-Method i ys)) ∙ out-roll-Suffix (Suffix-F.Method i ys)

      module _ (round : Round) (around : Around file round surroundings) where
        member_walks : (space : NamedSpace) (n : Identifier) (xs : List Argument) (ss : List Suffix)
            → Walks {A = Expr} blocks (λ z. Good (forms.call_member m E call (member_named space.0 round.universe.rules n.name) xs ss) z) (scope.call_member file visit blocks space n xs ss)
        unfolding scope.call_member
        member_walks space n xs ss =
            walks_bind blocks (λ p. member_named space.0 file.universe.rules n.name ≡ Some p) (λ z. Good meant z) (given (fault_of f.UnknownName n) (member_named space.0 file.universe.rules n.name))
            (λ p. scope.arguments file visit blocks xs >>= λ ys. scope.suffixes file visit blocks (suffix.Method (refer n (b.Member p)) ys ∷ []) ss >>= λ ts. pure (e.Primary (e.Name (refer space.1 (b.Member p))) ts))
            (walks_given blocks (fault_of f.UnknownName n) (member_named space.0 file.universe.rules n.name))
            (λ p known. walks_bind blocks (λ ys. Pairwise (ArgumentAgree m E F (Shows blocks)) xs ys) (λ z. Good meant z) (scope.arguments file visit blocks xs)
            (λ ys. scope.suffixes file visit blocks (suffix.Method (refer n (b.Member p)) ys ∷ []) ss >>= λ ts. pure (e.Primary (e.Name (refer space.1 (b.Member p))) ts)) (arguments_walk xs)
            (λ ys h. walks_map blocks (λ zs. SuffixesAfter (suffix.Method (refer n (b.Member p)) ys ∷ []) ss zs) (λ z. Good meant z) (scope.suffixes file visit blocks (suffix.Method (refer n (b.Member p)) ys ∷ []) ss)
            (λ ts. e.Primary (e.Name (refer space.1 (b.Member p))) ts) (λ ts a. made p known ys ts h a) (suffixes_walk (suffix.Method (refer n (b.Member p)) ys ∷ []) ss)))
          where
            meant : Env → Action S Datum
            meant = forms.call_member m E call (member_named space.0 round.universe.rules n.name) xs ss

            made : (p : Predeclared) → member_named space.0 file.universe.rules n.name ≡ Some p → (ys : List Argument) (ts : List Suffix) → Pairwise (ArgumentAgree m E F (Shows blocks)) xs ys
                → SuffixesAfter (suffix.Method (refer n (b.Member p)) ys ∷ []) ss ts → Good meant (e.Primary (e.Name (refer space.1 (b.Member p))) ts)
            made p known ys ts h a =
                made_expr (λ q. Meant meant q) (e.Primary (e.Name (refer space.1 (b.Member p))) ts) (Expr-F.Primary (e.Name (refer space.1 (b.Member p))) ts) (e.rolls-Primary (e.Name (refer space.1 (b.Member p))) ts) (
                  refl,
                  λ env frame shows s. rw (a.2, member_is (refer space.1 (b.Member p)) (refer n (b.Member p)) p ys a.0 frame s refl, around.universe, known)
                      (parts.member_alike m E F (Shows blocks) call other called_alike (Some p) xs ys ss a.0 h a.1 env frame shows s),
                )

        primary_by_walks : ((x : Expr) → Walks {A = Expr} blocks (λ z. Stands E F blocks x z) (visit blocks x)) → (x : Expr) (ss : List Suffix) (o : Option MemberCall)
            → Walks {A = Expr} blocks (λ z. Good (forms.primary_by m by_names E call round x ss (member_of round o)) z) (scope.primary_by file visit blocks x ss o)
        primary_by_walks values x ss None = operand_walks values x ss
        primary_by_walks values x ss (Some (space, n, xs, rest)) = member_walks space n xs rest

        pub primary_walks : ((x : Expr) → Walks {A = Expr} blocks (λ z. Stands E F blocks x z) (visit blocks x)) → (x : Expr) (ss : List Suffix)
            → Walks {A = Expr} blocks (λ z. Good (forms.primary m by_names E call round x ss) z) (scope.primary file visit blocks x ss)
        unfolding scope.primary forms.primary
        primary_walks values x ss =
            walks_weaker blocks (λ z. Good (forms.primary_by m by_names E call round x ss (member_of round (scope.member_call (scope.namespace_at file blocks (out-Expr x)) ss))) z)
            (λ z. Good (forms.primary m by_names E call round x ss) z) (scope.primary file visit blocks x ss)
            (λ z h. (
              h.0,
              λ env frame shows s. subst (λ t. Alike Same (forms.primary_by m by_names E call round x ss (member_of round (scope.member_call t ss)) env s) (forms.expr_by m by_slots F other surroundings (out-Expr z) frame s))
                  (sym (namespace_is m round surroundings frame file around blocks env shows (out-Expr x))) (h.1 env frame shows s),
            ))
            (primary_by_walks values x ss (scope.member_call (scope.namespace_at file blocks (out-Expr x)) ss))
