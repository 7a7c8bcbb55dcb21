-- Actions that run alike: a relation that respects the rules.
use Rattle.std.proofs.Common.{◌≡◌, ◌∙◌, Bool, true, false, List, [], ◌∷◌, Option, Some, None, refl, sym, ap}
use Rattle.std.specs.Prelude.{if◌then◌else◌}
use Rattle.bq_parse_grammar.specs.declared.tree.Argument.TheOpen.{Suffix-F}
use Rattle.bq_parse_grammar.specs.declared.tree.Expr.{out-Expr}
use Rattle.bq_parse_grammar.specs.declared.tree.Suffix.{Suffix, out-Suffix, roll-Suffix, roll-out-Suffix}
use Rattle.bq_parse_grammar.specs.Targets.{SuffixLayer}
use Rattle.bq_parse_grammar.specs.declared.tree.Argument.{Argument}
use Rattle.bq_parse_grammar.specs.declared.tree.Identifier.{Identifier}
use Rattle.bq_parse_grammar.specs.declared.tree.Suffix.TheVariants as suffix
use Rattle.bq_predeclared.specs.declared.predeclared.Predeclared.{Predeclared}
use Rattle.bq_builtin_machine.specs.Action.{Action, Run, done, stopped, following}
use Rattle.bq_eval_spec.specs.Primitives.{Primitives}
use Rattle.bq_eval_spec.specs.Environment.{NamespaceCall, Scoping}
use Rattle.bq_eval_spec.specs.Slots.{member_at, called_by, called, by_slots}
use Rattle.bq_eval_spec.specs.Names as names
use Rattle.bq_eval_spec.specs.Names.{Round, namespace_at, by_names}
use Rattle.bq_resolve_scope.specs.Expressions.{NamedSpace, member_by, member_call}
use Rattle.bq_resolve_scope.specs.Universe.{member_named}
use Rattle.bq_eval_laws.specs.Depth.{MembersAreSuffixes, ExpressionDepth, StatementDepth, BindingDepth, PlaceDepth}
use Rattle.bq_eval_laws.proofs.Respects.{Relation, Respects}
use Rattle.bq_eval_laws.proofs.TargetRules.{bind_depths, places_depths}
use Rattle.bq_eval_laws.proofs.ExpressionRules.{expr_depths}
use Rattle.bq_eval_laws.proofs.StatementRules.{run_depths}

abbrev pub RunAlike : (S : Type 0) → Relation S
RunAlike S A a b = (s : S) → a s ≡ b s

alike_after : {S A B : Type 0} (r : Run S A) (f g : A → Action S B) → ((x : A) (s : S) → f x s ≡ g x s) → following r f ≡ following r g
alike_after (done x s) f g h = h x s
alike_after (stopped why) f g h = refl

alike_both : {S A B : Type 0} (a b : Action S A) (f g : A → Action S B) → ((s : S) → a s ≡ b s) → ((x : A) (s : S) → f x s ≡ g x s) → (s : S) → following (a s) f ≡ following (b s) g
alike_both a b f g h k s = alike_after (a s) f g k ∙ ap (λ r. following r g) (h s)

alike_if : {S A : Type 0} (t : Bool) (a b c d : Action S A) (s : S) → a s ≡ b s → c s ≡ d s → (if t then a else c) s ≡ (if t then b else d) s
alike_if true a b c d s h k = h
alike_if false a b c d s h k = k

pub alike : {S : Type 0} (m : Primitives S) → Respects m (RunAlike S)
alike m = record {
  of_value = λ A x s. refl;
  of_stop = λ A kind s. refl;
  of_both = λ A B a b f g h k s. alike_both a b f g h k s;
  of_choice = λ A v a b c d h k s. alike_if (m.truth v s) a b c d s (h s) (k s);
  of_step = λ n s. refl;
  of_unary = λ o v s. refl;
  of_binary = λ o v w s. refl;
  of_compare = λ o v w s. refl;
  of_augment = λ o v w s. refl;
  of_index = λ v i s. refl;
  of_set_index = λ v i w s. refl;
  of_slice = λ v i j k s. refl;
  of_make = λ c s. refl;
  of_add = λ c v s. refl;
  of_add_pair = λ c k v s. refl;
  of_put_pair = λ c k v s. refl;
  of_parts = λ count v s. refl;
  of_begin_walk = λ v s. refl;
  of_end_walk = λ v s. refl;
  of_pass = λ p v s. refl;
  of_pass_named = λ p name v s. refl;
  of_pass_all = λ p v s. refl;
  of_pass_all_named = λ p v s. refl;
  of_built_in = λ x p s. refl;
  of_rule_function = λ function p s. refl;
  of_cell = λ home number p s. refl;
  of_method = λ name v p s. refl;
  of_enter = λ home place s. refl;
  of_leave = λ s. refl;
}

module _ {S R V : Type 0} (m : Primitives S) (scoping : Scoping R V) where
  pub expression_depth : ExpressionDepth m scoping
  expression_depth call round n k x env s are fits few = expr_depths m scoping (RunAlike S) (alike m) call (λ v p t. refl) round are n k few x fits env s

  pub statement_depth : StatementDepth m scoping
  statement_depth eval n k x env s fits few = run_depths m scoping (RunAlike S) (alike m) eval (λ y e t. refl) n k few x fits env s

  pub binding_depth : BindingDepth m scoping
  binding_depth n k t v env ps s fits few = bind_depths m scoping (RunAlike S) (alike m) n k few t fits v env ps s

  pub place_depth : PlaceDepth m scoping
  place_depth eval n k t env ps s fits few = places_depths m scoping (RunAlike S) (alike m) eval (λ y e t. refl) n k few t fits env ps s

-- ---- by slots

-- the parts of two calls that are one
same_call : (a d : Option Predeclared) (b e : List Argument) (c f : List Suffix) → (let x : NamespaceCall = (a, b, c) in let y : NamespaceCall = (d, e, f) in Some x ≡ Some y) → (b ≡ e) × (c ≡ f)
same_call a d b e c f h =
    let x : NamespaceCall = (a, b, c) in
    let y : NamespaceCall = (d, e, f) in
    let same : x ≡ y = cc in
    let second : NamespaceCall → List Argument = λ t. t.1 in
    let third : NamespaceCall → List Suffix = λ t. t.2 in
    (ap second same, ap third same)

member_of_layer : (p : Option Predeclared) (s : Suffix) (ss : List Suffix) (o : SuffixLayer) → roll-Suffix o ≡ s → (found : Option Predeclared) (xs : List Argument) (rest : List Suffix)
    → called_by p o ss ≡ Some (found, xs, rest) → (n : Identifier) × (s ∷ ss ≡ suffix.Method n xs ∷ rest)
member_of_layer (Some p) s ss (Suffix-F.Method n ys) e found xs rest h =
    let parts : (ys ≡ xs) × (ss ≡ rest) = same_call (Some p) found ys xs ss rest h in
    let first : s ≡ suffix.Method n xs = sym e ∙ (suffix.rolls-Method n ys ∙ ap (λ zs. suffix.Method n zs) parts.0) in
    (n, ap (λ z. z ∷ ss) first ∙ ap (λ zs. suffix.Method n xs ∷ zs) parts.1)
member_of_layer (Some p) s ss (Suffix-F.Call ys) e found xs rest h = absurd (let no : ⊥ = cc in no)
member_of_layer (Some p) s ss (Suffix-F.Attribute n) e found xs rest h = absurd (let no : ⊥ = cc in no)
member_of_layer (Some p) s ss (Suffix-F.Suffix::Index i) e found xs rest h = absurd (let no : ⊥ = cc in no)
member_of_layer (Some p) s ss (Suffix-F.Slice i j k) e found xs rest h = absurd (let no : ⊥ = cc in no)
member_of_layer None s ss o e found xs rest h = absurd (let no : ⊥ = cc in no)

member_of : (p : Option Predeclared) (ss : List Suffix) (found : Option Predeclared) (xs : List Argument) (rest : List Suffix) → called p ss ≡ Some (found, xs, rest)
    → (n : Identifier) × (ss ≡ suffix.Method n xs ∷ rest)
member_of p [] found xs rest h = absurd (let no : ⊥ = cc in no)
member_of p (s ∷ ss) found xs rest h = member_of_layer p s ss (out-Suffix s) (roll-out-Suffix s) found xs rest h

pub slot_members : MembersAreSuffixes by_slots
slot_members round env x ss found xs rest h = member_of (member_at (out-Expr x)) ss found xs rest h

-- ---- by names

member_by_name : (s : Suffix) (ss : List Suffix) (o : SuffixLayer) → roll-Suffix o ≡ s → (round : Round) (space : NamedSpace) (found : Option Predeclared) (xs : List Argument)
    (rest : List Suffix) → names.member_of round (member_by space o ss) ≡ Some (found, xs, rest) → (n : Identifier) × (s ∷ ss ≡ suffix.Method n xs ∷ rest)
member_by_name s ss (Suffix-F.Method n ys) e round space found xs rest h =
    let parts : (ys ≡ xs) × (ss ≡ rest) = same_call (member_named space.0 round.universe.rules n.name) found ys xs ss rest h in
    let first : s ≡ suffix.Method n xs = sym e ∙ (suffix.rolls-Method n ys ∙ ap (λ zs. suffix.Method n zs) parts.0) in
    (n, ap (λ z. z ∷ ss) first ∙ ap (λ zs. suffix.Method n xs ∷ zs) parts.1)
member_by_name s ss (Suffix-F.Call ys) e round space found xs rest h = absurd (let no : ⊥ = cc in no)
member_by_name s ss (Suffix-F.Attribute n) e round space found xs rest h = absurd (let no : ⊥ = cc in no)
member_by_name s ss (Suffix-F.Suffix::Index i) e round space found xs rest h = absurd (let no : ⊥ = cc in no)
member_by_name s ss (Suffix-F.Slice i j k) e round space found xs rest h = absurd (let no : ⊥ = cc in no)

member_among : (round : Round) (o : Option NamedSpace) (ss : List Suffix) (found : Option Predeclared) (xs : List Argument) (rest : List Suffix)
    → names.member_of round (member_call o ss) ≡ Some (found, xs, rest) → (n : Identifier) × (ss ≡ suffix.Method n xs ∷ rest)
member_among round None ss found xs rest h = absurd (let no : ⊥ = cc in no)
member_among round (Some space) [] found xs rest h = absurd (let no : ⊥ = cc in no)
member_among round (Some space) (s ∷ ss) found xs rest h = member_by_name s ss (out-Suffix s) (roll-out-Suffix s) round space found xs rest h

pub name_members : MembersAreSuffixes by_names
name_members round env x ss found xs rest h = member_among round (namespace_at round (out-Expr x) env) ss found xs rest h
