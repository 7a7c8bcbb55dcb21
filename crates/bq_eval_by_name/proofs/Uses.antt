-- A use of a name reads what its slot holds.
use Rattle.std.proofs.Common.{◌≡◌, ℕ, List, Option, Some, None, refl}
use Rattle.std.specs.Option.{option_map}
use Rattle.bq_predeclared.specs.declared.predeclared.Predeclared.{Predeclared}
use Rattle.bq_parse_grammar.specs.declared.tree.Argument.TheOpen.{Expr-F}
use Rattle.bq_parse_grammar.specs.declared.tree.Identifier.{Identifier}
use Rattle.bq_parse_grammar.specs.Targets.{ExprLayer}
use Rattle.bq_parse_grammar.specs.declared.tree.Referent.{Referent}
use Rattle.bq_parse_grammar.specs.declared.tree.Referent.TheVariants as b
use Rattle.bq_resolve_scope.specs.Names.{Name, place_among}
use Rattle.bq_resolve_scope.specs.Scope.{BlockParts, FileParts, or_else, slot_of, file_has, use_of}
use Rattle.bq_resolve_scope.specs.Universe.{universe_has}
use Rattle.bq_resolve_scope.specs.Expressions as scope
use Rattle.bq_resolve_scope.specs.Expressions.{refer}
use Rattle.bq_eval_spec.specs.Frame.{Frame, Surroundings}
use Rattle.bq_eval_spec.specs.Primitives.{Primitives}
use Rattle.bq_eval_spec.specs.Environment.{NameValue, variable, predeclared}
use Rattle.bq_eval_spec.specs.Expressions as forms
use Rattle.bq_eval_spec.specs.Slots.{value_at, member_named, by_slots}
use Rattle.bq_eval_spec.specs.Names as names
use Rattle.bq_eval_spec.specs.Names.{Env, Round, held, by_names}
use Rattle.bq_eval_by_name.specs.Alike.{Alike, Same}
use Rattle.bq_eval_by_name.specs.Shows.{through, Shows, Around}
use Rattle.bq_eval_by_name.proofs.Runs.{itself, then_both}

-- what a name refers to, by the places where it stands
abbrev binding : Option ℕ → Option ℕ → Option ℕ → Option Predeclared → Option Referent
binding o g l u = or_else (option_map b.Local o) (or_else (option_map b.Global g) (or_else (option_map b.Loaded l) (option_map b.Predeclared u)))

plain_of : (o g l : Option ℕ) (u : Option Predeclared) (x : Referent) → binding o g l u ≡ Some x → member_named x ≡ None
plain_of (Some n) g l u x e = let f : x ≡ b.Local n = cc in rw f refl
plain_of None (Some n) l u x e = let f : x ≡ b.Global n = cc in rw f refl
plain_of None None (Some n) u x e = let f : x ≡ b.Loaded n = cc in rw f refl
plain_of None None None (Some p) x e = let f : x ≡ b.Predeclared p = cc in rw f refl
plain_of None None None None x e = absurd (let no : ⊥ = cc in no)

-- a name that is used is that of no namespace
pub use_is_plain : (file : FileParts) (blocks : List BlockParts) (n : Name) (x : Referent) → use_of file blocks n ≡ Some x → member_named x ≡ None
unfolding use_of file_has
use_is_plain file blocks n x e = plain_of (slot_of blocks n) (place_among n file.globals) (place_among n file.loaded) (universe_has file.universe n) x e

module _ {S : Type 0} (m : Primitives S) (round : Round) (surroundings : Surroundings) (frame : Frame) where
  -- what a name is, by these places
  abbrev named : Option ℕ → Option ℕ → Option ℕ → Option Predeclared → Option NameValue
  named o g l u = or_else (option_map variable (or_else (through frame o) (or_else (through surroundings.globals g) (through surroundings.loaded l)))) (option_map predeclared u)

  value_of : (o g l : Option ℕ) (u : Option Predeclared) (x : Referent) → binding o g l u ≡ Some x → named o g l u ≡ value_at surroundings frame x
  value_of (Some n) g l u x e = let f : x ≡ b.Local n = cc in rw f refl
  value_of None (Some n) l u x e = let f : x ≡ b.Global n = cc in rw f refl
  value_of None None (Some n) u x e = let f : x ≡ b.Loaded n = cc in rw f refl
  value_of None None None (Some p) x e = let f : x ≡ b.Predeclared p = cc in rw f refl
  value_of None None None None x e = absurd (let no : ⊥ = cc in no)

  unknown_of : (o g l : Option ℕ) (u : Option Predeclared) → names.is_unknown (named o g l u) ≡ scope.is_unbound (binding o g l u)
  unknown_of (Some n) g l u = refl
  unknown_of None (Some n) l u = refl
  unknown_of None None (Some n) u = refl
  unknown_of None None None (Some p) = refl
  unknown_of None None None None = refl

  module _ (file : FileParts) (around : Around file round surroundings) (blocks : List BlockParts) (env : Env) (shows : Shows blocks env frame) where
    -- by the places of a name
    held_is : (n : Name) → held round env n ≡ named (slot_of blocks n) (place_among n file.globals) (place_among n file.loaded) (universe_has file.universe n)
    unfolding held
    held_is n = rw (shows.reads n, around.globals n, around.loaded n, around.universe) refl

    pub use_alike : (n : Identifier) (x : Referent) → use_of file blocks n.name ≡ Some x → (s : S) → Alike Same (forms.use_of m by_names round n env s) (forms.use_of m by_slots surroundings (refer n x) frame s)
    unfolding use_of file_has forms.use_of
    use_alike n x e s =
        then_both Same (m.step 1 s) (λ _. forms.value_by m (held round env n.name)) (λ _. forms.value_by m (value_at surroundings frame x))
        (λ _ t. rw (held_is n.name, value_of (slot_of blocks n.name) (place_among n.name file.globals) (place_among n.name file.loaded) (universe_has file.universe n.name) x e) (itself (forms.value_by m (value_at surroundings frame x) t)))

    unknown_is : (n : Name) → names.is_unknown (held round env n) ≡ scope.is_unbound (use_of file blocks n)
    unfolding use_of file_has
    unknown_is n = rw (held_is n) (unknown_of (slot_of blocks n) (place_among n file.globals) (place_among n file.loaded) (universe_has file.universe n))

    pub namespace_is : (o : ExprLayer) → names.namespace_at round o env ≡ scope.namespace_at file blocks o
    unfolding scope.space_of
    namespace_is (Expr-F.Expr::Name n) = rw (unknown_is n.name, around.universe) refl
    namespace_is (Expr-F.Int i) = refl
    namespace_is (Expr-F.String s) = refl
    namespace_is (Expr-F.Expr::List xs) = refl
    namespace_is (Expr-F.Expr::Tuple xs) = refl
    namespace_is (Expr-F.Dict ps) = refl
    namespace_is (Expr-F.ListComprehension x xs own) = refl
    namespace_is (Expr-F.DictComprehension p xs own) = refl
    namespace_is (Expr-F.Primary x ss) = refl
    namespace_is (Expr-F.Unary os x) = refl
    namespace_is (Expr-F.Binary x os) = refl
    namespace_is (Expr-F.Compare x o z) = refl
    namespace_is (Expr-F.Conditional xs z) = refl
    namespace_is Expr-F.Lambda = refl
