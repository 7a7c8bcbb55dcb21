-- Names: a use has a fault where nothing binds the name, and a name that its block holds has none.
use Rattle.std.proofs.Common.{◌≡◌, ◌<◌, ◌+◌, length, ℕ, suc, Bool, true, false, not, ◌||◌, ◌&&◌, List, [], ◌∷◌, map, Option, Some, None, is_some, Result, Ok, Err, refl, sym, ◌∙◌, ap, subst, bytes_eq}
use Rattle.std.specs.Prelude.{if◌then◌else◌}
use Rattle.std.specs.Option.{option_map}
use Rattle.std.specs.List.{list_any}
use Rattle.bq_base.specs.declared.fault.NameFault.{NameFault}
use Rattle.bq_base.specs.declared.fault.Fault.{Fault}
use Rattle.bq_base.specs.declared.fault.NameFault.TheVariants as f
use Rattle.bq_parse_grammar.specs.declared.tree.Argument.TheOpen.{Expr-F}
use Rattle.bq_parse_grammar.specs.declared.tree.Identifier.{Identifier}
use Rattle.bq_parse_grammar.specs.Targets.{ExprLayer}
use Rattle.bq_parse_grammar.specs.declared.tree.Referent.{Referent}
use Rattle.bq_parse_grammar.specs.declared.tree.Referent.TheVariants as b
use Rattle.bq_resolve_scope.specs.declared.universe.Namespace.{Namespace}
use Rattle.bq_resolve_scope.specs.Universe.{in_bzl, namespace_named, universe_has}
use Rattle.bq_resolve_scope.proofs.Cases.{rule}
use Rattle.bq_resolve_scope.specs.Names.{Name, has, with_name, place_among, global_names, loaded_names}
use Rattle.bq_resolve_scope.specs.Scope.{BlockParts, FileParts, or_else, slot_in, slot_of, file_has, use_of}
use Rattle.bq_resolve_scope.specs.Visit.{Passed, following, ◌>>=◌, pure, given, fault_of}
use Rattle.bq_resolve_scope.specs.Expressions.{refer, place_of, is_bzl, bind_global, NamedSpace, is_unbound, space_of, with_space, namespace_at, use_at, bound_at}
use Rattle.bq_resolve_laws.specs.Violations.{Around, Before, unless, when, is_known, in_use, in_binding, as_namespace}
use Rattle.bq_resolve_laws.proofs.Binds.{loads_bind}
use Rattle.bq_resolve_laws.proofs.Bound.{there, local_at, global_at}
use Rattle.bq_resolve_laws.proofs.Uses.{place_within}
use Rattle.bq_resolve_laws.specs.Binds.{LoadedNamesAreLoaded, BzlFilesHaveNoBuildFunctions}
use Rattle.bq_predeclared.specs.declared.host_function.HostFunction.{HostFunction}
use Rattle.bq_predeclared.specs.declared.predeclared.Predeclared.{Predeclared}
use Rattle.bq_predeclared.specs.declared.predeclared.Predeclared.TheVariants as pre
use Rattle.bq_predeclared.specs.declared.rule_function.RuleFunction.TheVariants as function
use Rattle.bq_predeclared.specs.Predeclared.{predeclared_named}
use Rattle.bq_resolve_scope.specs.Files.{file_names}
use Rattle.bq_resolve_laws.proofs.Finds.{before, Finding, Tells, Finds, finds_map, finds_given}

-- the names of blocks
abbrev pub around_of : List BlockParts → Around
around_of blocks = map (λ b. b.names) blocks

-- ---- a use finds something exactly where the name is known

mapped : {A B : Type 0} (g : A → B) (o : Option A) → is_some (option_map g o) ≡ is_some o
mapped g None = refl
mapped g (Some x) = refl

either : {A : Type 0} (o p : Option A) → is_some (or_else o p) ≡ (is_some o || is_some p)
either None p = refl
either (Some x) p = refl

placed_by : (t : Bool) (o : Option ℕ) (rest : Bool) → is_some o ≡ rest → is_some (if t then Some 0 else option_map suc o) ≡ (t || rest)
placed_by true o rest h = refl
placed_by false o rest h = mapped suc o ∙ h

placed : (name : Name) (names : List Name) → is_some (place_among name names) ≡ has names name
unfolding place_among
placed name [] = refl
placed name (x ∷ xs) = placed_by (bytes_eq name x) (place_among name xs) (has xs name) (placed name xs)

in_slot : (block : BlockParts) (name : Name) → is_some (slot_in block name) ≡ has block.names name
unfolding slot_in
in_slot block name = mapped (λ i. block.base + i) (place_among name block.names) ∙ placed name block.names

in_slots : (blocks : List BlockParts) (name : Name) → is_some (slot_of blocks name) ≡ list_any (λ names. has names name) (around_of blocks)
unfolding slot_of
in_slots [] name = refl
in_slots (block ∷ blocks) name =
    either (slot_in block name) (slot_of blocks name) ∙ ap (λ t. t || is_some (slot_of blocks name)) (in_slot block name) ∙ ap (λ t. has block.names name || t) (in_slots blocks name)

in_file : (file : FileParts) (name : Name) → is_some (file_has file name) ≡ (has file.globals name || (has file.loaded name || is_some (universe_has file.universe name)))
unfolding file_has
in_file file name =
    let loads : Option Referent = option_map b.Loaded (place_among name file.loaded) in
    let all : Option Referent = option_map b.Predeclared (universe_has file.universe name) in
    either (option_map b.Global (place_among name file.globals)) (or_else loads all)
    ∙ ap (λ t. t || is_some (or_else loads all)) (mapped b.Global (place_among name file.globals) ∙ placed name file.globals)
    ∙ ap (λ t. has file.globals name || t) (either loads all ∙ ap (λ t. t || is_some all) (mapped b.Loaded (place_among name file.loaded) ∙ placed name file.loaded)
    ∙ ap (λ t. has file.loaded name || t) (mapped b.Predeclared (universe_has file.universe name)))

pub known : (file : FileParts) (blocks : List BlockParts) (name : Name) → is_some (use_of file blocks name) ≡ is_known file (around_of blocks) name
unfolding use_of is_known
known file blocks name =
    either (option_map b.Local (slot_of blocks name)) (file_has file name)
    ∙ ap (λ t. t || is_some (file_has file name)) (mapped b.Local (slot_of blocks name) ∙ in_slots blocks name)
    ∙ ap (λ t. list_any (λ names. has names name) (around_of blocks) || t) (in_file file name)

pub use_finds : (file : FileParts) (blocks : List BlockParts) (n : Identifier) → Finds (in_use file (around_of blocks) n) (use_at file blocks n)
unfolding in_use use_at
use_finds file blocks n =
    subst (λ t. Finds (unless t (fault_of f.UnknownName n)) (given (fault_of f.UnknownName n) (use_of file blocks n.name) >>= λ x. pure (refer n x))) (known file blocks n.name)
    (finds_map (given (fault_of f.UnknownName n) (use_of file blocks n.name)) (λ x. refer n x) (unless (is_some (use_of file blocks n.name)) (fault_of f.UnknownName n))
    (finds_given (fault_of f.UnknownName n) (use_of file blocks n.name)))

-- ---- `native` and `attr`

unbound : (o : Option Referent) → is_unbound o ≡ not (is_some o)
unbound None = refl
unbound (Some x) = refl

one_test : (file : FileParts) (blocks : List BlockParts) (name : Name)
    → (is_bzl file.universe.kind && is_unbound (use_of file blocks name)) ≡ (is_bzl file.universe.kind && not (is_known file (around_of blocks) name))
one_test file blocks name = ap (λ t. is_bzl file.universe.kind && t) (unbound (use_of file blocks name) ∙ ap not (known file blocks name))

-- the namespace, without the name that stands for it
abbrev pub the_space : Option NamedSpace → Option Namespace
the_space None = None
the_space (Some space) = Some space.0

spaced : (n : Identifier) (o : Option Namespace) → the_space (with_space n o) ≡ o
spaced n None = refl
spaced n (Some space) = refl

space_named : (file : FileParts) (blocks : List BlockParts) (n : Identifier) → space_of file blocks n ≡ as_namespace file (around_of blocks) (Expr-F.Expr::Name n)
unfolding space_of
space_named file blocks n = ap (λ (t : Bool). if t then namespace_named n.name else None) (one_test file blocks n.name)

pub namespace_of : (file : FileParts) (blocks : List BlockParts) (o : ExprLayer) → the_space (namespace_at file blocks o) ≡ as_namespace file (around_of blocks) o
namespace_of file blocks (Expr-F.Expr::Name n) = spaced n (space_of file blocks n) ∙ space_named file blocks n
namespace_of file blocks (Expr-F.Int i) = refl
namespace_of file blocks (Expr-F.String s) = refl
namespace_of file blocks (Expr-F.Expr::List xs) = refl
namespace_of file blocks (Expr-F.Expr::Tuple xs) = refl
namespace_of file blocks (Expr-F.Dict ps) = refl
namespace_of file blocks (Expr-F.ListComprehension x cs own) = refl
namespace_of file blocks (Expr-F.DictComprehension p cs own) = refl
namespace_of file blocks (Expr-F.Primary x ss) = refl
namespace_of file blocks (Expr-F.Unary os x) = refl
namespace_of file blocks (Expr-F.Binary x os) = refl
namespace_of file blocks (Expr-F.Compare x o y) = refl
namespace_of file blocks (Expr-F.Conditional cs x) = refl
namespace_of file blocks Expr-F.Lambda = refl

-- ---- names that are bound

-- in a block that holds the name
pub local_finds : (file : FileParts) (block : BlockParts) (blocks : List BlockParts) (n : Identifier) → has block.names n.name ≡ true → Finds [] (bound_at file (block ∷ blocks) n)
unfolding bound_at
local_finds file block blocks n h s =
    let l = local_at file block blocks n.name h in
    subst (λ o. Finding {A = Identifier} [] (before s) (following (given (fault_of f.UnknownName n) (place_of o) s) (λ x. pure (refer n x)))) (sym l.2) (refl, refl)

bound_by : (t : Bool) (why : Fault NameFault) (names : List Name) (s : Passed) → Finding {A = Unit {0}} (when t why) (record (before s) { bound = names }) (if t then Err why else Ok (tt, record s { bound = names }))
bound_by true why names s = refl
bound_by false why names s = (refl, refl)

-- outside all blocks, where the file holds the name
bind_tells : (file : FileParts) (n : Identifier) → Tells (λ b. in_binding file b n) (λ b. record b { bound = with_name b.bound n.name }) (bind_global file.universe.kind n)
unfolding in_binding bind_global
bind_tells file n s =
    let twice : Bool = has s.bound n.name || has s.loaded n.name in
    let why : Fault NameFault = fault_of f.Rebound n in
    bound_by (is_bzl file.universe.kind && twice) why (with_name s.bound n.name) s

given_by : (r : Result (Unit {0} × Passed) (Fault NameFault)) (why : Fault NameFault) (n : Identifier) (t : Referent) (o : Option Referent) (faults : List (Fault NameFault)) (after : Before) → o ≡ Some t → Finding {A = Unit {0}} faults after r
    → Finding {A = Identifier} faults after (following r (λ _. given why o >>= λ x. pure (refer n x)))
given_by (Err w) why n t o faults after e h = h
given_by (Ok p) why n t o faults after e h = subst (λ q. Finding {A = Identifier} faults after (following (given why q p.1) (λ x. pure (refer n x)))) (sym e) h

pub global_tells : (file : FileParts) (n : Identifier) → has file.globals n.name ≡ true
    → Tells (λ b. in_binding file b n) (λ b. record b { bound = with_name b.bound n.name }) (bound_at file [] n)
unfolding bound_at
global_tells file n h s =
    let g = global_at file n.name h in
    given_by (bind_global file.universe.kind n s) (fault_of f.UnknownName n) n (b.Global g.0) (place_of (use_of file [] n.name)) (in_binding file (before s) n)
    (record (before s) { bound = with_name s.bound n.name }) (ap place_of g.2) (bind_tells file n s)

-- ---- names that are loaded, and names of all files

no_place_by : (o : Option ℕ) (t : Bool) → is_some o ≡ t → t ≡ false → o ≡ None
no_place_by None t e h = refl
no_place_by (Some i) t e h = absurd (let no : ⊥ = cc in no)

no_place : (name : Name) (names : List Name) → has names name ≡ false → place_among name names ≡ None
no_place name names h = no_place_by (place_among name names) (has names name) (placed name names) h

loaded_at : (file : FileParts) (name : Name) → has file.globals name ≡ false → has file.loaded name ≡ true → (k : ℕ) × (k < length file.loaded) × (use_of file [] name ≡ Some (b.Loaded k))
unfolding use_of slot_of file_has
loaded_at file name g h = let t = there name file.loaded h in (t.0, place_within name file.loaded t.0 t.1, rw (no_place name file.globals g) (rw t.1 refl))

pub file_loaded : LoadedNamesAreLoaded
unfolding file_names
file_loaded universe ts name bound free =
    let file : FileParts = record { universe = universe; globals = global_names ts; loaded = loaded_names ts } in loaded_at file name free ((loads_bind ts name).1 bound)

of_rule : (t : Bool) (g : HostFunction) → (if t then Some (pre.RuleFunction function.Rule) else None) ≡ Some (pre.Host g) → ⊥
of_rule true g h = cc
of_rule false g h = cc

not_host : (name : Name) (o : Option Predeclared) (g : HostFunction) → in_bzl name o ≡ Some (pre.Host g) → ⊥
not_host name None g h = of_rule (bytes_eq name rule) g h
not_host name (Some (pre.Host k)) g h = cc
not_host name (Some x) g h = cc

pub no_build_functions : BzlFilesHaveNoBuildFunctions
unfolding universe_has
no_build_functions rules name g h = not_host name (predeclared_named name) g h
