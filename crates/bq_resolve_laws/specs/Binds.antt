-- Which names a block binds, in words (Starlark specification, "Name binding and variables"): whether a name is bound by a target, a
-- clause, a statement, a parameter or a load. As many layers of a tree are looked at as in `bq_resolve_scope` (`max_layers`).
use Rattle.std.specs.Prelude.{◌≡◌, ◌≢◌, ◌<◌, ℕ, zero, suc, ◌+◌, List, [], ◌∷◌, length, true, false, Some, None, codes, ◌⊎◌, ◌↔◌}
use Rattle.bq_parse_grammar.specs.declared.tree.Argument.TheOpen.{Clause-F, TargetExpr-F}
use Rattle.bq_parse_grammar.specs.declared.tree.Branch.{Branch, out-Branch}
use Rattle.bq_parse_grammar.specs.declared.tree.Clause.{Clause, out-Clause}
use Rattle.bq_parse_grammar.specs.declared.tree.Parameter.{Parameter}
use Rattle.bq_parse_grammar.specs.declared.tree.Parameter.TheVariants as parameter
use Rattle.bq_parse_grammar.specs.declared.tree.SmallKind.{SmallKind}
use Rattle.bq_parse_grammar.specs.declared.tree.SmallKind.TheVariants as small
use Rattle.bq_parse_grammar.specs.declared.tree.SmallStmt.{SmallStmt}
use Rattle.bq_parse_grammar.specs.declared.tree.Stmt.{Stmt, out-Stmt}
use Rattle.bq_parse_grammar.specs.declared.tree.Stmt.TheOpen.{Stmt-F}
use Rattle.bq_parse_grammar.specs.declared.tree.TargetExpr.{TargetExpr, out-TargetExpr}
use Rattle.bq_parse_grammar.specs.declared.tree.TopLevel.{TopLevel}
use Rattle.bq_parse_grammar.specs.declared.tree.Referent.TheVariants as b
use Rattle.bq_parse_grammar.specs.declared.tree.FileKind.TheVariants as kinds
use Rattle.bq_predeclared.specs.declared.host_function.HostFunction.{HostFunction}
use Rattle.bq_predeclared.specs.declared.predeclared.Predeclared.TheVariants as pre
use Rattle.bq_predeclared.specs.declared.rule_function.RuleFunction.{RuleFunction}
use Rattle.bq_predeclared.specs.declared.rule_function.RuleFunction.TheVariants as function
use Rattle.bq_resolve_scope.specs.declared.universe.Namespace.{Namespace}
use Rattle.bq_resolve_scope.specs.Universe.{UniverseParts, namespace_named, universe_has}
use Rattle.bq_resolve_scope.specs.Scope.{BlockParts, FileParts, use_of}
use Rattle.bq_resolve_scope.specs.Files.{file_names}
use Rattle.bq_resolve_scope.specs.Names.{Name, TargetLayer, ClauseLayer, max_layers, has, comprehension_names, function_names, global_names, loaded_names}

-- one of these
abbrev pub AnyOf : {A : Type 0} → (A → Type 0) → List A → Type 0
AnyOf P [] = ⊥
AnyOf P (x ∷ xs) = P x ⊎ AnyOf P xs

-- a target binds the names in it, but for those of `operand[index]`
abbrev pub target_binds_by : (TargetExpr → Type 0) → Name → TargetLayer → Type 0
target_binds_by inner name (TargetExpr-F.TargetExpr::Name n) = name ≡ n.name
target_binds_by inner name (TargetExpr-F.TargetExpr::Index x i) = ⊥
target_binds_by inner name (TargetExpr-F.TargetExpr::Tuple ts) = AnyOf inner ts
target_binds_by inner name (TargetExpr-F.TargetExpr::List ts) = AnyOf inner ts

-- a target of at most this many layers
unfoldable pub TargetBindsTo : ℕ → Name → TargetExpr → Type 0
TargetBindsTo zero name t = ⊥
TargetBindsTo (suc layers) name t = target_binds_by (TargetBindsTo layers name) name (out-TargetExpr t)

-- a target binds the name
unfoldable pub TargetBinds : Name → TargetExpr → Type 0
TargetBinds name t = TargetBindsTo max_layers name t

-- a clause, by its form
abbrev pub clause_binds_by : Name → ClauseLayer → Type 0
clause_binds_by name (Clause-F.For t x) = TargetBinds name t
clause_binds_by name (Clause-F.If x) = ⊥

-- `for` binds its variables
unfoldable pub ClauseBinds : Name → Clause → Type 0
ClauseBinds name c = clause_binds_by name (out-Clause c)

-- a small statement, by its form
abbrev pub kind_binds : Name → SmallKind → Type 0
kind_binds name (small.Assign t x) = TargetBinds name t
kind_binds name (small.Augment t o x) = TargetBinds name t
kind_binds name _ = ⊥

-- an assignment binds the names of its target, an augmented one too
unfoldable pub SmallBinds : Name → SmallStmt → Type 0
SmallBinds name x = kind_binds name x.kind

-- `if` binds what its branches and its `else` bind, `for` its variables and what its block binds, and `def` its own name
abbrev pub stmt_binds_by : (Stmt → Type 0) → Name → Stmt-F Stmt Branch → Type 0
stmt_binds_by inner name (Stmt-F.Simple xs) = AnyOf (SmallBinds name) xs
stmt_binds_by inner name (Stmt-F.If bs zs) = AnyOf (λ b. AnyOf inner (out-Branch b).block) bs ⊎ AnyOf inner zs
stmt_binds_by inner name (Stmt-F.For t x xs) = TargetBinds name t ⊎ AnyOf inner xs
stmt_binds_by inner name (Stmt-F.Def n ps xs) = name ≡ n.name

-- a statement of at most this many layers
unfoldable pub StmtBindsTo : ℕ → Name → Stmt → Type 0
StmtBindsTo zero name x = ⊥
StmtBindsTo (suc layers) name x = stmt_binds_by (StmtBindsTo layers name) name (out-Stmt x)

-- a statement binds the name
unfoldable pub StmtBinds : Name → Stmt → Type 0
StmtBinds name x = StmtBindsTo max_layers name x

-- each parameter but `*` binds its own name
abbrev pub ParameterBinds : Name → Parameter → Type 0
ParameterBinds name (parameter.Plain n) = name ≡ n.name
ParameterBinds name (parameter.Default n x) = name ≡ n.name
ParameterBinds name parameter.BareStar = ⊥
ParameterBinds name (parameter.Star n) = name ≡ n.name
ParameterBinds name (parameter.StarStar n) = name ≡ n.name

-- a load binds the local names of its clauses
abbrev pub load_binds_by : Name → SmallKind → Type 0
load_binds_by name (small.Load l) = AnyOf (λ c. name ≡ c.local.name) l.clauses
load_binds_by name _ = ⊥

-- loads stand among the small statements of a line
abbrev pub loads_bind_by : Name → Stmt-F Stmt Branch → Type 0
loads_bind_by name (Stmt-F.Simple xs) = AnyOf (λ x. load_binds_by name x.kind) xs
loads_bind_by name _ = ⊥

-- ---- blocks

-- a comprehension binds the variables of its clauses
abbrev pub ComprehensionBinds : Type 0
ComprehensionBinds = (cs : List Clause) (name : Name) → (has (comprehension_names cs) name ≡ true) ↔ AnyOf (ClauseBinds name) cs

-- a function binds its parameters and what its statements bind
abbrev pub FunctionBinds : Type 0
FunctionBinds = (ps : List Parameter) (body : List Stmt) (name : Name)
    → (has (function_names ps body) name ≡ true) ↔ (AnyOf (ParameterBinds name) ps ⊎ AnyOf (StmtBinds name) body)

-- a file binds what its statements outside functions bind ..
abbrev pub FileBinds : Type 0
FileBinds = (ts : List TopLevel) (name : Name) → (has (global_names ts) name ≡ true) ↔ AnyOf (λ t. StmtBinds name t.statement) ts

-- .. and what its loads bind, which stand outside all blocks
abbrev pub LoadsBind : Type 0
LoadsBind = (ts : List TopLevel) (name : Name) → (has (loaded_names ts) name ≡ true) ↔ AnyOf (λ t. loads_bind_by name (out-Stmt t.statement)) ts

-- ---- uses of what is bound

-- In a function, outside its comprehensions, a use of a name that the function binds is a slot of its frame ..
abbrev pub FunctionNamesAreLocal : Type 0
FunctionNamesAreLocal = (file : FileParts) (ps : List Parameter) (body : List Stmt) (name : Name) → AnyOf (ParameterBinds name) ps ⊎ AnyOf (StmtBinds name) body
    → (slot : ℕ) × (slot < length (function_names ps body)) × (use_of file (record { base = 0; names = function_names ps body } ∷ []) name ≡ Some (b.Local slot))

-- .. in a comprehension, outside those in it, one of a variable of its clauses, whatever encloses it ..
abbrev pub ComprehensionNamesAreLocal : Type 0
ComprehensionNamesAreLocal = (file : FileParts) (base : ℕ) (blocks : List BlockParts) (cs : List Clause) (name : Name) → AnyOf (ClauseBinds name) cs
    → (i : ℕ) × (i < length (comprehension_names cs)) × (use_of file (record { base = base; names = comprehension_names cs } ∷ blocks) name ≡ Some (b.Local (base + i)))

-- .. and outside all blocks one of a name that the file binds is a global of the file.
abbrev pub FileNamesAreGlobal : Type 0
FileNamesAreGlobal = (universe : UniverseParts) (ts : List TopLevel) (name : Name) → AnyOf (λ t. StmtBinds name t.statement) ts
    → (k : ℕ) × (k < length (global_names ts)) × (use_of (file_names universe ts) [] name ≡ Some (b.Global k))

-- Outside all blocks one of a name that the file loads and doesn't bind is what it loads ..
abbrev pub LoadedNamesAreLoaded : Type 0
LoadedNamesAreLoaded = (universe : UniverseParts) (ts : List TopLevel) (name : Name) → AnyOf (λ t. loads_bind_by name (out-Stmt t.statement)) ts → has (global_names ts) name ≡ false
    → (k : ℕ) × (k < length (loaded_names ts)) × (use_of (file_names universe ts) [] name ≡ Some (b.Loaded k))

-- .. and in a .bzl file no name is a build function or a rule that the file doesn't bind.
abbrev pub BzlFilesHaveNoBuildFunctions : Type 0
BzlFilesHaveNoBuildFunctions = (rules : List Name) (name : Name) (f : HostFunction) → universe_has (record { kind = kinds.Bzl; rules = rules }) name ≢ Some (pre.Host f)

-- ---- names of a kind of files

-- What declares rules is in .bzl files alone: no name of a BUILD file that doesn't bind it is it.
abbrev pub BuildFilesDeclareNoRules : Type 0
BuildFilesDeclareNoRules = (rules : List Name) (name : Name) (f : RuleFunction) → universe_has (record { kind = kinds.Build; rules = rules }) name ≢ Some (pre.RuleFunction f)

-- In a .bzl file `rule` is, also where the schema has a rule of that name.
abbrev pub BzlFilesHaveRule : Type 0
BzlFilesHaveRule = (rules : List Name) → universe_has (record { kind = kinds.Bzl; rules = rules }) (codes "rule") ≡ Some (pre.RuleFunction function.Rule)

-- A namespace is no value of a .bzl file.
abbrev pub NamespacesAreNoValues : Type 0
NamespacesAreNoValues = (rules : List Name) (name : Name) (space : Namespace) → namespace_named name ≡ Some space → universe_has (record { kind = kinds.Bzl; rules = rules }) name ≡ None
