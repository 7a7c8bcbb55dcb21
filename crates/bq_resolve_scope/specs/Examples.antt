-- What some files resolve to, by hand from the Starlark specification, "Name binding and variables", and Bazel's rules on .bzl files.
use Rattle.std.specs.Prelude.{◌≡◌, ℕ, pos, List, [], ◌∷◌, Some, None, Result, Ok, Err, codes}
use Rattle.bq_base.specs.declared.fault.Fault.{Fault}
use Rattle.bq_base.specs.declared.fault.NameFault.{NameFault}
use Rattle.bq_base.specs.declared.fault.NameFault.TheVariants as f
use Rattle.bq_parse_grammar.specs.declared.tree.Clause.TheVariants as clause
use Rattle.bq_parse_grammar.specs.declared.tree.ComprehensionFrame.{ComprehensionFrame}
use Rattle.bq_parse_grammar.specs.declared.tree.ComprehensionFrame.TheVariants as frame
use Rattle.bq_parse_grammar.specs.declared.tree.Expr.{Expr}
use Rattle.bq_parse_grammar.specs.declared.tree.Expr.TheVariants as e
use Rattle.bq_parse_grammar.specs.declared.tree.FileKind.TheVariants as kinds
use Rattle.bq_parse_grammar.specs.declared.tree.Identifier.{Identifier}
use Rattle.bq_parse_grammar.specs.declared.tree.Operator.TheVariants as operator
use Rattle.bq_parse_grammar.specs.declared.tree.Parameter.TheVariants as parameter
use Rattle.bq_parse_grammar.specs.declared.tree.Referent.{Referent}
use Rattle.bq_parse_grammar.specs.declared.tree.Referent.TheVariants as referent
use Rattle.bq_parse_grammar.specs.declared.tree.SmallKind.{SmallKind}
use Rattle.bq_parse_grammar.specs.declared.tree.SmallKind.TheVariants as small
use Rattle.bq_parse_grammar.specs.declared.tree.Stmt.{Stmt}
use Rattle.bq_parse_grammar.specs.declared.tree.Stmt.TheVariants as stmt
use Rattle.bq_parse_grammar.specs.declared.tree.Suffix.TheVariants as suffix
use Rattle.bq_parse_grammar.specs.declared.tree.TargetExpr.TheVariants as target
use Rattle.bq_parse_grammar.specs.declared.tree.TopLevel.{TopLevel}
use Rattle.bq_parse_grammar.specs.Literals as literals
use Rattle.bq_predeclared.specs.declared.attribute_type.AttributeType.TheVariants as attribute
use Rattle.bq_predeclared.specs.declared.host_function.HostFunction.TheVariants as host
use Rattle.bq_predeclared.specs.declared.predeclared.Predeclared.{Predeclared}
use Rattle.bq_predeclared.specs.declared.predeclared.Predeclared.TheVariants as p
use Rattle.bq_predeclared.specs.declared.rule_function.RuleFunction.TheVariants as function
use Rattle.bq_resolve_scope.specs.declared.file.FileLine.{FileLine}
use Rattle.bq_resolve_scope.specs.declared.file.Formal.TheVariants as formal
use Rattle.bq_resolve_scope.specs.declared.file.Outside.TheVariants as outside
use Rattle.bq_resolve_scope.specs.declared.file.ResolvedFile.{ResolvedFile}
use Rattle.bq_resolve_scope.specs.Universe.{UniverseParts}
use Rattle.bq_resolve_scope.specs.Names.{max_layers}
use Rattle.bq_resolve_scope.specs.Scope.{FileParts}
use Rattle.bq_resolve_scope.specs.Visit.{nothing_passed}
use Rattle.bq_resolve_scope.specs.Expressions.{expr_to}
use Rattle.bq_resolve_scope.specs.Statements.{no_parameters, parameters}
use Rattle.bq_resolve_scope.specs.Files.{resolved}

-- ---- trees

-- a .bzl file's kind, and a schema whose only rule is `filegroup`
abbrev pub bzl : UniverseParts
bzl = record { kind = kinds.Bzl; rules = codes "filegroup" ∷ [] }

-- a BUILD file's kind, and the same schema
abbrev pub build : UniverseParts
build = record { kind = kinds.Build; rules = codes "filegroup" ∷ [] }

-- a .bzl file's kind, and a schema whose only rule has this name
abbrev pub bzl_beside : List ℕ → UniverseParts
bzl_beside name = record { kind = kinds.Bzl; rules = name ∷ [] }

-- a BUILD file's kind, and a schema whose only rule has this name
abbrev pub build_beside : List ℕ → UniverseParts
build_beside name = record { kind = kinds.Build; rules = name ∷ [] }

-- a name on this line, as it is parsed: not resolved yet
abbrev pub word : ℕ → List ℕ → Identifier
word line name = literals.named name line

-- the use of such a name, as an expression
abbrev pub named : ℕ → List ℕ → Expr
named line name = e.Name (word line name)

-- a small statement on this line, as the only one of its line
abbrev pub simple : ℕ → SmallKind → Stmt
simple line kind = stmt.Simple (record { line = line; kind = kind } ∷ [])

-- a statement outside functions that begins on this line
abbrev pub top : ℕ → Stmt → TopLevel
top line s = record { line = line; statement = s }

-- `name = x`, with the name on this line
abbrev pub assign : ℕ → List ℕ → Expr → SmallKind
assign line name x = small.Assign (target.Name (word line name)) x

-- `load("label", "name")`, with the name on this line
abbrev pub load : List ℕ → ℕ → List ℕ → SmallKind
load label line name = small.Load (record { label = label; clauses = record { local = word line name; symbol = name } ∷ [] })

-- `name()`
abbrev pub call : ℕ → List ℕ → Expr
call line name = e.Primary (named line name) (suffix.Call [] ∷ [])

-- `space.name()`
abbrev pub member_call : ℕ → List ℕ → List ℕ → Expr
member_call line space name = e.Primary (named line space) (suffix.Method (word line name) [] ∷ [])

-- `(space).name()`
abbrev pub parenthesized_call : ℕ → List ℕ → List ℕ → Expr
parenthesized_call line space name = e.Primary (e.Primary (named line space) []) (suffix.Method (word line name) [] ∷ [])

-- `native.name()`
abbrev pub native_call : ℕ → List ℕ → Expr
native_call line name = member_call line (codes "native") name

-- `attr.name()`
abbrev pub attr_call : ℕ → List ℕ → Expr
attr_call line name = member_call line (codes "attr") name

-- `[name for name in x]`
abbrev pub each_of : ℕ → List ℕ → Expr → Expr
each_of line name x = e.ListComprehension (named line name) (clause.For (target.Name (word line name)) x ∷ []) frame.Shared

-- ---- what comes of them

-- a file that has this fault, on this line, at this name
abbrev pub fault : NameFault → ℕ → List ℕ → Result ResolvedFile (Fault NameFault)
fault kind line name = Err (record { kind = kind; line = line; detail = name })

-- a line outside functions with one small statement, after it is resolved
abbrev pub line_of : ℕ → SmallKind → FileLine
line_of line kind = record { line = line; statement = outside.Simple (record { line = line; kind = kind } ∷ []) }

-- a file that resolves to these lines and binds these names, without functions and loads
abbrev pub of_lines : List FileLine → List (List ℕ) → Result ResolvedFile (Fault NameFault)
of_lines ls globals = Ok (record { statements = ls; functions = []; globals = globals; loads = [] })

-- a name that is resolved
abbrev pub known : List ℕ → Referent → Identifier
known name x = record { name = name; referent = x }

-- the use of such a name, as an expression
abbrev pub used : List ℕ → Referent → Expr
used name x = e.Name (known name x)

-- `name = x` outside functions, where the name is the first that the file binds
abbrev pub assigned : List ℕ → Expr → SmallKind
assigned name x = small.Assign (target.Name (known name (referent.Global 0))) x

-- `name()`
abbrev pub called : List ℕ → Referent → SmallKind
called name x = small.Expr (e.Primary (used name x) (suffix.Call [] ∷ []))

-- `space.name()`, where `space` is a namespace
abbrev pub member_called : List ℕ → List ℕ → Predeclared → SmallKind
member_called space name x = small.Expr (e.Primary (used space (referent.Member x)) (suffix.Method (known name (referent.Member x)) [] ∷ []))

-- `name.int()` on a line, where `name` is a value
abbrev pub int_method : ℕ → List ℕ → Referent → SmallKind
int_method line name x = small.Expr (e.Primary (used name x) (suffix.Method (word line (codes "int")) [] ∷ []))

-- `[name for name in x]`, where the name has this slot
abbrev pub local_each : List ℕ → ℕ → Expr → ComprehensionFrame → Expr
local_each name slot x own =
    e.ListComprehension (used name (referent.Local slot)) (clause.For (target.Name (known name (referent.Local slot))) x ∷ []) own

-- ---- scopes

-- `y = [y for y in y]`: the element is the comprehension's, the iterable the file's
abbrev pub FirstIterable : Type 0
FirstIterable =
    let y = codes "y" in
    resolved build (top 1 (simple 1 (assign 1 y (each_of 1 y (named 1 y)))) ∷ [])
    ≡ of_lines (line_of 1 (assigned y (local_each y 0 (used y (referent.Global 0)) (frame.Own 1))) ∷ []) (y ∷ [])

-- `[x for x in [x for x in x]]` in a function of the parameter `x`: one name of three blocks has three slots
abbrev pub OneNameThrice : Type 0
OneNameThrice =
    let x = codes "x" in (file : FileParts)
    → expr_to max_layers file (record { base = 0; names = x ∷ [] } ∷ []) (each_of 1 x (each_of 1 x (named 1 x))) (record nothing_passed { slots = 1 })
    ≡ Ok (local_each x 1 (local_each x 2 (used x (referent.Local 0)) frame.Shared) frame.Shared, record nothing_passed { slots = 3 })

-- the parameter of `def g(a = b)`, where the file binds `b`: a default lies outside the function
abbrev pub Default : Type 0
Default =
    let a = codes "a" in let b = codes "b" in
    parameters (record { universe = bzl; globals = b ∷ []; loaded = [] }) no_parameters (parameter.Default (word 1 a) (named 1 b) ∷ []) nothing_passed
    ≡ Ok (record { names = a ∷ []; parameters = formal.Default (known a (referent.Local 0)) ∷ []; defaults = used b (referent.Global 0) ∷ [] }, nothing_passed)

-- `load(":m", "a")`, then `a = 1`: in a BUILD file one global, whose first value is the loaded one
abbrev pub LoadedAndBound : Type 0
LoadedAndBound =
    let a = codes "a" in
    resolved build (top 1 (simple 1 (load (codes ":m") 1 a)) ∷ top 2 (simple 2 (assign 2 a (e.Int (pos 1)))) ∷ [])
    ≡ Ok (record {
      statements = line_of 1 (load (codes ":m") 1 a) ∷ line_of 2 (assigned a (e.Int (pos 1))) ∷ [];
      functions = [];
      globals = a ∷ [];
      loads = record { label = codes ":m"; line = 1; clauses = record { local = a; symbol = a; global = Some 0 } ∷ [] } ∷ [];
    })

-- ---- names that every file has

-- `filegroup()` is the schema's first rule in a BUILD file, and unknown in a .bzl file, where it is `native.filegroup()`
abbrev pub Rules : Type 0
Rules =
    let n = codes "filegroup" in
    (resolved build (top 1 (simple 1 (small.Expr (call 1 n))) ∷ [])
    ≡ of_lines (line_of 1 (called n (referent.Predeclared (p.Host (host.Rule 0)))) ∷ []) [])
    × (resolved bzl (top 1 (simple 1 (small.Expr (call 1 n))) ∷ []) ≡ fault f.UnknownName 1 n)
    × (resolved bzl (top 1 (simple 1 (small.Expr (native_call 1 n))) ∷ []) ≡ of_lines (line_of 1 (member_called (codes "native") n (p.Host (host.Rule 0))) ∷ []) [])

-- `native.nope()` is F20 at `nope`, and in a BUILD file `native.glob()` at `native`
abbrev pub Native : Type 0
Native =
    (resolved bzl (top 1 (simple 1 (small.Expr (native_call 1 (codes "nope")))) ∷ []) ≡ fault f.UnknownName 1 (codes "nope"))
    × (resolved build (top 1 (simple 1 (small.Expr (native_call 1 (codes "glob")))) ∷ []) ≡ fault f.UnknownName 1 (codes "native"))

-- `attr.int()` makes an attribute in a .bzl file; `attr.nope()` is F20 at `nope`; `attr` alone, `(attr).int()`, and `attr.int()` in a BUILD
-- file, at `attr`
abbrev pub Attr : Type 0
Attr =
    (resolved bzl (top 1 (simple 1 (small.Expr (attr_call 1 (codes "int")))) ∷ []) ≡ of_lines (line_of 1 (member_called (codes "attr") (codes "int") (p.RuleFunction (function.Attr attribute.Int))) ∷ []) [])
    × (resolved bzl (top 1 (simple 1 (small.Expr (attr_call 1 (codes "nope")))) ∷ []) ≡ fault f.UnknownName 1 (codes "nope"))
    × (resolved bzl (top 1 (simple 1 (small.Expr (named 1 (codes "attr")))) ∷ []) ≡ fault f.UnknownName 1 (codes "attr"))
    × (resolved bzl (top 1 (simple 1 (small.Expr (parenthesized_call 1 (codes "attr") (codes "int")))) ∷ []) ≡ fault f.UnknownName 1 (codes "attr"))
    × (resolved build (top 1 (simple 1 (small.Expr (attr_call 1 (codes "int")))) ∷ []) ≡ fault f.UnknownName 1 (codes "attr"))

-- `attr = []`, then `attr.int()`: a file's own `attr` is a value like another; so is one that it loads
abbrev pub OwnAttr : Type 0
OwnAttr =
    let attr = codes "attr" in
    (resolved bzl (top 1 (simple 1 (assign 1 attr (e.List []))) ∷ top 2 (simple 2 (small.Expr (attr_call 2 (codes "int")))) ∷ [])
    ≡ of_lines (line_of 1 (assigned attr (e.List [])) ∷ line_of 2 (int_method 2 attr (referent.Global 0)) ∷ []) (attr ∷ []))
    × (resolved bzl (top 1 (simple 1 (load (codes ":m") 1 attr)) ∷ top 2 (simple 2 (small.Expr (attr_call 2 (codes "int")))) ∷ [])
    ≡ Ok (record {
      statements = line_of 1 (load (codes ":m") 1 attr) ∷ line_of 2 (int_method 2 attr (referent.Loaded 0)) ∷ [];
      functions = [];
      globals = [];
      loads = record { label = codes ":m"; line = 1; clauses = record { local = attr; symbol = attr; global = None } ∷ [] } ∷ [];
    }))

-- `rule()` declares a rule in a .bzl file, and is F20 in a BUILD file; a schema's rule of that name, or of the name `attr`, counts in
-- BUILD files, and in .bzl files as `native.rule()`
abbrev pub OfRule : Type 0
OfRule =
    let n = codes "rule" in let attr = codes "attr" in
    (resolved bzl (top 1 (simple 1 (small.Expr (call 1 n))) ∷ []) ≡ of_lines (line_of 1 (called n (referent.Predeclared (p.RuleFunction function.Rule))) ∷ []) [])
    × (resolved build (top 1 (simple 1 (small.Expr (call 1 n))) ∷ []) ≡ fault f.UnknownName 1 n)
    × (resolved (build_beside n) (top 1 (simple 1 (small.Expr (call 1 n))) ∷ []) ≡ of_lines (line_of 1 (called n (referent.Predeclared (p.Host (host.Rule 0)))) ∷ []) [])
    × (resolved (build_beside attr) (top 1 (simple 1 (small.Expr (call 1 attr))) ∷ []) ≡ of_lines (line_of 1 (called attr (referent.Predeclared (p.Host (host.Rule 0)))) ∷ []) [])
    × (resolved (bzl_beside n) (top 1 (simple 1 (small.Expr (call 1 n))) ∷ []) ≡ of_lines (line_of 1 (called n (referent.Predeclared (p.RuleFunction function.Rule))) ∷ []) [])
    × (resolved (bzl_beside n) (top 1 (simple 1 (small.Expr (native_call 1 n))) ∷ []) ≡ of_lines (line_of 1 (member_called (codes "native") n (p.Host (host.Rule 0))) ∷ []) [])

-- ---- faults

-- `x = 1`, then `x = 2` or `x += 2`: F21 in a .bzl file, and allowed in a BUILD file
abbrev pub Rebound : Type 0
Rebound =
    let x = codes "x" in
    (resolved bzl (top 1 (simple 1 (assign 1 x (e.Int (pos 1)))) ∷ top 2 (simple 2 (assign 2 x (e.Int (pos 2)))) ∷ []) ≡ fault f.Rebound 2 x)
    × (resolved bzl (top 1 (simple 1 (assign 1 x (e.Int (pos 1)))) ∷ top 2 (simple 2 (small.Augment (target.Name (word 2 x)) operator.Add (e.Int (pos 2)))) ∷ []) ≡ fault f.Rebound 2 x)
    × (resolved build (top 1 (simple 1 (assign 1 x (e.Int (pos 1)))) ∷ top 2 (simple 2 (assign 2 x (e.Int (pos 2)))) ∷ [])
    ≡ of_lines (line_of 1 (assigned x (e.Int (pos 1))) ∷ line_of 2 (assigned x (e.Int (pos 2))) ∷ []) (x ∷ []))

-- a name of two loads: F22 in both kinds; a loaded name that is bound: F21 in a .bzl file
abbrev pub LoadedTwice : Type 0
LoadedTwice =
    let a = codes "a" in
    (resolved bzl (top 1 (simple 1 (load (codes ":m") 1 a)) ∷ top 2 (simple 2 (load (codes ":n") 2 a)) ∷ []) ≡ fault f.BoundTwice 2 a)
    × (resolved build (top 1 (simple 1 (load (codes ":m") 1 a)) ∷ top 2 (simple 2 (load (codes ":n") 2 a)) ∷ []) ≡ fault f.BoundTwice 2 a)
    × (resolved bzl (top 1 (simple 1 (load (codes ":m") 1 a)) ∷ top 2 (simple 2 (assign 2 a (e.Int (pos 1)))) ∷ []) ≡ fault f.Rebound 2 a)

-- `return 1` and `for x in []: pass` outside functions
abbrev pub Flow : Type 0
Flow =
    let x = codes "x" in
    (resolved bzl (top 1 (simple 1 (small.Return (Some (e.Int (pos 1))))) ∷ []) ≡ fault f.BadFlow 1 [])
    × (resolved bzl (top 2 (stmt.For (target.Name (word 2 x)) (e.List []) (simple 2 small.Pass ∷ [])) ∷ []) ≡ fault f.BadFlow 2 [])

-- `def f(a, a): pass`
abbrev pub Parameters : Type 0
Parameters =
    let a = codes "a" in
    resolved bzl (top 1 (stmt.Def (word 1 (codes "f")) (parameter.Plain (word 1 a) ∷ parameter.Plain (word 1 a) ∷ []) (simple 1 small.Pass ∷ [])) ∷ []) ≡ fault f.DoubleParameter 1 a

-- two unknown names on two lines: the first
abbrev pub FirstFault : Type 0
FirstFault = resolved bzl (top 1 (simple 1 (small.Expr (named 1 (codes "b")))) ∷ top 2 (simple 2 (small.Expr (named 2 (codes "a")))) ∷ []) ≡ fault f.UnknownName 1 (codes "b")

-- all examples of this page
abbrev pub Examples : Type 0
Examples = FirstIterable × OneNameThrice × Default × LoadedAndBound × Rules × Native × Attr × OwnAttr × OfRule × Rebound × LoadedTwice × Flow × Parameters × FirstFault
