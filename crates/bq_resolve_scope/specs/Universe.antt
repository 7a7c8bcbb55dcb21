-- The names that a file has without binding them (Bazel, Build Encyclopedia, "Functions": a BUILD file has the build functions and
-- rules by name, a .bzl file as `native.NAME`; "Rules", "attr": a .bzl file has `rule` and `attr.NAME`, which declare rules).
use Rattle.std.specs.Prelude.{ℕ, List, Option, Some, None, codes, bytes_eq, nat_lt, if◌then◌else◌}
use Rattle.std.specs.Option.{option_map}
use Rattle.bq_parse_grammar.specs.declared.tree.FileKind.{FileKind}
use Rattle.bq_parse_grammar.specs.declared.tree.FileKind.TheVariants as file
use Rattle.bq_predeclared.specs.declared.host_function.HostFunction.{HostFunction}
use Rattle.bq_predeclared.specs.declared.host_function.HostFunction.TheVariants as host
use Rattle.bq_predeclared.specs.declared.predeclared.Predeclared.{Predeclared}
use Rattle.bq_predeclared.specs.declared.predeclared.Predeclared.TheVariants as p
use Rattle.bq_predeclared.specs.declared.rule_function.RuleFunction.TheVariants as f
use Rattle.bq_predeclared.specs.Predeclared.{predeclared_named}
use Rattle.bq_predeclared.specs.RuleFunctions.{attr_named}
use Rattle.bq_resolve_scope.specs.declared.universe.Namespace.{Namespace}
use Rattle.bq_resolve_scope.specs.declared.universe.Namespace.TheVariants as space
use Rattle.bq_resolve_scope.specs.Names.{place_among}

-- the namespaces: their names are no values, only what they hold is called, as `NAME.function(..)`
abbrev pub namespace_named : List ℕ → Option Namespace
namespace_named name =
    if bytes_eq name (codes "native") then Some space.Native else if bytes_eq name (codes "attr") then Some space.Attr else None

-- a file's kind, and the names of the schema's rules, none of them twice
pub record UniverseParts : Type 0 where
  pub kind : FileKind
  pub rules : List (List ℕ)

-- a place is below 2 ^ 32 - 1: rules past that are no functions, and no workspace has them
abbrev pub max_rules : ℕ
max_rules = 4294967295

-- the rule of this name
abbrev pub rule_named : List (List ℕ) → List ℕ → Option HostFunction
rule_named rules name = elim (place_among name rules) [ None ↦ None | Some place ↦ if nat_lt place max_rules then Some (host.Rule place) else None ]

-- the function of BUILD files of this name: one that is predeclared, or a rule
unfoldable pub host_named : List (List ℕ) → List ℕ → Option HostFunction
host_named rules name = elim (predeclared_named name) [ None ↦ rule_named rules name | Some (p.Host f) ↦ Some f | Some _ ↦ None ]

-- what a namespace holds by this name: `native` a build function or rule, `attr` a function that makes attributes
unfoldable pub member_named : Namespace → List (List ℕ) → List ℕ → Option Predeclared
member_named space.Native rules name = option_map p.Host (host_named rules name)
member_named space.Attr rules name = option_map p.RuleFunction (attr_named name)

-- what a name means in a BUILD file: a rule, where it isn't predeclared
abbrev pub in_build : List (List ℕ) → List ℕ → Option Predeclared → Option Predeclared
in_build rules name None = option_map p.Host (rule_named rules name)
in_build rules name (Some x) = Some x

-- what a name means in a .bzl file: `rule` is known, functions of BUILD files aren't
abbrev pub in_bzl : List ℕ → Option Predeclared → Option Predeclared
in_bzl name None = if bytes_eq name (codes "rule") then Some (p.RuleFunction f.Rule) else None
in_bzl name (Some (p.Host f)) = None
in_bzl name (Some x) = Some x

-- what the name stands for in a file that doesn't bind it
unfoldable pub universe_has : UniverseParts → List ℕ → Option Predeclared
universe_has universe name = elim universe.kind [
  | file.Build ↦ in_build universe.rules name (predeclared_named name)
  | file.Bzl ↦ in_bzl name (predeclared_named name)
]
