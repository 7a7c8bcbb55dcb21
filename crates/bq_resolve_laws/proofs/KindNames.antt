-- Which names a file of each kind has without binding them: what declares rules, and namespaces.
use Rattle.std.proofs.Common.{◌≡◌, Bool, true, false, List, Option, Some, None, ◌⊎◌, inl, inr, refl, subst, bytes_eq}
use Rattle.std.specs.Prelude.{if◌then◌else◌}
use Rattle.std.specs.Option.{option_map}
use Rattle.bq_parse_grammar.specs.declared.tree.FileKind.TheVariants as kinds
use Rattle.bq_predeclared.specs.declared.host_function.HostFunction.{HostFunction}
use Rattle.bq_predeclared.specs.declared.predeclared.Predeclared.{Predeclared}
use Rattle.bq_predeclared.specs.declared.predeclared.Predeclared.TheVariants as pre
use Rattle.bq_predeclared.specs.declared.rule_function.RuleFunction.{RuleFunction}
use Rattle.bq_predeclared.specs.Predeclared.{place_from, first_named, predeclared_named}
use Rattle.bq_predeclared.proofs.NameFound.{nothing_else, same_name}
use Rattle.bq_resolve_scope.specs.declared.universe.Namespace.{Namespace}
use Rattle.bq_resolve_scope.specs.declared.universe.Namespace.TheVariants as space
use Rattle.bq_resolve_scope.specs.Universe.{in_build, rule_named, universe_has}
use Rattle.bq_resolve_scope.proofs.Cases.{attr, native}
use Rattle.bq_resolve_scope.specs.Names.{Name}
use Rattle.bq_resolve_laws.specs.Binds.{BuildFilesDeclareNoRules, BzlFilesHaveRule, NamespacesAreNoValues}

-- ---- what declares rules

no_rule_function : (name : Name) (f : RuleFunction) → predeclared_named name ≡ Some (pre.RuleFunction f) → ⊥
no_rule_function name f h = let e : None ≡ Some name = nothing_else (pre.RuleFunction f) name h in cc

no_rule : (o : Option HostFunction) (f : RuleFunction) → option_map pre.Host o ≡ Some (pre.RuleFunction f) → ⊥
no_rule None f h = cc
no_rule (Some g) f h = cc

in_build_by : (rules : List Name) (name : Name) (o : Option Predeclared) (f : RuleFunction) → (o ≡ Some (pre.RuleFunction f) → ⊥) → in_build rules name o ≡ Some (pre.RuleFunction f) → ⊥
in_build_by rules name None f other h = no_rule (rule_named rules name) f h
in_build_by rules name (Some x) f other h = other h

pub build_files_declare_none : BuildFilesDeclareNoRules
unfolding universe_has
build_files_declare_none rules name f h = in_build_by rules name (predeclared_named name) f (no_rule_function name f) h

pub bzl_files_have_rule : BzlFilesHaveRule
unfolding universe_has predeclared_named place_from first_named
bzl_files_have_rule rules = refl

-- ---- namespaces

one_of : (s t : Bool) (x : Namespace) → (if s then Some space.Native else if t then Some space.Attr else None) ≡ Some x → (s ≡ true) ⊎ (t ≡ true)
one_of true t x h = inl refl
one_of false true x h = inr refl
one_of false false x h = absurd (let no : ⊥ = cc in no)

-- no .bzl file has the name without binding it
abbrev IsNoValue : List Name → Name → Type 0
IsNoValue rules name = universe_has (record { kind = kinds.Bzl; rules = rules }) name ≡ None

native_is_none : (rules : List Name) → IsNoValue rules native
unfolding universe_has predeclared_named place_from first_named
native_is_none rules = refl

attr_is_none : (rules : List Name) → IsNoValue rules attr
unfolding universe_has predeclared_named place_from first_named
attr_is_none rules = refl

by_name : (rules : List Name) (name : Name) → (bytes_eq name native ≡ true) ⊎ (bytes_eq name attr ≡ true) → IsNoValue rules name
by_name rules name (inl h) = subst (λ n. IsNoValue rules n) (same_name name native h) (native_is_none rules)
by_name rules name (inr h) = subst (λ n. IsNoValue rules n) (same_name name attr h) (attr_is_none rules)

pub namespaces_are_no_values : NamespacesAreNoValues
namespaces_are_no_values rules name x h = by_name rules name (one_of (bytes_eq name native) (bytes_eq name attr) x h)
