-- The value of a predeclared name calls what the name stands for, and prints that name.
use Rattle.std.proofs.Common.{◌≡◌, ◌∙◌, ◌<◌, ℕ, true, List, Option, Some, None, refl, sym, ap, subst, length, slice_get, nat_lt, arith}
use Rattle.std.specs.Prelude.{if◌then◌else◌}
use Rattle.std.specs.Option.{option_map}
use Rattle.std.proofs.lemmas.Option.{slice_get_within}
use Rattle.bq_predeclared.specs.declared.host_function.HostFunction.{HostFunction}
use Rattle.bq_predeclared.specs.declared.host_function.HostFunction.TheVariants as h
use Rattle.bq_predeclared.specs.declared.predeclared.Predeclared.{Predeclared}
use Rattle.bq_predeclared.specs.declared.predeclared.Predeclared.TheVariants as p
use Rattle.bq_predeclared.specs.Predeclared.{built_in_names, name_of}
use Rattle.bq_predeclared.specs.PredeclaredLaws.{EachNameIsFound}
use Rattle.bq_resolve_scope.specs.Names.{Name}
use Rattle.bq_resolve_scope.specs.Universe.{in_build, max_rules}
use Rattle.bq_value.specs.Datum.{text_of_name}
use Rattle.bq_package_values.specs.BuiltIns.{predeclared_value}
use Rattle.bq_package_values.specs.BuiltInLaws.{AreRules, function_named, IsWhatItIsCalled, EachIsWhatItIsCalled}
use Rattle.bq_package_values.proofs.BuiltInCases.{rule_value, named_value}

named : (rules : List Name) (x : Predeclared) (name : Name) → EachNameIsFound → name_of x ≡ Some name → function_named rules name ≡ Some x
unfolding function_named
named rules x name each e = ap (in_build rules name) (each x name e)

function_of_name : (rules : List Name) (x : Predeclared) (own : Option Name) (name : Name) → EachNameIsFound → name_of x ≡ own → own ≡ Some name
    → function_named rules (text_of_name own) ≡ Some x
function_of_name rules x own name each e f =
    let n : name_of x ≡ Some name = e ∙ f in
    subst (λ o. function_named rules (text_of_name o) ≡ Some x) (sym f) (named rules x name each n)

abbrev rule_at : Option ℕ → Option HostFunction
rule_at o = elim o [ None ↦ None | Some place ↦ if nat_lt place max_rules then Some (h.Rule place) else None ]

rule : (rules : List Name) (place : ℕ) (name : Name) → AreRules rules → slice_get rules place ≡ Some name → function_named rules name ≡ Some (p.Host (h.Rule place))
unfolding function_named
rule rules place name are there =
    let within : place < length rules = slice_get_within rules place name there in
    let few = are.few in
    let has : nat_lt place max_rules ≡ true = grind arith in
    rw (are.own place name there)
    (ap (λ o. option_map p.Host (rule_at o)) (are.once place name there) ∙ ap (λ b. option_map p.Host (if b then Some (h.Rule place) else None)) has)

rule_by : (rules : List Name) (place : ℕ) (o : Option Name) → AreRules rules → slice_get rules place ≡ o → IsWhatItIsCalled rules (p.Host (h.Rule place)) (rule_value place o)
rule_by rules place None are e = tt
rule_by rules place (Some name) are e = (refl, rule rules place name are e)

named_by : (rules : List Name) (x : Predeclared) (o : Option Name) → AreRules rules → EachNameIsFound → name_of x ≡ o → IsWhatItIsCalled rules x (named_value x o)
named_by rules x None are each e = tt
named_by rules x (Some name) are each e = (refl, function_of_name rules x (name_of x) name each refl e)

pub each_is : EachNameIsFound → EachIsWhatItIsCalled
unfolding predeclared_value
each_is each rules are p.None = tt
each_is each rules are p.True = tt
each_is each rules are p.False = tt
each_is each rules are (p.RuleFunction f) = tt
each_is each rules are (p.Host (h.Rule place)) = rule_by rules place (slice_get rules place) are refl
each_is each rules are (p.BuiltIn place) = named_by rules (p.BuiltIn place) (slice_get built_in_names place) are each refl
each_is each rules are (p.Host h.Glob) = named_by rules (p.Host h.Glob) _ are each refl
each_is each rules are (p.Host h.PackageName) = named_by rules (p.Host h.PackageName) _ are each refl
each_is each rules are (p.Host h.Package) = named_by rules (p.Host h.Package) _ are each refl
each_is each rules are (p.Host h.Licenses) = named_by rules (p.Host h.Licenses) _ are each refl
each_is each rules are (p.Host h.ExportsFiles) = named_by rules (p.Host h.ExportsFiles) _ are each refl
each_is each rules are (p.Host h.PackageGroup) = named_by rules (p.Host h.PackageGroup) _ are each refl
