-- Each line is the text of its object.
use Rattle.std.proofs.Common.{◌≡◌, ◌∙◌, ℕ, List, [], ◌∷◌, ◌++◌, map, refl, ap}
use Rattle.std.specs.Prelude.{codes}
use Rattle.std.specs.List.{zip}
use Rattle.std.specs.Fmt.{decimal}
use Rattle.bq_base.specs.declared.limits.Limits.{Limits}
use Rattle.bq_label.specs.Label.{LabelParts}
use Rattle.bq_package_values.specs.JsonValue.{Json, Named, fields_of, member_of, object, value_text}
use Rattle.bq_package_values.specs.JsonParts.{Member, json_object}
use Rattle.bq_package_values.proofs.JsonTexts.{array_text, object_text}
use Rattle.bq_package_target.specs.declared.target.Target.{Target}
use Rattle.bq_package_target.specs.declared.target.TargetKind.{TargetKind}
use Rattle.bq_package_target.specs.declared.target.TargetKind.TheVariants as k
use Rattle.bq_package_target.specs.declared.value.GivenAttribute.{GivenAttribute}
use Rattle.bq_resolve_scope.specs.declared.loads.LoadStmt.{LoadStmt}
use Rattle.bq_resolve_scope.specs.declared.loads.LoadedSymbol.{LoadedSymbol}
use Rattle.bq_package_values.specs.Json.{json_labels}
use Rattle.bq_facts.specs.Attributes.{attribute_member, json_attributes}
use Rattle.bq_facts.specs.declared.header.Counts.{Counts}
use Rattle.bq_facts.specs.declared.header.Origin.{Origin}
use Rattle.bq_facts.specs.FaultObject.{fault_object}
use Rattle.bq_facts.specs.Header.{count_members, format, header_line, json_limits}
use Rattle.bq_facts.specs.Laws.{FaultLinesAreObjects, HeadersAreObjects, ModuleLinesAreObjects, TargetLinesAreObjects}
use Rattle.bq_facts.specs.Members.{number_member, string_member}
use Rattle.bq_facts.specs.ModuleLine.{file_members, load_object, module_line, symbol_member}
use Rattle.bq_facts.specs.Objects.{attribute_named, attributes_value, declaration_of, fault_named, header_named, limits_named, load_named, load_value, module_named, symbol_named, target_named}
use Rattle.bq_facts.specs.TargetLine.{declared_by, declared_members, named, names_member, target_line}

abbrev newline : List ℕ → List ℕ
newline t = t ++ 10 ∷ []

-- ---- the first line

limits_text : (l : Limits) → json_limits l ≡ value_text (object (fields_of (limits_named l)))
unfolding json_limits
limits_text l = object_text (limits_named l)

abbrev header_with : Origin → List ℕ → Counts → List Member
header_with o limits c =
    number_member (codes "facts") format ∷ string_member (codes "version") o.version ∷ record { key = codes "limits"; value = limits } ∷ count_members c

pub header_lines : HeadersAreObjects
unfolding header_line
header_lines o c = ap (λ (limits : List ℕ). newline (json_object (header_with o limits c))) (limits_text o.limits) ∙ ap newline (object_text (header_named o c))

-- ---- targets

members_are : (given : List GivenAttribute) → map attribute_member given ≡ map member_of (map attribute_named given)
members_are [] = refl
members_are (a ∷ rest) =
    ap (λ (ms : List Member). attribute_member a ∷ ms) (members_are rest)

attributes_text : (given : List GivenAttribute) → json_attributes given ≡ value_text (attributes_value given)
attributes_text given = ap json_object (members_are given) ∙ object_text (map attribute_named given)

abbrev members_with : Target → List ℕ → List LabelParts → List Member
members_with t attributes deps =
    record { key = codes "line"; value = decimal t.line }
    ∷ record { key = codes "attributes"; value = attributes }
    ∷ names_member t
    ∷ record { key = codes "deps"; value = json_labels deps } ∷ []

declared_are : (t : Target) (deps : List LabelParts) → declared_members t deps ≡ members_with t (value_text (attributes_value t.attributes)) deps
declared_are t deps = ap (λ a. members_with t a deps) (attributes_text t.attributes)

declaration_is : (kind : TargetKind) (t : Target) (deps : List LabelParts) → declared_by kind t deps ≡ map member_of (declaration_of kind t deps)
declaration_is k.Source t deps = refl
declaration_is (k.Rule name class) t deps = declared_are t deps
declaration_is (k.Generated rule) t deps = declared_are t deps
declaration_is k.Group t deps = declared_are t deps

pub target_lines : TargetLinesAreObjects
unfolding target_line
target_lines t file deps =
    ap (λ (ms : List Member). newline (json_object (named t file ++ ms))) (declaration_is t.kind t deps) ∙ ap newline (object_text (target_named t file deps))

-- ---- modules

symbols_are : (cs : List LoadedSymbol) → map symbol_member cs ≡ map member_of (map symbol_named cs)
symbols_are [] = refl
symbols_are (c ∷ cs) = ap (λ (ms : List Member). symbol_member c ∷ ms) (symbols_are cs)

abbrev load_with : LoadStmt × LabelParts → List ℕ → List Member
load_with p symbols = file_members (codes "label") p.1 ++ (record { key = codes "line"; value = decimal p.0.line } ∷ record { key = codes "symbols"; value = symbols } ∷ [])

load_is : (p : LoadStmt × LabelParts) → load_object p ≡ value_text (load_value p)
unfolding load_object
load_is p =
    ap (λ (t : List ℕ). json_object (load_with p t)) (ap json_object (symbols_are p.0.clauses) ∙ object_text (map symbol_named p.0.clauses))
    ∙ object_text (load_named p)

abbrev module_with : LabelParts → List ℕ → List Member
module_with l loads = file_members (codes "module") l ++ (record { key = codes "loads"; value = loads } ∷ [])

pub module_lines : ModuleLinesAreObjects
unfolding module_line
module_lines l loads files =
    ap (λ (t : List ℕ). newline (json_object (module_with l t))) (array_text load_object load_value load_is (zip loads files)) ∙ ap newline (object_text (module_named l loads files))

-- ---- faults

pub fault_lines : FaultLinesAreObjects
unfolding fault_object
fault_lines l = ap newline (object_text (fault_named l))
