-- The target that a call of a rule declares (Bazel, Build Encyclopedia, "Common definitions"), or why it declares none (ours: in which
-- order the faults come). A call has keyword arguments alone, as a call of a function that has `**` alone. It is one definition for the
-- rules of a schema and for those that .bzl files declare: a rule is its kind and its class.
use Rattle.std.specs.Prelude.{ℕ, List, [], ◌∷◌, ◌++◌, Bool, true, false, not, ◌||◌, Option, Some, None, Result, Ok, Err, if◌then◌else◌}
use Rattle.std.specs.List.{list_all, flat_map}
use Rattle.bq_base.specs.declared.fault.EvalFault.{EvalFault}
use Rattle.bq_base.specs.declared.fault.EvalFault.TheVariants.{MissingAttribute}
use Rattle.bq_label.specs.declared.packages.BuildFile.{BuildFile}
use Rattle.bq_label.specs.Label.{PackageParts, LabelParts}
use Rattle.bq_value_datum.specs.Class.{Class}
use Rattle.bq_value_datum.specs.declared.attribute.Attribute.{Attribute}
use Rattle.bq_package_target.specs.declared.target.Target.{Target}
use Rattle.bq_package_target.specs.declared.target.TargetKind.TheVariants as kind
use Rattle.bq_package_target.specs.declared.value.GivenAttribute.{GivenAttribute}
use Rattle.bq_value.specs.Datum.{Datum, string}
use Rattle.bq_value.specs.Cells.{StoreView}
use Rattle.bq_value.specs.Pairs.{found}
use Rattle.bq_builtin_machine.specs.Args.{Passed}
use Rattle.bq_builtin_machine.specs.Parameters.{SignatureView}
use Rattle.bq_builtin_machine.specs.Binding.{bind}
use Rattle.bq_package_values.specs.Steps.{and_then}
use Rattle.bq_value_datum.specs.AttributeValue.{names_outputs}
use Rattle.bq_package_attributes.specs.Arguments.{nothing_given, is_none, with_arguments}

-- `**` alone
abbrev pub keywords_alone : SignatureView
keywords_alone = record { parameters = []; placed = 0; takes_rest = false; takes_keywords = true }

-- a keyword argument of that name is there, and isn't `None`
abbrev pub gives : List (Datum × Datum) → List ℕ → Bool
gives keywords name = elim (found (string name) keywords) [ None ↦ false | Some v ↦ not (is_none v) ]

-- the attribute is given, if it has to be
abbrev pub is_met : List (Datum × Datum) → List ℕ × Attribute → Bool
is_met keywords e = not e.1.is_mandatory || gives keywords e.0

-- each attribute that has to be given is
unfoldable pub gives_mandatory : Class → List (Datum × Datum) → Bool
gives_mandatory class keywords = list_all (is_met keywords) class

-- the default of an attribute that the keyword arguments don't give; the names of outputs have no defaults
unfoldable pub default_for : List (Datum × Datum) → List ℕ × Attribute → List GivenAttribute
default_for keywords e =
    if gives keywords e.0 then [] else elim e.1.default [ None ↦ [] | Some v ↦ if names_outputs v then [] else record { name = e.0; value = v } ∷ [] ]

-- the defaults of all of them, in the order of the class
abbrev pub defaults : List (Datum × Datum) → Class → List GivenAttribute
defaults keywords class = flat_map (default_for keywords) class

-- the target that a rule declares
abbrev pub target_of : List ℕ → Class → ℕ → LabelParts → List GivenAttribute → Target
target_of rule class line l attributes = record { label = l; kind = kind.Rule rule class; attributes = attributes; line = line }

-- F72 where the name isn't given, or another attribute that has to be
abbrev pub if_whole : Bool → List ℕ → Class → ℕ → Option LabelParts → List GivenAttribute → Result Target EvalFault
if_whole gives_others rule class line None attributes = Err MissingAttribute
if_whole gives_others rule class line (Some l) attributes = if gives_others then Ok (target_of rule class line l attributes) else Err MissingAttribute

-- the target of these keyword arguments: their faults, then F72; the defaults of what isn't given come after what is
unfoldable pub target : PackageParts → List BuildFile → StoreView → Class → List ℕ → ℕ → List (Datum × Datum) → Result Target EvalFault
target own packages store class rule line keywords =
    and_then (with_arguments own packages store class nothing_given keywords)
    (λ g. if_whole (gives_mandatory class keywords) rule class line g.name (g.attributes ++ defaults keywords class))

-- F52, then the faults of the arguments, then F72
unfoldable pub declaration : PackageParts → List BuildFile → StoreView → Class → List ℕ → ℕ → Passed → Result Target EvalFault
declaration own packages store class rule line passed = and_then (bind keywords_alone passed) (λ b. target own packages store class rule line b.keywords)
