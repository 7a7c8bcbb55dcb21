-- The kinds of rules (Bazel, "rule"): a rule is called by the name of the first of the globals of its own module, in order, that
-- holds it when the module is frozen.
use Rattle.std.specs.Prelude.{ℕ, cond, ◌&&◌, Bool, true, false, List, [], ◌∷◌, ◌++◌, slice_get, Option, Some, None, is_some, ◌==◌}
use Rattle.std.specs.Coded.{Coded, coded×, coded_ℕ, coded_list}
use Rattle.std.specs.Map.{lookup}
use Rattle.bq_value_datum.specs.Datum.{Datum, cell}
use Rattle.bq_value_datum.specs.Codes.{coded_text}
use Rattle.bq_value_content.specs.Contents.{Contents, rule}
use Rattle.bq_value_datum.specs.Same.{same}

-- the names of rules, each after the number of the rule's cell
abbrev pub Kinds : Type 0
Kinds = List (ℕ × List ℕ)

-- a code of the kinds of a module's rules, which no other kinds have
abbrev pub coded_kinds : Coded Kinds
coded_kinds = coded_list (coded× coded_ℕ coded_text)

-- the kind of the rule in the cell of that number
abbrev pub kind_at : ℕ → Kinds → Option (List ℕ)
kind_at number kinds = lookup (λ n. number == n) kinds

-- a cell holds a rule
abbrev pub is_rule : Option Contents → Bool
is_rule (Some (rule c)) = true
is_rule _ = false

-- the number of the cell that a value is, where that is one of these cells of this module, and holds a rule
unfoldable pub rule_number : ℕ → List Contents → Datum → Option ℕ
rule_number own cells (cell home number) = cond ((home == own) && is_rule (slice_get cells number)) (Some number) None
rule_number own cells _ = None

-- a rule that has no name yet gets this one
unfoldable pub with_kind : Kinds → Option ℕ → List ℕ → Kinds
with_kind kinds None name = kinds
with_kind kinds (Some number) name = cond (is_some (kind_at number kinds)) kinds (kinds ++ (number, name) ∷ [])

-- the names that the rules among these values get, each value after its name, beside those that they have
abbrev pub kinds_from : ℕ → List Contents → Kinds → List (List ℕ) → List Datum → Kinds
kinds_from own cells kinds [] values = kinds
kinds_from own cells kinds (name ∷ names) [] = kinds
kinds_from own cells kinds (name ∷ names) (value ∷ values) =
    kinds_from own cells (with_kind kinds (rule_number own cells value) name) names values

-- the kinds of the rules of a module with these cells, where its globals have these names and values
unfoldable pub kinds_of : ℕ → List Contents → List (List ℕ) → List Datum → Kinds
kinds_of own cells names values = kinds_from own cells [] names values

-- the name of the first of these globals that is this value
abbrev pub first_holding : Datum → List (List ℕ) → List Datum → Option (List ℕ)
first_holding held [] values = None
first_holding held (name ∷ names) [] = None
first_holding held (name ∷ names) (value ∷ values) = cond (same held value) (Some name) (first_holding held names values)
