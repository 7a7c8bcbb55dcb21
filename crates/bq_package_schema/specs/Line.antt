-- What one line of a schema says (ours): `rule NAME`, `attr NAME TYPE` or `attr NAME TYPE mandatory`, its words parted by single
-- spaces. A line is skipped that is blank or begins with `#`. No attribute of a schema has a default.
use Rattle.std.specs.Prelude.{ℕ, List, [], ◌∷◌, Bool, true, false, not, ◌&&◌, ◌||◌, ◌==◌, Some, None, is_some, codes, bytes_eq, if◌then◌else◌}
use Rattle.std.specs.List.{list_all, slice_split}
use Rattle.bq_source.specs.Lexis.{is_blank}
use Rattle.bq_parse_grammar.specs.Literals.{is_identifier}
use Rattle.bq_predeclared.specs.Predeclared.{predeclared_named}
use Rattle.bq_predeclared.specs.AttributeType.{type_named}
use Rattle.bq_value_datum.specs.CommonAttributes.{common_attribute}
use Rattle.bq_package_schema.specs.declared.line.Line.{Line}
use Rattle.bq_package_schema.specs.declared.line.Line.TheVariants as line

-- blank, or a comment
unfoldable pub is_skipped : List ℕ → Bool
is_skipped [] = true
is_skipped (b ∷ bs) = b == 35 || list_all is_blank (b ∷ bs)

-- files have the name without a schema: those of a kind, or `native`
unfoldable pub is_predeclared : List ℕ → Bool
is_predeclared name = is_some (predeclared_named name) || bytes_eq name (codes "native")

-- a rule may have the name
unfoldable pub names_rule : List ℕ → Bool
names_rule name = is_identifier name && not (is_predeclared name)

-- an attribute may have the name
unfoldable pub names_attribute : List ℕ → Bool
names_attribute name = is_identifier name && not (is_some (common_attribute name))

-- two spaces have an empty word between them
abbrev pub words : List ℕ → List (List ℕ)
words line = slice_split (λ b. b == 32) line

-- a line that begins a rule, if it has a name that one can have
unfoldable pub rule_line : List ℕ → Line
rule_line name = if names_rule name then line.Rule name else line.Other

-- a line that declares an attribute, if its name and its type are good
unfoldable pub attribute_line : List ℕ → List ℕ → Bool → Line
attribute_line name kind mandatory = if names_attribute name then elim (type_named kind) [
  | Some known ↦ line.Attribute name (record { kind = known; is_mandatory = mandatory; default = None })
  | None ↦ line.Other
] else line.Other

-- what these words say
unfoldable pub words_line : List (List ℕ) → Line
words_line (key ∷ name ∷ []) = if bytes_eq key (codes "rule") then rule_line name else line.Other
words_line (key ∷ name ∷ kind ∷ []) = if bytes_eq key (codes "attr") then attribute_line name kind false else line.Other
words_line (key ∷ name ∷ kind ∷ mark ∷ []) =
    if bytes_eq key (codes "attr") then (if bytes_eq mark (codes "mandatory") then attribute_line name kind true else line.Other) else line.Other
words_line _ = line.Other

-- what the line says
unfoldable pub line_of : List ℕ → Line
line_of text = if is_skipped text then line.Skipped else words_line (words text)
