-- The attributes that all rules have (Bazel, Build Encyclopedia, "Common definitions").
use Rattle.std.specs.Prelude.{ℕ, List, [], ◌∷◌, Option, codes, bytes_eq}
use Rattle.std.specs.Map.{lookup}
use Rattle.bq_predeclared.specs.declared.attribute_type.AttributeType.{AttributeType}
use Rattle.bq_predeclared.specs.declared.attribute_type.AttributeType.TheVariants as t

-- the type of an attribute that each rule has
abbrev pub common_attribute : List ℕ → Option AttributeType
common_attribute name =
    lookup (bytes_eq name)
    ((codes "name", t.String) ∷ (codes "visibility", t.StringList) ∷ (codes "tags", t.StringList) ∷ (codes "features", t.StringList)
    ∷ (codes "testonly", t.Bool) ∷ (codes "deprecation", t.String) ∷ [])
