-- The schema of a workspace without a file of its own (ours: a part of the rules of Bazel, Build Encyclopedia: filegroup, genrule, alias,
-- test_suite).
use Rattle.std.specs.Prelude.{ℕ, List, [], ◌∷◌, true, false, None, codes}
use Rattle.bq_value_datum.specs.declared.attribute.Attribute.{Attribute}
use Rattle.bq_predeclared.specs.declared.attribute_type.AttributeType.{AttributeType}
use Rattle.bq_predeclared.specs.declared.attribute_type.AttributeType.TheVariants as t
use Rattle.bq_package_schema.specs.Schema.{Rules}

-- its lines
abbrev pub standard_lines : List (List ℕ)
standard_lines =
    codes "rule filegroup" ∷ codes "attr srcs label_list" ∷ codes "attr data label_list" ∷ codes "attr output_group string"
    ∷ codes "rule genrule" ∷ codes "attr srcs label_list" ∷ codes "attr outs output_list mandatory" ∷ codes "attr cmd string"
    ∷ codes "attr cmd_bash string" ∷ codes "attr cmd_bat string" ∷ codes "attr cmd_ps string" ∷ codes "attr output_to_bindir bool"
    ∷ codes "attr executable bool" ∷ codes "attr local bool" ∷ codes "attr message string" ∷ codes "attr tools label_list"
    ∷ codes "rule alias" ∷ codes "attr actual label mandatory"
    ∷ codes "rule test_suite" ∷ codes "attr tests label_list" ∷ []

-- an attribute that may be left out
abbrev optional : List ℕ → AttributeType → List ℕ × Attribute
optional name kind = (name, record { kind = kind; is_mandatory = false; default = None })

-- an attribute that has to be given
abbrev mandatory : List ℕ → AttributeType → List ℕ × Attribute
mandatory name kind = (name, record { kind = kind; is_mandatory = true; default = None })

-- the rules of a workspace without a schema of its own
abbrev pub standard_rules : Rules
standard_rules = record {
  names = codes "filegroup" ∷ codes "genrule" ∷ codes "alias" ∷ codes "test_suite" ∷ [];
  classes =
      (optional (codes "srcs") t.LabelList ∷ optional (codes "data") t.LabelList ∷ optional (codes "output_group") t.String ∷ [])
      ∷ (optional (codes "srcs") t.LabelList ∷ mandatory (codes "outs") t.OutputList ∷ optional (codes "cmd") t.String ∷ optional (codes "cmd_bash") t.String
      ∷ optional (codes "cmd_bat") t.String ∷ optional (codes "cmd_ps") t.String ∷ optional (codes "output_to_bindir") t.Bool ∷ optional (codes "executable") t.Bool
      ∷ optional (codes "local") t.Bool ∷ optional (codes "message") t.String ∷ optional (codes "tools") t.LabelList ∷ [])
      ∷ (mandatory (codes "actual") t.Label ∷ [])
      ∷ (optional (codes "tests") t.LabelList ∷ []) ∷ [];
}
