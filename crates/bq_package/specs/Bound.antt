-- The parameters of the build functions (Bazel, Build Encyclopedia, "Functions"), and what is read of the arguments that they take.
use Rattle.std.specs.Prelude.{ℕ, false, List, [], ◌∷◌, Option, Some, None, Result, Ok, Err, codes}
use Rattle.bq_base.specs.declared.fault.EvalFault.{EvalFault}
use Rattle.bq_base.specs.declared.fault.EvalFault.TheVariants.{AttributeType}
use Rattle.bq_value.specs.Datum.{Datum}
use Rattle.bq_value.specs.Cells.{StoreView}
use Rattle.bq_builtin_machine.specs.Parameters.{SignatureView}
use Rattle.bq_package_values.specs.Parameters.{required, optional}
use Rattle.bq_package_values.specs.Texts.{text_in, texts_in}

-- `(include, exclude = [], exclude_directories = 1, allow_empty = True)`
abbrev pub glob_parameters : SignatureView
glob_parameters = record {
  parameters = required (codes "include") ∷ optional (codes "exclude") ∷ optional (codes "exclude_directories") ∷ optional (codes "allow_empty") ∷ [];
  placed = 4;
  takes_rest = false;
  takes_keywords = false;
}

-- `(srcs, visibility = None, licenses = None)`
abbrev pub exports_parameters : SignatureView
exports_parameters = record {
  parameters = required (codes "srcs") ∷ optional (codes "visibility") ∷ optional (codes "licenses") ∷ [];
  placed = 3;
  takes_rest = false;
  takes_keywords = false;
}

-- `(name, packages = [], includes = [])`
abbrev pub group_parameters : SignatureView
group_parameters = record {
  parameters = required (codes "name") ∷ optional (codes "packages") ∷ optional (codes "includes") ∷ [];
  placed = 3;
  takes_rest = false;
  takes_keywords = false;
}

-- a string (F73)
abbrev pub text_of : Option Datum → Result (List ℕ) EvalFault
text_of None = Err AttributeType
text_of (Some v) = text_in AttributeType v

-- a list or a tuple of strings (F73); no strings if the argument is left out
abbrev pub texts_of : StoreView → Option Datum → Result (List (List ℕ)) EvalFault
texts_of store None = Ok []
texts_of store (Some v) = texts_in AttributeType store v
