-- The parameters of the functions that declare rules (Bazel, "attr", "rule"), and what is read of the arguments that they take.
use Rattle.std.specs.Prelude.{false, [], ◌∷◌, Option, Some, None, Result, Ok, Err, codes}
use Rattle.bq_base.specs.declared.fault.EvalFault.{EvalFault}
use Rattle.bq_base.specs.declared.fault.EvalFault.TheVariants.{WrongType}
use Rattle.bq_value.specs.Datum.{Datum, none, string}
use Rattle.bq_builtin_machine.specs.Parameters.{SignatureView}
use Rattle.bq_package_values.specs.Parameters.{required, optional}

-- `(*, default, mandatory = False, doc = "")` of `attr.NAME`, and what is accepted and changes nothing: keywords alone
abbrev pub attribute_parameters : SignatureView
attribute_parameters = record {
  parameters = optional (codes "default") ∷ optional (codes "mandatory") ∷ optional (codes "doc") ∷ optional (codes "allow_files") ∷ optional (codes "allow_single_file")
      ∷ optional (codes "providers") ∷ optional (codes "cfg") ∷ optional (codes "executable") ∷ optional (codes "values") ∷ optional (codes "allow_empty") ∷ [];
  placed = 0;
  takes_rest = false;
  takes_keywords = false;
}

-- `(implementation, attrs = {}, doc = "")` of `rule`, and by keyword what is accepted and changes nothing
abbrev pub rule_parameters : SignatureView
rule_parameters = record {
  parameters = required (codes "implementation") ∷ optional (codes "attrs") ∷ optional (codes "doc") ∷ optional (codes "executable") ∷ optional (codes "test")
      ∷ optional (codes "provides") ∷ optional (codes "toolchains") ∷ optional (codes "fragments") ∷ [];
  placed = 3;
  takes_rest = false;
  takes_keywords = false;
}

-- `doc` is a string or `None` (F40)
abbrev pub documented : Option Datum → Result (Unit {0}) EvalFault
documented None = Ok tt
documented (Some none) = Ok tt
documented (Some (string text)) = Ok tt
documented (Some v) = Err WrongType
