-- A text that reads as no label is the label of no .bzl file.
use Rattle.std.proofs.Common.{◌≡◌, ℕ, List, Bool, true, false, Option, Some, None, Err, nat_eq, codes, refl, cond, if◌then◌else◌}
use Rattle.std.specs.List.{ends_with}
use Rattle.std.specs.Option.{option_and_then}
use Rattle.bq_base.specs.declared.fault.EvalFault.{EvalFault}
use Rattle.bq_base.specs.declared.fault.Fault.{Fault}
use Rattle.bq_label.specs.Label.{PackageParts, LabelParts}
use Rattle.bq_label.specs.Reading.{label_of, or_bad_label}
use Rattle.bq_load_front.specs.NamedFile.{bzl_label, has_load_form}

-- a label that can be loaded ends in `.bzl`
abbrev pub if_bzl : Option LabelParts → Option LabelParts
if_bzl o = option_and_then (λ l. if ends_with nat_eq l.name (codes ".bzl") then Some l else None) o

unread_by : (form : Bool) (r : Option LabelParts) (why : Fault EvalFault) → or_bad_label r ≡ Err why → None ≡ cond form (if_bzl r) None
unread_by true None why h = refl
unread_by true (Some l) why h = cc
unread_by false r why h = refl

pub unread : (own : PackageParts) (text : List ℕ) (why : Fault EvalFault) → or_bad_label (label_of own text) ≡ Err why → None ≡ bzl_label own text
unfolding bzl_label
unread own text why h = unread_by (has_load_form text) (label_of own text) why h
