-- A label that is printed in full says where its file is.
use Rattle.std.proofs.Common.{[], Option, ap, refl}
use Rattle.bq_label.specs.Label.{LabelParts, full_form, package_at}
use Rattle.bq_label.proofs.Readings.{full_form_reads, label_from_reading}
use Rattle.bq_facts.specs.FaultObject.{file_labelled, path_by}
use Rattle.bq_facts.specs.Laws.{PathsOfLabels}

pub path_of_label : PathsOfLabels
unfolding file_labelled
path_of_label l valid = ap (λ (found : Option LabelParts). path_by found) (label_from_reading (package_at [] []) (full_form l) l (full_form_reads (package_at [] []) l refl valid))
