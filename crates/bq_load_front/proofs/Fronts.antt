-- What the file of a label is, by the grammar, is what is read of it: so it is one thing.
use Rattle.std.proofs.Common.{◌≡◌, ◌∙◌, Option, None, Some, Result, refl, sym, ap, subst}
use Rattle.bq_base.specs.declared.fault.FaultKind.{FaultKind}
use Rattle.bq_base.specs.declared.fault.Fault.{Fault}
use Rattle.bq_label.specs.declared.workspace.File.{File}
use Rattle.bq_label.specs.Label.{LabelParts}
use Rattle.bq_label.specs.Packages.{label_file}
use Rattle.bq_resolve_scope.specs.Universe.{UniverseParts}
use Rattle.bq_resolve_laws.specs.Files.{ParsedFile}
use Rattle.bq_load_front.specs.Resolved.{◌>>=◌}
use Rattle.bq_load_front.specs.Inputs.{InputParts, universe_of}
use Rattle.bq_load_front.specs.FileLaws.{FrontsOfLabels}
use Rattle.bq_load_front.specs.Parsed.{ParsedFront, Fronts, AreFronts, IsFront, kind_of, front_from}
use Rattle.bq_load_front.specs.Reading.{file_of_text, parsed_of}
use Rattle.bq_load_front.proofs.Cases.{parsed_at}
use Rattle.bq_load_front.proofs.Texts.{files_of_texts}

module _ (inputs : InputParts) (l : LabelParts) where
  abbrev universe : UniverseParts
  universe = universe_of inputs (kind_of l)

  abbrev of_file : Result ParsedFile (Fault FaultKind) → Result ParsedFront (Fault FaultKind)
  of_file r = r >>= front_from inputs l

  by_file : (o : Option File) → label_file inputs.files l ≡ o → IsFront inputs l (parsed_at inputs l o)
  by_file None at = IsFront.no_file at refl
  by_file (Some x) at =
      let file : Result ParsedFile (Fault FaultKind) = file_of_text universe x.content in
      IsFront.found x file at ((files_of_texts universe x.content file).0 refl) refl

  is_front : IsFront inputs l (parsed_of inputs l)
  unfolding parsed_of
  is_front = by_file (label_file inputs.files l) refl

  only_front : (r : Result ParsedFront (Fault FaultKind)) → IsFront inputs l r → parsed_of inputs l ≡ r
  unfolding parsed_of
  only_front r (IsFront.no_file at e) = ap (parsed_at inputs l) at ∙ sym e
  only_front r (IsFront.found x file at is e) = ap (parsed_at inputs l) at ∙ ap of_file ((files_of_texts universe x.content file).1 is) ∙ sym e

  from_reading : (r : Result ParsedFront (Fault FaultKind)) → parsed_of inputs l ≡ r → IsFront inputs l r
  from_reading r e = subst (IsFront inputs l) e is_front

pub fronts_of_labels : FrontsOfLabels
fronts_of_labels inputs l r = (λ e. from_reading inputs l r e, λ is. only_front inputs l r is)

-- ---- of all labels

pub are_fronts : (inputs : InputParts) → AreFronts inputs (parsed_of inputs)
are_fronts inputs l = is_front inputs l

pub fronts_are : (inputs : InputParts) (fronts : Fronts) → AreFronts inputs fronts → fronts ≡ parsed_of inputs
fronts_are inputs fronts are = λ i l. sym (only_front inputs l (fronts l) (are l)) i

pub same_fronts : (inputs : InputParts) (a b : Fronts) → AreFronts inputs a → AreFronts inputs b → a ≡ b
same_fronts inputs a b is-a is-b = fronts_are inputs a is-a ∙ sym (fronts_are inputs b is-b)
