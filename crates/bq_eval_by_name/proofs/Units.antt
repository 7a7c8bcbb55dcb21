-- Frozen modules, read by names, are what they are by slots.
use Rattle.std.proofs.Common.{ℕ, zero, suc, List, [], ◌∷◌, length, drop, Option, Some, None, Ok, slice_get, refl, ap, subst}
use Rattle.bq_resolve_scope.specs.declared.file.ResolvedFile.{ResolvedFile}
use Rattle.bq_resolve_scope.specs.Names.{global_names}
use Rattle.bq_resolve_laws.specs.Resolution.{InOrder, Maybe}
use Rattle.bq_resolve_laws.proofs.Loads.{globals_kept}
use Rattle.bq_value.specs.Cells.{FrozenView}
use Rattle.bq_value.specs.Datum.{Datum}
use Rattle.bq_eval_spec.specs.Slots as slots
use Rattle.bq_eval_spec.specs.Slots.{globals_among}
use Rattle.bq_eval_spec.specs.ModuleByName as names
use Rattle.bq_eval_by_name.specs.Units.{UnitIs, UnitsAgree}
use Rattle.bq_eval_by_name.proofs.ModuleAgreement.{frozen_is}
use Rattle.bq_resolve_laws.specs.Files.{ParsedFile, ResolvesTo}
use Rattle.bq_eval_by_name.specs.EvaluationAgreement.{AllResolveTo}
use Rattle.bq_eval_by_name.specs.Evaluation.{values_named, frozen_by, frozen_unit, frozen_units}
use Rattle.bq_eval_by_name.proofs.Values.{named_reads}

-- those of one place are related, as all are
pub in_place : {A B : Type 0} (R : A → B → Type 0) (xs : List A) (ys : List B) (n : ℕ) → InOrder R xs ys → Maybe R (slice_get xs n) (slice_get ys n)
in_place R [] [] n h = tt
in_place R [] (y ∷ ys) n h = absurd h
in_place R (x ∷ xs) [] n h = absurd h
in_place R (x ∷ xs) (y ∷ ys) zero h = h.0
in_place R (x ∷ xs) (y ∷ ys) (suc n) h = in_place R xs ys n h.1

frozen_of : (file : ParsedFile) (resolved_file : ResolvedFile) → ResolvesTo file resolved_file → (values : List Datum) → Maybe UnitIs (Some (frozen_by file values)) (slots.frozen_unit (Some (Some resolved_file)) (Some values))
frozen_of file resolved_file is values =
    subst (λ n. Maybe UnitIs (Some (names.frozen_unit file.universe file.statements (drop n values) (values_named (global_names file.statements) values))) (slots.frozen_unit (Some (Some resolved_file)) (Some values)))
    (ap length (globals_kept file resolved_file is))
    (frozen_is file.universe file.statements resolved_file is.names (values_named (global_names file.statements) values) (λ k. slice_get values k) values
    (named_reads (global_names file.statements) values) (λ k within. refl))

unit_by : (f : Option (Option ParsedFile)) (c : Option (Option ResolvedFile)) → Maybe (Maybe ResolvesTo) f c → (values : Option (List Datum)) → Maybe UnitIs (frozen_unit f values) (slots.frozen_unit c values)
unit_by None None h values = tt
unit_by None (Some c) h values = absurd h
unit_by (Some f) None h values = absurd h
unit_by (Some None) (Some None) h values = tt
unit_by (Some None) (Some (Some c)) h values = absurd h
unit_by (Some (Some f)) (Some None) h values = absurd h
unit_by (Some (Some f)) (Some (Some c)) h None = tt
unit_by (Some (Some f)) (Some (Some c)) h (Some values) = frozen_of f c h values

pub units_agree : (files : List (Option ParsedFile)) (resolved_files : List (Option ResolvedFile)) → AllResolveTo files resolved_files → (loaded : List FrozenView) → UnitsAgree (frozen_units files loaded) (slots.frozen_units resolved_files loaded)
unfolding frozen_units slots.frozen_units
units_agree files resolved_files are loaded n = unit_by (slice_get files n) (slice_get resolved_files n) (in_place (Maybe ResolvesTo) files resolved_files n are) (globals_among n loaded)
