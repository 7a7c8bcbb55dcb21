-- A file that was parsed and resolved does not get stuck, since it is sound.
use Rattle.std.proofs.Common.{List, [], ◌∷◌, Option, Some, None}
use Rattle.std.specs.List.{AllByRecursion}
use Rattle.bq_resolve_scope.specs.declared.file.ResolvedFile.{ResolvedFile}
use Rattle.bq_eval_spec.specs.Primitives.{Primitives}
use Rattle.bq_eval_laws.specs.Sound.{FileIsSound}
use Rattle.bq_eval_laws.specs.Stuck.{NeverStuck, IsResolvedFile, IfAny, ResolvedFilesRunUnstuck}
use Rattle.bq_eval_laws.proofs.UnstuckModuleRules.{IfSound, module_rule}
use Rattle.bq_eval_laws.proofs.Sound.{each_file}

file_sound : (file : ResolvedFile) → IsResolvedFile file → FileIsSound file
file_sound file h = each_file h.kind h.lexemes h.statements h.universe file h.parses h.resolves

all_sound : (files : List (Option ResolvedFile)) → AllByRecursion IfAny files → AllByRecursion IfSound files
all_sound [] all = tt
all_sound (Some file ∷ files) all = (file_sound file all.0, all_sound files all.1)
all_sound (None ∷ files) all = (tt, all_sound files all.1)

pub files_run : {S : Type 0} (m : Primitives S) → NeverStuck m → ResolvedFilesRunUnstuck m
files_run m L files all number file is_file loaded imports = module_rule m L files (all_sound files all) loaded number file (file_sound file is_file) imports
