-- The files of a workspace as they are edited.
use Rattle.std.specs.Prelude.{ℕ, ◌++◌, Bool, List, [], ◌∷◌, bytes_eq, not}
use Rattle.std.specs.List.{filter}
use Rattle.bq_base_texts.specs.NameSet.{has}
use Rattle.bq_label.specs.declared.workspace.File.{File}
use Rattle.bq_run_commands.specs.declared.edits.Edit.{Edit}
use Rattle.bq_run_commands.specs.declared.edits.Edit.TheVariants.{Put, Remove}

-- the file is at another path
abbrev pub is_elsewhere : List ℕ → File → Bool
is_elsewhere path file = not (bytes_eq file.path path)

-- the file that is put takes the place of the one at its path, if there is one
abbrev pub with_edit : Edit → List File → List File
with_edit (Put file) files = filter (is_elsewhere file.path) files ++ file ∷ []
with_edit (Remove path) files = filter (is_elsewhere path) files

-- the files after these edits, one after another
abbrev pub edited : List File → List Edit → List File
edited files [] = files
edited files (e ∷ es) = edited (with_edit e files) es

-- none of these paths is the file's
abbrev pub is_untouched : List (List ℕ) → File → Bool
is_untouched paths file = not (has paths file.path)

-- the path that an edit is about
abbrev pub path_of : Edit → List ℕ
path_of (Put file) = file.path
path_of (Remove path) = path

-- the file that it puts, if it puts one
abbrev pub file_put : Edit → List File
file_put (Put file) = file ∷ []
file_put (Remove path) = []
