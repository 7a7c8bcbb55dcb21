-- What became of the files of a workspace, as the edits of a session.
use Rattle.std.specs.Prelude.{ℕ, ◌++◌, Bool, false, List, [], ◌∷◌, Option, None, Some, bytes_eq, codes, is_some, length, if◌then◌else◌}
use Rattle.std.specs.Fmt.{decimal}
use Rattle.std.specs.List.{flat_map}
use Rattle.bq_label.specs.declared.workspace.File.{File}
use Rattle.bq_label.specs.Workspace.{file_at}
use Rattle.bq_run_commands.specs.declared.edits.Edit.{Edit}
use Rattle.bq_run_commands.specs.declared.edits.Edit.TheVariants.{Put, Remove}

-- a file is found, and it has these bytes
abbrev pub has_bytes : List ℕ → Option File → Bool
has_bytes bytes None = false
has_bytes bytes (Some file) = bytes_eq file.content bytes

-- a file that was there is removed, if there is none at its path now
unfoldable pub if_gone : (after : List File) → File → List Edit
if_gone after file = if is_some (file_at after file.path) then [] else Remove file.path ∷ []

-- a file that is there now is put, if there was none with its bytes at its path
unfoldable pub if_new : (before : List File) → File → List Edit
if_new before file = if has_bytes file.content (file_at before file.path) then [] else Put file ∷ []

-- what became of all: first of the files that are gone, then of those that are new or have other bytes
abbrev pub changes : (before after : List File) → List Edit
changes before after = flat_map (if_gone after) before ++ flat_map (if_new before) after

-- the line that removes a file
abbrev pub remove_line : List ℕ → List ℕ
remove_line path = codes "=== remove " ++ (path ++ 10 ∷ [])

-- the line that puts a file, and its bytes
abbrev pub put_text : File → List ℕ
put_text file = codes "=== put " ++ (decimal (length file.content) ++ (32 ∷ file.path ++ (10 ∷ file.content ++ 10 ∷ [])))

-- the command of an edit
abbrev pub edit_text : Edit → List ℕ
edit_text (Put file) = put_text file
edit_text (Remove path) = remove_line path

-- the commands of edits, one after another
abbrev pub edits_text : List Edit → List ℕ
edits_text edits = flat_map edit_text edits
