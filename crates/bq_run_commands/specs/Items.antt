-- The items of what a session reads, along its bytes.
use Rattle.std.specs.Prelude.{◌≡◌, ◌≢◌, ◌≤◌, ◌<◌, ◌++◌, ℕ, List, [], ◌∷◌, length}
use Rattle.bq_run.specs.Bundle.{lines}
use Rattle.bq_run_commands.specs.declared.commands.Command.{Command}
use Rattle.bq_run_commands.specs.declared.commands.Command.TheVariants as command
use Rattle.bq_run_commands.specs.declared.edits.Edit.TheVariants as edit
use Rattle.bq_run_commands.specs.declared.items.Request.{Request}
use Rattle.bq_run_commands.specs.declared.items.Request.TheVariants.{Nothing, Answer, Edit, Reload, Facts, Bad, Cut}
use Rattle.bq_run_commands.specs.Commands.{command_of}
use Rattle.bq_run_commands.specs.Queries.{query_of}

-- the text has fewer bytes, and none is left
abbrev pub EndsWithin : ℕ → List ℕ → List ℕ → Type 0
EndsWithin count text rest = (length text < count) × (rest ≡ [])

-- What is asked by a line that puts so many bytes at a path, where `text` comes after the line, and `rest` after all that is read.
pub data IsPut (count : ℕ) (path : List ℕ) (text rest : List ℕ) (request : Request) : Type 0 where
  whole : (content : List ℕ) → length content ≡ count → text ≡ content ++ 10 ∷ rest → request ≡ Edit (edit.Put (record { path = path; content = content })) → IsPut count path text rest request
  -- another byte than a newline comes after the content
  no_newline : (content : List ℕ) (b : ℕ) → length content ≡ count → text ≡ content ++ b ∷ rest → b ≢ 10 → request ≡ Bad → IsPut count path text rest request
  cut : length text ≤ count → rest ≡ [] → request ≡ Cut → IsPut count path text rest request

-- what is asked by a line that says this
abbrev pub IsRequest : Command → (text rest : List ℕ) → Request → Type 0
IsRequest command.Nothing text rest request = (rest ≡ text) × (request ≡ Nothing)
IsRequest command.Answer text rest request = (rest ≡ text) × (request ≡ Answer)
IsRequest (command.Put count path) text rest request = IsPut count path text rest request
IsRequest (command.Remove path) text rest request = (rest ≡ text) × (request ≡ Edit (edit.Remove path))
IsRequest command.Reload text rest request = (rest ≡ text) × (request ≡ Reload)
IsRequest (command.Facts query) text rest request = (rest ≡ text) × (request ≡ Facts query)
IsRequest command.Bad text rest request = (rest ≡ text) × (request ≡ Bad)

-- A text begins with a line, and with what it asks for; `rest` comes after these. A file that is put has at most `limit` bytes.
pub record IsItem (limit : ℕ) (text rest : List ℕ) (line : List ℕ) (request : Request) : Type 0 where
  pub whole : List ℕ
  pub after : List ℕ
  pub first : lines text ≡ whole ∷ lines after
  pub is : line ≡ query_of whole
  pub asks : IsRequest (command_of limit line) after rest request

-- a line, and what is asked by it
pub record ItemView : Type 0 where
  pub line : List ℕ
  pub request : Request

-- the text begins with these items, in order, and this comes after them
pub data AreItems (limit : ℕ) (text : List ℕ) : List ItemView → List ℕ → Type 0 where
  none : AreItems limit text [] text
  more : {all items : List ItemView} {before rest : List ℕ} (a : ItemView) → AreItems limit text items before → IsItem limit before rest a.line a.request → all ≡ items ++ a ∷ [] → AreItems limit text all rest
