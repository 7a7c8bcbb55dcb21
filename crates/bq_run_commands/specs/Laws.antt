-- What edits do to the files of a workspace, in words of files and their paths; how their commands are read; and what a text without commands asks for.
use Rattle.std.specs.Prelude.{◌≡◌, ◌≢◌, ◌≤◌, ◌<◌, ◌^◌, ◌⊎◌, ◌++◌, true, false, ℕ, List, [], ◌∷◌, Some, None, IsSome, codes, length, map, nat_eq, take}
use Rattle.std.specs.Fmt.{decimal}
use Rattle.std.specs.List.{AllByRecursion, Contains, starts_with}
use Rattle.bq_base.specs.declared.limits.Limits.{Limits}
use Rattle.bq_label.specs.declared.workspace.File.{File}
use Rattle.bq_label.specs.Paths.{is_path}
use Rattle.bq_label.specs.Workspace.{IsWorkspace, are_distinct, file_at, workspace_within}
use Rattle.bq_run.specs.Bundle.{lines}
use Rattle.bq_run_commands.specs.declared.edits.Edit.{Edit}
use Rattle.bq_run_commands.specs.declared.edits.Edit.TheVariants.{Put, Remove}
use Rattle.bq_run_commands.specs.declared.items.Request.{Request}
use Rattle.bq_run_commands.specs.declared.items.Request.TheVariants as request
use Rattle.bq_run_commands.specs.Queries.{max_queries_bytes, max_query_bytes, queries_of, query_of}
use Rattle.bq_run_commands.specs.Edits.{edited, path_of}
use Rattle.bq_run_commands.specs.Items.{ItemView, AreItems}
use Rattle.bq_run_commands.specs.Changes.{changes, edits_text}

-- the workspace that a session makes of the files of one, by the edits that lead from it to another, is the other
abbrev pub EditsMakeTheFiles : Type 0
EditsMakeTheFiles = (limits : Limits) (before after : List File) → IsWorkspace before → IsWorkspace after → length after ≤ limits.files → workspace_within limits (edited before (changes before after)) ≡ Some after

-- the file that is put is one of those after and wasn't there with these bytes before; what is removed was there, and is not after
abbrev pub IsNeeded : (before after : List File) → Edit → Type 0
IsNeeded before after (Put file) = (file_at after file.path ≡ Some file) × (file_at before file.path ≢ Some file)
IsNeeded before after (Remove path) = IsSome (file_at before path) × (file_at after path ≡ None)

-- no edit is of a file that stays as it was
abbrev pub EachEditIsNeeded : Type 0
EachEditIsNeeded = (before after : List File) → IsWorkspace before → IsWorkspace after → (e : Edit) → Contains (changes before after) e → IsNeeded before after e

-- no path has two edits
abbrev pub EachPathHasOneEdit : Type 0
EachPathHasOneEdit = (before after : List File) → IsWorkspace before → IsWorkspace after → are_distinct (map path_of (changes before after)) ≡ true

-- the line of an edit's command, without its newline
abbrev pub command_line : Edit → List ℕ
command_line (Put file) = codes "=== put " ++ (decimal (length file.content) ++ (32 ∷ file.path))
command_line (Remove path) = codes "=== remove " ++ path

-- the edit is of a path, and the content is within the limit
abbrev pub IsLawful : ℕ → Edit → Type 0
IsLawful limit (Put file) = (is_path file.path ≡ true) × (length file.content ≤ limit)
IsLawful limit (Remove path) = is_path path ≡ true

-- a session takes such an edit: its line is no longer than a query may be
abbrev pub IsTaken : ℕ → Edit → Type 0
IsTaken limit e = IsLawful limit e × (length (command_line e) ≤ max_query_bytes)

-- the item that an edit is
abbrev pub item_of : Edit → ItemView
item_of e = record { line = command_line e; request = request.Edit e }

-- the commands of edits are read as just these edits, one after another, whatever comes after them
abbrev pub CommandsAreReadBack : Type 0
CommandsAreReadBack = (limit : ℕ) (edits : List Edit) (rest : List ℕ) → limit < 2 ^ 64 → AllByRecursion (IsTaken limit) edits → AreItems limit (edits_text edits ++ rest) (map item_of edits) rest

-- the line doesn't begin as commands do
abbrev pub IsNoCommand : List ℕ → Type 0
IsNoCommand line = starts_with nat_eq (query_of line) (codes "=== ") ≡ false

-- the query, if an answer is asked for
abbrev pub query_by : Request → List ℕ → List (List ℕ)
query_by request.Answer line = line ∷ []
query_by request.Nothing line = []
query_by (request.Edit e) line = []
query_by request.Reload line = []
query_by (request.Facts query) line = []
query_by request.Bad line = []
query_by request.Cut line = []

-- the queries that items ask to be answered, in order
abbrev pub queries_among : List ItemView → List (List ℕ)
queries_among [] = []
queries_among (a ∷ rest) = query_by a.request a.line ++ queries_among rest

-- the item asks for an answer, or for nothing
abbrev pub AsksAtMost : ItemView → Type 0
AsksAtMost a = (a.request ≡ request.Nothing) ⊎ (a.request ≡ request.Answer)

-- a text of which no line begins with `=== ` asks for the answers to its queries, in order, and for nothing else
abbrev pub PlainTextsAskQueries : Type 0
PlainTextsAskQueries =
    (limit : ℕ) (input : List ℕ) (items : List ItemView) → AllByRecursion IsNoCommand (lines (take max_queries_bytes input)) → AreItems limit (take max_queries_bytes input) items []
    → (queries_among items ≡ queries_of input) × AllByRecursion AsksAtMost items
