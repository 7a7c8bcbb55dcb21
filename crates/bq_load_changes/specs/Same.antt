-- Which modules are what they were.
use Rattle.std.specs.Prelude.{◌≡◌, ℕ, Bool, true, false, not, List, Option, Some, None, bytes_eq, codes, slice_get}
use Rattle.bq_label.specs.declared.packages.BuildFile.{BuildFile}
use Rattle.bq_label.specs.declared.workspace.File.{File}
use Rattle.bq_label.specs.Label.{LabelParts, package_of}
use Rattle.bq_label.specs.Packages.{label_file, packages_of}
use Rattle.bq_label.specs.Workspace.{file_at, paths_of}
use Rattle.bq_label_set.specs.Labels.{same_label}
use Rattle.bq_parse_grammar.specs.declared.tree.FileKind.{FileKind}
use Rattle.bq_parse_grammar.specs.declared.tree.FileKind.TheVariants as kinds
use Rattle.bq_load_front.specs.Parsed.{kind_of}
use Rattle.bq_load_order.specs.Again.{number_at}
use Rattle.bq_load_changes.specs.Paths.{AreSameBut, is_touched}

-- the files have the same bytes in them, or there is none
abbrev pub same_content : Option File → Option File → Bool
same_content None None = true
same_content None (Some g) = false
same_content (Some f) None = false
same_content (Some f) (Some g) = bytes_eq f.content g.content

-- The files of a workspace before a change and after it have the same schema, and the same paths but for some of files that are no modules: the
-- packages that own those are these.
pub record HasSameFrame (before after : List File) (touched : List BuildFile) : Type 0 where
  pub schema : same_content (file_at before (codes "rules.schema")) (file_at after (codes "rules.schema")) ≡ true
  pub paths : AreSameBut (packages_of before) touched (paths_of before) (paths_of after)

-- the file of this label and kind is a .bzl file, or a BUILD file of a package that is none of these
abbrev pub is_untouched : List BuildFile → LabelParts → FileKind → Bool
is_untouched touched l kinds.Bzl = true
is_untouched touched l kinds.Build = not (is_touched touched (package_of l))

-- the module of this label and number had this number, its file has the text that it had, and it is untouched
pub record HasStayed (before after : List File) (touched : List BuildFile) (had : List LabelParts) (l : LabelParts) (m k : ℕ) : Type 0 where
  pub number : k ≡ m
  pub other : LabelParts
  pub label : slice_get had m ≡ Some other
  pub same : same_label other l ≡ true
  pub text : same_content (label_file before l) (label_file after l) ≡ true
  pub untouched : is_untouched touched l (kind_of l) ≡ true

-- each module that has a number here had it, its file has the text that it had, and it is untouched
abbrev pub HaveStayed : (before after : List File) (touched : List BuildFile) (had labels : List LabelParts) → List (Option ℕ) → Type 0
HaveStayed before after touched had labels was = (m k : ℕ) → number_at was m ≡ Some k → (l : LabelParts) × (slice_get labels m ≡ Some l) × HasStayed before after touched had l m k
