-- Files with the same schema, and with the same paths but for some.
use Rattle.std.proofs.Common.{◌≡◌, ◌∙◌, ℕ, ◌&&◌, Bool, true, false, List, [], Option, Some, None, Result, Ok, Err, refl, sym, ap, subst, codes}
use Rattle.std.specs.Option.{option_map}
use Rattle.std.specs.Cmp.Lexicographic.{bytes_decides}
use Rattle.bq_base.specs.declared.fault.Fault.{Fault}
use Rattle.bq_base.specs.declared.fault.FaultKind.{FaultKind}
use Rattle.bq_label.specs.declared.packages.BuildFile.{BuildFile}
use Rattle.bq_label.specs.declared.workspace.File.{File}
use Rattle.bq_label.specs.Workspace.{file_at, paths_of}
use Rattle.bq_load_discover.specs.LoadGraph.{GraphParts}
use Rattle.bq_load_discover.specs.Schema.{declared_in, schema_in}
use Rattle.bq_package_schema.specs.Schema.{Rules}
use Rattle.bq_package_schema.specs.Reading.{schema_of}
use Rattle.bq_package_schema.specs.Standard.{standard_rules}
use Rattle.bq_load_changes.specs.Graph.{IsGraphOf}
use Rattle.bq_load_changes.specs.Paths.{AreSameBut, Notes}
use Rattle.bq_load_changes.specs.Same.{HasSameFrame, same_content}

-- ---- tests, and paths

pub first : (a b : Bool) → (a && b) ≡ true → a ≡ true
first true b h = refl
first false b h = absurd (cc)

pub second : (a b : Bool) → (a && b) ≡ true → b ≡ true
second true b h = h
second false b h = absurd (cc)

pub same_frame : (before after : List File) (graph : GraphParts) → IsGraphOf before graph → (touched packages : List BuildFile) → same_content (file_at before (codes "rules.schema")) (file_at after (codes "rules.schema")) ≡ true → packages ≡ graph.packages
    → Notes packages [] touched (paths_of before) (paths_of after) → HasSameFrame before after touched
same_frame before after graph is touched packages schema e notes = record {
  schema = schema;
  paths = subst (λ (bs : List BuildFile). AreSameBut bs touched (paths_of before) (paths_of after)) (e ∙ is.read.packages) notes.same;
}

-- ---- the schema

-- what a file has in it, if there is one
abbrev pub content_of : Option File → Option (List ℕ)
content_of file = option_map (λ f. f.content) file

pub contents_same : (a b : Option File) → same_content a b ≡ true → content_of a ≡ content_of b
contents_same None None h = refl
contents_same None (Some g) h = absurd (cc)
contents_same (Some f) None h = absurd (cc)
contents_same (Some f) (Some g) h = ap (λ (text : List ℕ). Some text) ((bytes_decides f.content g.content).0 h)

declared_by : Option (List ℕ) → Result Rules (Fault FaultKind)
declared_by (Some text) = schema_of text
declared_by None = Ok standard_rules

by_content : (o : Option File) → elim o [ Some f ↦ schema_of f.content | None ↦ Ok standard_rules ] ≡ declared_by (content_of o)
unfolding declared_by
by_content None = refl
by_content (Some f) = refl

declared_so : (files : List File) → declared_in files ≡ declared_by (content_of (file_at files (codes "rules.schema")))
unfolding declared_in
declared_so files = by_content (file_at files (codes "rules.schema"))

pub same_schema : (before after : List File) (touched : List BuildFile) → HasSameFrame before after touched → schema_in before ≡ schema_in after
unfolding schema_in
same_schema before after touched same =
    let declared : declared_in before ≡ declared_in after = declared_so before ∙ (ap declared_by (contents_same (file_at before (codes "rules.schema")) (file_at after (codes "rules.schema")) same.schema) ∙ sym (declared_so after)) in
    λ i. elim (declared i) [ Ok rules ↦ Ok rules | Err why ↦ Err why.line ]

abbrev these : Rules → Result Rules ℕ
these rules = Ok rules

one_rules : (a b : Rules) → these a ≡ these b → a ≡ b
one_rules a b e = cc

pub same_rules : (before after : List File) (touched : List BuildFile) (was now : Rules) → HasSameFrame before after touched → schema_in before ≡ Ok was → schema_in after ≡ Ok now → now ≡ was
same_rules before after touched was now same had has = one_rules now was (sym has ∙ (sym (same_schema before after touched same) ∙ had))
