-- No path has two edits.
use Rattle.std.proofs.Common.{◌≡◌, ◌∙◌, ◌++◌, ℕ, Bool, true, false, not, List, [], ◌∷◌, Option, None, map, refl, sym, ap, inl, inr}
use Rattle.std.specs.Option.{is_some}
use Rattle.std.specs.Str.{bytes_eq}
use Rattle.std.specs.List.{filter, flat_map, list_any}
use Rattle.std.proofs.lemmas.Bool.{cases_Bool}
use Rattle.bq_label.specs.declared.workspace.File.{File}
use Rattle.bq_label.specs.Workspace.{IsWorkspace, are_distinct, file_at, paths_of}
use Rattle.bq_label.proofs.Workspaces.{any_at_path}
use Rattle.bq_run_commands.specs.declared.edits.Edit.{Edit}
use Rattle.bq_run_commands.specs.Edits.{path_of}
use Rattle.bq_run_commands.specs.Changes.{changes, has_bytes, if_gone, if_new}
use Rattle.bq_run_commands.proofs.Distinct.{any_joined, apart_among, distinct_among, distinct_more, first_apart, none_of, others_distinct}
use Rattle.bq_run_commands.proofs.Changed.{distinct_files}

abbrev is_gone : List File → File → Bool
is_gone after f = not (is_some (file_at after f.path))

abbrev is_new : List File → File → Bool
is_new before f = not (has_bytes f.content (file_at before f.path))

removal_paths : (after fs : List File) → map path_of (flat_map (if_gone after) fs) ≡ paths_of (filter (is_gone after) fs)
unfolding if_gone
removal_paths after [] = refl
removal_paths after (f ∷ fs) = elim (cases_Bool (is_some (file_at after f.path))) [
  | inl y ↦ rw y (removal_paths after fs)
  | inr n ↦ rw n (ap (λ (z : List (List ℕ)). f.path ∷ z) (removal_paths after fs))
]

put_paths : (before fs : List File) → map path_of (flat_map (if_new before) fs) ≡ paths_of (filter (is_new before) fs)
unfolding if_new
put_paths before [] = refl
put_paths before (f ∷ fs) = elim (cases_Bool (has_bytes f.content (file_at before f.path))) [
  | inl y ↦ rw y (put_paths before fs)
  | inr n ↦ rw n (ap (λ (z : List (List ℕ)). f.path ∷ z) (put_paths before fs))
]

paths_joined : (es ds : List Edit) → map path_of (es ++ ds) ≡ map path_of es ++ map path_of ds
paths_joined [] ds = refl
paths_joined (e ∷ es) ds = ap (λ (z : List (List ℕ)). path_of e ∷ z) (paths_joined es ds)

joined : (after fs : List File) (qs : List (List ℕ)) → are_distinct (paths_of (filter (is_gone after) fs)) ≡ true → are_distinct qs ≡ true → ((p : List ℕ) → file_at after p ≡ None → list_any (bytes_eq p) qs ≡ false)
    → are_distinct (paths_of (filter (is_gone after) fs) ++ qs) ≡ true
joined after [] qs d k lacks = k
joined after (f ∷ fs) qs d k lacks = elim (cases_Bool (is_some (file_at after f.path))) [
  | inl y ↦ rw y (joined after fs qs (sym (rw y refl) ∙ d) k lacks)
  | inr n ↦
      let ps : List (List ℕ) = paths_of (filter (is_gone after) fs) in
      let all : are_distinct (f.path ∷ ps) ≡ true = sym (rw n refl) ∙ d in
      rw n (distinct_more f.path (ps ++ qs) (any_joined f.path ps qs (first_apart f.path ps all) (lacks f.path (none_of (file_at after f.path) n))) (joined after fs qs (others_distinct f.path ps all) k lacks))
]

pub one_edit_each : (before after : List File) → IsWorkspace before → IsWorkspace after → are_distinct (map path_of (changes before after)) ≡ true
one_edit_each before after w v =
    let gone : List (List ℕ) = paths_of (filter (is_gone after) before) in
    let new : List (List ℕ) = paths_of (filter (is_new before) after) in
    let is : map path_of (changes before after) ≡ gone ++ new =
    paths_joined (flat_map (if_gone after) before) (flat_map (if_new before) after)
    ∙ (ap (λ (z : List (List ℕ)). z ++ map path_of (flat_map (if_new before) after)) (removal_paths after before) ∙ ap (λ (z : List (List ℕ)). gone ++ z) (put_paths before after)) in
    ap are_distinct is
    ∙ joined after before new (distinct_among (is_gone after) before (distinct_files before w)) (distinct_among (is_new before) after (distinct_files after v))
    (λ p none. apart_among p (is_new before) after (any_at_path after p ∙ ap is_some none))
