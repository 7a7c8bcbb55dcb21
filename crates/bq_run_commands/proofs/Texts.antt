-- The commands of edits, file by file.
use Rattle.std.proofs.Common.{◌≡◌, ◌∙◌, ◌++◌, ℕ, true, false, List, [], ◌∷◌, refl, sym, ap, append_assoc, append-nil}
use Rattle.std.specs.Option.{is_some}
use Rattle.std.specs.List.{flat_map}
use Rattle.bq_label.specs.declared.workspace.File.{File}
use Rattle.bq_label.specs.Workspace.{file_at}
use Rattle.bq_run_commands.specs.declared.edits.Edit.{Edit}
use Rattle.bq_run_commands.specs.Changes.{changes, edit_text, edits_text, has_bytes, if_gone, if_new, put_text, remove_line}

pub no_removal : (after : List File) (f : File) → is_some (file_at after f.path) ≡ true → edits_text (if_gone after f) ≡ []
unfolding if_gone
no_removal after f e = rw e refl

pub one_removal : (after : List File) (f : File) → is_some (file_at after f.path) ≡ false → edits_text (if_gone after f) ≡ remove_line f.path
unfolding if_gone
one_removal after f e = rw e (append-nil (remove_line f.path))

pub no_put : (before : List File) (f : File) → has_bytes f.content (file_at before f.path) ≡ true → edits_text (if_new before f) ≡ []
unfolding if_new
no_put before f e = rw e refl

pub one_put : (before : List File) (f : File) → has_bytes f.content (file_at before f.path) ≡ false → edits_text (if_new before f) ≡ put_text f
unfolding if_new
one_put before f e = rw e (append-nil (put_text f))

texts_joined : (es ds : List Edit) → edits_text (es ++ ds) ≡ edits_text es ++ edits_text ds
texts_joined [] ds = refl
texts_joined (e ∷ es) ds = ap (λ (z : List ℕ). edit_text e ++ z) (texts_joined es ds) ∙ sym (append_assoc (edit_text e) (edits_text es) (edits_text ds))

each_text : (h : File → List Edit) (fs : List File) → edits_text (flat_map h fs) ≡ flat_map (λ f. edits_text (h f)) fs
each_text h [] = refl
each_text h (f ∷ fs) = texts_joined (h f) (flat_map h fs) ∙ ap (λ (z : List ℕ). edits_text (h f) ++ z) (each_text h fs)

all_texts : (before after : List File) → edits_text (changes before after) ≡ flat_map (λ f. edits_text (if_gone after f)) before ++ flat_map (λ f. edits_text (if_new before f)) after
all_texts before after = texts_joined (flat_map (if_gone after) before) (flat_map (if_new before) after)
    ∙ (ap (λ (z : List ℕ). z ++ edits_text (flat_map (if_new before) after)) (each_text (if_gone after) before)
    ∙ ap (λ (z : List ℕ). flat_map (λ f. edits_text (if_gone after f)) before ++ z) (each_text (if_new before) after))

-- both are appended
pub both_appended : (before after : List File) (old now new : List ℕ) → now ≡ old ++ flat_map (λ f. edits_text (if_gone after f)) before → new ≡ now ++ flat_map (λ f. edits_text (if_new before f)) after
    → new ≡ old ++ edits_text (changes before after)
both_appended before after old now new g n =
    let gone : List ℕ = flat_map (λ f. edits_text (if_gone after f)) before in
    let put : List ℕ = flat_map (λ f. edits_text (if_new before f)) after in
    n ∙ (ap (λ (z : List ℕ). z ++ put) g ∙ (append_assoc old gone put ∙ ap (λ (z : List ℕ). old ++ z) (sym (all_texts before after))))
