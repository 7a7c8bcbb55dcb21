-- What the edits between two workspaces are, and what they make.
use Rattle.std.proofs.Common.{◌≡◌, ◌≢◌, ◌≤◌, ◌∙◌, ◌++◌, ℕ, Bool, true, false, cond, List, [], ◌∷◌, Option, Some, None, IsSome, length, refl, sym, ap, subst, inl, inr, arith}
use Rattle.std.specs.Option.{is_some}
use Rattle.std.specs.Str.{bytes_eq}
use Rattle.std.specs.List.{Contains, flat_map}
use Rattle.std.specs.List.Sorted.{IsPermutation}
use Rattle.std.proofs.lemmas.Bool.{cases_Bool, false≢true}
use Rattle.std.proofs.lemmas.List.Elements.{Contains-append_cases}
use Rattle.std.proofs.lemmas.List.Sorted.{length_permutation}
use Rattle.bq_base.specs.declared.limits.Limits.{Limits}
use Rattle.bq_label.specs.declared.workspace.File.{File}
use Rattle.bq_label.specs.Workspace.{IsWorkspace, are_distinct, file_at, paths_of, workspace_within}
use Rattle.bq_label.proofs.Above.{same_bytes}
use Rattle.bq_label.proofs.Orders.{at_head, in_tail, head_or_tail}
use Rattle.bq_label.proofs.Workspaces.{distinct_from_strict, workspace_from}
use Rattle.bq_run_commands.specs.declared.edits.Edit.{Edit}
use Rattle.bq_run_commands.specs.declared.edits.Edit.TheVariants.{Put, Remove}
use Rattle.bq_run_commands.specs.Edits.{edited}
use Rattle.bq_run_commands.specs.Changes.{changes, has_bytes, if_gone, if_new}
use Rattle.bq_run_commands.specs.Laws.{IsNeeded}
use Rattle.bq_run_commands.proofs.Found.{after_edits, all_edits, at_none, at_first, at_later, edits_joined, either, has_path, itself}
use Rattle.bq_run_commands.proofs.Distinct.{edited_distinct, found_there, none_of, others_distinct, others_elsewhere, same_files}

pub distinct_files : (fs : List File) → IsWorkspace fs → are_distinct (paths_of fs) ≡ true
distinct_files fs w = distinct_from_strict fs w.ascending

file_of : List ℕ → List ℕ → File
file_of path content = record { path = path; content = content }

same_file : (f g : File) → f.path ≡ g.path → f.content ≡ g.content → f ≡ g
unfolding file_of
same_file f g p c = let one : file_of f.path f.content ≡ file_of g.path g.content = cc in one

-- ---- the files that are removed

one_removal : (after : List File) (g : File) (p : List ℕ) (old : Option File) → after_edits (if_gone after g) p old ≡ cond (is_some (file_at after g.path)) old (cond (bytes_eq g.path p) None old)
unfolding if_gone
one_removal after g p old = elim (cases_Bool (is_some (file_at after g.path))) [ inl y ↦ rw y refl | inr n ↦ rw n refl ]

at_path : (after : List File) (g : File) (p : List ℕ) (old : Option File) → bytes_eq g.path p ≡ true → cond (is_some (file_at after g.path)) old (cond (bytes_eq g.path p) None old) ≡ cond (is_some (file_at after p)) old None
at_path after g p old y = rw y (ap (λ (q : List ℕ). cond (is_some (file_at after q)) old None) (same_bytes g.path p y))

removed_here : (s t : Bool) (old : Option File) → cond s (cond s old None) (cond t None (cond s old None)) ≡ cond s old None
removed_here true t old = refl
removed_here false t old = either t None

-- what is left of a file, where those that are gone of `gs` are removed
removed : (after gs : List File) (p : List ℕ) (old : Option File) → after_edits (flat_map (if_gone after) gs) p old ≡ cond (is_some (file_at after p)) old (cond (is_some (file_at gs p)) None old)
removed after [] p old =
    let some : Bool = is_some (file_at after p) in
    sym (ap (λ (z : Option File). cond some old (cond (is_some z) None old)) (at_none p) ∙ either some old)
removed after (g ∷ gs) p old =
    let some : Bool = is_some (file_at after p) in
    let now : Option File = after_edits (if_gone after g) p old in
    let left : Option File → Option File = λ z. cond some z (cond (is_some (file_at gs p)) None z) in
    let there : Option File → Option File = λ z. cond some old (cond (is_some z) None old) in
    let rest : after_edits (flat_map (if_gone after) (g ∷ gs)) p old ≡ left now = edits_joined (if_gone after g) (flat_map (if_gone after) gs) p old ∙ removed after gs p now in
    elim (cases_Bool (bytes_eq g.path p)) [
      | inl y ↦
          let is : now ≡ cond some old None = one_removal after g p old ∙ at_path after g p old y in
          rest ∙ (ap left is ∙ (removed_here some (is_some (file_at gs p)) old ∙ sym (ap there (at_first g gs p y))))
      | inr n ↦
          let is : now ≡ old = one_removal after g p old ∙ rw n (either (is_some (file_at after g.path)) old) in
          rest ∙ (ap left is ∙ sym (ap there (at_later g gs p n)))
    ]

-- ---- the files that are put

one_put : (before : List File) (g : File) (p : List ℕ) (old : Option File) → after_edits (if_new before g) p old ≡ cond (has_bytes g.content (file_at before g.path)) old (cond (bytes_eq g.path p) (Some g) old)
unfolding if_new
one_put before g p old = elim (cases_Bool (has_bytes g.content (file_at before g.path))) [ inl y ↦ rw y refl | inr n ↦ rw n refl ]

abbrev put_over : (was : Option File) → Option File → Option File → Option File
put_over was None old = old
put_over was (Some g) old = cond (has_bytes g.content was) old (Some g)

new_at_path : (before : List File) (g : File) (p : List ℕ) (old : Option File) → bytes_eq g.path p ≡ true
    → cond (has_bytes g.content (file_at before g.path)) old (cond (bytes_eq g.path p) (Some g) old) ≡ cond (has_bytes g.content (file_at before p)) old (Some g)
new_at_path before g p old y = rw y (ap (λ (q : List ℕ). cond (has_bytes g.content (file_at before q)) old (Some g)) (same_bytes g.path p y))

puts : (before gs : List File) (p : List ℕ) (old : Option File) → are_distinct (paths_of gs) ≡ true → after_edits (flat_map (if_new before) gs) p old ≡ put_over (file_at before p) (file_at gs p) old
puts before [] p old d = sym (ap (λ (z : Option File). put_over (file_at before p) z old) (at_none p))
puts before (g ∷ gs) p old d =
    let was : Option File = file_at before p in
    let now : Option File = after_edits (if_new before g) p old in
    let rest : after_edits (flat_map (if_new before) (g ∷ gs)) p old ≡ put_over was (file_at gs p) now =
    edits_joined (if_new before g) (flat_map (if_new before) gs) p old ∙ puts before gs p now (others_distinct g.path (paths_of gs) d) in
    elim (cases_Bool (bytes_eq g.path p)) [
      | inl y ↦
          let is : now ≡ cond (has_bytes g.content was) old (Some g) = one_put before g p old ∙ new_at_path before g p old y in
          rest ∙ (ap (λ (z : Option File). put_over was z now) (others_elsewhere g gs p d y) ∙ (is ∙ sym (ap (λ (z : Option File). put_over was z old) (at_first g gs p y))))
      | inr n ↦
          let is : now ≡ old = one_put before g p old ∙ rw n (either (has_bytes g.content (file_at before g.path)) old) in
          rest ∙ (ap (put_over was (file_at gs p)) is ∙ sym (ap (λ (z : Option File). put_over was z old) (at_later g gs p n)))
    ]

-- ---- all

unchanged : (was : Option File) (g : File) (p : List ℕ) → ((f : File) → was ≡ Some f → f.path ≡ g.path) → cond (has_bytes g.content was) was (Some g) ≡ Some g
unchanged None g p had = refl
unchanged (Some f) g p had = elim (cases_Bool (bytes_eq f.content g.content)) [
  | inl y ↦ rw y (ap Some (same_file f g (had f refl) (same_bytes f.content g.content y)))
  | inr n ↦ rw n refl
]

gone : (was : Option File) → cond (is_some was) None was ≡ None
gone None = refl
gone (Some f) = refl

settled : (now was : Option File) (p : List ℕ) → ((f : File) → was ≡ Some f → f.path ≡ p) → ((g : File) → now ≡ Some g → g.path ≡ p) → put_over was now (cond (is_some now) was (cond (is_some was) None was)) ≡ now
settled None was p had here = gone was
settled (Some g) was p had here = unchanged was g p (λ f e. had f e ∙ sym (here g refl))

same_found : (before after : List File) → are_distinct (paths_of after) ≡ true → (p : List ℕ) → file_at (edited before (changes before after)) p ≡ file_at after p
same_found before after d p =
    let was : Option File = file_at before p in
    all_edits before (changes before after) p
    ∙ (edits_joined (flat_map (if_gone after) before) (flat_map (if_new before) after) p was
    ∙ (ap (after_edits (flat_map (if_new before) after) p) (removed after before p was)
    ∙ (puts before after p (cond (is_some (file_at after p)) was (cond (is_some was) None was)) d
    ∙ settled (file_at after p) was p (λ f e. has_path before p f e) (λ g e. has_path after p g e))))

pub makes_the_files : (limits : Limits) (before after : List File) → IsWorkspace before → IsWorkspace after → length after ≤ limits.files → workspace_within limits (edited before (changes before after)) ≡ Some after
makes_the_files limits before after w v fits =
    let made : List File = edited before (changes before after) in
    let moved : IsPermutation made after = same_files made after (edited_distinct before (changes before after) (distinct_files before w)) (distinct_files after v) (same_found before after (distinct_files after v)) in
    workspace_from limits made after (record { few = omega (arith, length_permutation made after moved, fits); moved = moved; valid = v })

-- ---- no edit is without need

none_in : {X : Type 0} (z : X) → Contains [] z → ⊥
none_in z c = omega arith

only_one : {X : Type 0} (x z : X) → Contains (x ∷ []) z → x ≡ z
only_one x z c = elim (head_or_tail x [] z c) [ inl e ↦ e | inr n ↦ absurd (none_in z n) ]

among : (h : File → List Edit) (fs : List File) (e : Edit) → Contains (flat_map h fs) e → (f : File) × Contains fs f × Contains (h f) e
among h [] e c = absurd (none_in e c)
among h (f ∷ fs) e c = elim (Contains-append_cases (h f) (flat_map h fs) e c) [
  | inl here ↦ (f, at_head f fs, here)
  | inr later ↦ let g = among h fs e later in (g.0, in_tail f fs g.0 g.1, g.2)
]

some_there : (z : Option File) (f : File) → z ≡ Some f → IsSome z
some_there None f e = absurd (cc)
some_there (Some g) f e = refl

removal_needed : (before after : List File) (f : File) (e : Edit) → IsWorkspace before → Contains before f → Contains (if_gone after f) e → IsNeeded before after e
unfolding if_gone
removal_needed before after f e w there c = elim (cases_Bool (is_some (file_at after f.path))) [
  | inl y ↦ absurd (none_in e (subst (λ (b : Bool). Contains (cond b [] (Remove f.path ∷ [])) e) y c))
  | inr n ↦
      let is : Remove f.path ≡ e = only_one (Remove f.path) e (subst (λ (b : Bool). Contains (cond b [] (Remove f.path ∷ [])) e) n c) in
      subst (IsNeeded before after) is (some_there (file_at before f.path) f (found_there before f (distinct_files before w) there), none_of (file_at after f.path) n)
]

put_needed : (before after : List File) (f : File) (e : Edit) → IsWorkspace after → Contains after f → Contains (if_new before f) e → IsNeeded before after e
unfolding if_new
put_needed before after f e w there c = elim (cases_Bool (has_bytes f.content (file_at before f.path))) [
  | inl y ↦ absurd (none_in e (subst (λ (b : Bool). Contains (cond b [] (Put f ∷ [])) e) y c))
  | inr n ↦
      let is : Put f ≡ e = only_one (Put f) e (subst (λ (b : Bool). Contains (cond b [] (Put f ∷ [])) e) n c) in
      subst (IsNeeded before after) is (found_there after f (distinct_files after w) there, λ (s : file_at before f.path ≡ Some f). false≢true (sym n ∙ (ap (has_bytes f.content) s ∙ itself f.content)))
]

pub each_is_needed : (before after : List File) → IsWorkspace before → IsWorkspace after → (e : Edit) → Contains (changes before after) e → IsNeeded before after e
each_is_needed before after w v e c = elim (Contains-append_cases (flat_map (if_gone after) before) (flat_map (if_new before) after) e c) [
  | inl gone ↦ let f = among (if_gone after) before e gone in removal_needed before after f.0 e w f.1 f.2
  | inr new ↦ let f = among (if_new before) after e new in put_needed before after f.0 e v f.1 f.2
]
