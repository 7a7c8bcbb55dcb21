-- Files that are found by one label after another.
use Rattle.std.proofs.Common.{◌≡◌, ◌<◌, ◌≤◌, ◌+◌, ℕ, true, false, List, [], ◌∷◌, ◌++◌, length, take, map, get_or, refl, sym, ap, subst, ◌∙◌, inl, inr, append-nil, append_assoc}
use Rattle.std.specs.Str.{bytes_eq}
use Rattle.std.specs.List.{flat_map, filter, IsDistinct}
use Rattle.std.proofs.lemmas.Bool.{cases_Bool}
use Rattle.std.proofs.lemmas.List.{map-append, take_more, take_all}
use Rattle.std.proofs.lemmas.List.Concat.{flat_map-append}
use Rattle.std.proofs.lemmas.List.Elements.{filter-append}
use Rattle.std.proofs.lemmas.Map.Keys.{IsDistinct-push}
use Rattle.std.specs.Cmp.Lexicographic.{nat_list_eq_equiv}
use Rattle.bq_label.specs.Label.{PackageParts, LabelParts}
use Rattle.bq_package_target.specs.declared.files.Files.{Files}
use Rattle.bq_package_target.specs.declared.target.Target.{Target}
use Rattle.bq_package_target.specs.Names.{with_name}
use Rattle.bq_base_texts.specs.NameSet.{has}
use Rattle.bq_package_target.specs.Target.{is_of, source}
use Rattle.bq_package_target.specs.Package.{new_files}
use Rattle.bq_package_target.specs.Files.{Finds, FindsOwn}
use Rattle.bq_package_target.proofs.Taking.{with_new, with_old}

abbrev Names : Type 0
Names = List (List ℕ)

abbrev pub names_in : List LabelParts → List (List ℕ)
names_in ls = map (λ l. l.name) ls

pub no_files : (taken : Names) → new_files taken [] ≡ []
unfolding new_files
no_files taken = refl

pub old_file : (taken : Names) (l : LabelParts) (ls : List LabelParts) → has taken l.name ≡ true → new_files taken (l ∷ ls) ≡ new_files taken ls
unfolding new_files
old_file taken l ls h = rw h refl

pub new_file : (taken : Names) (l : LabelParts) (ls : List LabelParts) → has taken l.name ≡ false → new_files taken (l ∷ ls) ≡ l ∷ new_files (taken ++ l.name ∷ []) ls
unfolding new_files
new_file taken l ls h = rw h refl

-- the new files of two lists, one after the other
pub new_files-append : (taken : Names) (xs ys : List LabelParts) → new_files taken (xs ++ ys) ≡ new_files taken xs ++ new_files (taken ++ names_in (new_files taken xs)) ys
new_files-append taken [] ys = rw (no_files taken, append-nil taken) refl
new_files-append taken (x ∷ xs) ys = elim (cases_Bool (has taken x.name)) [
  | inl h ↦ rw (old_file taken x (xs ++ ys) h, old_file taken x xs h) (new_files-append taken xs ys)
  | inr h ↦
      let first : Names = taken ++ x.name ∷ [] in
      let more = new_files-append first xs ys in
      let same : first ++ names_in (new_files first xs) ≡ taken ++ (x.name ∷ names_in (new_files first xs)) = append_assoc taken (x.name ∷ []) (names_in (new_files first xs)) in
      rw (new_file taken x (xs ++ ys) h, new_file taken x xs h) (ap (λ (zs : List LabelParts). x ∷ zs) (more ∙ ap (λ (z : Names). new_files first xs ++ new_files z ys) same))
]

pub finds_nothing : (line : ℕ) (s : Files) → Finds line [] s s
finds_nothing line s = record {
  found = rw (no_files s.names) (sym (append-nil s.found));
  names = rw (no_files s.names) (sym (append-nil s.names));
}

pub finds_then : (line : ℕ) (xs ys : List LabelParts) (s t u : Files) → Finds line xs s t → Finds line ys t u → Finds line (xs ++ ys) s u
finds_then line xs ys s t u f g =
    let S : LabelParts → Target = λ l. source l line in
    let a : List LabelParts = new_files s.names xs in
    let b : List LabelParts = new_files t.names ys in
    let all : new_files s.names (xs ++ ys) ≡ a ++ b = new_files-append s.names xs ys ∙ ap (λ (z : Names). a ++ new_files z ys) (sym f.names) in
    record {
      found = g.found ∙ (ap (λ z. z ++ map S b) f.found ∙ (append_assoc s.found (map S a) (map S b) ∙ (ap (λ z. s.found ++ z) (sym (map-append S a b)) ∙ ap (λ z. s.found ++ map S z) (sym all))));
      names = g.names ∙ (ap (λ z. z ++ names_in b) f.names ∙ (append_assoc s.names (names_in a) (names_in b) ∙ (ap (λ z. s.names ++ z) (sym (map-append (λ l. l.name) a b)) ∙ ap (λ z. s.names ++ names_in z) (sym all))));
    }

-- the name of a label is taken already
pub finds_old : (line : ℕ) (l : LabelParts) (s : Files) (names : Names) → has s.names l.name ≡ true → names ≡ with_name s.names l.name → Finds line (l ∷ []) s (record { names = names; found = s.found })
finds_old line l s names h e =
    let none : new_files s.names (l ∷ []) ≡ [] = old_file s.names l [] h ∙ no_files s.names in
    record {
      found = rw none (sym (append-nil s.found));
      names = rw none (e ∙ (with_old s.names l.name h ∙ sym (append-nil s.names)));
    }

-- the name of a label is new
pub finds_new : (line : ℕ) (l : LabelParts) (s : Files) (names : Names) (found : List Target) → has s.names l.name ≡ false → names ≡ with_name s.names l.name → found ≡ s.found ++ source l line ∷ []
    → Finds line (l ∷ []) s (record { names = names; found = found })
finds_new line l s names found h e f =
    let one : new_files s.names (l ∷ []) ≡ l ∷ [] = new_file s.names l [] h ∙ ap (λ (z : List LabelParts). l ∷ z) (no_files (s.names ++ l.name ∷ [])) in
    record {
      found = rw one f;
      names = rw one (e ∙ with_new s.names l.name h);
    }

-- ---- the steps of loops

pub next_taken : {X : Type 0} (xs : List X) (i : ℕ) (x : X) → i < length xs → x ≡ get_or xs i x → take (i + 1) xs ≡ take i xs ++ x ∷ []
next_taken {X} xs i x h e = take_more xs i x h ∙ ap (λ (z : X). take i xs ++ z ∷ []) (sym e)

pub finds_next : (line : ℕ) (ls : List LabelParts) (i : ℕ) (l : LabelParts) (s t u : Files) → i < length ls → l ≡ get_or ls i l → Finds line (take i ls) s t → Finds line (l ∷ []) t u → Finds line (take (i + 1) ls) s u
finds_next line ls i l s t u h e f g = rw (next_taken ls i l h e) (finds_then line (take i ls) (l ∷ []) s t u f g)

pub own_then : (own : PackageParts) (xs ys : List LabelParts) (s t u : Files) → FindsOwn own xs s t → FindsOwn own ys t u → FindsOwn own (xs ++ ys) s u
own_then own xs ys s t u f g = rw (filter-append (is_of own) xs ys) (finds_then 0 (filter (is_of own) xs) (filter (is_of own) ys) s t u f g)

pub own_next : (own : PackageParts) (ls : List LabelParts) (i : ℕ) (l : LabelParts) (s t u : Files) → i < length ls → l ≡ get_or ls i l → FindsOwn own (take i ls) s t → FindsOwn own (l ∷ []) t u → FindsOwn own (take (i + 1) ls) s u
own_next own ls i l s t u h e f g = subst (λ (z : List LabelParts). FindsOwn own z s u) (sym (next_taken ls i l h e)) (own_then own (take i ls) (l ∷ []) s t u f g)

pub own_each : {X : Type 0} (labels : X → List LabelParts) (own : PackageParts) (xs : List X) (i : ℕ) (x : X) (s t u : Files) → i < length xs → x ≡ get_or xs i x → FindsOwn own (flat_map labels (take i xs)) s t → FindsOwn own (labels x) t u
    → FindsOwn own (flat_map labels (take (i + 1) xs)) s u
own_each labels own xs i x s t u h e f g =
    let last : flat_map labels (take (i + 1) xs) ≡ flat_map labels (take i xs) ++ labels x =
    ap (flat_map labels) (next_taken xs i x h e) ∙ (flat_map-append labels (take i xs) (x ∷ []) ∙ ap (λ z. flat_map labels (take i xs) ++ z) (append-nil (labels x))) in
    subst (λ (z : List LabelParts). FindsOwn own z s u) (sym last) (own_then own (flat_map labels (take i xs)) (labels x) s t u f g)

pub finds_all : (line : ℕ) (ls : List LabelParts) (i : ℕ) (s t : Files) → length ls ≤ i → Finds line (take i ls) s t → Finds line ls s t
finds_all line ls i s t h f = subst (λ (z : List LabelParts). Finds line z s t) (take_all i ls h) f

pub own_all : {X : Type 0} (labels : List X → List LabelParts) (own : PackageParts) (xs : List X) (i : ℕ) (s t : Files) → length xs ≤ i → FindsOwn own (labels (take i xs)) s t → FindsOwn own (labels xs) s t
own_all {X} labels own xs i s t h f = subst (λ (z : List X). FindsOwn own (labels z) s t) (take_all i xs h) f

pub own_other : (own : PackageParts) (l : LabelParts) (s : Files) → is_of own l ≡ false → FindsOwn own (l ∷ []) s s
own_other own l s h = rw h (finds_nothing 0 s)

pub own_one : (own : PackageParts) (l : LabelParts) (s t : Files) → is_of own l ≡ true → Finds 0 (l ∷ []) s t → FindsOwn own (l ∷ []) s t
own_one own l s t h f = rw h f

-- ---- what is found

pub distinct_files : (taken : Names) (ls : List LabelParts) → IsDistinct bytes_eq taken → IsDistinct bytes_eq (taken ++ names_in (new_files taken ls))
distinct_files taken [] d = rw (no_files taken, append-nil taken) d
distinct_files taken (l ∷ ls) d = elim (cases_Bool (has taken l.name)) [
  | inl h ↦ rw (old_file taken l ls h) (distinct_files taken ls d)
  | inr h ↦
      let more : IsDistinct bytes_eq ((taken ++ l.name ∷ []) ++ names_in (new_files (taken ++ l.name ∷ []) ls)) = distinct_files (taken ++ l.name ∷ []) ls (IsDistinct-push nat_list_eq_equiv taken l.name d h) in
      rw (new_file taken l ls h) (subst (λ (z : Names). IsDistinct bytes_eq z) (append_assoc taken (l.name ∷ []) (names_in (new_files (taken ++ l.name ∷ []) ls))) more)
]
