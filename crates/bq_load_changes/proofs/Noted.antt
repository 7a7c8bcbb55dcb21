-- Paths that are noted, one after another.
use Rattle.std.proofs.Common.{◌≡◌, ◌∙◌, ℕ, ◌<◌, ◌+◌, ◌++◌, ◌||◌, ◌&&◌, Bool, true, false, List, [], ◌∷◌, length, get_or, take, Option, Some, None, inl, inr, refl, sym, ap, subst, append_assoc, append-nil}
use Rattle.std.specs.Prelude.{bytes_eq, if◌then◌else◌}
use Rattle.std.specs.Cmp.Lexicographic.{bytes_decides}
use Rattle.std.specs.List.{filter}
use Rattle.std.proofs.lemmas.Bool.{cases_Bool}
use Rattle.std.proofs.lemmas.List.{take_more}
use Rattle.std.proofs.lemmas.List.Elements.{filter-append}
use Rattle.std.proofs.lemmas.List.Folds.{list_any-append}
use Rattle.bq_label.specs.declared.packages.BuildFile.{BuildFile}
use Rattle.bq_label.specs.declared.workspace.File.{File}
use Rattle.bq_label.specs.Label.{PackageParts}
use Rattle.bq_label.specs.Packages.{is_package_id, owner_of}
use Rattle.bq_label.specs.Workspace.{paths_of}
use Rattle.bq_label_glob.specs.Names.{is_owned, is_package}
use Rattle.bq_load_changes.specs.Paths.{AreSameBut, Follows, IsNoted, Notes, after_same, is_touched, may_be_module, with_package}

first_false : (a b : Bool) → (a || b) ≡ false → a ≡ false
first_false true b h = absurd (cc)
first_false false b h = refl

first_true : (a b : Bool) → (a && b) ≡ true → a ≡ true
first_true true b h = refl
first_true false b h = absurd (cc)

second_true : (a b : Bool) → (a && b) ≡ true → b ≡ true
second_true true b h = h
second_true false b h = absurd (cc)

second_false : (a b : Bool) → (a || b) ≡ false → b ≡ false
second_false true b h = absurd (cc)
second_false false b h = h

same_package : (b : BuildFile) (p : PackageParts) → is_package_id p.repo p.package b ≡ true → b.id ≡ p
same_package b p h =
    let repo : b.id.repo ≡ p.repo = (bytes_decides b.id.repo p.repo).0 (first_true (bytes_eq b.id.repo p.repo) (bytes_eq b.id.package p.package) h) in
    let directory : b.id.package ≡ p.package = (bytes_decides b.id.package p.package).0 (second_true (bytes_eq b.id.repo p.repo) (bytes_eq b.id.package p.package) h) in
    λ i. record { repo = repo i; «package» = directory i }

paths_more : (fs gs : List File) → paths_of (fs ++ gs) ≡ paths_of fs ++ paths_of gs
paths_more [] gs = refl
paths_more (f ∷ fs) gs = ap (λ (ps : List (List ℕ)). f.path ∷ ps) (paths_more fs gs)

-- the paths of one more file of a list
pub paths_take : (fs : List File) (i : ℕ) (f : File) → i < length fs → f ≡ get_or fs i f → paths_of (take (i + 1) fs) ≡ paths_of (take i fs) ++ f.path ∷ []
paths_take fs i f within at =
    let more : take (i + 1) fs ≡ take i fs ++ get_or fs i f ∷ [] = take_more fs i f within in
    ap (λ (gs : List File). paths_of gs) (more ∙ ap (λ (g : File). take i fs ++ g ∷ []) (sym at)) ∙ paths_more (take i fs) (f ∷ [])

module _ (packages : List BuildFile) where
  -- what the second packages leave untouched, the first ones do
  abbrev Extends : List BuildFile → List BuildFile → Type 0
  Extends t u = (p : PackageParts) → is_touched u p ≡ false → is_touched t p ≡ false

  still_noted : (t u : List BuildFile) → Extends t u → (path : List ℕ) → IsNoted packages t path → IsNoted packages u path
  still_noted t u more path n = record { plain = n.plain; owned = λ p h. n.owned p (more p h) }

  still_same : (t u : List BuildFile) → Extends t u → (ps qs : List (List ℕ)) → AreSameBut packages t ps qs → AreSameBut packages u ps qs
  still_same t u more ps qs s = record { same = λ keeps h. s.same keeps (λ path n. h path (still_noted t u more path n)) }

  both_same : (u : List BuildFile) (ps qs xs ys : List (List ℕ)) → AreSameBut packages u ps qs → AreSameBut packages u xs ys → AreSameBut packages u (ps ++ xs) (qs ++ ys)
  both_same u ps qs xs ys s t = record {
    same = λ keeps h.
        let a : filter keeps ps ≡ filter keeps qs = s.same keeps h in
        let b : filter keeps xs ≡ filter keeps ys = t.same keeps h in
        filter-append keeps ps xs ∙ ((λ i. a i ++ b i) ∙ sym (filter-append keeps qs ys));
  }

  -- ---- one list after another

  pub notes_none : (t : List BuildFile) (ps : List (List ℕ)) → Notes packages t t ps ps
  notes_none t ps = record { more = λ p h. h; same = record { same = λ keeps h. refl } }

  pub notes_more : (t u v : List BuildFile) (ps qs xs ys : List (List ℕ)) → Notes packages t u ps qs → Notes packages u v xs ys → Notes packages t v (ps ++ xs) (qs ++ ys)
  notes_more t u v ps qs xs ys a b = record {
    more = λ p h. a.more p (b.more p h);
    same = both_same v ps qs xs ys (still_same u v b.more ps qs a.same) b.same;
  }

  pub notes_swapped : (t u : List BuildFile) (ps qs : List (List ℕ)) → Notes packages t u ps qs → Notes packages t u qs ps
  notes_swapped t u ps qs a = record { more = a.more; same = record { same = λ keeps h. sym (a.same.same keeps h) } }

  -- ---- one path

  module _ (t : List BuildFile) where
    added : (b : BuildFile) (p : PackageParts) → is_touched (t ++ b ∷ []) p ≡ false → (is_touched t p || is_touched (b ∷ []) p) ≡ false
    added b p h = sym (list_any-append (is_package_id p.repo p.package) t (b ∷ [])) ∙ h

    more_by : (there : Bool) (b : BuildFile) → Extends t (if there then t else t ++ b ∷ [])
    more_by true b p h = h
    more_by false b p h = first_false (is_touched t p) (is_touched (b ∷ []) p) (added b p h)

    more_with : (o : Option BuildFile) → Extends t (with_package t o)
    more_with None p h = h
    more_with (Some b) p h = more_by (is_touched t b.id) b p h

    -- a package that these packages and its owner leave untouched doesn't own the path
    owned_by : (b : BuildFile) (p : PackageParts) (there : Bool) → is_touched t b.id ≡ there → is_touched (if there then t else t ++ b ∷ []) p ≡ false → is_package_id p.repo p.package b ≡ false
    owned_by b p true e h = elim (cases_Bool (is_package_id p.repo p.package b)) [
      | inl y ↦
          let same : b.id ≡ p = same_package b p y in
          let yes : is_touched t p ≡ true = ap (is_touched t) (sym same) ∙ e in
          let no : true ≡ false = sym yes ∙ h in
          absurd (cc)
      | inr n ↦ n
    ]
    owned_by b p false e h = first_false (is_package_id p.repo p.package b) false (second_false (is_touched t p) (is_touched (b ∷ []) p) (added b p h))

    owned_with : (o : Option BuildFile) (p : PackageParts) → is_touched (with_package t o) p ≡ false → is_package p o ≡ false
    owned_with None p h = refl
    owned_with (Some b) p h = owned_by b p (is_touched t b.id) refl h

  one_same : (u : List BuildFile) (path : List ℕ) → IsNoted packages u path → AreSameBut packages u (path ∷ []) []
  one_same u path n = record { same = λ keeps h. rw (h path n) refl }

  pub notes_path : (t u : List BuildFile) (path : List ℕ) → may_be_module path ≡ false → u ≡ with_package t (owner_of packages path) → Notes packages t u (path ∷ []) []
  unfolding is_owned
  notes_path t u path plain e =
      let noted : IsNoted packages (with_package t (owner_of packages path)) path = record { plain = plain; owned = λ p h. owned_with t (owner_of packages path) p h } in
      subst (λ (z : List BuildFile). Notes packages t z (path ∷ []) []) (sym e) (record { more = more_with t (owner_of packages path); same = one_same (with_package t (owner_of packages path)) path noted })

  -- ---- what is left of a list

  -- the list begins with a file of this path
  record BeginsSo (path : List ℕ) (files rest : List File) : Type 0 where
    file : File
    whole : files ≡ file ∷ rest
    same : file.path ≡ path

  abbrev a_rest : List File → Option (List File)
  a_rest fs = Some fs

  same_rest : (fs gs : List File) → a_rest fs ≡ a_rest gs → fs ≡ gs
  same_rest fs gs e = cc

  begins_so : (path : List ℕ) (files rest : List File) → after_same path files ≡ Some rest → BeginsSo path files rest
  begins_so path [] rest e = absurd (cc)
  begins_so path (f ∷ fs) rest e = elim (cases_Bool (bytes_eq f.path path)) [
    | inl y ↦
        let left : a_rest fs ≡ a_rest rest = sym (rw y refl) ∙ e in
        record { file = f; whole = ap (λ (gs : List File). f ∷ gs) (same_rest fs rest left); same = (bytes_decides f.path path).0 y }
    | inr n ↦ let no : None ≡ a_rest rest = sym (rw n refl) ∙ e in absurd (cc)
  ]

  one_path : (t : List BuildFile) (path : List ℕ) (f : File) → f.path ≡ path → Notes packages t t (path ∷ []) (f.path ∷ [])
  one_path t path f e = subst (λ (x : List ℕ). Notes packages t t (x ∷ []) (f.path ∷ [])) e (notes_none t (f.path ∷ []))

  pub follows_same : (t : List BuildFile) (path : List ℕ) (files rest : List File) → after_same path files ≡ Some rest → Follows packages t t (path ∷ []) files rest
  follows_same t path files rest e =
      let b = begins_so path files rest e in
      record { front = b.file ∷ []; whole = b.whole; notes = one_path t path b.file b.same }

  pub follows_later : (t u : List BuildFile) (path : List ℕ) (files before later rest : List File) → files ≡ before ++ later → Notes packages t u (paths_of before) [] → after_same path later ≡ Some rest → Follows packages t u (path ∷ []) files rest
  follows_later t u path files before later rest e passed same =
      let b = begins_so path later rest same in
      let all : Notes packages t u (path ∷ []) (paths_of before ++ b.file.path ∷ []) =
      notes_more t u u [] (paths_of before) (path ∷ []) (b.file.path ∷ []) (notes_swapped t u (paths_of before) [] passed) (one_path u path b.file b.same) in
      record {
        front = before ++ b.file ∷ [];
        whole = e ∙ (ap (λ (fs : List File). before ++ fs) b.whole ∙ sym (append_assoc before (b.file ∷ []) rest));
        notes = subst (λ (qs : List (List ℕ)). Notes packages t u (path ∷ []) qs) (sym (paths_more before (b.file ∷ []))) all;
      }

  pub follows_noted : (t u v : List BuildFile) (path : List ℕ) (files before later : List File) → files ≡ before ++ later → Notes packages t u (paths_of before) [] → Notes packages u v (path ∷ []) [] → Follows packages t v (path ∷ []) files later
  follows_noted t u v path files before later e passed noted =
      let all : Notes packages t v (path ∷ []) (paths_of before ++ []) = notes_more t u v [] (paths_of before) (path ∷ []) [] (notes_swapped t u (paths_of before) [] passed) noted in
      record { front = before; whole = e; notes = subst (λ (qs : List (List ℕ)). Notes packages t v (path ∷ []) qs) (append-nil (paths_of before)) all }

  pub follows_none : (t u : List BuildFile) (files : List File) → u ≡ t → Follows packages t u [] files files
  follows_none t u files e = record { front = []; whole = refl; notes = subst (λ (z : List BuildFile). Notes packages t z [] []) (sym e) (notes_none t []) }

  pub follows_more : (t u v : List BuildFile) (ps xs : List (List ℕ)) (files left rest : List File) → Follows packages t u ps files left → Follows packages u v xs left rest → Follows packages t v (ps ++ xs) files rest
  follows_more t u v ps xs files left rest a b = record {
    front = a.front ++ b.front;
    whole = a.whole ∙ (ap (λ (fs : List File). a.front ++ fs) b.whole ∙ sym (append_assoc a.front b.front rest));
    notes = subst (λ (qs : List (List ℕ)). Notes packages t v (ps ++ xs) qs) (sym (paths_more a.front b.front)) (notes_more t u v ps (paths_of a.front) xs (paths_of b.front) a.notes b.notes);
  }

  pub follows_all : (t u v : List BuildFile) (ps : List (List ℕ)) (files left : List File) → Follows packages t u ps files left → Notes packages u v (paths_of left) [] → Notes packages t v ps (paths_of files)
  follows_all t u v ps files left a b =
      let all : Notes packages t v (ps ++ []) (paths_of a.front ++ paths_of left) = notes_more t u v ps (paths_of a.front) [] (paths_of left) a.notes (notes_swapped u v (paths_of left) [] b) in
      let whole : paths_of files ≡ paths_of a.front ++ paths_of left = ap (λ (fs : List File). paths_of fs) a.whole ∙ paths_more a.front left in
      subst (λ (qs : List (List ℕ)). Notes packages t v ps qs) (sym whole) (subst (λ (xs : List (List ℕ)). Notes packages t v xs (paths_of a.front ++ paths_of left)) (append-nil ps) all)

  -- one file more
  pub noted_more : (t u v : List BuildFile) (ps qs : List (List ℕ)) (path : List ℕ) → qs ≡ ps ++ path ∷ [] → Notes packages t u ps [] → Notes packages u v (path ∷ []) [] → Notes packages t v qs []
  noted_more t u v ps qs path e a b = subst (λ (xs : List (List ℕ)). Notes packages t v xs []) (sym e) (notes_more t u v ps [] (path ∷ []) [] a b)

  pub passed_more : (t u v : List BuildFile) (ps qs : List (List ℕ)) (path : List ℕ) (files left rest : List File) → qs ≡ ps ++ path ∷ [] → Follows packages t u ps files left → Follows packages u v (path ∷ []) left rest → Follows packages t v qs files rest
  passed_more t u v ps qs path files left rest e a b = subst (λ (xs : List (List ℕ)). Follows packages t v xs files rest) (sym e) (follows_more t u v ps (path ∷ []) files left rest a b)
