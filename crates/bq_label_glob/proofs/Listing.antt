-- The names that glob gives, one file after another, and in words.
use Rattle.std.proofs.Common.{◌≡◌, ◌+◌, ◌<◌, ◌≤◌, ◌++◌, ◌&&◌, ℕ, Bool, true, false, not, List, [], ◌∷◌, Some, None, length, drop, get_or, refl, sym, ap, ◌∙◌, inl, inr, append_assoc, append-nil}
use Rattle.std.proofs.lemmas.Bool.{cases_Bool}
use Rattle.std.proofs.lemmas.List.{drop_more, drop_all}
use Rattle.std.specs.List.{filter, cons_option, list_any}
use Rattle.bq_label.specs.declared.workspace.File.{File}
use Rattle.bq_label.specs.declared.packages.BuildFile.{BuildFile}
use Rattle.bq_label.specs.Label.{PackageParts}
use Rattle.bq_label.specs.Workspace.{paths_of}
use Rattle.bq_label_glob.specs.Matching.{matches}
use Rattle.bq_label_glob.specs.PatternSet.{is_match}
use Rattle.bq_label_glob.specs.declared.pattern_set.PatternSet.{PatternSet}
use Rattle.bq_label_glob.specs.Names.{directory, is_beneath, is_owned, name_in, names_in, is_wanted, glob}

next_file : (files : List File) (i : ℕ) (f : File) → i < length files → f ≡ get_or files i f → drop i files ≡ f ∷ drop (i + 1) files
next_file files i f l e = drop_more files i f l ∙ ap (λ (g : File). g ∷ drop (i + 1) files) (sym e)

module _ (packages : List BuildFile) (p : PackageParts) where
  not_beneath : (path : List ℕ) → is_beneath (directory p) path ≡ false → name_in packages p path ≡ None
  unfolding name_in
  not_beneath path n = rw n refl

  not_owned : (path : List ℕ) → is_beneath (directory p) path ≡ true → is_owned packages p path ≡ false → name_in packages p path ≡ None
  unfolding name_in
  not_owned path b n = rw (b, n) refl

  owned : (path : List ℕ) → is_beneath (directory p) path ≡ true → is_owned packages p path ≡ true → name_in packages p path ≡ Some (drop (length (directory p)) path)
  unfolding name_in
  owned path b o = rw (b, o) refl

  -- only files beneath the package's directory have names in it
  pub beneath_alone : (files : List File) → names_in packages p (paths_of (filter (λ f. is_beneath (directory p) f.path) files)) ≡ names_in packages p (paths_of files)
  unfolding names_in
  beneath_alone [] = refl
  beneath_alone (f ∷ fs) = elim (cases_Bool (is_beneath (directory p) f.path)) [
    | inl y ↦ rw y (ap (cons_option (name_in packages p f.path)) (beneath_alone fs))
    | inr n ↦ rw (n, not_beneath f.path n) (beneath_alone fs)
  ]

  module _ (include exclude : List (List ℕ)) where
    pub all_beneath : (files beneath : List File) → beneath ≡ filter (λ f. is_beneath (directory p) f.path) files → glob (paths_of beneath) packages p include exclude ≡ glob (paths_of files) packages p include exclude
    unfolding glob
    all_beneath files beneath e = ap (λ (v : List File). filter (is_wanted include exclude) (names_in packages p (paths_of v))) e ∙ ap (filter (is_wanted include exclude)) (beneath_alone files)

    pub none_given : glob [] packages p include exclude ≡ []
    unfolding glob names_in
    none_given = refl

    pub unnamed : (t : List ℕ) (ts : List (List ℕ)) → name_in packages p t ≡ None → glob (t ∷ ts) packages p include exclude ≡ glob ts packages p include exclude
    unfolding glob names_in
    unnamed t ts e = rw e refl

    pub unwanted : (t : List ℕ) (ts : List (List ℕ)) (n : List ℕ) → name_in packages p t ≡ Some n → is_wanted include exclude n ≡ false → glob (t ∷ ts) packages p include exclude ≡ glob ts packages p include exclude
    unfolding glob names_in
    unwanted t ts n e w = rw (e, w) refl

    pub wanted : (t : List ℕ) (ts : List (List ℕ)) (n : List ℕ) → name_in packages p t ≡ Some n → is_wanted include exclude n ≡ true → glob (t ∷ ts) packages p include exclude ≡ n ∷ glob ts packages p include exclude
    unfolding glob names_in
    wanted t ts n e w = rw (e, w) refl

    -- the package doesn't own the path
    pub of_another : (t : List ℕ) (ts : List (List ℕ)) → is_owned packages p t ≡ false → glob (t ∷ ts) packages p include exclude ≡ glob ts packages p include exclude
    of_another t ts o = elim (cases_Bool (is_beneath (directory p) t)) [
      | inl b ↦ unnamed t ts (not_owned t b o)
      | inr n ↦ unnamed t ts (not_beneath t n)
    ]

    -- a path that this follows the package's directory in
    module _ (d : List ℕ) (is : d ≡ directory p) (t : List ℕ) (ts : List (List ℕ)) where
      pub elsewhere : is_beneath d t ≡ false → glob (t ∷ ts) packages p include exclude ≡ glob ts packages p include exclude
      elsewhere n = unnamed t ts (not_beneath t (ap (λ (e : List ℕ). is_beneath e t) (sym is) ∙ n))

      module _ (n : List ℕ) (beneath : is_beneath d t ≡ true) (after : n ≡ drop (length d) t) where
        here : is_beneath (directory p) t ≡ true
        here = ap (λ (e : List ℕ). is_beneath e t) (sym is) ∙ beneath

        whole : n ≡ drop (length (directory p)) t
        whole = after ∙ ap (λ (e : List ℕ). drop (length e) t) is

        named : is_owned packages p t ≡ true → name_in packages p t ≡ Some n
        named o = owned t here o ∙ ap (λ (m : List ℕ). Some m) (sym whole)

        pub of_no_pattern : is_wanted include exclude n ≡ false → glob (t ∷ ts) packages p include exclude ≡ glob ts packages p include exclude
        of_no_pattern w = elim (cases_Bool (is_owned packages p t)) [
          | inl o ↦ unwanted t ts n (named o) w
          | inr o ↦ unnamed t ts (not_owned t here o)
        ]

        pub of_the_package : is_wanted include exclude n ≡ true → is_owned packages p t ≡ true → glob (t ∷ ts) packages p include exclude ≡ n ∷ glob ts packages p include exclude
        of_the_package w o = wanted t ts n (named o) w

    -- the next file has no name in the package, or one that is not wanted
    pub passes_over : (files : List File) (i : ℕ) (f : File) (given : List (List ℕ)) (total : List (List ℕ)) → i < length files → f ≡ get_or files i f → glob (f.path ∷ paths_of (drop (i + 1) files)) packages p include exclude ≡ glob (paths_of (drop (i + 1) files)) packages p include exclude
        → given ++ glob (paths_of (drop i files)) packages p include exclude ≡ total → given ++ glob (paths_of (drop (i + 1) files)) packages p include exclude ≡ total
    passes_over files i f given total l e same h = sym (ap (λ (v : List (List ℕ)). given ++ v) (ap (λ (v : List File). glob (paths_of v) packages p include exclude) (next_file files i f l e) ∙ same)) ∙ h

    -- the next file's name is given
    pub gives : (files : List File) (i : ℕ) (f : File) (n : List ℕ) (given : List (List ℕ)) (total : List (List ℕ)) → i < length files → f ≡ get_or files i f → glob (f.path ∷ paths_of (drop (i + 1) files)) packages p include exclude ≡ n ∷ glob (paths_of (drop (i + 1) files)) packages p include exclude
        → given ++ glob (paths_of (drop i files)) packages p include exclude ≡ total → (given ++ n ∷ []) ++ glob (paths_of (drop (i + 1) files)) packages p include exclude ≡ total
    gives files i f n given total l e more h =
        append_assoc given (n ∷ []) (glob (paths_of (drop (i + 1) files)) packages p include exclude)
        ∙ (sym (ap (λ (v : List (List ℕ)). given ++ v) (ap (λ (v : List File). glob (paths_of v) packages p include exclude) (next_file files i f l e) ∙ more)) ∙ h)

    pub rest_is_none : (files : List File) (i : ℕ) (given total : List (List ℕ)) → length files ≤ i → given ++ glob (paths_of (drop i files)) packages p include exclude ≡ total → given ≡ total
    rest_is_none files i given total l h =
        sym (append-nil given) ∙ (ap (λ (v : List (List ℕ)). given ++ v) (sym (ap (λ (v : List File). glob (paths_of v) packages p include exclude) (drop_all i files l) ∙ none_given)) ∙ h)

-- a name that a set of patterns matches and the excluded one doesn't is wanted
pub wanted_is : (include exclude : List (List ℕ)) (i e : PatternSet) → ((n : List ℕ) → is_match i n ≡ list_any (λ p. matches p n) include) → ((n : List ℕ) → is_match e n ≡ list_any (λ p. matches p n) exclude) → (n : List ℕ) (r : Bool) → r ≡ (is_match i n && not (is_match e n)) → r ≡ is_wanted include exclude n
unfolding is_wanted
wanted_is include exclude i e f g n r h =
    h ∙ (ap (λ (b : Bool). b && not (is_match e n)) (f n) ∙ ap (λ (b : Bool). list_any (λ p. matches p n) include && not b) (g n))
