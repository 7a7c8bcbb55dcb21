-- Packages: their targets are of them, and no two have one name.
use Rattle.std.proofs.Common.{◌≡◌, ◌&&◌, ◌+◌, ℕ, suc, Bool, true, false, cond, nat_lt, List, [], ◌∷◌, ◌++◌, Option, Some, None, length, map, position, option_and_then, slice_get, refl, sym, ap, subst, ◌∙◌, inl, inr, arith}
use Rattle.std.specs.Str.{bytes_eq}
use Rattle.std.specs.List.{list_any, list_all, flat_map, filter, find, position_or_len, IsDistinct}
use Rattle.std.proofs.lemmas.Bool.Decides.{nat_tests}
use Rattle.std.proofs.lemmas.Bool.{cases_Bool}
use Rattle.std.proofs.lemmas.List.{map-append}
use Rattle.std.proofs.lemmas.Slice.Eq.{bytes_eq-Decides}
use Rattle.bq_label.specs.Label.{PackageParts, LabelParts, package_of}
use Rattle.bq_package_target.specs.declared.files.Files.{Files}
use Rattle.bq_package_target.specs.declared.target.Target.{Target}
use Rattle.bq_package_target.specs.Value.{labels_in, outputs_in}
use Rattle.bq_package_target.specs.declared.state.Declared.TheVariants.{Accepted, Refused}
use Rattle.bq_package_target.specs.Calls.{declared, exported}
use Rattle.bq_package_target.specs.Names.{are_new}
use Rattle.bq_base_texts.specs.NameSet.{has}
use Rattle.bq_package_target.specs.Target.{is_of, names_of, source, generated, declares}
use Rattle.bq_package_target.specs.Package.{PackageTargets, AreTargetsOf, IsState, IsOwnCall, new_files, files, own_labels, finished, target_named, is_taken}
use Rattle.bq_package_target.proofs.Cases.{is_other}
use Rattle.bq_package_target.specs.Files.{Finds, FindsOwn}
use Rattle.bq_package_target.proofs.Taking.{distinct_from_new}
use Rattle.bq_package_target.proofs.Finding.{names_in, no_files, old_file, new_file, distinct_files, finds_then}

abbrev inside : PackageParts → List Target → Bool
inside own ts = list_all (λ t. is_of own t.label) ts

pub both : (a b : Bool) → a ≡ true → b ≡ true → (a && b) ≡ true
both a b e f = rw (e, f) refl

first : (a b : Bool) → (a && b) ≡ true → a ≡ true
first true b h = refl
first false b h = cc

second : (a b : Bool) → (a && b) ≡ true → b ≡ true
second true b h = h
second false b h = cc

inside-append : (own : PackageParts) (xs ys : List Target) → inside own xs ≡ true → inside own ys ≡ true → inside own (xs ++ ys) ≡ true
inside-append own [] ys h i = i
inside-append own (x ∷ xs) ys h i = both (is_of own x.label) (inside own (xs ++ ys)) (first (is_of own x.label) (inside own xs) h) (inside-append own xs ys (second (is_of own x.label) (inside own xs) h) i)

names_of-append : (xs ys : List Target) → names_of (xs ++ ys) ≡ names_of xs ++ names_of ys
names_of-append xs ys = map-append (λ t. t.label.name) xs ys

names_of_files : (line : ℕ) (ls : List LabelParts) → names_of (map (λ l. source l line) ls) ≡ names_in ls
names_of_files line [] = refl
names_of_files line (l ∷ ls) = ap (λ z. l.name ∷ z) (names_of_files line ls)

inside_files : (own : PackageParts) (line : ℕ) (taken : List (List ℕ)) (ls : List LabelParts) → list_all (is_of own) ls ≡ true → inside own (map (λ l. source l line) (new_files taken ls)) ≡ true
inside_files own line taken [] h = rw (no_files taken) refl
inside_files own line taken (l ∷ ls) h =
    let rest : list_all (is_of own) ls ≡ true = second (is_of own l) (list_all (is_of own) ls) h in
    elim (cases_Bool (has taken l.name)) [
      | inl e ↦ rw (old_file taken l ls e) (inside_files own line taken ls rest)
      | inr e ↦ rw (new_file taken l ls e) (both (is_of own l) (inside own (map (λ l. source l line) (new_files (taken ++ l.name ∷ []) ls))) (first (is_of own l) (list_all (is_of own) ls) h) (inside_files own line (taken ++ l.name ∷ []) ls rest))
    ]

pub filtered_pass : (p : LabelParts → Bool) (ls : List LabelParts) → list_all p (filter p ls) ≡ true
filtered_pass p [] = refl
filtered_pass p (l ∷ ls) = elim (cases_Bool (p l)) [
  | inl e ↦ rw (e, e) (filtered_pass p ls)
  | inr e ↦ rw e (filtered_pass p ls)
]

pub is_own_of : (l : LabelParts) → is_of (package_of l) l ≡ true
unfolding is_of
is_own_of l = both (bytes_eq l.repo l.repo) (bytes_eq l.package l.package) ((bytes_eq-Decides l.repo l.repo).1 refl) ((bytes_eq-Decides l.package l.package).1 refl)

-- ---- a state

pub empty_state : (own : PackageParts) → AreTargetsOf own []
unfolding IsDistinct
empty_state own = record { distinct = tt; inside = refl }

-- a state with further targets whose names are new
pub state_with : (own : PackageParts) (ts more : List Target) (names : List (List ℕ)) → IsState own ts names → are_new names (names_of more) ≡ true → inside own more ≡ true → (now : List (List ℕ)) → now ≡ names ++ names_of more → IsState own (ts ++ more) now
state_with own ts more names s n i now e =
    let same : names_of (ts ++ more) ≡ names ++ names_of more = names_of-append ts more ∙ ap (λ z. z ++ names_of more) (sym s.taken) in
    let old : IsDistinct bytes_eq names = subst (λ (z : List (List ℕ)). IsDistinct bytes_eq z) (sym s.taken) s.valid.distinct in
    record {
      valid = record {
        distinct = subst (λ (z : List (List ℕ)). IsDistinct bytes_eq z) (sym same) (distinct_from_new names (names_of more) old n);
        inside = inside-append own ts more s.valid.inside i;
      };
      taken = e ∙ sym same;
    }

-- a state with the files of labels
module _ (own : PackageParts) (line : ℕ) (ts : List Target) (names : List (List ℕ)) (s : IsState own ts names) (ls : List LabelParts) (o : list_all (is_of own) ls ≡ true) where
  made : List Target
  made = map (λ l. source l line) (new_files names ls)

  with_names : names_of (ts ++ made) ≡ names ++ names_in (new_files names ls)
  unfolding made
  with_names = names_of-append ts made ∙ (ap (λ z. z ++ names_of made) (sym s.taken) ∙ ap (λ z. names ++ z) (names_of_files line (new_files names ls)))

  pub with_files : AreTargetsOf own (ts ++ map (λ l. source l line) (new_files names ls))
  unfolding made
  with_files =
      let old : IsDistinct bytes_eq names = subst (λ (z : List (List ℕ)). IsDistinct bytes_eq z) (sym s.taken) s.valid.distinct in
      record {
        distinct = subst (λ (z : List (List ℕ)). IsDistinct bytes_eq z) (sym with_names) (distinct_files names ls old);
        inside = inside-append own ts made s.valid.inside (inside_files own line names ls o);
      }

  pub state_files : (now : List (List ℕ)) → now ≡ names ++ names_in (new_files names ls) → IsState own (ts ++ map (λ l. source l line) (new_files names ls)) now
  unfolding made
  state_files now e = record { valid = with_files; taken = e ∙ sym with_names }

-- ---- the calls

pub declared_new : (p : PackageTargets) (t : Target) → are_new (names_of p.targets) (names_of (declares t)) ≡ true → declared p t ≡ Accepted (record { build_file = p.build_file; targets = p.targets ++ declares t })
unfolding declared
declared_new p t h = rw h refl

pub declared_old : (p : PackageTargets) (t : Target) → are_new (names_of p.targets) (names_of (declares t)) ≡ false → declared p t ≡ Refused p
unfolding declared
declared_old p t h = rw h refl

pub declares_is : (t : Target) → declares t ≡ t ∷ map (generated t) (outputs_in t.attributes)
unfolding declares
declares_is t = refl

-- ---- the target of a name

next_below : (a b : ℕ) → nat_lt (1 + a) (suc b) ≡ nat_lt a b
next_below a b = grind (arith, nat_tests)

found_after : {X : Type 0} (x : X) (xs : List X) (a : ℕ) (b : Bool) → option_and_then (slice_get (x ∷ xs)) (cond b (Some (1 + a)) None) ≡ option_and_then (slice_get xs) (cond b (Some a) None)
found_after {X} x xs a true = let e : 1 + a ≡ suc a = omega arith in ap (slice_get (x ∷ xs)) e
found_after x xs a false = refl

place_of : (List ℕ → Bool) → List (List ℕ) → Option ℕ
place_of p ns = cond (nat_lt (position_or_len p ns) (length ns)) (Some (position_or_len p ns)) None

found_first : {X : Type 0} (x : X) (xs : List X) (n : ℕ) → Some x ≡ option_and_then (slice_get (x ∷ xs)) (cond (nat_lt 0 (suc n)) (Some 0) None)
found_first x xs n = let t : nat_lt 0 (suc n) ≡ true = grind (arith, nat_tests) in rw t refl

named_at : (p : List ℕ → Bool) (ts : List Target) → find (λ t. p t.label.name) ts ≡ option_and_then (slice_get ts) (place_of p (names_of ts))
unfolding place_of
named_at p [] = refl
named_at p (t ∷ ts) = elim (cases_Bool (p t.label.name)) [
  | inl e ↦ rw e (found_first t ts (length (names_of ts)))
  | inr e ↦
      let a : ℕ = position_or_len p (names_of ts) in
      let n : ℕ = length (names_of ts) in
      rw e (named_at p ts ∙ (sym (found_after t ts a (nat_lt a n)) ∙ ap (λ (b : Bool). option_and_then (slice_get (t ∷ ts)) (cond b (Some (1 + a)) None)) (sym (next_below a n))))
]

pub target_at : (ts : List Target) (n : List ℕ) → target_named ts n ≡ option_and_then (slice_get ts) (position (bytes_eq n) (names_of ts))
unfolding place_of
target_at ts n = named_at (bytes_eq n) ts

pub taken_none : (ts : List Target) (names : List (List ℕ)) (l : LabelParts) → names ≡ names_of ts → position (bytes_eq l.name) names ≡ None → is_taken ts l ≡ false
unfolding is_taken
taken_none ts names l e h =
    let none : target_named ts l.name ≡ None = target_at ts l.name ∙ ap (option_and_then (slice_get ts)) (ap (position (bytes_eq l.name)) (sym e) ∙ h) in
    ap is_other none

pub taken_some : (ts : List Target) (names : List (List ℕ)) (l : LabelParts) (at : ℕ) (o : Option Target) → names ≡ names_of ts → position (bytes_eq l.name) names ≡ Some at → slice_get ts at ≡ o → is_taken ts l ≡ is_other o
unfolding is_taken
taken_some ts names l at o e h g =
    let one : target_named ts l.name ≡ o = target_at ts l.name ∙ (ap (option_and_then (slice_get ts)) (ap (position (bytes_eq l.name)) (sym e) ∙ h) ∙ g) in
    ap is_other one

-- ---- the end

pub finished_is : (p : PackageTargets) (names : List (List ℕ)) (found : List Target) → names ≡ names_of p.targets
    → found ≡ map (λ l. source l 0) (new_files names (p.build_file ∷ filter (is_of (package_of p.build_file)) (flat_map (λ t. labels_in t.attributes) p.targets)))
    → finished p ≡ record { build_file = p.build_file; targets = p.targets ++ found }
unfolding finished files own_labels
finished_is p names found e f = rw (f, e) refl

pub exported_old : (p : PackageTargets) (ls : List LabelParts) (line : ℕ) → list_any (is_taken p.targets) ls ≡ true → exported p ls line ≡ Refused p
unfolding exported
exported_old p ls line h = rw h refl

-- all labels that a package looks for files of are its own
pub all_own : (b : LabelParts) (ls : List LabelParts) → list_all (is_of (package_of b)) (b ∷ filter (is_of (package_of b)) ls) ≡ true
all_own b ls = both (is_of (package_of b) b) (list_all (is_of (package_of b)) (filter (is_of (package_of b)) ls)) (is_own_of b) (filtered_pass (is_of (package_of b)) ls)

-- what is found for a BUILD file and then for the targets of its package
pub rest_found : (b : LabelParts) (ts : List Target) (names : List (List ℕ)) (f g : Files) → Finds 0 (b ∷ []) (record { names = names; found = [] }) f
    → FindsOwn (package_of b) (flat_map (λ t. labels_in t.attributes) ts) f g → g.found ≡ map (λ l. source l 0) (new_files names (b ∷ own_labels (package_of b) ts))
unfolding own_labels
rest_found b ts names f g first rest =
    let all = finds_then 0 (b ∷ []) (filter (is_of (package_of b)) (flat_map (λ t. labels_in t.attributes) ts)) (record { names = names; found = [] }) f g first rest in
    all.found

-- what is there once they are added
pub rest_added : (b : LabelParts) (ts now seen : List Target) (names : List (List ℕ)) (none : List Target) (own : PackageParts) (f g : Files) → none ≡ [] → own ≡ package_of b → seen ≡ ts
    → Finds 0 (b ∷ []) (record { names = names; found = none }) f → FindsOwn own (flat_map (λ t. labels_in t.attributes) seen) f g → now ≡ ts ++ g.found
    → now ≡ ts ++ map (λ l. source l 0) (new_files names (b ∷ own_labels (package_of b) ts))
rest_added b ts now seen names none own f g empty here same first rest is =
    let start = subst (λ (z : List Target). Finds 0 (b ∷ []) (record { names = names; found = z }) f) empty first in
    let mine = subst (λ (z : PackageParts). FindsOwn z (flat_map (λ t. labels_in t.attributes) seen) f g) here rest in
    let all = subst (λ (z : List Target). FindsOwn (package_of b) (flat_map (λ t. labels_in t.attributes) z) f g) same mine in
    is ∙ ap (λ (z : List Target). ts ++ z) (rest_found b ts names f g start all)

-- ---- what the calls give, of the fields of a state

-- the package with the files of labels
abbrev with_files_of : PackageTargets → ℕ → List LabelParts → PackageTargets
with_files_of p line ls = record p { targets = p.targets ++ files line p.targets ls }

module _ (b : LabelParts) (ts : List Target) (names : List (List ℕ)) (s : IsState (package_of b) ts names) where
  state : PackageTargets
  state = record { build_file = b; targets = ts }

  pub call_state : (t : Target) → (p : PackageTargets) → record { build_file = b; targets = ts } ≡ p → IsOwnCall (package_of p.build_file) t → (new : Bool) → new ≡ are_new names (names_of (declares t))
      → (now : List Target) → now ≡ cond new (ts ++ declares t) ts → (taken : List (List ℕ)) → taken ≡ cond new (names ++ names_of (declares t)) names → IsState (package_of b) now taken
  call_state t p e o true h now n taken k =
      let mine : IsOwnCall (package_of b) t = subst (λ (q : PackageTargets). IsOwnCall (package_of q.build_file) t) (sym e) o in
      subst (λ (z : List Target). IsState (package_of b) z taken) (sym n) (state_with (package_of b) ts (declares t) names s (sym h) mine taken k)
  call_state t p e o false h now n taken k =
      subst (λ (z : List Target). IsState (package_of b) z taken) (sym n) (subst (λ (z : List (List ℕ)). IsState (package_of b) ts z) (sym k) s)

  pub call_is : (t : Target) → (p : PackageTargets) → record { build_file = b; targets = ts } ≡ p → (new : Bool) → new ≡ are_new names (names_of (declares t)) → (now : List Target)
      → now ≡ cond new (ts ++ declares t) ts → cond new (Accepted (record { build_file = b; targets = now })) (Refused (record { build_file = b; targets = now })) ≡ declared p t
  unfolding state
  call_is t p e true h now n =
      let all : are_new (names_of ts) (names_of (declares t)) ≡ true = ap (λ (z : List (List ℕ)). are_new z (names_of (declares t))) (sym s.taken) ∙ sym h in
      ap (λ (z : List Target). Accepted (record { build_file = b; targets = z })) n ∙ (sym (declared_new state t all) ∙ ap (λ (q : PackageTargets). declared q t) e)
  call_is t p e false h now n =
      let some : are_new (names_of ts) (names_of (declares t)) ≡ false = ap (λ (z : List (List ℕ)). are_new z (names_of (declares t))) (sym s.taken) ∙ sym h in
      ap (λ (z : List Target). Refused (record { build_file = b; targets = z })) n ∙ (sym (declared_old state t some) ∙ ap (λ (q : PackageTargets). declared q t) e)

  pub files_is : (p : PackageTargets) → record { build_file = b; targets = ts } ≡ p → (ls : List LabelParts) (line : ℕ) → (now : List Target) → now ≡ ts ++ map (λ l. source l line) (new_files names ls)
      → record { build_file = b; targets = now } ≡ with_files_of p line ls
  unfolding state files
  files_is p e ls line now n =
      let q : PackageTargets → Type 0 = λ z. record { build_file = b; targets = now } ≡ with_files_of z line ls in
      let found : now ≡ ts ++ map (λ l. source l line) (new_files (names_of ts) ls) = n ∙ ap (λ (ns : List (List ℕ)). ts ++ map (λ l. source l line) (new_files ns ls)) s.taken in
      subst q e (ap (λ (z : List Target). record { build_file = b; targets = z }) found)

  pub files_state : (p : PackageTargets) → record { build_file = b; targets = ts } ≡ p → (ls : List LabelParts) (line : ℕ) → list_all (is_of (package_of p.build_file)) ls ≡ true → (now : List Target)
      → now ≡ ts ++ map (λ l. source l line) (new_files names ls) → (after : List (List ℕ)) → after ≡ names ++ names_in (new_files names ls) → IsState (package_of b) now after
  files_state p e ls line o now n after m =
      let mine : list_all (is_of (package_of b)) ls ≡ true = ap (λ (q : PackageTargets). list_all (is_of (package_of q.build_file)) ls) e ∙ o in
      subst (λ (z : List Target). IsState (package_of b) z after) (sym n) (state_files (package_of b) line ts names s ls mine after m)

  abbrev named : List LabelParts
  named = flat_map (λ t. labels_in t.attributes) ts

  pub end_valid : (now : List Target) → now ≡ ts ++ map (λ l. source l 0) (new_files names (b ∷ own_labels (package_of b) ts)) → AreTargetsOf (package_of b) now
  unfolding own_labels
  end_valid now n = subst (λ (z : List Target). AreTargetsOf (package_of b) z) (sym n) (with_files (package_of b) 0 ts names s (b ∷ filter (is_of (package_of b)) named) (all_own b named))

  pub end_is : (p : PackageTargets) → record { build_file = b; targets = ts } ≡ p → (now : List Target) → now ≡ ts ++ map (λ l. source l 0) (new_files names (b ∷ own_labels (package_of b) ts))
      → record { build_file = b; targets = now } ≡ finished p
  unfolding state own_labels
  end_is p e now n =
      let q : PackageTargets → Type 0 = λ z. record { build_file = b; targets = now } ≡ finished z in
      let found : List Target = map (λ l. source l 0) (new_files names (b ∷ filter (is_of (package_of b)) named)) in
      subst q e (ap (λ (z : List Target). record { build_file = b; targets = z }) n ∙ sym (finished_is state names found s.taken refl))

pub no_state : (own : PackageParts) (ts : List Target) (names : List (List ℕ)) → ts ≡ [] → names ≡ [] → IsState own ts names
unfolding IsDistinct
no_state own ts names e f = rw (e, f) (record { valid = record { distinct = tt; inside = refl }; taken = refl })
