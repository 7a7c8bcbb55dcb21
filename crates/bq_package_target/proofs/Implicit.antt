-- The source files of a package that no call declares are those that are wanted.
use Rattle.std.proofs.Common.{◌≡◌, ◌∙◌, sym, ap, subst, refl, ℕ, ◌⊎◌, inl, inr, Bool, true, false, List, [], ◌∷◌, ◌++◌, map}
use Rattle.std.specs.Prelude.{bytes_eq}
use Rattle.std.specs.List.{Contains, flat_map, filter}
use Rattle.std.proofs.lemmas.List.Elements.{Contains-append_cases, Contains-append_left, Contains-append_right}
use Rattle.std.proofs.lemmas.Slice.Eq.{bytes_eq-Decides}
use Rattle.bq_base.proofs.Choices.{by_bool}
use Rattle.bq_label.specs.Label.{LabelParts, package_of}
use Rattle.bq_label.proofs.Orders.{at_head, in_tail, head_or_tail}
use Rattle.bq_package_target.specs.declared.target.Target.{Target}
use Rattle.bq_package_target.specs.Value.{labels_in}
use Rattle.bq_package_target.specs.Target.{is_of, names_of, source}
use Rattle.bq_base_texts.specs.NameSet.{has}
use Rattle.bq_package_target.specs.Package.{PackageTargets, new_files, files, own_labels, finished}
use Rattle.bq_package_target.proofs.Finding.{no_files, old_file, new_file}
use Rattle.bq_package_target.specs.SourceFiles.{IsWanted, IsImplicit, HasTargetNamed}
use Rattle.bq_package_target.proofs.Writing.{none_in, written, writes}

-- ---- lists

record IsMapped {X Y : Type 0} (f : X → Y) (xs : List X) (y : Y) : Type 0 where
  from : X
  known : Contains xs from
  is : f from ≡ y

mapped : {X Y : Type 0} (f : X → Y) (xs : List X) (y : Y) → Contains (map f xs) y → IsMapped f xs y
mapped f [] y c = absurd (none_in y c)
mapped f (x ∷ xs) y c = elim (head_or_tail (f x) (map f xs) y c) [
  | inl e ↦ record { from = x; known = at_head x xs; is = e }
  | inr later ↦ let r = mapped f xs y later in record { from = r.from; known = in_tail x xs r.from r.known; is = r.is }
]

in_map : {X Y : Type 0} (f : X → Y) (xs : List X) (x : X) → Contains xs x → Contains (map f xs) (f x)
in_map f [] x c = absurd (none_in x c)
in_map f (y ∷ ys) x c = elim (head_or_tail y ys x c) [
  | inl e ↦ subst (λ z. Contains (f y ∷ map f ys) (f z)) e (at_head (f y) (map f ys))
  | inr later ↦ in_tail (f y) (map f ys) (f x) (in_map f ys x later)
]

filtered : {X : Type 0} (test : X → Bool) (xs : List X) (x : X) → Contains (filter test xs) x → (test x ≡ true) × Contains xs x
filtered test [] x c = absurd (none_in x c)
filtered test (y ∷ ys) x c = elim (by_bool (test y)) [
  | inl t ↦
      let kept : Contains (y ∷ filter test ys) x = rw t at c in
      elim (head_or_tail y (filter test ys) x kept) [
        | inl e ↦ (ap test (sym e) ∙ t, subst (λ z. Contains (y ∷ ys) z) e (at_head y ys))
        | inr later ↦ let r = filtered test ys x later in (r.0, in_tail y ys x r.1)
      ]
  | inr t ↦ let kept : Contains (filter test ys) x = rw t at c in let r = filtered test ys x kept in (r.0, in_tail y ys x r.1)
]

in_filter : {X : Type 0} (test : X → Bool) (xs : List X) (x : X) → test x ≡ true → Contains xs x → Contains (filter test xs) x
in_filter test [] x h c = absurd (none_in x c)
in_filter test (y ∷ ys) x h c = elim (by_bool (test y)) [
  | inl t ↦ rw t (elim (head_or_tail y ys x c) [
    | inl e ↦ subst (λ z. Contains (y ∷ filter test ys) z) e (at_head y (filter test ys))
    | inr later ↦ in_tail y (filter test ys) x (in_filter test ys x h later)
  ])
  | inr t ↦ rw t (elim (head_or_tail y ys x c) [
    | inl e ↦ let is : test y ≡ true = ap test e ∙ h in absurd (cc)
    | inr later ↦ in_filter test ys x h later
  ])
]

record FromOne {X Y : Type 0} (f : X → List Y) (xs : List X) (y : Y) : Type 0 where
  from : X
  known : Contains xs from
  there : Contains (f from) y

from_one : {X Y : Type 0} (f : X → List Y) (xs : List X) (y : Y) → Contains (flat_map f xs) y → FromOne f xs y
from_one f [] y c = absurd (none_in y c)
from_one f (x ∷ xs) y c = elim (Contains-append_cases (f x) (flat_map f xs) y c) [
  | inl here ↦ record { from = x; known = at_head x xs; there = here }
  | inr later ↦ let r = from_one f xs y later in record { from = r.from; known = in_tail x xs r.from r.known; there = r.there }
]

of_one : {X Y : Type 0} (f : X → List Y) (xs : List X) (x : X) (y : Y) → Contains xs x → Contains (f x) y → Contains (flat_map f xs) y
of_one f [] x y c h = absurd (none_in x c)
of_one f (z ∷ zs) x y c h = elim (head_or_tail z zs x c) [
  | inl e ↦ Contains-append_left (f z) (flat_map f zs) y (subst (λ w. Contains (f w) y) (sym e) h)
  | inr later ↦ Contains-append_right (f z) (flat_map f zs) y (of_one f zs x y later h)
]

-- ---- new files

abbrev Names : Type 0
Names = List (List ℕ)

has_more : (names more : Names) (name : List ℕ) → has (names ++ more) name ≡ false → has names name ≡ false
has_more [] more name h = refl
has_more (n ∷ ns) more name h = elim (by_bool (bytes_eq name n)) [
  | inl t ↦ let no : true ≡ false = rw t at h in cc
  | inr t ↦ let rest : has (ns ++ more) name ≡ false = rw t at h in let r = has_more ns more name rest in rw (t, r) refl
]

-- a new file is one of the labels, and its name isn't taken
new_only : (taken : Names) (ls : List LabelParts) (l : LabelParts) → Contains (new_files taken ls) l → Contains ls l × (has taken l.name ≡ false)
new_only taken [] l c = absurd (none_in l (subst (λ (xs : List LabelParts). Contains xs l) (no_files taken) c))
new_only taken (m ∷ ls) l c = elim (by_bool (has taken m.name)) [
  | inl t ↦ let r = new_only taken ls l (subst (λ (xs : List LabelParts). Contains xs l) (old_file taken m ls t) c) in (in_tail m ls l r.0, r.1)
  | inr t ↦ elim (head_or_tail m (new_files (taken ++ m.name ∷ []) ls) l (subst (λ (xs : List LabelParts). Contains xs l) (new_file taken m ls t) c)) [
    | inl e ↦ (subst (λ (x : LabelParts). Contains (m ∷ ls) x) e (at_head m ls), ap (λ (x : LabelParts). has taken x.name) (sym e) ∙ t)
    | inr later ↦
        let r = new_only (taken ++ m.name ∷ []) ls l later in
        (in_tail m ls l r.0, has_more taken (m.name ∷ []) l.name r.1)
  ]
]

-- a label whose name isn't taken is new, or one of its name is
record IsNewNamed (taken : Names) (ls : List LabelParts) (name : List ℕ) : Type 0 where
  label : LabelParts
  known : Contains (new_files taken ls) label
  named : label.name ≡ name

has_last : (names : Names) (n name : List ℕ) → has (names ++ n ∷ []) name ≡ true → (has names name ≡ true) ⊎ (bytes_eq name n ≡ true)
has_last [] n name h = elim (by_bool (bytes_eq name n)) [ inl t ↦ inr t | inr t ↦ let no : false ≡ true = rw t at h in absurd (cc) ]
has_last (m ∷ ms) n name h = elim (by_bool (bytes_eq name m)) [
  | inl t ↦ inl (rw t refl)
  | inr t ↦ let rest : has (ms ++ n ∷ []) name ≡ true = rw t at h in elim (has_last ms n name rest) [ inl r ↦ inl (rw t r) | inr r ↦ inr r ]
]

new_all : (taken : Names) (ls : List LabelParts) (l : LabelParts) → Contains ls l → (has taken l.name ≡ true) ⊎ IsNewNamed taken ls l.name
new_all taken [] l c = absurd (none_in l c)
new_all taken (m ∷ ls) l c = elim (by_bool (has taken m.name)) [
  | inl t ↦ elim (head_or_tail m ls l c) [
    | inl e ↦ inl (ap (λ (x : LabelParts). has taken x.name) (sym e) ∙ t)
    | inr later ↦ elim (new_all taken ls l later) [
      | inl old ↦ inl old
      | inr r ↦ inr (record { label = r.label; known = subst (λ (xs : List LabelParts). Contains xs r.label) (sym (old_file taken m ls t)) r.known; named = r.named })
    ]
  ]
  | inr t ↦ elim (head_or_tail m ls l c) [
    | inl e ↦ inr (record { label = m; known = here t; named = ap (λ (x : LabelParts). x.name) e })
    | inr later ↦ elim (new_all (taken ++ m.name ∷ []) ls l later) [
      | inl old ↦ elim (has_last taken m.name l.name old) [
        | inl before ↦ inl before
        | inr same ↦ inr (record { label = m; known = here t; named = sym ((bytes_eq-Decides l.name m.name).0 same) })
      ]
      | inr r ↦ inr (record { label = r.label; known = subst (λ (xs : List LabelParts). Contains xs r.label) (sym (new_file taken m ls t)) (in_tail m _ r.label r.known); named = r.named })
    ]
  ]
]
  where
    here : has taken m.name ≡ false → Contains (new_files taken (m ∷ ls)) m
    here t = subst (λ (xs : List LabelParts). Contains xs m) (sym (new_file taken m ls t)) (at_head m _)

-- ---- a package

module _ (p : PackageTargets) where
  abbrev named : List LabelParts
  named = p.build_file ∷ own_labels (package_of p.build_file) p.targets

  abbrev more : List Target
  more = map (λ l. source l 0) (new_files (names_of p.targets) named)

  finished_is : (finished p).targets ≡ p.targets ++ more
  unfolding finished files
  finished_is = refl

  wanted : (l : LabelParts) → Contains named l → IsWanted p l
  unfolding own_labels
  wanted l c = elim (head_or_tail p.build_file (own_labels (package_of p.build_file) p.targets) l c) [
    | inl e ↦ inl (sym e)
    | inr later ↦
        let f = filtered (is_of (package_of p.build_file)) (flat_map (λ t. labels_in t.attributes) p.targets) l later in
        let o = from_one (λ (t : Target). labels_in t.attributes) p.targets l f.1 in
        inr (record { target = o.from; declared = o.known; writes = written o.from l o.there; inside = f.0 })
  ]

  is_named : (l : LabelParts) → IsWanted p l → Contains named l
  unfolding own_labels
  is_named l (inl e) = subst (λ (x : LabelParts). Contains named x) (sym e) (at_head p.build_file (own_labels (package_of p.build_file) p.targets))
  is_named l (inr w) =
      in_tail p.build_file (own_labels (package_of p.build_file) p.targets) l
      (in_filter (is_of (package_of p.build_file)) (flat_map (λ t. labels_in t.attributes) p.targets) l w.inside (of_one (λ (t : Target). labels_in t.attributes) p.targets w.target l w.declared (writes w.target l w.writes)))

  pub only_wanted : (t : Target) → Contains (finished p).targets t → Contains p.targets t ⊎ IsImplicit p t
  only_wanted t c = elim (Contains-append_cases p.targets more t (subst (λ (ts : List Target). Contains ts t) finished_is c)) [
    | inl early ↦ inl early
    | inr later ↦
        let m = mapped (λ (l : LabelParts). source l 0) (new_files (names_of p.targets) named) t later in
        let n = new_only (names_of p.targets) named m.from m.known in
        inr (record { label = m.from; is = sym m.is; wanted = wanted m.from n.0; new = n.1 })
  ]

  -- a target has each name that is taken
  has_target : (ts : List Target) (name : List ℕ) → has (names_of ts) name ≡ true → HasTargetNamed ts name
  has_target [] name h = absurd (cc)
  has_target (t ∷ ts) name h = elim (by_bool (bytes_eq name t.label.name)) [
    | inl e ↦ record { target = t; known = at_head t ts; named = sym ((bytes_eq-Decides name t.label.name).0 e) }
    | inr e ↦ let rest : has (names_of ts) name ≡ true = rw e at h in let r = has_target ts name rest in record { target = r.target; known = in_tail t ts r.target r.known; named = r.named }
  ]

  pub all_wanted : (l : LabelParts) → IsWanted p l → HasTargetNamed (finished p).targets l.name
  all_wanted l w = elim (new_all (names_of p.targets) named l (is_named l w)) [
    | inl old ↦ let r = has_target p.targets l.name old in record { target = r.target; known = subst (λ (ts : List Target). Contains ts r.target) (sym finished_is) (Contains-append_left p.targets more r.target r.known); named = r.named }
    | inr n ↦
        record {
          target = source n.label 0;
          known = subst (λ (ts : List Target). Contains ts (source n.label 0)) (sym finished_is) (Contains-append_right p.targets more (source n.label 0) (in_map (λ (x : LabelParts). source x 0) (new_files (names_of p.targets) named) n.label n.known));
          named = n.named;
        }
  ]

  pub build_file_first : has (names_of p.targets) p.build_file.name ≡ false → (rest : List Target) × ((finished p).targets ≡ p.targets ++ source p.build_file 0 ∷ rest)
  build_file_first free = (
    map (λ l. source l 0) (new_files (names_of p.targets ++ p.build_file.name ∷ []) (own_labels (package_of p.build_file) p.targets)),
    finished_is ∙ ap (λ (ls : List LabelParts). p.targets ++ map (λ l. source l 0) ls) (new_file (names_of p.targets) p.build_file (own_labels (package_of p.build_file) p.targets) free),
  )
