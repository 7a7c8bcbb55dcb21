-- The first package that a walk up the directories of a path meets is the nearest.
use Rattle.std.proofs.Common.{◌≡◌, ◌+◌, ◌<◌, ◌≤◌, ◌&&◌, ◌||◌, ◌⊎◌, ℕ, Bool, true, false, List, [], ◌∷◌, Option, Some, None, length, take, drop, slice_index, nat_lt, refl, sym, ap, subst, ◌∙◌, arith, length-take-le, inl, inr, Bor}
use Rattle.std.proofs.lemmas.Bool.{cases_Bool, cases_lt, false≢true}
use Rattle.std.proofs.lemmas.Bool.Decides.{nat_tests}
use Rattle.std.specs.Option.{is_some, option_copied}
use Rattle.std.specs.Str.{bytes_eq}
use Rattle.std.specs.List.{Contains, find, filter}
use Rattle.std.specs.List.Sorted.{IsStrictlySortedBy}
use Rattle.std.specs.declared.cmp.Ordering.TheVariants.{Less, Equal}
use Rattle.std.proofs.lemmas.Cmp.{tied_itself}
use Rattle.std.proofs.lemmas.List.Elements.{All-from_recursion, All-contains}
use Rattle.std.proofs.lemmas.Map.Keys.{sorted_head, sorted_tail}
use Rattle.bq_label.specs.declared.packages.BuildFile.{BuildFile}
use Rattle.bq_label.specs.Label.{PackageParts, package_at}
use Rattle.bq_label.specs.Workspace.{is_above}
use Rattle.bq_label.specs.Packages.{id_cmp, package_cmp, is_package_id, package_named, is_over, nearest, nearest_over, split_repository, owner_of, IsOver, OwnerIs}
use Rattle.bq_label.proofs.Cases.{nearer}
use Rattle.bq_label.proofs.Above.{same_bytes, equal_bytes, above_take, above_length, above_slash, above_front, above_whole, above_joined}
use Rattle.bq_label.proofs.Orders.{at_head, in_tail, head_or_tail}
use Rattle.bq_label.proofs.Readings.{first_of_two, second_of_two}
use Rattle.bq_label.proofs.BuildFiles.{by_id}

none_in : {X : Type 0} (z : X) → Contains [] z → ⊥
none_in z c = omega arith

some_same : {A : Type 0} {x y : A} → Some x ≡ Some y → x ≡ y
some_same e = cc

-- ---- what a search from the front finds

pub find_some : {X : Type 0} (test : X → Bool) (xs : List X) (b : X) → find test xs ≡ Some b → Contains xs b × (test b ≡ true)
find_some test [] b e = absurd (cc)
find_some test (x ∷ xs) b e = elim (cases_Bool (test x)) [
  | inl y ↦
      let is : x ≡ b = some_same (sym (rw y refl) ∙ e) in
      (subst (λ z. Contains (x ∷ xs) z) is (at_head x xs), sym (ap test is) ∙ y)
  | inr n ↦
      let f = find_some test xs b (sym (rw n refl) ∙ e) in
      (in_tail x xs b f.0, f.1)
]

pub find_none_in : {X : Type 0} (test : X → Bool) (xs : List X) → find test xs ≡ None → (q : X) → Contains xs q → test q ≡ false
find_none_in test [] e q c = absurd (none_in q c)
find_none_in test (x ∷ xs) e q c = elim (cases_Bool (test x)) [
  | inl y ↦ let some : Some x ≡ None = sym (rw y refl) ∙ e in absurd (cc)
  | inr n ↦ elim (head_or_tail x xs q c) [
    | inl is ↦ sym (ap test is) ∙ n
    | inr d ↦ find_none_in test xs (sym (rw n refl) ∙ e) q d
  ]
]

pub record IsNamed (packages : List BuildFile) (p : PackageParts) (b : BuildFile) : Type 0 where
  pub known : Contains packages b
  pub repo : b.id.repo ≡ p.repo
  pub path : b.id.package ≡ p.package

pub package_known : (packages : List BuildFile) (p : PackageParts) (b : BuildFile) → package_named packages p ≡ Some b → IsNamed packages p b
unfolding package_named
package_known packages p b e =
    let f = find_some (is_package_id p.repo p.package) packages b e in
    record {
      known = f.0;
      repo = same_bytes b.id.repo p.repo (first_of_two (bytes_eq b.id.repo p.repo) (bytes_eq b.id.package p.package) f.1);
      path = same_bytes b.id.package p.package (second_of_two (bytes_eq b.id.repo p.repo) (bytes_eq b.id.package p.package) f.1);
    }

both_true : (a b : Bool) → a ≡ true → b ≡ true → (a && b) ≡ true
both_true a b h k = rw (h, k) refl

pub package_unknown : (packages : List BuildFile) (p : PackageParts) → package_named packages p ≡ None → (q : BuildFile) → Contains packages q → q.id.repo ≡ p.repo → q.id.package ≡ p.package → ⊥
unfolding package_named
package_unknown packages p e q c r t =
    let no : is_package_id p.repo p.package q ≡ false = find_none_in (is_package_id p.repo p.package) packages e q c in
    let yes : is_package_id p.repo p.package q ≡ true = both_true (bytes_eq q.id.repo p.repo) (bytes_eq q.id.package p.package) (equal_bytes q.id.repo p.repo r) (equal_bytes q.id.package p.package t) in
    false≢true (sym no ∙ yes)

not_below : (p q : PackageParts) → p ≡ q → id_cmp p q ≡ Less → ⊥
not_below p q e l =
    let same : id_cmp p q ≡ Equal = ap (λ (x : PackageParts). id_cmp x q) e ∙ tied_itself by_id q in
    let no : Less ≡ Equal = sym l ∙ same in
    absurd (cc)

below_each : (x : BuildFile) (xs : List BuildFile) → IsStrictlySortedBy package_cmp (x ∷ xs) → (q : BuildFile) → Contains xs q → package_cmp x q ≡ Less
below_each x xs s q c = All-contains (λ (y : BuildFile). package_cmp x y ≡ Less) xs q (All-from_recursion (λ (y : BuildFile). package_cmp x y ≡ Less) xs (sorted_head package_cmp x xs s)) c

-- packages of one name are one
pub same_package : (packages : List BuildFile) → IsStrictlySortedBy package_cmp packages → (q b : BuildFile) → Contains packages q → Contains packages b → q.id ≡ b.id → q ≡ b
same_package [] s q b c d e = absurd (none_in q c)
same_package (x ∷ xs) s q b c d e = elim (head_or_tail x xs q c) [
  | inl x_q ↦ elim (head_or_tail x xs b d) [
    | inl x_b ↦ sym x_q ∙ x_b
    | inr in_b ↦ absurd (not_below x.id b.id (ap (λ (y : BuildFile). y.id) x_q ∙ e) (below_each x xs s b in_b))
  ]
  | inr in_q ↦ elim (head_or_tail x xs b d) [
    | inl x_b ↦ absurd (not_below x.id q.id (ap (λ (y : BuildFile). y.id) x_b ∙ sym e) (below_each x xs s q in_q))
    | inr in_b ↦ same_package xs (sorted_tail package_cmp x xs s) q b in_q in_b e
  ]
]

-- ---- the nearest of those that pass

module _ (p : BuildFile → Bool) where
  nearer_in : (x c : BuildFile) (xs : List BuildFile) (v : Option BuildFile) → p x ≡ true → ((d : BuildFile) → v ≡ Some d → Contains xs d × (p d ≡ true)) → nearer x v ≡ Some c → Contains (x ∷ xs) c × (p c ≡ true)
  nearer_in x c xs None y f e = let is : x ≡ c = some_same e in (subst (λ z. Contains (x ∷ xs) z) is (at_head x xs), sym (ap p is) ∙ y)
  nearer_in x c xs (Some d) y f e = elim (cases_Bool (nat_lt (length x.id.package) (length d.id.package))) [
    | inl l ↦
        let is : d ≡ c = some_same (sym (rw l refl) ∙ e) in
        let g = f d refl in
        (subst (λ z. Contains (x ∷ xs) z) is (in_tail x xs d g.0), sym (ap p is) ∙ g.1)
    | inr n ↦
        let is : x ≡ c = some_same (sym (rw n refl) ∙ e) in
        (subst (λ z. Contains (x ∷ xs) z) is (at_head x xs), sym (ap p is) ∙ y)
  ]

  pub nearest_in : (xs : List BuildFile) (c : BuildFile) → nearest (filter p xs) ≡ Some c → Contains xs c × (p c ≡ true)
  nearest_in [] c e = absurd (cc)
  nearest_in (x ∷ xs) c e = elim (cases_Bool (p x)) [
    | inl y ↦ nearer_in x c xs (nearest (filter p xs)) y (λ d h. nearest_in xs d h) (sym (rw y refl) ∙ e)
    | inr n ↦ let f = nearest_in xs c (sym (rw n refl) ∙ e) in (in_tail x xs c f.0, f.1)
  ]

  pub nearest_none : (xs : List BuildFile) → ((q : BuildFile) → Contains xs q → p q ≡ false) → nearest (filter p xs) ≡ None
  nearest_none [] f = refl
  nearest_none (x ∷ xs) f = rw (f x (at_head x xs)) (nearest_none xs (λ q c. f q (in_tail x xs q c)))

  kept : (x b : BuildFile) (v : Option BuildFile) → x ≡ b → ((c : BuildFile) → v ≡ Some c → length c.id.package ≤ length b.id.package) → nearer x v ≡ Some b
  kept x b None e f = ap Some e
  kept x b (Some c) e f =
      let size : length x.id.package ≡ length b.id.package = ap (λ (y : BuildFile). length y.id.package) e in
      let most : length c.id.package ≤ length b.id.package = f c refl in
      let no : nat_lt (length x.id.package) (length c.id.package) ≡ false = grind (arith, nat_tests) in
      rw no (ap Some e)

  pub nearest_is : (xs : List BuildFile) (b : BuildFile) → Contains xs b → p b ≡ true
      → ((q : BuildFile) → Contains xs q → p q ≡ true → length q.id.package ≤ length b.id.package)
      → ((q : BuildFile) → Contains xs q → p q ≡ true → length q.id.package ≡ length b.id.package → q ≡ b)
      → nearest (filter p xs) ≡ Some b
  nearest_is [] b c h most ties = absurd (none_in b c)
  nearest_is (x ∷ xs) b c h most ties = elim (cases_Bool (p x)) [
    | inr n ↦ elim (head_or_tail x xs b c) [
      | inl e ↦ absurd (false≢true (sym n ∙ (ap p e ∙ h)))
      | inr d ↦ rw n (nearest_is xs b d h (λ q i. most q (in_tail x xs q i)) (λ q i. ties q (in_tail x xs q i)))
    ]
    | inl y ↦ elim (head_or_tail x xs b c) [
      | inl e ↦ rw y (kept x b (nearest (filter p xs)) e (λ q i. let f = nearest_in xs q i in most q (in_tail x xs q f.0) f.1))
      | inr d ↦
          let rest : nearest (filter p xs) ≡ Some b = nearest_is xs b d h (λ q i. most q (in_tail x xs q i)) (λ q i. ties q (in_tail x xs q i)) in
          elim (cases_Bool (nat_lt (length x.id.package) (length b.id.package))) [
            | inl l ↦ rw (y, rest, l) refl
            | inr g ↦
                let upper : length x.id.package ≤ length b.id.package = most x (at_head x xs) y in
                let lower : length b.id.package ≤ length x.id.package = grind (arith, nat_tests) in
                rw (y, rest, g) (ap Some (ties x (at_head x xs) y (omega arith)))
          ]
    ]
  ]

-- ---- the walk

pub over_cases : (repo rest : List ℕ) (q : BuildFile) → is_over repo rest q ≡ true → (q.id.repo ≡ repo) × ((q.id.package ≡ []) ⊎ (is_above q.id.package rest ≡ true))
over_cases repo rest q h =
    let r : Bool = bytes_eq q.id.repo repo in
    let root : Bool = bytes_eq q.id.package [] in
    let above : Bool = is_above q.id.package rest in (
      same_bytes q.id.repo repo (first_of_two r (root || above) h),
      elim (cases_Bool root) [
        | inl y ↦ inl (same_bytes q.id.package [] y)
        | inr n ↦ inr (sym (rw n refl) ∙ second_of_two r (root || above) h)
      ],
    )

-- none of the directories from a place on is a package
abbrev pub NoneFrom : List BuildFile → List ℕ → List ℕ → ℕ → Type 0
NoneFrom packages repo rest at = (k : ℕ) → at ≤ k → k < length rest → slice_index rest k ≡ 47 → package_named packages (package_at repo (take k rest)) ≡ None

none_above : (packages : List BuildFile) (repo rest : List ℕ) (at : ℕ) → NoneFrom packages repo rest at → (q : BuildFile) → Contains packages q → q.id.repo ≡ repo → is_above q.id.package rest ≡ true → length q.id.package < at
none_above packages repo rest at none q c r h = elim (cases_lt (length q.id.package) at) [
  | inl l ↦ l
  | inr g ↦ absurd (package_unknown packages (package_at repo (take (length q.id.package) rest)) (none (length q.id.package) g (above_length q.id.package rest h) (above_slash q.id.package rest h)) q c r (sym (above_front q.id.package rest h)))
]

over_from : (repo rest : List ℕ) (b : BuildFile) → b.id.repo ≡ repo → (bytes_eq b.id.package [] || is_above b.id.package rest) ≡ true → is_over repo rest b ≡ true
over_from repo rest b r h = both_true (bytes_eq b.id.repo repo) (bytes_eq b.id.package [] || is_above b.id.package rest) (equal_bytes b.id.repo repo r) h

or_right : (a b : Bool) → b ≡ true → (a || b) ≡ true
or_right true b h = refl
or_right false b h = h

or_left : (a b : Bool) → a ≡ true → (a || b) ≡ true
or_left true b h = refl
or_left false b h = absurd (false≢true h)

named_id : (b q : BuildFile) (repo path : List ℕ) → b.id.repo ≡ repo → b.id.package ≡ path → q.id.repo ≡ repo → q.id.package ≡ path → q.id ≡ b.id
named_id b q repo path rb pb rq pq = ap (λ (r : List ℕ). package_at r q.id.package) (rq ∙ sym rb) ∙ ap (λ (t : List ℕ). package_at b.id.repo t) (pq ∙ sym pb)

empty_is : (xs : List ℕ) → length xs ≡ 0 → xs ≡ []
empty_is [] e = refl
empty_is (x ∷ xs) e = absurd (omega arith)

-- the directory before a slash is a package, and none after it is
pub near_found : (packages : List BuildFile) (repo rest : List ℕ) (at : ℕ) (b : BuildFile) → IsStrictlySortedBy package_cmp packages → at < length rest → slice_index rest at ≡ 47 → NoneFrom packages repo rest (at + 1)
    → package_named packages (package_at repo (take at rest)) ≡ Some b → nearest_over packages repo rest ≡ Some b
unfolding nearest_over
near_found packages repo rest at b s l e none found =
    let k = package_known packages (package_at repo (take at rest)) b found in
    let size : length b.id.package ≡ at = ap length k.path ∙ length-take-le at rest (omega arith) in
    let above : is_above b.id.package rest ≡ true = subst (λ (t : List ℕ). is_above t rest ≡ true) (sym k.path) (above_take rest at l e) in
    let path_at : (q : BuildFile) → Contains packages q → is_over repo rest q ≡ true → length q.id.package ≡ at → q.id.package ≡ take at rest =
    λ q c h z. elim ((over_cases repo rest q h).1) [
      | inl root ↦ root ∙ sym (empty_is (take at rest) (length-take-le at rest (omega arith) ∙ omega (arith, z, ap length root)))
      | inr up ↦ sym (above_front q.id.package rest up) ∙ ap (λ (n : ℕ). take n rest) z
    ] in
    nearest_is (is_over repo rest) packages b k.known
    (over_from repo rest b k.repo (or_right (bytes_eq b.id.package []) (is_above b.id.package rest) above))
    (λ q c h. let f = over_cases repo rest q h in elim f.1 [
      | inl root ↦ omega (arith, ap length root)
      | inr up ↦ omega (arith, none_above packages repo rest (at + 1) none q c f.0 up)
    ])
    (λ q c h z. same_package packages s q b c k.known (named_id b q repo (take at rest) k.repo k.path ((over_cases repo rest q h).0) (path_at q c h (z ∙ size))))

-- no directory is a package but the root
pub near_root : (packages : List BuildFile) (repo rest : List ℕ) → IsStrictlySortedBy package_cmp packages → NoneFrom packages repo rest 0 → (v : Option BuildFile) → v ≡ package_named packages (package_at repo []) → v ≡ nearest_over packages repo rest
unfolding nearest_over
near_root packages repo rest s none None e =
    sym (nearest_none (is_over repo rest) packages (λ q c. elim (cases_Bool (is_over repo rest q)) [
      | inr n ↦ n
      | inl y ↦ let f = over_cases repo rest q y in elim f.1 [
        | inl root ↦ absurd (package_unknown packages (package_at repo []) (sym e) q c f.0 root)
        | inr up ↦ absurd (omega (arith, none_above packages repo rest 0 none q c f.0 up))
      ]
    ]))
near_root packages repo rest s none (Some b) e =
    let k = package_known packages (package_at repo []) b (sym e) in
    let root_of : (q : BuildFile) → Contains packages q → is_over repo rest q ≡ true → q.id.package ≡ [] =
    λ q c h. let f = over_cases repo rest q h in elim f.1 [
      | inl root ↦ root
      | inr up ↦ absurd (omega (arith, none_above packages repo rest 0 none q c f.0 up))
    ] in
    sym (nearest_is (is_over repo rest) packages b k.known
    (over_from repo rest b k.repo (or_left (bytes_eq b.id.package []) (is_above b.id.package rest) (equal_bytes b.id.package [] k.path)))
    (λ q c h. omega (arith, ap length (root_of q c h)))
    (λ q c h z. same_package packages s q b c k.known (named_id b q repo [] k.repo k.path ((over_cases repo rest q h).0) (root_of q c h))))

pub near_some : (packages : List BuildFile) (repo rest : List ℕ) (at : ℕ) (v : Option BuildFile) → IsStrictlySortedBy package_cmp packages → at < length rest → slice_index rest at ≡ 47 → NoneFrom packages repo rest (at + 1)
    → v ≡ package_named packages (package_at repo (take at rest)) → is_some v ≡ true → v ≡ nearest_over packages repo rest
near_some packages repo rest at None s l e none h t = absurd (false≢true t)
near_some packages repo rest at (Some b) s l e none h t = sym (near_found packages repo rest at b s l e none (sym h))

pub copied_some : {X : Type 0} (r : Option (Bor X)) → is_some (option_copied r) ≡ is_some r
copied_some None = refl
copied_some (Some b) = refl

-- ---- the owner in words

nearer_most : (x c : BuildFile) (v : Option BuildFile) → nearer x v ≡ Some c → (length x.id.package ≤ length c.id.package) × ((d : BuildFile) → v ≡ Some d → length d.id.package ≤ length c.id.package)
nearer_most x c None e =
    let is : x ≡ c = some_same e in
    (omega (arith, ap (λ (y : BuildFile). length y.id.package) is), λ d h. absurd (cc))
nearer_most x c (Some d) e = elim (cases_Bool (nat_lt (length x.id.package) (length d.id.package))) [
  | inl l ↦
      let is : d ≡ c = some_same (sym (rw l refl) ∙ e) in
      let size : length d.id.package ≡ length c.id.package = ap (λ (y : BuildFile). length y.id.package) is in
      let less : length x.id.package < length d.id.package = grind (arith, nat_tests) in
      (omega (arith, size, less), λ z h. let same : d ≡ z = some_same h in omega (arith, size, ap (λ (y : BuildFile). length y.id.package) same))
  | inr n ↦
      let is : x ≡ c = some_same (sym (rw n refl) ∙ e) in
      let size : length x.id.package ≡ length c.id.package = ap (λ (y : BuildFile). length y.id.package) is in
      let most : length d.id.package ≤ length x.id.package = grind (arith, nat_tests) in
      (omega (arith, size), λ z h. let same : d ≡ z = some_same h in omega (arith, size, most, ap (λ (y : BuildFile). length y.id.package) same))
]

module _ (p : BuildFile → Bool) where
  -- nothing passes where there is no nearest
  nearest_absent : (xs : List BuildFile) → nearest (filter p xs) ≡ None → (q : BuildFile) → Contains xs q → p q ≡ true → ⊥
  nearest_absent [] e q c h = none_in q c
  nearest_absent (x ∷ xs) e q c h = elim (cases_Bool (p x)) [
    | inl y ↦ never x (nearest (filter p xs)) (sym (rw y refl) ∙ e)
    | inr n ↦ elim (head_or_tail x xs q c) [
      | inl is ↦ false≢true (sym n ∙ (ap p is ∙ h))
      | inr d ↦ nearest_absent xs (sym (rw n refl) ∙ e) q d h
    ]
  ]
    where
      never : (x : BuildFile) (v : Option BuildFile) → nearer x v ≡ None → ⊥
      never x None e = absurd (cc)
      never x (Some d) e = elim (cases_Bool (nat_lt (length x.id.package) (length d.id.package))) [
        | inl l ↦ let some : Some d ≡ None = sym (rw l refl) ∙ e in absurd (cc)
        | inr n ↦ let some : Some x ≡ None = sym (rw n refl) ∙ e in absurd (cc)
      ]

  most_of : (x c : BuildFile) (xs : List BuildFile) (v : Option BuildFile) → nearest (filter p xs) ≡ v → nearer x v ≡ Some c → ((d : BuildFile) → v ≡ Some d → (q : BuildFile) → Contains xs q → p q ≡ true → length q.id.package ≤ length d.id.package)
      → (q : BuildFile) → Contains (x ∷ xs) q → p q ≡ true → length q.id.package ≤ length c.id.package
  most_of x c xs v n e up q i h = elim (head_or_tail x xs q i) [
    | inl is ↦ omega (arith, (nearer_most x c v e).0, ap (λ (y : BuildFile). length y.id.package) is)
    | inr d ↦ by_value v n ((nearer_most x c v e).1) up d
  ]
    where
      by_value : (u : Option BuildFile) → nearest (filter p xs) ≡ u → ((z : BuildFile) → u ≡ Some z → length z.id.package ≤ length c.id.package) → ((z : BuildFile) → u ≡ Some z → (q : BuildFile) → Contains xs q → p q ≡ true → length q.id.package ≤ length z.id.package) → Contains xs q → length q.id.package ≤ length c.id.package
      by_value None m low high d = absurd (nearest_absent xs m q d h)
      by_value (Some z) m low high d = omega (arith, low z refl, high z refl q d h)

  pub nearest_most : (xs : List BuildFile) (c : BuildFile) → nearest (filter p xs) ≡ Some c → (q : BuildFile) → Contains xs q → p q ≡ true → length q.id.package ≤ length c.id.package
  nearest_most [] c e q i h = absurd (none_in q i)
  nearest_most (x ∷ xs) c e q i h = elim (cases_Bool (p x)) [
    | inl y ↦ most_of x c xs (nearest (filter p xs)) refl (sym (rw y refl) ∙ e) (λ d m. nearest_most xs d m) q i h
    | inr n ↦ elim (head_or_tail x xs q i) [
      | inl is ↦ absurd (false≢true (sym n ∙ (ap p is ∙ h)))
      | inr d ↦ nearest_most xs c (sym (rw n refl) ∙ e) q d h
    ]
  ]

over_words : (repo rest : List ℕ) (q : BuildFile) → is_over repo rest q ≡ true → IsOver repo rest q
over_words repo rest q h =
    let f = over_cases repo rest q h in
    record {
      repo_is = f.0;
      above = elim f.1 [ inl root ↦ inl root | inr up ↦ inr (drop (length q.id.package + 1) rest, above_whole q.id.package rest up) ];
    }

words_over : (repo rest : List ℕ) (q : BuildFile) → IsOver repo rest q → is_over repo rest q ≡ true
words_over repo rest q h = over_from repo rest q h.repo_is (elim h.above [
  | inl root ↦ or_left (bytes_eq q.id.package []) (is_above q.id.package rest) (equal_bytes q.id.package [] root)
  | inr up ↦ or_right (bytes_eq q.id.package []) (is_above q.id.package rest) (subst (λ (t : List ℕ). is_above q.id.package t ≡ true) (sym up.1) (above_joined q.id.package up.0))
])

owner_words : (packages : List BuildFile) (repo rest : List ℕ) (v : Option BuildFile) → nearest (filter (is_over repo rest) packages) ≡ v → OwnerIs packages repo rest v
owner_words packages repo rest None e = λ q c h. nearest_absent (is_over repo rest) packages e q c (words_over repo rest q h)
owner_words packages repo rest (Some b) e =
    let f = nearest_in (is_over repo rest) packages b e in
    record {
      known = f.0;
      over = over_words repo rest b f.1;
      no_longer = λ q c h. nearest_most (is_over repo rest) packages b e q c (words_over repo rest q h);
    }

pub owner_is : (packages : List BuildFile) (repo rest : List ℕ) → OwnerIs packages repo rest (nearest_over packages repo rest)
unfolding nearest_over
owner_is packages repo rest = owner_words packages repo rest (nearest (filter (is_over repo rest) packages)) refl

-- a path in no repository has no owner, and any other has that of its path there
pub owner_at : (packages : List BuildFile) (path repo rest : List ℕ) → split_repository path ≡ Some (repo, rest) → OwnerIs packages repo rest (owner_of packages path)
unfolding owner_of
owner_at packages path repo rest h = rw h (owner_is packages repo rest)
