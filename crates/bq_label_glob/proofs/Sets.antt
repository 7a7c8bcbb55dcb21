-- Sets of patterns, and what is added to them.
use Rattle.std.proofs.Common.{◌≡◌, ◌+◌, ◌<◌, ◌≤◌, ◌++◌, length, drop, get_or, ◌||◌, ℕ, Bool, true, false, not, List, [], ◌∷◌, refl, sym, ap, ◌∙◌, inl, inr}
use Rattle.std.proofs.lemmas.Bool.{cases_Bool, false≢true}
use Rattle.std.proofs.lemmas.List.{drop_more, drop_all}
use Rattle.std.specs.Str.{bytes_eq}
use Rattle.std.specs.List.{list_any}
use Rattle.std.specs.Cmp.Lexicographic.{bytes_decides}
use Rattle.bq_base_texts.specs.NameSet.{has, with_name}
use Rattle.bq_label_glob.specs.Matching.{matches, is_star}
use Rattle.bq_label_glob.specs.PatternSet.{is_match}
use Rattle.bq_label_glob.proofs.Literals.{itself_alone}

or_false : (a : Bool) → a ≡ (a || false)
or_false true = refl
or_false false = refl

or_true : (a : Bool) → (a || true) ≡ true
or_true true = refl
or_true false = refl

assoc : (a b c : Bool) → (a || (b || c)) ≡ ((a || b) || c)
assoc true b c = refl
assoc false b c = refl

swap : (a b c : Bool) → ((a || c) || b) ≡ ((a || b) || c)
swap true b c = refl
swap false true true = refl
swap false true false = refl
swap false false true = refl
swap false false false = refl

module _ (f : List ℕ → Bool) (p : List ℕ) where
  pushed : (xs : List (List ℕ)) → list_any f (xs ++ p ∷ []) ≡ (list_any f xs || f p)
  pushed [] = sym (or_false (f p))
  pushed (x ∷ xs) = elim (cases_Bool (f x)) [
    | inl y ↦ rw y refl
    | inr n ↦ rw n (pushed xs)
  ]

  among : (xs : List (List ℕ)) → has xs p ≡ true → f p ≡ true → list_any f xs ≡ true
  among [] h t = absurd (false≢true h)
  among (x ∷ xs) h t = elim (cases_Bool (bytes_eq p x)) [
    | inl y ↦ let e : f x ≡ true = ap f (sym ((bytes_decides p x).0 y)) ∙ t in rw e refl
    | inr n ↦ elim (cases_Bool (f x)) [
      | inl y ↦ rw y refl
      | inr m ↦ rw m (among xs (sym (ap (λ (b : Bool). b || has xs p) n) ∙ h) t)
    ]
  ]

  -- a name that is added is one more
  pub any_with : (xs : List (List ℕ)) → list_any f (with_name xs p) ≡ (list_any f xs || f p)
  any_with xs = elim (cases_Bool (has xs p)) [
    | inl there ↦ rw there (elim (cases_Bool (f p)) [
      | inl t ↦ let e : list_any f xs ≡ true = among xs there t in rw (t, e) refl
      | inr n ↦ rw n (or_false (list_any f xs))
    ])
    | inr new ↦ rw new (pushed xs)
  ]

-- a pattern without a star matches as itself
equal_match : (p n : List ℕ) → list_any is_star p ≡ false → bytes_eq p n ≡ matches p n
equal_match p n plain = elim (cases_Bool (bytes_eq p n)) [
  | inl y ↦ y ∙ sym ((itself_alone p n plain).1 ((bytes_decides p n).0 y))
  | inr differ ↦ elim (cases_Bool (matches p n)) [
    | inl m ↦ absurd (false≢true (sym differ ∙ (bytes_decides p n).1 ((itself_alone p n plain).0 m)))
    | inr m ↦ differ ∙ sym m
  ]
]

bytes_swap : (a b : List ℕ) → bytes_eq a b ≡ bytes_eq b a
bytes_swap a b = elim (cases_Bool (bytes_eq a b)) [
  | inl y ↦ y ∙ sym ((bytes_decides b a).1 (sym ((bytes_decides a b).0 y)))
  | inr differ ↦ elim (cases_Bool (bytes_eq b a)) [
    | inl y ↦ absurd (false≢true (sym differ ∙ (bytes_decides a b).1 (sym ((bytes_decides b a).0 y))))
    | inr n ↦ differ ∙ sym n
  ]
]

plain_match : (p n : List ℕ) → list_any is_star p ≡ false → bytes_eq n p ≡ matches p n
plain_match p n plain = bytes_swap n p ∙ equal_match p n plain

pub plain_among : (p : List ℕ) (names : List (List ℕ)) → not (list_any is_star p) ≡ true → has names p ≡ list_any (matches p) names
plain_among p [] plain = refl
plain_among p (n ∷ ns) plain = ap (λ (b : Bool). b || has ns p) (equal_match p n (not_so (list_any is_star p) plain)) ∙ ap (λ (b : Bool). matches p n || b) (plain_among p ns plain)
  where
    not_so : (b : Bool) → not b ≡ true → b ≡ false
    not_so true h = sym h
    not_so false h = refl

pub starred_added : (plain starred after : List (List ℕ)) (p : List ℕ) → after ≡ with_name starred p → (n : List ℕ) → is_match (record { plain = plain; starred = after }) n ≡ (is_match (record { plain = plain; starred = starred }) n || matches p n)
starred_added plain starred after p e n =
    let f : List ℕ → Bool = λ q. matches q n in
    ap (λ (v : List (List ℕ)). has plain n || list_any f v) e
    ∙ (ap (λ (b : Bool). has plain n || b) (any_with f p starred) ∙ assoc (has plain n) (list_any f starred) (matches p n))

pub plain_added : (plain starred after : List (List ℕ)) (p : List ℕ) → list_any is_star p ≡ false → after ≡ with_name plain p → (n : List ℕ) → is_match (record { plain = after; starred = starred }) n ≡ (is_match (record { plain = plain; starred = starred }) n || matches p n)
plain_added plain starred after p single e n =
    let rest : Bool = list_any (λ q. matches q n) starred in
    ap (λ (v : List (List ℕ)). has v n || rest) e
    ∙ (ap (λ (b : Bool). b || rest) (any_with (bytes_eq n) p plain ∙ ap (λ (b : Bool). has plain n || b) (plain_match p n single)) ∙ swap (has plain n) rest (matches p n))

-- each of a list is added in turn
module _ (f : List ℕ → Bool) (xs : List (List ℕ)) (i : ℕ) where
  pub adds_next : (x : List ℕ) (old new : Bool) → i < length xs → x ≡ get_or xs i x → new ≡ (old || f x) → (old || list_any f (drop i xs)) ≡ list_any f xs → (new || list_any f (drop (i + 1) xs)) ≡ list_any f xs
  adds_next x old new l e h k =
      let rest : Bool = list_any f (drop (i + 1) xs) in
      ap (λ (b : Bool). b || rest) h ∙ (sym (assoc old (f x) rest) ∙ (sym (ap (λ (v : List (List ℕ)). old || list_any f v) (drop_more xs i x l ∙ ap (λ (y : List ℕ). y ∷ drop (i + 1) xs) (sym e))) ∙ k))

  pub all_added : (found : Bool) → length xs ≤ i → (found || list_any f (drop i xs)) ≡ list_any f xs → found ≡ list_any f xs
  all_added found l k = or_false found ∙ (sym (ap (λ (v : List (List ℕ)). found || list_any f v) (drop_all i xs l)) ∙ k)
