-- Where a text is cut at a byte, and what is after its last slash.
use Rattle.std.proofs.Common.{◌≡◌, ◌≢◌, ◌≤◌, ◌<◌, ◌-◌, ◌++◌, ◌==◌, ℕ, zero, suc, true, false, List, [], ◌∷◌, Option, Some, None, length, take, drop, slice_index, refl, sym, ap, subst, ◌∙◌, arith, take_all, length-drop, inl, inr}
use Rattle.std.proofs.lemmas.Bool.{cases_Bool}
use mathlib.Core.Bool.{false≢true}
use Rattle.std.proofs.lemmas.Bool.Decides.{nat_tests}
use Rattle.std.specs.List.{list_any}
use Rattle.std.specs.Option.{option_map}
use Rattle.bq_label.specs.Paths.{is_slash}
use Rattle.bq_label.specs.Label.{last_segment}
use Rattle.bq_label.specs.Reading.{split_once}

apart : (a b : ℕ) → a ≢ b → (a == b) ≡ false
apart a b n = grind (arith, nat_tests)

same : (a b : ℕ) → a ≡ b → (a == b) ≡ true
same a b e = grind (arith, nat_tests)

-- the first such byte
pub cut_here : (c : ℕ) (xs : List ℕ) (i : ℕ) → i < length xs → slice_index xs i ≡ c → ((k : ℕ) → k < i → slice_index xs k ≢ c) → split_once c xs ≡ Some (take i xs, drop (suc i) xs)
unfolding split_once
cut_here c [] i h p n = absurd (omega arith)
cut_here c (b ∷ bs) zero h p n = rw (same b c p) refl
cut_here c (b ∷ bs) (suc i) h p n =
    let other : (b == c) ≡ false = apart b c (n 0 (omega arith)) in
    rw (other, cut_here c bs i (omega arith) p (λ k l. n (suc k) (omega arith))) refl

-- no such byte
pub cut_nowhere : (c : ℕ) (xs : List ℕ) → ((k : ℕ) → k < length xs → slice_index xs k ≢ c) → split_once c xs ≡ None
unfolding split_once
cut_nowhere c [] n = refl
cut_nowhere c (b ∷ bs) n =
    let other : (b == c) ≡ false = apart b c (n 0 (omega arith)) in
    rw (other, cut_nowhere c bs (λ k l. n (suc k) (omega arith))) refl

-- a text without slash is its last segment
pub last_whole : (xs : List ℕ) → list_any is_slash xs ≡ false → last_segment xs ≡ xs
unfolding last_segment
last_whole [] h = refl
last_whole (b ∷ bs) h = rw h refl

-- after the last slash
pub last_behind : (xs : List ℕ) (i : ℕ) → i < length xs → slice_index xs i ≡ 47 → list_any is_slash (drop (suc i) xs) ≡ false → last_segment xs ≡ drop (suc i) xs
unfolding last_segment
last_behind [] i h e n = absurd (omega arith)
last_behind (b ∷ bs) zero h e n = rw (same b 47 e) (last_whole bs n)
last_behind (b ∷ bs) (suc i) h e n =
    let some : list_any is_slash bs ≡ true = any_at bs i (omega arith) e in
    elim (cases_Bool (is_slash b)) [
      | inl y ↦ rw y (last_behind bs i (omega arith) e n)
      | inr o ↦ rw (o, some) (last_behind bs i (omega arith) e n)
    ]
  where
    any_at : (xs : List ℕ) (i : ℕ) → i < length xs → slice_index xs i ≡ 47 → list_any is_slash xs ≡ true
    any_at [] i h e = absurd (omega arith)
    any_at (b ∷ bs) zero h e = rw (same b 47 e) refl
    any_at (b ∷ bs) (suc i) h e = elim (cases_Bool (is_slash b)) [
      | inl y ↦ rw y refl
      | inr o ↦ rw o (any_at bs i (omega arith) e)
    ]

pub rest_of : (text : List ℕ) (i : ℕ) → take (length text - i) (drop i text) ≡ drop i text
rest_of text i = take_all _ _ (omega (arith, length-drop i text))

-- where no slash stands from a place on, and either one stands right before it or it is the beginning
pub last_at : (xs : List ℕ) (at : ℕ) → 0 < at → at ≤ length xs → slice_index xs (at - 1) ≡ 47 → list_any is_slash (drop at xs) ≡ false → last_segment xs ≡ drop at xs
last_at xs zero l h e n = absurd (omega arith)
last_at xs (suc i) l h e n =
    let before : suc i - 1 ≡ i = omega arith in
    last_behind xs i (omega arith) (sym (ap (λ k. slice_index xs k) before) ∙ e) n

pub last_from : (xs : List ℕ) (at : ℕ) → at ≡ 0 → list_any is_slash (drop at xs) ≡ false → last_segment xs ≡ drop at xs
last_from xs zero e n = last_whole xs n
last_from xs (suc i) e n = absurd (omega arith)

-- the first such byte of joined texts
pub cut_joined : (c : ℕ) (xs ys : List ℕ) → list_any (λ b. b == c) xs ≡ false → split_once c (xs ++ c ∷ ys) ≡ Some (xs, ys)
unfolding split_once
cut_joined c [] ys n = rw (same c c refl) refl
cut_joined c (b ∷ bs) ys n = elim (cases_Bool (b == c)) [
  | inl y ↦ absurd (false≢true (sym n ∙ rw y refl))
  | inr o ↦ rw (o, cut_joined c bs ys (sym (rw o refl) ∙ n)) refl
]

-- a text without such a byte
pub cut_none : (c : ℕ) (xs : List ℕ) → list_any (λ b. b == c) xs ≡ false → split_once c xs ≡ None
unfolding split_once
cut_none c [] n = refl
cut_none c (b ∷ bs) n = elim (cases_Bool (b == c)) [
  | inl y ↦ absurd (false≢true (sym n ∙ rw y refl))
  | inr o ↦ rw (o, cut_none c bs (sym (rw o refl) ∙ n)) refl
]

put_first : (c b : ℕ) (bs : List ℕ) (v : Option (List ℕ × List ℕ)) → (q : List ℕ × List ℕ) → ((q' : List ℕ × List ℕ) → v ≡ Some q' → bs ≡ q'.0 ++ c ∷ q'.1) → option_map (λ p. (b ∷ p.0, p.1)) v ≡ Some q → b ∷ bs ≡ q.0 ++ c ∷ q.1
put_first c b bs None q ih e = cc
put_first c b bs (Some r) q ih e =
    let back : (b ∷ r.0, r.1) ≡ q = cc in
    subst (λ (t : List ℕ × List ℕ). b ∷ bs ≡ t.0 ++ c ∷ t.1) back (ap (λ t. b ∷ t) (ih r refl))

-- the two parts and the byte are the whole text
pub cut_whole : (c : ℕ) (xs : List ℕ) (q : List ℕ × List ℕ) → split_once c xs ≡ Some q → xs ≡ q.0 ++ c ∷ q.1
unfolding split_once
cut_whole c [] q e = cc
cut_whole c (b ∷ bs) q e = elim (cases_Bool (b == c)) [
  | inl y ↦
      let here : ([], bs) ≡ q = let e' : Some ([], bs) ≡ Some q = sym (rw y refl) ∙ e in cc in
      let is : b ≡ c = grind (arith, nat_tests) in
      subst (λ (t : List ℕ × List ℕ). b ∷ bs ≡ t.0 ++ c ∷ t.1) here (ap (λ t. t ∷ bs) is)
  | inr o ↦ put_first c b bs (split_once c bs) q (λ r h. cut_whole c bs r h) (sym (rw o refl) ∙ e)
]
