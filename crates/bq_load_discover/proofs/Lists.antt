-- Lists that a function gives the elements of.
use Rattle.std.proofs.Common.{◌≡◌, ◌∙◌, ◌<◌, ◌+◌, ◌⊎◌, ℕ, List, [], ◌∷◌, ◌++◌, Option, None, Some, length, take, get_or, slice_get, sym, ap, subst, inl, inr, arith}
use Rattle.std.specs.List.{Contains, filter_map, cons_option}
use Rattle.std.proofs.lemmas.List.{take_more}
use Rattle.std.proofs.lemmas.Option.{slice_get-get_or}
use Rattle.bq_label.proofs.Orders.{at_head, in_tail, head_or_tail}

pub none_in : {X : Type 0} (z : X) → Contains [] z → ⊥
none_in z c = omega arith

pub next_taken : {X : Type 0} (xs : List X) (i : ℕ) (x : X) → i < length xs → x ≡ get_or xs i x → take (i + 1) xs ≡ take i xs ++ x ∷ []
next_taken {X} xs i x h e = take_more xs i x h ∙ ap (λ (z : X). take i xs ++ z ∷ []) (sym e)

pub record IsGiven {X Y : Type 0} (f : X → Option Y) (xs : List X) (y : Y) : Type 0 where
  pub by : X
  pub known : Contains xs by
  pub gives : f by ≡ Some y

one_or_rest : {Y : Type 0} (o : Option Y) (ys : List Y) (y : Y) → Contains (cons_option o ys) y → (o ≡ Some y) ⊎ Contains ys y
one_or_rest None ys y c = inr c
one_or_rest (Some x) ys y c = elim (head_or_tail x ys y c) [
  | inl e ↦ inl (ap (λ z. Some z) e)
  | inr d ↦ inr d
]

pub in_filter_map : {X Y : Type 0} (f : X → Option Y) (xs : List X) (y : Y) → Contains (filter_map f xs) y → IsGiven f xs y
in_filter_map f [] y c = absurd (none_in y c)
in_filter_map f (x ∷ xs) y c = elim (one_or_rest (f x) (filter_map f xs) y c) [
  | inl e ↦ record { by = x; known = at_head x xs; gives = e }
  | inr d ↦ let r = in_filter_map f xs y d in record { by = r.by; known = in_tail x xs r.by r.known; gives = r.gives }
]

rest_in : {Y : Type 0} (o : Option Y) (ys : List Y) (y : Y) → Contains ys y → Contains (cons_option o ys) y
rest_in None ys y c = c
rest_in (Some x) ys y c = in_tail x ys y c

one_in : {Y : Type 0} (o : Option Y) (ys : List Y) (y : Y) → o ≡ Some y → Contains (cons_option o ys) y
one_in {Y} o ys y e = subst (λ (z : Option Y). Contains (cons_option z ys) y) (sym e) (at_head y ys)

pub filter_map_in : {X Y : Type 0} (f : X → Option Y) (xs : List X) (x : X) (y : Y) → Contains xs x → f x ≡ Some y → Contains (filter_map f xs) y
filter_map_in f [] x y c e = absurd (none_in x c)
filter_map_in {X} {Y} f (z ∷ xs) x y c e = elim (head_or_tail z xs x c) [
  | inl same ↦ one_in (f z) (filter_map f xs) y (ap f same ∙ e)
  | inr d ↦ rest_in (f z) (filter_map f xs) y (filter_map_in f xs x y d e)
]

-- the place of an element
pub place_of : {X : Type 0} (xs : List X) (x : X) → Contains xs x → (n : ℕ) × (slice_get xs n ≡ Some x)
place_of xs x c = (c.0, slice_get-get_or xs c.0 x c.1 ∙ ap (λ z. Some z) c.2)
