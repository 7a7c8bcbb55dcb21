-- Lists that are walked along, and lists of which no two elements are equal.
use Rattle.std.proofs.Common.{◌≡◌, ◌<◌, ◌+◌, ◌∙◌, ℕ, zero, suc, List, [], ◌∷◌, ◌++◌, length, take, get_or, set, sym, ap, subst, arith, append_assoc, append-nil}
use Rattle.std.proofs.lemmas.List.Elements.{All-cons}
use Rattle.std.specs.List.{All, AllByRecursion, flat_map, swap}
use Rattle.std.specs.List.Sorted.{IsPermutation, IsStrictlySortedBy}
use Rattle.std.specs.declared.cmp.Ordering.{Ordering}
use Rattle.std.specs.declared.cmp.Ordering.TheVariants.{Less}
use Rattle.std.proofs.lemmas.List.{take_more}
use Rattle.std.proofs.lemmas.List.Concat.{flat_map-append}
use Rattle.std.proofs.lemmas.List.Sorted.{IsPermutation-refl, IsPermutation-trans, IsPermutation-keeps, IsPermutation-append_left, IsPermutation-append_right, IsPermutation-append_comm}

pub next_taken : {X : Type 0} (xs : List X) (i : ℕ) (x : X) → i < length xs → x ≡ get_or xs i x → take (i + 1) xs ≡ take i xs ++ x ∷ []
next_taken {X} xs i x h e = take_more xs i x h ∙ ap (λ (z : X). take i xs ++ z ∷ []) (sym e)

-- ---- one step along a list of which each element gives a list

module _ {X Y : Type 0} (f : X → List Y) where
  given_more : (xs ys : List X) (es fs gs : List Y) → fs ≡ es ++ flat_map f xs → gs ≡ fs ++ flat_map f ys → gs ≡ es ++ flat_map f (xs ++ ys)
  given_more xs ys es fs gs a b =
      b ∙ (ap (λ (z : List Y). z ++ flat_map f ys) a ∙ (append_assoc es (flat_map f xs) (flat_map f ys) ∙ ap (λ (z : List Y). es ++ z) (sym (flat_map-append f xs ys))))

  pub given_next : (xs : List X) (i : ℕ) (x : X) (es fs gs : List Y) → i < length xs → x ≡ get_or xs i x → fs ≡ es ++ flat_map f (take i xs) → gs ≡ fs ++ f x → gs ≡ es ++ flat_map f (take (i + 1) xs)
  given_next xs i x es fs gs h e a b =
      given_more (take i xs) (x ∷ []) es fs gs a (b ∙ ap (λ (z : List Y). fs ++ z) (sym (append-nil (f x)))) ∙ ap (λ (z : List X). es ++ flat_map f z) (sym (next_taken xs i x h e))

  -- the same where the elements are in lists that others give
  pub given_each : {Z : Type 0} (named : Z → List X) (zs : List Z) (i : ℕ) (z : Z) (es fs gs : List Y) → i < length zs → z ≡ get_or zs i z
      → fs ≡ es ++ flat_map f (flat_map named (take i zs)) → gs ≡ fs ++ flat_map f (named z) → gs ≡ es ++ flat_map f (flat_map named (take (i + 1) zs))
  given_each {Z} named zs i z es fs gs h e a b =
      let last : flat_map named (take (i + 1) zs) ≡ flat_map named (take i zs) ++ named z =
      ap (flat_map named) (next_taken zs i z h e) ∙ (flat_map-append named (take i zs) (z ∷ []) ∙ ap (λ (n : List X). flat_map named (take i zs) ++ n) (append-nil (named z))) in
      given_more (flat_map named (take i zs)) (named z) es fs gs a b ∙ ap (λ (n : List X). es ++ flat_map f n) (sym last)

pub all_recursion-append : {X : Type 0} (P : X → Type 0) (xs ys : List X) → AllByRecursion P xs → AllByRecursion P ys → AllByRecursion P (xs ++ ys)
all_recursion-append P [] ys f g = g
all_recursion-append P (x ∷ xs) ys f g = (f.0, all_recursion-append P xs ys f.1 g)

pub parts_of : {X : Type 0} (P : X → Type 0) (xs ys : List X) → AllByRecursion P (xs ++ ys) → AllByRecursion P xs × AllByRecursion P ys
parts_of P [] ys f = (tt, f)
parts_of P (x ∷ xs) ys f = let rest = parts_of P xs ys f.1 in ((f.0, rest.0), rest.1)

pub both : {X : Type 0} (P Q : X → Type 0) (xs : List X) → AllByRecursion P xs → AllByRecursion Q xs → AllByRecursion (λ x. P x × Q x) xs
both P Q [] f g = tt
both P Q (x ∷ xs) f g = ((f.0, g.0), both P Q xs f.1 g.1)

pub strict-append : {X : Type 0} (c : X → X → Ordering) (xs ys : List X) → IsStrictlySortedBy c xs → IsStrictlySortedBy c ys → AllByRecursion (λ x. AllByRecursion (λ y. c x y ≡ Less) ys) xs → IsStrictlySortedBy c (xs ++ ys)
unfolding IsStrictlySortedBy
strict-append c [] ys f g a = g
strict-append c (x ∷ xs) ys f g a = (all_recursion-append (λ y. c x y ≡ Less) xs ys f.0 a.0, strict-append c xs ys f.1 g a.1)

-- ---- lists made of parts have the same elements in whatever order the parts are joined

-- a part moves over another
crossed : {X : Type 0} (a b c : List X) → IsPermutation (a ++ (b ++ c)) (b ++ (a ++ c))
crossed {X} a b c =
    subst (λ (z : List X). IsPermutation z (b ++ (a ++ c))) (append_assoc a b c)
    (subst (λ (z : List X). IsPermutation ((a ++ b) ++ c) z) (append_assoc b a c) (IsPermutation-append_left c (a ++ b) (b ++ a) (IsPermutation-append_comm a b)))

module _ {X Y : Type 0} (f : X → List Y) where
  pulled : (x : X) (l : List X) (j : ℕ) (d : X) → j < length l → IsPermutation (f x ++ flat_map f l) (f (get_or l j d) ++ flat_map f (set l j x))
  pulled x [] j d p = absurd (omega arith)
  pulled x (y ∷ l) zero d p = crossed (f x) (f y) (flat_map f l)
  pulled x (y ∷ l) (suc j) d p =
      IsPermutation-trans _ _ _ (crossed (f x) (f y) (flat_map f l))
      (IsPermutation-trans _ _ _ (IsPermutation-append_right (f y) _ _ (pulled x l j d (omega arith)))
      (crossed (f y) (f (get_or l j d)) (flat_map f (set l j x))))

  exchanged : (l : List X) (i j : ℕ) (d : X) → i < length l → j < length l → IsPermutation (flat_map f l) (flat_map f (set (set l i (get_or l j d)) j (get_or l i d)))
  exchanged [] i j d p q = absurd (omega arith)
  exchanged (y ∷ l) zero zero d p q = IsPermutation-refl (flat_map f (y ∷ l))
  exchanged (y ∷ l) zero (suc j) d p q = pulled y l j d (omega arith)
  exchanged (y ∷ l) (suc i) zero d p q = pulled y l i d (omega arith)
  exchanged (y ∷ l) (suc i) (suc j) d p q = IsPermutation-append_right (f y) _ _ (exchanged l i j d (omega arith) (omega arith))

  swapped : (l : List X) (i j : ℕ) → i < length l → j < length l → IsPermutation (flat_map f l) (flat_map f (swap l i j))
  swapped [] i j p q = absurd (omega arith)
  swapped (d ∷ l) i j p q = exchanged (d ∷ l) i j d p q

  pub permuted_parts : (xs ys : List X) → IsPermutation xs ys → IsPermutation (flat_map f xs) (flat_map f ys)
  permuted_parts xs ys s =
      IsPermutation-keeps xs (λ l. IsPermutation (flat_map f xs) (flat_map f l)) (IsPermutation-refl (flat_map f xs)) (λ l i j p q h. IsPermutation-trans _ _ _ h (swapped l i j p q)) ys s

-- ---- one step along a list that is moved out of

pub parts_next : {X Y : Type 0} (f : X → List Y) (all done now : List Y) (old rest : List X) (x : X) → old ≡ x ∷ rest → done ++ flat_map f old ≡ all → now ≡ done ++ f x → now ++ flat_map f rest ≡ all
parts_next {X} {Y} f all done now old rest x e h n =
    ap (λ (z : List Y). z ++ flat_map f rest) n ∙ (append_assoc done (f x) (flat_map f rest) ∙ (ap (λ (z : List X). done ++ flat_map f z) (sym e) ∙ h))

pub all_next : {X : Type 0} (P : X → Type 0) (all old rest : List X) (x : X) → old ≡ x ∷ rest → (All P old → All P all) → P x → All P rest → All P all
all_next {X} P all old rest x e f p q = f (subst (λ (z : List X). All P z) (sym e) (All-cons P x rest p q))
