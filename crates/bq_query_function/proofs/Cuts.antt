-- How texts are ordered: what their fronts decide, and which of them begin alike.
use Rattle.std.proofs.Common.{◌≡◌, ◌≢◌, ◌∙◌, ◌+◌, ℕ, Bool, true, false, List, [], ◌∷◌, ◌++◌, length, take, drop, refl, sym, ap, arith}
use Rattle.std.specs.Prelude.{◌&&◌, not, nat_eq}
use Rattle.std.proofs.lemmas.Bool.{false≢true}
use Rattle.std.proofs.lemmas.Bool.Decides.{nat_tests}
use Rattle.std.proofs.lemmas.List.{take-append-drop}
use Rattle.std.specs.List.{starts_with}
use Rattle.std.specs.Ordering.{nat_cmp, ordering_then, is_lt}
use Rattle.std.specs.Cmp.Lexicographic.{slice_cmp, pointwise, same_text}
use Rattle.std.specs.declared.cmp.Ordering.{Ordering}
use Rattle.std.specs.declared.cmp.Ordering.TheVariants.{Less, Equal, Greater}
use Rattle.std.proofs.lemmas.Cmp.{nat_cmp_total, tied_itself}
use Rattle.bq_query_function.specs.Order.{is_below}

-- ---- fronts

stays : (a b c : Ordering) → a ≢ Equal → ordering_then a b ≡ ordering_then a c
stays Less b c n = refl
stays Equal b c n = absurd (n refl)
stays Greater b c n = refl

is_tied : (x y : ℕ) → nat_cmp x y ≡ Equal → x ≡ y
is_tied x y h = grind (arith, nat_tests)

not_tied : (x y : ℕ) → nat_eq x y ≡ false → nat_cmp x y ≢ Equal
not_tied x y h e = let same : x ≡ y = is_tied x y e in let test : nat_eq x y ≡ true = grind (arith, nat_tests) in false≢true (sym h ∙ test)

-- equal fronts decide nothing
pub front_alike : (part m rest : List ℕ) → slice_cmp nat_cmp (part ++ m) (part ++ rest) ≡ slice_cmp nat_cmp m rest
front_alike [] m rest = refl
front_alike (x ∷ xs) m rest = ap (λ o. ordering_then o (slice_cmp nat_cmp (xs ++ m) (xs ++ rest))) (tied_itself nat_cmp_total x) ∙ front_alike xs m rest

-- a text that begins with the part
pub front_cut : (part m text : List ℕ) → starts_with nat_eq text part ≡ true → slice_cmp nat_cmp (part ++ m) text ≡ slice_cmp nat_cmp m (drop (length part) text)
front_cut part m text h =
    let front : part ≡ take (length part) text = same_text part (take (length part) text) (sym h) in
    let whole : part ++ drop (length part) text ≡ text = ap (λ f. f ++ drop (length part) text) front ∙ take-append-drop (length part) text in
    ap (slice_cmp nat_cmp (part ++ m)) (sym whole) ∙ front_alike part m (drop (length part) text)

other_by : (b : Bool) (o s t : Ordering) (p : Bool) → (b && p) ≡ false → (p ≡ false → s ≡ t) → (b ≡ false → o ≢ Equal) → ordering_then o s ≡ ordering_then o t
other_by true o s t p h same apart = ap (ordering_then o) (same h)
other_by false o s t p h same apart = stays o s t (apart refl)

-- a text that doesn't
pub front_other : (part m text : List ℕ) → starts_with nat_eq text part ≡ false → slice_cmp nat_cmp (part ++ m) text ≡ slice_cmp nat_cmp part text
front_other [] m text h = absurd (false≢true (sym h))
front_other (x ∷ xs) m [] h = refl
front_other (x ∷ xs) m (y ∷ ys) h =
    other_by (nat_eq x y) (nat_cmp x y) (slice_cmp nat_cmp (xs ++ m) ys) (slice_cmp nat_cmp xs ys) (pointwise nat_eq xs (take (length xs) ys)) h (front_other xs m ys) (not_tied x y)

-- ---- texts that begin alike stand together

-- no text is below the empty one
none_below : (xs : List ℕ) → is_lt (slice_cmp nat_cmp xs []) ≡ false
none_below [] = refl
none_below (x ∷ xs) = refl

last_by : (x c : ℕ) (o : Ordering) → is_lt o ≡ false → (nat_eq c x && true) ≡ (not (is_lt (ordering_then (nat_cmp x c) o)) && is_lt (ordering_then (nat_cmp x (c + 1)) o))
last_by x c Less h = absurd (false≢true (sym h))
last_by x c Equal h = grind (arith, nat_tests)
last_by x c Greater h = grind (arith, nat_tests)

first_by : (x a : ℕ) (s : Bool) (o p : Ordering) → s ≡ (not (is_lt o) && is_lt p)
    → (nat_eq a x && s) ≡ (not (is_lt (ordering_then (nat_cmp x a) o)) && is_lt (ordering_then (nat_cmp x a) p))
first_by x a s o p h = grind (arith, nat_tests, h)

-- a text begins with these bytes where it is not below them, and below those with the last one more
pub begins_between : (start : List ℕ) (c : ℕ) (text : List ℕ)
    → starts_with nat_eq text (start ++ c ∷ []) ≡ (not (is_below text (start ++ c ∷ [])) && is_below text (start ++ (c + 1) ∷ []))
begins_between [] c [] = refl
begins_between [] c (x ∷ xs) = last_by x c (slice_cmp nat_cmp xs []) (none_below xs)
begins_between (a ∷ start) c [] = refl
begins_between (a ∷ start) c (x ∷ xs) =
    first_by x a (starts_with nat_eq xs (start ++ c ∷ [])) (slice_cmp nat_cmp xs (start ++ c ∷ [])) (slice_cmp nat_cmp xs (start ++ (c + 1) ∷ [])) (begins_between start c xs)
