-- What holds of the answers of the functions.
use Rattle.std.proofs.Common.{◌≡◌, ◌∙◌, refl, sym, ap, ℕ, zero, suc, ◌^◌, ◌<◌, ◌≤◌, min, ℤ, pos, negsuc, neg_ℤ, Bool, true, false, cond, ◌&&◌, ◌==◌, List, [], ◌∷◌, map, drop, length, get_or, slice_get, Option, Some, None, Result, Ok, Err, FitsSigned, arith}
use Rattle.std.specs.Prelude.{◌+ℤ◌, ◌≤ℤ◌, decimal}
use Rattle.std.specs.Int.{w64}
use Rattle.std.specs.Fmt.{signed_decimal}
use Rattle.std.specs.Cmp.{unsigned_Decides}
use Rattle.std.specs.Ordering.{int_cmp, is_lt}
use Rattle.std.specs.List.{best_of}
use Rattle.std.specs.Str.Parse.{without_leading_sign, signed_digits_value, digits_value}
use Rattle.std.proofs.lemmas.Int.{ints}
use Rattle.std.proofs.lemmas.Fmt.{decimal_nonempty, digits_decimal, digits_value-decimal}
use Rattle.std.proofs.lemmas.Str.Parse.{digit_at}
use Rattle.std.proofs.lemmas.List.{length-map}
use Rattle.std.proofs.lemmas.Bool.Decides.{nat_tests}
use Rattle.bq_base.specs.declared.fault.EvalFault.{EvalFault}
use Rattle.bq_base.specs.declared.fault.EvalFault.TheVariants.{BadValue, Args}
use Rattle.bq_builtin_strings.specs.Integer.{fitted}
use Rattle.bq_builtin_strings.proofs.Fits.{fitted_some}
use Rattle.bq_value.specs.Datum.{Datum, none, boolean, int, string, tuple, range, cell, function, built_in, rule_function, attribute, data_of, list_of}
use Rattle.bq_value.specs.Contents.{Contents, items, pairs, rule}
use Rattle.bq_value.specs.Range.{range_count}
use Rattle.bq_value.specs.Pairs.{keys}
use Rattle.bq_value.specs.Cells.{StoreView, content_at}
use Rattle.bq_builtin_machine.specs.Iteration.{elements_in, content_elements, range_integers}
use Rattle.bq_builtin_machine.specs.Args.{Passed}
use Rattle.bq_builtin_machine.proofs.Walking.{range_counted}
use Rattle.bq_builtin.specs.Arguments.{by_place}
use Rattle.bq_builtin.specs.Integers.{is_numeral, read_integer, length_in, content_length}
use Rattle.bq_builtin.specs.Choosing.{beats, extreme}
use Rattle.bq_builtin.specs.declared.choosing.ExtremeKind.{ExtremeKind}
use Rattle.bq_builtin.specs.declared.choosing.ExtremeKind.TheVariants.{Greatest, Least}
use Rattle.bq_builtin.specs.Sequences.{heads, rows, shortest, shortest_from, numbered, numbered_value}
use Rattle.bq_builtin.proofs.Numerals.{own}
use Rattle.bq_builtin.proofs.OfRanges.{extreme_of_ints}
use Rattle.bq_builtin.proofs.Cases.{without_names}

-- ---- lengths

the_ok : {A : Type 0} (a b : A) → ◌≡◌ {A = Result A EvalFault} (Ok a) (Ok b) → a ≡ b
the_ok a b h = cc

keys_length : (ps : List (Datum × Datum)) → length (keys ps) ≡ length ps
keys_length ps = length-map ps (λ p. p.0)

content_counts : (c : Option Contents) (xs : List Datum) (n : ℕ) → content_elements c ≡ Ok xs → content_length c ≡ Ok n → length xs ≡ n
content_counts (Some (items ys)) xs n e l = ap length (sym (the_ok ys xs e)) ∙ the_ok (length ys) n l
content_counts (Some (pairs ps)) xs n e l = ap length (sym (the_ok (keys ps) xs e)) ∙ (keys_length ps ∙ the_ok (length ps) n l)
content_counts (Some (rule class)) xs n e l = absurd (cc)
content_counts None xs n e l = absurd (cc)

pub counts : (s : StoreView) (v : Datum) (xs : List Datum) (n : ℕ) → elements_in s v ≡ Ok xs → length_in s v ≡ Ok n → length xs ≡ n
unfolding length_in
counts s (tuple ys) xs n e l = ap length (sym (the_ok (list_of ys) xs e)) ∙ the_ok (length (list_of ys)) n l
counts s (range a b c) xs n e l =
    ap length (sym (the_ok (map int (range_integers a b c)) xs e)) ∙ (length-map (range_integers a b c) int ∙ (range_counted a b c ∙ the_ok (range_count a b c) n l))
counts s (cell home number) xs n e l = content_counts (content_at s home number) xs n e l
counts s none xs n e l = absurd (cc)
counts s (boolean b) xs n e l = absurd (cc)
counts s (int i) xs n e l = absurd (cc)
counts s (string t) xs n e l = absurd (cc)
counts s (function home place name ds) xs n e l = absurd (cc)
counts s (built_in b) xs n e l = absurd (cc)
counts s (rule_function f) xs n e l = absurd (cc)
counts s (attribute a) xs n e l = absurd (cc)

-- ---- `zip`

pub rows_counted : (n : ℕ) (xss : List (List Datum)) → length (rows n xss) ≡ n
rows_counted zero xss = refl
rows_counted (suc n) xss = ap suc (rows_counted n (map (drop 1) xss))

drop_next : (k : ℕ) (xs : List Datum) → drop k (drop 1 xs) ≡ drop (suc k) xs
drop_next zero [] = refl
drop_next (suc k) [] = refl
drop_next k (x ∷ xs) = refl

dropped_next : (k : ℕ) (xss : List (List Datum)) → map (drop k) (map (drop 1) xss) ≡ map (drop (suc k)) xss
dropped_next k [] = refl
dropped_next k (xs ∷ xss) = ap (λ (ys : List Datum). ys ∷ map (drop k) (map (drop 1) xss)) (drop_next k xs) ∙ ap (λ (yss : List (List Datum)). drop (suc k) xs ∷ yss) (dropped_next k xss)

none_dropped : (xss : List (List Datum)) → map (drop 0) xss ≡ xss
none_dropped [] = refl
none_dropped (xs ∷ xss) = ap (λ (yss : List (List Datum)). xs ∷ yss) (none_dropped xss)

pub row_at : (n : ℕ) (xss : List (List Datum)) (k : ℕ) → k < n → slice_get (rows n xss) k ≡ Some (tuple (data_of (heads (map (drop k) xss))))
row_at zero xss k below = absurd (omega (arith, below))
row_at (suc n) xss zero below = ap (λ (yss : List (List Datum)). Some (tuple (data_of (heads yss)))) (sym (none_dropped xss))
row_at (suc n) xss (suc k) below = row_at n (map (drop 1) xss) k (omega (arith, below)) ∙ ap (λ (yss : List (List Datum)). Some (tuple (data_of (heads yss)))) (dropped_next k xss)

the_some : {A : Type 0} (a b : A) → Some a ≡ Some b → a ≡ b
the_some a b h = cc

shortest_within : (n : ℕ) (xss : List (List Datum)) → shortest_from n xss ≤ n
shortest_within n [] = omega arith
shortest_within n (xs ∷ xss) = let less = shortest_within (min n (length xs)) xss in omega (arith, less)

none_shorter_from : (n : ℕ) (xss : List (List Datum)) (k : ℕ) (xs : List Datum) → slice_get xss k ≡ Some xs → shortest_from n xss ≤ length xs
none_shorter_from n [] k xs e = absurd (cc)
none_shorter_from n (ys ∷ xss) zero xs e =
    let less = shortest_within (min n (length ys)) xss in
    omega (arith, less, ap length (the_some ys xs e))
none_shorter_from n (ys ∷ xss) (suc k) xs e = none_shorter_from (min n (length ys)) xss k xs e

pub none_shorter : (xss : List (List Datum)) (k : ℕ) (xs : List Datum) → slice_get xss k ≡ Some xs → shortest xss ≤ length xs
none_shorter [] k xs e = absurd (cc)
none_shorter (ys ∷ xss) zero xs e = let less = shortest_within (length ys) xss in omega (arith, less, ap length (the_some ys xs e))
none_shorter (ys ∷ xss) (suc k) xs e = none_shorter_from (length ys) xss k xs e

-- ---- `enumerate`

one_on : (start : ℤ) (k : ℕ) → (start +ℤ pos 1) +ℤ pos k ≡ start +ℤ pos (suc k)
one_on start k = omega (arith, ints)

none_on : (start : ℤ) → start ≡ start +ℤ pos 0
none_on start = omega (arith, ints)

pub numbered_at : (start : ℤ) (xs : List Datum) (k : ℕ) (x : Datum) → slice_get xs k ≡ Some x → slice_get (numbered start xs) k ≡ Some (numbered_value (start +ℤ pos k) x)
numbered_at start [] k x e = absurd (cc)
numbered_at start (y ∷ ys) zero x e = ap (λ (v : Datum). Some (numbered_value start v)) (the_some y x e) ∙ ap (λ (z : ℤ). Some (numbered_value z x)) (none_on start)
numbered_at start (y ∷ ys) (suc k) x e = numbered_at (start +ℤ pos 1) ys k x e ∙ ap (λ (z : ℤ). Some (numbered_value z x)) (one_on start k)

-- ---- `max`, `min`

by_lt : (a b : ℤ) → is_lt (int_cmp a b) ≡ true → a ≤ℤ b
by_lt a b h = grind (arith, ints)

by_not_lt : (a b : ℤ) → is_lt (int_cmp a b) ≡ false → b ≤ℤ a
by_not_lt a b h = grind (arith, ints)

up_by : (c : Bool) (b j : ℤ) → is_lt (int_cmp b j) ≡ c → (b ≤ℤ cond c j b) × (j ≤ℤ cond c j b)
up_by true b j e = (by_lt b j e, omega (arith, ints))
up_by false b j e = (omega (arith, ints), by_not_lt b j e)

down_by : (c : Bool) (b j : ℤ) → is_lt (int_cmp j b) ≡ c → (cond c j b ≤ℤ b) × (cond c j b ≤ℤ j)
down_by true b j e = (by_lt j b e, omega (arith, ints))
down_by false b j e = (omega (arith, ints), by_not_lt j b e)

up_from : (b : ℤ) (is : List ℤ) → b ≤ℤ best_of (beats Greatest int_cmp) b is
up_from b [] = omega (arith, ints)
up_from b (j ∷ is) =
    let next : ℤ = cond (is_lt (int_cmp b j)) j b in
    let here : b ≤ℤ next = (up_by (is_lt (int_cmp b j)) b j refl).0 in
    let rest = up_from next is in
    omega (arith, ints, here, rest)

down_from : (b : ℤ) (is : List ℤ) → best_of (beats Least int_cmp) b is ≤ℤ b
down_from b [] = omega (arith, ints)
down_from b (j ∷ is) =
    let next : ℤ = cond (is_lt (int_cmp j b)) j b in
    let here : next ≤ℤ b = (down_by (is_lt (int_cmp j b)) b j refl).0 in
    let rest = down_from next is in
    omega (arith, ints, here, rest)

up_at : (b : ℤ) (is : List ℤ) (k : ℕ) (i : ℤ) → slice_get is k ≡ Some i → i ≤ℤ best_of (beats Greatest int_cmp) b is
up_at b [] k i e = absurd (cc)
up_at b (j ∷ is) zero i e =
    let next : ℤ = cond (is_lt (int_cmp b j)) j b in
    let here : j ≤ℤ next = (up_by (is_lt (int_cmp b j)) b j refl).1 in
    let rest = up_from next is in
    omega (arith, ints, here, rest, the_some j i e)
up_at b (j ∷ is) (suc k) i e = up_at (cond (is_lt (int_cmp b j)) j b) is k i e

down_at : (b : ℤ) (is : List ℤ) (k : ℕ) (i : ℤ) → slice_get is k ≡ Some i → best_of (beats Least int_cmp) b is ≤ℤ i
down_at b [] k i e = absurd (cc)
down_at b (j ∷ is) zero i e =
    let next : ℤ = cond (is_lt (int_cmp j b)) j b in
    let here : next ≤ℤ j = (down_by (is_lt (int_cmp j b)) b j refl).1 in
    let rest = down_from next is in
    omega (arith, ints, here, rest, the_some j i e)
down_at b (j ∷ is) (suc k) i e = down_at (cond (is_lt (int_cmp j b)) j b) is k i e

the_int : (a b : ℤ) → ◌≡◌ {A = Result Datum EvalFault} (Ok (int a)) (Ok (int b)) → a ≡ b
the_int a b h = cc

no_extreme : (e : ExtremeKind) (m : Datum) → extreme e [] ≡ Ok m → ⊥
unfolding extreme
no_extreme e m h = absurd (cc)

pub none_greater : (is : List ℤ) (m : ℤ) → extreme Greatest (map int is) ≡ Ok (int m) → (k : ℕ) (i : ℤ) → slice_get is k ≡ Some i → i ≤ℤ m
none_greater [] m h k i e = absurd (no_extreme Greatest (int m) h)
none_greater (j ∷ is) m h zero i e =
    let best : best_of (beats Greatest int_cmp) j is ≡ m = the_int (best_of (beats Greatest int_cmp) j is) m (sym (extreme_of_ints Greatest j is) ∙ h) in
    let all = up_from j is in
    omega (arith, ints, all, best, the_some j i e)
none_greater (j ∷ is) m h (suc k) i e =
    let best : best_of (beats Greatest int_cmp) j is ≡ m = the_int (best_of (beats Greatest int_cmp) j is) m (sym (extreme_of_ints Greatest j is) ∙ h) in
    let all = up_at j is k i e in
    omega (arith, ints, all, best)

pub none_smaller : (is : List ℤ) (m : ℤ) → extreme Least (map int is) ≡ Ok (int m) → (k : ℕ) (i : ℤ) → slice_get is k ≡ Some i → m ≤ℤ i
none_smaller [] m h k i e = absurd (no_extreme Least (int m) h)
none_smaller (j ∷ is) m h zero i e =
    let best : best_of (beats Least int_cmp) j is ≡ m = the_int (best_of (beats Least int_cmp) j is) m (sym (extreme_of_ints Least j is) ∙ h) in
    let all = down_from j is in
    omega (arith, ints, all, best, the_some j i e)
none_smaller (j ∷ is) m h (suc k) i e =
    let best : best_of (beats Least int_cmp) j is ≡ m = the_int (best_of (beats Least int_cmp) j is) m (sym (extreme_of_ints Least j is) ∙ h) in
    let all = down_at j is k i e in
    omega (arith, ints, all, best)

-- ---- `int`

unsigned_by : (bs : List ℕ) (m p : Bool) → (get_or bs 0 0 == 45) ≡ m → (get_or bs 0 0 == 43) ≡ p → (get_or bs 0 0 ≡ 45 → ⊥) → (get_or bs 0 0 ≡ 43 → ⊥) → (m ≡ false) × (p ≡ false)
unsigned_by bs true p e f g h = absurd (g ((unsigned_Decides (get_or bs 0 0) 45).0 e))
unsigned_by bs false true e f g h = absurd (h ((unsigned_Decides (get_or bs 0 0) 43).0 f))
unsigned_by bs false false e f g h = (refl, refl)

-- digits have no sign
unsigned : (bs : List ℕ) → 48 ≤ get_or bs 0 0 → ((get_or bs 0 0 == 45) ≡ false) × ((get_or bs 0 0 == 43) ≡ false)
unsigned bs h = unsigned_by bs (get_or bs 0 0 == 45) (get_or bs 0 0 == 43) refl refl (λ e. omega (arith, h, e)) (λ e. omega (arith, h, e))

plain : (bs : List ℕ) → 48 ≤ get_or bs 0 0 → without_leading_sign bs ≡ bs
plain bs h =
    let no = unsigned bs h in
    ap (λ (m : Bool). cond m (drop 1 bs) (drop (cond (get_or bs 0 0 == 43) 1 0) bs)) no.0 ∙ ap (λ (p : Bool). drop (cond p 1 0) bs) no.1

plain_value : (bs : List ℕ) → 48 ≤ get_or bs 0 0 → signed_digits_value 10 bs ≡ pos (digits_value 10 bs)
plain_value bs h =
    ap (λ (ds : List ℕ). cond (get_or bs 0 0 == 45) (neg_ℤ (pos (digits_value 10 ds))) (pos (digits_value 10 ds))) (plain bs h)
    ∙ ap (λ (m : Bool). cond m (neg_ℤ (pos (digits_value 10 bs))) (pos (digits_value 10 bs))) ((unsigned bs h).0)

and_both : (a b : Bool) → a ≡ true → b ≡ true → (a && b) ≡ true
and_both a b h k = ap (λ (c : Bool). c && b) h ∙ k

decimal_numeral : (n : ℕ) → n < 2 ^ 64 → is_numeral (decimal n) ≡ true
decimal_numeral n h =
    let some : 0 < length (decimal n) = decimal_nonempty n h in
    and_both _ _ (grind (arith, nat_tests, some)) (digits_decimal own n h)

first_digit : (n : ℕ) → n < 2 ^ 64 → 48 ≤ get_or (decimal n) 0 0
first_digit n h = (digit_at (decimal n) 0 (own.to (decimal n) (digits_decimal own n h)) (decimal_nonempty n h)).0

reads : (text : List ℕ) (z : ℤ) → is_numeral (without_leading_sign text) ≡ true → signed_digits_value 10 text ≡ z → FitsSigned w64 z → read_integer text ≡ Ok z
unfolding read_integer
reads text z n v f =
    ap (λ (b : Bool). cond {A = Result ℤ EvalFault} b (fitted (signed_digits_value 10 text)) (Err BadValue)) n ∙ (ap fitted v ∙ fitted_some z f)

pub reads_back : (i : ℤ) → FitsSigned w64 i → read_integer (signed_decimal i) ≡ Ok i
reads_back (pos n) f =
    let small : n < 2 ^ 63 = f.sfits in
    let fits : n < 2 ^ 64 = omega (arith, small) in
    let digit = first_digit n fits in
    reads (decimal n) (pos n) (ap is_numeral (plain (decimal n) digit) ∙ decimal_numeral n fits) (plain_value (decimal n) digit ∙ ap pos (digits_value-decimal own n fits)) f
reads_back (negsuc n) f =
    let small : n < 2 ^ 63 = f.sfits in
    let fits : suc n < 2 ^ 64 = omega (arith, small) in
    reads (45 ∷ decimal (suc n)) (negsuc n) (decimal_numeral (suc n) fits) (ap (λ (d : ℕ). neg_ℤ (pos d)) (digits_value-decimal own (suc n) fits)) f

-- ---- arguments

pub names_refused : (p : Passed) (name : List ℕ) (v : Datum) (named : List (List ℕ × Datum)) → p.named ≡ (name, v) ∷ named → by_place p ≡ Err Args
unfolding by_place
names_refused p name v named e = ap (λ (n : List (List ℕ × Datum)). without_names n p.positional) e
