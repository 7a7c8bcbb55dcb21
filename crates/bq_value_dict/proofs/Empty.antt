-- Where the places are that are empty.
use Rattle.std.proofs.Common.{◌≡◌, ◌∙◌, ap, sym, refl, cond, ℕ, zero, suc, ◌+◌, ◌<◌, ◌≤◌, arith, Bool, true, false, List, [], ◌∷◌, Option, Some, None, is_some, length, filter, get_or}
use Rattle.std.specs.List.{insert}
use Rattle.std.specs.Map.{lookup}
use Rattle.std.proofs.lemmas.Bool.{lt-ltb, le-ltb}
use Rattle.indexmap.specs.IndexMap.{insert_entry, set_value_at}
use Rattle.bq_value_datum.specs.Datum.{Datum}
use Rattle.bq_value_datum.specs.Same.{same}
use Rattle.bq_value_dict.specs.Places.{Places, live, empty_from, is_empty, Rises, passed, with_index}
use Rattle.bq_value_dict.proofs.Live.{first, place_at, is_there}

pub length_live : (n : ℕ) (ps : Places) → length (live ps) + length (empty_from n ps) ≡ length ps
length_live n [] = refl
length_live n ((k, Some v) ∷ ps) = omega (arith, length_live (suc n) ps)
length_live n ((k, None) ∷ ps) = omega (arith, length_live (suc n) ps)

rises_from : (n m : ℕ) (is : List ℕ) → n ≤ m → Rises m is → Rises n is
rises_from n m [] h r = tt
rises_from n m (i ∷ is) h r = (omega (arith, h, r.0), r.1)

pub rises : (n : ℕ) (ps : Places) → Rises n (empty_from n ps)
rises n [] = tt
rises n ((k, Some v) ∷ ps) = rises_from n (suc n) (empty_from (suc n) ps) (omega arith) (rises (suc n) ps)
rises n ((k, None) ∷ ps) = (omega arith, rises (suc n) ps)

-- ---- the place of the pair at an index

passed_first : (at : ℕ) (is : List ℕ) → Rises (suc at) is → passed at is ≡ at
passed_first at [] r = refl
passed_first at (i ∷ is) r = ap (λ b. cond b at (passed (suc at) is)) (lt-ltb at i (omega (arith, r.0)))

pub passed_place : (n i : ℕ) (ps : Places) → passed (n + i) (empty_from n ps) ≡ n + place_at ps i
passed_place n i [] = refl
passed_place n zero ((k, Some v) ∷ ps) =
    let same_index : n + 0 ≡ n = omega arith in
    ap (λ m. passed m (empty_from (suc n) ps)) same_index ∙ (passed_first n (empty_from (suc n) ps) (rises (suc n) ps) ∙ sym same_index)
passed_place n (suc i) ((k, Some v) ∷ ps) =
    let sum : n + suc i ≡ suc n + i = omega arith in
    let back : suc n + place_at ps i ≡ n + suc (place_at ps i) = omega arith in
    ap (λ m. passed m (empty_from (suc n) ps)) sum ∙ (passed_place (suc n) i ps ∙ back)
passed_place n i ((k, None) ∷ ps) =
    let sum : suc (n + i) ≡ suc n + i = omega arith in
    let back : suc n + place_at ps i ≡ n + suc (place_at ps i) = omega arith in
    ap (λ b. cond b (n + i) (passed (suc (n + i)) (empty_from (suc n) ps))) (le-ltb (n + i) n (omega arith))
    ∙ (ap (λ m. passed m (empty_from (suc n) ps)) sum ∙ (passed_place (suc n) i ps ∙ back))

-- they rise by one at least
spaced : (m : ℕ) (is : List ℕ) (h : ℕ) → Rises m is → h < length is → m + h ≤ get_or is h 0
spaced m [] h r within = absurd (omega (arith, within))
spaced m (i ∷ is) zero r within = omega (arith, r.0)
spaced m (i ∷ is) (suc h) r within = omega (arith, r.0, spaced (suc i) is h r.1 (omega (arith, within)))

-- so a search finds how many to pass
pub passed_at : (m at : ℕ) (is : List ℕ) (h : ℕ) → Rises m is → h ≤ length is → ((j : ℕ) → suc j ≡ h → get_or is j 0 ≤ at + j) → (h < length is → at + h < get_or is h 0)
    → passed at is ≡ at + h
passed_at m at [] h r within before after = omega (arith, within)
passed_at m at (i ∷ is) zero r within before after =
    let less : at < i = omega (arith, after (omega arith)) in
    ap (λ b. cond b at (passed (suc at) is)) (lt-ltb at i less) ∙ omega arith
passed_at m at (i ∷ is) (suc h) r within before after =
    let low : get_or (i ∷ is) h 0 ≤ at + h = before h refl in
    let high : i + h ≤ get_or (i ∷ is) h 0 = spaced i (i ∷ is) h (omega arith, r.1) (omega (arith, within)) in
    let sum : suc at + h ≡ at + suc h = omega arith in
    ap (λ b. cond b at (passed (suc at) is)) (le-ltb at i (omega (arith, low, high)))
    ∙ (passed_at (suc i) (suc at) is h r.1 (omega (arith, within)) (λ j e. omega (arith, before (suc j) (ap suc e))) (λ less. omega (arith, after (omega (arith, less)))) ∙ sum)

-- ---- a place becomes empty

with_first : (at : ℕ) (is : List ℕ) → Rises (suc at) is → with_index at is ≡ at ∷ is
with_first at [] r = refl
with_first at (i ∷ is) r = ap (λ b. cond b (at ∷ i ∷ is) (i ∷ with_index at is)) (lt-ltb at i (omega (arith, r.0)))

with_later : (n s : ℕ) (is : List ℕ) → with_index (n + suc s) (n ∷ is) ≡ n ∷ with_index (suc n + s) is
with_later n s is =
    let sum : n + suc s ≡ suc n + s = omega arith in
    ap (λ b. cond b ((n + suc s) ∷ n ∷ is) (n ∷ with_index (n + suc s) is)) (le-ltb (n + suc s) n (omega arith)) ∙ ap (λ m. n ∷ with_index m is) sum

left_some : (n : ℕ) (k j w : Datum) (ps : Places) (o : Option Datum) (b : Bool) → cond b (Some (Some w)) (lookup (same k) ps) ≡ Some o
    → (lookup (same k) ps ≡ Some o → empty_from (suc n) (set_value_at ps (first k ps) None) ≡ with_index (suc n + first k ps) (empty_from (suc n) ps))
    → empty_from n (set_value_at ((j, Some w) ∷ ps) (cond b 0 (suc (first k ps))) None) ≡ with_index (n + cond b 0 (suc (first k ps))) (empty_from (suc n) ps)
left_some n k j w ps o true h more =
    let same_index : n + 0 ≡ n = omega arith in
    sym (ap (λ m. with_index m (empty_from (suc n) ps)) same_index ∙ with_first n (empty_from (suc n) ps) (rises (suc n) ps))
left_some n k j w ps o false h more =
    let sum : suc n + first k ps ≡ n + suc (first k ps) = omega arith in
    more h ∙ ap (λ m. with_index m (empty_from (suc n) ps)) sum

left_none : (n : ℕ) (k j : Datum) (ps : Places) (o : Option Datum) (b : Bool) → cond b (Some None) (lookup (same k) ps) ≡ Some o → is_some o ≡ true
    → (lookup (same k) ps ≡ Some o → empty_from (suc n) (set_value_at ps (first k ps) None) ≡ with_index (suc n + first k ps) (empty_from (suc n) ps))
    → empty_from n (set_value_at ((j, None) ∷ ps) (cond b 0 (suc (first k ps))) None) ≡ with_index (n + cond b 0 (suc (first k ps))) (n ∷ empty_from (suc n) ps)
left_none n k j ps None b h there more = absurd (cc)
left_none n k j ps (Some v) true h there more = absurd (cc)
left_none n k j ps (Some v) false h there more = ap (λ r. n ∷ r) (more h) ∙ sym (with_later n (first k ps) (empty_from (suc n) ps))

-- the place of a key that is taken out is one more
pub left_empty : (n : ℕ) (k : Datum) (ps : Places) (o : Option Datum) → lookup (same k) ps ≡ Some o → is_some o ≡ true
    → empty_from n (set_value_at ps (first k ps) None) ≡ with_index (n + first k ps) (empty_from n ps)
left_empty n k [] o h there = absurd (cc)
left_empty n k ((j, Some w) ∷ ps) o h there = left_some n k j w ps o (same k j) h (λ e. left_empty (suc n) k ps o e there)
left_empty n k ((j, None) ∷ ps) o h there = left_none n k j ps o (same k j) h there (λ e. left_empty (suc n) k ps o e there)

-- ---- a pair is put

filled_some : (n : ℕ) (k v j w : Datum) (ps : Places) (b : Bool) → is_empty (cond b (Some (Some w)) (lookup (same k) ps)) ≡ false
    → (is_empty (lookup (same k) ps) ≡ false → empty_from (suc n) (insert_entry same ps k (Some v)) ≡ empty_from (suc n) ps)
    → empty_from n (cond b ((j, Some v) ∷ ps) ((j, Some w) ∷ insert_entry same ps k (Some v))) ≡ empty_from (suc n) ps
filled_some n k v j w ps true h more = refl
filled_some n k v j w ps false h more = more h

filled_none : (n : ℕ) (k v j : Datum) (ps : Places) (b : Bool) → is_empty (cond b (Some None) (lookup (same k) ps)) ≡ false
    → (is_empty (lookup (same k) ps) ≡ false → empty_from (suc n) (insert_entry same ps k (Some v)) ≡ empty_from (suc n) ps)
    → empty_from n (cond b ((j, Some v) ∷ ps) ((j, None) ∷ insert_entry same ps k (Some v))) ≡ n ∷ empty_from (suc n) ps
filled_none n k v j ps true h more = absurd (cc)
filled_none n k v j ps false h more = ap (λ r. n ∷ r) (more h)

pub put_empty : (n : ℕ) (k v : Datum) (ps : Places) → is_empty (lookup (same k) ps) ≡ false → empty_from n (insert_entry same ps k (Some v)) ≡ empty_from n ps
put_empty n k v [] h = refl
put_empty n k v ((j, Some w) ∷ ps) h = filled_some n k v j w ps (same k j) h (put_empty (suc n) k v ps)
put_empty n k v ((j, None) ∷ ps) h = filled_none n k v j ps (same k j) h (put_empty (suc n) k v ps)

-- ---- the empty places are taken out

pub none_empty : (n : ℕ) (ps : Places) → empty_from n (filter is_there ps) ≡ []
none_empty n [] = refl
none_empty n ((k, Some v) ∷ ps) = none_empty (suc n) ps
none_empty n ((k, None) ∷ ps) = none_empty n ps

-- ---- an index goes among others

inserted_by : (x i : ℕ) (is : List ℕ) (at : ℕ) → i ≤ x → insert is at x ≡ with_index x is → i ∷ insert is at x ≡ with_index x (i ∷ is)
inserted_by x i is at le more = ap (λ r. i ∷ r) more ∙ sym (ap (λ b. cond b (x ∷ i ∷ is) (i ∷ with_index x is)) (le-ltb x i le))

-- after those that aren't greater, before the first that is
pub inserted : (x : ℕ) (is : List ℕ) (at : ℕ) → at ≤ length is → ((j : ℕ) → j < at → get_or is j 0 ≤ x) → (at < length is → x < get_or is at 0) → insert is at x ≡ with_index x is
inserted x [] zero within before after = refl
inserted x [] (suc at) within before after = absurd (omega (arith, within))
inserted x (i ∷ is) zero within before after =
    let less : x < i = after (omega arith) in
    sym (ap (λ b. cond b (x ∷ i ∷ is) (i ∷ with_index x is)) (lt-ltb x i less))
inserted x (i ∷ is) (suc at) within before after =
    inserted_by x i is at (before 0 (omega arith)) (inserted x is at (omega (arith, within)) (λ j less. before (suc j) (omega (arith, less))) (λ less. after (omega (arith, less))))
