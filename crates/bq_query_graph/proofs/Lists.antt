-- Rows that are made one after another, in the flat form.
use Rattle.std.proofs.Common.{◌≡◌, ℕ, zero, suc, ◌+◌, ◌-◌, ◌<◌, ◌≤◌, ◌∙◌, List, [], ◌∷◌, ◌++◌, length, get_or, take, drop, map, refl, sym, ap, subst, arith, append_assoc, append-nil}
use Rattle.std.specs.Prelude.{slice_range}
use Rattle.std.specs.List.{All}
use Rattle.std.proofs.lemmas.List.{length-append, take_at, drop_at, drop-map, ext_get_or}
use Rattle.std.proofs.lemmas.List.Concat.{flat_map-append}
use Rattle.std.proofs.lemmas.List.Elements.{All-nil, All-append, Contains-get_or}
use Rattle.bq_query_graph.specs.Paths.{Pair, AreBelow}
use Rattle.bq_query_graph.specs.Rows.{rows, HasRows, flat, places, IsFlat}
use Rattle.bq_query_graph.proofs.Flats.{length_rows, row_of_rows}

-- ---- the places of rows

first_place : (n : ℕ) (g : List (List ℕ)) → get_or (places n g) 0 0 ≡ n
unfolding places
first_place n [] = refl
first_place n (r ∷ rs) = refl

pub length_places : (n : ℕ) (g : List (List ℕ)) → length (places n g) ≡ length g + 1
unfolding places
length_places n [] = omega arith
length_places n (r ∷ rs) = let more = length_places (n + length r) rs in omega (arith, more)

places_ascend : (n : ℕ) (g : List (List ℕ)) (k : ℕ) → suc k < length (places n g) → get_or (places n g) k 0 ≤ get_or (places n g) (suc k) 0
unfolding places
places_ascend n [] k h = absurd (omega arith)
places_ascend n (r ∷ rs) zero h =
    let next = first_place (n + length r) rs in
    let up : n ≤ get_or (places (n + length r) rs) 0 0 = omega (arith, next) in
    up
places_ascend n (r ∷ rs) (suc k) h = places_ascend (n + length r) rs k (omega arith)

places_within : (n : ℕ) (g : List (List ℕ)) (k : ℕ) → k < length (places n g) → get_or (places n g) k 0 ≤ n + length (flat g)
unfolding places
places_within n [] zero h = let same : n ≤ n + 0 = omega arith in same
places_within n [] (suc k) h = absurd (omega arith)
places_within n (r ∷ rs) zero h = let up : n ≤ n + length (r ++ flat rs) = omega arith in up
places_within n (r ∷ rs) (suc k) h =
    let rest : get_or (places (n + length r) rs) k 0 ≤ n + length r + length (flat rs) = places_within (n + length r) rs k (omega arith) in
    let long = length-append r (flat rs) in
    let up : get_or (places (n + length r) rs) k 0 ≤ n + length (r ++ flat rs) = omega (arith, rest, long) in
    up

places_cons : (n : ℕ) (g : List (List ℕ)) → places n g ≡ n ∷ drop 1 (places n g)
unfolding places
places_cons n [] = refl
places_cons n (r ∷ rs) = refl

-- the places of rows after others
places_append : (n : ℕ) (g h : List (List ℕ)) → places n (g ++ h) ≡ places n g ++ drop 1 (places (n + length (flat g)) h)
unfolding places
places_append n [] h = let none : n ≡ n + 0 = omega arith in places_cons n h ∙ ap (λ (m : ℕ). n ∷ drop 1 (places m h)) none
places_append n (r ∷ rs) h =
    let long = length-append r (flat rs) in
    let same : n + length r + length (flat rs) ≡ n + length (r ++ flat rs) = omega (arith, long) in
    ap (λ (l : List ℕ). n ∷ l) (places_append (n + length r) rs h) ∙ ap (λ (m : ℕ). (n ∷ places (n + length r) rs) ++ drop 1 (places m h)) same

-- and further on
places_further : (m n : ℕ) (g : List (List ℕ)) → places (m + n) g ≡ map (λ (k : ℕ). m + k) (places n g)
unfolding places
places_further m n [] = refl
places_further m n (r ∷ rs) =
    let same : m + n + length r ≡ m + (n + length r) = omega arith in
    ap (λ (l : List ℕ). (m + n) ∷ l) (ap (λ (k : ℕ). places k rs) same ∙ places_further m (n + length r) rs)

-- ---- each row is where its places say

slices : (before : List ℕ) (g : List (List ℕ)) (i : ℕ) → i < length g → slice_range (before ++ flat g) (get_or (places (length before) g) i 0) (get_or (places (length before) g) (suc i) 0) ≡ get_or g i []
unfolding places
slices before [] i h = absurd (omega arith)
slices before (r ∷ rs) zero h =
    let n : ℕ = length before in
    let size : get_or (places (n + length r) rs) 0 0 - n ≡ length r = let p = first_place (n + length r) rs in omega (arith, p) in
    ap (λ (l : List ℕ). take (get_or (places (n + length r) rs) 0 0 - n) l) (drop_at before (r ++ flat rs) n refl)
    ∙ (ap (λ (k : ℕ). take k (r ++ flat rs)) size ∙ take_at r (flat rs) (length r) refl)
slices before (r ∷ rs) (suc i) h =
    let long : length before + length r ≡ length (before ++ r) = sym (length-append before r) in
    ap (λ (l : List ℕ). slice_range l (get_or (places (length before + length r) rs) i 0) (get_or (places (length before + length r) rs) (suc i) 0)) (sym (append_assoc before r (flat rs)))
    ∙ (ap (λ (n : ℕ). slice_range ((before ++ r) ++ flat rs) (get_or (places n rs) i 0) (get_or (places n rs) (suc i) 0)) long ∙ slices (before ++ r) rs i (omega arith))

pub rows_are : (g : List (List ℕ)) (starts heads : List ℕ) → IsFlat g starts heads → rows starts heads ≡ g
rows_are g starts heads f =
    let long : length starts ≡ length g + 1 = ap length f.starts ∙ length_places 0 g in
    let count = length_rows starts heads in
    ext_get_or [] (rows starts heads) g (omega (arith, long, count)) (λ i h.
    let next : i + 1 ≡ suc i = omega arith in
    let here : i < length g = omega (arith, long, count, h) in
    row_of_rows starts heads i (omega (arith, count, h))
    ∙ (ap (λ (k : ℕ). slice_range heads (get_or starts i 0) (get_or starts k 0)) next
    ∙ (ap (λ (l : List ℕ). slice_range heads (get_or l i 0) (get_or l (suc i) 0)) f.starts
    ∙ (ap (λ (l : List ℕ). slice_range l (get_or (places 0 g) i 0) (get_or (places 0 g) (suc i) 0)) f.heads ∙ slices [] g i here))))

pub stays_flat : (g : List (List ℕ)) (starts heads : List ℕ) → IsFlat g starts heads → IsFlat (rows starts heads) starts heads
stays_flat g starts heads f = subst (λ (z : List (List ℕ)). IsFlat z starts heads) (sym (rows_are g starts heads f)) f

-- ---- how rows are made

pub flat_none : (starts heads : List ℕ) → starts ≡ 0 ∷ [] → heads ≡ [] → IsFlat [] starts heads
unfolding places
flat_none starts heads s h = record { starts = s; heads = h }

-- one more row
pub flat_push : (g : List (List ℕ)) (starts heads r : List ℕ) → IsFlat g starts heads → IsFlat (g ++ r ∷ []) (starts ++ length (heads ++ r) ∷ []) (heads ++ r)
unfolding places
flat_push g starts heads r f =
    let all : flat (g ++ r ∷ []) ≡ flat g ++ r = flat_map-append (λ (z : List ℕ). z) g (r ∷ []) ∙ ap (λ (l : List ℕ). flat g ++ l) (append-nil r) in
    let long = length-append heads r in
    let same = ap length f.heads in
    let last : length (heads ++ r) ≡ 0 + length (flat g) + length r = omega (arith, long, same) in
    record {
      starts = ap (λ (l : List ℕ). l ++ length (heads ++ r) ∷ []) f.starts ∙ (ap (λ (n : ℕ). places 0 g ++ n ∷ []) last ∙ sym (places_append 0 g (r ∷ [])));
      heads = ap (λ (l : List ℕ). l ++ r) f.heads ∙ sym all;
    }

pub pushed : (g : List (List ℕ)) (starts heads r starts' heads' : List ℕ) → IsFlat g starts heads → heads' ≡ heads ++ r → starts' ≡ starts ++ length heads' ∷ [] → IsFlat (g ++ r ∷ []) starts' heads'
pushed g starts heads r starts' heads' f e p =
    let last : starts' ≡ starts ++ length (heads ++ r) ∷ [] = p ∙ ap (λ (z : List ℕ). starts ++ length z ∷ []) e in
    subst (λ (z : List ℕ). IsFlat (g ++ r ∷ []) starts' z) (sym e) (subst (λ (z : List ℕ). IsFlat (g ++ r ∷ []) z (heads ++ r)) (sym last) (flat_push g starts heads r f))

-- the rows of two lists
pub flat_append : (g h : List (List ℕ)) (starts heads more_starts more_heads : List ℕ) → IsFlat g starts heads → IsFlat h more_starts more_heads
    → IsFlat (g ++ h) (starts ++ map (λ (n : ℕ). length heads + n) (drop 1 more_starts)) (heads ++ more_heads)
flat_append g h starts heads more_starts more_heads f e =
    let n : ℕ = length heads in
    let from : n + 0 ≡ 0 + length (flat g) = let same = ap length f.heads in omega (arith, same) in
    let moved : map (λ (k : ℕ). n + k) (drop 1 more_starts) ≡ drop 1 (places (0 + length (flat g)) h) =
    ap (λ (l : List ℕ). map (λ (k : ℕ). n + k) (drop 1 l)) e.starts
    ∙ (sym (drop-map (λ (k : ℕ). n + k) 1 (places 0 h)) ∙ (ap (λ (l : List ℕ). drop 1 l) (sym (places_further n 0 h)) ∙ ap (λ (m : ℕ). drop 1 (places m h)) from)) in
    record {
      starts = ap (λ (l : List ℕ). l ++ map (λ (k : ℕ). n + k) (drop 1 more_starts)) f.starts ∙ (ap (λ (l : List ℕ). places 0 g ++ l) moved ∙ sym (places_append 0 g h));
      heads = ap (λ (l : List ℕ). l ++ more_heads) f.heads ∙ (ap (λ (l : List ℕ). flat g ++ l) e.heads ∙ sym (flat_map-append (λ (z : List ℕ). z) g h));
    }

pub appended : (g h : List (List ℕ)) (starts heads more_starts more_heads starts' heads' : List ℕ) → IsFlat g starts heads → IsFlat h more_starts more_heads → heads' ≡ heads ++ more_heads
    → starts' ≡ starts ++ map (λ (n : ℕ). length heads + n) (drop 1 more_starts) → IsFlat (g ++ h) starts' heads'
appended g h starts heads more_starts more_heads starts' heads' f m e p =
    subst (λ (z : List ℕ). IsFlat (g ++ h) starts' z) (sym e) (subst (λ (z : List ℕ). IsFlat (g ++ h) z (heads ++ more_heads)) (sym p) (flat_append g h starts heads more_starts more_heads f m))

-- each place is within
pub starts_within : (g : List (List ℕ)) (starts heads : List ℕ) → IsFlat g starts heads → All (λ k. k ≤ length heads) starts
starts_within g starts heads f k d h =
    let long = ap length f.starts in
    let here : k < length (places 0 g) = omega (arith, long, h) in
    let w = places_within 0 g k here in
    let same = ap length f.heads in
    let e : get_or starts k d ≡ get_or (places 0 g) k 0 = ap (λ (l : List ℕ). get_or l k d) f.starts ∙ any_default (places 0 g) k d here in
    omega (arith, w, same, e)
  where
    any_default : (xs : List ℕ) (i d : ℕ) → i < length xs → get_or xs i d ≡ get_or xs i 0
    any_default [] i d l = absurd (omega arith)
    any_default (x ∷ xs) zero d l = refl
    any_default (x ∷ xs) (suc i) d l = any_default xs i d (omega arith)

-- ---- where each target in the rows has a row

flat_all : (n : ℕ) (g : List (List ℕ)) → ((a b : ℕ) → Pair g a b → b < n) → All (λ y. y < n) (flat g)
flat_all n [] p = All-nil (λ y. y < n)
flat_all n (r ∷ rs) p = All-append (λ y. y < n) r (flat rs) (λ k d h. p 0 (get_or r k d) (Contains-get_or r k d h)) (flat_all n rs (λ a b c. p (suc a) b c))

pub heads_below : (g : List (List ℕ)) (starts heads : List ℕ) → IsFlat g starts heads → AreBelow g → All (λ y. y < length g) heads
heads_below g starts heads f b = subst (λ (l : List ℕ). All (λ y. y < length g) l) (sym f.heads) (flat_all (length g) g b)

pub list_has_rows : (g : List (List ℕ)) (starts heads : List ℕ) → IsFlat g starts heads → AreBelow g → HasRows starts heads
list_has_rows g starts heads f b =
    let long : length starts ≡ length g + 1 = ap length f.starts ∙ length_places 0 g in
    let all : length starts ≡ length (places 0 g) = ap length f.starts in
    let size : length heads ≡ length (flat g) = ap length f.heads in
    record {
      some = omega (arith, long);
      ordered = λ k h.
          let next : k + 1 ≡ suc k = omega arith in
          let up = places_ascend 0 g k (omega (arith, all, h)) in
          let here : get_or starts k 0 ≡ get_or (places 0 g) k 0 = ap (λ (l : List ℕ). get_or l k 0) f.starts in
          let there : get_or starts (k + 1) 0 ≡ get_or (places 0 g) (suc k) 0 = ap (λ (l : List ℕ). get_or l (k + 1) 0) f.starts ∙ ap (λ (n : ℕ). get_or (places 0 g) n 0) next in
          omega (arith, up, here, there);
      within = λ k h.
          let w = places_within 0 g k (omega (arith, all, h)) in
          let here : get_or starts k 0 ≡ get_or (places 0 g) k 0 = ap (λ (l : List ℕ). get_or l k 0) f.starts in
          omega (arith, w, here, size);
      below = subst (λ (n : ℕ). All (λ y. y < n) heads) (let e : length g ≡ length starts - 1 = omega (arith, long) in e) (heads_below g starts heads f b);
    }
