-- Less, as a relation of values that knows of no steps: a strict order that agrees with being alike.
use Rattle.std.proofs.Common.{◌≡◌, ◌∙◌, ◌⊎◌, inl, inr, ℕ, zero, suc, ℤ, Bool, true, false, List, [], ◌∷◌, Option, Some, None, Ok, Err, refl, sym, ap, subst}
use Rattle.std.specs.declared.cmp.Ordering.{Ordering}
use Rattle.std.specs.declared.cmp.Ordering.TheVariants.{Less, Equal, Greater}
use Rattle.std.specs.Ordering.{int_cmp, nat_cmp, bool_cmp, ordering_reverse, MatchOrdering}
use Rattle.std.specs.Cmp.{IsTotalOrder, bool_cmp_total}
use Rattle.std.specs.Cmp.Lexicographic.{slice_cmp}
use Rattle.std.proofs.lemmas.Cmp.{int_cmp_total, nat_list_cmp_total, tied_itself}
use Rattle.std.proofs.lemmas.Map.Lookups.{exact_signed, exact_bytes}
use Rattle.bq_value.specs.Datum.{Datum, none, boolean, int, string, tuple, range, cell, function, built_in, rule_function, attribute, Data, list_of}
use Rattle.bq_value.specs.Contents.{Contents, items, pairs, rule}
use Rattle.bq_value.specs.Cells.{StoreView, content_at}
use Rattle.bq_value.specs.Looked.{Looked}
use Rattle.bq_value.specs.Equality.{Compares, equal_at}
use Rattle.bq_value.specs.Order.{Orders, at_first, lists_ordered, contents_ordered, cells_ordered, bool_ordered, int_ordered, string_ordered, tuple_ordered, cell_ordered, parts_ordered, ordered_at}
use Rattle.bq_value.specs.WalkLaws.{KeysAreDistinct}
use Rattle.bq_value.proofs.Alike.{Relates, AllAlike, ContentsAlike, CellsAlike, PartsAlike, Alike, Tells, equality_tells}
use Rattle.bq_value.proofs.Equivalence.{alike_back, alike_on}

abbrev pub ListsLesser : Relates → Relates → List Datum → List Datum → Type 0
ListsLesser e r [] [] = ⊥
ListsLesser e r [] (y ∷ ys) = Unit {0}
ListsLesser e r (x ∷ xs) [] = ⊥
ListsLesser e r (x ∷ xs) (y ∷ ys) = r x y ⊎ (e x y × ListsLesser e r xs ys)

abbrev pub ContentsLesser : Relates → Relates → Contents → Contents → Type 0
ContentsLesser e r (items xs) (items ys) = ListsLesser e r xs ys
ContentsLesser e r _ _ = ⊥

abbrev pub CellsLesser : Relates → Relates → Option Contents → Option Contents → Type 0
CellsLesser e r (Some c) (Some d) = ContentsLesser e r c d
CellsLesser e r _ _ = ⊥

abbrev pub PartsLesser : Relates → Relates → StoreView → Datum → Datum → Type 0
PartsLesser e r s (boolean a) (boolean b) = bool_cmp a b ≡ Less
PartsLesser e r s (int a) (int b) = int_cmp a b ≡ Less
PartsLesser e r s (string a) (string b) = slice_cmp nat_cmp a b ≡ Less
PartsLesser e r s (tuple a) (tuple b) = ListsLesser e r (list_of a) (list_of b)
PartsLesser e r s (cell a i) (cell b j) = CellsLesser e r (content_at s a i) (content_at s b j)
PartsLesser e r s _ _ = ⊥

abbrev pub Lesser : ℕ → StoreView → Relates
Lesser zero s a b = ⊥
Lesser (suc l) s a b = PartsLesser (Alike l s) (Lesser l s) s a b

-- what an order of plain values says
compared : {K : Type 0} {R : K → K → Ordering} (t : IsTotalOrder R) → ((x y : K) → R x y ≡ Equal → x ≡ y) → (x y : K) (o : Ordering) → R x y ≡ o → MatchOrdering o (R x y ≡ Less) (x ≡ y) (R y x ≡ Less)
compared t exact x y Less e = e
compared t exact x y Equal e = exact x y e
compared t exact x y Greater e = t.antisymm y x ∙ ap ordering_reverse e

exact_bool : (a b : Bool) → bool_cmp a b ≡ Equal → a ≡ b
exact_bool true true e = refl
exact_bool false false e = refl
exact_bool true false e = absurd (cc)
exact_bool false true e = absurd (cc)

abbrev says : Looked Ordering → Ordering
says (Ok p) = p.0
says (Err kind) = Equal

abbrev pub ordered : Ordering → ℕ → Looked Ordering
ordered o n = Ok (o, n)

pub order_of : (a b : Ordering) (m n : ℕ) → ordered a m ≡ ordered b n → a ≡ b
order_of a b m n e = ap says e

module _ (same : Compares) (order : Orders) (e r : Relates) (back : (x y : Datum) → e x y → e y x)
    (alike : (n m : ℕ) (x y : Datum) (b : Bool) → same n x y ≡ Ok (b, m) → Tells b (e x y))
    (lesser : (n m : ℕ) (x y : Datum) (o : Ordering) → order n x y ≡ Ok (o, m) → MatchOrdering o (r x y) (e x y) (r y x)) where
  abbrev Told : Ordering → List Datum → List Datum → Type 0
  Told o xs ys = MatchOrdering o (ListsLesser e r xs ys) (AllAlike e xs ys) (ListsLesser e r ys xs)

  here_told : (x y : Datum) (xs ys : List Datum) → (e x y → ⊥) → (o : Ordering) → MatchOrdering o (r x y) (e x y) (r y x) → Told o (x ∷ xs) (y ∷ ys)
  here_told x y xs ys unlike Less h = inl h
  here_told x y xs ys unlike Equal h = absurd (unlike h)
  here_told x y xs ys unlike Greater h = inl h

  later_told : (x y : Datum) (xs ys : List Datum) → e x y → (o : Ordering) → Told o xs ys → Told o (x ∷ xs) (y ∷ ys)
  later_told x y xs ys h Less t = inr (h, t)
  later_told x y xs ys h Equal t = (h, t)
  later_told x y xs ys h Greater t = inr (back x y h, t)

  first_told : (x y : Datum) (xs ys : List Datum) (t : Looked Bool) → ((b : Bool) (k : ℕ) → t ≡ Ok (b, k) → Tells b (e x y))
      → ((k : ℕ) (o : Ordering) (m : ℕ) → lists_ordered same order k xs ys ≡ Ok (o, m) → Told o xs ys)
      → (o : Ordering) (m : ℕ) → at_first t (λ k. lists_ordered same order k xs ys) (λ k. order k x y) ≡ Ok (o, m) → Told o (x ∷ xs) (y ∷ ys)
  first_told x y xs ys (Ok (true, k)) first rest o m h = later_told x y xs ys (first true k refl) o (rest k o m h)
  first_told x y xs ys (Ok (false, k)) first rest o m h = here_told x y xs ys (first false k refl) o (lesser k m x y o h)
  first_told x y xs ys (Err f) first rest o m h = absurd (cc)

  lists_told : (xs ys : List Datum) (n : ℕ) (o : Ordering) (m : ℕ) → lists_ordered same order n xs ys ≡ Ok (o, m) → Told o xs ys
  lists_told [] [] n o m h = subst (λ (p : Ordering). Told p [] []) (order_of Equal o n m h) tt
  lists_told [] (y ∷ ys) n o m h = subst (λ (p : Ordering). Told p [] (y ∷ ys)) (order_of Less o n m h) tt
  lists_told (x ∷ xs) [] n o m h = subst (λ (p : Ordering). Told p (x ∷ xs) []) (order_of Greater o n m h) tt
  lists_told (x ∷ xs) (y ∷ ys) n o m h =
      first_told x y xs ys (same n x y) (λ b k f. alike n k x y b f) (λ k p j f. lists_told xs ys k p j f) o m h

  contents_told : (one : Type 0) (c d : Contents) (n : ℕ) (o : Ordering) (m : ℕ) → contents_ordered same order n c d ≡ Ok (o, m) → MatchOrdering o (ContentsLesser e r c d) (ContentsAlike e one c d) (ContentsLesser e r d c)
  contents_told one (items xs) (items ys) n o m h = lists_told xs ys n o m h
  contents_told one (items xs) (pairs qs) n o m h = absurd (cc)
  contents_told one (items xs) (rule d) n o m h = absurd (cc)
  contents_told one (pairs ps) d n o m h = absurd (cc)
  contents_told one (rule c) d n o m h = absurd (cc)

  cells_told : (one : Type 0) (c d : Option Contents) (n : ℕ) (o : Ordering) (m : ℕ) → cells_ordered same order n c d ≡ Ok (o, m) → MatchOrdering o (CellsLesser e r c d) (CellsAlike e one c d) (CellsLesser e r d c)
  cells_told one (Some c) (Some d) n o m h = contents_told one c d n o m h
  cells_told one (Some c) None n o m h = absurd (cc)
  cells_told one None d n o m h = absurd (cc)

  module _ (s : StoreView) where
    abbrev PartsTold : Ordering → Datum → Datum → Type 0
    PartsTold o x y = MatchOrdering o (PartsLesser e r s x y) (PartsAlike e s x y) (PartsLesser e r s y x)

    bool_told : (a : Bool) (y : Datum) (n : ℕ) (o : Ordering) (m : ℕ) → bool_ordered n a y ≡ Ok (o, m) → PartsTold o (boolean a) y
    unfolding bool_ordered
    bool_told a (boolean b) n o m h = compared bool_cmp_total exact_bool a b o (order_of (bool_cmp a b) o n m h)
    bool_told a _ n o m h = absurd (cc)

    int_told : (a : ℤ) (y : Datum) (n : ℕ) (o : Ordering) (m : ℕ) → int_ordered n a y ≡ Ok (o, m) → PartsTold o (int a) y
    unfolding int_ordered
    int_told a (int b) n o m h = compared int_cmp_total exact_signed a b o (order_of (int_cmp a b) o n m h)
    int_told a _ n o m h = absurd (cc)

    string_told : (a : List ℕ) (y : Datum) (n : ℕ) (o : Ordering) (m : ℕ) → string_ordered n a y ≡ Ok (o, m) → PartsTold o (string a) y
    unfolding string_ordered
    string_told a (string b) n o m h = compared nat_list_cmp_total exact_bytes a b o (order_of (slice_cmp nat_cmp a b) o n m h)
    string_told a _ n o m h = absurd (cc)

    tuple_told : (a : Data) (y : Datum) (n : ℕ) (o : Ordering) (m : ℕ) → tuple_ordered same order n (list_of a) y ≡ Ok (o, m) → PartsTold o (tuple a) y
    unfolding tuple_ordered
    tuple_told a (tuple b) n o m h = lists_told (list_of a) (list_of b) n o m h
    tuple_told a _ n o m h = absurd (cc)

    cell_told : (a i : ℕ) (y : Datum) (n : ℕ) (o : Ordering) (m : ℕ) → cell_ordered same order s n (content_at s a i) y ≡ Ok (o, m) → PartsTold o (cell a i) y
    unfolding cell_ordered
    cell_told a i (cell b j) n o m h = cells_told ((a ≡ b) × (i ≡ j)) (content_at s a i) (content_at s b j) n o m h
    cell_told a i _ n o m h = absurd (cc)

    parts_told : (x y : Datum) (n : ℕ) (o : Ordering) (m : ℕ) → parts_ordered same order s n x y ≡ Ok (o, m) → PartsTold o x y
    parts_told (boolean a) y n o m h = bool_told a y n o m h
    parts_told (int a) y n o m h = int_told a y n o m h
    parts_told (string a) y n o m h = string_told a y n o m h
    parts_told (tuple a) y n o m h = tuple_told a y n o m h
    parts_told (cell a i) y n o m h = cell_told a i y n o m h
    parts_told none y n o m h = absurd (cc)
    parts_told (range a b c) y n o m h = absurd (cc)
    parts_told (function a i t vs) y n o m h = absurd (cc)
    parts_told (built_in t) y n o m h = absurd (cc)
    parts_told (rule_function f) y n o m h = absurd (cc)
    parts_told (attribute a) y n o m h = absurd (cc)

-- what the order answers says which value is less, or that they are alike
pub order_tells : (l : ℕ) (s : StoreView) → KeysAreDistinct s → (n m : ℕ) (x y : Datum) (o : Ordering) → ordered_at l s n x y ≡ Ok (o, m) → MatchOrdering o (Lesser l s x y) (Alike l s x y) (Lesser l s y x)
order_tells zero s ds zero m x y o h = absurd (cc)
order_tells zero s ds (suc n) m x y o h = absurd (cc)
order_tells (suc l) s ds zero m x y o h = absurd (cc)
order_tells (suc l) s ds (suc n) m x y o h =
    parts_told (equal_at l s) (ordered_at l s) (Alike l s) (Lesser l s) (alike_back l s ds) (λ k j v w b f. equality_tells l s k j v w b f) (λ k j v w p f. order_tells l s ds k j v w p f) s x y n o m h

-- how less goes on, also over values that are alike, and that nothing is less than itself
pub record Ranks (e r : Relates) : Type 0 where
  pub on : (x y z : Datum) → r x y → r y z → r x z
  pub first : (x y z : Datum) → e x y → r y z → r x z
  pub second : (x y z : Datum) → r x y → e y z → r x z
  pub itself : (x : Datum) → r x x → ⊥

module _ (e r : Relates) (e_on : (x y z : Datum) → e x y → e y z → e x z) (ranks : Ranks e r) where
  lists_on : (xs ys zs : List Datum) → ListsLesser e r xs ys → ListsLesser e r ys zs → ListsLesser e r xs zs
  lists_on [] [] zs h k = absurd h
  lists_on [] (y ∷ ys) [] h k = absurd k
  lists_on [] (y ∷ ys) (z ∷ zs) h k = tt
  lists_on (x ∷ xs) [] zs h k = absurd h
  lists_on (x ∷ xs) (y ∷ ys) [] h k = absurd k
  lists_on (x ∷ xs) (y ∷ ys) (z ∷ zs) (inl h) (inl k) = inl (ranks.on x y z h k)
  lists_on (x ∷ xs) (y ∷ ys) (z ∷ zs) (inl h) (inr k) = inl (ranks.second x y z h k.0)
  lists_on (x ∷ xs) (y ∷ ys) (z ∷ zs) (inr h) (inl k) = inl (ranks.first x y z h.0 k)
  lists_on (x ∷ xs) (y ∷ ys) (z ∷ zs) (inr h) (inr k) = inr (e_on x y z h.0 k.0, lists_on xs ys zs h.1 k.1)

  lists_first : (xs ys zs : List Datum) → AllAlike e xs ys → ListsLesser e r ys zs → ListsLesser e r xs zs
  lists_first [] [] zs h k = k
  lists_first [] (y ∷ ys) zs h k = absurd h
  lists_first (x ∷ xs) [] zs h k = absurd h
  lists_first (x ∷ xs) (y ∷ ys) [] h k = absurd k
  lists_first (x ∷ xs) (y ∷ ys) (z ∷ zs) h (inl k) = inl (ranks.first x y z h.0 k)
  lists_first (x ∷ xs) (y ∷ ys) (z ∷ zs) h (inr k) = inr (e_on x y z h.0 k.0, lists_first xs ys zs h.1 k.1)

  lists_second : (xs ys zs : List Datum) → ListsLesser e r xs ys → AllAlike e ys zs → ListsLesser e r xs zs
  lists_second [] [] zs h k = absurd h
  lists_second [] (y ∷ ys) [] h k = absurd k
  lists_second [] (y ∷ ys) (z ∷ zs) h k = tt
  lists_second (x ∷ xs) [] zs h k = absurd h
  lists_second (x ∷ xs) (y ∷ ys) [] h k = absurd k
  lists_second (x ∷ xs) (y ∷ ys) (z ∷ zs) (inl h) k = inl (ranks.second x y z h k.0)
  lists_second (x ∷ xs) (y ∷ ys) (z ∷ zs) (inr h) k = inr (e_on x y z h.0 k.0, lists_second xs ys zs h.1 k.1)

  lists_itself : (xs : List Datum) → ListsLesser e r xs xs → ⊥
  lists_itself [] h = h
  lists_itself (x ∷ xs) (inl h) = ranks.itself x h
  lists_itself (x ∷ xs) (inr h) = lists_itself xs h.1

  contents_on : (c d f : Contents) → ContentsLesser e r c d → ContentsLesser e r d f → ContentsLesser e r c f
  contents_on (items xs) (items ys) (items zs) h k = lists_on xs ys zs h k
  contents_on (items xs) (items ys) (pairs rs) h k = absurd k
  contents_on (items xs) (items ys) (rule f) h k = absurd k
  contents_on (items xs) (pairs qs) f h k = absurd h
  contents_on (items xs) (rule d) f h k = absurd h
  contents_on (pairs ps) d f h k = absurd h
  contents_on (rule c) d f h k = absurd h

  contents_first : (one : Type 0) (c d f : Contents) → ContentsAlike e one c d → ContentsLesser e r d f → ContentsLesser e r c f
  contents_first one (items xs) (items ys) (items zs) h k = lists_first xs ys zs h k
  contents_first one (items xs) (items ys) (pairs rs) h k = absurd k
  contents_first one (items xs) (items ys) (rule f) h k = absurd k
  contents_first one (items xs) (pairs qs) f h k = absurd h
  contents_first one (items xs) (rule d) f h k = absurd h
  contents_first one (pairs ps) (items ys) f h k = absurd h
  contents_first one (pairs ps) (pairs qs) f h k = absurd k
  contents_first one (pairs ps) (rule d) f h k = absurd h
  contents_first one (rule c) (items ys) f h k = absurd h
  contents_first one (rule c) (pairs qs) f h k = absurd k
  contents_first one (rule c) (rule d) f h k = absurd k

  contents_second : (one : Type 0) (c d f : Contents) → ContentsLesser e r c d → ContentsAlike e one d f → ContentsLesser e r c f
  contents_second one (items xs) (items ys) (items zs) h k = lists_second xs ys zs h k
  contents_second one (items xs) (items ys) (pairs rs) h k = absurd k
  contents_second one (items xs) (items ys) (rule f) h k = absurd k
  contents_second one (items xs) (pairs qs) f h k = absurd h
  contents_second one (items xs) (rule d) f h k = absurd h
  contents_second one (pairs ps) d f h k = absurd h
  contents_second one (rule c) d f h k = absurd h

  contents_itself : (c : Contents) → ContentsLesser e r c c → ⊥
  contents_itself (items xs) h = lists_itself xs h
  contents_itself (pairs ps) h = h
  contents_itself (rule c) h = h

  cells_on : (c d f : Option Contents) → CellsLesser e r c d → CellsLesser e r d f → CellsLesser e r c f
  cells_on (Some c) (Some d) (Some f) h k = contents_on c d f h k
  cells_on (Some c) (Some d) None h k = absurd k
  cells_on (Some c) None f h k = absurd h
  cells_on None d f h k = absurd h

  cells_first : (one : Type 0) (c d f : Option Contents) → CellsAlike e one c d → CellsLesser e r d f → CellsLesser e r c f
  cells_first one (Some c) (Some d) (Some f) h k = contents_first one c d f h k
  cells_first one (Some c) (Some d) None h k = absurd k
  cells_first one (Some c) None f h k = absurd h
  cells_first one None d f h k = none_first d f h k
    where
      none_first : (d f : Option Contents) → CellsAlike e one None d → CellsLesser e r d f → CellsLesser e r None f
      none_first None f h k = absurd k
      none_first (Some d) f h k = absurd h

  cells_second : (one : Type 0) (c d f : Option Contents) → CellsLesser e r c d → CellsAlike e one d f → CellsLesser e r c f
  cells_second one (Some c) (Some d) (Some f) h k = contents_second one c d f h k
  cells_second one (Some c) (Some d) None h k = absurd k
  cells_second one (Some c) None f h k = absurd h
  cells_second one None d f h k = absurd h

  cells_itself : (c : Option Contents) → CellsLesser e r c c → ⊥
  cells_itself (Some c) h = contents_itself c h
  cells_itself None h = h

  module _ (s : StoreView) where
    bool_on : (a b : Bool) (z : Datum) → bool_cmp a b ≡ Less → PartsLesser e r s (boolean b) z → PartsLesser e r s (boolean a) z
    bool_on a b (boolean c) h k = bool_cmp_total.trans a b c h k
    bool_on a b _ h k = absurd k

    int_on : (a b : ℤ) (z : Datum) → int_cmp a b ≡ Less → PartsLesser e r s (int b) z → PartsLesser e r s (int a) z
    int_on a b (int c) h k = int_cmp_total.trans a b c h k
    int_on a b _ h k = absurd k

    string_on : (a b : List ℕ) (z : Datum) → slice_cmp nat_cmp a b ≡ Less → PartsLesser e r s (string b) z → PartsLesser e r s (string a) z
    string_on a b (string c) h k = nat_list_cmp_total.trans a b c h k
    string_on a b _ h k = absurd k

    tuple_on : (a b : Data) (z : Datum) → ListsLesser e r (list_of a) (list_of b) → PartsLesser e r s (tuple b) z → PartsLesser e r s (tuple a) z
    tuple_on a b (tuple c) h k = lists_on (list_of a) (list_of b) (list_of c) h k
    tuple_on a b _ h k = absurd k

    cell_on : (a i b j : ℕ) (z : Datum) → CellsLesser e r (content_at s a i) (content_at s b j) → PartsLesser e r s (cell b j) z → PartsLesser e r s (cell a i) z
    cell_on a i b j (cell c m) h k = cells_on (content_at s a i) (content_at s b j) (content_at s c m) h k
    cell_on a i b j _ h k = absurd k

    parts_on : (x y z : Datum) → PartsLesser e r s x y → PartsLesser e r s y z → PartsLesser e r s x z
    parts_on (boolean a) (boolean b) z h k = bool_on a b z h k
    parts_on (int a) (int b) z h k = int_on a b z h k
    parts_on (string a) (string b) z h k = string_on a b z h k
    parts_on (tuple a) (tuple b) z h k = tuple_on a b z h k
    parts_on (cell a i) (cell b j) z h k = cell_on a i b j z h k
    parts_on _ _ z h k = absurd h

    tuple_first : (a b : Data) (z : Datum) → AllAlike e (list_of a) (list_of b) → PartsLesser e r s (tuple b) z → PartsLesser e r s (tuple a) z
    tuple_first a b (tuple c) h k = lists_first (list_of a) (list_of b) (list_of c) h k
    tuple_first a b _ h k = absurd k

    cell_first : (a i b j : ℕ) (z : Datum) → CellsAlike e ((a ≡ b) × (i ≡ j)) (content_at s a i) (content_at s b j) → PartsLesser e r s (cell b j) z → PartsLesser e r s (cell a i) z
    cell_first a i b j (cell c m) h k = cells_first ((a ≡ b) × (i ≡ j)) (content_at s a i) (content_at s b j) (content_at s c m) h k
    cell_first a i b j _ h k = absurd k

    parts_first : (x y z : Datum) → PartsAlike e s x y → PartsLesser e r s y z → PartsLesser e r s x z
    parts_first (boolean a) (boolean b) z h k = subst (λ (c : Bool). PartsLesser e r s (boolean c) z) (sym h) k
    parts_first (int a) (int b) z h k = subst (λ (c : ℤ). PartsLesser e r s (int c) z) (sym h) k
    parts_first (string a) (string b) z h k = subst (λ (c : List ℕ). PartsLesser e r s (string c) z) (sym h) k
    parts_first (tuple a) (tuple b) z h k = tuple_first a b z h k
    parts_first (cell a i) (cell b j) z h k = cell_first a i b j z h k
    parts_first none none z h k = absurd k
    parts_first (range a b c) (range d f g) z h k = absurd k
    parts_first (function a i t vs) (function b j u ws) z h k = absurd k
    parts_first (built_in a) (built_in b) z h k = absurd k
    parts_first (rule_function f) (rule_function g) z h k = absurd k
    parts_first (attribute a) (attribute b) z h k = absurd k
    parts_first _ _ z h k = absurd h

    bool_second : (a b : Bool) (z : Datum) → bool_cmp a b ≡ Less → PartsAlike e s (boolean b) z → PartsLesser e r s (boolean a) z
    bool_second a b (boolean c) h k = ap (bool_cmp a) (sym k) ∙ h
    bool_second a b _ h k = absurd k

    int_second : (a b : ℤ) (z : Datum) → int_cmp a b ≡ Less → PartsAlike e s (int b) z → PartsLesser e r s (int a) z
    int_second a b (int c) h k = ap (int_cmp a) (sym k) ∙ h
    int_second a b _ h k = absurd k

    string_second : (a b : List ℕ) (z : Datum) → slice_cmp nat_cmp a b ≡ Less → PartsAlike e s (string b) z → PartsLesser e r s (string a) z
    string_second a b (string c) h k = ap (slice_cmp nat_cmp a) (sym k) ∙ h
    string_second a b _ h k = absurd k

    tuple_second : (a b : Data) (z : Datum) → ListsLesser e r (list_of a) (list_of b) → PartsAlike e s (tuple b) z → PartsLesser e r s (tuple a) z
    tuple_second a b (tuple c) h k = lists_second (list_of a) (list_of b) (list_of c) h k
    tuple_second a b _ h k = absurd k

    cell_second : (a i b j : ℕ) (z : Datum) → CellsLesser e r (content_at s a i) (content_at s b j) → PartsAlike e s (cell b j) z → PartsLesser e r s (cell a i) z
    cell_second a i b j (cell c m) h k = cells_second ((b ≡ c) × (j ≡ m)) (content_at s a i) (content_at s b j) (content_at s c m) h k
    cell_second a i b j _ h k = absurd k

    parts_second : (x y z : Datum) → PartsLesser e r s x y → PartsAlike e s y z → PartsLesser e r s x z
    parts_second (boolean a) (boolean b) z h k = bool_second a b z h k
    parts_second (int a) (int b) z h k = int_second a b z h k
    parts_second (string a) (string b) z h k = string_second a b z h k
    parts_second (tuple a) (tuple b) z h k = tuple_second a b z h k
    parts_second (cell a i) (cell b j) z h k = cell_second a i b j z h k
    parts_second _ _ z h k = absurd h

    unlike_itself : (o : Ordering) → o ≡ Equal → o ≡ Less → ⊥
    unlike_itself o h k = cc

    parts_itself : (x : Datum) → PartsLesser e r s x x → ⊥
    parts_itself (boolean a) h = unlike_itself (bool_cmp a a) (tied_itself bool_cmp_total a) h
    parts_itself (int a) h = unlike_itself (int_cmp a a) (tied_itself int_cmp_total a) h
    parts_itself (string a) h = unlike_itself (slice_cmp nat_cmp a a) (tied_itself nat_list_cmp_total a) h
    parts_itself (tuple a) h = lists_itself (list_of a) h
    parts_itself (cell a i) h = cells_itself (content_at s a i) h
    parts_itself none h = h
    parts_itself (range a b c) h = h
    parts_itself (function a i t vs) h = h
    parts_itself (built_in a) h = h
    parts_itself (rule_function f) h = h
    parts_itself (attribute a) h = h

    parts_rank : Ranks (PartsAlike e s) (PartsLesser e r s)
    parts_rank = record { on = parts_on; first = parts_first; second = parts_second; itself = parts_itself }

pub ranked : (l : ℕ) (s : StoreView) → Ranks (Alike l s) (Lesser l s)
ranked zero s = record { on = λ x y z h k. h; first = λ x y z h k. h; second = λ x y z h k. h; itself = λ x h. h }
ranked (suc l) s = parts_rank (Alike l s) (Lesser l s) (alike_on l s) (ranked l s) s
