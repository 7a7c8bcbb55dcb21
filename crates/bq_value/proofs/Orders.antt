-- The laws of equality and order, by answers alone.
use Rattle.std.proofs.Common.{◌≡◌, ◌≢◌, ◌↔◌, ◌∙◌, ℕ, zero, suc, ℤ, Bool, true, false, List, [], ◌∷◌, Option, Some, None, Ok, Err, refl, sym, ap, subst}
use Rattle.std.specs.declared.cmp.Ordering.{Ordering}
use Rattle.std.specs.declared.cmp.Ordering.TheVariants.{Less, Equal, Greater}
use Rattle.std.specs.Ordering.{int_cmp, nat_cmp, bool_cmp, ordering_reverse, MatchOrdering}
use Rattle.std.specs.Cmp.Lexicographic.{slice_cmp}
use Rattle.bq_value.specs.Datum.{Datum, none, boolean, int, string, tuple, range, cell, function, built_in, rule_function, attribute, Data, end, datum, list_of}
use Rattle.bq_value.specs.Contents.{Contents, items, pairs, rule}
use Rattle.bq_value.specs.Cells.{StoreView, content_at}
use Rattle.bq_value.specs.Key.{IsKey, AreKeys}
use Rattle.bq_value.specs.Looked.{Looked, max_levels}
use Rattle.bq_value.specs.Equality.{equal_at}
use Rattle.bq_value.specs.Order.{at_first, lists_ordered, cells_ordered, bool_ordered, int_ordered, string_ordered, tuple_ordered, cell_ordered, ordered_at}
use Rattle.bq_value.specs.WalkLaws.{Equals, Ordered, KeysAreDistinct, kind_of, content_kind, Decided, both_end, first_ends, second_ends, here, later}
use Rattle.bq_value.proofs.Alike.{Relates, AllAlike, CellsAlike, PartsAlike, Alike, Tells, equality_tells}
use Rattle.bq_value.proofs.Equivalence.{alike_back, equal_itself, equal_back, equal_on}
use Rattle.bq_value.proofs.Lesser.{Lesser, Ranks, ranked, order_tells, order_of}

alike_told : (s : StoreView) (a b : Datum) (so : Bool) → Equals s a b so → Tells so (Alike max_levels s a b)
alike_told s a b so h = equality_tells max_levels s h.steps h.left a b so h.is

order_told : (s : StoreView) → KeysAreDistinct s → (a b : Datum) (so : Ordering) → Ordered s a b so → MatchOrdering so (Lesser max_levels s a b) (Alike max_levels s a b) (Lesser max_levels s b a)
order_told s ds a b so h = order_tells max_levels s ds h.steps h.left a b so h.is

pub equals_itself : (s : StoreView) → KeysAreDistinct s → (a : Datum) (so : Bool) → Equals s a a so → so ≡ true
equals_itself s ds a so h = equal_itself max_levels s ds h.steps h.left a so h.is

pub equals_back : (s : StoreView) → KeysAreDistinct s → (a b : Datum) (so back : Bool) → Equals s a b so → Equals s b a back → so ≡ back
equals_back s ds a b so back h k = equal_back max_levels s ds h.steps h.left k.steps k.left a b so back h.is k.is

pub equals_on : (s : StoreView) (a b c : Datum) (so : Bool) → Equals s a b true → Equals s b c true → Equals s a c so → so ≡ true
equals_on s a b c so h k j = equal_on max_levels s h.steps h.left k.steps k.left j.steps j.left a b c so h.is k.is j.is

-- values that are alike have one type
content_kinds : (r : Relates) (one : Type 0) (c d : Option Contents) → CellsAlike r one c d → content_kind c ≡ content_kind d
content_kinds r one (Some (items xs)) (Some (items ys)) h = refl
content_kinds r one (Some (pairs ps)) (Some (pairs qs)) h = refl
content_kinds r one (Some (rule c)) (Some (rule d)) h = refl
content_kinds r one None None h = refl
content_kinds r one _ _ h = absurd h

kinds : (r : Relates) (s : StoreView) (x y : Datum) → PartsAlike r s x y → kind_of s x ≡ kind_of s y
kinds r s none none h = refl
kinds r s (boolean a) (boolean b) h = refl
kinds r s (int a) (int b) h = refl
kinds r s (string a) (string b) h = refl
kinds r s (tuple a) (tuple b) h = refl
kinds r s (range a b c) (range d e f) h = refl
kinds r s (cell a i) (cell b j) h = content_kinds r ((a ≡ b) × (i ≡ j)) (content_at s a i) (content_at s b j) h
kinds r s (function a i t vs) (function b j u ws) h = refl
kinds r s (built_in a) (built_in b) h = refl
kinds r s (rule_function f) (rule_function g) h = refl
kinds r s (attribute a) (attribute b) h = refl
kinds r s _ _ h = absurd h

alike_kinds : (l : ℕ) (s : StoreView) (x y : Datum) → Alike l s x y → kind_of s x ≡ kind_of s y
alike_kinds zero s x y h = absurd h
alike_kinds (suc l) s x y h = kinds (Alike l s) s x y h

kinds_by : (s : StoreView) (x y : Datum) (so : Bool) → kind_of s x ≢ kind_of s y → Tells so (Alike max_levels s x y) → so ≡ false
kinds_by s x y true n h = absurd (n (alike_kinds max_levels s x y h))
kinds_by s x y false n h = refl

pub unlike_differ : (s : StoreView) (a b : Datum) (so : Bool) → kind_of s a ≢ kind_of s b → Equals s a b so → so ≡ false
unlike_differ s a b so n h = kinds_by s a b so n (alike_told s a b so h)

-- keys that are alike are one
module _ (r : Relates) (one : (x y : Datum) → IsKey x → r x y → x ≡ y) where
  all_one : (a b : Data) → AreKeys a → AllAlike r (list_of a) (list_of b) → a ≡ b
  all_one end end k h = refl
  all_one (datum v vs) (datum w ws) k h = let e = one v w k.0 h.0 in let f = all_one vs ws k.1 h.1 in λ i. datum (e i) (f i)
  all_one end (datum w ws) k h = absurd h
  all_one (datum v vs) end k h = absurd h

  parts_one : (s : StoreView) (x y : Datum) → IsKey x → PartsAlike r s x y → x ≡ y
  parts_one s none none k h = refl
  parts_one s (boolean a) (boolean b) k h = ap boolean h
  parts_one s (int a) (int b) k h = ap int h
  parts_one s (string a) (string b) k h = ap string h
  parts_one s (tuple a) (tuple b) k h = ap tuple (all_one a b k h)
  parts_one s (range a b c) y k h = absurd k
  parts_one s (cell a i) y k h = absurd k
  parts_one s (function a i t vs) y k h = absurd k
  parts_one s (built_in a) y k h = absurd k
  parts_one s (rule_function f) y k h = absurd k
  parts_one s (attribute a) y k h = absurd k
  parts_one s _ _ k h = absurd h

keys_one : (l : ℕ) (s : StoreView) (x y : Datum) → IsKey x → Alike l s x y → x ≡ y
keys_one zero s x y k h = absurd h
keys_one (suc l) s x y k h = parts_one (Alike l s) (λ v w i a. keys_one l s v w i a) s x y k h

keys_by : (s : StoreView) (x y : Datum) (so : Bool) → IsKey x → Tells so (Alike max_levels s x y) → so ≡ true → x ≡ y
keys_by s x y true k h e = keys_one max_levels s x y k h
keys_by s x y false k h e = absurd (cc)

pub equal_keys : (s : StoreView) → KeysAreDistinct s → (a b : Datum) (so : Bool) → IsKey a → Equals s a b so → (so ≡ true) ↔ (a ≡ b)
equal_keys s ds a b so k h =
    (keys_by s a b so k (alike_told s a b so h), λ e. equals_itself s ds a so (subst (λ (c : Datum). Equals s a c so) (sym e) h))

-- one of three
module _ (s : StoreView) (ds : KeysAreDistinct s) where
  open_ranks : Ranks (Alike max_levels s) (Lesser max_levels s)
  open_ranks = ranked max_levels s

  never_both : (x y : Datum) → Lesser max_levels s x y → Lesser max_levels s y x → ⊥
  never_both x y h k = (ranked max_levels s).itself x ((ranked max_levels s).on x y x h k)

  never_alike : (x y : Datum) → Lesser max_levels s x y → Alike max_levels s x y → ⊥
  never_alike x y h k = (ranked max_levels s).itself x ((ranked max_levels s).second x y x h (alike_back max_levels s ds x y k))

  never_alike_back : (x y : Datum) → Lesser max_levels s x y → Alike max_levels s y x → ⊥
  never_alike_back x y h k = (ranked max_levels s).itself x ((ranked max_levels s).second x y x h k)

  itself_by : (x : Datum) (o : Ordering) → MatchOrdering o (Lesser max_levels s x x) (Alike max_levels s x x) (Lesser max_levels s x x) → o ≡ Equal
  itself_by x Less h = absurd ((ranked max_levels s).itself x h)
  itself_by x Equal h = refl
  itself_by x Greater h = absurd ((ranked max_levels s).itself x h)

  turned_by : (x y : Datum) (o p : Ordering) → MatchOrdering o (Lesser max_levels s x y) (Alike max_levels s x y) (Lesser max_levels s y x)
      → MatchOrdering p (Lesser max_levels s y x) (Alike max_levels s y x) (Lesser max_levels s x y) → p ≡ ordering_reverse o
  turned_by x y Less Less h k = absurd (never_both x y h k)
  turned_by x y Less Equal h k = absurd (never_alike_back x y h k)
  turned_by x y Less Greater h k = refl
  turned_by x y Equal Less h k = absurd (never_alike_back y x k h)
  turned_by x y Equal Equal h k = refl
  turned_by x y Equal Greater h k = absurd (never_alike x y k h)
  turned_by x y Greater Less h k = refl
  turned_by x y Greater Equal h k = absurd (never_alike y x h k)
  turned_by x y Greater Greater h k = absurd (never_both x y k h)

  on_by : (x z : Datum) (o : Ordering) → Lesser max_levels s x z → MatchOrdering o (Lesser max_levels s x z) (Alike max_levels s x z) (Lesser max_levels s z x) → o ≡ Less
  on_by x z Less h k = refl
  on_by x z Equal h k = absurd (never_alike x z h k)
  on_by x z Greater h k = absurd (never_both x z h k)

  equal_by : (x y : Datum) (o : Ordering) (so : Bool) → MatchOrdering o (Lesser max_levels s x y) (Alike max_levels s x y) (Lesser max_levels s y x)
      → Tells so (Alike max_levels s x y) → (o ≡ Equal) ↔ (so ≡ true)
  equal_by x y Less true h k = absurd (never_alike x y h k)
  equal_by x y Less false h k = (λ e. absurd (cc), λ e. absurd (cc))
  equal_by x y Equal true h k = (λ e. refl, λ e. refl)
  equal_by x y Equal false h k = absurd (k h)
  equal_by x y Greater true h k = absurd (never_alike_back y x h k)
  equal_by x y Greater false h k = (λ e. absurd (cc), λ e. absurd (cc))

pub order_itself : (s : StoreView) → KeysAreDistinct s → (a : Datum) (so : Ordering) → Ordered s a a so → so ≡ Equal
order_itself s ds a so h = itself_by s ds a so (order_told s ds a a so h)

pub order_back : (s : StoreView) → KeysAreDistinct s → (a b : Datum) (so back : Ordering) → Ordered s a b so → Ordered s b a back → back ≡ ordering_reverse so
order_back s ds a b so back h k = turned_by s ds a b so back (order_told s ds a b so h) (order_told s ds b a back k)

pub order_on : (s : StoreView) → KeysAreDistinct s → (a b c : Datum) (so : Ordering) → Ordered s a b Less → Ordered s b c Less → Ordered s a c so → so ≡ Less
order_on s ds a b c so h k j =
    on_by s ds a c so ((ranked max_levels s).on a b c (order_told s ds a b Less h) (order_told s ds b c Less k)) (order_told s ds a c so j)

pub order_equal : (s : StoreView) → KeysAreDistinct s → (a b : Datum) (so : Ordering) (same : Bool) → Ordered s a b so → Equals s a b same → (so ≡ Equal) ↔ (same ≡ true)
order_equal s ds a b so same h k = equal_by s ds a b so same (order_told s ds a b so h) (alike_told s a b same k)

-- bools, integers and strings have an order each
pub bools_ordered : (s : StoreView) (a b : Bool) → Ordered s (boolean a) (boolean b) (bool_cmp a b)
unfolding bool_ordered
bools_ordered s a b = record { steps = 1; left = 0; is = refl }

pub ints_ordered : (s : StoreView) (a b : ℤ) → Ordered s (int a) (int b) (int_cmp a b)
unfolding int_ordered
ints_ordered s a b = record { steps = 1; left = 0; is = refl }

pub strings_ordered : (s : StoreView) (a b : List ℕ) → Ordered s (string a) (string b) (slice_cmp nat_cmp a b)
unfolding string_ordered
strings_ordered s a b = record { steps = 1; left = 0; is = refl }

-- the first unequal values decide
module _ (l : ℕ) (s : StoreView) where
  decided_first : (x y : Datum) (xs ys : List Datum) (n : ℕ) (t : Looked Bool) → equal_at l s n x y ≡ t
      → ((k : ℕ) (o : Ordering) (m : ℕ) → lists_ordered (equal_at l s) (ordered_at l s) k xs ys ≡ Ok (o, m) → Decided s l xs ys o)
      → (o : Ordering) (m : ℕ) → at_first t (λ k. lists_ordered (equal_at l s) (ordered_at l s) k xs ys) (λ k. ordered_at l s k x y) ≡ Ok (o, m) → Decided s l (x ∷ xs) (y ∷ ys) o
  decided_first x y xs ys n (Ok (true, k)) t rest o m e = later (record { steps = n; left = k; is = t }) (rest k o m e)
  decided_first x y xs ys n (Ok (false, k)) t rest o m e = here (record { steps = n; left = k; is = t }) (record { steps = k; left = m; is = e })
  decided_first x y xs ys n (Err f) t rest o m e = absurd (cc)

  pub decided : (xs ys : List Datum) (n : ℕ) (o : Ordering) (m : ℕ) → lists_ordered (equal_at l s) (ordered_at l s) n xs ys ≡ Ok (o, m) → Decided s l xs ys o
  decided [] [] n o m e = subst (λ (p : Ordering). Decided s l [] [] p) (order_of Equal o n m e) both_end
  decided [] (y ∷ ys) n o m e = subst (λ (p : Ordering). Decided s l [] (y ∷ ys) p) (order_of Less o n m e) first_ends
  decided (x ∷ xs) [] n o m e = subst (λ (p : Ordering). Decided s l (x ∷ xs) [] p) (order_of Greater o n m e) second_ends
  decided (x ∷ xs) (y ∷ ys) n o m e = decided_first x y xs ys n (equal_at l s n x y) refl (λ k p j f. decided xs ys k p j f) o m e

  pub tuples_decided : (a b : Data) (n : ℕ) (o : Ordering) (m : ℕ) → ordered_at (suc l) s n (tuple a) (tuple b) ≡ Ok (o, m) → Decided s l (list_of a) (list_of b) o
  unfolding tuple_ordered
  tuples_decided a b zero o m e = absurd (cc)
  tuples_decided a b (suc n) o m e = decided (list_of a) (list_of b) n o m e

  cells_decided : (c d : Option Contents) (xs ys : List Datum) → c ≡ Some (items xs) → d ≡ Some (items ys) → (n : ℕ) (o : Ordering) (m : ℕ)
      → cells_ordered (equal_at l s) (ordered_at l s) n c d ≡ Ok (o, m) → Decided s l xs ys o
  cells_decided c d xs ys at bt n o m e =
      decided xs ys n o m (ap (λ (f : Option Contents). cells_ordered (equal_at l s) (ordered_at l s) n f (Some (items ys))) (sym at) ∙ (ap (cells_ordered (equal_at l s) (ordered_at l s) n c) (sym bt) ∙ e))

  pub lists_decided : (a i b j : ℕ) (xs ys : List Datum) → content_at s a i ≡ Some (items xs) → content_at s b j ≡ Some (items ys) → (n : ℕ) (o : Ordering) (m : ℕ)
      → ordered_at (suc l) s n (cell a i) (cell b j) ≡ Ok (o, m) → Decided s l xs ys o
  unfolding cell_ordered
  lists_decided a i b j xs ys at bt zero o m e = absurd (cc)
  lists_decided a i b j xs ys at bt (suc n) o m e = cells_decided (content_at s a i) (content_at s b j) xs ys at bt n o m e

pub tuples_by_place : (s : StoreView) (a b : Data) (o : Ordering) → Ordered s (tuple a) (tuple b) o → Decided s 63 (list_of a) (list_of b) o
tuples_by_place s a b o h = tuples_decided 63 s a b h.steps o h.left h.is

pub lists_by_place : (s : StoreView) (a i b j : ℕ) (xs ys : List Datum) (o : Ordering) → content_at s a i ≡ Some (items xs) → content_at s b j ≡ Some (items ys) → Ordered s (cell a i) (cell b j) o → Decided s 63 xs ys o
lists_by_place s a i b j xs ys o at bt h = lists_decided 63 s a i b j xs ys at bt h.steps o h.left h.is
