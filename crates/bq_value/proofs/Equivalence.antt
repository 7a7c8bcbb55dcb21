-- Being alike is an equivalence, where the keys of dicts are distinct.
use Rattle.std.proofs.Common.{◌≡◌, ◌∙◌, ◌==◌, ℕ, zero, suc, ℤ, Bool, true, false, cond, ◌&&◌, List, [], ◌∷◌, length, Option, Some, None, Ok, Err, refl, sym, subst, arith}
use Rattle.std.specs.Cmp.Lexicographic.{pointwise}
use Rattle.std.specs.Ordering.{int_eq}
use lib.Pointwise.{bytes_decides}
use Rattle.bq_value.specs.Datum.{BuiltIn, Datum, none, boolean, int, string, tuple, range, cell, function, built_in, rule_function, attribute, Data, list_of}
use Rattle.bq_value.specs.Range.{ranges_same}
use Rattle.bq_predeclared.specs.declared.rule_function.RuleFunction.{RuleFunction}
use Rattle.bq_value_datum.specs.AttributeSame.{same_attribute}
use Rattle.bq_value_datum.specs.declared.attribute.Attribute.{Attribute}
use Rattle.bq_value.specs.Same.{bool_same, same_built_in, same_rule_function}
use Rattle.bq_value.specs.SameLaws.{attributes_decide, built_ins_decide, rule_functions_decide}
use Rattle.bq_value.specs.Contents.{Contents, items, pairs, rule, KeysDiffer}
use Rattle.bq_value.specs.Cells.{StoreView, content_at}
use Rattle.bq_value.specs.Pairs.{found, HasNoKeyTwice}
use Rattle.bq_value.specs.Looked.{Looked}
use Rattle.bq_value.specs.Equality.{Compares, if_so, all_equal, lists_equal, partner_equal, pairs_equal, contents_equal, cells_equal, parts_equal, equal_at}
use Rattle.bq_value.specs.WalkLaws.{KeysAreDistinct}
use Rattle.bq_value.proofs.Ranges.{AreRangesSame, ranges_back, ranges_on, ranges_itself, nat_test, int_test, all_true}
use Rattle.bq_value.proofs.Alike.{Relates, AllAlike, PartnerAlike, PartnersAlike, ContentsAlike, CellsAlike, PartsAlike, Alike, bool_test, answer_of, Tells, equality_tells}
use Rattle.bq_value.proofs.Keyed.{HavePartners, partners, partners_all, flipped}

module _ (r : Relates) (back : (x y : Datum) → r x y → r y x) where
  all_back : (xs ys : List Datum) → AllAlike r xs ys → AllAlike r ys xs
  all_back [] [] h = tt
  all_back (x ∷ xs) (y ∷ ys) h = (back x y h.0, all_back xs ys h.1)
  all_back [] (y ∷ ys) h = absurd h
  all_back (x ∷ xs) [] h = absurd h

  turned : (v : Datum) (o : Option Datum) → PartnerAlike (λ a b. r b a) v o → PartnerAlike r v o
  turned v None h = h
  turned v (Some w) h = back w v h

  module _ (p q : Type 0) (turn : p → q) where
    contents_back : (c d : Contents) → KeysDiffer (Some c) → KeysDiffer (Some d) → ContentsAlike r p c d → ContentsAlike r q d c
    contents_back (items xs) (items ys) dc dd h = all_back xs ys h
    contents_back (pairs ps) (pairs qs) dc dd h =
        (sym h.0, partners_all r qs ps dd (λ k w e. turned w (found k ps) (flipped r ps qs dc (partners r ps qs h.1) (omega (arith, h.0)) k w e)))
    contents_back (rule c) (rule d) dc dd h = turn h
    contents_back _ _ dc dd h = absurd h

    cells_back : (c d : Option Contents) → KeysDiffer c → KeysDiffer d → CellsAlike r p c d → CellsAlike r q d c
    cells_back (Some c) (Some d) dc dd h = contents_back c d dc dd h
    cells_back None None dc dd h = tt
    cells_back (Some c) None dc dd h = absurd h
    cells_back None (Some d) dc dd h = absurd h

  parts_back : (s : StoreView) → KeysAreDistinct s → (x y : Datum) → PartsAlike r s x y → PartsAlike r s y x
  parts_back s ds none none h = tt
  parts_back s ds (boolean a) (boolean b) h = sym h
  parts_back s ds (int a) (int b) h = sym h
  parts_back s ds (string a) (string b) h = sym h
  parts_back s ds (tuple a) (tuple b) h = all_back (list_of a) (list_of b) h
  parts_back s ds (range a b c) (range d e f) h = ranges_back a b c d e f h
  parts_back s ds (cell a i) (cell b j) h =
      cells_back ((a ≡ b) × (i ≡ j)) ((b ≡ a) × (j ≡ i)) (λ e. (sym e.0, sym e.1)) (content_at s a i) (content_at s b j) (ds a i) (ds b j) h
  parts_back s ds (function a i t vs) (function b j u ws) h = (sym h.0, sym h.1)
  parts_back s ds (built_in a) (built_in b) h = sym h
  parts_back s ds (rule_function f) (rule_function g) h = sym h
  parts_back s ds (attribute a) (attribute b) h = sym h
  parts_back s ds _ _ h = absurd h

pub alike_back : (l : ℕ) (s : StoreView) → KeysAreDistinct s → (x y : Datum) → Alike l s x y → Alike l s y x
alike_back zero s ds x y h = h
alike_back (suc l) s ds x y h = parts_back (Alike l s) (alike_back l s ds) s ds x y h

module _ (r : Relates) (on : (x y z : Datum) → r x y → r y z → r x z) where
  all_on : (xs ys zs : List Datum) → AllAlike r xs ys → AllAlike r ys zs → AllAlike r xs zs
  all_on [] [] zs h k = k
  all_on (x ∷ xs) (y ∷ ys) (z ∷ zs) h k = (on x y z h.0 k.0, all_on xs ys zs h.1 k.1)
  all_on (x ∷ xs) (y ∷ ys) [] h k = absurd k
  all_on [] (y ∷ ys) zs h k = absurd h
  all_on (x ∷ xs) [] zs h k = absurd h

  partner_on : (v : Datum) (o p : Option Datum) → PartnerAlike r v o → ((w : Datum) → o ≡ Some w → PartnerAlike r w p) → PartnerAlike r v p
  partner_on v None p h k = absurd h
  partner_on v (Some w) None h k = k w refl
  partner_on v (Some w) (Some u) h k = on v w u h (k w refl)

  partners_on : (ps qs rs : List (Datum × Datum)) → PartnersAlike r ps qs → HavePartners r qs rs → PartnersAlike r ps rs
  partners_on [] qs rs h k = tt
  partners_on (p ∷ ps) qs rs h k = (partner_on p.1 (found p.0 qs) (found p.0 rs) h.0 (λ w e. k p.0 w e), partners_on ps qs rs h.1 k)

  module _ (p q s : Type 0) (chain : p → q → s) where
    contents_on : (c d e : Contents) → ContentsAlike r p c d → ContentsAlike r q d e → ContentsAlike r s c e
    contents_on (items xs) (items ys) (items zs) h k = all_on xs ys zs h k
    contents_on (pairs ps) (pairs qs) (pairs rs) h k = (h.0 ∙ k.0, partners_on ps qs rs h.1 (partners r qs rs k.1))
    contents_on (rule c) (rule d) (rule e) h k = chain h k
    contents_on (items xs) (items ys) (pairs rs) h k = absurd k
    contents_on (items xs) (items ys) (rule e) h k = absurd k
    contents_on (pairs ps) (pairs qs) (items zs) h k = absurd k
    contents_on (pairs ps) (pairs qs) (rule e) h k = absurd k
    contents_on (rule c) (rule d) (items zs) h k = absurd k
    contents_on (rule c) (rule d) (pairs rs) h k = absurd k
    contents_on (items xs) (pairs qs) e h k = absurd h
    contents_on (items xs) (rule d) e h k = absurd h
    contents_on (pairs ps) (items ys) e h k = absurd h
    contents_on (pairs ps) (rule d) e h k = absurd h
    contents_on (rule c) (items ys) e h k = absurd h
    contents_on (rule c) (pairs qs) e h k = absurd h

    none_on : (e : Option Contents) → CellsAlike r q None e → CellsAlike r s None e
    none_on None k = tt
    none_on (Some e) k = absurd k

    cells_on : (c d e : Option Contents) → CellsAlike r p c d → CellsAlike r q d e → CellsAlike r s c e
    cells_on (Some c) (Some d) (Some e) h k = contents_on c d e h k
    cells_on None None e h k = none_on e k
    cells_on (Some c) (Some d) None h k = absurd k
    cells_on (Some c) None e h k = absurd h
    cells_on None (Some d) e h k = absurd h

  tuple_on : (s : StoreView) (a b : Data) (z : Datum) → AllAlike r (list_of a) (list_of b) → PartsAlike r s (tuple b) z → PartsAlike r s (tuple a) z
  tuple_on s a b (tuple c) h k = all_on (list_of a) (list_of b) (list_of c) h k
  tuple_on s a b _ h k = absurd k

  range_on : (s : StoreView) (a b c d e f : ℤ) (z : Datum) → AreRangesSame a b c d e f → PartsAlike r s (range d e f) z → PartsAlike r s (range a b c) z
  range_on s a b c d e f (range g i j) h k = ranges_on a b c d e f g i j h k
  range_on s a b c d e f _ h k = absurd k

  cell_on : (s : StoreView) (a i b j : ℕ) (z : Datum) → CellsAlike r ((a ≡ b) × (i ≡ j)) (content_at s a i) (content_at s b j) → PartsAlike r s (cell b j) z → PartsAlike r s (cell a i) z
  cell_on s a i b j (cell c m) h k =
      cells_on ((a ≡ b) × (i ≡ j)) ((b ≡ c) × (j ≡ m)) ((a ≡ c) × (i ≡ m)) (λ e f. (e.0 ∙ f.0, e.1 ∙ f.1)) (content_at s a i) (content_at s b j) (content_at s c m) h k
  cell_on s a i b j _ h k = absurd k

  function_on : (s : StoreView) (a i b j : ℕ) (t u : List ℕ) (vs ws : Data) (z : Datum) → (a ≡ b) × (i ≡ j) → PartsAlike r s (function b j u ws) z → PartsAlike r s (function a i t vs) z
  function_on s a i b j t u vs ws (function c m v xs) h k = (h.0 ∙ k.0, h.1 ∙ k.1)
  function_on s a i b j t u vs ws _ h k = absurd k

  parts_on : (s : StoreView) (x y z : Datum) → PartsAlike r s x y → PartsAlike r s y z → PartsAlike r s x z
  parts_on s none none z h k = k
  parts_on s (boolean a) (boolean b) z h k = subst (λ (c : Bool). PartsAlike r s (boolean c) z) (sym h) k
  parts_on s (int a) (int b) z h k = subst (λ (c : ℤ). PartsAlike r s (int c) z) (sym h) k
  parts_on s (string a) (string b) z h k = subst (λ (c : List ℕ). PartsAlike r s (string c) z) (sym h) k
  parts_on s (tuple a) (tuple b) z h k = tuple_on s a b z h k
  parts_on s (range a b c) (range d e f) z h k = range_on s a b c d e f z h k
  parts_on s (cell a i) (cell b j) z h k = cell_on s a i b j z h k
  parts_on s (function a i t vs) (function b j u ws) z h k = function_on s a i b j t u vs ws z h k
  parts_on s (built_in a) (built_in b) z h k = subst (λ (c : BuiltIn). PartsAlike r s (built_in c) z) (sym h) k
  parts_on s (rule_function f) (rule_function g) z h k = subst (λ (c : RuleFunction). PartsAlike r s (rule_function c) z) (sym h) k
  parts_on s (attribute a) (attribute b) z h k = subst (λ (c : Attribute). PartsAlike r s (attribute c) z) (sym h) k
  parts_on s _ _ z h k = absurd h

pub alike_on : (l : ℕ) (s : StoreView) (x y z : Datum) → Alike l s x y → Alike l s y z → Alike l s x z
alike_on zero s x y z h k = h
alike_on (suc l) s x y z h k = parts_on (Alike l s) (alike_on l s) s x y z h k

-- a value that is compared with itself
itself_then : (r : Looked Bool) (next : ℕ → Looked Bool) → ((b : Bool) (k : ℕ) → r ≡ Ok (b, k) → b ≡ true) → ((k : ℕ) (b : Bool) (m : ℕ) → next k ≡ Ok (b, m) → b ≡ true)
    → (b : Bool) (m : ℕ) → if_so r next ≡ Ok (b, m) → b ≡ true
itself_then (Ok (true, k)) next first rest b m e = rest k b m e
itself_then (Ok (false, k)) next first rest b m e = absurd (no (first false k refl))
  where
    no : false ≡ true → ⊥
    no h = cc
itself_then (Err f) next first rest b m e = absurd (cc)

cond_itself : (t : Bool) → t ≡ true → (n : ℕ) (r : Looked Bool) → ((b : Bool) (m : ℕ) → r ≡ Ok (b, m) → b ≡ true) → (b : Bool) (m : ℕ) → cond t r (Ok (false, n)) ≡ Ok (b, m) → b ≡ true
cond_itself true t n r then b m e = then b m e
cond_itself false t n r then b m e = absurd (cc)

module _ (same : Compares) (h : (n m : ℕ) (x : Datum) (b : Bool) → same n x x ≡ Ok (b, m) → b ≡ true) where
  all_itself : (xs : List Datum) (n : ℕ) (b : Bool) (m : ℕ) → all_equal same n xs xs ≡ Ok (b, m) → b ≡ true
  all_itself [] n b m e = sym (answer_of true b n m e)
  all_itself (x ∷ xs) n b m e = itself_then (same n x x) (λ k. all_equal same k xs xs) (λ c k f. h n k x c f) (λ k c j f. all_itself xs k c j f) b m e

  lists_itself : (xs : List Datum) (n : ℕ) (b : Bool) (m : ℕ) → lists_equal same n xs xs ≡ Ok (b, m) → b ≡ true
  lists_itself xs n b m e = cond_itself (length xs == length xs) (nat_test (length xs) (length xs) refl) n (all_equal same n xs xs) (λ c k f. all_itself xs n c k f) b m e

  partner_itself : (v : Datum) (o : Option Datum) → PartnerAlike (λ x y. x ≡ y) v o → (n : ℕ) (b : Bool) (m : ℕ) → partner_equal same n v o ≡ Ok (b, m) → b ≡ true
  partner_itself v None p n b m e = absurd p
  partner_itself v (Some w) p n b m e = h n m v b (subst (λ (z : Datum). same n v z ≡ Ok (b, m)) (sym p) e)

  pairs_itself : (ps qs : List (Datum × Datum)) → PartnersAlike (λ x y. x ≡ y) ps qs → (n : ℕ) (b : Bool) (m : ℕ) → pairs_equal same n ps qs ≡ Ok (b, m) → b ≡ true
  pairs_itself [] qs a n b m e = sym (answer_of true b n m e)
  pairs_itself (p ∷ ps) qs a n b m e =
      itself_then (partner_equal same n p.1 (found p.0 qs)) (λ k. pairs_equal same k ps qs) (λ c k f. partner_itself p.1 (found p.0 qs) a.0 n c k f) (λ k c j f. pairs_itself ps qs a.1 k c j f) b m e

  own_partners : (ps : List (Datum × Datum)) → HasNoKeyTwice ps → PartnersAlike (λ x y. x ≡ y) ps ps
  own_partners ps d = partners_all (λ x y. x ≡ y) ps ps d (λ k v e. subst (λ (o : Option Datum). PartnerAlike (λ x y. x ≡ y) v o) (sym e) refl)

  contents_itself : (one : Bool) → one ≡ true → (c : Contents) → KeysDiffer (Some c) → (n : ℕ) (b : Bool) (m : ℕ) → contents_equal same n one c c ≡ Ok (b, m) → b ≡ true
  contents_itself one so (items xs) d n b m e = lists_itself xs n b m e
  contents_itself one so (pairs ps) d n b m e =
      cond_itself (length ps == length ps) (nat_test (length ps) (length ps) refl) n (pairs_equal same n ps ps) (λ c k f. pairs_itself ps ps (own_partners ps d) n c k f) b m e
  contents_itself one so (rule c) d n b m e = sym (answer_of one b n m e) ∙ so

  cells_itself : (one : Bool) → one ≡ true → (c : Option Contents) → KeysDiffer c → (n : ℕ) (b : Bool) (m : ℕ) → cells_equal same n one c c ≡ Ok (b, m) → b ≡ true
  cells_itself one so None d n b m e = sym (answer_of true b n m e)
  cells_itself one so (Some c) d n b m e = contents_itself one so c d n b m e

  one_itself : (a i : ℕ) → ((a == a) && (i == i)) ≡ true
  one_itself a i = all_true (a == a) (i == i) (nat_test a a refl) (nat_test i i refl)

  parts_itself : (s : StoreView) → KeysAreDistinct s → (x : Datum) (n : ℕ) (b : Bool) (m : ℕ) → parts_equal same s n x x ≡ Ok (b, m) → b ≡ true
  parts_itself s ds none n b m e = sym (answer_of true b n m e)
  parts_itself s ds (boolean a) n b m e = sym (answer_of (bool_same a a) b n m e) ∙ bool_test a
  parts_itself s ds (int a) n b m e = sym (answer_of (int_eq a a) b n m e) ∙ int_test a a refl
  parts_itself s ds (string a) n b m e = sym (answer_of (pointwise ◌==◌ a a) b n m e) ∙ (bytes_decides a a).1 refl
  parts_itself s ds (tuple a) n b m e = lists_itself (list_of a) n b m e
  parts_itself s ds (range a b c) n t m e = sym (answer_of (ranges_same a b c a b c) t n m e) ∙ ranges_itself a b c
  parts_itself s ds (cell a i) n b m e = cells_itself ((a == a) && (i == i)) (one_itself a i) (content_at s a i) (ds a i) n b m e
  parts_itself s ds (function a i t vs) n b m e = sym (answer_of ((a == a) && (i == i)) b n m e) ∙ one_itself a i
  parts_itself s ds (built_in a) n b m e = sym (answer_of (same_built_in a a) b n m e) ∙ (built_ins_decide a a).1 refl
  parts_itself s ds (rule_function f) n b m e = sym (answer_of (same_rule_function f f) b n m e) ∙ (rule_functions_decide f f).1 refl
  parts_itself s ds (attribute a) n b m e = sym (answer_of (same_attribute a a) b n m e) ∙ (attributes_decide a a).1 refl

pub equal_itself : (l : ℕ) (s : StoreView) → KeysAreDistinct s → (n m : ℕ) (x : Datum) (b : Bool) → equal_at l s n x x ≡ Ok (b, m) → b ≡ true
equal_itself zero s ds zero m x b e = absurd (cc)
equal_itself zero s ds (suc n) m x b e = absurd (cc)
equal_itself (suc l) s ds zero m x b e = absurd (cc)
equal_itself (suc l) s ds (suc n) m x b e = parts_itself (equal_at l s) (λ k j v c f. equal_itself l s ds k j v c f) s ds x n b m e

-- two statements, one of which is the other's answer
tells_one : {p q : Type 0} (x y : Bool) → (p → q) → (q → p) → Tells x p → Tells y q → x ≡ y
tells_one true true there back h k = refl
tells_one false false there back h k = refl
tells_one true false there back h k = absurd (k (there h))
tells_one false true there back h k = absurd (h (back k))

pub equal_back : (l : ℕ) (s : StoreView) → KeysAreDistinct s → (n m k j : ℕ) (x y : Datum) (b c : Bool) → equal_at l s n x y ≡ Ok (b, m) → equal_at l s k y x ≡ Ok (c, j) → b ≡ c
equal_back l s ds n m k j x y b c e f =
    tells_one b c (alike_back l s ds x y) (alike_back l s ds y x) (equality_tells l s n m x y b e) (equality_tells l s k j y x c f)

told : {p : Type 0} (x : Bool) → p → Tells x p → x ≡ true
told true h t = refl
told false h t = absurd (t h)

pub equal_on : (l : ℕ) (s : StoreView) (n m k j i g : ℕ) (x y z : Datum) (b : Bool) → equal_at l s n x y ≡ Ok (true, m) → equal_at l s k y z ≡ Ok (true, j) → equal_at l s i x z ≡ Ok (b, g) → b ≡ true
equal_on l s n m k j i g x y z b e f d =
    told b (alike_on l s x y z (equality_tells l s n m x y true e) (equality_tells l s k j y z true f)) (equality_tells l s i g x z b d)
