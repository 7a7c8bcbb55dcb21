-- Alike: equal, as a relation of values that knows of no steps, and is built level by level as the definition of `==`.
use Rattle.std.proofs.Common.{◌≡◌, ◌∙◌, ◌==◌, ◌&&◌, ℕ, zero, suc, Bool, true, false, cond, List, [], ◌∷◌, length, Option, Some, None, Ok, Err, refl, sym, ap}
use Rattle.std.specs.Ordering.{int_eq}
use Rattle.std.proofs.Math.Nat.{suc_inj}
use Rattle.std.specs.Cmp.Lexicographic.{pointwise}
use lib.Pointwise.{bytes_decides}
use Rattle.bq_value.specs.Datum.{Datum, none, boolean, int, string, tuple, range, cell, function, built_in, rule_function, attribute, list_of}
use Rattle.bq_value.specs.Range.{ranges_same}
use Rattle.bq_value_datum.specs.AttributeSame.{same_attribute}
use Rattle.bq_value.specs.Same.{bool_same, same_built_in, same_rule_function}
use Rattle.bq_value.specs.SameLaws.{attributes_decide, built_ins_decide, rule_functions_decide}
use Rattle.bq_value.specs.Contents.{Contents, items, pairs, rule}
use Rattle.bq_value.specs.Cells.{StoreView, content_at}
use Rattle.bq_value.specs.Pairs.{found}
use Rattle.bq_value.specs.Looked.{Looked}
use Rattle.bq_value.specs.Equality.{Compares, if_so, all_equal, lists_equal, partner_equal, pairs_equal, contents_equal, cells_equal, parts_equal, equal_at}
use Rattle.bq_value.proofs.Ranges.{both_true, all_true, nat_true, nat_test, int_true, int_test, AreRangesSame, ranges_from, ranges_test}

abbrev pub Relates : Type 1
Relates = Datum → Datum → Type 0

abbrev pub AllAlike : Relates → List Datum → List Datum → Type 0
AllAlike r [] [] = Unit {0}
AllAlike r (x ∷ xs) (y ∷ ys) = r x y × AllAlike r xs ys
AllAlike r _ _ = ⊥

abbrev pub PartnerAlike : Relates → Datum → Option Datum → Type 0
PartnerAlike r v None = ⊥
PartnerAlike r v (Some w) = r v w

-- each value with the one that the other has for the key
abbrev pub PartnersAlike : Relates → List (Datum × Datum) → List (Datum × Datum) → Type 0
PartnersAlike r [] qs = Unit {0}
PartnersAlike r (p ∷ ps) qs = PartnerAlike r p.1 (found p.0 qs) × PartnersAlike r ps qs

-- what two cells hold, where this says that they are one cell
abbrev pub ContentsAlike : Relates → Type 0 → Contents → Contents → Type 0
ContentsAlike r one (items xs) (items ys) = AllAlike r xs ys
ContentsAlike r one (pairs ps) (pairs qs) = (length ps ≡ length qs) × PartnersAlike r ps qs
ContentsAlike r one (rule c) (rule d) = one
ContentsAlike r one _ _ = ⊥

abbrev pub CellsAlike : Relates → Type 0 → Option Contents → Option Contents → Type 0
CellsAlike r one (Some c) (Some d) = ContentsAlike r one c d
CellsAlike r one None None = Unit {0}
CellsAlike r one _ _ = ⊥

abbrev pub PartsAlike : Relates → StoreView → Datum → Datum → Type 0
PartsAlike r s none none = Unit {0}
PartsAlike r s (boolean a) (boolean b) = a ≡ b
PartsAlike r s (int a) (int b) = a ≡ b
PartsAlike r s (string a) (string b) = a ≡ b
PartsAlike r s (tuple a) (tuple b) = AllAlike r (list_of a) (list_of b)
PartsAlike r s (range a b c) (range d e f) = AreRangesSame a b c d e f
PartsAlike r s (cell a i) (cell b j) = CellsAlike r ((a ≡ b) × (i ≡ j)) (content_at s a i) (content_at s b j)
PartsAlike r s (function a i m vs) (function b j o ws) = (a ≡ b) × (i ≡ j)
PartsAlike r s (built_in a) (built_in b) = a ≡ b
PartsAlike r s (rule_function f) (rule_function g) = f ≡ g
PartsAlike r s (attribute a) (attribute b) = a ≡ b
PartsAlike r s _ _ = ⊥

abbrev pub Alike : ℕ → StoreView → Relates
Alike zero s a b = ⊥
Alike (suc l) s a b = PartsAlike (Alike l s) s a b

bool_true : (a b : Bool) → bool_same a b ≡ true → a ≡ b
bool_true true b h = sym h
bool_true false false h = refl
bool_true false true h = absurd (cc)

pub bool_test : (a : Bool) → bool_same a a ≡ true
bool_test true = refl
bool_test false = refl

-- what a yes or a no says of a statement
abbrev pub Tells : Bool → Type 0 → Type 0
Tells true p = p
Tells false p = p → ⊥

-- a test whose yes says it, and that says yes to it
tested : {p : Type 0} (t : Bool) → (t ≡ true → p) → (p → t ≡ true) → (b : Bool) → t ≡ b → Tells b p
tested true yes_says says_yes true e = yes_says refl
tested true yes_says says_yes false e = absurd (cc)
tested false yes_says says_yes true e = absurd (cc)
tested false yes_says says_yes false e = λ h. absurd (apart (says_yes h))
  where
    apart : false ≡ true → ⊥
    apart e = cc

abbrev says : Looked Bool → Bool
says (Ok p) = p.0
says (Err kind) = false

abbrev pub answered : Bool → ℕ → Looked Bool
answered b n = Ok (b, n)

pub answer_of : (a b : Bool) (m n : ℕ) → answered a m ≡ answered b n → a ≡ b
answer_of a b m n e = ap says e

not_both : true ≡ false → ⊥
not_both e = cc

no_yes : {p : Type 0} (m n : ℕ) → answered false m ≡ answered true n → p
no_yes m n e = absurd (not_both (sym (answer_of false true m n e)))

yes_no : {p : Type 0} (m n : ℕ) → answered true m ≡ answered false n → p
yes_no m n e = absurd (not_both (answer_of true false m n e))

-- one statement after another
both_tell : {p q : Type 0} (r : Looked Bool) (next : ℕ → Looked Bool) → ((b : Bool) (k : ℕ) → r ≡ Ok (b, k) → Tells b p) → ((b : Bool) (k m : ℕ) → next k ≡ Ok (b, m) → Tells b q)
    → (b : Bool) (m : ℕ) → if_so r next ≡ Ok (b, m) → Tells b (p × q)
both_tell (Ok (true, k)) next first rest true m e = (first true k refl, rest true k m e)
both_tell (Ok (true, k)) next first rest false m e = λ h. rest false k m e h.1
both_tell (Ok (false, k)) next first rest true m e = no_yes k m e
both_tell (Ok (false, k)) next first rest false m e = λ h. first false k refl h.0
both_tell (Err f) next first rest b m e = absurd (cc)

-- a test, and then what comes after a yes
cond_tells : {p : Type 0} (t : Bool) (n : ℕ) (r : Looked Bool) → (p → t ≡ true) → (t ≡ true → (b : Bool) (m : ℕ) → r ≡ Ok (b, m) → Tells b p)
    → (b : Bool) (m : ℕ) → cond t r (Ok (false, n)) ≡ Ok (b, m) → Tells b p
cond_tells true n r need then b m e = then refl b m e
cond_tells false n r need then true m e = no_yes n m e
cond_tells false n r need then false m e = λ h. apart (need h)
  where
    apart : false ≡ true → ⊥
    apart e = cc

pub alike_length : (r : Relates) (xs ys : List Datum) → AllAlike r xs ys → length xs ≡ length ys
alike_length r [] [] h = refl
alike_length r (x ∷ xs) (y ∷ ys) h = ap suc (alike_length r xs ys h.1)
alike_length r [] (y ∷ ys) h = absurd h
alike_length r (x ∷ xs) [] h = absurd h

module _ (same : Compares) (r : Relates) (h : (n m : ℕ) (x y : Datum) (b : Bool) → same n x y ≡ Ok (b, m) → Tells b (r x y)) where
  all_tell : (xs ys : List Datum) → length xs ≡ length ys → (n : ℕ) (b : Bool) (m : ℕ) → all_equal same n xs ys ≡ Ok (b, m) → Tells b (AllAlike r xs ys)
  all_tell [] [] l n true m e = tt
  all_tell [] [] l n false m e = yes_no n m e
  all_tell [] (y ∷ ys) l n b m e = absurd (cc)
  all_tell (x ∷ xs) [] l n b m e = absurd (cc)
  all_tell (x ∷ xs) (y ∷ ys) l n b m e =
      both_tell (same n x y) (λ k. all_equal same k xs ys) (λ c k f. h n k x y c f) (λ c k j f. all_tell xs ys (suc_inj l) k c j f) b m e

  lists_tell : (xs ys : List Datum) (n : ℕ) (b : Bool) (m : ℕ) → lists_equal same n xs ys ≡ Ok (b, m) → Tells b (AllAlike r xs ys)
  lists_tell xs ys n b m e =
      cond_tells (length xs == length ys) n (all_equal same n xs ys) (λ a. nat_test (length xs) (length ys) (alike_length r xs ys a))
      (λ t c k f. all_tell xs ys (nat_true (length xs) (length ys) t) n c k f) b m e

  partner_tells : (v : Datum) (w : Option Datum) (n : ℕ) (b : Bool) (m : ℕ) → partner_equal same n v w ≡ Ok (b, m) → Tells b (PartnerAlike r v w)
  partner_tells v None n true m e = no_yes n m e
  partner_tells v None n false m e = λ a. a
  partner_tells v (Some w) n b m e = h n m v w b e

  pairs_tell : (ps qs : List (Datum × Datum)) (n : ℕ) (b : Bool) (m : ℕ) → pairs_equal same n ps qs ≡ Ok (b, m) → Tells b (PartnersAlike r ps qs)
  pairs_tell [] qs n true m e = tt
  pairs_tell [] qs n false m e = yes_no n m e
  pairs_tell (p ∷ ps) qs n b m e =
      both_tell (partner_equal same n p.1 (found p.0 qs)) (λ k. pairs_equal same k ps qs) (λ c k f. partner_tells p.1 (found p.0 qs) n c k f) (λ c k j f. pairs_tell ps qs k c j f) b m e

  of_as_many : (ps qs : List (Datum × Datum)) → length ps ≡ length qs → (b : Bool) → Tells b (PartnersAlike r ps qs) → Tells b ((length ps ≡ length qs) × PartnersAlike r ps qs)
  of_as_many ps qs l true t = (l, t)
  of_as_many ps qs l false t = λ a. t a.1

  -- values of unlike types
  unlike : {p : Type 0} (n : ℕ) → (p → ⊥) → (b : Bool) (m : ℕ) → answered false n ≡ answered b m → Tells b p
  unlike n never true m e = no_yes n m e
  unlike n never false m e = never

  -- two cells, of which a test says whether they are one
  module _ (one : Bool) (is_one : Type 0) (test : (b : Bool) → one ≡ b → Tells b is_one) where
    contents_tell : (c d : Contents) (n : ℕ) (b : Bool) (m : ℕ) → contents_equal same n one c d ≡ Ok (b, m) → Tells b (ContentsAlike r is_one c d)
    contents_tell (items xs) (items ys) n b m e = lists_tell xs ys n b m e
    contents_tell (pairs ps) (pairs qs) n b m e =
        cond_tells (length ps == length qs) n (pairs_equal same n ps qs) (λ a. nat_test (length ps) (length qs) a.0)
        (λ t c k f. of_as_many ps qs (nat_true (length ps) (length qs) t) c (pairs_tell ps qs n c k f)) b m e
    contents_tell (rule c) (rule d) n b m e = test b (answer_of one b n m e)
    contents_tell _ _ n b m e = unlike n (λ a. a) b m e

    cells_tell : (c d : Option Contents) (n : ℕ) (b : Bool) (m : ℕ) → cells_equal same n one c d ≡ Ok (b, m) → Tells b (CellsAlike r is_one c d)
    cells_tell (Some c) (Some d) n b m e = contents_tell c d n b m e
    cells_tell None None n true m e = tt
    cells_tell None None n false m e = yes_no n m e
    cells_tell (Some c) None n b m e = unlike n (λ a. a) b m e
    cells_tell None (Some d) n b m e = unlike n (λ a. a) b m e

  -- two numbers by their tests
  two_tell : (a b i j : ℕ) (c : Bool) → ((a == b) && (i == j)) ≡ c → Tells c ((a ≡ b) × (i ≡ j))
  two_tell a b i j c e =
      tested ((a == b) && (i == j)) (λ f. let p = both_true (a == b) (i == j) f in (nat_true a b p.0, nat_true i j p.1)) (λ f. all_true (a == b) (i == j) (nat_test a b f.0) (nat_test i j f.1)) c e

  parts_tell : (s : StoreView) (x y : Datum) (n : ℕ) (b : Bool) (m : ℕ) → parts_equal same s n x y ≡ Ok (b, m) → Tells b (PartsAlike r s x y)
  parts_tell s none none n true m e = tt
  parts_tell s none none n false m e = yes_no n m e
  parts_tell s (boolean a) (boolean b) n c m e = tested (bool_same a b) (bool_true a b) (λ f. ap (λ z. bool_same a z) (sym f) ∙ bool_test a) c (answer_of (bool_same a b) c n m e)
  parts_tell s (int a) (int b) n c m e = tested (int_eq a b) (int_true a b) (int_test a b) c (answer_of (int_eq a b) c n m e)
  parts_tell s (string a) (string b) n c m e = tested (pointwise ◌==◌ a b) (bytes_decides a b).0 (bytes_decides a b).1 c (answer_of (pointwise ◌==◌ a b) c n m e)
  parts_tell s (tuple a) (tuple b) n c m e = lists_tell (list_of a) (list_of b) n c m e
  parts_tell s (range a b c) (range d e f) n t m k = tested (ranges_same a b c d e f) (ranges_from a b c d e f) (ranges_test a b c d e f) t (answer_of (ranges_same a b c d e f) t n m k)
  parts_tell s (cell a i) (cell b j) n c m e = cells_tell ((a == b) && (i == j)) ((a ≡ b) × (i ≡ j)) (two_tell a b i j) (content_at s a i) (content_at s b j) n c m e
  parts_tell s (function a i t vs) (function b j u ws) n c m e = two_tell a b i j c (answer_of ((a == b) && (i == j)) c n m e)
  parts_tell s (built_in a) (built_in b) n c m e = tested (same_built_in a b) (built_ins_decide a b).0 (built_ins_decide a b).1 c (answer_of (same_built_in a b) c n m e)
  parts_tell s (rule_function f) (rule_function g) n c m e =
      tested (same_rule_function f g) (rule_functions_decide f g).0 (rule_functions_decide f g).1 c (answer_of (same_rule_function f g) c n m e)
  parts_tell s (attribute a) (attribute b) n c m e =
      tested (same_attribute a b) (attributes_decide a b).0 (attributes_decide a b).1 c (answer_of (same_attribute a b) c n m e)
  parts_tell s _ _ n c m e = unlike n (λ h. h) c m e

-- what `==` answers says whether they are alike
pub equality_tells : (l : ℕ) (s : StoreView) (n m : ℕ) (x y : Datum) (b : Bool) → equal_at l s n x y ≡ Ok (b, m) → Tells b (Alike l s x y)
equality_tells zero s zero m x y b e = absurd (cc)
equality_tells zero s (suc n) m x y b e = absurd (cc)
equality_tells (suc l) s zero m x y b e = absurd (cc)
equality_tells (suc l) s (suc n) m x y b e = parts_tell (equal_at l s) (Alike l s) (λ k j v w c f. equality_tells l s k j v w c f) s x y n b m e
