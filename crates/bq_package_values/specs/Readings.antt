-- Readings of values: what a value is as an integer, a truth value or strings, in words beside the functions of `Texts.antt` and of this page;
-- and that the functions find just what the words say. A type takes what one reading finds (`Types.antt`).
use Rattle.std.specs.Prelude.{◌≡◌, ◌↔◌, ◌==◌, ◌++◌, ℕ, ℤ, pos, negsuc, Bool, true, false, List, [], ◌∷◌, map, Option, Some, Result, Ok, Err, if◌then◌else◌, refl}
use Rattle.std.proofs.Common.{◌∙◌, sym, ap, subst, append_assoc, append-nil, arith}
use Rattle.std.proofs.lemmas.Bool.Decides.{nat_tests}
use Rattle.bq_base.specs.declared.fault.EvalFault.{EvalFault}
use Rattle.bq_value.specs.Datum.{Datum, Data, boolean, int, string, tuple, cell, list_of}
use Rattle.bq_value.specs.Contents.{Contents, items}
use Rattle.bq_value.specs.Cells.{StoreView, content_at}
use Rattle.bq_package_values.specs.Steps.{and_then, in_turn}
use Rattle.bq_package_values.specs.Texts.{text_in, elements_in, all_texts, texts_in}

-- ---- functions

-- an integer
abbrev pub int_in : EvalFault → Datum → Result ℤ EvalFault
int_in why (int n) = Ok n
int_in why _ = Err why

-- an integer as a bool: 0 or 1
abbrev pub bool_of : EvalFault → ℤ → Result Bool EvalFault
bool_of why (pos n) = if n == 0 then Ok false else (if n == 1 then Ok true else Err why)
bool_of why (negsuc n) = Err why

-- `True` or `False`, which may be written 1 and 0
abbrev pub bool_in : EvalFault → Datum → Result Bool EvalFault
bool_in why (boolean b) = Ok b
bool_in why (int n) = bool_of why n
bool_in why _ = Err why

-- ---- words

-- `True` or `False`, or 1 or 0
pub data IsTruth (v : Datum) (b : Bool) : Type 0 where
  truth : v ≡ boolean b → IsTruth v b
  zero_is_false : v ≡ int (pos 0) → b ≡ false → IsTruth v b
  one_is_true : v ≡ int (pos 1) → b ≡ true → IsTruth v b

-- the value is a tuple or a list of these values
pub data IsListOf (store : StoreView) (v : Datum) (vs : List Datum) : Type 0 where
  is_tuple : (elements : Data) → v ≡ tuple elements → list_of elements ≡ vs → IsListOf store v vs
  is_list : (home number : ℕ) → v ≡ cell home number → content_at store home number ≡ Some (items vs) → IsListOf store v vs

-- the value is a tuple or a list of these strings
abbrev pub IsListOfTexts : StoreView → Datum → List (List ℕ) → Type 0
IsListOfTexts store v texts = (vs : List Datum) × IsListOf store v vs × (vs ≡ map string texts)

-- the answer is just what has the property; where nothing has, it is this fault
pub record Reads {A : Type 0} (why : EvalFault) (r : Result A EvalFault) (P : A → Type 0) : Type 0 where
  pub found : (x : A) → (r ≡ Ok x) ↔ P x
  pub refused : (e : EvalFault) → r ≡ Err e → e ≡ why

-- ---- readings one after another

module _ {A B : Type 0} (why : EvalFault) (r : Result A EvalFault) (P : A → Type 0) (next : A → Result B EvalFault) (Q : A → B → Type 0) where
  then_found : (q : Result A EvalFault) → r ≡ q → Reads why r P → ((x : A) → Reads why (next x) (Q x)) → (y : B) → and_then q next ≡ Ok y → (x : A) × P x × Q x y
  then_found (Ok x) e first later y h = (x, (first.found x).0 e, ((later x).found y).0 h)
  then_found (Err k) e first later y h = absurd (cc)

  then_refused : (q : Result A EvalFault) → r ≡ q → Reads why r P → ((x : A) → Reads why (next x) (Q x)) → (e : EvalFault) → and_then q next ≡ Err e → e ≡ why
  then_refused (Ok x) at first later e h = (later x).refused e h
  then_refused (Err k) at first later e h = let same : k ≡ e = cc in first.refused e (at ∙ ap Err same)

  pub reads_then : Reads why r P → ((x : A) → Reads why (next x) (Q x)) → Reads why (and_then r next) (λ y. (x : A) × P x × Q x y)
  reads_then first later = record {
    found = λ y. (
      then_found r refl first later y,
      λ h. ap (λ (q : Result A EvalFault). and_then q next) ((first.found h.0).1 h.1) ∙ ((later h.0).found y).1 h.2,
    );
    refused = then_refused r refl first later;
  }

module _ {A : Type 0} (why : EvalFault) where
  same_ok : (q : Result A EvalFault) (x y : A) → q ≡ Ok x → q ≡ Ok y → y ≡ x
  same_ok q x y h e = let same : x ≡ y = cc in sym same

  no_fault : (q : Result A EvalFault) (x : A) (e : EvalFault) → q ≡ Ok x → q ≡ Err e → e ≡ why
  no_fault q x e h k = absurd (cc)

  pub reads_itself : (x : A) → Reads why (Ok x) (λ y. y ≡ x)
  reads_itself x = record { found = λ y. (same_ok (Ok x) x y refl, λ e. ap Ok (sym e)); refused = λ e. no_fault (Ok x) x e refl }

-- what is made of what is read
pub made : {A B : Type 0} {why : EvalFault} {r : Result A EvalFault} {P : A → Type 0} (f : A → B) → Reads why r P → Reads why (and_then r (λ x. Ok (f x))) (λ y. (x : A) × P x × (y ≡ f x))
made {A} {B} {why} {r} {P} f first = reads_then why r P (λ x. Ok (f x)) (λ x y. y ≡ f x) first (λ x. reads_itself why (f x))

-- ---- strings

text_found : (why : EvalFault) (v : Datum) (s : List ℕ) → text_in why v ≡ Ok s → v ≡ string s
unfolding text_in
text_found why (string t) s h = let e : t ≡ s = cc in ap string e
text_found why _ s h = absurd (cc)

text_given : (why : EvalFault) (v : Datum) (s : List ℕ) → v ≡ string s → text_in why v ≡ Ok s
unfolding text_in
text_given why v s e = subst (λ (z : Datum). text_in why z ≡ Ok s) (sym e) refl

text_refused : (why : EvalFault) (v : Datum) (e : EvalFault) → text_in why v ≡ Err e → e ≡ why
unfolding text_in
text_refused why (string t) e h = absurd (cc)
text_refused why _ e h = cc

-- `text_in` gives the string that a value is, and for any other value the fault `why`
pub text_reads : (why : EvalFault) (v : Datum) → Reads why (text_in why v) (λ s. v ≡ string s)
text_reads why v = record { found = λ s. (text_found why v s, text_given why v s); refused = text_refused why v }

-- ---- integers and truth values

int_found : (why : EvalFault) (v : Datum) (n : ℤ) → int_in why v ≡ Ok n → v ≡ int n
int_found why (int m) n h = let e : m ≡ n = cc in ap int e
int_found why _ n h = absurd (cc)

int_given : (why : EvalFault) (v : Datum) (n : ℤ) → v ≡ int n → int_in why v ≡ Ok n
int_given why v n e = subst (λ (z : Datum). int_in why z ≡ Ok n) (sym e) refl

int_refused : (why : EvalFault) (v : Datum) (e : EvalFault) → int_in why v ≡ Err e → e ≡ why
int_refused why (int m) e h = absurd (cc)
int_refused why _ e h = cc

-- `int_in` gives the integer that a value is, and for any other value the fault `why`
pub int_reads : (why : EvalFault) (v : Datum) → Reads why (int_in why v) (λ n. v ≡ int n)
int_reads why v = record { found = λ n. (int_found why v n, int_given why v n); refused = int_refused why v }

-- what 0, 1 and other numbers are as truth values
data IsBit (why : EvalFault) (n : ℕ) : Type 0 where
  is_zero : n ≡ 0 → bool_of why (pos n) ≡ Ok false → IsBit why n
  is_one : n ≡ 1 → bool_of why (pos n) ≡ Ok true → IsBit why n
  is_more : bool_of why (pos n) ≡ Err why → IsBit why n

bits : (why : EvalFault) (n : ℕ) → IsBit why n
bits why n = by (n == 0) refl
  where
    by_one : (b : Bool) → (n == 1) ≡ b → (n == 0) ≡ false → IsBit why n
    by_one true e positive = let is : n ≡ 1 = grind (arith, nat_tests) in is_one is (rw (positive, e) refl)
    by_one false e positive = is_more (rw (positive, e) refl)

    by : (b : Bool) → (n == 0) ≡ b → IsBit why n
    by true e = let is : n ≡ 0 = grind (arith, nat_tests) in is_zero is (rw e refl)
    by false e = by_one (n == 1) refl e

number_found : (why : EvalFault) (n : ℕ) (b : Bool) → IsBit why n → bool_of why (pos n) ≡ Ok b → IsTruth (int (pos n)) b
number_found why n b (is_zero e is) h = let same : b ≡ false = cc (is, h) in zero_is_false (ap (λ m. int (pos m)) e) same
number_found why n b (is_one e is) h = let same : b ≡ true = cc (is, h) in one_is_true (ap (λ m. int (pos m)) e) same
number_found why n b (is_more is) h = let no : ⊥ = cc (is, h) in absurd no

number_refused : (why : EvalFault) (n : ℕ) (e : EvalFault) → IsBit why n → bool_of why (pos n) ≡ Err e → e ≡ why
number_refused why n e (is_zero at is) h = let no : ⊥ = cc (is, h) in absurd no
number_refused why n e (is_one at is) h = let no : ⊥ = cc (is, h) in absurd no
number_refused why n e (is_more is) h = cc (is, h)

bool_found : (why : EvalFault) (v : Datum) (b : Bool) → bool_in why v ≡ Ok b → IsTruth v b
bool_found why (boolean c) b h = let e : c ≡ b = cc in truth (ap boolean e)
bool_found why (int (pos n)) b h = number_found why n b (bits why n) h
bool_found why (int (negsuc n)) b h = absurd (cc)
bool_found why _ b h = absurd (cc)

bool_given : (why : EvalFault) (v : Datum) (b : Bool) → IsTruth v b → bool_in why v ≡ Ok b
bool_given why v b (truth e) = subst (λ (z : Datum). bool_in why z ≡ Ok b) (sym e) refl
bool_given why v b (zero_is_false e is) = subst (λ (z : Datum). bool_in why z ≡ Ok b) (sym e) (ap Ok (sym is))
bool_given why v b (one_is_true e is) = subst (λ (z : Datum). bool_in why z ≡ Ok b) (sym e) (ap Ok (sym is))

bool_refused : (why : EvalFault) (v : Datum) (e : EvalFault) → bool_in why v ≡ Err e → e ≡ why
bool_refused why (boolean c) e h = absurd (cc)
bool_refused why (int (pos n)) e h = number_refused why n e (bits why n) h
bool_refused why (int (negsuc n)) e h = cc
bool_refused why _ e h = cc

-- `bool_in` gives true for `True` and 1, false for `False` and 0, and for any other value the fault `why`
pub bool_reads : (why : EvalFault) (v : Datum) → Reads why (bool_in why v) (IsTruth v)
bool_reads why v = record { found = λ b. (bool_found why v b, bool_given why v b); refused = bool_refused why v }

-- ---- lists of strings

-- the elements of a list, or this fault
abbrev pub listed : EvalFault → Option Contents → Result (List Datum) EvalFault
listed why o = elim o [ Some (items vs) ↦ Ok vs | _ ↦ Err why ]

module _ (why : EvalFault) (store : StoreView) where
  list_found : (o : Option Contents) (vs : List Datum) → listed why o ≡ Ok vs → o ≡ Some (items vs)
  list_found (Some (items ws)) vs h = let e : ws ≡ vs = cc in ap (λ zs. Some (items zs)) e
  list_found _ vs h = absurd (cc)

  list_refused : (o : Option Contents) (e : EvalFault) → listed why o ≡ Err e → e ≡ why
  list_refused (Some (items ws)) e h = absurd (cc)
  list_refused _ e h = cc

  elements_found : (v : Datum) (vs : List Datum) → elements_in why store v ≡ Ok vs → IsListOf store v vs
  elements_found (tuple xs) vs h = let e : list_of xs ≡ vs = cc in is_tuple xs refl e
  elements_found (cell m n) vs h = is_list m n refl (list_found (content_at store m n) vs h)
  elements_found _ vs h = absurd (cc)

  elements_given : (v : Datum) (vs : List Datum) → IsListOf store v vs → elements_in why store v ≡ Ok vs
  elements_given v vs (is_tuple xs e l) = subst (λ (z : Datum). elements_in why store z ≡ Ok vs) (sym e) (ap Ok l)
  elements_given v vs (is_list m n e c) = subst (λ (z : Datum). elements_in why store z ≡ Ok vs) (sym e) (ap (listed why) c)

  elements_refused : (v : Datum) (e : EvalFault) → elements_in why store v ≡ Err e → e ≡ why
  elements_refused (tuple xs) e h = absurd (cc)
  elements_refused (cell m n) e h = list_refused (content_at store m n) e h
  elements_refused _ e h = cc

  pub elements_reads : (v : Datum) → Reads why (elements_in why store v) (IsListOf store v)
  elements_reads v = record { found = λ vs. (elements_found v vs, elements_given v vs); refused = elements_refused v }

abbrev Texts : Type 0
Texts = List (List ℕ)

module _ (why : EvalFault) where
  -- what is read of each value, after what is there
  more_found : (done ss : Texts) (vs : List Datum) → in_turn (text_in why) done vs ≡ Ok ss → (ts : Texts) × (ss ≡ done ++ ts) × (vs ≡ map string ts)
  unfolding in_turn
  more_found done ss [] h = let e : done ≡ ss = cc in ([], sym e ∙ sym (append-nil done), refl)
  more_found done ss (v ∷ vs) h = by (text_in why v) refl h (λ s. more_found (done ++ s ∷ []) ss vs)
    where
      by : (q : Result (List ℕ) EvalFault) → text_in why v ≡ q → and_then q (λ s. in_turn (text_in why) (done ++ s ∷ []) vs) ≡ Ok ss
          → ((s : List ℕ) → in_turn (text_in why) (done ++ s ∷ []) vs ≡ Ok ss → (ts : Texts) × (ss ≡ (done ++ s ∷ []) ++ ts) × (vs ≡ map string ts))
          → (ts : Texts) × (ss ≡ done ++ ts) × (v ∷ vs ≡ map string ts)
      by (Err k) e h later = absurd (cc)
      by (Ok s) e h later =
          let r = later s h in
          let first : v ≡ string s = text_found why v s e in
          (s ∷ r.0, r.1 ∙ append_assoc done (s ∷ []) r.0, λ i. first i ∷ r.2 i)

  more_given : (done ts : Texts) → in_turn (text_in why) done (map string ts) ≡ Ok (done ++ ts)
  unfolding in_turn
  more_given done [] = ap Ok (sym (append-nil done))
  more_given done (t ∷ ts) =
      ap (λ (q : Result (List ℕ) EvalFault). and_then q (λ s. in_turn (text_in why) (done ++ s ∷ []) (map string ts))) (text_given why (string t) t refl)
      ∙ (more_given (done ++ t ∷ []) ts ∙ ap Ok (append_assoc done (t ∷ []) ts))

  more_refused : (done : Texts) (vs : List Datum) (e : EvalFault) → in_turn (text_in why) done vs ≡ Err e → e ≡ why
  unfolding in_turn
  more_refused done [] e h = absurd (cc)
  more_refused done (v ∷ vs) e h = by (text_in why v) refl h (λ s. more_refused (done ++ s ∷ []) vs e)
    where
      by : (q : Result (List ℕ) EvalFault) → text_in why v ≡ q → and_then q (λ s. in_turn (text_in why) (done ++ s ∷ []) vs) ≡ Err e
          → ((s : List ℕ) → in_turn (text_in why) (done ++ s ∷ []) vs ≡ Err e → e ≡ why) → e ≡ why
      by (Err k) at h later = let same : k ≡ e = cc in text_refused why v e (at ∙ ap Err same)
      by (Ok s) at h later = later s h

  texts_found : (vs : List Datum) (ss : Texts) → all_texts why vs ≡ Ok ss → vs ≡ map string ss
  unfolding all_texts
  texts_found vs ss h = let r = more_found [] ss vs h in r.2 ∙ ap (map string) (sym r.1)

  texts_given : (vs : List Datum) (ss : Texts) → vs ≡ map string ss → all_texts why vs ≡ Ok ss
  unfolding all_texts
  texts_given vs ss e = ap (in_turn (text_in why) []) e ∙ more_given [] ss

  pub all_texts_reads : (vs : List Datum) → Reads why (all_texts why vs) (λ ss. vs ≡ map string ss)
  unfolding all_texts
  all_texts_reads vs = record { found = λ ss. (texts_found vs ss, texts_given vs ss); refused = more_refused [] vs }

-- `texts_in` gives the strings that a tuple or list has, and for any other value the fault `why`
pub texts_reads : (why : EvalFault) (store : StoreView) (v : Datum) → Reads why (texts_in why store v) (IsListOfTexts store v)
unfolding texts_in
texts_reads why store v = reads_then why (elements_in why store v) (IsListOf store v) (all_texts why) (λ vs ss. vs ≡ map string ss) (elements_reads why store v) (all_texts_reads why)
