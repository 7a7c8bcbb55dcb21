-- String literals and their faults, in words of their items.
use Rattle.std.proofs.Common.{◌≡◌, ℕ, ◌+◌, List, [], ◌∷◌, ◌++◌, length, take, drop, Bool, true, false, cond, Option, Some, None, is_none, IsSome, refl, sym, ap, ◌∙◌, subst, arith, append_assoc, length-append}
use Rattle.std.specs.Prelude.{is_some}
use Rattle.std.proofs.lemmas.List.{take_at, drop_at}
use Rattle.bq_source.specs.declared.string_literal.Quoting.{Quoting}
use Rattle.bq_base.specs.declared.fault.TokenFault.{TokenFault}
use Rattle.bq_base.specs.declared.fault.TokenFault.TheVariants as f
use Rattle.bq_source.specs.Lexis.{newlines}
use Rattle.bq_source.specs.StringLiteral.{opening, opening_len, quotes_len, BodyItem, spelling, bad_escape, scan_string, prefix, prefix_by, quotes, quotes_by, IsLiteral, IsOpenLiteral, literal_of, AllStand}
use Rattle.bq_source.specs.Spelling.{IsMisspelled, bad_byte, bad_int, open_string, bad_escape as escape_fault}
use Rattle.bq_source.proofs.LiteralLaws.{opens_is, found_literal, literal_found, found_open, open_found, no_bad, literal_long}
use Rattle.bq_source.proofs.Values.{spelled}
use Rattle.bq_source_lexer.specs.Strings.{IsString, HasBadEscape}

-- ---- the bytes of a literal

opening_by : (r t : Bool) (a : ℕ) → length (prefix_by r ++ quotes_by t a) ≡ cond r 1 0 + cond t 3 1
opening_by true true a = refl
opening_by true false a = refl
opening_by false true a = refl
opening_by false false a = refl

opening_long : (q : Quoting) → length (prefix q ++ quotes q) ≡ opening_len q
opening_long q = opening_by q.raw q.triple q.quote

-- its opening and what its items spell, and what comes after them
module _ (q : Quoting) (text : List ℕ) (is : List BodyItem) (rest : List ℕ) (h : IsLiteral q text is rest) where
  cut_open : text ≡ (prefix q ++ quotes q) ++ (spelling is ++ (quotes q ++ rest))
  cut_open = h.opens.spelled ∙ ap (λ xs. prefix q ++ (quotes q ++ xs)) (spelled h.cut) ∙ sym (append_assoc (prefix q) (quotes q) (spelling is ++ (quotes q ++ rest)))

  cut_whole : text ≡ (((prefix q ++ quotes q) ++ spelling is) ++ quotes q) ++ rest
  cut_whole =
      let o : List ℕ = prefix q ++ quotes q in
      cut_open ∙ sym (append_assoc o (spelling is) (quotes q ++ rest)) ∙ sym (append_assoc (o ++ spelling is) (quotes q) rest)

same_end : (xs ys r t text : List ℕ) → text ≡ xs ++ r → text ≡ ys ++ t → length r ≡ length t → r ≡ t
same_end xs ys r t text e h long =
    let a = ap length e ∙ length-append xs r in
    let b = ap length h ∙ length-append ys t in
    let same : length xs ≡ length ys = omega arith in
    sym (drop_at xs r (length ys) same) ∙ ap (drop (length ys)) (sym e ∙ h) ∙ drop_at ys t (length ys) refl

-- ---- bad escapes

bad_first : (at : ℕ) (i : BodyItem) (is : List BodyItem) → i.value ≡ None → bad_escape at (i ∷ is) ≡ Some at
bad_first at i is e = rw e refl

-- the first item that stands for nothing
record FirstBad (start at : ℕ) (is : List BodyItem) : Type 0 where
  before : List BodyItem
  item : BodyItem
  after : List BodyItem
  whole : is ≡ before ++ item ∷ after
  stand : AllStand before
  bad : item.value ≡ None
  place : at ≡ start + length (spelling before)

some_of : {A : Type 0} (o : Option A) → is_none o ≡ false → IsSome o
some_of None h = cc
some_of (Some x) h = refl

none_of : {A : Type 0} (o : Option A) → is_none o ≡ true → o ≡ None
none_of None h = refl
none_of (Some x) h = cc

one_more : (start at : ℕ) (i : BodyItem) (is : List BodyItem) → is_none i.value ≡ false → FirstBad (start + length i.spelled) at is → FirstBad start at (i ∷ is)
one_more start at i is stands b = record {
  before = i ∷ b.before;
  item = b.item;
  after = b.after;
  whole = ap (λ xs. i ∷ xs) b.whole;
  stand = (some_of i.value stands, b.stand);
  bad = b.bad;
  place = let p = b.place in let l = length-append i.spelled (spelling b.before) in omega arith;
}

found_bad : (start at : ℕ) (i : BodyItem) (is : List BodyItem) (b : Bool) → is_none i.value ≡ b → cond b (Some start) (bad_escape (start + length i.spelled) is) ≡ Some at
    → (bad_escape (start + length i.spelled) is ≡ Some at → FirstBad (start + length i.spelled) at is) → FirstBad start at (i ∷ is)
found_bad start at i is true e g later = let here : start ≡ at = cc in record { before = []; item = i; after = is; whole = refl; stand = tt; bad = none_of i.value e; place = omega arith }
found_bad start at i is false e g later = one_more start at i is e (later g)

first_bad : (start at : ℕ) (is : List BodyItem) → bad_escape start is ≡ Some at → FirstBad start at is
first_bad start at [] h = cc
first_bad start at (i ∷ is) h = found_bad start at i is (is_none i.value) refl h (first_bad (start + length i.spelled) at is)

passes : (at : ℕ) (i : BodyItem) (is : List BodyItem) → IsSome i.value → bad_escape at (i ∷ is) ≡ bad_escape (at + length i.spelled) is
passes at i is some = by_value i.value refl some
  where
    by_value : (o : Option (List ℕ)) → i.value ≡ o → IsSome o → bad_escape at (i ∷ is) ≡ bad_escape (at + length i.spelled) is
    by_value None e s = cc
    by_value (Some v) e s = rw e refl

bad_after : (at : ℕ) (before : List BodyItem) (i : BodyItem) (after : List BodyItem) → AllStand before → i.value ≡ None
    → bad_escape at (before ++ i ∷ after) ≡ Some (at + length (spelling before))
bad_after at [] i after stand bad = let e : at ≡ at + 0 = omega arith in bad_first at i after bad ∙ ap Some e
bad_after at (j ∷ js) i after stand bad =
    let l = length-append j.spelled (spelling js) in
    let e : (at + length j.spelled) + length (spelling js) ≡ at + length (j.spelled ++ spelling js) = omega arith in
    passes at j (js ++ i ∷ after) stand.0 ∙ bad_after (at + length j.spelled) js i after stand.1 bad ∙ ap Some e

one_stands : (at : ℕ) (i : BodyItem) (is : List BodyItem) (b : Bool) → is_none i.value ≡ b → cond b (Some at) (bad_escape (at + length i.spelled) is) ≡ None
    → (bad_escape (at + length i.spelled) is ≡ None → AllStand is) → AllStand (i ∷ is)
one_stands at i is true e g later = cc
one_stands at i is false e g later = (some_of i.value e, later g)

all_stand : (at : ℕ) (is : List BodyItem) → bad_escape at is ≡ None → AllStand is
all_stand at [] h = tt
all_stand at (i ∷ is) h = one_stands at i is (is_none i.value) refl h (all_stand (at + length i.spelled) is)

spelling_append : (xs ys : List BodyItem) → spelling (xs ++ ys) ≡ spelling xs ++ spelling ys
spelling_append [] ys = refl
spelling_append (x ∷ xs) ys = ap (λ bs. x.spelled ++ bs) (spelling_append xs ys) ∙ sym (append_assoc x.spelled (spelling xs) (spelling ys))

-- ---- strings

pub string : (bs rest : List ℕ) → scan_string (bs ++ rest) ≡ Some (record { len = length bs; bad_escape = None }) → IsString bs rest
string bs rest h =
    let g = found_literal (bs ++ rest) (record { len = length bs; bad_escape = None }) h in
    let len : length bs ≡ opening_len g.quoting + length (spelling g.is) + quotes_len g.quoting = ap (λ l. l.len) g.means in
    let none : bad_escape (opening_len g.quoting) g.is ≡ None = sym (ap (λ l. l.bad_escape) g.means) in
    let all = literal_long g.literal in
    let two = length-append bs rest in
    let q = g.quoting in
    let same : g.rest ≡ rest = same_end (((prefix q ++ quotes q) ++ spelling g.is) ++ quotes q) bs g.rest rest (bs ++ rest) (cut_whole q (bs ++ rest) g.is g.rest g.literal) refl (omega arith) in
    let P : List ℕ → Type 0 = λ xs. IsLiteral g.quoting (bs ++ rest) g.is xs in
    record { quoting = g.quoting; is = g.is; literal = subst P same g.literal; stand = all_stand (opening_len g.quoting) g.is none }

pub strings : (bs rest : List ℕ) → IsString bs rest → scan_string (bs ++ rest) ≡ Some (record { len = length bs; bad_escape = None })
strings bs rest h =
    let all = literal_long h.literal in
    let two = length-append bs rest in
    let len : opening_len h.quoting + length (spelling h.is) + quotes_len h.quoting ≡ length bs = omega arith in
    let none = no_bad h.is (opening_len h.quoting) h.stand in
    literal_found h.quoting (bs ++ rest) h.is rest h.literal ∙ (λ i. Some (record { len = len i; bad_escape = none i }))

-- ---- faults

is_some_of : {A : Type 0} (o : Option A) → is_some o ≡ true → IsSome o
is_some_of None h = cc
is_some_of (Some x) h = refl

unended_by : {text : List ℕ} {kind : TokenFault} {lines : ℕ} → IsMisspelled text kind lines → kind ≡ f.OpenString → IsOpenLiteral text × (lines ≡ 0)
unended_by (bad_byte some h) e = cc
unended_by (bad_int bs rest h g v) e = cc
unended_by {text = text} (open_string begins none) e = (found_open text (is_some_of (opening text) begins) none, refl)
unended_by (escape_fault l at h g) e = cc

pub unended : (text : List ℕ) (lines : ℕ) → IsMisspelled text f.OpenString lines → IsOpenLiteral text × (lines ≡ 0)
unended text lines h = unended_by h refl

pub open_fault : (text : List ℕ) → IsOpenLiteral text → IsMisspelled text f.OpenString 0
open_fault text h = open_string (ap is_some (opens_is text h.quoting h.body h.opens)) (open_found text h)

-- what comes before a place among the items
module _ (q : Quoting) (text : List ℕ) (before : List BodyItem) (item : BodyItem) (after : List BodyItem) (rest : List ℕ) (h : IsLiteral q text (before ++ item ∷ after) rest) where
  taken : take (opening_len q + length (spelling before)) text ≡ prefix q ++ quotes q ++ spelling before
  taken =
      let o : List ℕ = prefix q ++ quotes q in
      let tail : List ℕ = spelling (item ∷ after) ++ (quotes q ++ rest) in
      let items : spelling (before ++ item ∷ after) ++ (quotes q ++ rest) ≡ spelling before ++ tail =
      ap (λ xs. xs ++ (quotes q ++ rest)) (spelling_append before (item ∷ after)) ∙ append_assoc (spelling before) (spelling (item ∷ after)) (quotes q ++ rest) in
      let all : text ≡ (o ++ spelling before) ++ tail = cut_open q text (before ++ item ∷ after) rest h ∙ ap (λ xs. o ++ xs) items ∙ sym (append_assoc o (spelling before) tail) in
      let a = opening_long q in
      let b = length-append o (spelling before) in
      let n : ℕ = opening_len q + length (spelling before) in
      let long : length (o ++ spelling before) ≡ n = omega arith in
      ap (take n) all ∙ take_at (o ++ spelling before) tail n long

escape_by : {text : List ℕ} {kind : TokenFault} {lines : ℕ} → IsMisspelled text kind lines → kind ≡ f.Escape → HasBadEscape text lines
escape_by (bad_byte some h) e = cc
escape_by (bad_int bs rest h g v) e = cc
escape_by (open_string begins none) e = cc
escape_by {text = text} (escape_fault l at h g) e =
    let found = found_literal text l h in
    let bad : bad_escape (opening_len found.quoting) found.is ≡ Some at = sym (ap (λ x. x.bad_escape) found.means) ∙ g in
    let b = first_bad (opening_len found.quoting) at found.is bad in
    let P : List BodyItem → Type 0 = λ xs. IsLiteral found.quoting text xs found.rest in
    let literal = subst P b.whole found.literal in
    record {
      quoting = found.quoting;
      before = b.before;
      item = b.item;
      after = b.after;
      rest = found.rest;
      literal = literal;
      stand = b.stand;
      bad = b.bad;
      line = ap (λ n. newlines (take n text)) b.place ∙ ap newlines (taken found.quoting text b.before b.item b.after found.rest literal);
    }

pub escape : (text : List ℕ) (lines : ℕ) → IsMisspelled text f.Escape lines → HasBadEscape text lines
escape text lines h = escape_by h refl

pub escapes : (text : List ℕ) (lines : ℕ) → HasBadEscape text lines → IsMisspelled text f.Escape lines
escapes text lines h =
    let at : ℕ = opening_len h.quoting + length (spelling h.before) in
    let is : List BodyItem = h.before ++ h.item ∷ h.after in
    let P : ℕ → Type 0 = λ n. IsMisspelled text f.Escape n in
    let line : newlines (take at text) ≡ lines = ap newlines (taken h.quoting text h.before h.item h.after h.rest h.literal) ∙ sym h.line in
    subst P line (escape_fault (literal_of h.quoting is) at (literal_found h.quoting text is h.rest h.literal) (bad_after (opening_len h.quoting) h.before h.item h.after h.stand h.bad))
