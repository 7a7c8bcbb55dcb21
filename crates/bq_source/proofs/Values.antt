-- The value of a whole string literal.
use Rattle.std.proofs.Common.{◌≡◌, ℕ, ◌+◌, ◌-◌, ◌≤◌, inl, inr, List, [], ◌∷◌, ◌++◌, Bool, true, false, ◌&&◌, eqb, cond, Option, Some, None, is_none, IsSome, unwrap_or, length, take, drop, refl, sym, ap, ◌∙◌, subst, arith, append_assoc, Result, Ok, Err, IfOk}
use Rattle.std.proofs.lemmas.Bool.{and_parts, eqb-true, false≢true}
use Rattle.std.proofs.lemmas.List.{take_at, length-drop}
use Rattle.std.specs.Prelude.{option_map}
use Rattle.std.specs.List.{list_all}
use Rattle.bq_source.specs.declared.string_literal.Quoting.{Quoting}
use Rattle.bq_source.specs.StringLiteral.{opening, opening_len, quotes_len, BodyItem, items, spelling, values, bad_escape, literal_from, scan_string, string_value, stays, IsItem, plain, newline, escaped, joined, no_escape, raw_byte, raw_newline, Items, over, more}
use Rattle.bq_source.proofs.Cases.{is_whole, string_value_by, scan_string_by}
use Rattle.bq_source.proofs.Items.{scanned}
use Rattle.bq_source.proofs.Bodies.{EndsAt, ends_at}

by_opening : (o : Option Quoting) (s : List ℕ) → IsSome (cond (is_whole (scan_string_by o s) (length s)) (string_value_by o s) None) → IsSome o
by_opening None s some = cc
by_opening (Some q) s some = refl

pub opened : (s : List ℕ) → IsSome (string_value s) → IsSome (opening s)
unfolding string_value scan_string
opened s some = by_opening (opening s) s some

-- what is known of a spelling with a value
pub record Whole (q : Quoting) (s : List ℕ) : Type 0 where
  pub is : List BodyItem
  pub read : items q 0 (drop (opening_len q) s) ≡ Some is
  pub long : opening_len q + length (spelling is) + quotes_len q ≡ length s
  pub valid : bad_escape (opening_len q) is ≡ None
  pub value : string_value s ≡ Some (values is)

value_at : (s : List ℕ) (q : Quoting) → opening s ≡ Some q
    → string_value s ≡ cond (is_whole (literal_from q (opening_len q) None (items q 0 (drop (opening_len q) s))) (length s)) (option_map values (items q 0 (drop (opening_len q) s))) None
unfolding string_value
value_at s q e =
    ap (λ l. cond (is_whole l (length s)) (string_value_by (opening s) s) None) (scanned s q e)
    ∙ ap (λ o. cond (is_whole (literal_from q (opening_len q) None (items q 0 (drop (opening_len q) s))) (length s)) (string_value_by o s) None) e

none_is : (o : Option ℕ) → is_none o ≡ true → o ≡ None
none_is None e = refl
none_is (Some k) e = cc

no_value : (s : List ℕ) → string_value s ≡ None → IsSome (string_value s) → ⊥
no_value s e some = let P : Option (List ℕ) → Type 0 = λ o. IsSome o in false≢true (subst P e some)

tested : (s : List ℕ) (q : Quoting) (is : List BodyItem) (test : Bool) → items q 0 (drop (opening_len q) s) ≡ Some is
    → (eqb (opening_len q + length (spelling is) + quotes_len q) (length s) && is_none (bad_escape (opening_len q) is)) ≡ test
    → string_value s ≡ cond test (Some (values is)) None → IsSome (string_value s) → Whole q s
tested s q is false read e value some = absurd (no_value s value some)
tested s q is true read e value some =
    let parts = and_parts (eqb (opening_len q + length (spelling is) + quotes_len q) (length s)) (is_none (bad_escape (opening_len q) is)) e in
    record {
      is = is;
      read = read;
      long = eqb-true (opening_len q + length (spelling is) + quotes_len q) (length s) parts.0;
      valid = none_is (bad_escape (opening_len q) is) parts.1;
      value = value;
    }

whole_by : (s : List ℕ) (q : Quoting) (os : Option (List BodyItem)) → items q 0 (drop (opening_len q) s) ≡ os
    → string_value s ≡ cond (is_whole (literal_from q (opening_len q) None os) (length s)) (option_map values os) None → IsSome (string_value s) → Whole q s
whole_by s q None read value some = absurd (no_value s value some)
whole_by s q (Some is) read value some = tested s q is _ read refl value some

pub whole : (s : List ℕ) (q : Quoting) → opening s ≡ Some q → IsSome (string_value s) → Whole q s
whole s q e some = whole_by s q (items q 0 (drop (opening_len q) s)) refl (value_at s q e) some

-- a list of items is the text up to the rest
pub spelled : {q : Quoting} {text rest : List ℕ} {is : List BodyItem} → Items q text is rest → text ≡ spelling is ++ rest
spelled over = refl
spelled {rest = rest} (more {i = i} {is = is} e item h) = e ∙ ap (λ xs. i.spelled ++ xs) (spelled h) ∙ sym (append_assoc i.spelled (spelling is) rest)

all_parts : (p : ℕ → Bool) (xs ys : List ℕ) → list_all p (xs ++ ys) ≡ true → (list_all p xs ≡ true) × (list_all p ys ≡ true)
all_parts p [] ys e = (refl, e)
all_parts p (x ∷ xs) ys e =
    let parts = and_parts (p x) (list_all p (xs ++ ys)) e in
    let later = all_parts p xs ys parts.1 in
    (rw (parts.0) (later.0), later.1)

item_stays : {q : Quoting} {s after : List ℕ} {value : Option (List ℕ)} → IsItem q s after value → list_all (stays q.raw) s ≡ true → value ≡ Some s
item_stays (plain other open_ none) h = refl
item_stays (newline (inl e) triple) h = ap Some (sym e)
item_stays (newline (inr e) triple) h = absurd (false≢true (rw e at h))
item_stays (escaped raw e) h = absurd (false≢true (rw raw at h))
item_stays (joined raw e) h = absurd (false≢true (rw raw at h))
item_stays (no_escape raw e none) h = absurd (false≢true (rw raw at h))
item_stays (raw_byte raw none) h = refl
item_stays (raw_newline raw (inl e)) h = ap (λ n. Some (92 ∷ n)) (sym e)
item_stays (raw_newline raw (inr e)) h = absurd (false≢true (rw (raw, e) at h))

items_stay : {q : Quoting} {text rest : List ℕ} {is : List BodyItem} → Items q text is rest → list_all (stays q.raw) text ≡ true → values is ≡ spelling is
items_stay over h = refl
items_stay {q = q} (more {mid = mid} {i = i} {is = is} e item later) h =
    let parts = all_parts (stays q.raw) i.spelled mid (rw e at h) in
    ap (λ v. unwrap_or v [] ++ values is) (item_stays item parts.0) ∙ ap (λ vs. i.spelled ++ vs) (items_stay later parts.1)

-- where each byte stands for itself, the body is its value
pub verbatim : (q : Quoting) (body : List ℕ) (is : List BodyItem) → items q 0 body ≡ Some is → list_all (stays q.raw) body ≡ true
    → length body ≡ length (spelling is) + quotes_len q → take (length body - quotes_len q) body ≡ values is
verbatim q body is read all_stay long =
    let P : Option (List BodyItem) → Type 0 = EndsAt q body in
    let (rest, (h, closing)) = subst P read (ends_at q body) in
    let up_to : length (spelling is) ≡ length body - quotes_len q = omega arith in
    ap (take (length body - quotes_len q)) (spelled h) ∙ take_at (spelling is) rest (length body - quotes_len q) up_to ∙ sym (items_stay h all_stay)

body_len : (s : List ℕ) (q : Quoting) (w : Whole q s) → length (drop (opening_len q) s) ≡ length (spelling (w.is)) + quotes_len q
body_len s q w = let e = length-drop (opening_len q) s in let l = w.long in omega arith

pub quotes_within : (s : List ℕ) (q : Quoting) → opening s ≡ Some q → IsSome (string_value s) → quotes_len q ≤ length (drop (opening_len q) s)
quotes_within s q e some = let l = body_len s q (whole s q e some) in omega arith

pub verbatim_value : (s : List ℕ) (q : Quoting) → opening s ≡ Some q → IsSome (string_value s) → list_all (stays q.raw) (drop (opening_len q) s) ≡ true
    → string_value s ≡ Some (take (length (drop (opening_len q) s) - quotes_len q) (drop (opening_len q) s))
verbatim_value s q e some all_stay =
    let w = whole s q e some in
    w.value ∙ ap Some (sym (verbatim q (drop (opening_len q) s) (w.is) (w.read) all_stay (body_len s q w)))

pub items_read : (s : List ℕ) (q : Quoting) → opening s ≡ Some q → IsSome (string_value s) → IsSome (items q 0 (drop (opening_len q) s))
items_read s q e some = let w = whole s q e some in rw (w.read) refl

pub unescaped_value : (s : List ℕ) (q : Quoting) → opening s ≡ Some q → IsSome (string_value s) → string_value s ≡ option_map values (items q 0 (drop (opening_len q) s))
unescaped_value s q e some = let w = whole s q e some in w.value ∙ sym (ap (option_map values) (w.read))

pub valued : {E : Type 0} (r : Result (List ℕ) E) (s v : List ℕ) → string_value s ≡ Some v → IfOk r (λ b. b ≡ v) → IfOk r (λ b. string_value s ≡ Some b)
valued (Ok b) s v e h = e ∙ ap Some (sym h)
valued (Err x) s v e h = h
