-- The laws of string literals, in words of the text.
use Rattle.std.proofs.Common.{◌≡◌, ℕ, ◌+◌, ◌⊎◌, inl, inr, List, [], ◌∷◌, ◌++◌, Bool, true, false, eqb, Option, Some, None, is_none, IsSome, length, take, drop, cond, refl, sym, ap, ◌∙◌, subst, arith, append_assoc, length-append}
use Rattle.std.specs.Prelude.{option_map}
use Rattle.std.specs.Option.{option_or}
use Rattle.std.proofs.lemmas.List.{append-nil, take_at, drop_at}
use Rattle.std.proofs.lemmas.Bool.{eqb-true, eq-eqb, or_cases, and_from, false≢true}
use Rattle.bq_source.specs.declared.string_literal.Quoting.{Quoting}
use Rattle.bq_source.specs.declared.string_literal.StringLiteral.{StringLiteral}
use Rattle.bq_source.specs.StringLiteral.{is_quote, begins_pair, opening, opening_quotes, opening_len, quotes_len, BodyItem, items, spelling, values, bad_escape, literal_from, scan_string, string_value, BeginsWith, BeginsNewline, prefix, prefix_by, quotes, quotes_by, IsQuote, Opens, IsItem, plain, newline, escaped, joined, no_escape, raw_byte, raw_newline, Items, over, more, IsLiteral, IsOpenLiteral, literal_of, AllStand, FoundLiteral, ValuedLiteral, SameCut}
use Rattle.bq_source.proofs.Cases.{is_whole, string_value_by}
use Rattle.bq_source.proofs.Items.{scanned, not_opened}
use Rattle.bq_source.proofs.Bodies.{EndsAt, ends_at, pair_yes, pair_begun}
use Rattle.bq_source.proofs.Cutting.{items_closed, items_open}
use Rattle.bq_source.proofs.Values.{spelled, Whole, whole, opened}

-- OPENINGS

length_quotes : (t : Bool) (a : ℕ) → length (quotes_by t a) ≡ cond t 3 1
length_quotes true a = refl
length_quotes false a = refl

length_prefix : (r : Bool) → length (prefix_by r) ≡ cond r 1 0
length_prefix true = refl
length_prefix false = refl

opening_long : (q : Quoting) → length (prefix q ++ quotes q) ≡ opening_len q
opening_long q =
    let p : length (prefix q) ≡ cond q.raw 1 0 = length_prefix q.raw in
    let u : length (quotes q) ≡ quotes_len q = length_quotes q.triple q.quote in
    length-append (prefix q) (quotes q) ∙ (λ k. p k + u k)

-- what the opening of a text says, for its quotes alone
record OpensQuotes (raw : Bool) (q : Quoting) (text : List ℕ) : Type 0 where
  pub raw_is : q.raw ≡ raw
  pub quote : IsQuote q.quote
  pub body : List ℕ
  pub spelled : text ≡ quotes q ++ body
  pub longest : q.triple ≡ false → BeginsWith (q.quote ∷ q.quote ∷ []) body → ⊥

quote_cases : (c : ℕ) → (eqb c 34 ≡ true) ⊎ (eqb c 39 ≡ true) → IsQuote c
quote_cases c (inl e) = inl (eqb-true c 34 e)
quote_cases c (inr e) = inr (eqb-true c 39 e)

quote_is : (c : ℕ) → is_quote c ≡ true → IsQuote c
quote_is c e = quote_cases c (or_cases (eqb c 34) (eqb c 39) e)

by_triple : (raw : Bool) (c : ℕ) (cs : List ℕ) (t : Bool) → begins_pair c cs ≡ t → IsQuote c → OpensQuotes raw (record { raw = raw; quote = c; triple = t }) (c ∷ cs)
by_triple raw c cs true e quote =
    let after = pair_yes c cs e in
    record { raw_is = refl; quote = quote; body = after.0; spelled = ap (λ xs. c ∷ xs) after.1; longest = λ no_triple. absurd (false≢true (sym no_triple)) }
by_triple raw c cs false e quote =
    record { raw_is = refl; quote = quote; body = cs; spelled = refl; longest = λ single begun. false≢true (sym e ∙ pair_begun c cs begun) }

by_quote : (raw : Bool) (c : ℕ) (cs : List ℕ) (q : Quoting) (is : Bool) → is_quote c ≡ is
    → cond is (Some (record { raw = raw; quote = c; triple = begins_pair c cs })) None ≡ Some q → OpensQuotes raw q (c ∷ cs)
by_quote raw c cs q false e f = cc
by_quote raw c cs q true e f =
    let same : record { raw = raw; quote = c; triple = begins_pair c cs } ≡ q = cc in
    let P : Quoting → Type 0 = λ p. OpensQuotes raw p (c ∷ cs) in
    subst P same (by_triple raw c cs (begins_pair c cs) refl (quote_is c e))

opens_quotes : (raw : Bool) (text : List ℕ) (q : Quoting) → opening_quotes raw text ≡ Some q → OpensQuotes raw q text
opens_quotes raw [] q e = cc
opens_quotes raw (c ∷ cs) q e = by_quote raw c cs q (is_quote c) refl e

-- an opening with its body, wherever that is
record Opened (q : Quoting) (text : List ℕ) : Type 0 where
  pub body : List ℕ
  pub opens : Opens q text body

with_prefix : (raw : Bool) (q : Quoting) (text : List ℕ) → OpensQuotes raw q text → Opened q (prefix_by raw ++ text)
with_prefix raw q text o =
    record {
      body = o.body;
      opens = record { quote = o.quote; spelled = (λ k. prefix_by (sym o.raw_is k) ++ o.spelled k); longest = o.longest };
    }

opened_by : (b : ℕ) (bs : List ℕ) (q : Quoting) (r : Bool) → eqb b 114 ≡ r → cond r (opening_quotes true bs) (opening_quotes false (b ∷ bs)) ≡ Some q → Opened q (b ∷ bs)
opened_by b bs q true e f =
    let P : ℕ → Type 0 = λ x. Opened q (x ∷ bs) in
    subst P (sym (eqb-true b 114 e)) (with_prefix true q bs (opens_quotes true bs q f))
opened_by b bs q false e f = with_prefix false q (b ∷ bs) (opens_quotes false (b ∷ bs) q f)

opens_of : (text : List ℕ) (q : Quoting) → opening text ≡ Some q → Opened q text
unfolding opening
opens_of [] q e = cc
opens_of (b ∷ bs) q e = opened_by b bs q (eqb b 114) refl e

-- a quote is a quote, and no `r`
quote_test : (a : ℕ) → IsQuote a → is_quote a ≡ true
quote_test a (inl e) = rw e refl
quote_test a (inr e) = rw e refl

quote_not_r : (a : ℕ) → IsQuote a → eqb a 114 ≡ false
quote_not_r a (inl e) = rw e refl
quote_not_r a (inr e) = rw e refl

no_pair : (a : ℕ) (bs : List ℕ) (t : Bool) → begins_pair a bs ≡ t → (BeginsWith (a ∷ a ∷ []) bs → ⊥) → t ≡ false
no_pair a bs true e bad = let after = pair_yes a bs e in absurd (bad (after.0, after.1))
no_pair a bs false e bad = refl

pair_of : (t : Bool) (a : ℕ) (body : List ℕ) → (t ≡ false → BeginsWith (a ∷ a ∷ []) body → ⊥) → (xs : List ℕ) → a ∷ xs ≡ quotes_by t a ++ body → begins_pair a xs ≡ t
pair_of true a body longest xs e = let after : xs ≡ a ∷ a ∷ body = cc in rw after (rw (eq-eqb a a refl) refl)
pair_of false a body longest xs e = let after : xs ≡ body = cc in rw after (no_pair a body (begins_pair a body) refl (longest refl))

quotes_head : (t : Bool) (a : ℕ) (body : List ℕ) → (xs : List ℕ) × (quotes_by t a ++ body ≡ a ∷ xs)
quotes_head true a body = (a ∷ a ∷ body, refl)
quotes_head false a body = (body, refl)

abbrev made : Bool → ℕ → Bool → Quoting
made raw a t = record { raw = raw; quote = a; triple = t }

choose_quotes : (raw is t u : Bool) (a : ℕ) → is ≡ true → t ≡ u → cond is (Some (made raw a t)) None ≡ Some (made raw a u)
choose_quotes raw is t u a e f = rw e (rw f refl)

quotes_opened : (raw : Bool) (q : Quoting) (body : List ℕ) → q.raw ≡ raw → IsQuote q.quote → (q.triple ≡ false → BeginsWith (q.quote ∷ q.quote ∷ []) body → ⊥)
    → opening_quotes raw (quotes q ++ body) ≡ Some q
quotes_opened raw q body r quote longest =
    let head = quotes_head q.triple q.quote body in
    ap (opening_quotes raw) head.1
    ∙ choose_quotes raw (is_quote q.quote) (begins_pair q.quote head.0) q.triple q.quote (quote_test q.quote quote) (pair_of q.triple q.quote body longest head.0 (sym head.1))
    ∙ (λ k. Some (record { raw = sym r k; quote = q.quote; triple = q.triple }))

choose_prefix : (r : Bool) (x y : Option Quoting) → r ≡ false → cond r x y ≡ y
choose_prefix r x y e = rw e refl

opened_text : (r : Bool) (q : Quoting) (body : List ℕ) → q.raw ≡ r → IsQuote q.quote → (q.triple ≡ false → BeginsWith (q.quote ∷ q.quote ∷ []) body → ⊥)
    → opening (prefix_by r ++ (quotes q ++ body)) ≡ Some q
unfolding opening
opened_text true q body e quote longest = quotes_opened true q body e quote longest
opened_text false q body e quote longest =
    let head = quotes_head q.triple q.quote body in
    let P : List ℕ → Type 0 = λ xs. opening xs ≡ opening_quotes false xs in
    subst P (sym head.1) (choose_prefix (eqb q.quote 114) (opening_quotes true head.0) (opening_quotes false (q.quote ∷ head.0)) (quote_not_r q.quote quote))
    ∙ quotes_opened false q body e quote longest

pub opens_is : (text : List ℕ) (q : Quoting) (body : List ℕ) → Opens q text body → opening text ≡ Some q
opens_is text q body o = ap opening o.spelled ∙ opened_text q.raw q body refl o.quote o.longest

pub body_is : (text : List ℕ) (q : Quoting) (body : List ℕ) → Opens q text body → drop (opening_len q) text ≡ body
body_is text q body o =
    ap (drop (opening_len q)) (o.spelled ∙ sym (append_assoc (prefix q) (quotes q) body)) ∙ drop_at (prefix q ++ quotes q) body (opening_len q) (opening_long q)

text_long : (text : List ℕ) (q : Quoting) (body : List ℕ) → Opens q text body → length text ≡ opening_len q + length body
text_long text q body o =
    ap length (o.spelled ∙ sym (append_assoc (prefix q) (quotes q) body)) ∙ length-append (prefix q ++ quotes q) body ∙ (λ k. opening_long q k + length body)

-- LITERALS

no_earlier : (o : Option ℕ) → option_or None o ≡ o
no_earlier o = refl

-- a literal is found, with its items
literal_items : {q : Quoting} {text rest : List ℕ} {is : List BodyItem} → IsLiteral q text is rest → items q 0 (drop (opening_len q) text) ≡ Some is
literal_items {q = q} {text = text} {rest = rest} l =
    ap (items q 0) (body_is text q l.body l.opens) ∙ items_closed l.opens.quote l.cut (rest, refl)

pub literal_found : (q : Quoting) (text : List ℕ) (is : List BodyItem) (rest : List ℕ) → IsLiteral q text is rest → scan_string text ≡ Some (literal_of q is)
literal_found q text is rest l = scanned text q (opens_is text q l.body l.opens) ∙ ap (literal_from q (opening_len q) None) (literal_items l)

literal_by : (text : List ℕ) (l : StringLiteral) (q : Quoting) (o : Opened q text) (os : Option (List BodyItem)) → EndsAt q o.body os
    → literal_from q (opening_len q) None os ≡ Some l → FoundLiteral text l
literal_by text l q o None h e = cc
literal_by text l q o (Some is) (rest, (h, (after, closing))) e =
    let P : List ℕ → Type 0 = Items q o.body is in
    let means : l ≡ literal_of q is = cc in
    record { quoting = q; is = is; rest = after; literal = record { body = o.body; opens = o.opens; cut = subst P closing h }; means = means }

open_by : (text : List ℕ) (q : Quoting) (o : Opened q text) (os : Option (List BodyItem)) → EndsAt q o.body os → literal_from q (opening_len q) None os ≡ None → IsOpenLiteral text
open_by text q o None (is, (mid, (h, un))) e = record { quoting = q; body = o.body; opens = o.opens; is = is; mid = mid; cut = h; unclosed = un }
open_by text q o (Some is) h e = cc

scan_opened : (text : List ℕ) (q : Quoting) (o : Opened q text) → scan_string text ≡ literal_from q (opening_len q) None (items q 0 o.body)
scan_opened text q o =
    scanned text q (opens_is text q o.body o.opens) ∙ ap (λ body. literal_from q (opening_len q) None (items q 0 body)) (body_is text q o.body o.opens)

literal_at : (text : List ℕ) (l : StringLiteral) (o : Option Quoting) → opening text ≡ o → scan_string text ≡ Some l → FoundLiteral text l
literal_at text l None e f = let bad : None ≡ Some l = sym (not_opened text e) ∙ f in cc
literal_at text l (Some q) e f =
    let o = opens_of text q e in
    literal_by text l q o (items q 0 o.body) (ends_at q o.body) (sym (scan_opened text q o) ∙ f)

pub found_literal : (text : List ℕ) (l : StringLiteral) → scan_string text ≡ Some l → FoundLiteral text l
found_literal text l e = literal_at text l (opening text) refl e

open_at : (text : List ℕ) (o : Option Quoting) → opening text ≡ o → IsSome o → scan_string text ≡ None → IsOpenLiteral text
open_at text None e some f = cc
open_at text (Some q) e some f =
    let o = opens_of text q e in
    open_by text q o (items q 0 o.body) (ends_at q o.body) (sym (scan_opened text q o) ∙ f)

-- where a literal begins and none is found, it doesn't end
pub found_open : (text : List ℕ) → IsSome (opening text) → scan_string text ≡ None → IsOpenLiteral text
found_open text some e = open_at text (opening text) refl some e

pub open_found : (text : List ℕ) → IsOpenLiteral text → scan_string text ≡ None
open_found text l =
    scan_opened text l.quoting (record { body = l.body; opens = l.opens }) ∙ ap (literal_from l.quoting (opening_len l.quoting) None) (items_open l.opens.quote l.cut l.unclosed)

-- VALUES

stands : (v : Option (List ℕ)) (later : Option ℕ) (at : ℕ) → IsSome v → later ≡ None → cond (is_none v) (Some at) later ≡ None
stands None later at some e = cc
stands (Some x) later at some e = e

standing : (v : Option (List ℕ)) (later : Option ℕ) (at : ℕ) → cond (is_none v) (Some at) later ≡ None → IsSome v × (later ≡ None)
standing None later at e = cc
standing (Some x) later at e = (refl, e)

pub no_bad : (is : List BodyItem) (at : ℕ) → AllStand is → bad_escape at is ≡ None
no_bad [] at h = refl
no_bad (i ∷ is) at (some, h) = stands i.value (bad_escape (at + length i.spelled) is) at some (no_bad is (at + length i.spelled) h)

bad_none : (is : List BodyItem) (at : ℕ) → bad_escape at is ≡ None → AllStand is
bad_none [] at e = tt
bad_none (i ∷ is) at e = let parts = standing i.value (bad_escape (at + length i.spelled) is) at e in (parts.0, bad_none is (at + length i.spelled) parts.1)

pub literal_long : {q : Quoting} {text rest : List ℕ} {is : List BodyItem} → IsLiteral q text is rest → length text ≡ opening_len q + length (spelling is) + quotes_len q + length rest
literal_long {q = q} {text = text} {rest = rest} {is = is} l =
    let a = text_long text q l.body l.opens in
    let b = ap length (spelled l.cut) in
    let c = length-append (spelling is) (quotes q ++ rest) in
    let d = length-append (quotes q) rest in
    let e = length_quotes q.triple q.quote in
    omega (arith, a, b, c, d, e)

choose_whole : (s : List ℕ) (q : Quoting) (is : List BodyItem) → length s ≡ opening_len q + length (spelling is) + quotes_len q → bad_escape (opening_len q) is ≡ None
    → is_whole (Some (literal_of q is)) (length s) ≡ true
choose_whole s q is long none =
    and_from (eqb (opening_len q + length (spelling is) + quotes_len q) (length s)) (is_none (bad_escape (opening_len q) is))
    (eq-eqb (opening_len q + length (spelling is) + quotes_len q) (length s) (sym long)) (ap is_none none)

choose_value : (test : Bool) (x : Option (List ℕ)) → test ≡ true → cond test x None ≡ x
choose_value test x e = rw e refl

-- a literal that is all of its text stands for its items' values in a row
pub literal_value : (q : Quoting) (s : List ℕ) (is : List BodyItem) → IsLiteral q s is [] → AllStand is → string_value s ≡ Some (values is)
unfolding string_value
literal_value q s is l stand =
    let o = opens_is s q l.body l.opens in
    let found = literal_found q s is [] l in
    let long : length s ≡ opening_len q + length (spelling is) + quotes_len q = let e = literal_long l in omega (arith, e) in
    choose_value (is_whole (scan_string s) (length s)) (string_value_by (opening s) s) (ap (λ x. is_whole x (length s)) found ∙ choose_whole s q is long (no_bad is (opening_len q) stand))
    ∙ ap (λ x. string_value_by x s) o
    ∙ ap (option_map values) (literal_items l)

no_rest : (xs : List ℕ) → length xs ≡ 0 → xs ≡ []
no_rest [] e = refl
no_rest (x ∷ xs) e = absurd (omega arith)

valued_by : (s v : List ℕ) (q : Quoting) (o : Opened q s) (w : Whole q s) → string_value s ≡ Some v
    → (rest after : List ℕ) → Items q o.body (w.is) rest → rest ≡ quotes q ++ after → ValuedLiteral s v
valued_by s v q o w e rest after h closing =
    let P : List ℕ → Type 0 = Items q o.body (w.is) in
    let l : IsLiteral q s (w.is) after = record { body = o.body; opens = o.opens; cut = subst P closing h } in
    let none : after ≡ [] = no_rest after (let g = literal_long l in let k = w.long in omega (arith, g, k)) in
    let R : List ℕ → Type 0 = λ xs. IsLiteral q s (w.is) xs in
    let means : v ≡ values (w.is) = let g = w.value in cc in
    record { quoting = q; is = w.is; literal = subst R none l; stand = bad_none (w.is) (opening_len q) (w.valid); means = means }

value_at : (s v : List ℕ) (q : Quoting) → opening s ≡ Some q → IsSome (string_value s) → string_value s ≡ Some v → ValuedLiteral s v
value_at s v q e some f =
    let o = opens_of s q e in
    let w = whole s q e some in
    let read : items q 0 o.body ≡ Some (w.is) = ap (items q 0) (sym (body_is s q o.body o.opens)) ∙ w.read in
    let P : Option (List BodyItem) → Type 0 = EndsAt q o.body in
    let ends = subst P read (ends_at q o.body) in
    valued_by s v q o w f ends.0 ends.1.1.0 ends.1.0 ends.1.1.1

value_by : (s v : List ℕ) (o : Option Quoting) → opening s ≡ o → IsSome o → IsSome (string_value s) → string_value s ≡ Some v → ValuedLiteral s v
value_by s v None e opens_ some f = cc
value_by s v (Some q) e opens_ some f = value_at s v q e some f

pub value_literal : (s v : List ℕ) → string_value s ≡ Some v → ValuedLiteral s v
value_literal s v e =
    let P : Option (List ℕ) → Type 0 = λ o. IsSome o in
    let some : IsSome (string_value s) = subst P (sym e) refl in
    value_by s v (opening s) refl (opened s some) some e

-- THE SPELLING OF A LITERAL IS ONE

begins_longer : (front xs rest : List ℕ) → BeginsWith front xs → BeginsWith front (xs ++ rest)
begins_longer front xs rest (r, e) = (r ++ rest, ap (λ ys. ys ++ rest) e ∙ append_assoc front r rest)

newline_longer : (xs rest : List ℕ) → BeginsNewline xs → BeginsNewline (xs ++ rest)
newline_longer xs rest (inl h) = inl (begins_longer (10 ∷ []) xs rest h)
newline_longer xs rest (inr h) = inr (begins_longer (13 ∷ 10 ∷ []) xs rest h)

no_newline_shorter : (b : ℕ) (full after rest : List ℕ) → full ≡ after ++ rest → (BeginsNewline (b ∷ full) → ⊥) → BeginsNewline (b ∷ after) → ⊥
no_newline_shorter b full after rest e none begun =
    let P : List ℕ → Type 0 = λ xs. BeginsNewline (b ∷ xs) in none (subst P (sym e) (newline_longer (b ∷ after) rest begun))

no_front_shorter : (front : List ℕ) (b : ℕ) (full after rest : List ℕ) → full ≡ after ++ rest → (BeginsWith front (b ∷ full) → ⊥) → BeginsWith front (b ∷ after) → ⊥
no_front_shorter front b full after rest e none begun =
    let P : List ℕ → Type 0 = λ xs. BeginsWith front (b ∷ xs) in none (subst P (sym e) (begins_longer front (b ∷ after) rest begun))

-- an item is one as well where less comes after it
item_shorter : {q : Quoting} {s full : List ℕ} {value : Option (List ℕ)} → IsItem q s full value → (after rest : List ℕ) → full ≡ after ++ rest → IsItem q s after value
item_shorter {q = q} (plain {b = b} {after = full} other open_ none) after rest e =
    plain other (no_front_shorter (quotes q) b full after rest e open_) (no_newline_shorter b full after rest e none)
item_shorter (newline n triple) after rest e = newline n triple
item_shorter (escaped raw f) after rest e = escaped raw f
item_shorter (joined raw n) after rest e = joined raw n
item_shorter (no_escape {c = c} {after = full} raw f none) after rest e = no_escape raw f (no_newline_shorter c full after rest e none)
item_shorter (raw_byte {c = c} {after = full} raw none) after rest e = raw_byte raw (no_newline_shorter c full after rest e none)
item_shorter (raw_newline raw n) after rest e = raw_newline raw n

items_shorter : {q : Quoting} {text end_ : List ℕ} {is : List BodyItem} → Items q text is end_ → (mid rest : List ℕ) → end_ ≡ mid ++ rest → Items q (spelling is ++ mid) is mid
items_shorter over mid rest e = over
items_shorter {end_ = end_} (more {mid = m} {i = i} {is = is} f item h) mid rest e =
    let after : m ≡ (spelling is ++ mid) ++ rest = spelled h ∙ ap (λ xs. spelling is ++ xs) e ∙ sym (append_assoc (spelling is) mid rest) in
    more (append_assoc i.spelled (spelling is) mid) (item_shorter item (spelling is ++ mid) rest after) (items_shorter h mid rest e)

-- the bytes of a literal
abbrev front : Quoting → List BodyItem → List ℕ
front q is = prefix q ++ (quotes q ++ (spelling is ++ quotes q))

front_rest : (a b c d rest : List ℕ) → a ++ (b ++ (c ++ (d ++ rest))) ≡ (a ++ (b ++ (c ++ d))) ++ rest
front_rest a b c d rest = simp append_assoc

text_front : {q : Quoting} {text rest : List ℕ} {is : List BodyItem} → IsLiteral q text is rest → text ≡ front q is ++ rest
text_front {q = q} {rest = rest} {is = is} l =
    l.opens.spelled ∙ ap (λ xs. prefix q ++ (quotes q ++ xs)) (spelled l.cut) ∙ front_rest (prefix q) (quotes q) (spelling is) (quotes q) rest

front_long : (q : Quoting) (is : List BodyItem) → length (front q is) ≡ opening_len q + length (spelling is) + quotes_len q
front_long q is =
    let a = length-append (prefix q) (quotes q ++ (spelling is ++ quotes q)) in
    let b = length-append (quotes q) (spelling is ++ quotes q) in
    let c = length-append (spelling is) (quotes q) in
    let d = length_quotes q.triple q.quote in
    let e = opening_long q in
    let f = length-append (prefix q) (quotes q) in
    omega (arith, a, b, c, d, e, f)

-- a literal alone, without what comes after it
alone : {q : Quoting} {text rest : List ℕ} {is : List BodyItem} → IsLiteral q text is rest → IsLiteral q (front q is) is []
alone {q = q} {rest = rest} {is = is} l =
    let assoc : l.body ≡ (spelling is ++ quotes q) ++ rest = spelled l.cut ∙ sym (append_assoc (spelling is) (quotes q) rest) in
    let P : List ℕ → Type 0 = λ xs. BeginsWith (q.quote ∷ q.quote ∷ []) xs in
    let R : List ℕ → Type 0 = λ xs. Items q (spelling is ++ xs) is xs in
    let single : q.triple ≡ false → BeginsWith (q.quote ∷ q.quote ∷ []) (spelling is ++ quotes q) → ⊥ =
    λ no_triple begun. l.opens.longest no_triple (subst P (sym assoc) (begins_longer (q.quote ∷ q.quote ∷ []) (spelling is ++ quotes q) rest begun)) in
    let S : List ℕ → Type 0 = λ xs. Items q (spelling is ++ quotes q) is xs in
    record {
      body = spelling is ++ quotes q;
      opens = record { quote = l.opens.quote; spelled = refl; longest = single };
      cut = subst S (sym (append-nil (quotes q))) (items_shorter l.cut (quotes q) rest refl);
    }

some_value : (s v : List ℕ) → string_value s ≡ Some v → IsSome (string_value s)
some_value s v e = let P : Option (List ℕ) → Type 0 = λ o. IsSome o in subst P (sym e) refl

pub literal_has_value : (text : List ℕ) (l : StringLiteral) → scan_string text ≡ Some l → l.bad_escape ≡ None → IsSome (string_value (take l.len text))
literal_has_value text l e none =
    let f = found_literal text l e in
    let bad : bad_escape (opening_len f.quoting) f.is ≡ None = let m = f.means in sym (ap (λ x. x.bad_escape) m) ∙ none in
    let long : length (front f.quoting f.is) ≡ l.len = front_long f.quoting f.is ∙ sym (ap (λ x. x.len) f.means) in
    let same : take l.len text ≡ front f.quoting f.is = ap (take l.len) (text_front f.literal) ∙ take_at (front f.quoting f.is) f.rest l.len long in
    let value = literal_value f.quoting (front f.quoting f.is) f.is (alone f.literal) (bad_none f.is (opening_len f.quoting) bad) in
    let P : List ℕ → Type 0 = λ s. IsSome (string_value s) in
    subst P (sym same) (some_value (front f.quoting f.is) (values f.is) value)

-- ONE CUTTING

rest_is : {q : Quoting} {text rest : List ℕ} {is : List BodyItem} → IsLiteral q text is rest → drop (opening_len q + length (spelling is) + quotes_len q) text ≡ rest
rest_is {q = q} {rest = rest} {is = is} l =
    ap (drop (opening_len q + length (spelling is) + quotes_len q)) (text_front l) ∙ drop_at (front q is) rest (opening_len q + length (spelling is) + quotes_len q) (front_long q is)

same_items : {q : Quoting} {text rest tail : List ℕ} {is js : List BodyItem} → IsLiteral q text is rest → IsLiteral q text js tail → is ≡ js
same_items l m = let a = literal_items l in let b = literal_items m in cc

pub one_cut : (text : List ℕ) (q p : Quoting) (is js : List BodyItem) (rest tail : List ℕ) → IsLiteral q text is rest → IsLiteral p text js tail → SameCut q p is js rest tail
one_cut text q p is js rest tail l m =
    let a = opens_is text q l.body l.opens in
    let b = opens_is text p m.body m.opens in
    let same : q ≡ p = cc in
    let P : Quoting → Type 0 = λ x. IsLiteral x text js tail in
    let n = subst P (sym same) m in
    let equal : is ≡ js = same_items l n in
    let ends : rest ≡ tail = sym (rest_is l) ∙ ap (λ xs. drop (opening_len q + length (spelling xs) + quotes_len q) text) equal ∙ rest_is n in
    record { quoting = same; items = equal; after = ends }
