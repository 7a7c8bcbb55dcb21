-- A string literal is cut into its items in one way, and the definition finds it.
use Rattle.std.proofs.Common.{◌≡◌, ◌≢◌, ℕ, suc, inl, inr, List, [], ◌∷◌, ◌++◌, Bool, true, false, eqb, Option, Some, None, length, take, drop, cond, refl, sym, ap, ◌∙◌, subst}
use Rattle.std.specs.Prelude.{nat_eq, option_map}
use Rattle.std.specs.Map.{lookup}
use Rattle.std.proofs.lemmas.List.{append-nil, take_at, drop_at}
use Rattle.std.proofs.lemmas.Bool.{ne_eqb}
use Rattle.bq_source.specs.declared.string_literal.Quoting.{Quoting}
use Rattle.bq_source.specs.declared.string_literal.ItemValue.{ItemValue}
use Rattle.bq_source.specs.declared.string_literal.ItemValue.TheVariants.{Byte, BackslashAnd, Empty, BadEscape}
use Rattle.bq_source.specs.declared.string_literal.BodyPart.{BodyPart}
use Rattle.bq_source.specs.declared.string_literal.BodyPart.TheVariants.{Closing, Unclosed, Item}
use Rattle.bq_source.specs.StringLiteral.{closes, newline_len, escapes, escape, after_backslash, after_backslash_by, plain_by, body_part, BodyItem, item_value, items, BeginsWith, BeginsNewline, quotes, quotes_by, IsQuote, IsItem, plain, newline, escaped, joined, no_escape, raw_byte, raw_newline, Items, over, more, IsUnclosed}
use Rattle.bq_source.proofs.Cases.{escape_by}
use Rattle.bq_source.proofs.Items.{items_ahead, ahead}
use Rattle.bq_source.proofs.Bodies.{closes_yes, closes_begun, no_quotes, no_newline_len}

closes_open : (q : Quoting) (text : List ℕ) (c : Bool) → closes q text ≡ c → (BeginsWith (quotes q) text → ⊥) → c ≡ false
closes_open q text true e bad = absurd (bad (closes_yes q text e))
closes_open q text false e bad = refl

not_lf : (a : ℕ) → IsQuote a → eqb 10 a ≡ false
not_lf a (inl e) = rw e refl
not_lf a (inr e) = rw e refl

not_cr : (a : ℕ) → IsQuote a → eqb 13 a ≡ false
not_cr a (inl e) = rw e refl
not_cr a (inr e) = rw e refl

not_backslash : (a : ℕ) → IsQuote a → eqb a 92 ≡ false
not_backslash a (inl e) = rw e refl
not_backslash a (inr e) = rw e refl

-- the closing quotes don't begin with this byte
not_closing : (q : Quoting) (b : ℕ) (bs : List ℕ) → eqb b q.quote ≡ false → closes q (b ∷ bs) ≡ false
not_closing q b bs e = rw e refl

-- an item and the part that the definition finds there
pub record FoundPart (q : Quoting) (s after : List ℕ) (value : Option (List ℕ)) : Type 0 where
  pub more_bytes : ℕ
  pub item : ItemValue
  pub part : body_part q (s ++ after) ≡ Item more_bytes item
  pub long : length s ≡ suc more_bytes
  pub means : item_value item ≡ value

choose_plain : (q : Quoting) (b : ℕ) (after : List ℕ) (e c : Bool) (n : ℕ) → e ≡ false → c ≡ false → n ≡ 0
    → cond e (after_backslash q.raw after) (cond c Closing (plain_by q b n)) ≡ Item 0 (Byte b)
choose_plain q b after e c n h i j = rw h (rw i (rw j refl))

choose_newline : (c t : Bool) (n : ℕ) → c ≡ false → t ≡ true → cond c Closing (cond t (Item n (Byte 10)) Unclosed) ≡ Item n (Byte 10)
choose_newline c t n h i = rw h (rw i refl)

choose_byte : (raw : Bool) (n c : ℕ) (after : List ℕ) → n ≡ 0 → after_backslash_by raw n (c ∷ after) ≡ Item 1 (cond raw (BackslashAnd c) (escape c))
choose_byte raw n c after h = rw h refl

cooked : (r : Bool) (n : ℕ) (v w : ItemValue) → r ≡ false → Item n (cond r v w) ≡ Item n w
cooked r n v w h = rw h refl

uncooked : (r : Bool) (n : ℕ) (v w : ItemValue) → r ≡ true → Item n (cond r v w) ≡ Item n v
uncooked r n v w h = rw h refl

-- a backslash before a byte that begins no newline
byte_part : (q : Quoting) (c : ℕ) (after : List ℕ) → (BeginsNewline (c ∷ after) → ⊥) → body_part q (92 ∷ c ∷ after) ≡ Item 1 (cond q.raw (BackslashAnd c) (escape c))
unfolding body_part
byte_part q c after none = choose_byte q.raw (newline_len (c ∷ after)) c after (no_newline_len (c ∷ after) none)

lf_part : (q : Quoting) (after : List ℕ) → body_part q (92 ∷ 10 ∷ after) ≡ Item 1 (cond q.raw (BackslashAnd 10) Empty)
unfolding body_part
lf_part q after = refl

crlf_part : (q : Quoting) (after : List ℕ) → body_part q (92 ∷ 13 ∷ 10 ∷ after) ≡ Item 2 (cond q.raw (BackslashAnd 10) Empty)
unfolding body_part
crlf_part q after = refl

plain_part : (q : Quoting) (b : ℕ) (after : List ℕ) → b ≢ 92 → (BeginsWith (quotes q) (b ∷ after) → ⊥) → (BeginsNewline (b ∷ after) → ⊥)
    → body_part q (b ∷ after) ≡ Item 0 (Byte b)
unfolding body_part
plain_part q b after other open_ none =
    choose_plain q b after (eqb b 92) (closes q (b ∷ after)) (newline_len (b ∷ after)) (ne_eqb b 92 other)
    (closes_open q (b ∷ after) (closes q (b ∷ after)) refl open_) (no_newline_len (b ∷ after) none)

lf_item : (q : Quoting) (after : List ℕ) → IsQuote q.quote → q.triple ≡ true → body_part q (10 ∷ after) ≡ Item 0 (Byte 10)
unfolding body_part
lf_item q after quote triple = choose_newline (closes q (10 ∷ after)) q.triple 0 (not_closing q 10 after (not_lf q.quote quote)) triple

crlf_item : (q : Quoting) (after : List ℕ) → IsQuote q.quote → q.triple ≡ true → body_part q (13 ∷ 10 ∷ after) ≡ Item 1 (Byte 10)
unfolding body_part
crlf_item q after quote triple = choose_newline (closes q (13 ∷ 10 ∷ after)) q.triple 1 (not_closing q 13 (10 ∷ after) (not_cr q.quote quote)) triple

-- a byte of an escape begins no newline
escape_bytes : (c b : ℕ) (after : List ℕ) → lookup (nat_eq c) escapes ≡ Some b → BeginsNewline (c ∷ after) → ⊥
escape_bytes c b after e (inl (rest, f)) =
    let first : c ≡ 10 = cc in
    let P : ℕ → Type 0 = λ x. lookup (nat_eq x) escapes ≡ Some b in
    let bad = subst P first e in cc
escape_bytes c b after e (inr (rest, f)) =
    let first : c ≡ 13 = cc in
    let P : ℕ → Type 0 = λ x. lookup (nat_eq x) escapes ≡ Some b in
    let bad = subst P first e in cc

pub item_part : {q : Quoting} {s after : List ℕ} {value : Option (List ℕ)} → IsQuote q.quote → IsItem q s after value → FoundPart q s after value
item_part {q = q} quote (plain {b = b} {after = after} other open_ none) =
    record { more_bytes = 0; item = Byte b; part = plain_part q b after other open_ none; long = refl; means = refl }
item_part {q = q} quote (newline {n = n} {after = after} (inl e) triple) =
    let P : List ℕ → Type 0 = λ s. body_part q (s ++ after) ≡ Item 0 (Byte 10) in
    record { more_bytes = 0; item = Byte 10; part = subst P (sym e) (lf_item q after quote triple); long = ap length e; means = refl }
item_part {q = q} quote (newline {n = n} {after = after} (inr e) triple) =
    let P : List ℕ → Type 0 = λ s. body_part q (s ++ after) ≡ Item 1 (Byte 10) in
    record { more_bytes = 1; item = Byte 10; part = subst P (sym e) (crlf_item q after quote triple); long = ap length e; means = refl }
item_part {q = q} quote (escaped {c = c} {b = b} {after = after} raw e) =
    record {
      more_bytes = 1;
      item = Byte b;
      part = byte_part q c after (escape_bytes c b after e) ∙ cooked q.raw 1 (BackslashAnd c) (escape c) raw ∙ ap (λ o. Item 1 (escape_by o)) e;
      long = refl;
      means = refl;
    }
item_part {q = q} quote (joined {n = n} {after = after} raw (inl e)) =
    let P : List ℕ → Type 0 = λ s. body_part q (92 ∷ s ++ after) ≡ Item 1 Empty in
    record { more_bytes = 1; item = Empty; part = subst P (sym e) (lf_part q after ∙ cooked q.raw 1 (BackslashAnd 10) Empty raw); long = ap (λ s. length (92 ∷ s)) e; means = refl }
item_part {q = q} quote (joined {n = n} {after = after} raw (inr e)) =
    let P : List ℕ → Type 0 = λ s. body_part q (92 ∷ s ++ after) ≡ Item 2 Empty in
    record { more_bytes = 2; item = Empty; part = subst P (sym e) (crlf_part q after ∙ cooked q.raw 2 (BackslashAnd 10) Empty raw); long = ap (λ s. length (92 ∷ s)) e; means = refl }
item_part {q = q} quote (no_escape {c = c} {after = after} raw e none) =
    record {
      more_bytes = 1;
      item = BadEscape;
      part = byte_part q c after none ∙ cooked q.raw 1 (BackslashAnd c) (escape c) raw ∙ ap (λ o. Item 1 (escape_by o)) e;
      long = refl;
      means = refl;
    }
item_part {q = q} quote (raw_byte {c = c} {after = after} raw none) =
    record { more_bytes = 1; item = BackslashAnd c; part = byte_part q c after none ∙ uncooked q.raw 1 (BackslashAnd c) (escape c) raw; long = refl; means = refl }
item_part {q = q} quote (raw_newline {n = n} {after = after} raw (inl e)) =
    let P : List ℕ → Type 0 = λ s. body_part q (92 ∷ s ++ after) ≡ Item 1 (BackslashAnd 10) in
    record { more_bytes = 1; item = BackslashAnd 10; part = subst P (sym e) (lf_part q after ∙ uncooked q.raw 1 (BackslashAnd 10) Empty raw); long = ap (λ s. length (92 ∷ s)) e; means = refl }
item_part {q = q} quote (raw_newline {n = n} {after = after} raw (inr e)) =
    let P : List ℕ → Type 0 = λ s. body_part q (92 ∷ s ++ after) ≡ Item 2 (BackslashAnd 10) in
    record { more_bytes = 2; item = BackslashAnd 10; part = subst P (sym e) (crlf_part q after ∙ uncooked q.raw 2 (BackslashAnd 10) Empty raw); long = ap (λ s. length (92 ∷ s)) e; means = refl }

-- these items, and then what is found after them
abbrev pub after_items : List BodyItem → Option (List BodyItem) → Option (List BodyItem)
after_items is os = option_map (λ js. is ++ js) os

no_items : (os : Option (List BodyItem)) → os ≡ after_items [] os
no_items None = refl
no_items (Some is) = refl

one_item : (i : BodyItem) (is : List BodyItem) (os : Option (List BodyItem)) → option_map (λ js. i ∷ js) (after_items is os) ≡ after_items (i ∷ is) os
one_item i is None = refl
one_item i is (Some js) = refl

item_found : (q : Quoting) (i : BodyItem) (mid : List ℕ) → FoundPart q i.spelled mid i.value → items q 0 (i.spelled ++ mid) ≡ option_map (λ js. i ∷ js) (items q 0 mid)
item_found q i mid p =
    let s : take (suc p.more_bytes) (i.spelled ++ mid) ≡ i.spelled = take_at i.spelled mid (suc p.more_bytes) p.long in
    let r : drop (suc p.more_bytes) (i.spelled ++ mid) ≡ mid = drop_at i.spelled mid (suc p.more_bytes) p.long in
    let same : record { spelled = take (suc p.more_bytes) (i.spelled ++ mid); value = item_value p.item } ≡ i = λ k. record { spelled = s k; value = p.means k } in
    items_ahead q (i.spelled ++ mid) ∙ ap (λ part. ahead q part (i.spelled ++ mid)) p.part ∙ (λ k. option_map (λ js. same k ∷ js) (items q 0 (r k)))

-- the definition finds the items of a body
pub found : {q : Quoting} {text rest : List ℕ} {is : List BodyItem} → IsQuote q.quote → Items q text is rest → items q 0 text ≡ after_items is (items q 0 rest)
found {q = q} {rest = rest} quote over = no_items (items q 0 rest)
found {q = q} {rest = rest} quote (more {mid = mid} {i = i} {is = is} e item h) =
    ap (items q 0) e ∙ item_found q i mid (item_part quote item) ∙ ap (option_map (λ js. i ∷ js)) (found quote h) ∙ one_item i is (items q 0 rest)

choose_closing : (e c : Bool) (x y : BodyPart) → e ≡ false → c ≡ true → cond e x (cond c Closing y) ≡ Closing
choose_closing e c x y h i = rw h (rw i refl)

first_quote : (t : Bool) (a b : ℕ) (bs rest : List ℕ) → b ∷ bs ≡ quotes_by t a ++ rest → b ≡ a
first_quote true a b bs rest e = cc
first_quote false a b bs rest e = cc

pub closing_part : (q : Quoting) (text : List ℕ) → IsQuote q.quote → BeginsWith (quotes q) text → body_part q text ≡ Closing
unfolding body_part
closing_part q [] quote (rest, e) = absurd (no_quotes q.triple q.quote rest e)
closing_part q (b ∷ bs) quote (rest, e) =
    let first : b ≡ q.quote = first_quote q.triple q.quote b bs rest e in
    let other : eqb b 92 ≡ false = rw first (not_backslash q.quote quote) in
    choose_closing (eqb b 92) (closes q (b ∷ bs)) (after_backslash q.raw bs) (plain_by q b (newline_len (b ∷ bs))) other (closes_begun q (b ∷ bs) (rest, e))

choose_unclosed : (c t : Bool) (n : ℕ) → c ≡ false → t ≡ false → cond c Closing (cond t (Item n (Byte 10)) Unclosed) ≡ Unclosed
choose_unclosed c t n h i = rw h (rw i refl)

lf_open : (q : Quoting) (after : List ℕ) → IsQuote q.quote → q.triple ≡ false → body_part q (10 ∷ after) ≡ Unclosed
unfolding body_part
lf_open q after quote triple = choose_unclosed (closes q (10 ∷ after)) q.triple 0 (not_closing q 10 after (not_lf q.quote quote)) triple

crlf_open : (q : Quoting) (after : List ℕ) → IsQuote q.quote → q.triple ≡ false → body_part q (13 ∷ 10 ∷ after) ≡ Unclosed
unfolding body_part
crlf_open q after quote triple = choose_unclosed (closes q (13 ∷ 10 ∷ after)) q.triple 1 (not_closing q 13 (10 ∷ after) (not_cr q.quote quote)) triple

unclosed_part : (q : Quoting) (text : List ℕ) → IsQuote q.quote → IsUnclosed q text → body_part q text ≡ Unclosed
unfolding body_part
unclosed_part q text quote (inl e) = rw e refl
unclosed_part q text quote (inr (inl e)) = rw e refl
unclosed_part q text quote (inr (inr (triple, inl (rest, e)))) = let P : List ℕ → Type 0 = λ s. body_part q s ≡ Unclosed in subst P (sym e) (lf_open q rest quote triple)
unclosed_part q text quote (inr (inr (triple, inr (rest, e)))) = let P : List ℕ → Type 0 = λ s. body_part q s ≡ Unclosed in subst P (sym e) (crlf_open q rest quote triple)

pub items_closed : {q : Quoting} {text rest : List ℕ} {is : List BodyItem} → IsQuote q.quote → Items q text is rest → BeginsWith (quotes q) rest → items q 0 text ≡ Some is
items_closed {q = q} {rest = rest} {is = is} quote h closing =
    found quote h
    ∙ ap (after_items is) (items_ahead q rest ∙ ap (λ part. ahead q part rest) (closing_part q rest quote closing))
    ∙ ap Some (append-nil is)

pub items_open : {q : Quoting} {text rest : List ℕ} {is : List BodyItem} → IsQuote q.quote → Items q text is rest → IsUnclosed q rest → items q 0 text ≡ None
items_open {q = q} {rest = rest} {is = is} quote h un =
    found quote h ∙ ap (after_items is) (items_ahead q rest ∙ ap (λ part. ahead q part rest) (unclosed_part q rest quote un))
