-- What is at each place of a string literal's body, in words of the text.
use Rattle.std.proofs.Common.{◌≡◌, ◌≢◌, ℕ, zero, suc, inl, inr, List, [], ◌∷◌, ◌++◌, Bool, true, false, not, ◌&&◌, ◌||◌, eqb, Option, Some, None, take, drop, cond, refl, sym, ap, ◌∙◌, subst}
use Rattle.std.proofs.lemmas.List.{take-append-drop}
use Rattle.std.proofs.lemmas.Bool.{and_parts, eqb-true, eqb-false, eq-eqb, false≢true}
use Rattle.bq_source.specs.declared.string_literal.Quoting.{Quoting}
use Rattle.bq_source.specs.declared.string_literal.ItemValue.{ItemValue}
use Rattle.bq_source.specs.declared.string_literal.ItemValue.TheVariants.{Byte, BackslashAnd, Empty}
use Rattle.bq_source.specs.declared.string_literal.BodyPart.{BodyPart}
use Rattle.bq_source.specs.declared.string_literal.BodyPart.TheVariants.{Closing, Unclosed, Item}
use Rattle.std.specs.Prelude.{nat_eq}
use Rattle.std.specs.Map.{lookup}
use Rattle.bq_source.specs.StringLiteral.{begins, begins_pair, closes, newline_len, escapes, escape, after_backslash, after_backslash_by, plain_by, body_part, BodyItem, item_value, items, BeginsWith, IsNewline, BeginsNewline, quotes, quotes_by, IsItem, plain, newline, escaped, joined, no_escape, raw_byte, raw_newline, Items, over, more, IsUnclosed}
use Rattle.bq_source.proofs.Cases.{items_by, escape_by}

-- the newline that comes next, by its length
pub data NewlineAt (text : List ℕ) : ℕ → Type 0 where
  none : (BeginsNewline text → ⊥) → NewlineAt text 0
  lf : (rest : List ℕ) → text ≡ 10 ∷ rest → NewlineAt text 1
  crlf : (rest : List ℕ) → text ≡ 13 ∷ 10 ∷ rest → NewlineAt text 2

begins_yes : (a : ℕ) (bs : List ℕ) → begins a bs ≡ true → (rest : List ℕ) × (bs ≡ a ∷ rest)
begins_yes a [] e = cc
begins_yes a (b ∷ bs) e = (bs, ap (λ x. x ∷ bs) (eqb-true b a e))

no_newline_in : BeginsNewline [] → ⊥
no_newline_in (inl (rest, e)) = cc
no_newline_in (inr (rest, e)) = cc

-- neither LF nor CR LF
no_newline : (b : ℕ) (bs : List ℕ) → eqb b 10 ≡ false → (eqb b 13 && begins 10 bs) ≡ false → BeginsNewline (b ∷ bs) → ⊥
no_newline b bs no_lf no_crlf (inl (rest, e)) = let same : b ≡ 10 = cc in eqb-false b 10 no_lf same
no_newline b bs no_lf no_crlf (inr (rest, e)) =
    let cr : b ≡ 13 = cc in
    let after : bs ≡ 10 ∷ rest = cc in
    let yes : (eqb b 13 && begins 10 bs) ≡ true = rw (eq-eqb b 13 cr) (rw after refl) in
    false≢true (sym no_crlf ∙ yes)

newline_by : (b : ℕ) (bs : List ℕ) (l c : Bool) → eqb b 10 ≡ l → (eqb b 13 && begins 10 bs) ≡ c → NewlineAt (b ∷ bs) (cond l 1 (cond c 2 0))
newline_by b bs true c e f = lf bs (ap (λ x. x ∷ bs) (eqb-true b 10 e))
newline_by b bs false true e f =
    let parts = and_parts (eqb b 13) (begins 10 bs) f in
    let after = begins_yes 10 bs parts.1 in
    let cr : b ≡ 13 = eqb-true b 13 parts.0 in
    crlf after.0 (ap (λ x. x ∷ bs) cr ∙ ap (λ xs. 13 ∷ xs) after.1)
newline_by b bs false false e f = none (no_newline b bs e f)

pub newline_at : (text : List ℕ) → NewlineAt text (newline_len text)
newline_at [] = none no_newline_in
newline_at (b ∷ bs) = newline_by b bs (eqb b 10) (eqb b 13 && begins 10 bs) refl refl

no_len : (text : List ℕ) (n : ℕ) → (BeginsNewline text → ⊥) → NewlineAt text n → n ≡ 0
no_len text n bad (none h) = refl
no_len text n bad (lf rest e) = absurd (bad (inl (rest, e)))
no_len text n bad (crlf rest e) = absurd (bad (inr (rest, e)))

pub no_newline_len : (text : List ℕ) → (BeginsNewline text → ⊥) → newline_len text ≡ 0
no_newline_len text bad = no_len text (newline_len text) bad (newline_at text)

pub pair_yes : (a : ℕ) (bs : List ℕ) → begins_pair a bs ≡ true → (rest : List ℕ) × (bs ≡ a ∷ a ∷ rest)
pair_yes a [] e = cc
pair_yes a (b ∷ bs) e =
    let parts = and_parts (eqb b a) (begins a bs) e in
    let after = begins_yes a bs parts.1 in
    (after.0, ap (λ x. x ∷ bs) (eqb-true b a parts.0) ∙ ap (λ xs. a ∷ xs) after.1)

pub pair_begun : (a : ℕ) (bs : List ℕ) → BeginsWith (a ∷ a ∷ []) bs → begins_pair a bs ≡ true
pair_begun a [] (rest, e) = cc
pair_begun a (b ∷ bs) (rest, e) =
    let first : b ≡ a = cc in
    let after : bs ≡ a ∷ rest = cc in
    rw (eq-eqb b a first) (rw after (rw (eq-eqb a a refl) refl))

quotes_yes : (triple : Bool) (quote b : ℕ) (bs : List ℕ) → (eqb b quote && (not triple || begins_pair quote bs)) ≡ true → BeginsWith (quotes_by triple quote) (b ∷ bs)
quotes_yes true quote b bs e =
    let parts = and_parts (eqb b quote) (begins_pair quote bs) e in
    let after = pair_yes quote bs parts.1 in
    (after.0, ap (λ x. x ∷ bs) (eqb-true b quote parts.0) ∙ ap (λ xs. quote ∷ xs) after.1)
quotes_yes false quote b bs e =
    let parts = and_parts (eqb b quote) true e in
    (bs, ap (λ x. x ∷ bs) (eqb-true b quote parts.0))

pub closes_yes : (q : Quoting) (text : List ℕ) → closes q text ≡ true → BeginsWith (quotes q) text
closes_yes q [] e = cc
closes_yes q (b ∷ bs) e = quotes_yes q.triple q.quote b bs e

quotes_close : (triple : Bool) (quote : ℕ) (b : ℕ) (bs rest : List ℕ) → b ∷ bs ≡ quotes_by triple quote ++ rest → (eqb b quote && (not triple || begins_pair quote bs)) ≡ true
quotes_close true quote b bs rest e =
    let first : b ≡ quote = cc in
    let after : bs ≡ quote ∷ quote ∷ rest = cc in
    rw (eq-eqb b quote first) (rw after (rw (eq-eqb quote quote refl) refl))
quotes_close false quote b bs rest e = let first : b ≡ quote = cc in rw (eq-eqb b quote first) refl

pub no_quotes : (triple : Bool) (quote : ℕ) (rest : List ℕ) → [] ≡ quotes_by triple quote ++ rest → ⊥
no_quotes true quote rest e = cc
no_quotes false quote rest e = cc

pub closes_begun : (q : Quoting) (text : List ℕ) → BeginsWith (quotes q) text → closes q text ≡ true
closes_begun q [] (rest, e) = absurd (no_quotes q.triple q.quote rest e)
closes_begun q (b ∷ bs) (rest, e) = quotes_close q.triple q.quote b bs rest e

-- what a part of a body says of the text
abbrev pub Means : Quoting → ℕ → List ℕ → BodyPart → Type 0
Means q b bs Closing = BeginsWith (quotes q) (b ∷ bs)
Means q b bs Unclosed = IsUnclosed q (b ∷ bs)
Means q b bs (Item n value) = IsItem q (b ∷ take n bs) (drop n bs) (item_value value)

newline_escape : (q : Quoting) (n after : List ℕ) (r : Bool) → q.raw ≡ r → IsNewline n → IsItem q (92 ∷ n) after (item_value (cond r (BackslashAnd 10) Empty))
newline_escape q n after true e h = raw_newline e h
newline_escape q n after false e h = joined e h

byte_escape_by : (q : Quoting) (c : ℕ) (after : List ℕ) (o : Option ℕ) → q.raw ≡ false → (BeginsNewline (c ∷ after) → ⊥) → lookup (nat_eq c) escapes ≡ o
    → IsItem q (92 ∷ c ∷ []) after (item_value (escape_by o))
byte_escape_by q c after None r h e = no_escape r e h
byte_escape_by q c after (Some b) r h e = escaped r e

byte_escape : (q : Quoting) (c : ℕ) (after : List ℕ) (r : Bool) → q.raw ≡ r → (BeginsNewline (c ∷ after) → ⊥) → IsItem q (92 ∷ c ∷ []) after (item_value (cond r (BackslashAnd c) (escape c)))
byte_escape q c after true e h = raw_byte e h
byte_escape q c after false e h = byte_escape_by q c after (lookup (nat_eq c) escapes) e h refl

backslash_means : (q : Quoting) (bs : List ℕ) (n : ℕ) → NewlineAt bs n → Means q 92 bs (after_backslash_by q.raw n bs)
backslash_means q [] n (none h) = inr (inl refl)
backslash_means q (c ∷ cs) n (none h) = byte_escape q c cs q.raw refl h
backslash_means q bs n (lf rest e) =
    let P : List ℕ → Type 0 = λ xs. IsItem q (92 ∷ take 1 xs) (drop 1 xs) (item_value (cond q.raw (BackslashAnd 10) Empty)) in
    subst P (sym e) (newline_escape q (10 ∷ []) rest q.raw refl (inl refl))
backslash_means q bs n (crlf rest e) =
    let P : List ℕ → Type 0 = λ xs. IsItem q (92 ∷ take 2 xs) (drop 2 xs) (item_value (cond q.raw (BackslashAnd 10) Empty)) in
    subst P (sym e) (newline_escape q (13 ∷ 10 ∷ []) rest q.raw refl (inr refl))

newline_means : (q : Quoting) (b : ℕ) (bs : List ℕ) (n : ℕ) (t : Bool) → q.triple ≡ t → BeginsNewline (b ∷ bs) → IsNewline (b ∷ take n bs)
    → Means q b bs (cond t (Item n (Byte 10)) Unclosed)
newline_means q b bs n true e begun is = newline is e
newline_means q b bs n false e begun is = inr (inr (e, begun))

plain_means : (q : Quoting) (b : ℕ) (bs : List ℕ) (n : ℕ) → b ≢ 92 → (BeginsWith (quotes q) (b ∷ bs) → ⊥) → NewlineAt (b ∷ bs) n → Means q b bs (plain_by q b n)
plain_means q b bs n other open_ (none h) = plain other open_ h
plain_means q b bs n other open_ (lf rest e) =
    let first : b ≡ 10 = cc in
    newline_means q b bs 0 q.triple refl (inl (rest, e)) (inl (ap (λ x. x ∷ []) first))
plain_means q b bs n other open_ (crlf rest e) =
    let first : b ≡ 13 = cc in
    let after : bs ≡ 10 ∷ rest = cc in
    newline_means q b bs 1 q.triple refl (inr (rest, e)) (inr (ap (λ x. x ∷ take 1 bs) first ∙ ap (λ xs. 13 ∷ take 1 xs) after))

part_by : (q : Quoting) (b : ℕ) (bs : List ℕ) (escape_ closing : Bool) → eqb b 92 ≡ escape_ → closes q (b ∷ bs) ≡ closing
    → Means q b bs (cond escape_ (after_backslash q.raw bs) (cond closing Closing (plain_by q b (newline_len (b ∷ bs)))))
part_by q b bs true closing e f =
    let P : ℕ → Type 0 = λ x. Means q x bs (after_backslash q.raw bs) in
    subst P (sym (eqb-true b 92 e)) (backslash_means q bs (newline_len bs) (newline_at bs))
part_by q b bs false true e f = closes_yes q (b ∷ bs) f
part_by q b bs false false e f =
    plain_means q b bs (newline_len (b ∷ bs)) (eqb-false b 92 e) (λ begun. false≢true (sym f ∙ closes_begun q (b ∷ bs) begun)) (newline_at (b ∷ bs))

pub part_means : (q : Quoting) (b : ℕ) (bs : List ℕ) → Means q b bs (body_part q (b ∷ bs))
unfolding body_part
part_means q b bs = part_by q b bs (eqb b 92) (closes q (b ∷ bs)) refl refl

-- where the items end: at the closing quotes, or where there is none
abbrev pub EndsAt : Quoting → List ℕ → Option (List BodyItem) → Type 0
EndsAt q text (Some is) = (rest : List ℕ) × (Items q text is rest × BeginsWith (quotes q) rest)
EndsAt q text None = (is : List BodyItem) × ((mid : List ℕ) × (Items q text is mid × IsUnclosed q mid))

item_ends : (q : Quoting) (b : ℕ) (bs : List ℕ) (n : ℕ) (value : ItemValue) (os : Option (List BodyItem)) → Means q b bs (Item n value) → EndsAt q (drop n bs) os
    → EndsAt q (b ∷ bs) (items_by (Item n value) b bs (λ _. os))
item_ends q b bs n value None item (is, (mid, (h, un))) =
    (record { spelled = b ∷ take n bs; value = item_value value } ∷ is, (mid, (more (ap (λ xs. b ∷ xs) (sym (take-append-drop n bs))) item h, un)))
item_ends q b bs n value (Some is) item (rest, (h, closing)) =
    (rest, (more (ap (λ xs. b ∷ xs) (sym (take-append-drop n bs))) item h, closing))

part_ends : (q : Quoting) (b : ℕ) (bs : List ℕ) (part : BodyPart) (later : ℕ → Option (List BodyItem)) → Means q b bs part → ((n : ℕ) → EndsAt q (drop n bs) (later n))
    → EndsAt q (b ∷ bs) (items_by part b bs later)
part_ends q b bs Closing later m h = (b ∷ bs, (over, m))
part_ends q b bs Unclosed later m h = ([], (b ∷ bs, (over, m)))
part_ends q b bs (Item n value) later m h = item_ends q b bs n value (later n) m (h n)

ends_after : (q : Quoting) (skip : ℕ) (text : List ℕ) → EndsAt q (drop skip text) (items q skip text)
unfolding items
ends_after q zero [] = ([], ([], (over, inl refl)))
ends_after q (suc skip) [] = ([], ([], (over, inl refl)))
ends_after q (suc skip) (b ∷ bs) = ends_after q skip bs
ends_after q zero (b ∷ bs) = part_ends q b bs (body_part q (b ∷ bs)) (λ n. items q n bs) (part_means q b bs) (λ n. ends_after q n bs)

-- a body is items up to its closing quotes, or up to where it can't go on
pub ends_at : (q : Quoting) (text : List ℕ) → EndsAt q text (items q 0 text)
ends_at q text = ends_after q 0 text
