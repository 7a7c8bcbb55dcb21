-- The items of a string literal's body, one at a time.
use Rattle.std.proofs.Common.{◌≡◌, ℕ, zero, suc, ◌+◌, ◌<◌, ◌≤◌, ◌==◌, Bool, true, false, not, ◌&&◌, List, [], ◌∷◌, ◌++◌, Option, Some, None, length, take, drop, cond, is_none, refl, sym, ap, ◌∙◌, arith, length-append, IfSome, IsSome, unwrap_or, subst, append_assoc}
use Rattle.std.proofs.lemmas.List.{drop-drop, length-take-le, append-nil}
use Rattle.std.specs.Prelude.{option_map}
use Rattle.std.specs.List.{prefix_len}
use Rattle.std.specs.Option.{option_or}
use Rattle.bq_source.specs.declared.string_literal.Quoting.{Quoting}
use Rattle.bq_source.specs.declared.string_literal.ItemValue.{ItemValue}
use Rattle.bq_source.specs.declared.string_literal.ItemValue.TheVariants.{Byte, BackslashAnd, Empty, BadEscape}
use Rattle.bq_source.specs.declared.string_literal.BodyPart.{BodyPart}
use Rattle.bq_source.specs.declared.string_literal.BodyPart.TheVariants.{Closing, Unclosed, Item}
use Rattle.bq_source.specs.StringLiteral.{opening, opening_len, quotes_len, is_plain, body_part, BodyItem, item_value, items, spelling, values, bad_escape, literal_from, scan_string}
use Rattle.bq_source.proofs.Cases.{scan_string_by, items_by}

skipped : (q : Quoting) (k : ℕ) (text : List ℕ) → items q k text ≡ items q 0 (drop k text)
unfolding items
skipped q zero text = refl
skipped q (suc k) [] = refl
skipped q (suc k) (b ∷ bs) = skipped q k bs

-- the items, by the part that is next
abbrev pub ahead : Quoting → BodyPart → List ℕ → Option (List BodyItem)
ahead q Closing text = Some []
ahead q Unclosed text = None
ahead q (Item more value) text = option_map (λ is. record { spelled = take (suc more) text; value = item_value value } ∷ is) (items q 0 (drop (suc more) text))

by_part : (q : Quoting) (part : BodyPart) (b : ℕ) (bs : List ℕ) → items_by part b bs (λ more. items q more bs) ≡ ahead q part (b ∷ bs)
by_part q Closing b bs = refl
by_part q Unclosed b bs = refl
by_part q (Item more value) b bs = ap (option_map (λ is. record { spelled = b ∷ take more bs; value = item_value value } ∷ is)) (skipped q more bs)

pub items_ahead : (q : Quoting) (text : List ℕ) → items q 0 text ≡ ahead q (body_part q text) text
unfolding items body_part
items_ahead q [] = refl
items_ahead q (b ∷ bs) = by_part q (body_part q (b ∷ bs)) b bs

-- an item's own bad escape, at this place
abbrev own : ℕ → Option (List ℕ) → Option ℕ
own at value = cond (is_none value) (Some at) None

first : (bad later : Option ℕ) (at : ℕ) (value : Option (List ℕ)) → option_or bad (cond (is_none value) (Some at) later) ≡ option_or (option_or bad (own at value)) later
first (Some k) later at value = refl
first None later at None = refl
first None later at (Some v) = refl

passed : (q : Quoting) (at n : ℕ) (bad : Option ℕ) (i : BodyItem) (os : Option (List BodyItem)) → length i.spelled ≡ n
    → literal_from q at bad (option_map (λ is. i ∷ is) os) ≡ literal_from q (at + n) (option_or bad (own at i.value)) os
passed q at n bad i None e = refl
passed q at n bad i (Some is) e =
    let long : at + length (i.spelled ++ spelling is) + quotes_len q ≡ at + n + length (spelling is) + quotes_len q = omega (arith, length-append i.spelled (spelling is)) in
    let fault : option_or bad (bad_escape at (i ∷ is)) ≡ option_or (option_or bad (own at i.value)) (bad_escape (at + n) is) =
    rw (← e) (first bad (bad_escape (at + length i.spelled) is) at i.value) in
    λ j. Some (record { len = long j; bad_escape = fault j })

pub scanned : (text : List ℕ) (q : Quoting) → opening text ≡ Some q
    → scan_string text ≡ literal_from q (opening_len q) None (items q 0 (drop (opening_len q) text))
unfolding scan_string
scanned text q e = ap (λ o. scan_string_by o text) e

pub not_opened : (text : List ℕ) → opening text ≡ None → scan_string text ≡ None
unfolding scan_string
not_opened text e = ap (λ o. scan_string_by o text) e

or_none : (o : Option ℕ) → option_or o None ≡ o
or_none None = refl
or_none (Some k) = refl

pub at_closing : (q : Quoting) (at : ℕ) (bad : Option ℕ) (text : List ℕ) → body_part q text ≡ Closing
    → literal_from q at bad (items q 0 text) ≡ Some (record { len = at + quotes_len q; bad_escape = bad })
at_closing q at bad text e =
    let none : items q 0 text ≡ Some [] = items_ahead q text ∙ ap (λ part. ahead q part text) e in
    let long : at + 0 + quotes_len q ≡ at + quotes_len q = omega arith in
    rw none (λ j. Some (record { len = long j; bad_escape = or_none bad j }))

pub at_unclosed : (q : Quoting) (at : ℕ) (bad : Option ℕ) (text : List ℕ) → body_part q text ≡ Unclosed → literal_from q at bad (items q 0 text) ≡ None
at_unclosed q at bad text e = ap (literal_from q at bad) (items_ahead q text ∙ ap (λ part. ahead q part text) e)

item_drop : (at more : ℕ) (whole : List ℕ) → drop (suc more) (drop at whole) ≡ drop (at + (1 + more)) whole
item_drop at more whole = drop-drop (suc more) at whole ∙ ap (λ n. drop n whole) (let e : at + suc more ≡ at + (1 + more) = omega arith in e)

pub at_item : (q : Quoting) (at : ℕ) (bad : Option ℕ) (whole : List ℕ) (more : ℕ) (value : ItemValue)
    → body_part q (drop at whole) ≡ Item more value → more < length (drop at whole)
    → literal_from q at bad (items q 0 (drop at whole))
    ≡ literal_from q (at + (1 + more)) (option_or bad (own at (item_value value))) (items q 0 (drop (at + (1 + more)) whole))
at_item q at bad whole more value e within =
    let i : BodyItem = record { spelled = take (suc more) (drop at whole); value = item_value value } in
    let long : length (take (suc more) (drop at whole)) ≡ 1 + more = length-take-le (suc more) (drop at whole) (omega arith) ∙ omega arith in
    ap (literal_from q at bad) (items_ahead q (drop at whole) ∙ ap (λ part. ahead q part (drop at whole)) e)
    ∙ passed q at (1 + more) bad i (items q 0 (drop (suc more) (drop at whole))) long
    ∙ ap (λ rest. literal_from q (at + (1 + more)) (option_or bad (own at (item_value value))) (items q 0 rest)) (item_drop at more whole)

-- a bad escape lies before what comes after its item
pub own_within : (bad : Option ℕ) (at more : ℕ) (value : ItemValue) → IfSome bad (λ k. k < at)
    → IfSome (option_or bad (own at (item_value value))) (λ k. k < at + (1 + more))
own_within (Some k) at more value h = omega arith
own_within None at more (Byte b) h = tt
own_within None at more (BackslashAnd b) h = tt
own_within None at more Empty h = tt
own_within None at more BadEscape h = omega arith

-- the value that these bytes begin and these items go on with
abbrev pub joined : List ℕ → Option (List BodyItem) → Option (List ℕ)
joined vs None = None
joined vs (Some is) = Some (vs ++ values is)

pub joined_item : (vs : List ℕ) (i : BodyItem) (os : Option (List BodyItem)) → joined vs (option_map (λ is. i ∷ is) os) ≡ joined (vs ++ unwrap_or i.value []) os
joined_item vs i None = refl
joined_item vs i (Some is) = ap Some (sym (append_assoc vs (unwrap_or i.value []) (values is)))

pub joined_at_item : (q : Quoting) (vs : List ℕ) (at : ℕ) (whole : List ℕ) (more : ℕ) (value : ItemValue) → body_part q (drop at whole) ≡ Item more value
    → joined vs (items q 0 (drop at whole)) ≡ joined (vs ++ unwrap_or (item_value value) []) (items q 0 (drop (at + (1 + more)) whole))
joined_at_item q vs at whole more value e =
    let i : BodyItem = record { spelled = take (suc more) (drop at whole); value = item_value value } in
    ap (joined vs) (items_ahead q (drop at whole) ∙ ap (λ part. ahead q part (drop at whole)) e)
    ∙ joined_item vs i (items q 0 (drop (suc more) (drop at whole)))
    ∙ ap (λ rest. joined (vs ++ unwrap_or (item_value value) []) (items q 0 rest)) (item_drop at more whole)

pub joined_nothing : (os : Option (List BodyItem)) → option_map values os ≡ joined [] os
joined_nothing None = refl
joined_nothing (Some is) = refl

at_end : (q : Quoting) (vs : List ℕ) (text : List ℕ) (part : BodyPart) → ((more : ℕ) (value : ItemValue) → part ≡ Item more value → ⊥)
    → IsSome (joined vs (ahead q part text)) → joined vs (ahead q part text) ≡ Some vs
at_end q vs text Closing none some = ap Some (append-nil vs)
at_end q vs text Unclosed none some = cc
at_end q vs text (Item more value) none some = absurd (none more value refl)

-- where no item is next, and the closing quotes come, all values are there
pub joined_all : (q : Quoting) (vs : List ℕ) (text : List ℕ) → ((more : ℕ) (value : ItemValue) → body_part q text ≡ Item more value → ⊥)
    → IsSome (joined vs (items q 0 text)) → joined vs (items q 0 text) ≡ Some vs
joined_all q vs text none some =
    let P : Option (List BodyItem) → Type 0 = λ os. IsSome (joined vs os) in
    ap (joined vs) (items_ahead q text) ∙ at_end q vs text (body_part q text) none (subst P (items_ahead q text) some)

pub mapped : (os : Option (List BodyItem)) → IsSome os → IsSome (option_map values os)
mapped None some = cc
mapped (Some is) some = refl

-- ---- bytes that stand for themselves

plain_left : (a b : Bool) → (a && b) ≡ true → a ≡ true
plain_left true b e = refl
plain_left false b e = cc

plain_right : (a b : Bool) → (a && b) ≡ true → b ≡ true
plain_right true b e = e
plain_right false b e = cc

unset : (b : Bool) → not b ≡ true → b ≡ false
unset true e = cc
unset false e = refl

plain_part : (q : Quoting) (b : ℕ) (bs : List ℕ) → is_plain q.quote b ≡ true → body_part q (b ∷ bs) ≡ Item 0 (Byte b)
unfolding body_part
plain_part q b bs e =
    let after = plain_right (not (b == q.quote)) (not (b == 92) && (not (b == 10) && not (b == 13))) e in
    let ends = plain_right (not (b == 92)) (not (b == 10) && not (b == 13)) after in
    let no_quote = unset (b == q.quote) (plain_left (not (b == q.quote)) (not (b == 92) && (not (b == 10) && not (b == 13))) e) in
    let no_escape = unset (b == 92) (plain_left (not (b == 92)) (not (b == 10) && not (b == 13)) after) in
    let no_feed = unset (b == 10) (plain_left (not (b == 10)) (not (b == 13)) ends) in
    let no_return = unset (b == 13) (plain_right (not (b == 10)) (not (b == 13)) ends) in
    rw (no_quote, no_escape, no_feed, no_return) refl

plain_step : (q : Quoting) (at : ℕ) (bad : Option ℕ) (b : ℕ) (bs : List ℕ) → is_plain q.quote b ≡ true
    → literal_from q at bad (items q 0 (b ∷ bs)) ≡ literal_from q (at + 1) bad (items q 0 bs)
plain_step q at bad b bs e =
    let i : BodyItem = record { spelled = b ∷ []; value = Some (b ∷ []) } in
    ap (literal_from q at bad) (items_ahead q (b ∷ bs) ∙ ap (λ part. ahead q part (b ∷ bs)) (plain_part q b bs e))
    ∙ (passed q at 1 bad i (items q 0 bs) refl ∙ ap (λ o. literal_from q (at + 1) o (items q 0 bs)) (or_none bad))

plain_by : (p : Bool) (q : Quoting) (at : ℕ) (bad : Option ℕ) (b : ℕ) (bs : List ℕ) (n : ℕ) → is_plain q.quote b ≡ p
    → literal_from q (at + 1) bad (items q 0 bs) ≡ literal_from q (at + 1 + n) bad (items q 0 (drop n bs))
    → literal_from q at bad (items q 0 (b ∷ bs)) ≡ literal_from q (at + cond p (1 + n) 0) bad (items q 0 (drop (cond p (1 + n) 0) (b ∷ bs)))
plain_by true q at bad b bs n e more =
    let same : at + 1 + n ≡ at + (1 + n) = omega arith in
    let next : suc n ≡ 1 + n = omega arith in
    plain_step q at bad b bs e
    ∙ (more ∙ (ap (λ m. literal_from q m bad (items q 0 (drop n bs))) same ∙ ap (λ k. literal_from q (at + (1 + n)) bad (items q 0 (drop k (b ∷ bs)))) next))
plain_by false q at bad b bs n e more = ap (λ m. literal_from q m bad (items q 0 (b ∷ bs))) (let same : at ≡ at + 0 = omega arith in same)

plain_run : (q : Quoting) (at : ℕ) (bad : Option ℕ) (text : List ℕ)
    → literal_from q at bad (items q 0 text) ≡ literal_from q (at + prefix_len (is_plain q.quote) text) bad (items q 0 (drop (prefix_len (is_plain q.quote) text) text))
plain_run q at bad [] = ap (λ m. literal_from q m bad (items q 0 [])) (let same : at ≡ at + 0 = omega arith in same)
plain_run q at bad (b ∷ bs) = plain_by (is_plain q.quote b) q at bad b bs (prefix_len (is_plain q.quote) bs) refl (plain_run q (at + 1) bad bs)

-- past bytes that stand for themselves the literal is the same
pub past_plain : (q : Quoting) (at here : ℕ) (bad : Option ℕ) (whole : List ℕ) → here ≡ at + prefix_len (is_plain q.quote) (drop at whole)
    → literal_from q at bad (items q 0 (drop at whole)) ≡ literal_from q here bad (items q 0 (drop here whole))
past_plain q at here bad whole e =
    let n = prefix_len (is_plain q.quote) (drop at whole) in
    plain_run q at bad (drop at whole)
    ∙ (ap (λ rest. literal_from q (at + n) bad (items q 0 rest)) (drop-drop n at whole) ∙ ap (λ m. literal_from q m bad (items q 0 (drop m whole))) (sym e))

pub later_still : (bad : Option ℕ) (at here : ℕ) → at ≤ here → IfSome bad (λ k. k < at) → IfSome bad (λ k. k < here)
later_still None at here le h = tt
later_still (Some k) at here le h = omega arith
