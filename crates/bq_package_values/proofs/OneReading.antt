-- A text reads as one value, and leaves one rest.
use Rattle.std.proofs.Common.{◌≡◌, ◌⊎◌, inl, inr, ℕ, ℤ, zero, suc, ◌+◌, ◌<◌, ◌≤◌, ◌^◌, Bool, true, false, List, [], ◌∷◌, ◌++◌, length, Option, Some, None, take, drop, refl, sym, ap, ◌∙◌, subst, ⊎_elim, arith, IsUtf8}
use Rattle.std.specs.Prelude.{◌==◌, nat_lt, option_and_then, option_map, codes, if◌then◌else◌}
use Rattle.std.specs.Fmt.{signed_decimal}
use lib.Signed.{mag}
use Rattle.std.specs.Str.{chars, is_utf8, encode_utf8_all}
use Rattle.std.proofs.lemmas.Bool.Decides.{nat_tests}
use Rattle.std.proofs.lemmas.Fmt.{signed_decimal_injective}
use Rattle.std.proofs.lemmas.List.{append-nil, append_cancel_left, length-append, take-append-drop}
use Rattle.std.proofs.lemmas.Str.{IsUtf8-from_is_utf8, chars-append, encodes-chars}
use Rattle.bq_package_values.specs.JsonParts.{json_bool}
use Rattle.bq_package_values.specs.JsonValue.{Json, string, number, truth, array, object, Items, no_items, item, Fields, no_fields, field}
use Rattle.bq_package_values.specs.JsonGrammar.{Reads, of_string, of_number, of_truth, of_array, of_object, ReadsItems, no_item, first_item, ReadsMoreItems, last_item, next_item, ReadsFields, no_field, first_field, ReadsMoreFields, last_field, next_field, StringAt, is_of_number, number_len}
use Rattle.bq_package_values.specs.JsonReading.{Place, between, after_escape, digits, units, at_end, onto, onto_some, letter_meaning, hex_value, quoted_bytes, bytes_if_all, joined, reads_string}

-- ---- a string ends at its closing quote

abbrev Stops : Place → List ℕ → List ℕ → Type 0
Stops place cs more = (us : List ℕ) → units place cs ≡ Some us → units place (cs ++ more) ≡ None

onto_stops : (c : ℕ) (one other : Option (List ℕ)) → ((us : List ℕ) → one ≡ Some us → other ≡ None) → (us : List ℕ) → onto c one ≡ Some us → onto c other ≡ None
onto_stops c None other f us e = absurd (cc)
onto_stops c (Some vs) other f us e = ap (onto c) (f vs refl)

letter_stops : (letter : Option ℕ) (one other : Option (List ℕ)) → ((us : List ℕ) → one ≡ Some us → other ≡ None) → (us : List ℕ) → onto_some letter one ≡ Some us → onto_some letter other ≡ None
letter_stops None one other f us e = refl
letter_stops (Some c) one other f us e = onto_stops c one other f us e

end_stops : (cs ds us : List ℕ) (d : ℕ) → at_end cs ≡ Some us → at_end (cs ++ d ∷ ds) ≡ None
end_stops [] ds us d e = refl
end_stops (c ∷ cs) ds us d e = absurd (cc)

between_stops : (quote backslash low : Bool) (c : ℕ) (cs ds : List ℕ) (d : ℕ) → Stops after_escape cs (d ∷ ds) → Stops between cs (d ∷ ds) → (us : List ℕ)
    → (if quote then at_end cs else (if backslash then units after_escape cs else (if low then None else onto c (units between cs)))) ≡ Some us
    → (if quote then at_end (cs ++ d ∷ ds) else (if backslash then units after_escape (cs ++ d ∷ ds) else (if low then None else onto c (units between (cs ++ d ∷ ds))))) ≡ None
between_stops true backslash low c cs ds d escape on us e = end_stops cs ds us d e
between_stops false true low c cs ds d escape on us e = escape us e
between_stops false false true c cs ds d escape on us e = refl
between_stops false false false c cs ds d escape on us e = onto_stops c (units between cs) (units between (cs ++ d ∷ ds)) on us e

escape_stops : (u : Bool) (c : ℕ) (cs more : List ℕ) → Stops (digits 3 0) cs more → Stops between cs more → (us : List ℕ)
    → (if u then units (digits 3 0) cs else onto_some (letter_meaning c) (units between cs)) ≡ Some us
    → (if u then units (digits 3 0) (cs ++ more) else onto_some (letter_meaning c) (units between (cs ++ more))) ≡ None
escape_stops true c cs more hex on us e = hex us e
escape_stops false c cs more hex on us e = letter_stops (letter_meaning c) (units between cs) (units between (cs ++ more)) on us e

digit_stops : (digit : Option ℕ) (one other : ℕ → Option (List ℕ)) → ((d : ℕ) (us : List ℕ) → one d ≡ Some us → other d ≡ None) → (us : List ℕ)
    → option_and_then one digit ≡ Some us → option_and_then other digit ≡ None
digit_stops None one other f us e = refl
digit_stops (Some d) one other f us e = f d us e

units_stop : (place : Place) (cs ds : List ℕ) (d : ℕ) → Stops place cs (d ∷ ds)
unfolding units
units_stop place [] ds d us e = absurd (cc)
units_stop between (c ∷ cs) ds d us e =
    between_stops (c == 0x22) (c == 0x5C) (nat_lt c 0x20) c cs ds d (units_stop after_escape cs ds d) (units_stop between cs ds d) us e
units_stop after_escape (c ∷ cs) ds d us e = escape_stops (c == 0x75) c cs (d ∷ ds) (units_stop (digits 3 0) cs ds d) (units_stop between cs ds d) us e
units_stop (digits zero value) (c ∷ cs) ds d us e =
    digit_stops (hex_value c) _ _ (λ h. onto_stops _ (units between cs) (units between (cs ++ d ∷ ds)) (units_stop between cs ds d)) us e
units_stop (digits (suc k) value) (c ∷ cs) ds d us e = digit_stops (hex_value c) _ _ (λ h. units_stop (digits k _) cs ds d) us e

-- the characters of a string, and some more, are no string
quoted_by : (quote : Bool) (cs ds : List ℕ) (d : ℕ) (bs : List ℕ) → (if quote then option_and_then (λ us. bytes_if_all (joined us)) (units between cs) else None) ≡ Some bs
    → (if quote then option_and_then (λ us. bytes_if_all (joined us)) (units between (cs ++ d ∷ ds)) else None) ≡ None
quoted_by false cs ds d bs e = refl
quoted_by true cs ds d bs e = known (units between cs) refl e where
  known : (o : Option (List ℕ)) → units between cs ≡ o → option_and_then (λ us. bytes_if_all (joined us)) o ≡ Some bs
      → option_and_then (λ us. bytes_if_all (joined us)) (units between (cs ++ d ∷ ds)) ≡ None
  known None is f = absurd (cc)
  known (Some us) is f = ap (option_and_then (λ vs. bytes_if_all (joined vs))) (units_stop between cs ds d us is)

quoted_stop : (cs ds : List ℕ) (d : ℕ) (bs : List ℕ) → quoted_bytes cs ≡ Some bs → quoted_bytes (cs ++ d ∷ ds) ≡ None
quoted_stop [] ds d bs e = absurd (cc)
quoted_stop (c ∷ cs) ds d bs e = quoted_by (c == 0x22) cs ds d bs e

nothing_more : (cs ds bs gs : List ℕ) → quoted_bytes cs ≡ Some bs → quoted_bytes (cs ++ ds) ≡ Some gs → ds ≡ []
nothing_more cs [] bs gs e f = refl
nothing_more cs (d ∷ ds) bs gs e f = let none = quoted_stop cs ds d bs e in absurd (cc)

-- what reads as a string is UTF-8, and its characters are those of one
read_parts : (text bs : List ℕ) → reads_string text ≡ Some bs → IsUtf8 text × (quoted_bytes (chars text) ≡ Some bs)
unfolding reads_string
read_parts text bs e = by (is_utf8 text) refl e where
  by : (u : Bool) → is_utf8 text ≡ u → (if u then quoted_bytes (chars text) else None) ≡ Some bs → IsUtf8 text × (quoted_bytes (chars text) ≡ Some bs)
  by true is f = (IsUtf8-from_is_utf8 text is, f)
  by false is f = absurd (cc)

no_rest : (xs ds : List ℕ) → xs ≡ xs ++ ds → ds ≡ []
no_rest xs [] e = refl
no_rest xs (d ∷ ds) e = let same = ap length e ∙ length-append xs (d ∷ ds) in absurd (omega arith)

-- a string of which another is the beginning is that
longer_same : (xs ds bs gs : List ℕ) → reads_string xs ≡ Some bs → reads_string (xs ++ ds) ≡ Some gs → ds ≡ []
longer_same xs ds bs gs e f =
    let one = read_parts xs bs e in
    let other = read_parts (xs ++ ds) gs f in
    let split = chars-append xs ds one.0 in
    let none = nothing_more (chars xs) (chars ds) bs gs one.1 (sym (ap quoted_bytes split) ∙ other.1) in
    let same = split ∙ ap (λ cs. chars xs ++ cs) none ∙ append-nil (chars xs) in
    no_rest xs ds (sym (encodes-chars xs one.0) ∙ ap encode_utf8_all (sym same) ∙ encodes-chars (xs ++ ds) other.0)

-- ---- two readings of the front of one text

-- of two beginnings of a text one is the beginning of the other
beginnings : (xs ys us vs : List ℕ) → xs ++ us ≡ ys ++ vs → ((ds : List ℕ) × (ys ≡ xs ++ ds)) ⊎ ((ds : List ℕ) × (xs ≡ ys ++ ds))
beginnings [] ys us vs e = inl (ys, refl)
beginnings (x ∷ xs) [] us vs e = inr (x ∷ xs, refl)
beginnings (x ∷ xs) (y ∷ ys) us vs e =
    let same : x ≡ y = cc in
    let rest : xs ++ us ≡ ys ++ vs = cc in
    ⊎_elim (λ h. inl (h.0, (cc_front x y ys (xs ++ h.0) same h.1))) (λ h. inr (h.0, (cc_front y x xs (ys ++ h.0) (sym same) h.1))) (beginnings xs ys us vs rest) where
      cc_front : (a b : ℕ) (bs cs : List ℕ) → a ≡ b → bs ≡ cs → b ∷ bs ≡ a ∷ cs
      cc_front a b bs cs e f = cc

-- two strings at the front of a text are one
string_same : (xs ys us vs bs gs : List ℕ) → reads_string xs ≡ Some bs → reads_string ys ≡ Some gs → xs ++ us ≡ ys ++ vs → xs ≡ ys
string_same xs ys us vs bs gs e f same =
    ⊎_elim
    (λ h. let none = longer_same xs h.0 bs gs e (ap reads_string (sym h.1) ∙ f) in sym (h.1 ∙ ap (λ ds. xs ++ ds) none ∙ append-nil xs))
    (λ h. let none = longer_same ys h.0 gs bs f (ap reads_string (sym h.1) ∙ e) in h.1 ∙ ap (λ ds. ys ++ ds) none ∙ append-nil ys)
    (beginnings xs ys us vs same)

strings_agree : {bs gs text r s : List ℕ} → StringAt bs text r → StringAt gs text s → (bs ≡ gs) × (r ≡ s)
strings_agree {bs} {gs} {text} {r} {s} one other =
    let whole : (34 ∷ one.after_quote) ++ r ≡ (34 ∷ other.after_quote) ++ s = sym one.front ∙ other.front in
    let same = string_same (34 ∷ one.after_quote) (34 ∷ other.after_quote) r s bs gs one.reads other.reads whole in
    let read : Some bs ≡ Some gs = sym one.reads ∙ ap reads_string same ∙ other.reads in
    (cc, append_cancel_left (34 ∷ one.after_quote) r s (whole ∙ ap (λ xs. xs ++ s) (sym same)))

-- ---- what a value begins with

-- values of one kind begin alike
abbrev tag : Json → ℕ
tag (string bs) = 0
tag (number n) = 1
tag (truth b) = 2
tag (array xs) = 3
tag (object fs) = 4

no_tag_above : (v : Json) → tag v < 5
no_tag_above (string bs) = omega arith
no_tag_above (number n) = omega arith
no_tag_above (truth b) = omega arith
no_tag_above (array xs) = omega arith
no_tag_above (object fs) = omega arith

abbrev byte_tag : ℕ → ℕ
byte_tag b = if b == 34 then 0 else (if b == 91 then 3 else (if b == 123 then 4 else (if is_of_number b then 1 else (if b == 116 then 2 else (if b == 102 then 2 else 5)))))

record Front (v : Json) (text : List ℕ) : Type 0 where
  first : ℕ
  later : List ℕ
  begins : text ≡ first ∷ later
  kind : byte_tag first ≡ tag v

number_tag : (b : ℕ) → is_of_number b ≡ true → byte_tag b ≡ 1
number_tag b is = grind (arith, nat_tests)

front : {v : Json} {text rest : List ℕ} → Reads v text rest → Front v text
front (of_string at) = record { first = 34; later = _; begins = at.front; kind = refl }
front (of_number {b = b} small e is taken left) = record { first = b; later = _; begins = e; kind = number_tag b is }
front (of_truth {b = true} {rest = rest} e) = record { first = 116; later = codes "rue" ++ rest; begins = e; kind = refl }
front (of_truth {b = false} {rest = rest} e) = record { first = 102; later = codes "alse" ++ rest; begins = e; kind = refl }
front (of_array e items) = record { first = 91; later = _; begins = e; kind = refl }
front (of_object e fields) = record { first = 123; later = _; begins = e; kind = refl }

heads : (a b : ℕ) (xs ys text : List ℕ) → text ≡ a ∷ xs → text ≡ b ∷ ys → a ≡ b
heads a b xs ys text e f = let same : a ∷ xs ≡ b ∷ ys = sym e ∙ f in cc

tails : (a b : ℕ) (xs ys text : List ℕ) → text ≡ a ∷ xs → text ≡ b ∷ ys → xs ≡ ys
tails a b xs ys text e f = let same : a ∷ xs ≡ b ∷ ys = sym e ∙ f in cc

tags : {v w : Json} {text r s : List ℕ} → Reads v text r → Reads w text s → tag v ≡ tag w
tags {text = text} one other =
    let a = front one in
    let b = front other in
    sym a.kind ∙ ap byte_tag (heads a.first b.first a.later b.later text a.begins b.begins) ∙ b.kind

apart : {v w : Json} {text r s : List ℕ} {A : Type 0} → (tag v ≡ tag w → ⊥) → Reads v text r → Reads w text s → A
apart differ one other = absurd (differ (tags one other))

truths_agree : (b c : Bool) (text r s : List ℕ) → text ≡ json_bool b ++ r → text ≡ json_bool c ++ s → (truth b ≡ truth c) × (r ≡ s)
truths_agree true true text r s e f = (refl, append_cancel_left (codes "true") r s (sym e ∙ f))
truths_agree false false text r s e f = (refl, append_cancel_left (codes "false") r s (sym e ∙ f))
truths_agree true false text r s e f = absurd (letters (heads 116 102 _ _ text e f)) where
  letters : ◌≡◌ {A = ℕ} 116 102 → ⊥
  letters e = omega arith
truths_agree false true text r s e f = absurd (letters (heads 102 116 _ _ text e f)) where
  letters : ◌≡◌ {A = ℕ} 102 116 → ⊥
  letters e = omega arith

-- ---- one reading

items_same : {x y : Json} {xs ys : Items} → x ≡ y → xs ≡ ys → item x xs ≡ item y ys
items_same e f = cc

fields_same : {k l : List ℕ} {x y : Json} {xs ys : Fields} → k ≡ l → x ≡ y → xs ≡ ys → field k x xs ≡ field l y ys
fields_same e f g = cc

after_colon : (a b : List ℕ) → 58 ∷ a ≡ 58 ∷ b → a ≡ b
after_colon a b e = cc

commas : ◌≡◌ {A = ℕ} 93 44 → ⊥
commas e = omega arith

quotes : ◌≡◌ {A = ℕ} 125 34 → ⊥
quotes e = omega arith

braces : ◌≡◌ {A = ℕ} 125 44 → ⊥
braces e = omega arith

-- no value begins with a closing bracket
no_value : {v : Json} {r : List ℕ} (rest text : List ℕ) → text ≡ 93 ∷ rest → Reads v text r → ⊥
no_value {v} rest text e reads =
    let f = front reads in
    let kind : byte_tag 93 ≡ tag v = ap byte_tag (heads 93 f.first rest f.later text e f.begins) ∙ f.kind in
    let below = no_tag_above v in
    omega arith

value_of_same : {v : Json} {t u rest : List ℕ} → t ≡ u → Reads v t rest → Reads v u rest
value_of_same {v} {t} {u} {rest} e reads = subst (λ (z : List ℕ). Reads v z rest) e reads

items_of_same : {xs : Items} {t u rest : List ℕ} → t ≡ u → ReadsItems xs t rest → ReadsItems xs u rest
items_of_same {xs} {t} {u} {rest} e reads = subst (λ (z : List ℕ). ReadsItems xs z rest) e reads

more_items_of_same : {xs : Items} {t u rest : List ℕ} → t ≡ u → ReadsMoreItems xs t rest → ReadsMoreItems xs u rest
more_items_of_same {xs} {t} {u} {rest} e reads = subst (λ (z : List ℕ). ReadsMoreItems xs z rest) e reads

fields_of_same : {fs : Fields} {t u rest : List ℕ} → t ≡ u → ReadsFields fs t rest → ReadsFields fs u rest
fields_of_same {fs} {t} {u} {rest} e reads = subst (λ (z : List ℕ). ReadsFields fs z rest) e reads

more_fields_of_same : {fs : Fields} {t u rest : List ℕ} → t ≡ u → ReadsMoreFields fs t rest → ReadsMoreFields fs u rest
more_fields_of_same {fs} {t} {u} {rest} e reads = subst (λ (z : List ℕ). ReadsMoreFields fs z rest) e reads

string_of_same : {bs t u rest : List ℕ} → t ≡ u → StringAt bs t rest → StringAt bs u rest
string_of_same {bs} {t} {u} {rest} e at = subst (λ (z : List ℕ). StringAt bs z rest) e at

mutual
  pub one_reading : {v w : Json} {text r s : List ℕ} → Reads v text r → Reads w text s → (v ≡ w) × (r ≡ s)
  one_reading (of_string one) (of_string other) = let same = strings_agree one other in (ap string same.0, same.1)
  one_reading (of_number {n = n} small e is taken left) (of_number {n = m} small' e' is' taken' left') =
      (ap number (signed_decimal_injective n m small small' (sym taken ∙ taken')), left ∙ sym left')
  one_reading {text = text} {r = r} {s = s} (of_truth {b = b} e) (of_truth {b = c} f) = truths_agree b c text r s e f
  one_reading {text = text} (of_array {inner = a} e one) (of_array {inner = b} f other) =
      let same = items_agree (items_of_same (tails 91 91 a b text e f) one) other in (ap array same.0, same.1)
  one_reading {text = text} (of_object {inner = a} e one) (of_object {inner = b} f other) =
      let same = fields_agree (fields_of_same (tails 123 123 a b text e f) one) other in (ap object same.0, same.1)
  one_reading (of_string at) (of_number small' e' is' taken' left') = apart (λ e. omega arith) (of_string at) (of_number small' e' is' taken' left')
  one_reading (of_string at) (of_truth e') = apart (λ e. omega arith) (of_string at) (of_truth e')
  one_reading (of_string at) (of_array e' items') = apart (λ e. omega arith) (of_string at) (of_array e' items')
  one_reading (of_string at) (of_object e' fields') = apart (λ e. omega arith) (of_string at) (of_object e' fields')
  one_reading (of_number small e is taken left) (of_string at') = apart (λ e. omega arith) (of_number small e is taken left) (of_string at')
  one_reading (of_number small e is taken left) (of_truth e') = apart (λ e. omega arith) (of_number small e is taken left) (of_truth e')
  one_reading (of_number small e is taken left) (of_array e' items') = apart (λ e. omega arith) (of_number small e is taken left) (of_array e' items')
  one_reading (of_number small e is taken left) (of_object e' fields') = apart (λ e. omega arith) (of_number small e is taken left) (of_object e' fields')
  one_reading (of_truth e) (of_string at') = apart (λ e. omega arith) (of_truth e) (of_string at')
  one_reading (of_truth e) (of_number small' e' is' taken' left') = apart (λ e. omega arith) (of_truth e) (of_number small' e' is' taken' left')
  one_reading (of_truth e) (of_array e' items') = apart (λ e. omega arith) (of_truth e) (of_array e' items')
  one_reading (of_truth e) (of_object e' fields') = apart (λ e. omega arith) (of_truth e) (of_object e' fields')
  one_reading (of_array e items) (of_string at') = apart (λ e. omega arith) (of_array e items) (of_string at')
  one_reading (of_array e items) (of_number small' e' is' taken' left') = apart (λ e. omega arith) (of_array e items) (of_number small' e' is' taken' left')
  one_reading (of_array e items) (of_truth e') = apart (λ e. omega arith) (of_array e items) (of_truth e')
  one_reading (of_array e items) (of_object e' fields') = apart (λ e. omega arith) (of_array e items) (of_object e' fields')
  one_reading (of_object e fields) (of_string at') = apart (λ e. omega arith) (of_object e fields) (of_string at')
  one_reading (of_object e fields) (of_number small' e' is' taken' left') = apart (λ e. omega arith) (of_object e fields) (of_number small' e' is' taken' left')
  one_reading (of_object e fields) (of_truth e') = apart (λ e. omega arith) (of_object e fields) (of_truth e')
  one_reading (of_object e fields) (of_array e' items') = apart (λ e. omega arith) (of_object e fields) (of_array e' items')

  items_agree : {xs ys : Items} {text r s : List ℕ} → ReadsItems xs text r → ReadsItems ys text s → (xs ≡ ys) × (r ≡ s)
  items_agree {text = text} {r = r} {s = s} (no_item e) (no_item f) = (refl, tails 93 93 r s text e f)
  items_agree (first_item one more) (first_item other others) =
      let same = one_reading one other in
      let rest = more_items_agree (more_items_of_same same.1 more) others in (items_same same.0 rest.0, rest.1)
  items_agree {text = text} (no_item {rest = rest} e) (first_item other others) = absurd (no_value rest text e other)
  items_agree {text = text} (first_item one more) (no_item {rest = rest} f) = absurd (no_value rest text f one)

  more_items_agree : {xs ys : Items} {text r s : List ℕ} → ReadsMoreItems xs text r → ReadsMoreItems ys text s → (xs ≡ ys) × (r ≡ s)
  more_items_agree {text = text} {r = r} {s = s} (last_item e) (last_item f) = (refl, tails 93 93 r s text e f)
  more_items_agree {text = text} (next_item {inner = a} e one more) (next_item {inner = b} f other others) =
      let same = one_reading (value_of_same (tails 44 44 a b text e f) one) other in
      let rest = more_items_agree (more_items_of_same same.1 more) others in (items_same same.0 rest.0, rest.1)
  more_items_agree {text = text} (last_item e) (next_item f other others) = absurd (commas (heads 93 44 _ _ text e f))
  more_items_agree {text = text} (next_item e one more) (last_item f) = absurd (commas (heads 93 44 _ _ text f e))

  fields_agree : {xs ys : Fields} {text r s : List ℕ} → ReadsFields xs text r → ReadsFields ys text s → (xs ≡ ys) × (r ≡ s)
  fields_agree {text = text} {r = r} {s = s} (no_field e) (no_field f) = (refl, tails 125 125 r s text e f)
  fields_agree (first_field {value = a} key one more) (first_field {value = b} key' other others) =
      let keys = strings_agree key key' in
      let same = one_reading (value_of_same (after_colon a b keys.1) one) other in
      let rest = more_fields_agree (more_fields_of_same same.1 more) others in (fields_same keys.0 same.0 rest.0, rest.1)
  fields_agree {text = text} (no_field e) (first_field key other others) = absurd (quotes (heads 125 34 _ _ text e key.front))
  fields_agree {text = text} (first_field key one more) (no_field f) = absurd (quotes (heads 125 34 _ _ text f key.front))

  more_fields_agree : {xs ys : Fields} {text r s : List ℕ} → ReadsMoreFields xs text r → ReadsMoreFields ys text s → (xs ≡ ys) × (r ≡ s)
  more_fields_agree {text = text} {r = r} {s = s} (last_field e) (last_field f) = (refl, tails 125 125 r s text e f)
  more_fields_agree {text = text} (next_field {inner = i} {value = a} e key one more) (next_field {inner = j} {value = b} f key' other others) =
      let keys = strings_agree (string_of_same (tails 44 44 i j text e f) key) key' in
      let same = one_reading (value_of_same (after_colon a b keys.1) one) other in
      let rest = more_fields_agree (more_fields_of_same same.1 more) others in (fields_same keys.0 same.0 rest.0, rest.1)
  more_fields_agree {text = text} (last_field e) (next_field f key other others) = absurd (braces (heads 125 44 _ _ text e f))
  more_fields_agree {text = text} (next_field e key one more) (last_field f) = absurd (braces (heads 125 44 _ _ text f e))
