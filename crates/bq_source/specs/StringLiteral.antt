-- String literals, by the Starlark specification, "Lexical elements": "String literals".
use Rattle.std.specs.Prelude.{◌≡◌, ◌≢◌, ◌⊎◌, ℕ, zero, suc, ◌+◌, ◌<◌, ◌≤◌, List, [], ◌∷◌, ◌++◌, length, drop, take, Bool, true, false, not, ◌&&◌, ◌||◌, ◌==◌, nat_eq, Option, Some, None, is_none, is_some, IsSome, option_map, unwrap_or, if◌then◌else◌}
use Rattle.std.specs.List.{AllByRecursion}
use Rattle.std.specs.Option.{option_or}
use Rattle.std.specs.Map.{lookup}
use Rattle.bq_source.specs.declared.string_literal.Quoting.{Quoting}
use Rattle.bq_source.specs.declared.string_literal.StringLiteral.{StringLiteral}
use Rattle.bq_source.specs.declared.string_literal.ItemValue.{ItemValue}
use Rattle.bq_source.specs.declared.string_literal.ItemValue.TheVariants.{Byte, BackslashAnd, Empty, BadEscape}
use Rattle.bq_source.specs.declared.string_literal.BodyPart.{BodyPart}
use Rattle.bq_source.specs.declared.string_literal.BodyPart.TheVariants.{Closing, Unclosed, Item}

-- a double or a single quote
abbrev pub is_quote : ℕ → Bool
is_quote b = b == 34 || b == 39

-- a text begins with a byte
abbrev pub begins : ℕ → List ℕ → Bool
begins a [] = false
begins a (b ∷ bs) = b == a

-- two of this byte
abbrev pub begins_pair : ℕ → List ℕ → Bool
begins_pair a [] = false
begins_pair a (b ∷ bs) = b == a && begins a bs

-- How a literal opens: `r` where it is raw, then its quotes. What begins with three quotes is triple-quoted.
abbrev pub opening_quotes : Bool → List ℕ → Option Quoting
opening_quotes raw [] = None
opening_quotes raw (q ∷ bs) = if is_quote q then Some (record { raw = raw; quote = q; triple = begins_pair q bs }) else None

-- how a string literal begins, if one begins here: `r` makes it raw
unfoldable pub opening : List ℕ → Option Quoting
opening [] = None
opening (b ∷ bs) = if b == 114 then opening_quotes true bs else opening_quotes false (b ∷ bs)

-- a string literal begins here
abbrev pub begins_string : List ℕ → Bool
begins_string text = is_some (opening text)

-- one quote, or three
abbrev pub quotes_len : Quoting → ℕ
quotes_len q = if q.triple then 3 else 1

-- the bytes before the body of a literal
abbrev pub opening_len : Quoting → ℕ
opening_len q = (if q.raw then 1 else 0) + quotes_len q

-- the closing quotes are next
abbrev pub closes : Quoting → List ℕ → Bool
closes q [] = false
closes q (b ∷ bs) = b == q.quote && (not q.triple || begins_pair q.quote bs)

-- how many bytes a newline takes that is next: LF, or CR LF
abbrev pub newline_len : List ℕ → ℕ
newline_len [] = 0
newline_len (b ∷ bs) = if b == 10 then 1 else (if b == 13 && begins 10 bs then 2 else 0)

-- the escapes `\n \r \t \\ \' \"`, each with the byte that it stands for (the specification has others, which are F5 here)
abbrev pub escapes : List (ℕ × ℕ)
escapes = (110, 10) ∷ (114, 13) ∷ (116, 9) ∷ (92, 92) ∷ (39, 39) ∷ (34, 34) ∷ []

-- what a backslash and this byte stand for
abbrev pub escape : ℕ → ItemValue
escape c = elim (lookup (nat_eq c) escapes) [ None ↦ BadEscape | Some b ↦ Byte b ]

-- What a backslash and what comes after it are: a newline, whose length the number is, or a byte. In a raw literal both stay, a newline as `\n`.
abbrev pub after_backslash_by : Bool → ℕ → List ℕ → BodyPart
after_backslash_by raw (suc n) bs = Item (suc n) (if raw then BackslashAnd 10 else Empty)
after_backslash_by raw zero [] = Unclosed
after_backslash_by raw zero (c ∷ cs) = Item 1 (if raw then BackslashAnd c else escape c)

-- what a backslash and the bytes behind it are
abbrev pub after_backslash : Bool → List ℕ → BodyPart
after_backslash raw bs = after_backslash_by raw (newline_len bs) bs

-- Any other byte stands for itself. A newline, which only a triple-quoted literal holds, stands for `\n` however it is spelled.
abbrev pub plain_by : Quoting → ℕ → ℕ → BodyPart
plain_by q b zero = Item 0 (Byte b)
plain_by q b (suc n) = if q.triple then Item n (Byte 10) else Unclosed

-- a byte that stands for itself wherever it is in a body with this quote
abbrev pub is_plain : ℕ → ℕ → Bool
is_plain quote b = not (b == quote) && (not (b == 92) && (not (b == 10) && not (b == 13)))

-- what is at one place of a literal's body
unfoldable pub body_part : Quoting → List ℕ → BodyPart
body_part q [] = Unclosed
body_part q (b ∷ bs) =
    if b == 92 then after_backslash q.raw bs else (if closes q (b ∷ bs) then Closing else plain_by q b (newline_len (b ∷ bs)))

-- what is next is within `n` bytes, where the closing quotes take `quotes`
abbrev pub IsWithin : BodyPart → ℕ → ℕ → Type 0
IsWithin Closing n quotes = quotes ≤ n
IsWithin Unclosed n quotes = Unit {0}
IsWithin (Item more value) n quotes = more < n

-- An item of a body: how it is spelled, and what it stands for, which is nothing where it is an escape that there is not.
pub record BodyItem : Type 0 where
  pub spelled : List ℕ
  pub value : Option (List ℕ)

-- the bytes that an item stands for
abbrev pub item_value : ItemValue → Option (List ℕ)
item_value (Byte b) = Some (b ∷ [])
item_value (BackslashAnd b) = Some (92 ∷ b ∷ [])
item_value Empty = Some []
item_value BadEscape = None

-- The items up to the closing quotes, or `None` where they never come. The number says how many bytes of the last item are still to come.
unfoldable pub items : Quoting → ℕ → List ℕ → Option (List BodyItem)
items q skip [] = None
items q (suc skip) (b ∷ bs) = items q skip bs
items q zero (b ∷ bs) = elim (body_part q (b ∷ bs)) [
  | Closing ↦ Some []
  | Unclosed ↦ None
  | Item more value ↦
      option_map (λ is. record { spelled = b ∷ take more bs; value = item_value value } ∷ is) (items q more bs)
]

-- their spellings in a row
abbrev pub spelling : List BodyItem → List ℕ
spelling [] = []
spelling (i ∷ is) = i.spelled ++ spelling is

-- their values in a row
abbrev pub values : List BodyItem → List ℕ
values [] = []
values (i ∷ is) = unwrap_or i.value [] ++ values is

-- where the first one is that stands for nothing, of items that begin at this place
abbrev pub bad_escape : ℕ → List BodyItem → Option ℕ
bad_escape at [] = None
bad_escape at (i ∷ is) = if is_none i.value then Some at else bad_escape (at + length i.spelled) is

-- the literal, from these items on, which begin at this place; an earlier one may have been a bad escape
abbrev pub literal_from : Quoting → ℕ → Option ℕ → Option (List BodyItem) → Option StringLiteral
literal_from q at bad None = None
literal_from q at bad (Some is) = Some (record { len = at + length (spelling is) + quotes_len q; bad_escape = option_or bad (bad_escape at is) })

-- The literal that begins here: its length and the place of its first bad escape (F5), or `None` where it does not end (F4).
unfoldable pub scan_string : List ℕ → Option StringLiteral
scan_string text = elim (opening text) [ None ↦ None | Some q ↦ literal_from q (opening_len q) None (items q 0 (drop (opening_len q) text)) ]

-- The value of a string literal, from its whole spelling, or `None` where that is not one literal, each of whose escapes is one.
unfoldable pub string_value : List ℕ → Option (List ℕ)
string_value spelled =
    if elim (scan_string spelled) [ None ↦ false | Some l ↦ l.len == length spelled && is_none l.bad_escape ]
    then elim (opening spelled) [ None ↦ None | Some q ↦ option_map values (items q 0 (drop (opening_len q) spelled)) ] else None

-- a byte that stands for itself wherever it is in a body
abbrev pub stays : Bool → ℕ → Bool
stays raw b = not (b == 13) && (raw || not (b == 92))

-- In words of the text alone. A text begins with these bytes:
abbrev pub BeginsWith : List ℕ → List ℕ → Type 0
BeginsWith front text = (rest : List ℕ) × (text ≡ front ++ rest)

-- LF, or CR LF
abbrev pub IsNewline : List ℕ → Type 0
IsNewline n = (n ≡ 10 ∷ []) ⊎ (n ≡ 13 ∷ 10 ∷ [])

-- the text begins with LF, or with CR LF
abbrev pub BeginsNewline : List ℕ → Type 0
BeginsNewline text = BeginsWith (10 ∷ []) text ⊎ BeginsWith (13 ∷ 10 ∷ []) text

-- `r` for a raw literal, else nothing
abbrev pub prefix_by : Bool → List ℕ
prefix_by true = 114 ∷ []
prefix_by false = []

-- what a literal has before its opening quotes: `r` where it is raw
abbrev pub prefix : Quoting → List ℕ
prefix q = prefix_by q.raw

-- the quote three times for a triple-quoted literal, else once
abbrev pub quotes_by : Bool → ℕ → List ℕ
quotes_by true quote = quote ∷ quote ∷ quote ∷ []
quotes_by false quote = quote ∷ []

-- the quotes before a literal's body, which are also those after it
abbrev pub quotes : Quoting → List ℕ
quotes q = quotes_by q.triple q.quote

-- These bytes, with these after them, are one item of a body, which stands for this.
pub data IsItem (q : Quoting) : List ℕ → List ℕ → Option (List ℕ) → Type 0 where
  -- any byte, but a backslash, the closing quotes and a newline
  plain : {b : ℕ} {after : List ℕ} → b ≢ 92 → (BeginsWith (quotes q) (b ∷ after) → ⊥) → (BeginsNewline (b ∷ after) → ⊥)
      → IsItem q (b ∷ []) after (Some (b ∷ []))
  newline : {n after : List ℕ} → IsNewline n → q.triple ≡ true → IsItem q n after (Some (10 ∷ []))
  escaped : {c b : ℕ} {after : List ℕ} → q.raw ≡ false → lookup (nat_eq c) escapes ≡ Some b → IsItem q (92 ∷ c ∷ []) after (Some (b ∷ []))
  joined : {n after : List ℕ} → q.raw ≡ false → IsNewline n → IsItem q (92 ∷ n) after (Some [])
  no_escape : {c : ℕ} {after : List ℕ} → q.raw ≡ false → lookup (nat_eq c) escapes ≡ None → (BeginsNewline (c ∷ after) → ⊥)
      → IsItem q (92 ∷ c ∷ []) after None
  raw_byte : {c : ℕ} {after : List ℕ} → q.raw ≡ true → (BeginsNewline (c ∷ after) → ⊥) → IsItem q (92 ∷ c ∷ []) after (Some (92 ∷ c ∷ []))
  raw_newline : {n after : List ℕ} → q.raw ≡ true → IsNewline n → IsItem q (92 ∷ n) after (Some (92 ∷ 10 ∷ []))

-- the text is these items, one after another, and this rest
pub data Items (q : Quoting) : List ℕ → List BodyItem → List ℕ → Type 0 where
  over : {rest : List ℕ} → Items q rest [] rest
  more : {text mid rest : List ℕ} {i : BodyItem} {is : List BodyItem} → text ≡ i.spelled ++ mid → IsItem q i.spelled mid i.value
      → Items q mid is rest → Items q text (i ∷ is) rest

-- no item is next, nor the closing quotes: the text ends, or a newline comes that the literal may not hold
abbrev pub IsUnclosed : Quoting → List ℕ → Type 0
IsUnclosed q mid = (mid ≡ []) ⊎ ((mid ≡ 92 ∷ []) ⊎ ((q.triple ≡ false) × BeginsNewline mid))

-- a double or a single quote
abbrev pub IsQuote : ℕ → Type 0
IsQuote a = (a ≡ 34) ⊎ (a ≡ 39)

-- This opens a literal, whose body follows. What begins with three quotes is triple-quoted.
pub record Opens (q : Quoting) (text body : List ℕ) : Type 0 where
  pub quote : IsQuote q.quote
  pub spelled : text ≡ prefix q ++ (quotes q ++ body)
  pub longest : q.triple ≡ false → BeginsWith (q.quote ∷ q.quote ∷ []) body → ⊥

-- The text is a literal with these items, and this rest: its prefix, its quotes, the items and its quotes, which are the first that
-- come where an item could begin.
pub record IsLiteral (q : Quoting) (text : List ℕ) (is : List BodyItem) (rest : List ℕ) : Type 0 where
  pub body : List ℕ
  pub opens : Opens q text body
  pub cut : Items q body is (quotes q ++ rest)

-- how long it is, and its first bad escape
abbrev pub literal_of : Quoting → List BodyItem → StringLiteral
literal_of q is = record { len = opening_len q + length (spelling is) + quotes_len q; bad_escape = bad_escape (opening_len q) is }

-- The text is an opening, items, and then neither an item nor the closing quotes.
pub record IsOpenLiteral (text : List ℕ) : Type 0 where
  pub quoting : Quoting
  pub body : List ℕ
  pub opens : Opens quoting text body
  pub is : List BodyItem
  pub mid : List ℕ
  pub cut : Items quoting body is mid
  pub unclosed : IsUnclosed quoting mid

-- each item stands for something
abbrev pub AllStand : List BodyItem → Type 0
AllStand is = AllByRecursion (λ i. IsSome i.value) is

-- a text's literal, with all that is said of it
pub record FoundLiteral (text : List ℕ) (l : StringLiteral) : Type 0 where
  pub quoting : Quoting
  pub is : List BodyItem
  pub rest : List ℕ
  pub literal : IsLiteral quoting text is rest
  pub means : l ≡ literal_of quoting is

-- a spelling with a value is a literal
pub record ValuedLiteral (s v : List ℕ) : Type 0 where
  pub quoting : Quoting
  pub is : List BodyItem
  pub literal : IsLiteral quoting s is []
  pub stand : AllStand is
  pub means : v ≡ values is

-- two cuttings are one
pub record SameCut (q p : Quoting) (is js : List BodyItem) (rest tail : List ℕ) : Type 0 where
  pub quoting : q ≡ p
  pub items : is ≡ js
  pub after : rest ≡ tail

-- The spelling of a string as `repr` writes it: double quotes, and escapes for a backslash, a double quote, LF, CR and tab.
abbrev pub quoted_escapes : List (ℕ × ℕ)
quoted_escapes = (92, 92) ∷ (34, 34) ∷ (10, 110) ∷ (13, 114) ∷ (9, 116) ∷ []

-- a byte as it is written in quotes
abbrev pub quoted_byte : ℕ → List ℕ
quoted_byte b = elim (lookup (nat_eq b) quoted_escapes) [ None ↦ b ∷ [] | Some c ↦ 92 ∷ c ∷ [] ]

-- bytes as they are written in quotes
abbrev pub quoted_body : List ℕ → List ℕ
quoted_body [] = []
quoted_body (b ∷ bs) = quoted_byte b ++ quoted_body bs

-- a string literal of these bytes
unfoldable pub quoted : List ℕ → List ℕ
quoted bytes = 34 ∷ quoted_body bytes ++ 34 ∷ []
