-- Words by their first bytes and lengths, and in one table: a word of another first byte or length than each keyword and reserved word is an
-- identifier, and one that isn't in the table is one too.
use Rattle.std.proofs.Common.{◌≡◌, ℕ, Bool, List, [], ◌∷◌, ◌++◌, true, false, Option, Some, None, inl, inr, refl, sym, ap, ◌∙◌}
use Rattle.std.specs.List.{list_any, list_all}
use Rattle.std.specs.Map.{lookup}
use Rattle.std.specs.Str.{bytes_eq}
use Rattle.std.proofs.lemmas.Slice.Eq.{bytes_eq-Decides}
use Rattle.bq_source.specs.declared.token.TokenKind.{TokenKind}
use Rattle.bq_source.specs.declared.token.TokenKind.TheVariants as k
use Rattle.bq_source.specs.Lexis.{keywords, reserved_words, word_kind, has_head}
use Rattle.bq_source.proofs.Cases.{word_kind_by, other_word}
use Rattle.bq_base.proofs.Choices.{by_bool, left_of, right_of}

unlike_by : (same : Bool) (w x : List ℕ) → bytes_eq w x ≡ same → has_head w ≡ false → has_head x ≡ true → same ≡ false
unlike_by false w x e none some = refl
unlike_by true w x e none some = let one = (bytes_eq-Decides w x).0 e in sym some ∙ (ap has_head (sym one) ∙ none)

unlike : (w x : List ℕ) → has_head w ≡ false → has_head x ≡ true → bytes_eq w x ≡ false
unlike w x none some = unlike_by (bytes_eq w x) w x refl none some

not_found : {X : Type 0} (w : List ℕ) (table : List (List ℕ × X)) → has_head w ≡ false → list_all (λ e. has_head e.0) table ≡ true → lookup (bytes_eq w) table ≡ None
not_found w [] none all = refl
not_found w (e ∷ es) none all =
    let first = unlike w e.0 none (left_of (has_head e.0) (list_all (λ y. has_head y.0) es) all) in
    let r = not_found w es none (right_of (has_head e.0) (list_all (λ y. has_head y.0) es) all) in
    rw first r

not_among : (w : List ℕ) (words : List (List ℕ)) → has_head w ≡ false → list_all has_head words ≡ true → list_any (bytes_eq w) words ≡ false
not_among w [] none all = refl
not_among w (x ∷ xs) none all =
    let first = unlike w x none (left_of (has_head x) (list_all has_head xs) all) in
    let r = not_among w xs none (right_of (has_head x) (list_all has_head xs) all) in
    rw first r

pub headless : (w : List ℕ) → has_head w ≡ false → k.Identifier ≡ word_kind w
unfolding word_kind
headless w none = sym (ap (λ o. word_kind_by o w) (not_found w keywords none refl) ∙ ap other_word (not_among w reserved_words none refl))

-- what a table says of a word
abbrev pub kind_by : Option TokenKind → TokenKind
kind_by (Some kind) = kind
kind_by None = k.Identifier

abbrev as_reserved : List (List ℕ) → List (List ℕ × TokenKind)
as_reserved [] = []
as_reserved (w ∷ ws) = (w, k.Reserved) ∷ as_reserved ws

-- the keywords, and after them the reserved words
abbrev words : List (List ℕ × TokenKind)
words = keywords ++ as_reserved reserved_words

reserved_so : (w : List ℕ) (rs : List (List ℕ)) → kind_by (lookup (bytes_eq w) (as_reserved rs)) ≡ other_word (list_any (bytes_eq w) rs)
reserved_so w [] = refl
reserved_so w (r ∷ rs) = elim (by_bool (bytes_eq w r)) [
  | inl t ↦ rw t refl
  | inr t ↦ let later = reserved_so w rs in rw t later
]

table_so : (w : List ℕ) (ks : List (List ℕ × TokenKind)) → kind_by (lookup (bytes_eq w) (ks ++ as_reserved reserved_words)) ≡ word_kind_by (lookup (bytes_eq w) ks) w
table_so w [] = reserved_so w reserved_words
table_so w (e ∷ es) = elim (by_bool (bytes_eq w e.0)) [
  | inl t ↦ rw t refl
  | inr t ↦ let later = table_so w es in rw t later
]

pub one_table : (w : List ℕ) → kind_by (lookup (bytes_eq w) words) ≡ word_kind w
unfolding word_kind
one_table w = table_so w keywords
