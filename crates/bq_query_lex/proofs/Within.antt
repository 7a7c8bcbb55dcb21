-- What each piece at the front of a text is.
use Rattle.std.proofs.Common.{◌≡◌, ℕ, zero, suc, ◌+◌, ◌<◌, ◌≤◌, Bool, true, cond, not, List, [], ◌∷◌, ◌++◌, length, take, drop, get_or, refl, sym, ap, ◌∙◌, subst, arith}
use Rattle.std.specs.Prelude.{Option, Some, None, nat_lt, nat_eq, ◌==◌}
use Rattle.std.specs.List.{prefix_len, position_or_len, list_all}
use Rattle.std.specs.Map.{lookup}
use Rattle.std.proofs.lemmas.List.{take_more}
use Rattle.std.proofs.lemmas.List.Sums.{prefix_len-le-length, passes_at_first}
use Rattle.std.proofs.lemmas.Bool.{cond_both, and_parts, and_from, ltb-true, eqb-true}
use Rattle.bq_query_lex.specs.declared.token.QueryTokenKind.{QueryTokenKind}
use Rattle.bq_query_lex.specs.declared.lexis.QueryPiece.{QueryPiece}
use Rattle.bq_query_lex.specs.declared.token.QueryTokenKind.TheVariants.{Quoted}
use Rattle.bq_query_lex.specs.declared.lexis.QueryPiece.TheVariants.{End, Blank, Found, Unknown}
use Rattle.bq_query_lex.specs.Lexis.{is_blank, is_quote, is_word_byte, begins_word, punctuation, word_kind, word_piece, quoted_piece, other_piece, piece_of}
use Rattle.bq_query_lex.specs.Reading.{IsWithin}
use Rattle.bq_query_lex.specs.Laws.{IsSpelled, mark, quoted, bare, first_begins}

-- nothing, a blank and what follows, or a token and what follows
pub data Front : QueryPiece → List ℕ → Type 0 where
  empty : Front End []
  a_blank : {b : ℕ} {bs : List ℕ} → is_blank b ≡ true → Front Blank (b ∷ bs)
  a_token : {text : List ℕ} {kind : QueryTokenKind} {n : ℕ} → 0 < n → n ≤ length text → IsSpelled kind (take n text) (drop n text) → Front (Found kind n) text
  nothing : {text : List ℕ} → Front Unknown text

one_more : (m : ℕ) → 1 + m ≡ suc m
one_more m = omega arith

-- the longest run
run_all : (p : ℕ → Bool) (xs : List ℕ) → list_all p (take (prefix_len p xs) xs) ≡ true
run_all p [] = refl
run_all p (x ∷ xs) =
    cond_both (p x) (1 + prefix_len p xs) 0 (λ n. list_all p (take n (x ∷ xs)) ≡ true)
    (λ e. subst (λ n. list_all p (take n (x ∷ xs)) ≡ true) (sym (one_more (prefix_len p xs))) (and_from (p x) (list_all p (take (prefix_len p xs) xs)) e (run_all p xs)))
    (λ e. refl)

run_ends : (p : ℕ → Bool) (xs : List ℕ) → prefix_len p (drop (prefix_len p xs) xs) ≡ 0
run_ends p [] = refl
run_ends p (x ∷ xs) =
    cond_both (p x) (1 + prefix_len p xs) 0 (λ n. prefix_len p (drop n (x ∷ xs)) ≡ 0)
    (λ e. subst (λ n. prefix_len p (drop n (x ∷ xs)) ≡ 0) (sym (one_more (prefix_len p xs))) (run_ends p xs))
    (λ e. ap (λ c. cond c (1 + prefix_len p xs) 0) e)

first_of_run : (b : ℕ) (bs : List ℕ) (n : ℕ) → 0 < n → begins_word b ≡ true → first_begins (take n (b ∷ bs)) ≡ true
first_of_run b bs zero l e = absurd (omega arith)
first_of_run b bs (suc n) l e = e

abbrev word_of : Option QueryTokenKind → ℕ → QueryPiece
word_of o n = elim o [ Some kind ↦ Found kind n | None ↦ Unknown ]

word_at : (o : Option QueryTokenKind) (b : ℕ) (bs : List ℕ) (n : ℕ) → 0 < n → n ≡ prefix_len is_word_byte (b ∷ bs) → begins_word b ≡ true → word_kind (take n (b ∷ bs)) ≡ o → Front (word_of o n) (b ∷ bs)
word_at None b bs n l e f g = nothing
word_at (Some kind) b bs n l e f g =
    a_token l (omega (arith, e, prefix_len-le-length is_word_byte (b ∷ bs)))
    (bare (first_of_run b bs n l f) (subst (λ m. list_all is_word_byte (take m (b ∷ bs)) ≡ true) (sym e) (run_all is_word_byte (b ∷ bs)))
    (subst (λ m. prefix_len is_word_byte (drop m (b ∷ bs)) ≡ 0) (sym e) (run_ends is_word_byte (b ∷ bs))) g)

longest : (b : ℕ) (bs : List ℕ) → is_word_byte b ≡ true → 0 < prefix_len is_word_byte (b ∷ bs)
longest b bs e = omega (arith, ap (λ c. cond c (1 + prefix_len is_word_byte bs) 0) e)

at_word : (b : ℕ) (bs : List ℕ) → begins_word b ≡ true → Front (word_piece (b ∷ bs)) (b ∷ bs)
unfolding word_piece
at_word b bs e =
    let n = prefix_len is_word_byte (b ∷ bs) in
    word_at (word_kind (take n (b ∷ bs))) b bs n (longest b bs (and_parts (is_word_byte b) _ e).0) refl e refl

quote_text : (q : ℕ) (bs : List ℕ) (n : ℕ) → n < length bs → get_or bs n 0 ≡ q → take (n + 2) (q ∷ bs) ≡ q ∷ (take n bs ++ q ∷ [])
quote_text q bs n l e =
    ap (λ m. take m (q ∷ bs)) (let r : n + 2 ≡ suc (n + 1) = omega arith in r)
    ∙ ap (λ (xs : List ℕ). q ∷ xs) (take_more bs n 0 l ∙ ap (λ c. take n bs ++ c ∷ []) e)

abbrev quoted_of : Option ℕ → QueryPiece
quoted_of o = elim o [ Some n ↦ Found Quoted (n + 2) | None ↦ Unknown ]

at_quote : (q : ℕ) (bs : List ℕ) → is_quote q ≡ true → Front (quoted_piece q bs) (q ∷ bs)
unfolding quoted_piece
at_quote q bs e =
    let n = position_or_len (λ c. c == q) bs in
    cond_both (nat_lt n (length bs)) (Some n) None (λ o. Front (quoted_of o) (q ∷ bs))
    (λ t. let l : n < length bs = ltb-true n (length bs) t in
    a_token (omega arith) (omega (arith, l)) (quoted (take n bs) e (run_all (λ b. not (b == q)) bs) (quote_text q bs n l (eqb-true (get_or bs n 0) q (passes_at_first (λ c. c == q) bs 0 l)))))
    (λ t. nothing)

at_other : (b : ℕ) (bs : List ℕ) → Front (other_piece b bs) (b ∷ bs)
at_other b bs =
    let P : QueryPiece → Type 0 = λ p. Front p (b ∷ bs) in
    cond_both (is_quote b) (quoted_piece b bs) (cond (begins_word b) (word_piece (b ∷ bs)) Unknown) P (λ e. at_quote b bs e)
    (λ e. cond_both (begins_word b) (word_piece (b ∷ bs)) Unknown P (λ f. at_word b bs f) (λ f. nothing))

abbrev piece_by : Option QueryTokenKind → ℕ → List ℕ → QueryPiece
piece_by o b bs = elim o [ Some kind ↦ Found kind 1 | None ↦ other_piece b bs ]

at_mark : (o : Option QueryTokenKind) (b : ℕ) (bs : List ℕ) → lookup (nat_eq b) punctuation ≡ o → Front (piece_by o b bs) (b ∷ bs)
at_mark (Some kind) b bs e = a_token (omega arith) (omega arith) (mark e refl)
at_mark None b bs e = at_other b bs

pub front : (text : List ℕ) → Front (piece_of text) text
unfolding piece_of
front [] = empty
front (b ∷ bs) = cond_both (is_blank b) Blank (piece_by (lookup (nat_eq b) punctuation) b bs) (λ p. Front p (b ∷ bs)) (λ e. a_blank e) (λ e. at_mark (lookup (nat_eq b) punctuation) b bs refl)

inside : (p : QueryPiece) (text : List ℕ) → Front p text → IsWithin p (length text)
inside End text f = tt
inside Blank text (a_blank e) = omega arith
inside (Found kind n) text (a_token l h s) = (l, h)
inside Unknown text f = tt

pub within : (text : List ℕ) → IsWithin (piece_of text) (length text)
within text = inside (piece_of text) text (front text)
