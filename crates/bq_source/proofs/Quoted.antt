-- What `repr` writes of a string reads back.
use Rattle.std.proofs.Common.{◌≡◌, ◌≢◌, ℕ, ◌+◌, inl, inr, List, [], ◌∷◌, ◌++◌, Bool, true, false, eqb, Option, Some, None, length, cond, refl, sym, ap, ◌∙◌, subst, arith, append_assoc}
use Rattle.std.specs.Prelude.{nat_eq}
use Rattle.std.specs.Map.{lookup}
use Rattle.std.proofs.lemmas.Bool.{eqb-true}
use Rattle.bq_source.specs.declared.string_literal.Quoting.{Quoting}
use Rattle.bq_source.specs.StringLiteral.{opening_len, quotes_len, BodyItem, spelling, values, scan_string, string_value, escapes, BeginsWith, BeginsNewline, IsItem, plain, escaped, Items, over, more, IsLiteral, AllStand, quoted_escapes, quoted_byte, quoted_body, quoted}
use Rattle.bq_source.proofs.Cases.{quoted_byte_by}
use Rattle.bq_source.proofs.LiteralLaws.{literal_found, literal_value, literal_long, no_bad}

double : Quoting
double = record { raw = false; quote = 34; triple = false }

listed_by : (b c : ℕ) (s1 s2 s3 s4 s5 : Bool) → eqb b 92 ≡ s1 → eqb b 34 ≡ s2 → eqb b 10 ≡ s3 → eqb b 13 ≡ s4 → eqb b 9 ≡ s5
    → cond s1 (Some 92) (cond s2 (Some 34) (cond s3 (Some 110) (cond s4 (Some 114) (cond s5 (Some 116) None)))) ≡ Some c
    → lookup (nat_eq c) escapes ≡ Some b
listed_by b c true s2 s3 s4 s5 e1 e2 e3 e4 e5 h = let f : c ≡ 92 = cc in rw f (ap Some (sym (eqb-true b 92 e1)))
listed_by b c false true s3 s4 s5 e1 e2 e3 e4 e5 h = let f : c ≡ 34 = cc in rw f (ap Some (sym (eqb-true b 34 e2)))
listed_by b c false false true s4 s5 e1 e2 e3 e4 e5 h = let f : c ≡ 110 = cc in rw f (ap Some (sym (eqb-true b 10 e3)))
listed_by b c false false false true s5 e1 e2 e3 e4 e5 h = let f : c ≡ 114 = cc in rw f (ap Some (sym (eqb-true b 13 e4)))
listed_by b c false false false false true e1 e2 e3 e4 e5 h = let f : c ≡ 116 = cc in rw f (ap Some (sym (eqb-true b 9 e5)))
listed_by b c false false false false false e1 e2 e3 e4 e5 h = cc

-- each escape that `repr` writes is one
listed : (b c : ℕ) → lookup (nat_eq b) quoted_escapes ≡ Some c → lookup (nat_eq c) escapes ≡ Some b
listed b c h = listed_by b c (eqb b 92) (eqb b 34) (eqb b 10) (eqb b 13) (eqb b 9) refl refl refl refl refl h

abbrev Unlisted : ℕ → Type 0
Unlisted b = lookup (nat_eq b) quoted_escapes ≡ None

no_backslash : (b : ℕ) → Unlisted b → b ≢ 92
no_backslash b e f = let bad = subst Unlisted f e in cc

no_quote : (b : ℕ) → Unlisted b → b ≢ 34
no_quote b e f = let bad = subst Unlisted f e in cc

no_newline : (b : ℕ) (after : List ℕ) → Unlisted b → BeginsNewline (b ∷ after) → ⊥
no_newline b after e (inl (rest, g)) = let f : b ≡ 10 = cc in let bad = subst Unlisted f e in cc
no_newline b after e (inr (rest, g)) = let f : b ≡ 13 = cc in let bad = subst Unlisted f e in cc

no_closing : (b : ℕ) (after : List ℕ) → Unlisted b → BeginsWith (34 ∷ []) (b ∷ after) → ⊥
no_closing b after e (rest, g) = let f : b ≡ 34 = cc in no_quote b e f

quoted_item_by : (b : ℕ) (after : List ℕ) (o : Option ℕ) → lookup (nat_eq b) quoted_escapes ≡ o → IsItem double (quoted_byte_by b o) after (Some (b ∷ []))
unfolding double
quoted_item_by b after None e = plain (no_backslash b e) (no_closing b after e) (no_newline b after e)
quoted_item_by b after (Some c) e = escaped refl (listed b c e)

quoted_item : (b : ℕ) (after : List ℕ) → IsItem double (quoted_byte b) after (Some (b ∷ []))
quoted_item b after = quoted_item_by b after (lookup (nat_eq b) quoted_escapes) refl

abbrev items_of : List ℕ → List BodyItem
items_of [] = []
items_of (b ∷ bs) = record { spelled = quoted_byte b; value = Some (b ∷ []) } ∷ items_of bs

quoted_items : (bytes rest : List ℕ) → Items double (quoted_body bytes ++ rest) (items_of bytes) rest
quoted_items [] rest = over
quoted_items (b ∷ bs) rest = more (append_assoc (quoted_byte b) (quoted_body bs) rest) (quoted_item b (quoted_body bs ++ rest)) (quoted_items bs rest)

values_back : (bytes : List ℕ) → values (items_of bytes) ≡ bytes
values_back [] = refl
values_back (b ∷ bs) = ap (λ xs. b ∷ xs) (values_back bs)

all_stand : (bytes : List ℕ) → AllStand (items_of bytes)
all_stand [] = tt
all_stand (b ∷ bs) = (refl, all_stand bs)

heads : (a b : ℕ) (xs ys : List ℕ) → a ∷ xs ≡ b ∷ ys → a ≡ b
heads a b xs ys e = cc

no_third_by : (b : ℕ) (after : List ℕ) (o : Option ℕ) → lookup (nat_eq b) quoted_escapes ≡ o → BeginsWith (34 ∷ 34 ∷ []) (quoted_byte_by b o ++ after) → ⊥
no_third_by b after None e (rest, g) = let f : b ≡ 34 = cc in no_quote b e f
no_third_by b after (Some c) e (rest, g) = let f = heads 92 34 (c ∷ after) (34 ∷ rest) g in absurd (omega (arith, f))

no_third : (bytes : List ℕ) → BeginsWith (34 ∷ 34 ∷ []) (quoted_body bytes ++ 34 ∷ []) → ⊥
no_third [] (rest, g) = let f : [] ≡ 34 ∷ rest = cc in cc
no_third (b ∷ bs) (rest, g) =
    no_third_by b (quoted_body bs ++ 34 ∷ []) (lookup (nat_eq b) quoted_escapes) refl (rest, sym (append_assoc (quoted_byte b) (quoted_body bs) (34 ∷ [])) ∙ g)

quoted_literal : (bytes : List ℕ) → IsLiteral double (quoted bytes) (items_of bytes) []
unfolding double quoted
quoted_literal bytes =
    record {
      body = quoted_body bytes ++ 34 ∷ [];
      opens = record { quote = inl refl; spelled = refl; longest = λ single. no_third bytes };
      cut = quoted_items bytes (34 ∷ []);
    }

pub reads_back : (bytes : List ℕ) → string_value (quoted bytes) ≡ Some bytes
reads_back bytes = literal_value double (quoted bytes) (items_of bytes) (quoted_literal bytes) (all_stand bytes) ∙ ap Some (values_back bytes)

pub one_literal : (bytes : List ℕ) → scan_string (quoted bytes) ≡ Some (record { len = length (quoted bytes); bad_escape = None })
one_literal bytes =
    let long : opening_len double + length (spelling (items_of bytes)) + quotes_len double ≡ length (quoted bytes) = let e = literal_long (quoted_literal bytes) in omega (arith, e) in
    literal_found double (quoted bytes) (items_of bytes) [] (quoted_literal bytes)
    ∙ (λ k. Some (record { len = long k; bad_escape = no_bad (items_of bytes) (opening_len double) (all_stand bytes) k }))
