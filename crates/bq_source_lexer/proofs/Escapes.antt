-- The escapes are those of the table.
use Rattle.std.proofs.Common.{◌≡◌, ◌≢◌, ℕ, inl, inr, List, [], ◌∷◌, false, Option, Some, None, refl, ap, arith, nat_eq}
use Rattle.std.specs.List.{AllByRecursion}
use Rattle.std.specs.Map.{lookup}
use Rattle.bq_source.specs.declared.string_literal.Quoting.{Quoting}
use Rattle.bq_source.specs.StringLiteral.{escapes, opening, items, body_part, scan_string, string_value, BodyItem, BeginsNewline, BeginsWith, Items, over, more, no_escape, Opens}
use Rattle.bq_source.proofs.LiteralLaws.{literal_found}
use Rattle.bq_source_lexer.specs.Tables.{IsRow, escape_table, escape_alone}
use Rattle.bq_source_lexer.proofs.Rows.{row_found, numbers_alike, number_same, of_row}

escape_rows : AllByRecursion (λ row. string_value (escape_alone row.0) ≡ Some (row.1 ∷ [])) escape_table
unfolding string_value scan_string opening items body_part
escape_rows = (refl, (refl, (refl, (refl, (refl, (refl, tt))))))

pub found : (c b : ℕ) → IsRow c b escape_table → string_value (escape_alone c) ≡ Some (b ∷ [])
found c b i = of_row (λ row. string_value (escape_alone row.0) ≡ Some (row.1 ∷ [])) c b escape_table escape_rows i

no_such : (c : ℕ) (o : Option ℕ) → lookup (nat_eq c) escapes ≡ o → ((b : ℕ) → IsRow c b escape_table → ⊥) → lookup (nat_eq c) escapes ≡ None
no_such c None e none = e
no_such c (Some b) e none = absurd (none b (row_found nat_eq numbers_alike number_same c b escape_table e))

other_byte : (rest : List ℕ) → 34 ∷ [] ≡ 10 ∷ rest → ⊥
other_byte rest e = cc

no_newline : (c : ℕ) → c ≢ 10 → BeginsNewline (c ∷ 34 ∷ []) → ⊥
no_newline c other (inl (rest, e)) = let same : c ≡ 10 = cc in other same
no_newline c other (inr (rest, e)) = let same : 34 ∷ [] ≡ 10 ∷ rest = cc in other_byte rest same

head : ℕ → List ℕ → ℕ
head d [] = d
head d (x ∷ xs) = x

unlike : (xs ys : List ℕ) → 92 ∷ xs ≡ 34 ∷ ys → ⊥
unfolding head
unlike xs ys e = let same : ◌≡◌ {A = ℕ} 92 34 = ap (head 0) e in absurd (omega (arith, same))

no_pair : (c : ℕ) → BeginsWith (34 ∷ 34 ∷ []) (92 ∷ c ∷ 34 ∷ []) → ⊥
no_pair c (rest, e) = unlike (c ∷ 34 ∷ []) (34 ∷ rest) e

pub others : (c : ℕ) → ((b : ℕ) → IsRow c b escape_table → ⊥) → c ≢ 10 → scan_string (escape_alone c) ≡ Some (record { len = 4; bad_escape = Some 1 })
others c none other =
    let q : Quoting = record { raw = false; quote = 34; triple = false } in
    let item : BodyItem = record { spelled = 92 ∷ c ∷ []; value = None } in
    let bad = no_such c (lookup (nat_eq c) escapes) refl none in
    let opens : Opens q (escape_alone c) (92 ∷ c ∷ 34 ∷ []) = record { quote = inl refl; spelled = refl; longest = λ single. no_pair c } in
    let cut : Items q (92 ∷ c ∷ 34 ∷ []) (item ∷ []) (34 ∷ []) = more refl (no_escape refl bad (no_newline c other)) over in
    literal_found q (escape_alone c) (item ∷ []) [] record { body = 92 ∷ c ∷ 34 ∷ []; opens = opens; cut = cut }
