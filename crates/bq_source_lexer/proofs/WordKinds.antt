-- A word's kind is that of the table.
use Rattle.std.proofs.Common.{◌≡◌, ℕ, List, Bool, true, false, Option, Some, None, refl, sym, ◌∙◌}
use Rattle.std.specs.List.{AllByRecursion}
use Rattle.std.specs.Map.{lookup}
use Rattle.std.specs.Str.{bytes_eq}
use Rattle.bq_source.specs.declared.token.TokenKind.{TokenKind}
use Rattle.bq_source.specs.declared.token.TokenKind.TheVariants as k
use Rattle.bq_source.specs.Lexis.{keywords, is_reserved, word_kind}
use Rattle.bq_source.proofs.Cases.{word_kind_by, other_word}
use Rattle.bq_source.proofs.Spelled.{false_not_true}
use Rattle.bq_source_lexer.specs.Tables.{IsRow, IsIn, IsWordOf, keyword, reserved, identifier, keyword_table, reserved_table}
use Rattle.bq_source_lexer.proofs.Rows.{row_found, no_row, is_in, in_is, words_alike, word_same, of_row, of_entry}

pub found : (w : List ℕ) → IsWordOf w (word_kind w)
unfolding word_kind
found w = by_keyword (lookup (bytes_eq w) keywords) refl
  where
    by_reserved : (b : Bool) → is_reserved w ≡ b → ((kind : TokenKind) → IsRow w kind keyword_table → ⊥) → IsWordOf w (other_word b)
    by_reserved true e none = reserved (is_in bytes_eq words_alike word_same w reserved_table e)
    by_reserved false e none = identifier none (λ i. false_not_true (sym e ∙ in_is bytes_eq words_alike word_same w reserved_table i))

    by_keyword : (o : Option TokenKind) → lookup (bytes_eq w) keywords ≡ o → IsWordOf w (word_kind_by o w)
    by_keyword (Some kind) e = keyword (row_found bytes_eq words_alike word_same w kind keyword_table e)
    by_keyword None e = by_reserved (is_reserved w) refl (λ kind. no_row bytes_eq words_alike word_same w kind keyword_table e)

keyword_rows : AllByRecursion (λ row. word_kind row.0 ≡ row.1) keyword_table
unfolding word_kind
keyword_rows = (refl, (refl, (refl, (refl, (refl, (refl, (refl, (refl, (refl, (refl, (refl, (refl, (refl, (refl, (refl, tt)))))))))))))))

reserved_words : AllByRecursion (λ w. word_kind w ≡ k.Reserved) reserved_table
unfolding word_kind
reserved_words = (refl, (refl, (refl, (refl, (refl, (refl, (refl, (refl, (refl, (refl, (refl, (refl, (refl, (refl, (refl, (refl, tt))))))))))))))))

-- what is in neither table is an identifier
neither : (w : List ℕ) (kind : TokenKind) → IsWordOf w kind → ((other : TokenKind) → IsRow w other keyword_table → ⊥) → (IsIn w reserved_table → ⊥) → kind ≡ k.Identifier
neither w kind (keyword i) none out = absurd (none kind i)
neither w kind (reserved i) none out = absurd (out i)
neither w kind (identifier no_row_ no_entry) none out = refl

pub only : (w : List ℕ) (kind : TokenKind) → IsWordOf w kind → word_kind w ≡ kind
only w kind (keyword i) = of_row (λ row. word_kind row.0 ≡ row.1) w kind keyword_table keyword_rows i
only w kind (reserved i) = of_entry (λ x. word_kind x ≡ k.Reserved) w reserved_table reserved_words i
only w kind (identifier none out) = neither w (word_kind w) (found w) none out
