-- A text of one word or mark reads as it.
use Rattle.std.proofs.Common.{◌≡◌, ℕ, List, Result, Ok, refl, subst}
use Rattle.std.specs.List.{AllByRecursion}
use Rattle.bq_source.specs.declared.token.TokenKind.TheVariants as k
use Rattle.bq_source.specs.declared.token.Token.{Token}
use Rattle.bq_base.specs.declared.fault.TokenFault.{TokenFault}
use Rattle.bq_base.specs.declared.fault.Fault.{Fault}
use Rattle.bq_source.specs.Lexis.{word_kind}
use Rattle.bq_source.specs.Operators.{operator}
use Rattle.bq_source.specs.StringLiteral.{opening}
use Rattle.bq_source.specs.Piece.{word, mark, next_piece}
use Rattle.bq_source_lexer.specs.Reading.{Lexes, set_width, indent, nest, take_token, step, finish}
use Rattle.bq_source_lexer.specs.Tokens.{pieces, tokens_of}
use Rattle.bq_source_lexer.proofs.Reached.{every_text}
use Rattle.bq_source_lexer.specs.Tables.{keyword_table, reserved_table, mark_table, alone}
use Rattle.bq_source_lexer.proofs.Rows.{all_of}

reads : (bs : List ℕ) (r : Result (List Token) (Fault TokenFault)) → tokens_of bs ≡ r → Lexes bs r
reads bs r e = subst (Lexes bs) e (every_text bs)

keyword_rows : AllByRecursion (λ row. tokens_of row.0 ≡ Ok (alone row.0 row.1)) keyword_table
unfolding tokens_of pieces step finish next_piece take_token indent set_width nest word word_kind opening
keyword_rows = (refl, (refl, (refl, (refl, (refl, (refl, (refl, (refl, (refl, (refl, (refl, (refl, (refl, (refl, (refl, tt)))))))))))))))

reserved_words : AllByRecursion (λ w. tokens_of w ≡ Ok (alone w k.Reserved)) reserved_table
unfolding tokens_of pieces step finish next_piece take_token indent set_width nest word word_kind opening
reserved_words = (refl, (refl, (refl, (refl, (refl, (refl, (refl, (refl, (refl, (refl, (refl, (refl, (refl, (refl, (refl, (refl, tt))))))))))))))))

mark_rows : AllByRecursion (λ row. tokens_of row.0 ≡ Ok (alone row.0 row.1)) mark_table
unfolding tokens_of pieces step finish next_piece take_token indent set_width nest mark operator opening
mark_rows = (refl, (refl, (refl, (refl, (refl, (refl, (refl, (refl, (refl, (refl, (refl, (refl, (refl, (refl, (refl, (refl, (refl, (refl, (refl, (refl, (refl, (refl, (refl, (refl, (refl, (refl, (refl, (refl, (refl, (refl, (refl, (refl, (refl, (refl, (refl, tt)))))))))))))))))))))))))))))))))))

pub keywords_read : AllByRecursion (λ row. Lexes row.0 (Ok (alone row.0 row.1))) keyword_table
keywords_read = all_of (λ row. tokens_of row.0 ≡ Ok (alone row.0 row.1)) (λ row. Lexes row.0 (Ok (alone row.0 row.1))) keyword_table (λ row e. reads row.0 (Ok (alone row.0 row.1)) e) keyword_rows

pub reserved_read : AllByRecursion (λ w. Lexes w (Ok (alone w k.Reserved))) reserved_table
reserved_read = all_of (λ w. tokens_of w ≡ Ok (alone w k.Reserved)) (λ w. Lexes w (Ok (alone w k.Reserved))) reserved_table (λ w e. reads w (Ok (alone w k.Reserved)) e) reserved_words

pub marks_read : AllByRecursion (λ row. Lexes row.0 (Ok (alone row.0 row.1))) mark_table
marks_read = all_of (λ row. tokens_of row.0 ≡ Ok (alone row.0 row.1)) (λ row. Lexes row.0 (Ok (alone row.0 row.1))) mark_table (λ row e. reads row.0 (Ok (alone row.0 row.1)) e) mark_rows
