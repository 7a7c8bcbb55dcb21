-- Classes of kinds of tokens: what begins a phrase, and what ends one.
use Rattle.std.proofs.Common.{◌≡◌, Bool, true, false, refl}
use Rattle.bq_query_lex.specs.declared.token.QueryTokenKind.{QueryTokenKind}
use Rattle.bq_query_lex.specs.declared.token.QueryTokenKind.TheVariants as k
use Rattle.bq_query_parse.specs.Grammar.{operator}
use Rattle.bq_query_parse.specs.GrammarLaws.{ends_query}
use Rattle.bq_query_parse.specs.Reading.{is_known}

abbrev pub any : QueryTokenKind → Bool
any q = true

abbrev pub first_operand : QueryTokenKind → Bool
first_operand k.Word = true
first_operand k.Quoted = true
first_operand k.Variable = true
first_operand k.Open = true
first_operand k.Set = true
first_operand _ = false

abbrev pub first_query : QueryTokenKind → Bool
first_query k.Let = true
first_query q = first_operand q

abbrev pub ends_operand : QueryTokenKind → Bool
ends_operand k.Open = false
ends_operand _ = true

abbrev pub is_comma : QueryTokenKind → Bool
is_comma k.Comma = true
is_comma _ = false

abbrev pub is_close : QueryTokenKind → Bool
is_close k.Close = true
is_close _ = false

abbrev pub is_operator : QueryTokenKind → Bool
is_operator q = is_known (operator q)

pub comma_ends : (q : QueryTokenKind) → is_comma q ≡ true → ends_query q ≡ true
comma_ends k.Comma e = refl
comma_ends q e = absurd (cc)

pub operator_ends : (q : QueryTokenKind) → is_operator q ≡ true → ends_operand q ≡ true
operator_ends k.Open e = absurd (cc)
operator_ends q e = refl

pub query_ends_operand : (q : QueryTokenKind) → ends_query q ≡ true → ends_operand q ≡ true
query_ends_operand k.Open e = absurd (cc)
query_ends_operand q e = refl

pub query_no_operator : (q : QueryTokenKind) → ends_query q ≡ true → is_operator q ≡ false
query_no_operator k.Union e = absurd (cc)
query_no_operator k.Intersect e = absurd (cc)
query_no_operator k.Except e = absurd (cc)
query_no_operator q e = refl

pub operand_query : (q : QueryTokenKind) → first_operand q ≡ true → first_query q ≡ true
operand_query k.Let e = refl
operand_query q e = e
