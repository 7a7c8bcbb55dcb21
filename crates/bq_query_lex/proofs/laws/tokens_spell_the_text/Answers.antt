use Rattle.std.specs.Prelude.{Some}
use Rattle.bq_query_lex.proofs.Spelled.{spelled}
use Rattle.bq_query_lex.proofs.laws.tokens_spell_the_text.Goals as goal

pub returns : goal.returns
returns c text ts h = spelled text 0 (Some ts) h
