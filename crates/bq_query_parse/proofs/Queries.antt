-- What is read is a query of the grammar, each query is read whole, and tokens have one tree.
use Rattle.std.proofs.Common.{◌≡◌, ℕ, List, [], ◌∷◌, Some, None, sym, ap, ◌∙◌, subst}
use Rattle.bq_query_parse.specs.Lexeme.{Lexeme}
use Rattle.bq_query_parse.specs.declared.tree.Query.{Query}
use Rattle.bq_query_parse.specs.Turns.{Found}
use Rattle.bq_query_parse.specs.Grammar.{IsQueryTo}
use Rattle.bq_query_parse.specs.GrammarLaws.{Sound, EndsQuery, ends_query, Complete, OneQuery}
use Rattle.bq_query_parse.proofs.Agrees.{Owes, Stops, Met, met}
use Rattle.bq_query_parse.proofs.Chains.{query_to_agrees}

pub sound : (depth : ℕ) (ts rest : List Lexeme) → Sound depth ts rest
sound depth ts rest x e = subst (Owes Query (IsQueryTo depth ts)) e ((query_to_agrees depth).sound ts)

stops : (ts : List Lexeme) → EndsQuery ts → Stops ends_query ts
stops [] e = e
stops (t ∷ ts) e = e

whole : {n : ℕ} {ts rest : List Lexeme} {f : Found Query} {x : Query} → Met n ts f x rest → f ≡ Some (x, rest)
whole (met a l) = a

pub complete : (depth : ℕ) (ts rest : List Lexeme) → Complete depth ts rest
complete depth ts rest x p e = whole ((query_to_agrees depth).complete ts rest x p (stops rest e))

abbrev value_or : Query → Found Query → Query
value_or x None = x
value_or x (Some p) = p.0

pub one_query : (depth : ℕ) (ts rest : List Lexeme) → OneQuery depth ts rest
one_query depth ts rest e x y p q = let both = sym (complete depth ts rest x p e) ∙ complete depth ts rest y q e in ap (value_or x) both
