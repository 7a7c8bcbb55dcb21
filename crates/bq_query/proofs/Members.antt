-- The members of a set in order.
use Rattle.std.proofs.Common.{ℕ, ◌<◌, Bool, List, subst}
use Rattle.std.specs.List.{All, Contains}
use Rattle.std.proofs.lemmas.List.Elements.{All-weaker, All-contains_itself}
use Rattle.bq_query_graph.specs.Marks.{IsSet, Held}
use Rattle.bq_query_graph.proofs.Grows.{marked_below}
use Rattle.bq_query.specs.Answer.{AreThose}

module _ (n : ℕ) (P : ℕ → Type 0) (ms : List Bool) (v : List ℕ) (s : IsSet n ms P) (held : Held ms v) where
  pub those : AreThose P v
  those y = (λ h. (s.1 y).0 ((held y).1 h), λ p. (held y).0 ((s.1 y).1 p))

  pub inside : All (λ at. at < n) v
  inside = All-weaker (Contains v) (λ at. at < n) (λ y h. subst (λ (m : ℕ). y < m) s.0 (marked_below ms y ((held y).1 h))) v (All-contains_itself v)
