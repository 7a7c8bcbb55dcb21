-- No mark is the empty set.
use Rattle.std.proofs.Common.{◌≡◌, ◌∙◌, ℕ, Bool, true, false, List, length, get_or, replicate, sym, ap}
use Rattle.std.proofs.lemmas.Bool.{false≢true}
use Rattle.bq_query_graph.specs.Marks.{IsSet}
use Rattle.bq_query_function.proofs.Tests.{none_marked, length_none}

pub none_in : (n : ℕ) (marks : List Bool) → marks ≡ replicate n false → IsSet n marks (λ (y : ℕ). ⊥)
none_in n marks e =
    let none : (y : ℕ) → get_or marks y false ≡ false = λ y. ap (λ (ms : List Bool). get_or ms y false) e ∙ none_marked n y in
    (ap length e ∙ length_none n, λ y. (λ h. absurd (false≢true (sym (none y) ∙ h)), λ l. absurd l))
