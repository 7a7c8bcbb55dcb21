use Rattle.std.proofs.Common.{◌≡◌, ◌||◌, Bool, List, ℕ, drop}
use Rattle.std.specs.List.{list_any}
use Rattle.bq_label_glob.proofs.unmatched.set_of.Given as goal

abbrev pub invariant-loop-name : goal.invariant-loop-name
invariant-loop-name l = (test : List ℕ → Bool) → (list_any test l.set || list_any test (drop l.name-index l.names)) ≡ list_any test l.names
