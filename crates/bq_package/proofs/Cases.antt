-- Parts of definitions, as words that proofs name.
use Rattle.std.specs.Prelude.{Bool, List, ℕ}
use Rattle.bq_package.specs.declared.glob.GlobRequest.{GlobRequest}

-- what `glob` is asked for
abbrev pub asked : Bool → List (List ℕ) → List (List ℕ) → GlobRequest
asked allows include exclude = record { include = include; exclude = exclude; allows_empty = allows }
