-- The cells that a running module has made, by number.
use Rattle.std.specs.Prelude.{ℕ, List, refl}
use Rattle.std.specs.Coded.{Coded, code_by, coded×, coded_ℕ, coded_list}
use Rattle.bq_value_content.specs.Contents.{Contents, coded_contents}

-- the module's number, and what its cells hold
pub record MadeView : Type 0 where
  pub own : ℕ
  pub cells : List Contents

-- a code of a module's number and cells, which no other has
abbrev pub coded_made : Coded MadeView
coded_made = code_by (ℕ × List Contents) (coded× coded_ℕ (coded_list coded_contents)) (λ m. (m.own, m.cells)) (λ p. record { own = p.0; cells = p.1 }) (λ _. refl)

-- the module's cells hold these instead, by number
abbrev pub with_made : List Contents → MadeView → MadeView
with_made cs m = record m { cells = cs }
