-- A compiled pattern is found where what the grammar reads is.
use Rattle.std.proofs.Common.{◌≡◌, ℕ, ◌<◌, ◌≤◌, List, get_or, length, Option, Some, None, is_some, false, chars}
use Rattle.std.specs.Prelude.{IsSomeAnd}
use Rattle.std.specs.Option.{option_and_then}
use Rattle.regex_hir.specs.Find.{find}
use Rattle.regex_hir.specs.Re.{Re}
use Rattle.regex_hir.specs.Meaning.{meaning}
use Rattle.regex_hir.specs.declared.hir.Hir.{Hir}
use Rattle.regex_syntax.specs.Brackets.{Nested}
use Rattle.regex_syntax.specs.Captures.{SameCaptures}
use Rattle.regex_syntax.specs.Grammar.{Names, read, group_count}
use Rattle.regex_syntax.specs.Verdict.{Reads}
use Rattle.regex.proofs.ForCallers.{is_match_alike}
use Rattle.bq_query_pattern.specs.Patterns.{options, is_found}

pub found_alike : (bytes text : List ℕ) (hir : Hir) (names : Names) → Reads options bytes hir names → ((k : ℕ) → get_or text k 0 < 256) → is_some (find (meaning hir) text 0) ≡ is_found bytes text
unfolding Reads is_found
found_alike bytes text hir names h small = by (read options (chars bytes)) h
  where
    by : (o : Option (Nested Re × Names)) → IsSomeAnd o (λ (re, found). (re.depth ≤ options.nest_limit) × SameCaptures (meaning hir) re.value × (names ≡ found) × (group_count (meaning hir) ≤ length names)) → is_some (find (meaning hir) text 0) ≡ is_some (option_and_then (λ (re, _). find re.value text 0) o)
    by None h = absurd h
    by (Some found) h = is_match_alike h.1 text small false 0
