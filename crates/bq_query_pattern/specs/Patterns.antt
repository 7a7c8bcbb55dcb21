-- When bytes are taken as a pattern, and when a pattern is found in a text.
use Rattle.std.specs.Prelude.{◌≢◌, ◌⊎◌, ℕ, List, false, IsUtf8, is_some, Bool, chars}
use Rattle.std.specs.Option.{option_and_then}
use Rattle.regex_syntax.specs.Verdict.{default_config, Reads, Refuses}
use Rattle.regex_syntax.specs.Grammar.{Names, read}
use Rattle.regex_syntax.specs.declared.Config.{Config}
use Rattle.regex_syntax.specs.declared.error.ErrorKind.{ErrorKind}
use Rattle.regex_syntax.specs.declared.error.ErrorKind.TheVariants.{OutOfMemory}
use Rattle.regex_hir.specs.declared.hir.Hir.{Hir}
use Rattle.regex_hir.specs.Find.{find}
use Rattle.regex.specs.declared.error.Error.{Error}
use Rattle.regex.specs.declared.error.Error.TheVariants.{Syntax, CompiledTooBig, Internal, OutOfMemory as OutOfMem}
use Rattle.bq_query_pattern.specs.declared.pattern.PatternErr.{PatternErr}
use Rattle.bq_query_pattern.specs.declared.pattern.PatternErr.TheVariants.{BadRegex, Memory}

-- the default options of the form for bytes
abbrev pub options : Config
options = record default_config { utf8 = false }

-- the grammar reads the bytes
abbrev pub IsRead : List ℕ → Type 0
IsRead bytes = (hir : Hir) × (names : Names) × Reads options bytes hir names

-- why bytes are not taken: they are not UTF-8, the grammar refuses them with a fault of syntax, or what they read as is too big
abbrev pub IsCause : List ℕ → PatternErr → Type 0
IsCause bytes BadRegex = (IsUtf8 bytes → ⊥) ⊎ (((kind : ErrorKind) × (kind ≢ OutOfMemory) × Refuses options bytes kind) ⊎ IsRead bytes)
IsCause bytes Memory = Unit {0}

-- whether what the grammar reads in these bytes is found anywhere in the text
unfoldable pub is_found : List ℕ → List ℕ → Bool
is_found bytes text = is_some (option_and_then (λ (re, _). find re.value text 0) (read options (chars bytes)))

-- why a pattern isn't taken, by the error of the library: for lack of memory, or for all else as a bad one (Q4)
abbrev pub cause_of : Error → PatternErr
cause_of OutOfMem = Memory
cause_of (Syntax e) = BadRegex
cause_of CompiledTooBig = BadRegex
cause_of Internal = BadRegex
