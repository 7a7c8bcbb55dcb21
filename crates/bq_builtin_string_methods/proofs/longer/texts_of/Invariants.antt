use Rattle.std.proofs.Common.{◌≡◌, ◌++◌, length, Ok}
use Rattle.bq_builtin_machine.specs.Answer.{and_then}
use Rattle.bq_builtin_string_methods.specs.Affixes.{texts_of}
use Rattle.bq_builtin_string_methods.proofs.longer.texts_of.Given as goal

-- what is left gives, after the strings so far, what all give
abbrev pub invariant-elements : goal.invariant-elements
invariant-elements l = texts_of l.initial.elements ≡ and_then (texts_of l.elements) (λ texts. Ok (l.strings.items ++ texts))

abbrev pub decreases-elements : goal.decreases-elements
decreases-elements l = length l.elements
