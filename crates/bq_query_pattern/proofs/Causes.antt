-- The answer to an error of `regex` is a right one.
use Rattle.std.proofs.Common.{ℕ, List, refl, inl, inr}
use Rattle.regex.specs.Sources.{IsRefusal}
use Rattle.regex.specs.Failures.{IsRightKind}
use Rattle.regex.specs.declared.error.Error.{Error}
use Rattle.regex.specs.declared.error.Error.TheVariants.{Syntax, CompiledTooBig, Internal, OutOfMemory}
use Rattle.bq_query_pattern.specs.Patterns.{options, IsCause, cause_of}

pub cause_right : (bytes : List ℕ) (error : Error) → IsRefusal options bytes error → IsRightKind options bytes error → IsCause bytes (cause_of error)
cause_right bytes (Syntax e) refusal kind = inr (inl (e.kind, kind, refusal e refl))
cause_right bytes CompiledTooBig refusal kind = inr (inr kind)
cause_right bytes Internal refusal kind = inr (inr kind)
cause_right bytes OutOfMemory refusal kind = tt
