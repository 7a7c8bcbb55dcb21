use Rattle.std.proofs.Common.{sym, subst, ℤ, Option, SomeIff, FitsSigned}
use Rattle.std.specs.Int.{w64}
use Rattle.std.specs.Str.Parse.{signed_digits_value}
use Rattle.bq_builtin.proofs.Numerals.{parsed_is, signed_text}
use Rattle.bq_builtin.proofs.integers.parsed.Goals as goal

pub returns : goal.returns
returns c =
    subst (λ (o : Option ℤ). SomeIff o (FitsSigned w64 (signed_digits_value 10 c.args.text.now)) (signed_digits_value 10 c.args.text.now)) (sym c.ok.ensures.value)
    (parsed_is c.args.text.now c.in-Ok.text.now c.parse.result c.in-Ok.ensures.cases.0 c.requires c.parse.ensures.value.0)

pub returns-in_default : goal.returns-in_default
returns-in_default c = λ f. c.in_default.ensures.cases.0 (signed_text c.args.text.now c.requires)
