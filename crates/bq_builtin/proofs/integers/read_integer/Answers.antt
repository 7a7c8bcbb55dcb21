use Rattle.std.proofs.Common.{◌∙◌, sym, ap}
use Rattle.bq_builtin.specs.Integers.{is_numeral}
use Rattle.bq_builtin.proofs.Numerals.{read_of}
use Rattle.bq_builtin.proofs.integers.read_integer.Goals as goal

pub parsed-requires : goal.parsed-requires
parsed-requires c = ap is_numeral (sym c.without_sign.ensures) ∙ (sym c.is_numeral.ensures ∙ c.if-not-is_numeral.false)

pub returns : goal.returns
returns c =
    c.ok_or.ensures.value
    ∙ read_of c.args.text.now c.parsed.result (ap is_numeral (sym c.without_sign.ensures) ∙ (sym c.is_numeral.ensures ∙ c.if-not-is_numeral.false)) c.parsed.ensures
