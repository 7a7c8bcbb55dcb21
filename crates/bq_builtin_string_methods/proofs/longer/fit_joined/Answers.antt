use Rattle.std.proofs.Common.{◌<◌, ◌∙◌, length, sym, arith}
use Rattle.std.proofs.lemmas.Bool.{eqb-true}
use Rattle.std.proofs.lemmas.Bool.Decides.{nat_tests}
use Rattle.std.proofs.lemmas.List.{take_rest}
use Rattle.bq_builtin_string_methods.proofs.Lengths.{fits_first, fits_none}
use Rattle.bq_builtin_string_methods.proofs.longer.fit_joined.Goals as goal

pub returns-then-is_empty : goal.returns-then-is_empty
returns-then-is_empty c = fits_none c.args.separator.now c.args.strings.now (eqb-true _ _ (sym c.is_empty.ensures ∙ c.if-is_empty.true))

pub returns : goal.returns
returns c =
    let some : 0 < length c.args.strings.now = grind (arith, nat_tests, c.if-is_empty.ensures) in
    c.fit_parts.ensures ∙ fits_first c.args.separator.now c.args.strings.now _ c.index-strings-0.result c.len.result some c.index-strings-0.is c.len.ensures (take_rest c.args.strings.now 1)
