use Rattle.std.proofs.Common.{rules, ℤ, FitsSigned, w64}
use Rattle.bq_builtin_strings.proofs.Bounds.{element_fits}
use Rattle.bq_builtin_strings.proofs.Wrapping.{stepped}
use Rattle.bq_builtin_strings.proofs.range.element.Goals as goal

pub returns : goal.returns
returns c =
    let start : ℤ = c.args.range.start in
    let step : ℤ = c.args.range.step in
    let f : FitsSigned w64 start = search rules in
    let g : FitsSigned w64 c.args.range.stop = search rules in
    let h : FitsSigned w64 step = search rules in
    stepped start step c.args.number c.cast_signed.result f h (search rules) c.cast_signed.ensures
    (element_fits start c.args.range.stop step c.args.number f g c.requires)
