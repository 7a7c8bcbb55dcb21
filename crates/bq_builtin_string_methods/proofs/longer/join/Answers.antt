use Rattle.std.proofs.Common.{rules, ◌≡◌, ◌∙◌, sym, ap, Ok, Err}
use Rattle.bq_builtin_string_methods.specs.Longer.{join}
use Rattle.bq_builtin_string_methods.proofs.Lengths.{joined_is}
use Rattle.bq_builtin_string_methods.proofs.longer.join.Goals as goal

pub returns-in_err-fit_joined : goal.returns-in_err-fit_joined
returns-in_err-fit_joined c =
    let bad : join c.args.text.now c.args.strings.now ≡ Err c.in_err-fit_joined.field-0.0 = joined_is c.args.text.now c.args.strings.now (Err c.in_err-fit_joined.field-0.0) (sym c.in_err-fit_joined.ensures) in search (rules, bad)

pub returns : goal.returns
returns c = joined_is c.args.text.now c.args.strings.now (Ok tt) (sym c.in_ok-fit_joined.ensures) ∙ ap Ok (sym (c.in_ok-from_vec.ensures ∙ c.in_ok-join.ensures))
