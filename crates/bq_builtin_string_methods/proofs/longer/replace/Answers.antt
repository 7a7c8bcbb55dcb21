use Rattle.std.proofs.Common.{rules, ◌≡◌, ◌∙◌, ℕ, List, length, sym, ap, Ok, Err}
use Rattle.bq_builtin_string_methods.specs.Longer.{fit_replaced, replace}
use Rattle.bq_builtin_string_methods.proofs.Lengths.{times_fit, replaced_is}
use Rattle.bq_builtin_string_methods.proofs.longer.replace.Goals as goal

pub fit_replaced-requires : goal.fit_replaced-requires
fit_replaced-requires c = rw c.times.ensures (times_fit c.as_slice-old.result.now c.in_ok-most.most c.args.text.now)

pub returns-in_err-fit_replaced : goal.returns-in_err-fit_replaced
returns-in_err-fit_replaced c =
    let old : List ℕ = c.as_slice-old.result.now in
    let new : List ℕ = c.as_slice-new.result.now in
    let bad : replace c.args.text.now c.args.values.now ≡ Err c.in_err-fit_replaced.field-0.0 =
    replaced_is c.args.text.now old new c.in_ok-most.most c.args.values.now (Err c.in_err-fit_replaced.field-0.0) (c.in_ok-text_in.ensures ∙ ap Ok (sym c.as_slice-old.ensures)) (c.in_ok-text_in-2.ensures ∙ ap Ok (sym c.as_slice-new.ensures)) (sym c.in_ok-most.ensures)
    (ap (λ (t : ℕ). fit_replaced (length c.args.text.now) t (length old) (length new)) (sym c.times.ensures) ∙ sym c.in_err-fit_replaced.ensures) in
    search (rules, bad)

pub returns : goal.returns
returns c =
    let old : List ℕ = c.as_slice-old.result.now in
    let new : List ℕ = c.as_slice-new.result.now in
    let good =
    replaced_is c.args.text.now old new c.in_ok-most.most c.args.values.now (Ok tt) (c.in_ok-text_in.ensures ∙ ap Ok (sym c.as_slice-old.ensures)) (c.in_ok-text_in-2.ensures ∙ ap Ok (sym c.as_slice-new.ensures)) (sym c.in_ok-most.ensures)
    (ap (λ (t : ℕ). fit_replaced (length c.args.text.now) t (length old) (length new)) (sym c.times.ensures) ∙ sym c.in_ok-fit_replaced.ensures) in
    good ∙ ap Ok (sym (c.in_ok-from_vec.ensures ∙ c.in_ok-replace.ensures))
