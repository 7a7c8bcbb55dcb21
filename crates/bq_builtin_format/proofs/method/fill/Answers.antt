use Rattle.std.proofs.Common.{rules, ◌≡◌, ◌∙◌, sym, ap, Ok, Err}
use Rattle.bq_base.specs.declared.fault.EvalFault.{EvalFault}
use Rattle.bq_value.specs.declared.error.EvalErr.TheVariants.{Bad}
use Rattle.bq_builtin_format.specs.Method.{formatted, unmixed}
use Rattle.bq_builtin_format.specs.Percent.{DraftView, blank}
use Rattle.bq_builtin_format.specs.Piece.{literal, pieces}
use Rattle.bq_builtin_format.specs.Argument.{no_fields}
use Rattle.bq_builtin_format.proofs.Fields.{made_from, made_more, made_bad, made_end, formatted_when}
use Rattle.bq_builtin_format.proofs.method.fill.Goals as goal

pub loop-name-init : goal.loop-name-init
loop-name-init c =
    record {
      same =
          rw c.none-numbering.ensures (made_from c.args.store.now c.args.values.now c.args.named.now blank c.write_literal.new.draft c.args.steps c.args.values.now no_fields c.args.text.now c.in_ok-rest.rest.now
          (ap (λ (d : DraftView). literal d (pieces c.args.text.now)) (sym c.new-draft.ensures) ∙ c.in_ok-rest.ensures.literal));
      field = c.in_ok-rest.ensures.field;
    }

pub returns-in_err-left : goal.returns-in_err-left
returns-in_err-left c =
    let bad : (why : EvalFault) → c.in_err-left.field-0.0 ≡ Bad why → formatted c.args.store.now c.args.steps c.args.text.now c.args.values.now c.args.named.now ≡ Err why =
    λ why is. formatted_when c.args.store.now c.args.values.now c.args.named.now c.args.steps c.args.text.now (Err why)
    (made_bad c.args.store.now c.args.values.now c.args.named.now c.loop-name.draft c.loop-name.left c.loop-name.next.now c.loop-name.numbering c.loop-name.rest.now c.in-Some.name.now c.in-Some.after.now _ why c.in-Some.ensures.field c.argument.ensures (c.in_err-left.ensures why is) _ c.loop-name.invariant.same) in
    search (rules, bad)

pub loop-name-preserved : goal.loop-name-preserved
loop-name-preserved c =
    record {
      same =
          made_more c.args.store.now c.args.values.now c.args.named.now c.loop-name.draft c.show_field.new.draft c.write_literal-in-Some.new.draft c.loop-name.left c.in_ok-left.left c.loop-name.next.now c.next_after-next.result.now c.loop-name.numbering
          c.and-numbering.result c.loop-name.rest.now c.in-Some.name.now c.in-Some.after.now c.in_ok-rest-2.rest.now _ c.in-Some.ensures.field c.argument.ensures c.in_ok-left.ensures c.next_after-next.ensures c.and-numbering.ensures c.in_ok-rest-2.ensures.literal _ c.loop-name.invariant.same;
      field = c.in_ok-rest-2.ensures.field;
    }

pub returns : goal.returns
returns c =
    rw (formatted_when c.args.store.now c.args.values.now c.args.named.now c.args.steps c.args.text.now (Ok (unmixed c.loop-name.numbering c.loop-name.draft, c.loop-name.left))
    (made_end c.args.store.now c.args.values.now c.args.named.now c.loop-name.draft c.loop-name.left c.loop-name.next.now c.loop-name.numbering c.loop-name.rest.now (c.loop-name.invariant.field c.in_default.ensures.field) _ c.loop-name.invariant.same))
    c.finish.ensures
