use Rattle.std.proofs.Common.{rules, ◌≡◌, ◌∙◌, ◌+◌, ◌<◌, ◌≤◌, length, drop, sym, arith}
use Rattle.std.proofs.lemmas.List.{length-drop}
use Rattle.bq_source.specs.declared.string_literal.BodyPart.TheVariants.{Closing, Unclosed, Item}
use Rattle.bq_source.specs.StringLiteral.{body_part}
use Rattle.bq_source.proofs.Items.{scanned, not_opened, at_closing, at_unclosed, at_item, own_within, past_plain, later_still}
use Rattle.std.proofs.lemmas.Grind.{common_steps}
use Rattle.bq_source.proofs.string_literal.scan_string.Goals as goal

pub returns-in_err-quoting-clause-literal : goal.returns-in_err-quoting-clause-literal
returns-in_err-quoting-clause-literal c = let e = not_opened c.args.text.now (sym c.in_err-quoting.ensures.quoting) in search (rules, e)

pub items-init : goal.items-init
items-init c = record {
  same = rw (c.opening_len-at.ensures) (scanned c.args.text.now c.in_ok-quoting.quoting (sym c.in_ok-quoting.ensures.quoting));
  within = search rules;
  escape_within = tt;
}

pub returns-in-Closing-clause-literal : goal.returns-in-Closing-clause-literal
returns-in-Closing-clause-literal c =
    let at = c.past_plain-here.result in
    let here : body_part c.in_ok-quoting.quoting (drop at c.args.text.now) ≡ Closing = cc (c.in-Closing.ensures.part) in
    let passed = past_plain c.in_ok-quoting.quoting c.items.at at c.items.bad_escape c.args.text.now c.past_plain-here.ensures.run in
    rw (c.quotes_len.ensures) (sym (c.items.invariant.same ∙ (passed ∙ at_closing c.in_ok-quoting.quoting at c.items.bad_escape (drop at c.args.text.now) here)))

pub returns-in-Closing-clause-escape_within : goal.returns-in-Closing-clause-escape_within
returns-in-Closing-clause-escape_within c =
    let at = c.past_plain-here.result in
    let r = c.past_plain-here.ensures.run in
    later_still c.items.bad_escape c.items.at (at + c.quotes_len.result) (omega arith) c.items.invariant.escape_within

pub returns-in-Unclosed-clause-literal : goal.returns-in-Unclosed-clause-literal
returns-in-Unclosed-clause-literal c =
    let at = c.past_plain-here.result in
    let here : body_part c.in_ok-quoting.quoting (drop at c.args.text.now) ≡ Unclosed = cc (c.in-Unclosed.ensures.part) in
    let passed = past_plain c.in_ok-quoting.quoting c.items.at at c.items.bad_escape c.args.text.now c.past_plain-here.ensures.run in
    sym (c.items.invariant.same ∙ (passed ∙ at_unclosed c.in_ok-quoting.quoting at c.items.bad_escape (drop at c.args.text.now) here))

pub items-preserved : goal.items-preserved
items-preserved c =
    let at = c.past_plain-here.result in
    let r = c.past_plain-here.ensures.run in
    let le : c.items.at ≤ at = omega arith in
    let here : body_part c.in_ok-quoting.quoting (drop at c.args.text.now) ≡ Item c.in-Item.more c.in-Item.value = cc (c.in-Item.ensures.part) in
    let within : c.in-Item.more < length (drop at c.args.text.now) = rw (← c.rest_of.ensures) (c.in-Item.ensures.within) in
    let passed = past_plain c.in_ok-quoting.quoting c.items.at at c.items.bad_escape c.args.text.now r in
    record {
      same =
          c.items.invariant.same
          ∙ (passed ∙ rw (c.first_bad-bad_escape.ensures) (at_item c.in_ok-quoting.quoting at c.items.bad_escape c.args.text.now c.in-Item.more c.in-Item.value here within));
      within = let l = length-drop at c.args.text.now in omega arith;
      escape_within = rw (c.first_bad-bad_escape.ensures) (own_within c.items.bad_escape at c.in-Item.more c.in-Item.value (later_still c.items.bad_escape c.items.at at le c.items.invariant.escape_within));
    }

pub items-smaller : goal.items-smaller
items-smaller c = grind (arith, common_steps)
