use Rattle.std.proofs.Common.{◌≡◌, ◌+◌, ◌∙◌, List, ℕ, true, false, get_or, drop, ap, sym, arith}
use Rattle.std.proofs.lemmas.List.{take_rest}
use Rattle.bq_builtin_strings.specs.Line.{line_ends}
use Rattle.bq_builtin_strings.proofs.LineCuts.{ends_at, goes_on, ends_last}
use Rattle.bq_builtin_strings.proofs.line.line_len.Goals as goal

pub returns-then-line_ends-clause-len : goal.returns-then-line_ends-clause-len
returns-then-line_ends-clause-len c =
    let text : List ℕ = c.args.text.now in
    let e : line_ends (get_or text c.loop-at.at 0) (drop (c.loop-at.at + 1) text) ≡ true = ap (line_ends (get_or text c.loop-at.at 0)) (sym (take_rest text (c.loop-at.at + 1))) ∙ (sym c.line_ends.ensures ∙ c.if-line_ends.true) in
    ends_at text c.loop-at.at _ c.loop-at-test.true e c.loop-at.invariant

pub loop-at-preserved : goal.loop-at-preserved
loop-at-preserved c =
    let text : List ℕ = c.args.text.now in
    let e : line_ends (get_or text c.loop-at.at 0) (drop (c.loop-at.at + 1) text) ≡ false = ap (line_ends (get_or text c.loop-at.at 0)) (sym (take_rest text (c.loop-at.at + 1))) ∙ (sym c.line_ends.ensures ∙ c.if-line_ends.false) in
    goes_on text c.loop-at.at _ c.loop-at-test.true e c.loop-at.invariant

pub returns-clause-len : goal.returns-clause-len
returns-clause-len c = omega (arith, ends_last c.args.text.now c.loop-at.at _ c.loop-at-test.false c.loop-at.invariant)
