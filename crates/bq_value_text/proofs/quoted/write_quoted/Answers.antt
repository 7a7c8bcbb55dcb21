use Rattle.std.proofs.Common.{◌≡◌, ◌∙◌, [], ap, subst, arith, drop}
use Rattle.std.proofs.Math.ListN.{drop_of_length-le}
use Rattle.std.specs.Prelude.{OnOk}
use Rattle.bq_source.specs.StringLiteral.{quoted, quoted_body}
use Rattle.bq_value_text.specs.Page.{PageView, written}
use Rattle.bq_value_text.proofs.Pages.{over_stays, first_quoted, next_quoted, last_quoted}
use Rattle.bq_value_text.proofs.quoted.write_quoted.Goals as goal

pub returns-then-is_over : goal.returns-then-is_over
returns-then-is_over c = over_stays c.args.page.now (quoted c.args.bytes.now) (c.is_over.ensures c.if-is_over.true)

pub loop-byte-init : goal.loop-byte-init
loop-byte-init c = first_quoted c.args.page.now c.write.new.self c.args.bytes.now c.in_ok-write.ensures

pub loop-byte-preserved : goal.loop-byte-preserved
loop-byte-preserved c =
    c.loop-byte.invariant ∙ next_quoted c.loop-byte.page c.write_quoted_byte.new.page c.args.bytes.now c.loop-byte.byte-index (omega arith) c.in_ok-write_quoted_byte.ensures

pub returns : goal.returns
returns c =
    let bytes = c.args.bytes.now in
    let end : drop c.loop-byte.byte-index bytes ≡ [] = drop_of_length-le bytes (omega (arith, c.loop-byte-test.false)) in
    let all = c.loop-byte.invariant ∙ ap (λ rest. written c.loop-byte.page (quoted_body rest)) end in
    let P : PageView → Type 0 = λ p. OnOk c.write-2.result (c.write-2.new.self ≡ p) in
    subst P (last_quoted c.args.page.now c.loop-byte.page bytes all) c.write-2.ensures
