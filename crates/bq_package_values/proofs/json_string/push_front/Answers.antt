use Rattle.std.proofs.Common.{◌≡◌, ◌++◌, ◌∙◌, false, drop, slice_index, append_assoc, ap, sym, arith}
use Rattle.bq_package_values.specs.JsonString.{is_plain, escape, escaped}
use Rattle.bq_package_values.proofs.Fronts.{front_escape}
use Rattle.bq_package_values.proofs.json_string.push_front.Goals as goal

pub returns-then-first-lt128-clause-text : goal.returns-then-first-lt128-clause-text
returns-then-first-lt128-clause-text c =
    let bytes = c.args.bytes.now in
    let old = c.args.text.now.items in
    let rest = escaped (drop 1 bytes) in
    let none : c.plain_len-plain.result ≡ 0 = omega arith in
    let other : is_plain (slice_index bytes 0) ≡ false =
    ap (λ i. is_plain (slice_index bytes i)) (sym none) ∙ c.plain_len-plain.ensures.all (omega arith) in
    ap (λ t. t ++ rest) c.in_ok-push_escape.ensures
    ∙ append_assoc old (escape (slice_index bytes 0)) rest
    ∙ ap (λ t. old ++ t) (sym (front_escape bytes c.requires c.if-first-lt128.true other))
