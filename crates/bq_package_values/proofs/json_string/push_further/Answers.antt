use Rattle.std.proofs.Common.{◌<◌, ◌+◌, ◌++◌, ◌∙◌, take, drop, slice_index, append_assoc, length-take-le, ap, sym, arith}
use Rattle.bq_package_values.specs.JsonString.{escape, escaped}
use Rattle.bq_package_values.proofs.Fronts.{front_char, front_lone, front_within}
use Rattle.bq_package_values.proofs.json_string.push_further.Goals as goal

pub slice_bounds-extend_from_slice-end : goal.slice_bounds-extend_from_slice-end
slice_bounds-extend_from_slice-end c =
    let bytes = c.args.bytes.now in
    sym (length-take-le c.decode.result.1 bytes (front_within bytes c.decode.result.1 c.requires.some c.decode.ensures.size).1)

pub returns-in_ok-extend_from_slice-in-Some-default-clause-some :
    goal.returns-in_ok-extend_from_slice-in-Some-default-clause-some
returns-in_ok-extend_from_slice-in-Some-default-clause-some c =
    (front_within c.args.bytes.now c.decode.result.1 c.requires.some c.decode.ensures.size).0

pub returns-in_ok-extend_from_slice-in-Some-default-clause-within :
    goal.returns-in_ok-extend_from_slice-in-Some-default-clause-within
returns-in_ok-extend_from_slice-in-Some-default-clause-within c =
    (front_within c.args.bytes.now c.decode.result.1 c.requires.some c.decode.ensures.size).1

pub returns-in_ok-extend_from_slice-in-Some-default-clause-text :
    goal.returns-in_ok-extend_from_slice-in-Some-default-clause-text
returns-in_ok-extend_from_slice-in-Some-default-clause-text c =
    let bytes = c.args.bytes.now in
    let n = c.decode.result.1 in
    let old = c.args.text.now.items in
    let rest = escaped (drop n bytes) in
    let char = sym c.decode.ensures.char ∙ c.in-Some-default.is-0 in
    ap (λ t. t ++ rest) c.in_ok-extend_from_slice-in-Some-default.ensures.items
    ∙ append_assoc old (take n bytes) rest
    ∙ ap (λ t. old ++ t) (sym (front_char bytes c.in-Some-default.field-0-0 n c.requires.some c.requires.further char c.decode.ensures.size))

pub returns-in_ok-push_escape-in-None-default-clause-text :
    goal.returns-in_ok-push_escape-in-None-default-clause-text
returns-in_ok-push_escape-in-None-default-clause-text c =
    let bytes = c.args.bytes.now in
    let old = c.args.text.now.items in
    let rest = escaped (drop 1 bytes) in
    let low : slice_index bytes 0 < 256 = omega (arith, c.type_inv.bytes 0) in
    let none = sym c.decode.ensures.char ∙ c.in-None-default.is-0 in
    ap (λ t. t ++ rest) c.in_ok-push_escape-in-None-default.ensures
    ∙ append_assoc old (escape (0xDC00 + slice_index bytes 0)) rest
    ∙ ap (λ t. old ++ t) (sym (front_lone bytes c.requires.some low none))
