use Rattle.std.proofs.Common.{◌≡◌, ◌∙◌, ◌-◌, Some, length, drop, take, sym, refl, true, false, rules, arith}
use Rattle.std.specs.Prelude.{◌==◌, ◌||◌, not, option_map}
use Rattle.std.specs.List.{list_any, list_all}
use Rattle.std.proofs.lemmas.Grind.{common_steps}
use Rattle.bq_source.proofs.Verbatim.{verbatim}
use Rattle.bq_source.specs.StringLiteral.{opening, opening_len, items, values, string_value, stays}
use Rattle.bq_source.proofs.Values.{opened, quotes_within, verbatim_value, items_read, unescaped_value, valued}
use Rattle.bq_source.proofs.string_literal.string_value.Goals as goal
use Rattle.bq_source.proofs.string_literal.string_value.Goals.{then-quoting, else-quoting}

pub unwrap-quoting-requires : goal.unwrap-quoting-requires
unwrap-quoting-requires c = rw (c.opening.ensures.quoting) (opened c.args.literal.now c.requires)

pub slice_bounds-from_slice-count : goal.slice_bounds-from_slice-count
slice_bounds-from_slice-count c =
    let o : opening c.args.literal.now ≡ Some c.unwrap-quoting.result = cc in
    rw (c.quotes_len.ensures, c.rest_of-body.ensures, c.opening_len.ensures) (quotes_within c.args.literal.now c.unwrap-quoting.result o c.requires)

pub returns-then-not-contains-2 : goal.returns-then-not-contains-2
returns-then-not-contains-2 c =
    let o : opening c.args.literal.now ≡ Some c.unwrap-quoting.result = cc in
    let body = c.rest_of-body.result.now in
    let raw = c.unwrap-quoting.result.raw in
    let no_return : list_any (λ b. b == 13) body ≡ false = first_of (search rules, grind (arith, common_steps)) in
    let quiet : (raw || not (list_any (λ b. b == 92) body)) ≡ true = elim c.if-quoting.branch [
      | then-quoting w ↦ first_of (search (rules, w.if-quoting), grind (arith, common_steps, w.if-quoting))
      | else-quoting w ↦
          let plain = c.if-not-contains-2.true in
          first_of (search (rules, w.if-quoting, w.value-is, plain, w.contains-else-quoting.ensures), grind (arith, common_steps, w.if-quoting, w.value-is, plain, w.contains-else-quoting.ensures))
    ] in
    let stay : list_all (stays raw) body ≡ true = sym (verbatim raw body) ∙ rw (no_return, quiet) refl in
    let all_stay : list_all (stays raw) (drop (opening_len c.unwrap-quoting.result) c.args.literal.now) ≡ true =
    rw (c.rest_of-body.ensures, c.opening_len.ensures) at stay in
    let value : string_value c.args.literal.now ≡ Some (take (length c.rest_of-body.result.now - c.quotes_len.result) c.rest_of-body.result.now) =
    rw (c.quotes_len.ensures, c.rest_of-body.ensures, c.opening_len.ensures) (verbatim_value c.args.literal.now c.unwrap-quoting.result o c.requires all_stay) in
    valued c.from_slice.result c.args.literal.now (take (length c.rest_of-body.result.now - c.quotes_len.result) c.rest_of-body.result.now) value c.from_slice.ensures

pub unescaped-requires : goal.unescaped-requires
unescaped-requires c =
    let o : opening c.args.literal.now ≡ Some c.unwrap-quoting.result = cc in
    rw (c.rest_of-body.ensures, c.opening_len.ensures) (items_read c.args.literal.now c.unwrap-quoting.result o c.requires)

pub returns : goal.returns
returns c =
    let o : opening c.args.literal.now ≡ Some c.unwrap-quoting.result = cc in
    let read : option_map values (items c.unwrap-quoting.result 0 (drop (opening_len c.unwrap-quoting.result) c.args.literal.now)) ≡ Some c.in_ok-unescaped.field-0.items =
    rw (c.rest_of-body.ensures, c.opening_len.ensures) at c.in_ok-unescaped.ensures in
    valued c.from_vec.result c.args.literal.now c.in_ok-unescaped.field-0.items (unescaped_value c.args.literal.now c.unwrap-quoting.result o c.requires ∙ read) c.from_vec.ensures
