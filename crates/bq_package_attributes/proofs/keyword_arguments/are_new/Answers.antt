use Rattle.std.proofs.Common.{◌≡◌, ◌≤◌, ◌∙◌, List, ℕ, length, take, true, false, sym, ap, arith}
use Rattle.std.specs.Option.{is_some}
use Rattle.bq_label.proofs.Owners.{copied_some}
use Rattle.bq_value.specs.Datum.{string}
use Rattle.bq_value.specs.Pairs.{found}
use Rattle.bq_package_attributes.specs.KeywordArguments.{pairs}
use Rattle.bq_package_attributes.proofs.Few.{new_next, new_stops, new_end}
use Rattle.bq_package_attributes.proofs.keyword_arguments.are_new.Goals as goal

pub returns-then-is_some : goal.returns-then-is_some
returns-then-is_some c =
    let l = c.loop-at in
    let named = c.args.named.now in
    let a = c.index-named-at.result in
    let text : c.as_slice.result.now ≡ a.0 = cc (c.as_slice.ensures, c.index-named-at.is) in
    let there : is_some (found (string a.0) (pairs (take l.at named))) ≡ true =
    ap (λ (n : List ℕ). is_some (found (string n) (pairs (take l.at named)))) (sym text) ∙ (ap is_some (sym c.value_of.ensures) ∙ (copied_some c.value_of.result ∙ (sym c.is_some.ensures ∙ c.if-is_some.true))) in
    sym (l.invariant ∙ new_stops named l.at a c.loop-at-test.true c.index-named-at.is there)

pub loop-at-preserved : goal.loop-at-preserved
loop-at-preserved c =
    let l = c.loop-at in
    let named = c.args.named.now in
    let a = c.index-named-at.result in
    let text : c.as_slice.result.now ≡ a.0 = cc (c.as_slice.ensures, c.index-named-at.is) in
    let other : is_some (found (string a.0) (pairs (take l.at named))) ≡ false =
    ap (λ (n : List ℕ). is_some (found (string n) (pairs (take l.at named)))) (sym text) ∙ (ap is_some (sym c.value_of.ensures) ∙ (copied_some c.value_of.result ∙ (sym c.is_some.ensures ∙ c.if-is_some.false))) in
    l.invariant ∙ new_next named l.at a c.loop-at-test.true c.index-named-at.is other

pub returns : goal.returns
returns c =
    let l = c.loop-at in
    let past : length c.args.named.now ≤ l.at = omega (arith, c.loop-at-test.false) in
    sym (l.invariant ∙ new_end c.args.named.now l.at past)
