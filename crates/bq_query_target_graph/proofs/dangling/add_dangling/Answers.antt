use Rattle.std.proofs.Common.{◌≡◌, ◌∙◌, ◌∷◌, ◌++◌, [], false, refl, true, ap, sym}
use Rattle.bq_label.specs.Label.{package_of}
use Rattle.bq_package_target.specs.Target.{is_of}
use Rattle.bq_query_target_graph.proofs.Danglings.{own_label, missing_label}
use Rattle.bq_query_target_graph.proofs.dangling.add_dangling.Goals as goal

pub returns-then-is_of : goal.returns-then-is_of
returns-then-is_of c =
    let b = c.args.build_file.now in
    let l = c.args.label.now in
    let own : is_of (package_of b) l ≡ true = ap (λ p. is_of p l) (sym c.package_id.ensures) ∙ (sym c.is_of.ensures ∙ c.if-is_of.true) in
    sym (own_label (λ _. false) b l c.args.line c.args.lines.now.items own)

pub returns : goal.returns
returns c =
    let b = c.args.build_file.now in
    let l = c.args.label.now in
    let s = c.args.lines.now.items in
    let other : is_of (package_of b) l ≡ false = ap (λ p. is_of p l) (sym c.package_id.ensures) ∙ (sym c.is_of.ensures ∙ c.if-is_of.false) in
    c.in_ok-push.ensures.items ∙ (ap (λ x. s ++ x ∷ []) c.in_ok-found.ensures ∙ sym (missing_label (λ _. false) b l c.args.line s other refl))
