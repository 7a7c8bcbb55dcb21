use Rattle.std.proofs.Common.{◌≡◌, sym, ap, is_some, rules, get_or}
use Rattle.std.specs.declared.cmp.Ordering.{Ordering}
use Rattle.std.specs.declared.cmp.Ordering.TheVariants.{Equal}
use Rattle.std.specs.Ordering.{nat_cmp}
use Rattle.std.specs.Cmp.Lexicographic.{slice_cmp}
use Rattle.std.proofs.lemmas.Fn.{always_returns_same}
use Rattle.bq_label.specs.Label.{full_form}
use Rattle.bq_package_target.specs.declared.target.Target.{Target}
use Rattle.bq_query_function.specs.Order.{text_of}
use Rattle.bq_query_function.proofs.Ranks.{no_one}
use Rattle.bq_query_function.proofs.Found.{here, nowhere, somewhere}
use Rattle.bq_query_function.proofs.order.target_of.Goals as goal

pub returns-in-Ok-clause-found : goal.returns-in-Ok-clause-found
returns-in-Ok-clause-found c =
    let against : Target → Ordering = λ t. slice_cmp nat_cmp (text_of t) (full_form c.args.label.now) in
    let found : (d : Target) → slice_cmp nat_cmp (text_of (get_or c.args.targets.now c.in-Ok.at d)) (full_form c.args.label.now) ≡ Equal = c.in-Ok.ensures.position against (always_returns_same _ _ _ (λ a r q k. search rules)) in
    (c.in-Ok.ensures.bound, here c.args.targets.now (full_form c.args.label.now) c.in-Ok.at c.in-Ok.ensures.bound (found no_one))

pub returns-in-Ok-clause-value : goal.returns-in-Ok-clause-value
returns-in-Ok-clause-value c =
    let against : Target → Ordering = λ t. slice_cmp nat_cmp (text_of t) (full_form c.args.label.now) in
    let found : (d : Target) → slice_cmp nat_cmp (text_of (get_or c.args.targets.now c.in-Ok.at d)) (full_form c.args.label.now) ≡ Equal = c.in-Ok.ensures.position against (always_returns_same _ _ _ (λ a r q k. search rules)) in
    somewhere c.args.targets.now (full_form c.args.label.now) c.requires c.in-Ok.at c.in-Ok.ensures.bound (found no_one)

pub returns-in-Err-clause-value : goal.returns-in-Err-clause-value
returns-in-Err-clause-value c =
    let against : Target → Ordering = λ t. slice_cmp nat_cmp (text_of t) (full_form c.args.label.now) in
    sym (ap is_some (nowhere c.args.targets.now (full_form c.args.label.now) c.requires _ (c.in-Err.ensures.position against (always_returns_same _ _ _ (λ a r q k. search rules)))))

pub returns-in-Err-clause-none : goal.returns-in-Err-clause-none
returns-in-Err-clause-none c =
    let against : Target → Ordering = λ t. slice_cmp nat_cmp (text_of t) (full_form c.args.label.now) in
    nowhere c.args.targets.now (full_form c.args.label.now) c.requires _ (c.in-Err.ensures.position against (always_returns_same _ _ _ (λ a r q k. search rules)))
