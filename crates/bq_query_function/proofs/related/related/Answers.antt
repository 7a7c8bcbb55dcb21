use Rattle.std.proofs.Common.{◌≡◌, ℕ, length, false, replicate, get_or, subst, arith, rules}
use Rattle.std.proofs.lemmas.Grind.{common_steps}
use Rattle.std.proofs.lemmas.List.{get_or_read}
use Rattle.bq_query_graph.specs.Marks.{IsSet, Marked}
use Rattle.bq_package_target.specs.declared.target.Target.{Target}
use Rattle.bq_query_function.specs.Words.{Adds}
use Rattle.bq_query_function.proofs.Ranks.{no_one}
use Rattle.bq_query_function.proofs.RelatedSets.{RelatedBelow, none_below, skip_one, take_one, all_related}
use Rattle.bq_query_function.proofs.related.related.Goals as goal

pub loop-at-init : goal.loop-at-init
loop-at-init g c =
    let none : c.in_ok-marks.marks.items ≡ replicate (length c.args.targets.now) false = first_of (cc, search rules, grind (arith, common_steps)) in
    none_below (g.R.Relation.relates c.args.relation.now) c.args.targets.now (Marked c.args.x.now) c.in_ok-marks.marks.items none

pub loop-at-preserved-then-not-x-at : goal.loop-at-preserved-then-not-x-at
loop-at-preserved-then-not-x-at g c =
    skip_one c.loop-at.at (g.R.Relation.relates c.args.relation.now) c.args.targets.now c.args.x.now c.loop-at.marks.items c.if-not-x-at.true c.loop-at.invariant

pub loop-at-preserved : goal.loop-at-preserved
loop-at-preserved g c =
    let targets = c.args.targets.now in
    let at = c.loop-at.at in
    let t = c.index-targets-at.result in
    let is : t ≡ get_or targets at no_one = get_or_read targets at t c.loop-at-test.true c.index-targets-at.is no_one in
    let adds : Target → Type 0 = λ u. Adds (g.R.Relation.relates c.args.relation.now u) targets c.loop-at.marks.items c.add_related.new.marks.items in
    take_one at (g.R.Relation.relates c.args.relation.now) targets c.args.x.now c.loop-at.marks.items c.add_related.new.marks.items c.loop-at-test.true c.if-not-x-at.false c.loop-at.invariant (subst adds is c.in_ok-add_related.ensures)

pub returns : goal.returns
returns g c =
    let targets = c.args.targets.now in
    let end : c.loop-at.at ≡ length targets = omega arith in
    all_related (g.R.Relation.relates c.args.relation.now) targets c.args.x.now c.loop-at.marks.items c.requires.long
    (subst (λ (n : ℕ). IsSet (length targets) c.loop-at.marks.items (RelatedBelow n (g.R.Relation.relates c.args.relation.now) targets (Marked c.args.x.now))) end c.loop-at.invariant)
