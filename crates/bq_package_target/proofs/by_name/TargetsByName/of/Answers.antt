use Rattle.std.proofs.Common.{◌≡◌, ◌++◌, ◌∷◌, [], ◌∙◌, Bool, List, reverse, ap, subst, rules}
use Rattle.std.specs.Ordering.{is_lt}
use Rattle.std.specs.Cmp.Lexicographic.{on_texts}
use Rattle.std.specs.List.Sorted.{IsPermutation, IsSorted}
use Rattle.std.proofs.lemmas.List.{reverse-reverse}
use Rattle.std.proofs.lemmas.List.Sorted.{ranks_by, answers_always}
use Rattle.bq_package_target.specs.declared.by_name.PlacedTarget.{PlacedTarget}
use Rattle.bq_package_target.proofs.ByNames.{placed_from, placed_cmp, one_more, declared_is, come_by_name}
use Rattle.bq_package_target.proofs.by_name.TargetsByName.of.Goals as goal

pub loop-target-preserved : goal.loop-target-preserved
loop-target-preserved c =
    let l = c.loop-target in
    let rest = c.pop.new.self in
    let t = c.in-Some.target in
    let popped : l.targets ≡ rest ++ t ∷ [] = search rules in
    let pushed : c.push.new.self.items ≡ l.placed.items ++ record { target = t; place = c.len-in-Some.result } ∷ [] = search rules in
    ap (λ (z : List PlacedTarget). z ++ reverse (placed_from 0 rest)) pushed ∙ one_more (reverse (placed_from 0 c.args.targets)) l.placed.items l.targets rest t c.len-in-Some.result popped c.len-in-Some.ensures l.invariant

pub invariant_of-result : goal.invariant_of-result
invariant_of-result c =
    let all = placed_from 0 c.args.targets in
    let popped : c.loop-target.placed.items ≡ reverse all = search rules in
    let part : c.reverse.new.self.items ≡ all = c.reverse.ensures.items ∙ (ap reverse popped ∙ reverse-reverse all) in
    let sorted = c.sort_unstable_by.new.self.items in
    let below : PlacedTarget → PlacedTarget → Bool = λ a b. is_lt (placed_cmp a b) in
    let ascending : IsSorted placed_cmp sorted = c.sort_unstable_by.ensures.sorted below (ranks_by (on_texts (λ (p : PlacedTarget). p.target.label.name)) (λ (p : PlacedTarget). p)) (answers_always _ _ _ (λ f a r q k. search rules)) in
    let moved : IsPermutation all sorted = subst (λ (z : List PlacedTarget). IsPermutation z sorted) part c.sort_unstable_by.ensures.permutation in
    come_by_name c.args.targets c.requires sorted moved ascending

pub returns : goal.returns
returns c =
    let all = placed_from 0 c.args.targets in
    let popped : c.loop-target.placed.items ≡ reverse all = search rules in
    let part : c.reverse.new.self.items ≡ all = c.reverse.ensures.items ∙ (ap reverse popped ∙ reverse-reverse all) in
    let sorted = c.sort_unstable_by.new.self.items in
    let below : PlacedTarget → PlacedTarget → Bool = λ a b. is_lt (placed_cmp a b) in
    let ascending : IsSorted placed_cmp sorted = c.sort_unstable_by.ensures.sorted below (ranks_by (on_texts (λ (p : PlacedTarget). p.target.label.name)) (λ (p : PlacedTarget). p)) (answers_always _ _ _ (λ f a r q k. search rules)) in
    let moved : IsPermutation all sorted = subst (λ (z : List PlacedTarget). IsPermutation z sorted) part c.sort_unstable_by.ensures.permutation in
    declared_is c.args.targets c.requires sorted moved ascending
