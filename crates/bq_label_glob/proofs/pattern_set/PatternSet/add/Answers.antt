use Rattle.std.proofs.Common.{◌≡◌, ◌∙◌, ℕ, List, false, sym, ap}
use Rattle.std.specs.List.{list_any}
use Rattle.bq_base_texts.specs.NameSet.{with_name}
use Rattle.bq_label_glob.specs.Matching.{is_star}
use Rattle.bq_label_glob.proofs.Sets.{starred_added, plain_added}
use Rattle.bq_label_glob.proofs.pattern_set.PatternSet.add.Goals as goal

pub returns-then-has_star : goal.returns-then-has_star
returns-then-has_star c =
    let set = c.args.self.now in
    let after : c.add.new.self ≡ with_name set.starred c.args.pattern.now = c.in_ok-add.ensures.after ∙ ap (λ (p : List ℕ). with_name set.starred p) c.text-text.ensures in
    λ n. starred_added set.plain set.starred c.add.new.self c.args.pattern.now after n

pub returns : goal.returns
returns c =
    let set = c.args.self.now in
    let after : c.add-2.new.self ≡ with_name set.plain c.args.pattern.now = c.in_ok-add-2.ensures.after ∙ ap (λ (p : List ℕ). with_name set.plain p) c.text-text.ensures in
    let plain : list_any is_star c.args.pattern.now ≡ false = sym (c.has_star.ensures ∙ ap (λ (p : List ℕ). list_any is_star p) (c.as_slice.ensures ∙ c.text-text.ensures)) ∙ c.if-has_star.false in
    λ n. plain_added set.plain set.starred c.add-2.new.self c.args.pattern.now plain after n
