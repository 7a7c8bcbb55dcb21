use Rattle.std.proofs.Common.{◌≡◌, ◌∙◌, ◌<◌, length, drop, arith, ℕ, List, Option, IsSome, ap, subst}
use Rattle.std.proofs.lemmas.List.{length-drop}
use Rattle.bq_source.specs.declared.string_literal.ItemValue.{ItemValue}
use Rattle.bq_source.specs.declared.string_literal.BodyPart.TheVariants.{Item}
use Rattle.bq_source.specs.StringLiteral.{body_part, items}
use Rattle.bq_source.proofs.Items.{joined_at_item, joined_all, mapped}
use Rattle.std.proofs.lemmas.Grind.{common_steps}
use Rattle.bq_source.proofs.string_literal.unescaped.Goals as goal

pub items-preserved : goal.items-preserved
items-preserved c =
    let here : body_part c.args.quoting (drop c.items.at c.args.body.now) ≡ Item c.in-Item.more c.in-Item.item = cc (c.in-Item.ensures.part) in
    let within : c.in-Item.more < length (drop c.items.at c.args.body.now) = rw (← c.rest_of.ensures) (c.in-Item.ensures.within) in
    record {
      same =
          c.items.invariant.same
          ∙ rw (c.in_ok-push_item.ensures) (joined_at_item c.args.quoting c.items.value.items c.items.at c.args.body.now c.in-Item.more c.in-Item.item here);
      within = let l = length-drop c.items.at c.args.body.now in omega arith;
    }

pub returns : goal.returns
returns c =
    let none : (more : ℕ) (value : ItemValue) → body_part c.args.quoting (drop c.items.at c.args.body.now) ≡ Item more value → ⊥ =
    λ more value e. c.in_default.not-Item more value (c.body_part.ensures.part ∙ ap (body_part c.args.quoting) c.rest_of.ensures ∙ e) in
    let P : Option (List ℕ) → Type 0 = λ o. IsSome o in
    let some = subst P c.items.invariant.same (mapped (items c.args.quoting 0 c.args.body.now) c.requires) in
    c.items.invariant.same ∙ joined_all c.args.quoting c.items.value.items (drop c.items.at c.args.body.now) none some

pub items-smaller : goal.items-smaller
items-smaller c = grind (arith, common_steps)
