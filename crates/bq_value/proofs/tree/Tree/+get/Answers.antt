use Rattle.std.proofs.Common.{◌≡◌, ◌∙◌, ◌+◌, ◌-◌, ◌^◌, ◌<◌, ◌≤◌, ℕ, ap, sym, arith}
use Rattle.bq_value.specs.Cells.{module_at}
use Rattle.bq_value.specs.Tries.{entries}
use Rattle.bq_value.specs.TrieOf.{trie_of}
use Rattle.bq_value.specs.declared.tree.Halves.{Halves}
use Rattle.bq_value.proofs.Tries.{Forked, forked, get_left, get_right}
use Rattle.bq_value.proofs.tree.Tree.+get.Goals as goal

pub returns-then-home-middle : goal.returns-then-home-middle
returns-then-home-middle t c =
    let l = c.in-Fork.halves.value.left in
    let r = c.in-Fork.halves.value.right in
    let h = c.args.height in
    let f = forked c.args.self.now c.in-Fork.field-0 c.in-Fork.halves.value.words.items l r h (sym c.self.view_is ∙ ap trie_of c.in-Fork.is) c.requires.shaped in
    let less : c.args.home < c.args.base + 2 ^ (h - 1) = omega (arith, c.if-home-middle.true, c.middle-middle.ensures) in
    c.get.ensures
    ∙ (ap (λ (z : Halves). module_at c.args.home (entries z.left (h - 1) c.args.base)) c.deref.ensures
    ∙ get_left c.args.self.now l r h c.args.base c.args.home f.is less)

pub returns-else-home-middle : goal.returns-else-home-middle
returns-else-home-middle t c =
    let l = c.in-Fork.halves.value.left in
    let r = c.in-Fork.halves.value.right in
    let h = c.args.height in
    let f = forked c.args.self.now c.in-Fork.field-0 c.in-Fork.halves.value.words.items l r h (sym c.self.view_is ∙ ap trie_of c.in-Fork.is) c.requires.shaped in
    let le : c.args.base + 2 ^ (h - 1) ≤ c.args.home = omega (arith, c.if-home-middle.false, c.middle-middle.ensures) in
    c.get-in-Fork.ensures
    ∙ (ap (λ (z : Halves). module_at c.args.home (entries z.right (h - 1) c.middle-middle.result)) c.deref-in-Fork.ensures
    ∙ (ap (λ (m : ℕ). module_at c.args.home (entries r (h - 1) m)) c.middle-middle.ensures
    ∙ get_right c.args.self.now l r h c.args.base c.args.home f.is le))
