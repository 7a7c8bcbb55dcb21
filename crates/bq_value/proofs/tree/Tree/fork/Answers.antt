use Rattle.std.proofs.Common.{◌≡◌, sym, refl, subst}
use Rattle.bq_value.specs.Tries.{fork, IsFork}
use Rattle.bq_value.specs.declared.tree.Halves.{Halves}
use Rattle.bq_value.proofs.Tries.{is_fork}
use Rattle.bq_value.proofs.tree.Tree.fork.Goals as goal

pub returns : goal.returns
returns c =
    let k = c.keys_of-keys.result in
    let words = c.in_ok-words.words.items in
    let l = c.args.left in
    let r = c.args.right in
    let h = c.args.height in
    let P : Halves → Type 0 = λ z. IsFork (fork k z.words.items z.left z.right) h l r in
    subst P (sym c.in_ok-halves.ensures.ok) (is_fork (fork k words l r) k words l r h refl c.requires.above c.keys_of-keys.ensures c.in_ok-words.ensures c.requires.left c.requires.right)
