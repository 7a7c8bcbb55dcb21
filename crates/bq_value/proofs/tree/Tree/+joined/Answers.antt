use Rattle.std.proofs.Common.{◌≡◌, ◌∙◌, ◌-◌, ℕ, Option, None, Some, MatchOption, ap, sym, subst, bit_and}
use Rattle.std.specs.Option.{unwrap_or}
use Rattle.std.proofs.lemmas.Result.{IfOk-weaker}
use Rattle.bq_value.specs.Tries.{Trie, bare, fork, keys, IsFork, Joins}
use Rattle.bq_value.specs.TrieOf.{trie_of}
use Rattle.bq_value.specs.declared.tree.Halves.{Halves}
use Rattle.bq_value.proofs.Tries.{Forked, forked, joins_some, joins_there, joins_changed}
use Rattle.bq_value.proofs.tree.Tree.+joined.Goals as goal

pub returns-then-more-keys : goal.returns-then-more-keys
returns-then-more-keys t c =
    let a = c.args.self.now in
    let b = c.args.other.now in
    let k : keys a ≡ c.in-Fork.keys = ap keys (sym c.self.view_is ∙ ap trie_of c.in-Fork.is) in
    let m : keys b ≡ c.in-Fork-node.more = ap keys (sym c.other.view_is ∙ ap trie_of c.in-Fork-node.is) in
    let within : bit_and (keys b) (keys a) ≡ keys b =
    ap (λ (x : ℕ). bit_and x (keys a)) m ∙ (ap (λ (y : ℕ). bit_and c.in-Fork-node.more y) k ∙ (c.if-more-keys.true ∙ sym m)) in
    joins_there a b c.args.height c.if-height-le-BLOCK.true c.requires.shaped c.requires.other within

pub returns-in_ok-share-in_default : goal.returns-in_ok-share-in_default
returns-in_ok-share-in_default t c =
    let a = c.args.self.now in
    let e : a ≡ bare = sym c.self.view_is ∙ ap trie_of c.in-Bare.is in
    joins_some (Some c.in_ok-share-in_default.field-0) a c.args.other.now c.args.height e c.in_ok-share-in_default.ensures c.requires.other

pub returns-in_ok-right-in-Fork-node : goal.returns-in_ok-right-in-Fork-node
returns-in_ok-right-in-Fork-node t c =
    let a = c.args.self.now in
    let b = c.args.other.now in
    let h = c.args.height in
    let l = c.in-Fork.halves.value.left in
    let r = c.in-Fork.halves.value.right in
    let m = c.in-Fork-node.others.value.left in
    let n = c.in-Fork-node.others.value.right in
    let left = c.in_ok-left-in-Fork-node.left in
    let right = c.in_ok-right-in-Fork-node.right in
    let f = forked a c.in-Fork.keys c.in-Fork.halves.value.words.items l r h (sym c.self.view_is ∙ ap trie_of c.in-Fork.is) c.requires.shaped in
    let g = forked b c.in-Fork-node.more c.in-Fork-node.others.value.words.items m n h (sym c.other.view_is ∙ ap trie_of c.in-Fork-node.is) c.requires.other in
    let p : Joins l m (h - 1) (unwrap_or left l) =
    subst (λ (z : Halves). Joins z.left m (h - 1) (unwrap_or left z.left)) c.deref.ensures
    (subst (λ (z : Halves). Joins c.deref.result.now.left z.left (h - 1) (unwrap_or left c.deref.result.now.left)) c.deref-in-Fork-node.ensures
    c.in_ok-left-in-Fork-node.ensures) in
    let q : Joins r n (h - 1) (unwrap_or right r) =
    subst (λ (z : Halves). Joins z.right n (h - 1) (unwrap_or right z.right)) c.deref-in-Fork-node-2.ensures
    (subst (λ (z : Halves). Joins c.deref-in-Fork-node-2.result.now.right z.right (h - 1) (unwrap_or right c.deref-in-Fork-node-2.result.now.right)) c.deref-in-Fork-node-3.ensures
    c.in_ok-right-in-Fork-node.ensures) in
    let P : Halves → Option Trie → Type 0 = λ z o.
    MatchOption o ((left ≡ None) × (right ≡ None)) (λ j. IsFork j h (unwrap_or left z.left) (unwrap_or right z.right)) in
    IfOk-weaker c.changed.result (P c.deref-in-Fork-node-4.result.now) (λ (o : Option Trie). Joins a b h (unwrap_or o a))
    (λ o d. joins_changed o left right a b l r m n h f.is g.is p q (subst (λ (z : Halves). P z o) c.deref-in-Fork-node-4.ensures d)) c.changed.ensures
