use Rattle.std.proofs.Common.{◌≡◌, ◌∙◌, ap, sym, refl, ◌++◌, ◌∷◌, [], cond, true, false, is_some, Option, Some, None, nat_eq}
use Rattle.indexmap.specs.IndexMap.{get}
use Rattle.indexmap.proofs.CallerLemmas.{insert_entry-new}
use Rattle.bq_value_content.specs.Kinds.{kind_at, with_kind}
use Rattle.bq_value_content.proofs.kinds.Kinds.add.Goals as goal

none_of : {A : Type 0} (o : Option A) → is_some o ≡ false → o ≡ None
none_of (Some x) h = absurd (cc)
none_of None h = refl

pub returns-then-contains_key : goal.returns-then-contains_key
unfolding with_kind
returns-then-contains_key c =
    let number = c.in-Some.number in
    let name = c.args.name.now in
    let kinds = c.args.self.now in
    let there : is_some (kind_at number kinds) ≡ true =
    ap (λ ks. is_some (kind_at number ks)) (sym c.self.view_is) ∙ (sym c.contains_key.ensures ∙ c.if-contains_key.true) in
    sym (ap (λ o. with_kind kinds o name) c.in-Some.is ∙ ap (λ b. cond b kinds (kinds ++ (number, name) ∷ [])) there)

pub returns-in_ok-insert-in-Some : goal.returns-in_ok-insert-in-Some
unfolding with_kind
returns-in_ok-insert-in-Some c =
    let number = c.in-Some.number in
    let name = c.args.name.now in
    let shared = c.in_ok-share-in-Some.field-0 in
    let kinds = c.args.self.now in
    let absent : get nat_eq c.self.inside.names number ≡ None = none_of _ (sym c.contains_key.ensures ∙ c.if-contains_key.false) in
    let new : is_some (kind_at number kinds) ≡ false =
    ap (λ ks. is_some (kind_at number ks)) (sym c.self.view_is) ∙ (sym c.contains_key.ensures ∙ c.if-contains_key.false) in
    c.in_ok-insert-in-Some.ensures.entries
    ∙ (insert_entry-new nat_eq c.self.inside.names number shared absent
    ∙ (ap (λ ks. ks ++ (number, shared) ∷ []) c.self.view_is
    ∙ (ap (λ text. kinds ++ (number, text) ∷ []) c.in_ok-share-in-Some.ensures
    ∙ sym (ap (λ o. with_kind kinds o name) c.in-Some.is ∙ ap (λ b. cond b kinds (kinds ++ (number, name) ∷ [])) new))))
