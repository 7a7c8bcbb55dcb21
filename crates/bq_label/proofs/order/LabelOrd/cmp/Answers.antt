use Rattle.std.proofs.Common.{◌≡◌, ◌≢◌, ◌∙◌, [], List, ℕ, refl, ap, sym}
use Rattle.std.specs.declared.cmp.Ordering.{Ordering}
use Rattle.std.proofs.lemmas.Bool.{false≢true}
use Rattle.std.specs.Ordering.{ordering_then}
use Rattle.bq_label.specs.Label.{cmp_ended}
use Rattle.bq_label.proofs.FullForms.{cmp_main, cmp_first, cmp_last, cmp_external, plain_repo}
use Rattle.bq_label.proofs.order.LabelOrd.cmp.Goals as goal

pub returns-then-is_empty-2 : goal.returns-then-is_empty-2
returns-then-is_empty-2 c =
    let a : c.args.self.now.repo ≡ [] = sym c.repo.ensures.value ∙ c.if-is_empty.ensures.0 refl in
    let b : c.args.other.now.repo ≡ [] = sym c.repo-then-is_empty.ensures.value ∙ c.if-is_empty-2.ensures.0 refl in
    c.cmp_names.ensures ∙ sym (cmp_main c.args.self.now c.args.other.now a b c.repo.ensures.valid c.repo-then-is_empty.ensures.valid)

pub returns-then-is_empty : goal.returns-then-is_empty
returns-then-is_empty c =
    let a : c.args.self.now.repo ≡ [] = sym c.repo.ensures.value ∙ c.if-is_empty.ensures.0 refl in
    let b : c.args.other.now.repo ≢ [] = λ h. false≢true (c.if-is_empty-2.ensures.1 (c.repo-then-is_empty.ensures.value ∙ h)) in
    sym (cmp_first c.args.self.now c.args.other.now a b)

pub returns-then-is_empty-3 : goal.returns-then-is_empty-3
returns-then-is_empty-3 c =
    let a : c.args.self.now.repo ≢ [] = λ h. false≢true (c.if-is_empty.ensures.1 (c.repo.ensures.value ∙ h)) in
    let b : c.args.other.now.repo ≡ [] = sym c.repo-2.ensures.value ∙ c.if-is_empty-3.ensures.0 refl in
    sym (cmp_last c.args.self.now c.args.other.now a b)

pub cmp_ended-by_repo-requires-clause-plain_a : goal.cmp_ended-by_repo-requires-clause-plain_a
cmp_ended-by_repo-requires-clause-plain_a c = plain_repo c.args.self.now _ c.repo-3.ensures.valid (c.as_slice.ensures ∙ c.repo-3.ensures.value)

pub cmp_ended-by_repo-requires-clause-plain_b : goal.cmp_ended-by_repo-requires-clause-plain_b
cmp_ended-by_repo-requires-clause-plain_b c = plain_repo c.args.other.now _ c.repo-4.ensures.valid (c.as_slice-2.ensures ∙ c.repo-4.ensures.value)

pub returns : goal.returns
returns c =
    let a : c.args.self.now.repo ≢ [] = λ h. false≢true (c.if-is_empty.ensures.1 (c.repo.ensures.value ∙ h)) in
    let b : c.args.other.now.repo ≢ [] = λ h. false≢true (c.if-is_empty-3.ensures.1 (c.repo-2.ensures.value ∙ h)) in
    let by_repo : c.cmp_ended-by_repo.result ≡ cmp_ended 47 c.args.self.now.repo c.args.other.now.repo =
    c.cmp_ended-by_repo.ensures ∙ (ap (λ (t : List ℕ). cmp_ended 47 t c.as_slice-2.result.now) (c.as_slice.ensures ∙ c.repo-3.ensures.value) ∙ ap (λ (t : List ℕ). cmp_ended 47 c.args.self.now.repo t) (c.as_slice-2.ensures ∙ c.repo-4.ensures.value)) in
    c.then.ensures ∙ (ap (λ (o : Ordering). ordering_then o c.cmp_names-2.result) by_repo ∙ (ap (ordering_then (cmp_ended 47 c.args.self.now.repo c.args.other.now.repo)) c.cmp_names-2.ensures
    ∙ sym (cmp_external c.args.self.now c.args.other.now a b c.repo.ensures.valid c.repo-2.ensures.valid)))
