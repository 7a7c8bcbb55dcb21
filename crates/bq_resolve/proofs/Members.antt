-- A call of a member: the suffix that calls it, and then those after it.
use Rattle.std.proofs.Common.{◌≡◌, ◌∙◌, List, [], ◌∷◌, take, drop, Result, Ok, Err, Some, slice_get, slice_set, refl, sym, ap}
use Rattle.bq_base.specs.declared.fault.NameFault.{NameFault}
use Rattle.bq_base.specs.declared.fault.Fault.{Fault}
use Rattle.bq_base.specs.declared.fault.SourceErr.{SourceErr}
use Rattle.bq_parse_grammar.specs.declared.tree.Expr.{Expr, out-Expr}
use Rattle.bq_parse_grammar.specs.declared.tree.Expr.TheVariants as e
use Rattle.bq_parse_grammar.specs.declared.tree.Suffix.{Suffix, out-Suffix}
use Rattle.bq_predeclared.specs.declared.predeclared.Predeclared.{Predeclared}
use Rattle.bq_resolve_scope.specs.Scope.{BlockParts, FileParts}
use Rattle.bq_resolve_scope.specs.Visit.{Passed, Visit, following, pure}
use Rattle.bq_resolve_scope.specs.Expressions.{suffixes}
use Rattle.bq_resolve.specs.Members.{as_member, member_suffix_by, member_primary}
use Rattle.bq_resolve.specs.Walks.{Writes}

module _ (file : FileParts) (visit : List BlockParts → Expr → Visit Expr) (blocks : List BlockParts) (p : Predeclared) (x : Expr) (xs : List Suffix) (f : Suffix) (s : Passed) (is : slice_get xs 0 ≡ Some f) where
  -- what is done to the member
  abbrev after : List Suffix → List Suffix → Visit Expr
  after done ss = λ t. following (suffixes file visit blocks done ss t) (λ ts. pure (e.Primary (as_member p (out-Expr x) x) ts))

  first_at : (ys : List Suffix) (y : Suffix) → slice_get ys 0 ≡ Some f
      → member_primary file visit blocks p x ys s ≡ following (member_suffix_by file visit blocks p (out-Suffix f) s) (λ z. after (z ∷ []) (drop 1 (slice_set ys 0 y)))
  first_at [] y h = absurd (let no : ⊥ = cc in no)
  first_at (z ∷ zs) y h = let same : z ≡ f = cc in ap (λ v. following (member_suffix_by file visit blocks p (out-Suffix v) s) (λ w. after (w ∷ []) zs)) same

  first_taken : (ys : List Suffix) (y : Suffix) → slice_get ys 0 ≡ Some f → take 1 (slice_set ys 0 y) ≡ y ∷ []
  first_taken [] y h = absurd (let no : ⊥ = cc in no)
  first_taken (z ∷ zs) y h = refl

  pub member_fault : (why : Fault NameFault) → member_suffix_by file visit blocks p (out-Suffix f) s ≡ Err why → member_primary file visit blocks p x xs s ≡ Err why
  member_fault why h = first_at xs f is ∙ ap (λ r. following r (λ z. after (z ∷ []) (drop 1 (slice_set xs 0 f)))) h

  module _ (y : Suffix) (t : Passed) (went : member_suffix_by file visit blocks p (out-Suffix f) s ≡ Ok (y, t)) where
    rest : member_primary file visit blocks p x xs s ≡ after (take 1 (slice_set xs 0 y)) (drop 1 (slice_set xs 0 y)) t
    rest =
        first_at xs y is ∙ ap (λ r. following r (λ z. after (z ∷ []) (drop 1 (slice_set xs 0 y)))) went
        ∙ ap (λ v. after v (drop 1 (slice_set xs 0 y)) t) (sym (first_taken xs y is))

    -- the suffix that calls it was walked along
    pub member_more : (z : Expr) (zs : List Suffix) (new : Passed) (r : Result (Unit {0}) (SourceErr NameFault)) → z ≡ as_member p (out-Expr x) x
        → Writes (suffixes file visit blocks (take 1 (slice_set xs 0 y)) (drop 1 (slice_set xs 0 y)) t) r zs new → Writes (member_primary file visit blocks p x xs s) r (e.Primary z zs) new
    member_more z zs new (Ok u) named walks =
        rest ∙ ap (λ r. following r (λ ts. pure (e.Primary (as_member p (out-Expr x) x) ts))) walks ∙ ap (λ v. Ok (e.Primary v zs, new)) (sym named)
    member_more z zs new (Err bad) named walks = λ why h. rest ∙ ap (λ r. following r (λ ts. pure (e.Primary (as_member p (out-Expr x) x) ts))) (walks why h)
