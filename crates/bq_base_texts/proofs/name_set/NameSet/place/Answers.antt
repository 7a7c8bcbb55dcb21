use Rattle.std.proofs.Common.{rules, ◌≡◌, List, ℕ, subst, arith}
use Rattle.std.proofs.lemmas.Grind.{common_steps}
use Rattle.bq_base_texts.specs.Places.{first_place, colliding_place, AreCandidates}
use Rattle.bq_base_texts.proofs.NameLookups.{candidates}
use Rattle.bq_base_texts.proofs.name_set.NameSet.place.Goals as goal

pub place_by-requires : goal.place_by-requires
place_by-requires c =
    let p = c.self.inside.places.by_hash in
    let q = c.self.inside.places.colliding in
    let first : c.copied-first.result ≡ first_place p c.args.name.now = grind (arith, common_steps) in
    let all : c.self.inside.names.items ≡ c.as_slice.result.now = search rules in
    subst (λ (ns : List (List ℕ)). AreCandidates ns c.args.name.now c.copied-first.result (colliding_place q c.args.name.now)) all
    (candidates c.self.inside.names.items p q c.args.name.now c.copied-first.result c.self.invariant first)
