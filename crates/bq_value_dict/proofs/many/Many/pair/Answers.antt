use Rattle.std.proofs.Common.{◌≡◌, ◌∙◌, ◌+◌, ◌∷◌, suc, ap, sym, subst, arith, length, List, is_some, drop, slice_get, option_map, option_copied}
use Rattle.std.specs.Map.Iter.{deref_pair}
use Rattle.std.proofs.lemmas.Option.{slice_get_within}
use Rattle.bq_value_datum.specs.Datum.{Datum}
use Rattle.bq_value_dict.specs.Places.{live, empty_from, Rises, passed}
use Rattle.bq_value_dict.proofs.Live.{place_at, nth, same_some}
use Rattle.bq_value_dict.proofs.Empty.{length_live, rises, passed_place}
use Rattle.bq_value_dict.proofs.many.Many.pair.Goals as goal

pub place_of-requires-clause-rises : goal.place_of-requires-clause-rises
place_of-requires-clause-rises c = subst (Rises 0) (sym (c.deref.ensures.value ∙ c.self.invariant)) (rises 0 c.self.inside.entries.entries)

pub place_of-requires-clause-fits : goal.place_of-requires-clause-fits
place_of-requires-clause-fits c =
    let entries = c.self.inside.entries.entries in
    omega (arith, c.requires, ap length c.self.view_is, length_live 0 entries, ap length (c.deref.ensures.value ∙ c.self.invariant), c.len-len.ensures.len, c.len-len.ensures.small)

pub unwrap-requires : goal.unwrap-requires
unwrap-requires c =
    let entries = c.self.inside.entries.entries in
    let index = c.args.index in
    let n = nth entries index (omega (arith, c.requires, ap length c.self.view_is)) in
    let empty = c.deref.ensures.value ∙ c.self.invariant in
    let first_sum : index ≡ 0 + index = omega arith in
    let last_sum : 0 + place_at entries index ≡ place_at entries index = omega arith in
    let place = c.place_of.ensures ∙ (ap (passed index) empty ∙ (ap (λ m. passed m (empty_from 0 entries)) first_sum ∙ (passed_place 0 index entries ∙ last_sum))) in
    let at = ap (slice_get entries) place ∙ n.at in
    c.get_index.ensures.found.1 (slice_get_within entries c.place_of.result _ at)

pub unwrap-requires-2 : goal.unwrap-requires-2
unwrap-requires-2 c =
    let entries = c.self.inside.entries.entries in
    let index = c.args.index in
    let n = nth entries index (omega (arith, c.requires, ap length c.self.view_is)) in
    let empty = c.deref.ensures.value ∙ c.self.invariant in
    let first_sum : index ≡ 0 + index = omega arith in
    let last_sum : 0 + place_at entries index ≡ place_at entries index = omega arith in
    let place = c.place_of.ensures ∙ (ap (passed index) empty ∙ (ap (λ m. passed m (empty_from 0 entries)) first_sum ∙ (passed_place 0 index entries ∙ last_sum))) in
    let at = ap (slice_get entries) place ∙ n.at in
    let pair = same_some _ _ (sym (ap (option_map deref_pair) c.unwrap.ensures) ∙ (c.get_index.ensures.entry ∙ at)) in
    c.as_ref.ensures.variant ∙ ap (λ p. is_some p.1) pair

pub returns : goal.returns
returns c =
    let entries = c.self.inside.entries.entries in
    let index = c.args.index in
    let n = nth entries index (omega (arith, c.requires, ap length c.self.view_is)) in
    let empty = c.deref.ensures.value ∙ c.self.invariant in
    let first_sum : index ≡ 0 + index = omega arith in
    let last_sum : 0 + place_at entries index ≡ place_at entries index = omega arith in
    let place = c.place_of.ensures ∙ (ap (passed index) empty ∙ (ap (λ m. passed m (empty_from 0 entries)) first_sum ∙ (passed_place 0 index entries ∙ last_sum))) in
    let at = ap (slice_get entries) place ∙ n.at in
    let pair = same_some _ _ (sym (ap (option_map deref_pair) c.unwrap.ensures) ∙ (c.get_index.ensures.entry ∙ at)) in
    let key = ap (λ p. p.0) pair in
    let value = same_some _ _ (sym (ap option_copied c.unwrap-2.ensures) ∙ (c.as_ref.ensures.value ∙ ap (λ p. p.1) pair)) in
    let step : suc index ≡ index + 1 = omega arith in
    let P : List (Datum × Datum) → Type 0 = λ d. drop index d ≡ (c.unwrap.result.0.now, c.unwrap-2.result.now) ∷ drop (index + 1) d in
    subst P c.self.view_is (n.rest ∙ (λ i. (sym key i, sym value i) ∷ drop (step i) (live entries)))
