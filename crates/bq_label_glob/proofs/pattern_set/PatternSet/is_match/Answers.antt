use Rattle.std.proofs.Common.{◌≡◌, ◌∙◌, ◌||◌, ℕ, Bool, true, false, List, sym, ap}
use Rattle.std.specs.List.{list_any}
use Rattle.std.specs.Option.{is_some}
use Rattle.bq_base_texts.specs.NameSet.{has}
use Rattle.bq_base_texts.proofs.NameLookups.{has_place}
use Rattle.bq_label_glob.specs.Matching.{matches}
use Rattle.bq_label_glob.proofs.pattern_set.PatternSet.is_match.Goals as goal

pub returns-then-is_some : goal.returns-then-is_some
returns-then-is_some c =
    let set = c.args.self.now in
    let name = c.args.name.now in
    let there : has set.plain name ≡ true = sym (has_place set.plain name) ∙ (ap is_some (sym c.place.ensures) ∙ (sym c.is_some.ensures ∙ c.if-is_some.true)) in
    c.if-is_some.true ∙ sym (ap (λ (b : Bool). b || list_any (λ p. matches p name) set.starred) there)

pub returns-else-is_some : goal.returns-else-is_some
returns-else-is_some c =
    let set = c.args.self.now in
    let name = c.args.name.now in
    let none : has set.plain name ≡ false = sym (has_place set.plain name) ∙ (ap is_some (sym c.place.ensures) ∙ (sym c.is_some.ensures ∙ c.if-is_some.false)) in
    c.matches_some.ensures ∙ (ap (λ (ps : List (List ℕ)). list_any (λ p. matches p name) ps) c.as_slice.ensures ∙ sym (ap (λ (b : Bool). b || list_any (λ p. matches p name) set.starred) none))
