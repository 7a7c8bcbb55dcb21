-- Dicts whose keys are distinct: the same pairs in another order are the same dict.
use Rattle.std.proofs.Common.{◌≡◌, ◌∙◌, ◌≤◌, suc, Bool, true, false, cond, List, [], ◌∷◌, length, Option, Some, None, refl, sym, ap, subst, arith}
use Rattle.bq_value.specs.Datum.{Datum}
use Rattle.bq_value.specs.Same.{same}
use Rattle.bq_value.specs.SameLaws.{same-refl, same-true}
use Rattle.bq_value.specs.Pairs.{found, without, HasNoKeyTwice}
use Rattle.bq_value.proofs.Alike.{Relates, PartnerAlike, PartnersAlike}

abbrev Dict : Type 0
Dict = List (Datum × Datum)

some_same : (v w : Datum) → Some v ≡ Some w → v ≡ w
some_same v w e = cc

some_none : {P : Type 0} (v : Datum) → None ≡ Some v → P
some_none v e = absurd (cc)

pub found_first : (p : Datum × Datum) (ps : Dict) → found p.0 (p ∷ ps) ≡ Some p.1
found_first p ps = ap (λ (b : Bool). cond b (Some p.1) (found p.0 ps)) (same-refl p.0)

-- where a key was found: at the first pair, or after it
found_by : {P : Type 0} (k v : Datum) (p : Datum × Datum) (ps : Dict) (b : Bool) → same k p.0 ≡ b → cond b (Some p.1) (found k ps) ≡ Some v
    → (k ≡ p.0 → p.1 ≡ v → P) → (same k p.0 ≡ false → found k ps ≡ Some v → P) → P
found_by k v p ps true t e first later = first (same-true k p.0 t) (some_same p.1 v e)
found_by k v p ps false t e first later = later t e

pub found_at : {P : Type 0} (k v : Datum) (p : Datum × Datum) (ps : Dict) → found k (p ∷ ps) ≡ Some v → (k ≡ p.0 → p.1 ≡ v → P) → (same k p.0 ≡ false → found k ps ≡ Some v → P) → P
found_at k v p ps e first later = found_by k v p ps (same k p.0) refl e first later

found_past : (k : Datum) (p : Datum × Datum) (ps : Dict) → same k p.0 ≡ false → found k (p ∷ ps) ≡ found k ps
found_past k p ps t = ap (λ (b : Bool). cond b (Some p.1) (found k ps)) t

-- a key that is among the rest isn't the first one, which isn't there twice
apart_by : (k v : Datum) (p : Datum × Datum) (ps : Dict) (b : Bool) → same k p.0 ≡ b → found p.0 ps ≡ None → found k ps ≡ Some v → same k p.0 ≡ false
apart_by k v p ps true t once e = some_none v (sym once ∙ (ap (λ (j : Datum). found j ps) (sym (same-true k p.0 t)) ∙ e))
apart_by k v p ps false t once e = t

apart : (k v : Datum) (p : Datum × Datum) (ps : Dict) → found p.0 ps ≡ None → found k ps ≡ Some v → same k p.0 ≡ false
apart k v p ps once e = apart_by k v p ps (same k p.0) refl once e

-- each value that is found has a partner
abbrev pub HavePartners : Relates → Dict → Dict → Type 0
HavePartners r ps qs = (k v : Datum) → found k ps ≡ Some v → PartnerAlike r v (found k qs)

pub partners : (r : Relates) (ps qs : Dict) → PartnersAlike r ps qs → HavePartners r ps qs
partners r [] qs h k v e = some_none v e
partners r (p ∷ ps) qs h k v e =
    found_at {P = PartnerAlike r v (found k qs)} k v p ps e
    (λ t f. subst (λ (w : Datum). PartnerAlike r w (found k qs)) f (subst (λ (j : Datum). PartnerAlike r p.1 (found j qs)) (sym t) h.0))
    (λ t f. partners r ps qs h.1 k v f)

pub partners_all : (r : Relates) (ps qs : Dict) → HasNoKeyTwice ps → HavePartners r ps qs → PartnersAlike r ps qs
partners_all r [] qs d h = tt
partners_all r (p ∷ ps) qs d h =
    (h p.0 p.1 (found_first p ps), partners_all r ps qs d.1 (λ k v e. h k v (found_past k p ps (apart k v p ps d.0 e) ∙ e)))

-- taking out one key leaves the others
without_by : (k j : Datum) (q : Datum × Datum) (qs : Dict) (b : Bool) → same j q.0 ≡ b → same k j ≡ false → found k (without j qs) ≡ found k qs → found k (cond b qs (q ∷ without j qs)) ≡ found k (q ∷ qs)
without_by k j q qs true t n h = sym (found_past k q qs (ap (same k) (sym (same-true j q.0 t)) ∙ n))
without_by k j q qs false t n h = ap (λ (o : Option Datum). cond (same k q.0) (Some q.1) o) h

found_without : (k j : Datum) (qs : Dict) → same k j ≡ false → found k (without j qs) ≡ found k qs
found_without k j [] n = refl
found_without k j (q ∷ qs) n = without_by k j q qs (same j q.0) refl n (found_without k j qs n)

shorter_by : (j w : Datum) (q : Datum × Datum) (qs : Dict) (b : Bool) → cond b (Some q.1) (found j qs) ≡ Some w → (found j qs ≡ Some w → length qs ≡ suc (length (without j qs)))
    → length (q ∷ qs) ≡ suc (length (cond b qs (q ∷ without j qs)))
shorter_by j w q qs true e h = refl
shorter_by j w q qs false e h = ap suc (h e)

shorter : (j w : Datum) (qs : Dict) → found j qs ≡ Some w → length qs ≡ suc (length (without j qs))
shorter j w [] e = some_none w e
shorter j w (q ∷ qs) e = shorter_by j w q qs (same j q.0) e (shorter j w qs)

abbrev Flipped : Relates → Relates
Flipped r v w = r w v

partner_there : (r : Relates) (v : Datum) (o : Option Datum) → PartnerAlike r v o → (w : Datum) × (o ≡ Some w) × r v w
partner_there r v None h = absurd h
partner_there r v (Some w) h = (w, refl, h)

partner_is : (r : Relates) (v w : Datum) (o : Option Datum) → o ≡ Some w → r v w → PartnerAlike r v o
partner_is r v w o e h = subst (λ (z : Option Datum). PartnerAlike r v z) (sym e) h

-- a dict that has no more keys than one whose keys all are in it has the same keys
pub flipped : (r : Relates) (ps qs : Dict) → HasNoKeyTwice ps → HavePartners r ps qs → length qs ≤ length ps → HavePartners (Flipped r) qs ps
flipped r [] [] d h n k w e = some_none w e
flipped r [] (q ∷ qs) d h n k w e = absurd (omega arith)
flipped r (p ∷ ps) qs d h n k w e =
    let first = partner_there r p.1 (found p.0 qs) (h p.0 p.1 (found_first p ps)) in
    flipped_by r p ps qs d h first.0 first.1 first.2 (omega (arith, shorter p.0 first.0 qs first.1, n)) (flipped r ps (without p.0 qs) d.1) k w e (same k p.0) refl
  where
    flipped_by : (r : Relates) (p : Datum × Datum) (ps qs : Dict) → HasNoKeyTwice (p ∷ ps) → HavePartners r (p ∷ ps) qs → (u : Datum) → found p.0 qs ≡ Some u → r p.1 u
        → length (without p.0 qs) ≤ length ps → (HavePartners r ps (without p.0 qs) → length (without p.0 qs) ≤ length ps → HavePartners (Flipped r) (without p.0 qs) ps)
        → (k w : Datum) → found k qs ≡ Some w → (b : Bool) → same k p.0 ≡ b → PartnerAlike (Flipped r) w (found k (p ∷ ps))
    flipped_by r p ps qs d h u f g n rest k w e true t =
        let at : k ≡ p.0 = same-true k p.0 t in
        let is : u ≡ w = some_same u w (sym f ∙ (ap (λ (j : Datum). found j qs) (sym at) ∙ e)) in
        partner_is (Flipped r) w p.1 (found k (p ∷ ps)) (ap (λ (j : Datum). found j (p ∷ ps)) at ∙ found_first p ps) (subst (λ (z : Datum). r p.1 z) is g)
    flipped_by r p ps qs d h u f g n rest k w e false t =
        let others : HavePartners r ps (without p.0 qs) =
        λ j v i. let past : same j p.0 ≡ false = apart j v p ps d.0 i in
        subst (λ (o : Option Datum). PartnerAlike r v o) (sym (found_without j p.0 qs past)) (h j v (found_past j p ps past ∙ i)) in
        subst (λ (o : Option Datum). PartnerAlike (Flipped r) w o) (sym (found_past k p ps t)) (rest others n k w (found_without k p.0 qs t ∙ e))
