-- For crates above: a claim, fetches, posts and a finish keep the conditions of the calls that follow (specs/Conditions.antt).
use Rattle.std.proofs.Common.{◌≡◌, ℕ, ◌+◌, ◌<◌, List, [], ◌∷◌, ◌++◌, length, take, get_or, sym, refl, ap, ◌∙◌, subst, inl, inr, ⊎_elim, arith}
use Rattle.bq_board_plan.specs.Counts.{times, Has}
use Rattle.bq_board_plan.specs.Graph.{Loads}
use Rattle.bq_board_plan.specs.Plan.{source, Into, IsOut}
use Rattle.bq_board.specs.Steps.{with_missed, with_claimed, with_taken, with_opened, with_posted, with_fetched, with_finished, IsNew}
use Rattle.bq_board.specs.Claims.{Answered}
use Rattle.bq_board.specs.Conditions.{Owes, Holds, KeepsAt, KeepsAll, KeepsOthers, HoldsIfWon, Collects, Delivers}
use Rattle.bq_board.specs.declared.view.View.{View}
use Rattle.bq_board.specs.declared.claim.Claim.{Claim}
use Rattle.bq_board.specs.declared.claim.Claim.TheVariants.{Won, Taken, Waiting}
use Rattle.bq_board_plan.proofs.Sums.{times_same, Has_more, Has_snoc}
use Rattle.bq_board_plan.proofs.Edges.{into_once}
use Rattle.bq_board_plan.proofs.Settling.{times_take_more, times_take-le}

-- a claim finishes nothing
pub finished_kept : {B : Type 0} (v w : View B) (m : ℕ) (r : Claim) → Answered v m r w → w.finished ≡ v.finished
finished_kept v w m Won t = ap (λ u. u.finished) t.2.0 ∙ ap (λ u. u.finished) t.1.1
finished_kept v w m Taken t = ap (λ u. u.finished) t.2 ∙ ap (λ u. u.finished) t.1.1
finished_kept v w m (Waiting e) t = ap (λ u. u.finished) t.2.0 ∙ ap (λ u. u.finished) t.1.1

module _ {B : Type 0} (p : Loads) where
  -- a view that noted only more of what it found
  keeps_noted : (v : View B) (seen missed taken : List ℕ) → KeepsAll p v (record v { seen = seen; missed = missed; taken = taken })
  keeps_noted v seen missed taken k = (
    (λ h. let o = h.owes in record { owes = record { claimed = o.claimed; finished = o.finished; posted = o.posted }; fetched = h.fetched }),
    (λ o. record { claimed = o.claimed; finished = o.finished; posted = o.posted }),
  )

  keeps_won : (v : View B) (m : ℕ) (seen : List ℕ) → KeepsAll p v (with_claimed (record v { seen = seen }) m)
  keeps_won v m seen k = (
    (λ h. let o = h.owes in record { owes = record { claimed = Has_more v.claimed m k o.claimed; finished = o.finished; posted = o.posted }; fetched = h.fetched }),
    (λ o. record { claimed = Has_more v.claimed m k o.claimed; finished = o.finished; posted = o.posted }),
  )

  holds_won : (v : View B) (m : ℕ) → v.plan ≡ p → IsNew v m → Holds p (with_claimed v m) m
  holds_won v m is new = record {
    owes = record {
      claimed = omega (arith, times_same m v.claimed);
      finished = new.1;
      posted = subst (λ (q : Loads). (e : ℕ) → source q e ≡ m → ¬ Has v.posted e) is new.2;
    };
    fetched = subst (λ (q : Loads). (e : ℕ) → Into q m e → ¬ Has v.fetched e) is new.3;
  }

  -- a claim: what was won is held, and what was held stays so
  pub claims : (v w : View B) (m : ℕ) (r : Claim) → v.plan ≡ p → Answered v m r w → HoldsIfWon p w m r × KeepsAll p v w
  claims v w m Won is t = let won : w ≡ with_claimed (record v { seen = v.seen ++ t.1.0 }) m = t.2.0 ∙ ap (λ u. with_claimed u m) t.1.1 in (
    subst (λ (u : View B). Holds p u m) (sym t.2.0) (holds_won t.0 m (ap (λ u. u.plan) t.1.1 ∙ is) t.2.3),
    subst (KeepsAll p v) (sym won) (keeps_won v m (v.seen ++ t.1.0)),
  )
  claims v w m Taken is t = let lost : w ≡ with_taken (record v { seen = v.seen ++ t.1.0 }) m = t.2 ∙ ap (λ u. with_taken u m) t.1.1 in
      (tt, subst (KeepsAll p v) (sym lost) (keeps_noted v (v.seen ++ t.1.0) v.missed (v.taken ++ m ∷ [])))
  claims v w m (Waiting e) is t = let late : w ≡ with_missed (record v { seen = v.seen ++ t.1.0 }) e = t.2.0 ∙ ap (λ u. with_missed u e) t.1.1 in
      (tt, subst (KeepsAll p v) (sym late) (keeps_noted v (v.seen ++ t.1.0) (v.missed ++ e ∷ []) v.taken))

  -- fetches, edge by edge
  pub collects_none : (v : View B) (m e : ℕ) → Holds p v m → Collects p v m e v
  collects_none v m e h = record { view = refl; rest = λ d into low. h.fetched d into; fresh = λ d had. inl had }

  pub collects_more : (v u w : View B) (m e : ℕ) → Collects p v m e u → Into p m e → w ≡ with_fetched u e → Collects p v m (e + 1) w
  collects_more v u w m e c into is = subst (Collects p v m (e + 1)) (sym is) record {
    view = ap (λ (x : View B). with_fetched x e) c.view;
    rest = λ d i low had. ⊎_elim (λ old. c.rest d i (omega arith) old) (λ same. absurd (omega arith)) (Has_snoc u.fetched e d had);
    fresh = λ d had. ⊎_elim (λ old. c.fresh d old) (λ same. inr (subst (Into p m) same into)) (Has_snoc u.fetched e d had);
  }

  -- the next edge into a module that was won may be fetched
  pub may_fetch : (v u : View B) (m e : ℕ) → Collects p v m e u → Holds p v m → Into p m e → ((x : ℕ) × Has u.claimed x × Into p x e) × (¬ Has u.fetched e)
  may_fetch v u m e c h into = ((m, subst (λ (x : View B). Has x.claimed m) (sym c.view) h.owes.claimed, into), c.rest e into (omega arith))

  -- all are fetched: the posts are owed
  pub collects_all : (v u : View B) (m e : ℕ) → Collects p v m e u → Holds p v m → Owes p u m × KeepsOthers p v m u
  collects_all v u m e c h =
      let owes : (k : ℕ) → Owes p v k → Owes p (record v { fetched = u.fetched }) k = λ k o. record { claimed = o.claimed; finished = o.finished; posted = o.posted } in (
        subst (λ (x : View B). Owes p x m) (sym c.view) (owes m h.owes),
        (λ k ne. subst (λ (x : View B). KeepsAt p v x k) (sym c.view) (
          (λ g. record { owes = owes k g.owes; fetched = λ d into had. ⊎_elim (λ old. g.fetched d into old) (λ mine. ne (into_once p k m d into mine)) (c.fresh d had) }),
          owes k,
        )),
      )

  -- posts, edge by edge
  pub delivers_none : (v : View B) (es : List ℕ) → Delivers v es 0 v
  delivers_none v es = record { view = refl; all = λ d had. absurd (omega arith); fresh = λ d had. inl had }

  -- the edge at i isn't posted yet
  pub not_yet_posted : (v u : View B) (m : ℕ) (es : List ℕ) (i : ℕ) → Delivers v es i u → Owes p v m → IsOut p m es → i < length es → ¬ Has u.posted (get_or es i 0)
  not_yet_posted v u m es i d o out h had = let e : ℕ = get_or es i 0 in let here : Has es e = omega (arith, times_take_more es i e h, times_same e (take i es), times_take-le e (i + 1) es) in
      ⊎_elim (λ old. o.posted e (out.leaves e here).1 old)
      (λ twice. absurd (omega (arith, out.once e, times_take_more es i e h, times_same e (take i es), times_take-le e (i + 1) es))) (d.fresh e had)

  pub delivers_more : (v u w : View B) (es : List ℕ) (i : ℕ) → Delivers v es i u → i < length es → w ≡ with_posted (with_opened u (get_or es i 0)) (get_or es i 0) → Delivers v es (i + 1) w
  delivers_more v u w es i d h is = let e : ℕ = get_or es i 0 in subst (Delivers v es (i + 1)) (sym is) record {
    view = ap (λ (x : View B). with_posted (with_opened x e) e) d.view;
    all = λ x had. ⊎_elim (λ old. Has_more u.posted e x (d.all x old)) (λ same. omega (arith, ap (λ y. times y (u.posted ++ e ∷ [])) same, times_same e u.posted))
        (Has_snoc (take i es) e x (omega (arith, times_take_more es i x h)));
    fresh = λ x had. ⊎_elim (λ old. ⊎_elim (λ was. inl was) (λ more. inr (omega (arith, times_take_more es i x h, Has_more (take i es) e x more))) (d.fresh x old))
        (λ same. inr (omega (arith, times_take_more es i x h, ap (λ y. times y (take i es ++ e ∷ [])) same, times_same e (take i es)))) (Has_snoc u.posted e x had);
  }

  -- all are posted, and the module is finished
  pub delivers_all : (v u w : View B) (m : ℕ) (es : List ℕ) (i : ℕ) → Delivers v es i u → IsOut p m es → w ≡ with_finished u m → KeepsOthers p v m w
  delivers_all v u w m es i d out is k ne =
      let now : w ≡ with_finished (record v { opened = u.opened; posted = u.posted }) m = is ∙ ap (λ x. with_finished x m) d.view in
      let owes : Owes p v k → Owes p (with_finished (record v { opened = u.opened; posted = u.posted }) m) k = λ o. record {
        claimed = o.claimed;
        finished = λ had. ⊎_elim (λ old. o.finished old) (λ same. ne (sym same)) (Has_snoc v.finished m k had);
        posted = λ e from had. ⊎_elim (λ old. o.posted e from old)
            (λ mine. ne (sym from ∙ (out.leaves e (omega (arith, times_take-le e i es))).1)) (d.fresh e had);
      } in
      subst (λ (x : View B). KeepsAt p v x k) (sym now) ((λ g. record { owes = owes g.owes; fetched = g.fetched }), owes)
