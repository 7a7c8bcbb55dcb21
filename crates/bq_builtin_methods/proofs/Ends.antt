-- What a dict holds after `update` by another one.
use Rattle.std.proofs.Common.{◌≡◌, ◌∙◌, sym, refl, ap, ℕ, zero, suc, ◌==◌, Bool, true, false, cond, List, [], ◌∷◌, ◌++◌, set, slice_get, Some, Result, Ok, Err}
use Rattle.bq_base.specs.declared.fault.EvalFault.{EvalFault}
use Rattle.bq_base.specs.declared.fault.EvalFault.TheVariants.{Frozen, Iterating}
use Rattle.bq_value.specs.Datum.{Datum, none, string, cell}
use Rattle.bq_value.specs.Contents.{Contents, pairs}
use Rattle.bq_value.specs.Cells.{content_at, cell_of, module_at}
use Rattle.bq_value.specs.Pairs.{put}
use Rattle.bq_builtin_machine.specs.State.{State}
use Rattle.bq_builtin_machine.specs.Action.{Run, Action, done, stopped, following, given, pure, stop, ◌>>=◌, ◌>>◌}
use Rattle.bq_builtin_machine.specs.Args.{Passed}
use Rattle.bq_builtin_machine.specs.Binding.{bind, take_all_named, take_named, take_keyword, BoundView}
use Rattle.bq_builtin_machine.specs.Cells.{Change, changing, can_change, may_change, is_walked, content, or_wrong, put_content, with_content}
use Rattle.bq_builtin_machine.specs.Answer.{and_then}
use Rattle.bq_builtin_operators.specs.Union.{put_all}
use Rattle.bq_builtin_operators.specs.InPlace.{dict_united}
use Rattle.bq_builtin_methods.specs.PairsGiven.{Pairs, GivenView, pairs_signature, pairs_given, read, read_by, read_optional, first_value, nothing_read, all_pairs}
use Rattle.bq_builtin_methods.specs.Dict.{update}
use Rattle.bq_builtin_methods.proofs.Cases.{pairs_of_content}

set_there : (cs : List Contents) (number : ℕ) (c d : Contents) → slice_get cs number ≡ Some c → slice_get (set cs number d) number ≡ Some d
set_there [] number c d h = absurd (cc)
set_there (x ∷ cs) zero c d h = refl
set_there (x ∷ cs) (suc number) c d h = set_there cs number c d h

own_there : (home number : ℕ) (s : State) (c d : Contents) → (home == s.store.own) ≡ true → content_at s.store home number ≡ Some c → content_at (with_content s number d).store home number ≡ Some d
unfolding content_at
own_there home number s c d own at =
    let there : slice_get s.store.cells number ≡ Some c = ap (λ b. cond b (slice_get s.store.cells number) (cell_of number (module_at home s.store.loaded))) (sym own) ∙ at in
    ap (λ b. cond b (slice_get (set s.store.cells number d) number) (cell_of number (module_at home s.store.loaded))) own ∙ set_there s.store.cells number c d there

abbrev answer : {A : Type 0} → A → Contents → Result (A × Contents) EvalFault
answer a c = Ok (a, c)

-- what is left to do with the content
abbrev after : {A : Type 0} → ℕ → Result (A × Contents) EvalFault → Action State A
after number r = given r >>= λ p. put_content number p.1 >> pure p.0

-- how a change ends that wasn't refused
pub record Changed {A : Type 0} (home number : ℕ) (f : Change A) (c : Contents) (a : A) (t : State) : Type 0 where
  pub now : Contents
  pub by : f c ≡ Ok (a, now)
  pub there : content_at t.store home number ≡ Some now

run_done : {A : Type 0} (a b : A) (s t : State) → done a s ≡ done b t → (a ≡ b) × (s ≡ t)
run_done a b s t e = (cc, cc)

changed_by : {A : Type 0} (home number : ℕ) (f : Change A) (s t : State) (c : Contents) (a : A) (r : Result (A × Contents) EvalFault) → f c ≡ r → (home == s.store.own) ≡ true → content_at s.store home number ≡ Some c → after number r s ≡ done a t → Changed home number f c a t
changed_by home number f s t c a (Ok p) is own at e =
    let ends = run_done p.0 a (with_content s number p.1) t e in
    record {
      now = p.1;
      by = is ∙ ap (λ b. answer b p.1) ends.0;
      there = ap (λ (u : State). content_at u.store home number) (sym ends.1) ∙ own_there home number s c p.1 own at;
    }
changed_by home number f s t c a (Err why) is own at e = absurd (cc)

allowed_by : {A : Type 0} (home number : ℕ) (f : Change A) (s t : State) (c : Contents) (a : A) (own walked : Bool) → (home == s.store.own) ≡ own → content_at s.store home number ≡ Some c
    → following (cond own (cond walked (stop Iterating s) (done (tt {0}) s)) (stop Frozen s)) (λ _ u. following (content home number u) (λ d. after number (f d))) ≡ done a t → Changed home number f c a t
unfolding content
allowed_by home number f s t c a true false own at e =
    changed_by home number f s t c a (f c) refl own at (ap (λ o. following (given (or_wrong o) s) (λ d. after number (f d))) (sym at) ∙ e)
allowed_by home number f s t c a true true own at e = absurd (cc)
allowed_by home number f s t c a false walked own at e = absurd (cc)

pub changed : {A : Type 0} (home number : ℕ) (f : Change A) (s t : State) (c : Contents) (a : A) → content_at s.store home number ≡ Some c → changing home number f s ≡ done a t → Changed home number f c a t
unfolding changing can_change may_change content
changed home number f s t c a at e =
    allowed_by home number f s t c a (home == s.store.own) (is_walked home number s.walks) refl at
    (ap (λ o. following (following (given (or_wrong o) s) (λ _. may_change home number)) (λ _ u. following (content home number u) (λ d. after number (f d)))) (sym at) ∙ e)

bound_alone : (v : Datum) → bind pairs_signature (record { positional = v ∷ []; named = [] }) ≡ Ok (record { values = Some v ∷ []; rest = []; keywords = [] })
unfolding bind take_all_named
bound_alone v = refl

bound_beside : (v w : Datum) (name : List ℕ) → bind pairs_signature (record { positional = v ∷ []; named = (name, w) ∷ [] }) ≡ Ok (record { values = Some v ∷ []; rest = []; keywords = (string name, w) ∷ [] })
unfolding bind take_all_named take_named take_keyword
bound_beside v w name = refl

-- the pairs of a dict are given as they are
given_dict : (other place : ℕ) (args : Passed) (qs ks : Pairs) (s : State) → bind pairs_signature args ≡ Ok (record { values = Some (cell other place) ∷ []; rest = []; keywords = ks }) → content_at s.store other place ≡ Some (pairs qs)
    → pairs_given args s ≡ done (record { keyed = qs; unkeyed = []; all_have_two = true; keywords = ks }) s
unfolding pairs_given read
given_dict other place args qs ks s bound at =
    ap (λ r. following (given r s) (λ (b : BoundView). read_optional (first_value b.values) (nothing_read b.keywords))) bound
    ∙ ap (λ o. read_by (pairs_of_content o) (cell other place) (nothing_read ks) s) at

united_by : (ps qs : Pairs) (b : Bool) (a : Unit {0}) (c : Contents) (why : EvalFault) → and_then (cond b (Ok ps) (Err why)) (λ rs. answer (tt {0}) (pairs rs)) ≡ answer a c → c ≡ pairs ps
united_by ps qs true a c why e =
    let is : ◌≡◌ {A = Unit {0} × Contents} (tt, pairs ps) (a, c) = cc in
    sym (ap (λ r. r.1) is)
united_by ps qs false a c why e = absurd (cc)

ended_by : {A : Type 0} (r : Run State A) (v : Datum) (t : State) → following r (λ _. pure none) ≡ done v t → (a : A) × (r ≡ done a t)
ended_by (done a s) v t e = (a, ap (λ u. done a u) (run_done none v s t e).1)
ended_by (stopped why) v t e = absurd (cc)

stays_by : {A : Type 0} (own walked : Bool) (s t : State) (next : Action State A) (v : A) → following (cond own (cond walked (stop Iterating s) (done (tt {0}) s)) (stop Frozen s)) (λ _. next) ≡ done v t → next s ≡ done v t
stays_by true false s t next v e = e
stays_by true true s t next v e = absurd (cc)
stays_by false walked s t next v e = absurd (cc)

stays : {A : Type 0} (home number : ℕ) (s t : State) (next : Action State A) (v : A) → following (may_change home number s) (λ _. next) ≡ done v t → next s ≡ done v t
unfolding may_change
stays home number s t next v e = stays_by (home == s.store.own) (is_walked home number s.walks) s t next v e

-- `update` by pairs whose keys are made
put_by : (home number : ℕ) (ps qs ks : Pairs) (v : Datum) (s t : State) → content_at s.store home number ≡ Some (pairs ps)
    → following (all_pairs (record { keyed = qs; unkeyed = []; all_have_two = true; keywords = ks }) s) (λ rs. changing home number (dict_united rs) >> pure none) ≡ done v t
    → content_at t.store home number ≡ Some (pairs (put_all ps (qs ++ ks)))
unfolding all_pairs dict_united
put_by home number ps qs ks v s t at e =
    let end = ended_by (changing home number (dict_united (qs ++ ks)) s) v t e in
    let now = changed home number (dict_united (qs ++ ks)) s t (pairs ps) end.0 at end.1 in
    let is : now.now ≡ pairs (put_all ps (qs ++ ks)) = united_by (put_all ps (qs ++ ks)) qs _ end.0 now.now _ now.by in
    now.there ∙ ap (λ c. Some c) is

updated : (home number other place : ℕ) (args : Passed) (ps qs ks : Pairs) (v : Datum) (s t : State) → bind pairs_signature args ≡ Ok (record { values = Some (cell other place) ∷ []; rest = []; keywords = ks })
    → content_at s.store home number ≡ Some (pairs ps) → content_at s.store other place ≡ Some (pairs qs) → update home number args s ≡ done v t → content_at t.store home number ≡ Some (pairs (put_all ps (qs ++ ks)))
unfolding update
updated home number other place args ps qs ks v s t bound at more e =
    let g : GivenView = record { keyed = qs; unkeyed = []; all_have_two = true; keywords = ks } in
    put_by home number ps qs ks v s t at
    (stays home number s t (all_pairs g >>= λ rs. changing home number (dict_united rs) >> pure none) v
    (ap (λ r. following r (λ h. may_change home number >> (all_pairs h >>= λ rs. changing home number (dict_united rs) >> pure none))) (sym (given_dict other place args qs ks s bound more)) ∙ e))

append_nothing : (ps : Pairs) → ps ++ [] ≡ ps
append_nothing [] = refl
append_nothing (p ∷ ps) = ap (λ qs. p ∷ qs) (append_nothing ps)

put_last : (ps qs : Pairs) (k v : Datum) → put_all ps (qs ++ (k, v) ∷ []) ≡ put k v (put_all ps qs)
put_last ps [] k v = refl
put_last ps (q ∷ qs) k v = put_last (put q.0 q.1 ps) qs k v

pub updated_by_dict : (home number other place : ℕ) (ps qs : Pairs) (v : Datum) (s t : State) → content_at s.store home number ≡ Some (pairs ps) → content_at s.store other place ≡ Some (pairs qs)
    → update home number (record { positional = cell other place ∷ []; named = [] }) s ≡ done v t → content_at t.store home number ≡ Some (pairs (put_all ps qs))
updated_by_dict home number other place ps qs v s t at more e =
    updated home number other place (record { positional = cell other place ∷ []; named = [] }) ps qs [] v s t (bound_alone (cell other place)) at more e
    ∙ ap (λ rs. Some (pairs (put_all ps rs))) (append_nothing qs)

pub updated_by_name : (home number other place : ℕ) (name : List ℕ) (w : Datum) (ps qs : Pairs) (v : Datum) (s t : State) → content_at s.store home number ≡ Some (pairs ps) → content_at s.store other place ≡ Some (pairs qs)
    → update home number (record { positional = cell other place ∷ []; named = (name, w) ∷ [] }) s ≡ done v t → content_at t.store home number ≡ Some (pairs (put (string name) w (put_all ps qs)))
updated_by_name home number other place name w ps qs v s t at more e =
    updated home number other place (record { positional = cell other place ∷ []; named = (name, w) ∷ [] }) ps qs ((string name, w) ∷ []) v s t (bound_beside (cell other place) w name) at more e
    ∙ ap (λ rs. Some (pairs rs)) (put_last ps qs (string name) w)
