-- The methods of dicts, and assignments to a key, are refused in their orders.
use Rattle.std.proofs.Common.{◌≡◌, ◌∙◌, ap, refl, sym, subst, ℕ, List, [], ◌∷◌, Option, Some, None, Result, Ok, Err}
use Rattle.bq_base.specs.declared.fault.EvalFault.{EvalFault}
use Rattle.bq_value.specs.Contents.{pairs}
use Rattle.bq_value.specs.Datum.{Datum, none, cell, or_none}
use Rattle.bq_value.specs.KeyWalk.{walked_at, keyed}
use Rattle.bq_value.specs.Looked.{Looked, max_levels}
use Rattle.bq_builtin_machine.specs.Action.{Action, Run, done, stopped, following, given, look, pure, ◌>>=◌, ◌>>◌}
use Rattle.bq_builtin_machine.specs.Answer.{and_then}
use Rattle.bq_builtin_machine.specs.Args.{Passed}
use Rattle.bq_builtin_machine.specs.Binding.{bind}
use Rattle.bq_builtin_machine.specs.Cells.{Change, changing, content, may_change}
use Rattle.bq_builtin_machine.specs.Iteration.{elements_in, elements}
use Rattle.bq_builtin_machine.specs.Machine.{with_steps, after_walk, key}
use Rattle.bq_builtin_machine.specs.State.{State}
use Rattle.bq_builtin_operators.specs.InPlace.{dict_united, pair_put, set_item, set_index}
use Rattle.bq_builtin_methods.specs.Arguments.{no_argument, one_or_two}
use Rattle.bq_builtin_methods.specs.Dict as dict
use Rattle.bq_builtin_laws.specs.Collections.DictCalls as call
use Rattle.bq_builtin_methods.specs.Dict.{DictChange, on_pairs, emptied, taken_out, first_out, with_default, key_to_change, pairs_in}
use Rattle.bq_builtin_methods.specs.PairsGiven.{Pairs, GivenView, pairs_signature, first_value, nothing_read, dict_of, take_elements, read_by, read, read_optional, pairs_given, all_pairs}
use Rattle.bq_builtin_machine.specs.Refusals.{Check, fault_of, fault_in, fault_after, first_fault, IsRefusedForFirst}
use Rattle.bq_builtin_laws.specs.Collections.Laws.{IsDict}
use Rattle.bq_builtin_laws.specs.Collections.Orders.{frozen, walked, no_key, clearing, taking_out, taking_first, setting_default, updating, setting_pair}
use Rattle.bq_builtin_laws.proofs.Collections.Changing.{changing_refused, before_refused}
use Rattle.bq_builtin_methods.proofs.Cases.{as_pairs}

-- ---- arguments

given_refused : {A B : Type 0} (r : Result A EvalFault) (why : EvalFault) (next : A → Action State B) (s : State) → r ≡ Err why → fault_of ((given r >>= next) s) ≡ first_fault (Some why ∷ [])
given_refused (Ok a) why next s h = cc
given_refused (Err kind) why next s h = let same : kind ≡ why = cc in ap Some same

module _ (home number : ℕ) (args : List Datum) (why : EvalFault) (s : State) where
  pub no_pop : one_or_two args ≡ Err why → IsRefusedForFirst (dict.pop home number args s) (Some why ∷ [])
  unfolding dict.pop
  no_pop h = given_refused (one_or_two args) why _ s h

  pub no_popitem : no_argument args ≡ Err why → IsRefusedForFirst (call.popitem home number args s) (Some why ∷ [])
  unfolding dict.popitem
  no_popitem h = given_refused (and_then (no_argument args) (λ _. Ok first_out)) why _ s (ap (λ r. and_then r (λ _. Ok first_out)) h)

  pub no_setdefault : one_or_two args ≡ Err why → IsRefusedForFirst (dict.setdefault home number args s) (Some why ∷ [])
  unfolding dict.setdefault
  no_setdefault h = given_refused (one_or_two args) why _ s h

  pub no_clear : no_argument args ≡ Err why → IsRefusedForFirst (call.clear home number args s) (Some why ∷ [])
  unfolding dict.clear
  no_clear h = given_refused (and_then (no_argument args) (λ _. Ok emptied)) why _ s (ap (λ r. and_then r (λ _. Ok emptied)) h)

-- ---- what a change refuses

last : (a b c d : Check) → c ≡ d → first_fault (a ∷ b ∷ c ∷ []) ≡ first_fault (a ∷ b ∷ d ∷ [])
last a b c d e = ap (λ x. first_fault (a ∷ b ∷ x ∷ [])) e

pairs_refused : (r : Result (Datum × Pairs) EvalFault) → fault_in (as_pairs r) ≡ fault_in r
pairs_refused (Ok p) = refl
pairs_refused (Err kind) = refl

-- checks that come twice find nothing the second time
again_after : (a b k c : Check) → first_fault (a ∷ b ∷ first_fault (k ∷ a ∷ b ∷ c ∷ []) ∷ []) ≡ first_fault (a ∷ b ∷ k ∷ c ∷ [])
again_after (Some f) b k c = refl
again_after None (Some f) k c = refl
again_after None None (Some f) c = refl
again_after None None None (Some f) = refl
again_after None None None None = refl

module _ (home number : ℕ) (ps : Pairs) (s : State) (known : IsDict s home number ps) where
  changed : (f : DictChange) → fault_of (changing home number (on_pairs f) s) ≡ first_fault (frozen s home ∷ walked s home number ∷ fault_in (f ps) ∷ [])
  unfolding on_pairs
  changed f = changing_refused home number (on_pairs f) s (pairs ps) known ∙ last (frozen s home) (walked s home number) (fault_in (as_pairs (f ps))) (fault_in (f ps)) (pairs_refused (f ps))

  pub clear_refused : IsRefusedForFirst (call.clear home number [] s) (clearing s home number)
  unfolding dict.clear no_argument emptied
  clear_refused = changed emptied ∙ two (frozen s home) (walked s home number)
    where
      two : (a b : Check) → first_fault (a ∷ b ∷ None ∷ []) ≡ first_fault (a ∷ b ∷ [])
      two (Some k) b = refl
      two None (Some k) = refl
      two None None = refl

  pub popitem_refused : IsRefusedForFirst (call.popitem home number [] s) (taking_first s home number ps)
  unfolding dict.popitem no_argument
  popitem_refused = changed first_out

  -- a change by a key, which is made once it is known that there may be a change
  module _ {A : Type 0} (k : Datum) (f : Datum → Change A) where
    by_key : (l : Looked Datum)
        → fault_of (following (after_walk l s) (λ q. changing home number (f q))) ≡ first_fault (fault_of (after_walk l s) ∷ frozen s home ∷ walked s home number ∷ fault_after (after_walk l s) (λ q. fault_in (f q (pairs ps))) ∷ [])
    by_key (Ok r) = changing_refused home number (f r.0) (with_steps r.1 s) (pairs ps) known
    by_key (Err kind) = refl

    keyed_refused : fault_of ((may_change home number >> (key k >>= λ q. changing home number (f q))) s) ≡ first_fault (frozen s home ∷ walked s home number ∷ no_key s k ∷ fault_after (key k s) (λ q. fault_in (f q (pairs ps))) ∷ [])
    unfolding key
    keyed_refused =
        before_refused home number (key k >>= λ q. changing home number (f q)) s
        ∙ (last (frozen s home) (walked s home number) _ _ (by_key (keyed k (walked_at max_levels s.steps k)))
        ∙ again_after (frozen s home) (walked s home number) (no_key s k) (fault_after (key k s) (λ q. fault_in (f q (pairs ps)))))

  -- what may not be changed is refused, whatever comes first and then
  regrouped : {A B C : Type 0} (r : Run State A) (g : Action State B) (h : B → Action State C) → fault_of (following (following r (λ _. g)) h) ≡ fault_of (following r (λ _. g >>= h))
  regrouped (done x t) g h = refl
  regrouped (stopped why) g h = refl

  module _ (k : Datum) (f : Datum → DictChange) where
    changed_by_key : fault_of ((key_to_change home number k >>= λ q. changing home number (on_pairs (f q))) s) ≡ first_fault (frozen s home ∷ walked s home number ∷ no_key s k ∷ fault_after (key k s) (λ q. fault_in (f q ps)) ∷ [])
    unfolding key_to_change pairs_in content on_pairs
    changed_by_key =
        rw known
        (regrouped (may_change home number s) (key k) (λ q. changing home number (on_pairs (f q)))
        ∙ (keyed_refused k (λ q. on_pairs (f q)) ∙ of_pairs (key k s)))
      where
        of_pairs : (r : Run State Datum)
            → first_fault (frozen s home ∷ walked s home number ∷ fault_of r ∷ fault_after r (λ q. fault_in (as_pairs (f q ps))) ∷ []) ≡ first_fault (frozen s home ∷ walked s home number ∷ fault_of r ∷ fault_after r (λ q. fault_in (f q ps)) ∷ [])
        of_pairs (done q t) = ap (λ x. first_fault (frozen s home ∷ walked s home number ∷ None ∷ x ∷ [])) (pairs_refused (f q ps))
        of_pairs (stopped why) = refl

  pub pop_refused : (k : Datum) → IsRefusedForFirst (dict.pop home number (k ∷ []) s) (taking_out s home number ps k None)
  unfolding dict.pop one_or_two
  pop_refused k = changed_by_key k (λ q. taken_out q None)

  pub pop_or_refused : (k d : Datum) → IsRefusedForFirst (dict.pop home number (k ∷ d ∷ []) s) (taking_out s home number ps k (Some d))
  unfolding dict.pop one_or_two
  pop_or_refused k d = changed_by_key k (λ q. taken_out q (Some d))

  pub setdefault_refused : (k : Datum) (o : Option Datum) (args : List Datum) → one_or_two args ≡ Ok (k, o) → IsRefusedForFirst (dict.setdefault home number args s) (setting_default s home number ps k (or_none o))
  unfolding dict.setdefault
  setdefault_refused k o args h = rw h (changed_by_key k (λ q. with_default q (or_none o)))

  pub set_refused : (k v : Datum) → IsRefusedForFirst (set_index (cell home number) k v s) (setting_pair s home number ps k v)
  unfolding set_index set_item content
  set_refused k v = rw known (keyed_refused k (λ q. pair_put q v))

-- ---- `update`

-- the state is left as it was
abbrev IsStill : {A : Type 0} → State → Run State A → Type 0
IsStill s (done a t) = t ≡ s
IsStill s (stopped why) = Unit {0}

given_still : {A : Type 0} (r : Result A EvalFault) (s : State) → IsStill s (given r s)
given_still (Ok a) s = refl
given_still (Err kind) s = tt

then_still : {A B : Type 0} (s : State) (r : Run State A) (f : A → Action State B) → IsStill s r → ((a : A) → IsStill s (f a s)) → IsStill s (following r f)
then_still s (done a t) f e h = subst (λ u. IsStill s (f a u)) (sym e) (h a)
then_still s (stopped why) f e h = tt

read_still : (v : Datum) (g : GivenView) (s : State) → IsStill s (read v g s)
unfolding read elements
read_still v g s = by_dict (dict_of s.store v)
  where
    by_dict : (o : Option Pairs) → IsStill s (read_by o v g s)
    by_dict (Some ps) = refl
    by_dict None = then_still s (given (elements_in s.store v) s) (λ xs. look (λ t. take_elements t.store xs g)) (given_still (elements_in s.store v) s) (λ xs. given_still (take_elements s.store xs g) s)

optional_still : (o : Option Datum) (g : GivenView) (s : State) → IsStill s (read_optional o g s)
optional_still (Some v) g s = read_still v g s
optional_still None g s = refl

given_pairs_still : (args : Passed) (s : State) → IsStill s (pairs_given args s)
unfolding pairs_given
given_pairs_still args s =
    then_still s (given (bind pairs_signature args) s) (λ b. read_optional (first_value b.values) (nothing_read b.keywords)) (given_still (bind pairs_signature args) s) (λ b. optional_still (first_value b.values) (nothing_read b.keywords) s)

module _ (home number : ℕ) where
  abbrev united : List (Datum × Datum) → Action State (Unit {0})
  united ps = changing home number (dict_united ps)

  -- the answer `None` is refused for nothing
  no_answer : (r : Run State (Unit {0})) → fault_of (following r (λ u. pure none)) ≡ fault_of r
  no_answer (done u t) = refl
  no_answer (stopped why) = refl

  no_answers : (r : Run State (List (Datum × Datum))) → fault_of (following r (λ ps. united ps >> pure none)) ≡ fault_of (following r united)
  no_answers (done ps t) = no_answer (united ps t)
  no_answers (stopped why) = refl

  abbrev put_pairs : GivenView → Action State (Unit {0})
  put_pairs g = all_pairs g >>= united

  by_given : (s : State) (r : Run State GivenView) → IsStill s r
      → fault_of (following r (λ g. may_change home number >> (all_pairs g >>= λ ps. united ps >> pure none))) ≡ first_fault (fault_of r ∷ frozen s home ∷ walked s home number ∷ fault_after r (λ g. fault_of (put_pairs g s)) ∷ [])
  by_given s (stopped why) e = refl
  by_given s (done g t) e =
      subst (λ u. fault_of ((may_change home number >> (all_pairs g >>= λ ps. united ps >> pure none)) u) ≡ first_fault (frozen s home ∷ walked s home number ∷ fault_of (put_pairs g s) ∷ [])) (sym e)
      (before_refused home number (all_pairs g >>= λ ps. united ps >> pure none) s
      ∙ last (frozen s home) (walked s home number) _ (fault_of (put_pairs g s)) (no_answers (all_pairs g s)))

  pub update_refused : (args : Passed) (s : State) → IsRefusedForFirst (dict.update home number args s) (updating s home number args)
  unfolding dict.update
  update_refused args s = by_given s (pairs_given args s) (given_pairs_still args s)
