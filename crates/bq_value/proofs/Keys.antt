-- A value that the walk goes through may be a key, and of a value that may be one it never says that it may not.
use Rattle.std.proofs.Common.{◌≡◌, ◌≢◌, ℕ, zero, suc, Ok, Err, refl, sym, ap}
use Rattle.bq_base.specs.declared.fault.EvalFault.TheVariants.{Unhashable}
use Rattle.bq_value.specs.Datum.{Datum, none, boolean, int, string, tuple, range, cell, function, built_in, rule_function, attribute, Data, end, datum, list_of}
use Rattle.bq_value.specs.Key.{IsKey, AreKeys}
use Rattle.bq_value.specs.Looked.{Looked}
use Rattle.bq_value.specs.KeyWalk.{Walked, and_walk, all_walked, parts_walked, walked_at, keyed}

module _ (walk : ℕ → Datum → Walked) (h : (n m : ℕ) (v : Datum) → walk n v ≡ Ok m → IsKey v) where
  both : (v : Datum) (vs : Data) (m : ℕ) (r : Walked) → ((k : ℕ) → r ≡ Ok k → IsKey v) → ((k : ℕ) → all_walked walk k (list_of vs) ≡ Ok m → AreKeys vs)
      → and_walk r (λ k. all_walked walk k (list_of vs)) ≡ Ok m → IsKey v × AreKeys vs
  both v vs m (Ok k) first rest e = (first k refl, rest k e)
  both v vs m (Err f) first rest e = cc

  all_keys : (vs : Data) (n m : ℕ) → all_walked walk n (list_of vs) ≡ Ok m → AreKeys vs
  all_keys end n m e = tt
  all_keys (datum v vs) n m e = both v vs m (walk n v) (λ k q. h n k v q) (λ k q. all_keys vs k m q) e

  parts_key : (v : Datum) (n m : ℕ) → parts_walked walk n v ≡ Ok m → IsKey v
  parts_key none n m e = tt
  parts_key (boolean b) n m e = tt
  parts_key (int i) n m e = tt
  parts_key (string s) n m e = tt
  parts_key (tuple vs) n m e = all_keys vs n m e
  parts_key (range a b c) n m e = cc
  parts_key (cell a b) n m e = cc
  parts_key (function a b s vs) n m e = cc
  parts_key (built_in s) n m e = cc
  parts_key (rule_function f) n m e = cc
  parts_key (attribute a) n m e = cc

pub walked_key : (l n m : ℕ) (v : Datum) → walked_at l n v ≡ Ok m → IsKey v
walked_key zero zero m v e = cc
walked_key zero (suc n) m v e = cc
walked_key (suc l) zero m v e = cc
walked_key (suc l) (suc n) m v e = parts_key (walked_at l) (walked_key l) v n m e

module _ (walk : ℕ → Datum → Walked) (h : (n : ℕ) (v : Datum) → IsKey v → walk n v ≢ Err Unhashable) where
  never : (r : Walked) (next : ℕ → Walked) → r ≢ Err Unhashable → ((k : ℕ) → next k ≢ Err Unhashable) → and_walk r next ≢ Err Unhashable
  never (Ok k) next first rest = rest k
  never (Err f) next first rest = first

  all_never : (vs : Data) (n : ℕ) → AreKeys vs → all_walked walk n (list_of vs) ≢ Err Unhashable
  all_never end n ks = λ e. cc
  all_never (datum v vs) n ks = never (walk n v) (λ k. all_walked walk k (list_of vs)) (h n v ks.0) (λ k. all_never vs k ks.1)

  parts_never : (v : Datum) (n : ℕ) → IsKey v → parts_walked walk n v ≢ Err Unhashable
  parts_never none n ks = λ e. cc
  parts_never (boolean b) n ks = λ e. cc
  parts_never (int i) n ks = λ e. cc
  parts_never (string s) n ks = λ e. cc
  parts_never (tuple vs) n ks = all_never vs n ks
  parts_never (range a b c) n ks = absurd ks
  parts_never (cell a b) n ks = absurd ks
  parts_never (function a b s vs) n ks = absurd ks
  parts_never (built_in s) n ks = absurd ks
  parts_never (rule_function f) n ks = absurd ks
  parts_never (attribute a) n ks = absurd ks

walked_never : (l n : ℕ) (v : Datum) → IsKey v → walked_at l n v ≢ Err Unhashable
walked_never zero zero v ks = λ e. cc
walked_never zero (suc n) v ks = λ e. cc
walked_never (suc l) zero v ks = λ e. cc
walked_never (suc l) (suc n) v ks = parts_never (walked_at l) (walked_never l) v n ks

-- the key of an answer, and its steps
abbrev key_in : Datum → Looked Datum → Datum
key_in other (Ok p) = p.0
key_in other (Err kind) = other

abbrev walk_in : Looked Datum → Walked
walk_in (Ok p) = Ok p.1
walk_in (Err kind) = Err kind

value_by : (v k : Datum) (m : ℕ) (w : Walked) → keyed v w ≡ Ok (k, m) → k ≡ v
value_by v k m (Ok n) e = sym (ap (key_in v) e)
value_by v k m (Err f) e = cc

kind_by : (v k : Datum) (m : ℕ) (w : Walked) → ((n : ℕ) → w ≡ Ok n → IsKey v) → keyed v w ≡ Ok (k, m) → IsKey v
kind_by v k m (Ok n) h e = h n refl
kind_by v k m (Err f) h e = cc

never_by : (v : Datum) (w : Walked) → w ≢ Err Unhashable → keyed v w ≢ Err Unhashable
never_by v (Ok n) h = λ e. cc
never_by v (Err f) h = λ e. h (ap walk_in e)

pub key_value : (l : ℕ) (v k : Datum) (n m : ℕ) → keyed v (walked_at l n v) ≡ Ok (k, m) → k ≡ v
key_value l v k n m e = value_by v k m (walked_at l n v) e

pub key_kind : (l : ℕ) (v k : Datum) (n m : ℕ) → keyed v (walked_at l n v) ≡ Ok (k, m) → IsKey v
key_kind l v k n m e = kind_by v k m (walked_at l n v) (λ j q. walked_key l n j v q) e

pub key_never : (l : ℕ) (v : Datum) (n : ℕ) → IsKey v → keyed v (walked_at l n v) ≢ Err Unhashable
key_never l v n ks = never_by v (walked_at l n v) (walked_never l n v ks)
