-- The text of a key in one piece, and that `repr` gives it.
use Rattle.std.proofs.Common.{◌≡◌, ◌∙◌, ◌+◌, ℕ, zero, suc, Bool, true, false, cond, List, [], ◌∷◌, ◌++◌, length, Some, None, Ok, Err, nat_le, refl, sym, ap, arith}
use Rattle.std.proofs.lemmas.Bool.{ne_eqb}
use Rattle.std.specs.Prelude.{codes}
use Rattle.std.specs.Fmt.{signed_decimal}
use Rattle.bq_source.specs.StringLiteral.{quoted}
use Rattle.bq_value.specs.Datum.{Datum, none, boolean, int, string, tuple, Data, end, datum, list_of}
use Rattle.bq_value.specs.Cells.{StoreView}
use Rattle.bq_value.specs.Looked.{Looked, max_levels}
use Rattle.bq_value_text.specs.Laws.{IsKeyInRange, AreKeysInRange}
use Rattle.bq_value_text.specs.Page.{PageView, written, max_text}
use Rattle.bq_value_text.specs.Leaf.{leaf_written}
use Rattle.bq_value_text.specs.Shown.{Shows, and_then, all_shown, closed, list_shown, tuple_end, parts_shown, shown_at, repr_shown, finished_by, repr_of}
use Rattle.bq_value_text.proofs.Pages.{written_more}

-- `inside` is what comes after a tuple's opening bracket, `behind_first` what comes after its first value, and `behind` what
-- comes after a later one
abbrev mutual
  pub key_text : Datum → List ℕ
  key_text none = codes "None"
  key_text (boolean true) = codes "True"
  key_text (boolean false) = codes "False"
  key_text (int i) = signed_decimal i
  key_text (string bytes) = quoted bytes
  key_text (tuple vs) = 40 ∷ inside vs
  key_text _ = []

  pub inside : Data → List ℕ
  inside end = 41 ∷ []
  inside (datum v vs) = key_text v ++ behind_first vs

  pub behind_first : Data → List ℕ
  behind_first end = 44 ∷ 41 ∷ []
  behind_first (datum v vs) = 44 ∷ 32 ∷ (key_text v ++ behind vs)

  pub behind : Data → List ℕ
  behind end = 41 ∷ []
  behind (datum v vs) = 44 ∷ 32 ∷ (key_text v ++ behind vs)

-- where a walk answers, this is written
abbrev Writes : Looked PageView → PageView → Type 0
Writes r page = (p : PageView) (m : ℕ) → r ≡ Ok (p, m) → p ≡ page

abbrev pub page_in : Looked PageView → PageView
page_in (Ok p) = p.0
page_in (Err kind) = None

-- one value, and then the others up to the closing bracket
closed_by : (r : Looked PageView) (rest : PageView → ℕ → Looked PageView) (close : List ℕ) (mid last : PageView) → Writes r mid → ((k : ℕ) → Writes (closed close (rest mid k)) last)
    → Writes (closed close (and_then r rest)) last
closed_by (Ok q) rest close mid last first later p m e = later q.1 p m (ap (λ (z : PageView). closed close (rest z q.1)) (sym (first q.0 q.1 refl)) ∙ e)
closed_by (Err kind) rest close mid last first later p m e = absurd (cc)

pub two_end : (v w : Datum) (ws : List Datum) → tuple_end (v ∷ w ∷ ws) ≡ codes ")"
two_end v w ws = ap (λ (b : Bool). cond b (codes ",)") (codes ")")) (ne_eqb (length (v ∷ w ∷ ws)) 1 (λ e. omega (arith, e)))

module _ (show : Shows) (h : (page : PageView) (n : ℕ) (v : Datum) → IsKeyInRange v → Writes (show page n v) (written page (key_text v))) where
  behind_written : (vs : Data) → AreKeysInRange vs → (page : PageView) (n : ℕ) → Writes (closed (codes ")") (all_shown show (codes ", ") page n (list_of vs))) (written page (behind vs))
  behind_written end ks page n = λ p m e. sym (ap page_in e)
  behind_written (datum v vs) ks page n =
      closed_by (show (written page (codes ", ")) n v) (λ p m. all_shown show (codes ", ") p m (list_of vs)) (codes ")") (written (written page (codes ", ")) (key_text v))
      (written page (behind (datum v vs))) (h (written page (codes ", ")) n v ks.0)
      (λ k p m e. behind_written vs ks.1 (written (written page (codes ", ")) (key_text v)) k p m e
      ∙ (written_more (written page (codes ", ")) (key_text v) (behind vs) ∙ written_more page (codes ", ") (key_text v ++ behind vs)))

  -- what is written of a tuple's first value, and then these bytes
  first_written : (page : PageView) (v : Datum) (rest : List ℕ) → written (written (written (written page (codes "(")) []) (key_text v)) rest ≡ written page (40 ∷ (key_text v ++ rest))
  first_written page v rest =
      written_more (written (written page (codes "(")) []) (key_text v) rest ∙ (written_more (written page (codes "(")) [] (key_text v ++ rest) ∙ written_more page (codes "(") (key_text v ++ rest))

  tuple_written : (vs : Data) → AreKeysInRange vs → (page : PageView) (n : ℕ) → Writes (list_shown show (codes "(") (tuple_end (list_of vs)) page n (list_of vs)) (written page (40 ∷ inside vs))
  tuple_written end ks page n = λ p m e. sym (ap page_in e) ∙ written_more page (codes "(") (codes ")")
  tuple_written (datum v end) ks page n =
      closed_by (show (written (written page (codes "(")) []) n v) (λ p m. Ok (p, m)) (codes ",)") (written (written (written page (codes "(")) []) (key_text v))
      (written page (40 ∷ inside (datum v end))) (h (written (written page (codes "(")) []) n v ks.0)
      (λ k p m e. sym (ap page_in e) ∙ first_written page v (codes ",)"))
  tuple_written (datum v (datum w ws)) ks page n =
      closed_by (show (written (written page (codes "(")) []) n v) (λ p m. all_shown show (codes ", ") p m (w ∷ list_of ws)) (tuple_end (v ∷ w ∷ list_of ws))
      (written (written (written page (codes "(")) []) (key_text v)) (written page (40 ∷ inside (datum v (datum w ws)))) (h (written (written page (codes "(")) []) n v ks.0)
      (λ k p m e. behind_written (datum w ws) ks.1 (written (written (written page (codes "(")) []) (key_text v)) k p m
      (ap (λ (c : List ℕ). closed c (all_shown show (codes ", ") (written (written (written page (codes "(")) []) (key_text v)) k (w ∷ list_of ws))) (sym (two_end v w (list_of ws))) ∙ e)
      ∙ first_written page v (behind (datum w ws)))

  parts_written : (s : StoreView) (page : PageView) (n : ℕ) (v : Datum) → IsKeyInRange v → Writes (parts_shown show s page n v) (written page (key_text v))
  unfolding leaf_written
  parts_written s page n none ks = λ p m e. sym (ap page_in e)
  parts_written s page n (boolean true) ks = λ p m e. sym (ap page_in e)
  parts_written s page n (boolean false) ks = λ p m e. sym (ap page_in e)
  parts_written s page n (int i) ks = λ p m e. sym (ap page_in e)
  parts_written s page n (string bytes) ks = λ p m e. sym (ap page_in e)
  parts_written s page n (tuple vs) ks = tuple_written vs ks page n
  parts_written s page n _ ks = absurd ks

shown_written : (l : ℕ) (s : StoreView) (page : PageView) (n : ℕ) (v : Datum) → IsKeyInRange v → Writes (shown_at l s page n v) (written page (key_text v))
shown_written zero s page zero v ks = λ p m e. absurd (cc)
shown_written zero s page (suc n) v ks = λ p m e. absurd (cc)
shown_written (suc l) s page zero v ks = λ p m e. absurd (cc)
shown_written (suc l) s page (suc n) v ks = parts_written (shown_at l s) (shown_written l s) s page n v ks

abbrev pub text_in : Looked (List ℕ) → List ℕ
text_in (Ok p) = p.0
text_in (Err kind) = []

written_by : (x y : List ℕ) (b : Bool) → Some y ≡ cond b (Some x) None → y ≡ x
written_by x y true e = cc
written_by x y false e = absurd (cc)

pub written_is : (x y : List ℕ) → Some y ≡ written (Some []) x → y ≡ x
unfolding written
written_is x y e = written_by x y (nat_le (length {A = ℕ} [] + length x) max_text) e

finished_is : (r : Looked PageView) (x t : List ℕ) (m : ℕ) → Writes r (written (Some []) x) → finished_by r ≡ Ok (t, m) → t ≡ x
finished_is (Ok (Some y, k)) x t m w e = sym (ap text_in e) ∙ written_is x y (w (Some y) k refl)
finished_is (Ok (None, k)) x t m w e = absurd (cc)
finished_is (Err kind) x t m w e = absurd (cc)

pub repr_is : (s : StoreView) (n m : ℕ) (v : Datum) (t : List ℕ) → IsKeyInRange v → repr_of s n v ≡ Ok (t, m) → t ≡ key_text v
unfolding repr_shown
repr_is s n m v t ks e = finished_is (shown_at max_levels s (Some []) n v) (key_text v) t m (shown_written max_levels s (Some []) n v ks) e
