-- What is malformed stays so.
use Rattle.std.proofs.Common.{◌≡◌, refl, ℕ, Bool, true, false, List, Ok, Err}
use Rattle.bq_base.specs.declared.fault.EvalFault.TheVariants.{Format}
use Rattle.bq_value.specs.Looked.{Looked}
use Rattle.bq_value_text.specs.Page.{PageView}
use Rattle.bq_builtin_format.specs.Percent.{DraftView, onto, and_then, text_by}
use Rattle.bq_builtin_format.proofs.Cases.{finished_when, with_steps}

-- a draft, and the steps that are left
abbrev pub draft : DraftView → ℕ → Looked DraftView
draft d n = Ok (d, n)

abbrev pub IsMalformed : Looked DraftView → Type 0
IsMalformed (Ok p) = p.0.malformed ≡ true
IsMalformed (Err kind) = Unit {0}

pub onto_malformed : (m : Bool) (r : Looked PageView) → m ≡ true → IsMalformed (onto m r)
onto_malformed m (Ok p) h = h
onto_malformed m (Err kind) h = tt

pub then_malformed : (r : Looked DraftView) (next : DraftView → ℕ → Looked DraftView) → IsMalformed r → ((d : DraftView) (n : ℕ) → d.malformed ≡ true → IsMalformed (next d n)) → IsMalformed (and_then r next)
then_malformed (Ok p) next h k = k p.0 p.1 h
then_malformed (Err kind) next h k = tt

-- what is malformed is F59, and no text
text_malformed_by : (m : Bool) (page : PageView) (n : ℕ) → m ≡ true → with_steps n (finished_when m page) ≡ Err Format
text_malformed_by true page n h = refl
text_malformed_by false page n h = absurd (cc)

pub text_malformed : (d : DraftView) (n : ℕ) → d.malformed ≡ true → text_by (Ok (d, n)) ≡ Err Format
text_malformed d n h = text_malformed_by d.malformed d.page n h

-- a text is of a draft that isn't malformed
pub record IsWhole (r : Looked DraftView) : Type 0 where
  pub made : DraftView
  pub left : ℕ
  pub is : r ≡ draft made left
  pub whole : made.malformed ≡ false

whole_by : (m : Bool) (page : PageView) (n : ℕ) (t : List ℕ × ℕ) → with_steps n (finished_when m page) ≡ Ok t → m ≡ false
whole_by true page n t h = absurd (cc)
whole_by false page n t h = refl

pub text_whole : (r : Looked DraftView) (t : List ℕ × ℕ) → text_by r ≡ Ok t → IsWhole r
text_whole (Ok p) t h = record { made = p.0; left = p.1; is = refl; whole = whole_by p.0.malformed p.0.page p.1 t h }
text_whole (Err kind) t h = absurd (cc)

pub not_both : (b : Bool) → b ≡ true → b ≡ false → ⊥
not_both b h k = cc
