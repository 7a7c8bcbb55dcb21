-- Reading a schema line by line.
use Rattle.std.proofs.Common.{◌≡◌, ◌≢◌, ◌∙◌, ◌+◌, ℕ, suc, List, [], ◌∷◌, ◌++◌, length, Option, Some, None, Result, Ok, Err, refl, sym, ap, arith}
use Rattle.bq_base.specs.declared.fault.FaultKind.{FaultKind}
use Rattle.bq_base.specs.declared.fault.Fault.{Fault}
use Rattle.bq_package_schema.specs.declared.line.Line.TheVariants as line
use Rattle.bq_package_schema.specs.Line.{line_of}
use Rattle.bq_package_schema.specs.Schema.{Rules, after}
use Rattle.bq_package_schema.specs.Reading.{bad_line, go_on, declared_by}

-- a line that is read, and one that is not
pub read_on : (rules next : Rules) (n : ℕ) (l : List ℕ) (ls : List (List ℕ)) → after rules (line_of l) ≡ Some next → declared_by rules n (l ∷ ls) ≡ declared_by next (n + 1) ls
unfolding declared_by
read_on rules next n l ls h = ap (go_on (λ t. declared_by t (n + 1) ls) n) h

pub refused : (rules : Rules) (n : ℕ) (l : List ℕ) (ls : List (List ℕ)) → after rules (line_of l) ≡ None → declared_by rules n (l ∷ ls) ≡ Err (bad_line n)
unfolding declared_by
refused rules n l ls h = ap (go_on (λ t. declared_by t (n + 1) ls) n) h

pub nothing_left : (rules : Rules) (n : ℕ) → declared_by rules n [] ≡ Ok rules
unfolding declared_by
nothing_left rules n = refl

-- where reading stops: the lines before, the bad one, and those after it
pub record Stops (rules : Rules) (n : ℕ) (ls : List (List ℕ)) (fault : Fault FaultKind) : Type 0 where
  pub before : List (List ℕ)
  pub line : List ℕ
  pub behind : List (List ℕ)
  pub last : Rules
  pub cut : ls ≡ before ++ line ∷ behind
  pub read : declared_by rules n before ≡ Ok last
  pub bad : after last (line_of line) ≡ None
  pub named : fault ≡ bad_line (n + length before)

same_fault : (r : Result Rules (Fault FaultKind)) (n : ℕ) (fault : Fault FaultKind) → r ≡ Err (bad_line n) → r ≡ Err fault → fault ≡ bad_line n
same_fault r n fault g h = cc

one_on : (n : ℕ) (m : ℕ) → n + 1 + m ≡ n + suc m
one_on n m = omega arith

stops_by : (o : Option Rules) (rules : Rules) (n : ℕ) (l : List ℕ) (ls : List (List ℕ)) (fault : Fault FaultKind) → after rules (line_of l) ≡ o → declared_by rules n (l ∷ ls) ≡ Err fault
    → ((next : Rules) → declared_by next (n + 1) ls ≡ Err fault → Stops next (n + 1) ls fault) → Stops rules n (l ∷ ls) fault
stops_by None rules n l ls fault e h inner =
    record {
      before = [];
      line = l;
      behind = ls;
      last = rules;
      cut = refl;
      read = nothing_left rules n;
      bad = e;
      named = same_fault (declared_by rules n (l ∷ ls)) n fault (refused rules n l ls e) h ∙ ap bad_line (let z : n ≡ n + 0 = omega arith in z);
    }
stops_by (Some next) rules n l ls fault e h inner =
    let s = inner next (sym (read_on rules next n l ls e) ∙ h) in
    record {
      before = l ∷ s.before;
      line = s.line;
      behind = s.behind;
      last = s.last;
      cut = ap (λ xs. l ∷ xs) s.cut;
      read = read_on rules next n l s.before e ∙ s.read;
      bad = s.bad;
      named = s.named ∙ ap bad_line (one_on n (length s.before));
    }

ended : (rules : Rules) (fault : Fault FaultKind) → Ok rules ≡ Err fault → ⊥
ended rules fault h = cc

pub stops : (rules : Rules) (n : ℕ) (ls : List (List ℕ)) (fault : Fault FaultKind) → declared_by rules n ls ≡ Err fault → Stops rules n ls fault
stops rules n [] fault h = absurd (ended rules fault (sym (nothing_left rules n) ∙ h))
stops rules n (l ∷ ls) fault h = stops_by (after rules (line_of l)) rules n l ls fault refl h (λ next. stops next (n + 1) ls fault)

-- where reading goes through
pub record GoesOn (rules : Rules) (n : ℕ) (l : List ℕ) (ls : List (List ℕ)) (all : Rules) : Type 0 where
  pub next : Rules
  pub taken : after rules (line_of l) ≡ Some next
  pub rest : declared_by next (n + 1) ls ≡ Ok all

not_refused : (n : ℕ) (all : Rules) → Err (bad_line n) ≡ Ok all → ⊥
not_refused n all h = cc

goes_on_by : (o : Option Rules) (rules : Rules) (n : ℕ) (l : List ℕ) (ls : List (List ℕ)) (all : Rules) → after rules (line_of l) ≡ o → declared_by rules n (l ∷ ls) ≡ Ok all → GoesOn rules n l ls all
goes_on_by None rules n l ls all e h = absurd (not_refused n all (sym (refused rules n l ls e) ∙ h))
goes_on_by (Some next) rules n l ls all e h = record { next = next; taken = e; rest = sym (read_on rules next n l ls e) ∙ h }

pub goes_on : (rules : Rules) (n : ℕ) (l : List ℕ) (ls : List (List ℕ)) (all : Rules) → declared_by rules n (l ∷ ls) ≡ Ok all → GoesOn rules n l ls all
goes_on rules n l ls all h = goes_on_by (after rules (line_of l)) rules n l ls all refl h

other_is_bad : (rules : Rules) → after rules line.Other ≡ None
unfolding after
other_is_bad rules = refl

no_next : (next : Rules) → None ≡ Some next → ⊥
no_next next h = cc

-- a line that is read has a form
pub has_a_form : (rules : Rules) (n : ℕ) (before : List (List ℕ)) (l : List ℕ) (behind : List (List ℕ)) (all : Rules) → declared_by rules n (before ++ l ∷ behind) ≡ Ok all → line_of l ≢ line.Other
has_a_form rules n [] l behind all h = λ e.
    let g = goes_on rules n l behind all h in
    no_next g.next (sym (other_is_bad rules) ∙ (ap (after rules) (sym e) ∙ g.taken))
has_a_form rules n (b ∷ bs) l behind all h =
    let g = goes_on rules n b (bs ++ l ∷ behind) all h in
    has_a_form g.next (n + 1) bs l behind all g.rest
