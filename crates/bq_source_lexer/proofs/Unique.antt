-- A text has one reading.
use Rattle.std.specs.Global.{Global}
use Rattle.std.proofs.Common.{◌≡◌, ◌<◌, ◌≤◌, ℕ, List, [], ◌∷◌, length, take, Result, Ok, Err, refl, sym, ◌∙◌, subst, arith, Vec}
use Rattle.bq_source.specs.declared.token.Token.{Token}
use Rattle.bq_base.specs.declared.fault.TokenFault.{TokenFault}
use Rattle.bq_base.specs.declared.fault.Fault.{Fault}
use Rattle.bq_base.specs.declared.fault.SourceErr.{SourceErr}
use Rattle.bq_base.specs.declared.fault.SourceErr.TheVariants.{Bad}
use Rattle.bq_base.specs.declared.fault.TokenFault.TheVariants as f
use Rattle.bq_base.specs.Fault.{fault_at}
use Rattle.bq_base.specs.Gives.{Gives, GivesOneOf}
use Rattle.bq_source_lexer.specs.Lexing.{the_tokens}
use Rattle.bq_source_lexer.specs.Reading.{State, start, step, finish, Runs, ends, stops, goes, Lexes, too_long, cut, max_file_bytes, line_behind}

-- what is known of the reading, by the next step
abbrev Goes : Result State (Fault TokenFault) → Result (List Token) (Fault TokenFault) → Type 0
Goes (Ok t) r = Runs t r
Goes (Err e) r = r ≡ Err e

abbrev Follows : List ℕ → State → Result (List Token) (Fault TokenFault) → Type 0
Follows [] s r = finish s ≡ r
Follows (b ∷ bs) s r = Goes (step s) r

onward : (xs : List ℕ) (s : State) (r : Result (List Token) (Fault TokenFault)) → 0 < length xs → Goes (step s) r → Follows xs s r
onward [] s r some g = absurd (omega arith)
onward (b ∷ bs) s r some g = g

gone : (xs : List ℕ) (s : State) (r : Result (List Token) (Fault TokenFault)) → 0 < length xs → Follows xs s r → Goes (step s) r
gone [] s r some g = absurd (omega arith)
gone (b ∷ bs) s r some g = g

follows : {s : State} {r : Result (List Token) (Fault TokenFault)} → Runs s r → Follows s.rest s r
follows {s = s} {r = r} (ends e h) = subst (λ xs. Follows xs s r) (sym e) h
follows {s = s} (stops {e = x} some h) = onward s.rest s (Err x) some (subst (λ n. Goes n (Err x)) (sym h) refl)
follows {s = s} {r = r} (goes some h on) = onward s.rest s r some (subst (λ n. Goes n r) (sym h) on)

pub one_run : {s : State} {r q : Result (List Token) (Fault TokenFault)} → Runs s r → Runs s q → r ≡ q
one_run {s = s} {q = q} (ends e h) k = sym h ∙ subst (λ xs. Follows xs s q) e (follows k)
one_run {s = s} {q = q} (stops some h) k = sym (subst (λ n. Goes n q) h (gone s.rest s q some (follows k)))
one_run {s = s} {q = q} (goes some h on) k = one_run on (subst (λ n. Goes n q) h (gone s.rest s q some (follows k)))

pub one_reading : (text : List ℕ) (r q : Result (List Token) (Fault TokenFault)) → Lexes text r → Lexes text q → r ≡ q
one_reading text r q (too_long l) (too_long m) = refl
one_reading text r q (too_long l) (cut m h) = absurd (omega arith)
one_reading text r q (cut l g) (too_long m) = absurd (omega arith)
one_reading text r q (cut l g) (cut m h) = one_run g h

-- what was returned is a reading, so it is the only one
pub only : (text : List ℕ) (r : Result (Vec Token Global) (SourceErr TokenFault)) → GivesOneOf the_tokens Bad r (Lexes text)
    → (q : Result (List Token) (Fault TokenFault)) → Lexes text q → Gives the_tokens Bad r q
only text (Ok v) h q reading = one_reading text q (Ok v.items) reading h
only text (Err e) h q reading = λ why is. one_reading text q (Err why) reading (h why is)

-- what the last piece says of the reading
module _ (text : List ℕ) (s : State) (short : length text ≤ max_file_bytes)
    (resumes : (q : Result (List Token) (Fault TokenFault)) → Runs s q → Runs (start text) q) where
  pub finished : s.rest ≡ [] → (r : Result (Vec Token Global) (SourceErr TokenFault)) → Gives the_tokens Bad r (finish s) → GivesOneOf the_tokens Bad r (Lexes text)
  finished e (Ok v) h = cut short (resumes (Ok v.items) (ends e h))
  finished e (Err x) h = λ why is. cut short (resumes (Err why) (ends e (h why is)))

  pub stopped : 0 < length s.rest → (x : SourceErr TokenFault) → ((why : Fault TokenFault) → x ≡ Bad why → step s ≡ Err why) → GivesOneOf the_tokens Bad (Err x) (Lexes text)
  stopped some x h = λ why is. cut short (resumes (Err why) (stops some (h why is)))

  pub stopped_only : 0 < length s.rest → (x : SourceErr TokenFault) → ((why : Fault TokenFault) → x ≡ Bad why → step s ≡ Err why)
      → (q : Result (List Token) (Fault TokenFault)) → Lexes text q → Gives the_tokens Bad (Err x) q
  stopped_only some x h q reading = λ why is. one_reading text q (Err why) reading (stopped some x h why is)

abbrev past_limit : List ℕ → Fault TokenFault
past_limit text = fault_at f.FileTooLong (line_behind (take max_file_bytes text))

pub too_long_reads : (text : List ℕ) (why : Fault TokenFault) → max_file_bytes < length text → past_limit text ≡ why → Lexes text (Err why)
too_long_reads text why long e = subst (λ w. Lexes text (Err w)) e (too_long long)
