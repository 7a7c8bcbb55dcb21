-- What was done so far, and what is left.
use Rattle.std.proofs.Common.{◌≡◌, ◌++◌, ◌||◌, ℕ, Bool, false, List, [], ◌∷◌, Option, None, Some, Result, Ok, Err, refl, subst, sym, ◌⊎◌, inl, inr}
use Rattle.std.specs.Prelude.{IfSome, IsErrOf, take}
use Rattle.std.specs.Io.KnownBytes.{Appends, IsAtEnd, Keeps}
use Rattle.bq_run.specs.declared.options.Options.{Options}
use Rattle.bq_run_device.specs.Device.{Begins}
use Rattle.bq_run_device.proofs.Transfers.{Appends-keeps, Appends-more, Appends-none, Begins-more}
use Rattle.bq_run_report.specs.Report.{all_faults}
use Rattle.bq_run_write.specs.Ending.{status_by}
use Rattle.bq_run_write.specs.declared.ending.Status.{Status}
use Rattle.bq_run_write.specs.declared.error.RunErr.{RunErr}
use Rattle.bq_run_write.specs.declared.error.RunErr.TheVariants as run
use Rattle.bq_run_session.specs.declared.ending.SessionStatus.{SessionStatus}
use Rattle.bq_run_session.specs.declared.held.SessionState.{SessionState}
use Rattle.bq_run_commands.specs.declared.items.Request.{Request}
use Rattle.bq_run_commands.specs.Items.{AreItems, IsItem, ItemView}
use Rattle.bq_run_session.specs.Outcome.{Answers, Covers, session_status}
use Rattle.bq_run_commands.specs.Queries.{max_queries_bytes}
use Rattle.bq_run_commands.specs.Reading.{Known, ahead}
use Rattle.bq_run_session.specs.State.{AreSteps, State}
use Rattle.bq_run_session.specs.Steps.{Holds, IsStepIn, WritesOne}
use Rattle.bq_run_session.proofs.States.{same_err}

-- these are the first items of the bytes, and `now` is what comes after them
abbrev pub Leaves : ℕ → Option (List ℕ) → Option (List ℕ) → List ItemView → Type 0
Leaves limit known now items = Known (λ input rest. AreItems limit input items rest) (ahead max_queries_bytes known) now

pub record Progress (version : List ℕ) (o : Options) (first : State) (known now : Option (List ℕ)) (held : SessionState) (refused : Bool) (old new : Option (List ℕ)) : Type 0 where
  pub items : List ItemView
  pub last : State
  pub text : List ℕ
  pub steps : AreSteps version o first items last text refused
  pub holds : Holds o.limits held last
  pub leaves : Leaves o.limits.bundle_bytes known now items
  pub written : Appends old new text

leaves_all : (limit : ℕ) (known : Option (List ℕ)) → Leaves limit known (ahead max_queries_bytes known) []
leaves_all limit None = tt
leaves_all limit (Some input) = AreItems.none

pub none_yet : (version : List ℕ) (o : Options) (first : State) (known : Option (List ℕ)) (held : SessionState) (old : Option (List ℕ)) → Holds o.limits held first
    → Progress version o first known (ahead max_queries_bytes known) held false old old
none_yet version o first known held old holds = record {
  items = [];
  last = first;
  text = [];
  steps = AreSteps.none;
  holds = holds;
  leaves = leaves_all o.limits.bundle_bytes known;
  written = Appends-none old;
}

-- a line, and what it asks for
abbrev pub IsNext : ℕ → Option (List ℕ) → Option (List ℕ) → List ℕ → Request → Type 0
IsNext limit now then line request = Known (λ text rest. IsItem limit text rest line request) now then

leaves_one : (limit : ℕ) (known now then : Option (List ℕ)) (items : List ItemView) (line : List ℕ) (request : Request) → Leaves limit known now items → IsNext limit now then line request
    → Leaves limit known then (items ++ record { line = line; request = request } ∷ [])
leaves_one limit None now then items line request leaves is = tt
leaves_one limit (Some input) None then items line request leaves is = absurd leaves
leaves_one limit (Some input) (Some now) None items line request leaves is = absurd is
leaves_one limit (Some input) (Some now) (Some then) items line request leaves is = AreItems.more (record { line = line; request = request }) leaves is refl

covers_some : (limit : ℕ) (known now : Option (List ℕ)) (items : List ItemView) (why : RunErr) → Leaves limit known now items
    → IfSome known (λ input. Covers limit (Err why) (take max_queries_bytes input) items)
covers_some limit None now items why leaves = tt
covers_some limit (Some input) None items why leaves = absurd leaves
covers_some limit (Some input) (Some now) items why leaves = (now, leaves)

covers_all : (limit : ℕ) (known now : Option (List ℕ)) (items : List ItemView) (status : SessionStatus) → Leaves limit known now items → IsAtEnd now
    → IfSome known (λ input. Covers limit (Ok status) (take max_queries_bytes input) items)
covers_all limit None now items status leaves end = tt
covers_all limit (Some input) None items status leaves end = absurd leaves
covers_all limit (Some input) (Some now) items status leaves end = subst (λ rest. AreItems limit (take max_queries_bytes input) items rest) end leaves

module _ (version : List ℕ) (o : Options) (first : State) (known now : Option (List ℕ)) (held : SessionState) (refused : Bool) (old new : Option (List ℕ))
    (p : Progress version o first known now held refused old new) where
  -- one more is done
  pub one_more : (then last : Option (List ℕ)) (line : List ℕ) (request : Request) (next : SessionState) (here after : Bool) → IsNext o.limits.bundle_bytes now then line request
      → WritesOne (IsStepIn version o held line request next) (Ok here) new last → after ≡ (here || refused) → Progress version o first known then next after old last
  one_more then last line request next here after is one same =
      let step = one.1 p.last p.holds in
      record {
        items = p.items ++ record { line = line; request = request } ∷ [];
        last = step.0;
        text = p.text ++ one.0;
        steps = AreSteps.more (record { line = line; request = request }) one.0 here p.steps step.2 refl refl same;
        holds = step.1;
        leaves = leaves_one o.limits.bundle_bytes known now then p.items line request p.leaves is;
        written = Appends-more old new last p.text one.0 p.written one.2;
      }

  -- there is no further item
  pub all_done : (end : SessionStatus) → IsAtEnd now → end ≡ session_status held.session.status refused → Answers version o first known (Ok end) old new
  all_done end at_end is = record {
    items = p.items;
    last = p.last;
    text = p.text;
    refused = refused;
    steps = p.steps;
    covers = covers_all o.limits.bundle_bytes known now p.items end p.leaves at_end;
    ends = subst (λ (status : Status). end ≡ session_status status refused) p.holds.over.status is;
    written = p.written;
  }

  -- the next item could not be read
  pub no_more_memory : Answers version o first known (Err run.Memory) old new
  no_more_memory = record {
    items = p.items;
    last = p.last;
    text = p.text;
    refused = refused;
    steps = p.steps;
    covers = covers_some o.limits.bundle_bytes known now p.items run.Memory p.leaves;
    ends = tt;
    written = p.written;
  }

  pub reader_failed : Answers version o first known (Err run.Read) old new
  reader_failed = record {
    items = p.items;
    last = p.last;
    text = p.text;
    refused = refused;
    steps = p.steps;
    covers = covers_some o.limits.bundle_bytes known now p.items run.Read p.leaves;
    ends = tt;
    written = p.written;
  }

  pub next_not_read : {T : Type 0} (why : RunErr) → IsErrOf {T = T} (Err why) run.Memory ⊎ IsErrOf {T = T} (Err why) run.Read → Answers version o first known (Err why) old new
  next_not_read why which = elim which [
    | inl memory ↦ subst (λ (e : RunErr). Answers version o first known (Err e) old new) (sym (same_err why run.Memory memory)) no_more_memory
    | inr read ↦ subst (λ (e : RunErr). Answers version o first known (Err e) old new) (sym (same_err why run.Read read)) reader_failed
  ]

  -- nothing was written for the next one
  no_memory_for_one : (last : Option (List ℕ)) → Keeps new last → Answers version o first known (Err run.Memory) old last
  no_memory_for_one last keeps = record {
    items = p.items;
    last = p.last;
    text = p.text;
    refused = refused;
    steps = p.steps;
    covers = covers_some o.limits.bundle_bytes known now p.items run.Memory p.leaves;
    ends = tt;
    written = Appends-keeps old new last p.text p.written keeps;
  }

  -- a beginning of what is written for the next one was
  writer_failed : (then last : Option (List ℕ)) (line : List ℕ) (request : Request) (next : SessionState) → IsNext o.limits.bundle_bytes now then line request
      → WritesOne (IsStepIn version o held line request next) (Err run.Write) new last → Answers version o first known (Err run.Write) old last
  writer_failed then last line request next is one =
      let step = one.2 p.last p.holds in
      record {
        items = p.items ++ record { line = line; request = request } ∷ [];
        last = step.0;
        text = p.text ++ one.0;
        refused = one.1 || refused;
        steps = AreSteps.more (record { line = line; request = request }) one.0 one.1 p.steps step.2 refl refl refl;
        covers = covers_some o.limits.bundle_bytes known then (p.items ++ record { line = line; request = request } ∷ []) run.Write
            (leaves_one o.limits.bundle_bytes known now then p.items line request p.leaves is);
        ends = tt;
        written = Begins-more old new last p.text one.0 p.written one.3;
      }

  -- so those after it are not done
  pub one_not_done : (then last : Option (List ℕ)) (line : List ℕ) (request : Request) (next : SessionState) (why : RunErr) → IsNext o.limits.bundle_bytes now then line request
      → WritesOne (IsStepIn version o held line request next) (Err why) new last → Answers version o first known (Err why) old last
  one_not_done then last line request next run.Memory is one = no_memory_for_one last one
  one_not_done then last line request next run.Write is one = writer_failed then last line request next is one
  one_not_done then last line request next run.Read is one = absurd one
  one_not_done then last line request next run.Bundle is one = absurd one
  one_not_done then last line request next (run.Query e) is one = absurd one
  one_not_done then last line request next (run.Schema n) is one = absurd one
  one_not_done then last line request next run.TooManyModules is one = absurd one

pub not_err : {T : Type 0} (x : T) (e : RunErr) → ¬ (IsErrOf (Ok x) e)
not_err x e h = cc
