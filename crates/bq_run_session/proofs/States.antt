-- What a session has, step by step.
use Rattle.std.proofs.Common.{◌≡◌, ◌∙◌, ◌++◌, ℕ, Bool, true, false, List, [], ◌∷◌, Option, None, Some, Result, Ok, Err, refl, sym, ap, subst, ◌⊎◌, inl, inr}
use Rattle.std.specs.Prelude.{IsErrOf}
use Rattle.std.specs.Io.KnownBytes.{Appends, Keeps}
use Rattle.bq_base.specs.declared.limits.Limits.{Limits}
use Rattle.bq_label.specs.declared.workspace.File.{File}
use Rattle.bq_label.specs.Workspace.{workspace_within}
use Rattle.bq_load_reload.specs.declared.kept.Kept.{Kept}
use Rattle.bq_load_reload.specs.Kept.{IsKept}
use Rattle.bq_query.specs.declared.print.OutputForm.{OutputForm}
use Rattle.bq_run.specs.declared.options.Options.{Options}
use Rattle.bq_run_device.specs.Device.{Begins}
use Rattle.bq_run_device.proofs.Transfers.{Appends-none}
use Rattle.bq_run_facts.specs.Facts.{IsFactsOver}
use Rattle.bq_run_report.specs.Report.{Inside, IsOver, ReplyView, all_faults, fault_text}
use Rattle.bq_run_report.specs.declared.session.Session.{Session}
use Rattle.bq_run_write.specs.Deeds.{Run}
use Rattle.bq_run_write.specs.Ending.{status_by}
use Rattle.bq_run_write.specs.declared.ending.Status.{Status}
use Rattle.bq_run_write.specs.declared.error.RunErr.{RunErr}
use Rattle.bq_run_write.specs.declared.error.RunErr.TheVariants as run
use Rattle.bq_run_commands.specs.declared.edits.Edit.{Edit}
use Rattle.bq_run_session.specs.declared.held.SessionState.{SessionState}
use Rattle.bq_run_session.specs.declared.held.Opened.{Opened}
use Rattle.bq_run_commands.specs.declared.items.Request.TheVariants as request
use Rattle.bq_run_session.specs.Block.{is_refused, run_block, run_end}
use Rattle.bq_run_commands.specs.Edits.{edited}
use Rattle.bq_run_session.specs.Outcome.{at_first}
use Rattle.bq_run_session.specs.Session.{IsAnswerIn, IsOn}
use Rattle.bq_run_session.specs.State.{AreRefused, IsStep, Reloads, State}
use Rattle.bq_run_session.specs.Steps.{Holds, IsBlock, IsBlockOf, IsFactsText, IsStepIn, KeepsIts, LoadsEdited, ReloadsIn, WritesOne, is_failed}

pub same_err : {T : Type 0} (a b : RunErr) → IsErrOf {T = T} (Err a) b → a ≡ b
same_err a b h = cc

-- what is written for an item, said otherwise
pub writes_as : (A B : List ℕ → Bool → Type 0) → ((text : List ℕ) (refused : Bool) → A text refused → B text refused) → (result : Result Bool RunErr) (old new : Option (List ℕ))
    → WritesOne A result old new → WritesOne B result old new
writes_as A B to (Ok refused) old new w = (w.0, to w.0 refused w.1, w.2)
writes_as A B to (Err run.Memory) old new w = w
writes_as A B to (Err run.Write) old new w = (w.0, w.1, to w.0 w.1 w.2, w.3)
writes_as A B to (Err run.Read) old new w = absurd w
writes_as A B to (Err run.Bundle) old new w = absurd w
writes_as A B to (Err (run.Query why)) old new w = absurd w
writes_as A B to (Err (run.Schema line)) old new w = absurd w
writes_as A B to (Err run.TooManyModules) old new w = absurd w

-- a block was not written, or not whole
pub block_failed : (Is : List ℕ → Bool → Type 0) (text : List ℕ) (refused : Bool) (why : RunErr) (old new : Option (List ℕ)) → Is text refused
    → (IsErrOf {T = Unit {0}} (Err why) run.Memory → Keeps old new) → (IsErrOf {T = Unit {0}} (Err why) run.Write → Begins old new text)
    → IsErrOf {T = Unit {0}} (Err why) run.Memory ⊎ IsErrOf {T = Unit {0}} (Err why) run.Write → WritesOne Is (Err why) old new
block_failed Is text refused why old new is keeps begins which = elim which [
  | inl memory ↦ subst (λ (e : RunErr). WritesOne Is (Err e) old new) (sym (same_err why run.Memory memory)) (keeps memory)
  | inr write ↦ subst (λ (e : RunErr). WritesOne Is (Err e) old new) (sym (same_err why run.Write write)) (text, refused, is, begins write)
]

-- the block of an answer
pub block_is : (IsAnswer : List ℕ → ReplyView → Type 0) (query : List ℕ) (reply : ReplyView) (end : Result Status RunErr) → IsAnswer query reply → end ≡ run_end reply.end
    → (text : List ℕ) (refused : Bool) → IsBlockOf query reply.text end text refused → IsBlock IsAnswer query text refused
block_is IsAnswer query reply end is same text refused b =
    (reply, is, b.0 ∙ ap (λ (e : Result Status RunErr). run_block query reply.text e) same, b.1 ∙ ap is_refused same)

-- a session that has just loaded these files
pub holds_first : (limits : Limits) (files : List File) (held : SessionState) (on : IsOn files limits held.session) → held.workspace ≡ files → held.edits.items ≡ [] → Holds limits held (at_first files on.inside)
holds_first limits files held on workspace edits = record { files = workspace; edits = edits; loaded = on.loaded; over = on.over }

-- ---- a reload

-- what is kept of the files that were loaded
pub kept_so : (limits : Limits) (held : SessionState) (workspace : List File) (kept : Kept) → held.workspace ≡ workspace → held.kept ≡ kept → IsKept workspace limits.steps kept → KeepsIts limits held
kept_so limits held workspace kept w k is = subst (λ (z : Kept). IsKept held.workspace limits.steps z) (sym k) (subst (λ (fs : List File). IsKept fs limits.steps kept) (sym w) is)

module _ (limits : Limits) (old new : SessionState) (line : List ℕ) where
  pub loads : (opened : Opened) → workspace_within limits (edited old.workspace old.edits.items) ≡ Some opened.workspace → IsOn opened.workspace limits opened.session
      → new.workspace ≡ opened.workspace → new.session ≡ opened.session → new.edits.items ≡ [] → ReloadsIn limits old line new (run_block line new.session.faults (Ok new.session.status)) false
  loads opened is on workspace session edits s h =
      let i = on.inside in
      let over : IsOver i new.session = subst (λ (z : Session). IsOver i z) (sym session) on.over in
      let within : workspace_within limits (edited s.files s.edits) ≡ Some opened.workspace =
      subst (λ fs. workspace_within limits (edited fs s.edits) ≡ Some opened.workspace) h.files
      (subst (λ es. workspace_within limits (edited old.workspace es) ≡ Some opened.workspace) h.edits is) in
      let text : run_block line new.session.faults (Ok new.session.status) ≡ run_block line (fault_text i) (Ok (status_by (all_faults i))) =
      ap (λ t. run_block line t (Ok new.session.status)) over.faults ∙ ap (λ (status : Status). run_block line (fault_text i) (Ok status)) over.status in (
        record { files = opened.workspace; inside = i; edits = [] },
        record { files = workspace; edits = edits; loaded = on.loaded; over = over },
        Reloads.loaded opened.workspace i within on.loaded refl text refl,
      )

  pub keeps : (why : RunErr) (told : List ℕ) (end : Result Status RunErr) → AreRefused limits (edited old.workspace old.edits.items) why → told ≡ [] → end ≡ Err why
      → (text : List ℕ) (refused : Bool) → IsBlockOf line told end text refused → ReloadsIn limits old line old text refused
  keeps why told end so none is text refused b s h =
      let here : AreRefused limits (edited s.files s.edits) why =
      subst (λ fs. AreRefused limits (edited fs s.edits) why) h.files (subst (λ es. AreRefused limits (edited old.workspace es) why) h.edits so) in (
        s,
        h,
        Reloads.kept why here refl (b.0 ∙ (ap (λ t. run_block line t end) none ∙ ap (λ (e : Result Status RunErr). run_block line [] e) is)) (b.1 ∙ ap is_refused is),
      )

-- where there is a report
pub why_refused : (limits : Limits) (held : SessionState) (why : RunErr) → is_failed (Err why) ≡ false → LoadsEdited limits held (Err why) → AreRefused limits (edited held.workspace held.edits.items) why
why_refused limits held run.Memory fine so = absurd (cc)
why_refused limits held run.Read fine so = so
why_refused limits held run.Write fine so = so
why_refused limits held run.Bundle fine so = so
why_refused limits held (run.Query e) fine so = so
why_refused limits held (run.Schema line) fine so = so
why_refused limits held run.TooManyModules fine so = so

-- ---- the other items

module _ (version : List ℕ) (o : Options) (held : SessionState) (line : List ℕ) where
  pub is_nothing : IsStepIn version o held line request.Nothing held [] false
  is_nothing s h = (s, h, (refl, refl, refl))

  pub is_cut : IsStepIn version o held line request.Cut held [] true
  is_cut s h = (s, h, (refl, refl, refl))

  pub is_edit : (new : SessionState) (e : Edit) → new.workspace ≡ held.workspace → new.session ≡ held.session → new.edits.items ≡ held.edits.items ++ e ∷ []
      → IsStepIn version o held line (request.Edit e) new [] false
  is_edit new e workspace session edits s h = (
    record { files = s.files; inside = s.inside; edits = s.edits ++ e ∷ [] },
    record {
      files = workspace ∙ h.files;
      edits = edits ∙ ap (λ (es : List Edit). es ++ e ∷ []) h.edits;
      loaded = h.loaded;
      over = subst (λ (z : Session). IsOver s.inside z) (sym session) h.over;
    },
    (refl, refl, refl),
  )

  pub is_answer : (text : List ℕ) (refused : Bool) → IsBlock (IsAnswerIn held.session o.output) line text refused → IsStepIn version o held line request.Answer held text refused
  is_answer text refused b s h = (s, h, (refl, b.0, b.1 s.files o.limits s.inside h.loaded h.over, b.2, b.3))

  pub is_bad : (text : List ℕ) (refused : Bool) → IsBlockOf line [] (Err run.Bundle) text refused → IsStepIn version o held line request.Bad held text refused
  is_bad text refused b s h = (s, h, (refl, b.0, b.1))

  pub are_facts : (query : Option (List ℕ)) (told : List ℕ) (end : Result Status RunErr) (text : List ℕ) (refused : Bool) → IsFactsText version o held.workspace query told end
      → IsBlockOf line told end text refused → IsStepIn version o held line (request.Facts query) held text refused
  are_facts query told end text refused facts b s h = (
    s,
    h,
    (
      refl,
      facts.0,
      subst (λ fs. IsFactsOver version o fs query facts.0) h.files facts.1,
      b.0 ∙ (ap (λ t. run_block line t end) facts.2 ∙ ap (λ (e : Result Status RunErr). run_block line facts.0.answer e) facts.3),
      b.1 ∙ ap is_refused facts.3,
    ),
  )

-- nothing is written
pub writes_none : (Is : List ℕ → Bool → Type 0) (refused : Bool) (known : Option (List ℕ)) → Is [] refused → WritesOne Is (Ok refused) known known
writes_none Is refused known is = ([], is, Appends-none known)
