use Rattle.std.proofs.Common.{List, ℕ, Result, Ok, Err, [], false, refl, subst, sym}
use Rattle.bq_run_write.specs.declared.ending.Status.{Status}
use Rattle.bq_run_write.specs.declared.error.RunErr.{RunErr}
use Rattle.bq_run_write.specs.declared.error.RunErr.TheVariants as run
use Rattle.bq_run_session.specs.declared.held.SessionState.{SessionState}
use Rattle.bq_run_commands.specs.declared.items.Request.{Request}
use Rattle.bq_run_commands.specs.declared.items.Request.TheVariants as request
use Rattle.bq_run_session.specs.Session.{IsAnswerIn}
use Rattle.bq_run_session.specs.Steps.{IsBlock, IsBlockOf, IsStepIn, ReloadsIn, WritesOne}
use Rattle.bq_run_session.proofs.States.{are_facts, is_answer, is_bad, is_edit, writes_as, writes_none}
use Rattle.bq_run_session.proofs.runs.take_item.Goals as goal

pub returns-in-Answer-clause-does : goal.returns-in-Answer-clause-does
returns-in-Answer-clause-does g c =
    let version = c.args.by.version.now in
    let o = c.args.by.options.now in
    let held = c.args.held.now in
    let line = c.args.item.line.items in
    let old = g.W.ByteSink.contents c.args.writer.now in
    let new = g.W.ByteSink.contents c.answer_query.new.writer in
    let is = IsAnswerIn held.session o.output in
    subst (λ (r : Request). WritesOne (IsStepIn version o held line r held) c.answer_query.result old new) (sym c.in-Answer.is)
    (writes_as (IsBlock is line) (IsStepIn version o held line request.Answer held) (is_answer version o held line) c.answer_query.result old new
    (subst (λ (l : List ℕ). WritesOne (IsBlock is l) c.answer_query.result old new) c.deref.ensures.value c.answer_query.ensures.does))

pub returns-in-Edit-clause-does : goal.returns-in-Edit-clause-does
returns-in-Edit-clause-does g c =
    let version = c.args.by.version.now in
    let o = c.args.by.options.now in
    let held = c.args.held.now in
    let line = c.args.item.line.items in
    let known = g.W.ByteSink.contents c.args.writer.now in
    let next : SessionState = record { workspace = held.workspace; edits = c.push.new.self; session = held.session; kept = held.kept; dropping = held.dropping } in
    subst (λ (r : Request). WritesOne (IsStepIn version o held line r next) (Ok false) known known) (sym c.in-Edit.is)
    (writes_none (IsStepIn version o held line (request.Edit c.in-Edit.edit) next) false known (is_edit version o held line next c.in-Edit.edit refl refl c.in_ok-push-in-Edit.ensures.items))

pub returns-in-Reload-clause-does : goal.returns-in-Reload-clause-does
returns-in-Reload-clause-does g c =
    let version = c.args.by.version.now in
    let o = c.args.by.options.now in
    let held = c.args.held.now in
    let line = c.args.item.line.items in
    let next = c.reload.new.held in
    let old = g.W.ByteSink.contents c.args.writer.now in
    let new = g.W.ByteSink.contents c.reload.new.writer in
    subst (λ (r : Request). WritesOne (IsStepIn version o held line r next) c.reload.result old new) (sym c.in-Reload.is)
    (writes_as (ReloadsIn o.limits held line next) (IsStepIn version o held line request.Reload next) (λ text refused b. b) c.reload.result old new
    (subst (λ (l : List ℕ). WritesOne (ReloadsIn o.limits held l next) c.reload.result old new) c.deref-in-Reload.ensures.value c.reload.ensures.does))

pub returns-in-Facts-clause-does : goal.returns-in-Facts-clause-does
returns-in-Facts-clause-does g c =
    let version = c.args.by.version.now in
    let o = c.args.by.options.now in
    let held = c.args.held.now in
    let line = c.args.item.line.items in
    let told = c.in_ok-told-in-Facts.told in
    let query = c.in-Facts.query in
    let old = g.W.ByteSink.contents c.args.writer.now in
    let new = g.W.ByteSink.contents c.write_told.new.writer in
    subst (λ (r : Request). WritesOne (IsStepIn version o held line r held) c.write_told.result old new) (sym c.in-Facts.is)
    (writes_as (IsBlockOf line told.text told.end) (IsStepIn version o held line (request.Facts query) held)
    (λ text refused b. are_facts version o held line query told.text told.end text refused c.in_ok-told-in-Facts.ensures b) c.write_told.result old new
    (subst (λ (l : List ℕ). WritesOne (IsBlockOf l told.text told.end) c.write_told.result old new) c.deref-in-Facts.ensures.value c.write_told.ensures.does))

pub returns-in-Bad-clause-does : goal.returns-in-Bad-clause-does
returns-in-Bad-clause-does g c =
    let version = c.args.by.version.now in
    let o = c.args.by.options.now in
    let held = c.args.held.now in
    let line = c.args.item.line.items in
    let told = c.refusal.result in
    let old = g.W.ByteSink.contents c.args.writer.now in
    let new = g.W.ByteSink.contents c.write_told-in-Bad.new.writer in
    subst (λ (r : Request). WritesOne (IsStepIn version o held line r held) c.write_told-in-Bad.result old new) (sym c.in-Bad.is)
    (writes_as (IsBlockOf line told.text told.end) (IsStepIn version o held line request.Bad held)
    (λ text refused b. is_bad version o held line text refused
    (subst (λ (e : Result Status RunErr). IsBlockOf line [] e text refused) c.refusal.ensures.end (subst (λ (t : List ℕ). IsBlockOf line t told.end text refused) c.refusal.ensures.text b)))
    c.write_told-in-Bad.result old new
    (subst (λ (l : List ℕ). WritesOne (IsBlockOf l told.text told.end) c.write_told-in-Bad.result old new) c.deref-in-Bad.ensures.value c.write_told-in-Bad.ensures.does))
