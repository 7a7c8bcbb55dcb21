use Rattle.std.proofs.Common.{◌≡◌, ◌==◌, ◌++◌, List, ℕ, [], ◌∷◌, false, refl, subst, length, arith}
use Rattle.bq_base_texts.specs.LineText.{detail_text}
use Rattle.bq_run_device.specs.Device.{Begins}
use Rattle.bq_run_device.proofs.Transfers.{Begins-more}
use Rattle.std.proofs.lemmas.Grind.{common_steps}
use Rattle.bq_run_write.proofs.status.write_detail.Goals as goal

some_detail : (d : List ℕ) → false ≡ (length d == 0) → (32 ∷ []) ++ d ≡ detail_text d
some_detail [] h = absurd (cc)
some_detail (b ∷ bs) h = refl

pub returns-clause-begins : goal.returns-clause-begins
returns-clause-begins g c =
    let a = g.W.ByteSink.contents c.args.writer.now in
    let b = g.W.ByteSink.contents c.write_all.new.writer in
    let d = g.W.ByteSink.contents c.write_all-2.new.writer in
    subst (λ (t : List ℕ). Begins a d t) (some_detail c.args.detail.now c.if-is_empty.ensures)
    (Begins-more a b d (32 ∷ []) c.args.detail.now c.in_ok-write_all.ensures.whole c.write_all-2.ensures.begins)

pub returns-in_err-write_all-clause-begins : goal.returns-in_err-write_all-clause-begins
returns-in_err-write_all-clause-begins g c = grind (arith, common_steps)

pub returns-clause-whole : goal.returns-clause-whole
returns-clause-whole g c = grind (arith, common_steps)
