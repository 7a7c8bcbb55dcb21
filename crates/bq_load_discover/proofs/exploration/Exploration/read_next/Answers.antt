use Rattle.std.proofs.Common.{◌≡◌, ◌∙◌, ℕ, length, slice_get, sym, ap, arith}
use Rattle.bq_load_discover.proofs.exploration.Exploration.read_next.Goals as goal

pub returns-clause-explores : goal.returns-clause-explores
returns-clause-explores c =
    let ls = c.args.self.now.found in
    let ms = c.args.self.now.read.items in
    let n : length ms ≡ c.len.result = omega (arith, c.len.ensures, c.args.self.now.read.ok) in
    c.in_ok-put.ensures.explores c.args.inputs.now c.requires (c.in-Some.label.now, ap (λ (k : ℕ). slice_get ls k) n ∙ sym c.in-Some.ensures, c.in_ok-next.ensures)
