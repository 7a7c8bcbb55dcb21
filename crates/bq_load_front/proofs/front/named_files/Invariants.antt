use Rattle.std.proofs.Common.{◌≡◌, [], drop}
use Rattle.bq_load_front.specs.Front.{load_of}
use Rattle.bq_load_front.specs.Parsed.{labels_of}
use Rattle.bq_load_front.proofs.front.named_files.Given as goal

abbrev pub invariant-loop-load : goal.invariant-loop-load
invariant-loop-load l = labels_of (load_of l.inputs l.own) l.labels (drop l.load-index l.fn.loads) ≡ labels_of (load_of l.inputs l.own) [] l.fn.loads
