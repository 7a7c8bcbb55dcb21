-- How many workers there may be.
use Rattle.std.specs.Prelude.{ℕ}

-- the most that may be started
abbrev pub max_workers : ℕ
max_workers = 256
