-- Modules of which a few have a fault of their own.
use Rattle.std.specs.Prelude.{ℕ, ◌==◌, ◌%◌, Bool, Result, Ok, Err, if◌then◌else◌}

-- every 41st module from number 17 on has a fault of its own
abbrev pub is_faulty : ℕ → Bool
is_faulty m = m % 41 == 17

-- what module m comes to on its own: a fault or a success, with nothing in either
abbrev pub mixed : ℕ → Result (Unit {0}) (Unit {0})
mixed m = if is_faulty m then Err tt else Ok tt
