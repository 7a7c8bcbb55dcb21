-- How large a workspace may be, and how many steps its modules may take.
use Rattle.std.specs.Prelude.{ℕ, ◌<◌}
use Rattle.bq_base.specs.declared.limits.Limits.{Limits}

-- the standard limits, but for the steps of a module
abbrev pub standard_with : ℕ → Limits
standard_with steps =
    record { files = 65536; directories = 1048576; modules = 16384; edges = 262144; bundle_bytes = 1073741824; steps = steps }

-- the limits of large workspaces, but for the steps of a module
abbrev pub large_with : ℕ → Limits
large_with steps =
    record { files = 16777216; directories = 16777216; modules = 4194304; edges = 67108864; bundle_bytes = 68719476736; steps = steps }

-- the limits of a run that is asked for no others
abbrev pub standard : Limits
standard = standard_with 1000000

-- what numbers count files, modules and edges: those of 31 bits
abbrev pub number_bound : ℕ
number_bound = 2147483648

-- files, modules and edges can be numbered
pub record AreBounded (l : Limits) : Type 0 where
  pub files : l.files < number_bound
  pub modules : l.modules < number_bound
  pub edges : l.edges < number_bound
