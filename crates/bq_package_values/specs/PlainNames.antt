-- Names without a slash that read as the package's own labels, whatever they are read as.
use Rattle.std.specs.Prelude.{ℕ, ◌==◌, ◌&&◌, Bool, not, nat_le, List, length}
use Rattle.std.specs.List.{list_all}
use Rattle.bq_label.specs.Paths.{is_path_byte, is_segment}

-- a byte of a path, and neither a slash nor what a repository begins with
abbrev pub is_plain_byte : ℕ → Bool
is_plain_byte b = is_path_byte b && (not (b == 47) && not (b == 64))

-- a segment of a path, of up to 64 bytes
unfoldable pub is_plain_name : List ℕ → Bool
is_plain_name name = nat_le (length name) 64 && (list_all is_plain_byte name && is_segment name)
