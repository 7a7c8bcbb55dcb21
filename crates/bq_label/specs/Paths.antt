-- Which texts are paths, names of targets and names of repositories (Bazel, "Labels", lexical specification).
use Rattle.std.specs.Prelude.{◌≡◌, ℕ, suc, ◌==◌, ◌&&◌, ◌||◌, Bool, false, not, nat_le, List, [], ◌∷◌, bytes_eq, codes, if◌then◌else◌}
use Rattle.std.specs.List.{list_all, list_any, slice_split}

-- what parts the segments of a path
abbrev pub is_slash : ℕ → Bool
is_slash b = b == 47

-- printable ASCII but for `:` and `\`
abbrev pub is_path_byte : ℕ → Bool
is_path_byte b = nat_le 32 b && nat_le b 126 && not (b == 58) && not (b == 92)

-- not empty, and neither `.` nor `..`
abbrev pub is_segment : List ℕ → Bool
is_segment s = not (bytes_eq s []) && not (bytes_eq s (codes ".")) && not (bytes_eq s (codes ".."))

-- a file's path, and a target's name: segments joined by `/`
unfoldable pub is_path : List ℕ → Bool
is_path path = list_all is_path_byte path && list_all is_segment (slice_split is_slash path)

-- a package's path in its repository, which is empty at the root
unfoldable pub is_package : List ℕ → Bool
is_package path = bytes_eq path [] || is_path path

-- letters, digits and `_ - . + ~`
abbrev pub is_repository_byte : ℕ → Bool
is_repository_byte b = (nat_le 97 b && nat_le b 122) || (nat_le 65 b && nat_le b 90) || (nat_le 48 b && nat_le b 57) || b == 95 || b == 45 || b == 46 || b == 43 || b == 126

-- a repository's name, which is empty for the main one
unfoldable pub is_repository : List ℕ → Bool
is_repository name = list_all is_repository_byte name

-- no byte of a name is a slash
abbrev pub HasNoSlash : List ℕ → Type 0
HasNoSlash name = list_any is_slash name ≡ false

-- how many bytes two texts have in common at the front
unfoldable pub common_len : List ℕ → List ℕ → ℕ
common_len [] ys = 0
common_len (x ∷ xs) [] = 0
common_len (x ∷ xs) (y ∷ ys) = if x == y then suc (common_len xs ys) else 0
