-- The contents of a disk in memory, and the results that calls on it may have.
use Rattle.std.specs.Prelude.{◌≡◌, ◌↔◌, ℕ, List, Contains, Option, Some, None, IsSome, Vec, option_map}
use Rattle.std.specs.declared.alloc.Global.{Global}
use Rattle.std.specs.BTreeMap.{get_by_text}
use Rattle.jt_program.specs.Files.{Known, path_in}
use Rattle.jt_disk.specs.declared.disk.Disk.{Disk}

-- The bytes of the file at a path, if it exists.
abbrev pub file_at : Disk → List ℕ → Option (List ℕ)
file_at disk path = option_map (λ (v : Vec ℕ Global). v.items) (get_by_text disk.files path)

-- The name contains no slash.
abbrev pub IsName : List ℕ → Type 0
IsName name = Contains name 47 → ⊥

-- The names are exactly the names of the files directly in the directory.
abbrev pub AreNamesIn : Disk → List ℕ → List (List ℕ) → Type 0
AreNamesIn disk dir names =
    (name : List ℕ)
    → (Contains names name) ↔ (IsName name × IsSome (file_at disk (path_in dir name)))

-- The results that calls on a disk may have. A file holds its bytes and no others, a directory
-- lists its files, and each path without a file fails.
abbrev pub known_of : Disk → Known
known_of disk = record {
  holds = λ path bytes. file_at disk path ≡ Some bytes;
  lists = λ dir names. AreNamesIn disk dir names;
  fails = λ path. file_at disk path ≡ None;
}
