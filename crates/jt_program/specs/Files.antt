-- The results that calls on files may have, by the paths of the files.
use Rattle.std.specs.Prelude.{◌≡◌, ◌⊎◌, ℕ, List, Option, Some, None, ◌++◌, codes, Contains}
use Rattle.std.specs.Str.{IsUtf8}
use Rattle.jt_inherit.specs.Chains.{SourceTexts}
use Rattle.jt_ast.specs.Expressions.{Text}

-- The results that calls on a host's files may have.
pub record Known : Type 1 where
  -- The file at the path holds the bytes.
  pub holds : Text → List ℕ → Type 0
  -- The names are exactly the names of the files directly in the directory, in some order.
  pub lists : Text → List Text → Type 0
  -- The file or directory at the path cannot be listed, read or written.
  pub fails : Text → Type 0

-- Every result is possible, as for the files of a machine.
abbrev pub anything : Known
anything =
    record
    { holds = λ path bytes. Unit {0}; lists = λ dir names. Unit {0}; fails = λ path. Unit {0} }

-- The path of a file directly in a directory.
abbrev pub path_in : Text → Text → Text
path_in dir name = dir ++ (codes "/" ++ name)

-- The directory, or one of the files that it lists.
abbrev pub IsOfDirectory : Known → Text → Text → Type 0
IsOfDirectory files dir path = (path ≡ dir)
    ⊎ ((names : List Text)
    × (name : Text)
    × files.lists dir names
    × Contains names name
    × (path ≡ path_in dir name))

-- The source that a directory of these names has under a name: the bytes of the file if they are
-- UTF-8, and none otherwise.
abbrev pub IsSource : Known → Text → List Text → Text → Option Text → Type 0
IsSource files dir names name (Some source) =
    Contains names name × files.holds (path_in dir name) source × IsUtf8 source
IsSource files dir names name None =
    Contains names name
    → (bytes : List ℕ) × files.holds (path_in dir name) bytes × (IsUtf8 bytes → ⊥)

abbrev pub AreSources : Known → Text → List Text → SourceTexts → Type 0
AreSources files dir names sources = (name : Text) → IsSource files dir names name (sources name)

-- The templates of a directory: its files that are UTF-8, by their names.
pub record IsLibrary (files : Known) (dir : Text) (sources : SourceTexts) : Type 0 where
  pub names : List Text
  pub listed : files.lists dir names
  pub each : AreSources files dir names sources
