-- The texts that are names of templates. A text is its UTF-8 bytes.
use Rattle.std.specs.Prelude.{◌≢◌, ℕ, ◌≤◌, ◌==◌, List, [], length, codes, All}
use Rattle.std.specs.List.{slice_split}

abbrev pub Text : Type 0
Text = List ℕ

-- A byte of a name is at least 32, so no control character but DEL, and is not `\`.
abbrev pub IsNameByte : ℕ → Type 0
IsNameByte byte = (32 ≤ byte) × (byte ≢ 92)

-- A part between two `/` is not empty, `.` or `..`.
abbrev pub IsPart : Text → Type 0
IsPart part = (part ≢ []) × (part ≢ codes ".") × (part ≢ codes "..")

-- The greatest number of bytes in a name.
abbrev pub max_name : ℕ
max_name = 255

-- A name has 1 to 255 bytes, and no part between `/` is empty, `.` or `..`.
pub record IsName (name : Text) : Type 0 where
  pub some : 1 ≤ length name
  pub short : length name ≤ max_name
  pub bytes : All IsNameByte name
  pub parts : All IsPart (slice_split (λ byte. byte == 47) name)
