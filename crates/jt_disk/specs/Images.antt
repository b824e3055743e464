-- The files that a line leaves on a disk.
use Rattle.std.specs.Prelude.{◌≡◌, ◌↔◌, ℕ, List, Option, Some, None, codes}
use Rattle.std.specs.Str.{IsUtf8}
use Rattle.clap.specs.Words.{Row, Text as Word}
use Rattle.jt_args.specs.Line.{IsOptions, word_of}
use Rattle.jt_scan.specs.declared.Options.{Options}
use Rattle.jt_program.specs.Files.{path_in}
use Rattle.jt_host.specs.Calls.{IsImage, IsUpgraded}
use Rattle.jt_disk.specs.declared.disk.Disk.{Disk}
use Rattle.jt_disk.specs.Disk.{IsName, file_at}

-- The sources are exactly the files directly in the directory that are UTF-8, by their names.
abbrev pub AreTextsIn : Disk → List ℕ → (List ℕ → Option (List ℕ)) → Type 0
AreTextsIn disk dir sources = (name source : List ℕ)
    → (sources name ≡ Some source)
    ↔ (IsName name × (file_at disk (path_in dir name) ≡ Some source) × IsUtf8 source)

-- The disk holds at OUT the bytes of an image of the template NAME, from the texts that DIR held
-- before.
pub record HoldsImage (old new : Disk) (rows : List Row) : Type 0 where
  pub sources : List ℕ → Option (List ℕ)
  pub texts : AreTextsIn old (word_of (codes "DIR") rows) sources
  pub options : Options
  pub asked : IsOptions rows options
  pub bytes : List ℕ
  pub held : file_at new (word_of (codes "OUT") rows) ≡ Some bytes
  pub image : IsImage sources (word_of (codes "NAME") rows) options bytes

-- The disk holds the image of the line, if the line is one of `compile`.
abbrev pub IfCompiled : Disk → Disk → Option (Word × List Row) → Type 0
IfCompiled old new None = Unit {0}
IfCompiled old new (Some c) = c.0 ≡ codes "compile" → HoldsImage old new c.1

-- The disk holds at OUT in version 2 the image that it held at IN before.
pub record HoldsUpgrade (old new : Disk) (rows : List Row) : Type 0 where
  pub bytes : List ℕ
  pub was : file_at old (word_of (codes "IN") rows) ≡ Some bytes
  pub later : List ℕ
  pub held : file_at new (word_of (codes "OUT") rows) ≡ Some later
  pub image : IsUpgraded bytes later

-- The disk holds the image in version 2, if the line is one of `upgrade`.
abbrev pub IfUpgraded : Disk → Disk → Option (Word × List Row) → Type 0
IfUpgraded old new None = Unit {0}
IfUpgraded old new (Some c) = c.0 ≡ codes "upgrade" → HoldsUpgrade old new c.1
