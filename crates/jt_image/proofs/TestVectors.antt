-- The code X has, in both versions, the spelling that was written without the definitions.
use Rattle.std.proofs.Common.{◌≡◌, ℕ, List, [], ◌∷◌, ◌++◌, length, refl}
use Rattle.jt_image.specs.declared.instruction.Instruction.TheVariants as op
use Rattle.jt_image.specs.declared.version.Version.TheVariants as version
use Rattle.jt_image.specs.Code as code
use Rattle.jt_image.specs.Code.{Section, Code}
use Rattle.jt_image.specs.Spelling.{spelling}
use Rattle.jt_image.specs.Upgrading.{unplaced}

abbrev x_unit : Section
x_unit = record { parameters = 0; kind = 0; locals = 0; code = op.Data 0 ∷ op.Return ∷ [] }

-- The code X.
abbrev x_one : Code
x_one = record {
  version = version.One;
  globals = 0;
  names = [];
  constants = code.text (120 ∷ []) ∷ [];
  units = x_unit ∷ [];
  templates = [];
  places = [];
}

-- The code X, with each instruction at line 1 of the template `x`.
abbrev x_two : Code
x_two = record x_one {
  version = version.Two;
  templates = (120 ∷ []) ∷ [];
  places = (record { template = 1; line = 1 }) ∷ (record { template = 1; line = 1 }) ∷ [];
}

abbrev x_middle : List ℕ
x_middle =
    0 ∷ 0 ∷ 0 ∷ 0 ∷ 1 ∷ 0 ∷ 5 ∷ 1 ∷ 0 ∷ 0 ∷ 0 ∷ 120 ∷ 1 ∷ 0 ∷ 0 ∷ 0 ∷ 0 ∷ 0 ∷ 2 ∷ 0 ∷ 0 ∷ 0 ∷ 9 ∷ 0 ∷ 0 ∷ 0 ∷ 0 ∷ 0 ∷ 0
    ∷ 0 ∷ 28 ∷ 0 ∷ 0 ∷ 0 ∷ 0 ∷ 0 ∷ 0 ∷ 0 ∷ []

pub one_spelled : spelling x_one ≡ 74 ∷ 84 ∷ 66 ∷ 67 ∷ 1 ∷ 0 ∷ x_middle
one_spelled = refl

pub one_length : length (spelling x_one) ≡ 44
one_length = refl

pub two_spelled : spelling x_two
    ≡ 74 ∷ 84 ∷ 66 ∷ 67 ∷ 2 ∷ 0 ∷ (x_middle ++ 1 ∷ 0 ∷ 1 ∷ 0 ∷ 120 ∷ 1 ∷ 0 ∷ 1 ∷ 0 ∷ 0 ∷ 0 ∷ 1 ∷ 0 ∷ 1 ∷ 0 ∷ 0 ∷ 0 ∷ [])
two_spelled = refl

pub two_length : length (spelling x_two) ≡ 61
two_length = refl

pub upgraded_length : length (spelling (unplaced x_one)) ≡ 58
upgraded_length = refl
