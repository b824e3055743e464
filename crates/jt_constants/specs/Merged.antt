-- A code in which equal constants occur once, each at its first index; each instruction names the
-- new index of its constant.
use Rattle.std.specs.Prelude.{ℕ, suc, Bool, true, false, List, [], ◌∷◌, ◌++◌, map, fold, slice_get, unwrap_or}
use Rattle.std.specs.Prelude.{if◌then◌else◌}
use Rattle.std.specs.Bool.{beq}
use Rattle.std.specs.List.{list_any}
use Rattle.std.specs.Ordering.{int_eq}
use Rattle.std.specs.Str.{bytes_eq}
use Rattle.jt_value.specs.Tree as tree
use Rattle.jt_value.specs.Tree.{Tree}
use Rattle.jt_image.specs.declared.instruction.Instruction.{Instruction}
use Rattle.jt_image.specs.declared.instruction.Instruction.TheVariants as op
use Rattle.jt_image.specs.Code.{Constant, undefined, nothing, truth_value, number, text, markup, Section, Code}

-- The constant of a value; a pool has no lists and no maps.
abbrev pub constant_of : Tree → Constant
constant_of tree.undefined = undefined
constant_of tree.nothing = nothing
constant_of (tree.truth_value b) = truth_value b
constant_of (tree.number z) = number z
constant_of (tree.text s) = text s
constant_of (tree.markup s) = markup s
constant_of (tree.list ts) = undefined
constant_of (tree.map es) = undefined

-- Whether two constants are equal and of one kind: a text is never markup, and a number never a
-- truth value.
abbrev pub same : Constant → Constant → Bool
same undefined undefined = true
same nothing nothing = true
same (truth_value a) (truth_value b) = beq a b
same (number y) (number z) = int_eq y z
same (text s) (text t) = bytes_eq s t
same (markup s) (markup t) = bytes_eq s t
same _ _ = false

-- Appends a constant, unless it occurs already.
abbrev pub with_new : List Constant → Constant → List Constant
with_new constants constant = if list_any (same constant) constants then constants else constants ++ constant ∷ []

-- Each constant once, in the order of their first indices.
abbrev pub each_once : List Constant → List Constant
each_once constants = fold with_new [] constants

-- The first index of a constant.
abbrev pub index_in : List Constant → Constant → ℕ
index_in [] constant = 0
index_in (first ∷ rest) constant = if same constant first then 0 else suc (index_in rest constant)

-- The new index of each constant.
abbrev pub new_indices : List Constant → List ℕ
new_indices constants = map (index_in (each_once constants)) constants

-- The new index for an index; an index outside `indices` stays.
abbrev pub moved : List ℕ → ℕ → ℕ
moved indices index = unwrap_or (slice_get indices index) index

abbrev pub with_indices : List ℕ → Instruction → Instruction
with_indices indices (op.Const c) = op.Const (moved indices c)
with_indices indices (op.Data c) = op.Data (moved indices c)
with_indices indices i = i

abbrev pub moved_unit : List ℕ → Section → Section
moved_unit indices u =
    record {
      parameters = u.parameters;
      kind = u.kind;
      locals = u.locals;
      code = map (with_indices indices) u.code;
    }

abbrev pub merged : Code → Code
merged code =
    record {
      version = code.version;
      globals = code.globals;
      names = code.names;
      constants = each_once code.constants;
      units = map (moved_unit (new_indices code.constants)) code.units;
      templates = code.templates;
      places = code.places;
    }
