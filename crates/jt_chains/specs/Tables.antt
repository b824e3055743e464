-- Tables of names: the first index of a name among templates, and among the macros of a library.
use Rattle.std.specs.Prelude.{◌≡◌, ℕ, suc, Bool, false, if◌then◌else◌, List, [], length, Option, Some, None}
use Rattle.std.specs.Prelude.{unwrap_or, option_and_then, is_some}
use Rattle.std.specs.declared.string.String.{String}
use Rattle.std.specs.declared.alloc.Global.{Global}
use Rattle.std.specs.Str.{bytes_eq}
use Rattle.std.specs.BTreeMap.{BTreeMap, get_by_text}
use Rattle.jt_ast.specs.Statements.{Stmt, macro, Body, end, stmt}
use Rattle.jt_chains.specs.Chain.{Template, MacroBody, holds_macros, macros_in, Text}
use Rattle.jt_chains.specs.Indices.{index_of}

abbrev pub Table : Type 0
Table = BTreeMap (String Global) ℕ

-- The macros of a template, if it is a library.
abbrev pub library_macros : Text → Body → List MacroBody
library_macros n b = if holds_macros b then macros_in n b else []

-- The statement is a macro of this name.
abbrev pub is_named : Text → Stmt → Bool
is_named x (macro line macro_name parameters body) = bytes_eq macro_name x
is_named x s = false

-- The index of the first macro of a name among statements, which are counted from i.
abbrev pub macro_index : Text → ℕ → Body → Option ℕ
macro_index x i end = None
macro_index x i (stmt first rest) = if is_named x first then Some i else macro_index x (suc i) rest

-- The macro that a statement of a template defines.
abbrev pub as_macro : Text → Stmt → Option MacroBody
as_macro n (macro line macro_name parameters body) =
    Some (record { name = macro_name; template = n; parameters = parameters; body = body })
as_macro n s = None

-- A library has a table of its macros, and no other template has one.
abbrev pub IsTable : Body → Option Table → Type 0
IsTable b o =
    (is_some o ≡ holds_macros b)
    × ((x : Text) → option_and_then (λ m. get_by_text m x) o ≡ (if holds_macros b then macro_index x 0 b else None))

-- A table of the indices of templates by their names.
abbrev pub AreAt : List Template → Table → Type 0
AreAt ts m = (n : Text) → unwrap_or (get_by_text m n) (length ts) ≡ index_of ts n
