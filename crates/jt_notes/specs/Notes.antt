-- What is suspicious in a chain for a context: prints that have no value in it, and blocks that no layout prints.
use Rattle.std.specs.Prelude.{ℕ, suc, Bool, false, ◌||◌, List, [], ◌∷◌, ◌++◌, map, flat_map, Option, Some, None}
use Rattle.std.specs.Prelude.{codes, if◌then◌else◌, option_and_then, option_map, unwrap_or}
use Rattle.std.specs.Option.{option_map_or}
use Rattle.std.specs.List.{filter_map}
use Rattle.std.specs.Str.{bytes_eq}
use Rattle.jt_ast.specs.Expressions.{Expr, name, group, attribute, item, filter}
pub use Rattle.jt_ast.specs.Expressions.{Text}
use Rattle.jt_ast.specs.Statements.{Stmt, print, choose, for_each, set_block, with_values, filter_block, autoescape}
use Rattle.jt_ast.specs.Statements.{macro, block, Body, end, stmt, Branches, no_branches, branch}
use Rattle.jt_ast.specs.Texts.{among}
use Rattle.jt_ast.specs.Written.{literal_text}
use Rattle.jt_value.specs.Entries.{entry_of, keys as keys_of}
use Rattle.jt_value.specs.Pairs.{Pairs, look}
use Rattle.jt_value.specs.Tree as tree
use Rattle.jt_value.specs.Tree.{Tree}
use Rattle.jt_chains.specs.Chain.{Template, a_chain, all_bodies, parent_of}
pub use Rattle.jt_chains.specs.Chain.{extends_of}
use Rattle.jt_chains.specs.View.{Seen, sources_of}
use Rattle.jt_uses.specs.Uses.{Use, binds, declares_macro, binds_library, binds_macro, body_uses, outside}
use Rattle.jt_notes.specs.declared.tags.Level.{Level}
use Rattle.jt_notes.specs.declared.tags.Level.TheVariants as level

-- ---- the tags that notes are about

-- A print, with its line and its expression, or a block that is in no other block, with its line and its name.
pub data Tag : Type 0 where
  prints : ℕ → Expr → Tag
  begins : ℕ → Text → Tag

abbrev pub line_of : Tag → ℕ
line_of (prints line e) = line
line_of (begins line x) = line

-- A block inside another one is printed where that one is.
abbrev pub block_tag : Level → ℕ → Text → List Tag
block_tag level.Outside line x = begins line x ∷ []
block_tag level.Inside line x = []

-- The prints and the outermost blocks, in the order of the source.
abbrev mutual
  pub tags_of : Level → Stmt → List Tag
  tags_of l (print line e) = prints line e ∷ []
  tags_of l (choose branches other) = tags_under l branches ++ tags_in l other
  tags_of l (for_each line targets over condition body other) = tags_in l body ++ tags_in l other
  tags_of l (set_block line target body) = tags_in l body
  tags_of l (with_values line values body) = tags_in l body
  tags_of l (filter_block line filters body) = tags_in l body
  tags_of l (autoescape line on body) = tags_in l body
  tags_of l (macro line macro_name parameters body) = tags_in l body
  tags_of l (block line block_name scoped required body) = block_tag l line block_name ++ tags_in level.Inside body
  tags_of l s = []

  pub tags_in : Level → Body → List Tag
  tags_in l end = []
  tags_in l (stmt first rest) = tags_of l first ++ tags_in l rest

  pub tags_under : Level → Branches → List Tag
  tags_under l no_branches = []
  tags_under l (branch line condition body rest) = tags_in l body ++ tags_under l rest

-- ---- paths

abbrev pub longer : Option (List Text) → Text → Option (List Text)
longer path key = option_map (λ names. names ++ (key ∷ [])) path

-- The key of an item, if it is a text literal.
abbrev pub longer_by : Option (List Text) → Option Text → Option (List Text)
longer_by path key = option_and_then (longer path) key

-- The path of a name and of keys behind it: `a`, `a.b` and `a["b"]`.
abbrev pub path_of : Expr → Option (List Text)
path_of (name x) = Some (x ∷ [])
path_of (attribute value key) = longer (path_of value) key
path_of (item value index) = longer_by (path_of value) (literal_text index)
path_of e = None

-- The filter that replaces an undefined value.
abbrev pub is_default : Text → Bool
is_default x = bytes_eq x (codes "default") || bytes_eq x (codes "d")

-- The path that is printed, under any filters but `default`.
abbrev pub printed_path : Expr → Option (List Text)
printed_path (group inner) = printed_path inner
printed_path (filter input x arguments keywords) = if is_default x then None else printed_path input
printed_path e = path_of e

-- The first name of a path that has no value: its index in the path, and the names that are there in its place.
pub record Missing : Type 0 where
  pub index : ℕ
  pub beside : List Text

-- The first key that a map on the path does not have; the keys are counted from n. A value that is no map ends the
-- search.
abbrev pub missing_key : ℕ → Tree → List Text → Option Missing
missing_key n (tree.map entries) (key ∷ keys) =
    option_map_or (λ value. missing_key (suc n) value keys) (entry_of key entries)
    (Some (record { index = n; beside = keys_of entries }))
missing_key n value keys = None

abbrev pub rest : List Text → List Text
rest [] = []
rest (x ∷ xs) = xs

-- The first name of a path that has no value: the first is a name of the context, and each other one a key of the value
-- before it.
abbrev pub missing_name : Pairs → List Text → Option Missing
missing_name context [] = None
missing_name context (x ∷ keys) =
    option_map_or (λ value. missing_key 1 value keys) (look x context)
    (Some (record { index = 0; beside = map (λ entry. entry.0) context }))

-- ---- names that are bound

-- The names that are no variables.
abbrev pub words : List Text
words = codes "loop" ∷ codes "range" ∷ codes "self" ∷ codes "super" ∷ []

-- The name that a use binds: by `set`, `for` or `with`, as a parameter, as a macro, or by an import.
abbrev pub name_bound : Use → Option Text
name_bound (binds x) = Some x
name_bound (declares_macro x parameters body) = Some x
name_bound (binds_library library x) = Some x
name_bound (binds_macro library called x) = Some x
name_bound u = None

abbrev pub bound_in : Body → List Text
bound_in body = filter_map (λ site. name_bound site.made) (body_uses body outside)

-- The names that are no variables, and those that any template of the chain binds.
abbrev pub bound_names : Seen → List Text
bound_names chain = words ++ flat_map (λ t. bound_in t.body) chain.templates

-- The first name of the path is one of these.
abbrev pub begins_with : List Text → List Text → Bool
begins_with bound [] = false
begins_with bound (x ∷ keys) = among x bound

-- ---- blocks above a template

-- The names of the blocks of the templates from a parent to the root.
abbrev pub blocks_up : Seen → Text → List Text
blocks_up chain parent = map (λ b. b.name) (all_bodies (sources_of chain) chain.escaping (a_chain parent))

-- The names of the blocks of the templates above one, if it extends another one.
abbrev pub blocks_above : Seen → Template → Option (List Text)
blocks_above chain t = option_map (blocks_up chain) (extends_of t.body)

-- The names of the blocks of the templates above the one of this name.
abbrev pub names_above : Seen → Text → List Text
names_above chain t = unwrap_or (option_map (blocks_up chain) (parent_of (sources_of chain t))) []

-- ---- notes

pub data Kind : Type 0 where
  -- A print of a path that has no value, with the first name on it that has none.
  blank : List Text → Missing → Kind
  -- A block that no template above has.
  lost : Text → Kind

pub record Note : Type 0 where
  pub template : Text
  pub line : ℕ
  pub kind : Kind

-- What decides which tags of a template are suspicious.
pub record Facts : Type 0 where
  pub bound : List Text
  pub context : Option Pairs
  pub above : Option (List Text)

-- A print has no value if its path begins with no bound name, and a name of the path has no value in the context.
abbrev pub blank_path : List Text → Pairs → List Text → Option Kind
blank_path bound context path =
    if begins_with bound path then None else option_map (blank path) (missing_name context path)

abbrev pub blank_print : List Text → Pairs → Expr → Option Kind
blank_print bound context e = option_and_then (blank_path bound context) (printed_path e)

-- A block is lost if its template extends another one, and no template above has the block.
abbrev pub lost_block : Option (List Text) → Text → Option Kind
lost_block above x = option_and_then (λ names. if among x names then None else Some (lost x)) above

abbrev pub kind_of : Facts → Tag → Option Kind
kind_of f (prints line e) = option_and_then (λ context. blank_print f.bound context e) f.context
kind_of f (begins line x) = lost_block f.above x

abbrev pub note_of : Facts → Text → Tag → Option Note
note_of f t tag = option_map (λ k. record { template = t; line = line_of tag; kind = k }) (kind_of f tag)

abbrev pub notes_in : Facts → Template → List Note
notes_in f t = filter_map (note_of f t.name) (tags_in level.Outside t.body)

-- The notes on a template of a chain.
abbrev pub notes_on : Seen → Option Pairs → Template → List Note
notes_on chain context t =
    notes_in (record { bound = bound_names chain; context = context; above = blocks_above chain t }) t

-- The notes on a chain for a context, in the order of its templates and of their tags. Without a context no print is
-- suspicious.
abbrev pub notes : Seen → Option Pairs → List Note
notes chain context = flat_map (notes_on chain context) chain.templates
