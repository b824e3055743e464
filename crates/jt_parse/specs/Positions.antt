-- The positions where statements are allowed in a template.
use Rattle.std.specs.Prelude.{Bool, true, false, not, ◌&&◌, ◌||◌, if◌then◌else◌}
use Rattle.std.specs.List.{list_all}
use Rattle.jt_scan.specs.Cut.{is_space}
use Rattle.jt_ast.specs.Expressions.{Text}
use Rattle.jt_ast.specs.Statements.{Stmt, data_of, print, choose, for_each, set, set_block, with_values, filter_block}
use Rattle.jt_ast.specs.Statements.{autoescape, macro, include, import_as, import_from, extends, block, Body, end, stmt}
use Rattle.jt_ast.specs.Statements.{Branches, no_branches, branch}

-- The position of a statement: the top level of a child or a root template, the inside of a macro,
-- or any other position. A child template extends another one.
pub data Position : Type 0 where
  child_top : Position
  root_top : Position
  in_macro : Position
  inside : Position

abbrev pub is_child : Position → Bool
is_child child_top = true
is_child position = false

abbrev pub is_top : Position → Bool
is_top child_top = true
is_top root_top = true
is_top position = false

abbrev pub is_macro : Position → Bool
is_macro in_macro = true
is_macro position = false

-- The position of the statements inside a statement at this position.
abbrev pub within : Position → Position
within in_macro = in_macro
within position = inside

-- Each byte is whitespace.
abbrev pub is_blank_text : Text → Bool
is_blank_text = list_all is_space

-- The statement is text that consists of whitespace.
abbrev pub is_blank_stmt : Stmt → Bool
is_blank_stmt (data_of text) = is_blank_text text
is_blank_stmt s = false

abbrev pub is_blank_body : Body → Bool
is_blank_body end = true
is_blank_body (stmt first rest) = is_blank_stmt first && is_blank_body rest

-- A statement is allowed at a position, and so are its nested statements. Outside its blocks a
-- child template has only text, `set`, blocks, macros and imports. Macros and imports are at the
-- top level. No block is inside a macro. A required block has only whitespace. `extends` is not
-- allowed here.
abbrev mutual
  pub stmt_placed : Position → Stmt → Bool
  stmt_placed position (data_of text) = true
  stmt_placed position (print line value) = not (is_child position)
  stmt_placed position (choose branches other) =
      not (is_child position) && (branches_placed (within position) branches && body_placed (within position) other)
  stmt_placed position (for_each line targets over condition body other) =
      not (is_child position) && (body_placed (within position) body && body_placed (within position) other)
  stmt_placed position (set line targets value) = true
  stmt_placed position (set_block line target body) = body_placed (within position) body
  stmt_placed position (with_values line values body) = not (is_child position) && body_placed (within position) body
  stmt_placed position (filter_block line filters body) = not (is_child position) && body_placed (within position) body
  stmt_placed position (autoescape line on body) = not (is_child position) && body_placed (within position) body
  stmt_placed position (macro line macro_name parameters body) = is_top position && body_placed in_macro body
  stmt_placed position (include line template missing context) = not (is_child position)
  stmt_placed position (import_as line library alias) = is_top position
  stmt_placed position (import_from line library macros) = is_top position
  stmt_placed position (extends line parent) = false
  stmt_placed position (block line block_name scoped required body) =
      not (is_macro position) && ((not required || is_blank_body body) && body_placed (within position) body)

  pub body_placed : Position → Body → Bool
  body_placed position end = true
  body_placed position (stmt first rest) = stmt_placed position first && body_placed position rest

  pub branches_placed : Position → Branches → Bool
  branches_placed position no_branches = true
  branches_placed position (branch line condition body rest) =
      body_placed position body && branches_placed position rest

-- The statements of a template have allowed positions. If there is an `extends`, it is the first
-- tag, with only whitespace before it.
abbrev pub is_placed : Body → Bool
is_placed end = true
is_placed (stmt (extends line parent) rest) = body_placed child_top rest
is_placed (stmt (data_of text) rest) =
    if is_blank_text text then is_placed rest else body_placed root_top rest
is_placed (stmt first rest) = stmt_placed root_top first && body_placed root_top rest
