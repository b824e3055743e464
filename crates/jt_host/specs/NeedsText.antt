-- The lines that list what an entry needs.
use Rattle.std.specs.Prelude.{◌++◌, List, flat_map, codes}
use Rattle.jt_ast.specs.Expressions.{Text}
use Rattle.jt_codegen.specs.Needs.{texts_in}
use Rattle.jt_codegen.specs.declared.Needs.{Needs}

-- The lines of names, each after a word.
abbrev pub lines_of : Text → List Text → Text
lines_of word names = flat_map (λ name. word ++ (name ++ codes "\n")) names

-- The lines of the names of a context, of the templates that were read, and of the missing ones.
abbrev pub needs_text : Needs → Text
needs_text needs =
    lines_of (codes "name ") (texts_in needs.names)
    ++ (lines_of (codes "template ") (texts_in needs.templates)
    ++ lines_of (codes "missing ") (texts_in needs.missing))
