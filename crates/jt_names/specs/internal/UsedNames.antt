-- The names that uses and bodies read or bind, those that they bind in scopes, and the names of included templates.
-- Only private clauses cite this module.
use Rattle.std.specs.Prelude.{List, Option, Some, None, if◌then◌else◌}
use Rattle.jt_ast.specs.Expressions.{Text}
use Rattle.jt_ast.specs.Statements.{Body}
use Rattle.jt_chains.specs.Uses.{body_names, scope_names_in}
use Rattle.jt_uses.specs.Uses.{Use, reads, binds, includes, Site}
use Rattle.jt_uses.specs.declared.site.Enclosing.{Enclosing}
use Rattle.jt_names.specs.declared.own.NamesOf.{NamesOf}
use Rattle.jt_names.specs.declared.own.NamesOf.TheVariants.{Template, Scopes}

-- The name that a use reads or binds. A callee that is no name reads nothing.
abbrev pub used : NamesOf → Use → Enclosing → Option Text
used Template (reads x) w = if w.in_callee then None else Some x
used Template (binds x) w = Some x
used Scopes (binds x) w = if w.in_scope then Some x else None
used of u w = None

abbrev pub name_used : NamesOf → Site → Option Text
name_used of s = used of s.made s.place.around

-- The name of the template that a use includes.
abbrev pub included : Use → Option Text
included (includes x ignoring with_context) = Some x
included u = None

abbrev pub name_included : Site → Option Text
name_included s = included s.made

-- The names of a body.
abbrev pub names_by : NamesOf → Body → List Text
names_by Template b = body_names b
names_by Scopes b = scope_names_in b
