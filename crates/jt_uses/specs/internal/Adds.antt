-- The uses that a function appends. Only private clauses cite this module.
use Rattle.std.specs.Prelude.{◌≡◌, ◌++◌, List}
use Rattle.jt_uses.specs.Uses.{Site}
use Rattle.jt_uses.specs.UseView.{sites_view}
use Rattle.jt_uses.specs.declared.site.UseList.{UseList}

-- The new list is the old one with these uses appended.
abbrev pub Adds : UseList → UseList → List Site → Type 0
Adds old new xs = sites_view new.sites.items ≡ sites_view old.sites.items ++ xs
