-- The view of uses in contracts, without the references to the tree.
use Rattle.std.specs.Prelude.{List, map}
use Rattle.jt_ast.specs.ExpressionView.{expr_view, exprs_view, pairs_view}
use Rattle.jt_ast.specs.StatementView.{body_view, parameters_view, is_ignored, passes_context}
use Rattle.jt_uses.specs.Uses as uses
use Rattle.jt_uses.specs.Uses.{Site}
use Rattle.jt_uses.specs.declared.site.Use.{Use}
use Rattle.jt_uses.specs.declared.site.Use.TheVariants as v
use Rattle.jt_uses.specs.declared.site.UseSite.{UseSite}

abbrev pub use_view : Use → uses.Use
use_view (v.Reads x) = uses.reads x.now
use_view (v.Binds x) = uses.binds x.now
use_view (v.ReadsLoopField k) = uses.reads_loop_field k.now
use_view (v.Calls f ts ps) = uses.calls (expr_view f.now) (exprs_view ts.now) (pairs_view ps.now)
use_view (v.Filters x ts ps) = uses.filters x.now (exprs_view ts.now) (pairs_view ps.now)
use_view (v.Tests x ts ps) = uses.tests x.now (exprs_view ts.now) (pairs_view ps.now)
use_view (v.DeclaresMacro x ps body) =
    uses.declares_macro x.now (parameters_view ps.now) (body_view body.now)
use_view (v.DeclaresBlock x scoped required body) = uses.declares_block x.now scoped required (body_view body.now)
use_view (v.Includes n m a) = uses.includes n.now (is_ignored m) (passes_context a)
use_view (v.Imports n) = uses.imports n.now
use_view (v.BindsLibrary n x) = uses.binds_library n.now x.now
use_view (v.BindsMacro n m x) = uses.binds_macro n.now m.now x.now
use_view (v.Extends n) = uses.extends n.now

abbrev pub site_view : UseSite → Site
site_view s = record { place = s.place; made = use_view s.made }

abbrev pub sites_view : List UseSite → List Site
sites_view = map site_view
