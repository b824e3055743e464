-- The view of positions in contracts. Only private clauses cite this module.
use Rattle.jt_parse.specs.Positions as positions
use Rattle.jt_parse.specs.declared.positions.Position.{Position}
use Rattle.jt_parse.specs.declared.positions.Position.TheVariants as p

abbrev pub position_view : Position → positions.Position
position_view p.ChildTop = positions.child_top
position_view p.RootTop = positions.root_top
position_view p.InMacro = positions.in_macro
position_view p.Inside = positions.inside
