use Rattle.jt_show.proofs.CutCorrect.{boundary_is}
use Rattle.jt_show.proofs.quoting.boundary.Goals as goal

pub returns-clause-value : goal.returns-clause-value
returns-clause-value c =
    boundary_is c.args.text.now c.args.most c.floor_char_boundary.result c.requires
    c.floor_char_boundary.ensures.bound c.floor_char_boundary.ensures.boundary c.floor_char_boundary.ensures.nearest
