use Rattle.std.proofs.Common.{ℕ, List, ap, ◌∙◌}
use Rattle.std.specs.Prelude.{Vec}
use Rattle.std.specs.declared.alloc.Global.{Global}
use denote.Ref.{Bor}
use Rattle.jt_filters.specs.internal.Codes.{rows_in}
use Rattle.jt_filters.proofs.SortedInsertion.{read-inserted}
use Rattle.jt_filters.proofs.codes.put_row.Goals as goal

pub returns : goal.returns
returns c =
    ap rows_in c.in_ok-insert.ensures.entries
    ∙ read-inserted (λ (b : Bor (List ℕ)). b.now) (λ (w : Vec ℕ Global). w.items) c.args.rows.now.entries
    c.args.key c.args.row
