use Rattle.std.proofs.Common.{◌∙◌, sym, ap, string_bytes, option_map}
use Rattle.std.specs.Option.{unwrap_or}
use Rattle.jt_scan.proofs.Words.{spelled_again}
use Rattle.jt_parse.proofs.tags.given_or.Goals as goal

pub returns-in_ok-same-in-None : goal.returns-in_ok-same-in-None
returns-in_ok-same-in-None c =
    ap (λ z. (string_bytes c.args.name, z))
    (c.in_ok-same-in-None.ensures ∙ spelled_again c.deref.result.now c.deref.utf8 ∙ c.deref.ensures)
    ∙ ap (λ z. (string_bytes c.args.name, unwrap_or (option_map string_bytes z) (string_bytes c.args.name)))
    (sym c.in-None.is)
