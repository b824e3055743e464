use Rattle.std.proofs.Common.{◌≡◌, ◌++◌, encode_utf8, rules}
use Rattle.std.proofs.lemmas.Str.{chars_past_char}
use Rattle.jt_scan.proofs.text.first.Goals as goal

pub returns : goal.returns
returns c =
    let whole : c.args.text.now ≡ encode_utf8 c.in_ok-c.c ++ c.as_str.result.now = search rules in
    chars_past_char c.args.text.now c.as_str.result.now c.in_ok-c.c c.utf8.text whole
