use Rattle.std.proofs.Common.{◌≡◌, string_bytes, ℕ, length, subst, arith}
use Rattle.std.specs.Str.{IsCharBoundary}
use Rattle.std.proofs.lemmas.Str.{IsUtf8-string_bytes}
use Rattle.jt_escape.proofs.EscapedPrefix.{cut_back}
use Rattle.jt_escape.proofs.escaping.escape_into.Goals as goal

pub truncate-requires : goal.truncate-requires
truncate-requires c inside =
    let b = cut_back _ _ (IsUtf8-string_bytes c.args.into.now) (IsUtf8-string_bytes c.append_escaped.new.into)
    c.append_escaped.ensures.grown in
    let n : length (string_bytes c.args.into.now) ≡ c.len-start.result = omega arith in
    let P : ℕ → Type 0 = λ k. IsCharBoundary (string_bytes c.append_escaped.new.into) k in
    let p : P c.len-start.result = subst P n b in
    (p.0, λ positive. p.1)
