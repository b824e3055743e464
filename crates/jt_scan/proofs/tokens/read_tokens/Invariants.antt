use Rattle.std.proofs.Common.{◌+◌, ◌≤◌, length, map, vec_len}
use denote.Text.{Utf8}
use denote.Shadow.{shadow}
use Rattle.std.specs.Str.{chars}
use Rattle.jt_scan.specs.internal.Scanning.{inside}
use Rattle.jt_scan.specs.View.{token_view}
use Rattle.jt_scan.proofs.TokenLoop.{IsRead}
use Rattle.jt_scan.proofs.tokens.read_tokens.Given as goal

abbrev pub invariant-tokens : goal.invariant-tokens
invariant-tokens l =
    shadow (Utf8 l.rest) × (l.depth ≤ vec_len l.tokens)
    × IsRead l.kind l.line (inside l.kind l.line (length (chars l.text) + 1) 0 (chars l.text))
    (map token_view l.tokens.items) l.depth (chars l.rest)

abbrev pub decreases-tokens : goal.decreases-tokens
decreases-tokens l = length (chars l.rest)
