use Rattle.std.proofs.Common.{◌+◌, ◌∷◌, [], length, map, ap, ◌∙◌, rules, arith, vec_len}
use Rattle.std.proofs.lemmas.List.{map-append}
use Rattle.std.specs.Str.{chars}
use Rattle.jt_scan.specs.internal.Scanning.{inside, IsGiven}
use Rattle.jt_scan.specs.View.{token_view}
use Rattle.jt_scan.proofs.TokenLoop.{read_none, tokens_end, tokens_go_on, tokens_shrink, tokens_refused, braces_fit}
use Rattle.jt_scan.proofs.tokens.read_tokens.Goals as goal

pub tokens-init : goal.tokens-init
tokens-init c = search (arith, rules, read_none)

pub returns-in_err-found : goal.returns-in_err-found
returns-in_err-found c =
    let whole = inside c.args.kind c.args.line (length (chars c.args.text.now) + 1) 0 (chars c.args.text.now) in
    let g : IsGiven c.in_err-found.field-0.0 whole = tokens_refused c.args.kind c.args.line whole _ _ _ _
    c.in_err-found.field-0.0 c.tokens.invariant.2 c.behind_space.ensures c.in_err-found.ensures in
    search rules

pub returns-in-Closer : goal.returns-in-Closer
returns-in-Closer c =
    tokens_end c.args.kind c.args.line _ _ _ c.in-Closer.mark _ _ _ c.tokens.invariant.2 c.behind_space.ensures
    (rw c.in-Closer.is at c.in_ok-found.ensures)

pub tokens-smaller : goal.tokens-smaller
tokens-smaller c =
    tokens_shrink c.args.kind c.args.line _ _ _ _ _ c.behind_space.ensures (rw c.in-Token.is at c.in_ok-found.ensures)

pub tokens-preserved : goal.tokens-preserved
tokens-preserved c = (
  search rules,
  rw c.in_ok-push.ensures.len (braces_fit c.tokens.depth (vec_len c.tokens.tokens) c.braces-depth.result
      (token_view c.in-Token.token) c.tokens.invariant.1 c.braces-depth.ensures),
  tokens_go_on c.args.kind c.args.line _ _ _ _ _ (token_view c.in-Token.token) _ _ _ c.tokens.invariant.2
      c.behind_space.ensures (rw c.in-Token.is at c.in_ok-found.ensures)
      (ap (map token_view) c.in_ok-push.ensures.items
      ∙ map-append token_view c.tokens.tokens.items (c.in-Token.token ∷ []))
      c.braces-depth.ensures,
)
