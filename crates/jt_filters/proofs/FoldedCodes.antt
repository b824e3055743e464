-- The code of a text's fold, byte by byte.
use Rattle.std.proofs.Common.{◌≡◌, ℕ, ◌+◌, ◌<◌, ◌≤◌, List, [], ◌∷◌, ◌++◌, length, get_or, drop, sym, ap, ◌∙◌}
use Rattle.std.proofs.Common.{append_assoc}
use Rattle.std.proofs.lemmas.List.{append-nil, at_drop_more, at_drop_all}
use Rattle.std.specs.Char.{to_ascii_lowercase}
use Rattle.jt_filters.specs.internal.Codes.{text_code}
use Rattle.jt_filter_semantics.specs.Ordering.{fold}

pub fold_pushed : (before after s : List ℕ) (i : ℕ) → i < length s
    → after ≡ before ++ to_ascii_lowercase (get_or s i 0) ∷ []
    → after ++ fold (drop (i + 1) s) ≡ before ++ fold (drop i s)
fold_pushed before after s i lt push =
    ap (λ (xs : List ℕ). xs ++ fold (drop (i + 1) s)) push
    ∙ append_assoc before (to_ascii_lowercase (get_or s i 0) ∷ []) (fold (drop (i + 1) s))
    ∙ ap (λ (xs : List ℕ). before ++ xs) (sym (at_drop_more fold s i 0 lt))

pub fold_ended : (before first now after s : List ℕ) (i : ℕ) → first ≡ before ++ 4 ∷ []
    → now ++ fold (drop i s) ≡ first ++ fold s → length s ≤ i → after ≡ now ++ 255 ∷ []
    → after ≡ before ++ text_code (fold s)
fold_ended before first now after s i begun same past push =
    let all : now ≡ first ++ fold s =
    sym (append-nil now) ∙ ap (λ (xs : List ℕ). now ++ xs) (sym (at_drop_all fold s i past)) ∙ same in
    push
    ∙ ap (λ (xs : List ℕ). xs ++ 255 ∷ []) (all ∙ ap (λ (xs : List ℕ). xs ++ fold s) begun)
    ∙ append_assoc (before ++ 4 ∷ []) (fold s) (255 ∷ [])
    ∙ append_assoc before (4 ∷ []) (fold s ++ 255 ∷ [])

pub ruleset folded_codes = (fold_pushed, fold_ended)
