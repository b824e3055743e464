-- Raw text position by position, and the options of segments.
use Rattle.std.proofs.Common.{◌≡◌, Bool, true, false, List, [], ◌∷◌, ◌++◌, refl, sym, subst, append_assoc}
use Rattle.std.proofs.Common.{append-nil, arith, rules}
use Rattle.jt_scan.specs.Cut.{Text, NoneBegins}
use Rattle.jt_scan.specs.internal.Scanning.{clear_run}
use Rattle.jt_scan.proofs.ParseResultSteps.{Stops, clear_of}
use Rattle.jt_scan.proofs.TokenLoop.{cancel_end}
use Rattle.jt_scan.specs.declared.options.Options.{Options}
use Rattle.jt_scan.specs.declared.segment.Segment.{Segment}
use Rattle.jt_scan.specs.View.{HaveOptions}

-- The test holds at no position of the text before its suffix x.
abbrev pub IsClearTo : (Text → Bool) → Text → Text → Type 0
IsClearTo test source x = (y : Text) × (source ≡ y ++ x) × NoneBegins test y x

pub clear_none : (test : Text → Bool) (x : Text) → IsClearTo test x x
clear_none test x = ([], refl, tt)

none_more : (test : Text → Bool) (y : Text) (c : _) (x : Text) → NoneBegins test y (c ∷ x) → test (c ∷ x) ≡ false
    → NoneBegins test (y ++ (c ∷ [])) x
none_more test [] c x n h = (h, tt)
none_more test (d ∷ y) c x n h =
    (subst (λ z. test (d ∷ z) ≡ false) (sym (append_assoc y (c ∷ []) x)) n.0, none_more test y c x n.1 h)

pub clear_more : (test : Text → Bool) (source z : Text) (c : _) (x : Text) → IsClearTo test source z → z ≡ c ∷ x
    → test z ≡ false → IsClearTo test source x
clear_more test source z c x i e h = search (arith, rules, append_assoc, none_more)

pub stops_there : (test : Text → Bool) (x : Text) → test x ≡ true → Stops test x
stops_there test [] h = tt
stops_there test (c ∷ x) h = h

pub clear_stops : (test : Text → Bool) (source d x : Text) → IsClearTo test source x → source ≡ d ++ x → Stops test x
    → clear_run test source ≡ (d, x)
clear_stops test source d x i e s = search (arith, rules, cancel_end, clear_of)

pub clear_whole : (test : Text → Bool) (source x : Text) → IsClearTo test source x → x ≡ []
    → clear_run test source ≡ (source, x)
clear_whole test source x i e = search (arith, rules, clear_stops, append-nil)

pub options_more : (o : Options) (ss : List Segment) (s : Segment) → HaveOptions o ss → s.options ≡ o
    → HaveOptions o (ss ++ (s ∷ []))
options_more o [] s h e = (e, tt)
options_more o (x ∷ ss) s h e = (h.0, options_more o ss s h.1 e)
