-- A code has the same runs over contexts that agree on its names.
use Rattle.std.proofs.Common.{◌≡◌, List, [], ◌∷◌, refl, sym, ap, ◌∙◌, subst}
use Rattle.std.specs.Prelude.{Option, Some, None, slice_set, unwrap_or, replicate}
use Rattle.std.specs.List.{AllByRecursion}
use Rattle.jt_value.specs.Tree as tree
use Rattle.jt_value.specs.Tree.{Tree}
use Rattle.jt_value.specs.Pairs.{Pairs, look}
use Rattle.jt_image.specs.Code.{Name, Code}
use Rattle.jt_image.specs.Config.{Budget, Limit, Config, Outcome}
use Rattle.jt_image.specs.Run.{first_of, limit_of_named, passed, filled, entry_locals, locals_of, start, Ending}
use Rattle.jt_image.specs.Run.{RunFrom, Run}
use Rattle.jt_image.specs.Laws.{Agree, RunAlike}

-- Both contexts give the same value, or none, to each of these names.
abbrev Share : Pairs → Pairs → List Name → Type 0
Share one other ns = AllByRecursion (λ name. look name.text one ≡ look name.text other) ns

passed_alike : (b : Budget) (x y : Pairs) (ns : List Name) → Share x y ns → passed b x ns ≡ passed b y ns
passed_alike b x y [] h = refl
passed_alike b x y (n ∷ ns) h =
    ap (λ (o : Option Tree). first_of (limit_of_named b o) (passed b x ns)) h.0
    ∙ ap (first_of (limit_of_named b (look n.text y))) (passed_alike b x y ns h.1)

filled_alike : (x y : Pairs) (ns : List Name) (gs : List Tree) → Share x y ns → filled x ns gs ≡ filled y ns gs
filled_alike x y [] gs h = refl
filled_alike x y (n ∷ ns) gs h =
    ap (λ (o : Option Tree). filled x ns (slice_set gs n.slot (unwrap_or o tree.undefined))) h.0
    ∙ filled_alike x y ns (slice_set gs n.slot (unwrap_or (look n.text y) tree.undefined)) h.1

-- The start of a run with these globals.
abbrev start_with : Code → Budget → List Tree → Config
start_with code budget globals = record {
  machine = record {
    unit = 0;
    point = 0;
    state = record {
      entries = [];
      locals = locals_of (entry_locals code.units) [];
      globals = globals;
      buffers = [] ∷ [];
    };
    callers = [];
  };
  left = budget;
}

module _ (code : Code) (x y : Pairs) (h : Agree code x y) where
  limits : (b : Budget) → passed b x code.names ≡ passed b y code.names
  limits b = passed_alike b x y code.names h

  starts : (b : Budget) → start code x b ≡ start code y b
  starts b = ap (start_with code b) (filled_alike x y code.names (replicate code.globals tree.undefined) h)

agree_back : (x y : Pairs) (ns : List Name) → Share x y ns → Share y x ns
agree_back x y [] h = tt
agree_back x y (n ∷ ns) h = (sym h.0, agree_back x y ns h.1)

from : (code : Code) (x y : Pairs) (b : Budget) (o : Outcome) (l : Option Limit) → start code x b ≡ start code y b
    → RunFrom l code x b o → RunFrom l code y b o
from code x y b o (Some l) e r = r
from code x y b o None e r = subst (λ (c : Config). Ending code c o) e r

runs : (code : Code) (x y : Pairs) → Agree code x y → (b : Budget) (o : Outcome) → Run code x b o → Run code y b o
runs code x y h b o r =
    from code x y b o (passed b y code.names) (starts code x y h b)
    (subst (λ (l : Option Limit). RunFrom l code x b o) (limits code x y h b) r)

pub alike : (code : Code) (x y : Pairs) → Agree code x y → RunAlike code x y
alike code x y h = record {
  limits = limits code x y h;
  starts = starts code x y h;
  runs = λ b o. (runs code x y h b o, runs code y x (agree_back x y code.names h) b o);
}
