-- The laws of codes and their runs hold.
use Rattle.std.proofs.Common.{◌≡◌, ℕ, ◌≤◌, List, [], ◌∷◌, Ok, ◌∙◌, arith, rules}
use Rattle.std.specs.List.{AllByRecursion}
use Rattle.std.proofs.lemmas.List.{length-map}
use Rattle.jt_value.specs.Pairs.{Pairs}
use Rattle.jt_image.specs.Code.{Code}
use Rattle.jt_image.specs.IsCode.{IsCode}
use Rattle.jt_image.specs.Typed.{IsTyped}
use Rattle.jt_image.specs.Config.{Budget, StackEntry, value, frame, capture, Config}
use Rattle.jt_image.specs.Run.{start, Run}
use Rattle.jt_image.specs.Enough.{Enough}
use Rattle.jt_image.specs.FreeRun.{Free, Finished, Failed, start_machine, ComesTo}
use Rattle.jt_image.specs.Laws.{entry_size, IsSound, HasRuns, AreBytes, CodeLaws}
use Rattle.jt_image.specs.Reading.{code_of}
use Rattle.jt_image.proofs.DecodeSoundLemmas.{all_at}
use Rattle.jt_image.proofs.DecodeComplete.{code_again}
use Rattle.jt_image.proofs.WholeCodeSound.{IsSpelledBy, code_found}
use Rattle.jt_image.proofs.RunsAlike.{alike}
use Rattle.jt_image.proofs.TypeSafety.{kinds_of, AreSized, IsFit, IsGood, depth_of, step_fine}
use Rattle.jt_image.proofs.TypedRuns.{start_good, good_after, safe}
use Rattle.jt_image.proofs.UnbudgetedRuns.{IsMeant, outcome_of, only_fuel, enough_run, run_erased, same_exec}
use Rattle.jt_image.proofs.AssembleCorrect.{spelled_len}
use Rattle.jt_image.proofs.WeakJoin.{kinds}
use Rattle.jt_image.proofs.Version1HasNoPlaces.{no_places}

sizes : (n : ℕ) (es : List StackEntry) → AreSized n es → AllByRecursion (λ e. entry_size e ≤ n) es
sizes n [] h = tt
sizes n (value t ∷ es) h = (h.0, sizes n es h.1)
sizes n (frame f ∷ es) h = (omega arith, sizes n es h)
sizes n (capture ∷ es) h = (omega arith, sizes n es h)

sound : (k : Code) (c : Config) → IsGood k c → IsSound k c
sound k c g = search (arith, rules, depth_of, step_fine, kinds_of, length-map, sizes)

module _ (k : Code) (whole : IsCode k) (typed : IsTyped k) where
  fit : (x : Pairs) → IsFit k (start_machine k x)
  fit x = (start_good k whole typed x (only_fuel 0)).fit

  comes : (x : Pairs) (b : Budget) (o : Free) → IsMeant o → Run k x b (outcome_of o) → ComesTo k x o
  comes x b o meant r = search (arith, rules, run_erased, same_exec, fit)

  enough : (x : Pairs) (o : Free) → IsMeant o → ComesTo k x o → Enough k x (outcome_of o)
  enough x o meant e = enough_run k x e.0 o meant (same_exec k e.0 (start_machine k x) (fit x) ∙ e.1)

  runs : HasRuns k
  runs = record {
    safe = λ x b. safe k whole typed x b;
    sound = λ x b n c e. sound k c (good_after k n (start k x b) c (start_good k whole typed x b) e);
    text = λ x b t r. comes x b (Finished t) tt r;
    fault = λ x b f q r. comes x b (Failed f q) tt r;
    enough_text = λ x t e. enough x (Finished t) tt e;
    enough_fault = λ x f q e. enough x (Failed f q) tt e;
  }

read : (bytes : List ℕ) → AreBytes bytes → (k : Code) → code_of bytes ≡ Ok k → IsSpelledBy bytes k
read bytes fits k e = all_at (code_of bytes) (IsSpelledBy bytes) k e (code_found bytes (λ i. fits i))

pub lawful : CodeLaws
lawful = record {
  runs = runs;
  alike = alike;
  needs_kinds = kinds;
  no_places = no_places;
  read = read;
  again = code_again;
  spelled = spelled_len;
}
