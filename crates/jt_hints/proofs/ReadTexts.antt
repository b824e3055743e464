-- What the scanner says of the source that is made of a text, it says of the text.
use Rattle.std.proofs.Common.{◌≡◌, ◌<◌, ◌≤◌, ℕ, List, Bool, true, Option, Some, None, ap, arith, rules, subst}
use Rattle.std.proofs.Common.{chars, length}
use Rattle.std.proofs.lemmas.Bool.{cases_lt}
use Rattle.std.specs.Prelude.{IfOk, IfSome, Result, Ok, Err}
use Rattle.jt_scan.specs.Refused.{IsRefusal}
use Rattle.jt_scan.specs.SourceView.{Held, held_of, max_source_len}
use Rattle.jt_scan.specs.declared.error.ScanError.{ScanError}
use Rattle.jt_scan.specs.declared.options.Options.{Options}
use Rattle.jt_hints.specs.Strays.{Refuses}
use Rattle.jt_hints.specs.internal.Cuts.{IsCutSource, IsCutText}

pub limited : (n : ℕ) → (max_source_len < n → ⊥) → n ≤ max_source_len
limited n long = search (arith, rules, cases_lt)

pub refused : {E : Type 0} (options : Options) (given : List ℕ) (s : Held) → s ≡ held_of options given
    → (r : Result (Option ScanError) E) → IfOk r (λ found. IfSome found (λ e. IsRefusal e (chars s.text)))
    → IfOk r (λ found. IfSome found (Refuses options given))
refused options given s is (Ok None) h = tt
refused options given s is (Ok (Some e)) h = subst (λ (z : Held). IsRefusal e (chars z.text)) is h
refused options given s is (Err e) h = tt

pub cut_of_text : {E : Type 0} (options : Options) (given : List ℕ) (s : Held) → s ≡ held_of options given
    → (r : Result Bool E) → IfOk r (λ b. b ≡ true → IsCutSource s)
    → IfOk r (λ b. b ≡ true → IsCutText options given)
cut_of_text options given s is (Ok b) h = λ e. subst IsCutSource is (h e)
cut_of_text options given s is (Err e) h = tt
