-- The error for a code that the verifier refuses.
use Rattle.std.proofs.Common.{◌≡◌, List, Ok, ℕ}
use Rattle.jt_image.specs.Code.{Code}
use Rattle.jt_image.specs.Reading.{code_of}
use Rattle.jt_image.specs.Typed.{IsTyped}
use Rattle.jt_verify.specs.Refusing.{RefusalHolds}
use Rattle.jt_verify.specs.declared.Refusal.{Refusal}
use Rattle.jt_verify.specs.declared.Refusal.TheVariants as refusal
use Rattle.jt_host.specs.CallErrors.{of_code}
use Rattle.jt_host.specs.Calls.{IsNoImage}

pub refused_code : (bytes : List ℕ) (k : Code) (r : Refusal) → code_of bytes ≡ Ok k → RefusalHolds k r
    → (IsTyped k → r ≡ refusal.NoMemory) → IsNoImage bytes (of_code r)
refused_code bytes k refusal.NoMemory read holds exact = tt
refused_code bytes k (refusal.Flaw flaw unit point) read holds exact =
    (λ same. absurd (cc), (k, read, λ typed. let none = exact typed in absurd (cc), holds))
