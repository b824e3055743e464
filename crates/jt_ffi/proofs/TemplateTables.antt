-- Templates that are read in order.
use Rattle.std.proofs.Common.{Err, ◌≡◌, ◌≢◌, ◌∙◌, ℕ, ◌+◌, ◌-◌, ◌<◌, ◌≤◌, List, [], ◌∷◌, Bool, true, false, cond, Option}
use Rattle.std.proofs.Common.{Some, None, ap, arith, bytes_eq, drop, length, length-drop, refl, sym, subst}
use Rattle.std.proofs.lemmas.Slice.Eq.{bytes_eq-Decides}
use Rattle.std.proofs.lemmas.Bool.{false≢true}
use Rattle.jt_host.specs.Templates.{source_of}
use Rattle.jt_host.specs.declared.CallError.TheVariants as call_error
use Rattle.jt_host.specs.declared.Templates.{Templates}
use Rattle.jt_ffi.specs.HostTemplates.{IsRead, IsUnpacked, AreTexts, bytes_after, name_at, or_else, source_at}
use Rattle.jt_ffi.specs.HostTemplates.{source_under, sources_in, total}
use Rattle.jt_ffi.specs.declared.templates.Lengths.{Lengths}
use Rattle.jt_ffi.specs.declared.error.FfiError.{FfiError}
use Rattle.jt_ffi.specs.declared.error.FfiError.TheVariants as ffi_error

one_more : (before after : List ℕ → Option (List ℕ)) (name source other : List ℕ) → after name ≡ Some source
    → ((n : List ℕ) → n ≢ name → after n ≡ before n) → (b : Bool) → bytes_eq name other ≡ b
    → after other ≡ or_else (cond b (Some source) None) (before other)
one_more before after name source other here others true e = ap after (sym ((bytes_eq-Decides name other).0 e)) ∙ here
one_more before after name source other here others false e =
    others other (λ same. absurd (false≢true (sym e ∙ (bytes_eq-Decides name other).1 (sym same))))

-- A new source comes before the known ones.
pub taken : (before after : List ℕ → Option (List ℕ)) (name source : List ℕ) → after name ≡ Some source
    → ((n : List ℕ) → n ≢ name → after n ≡ before n) → (other : List ℕ)
    → after other ≡ or_else (cond (bytes_eq name other) (Some source) None) (before other)
taken before after name source here others other =
    one_more before after name source other here others (bytes_eq name other) refl

or_none : (x : Option (List ℕ)) → or_else x None ≡ x
or_none (Some x) = refl
or_none None = refl

or_assoc : (x y z : Option (List ℕ)) → or_else (or_else x y) z ≡ or_else x (or_else y z)
or_assoc (Some x) y z = refl
or_assoc None y z = refl

-- Of all templates, those before `left` are read, and the bytes `rest` follow them.
pub record Reads (all : List Lengths) (bytes : List ℕ) (left : List Lengths) (rest : List ℕ)
    (sources : List ℕ → Option (List ℕ)) : Type 0 where
  pub sums : total all + length rest ≡ total left + length bytes
  pub texts : AreTexts left rest → AreTexts all bytes
  pub only : AreTexts all bytes → AreTexts left rest
  pub known : (name : List ℕ) → or_else (sources_in left rest name) (sources name) ≡ sources_in all bytes name

pub none_read : (all : List Lengths) (bytes : List ℕ) (sources : List ℕ → Option (List ℕ))
    → ((name : List ℕ) → sources name ≡ None)
    → Reads all bytes all bytes sources
none_read all bytes sources none = record {
  sums = refl;
  texts = λ t. t;
  only = λ t. t;
  known = λ name. ap (or_else (sources_in all bytes name)) (none name) ∙ or_none (sources_in all bytes name);
}

length_after : (n : Lengths) (rest : List ℕ) → length (bytes_after n rest) ≡ length rest - n.name - n.source
length_after n rest = length-drop n.source (drop n.name rest) ∙ ap (λ (k : ℕ). k - n.source) (length-drop n.name rest)

-- One more template is read.
pub one_read : (all : List Lengths) (bytes : List ℕ) (n : Lengths) (left : List Lengths) (rest : List ℕ)
    (before after : List ℕ → Option (List ℕ))
    → Reads all bytes (n ∷ left) rest before → n.name + n.source ≤ length rest
    → (AreTexts left (bytes_after n rest) → AreTexts (n ∷ left) rest)
    → ((name : List ℕ) → after name ≡ or_else (source_under n rest name) (before name))
    → Reads all bytes left (bytes_after n rest) after
one_read all bytes n left rest before after r fits texts known =
    let len = length_after n rest in
    let sums = r.sums in record {
      sums = omega arith;
      texts = λ t. r.texts (texts t);
      only = λ t. (r.only t).2;
      known = λ name. ap (or_else (sources_in left (bytes_after n rest) name)) (known name)
          ∙ (sym (or_assoc (sources_in left (bytes_after n rest) name) (source_under n rest name) (before name))
          ∙ r.known name);
    }

-- If a template is not read, the templates are not unpacked, for the same reason.
pub not_read : (all : List Lengths) (bytes : List ℕ) (n : Lengths) (left : List Lengths) (rest : List ℕ)
    (before after : Templates)
    → Reads all bytes (n ∷ left) rest (source_of before) → (e : FfiError) → IsRead n rest before after (Err e)
    → IsUnpacked all bytes (Err e)
not_read all bytes n left rest before after r ffi_error.Lengths h =
    let sums = r.sums in λ same. absurd (omega arith)
not_read all bytes n left rest before after r ffi_error.NotText h = λ t. let there = r.only t in h there.0 there.1
not_read all bytes n left rest before after r (ffi_error.Call call_error.NoMemory) h = tt
not_read all bytes n left rest before after r (ffi_error.Call e) h = absurd h
not_read all bytes n left rest before after r ffi_error.NotHeld h = absurd h
