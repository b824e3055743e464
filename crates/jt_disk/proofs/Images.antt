-- The files that a line leaves on a disk, by the contract of the program.
use Rattle.std.proofs.Common.{◌≡◌, ◌≢◌, ◌↔◌, ◌∙◌, Bool, Err, Global, List, None, Ok, Option, Some, String, ap, arith}
use Rattle.std.proofs.Common.{codes, inl, inr, refl, string_bytes, subst, sym, ℕ}
use Rattle.std.specs.Prelude.{IsSome, slice_get, unwrap_or}
use Rattle.std.specs.Str.{IsUtf8}
use Rattle.clap.specs.Words.{Row, Text as Word}
use Rattle.jt_budget.specs.declared.Budget.{Budget}
use Rattle.jt_args.specs.Line.{IsCommand}
use Rattle.jt_args.specs.declared.Command.{Command}
use Rattle.jt_args.specs.declared.Command.TheVariants as command
use Rattle.jt_args.specs.declared.UseReport.{UseReport}
use Rattle.jt_machine.specs.declared.Used.{Used}
use Rattle.jt_scan.specs.declared.Options.{Options}
use Rattle.jt_host.specs.declared.CallError.TheVariants as call_error
use Rattle.jt_program.specs.declared.Failure.{Failure}
use Rattle.jt_program.specs.declared.Failure.TheVariants as failure
use Rattle.jt_program.specs.Commands.{Answers, ChangesOnly, CommandEnds, Ending}
use Rattle.jt_program.specs.Reports.{Prints}
use Rattle.jt_program.specs.Ending.{code_of, status_of}
use Rattle.jt_program.specs.Files.{IsLibrary, IsSource, path_in}
use Rattle.jt_host.specs.Calls.{IsImage}
use Rattle.jt_disk.specs.declared.disk.Disk.{Disk}
use Rattle.jt_disk.specs.Disk.{AreNamesIn, IsName, file_at, known_of}
use Rattle.jt_disk.specs.Images.{AreTextsIn, HoldsImage, HoldsUpgrade, IfCompiled, IfUpgraded}

-- Two options with the same values are equal.
same_value : (x y : Option (List ℕ)) → ((v : List ℕ) → (x ≡ Some v) ↔ (y ≡ Some v)) → x ≡ y
same_value None None h = refl
same_value None (Some v) h = (h v).1 refl
same_value (Some v) y h = sym ((h v).0 refl)

-- A disk that changes only at one path keeps the file at every other path.
pub same_file : (old new : Disk) (out path : List ℕ) → ChangesOnly (known_of old) (known_of new) out → path ≢ out
    → file_at new path ≡ file_at old path
same_file old new out path only other =
    same_value (file_at new path) (file_at old path) (λ bytes. only path bytes other)

-- A source of a directory is the text of its file.
source_is : (disk : Disk) (dir : List ℕ) (names : List (List ℕ)) (name source : List ℕ) → AreNamesIn disk dir names
    → (o : Option (List ℕ)) → IsSource (known_of disk) dir names name o
    → (o ≡ Some source) ↔ (IsName name × (file_at disk (path_in dir name) ≡ Some source) × IsUtf8 source)
source_is disk dir names name source listed (Some text) h = (
  λ e. let same : text ≡ source = cc in (((listed name).0 h.0).0, cc, subst IsUtf8 same h.2),
  λ t. sym h.1 ∙ t.1,
)
source_is disk dir names name source listed None h = (
  λ e. absurd (cc),
  λ t. let there : IsSome (file_at disk (path_in dir name)) = rw t.1 refl in
      let found = h ((listed name).1 (t.0, there)) in
      let same : source ≡ found.0 = cc in
      absurd (found.2 (subst IsUtf8 same t.2)),
)

texts_in : (disk : Disk) (dir : List ℕ) (sources : List ℕ → Option (List ℕ)) → IsLibrary (known_of disk) dir sources
    → AreTextsIn disk dir sources
texts_in disk dir sources library name source =
    source_is disk dir library.names name source library.listed (sources name) (library.each name)

-- The names of the two commands that write are different.
two_names : codes "compile" ≡ codes "upgrade" → ⊥
two_names e = let first : 99 ≡ 117 = ap (λ (t : Word). unwrap_or (slice_get t 0) 0) e in omega (arith, first)

-- The command `explain` is none of them.
not_compile : codes "explain" ≡ codes "compile" → ⊥
not_compile e = let first : 101 ≡ 99 = ap (λ (t : Word). unwrap_or (slice_get t 0) 0) e in omega (arith, first)

not_upgrade : codes "explain" ≡ codes "upgrade" → ⊥
not_upgrade e = let first : 101 ≡ 117 = ap (λ (t : Word). unwrap_or (slice_get t 0) 0) e in omega (arith, first)

-- A line of `compile` that succeeds leaves the image.
image_held : (old new : Disk) (name : Word) (rows : List Row) (k : Command) (o : Options) (b : Budget) (n : ℕ)
    (r : UseReport) (text : String Global)
    → IsCommand name rows k o b n r
    → CommandEnds (known_of old) (known_of new) k o b (Ok text) → name ≡ codes "compile" → HoldsImage old new rows
image_held old new name rows (command.Compile dir template out) o b n r text is (only, inl unread) named = absurd unread
image_held old new name rows (command.Compile dir template out) o b n r text is (only, inr compiles) named =
    let written = compiles.written.1 in
    record {
      sources = compiles.sources;
      texts =
          subst (λ (d : List ℕ). AreTextsIn old d compiles.sources) is.1
          (texts_in old (string_bytes dir) compiles.sources compiles.library);
      options = o;
      asked = is.4;
      bytes = written.0;
      held = subst (λ (path : List ℕ). file_at new path ≡ Some written.0) is.3 written.1;
      image = subst (λ (t : List ℕ). IsImage compiles.sources t o written.0) is.2 written.2;
    }
image_held old new name rows (command.Upgrade image out) o b n r text is ends named =
    absurd (two_names (sym named ∙ is.0))
image_held old new name rows (command.Explain dir template context) o b n r text is ends named =
    absurd (not_compile (sym is.0 ∙ named))
image_held old new name rows k o b n r text is ends named = absurd (cc)

-- A line of `upgrade` that succeeds leaves the image in version 2.
upgrade_held : (old new : Disk) (name : Word) (rows : List Row) (k : Command) (o : Options) (b : Budget) (n : ℕ)
    (r : UseReport) (text : String Global)
    → IsCommand name rows k o b n r
    → CommandEnds (known_of old) (known_of new) k o b (Ok text) → name ≡ codes "upgrade" → HoldsUpgrade old new rows
upgrade_held old new name rows (command.Upgrade image out) o b n r text is (only, inl unread) named = absurd unread
upgrade_held old new name rows (command.Upgrade image out) o b n r text is (only, inr upgrades) named =
    let written = upgrades.written.1 in
    record {
      bytes = upgrades.bytes;
      was = subst (λ (path : List ℕ). file_at old path ≡ Some upgrades.bytes) is.1 upgrades.held;
      later = written.0;
      held = subst (λ (path : List ℕ). file_at new path ≡ Some written.0) is.2 written.1;
      image = written.2;
    }
upgrade_held old new name rows (command.Compile dir template out) o b n r text is ends named =
    absurd (two_names (sym is.0 ∙ named))
upgrade_held old new name rows (command.Explain dir template context) o b n r text is ends named =
    absurd (not_upgrade (sym is.0 ∙ named))
upgrade_held old new name rows k o b n r text is ends named = absurd (cc)

-- No failure has the status 0.
not_done : (e : Failure) → code_of (status_of e) ≡ 0 → ⊥
not_done (failure.Call (call_error.Fault f q)) h = absurd (omega (arith, h))
not_done e h = absurd (omega (arith, h))

-- What a line that succeeds leaves.
abbrev IsLeft : Disk → Disk → Option (Word × List Row) → Type 0
IsLeft old new found = IfCompiled old new found × IfUpgraded old new found

ended : (old new : Disk) (found : Option (Word × List Row)) (taken left : Option (List ℕ)) (sink_failed : Bool)
    (e : Ending) (used : Option Used) (status : ℕ)
    → Answers (known_of old) (known_of new) found e used
    → Prints taken left sink_failed e status → status ≡ 0 → IsLeft old new found
ended old new None taken left sink_failed e used status answers tells done = (tt, tt)
ended old new (Some c) taken left sink_failed (Ok text) used status answers tells done =
    let job = answers.job in (
      image_held old new c.0 c.1 job.command job.options job.budget job.slice job.report text answers.asked
          answers.ends,
      upgrade_held old new c.0 c.1 job.command job.options job.budget job.slice job.report text answers.asked
          answers.ends,
    )
ended old new (Some c) taken left sink_failed (Err e) used status answers tells done =
    absurd (not_done e (sym tells.0 ∙ done))

-- A line with the status 0, whose end the program reports, leaves its image.
pub is_left : (old new : Disk) (found : Option (Word × List Row)) (taken left : Option (List ℕ)) (sink_failed : Bool)
    (status : ℕ)
    → (e : Ending) × (used : Option Used) × Answers (known_of old) (known_of new) found e used
    × Prints taken left sink_failed e status
    → status ≡ 0 → IsLeft old new found
is_left old new found taken left sink_failed status (e, used, answers, tells) done =
    ended old new found taken left sink_failed e used status answers tells done
