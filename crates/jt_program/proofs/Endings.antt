-- The ends of lines and commands, from the ends of their parts.
use Rattle.std.proofs.Common.{◌≡◌, ◌≢◌, ◌⊎◌, Contains, inl, inr, ⊎_elim, ℕ, List, Option, None, Some, String, Global}
use Rattle.std.proofs.Common.{Bool, Err, IfErr, Result, ap, arith, codes, option_map, refl, string_bytes, subst}
use Rattle.std.proofs.lemmas.Result.{IfErr-weaker}
use Rattle.std.specs.Io.KnownBytes.{Keeps}
use Rattle.clap.specs.Words.{Row, Text as Word}
use Rattle.jt_scan.specs.declared.Options.{Options}
use Rattle.jt_inherit.specs.Chains.{SourceTexts}
use Rattle.jt_ast.specs.Expressions.{Text}
use Rattle.jt_args.specs.Line.{HasText, IsAsked, IsCommand, word_of}
use Rattle.jt_args.specs.declared.Command.{Command}
use Rattle.jt_args.specs.declared.Command.TheVariants as command
use Rattle.jt_args.specs.declared.Job.{Job}
use Rattle.jt_args.specs.declared.JobError.{JobError}
use Rattle.jt_args.specs.declared.JobError.TheVariants as job_error
use Rattle.jt_args.specs.declared.UseReport.{UseReport}
use Rattle.jt_budget.specs.declared.Budget.{Budget}
use Rattle.jt_machine.specs.declared.Used.{Used}
use Rattle.jt_host.specs.declared.CallError.TheVariants as call_error
use Rattle.jt_program.specs.declared.messages.Failure.{Failure}
use Rattle.jt_program.specs.declared.messages.Failure.TheVariants as failure
use Rattle.jt_program.specs.Commands.{Answers, ChangesOnly, CommandEnds, Compiles, Ending, IsOfContext, IsPath}
use Rattle.jt_program.specs.Commands.{IsUnread, IsWriting, JobEnds, LineEnds, LineWrites, Upgrades, WritesImage, out_of}
use Rattle.jt_program.specs.Ending.{HasUsage, code_of, of_line, status_of}
use Rattle.jt_program.specs.Reports.{ReportsFailure, ReportsUsage}
use Rattle.jt_program.specs.declared.messages.Status.TheVariants as status
use Rattle.jt_program.specs.Files.{IsLibrary, IsOfDirectory, Known, path_in}
use Rattle.jt_program.proofs.Uses.{job_unused}

-- An input that is missing among files is missing among files with the same contents.
pub unread_still : {C : Type 0} (known : C → Known) (new old : C) (asks : Text → Type 0)
    (context : Option (String Global)) (e : Failure)
    → new ≡ old → IsUnread (known new) asks context (Err e) → IsUnread (known old) asks context (Err e)
unread_still {C} known new old asks context e same h =
    subst (λ (contents : C). IsUnread (known contents) asks context (Err e)) same h

module _ (files : Known) where
  -- An input that is missing among some files is also missing among more files.
  pub unread_more : (asks more : Text → Type 0) (context : Option (String Global)) (e : Failure)
      → ((path : Text) → asks path → more path ⊎ IsOfContext context path)
      → IsUnread files asks None (Err e) → IsUnread files more context (Err e)
  unread_more asks more context (failure.File path) among h =
      (h.0, ⊎_elim (λ asked. among (string_bytes path) asked) (λ none. absurd none) h.1)
  unread_more asks more context (failure.Call call_error.NoMemory) among h = tt
  unread_more asks more context (failure.Call (call_error.Context e)) among h = absurd h
  unread_more asks more context e among h = absurd h

  -- A listed file that fails, or lack of memory, is a missing input of its directory.
  pub unread_listed : (dir : Text) (names : List Text) (name : Text) (e : Failure) → files.lists dir names
      → Contains names name
      → IsUnread files (IsPath (path_in dir name)) None (Err e) → IsUnread files (IsOfDirectory files dir) None (Err e)
  unread_listed dir names name e listed there h =
      unread_more (IsPath (path_in dir name)) (IsOfDirectory files dir) None e
      (λ path asked. inl (inr (names, name, listed, there, asked))) h

  -- If the file for an image fails, or memory runs out, `compile` ends so.
  pub unwritten : (after : Known) (dir name out : Text) (options : Options) (sources : SourceTexts) (e : Failure)
      → IsLibrary files dir sources
      → IsUnread files (IsPath out) None (Err e)
      → IsUnread files (IsOfDirectory files dir) None (Err e) ⊎ Compiles files after dir name out options (Err e)
  unwritten after dir name out options sources (failure.File path) library h =
      let at : string_bytes path ≡ out = ⊎_elim (λ asked. asked) (λ none. absurd none) h.1 in
      let compiles : Compiles files after dir name out options (Err (failure.File path)) = record {
        sources = sources;
        library = library;
        written = (at, subst files.fails at h.0);
      } in
      inr compiles
  unwritten after dir name out options sources (failure.Call call_error.NoMemory) library h = inl tt
  unwritten after dir name out options sources (failure.Call (call_error.Context e)) library h = absurd h
  unwritten after dir name out options sources e library h = absurd h

  -- If the file for an image in version 2 fails, or memory runs out, `upgrade` ends so.
  pub not_rewritten : (after : Known) (image out : Text) (bytes : List ℕ) (e : Failure) → files.holds image bytes
      → IsUnread files (IsPath out) None (Err e)
      → IsUnread files (IsPath image) None (Err e) ⊎ Upgrades files after image out (Err e)
  not_rewritten after image out bytes (failure.File path) held h =
      let at : string_bytes path ≡ out = ⊎_elim (λ asked. asked) (λ none. absurd none) h.1 in
      let upgrades : Upgrades files after image out (Err (failure.File path)) =
      record { bytes = bytes; held = held; written = (at, subst files.fails at h.0) } in
      inr upgrades
  not_rewritten after image out bytes (failure.Call call_error.NoMemory) held h = inl tt
  not_rewritten after image out bytes (failure.Call (call_error.Context e)) held h = absurd h
  not_rewritten after image out bytes e held h = absurd h

module _ (files after : Known) (found : Option (Word × List Row)) where
  -- The end of a job is the end of its line.
  pub line_ends : (e : Ending) (used : Option Used) → Answers files after found e used
      → LineEnds files after found e used
  line_ends (Err (failure.Usage text)) used a =
      job_unused files a.job.report a.job.command a.job.options a.job.budget (Err (failure.Usage text)) used refl a.uses
  line_ends (Err (failure.Call call_error.NoMemory)) used a =
      job_unused files a.job.report a.job.command a.job.options a.job.budget (Err (failure.Call call_error.NoMemory))
      used refl a.uses
  line_ends e used a = a

  -- A line that is not taken reports nothing as used.
  pub line_failed : (e : JobError) (used : Option Used) → used ≡ None
      → LineEnds files after found (Err (of_line e)) used
  line_failed (job_error.Usage text) used none = none
  line_failed job_error.NoMemory used none = none

  -- If memory ran out, nothing is reported as used.
  pub unused_memory : (e : Failure) (used : Option Used) → code_of (status_of e) ≡ 6
      → LineEnds files after found (Err e) used → used ≡ None
  unused_memory (failure.Usage text) used six h = h
  unused_memory (failure.Call call_error.NoMemory) used six h = h
  unused_memory e used six h = absurd (omega (arith, six))

  -- If the line is not taken, nothing is reported as used.
  pub unused_usage : (e : Failure) (used : Option Used) → code_of (status_of e) ≡ 2
      → (status_of e ≡ status.Usage → HasUsage e)
      → LineEnds files after found (Err e) used → used ≡ None
  unused_usage (failure.Usage text) used two told h = h
  unused_usage failure.Words used two told h = absurd (told refl)
  unused_usage (failure.Call call_error.NoMemory) used two told h = h
  unused_usage e used two told h = absurd (omega (arith, two))

  -- The end of a line is that of its job, unless it is the usage or lack of memory.
  pub job_ends : (e : Failure) (used : Option Used) → code_of (status_of e) ≢ 2 → code_of (status_of e) ≢ 6
      → LineEnds files after found (Err e) used
      → Answers files after found (Err e) used
  job_ends (failure.Usage text) used u m h = absurd (u refl)
  job_ends (failure.Call call_error.NoMemory) used u m h = absurd (m refl)
  job_ends e used u m h = h

-- A line that is not taken fails with a text that is not empty.
pub line_told : (e : JobError) → HasText e → status_of (of_line e) ≡ status.Usage → HasUsage (of_line e)
line_told (job_error.Usage text) told usage = told
line_told job_error.NoMemory told usage = absurd (cc)

-- A job never fails with the usage.
pub job_told : {T : Type 0} (r : Result T Failure)
    → IfErr r (λ e. (status_of e ≢ status.Usage) × (e ≢ failure.Output))
    → IfErr r (λ e. status_of e ≡ status.Usage → HasUsage e)
job_told r other = IfErr-weaker r _ _ (λ e h usage. absurd (h.0 usage)) other

-- The usage is reported by its text.
pub usage_told : (e : Failure) (old new : Option (List ℕ)) (f : Bool) → code_of (status_of e) ≡ 2
    → (status_of e ≡ status.Usage → HasUsage e)
    → ReportsFailure old new f e → ReportsUsage old new f
usage_told (failure.Usage text) old new f two told says = (string_bytes text, told refl, says)
usage_told failure.Words old new f two told says = absurd (told refl)
usage_told (failure.Call call_error.NoMemory) old new f two told says = absurd (omega (arith, two))
usage_told e old new f two told says = absurd (omega (arith, two))

-- A command that writes an image has the name of one that does.
named : (name : Word) (rows : List Row) (k : Command) (o : Options) (b : Budget) (n : ℕ) (r : UseReport)
    → IsCommand name rows k o b n r
    → IsWriting k → (name ≡ codes "compile") ⊎ (name ≡ codes "upgrade")
named name rows (command.Compile dir template out) o b n r h is = inl h.0
named name rows (command.Upgrade image out) o b n r h is = inr h.0
named name rows k o b n r h is = absurd is

-- If a line is one of neither command that writes an image, its job writes none.
pub not_writing : (found : Option (Word × List Row)) (j : Job) → IsAsked found j
    → (option_map (λ c. c.0) found ≡ Some (codes "compile") → ⊥)
    → (option_map (λ c. c.0) found ≡ Some (codes "upgrade") → ⊥)
    → IsWriting j.command → ⊥
not_writing None j asked compiles upgrades writes = absurd asked
not_writing (Some c) j asked compiles upgrades writes =
    ⊎_elim (λ e. compiles (ap Some e)) (λ e. upgrades (ap Some e))
    (named c.0 c.1 j.command j.options j.budget j.slice j.report asked writes)

module _ (files after : Known) where
  -- A command changes no file except OUT, if a command that writes no image changes none.
  only_of : (name : Word) (rows : List Row) (k : Command) (o : Options) (b : Budget) (n : ℕ) (r : UseReport)
      (e : Ending)
      → IsCommand name rows k o b n r → CommandEnds files after k o b e
      → ((IsWriting k → ⊥) → ChangesOnly files after (word_of (codes "OUT") rows))
      → ChangesOnly files after (word_of (codes "OUT") rows)
  only_of name rows (command.Compile dir template out) o b n r e is ends kept =
      subst (ChangesOnly files after) is.3 ends.0
  only_of name rows (command.Upgrade image out) o b n r e is ends kept = subst (ChangesOnly files after) is.2 ends.0
  only_of name rows k o b n r e is ends kept = kept (λ writes. writes)

  -- A line changes no file except OUT, if a job that writes no image changes none.
  pub only_out : (found : Option (Word × List Row)) (j : Job) (e : Ending) → IsAsked found j → JobEnds files after j e
      → ((IsWriting j.command → ⊥) → ChangesOnly files after (out_of found))
      → ChangesOnly files after (out_of found)
  only_out None j e asked ends kept = absurd asked
  only_out (Some c) j e asked ends kept =
      only_of c.0 c.1 j.command j.options j.budget j.slice j.report e asked ends kept

-- If a job has an image to write, its line has one.
pub line_writes : {A : Type 0} (files : Known) (found : Option (Word × List Row)) (j : Job) → IsAsked found j
    → A ⊎ WritesImage files j.command j.options → A ⊎ LineWrites files found
line_writes files found j asked (inl same) = inl same
line_writes files found j asked (inr writes) = inr (record { job = j; asked = asked; writes = writes })

-- Files that are the same differ at no path.
pub same_files : (files : Known) (path : Text) → ChangesOnly files files path
same_files files path other bytes differs = (λ h. h, λ h. h)

-- What is known is kept if nothing changes.
pub keeps_itself : (known : Option (List ℕ)) → Keeps known known
keeps_itself None = tt
keeps_itself (Some bytes) = refl
