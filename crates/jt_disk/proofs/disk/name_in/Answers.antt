use Rattle.std.proofs.Common.{◌≡◌, ◌≢◌, ◌∙◌, ◌++◌, ◌∷◌, List, None, Some, ap, arith, sym, ℕ}
use Rattle.std.proofs.lemmas.List.{append_cancel_left}
use Rattle.std.proofs.lemmas.Str.Pattern.{contains_char, strip_prefix_char}
use Rattle.jt_disk.proofs.Names.{same_name, slash_at, slash_from, stripped}
use Rattle.jt_disk.proofs.disk.name_in.Goals as goal

pub returns-in_err-name-clause-none : goal.returns-in_err-name-clause-none
returns-in_err-name-clause-none c =
    let rest = c.in_ok-strip_prefix.field-0.now in
    let at : c.args.path.now ≡ c.args.dir.now ++ rest =
    stripped c.args.dir.now c.args.path.now rest c.in_ok-strip_prefix.ensures.cases in
    let lacks : (name : List ℕ) → rest ≢ 47 ∷ name =
    strip_prefix_char 47 rest None c.in_err-name.ensures.cases (omega arith) in
    rw c.from_residual-in_err-name.ensures
    (λ name e is. lacks name (append_cancel_left c.args.dir.now rest (47 ∷ name) (sym at ∙ e)))

pub returns-then-contains-clause-none : goal.returns-then-contains-clause-none
returns-then-contains-clause-none c name e is =
    let rest = c.in_ok-strip_prefix.field-0.now in
    let at : c.args.path.now ≡ c.args.dir.now ++ rest =
    stripped c.args.dir.now c.args.path.now rest c.in_ok-strip_prefix.ensures.cases in
    let behind : rest ≡ 47 ∷ c.in_ok-name.name.now =
    strip_prefix_char 47 rest (Some c.in_ok-name.name) c.in_ok-name.ensures.cases (omega arith) in
    let same : c.in_ok-name.name.now ≡ name =
    same_name c.args.dir.now c.in_ok-name.name.now name (sym (ap (λ r. c.args.dir.now ++ r) behind) ∙ (sym at ∙ e)) in
    let slash = slash_from c.in_ok-name.name.now
    ((contains_char 47 c.in_ok-name.name.now c.contains.result c.contains.ensures.cases (omega arith)).0
    c.if-contains.true) in
    is (rw same at slash)

pub returns-clause-name : goal.returns-clause-name
returns-clause-name c =
    let rest = c.in_ok-strip_prefix.field-0.now in
    let at : c.args.path.now ≡ c.args.dir.now ++ rest =
    stripped c.args.dir.now c.args.path.now rest c.in_ok-strip_prefix.ensures.cases in
    let behind : rest ≡ 47 ∷ c.in_ok-name.name.now =
    strip_prefix_char 47 rest (Some c.in_ok-name.name) c.in_ok-name.ensures.cases (omega arith) in (
      at ∙ ap (λ r. c.args.dir.now ++ r) behind,
      λ slash. let found = slash_at c.in_ok-name.name.now slash in
          let true_here = (contains_char 47 c.in_ok-name.name.now c.contains.result c.contains.ensures.cases
          (omega arith)).1 found.0 found.1 found.2 in
          absurd (cc),
    )
