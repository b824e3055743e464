use Rattle.std.proofs.Common.{◌++◌, List, ℕ, ap, sym, ◌∙◌, string_bytes, append_assoc, arith, rules}
use Rattle.jt_filter_semantics.specs.Texts.{replaced_behind}
use Rattle.jt_filters.proofs.Replacements.{replaced_step, behind_utf8, replaced_nowhere}
use Rattle.jt_filters.proofs.replacing.replaced_text.Goals as goal

pub split_once-requires-text-self : goal.split_once-requires-text-self
split_once-requires-text-self c κs = c.loop-front.invariant.utf8

pub push_str-requires-2-text-string : goal.push_str-requires-2-text-string
push_str-requires-2-text-string c κs = c.loop-front.invariant.utf8

pub loop-front-preserved : goal.loop-front-preserved
loop-front-preserved c =
    let found = c.in-Some.ensures.cases in
    let old = c.args.old.now in
    let new = c.args.new.now in
    let s = c.loop-front.rest.now in
    let front = c.in-Some.front.now in
    let behind = c.in-Some.behind.now in
    let rest = replaced_behind 0 old new behind in
    let e = replaced_step old new s front behind found.0 found.1 c.requires found.2.0 found.2.1 found.3 found.4 in
    record {
      utf8 = behind_utf8 old s behind found.0 found.1 c.loop-front.invariant.utf8 found.2.1 found.4;
      same =
          ap (λ (t : List ℕ). t ++ rest)
          (c.in_ok-push_str-2.ensures.bytes ∙ ap (λ (t : List ℕ). t ++ new) c.in_ok-push_str.ensures.bytes)
          ∙ append_assoc (string_bytes c.loop-front.replaced ++ front) new rest
          ∙ append_assoc (string_bytes c.loop-front.replaced) front (new ++ rest)
          ∙ ap (λ (t : List ℕ). string_bytes c.loop-front.replaced ++ t) (sym e)
          ∙ c.loop-front.invariant.same;
    }

pub returns : goal.returns
returns c = search (arith, rules, replaced_nowhere)
