use Rattle.jt_machine.proofs.Vocabulary.{Caller, config_view, outer_view, caller_view, string_bytes}
use Rattle.std.proofs.Common.{◌≡◌, ◌∙◌, [], ◌∷◌, List, ap, sym, refl, length, arith}
use Rattle.jt_machine.specs.View.{given_view}
use Rattle.jt_machine.proofs.ReturnCorrect.{return_back, return_ends, back_same}
use Rattle.jt_machine.proofs.calls.finish.Goals as goal

pub returns-in_default : goal.returns-in_default
returns-in_default c u h =
    let none : c.args.state.now.stack.callers ≡ [] =
    sym c.take_given-given.ensures.callers ∙ c.in_default.ensures.none in
    rw c.replace-text.ensures.value (return_ends u (config_view c.args.state.now)
    (string_bytes c.args.state.now.buffer) (outer_view c.args.state.now.outer.items) none refl h)

pub resume-requires : goal.resume-requires
resume-requires c =
    omega (
      arith,
      c.requires.depth,
      c.in-Some.ensures.fewer,
      ap (λ (cs : List Caller). length cs) c.take_given-given.ensures.callers,
    )

pub returns : goal.returns
returns c u h =
    let es = c.leave.new.self.running in
    let a = caller_view c.in-Some.caller es in
    let above = c.leave.new.self.callers in
    let o = given_view c.take_given-given.result in
    let is : c.args.state.now.stack.callers ≡ a ∷ above =
    sym c.take_given-given.ensures.callers ∙ c.in-Some.ensures.some in
    rw (return_back u (config_view c.args.state.now) a above o is c.take_given-given.ensures.given h
    ∙ back_same a above o (config_view c.args.state.now) es above)
    c.resume.ensures
