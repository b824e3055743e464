use Rattle.jt_bind.proofs
use proofs.{attribute, name, ◌≡◌, Some, refl, a_library, macros, macro_of, given_to, library_of, of_namespace, cenv_in}
use proofs.{given_in, callee_in, sym, ap, ◌∙◌, arith, rules, IfOk-weaker, called_there, member_is, no_library}
use proofs.{private_is, public_is}
use Rattle.jt_bind.proofs.tables.Tables.imported_macro.Goals as goal

pub returns-in_default : goal.returns-in_default
returns-in_default c = search (arith, rules, member_is, no_library)

pub returns-then-is_private : goal.returns-then-is_private
returns-then-is_private c = search (arith, rules, member_is, private_is)

pub returns : goal.returns
returns c =
    let scope = c.args.self.now in
    let of = c.args.of.now in
    let x = c.args.name.now in
    let sources = (cenv_in scope).sources in
    let o = given_to of (given_in scope) in
    let n = c.in-Some.library.now in
    let some : library_of o ≡ Some n = rw (← c.library_named.ensures, c.in-Some.is) refl in
    let f = attribute (name of) x in
    let whole : callee_in scope f ≡ of_namespace (a_library n) (macro_of x (macros sources (a_library n))) =
    member_is sources (given_in scope) of x c.requires.not_self c.requires.not_loop
    ∙ public_is sources o x n some (sym c.is_private.ensures ∙ c.if-is_private.false) in
    IfOk-weaker c.library_macro.result _ _ (λ k h.
    rw whole
    (h (λ m q. (called_there scope c.stands.ensures f (a_library n) m (whole ∙ ap (of_namespace (a_library n)) q)).1)))
    c.library_macro.ensures
