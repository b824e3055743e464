use Rattle.jt_bind.proofs
use proofs.{name, refl, files_in, ◌≡◌, a_library, a_macro, macro_view, namespace_in, callee_in, IfOk-weaker}
use proofs.{called_there}
use Rattle.jt_bind.proofs.tables.Tables.callee_given.Goals as goal

pub returns-in-Own : goal.returns-in-Own
returns-in-Own c =
    IfOk-weaker c.macro_at.result _ _ (λ k h x e.
    let scope = c.args.self.now in
    let own = namespace_in scope in
    let b = macro_view (files_in scope) c.in-Own.found in
    let called : callee_in scope (name x) ≡ a_macro own b = rw (e, c.in-Own.is) refl in
    let there = rw c.namespace.ensures.is at h in
    rw called (rw (called_there scope c.stands.ensures (name x) own b called).0 at there)) c.macro_at.ensures

pub returns-in-Imported : goal.returns-in-Imported
returns-in-Imported c =
    IfOk-weaker c.library_macro.result _ _ (λ k h x e.
    let scope = c.args.self.now in
    let there = a_library c.in-Imported.library.now in
    let b = macro_view (files_in scope) c.in-Imported.found in
    let called : callee_in scope (name x) ≡ a_macro there b = rw (e, c.in-Imported.is) refl in
    let found = called_there scope c.stands.ensures (name x) there b called in
    rw called (rw found.0 at (h (λ m q. found.1)))) c.library_macro.ensures
