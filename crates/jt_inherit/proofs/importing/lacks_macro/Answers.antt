use Rattle.jt_inherit.proofs.Vocabulary as words
use words.{◌≡◌, ◌<◌, ◌≤◌, ◌&&◌, true, false, not, length, get_or, sym, ap, ◌∙◌, is_some, body_of, holds_macros}
use words.{public_macro, library_macros, string_bytes}
use Rattle.jt_inherit.proofs.StoreLookup.{file_lacks, no_file_lacks}
use Rattle.jt_inherit.proofs.importing.lacks_macro.Goals as goal

pub returns-then-is_library : goal.returns-then-is_library
returns-then-is_library c =
    let whole = c.args.chain.now in
    let ps = whole.templates.items in
    let i = c.file_named.result in
    let p = c.in-Some.file.now in
    let x = c.args.name.now in
    let found = c.in-Some.ensures.lookup.3 in
    let lt : i < length ps = rw c.deref.ensures.value at found.0 in
    let is : p ≡ get_or ps i p = rw c.deref.ensures.value at (found.1 p) in
    let held : holds_macros (body_of p.template) ≡ true = sym c.is_library.ensures ∙ c.if-is_library.true in
    sym (file_lacks ps c.args.library.now x i c.file_named.ensures whole.once p lt is
    ∙ ap (λ b. b && not (is_some (public_macro x (library_macros (string_bytes p.name) (body_of p.template))))) held
    ∙ ap not (sym c.gives.ensures))

pub returns-else-is_library : goal.returns-else-is_library
returns-else-is_library c =
    let whole = c.args.chain.now in
    let ps = whole.templates.items in
    let i = c.file_named.result in
    let p = c.in-Some.file.now in
    let x = c.args.name.now in
    let found = c.in-Some.ensures.lookup.3 in
    let lt : i < length ps = rw c.deref.ensures.value at found.0 in
    let is : p ≡ get_or ps i p = rw c.deref.ensures.value at (found.1 p) in
    let held : holds_macros (body_of p.template) ≡ false = sym c.is_library.ensures ∙ c.if-is_library.false in
    c.if-is_library.false ∙ sym (file_lacks ps c.args.library.now x i c.file_named.ensures whole.once p lt is
    ∙ ap (λ b. b && not (is_some (public_macro x (library_macros (string_bytes p.name) (body_of p.template))))) held)

pub returns-in-None : goal.returns-in-None
returns-in-None c =
    let whole = c.args.chain.now in
    let ps = whole.templates.items in
    let i = c.file_named.result in
    let le : length ps ≤ i = rw c.deref.ensures.value at c.in-None.ensures.lookup.3 in
    sym (no_file_lacks ps c.args.library.now c.args.name.now i c.file_named.ensures le)
