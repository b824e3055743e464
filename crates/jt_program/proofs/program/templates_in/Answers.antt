use Rattle.std.proofs.Common.{◌≡◌, ◌∙◌, ◌++◌, ◌∷◌, [], Err, Global, List, None, String, ap, append-nil, append_assoc}
use Rattle.std.proofs.Common.{map, rules, string_bytes, subst, sym}
use Rattle.std.specs.Prelude.{IsPermutation}
use Rattle.std.proofs.lemmas.List.{map_push}
use Rattle.std.proofs.lemmas.Result.{err_from_is_err_and}
use Rattle.jt_ast.specs.Expressions.{Text}
use Rattle.jt_program.specs.Commands.{IsPath, IsUnread}
use Rattle.jt_program.specs.Files.{AreSources, IsLibrary, path_in}
use Rattle.jt_host.specs.Templates.{source_of}
use Rattle.jt_program.proofs.Endings.{unread_listed, unread_still}
use Rattle.jt_program.proofs.SourceCollection.{listed_between, nil_of, reordered}
use Rattle.jt_program.proofs.program.templates_in.Goals as goal

pub loop-name-preserved : goal.loop-name-preserved
loop-name-preserved g c =
    let files = g.F.Files.known (g.F.Files.contents c.args.files.now) in
    let before = map string_bytes c.loop-name.yielded in
    let sources = source_of c.read_into.new.templates in
    let dir : c.as_str-in-loop-name.result.now ≡ string_bytes c.args.dir = search rules in
    let old = subst (λ (d : Text). AreSources files d before (source_of c.loop-name.templates)) (sym dir)
    c.loop-name.invariant.1 in
    let new = (rw c.loop-name.invariant.2 at c.in_ok-read_into.ensures.read) before old in
    let left = c.next.new.self.rest.items in
    let all : c.into_iter-name-iterator.result.rest.items ≡ c.loop-name.yielded ++ c.in-Some.name ∷ left =
    c.loop-name.invariant.0 ∙ ap (λ names. c.loop-name.yielded ++ names) c.in-Some.ensures.steps.0 in (
      all ∙ sym (append_assoc c.loop-name.yielded (c.in-Some.name ∷ []) left),
      subst (λ (names : List Text). AreSources files (string_bytes c.args.dir) names sources)
          (sym (map_push string_bytes c.loop-name.yielded c.in-Some.name))
          (subst (λ (d : Text). AreSources files d (before ++ string_bytes c.in-Some.name ∷ []) sources) dir new),
      c.in_ok-read_into.ensures.kept ∙ c.loop-name.invariant.2,
    )

pub returns-clause-library : goal.returns-clause-library
returns-clause-library g c =
    let files = g.F.Files.known (g.F.Files.contents c.args.files.now) in
    let dir : c.as_str.result.now ≡ string_bytes c.args.dir = search rules in
    let none : c.loop-name.name-iterator.rest.items ≡ [] = nil_of c.loop-name.name-iterator.rest.items
    c.loop-name.name-iterator.rest.len (sym c.loop-name.name-iterator.rest.ok.0) c.in-None.ensures.steps.0 in
    let all : c.into_iter-name-iterator.result.rest.items ≡ c.loop-name.yielded =
    c.loop-name.invariant.0 ∙ (ap (λ names. c.loop-name.yielded ++ names) none ∙ append-nil c.loop-name.yielded) in
    let given : c.into_iter-name-iterator.result.rest.items ≡ c.in-Ok.names.items = search rules in
    let whole : c.loop-name.yielded ≡ c.in-Ok.names.items = sym all ∙ given in
    let listed = c.in-Ok.ensures.listed in
    let sources = source_of c.loop-name.templates in
    let each = subst (λ names. AreSources files (string_bytes c.args.dir) (map string_bytes names) sources) whole
    c.loop-name.invariant.1 in
    let library : IsLibrary files (string_bytes c.args.dir) sources = record {
      names = listed.0;
      listed = subst (λ (d : Text). files.lists d listed.0) dir listed.1;
      each =
          reordered files (string_bytes c.args.dir) listed.0 (map string_bytes c.in-Ok.names.items) sources listed.2
          each;
    } in
    library

pub returns-in_err-read_into-clause-err : goal.returns-in_err-read_into-clause-err
returns-in_err-read_into-clause-err g c =
    let p = err_from_is_err_and c.from_residual.result c.from_residual.ensures.1 in
    let files = g.F.Files.known (g.F.Files.contents c.args.files.now) in
    let dir : c.as_str.result.now ≡ string_bytes c.args.dir = search rules in
    let same_dir : c.as_str-in-loop-name.result.now ≡ string_bytes c.args.dir = search rules in
    let left = c.next.new.self.rest.items in
    let all : c.into_iter-name-iterator.result.rest.items ≡ c.loop-name.yielded ++ c.in-Some.name ∷ left =
    c.loop-name.invariant.0 ∙ ap (λ names. c.loop-name.yielded ++ names) c.in-Some.ensures.steps.0 in
    let given : c.into_iter-name-iterator.result.rest.items ≡ c.in-Ok.names.items = search rules in
    let listed = c.in-Ok.ensures.listed in
    let order = subst (λ (names : List (String Global)). IsPermutation listed.0 (map string_bytes names))
    (sym given ∙ all) listed.2 in
    let there = listed_between listed.0 c.loop-name.yielded left c.in-Some.name order in
    let unread = subst (λ (d : Text).
    IsUnread files (IsPath (path_in d (string_bytes c.in-Some.name))) None (Err c.in_err-read_into.field-0.0)) same_dir
    (unread_still g.F.Files.known _ _ (IsPath (path_in c.as_str-in-loop-name.result.now (string_bytes c.in-Some.name)))
    None c.in_err-read_into.field-0.0 c.loop-name.invariant.2 c.in_err-read_into.ensures.err) in
    rw (p.1, p.2)
    (unread_listed files (string_bytes c.args.dir) listed.0 (string_bytes c.in-Some.name) c.in_err-read_into.field-0.0
    (subst (λ (d : Text). files.lists d listed.0) dir listed.1) there unread)
