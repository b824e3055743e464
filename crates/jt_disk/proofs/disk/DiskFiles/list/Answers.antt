use Rattle.std.proofs.Common.{◌≡◌, ◌∙◌, ◌++◌, ◌∷◌, [], Bor, Global, List, String, ap, map, rules, string_bytes, subst}
use Rattle.std.proofs.Common.{sym, ℕ}
use Rattle.std.specs.BTreeMap.{keys}
use Rattle.std.proofs.lemmas.List.{map_push}
use Rattle.std.proofs.lemmas.Map.Iter.{iter_end}
use Rattle.jt_program.specs.Files.{path_in}
use Rattle.jt_disk.specs.Disk.{IsName}
use Rattle.jt_disk.proofs.Names.{AreNamesOf, all_names, name_taken, no_name_taken, path_of, paths_seen}
use Rattle.jt_disk.proofs.disk.DiskFiles.list.Goals as goal

pub loop-path-preserved-in_ok-push : goal.loop-path-preserved-in_ok-push
loop-path-preserved-in_ok-push c =
    let dir = c.args.dir.now in
    let paths = map path_of c.loop-path.yielded in
    let names = map string_bytes c.loop-path.names.items in
    let path = string_bytes c.in-Some.path.now in
    let name = string_bytes c.in_ok-from_str.field-0 in
    let seen : c.as_str.result.now ≡ path = search rules in
    let is : name ≡ c.in-Some-name_in.name.now = c.in_ok-from_str.ensures.ok in
    let found = c.in-Some-name_in.ensures.name in
    let at : path ≡ path_in dir name = sym seen ∙ (found.0 ∙ ap (path_in dir) (sym is)) in
    let more = name_taken dir paths names path name c.loop-path.invariant at (subst IsName (sym is) found.1) in
    let taken : map string_bytes c.push.new.self.items ≡ names ++ name ∷ [] = ap (map string_bytes)
    c.in_ok-push.ensures.items
    ∙ map_push string_bytes c.loop-path.names.items c.in_ok-from_str.field-0 in
    subst (λ (ns : List (List ℕ)). AreNamesOf dir (map path_of (c.loop-path.yielded ++ c.in-Some.path ∷ [])) ns)
    (sym taken)
    (subst (λ (ps : List (List ℕ)). AreNamesOf dir ps (names ++ name ∷ []))
    (sym (map_push path_of c.loop-path.yielded c.in-Some.path)) more)

pub loop-path-preserved : goal.loop-path-preserved
loop-path-preserved c =
    let dir = c.args.dir.now in
    let names = map string_bytes c.loop-path.names.items in
    let path = string_bytes c.in-Some.path.now in
    let seen : c.as_str.result.now ≡ path = search rules in
    let none =
    subst (λ (p : List ℕ). (name : List ℕ) → p ≡ path_in dir name → IsName name → ⊥) seen c.in_default.ensures.none in
    let more = no_name_taken dir (map path_of c.loop-path.yielded) names path c.loop-path.invariant none in
    subst (λ (ps : List (List ℕ)). AreNamesOf dir ps names) (sym (map_push path_of c.loop-path.yielded c.in-Some.path))
    more

pub returns-clause-names : goal.returns-clause-names
returns-clause-names c =
    let disk = c.args.self.now in
    let start : c.into_iter-path-iterator.result ≡ keys disk.files = search rules in
    let seen = iter_end (λ (p : Bor (String Global)). p.now) (keys disk.files) c.loop-path.yielded
    c.into_iter-path-iterator.result c.loop-path.path-iterator c.next.new.self c.next.result start
    c.loop-path.yielded_by
    c.in-None.is c.next.ensures.steps in
    all_names disk c.args.dir.now (map path_of c.loop-path.yielded) (map string_bytes c.loop-path.names.items)
    (paths_seen c.loop-path.yielded ∙ ap (map string_bytes) seen.0)
    c.loop-path.invariant
