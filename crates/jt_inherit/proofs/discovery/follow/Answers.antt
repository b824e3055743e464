use Rattle.jt_inherit.proofs.Vocabulary as words
use words.{rules, ◌≡◌, ◌<◌, ℕ, sym, ap, ◌∙◌, arith, length, Vec, Global, length-map, passed_on, graph_of}
use words.{found_namespaces, root_of, key_view, of_namespaces, indexed_among, map_push}
use words.{Namespace, Discovery, Some, slice_get, found_paths}
use Rattle.jt_inherit.proofs.FindingsHold.{need_finds, next_finds, library_finds}
use Rattle.jt_inherit.proofs.DiscoveryInvariant.{reached_here, found_more, has_needs}
use Rattle.jt_inherit.proofs.DiscoveryInvariant.{first_same}
use Rattle.jt_inherit.proofs.TopologicalOrder.{namespace_among}
use Rattle.jt_inherit.proofs.discovery.follow.Goals as goal

-- The next chain or library to follow.
next_here : (f : Discovery) {i : ℕ} (h : Namespace) → i ≡ f.extends_paths.len
    → slice_get (found_namespaces f) i ≡ Some h → slice_get (found_namespaces f) (length (found_paths f)) ≡ Some h
next_here f {i} h e at =
    let count : i ≡ length (found_paths f) =
    omega (arith, f.extends_paths.ok.0, length-map f.extends_paths.items (λ (v : Vec ℕ Global). v.items)) in
    rw (← count) at

pub get-namespace-requires : goal.get-namespace-requires
get-namespace-requires g c = search (arith, rules, length-map)

pub check_library-requires : goal.check_library-requires
check_library-requires g c =
    omega (arith, c.len-number.ensures, c.args.found.now.extends_paths.ok.0, c.requires.more)

pub returns-in_err-check_library-clause-refused : goal.returns-in_err-check_library-clause-refused
returns-in_err-check_library-clause-refused g c =
    let f = c.args.found.now in
    let lt : c.len-number.result < length (found_namespaces f) =
    omega (arith, c.len-number.ensures, f.extends_paths.ok.0, c.requires.more) in
    passed_on _ c.from_residual.result c.from_residual.ensures.1
    (library_finds c.requires.found _ (namespace_among (found_namespaces f) c.len-number.result lt)
    c.in_err-check_library.field-0.0 c.in_err-check_library.ensures.refused)

pub read_namespace-requires-clause-library : goal.read_namespace-requires-clause-library
read_namespace-requires-clause-library g c = search (arith, rules)

pub returns-in_err-extends_path-clause-refused : goal.returns-in_err-extends_path-clause-refused
returns-in_err-extends_path-clause-refused g c =
    let f = c.args.found.now in
    let at = next_here f _ c.len-number.ensures c.get-namespace.ensures in
    let here = c.requires.found.reached (key_view c.get-namespace.result.now)
    (indexed_among of_namespaces (found_namespaces f) (length (graph_of f.extends_paths.items))
    (key_view c.get-namespace.result.now) at) in
    passed_on _ c.from_residual-in_err-extends_path.result c.from_residual-in_err-extends_path.ensures.1 (record {
      broken = c.in_err-extends_path.ensures.0 (root_of f) here;
      says = c.in_err-extends_path.ensures.1 (root_of f) here;
    })

pub returns-in_err-read_needs-clause-refused : goal.returns-in_err-read_needs-clause-refused
returns-in_err-read_needs-clause-refused g c =
    let f = c.args.found.now in
    let at = next_here f _ c.len-number.ensures c.get-namespace.ensures in
    let p = (rw (sym c.in_ok-path.ensures.same) at c.in_ok-extends_path.ensures) in
    passed_on _ c.from_residual-in_err-read_needs.result c.from_residual-in_err-read_needs.ensures.1
    (need_finds p.read.known (reached_here c.requires.found at p) p.led c.in_err-read_needs.field-0.0
    c.in_err-read_needs.ensures.refused)

pub next_namespaces-requires-clause-path : goal.next_namespaces-requires-clause-path
next_namespaces-requires-clause-path g c = has_needs c.in_ok-path.ensures.told c.in_ok-read_needs.ensures.read

pub returns-in_err-next-clause-refused : goal.returns-in_err-next-clause-refused
returns-in_err-next-clause-refused g c =
    let f = c.args.found.now in
    let at = next_here f _ c.len-number.ensures c.get-namespace.ensures in
    let told = c.in_ok-path.ensures.told.told in
    let p = (rw (sym c.in_ok-path.ensures.same) at c.in_ok-extends_path.ensures) in
    let r = c.in_ok-read_needs.ensures.read in
    passed_on _ c.from_residual-in_err-next.result c.from_residual-in_err-next.ensures.1
    (next_finds c.requires.found at p told r c.in_err-next.field-0.0 c.in_err-next.ensures.refused)

pub returns-clause-found : goal.returns-clause-found
returns-clause-found g c =
    let f = c.args.found.now in
    let at = next_here f _ c.len-number.ensures c.get-namespace.ensures in
    let told = c.in_ok-path.ensures.told.told in
    let p = (rw (sym c.in_ok-path.ensures.same) at c.in_ok-extends_path.ensures) in
    let r = c.in_ok-read_needs.ensures.read in
    let numbers = c.in_ok-next.ensures.next in
    let longer = ap graph_of c.in_ok-push.ensures.items
    ∙ map_push (λ (v : Vec ℕ Global). v.items) f.extends_paths.items c.in_ok-path.path.extends_path in
    let longer_next = ap graph_of c.in_ok-push-2.ensures.items
    ∙ map_push (λ (v : Vec ℕ Global). v.items) f.next.items c.in_ok-next.next in
    rw (first_same c.requires.found at p told r numbers)
    (rw (longer, longer_next)
    (found_more c.requires.found at p told r c.in_ok-read_needs.ensures.met numbers))

pub returns-clause-root : goal.returns-clause-root
returns-clause-root g c =
    let f = c.args.found.now in
    let at = next_here f _ c.len-number.ensures c.get-namespace.ensures in
    let told = c.in_ok-path.ensures.told.told in
    let p = (rw (sym c.in_ok-path.ensures.same) at c.in_ok-extends_path.ensures) in
    first_same c.requires.found at p told c.in_ok-read_needs.ensures.read c.in_ok-next.ensures.next
