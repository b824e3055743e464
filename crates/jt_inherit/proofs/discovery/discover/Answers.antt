use Rattle.jt_inherit.proofs.Vocabulary as words
use words.{◌≡◌, length, ap, arith, length-map, graph_of, found_namespaces, found_paths}
use words.{namespace_name, files_view, namespace_at, key_view}
use Rattle.jt_inherit.proofs.ChainComplete.{search_done}
use Rattle.jt_inherit.proofs.DiscoveryInvariant.{found_first}
use Rattle.jt_inherit.proofs.discovery.discover.Goals as goal

pub chains-init : goal.chains-init
chains-init g c =
    let f = c.in_ok-found.found in
    let i = c.in_ok-found.ensures in
    let root = ap (λ l. namespace_name (namespace_at l 0)) i.namespaces in
    record {
      found =
          found_first _ _ _ _ _ _ _ _ i.namespaces root (ap files_view i.files) (ap graph_of i.extends_paths)
          (ap graph_of i.next);
      root = root;
    }

pub returns-clause-done : goal.returns-clause-done
returns-clause-done g c =
    let f = c.chains.found in
    let is = c.chains.invariant.found in
    let paths : length (found_paths f) ≡ length (found_namespaces f) = omega (
      arith,
      c.chains-test.false,
      c.len-in-chains.ensures.len,
      c.len.ensures,
      f.extends_paths.ok.0,
      length-map f.namespaces.items.items key_view,
      is.followed.few,
      length-map f.extends_paths.items (λ v. v.items),
    ) in
    search_done f c.chains.invariant.root is paths
