use Rattle.jt_inherit.proofs.Vocabulary as words
use words.{rules, ◌≡◌, ◌<◌, length, sym, ap, ◌∙◌, arith, string_bytes}
use words.{length-map, slice_get_within, templates_at, is_no_library}
use words.{file_view, names, its_files}
use Rattle.jt_inherit.proofs.FindingsHold.{asked_turn, cycle_placed, extends_told, fault_placed, long_placed}
use Rattle.jt_inherit.proofs.FindingsHold.{refused_all, there_on}
use Rattle.jt_inherit.proofs.StoreLookup.{library_known, library_read}
use Rattle.jt_inherit.proofs.NumberTables.{is_chain, is_library}
use Rattle.jt_inherit.proofs.PathsGrow.{cycle_breaks, long_breaks, fault_breaks, file_there, path_turn, read_step}
use Rattle.jt_inherit.proofs.PathsGrow.{way_step}
use words.error
use Rattle.jt_inherit.proofs.extends_path.read_namespace.Goals as goal

pub library_path-requires : goal.library_path-requires
library_path-requires g c = search (arith, rules, is_library, names, library_known)

pub returns-then-namespace : goal.returns-then-namespace
returns-then-namespace g c =
    let ts = its_files c.args.store.now in
    let k = c.args.namespace.now in
    let key = is_library k c.if-namespace.true in
    let at = (rw c.deref.ensures at c.in_ok-library_path.ensures) in
    rw key (library_read c.requires.known (string_bytes k.name) (sym (ap (is_no_library ts) key)
    ∙ c.requires.library) at.0 at.1
    at.2)

pub cycle_finding-requires : goal.cycle_finding-requires
cycle_finding-requires g c = search (arith, rules)

pub returns-in-Some : goal.returns-in-Some
returns-in-Some g c =
    let l = c.path in
    let f = c.in_ok-cycle_finding.field-0 in
    let k = c.in-Some.start in
    let on = (rw (c.deref-in-path.ensures.value, c.deref-in-path-2.ensures) at c.in-Some.ensures) in
    let told = (rw c.deref-in-Some.ensures.value at c.in_ok-cycle_finding.ensures) in
    refused_all l.invariant.read c.args.namespace.now c.if-namespace.false error.ExtendsCycle f told.error
    (λ root r. cycle_breaks l.invariant.read.known r l.invariant.led
    (there_on _ l.extends_path.items k (string_bytes l.asked.name) on))
    (λ root r. cycle_placed l.invariant.read.known r l.invariant.led on l.asked.place l.invariant.tagged f told.place
    told.subject)

pub returns-then-len-eq-MAX_TEMPLATES : goal.returns-then-len-eq-MAX_TEMPLATES
returns-then-len-eq-MAX_TEMPLATES g c =
    let l = c.path in
    let f = c.long_finding.result in
    let told = c.long_finding.ensures in
    let full : length l.extends_path.items ≡ 64 = search (arith, rules) in
    let new = (rw (c.deref-in-path.ensures.value, c.deref-in-path-2.ensures) at c.in_default.ensures) in
    refused_all l.invariant.read c.args.namespace.now c.if-namespace.false error.ChainTooLong f told.error
    (λ root r. long_breaks l.invariant.read.known r l.invariant.led full new)
    (λ root r. long_placed l.invariant.read.known r l.invariant.led full new l.asked.place l.invariant.tagged f
    told.place told.subject)

pub returns-in-Err : goal.returns-in-Err
returns-in-Err g c =
    let l = c.path in
    let e = c.in-Err.error in
    let f = c.name_finding.result in
    let fault = (rw c.deref-in-path-3.ensures at c.in-Err.ensures.refused) in
    let told = c.name_finding.ensures in
    refused_all l.invariant.read c.args.namespace.now c.if-namespace.false e f told.0
    (λ root r. fault_breaks l.invariant.read.known r l.invariant.led e fault)
    (λ root r. fault_placed l.invariant.read.known r l.invariant.led e fault l.asked.place l.invariant.tagged f.place
    f.subject told.1)

pub index-requires : goal.index-requires
index-requires g c = search (arith, rules, slice_get_within, names, length-map)

pub returns-in-None : goal.returns-in-None
returns-in-None g c =
    let l = c.path in
    let at = file_there c.read.new.self.files.items c.in-Ok.index c.in-Ok.ensures.index c.index.ensures in
    let r = (rw c.deref-in-path-3.ensures at c.in-Ok.ensures.read) in
    let named = at.1 ∙ c.deref-in-path-3.ensures in
    let new = (rw (c.deref-in-path.ensures.value, c.deref-in-path-2.ensures) at c.in_default.ensures) in
    let few : length l.extends_path.items < 64 = search (arith, rules) in
    let root = (rw c.in-None.is at c.in_ok-parent.ensures) in
    record {
      read = read_step l.invariant.read r l.invariant.led c.in-Ok.index at.0 named c.in_ok-push.ensures.items;
      led =
          rw (is_chain c.args.namespace.now c.if-namespace.false)
          (way_step l.invariant.read r l.invariant.led c.in-Ok.index at.0 named c.in_ok-push.ensures.items new few
          (sym root));
    }

pub path-preserved : goal.path-preserved
path-preserved g c =
    let l = c.path in
    let us = its_files c.read.new.self in
    let at = file_there c.read.new.self.files.items c.in-Ok.index c.in-Ok.ensures.index c.index.ensures in
    let r = (rw c.deref-in-path-3.ensures at c.in-Ok.ensures.read) in
    let named = at.1 ∙ c.deref-in-path-3.ensures in
    let new = (rw (c.deref-in-path.ensures.value, c.deref-in-path-2.ensures) at c.in_default.ensures) in
    let few : length l.extends_path.items < 64 = search (arith, rules) in
    let p = c.in-Some-2.parent in
    let parent = (rw c.in-Some-2.is at c.in_ok-parent.ensures) in
    record {
      read = read_step l.invariant.read r l.invariant.led c.in-Ok.index at.0 named c.in_ok-push.ensures.items;
      led =
          way_step l.invariant.read r l.invariant.led c.in-Ok.index at.0 named c.in_ok-push.ensures.items new few
          (sym (extends_told (file_view c.index.result.now) (string_bytes p.name) p.place parent));
      tagged =
          asked_turn (templates_at us c.push.new.self.items) _ (file_view c.index.result.now) (string_bytes p.name)
          p.place (path_turn l.invariant.read r l.invariant.led c.in-Ok.index at.0 named c.in_ok-push.ensures.items)
          parent;
    }
