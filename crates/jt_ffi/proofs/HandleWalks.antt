-- Handles of any kind: structs of a pointer and a flag that own a boxed value of one type, or nothing. Each method is
-- proved once, by a walk through its code.
use Rattle.core.proofs.alloc.Calls.{handle_tells}
use Rattle.jt_ffi.specs.Owning.{handle_owns, held_owns}
use Rattle.std.proofs.Common.{◌≡◌, [], ℕ, map, List, ◌∷◌, Bool, Option, subst, sym, refl, ◌++◌, true, Some, ◌≢◌, ap}
use Rattle.std.proofs.Common.{false, None, ◌∙◌}
use Rattle.std.proofs.raw_atomic.Walks.{proved, proved_at}
use Rattle.std.specs.Box.Ownership.{box_owns}
use Rattle.std.specs.Prelude.{is_some}
use Rattle.std.specs.contracts.impls.GlobalAllocator.TheImpl.{ghosts, dict}
use Rattle.std.specs.declared.alloc.Global.{Global}
use Rattle.std_alloc.proofs.BoxSteps.Form.{Bx, D, B, word, box_typed}
use Rattle.std_alloc.proofs.BoxSteps.Steps.{box_out, box_in}
use base.Fml.{fsep, ftrue, flft, Fml}
use base.Fraction.{full_share}
use base.Logic.{ent, id⊢, guard_i, SProp, never, fst∗, emp, ex, guard}
use contract.Monad.{fact, fact_use}
use contract.Notation.{connectives}
use contract.Running.{MachineTables, Running, tables}
use denote.Builtin.{RefMutOf, bool, unit}
use denote.Exit.{yes}
use denote.Laws.{Is, shows}
use denote.Memory.{lone, cell_at}
use denote.Param.{param}
use denote.Param.Laws.{Laws}
use denote.RattleType.{RattleType}
use denote.RawPtr.{Ptr, block_ptr, null_ptr, in_a_block, RawPtr, ptr_val}
use denote.Ref.{MutRef, mut_vals, mut_Tells}
use denote.Shadow.{makes_shadow}
use denote.Signature.{Signature, plain, Slot}
use denote.Steps.{nothing, opens, closes, peeks, heard}
use denote.Struct.Field.{RawPtr-field, bool-field}
use denote.Struct.Laws.{RawPtr-laws, bool-laws}
use denote.Struct.Owning.{Owning, row}
use denote.Struct.OwningLaws.{Tells-lowered}
use denote.Struct.Struct.{Struct}
use denote.Triple.Clauses.{Ended, Clauses, closing}
use denote.Triple.Spec.{Meets}
use denote.Triple.Walked.{Stays, walk_of, says, stay_ref, Goes-ref, ends_at, stay_dropped, Goes-dropped}
use mir.Raw.{raw as bare}
use mir.Syntax.{Body, Place, Ty, Callee, Fn, assign, copy, deref, field, local, mut, named, place, return, rv_opd}
use mir.Syntax.{seq, tnil, ty_bool, ty_named, ty_ref, value_local, aggregate, opd_false, opd_true, opd_unit, ty_ptr}
use mir.Syntax.{ty_unit, dnil, impl}
use mir.Val.{Val, vbool, vunit, vptr, vstruct, vcons, vnil}
use prog.Model.{Model}
use prog.Wp.{Closed, WpFn}
use seplogic.Ra.Ura.{Ura}
use types.ByLocal.{alloc_all, pass_all, free_all, look_at, through, sets, get, get_in}
use types.Kit.{‵, ◌⊛◌, given, ◌$◌, ◌∵◌, !, qed, done, move, keep, use1, split, join, fsplit, fsplit3, fjoin, feq_i}
use types.Kit.{learn, rewrite, suffices, frame, group, raw, prop, drop, use0, fpack, regoal, some, fpick, pick, feq_l}
use types.Kit.{show, check}
use types.Logic.{Logic, sem}
use types.Part.{whole, sub, look_in, store_in, agg}
use types.Run.{enter, of_opd, load, stop, fld, returns, unit_lit, true_lit, assigns, false_lit, no_more, and_then}
use Rattle.jt_ffi.specs.contracts.parts.Parts as Parts
use Rattle.std_heap.proofs.Global.TheLaws as heap
use Rattle.std_heap.specs.contracts.Global as Heap

-- A box in the C library's heap.
abbrev boxed : (R : RattleType) → Laws R → Bx
boxed R L = record {
  row = R;
  laws = L;
  al = record { row = Heap.the_row; laws = heap.the_row_laws; g = ghosts; d = dict; drops = impl [] tnil dnil };
}

abbrev handle_val : Ptr → Bool → Val
handle_val p f = vstruct (vcons (ptr_val p) (vcons (vbool f) vnil))

abbrev handle_own : Ptr → Bool → List Val → Fml
handle_own p f =
    (Struct (record { name = []; args = []; types = []; fields = RawPtr ∷ bool ∷ [] })).own_val (p, (f, tt))

handle_made : {M : Type 1} {𝓤 : Ura M} (𝓛 : Logic 𝓤) (p : Ptr) (f : Bool)
    → ent 𝓤 (emp 𝓤) (sem 𝓛 (handle_own p f (handle_val p f ∷ [])))
handle_made 𝓛 p f =
    makes_shadow 𝓛 (handle_own p f (handle_val p f ∷ [])) (λ _. (tt, (tt, (tt, tt))))
    ((ptr_val p ∷ [], (vbool f ∷ [], tt)), (refl, (refl, (refl, tt))))

module _ (R : RattleType) {M : Type 1} {𝓤 : Ura M} (𝓛 : Logic 𝓤) (p : Ptr) (f : Bool) where
  -- The flag is set exactly if something is held.
  full_says : (m : Option R.Denot) → ent 𝓤 (sem 𝓛 (handle_owns R f p m)) (fact 𝓤 (f ≡ is_some m))
  full_says (Some x) = fst∗ 𝓤 (fact 𝓤 (f ≡ true)) (sem 𝓛 (held_owns R p x))
  full_says None = id⊢ 𝓤 (fact 𝓤 (f ≡ false))

  -- What is held lies in a box.
  held_there : (m : Option R.Denot) → m ≢ None
      → ent 𝓤 (sem 𝓛 (handle_owns R f p m)) (ex 𝓤 (λ (x : R.Denot). guard 𝓤 (m ≡ Some x) (sem 𝓛 (held_owns R p x))))
  held_there (Some x) there = qed 𝓛 (‵ (handle_owns R f p (Some x)) ∷ []) ∵ fsplit ! $ feq_l ! (λ _.
      show ! (λ (y : R.Denot). guard 𝓤 (Some x ≡ Some y) (sem 𝓛 (held_owns R p y))) x $ check ! refl $ done !)
  held_there None there = absurd (there refl)

-- A kind of handles: the type that they hold, the handles' own type, and how a handle is made.
pub record Kind : Type 2 where
  pub content : RattleType
  pub laws : Laws content
  pub type : Owning
  pub fields : type.D → Ptr × (Bool × Unit {0})
  pub held : type.D → Option content.Denot
  pub make : Ptr → Bool → Option content.Denot → type.D
  pub made : (p : Ptr) (f : Bool) (m : Option content.Denot) → fields (make p f m) ≡ (p, (f, tt))
  pub held_made : (p : Ptr) (f : Bool) (m : Option content.Denot) → held (make p f m) ≡ m

module _ (K : Kind) where
  abbrev E : Bx
  E = boxed K.content K.laws

  -- What a handle holds, and the parts of its box.
  abbrev C : RattleType
  C = param 0 K.content

  abbrev PartsOf : RattleType
  PartsOf = Parts.the_row C Heap.the_row ghosts

  abbrev at : K.type.D → Ptr
  at d = (K.fields d).0

  abbrev full : K.type.D → Bool
  full d = (K.fields d).1.0

  -- The handles of a kind, which are `K.type` as that computes.
  abbrev handles : Owning
  handles = record {
    name = K.type.name;
    args = [];
    types = [];
    parts = RawPtr-field ∷ bool-field ∷ [];
    D = K.type.D;
    as_values = K.fields;
    coded = K.type.coded;
    heap = λ d. handle_owns C (full d) (at d) (K.held d);
    exit = K.type.exit;
    shr_at = K.type.shr_at;
  }

  abbrev R : RattleType
  R = row handles

  val_is : (d : K.type.D) (vs : List Val) → Is R d vs → vs ≡ handle_val (at d) (full d) ∷ []
  val_is = Tells-lowered handles (RawPtr-laws, (bool-laws, tt))

  -- A handle owns what its fields own and what it holds.
  kept : {M : Type 1} {𝓤 : Ura M} (𝓛 : Logic 𝓤) (p : Ptr) (f : Bool) (m : Option C.Denot) (vs : List Val)
      → ent 𝓤 (sem 𝓛 (fsep (handle_own p f vs) (handle_owns C f p m))) (sem 𝓛 (R.own_val (K.make p f m) vs))
  kept {M} {𝓤} 𝓛 p f m vs =
      let Kept : Ptr × (Bool × Unit {0}) → Option C.Denot → Type 1 = λ z x.
      ent 𝓤 (sem 𝓛 (fsep (handle_own p f vs) (handle_owns C f p m)))
      (sem 𝓛 (fsep (handle_own z.0 z.1.0 vs) (handle_owns C z.1.0 z.0 x))) in
      subst (Kept (K.fields (K.make p f m))) (sym (K.held_made p f m))
      (subst (λ (z : Ptr × (Bool × Unit {0})). Kept z m) (sym (K.made p f m)) (id⊢ 𝓤 _))

  -- The code of each method.
  abbrev in_self : ℕ → Place
  in_self i = place 1 (deref (lone R.mir) ∷ field i ∷ [])

  abbrev method : ℕ → Ty → List Ty → Body → Fn
  method params result others body = record {
    lifetimes = 1;
    outlives = [];
    ty_params = [];
    givens = 0;
    params = params;
    locals = map (λ (t : Ty). local t value_local)
        (result ∷ ty_ref (named 0) mut (ty_named (K.type.name, []) tnil) ∷ others);
    body = body;
  }

  abbrev is_full_code : Fn
  is_full_code = method 1 ty_bool [] (seq (assign (place 0 []) (rv_opd (copy (in_self 1)))) return)

  abbrev fill_code : Fn
  fill_code =
      method 2 ty_unit (lone PartsOf.mir ∷ ty_ptr ∷ ty_ptr ∷ [])
      (seq (assign (place 3 []) (rv_opd (copy (place 2 (field 0 ∷ [])))))
      (seq (assign (place 4 []) (rv_opd (copy (place 3 []))))
      (seq (assign (in_self 0) (rv_opd (copy (place 4 []))))
      (seq (assign (in_self 1) (rv_opd opd_true)) (seq (assign (place 0 []) (rv_opd opd_unit)) return)))))

  abbrev empty_code : Fn
  empty_code =
      method 2 (lone PartsOf.mir) (lone Heap.the_row.mir ∷ ty_ptr ∷ ty_ptr ∷ [])
      (seq (assign (in_self 1) (rv_opd opd_false))
      (seq (assign (place 4 []) (rv_opd (copy (in_self 0))))
      (seq (assign (place 3 []) (rv_opd (copy (place 4 []))))
      (seq (assign (place 0 []) (aggregate (copy (place 3 []) ∷ copy (place 2 []) ∷ []))) return))))

  -- The contract of each method.
  abbrev handle : Slot 1
  handle = plain (λ _. R)

  abbrev signed : List (Slot 1) → RattleType → Signature
  signed others result = record {
    lifetimes = 1;
    outlives = [];
    params = RefMutOf (0 ∷ []) tt handle (λ _. tt) ∷ others;
    result = plain (λ _. result);
  }

  abbrev is_full_ended : Ended
  is_full_ended = record { signature = signed [] bool; kept = (yes, tt) }

  abbrev ended : RattleType → RattleType → Ended
  ended other result = record { signature = signed (plain (λ _. other) ∷ []) result; kept = (yes, (yes, tt)) }

  abbrev fill_ended : Ended
  fill_ended = ended PartsOf unit

  abbrev empty_ended : Ended
  empty_ended = ended Heap.the_row PartsOf

  module _ {M : Type 1} (𝓤 : Ura M) where
    abbrev is_full_clauses : Clauses 𝓤 is_full_ended
    is_full_clauses κs a = record {
      ghost = Unit {0};
      requires = λ _. (connectives 𝓤).⊤ₛ;
      ensures = λ _ result end. fact 𝓤 ((result ≡ is_some (K.held a.0.now)) × (end.0.now ≡ a.0.now));
    }

    abbrev fill_clauses : Clauses 𝓤 fill_ended
    fill_clauses κs a = record {
      ghost = Unit {0};
      requires = λ _. fact 𝓤 (K.held a.0.now ≡ None);
      ensures = λ _ result end. fact 𝓤 (K.held end.0.now ≡ Some a.1.0.value);
    }

    abbrev empty_clauses : Clauses 𝓤 empty_ended
    empty_clauses κs a = record {
      ghost = Unit {0};
      requires = λ _. fact 𝓤 (K.held a.0.now ≢ None);
      ensures = λ _ result end. fact 𝓤 ((K.held a.0.now ≡ Some result.value) × (K.held end.0.now ≡ None));
    }

  abbrev stays : (other : RattleType) → Stays (signed (plain (λ _. other) ∷ []) unit).params (yes, (yes, tt))
  stays other = (stay_ref (0 ∷ []) tt handle, (stay_dropped (plain (λ _. other)) yes, tt))

  module _ {M : Type 1} (𝓤 : Ura M) (𝓛 : Logic 𝓤) (𝓜 : Model 𝓤 𝓛.H) (𝓡 : Running 𝓤 𝓛.H 𝓜) (name : Callee) where
    abbrev 𝓣 : MachineTables 𝓤 𝓛.H 𝓜
    𝓣 = tables 𝓤 𝓛.H 𝓜 𝓡 𝓡.env

    -- `is_full` returns the flag, which is set exactly if the handle owns a value.
    pub is_full_walk : Closed 𝓤 𝓛.H 𝓣.C 𝓣.Λ name is_full_code
        → Meets 𝓛 is_full_ended.signature (𝓣.C name) (closing 𝓛 is_full_ended (is_full_clauses 𝓤))
    is_full_walk closed =
        let c = is_full_clauses 𝓤 in
        let stayed : Stays is_full_ended.signature.params is_full_ended.kept = (stay_ref (0 ∷ []) tt handle, tt) in
        let W = walk_of 𝓛 is_full_ended stayed c in
        proved 𝓛 is_full_ended stayed c 𝓜 𝓡 (Goes-ref 𝓛 1 0 tt handle, tt) name is_full_code closed
        (λ κs. (mut_vals, tt)) (λ κs. (mut_Tells (named 0) κs.0 R, tt)) (λ κs qs bounds a _ are.
        let b = a.0.ref_ptr.0 in let o = a.0.ref_ptr.1 in let h = a.0.now in let vs = mut_vals a.0 in
        let y : W.Ghost = ((κs, qs, bounds, a, (vs, tt)), tt) in
        qed 𝓛 (((‵ (flft κs.0 qs.0) ⊛ ‵ ftrue) ⊛ ‵ ((MutRef (named 0) κs.0 R).own_val a.0 vs) ⊛ ‵ ftrue)
        ∷ ‵ ftrue ∷ []) ∵ split ! $ split ! $ move ! (2 ∷ []) $ split ! $ keep ! (0 ∷ 2 ∷ []) $
        enter ! _ _ _ _ _ $ alloc_all ! (λ l. pass_all ! refl ((tt, tt), tt) $
        fsplit3 ! $ move ! (1 ∷ 2 ∷ 3 ∷ []) $ opens ! tt R b o (λ us.
        move ! (1 ∷ []) $ peeks ! R _ (shows 𝓛 R) h us (λ is. fsplit ! $ move ! (1 ∷ []) $
        use1 𝓛 (given (full h ≡ is_some (K.held h)) (‵ (handle_owns C (full h) (at h) (K.held h))))
        (fact_use 𝓤 (full h ≡ is_some (K.held h)) (full_says C 𝓛 (at h) (full h) (K.held h))
        (λ p. guard_i 𝓤 (full h ≡ is_some (K.held h)) (sem 𝓛 (handle_owns C (full h) (at h) (K.held h))) p))
        $ learn ! (λ flag.
        let word = val_is h us is in
        let Cell = λ (ws : List Val). ‵ (cell_at full_share R.mir ws b o) in
        rewrite ! 2 Cell word refl $
        -- [what the handle owns; what its fields own; its cell; the open borrow, in three entries]
        sets ! (of_opd ! (load ! (through ! refl (fld ! refl (stop !))) (look_in ! 2 (sub ! 1 refl (whole !))))) refl
        (tt, tt)
        $
        rewrite ! 2 Cell (sym word) refl $
        move ! (1 ∷ []) $ fjoin ! $ move ! (1 ∷ []) $ closes ! tt R h us b o $
        returns ! (look_at ! 0 refl) $ free_all ! refl $ move ! (3 ∷ []) $
        suffices ! _ (ends_at 𝓛 is_full_ended stayed c y (vbool (full h)) (full h) (h, tt) (tt, tt))
        $ says ! (flag, refl) $
        group ! 3 $ nothing ! $ move ! (1 ∷ 0 ∷ []) $ join ! $ nothing ! $ move ! (2 ∷ 0 ∷ []) $ join ! $ frame !
        $ frame ! $ feq_i ! _ (vbool (full h) ∷ []) _ refl $ done !)))))

    -- `fill` stores the pointer and sets the flag. The handle owns what the parts owned.
    pub fill_walk : Closed 𝓤 𝓛.H 𝓣.C 𝓣.Λ name fill_code
        → Meets 𝓛 fill_ended.signature (𝓣.C name) (closing 𝓛 fill_ended (fill_clauses 𝓤))
    fill_walk closed =
        let c = fill_clauses 𝓤 in
        let stayed = stays PartsOf in
        let W = walk_of 𝓛 fill_ended stayed c in
        proved_at 𝓛 fill_ended stayed c 𝓜 𝓡
        (Goes-ref 𝓛 1 0 tt handle, (Goes-dropped 𝓛 1 (plain (λ _. PartsOf)) yes (λ κs x g. refl), tt))
        name fill_code closed (λ z are.
        let κs = z.0.0 in let qs = z.0.1 in let a = z.0.3 in let vss = z.0.4 in let Post : Val → SProp 𝓤 = W.post z in
        let b = a.0.ref_ptr.0 in let o = a.0.ref_ptr.1 in let h = a.0.now in
        let v : D E = record { ptr = a.1.0.ptr; alloc = a.1.0.alloc; value = a.1.0.value } in
        qed 𝓛 (((‵ (flft κs.0 qs.0) ⊛ ‵ ftrue) ⊛ ‵
        (fsep ((MutRef (named 0) κs.0 R).own_val a.0 vss.0) (fsep ((B E).own_val v vss.1.0) ftrue)))
        ∷ raw ((c κs a).requires z.1) ∷ []) ∵
        move ! (1 ∷ []) $ drop ! $ split ! $ split ! $ move ! (2 ∷ []) $ fsplit3 ! $
        -- [the reference; the parts; nothing; the token; nothing]
        move ! (1 ∷ []) $ box_out E ! v vss.1.0 (λ pb po hv e ws fa. fjoin ! $
        fpack ! Global (λ g. box_owns (ghosts.dealloc_token g) C (block_ptr pb po) v.value) v.alloc
        $ feq_i ! Bool true true refl $ fjoin ! $
        keep ! (0 ∷ 2 ∷ 4 ∷ []) $
        regoal ! (λ (us : List Val). prop (WpFn 𝓤 𝓛.H 𝓣.C 𝓣.Λ fill_code us Post)) (λ i. are.0.0 i ++ (ws i ++ [])) refl
        $
        enter ! 𝓣.C 𝓣.Λ fill_code (vptr b o ∷ word E hv pb po ∷ []) Post
        $ alloc_all ! (λ l. pass_all ! refl ((tt, tt), (box_typed E hv pb po fa, tt)) $
        move ! (1 ∷ []) $ fsplit3 ! $ move ! (1 ∷ 2 ∷ 4 ∷ []) $ opens ! tt R b o (λ us.
        move ! (1 ∷ []) $ peeks ! R _ (shows 𝓛 R) h us (λ is. drop ! $
        -- [the handle's cell; the open borrow, in three entries; the reference's first part; what the handle is to own]
        rewrite ! 0 (λ (xs : List Val). ‵ (cell_at full_share R.mir xs b o)) (val_is h us is) refl $
        sets ! (of_opd ! (get_in ! (fld ! refl (stop !)) (sub ! 0 refl (whole !)))) refl (tt, tt) $
        sets ! (of_opd ! (get ! refl)) refl (tt, tt) $
        assigns ! (of_opd ! (get ! refl)) (through ! refl (fld ! refl (stop !)))
        (store_in ! 0 (sub ! 0 refl (whole !)) (tt, tt))
        $
        assigns ! (of_opd ! (true_lit !)) (through ! refl (fld ! refl (stop !)))
        (store_in ! 0 (sub ! 1 refl (whole !)) (tt, tt))
        $
        sets ! (of_opd ! (unit_lit !)) refl (tt, tt) $
        let h' = K.make (block_ptr pb po) true (Some v.value) in
        let ws' : List Val = handle_val (block_ptr pb po) true ∷ [] in
        move ! (5 ∷ []) $ use0 𝓛 (‵ (handle_own (block_ptr pb po) true ws')) (handle_made 𝓛 (block_ptr pb po) true)
        $ fjoin ! $ use1 𝓛 (‵ (R.own_val h' ws')) (kept 𝓛 (block_ptr pb po) true (Some v.value) ws') $
        move ! (1 ∷ []) $ closes ! tt R h' ws' b o $
        returns ! (look_at ! 0 refl) $ free_all ! refl $ move ! (3 ∷ []) $
        suffices ! _ (ends_at 𝓛 fill_ended stayed c z vunit tt (h', (tt, tt)) (tt, (tt, tt)))
        $ says ! (K.held_made (block_ptr pb po) true (Some v.value)) $
        group ! 3 $ nothing ! $ nothing ! $ join ! $ move ! (1 ∷ 0 ∷ []) $ join ! $ nothing ! $ move ! (2 ∷ 0 ∷ [])
        $ join ! $ frame ! $ frame ! $ feq_i ! _ (vunit ∷ []) _ refl $ done !)))))

    -- `empty` clears the flag and reads the pointer. The parts own what the handle owned.
    pub empty_walk : Closed 𝓤 𝓛.H 𝓣.C 𝓣.Λ name empty_code
        → Meets 𝓛 empty_ended.signature (𝓣.C name) (closing 𝓛 empty_ended (empty_clauses 𝓤))
    empty_walk closed =
        let c = empty_clauses 𝓤 in
        let stayed = stays Heap.the_row in
        let W = walk_of 𝓛 empty_ended stayed c in
        proved_at 𝓛 empty_ended stayed c 𝓜 𝓡
        (Goes-ref 𝓛 1 0 tt handle, (Goes-dropped 𝓛 1 (plain (λ _. Heap.the_row)) yes (λ κs x g. refl), tt))
        name empty_code closed (λ z are.
        let κs = z.0.0 in let qs = z.0.1 in let a = z.0.3 in let vss = z.0.4 in let Post : Val → SProp 𝓤 = W.post z in
        let b = a.0.ref_ptr.0 in let o = a.0.ref_ptr.1 in let h = a.0.now in let alloc = a.1.0 in
        qed 𝓛 (((‵ (flft κs.0 qs.0) ⊛ ‵ ftrue) ⊛ ‵
        (fsep ((MutRef (named 0) κs.0 R).own_val a.0 vss.0) (fsep (Heap.the_row.own_val alloc vss.1.0) ftrue)))
        ∷ raw (fact 𝓤 (K.held h ≢ None)) ∷ []) ∵
        move ! (1 ∷ []) $ heard ! (K.held h ≢ None) (λ there. split ! $ split ! $ move ! (2 ∷ []) $ fsplit3 ! $
        -- [the reference; the allocator; nothing; the token; nothing]
        move ! (1 ∷ []) $ handle_tells E.al ! alloc vss.1.0 (λ hv ea fa. keep ! (1 ∷ 0 ∷ 3 ∷ []) $
        regoal ! (λ (us : List Val). prop (WpFn 𝓤 𝓛.H 𝓣.C 𝓣.Λ empty_code us Post)) (λ i. are.0.0 i ++ (ea i ++ [])) refl
        $
        enter ! 𝓣.C 𝓣.Λ empty_code (vptr b o ∷ hv ∷ []) Post $ alloc_all ! (λ l. pass_all ! refl ((tt, tt), (fa, tt)) $
        fsplit3 ! $ move ! (1 ∷ 2 ∷ 4 ∷ []) $ opens ! tt R b o (λ us.
        move ! (1 ∷ []) $ peeks ! R _ (shows 𝓛 R) h us (λ is. fsplit ! $ drop ! $
        use1 𝓛 (some (λ (x : K.content.Denot). given (K.held h ≡ Some x) (‵ (held_owns C (at h) x))))
        (held_there C 𝓛 (at h) (full h) (K.held h) there)
        $ pick ! (λ x. learn ! (λ is_x. fpick ! (λ g.
        in_a_block ! (at h) (λ q. box_owns (ghosts.dealloc_token g) C q x)
        (fst∗ 𝓤 (never 𝓤) (sem 𝓛 (ghosts.dealloc_token g (bare (lone C.mir)) null_ptr))) (λ pb po e.
        -- [the box's memory; the handle's cell; the open borrow, in three entries; the reference's first part; the
        -- allocator]
        rewrite ! 1 (λ (xs : List Val). ‵ (cell_at full_share R.mir xs b o))
        (val_is h us is ∙ ap (λ (q : Ptr). handle_val q (full h) ∷ []) e) refl
        $
        assigns ! (of_opd ! (false_lit !)) (through ! refl (fld ! refl (stop !)))
        (store_in ! 1 (sub ! 1 refl (whole !)) (tt, tt))
        $
        sets ! (of_opd ! (load ! (through ! refl (fld ! refl (stop !))) (look_in ! 1 (sub ! 0 refl (whole !))))) refl
        (tt, tt)
        $
        sets ! (of_opd ! (get ! refl)) refl (tt, tt) $
        sets ! (agg ! (and_then ! (get ! refl) (and_then ! (get ! refl) (no_more !)))) refl (box_typed E hv pb po fa) $
        let h' = K.make (block_ptr pb po) false None in
        let ws' : List Val = handle_val (block_ptr pb po) false ∷ [] in
        feq_i ! Bool false false refl
        $ use0 𝓛 (‵ (handle_own (block_ptr pb po) false ws')) (handle_made 𝓛 (block_ptr pb po) false) $ fjoin ! $
        use1 𝓛 (‵ (R.own_val h' ws')) (kept 𝓛 (block_ptr pb po) false None ws') $
        move ! (2 ∷ 0 ∷ 3 ∷ 4 ∷ 5 ∷ []) $ closes ! tt R h' ws' b o $
        returns ! (look_at ! 0 refl) $ free_all ! refl $
        -- [two parts of the reference; the token; the box's memory; the reference's first part; the allocator]
        move ! (3 ∷ 5 ∷ []) $ use1 𝓛 (‵ (box_owns (ghosts.dealloc_token alloc) C (block_ptr pb po) x)) (id⊢ 𝓤 _)
        $ fsplit ! $
        let d : D E = record { ptr = block_ptr pb po; alloc = alloc; value = x } in
        let made : PartsOf.Denot = record { ptr = block_ptr pb po; alloc = alloc; value = x } in
        box_in E ! d pb po x refl refl $ use1 𝓛 (‵ (PartsOf.own_val made (word E hv pb po ∷ []))) (id⊢ 𝓤 _) $
        move ! (4 ∷ 1 ∷ 2 ∷ []) $
        suffices ! _ (ends_at 𝓛 empty_ended stayed c z (word E hv pb po) made (h', (tt, tt)) (tt, (tt, tt)))
        $ says ! (is_x, K.held_made (block_ptr pb po) false None) $
        group ! 3 $ nothing ! $ nothing ! $ join ! $ move ! (1 ∷ 0 ∷ []) $ join ! $ nothing ! $ move ! (3 ∷ 0 ∷ [])
        $ move ! (0 ∷ 1 ∷ []) $ join ! $ frame ! $ frame ! $ done !))))))))))
