-- Programs with every form, their code, and runs of both, computed from the definitions.
use Rattle.std.proofs.Common.{◌≡◌, Bool, ℕ, zero, suc, true, false, List, [], ◌∷◌, Some, refl, arith, subst, rules}
use Rattle.std.specs.Prelude.{pos, codes, slice_get}
use Rattle.jt_value.specs.Tree as tree
use Rattle.jt_value.specs.Tree.{Tree}
use Rattle.jt_value.specs.Pairs.{Pairs}
use Rattle.jt_value.specs.View.{items_of}
use Rattle.jt_value.specs.declared.fault.Fault.TheVariants as faults
use Rattle.jt_ids.specs.declared.op_id.OpId.TheVariants as o
use Rattle.jt_image.specs.Ids.{operator_of, filter_of}
use Rattle.jt_ids.specs.LoopTable.{field_of}
use Rattle.jt_image.specs.FreeRun.{Finished, Failed, exec, start_machine}
use Rattle.jt_value.specs.Place.{Place}
use Rattle.jt_eval.specs.Eval.{gives, fails, deeper}
use Rattle.jt_ast.specs.Expressions.{Text}
use Rattle.jt_eval.specs.TheFilters.{the_filters}
use Rattle.jt_ids.specs.declared.loop_field.LoopField.TheVariants as of_loop
use Rattle.jt_ir.specs.Slots.{local, global, operator, filter, SlotExpr, pooled, variable, field, made, invoke, none}
use Rattle.jt_ir.specs.Slots.{item, aside, several, SBody, put_pooled, print, if_else, for_each, capture, run, end}
use Rattle.jt_ir.specs.Slots.{stmt, Routine, Program, smean}
use Rattle.jt_lower.specs.Lower.{compiled}
use Rattle.jt_lower.specs.Fits.{TakesRow, RoutineFits, IsPooled, ProgramFits}

abbrev tag : ℕ → Place
tag line = record { template = codes "page"; line = line }

abbrev here : ℕ → SlotExpr ℕ
here i = variable (local i)

-- A page with a loop, a capture, a call of a block on `t`, and a call of the macro `m`. The macro
-- calls itself and has a default for its first parameter. The page is
-- {% for a, b in xs if a %}{{ loop.last }}:{{ b }}{% else %}none{% endfor %}
-- {% set t %}{{ y }}{% endset %}, the block, and {{ m(z=t) }}.
abbrev page : SBody ℕ
page =
    stmt (for_each (tag 1) (several (Some (local 0) ∷ Some (local 1) ∷ [])) (variable (global 0)) (Some (here 0))
    (stmt (print (tag 2) true (field of_loop.Last)) (stmt (put_pooled 1) (stmt (print (tag 2) true (here 1)) end)))
    (stmt (put_pooled 2) end))
    (stmt (capture true (local 2) (stmt (print (tag 3) true (variable (global 1))) end))
    (stmt (run 1 (item (here 2) none))
    (stmt (print (tag 4) true (invoke 2 true (aside 3 (here 2) (item (pooled 3) (item (here 3) none))))) end)))

abbrev block : SBody ℕ
block = stmt (put_pooled 4) (stmt (print (tag 1) true (here 0)) (stmt (put_pooled 5) end))

-- Prints its second argument `n` times, where `n` is its first argument.
abbrev times : SBody ℕ
times =
    stmt (if_else (tag 1) (here 0) (stmt (print (tag 2) true (here 1))
    (stmt (print (tag 3) true
    (invoke 2 true (item (made (operator o.Subtract) (item (here 0) (item (pooled 6) none))) (item (here 1) none))))
    end)) end) end

abbrev page_routine : Routine ℕ
page_routine = record { parameters = 0; locals = 4; body = page }

abbrev block_routine : Routine ℕ
block_routine = record { parameters = 1; locals = 1; body = block }

abbrev times_routine : Routine ℕ
times_routine = record { parameters = 2; locals = 2; body = times }

abbrev program : Program
program =
    record {
      names = codes "xs" ∷ codes "y" ∷ [];
      globals = 2;
      pool =
          tree.undefined ∷ tree.text (codes ":") ∷ tree.text (codes "none") ∷ tree.number (pos 2)
          ∷ tree.text (codes "<") ∷ tree.text (codes ">") ∷ tree.number (pos 1) ∷ [];
      routines = page_routine ∷ block_routine ∷ times_routine ∷ [];
    }

abbrev two : Bool → Text → Tree
two a b = tree.list (items_of (tree.truth_value a ∷ tree.text b ∷ []))

abbrev some_items : List Tree
some_items = two true (codes "p") ∷ two false (codes "q") ∷ two true (codes "r") ∷ []

abbrev context : List Tree → Pairs
context xs = (codes "xs", tree.list (items_of xs)) ∷ (codes "y", tree.text (codes "&")) ∷ []

-- ---- the program fits

-- The routine of a call takes the values of the call.
takes : (u n : ℕ) (r : Routine ℕ) → slice_get program.routines u ≡ Some r → r.parameters ≡ n
    → TakesRow program.routines u n
takes u n r is e = record { routine = r; is = is; parameters = e }

routines_fit : (u : ℕ) (r : Routine ℕ) → slice_get program.routines u ≡ Some r → RoutineFits program r
routines_fit zero r e =
    let same : page_routine ≡ r = cc in
    subst (RoutineFits program) same (record {
      body = (
        (
          (omega arith, (omega arith, tt)),
          omega arith,
          omega arith,
          (refl, ((codes ":", refl), (omega arith, tt))),
          ((codes "none", refl), tt),
        ),
        (
          (omega arith, (omega arith, tt)),
          (
            (takes 1 1 block_routine refl refl, (omega arith, tt), tt),
            ((takes 2 2 times_routine refl refl, (omega arith, omega arith, (omega arith, (omega arith, tt)))), tt),
          ),
        ),
      );
      low = omega arith;
    })
routines_fit (suc zero) r e =
    let same : block_routine ≡ r = cc in
    subst (RoutineFits program) same
    (record { body = ((codes "<", refl), (omega arith, ((codes ">", refl), tt))); low = omega arith })
routines_fit (suc (suc zero)) r e = search (arith, rules, takes)
routines_fit (suc (suc (suc u))) r e = absurd cc

pooled_fit : (i : ℕ) (t : Tree) → slice_get program.pool i ≡ Some t → IsPooled t
pooled_fit i t e = search (arith, rules)

fits : ProgramFits program
fits = record {
  routines = routines_fit;
  entry = page_routine;
  is_entry = refl;
  pooled = pooled_fit;
  names = omega arith;
}

-- ---- the meaning of the program, and the runs of its code

meant : smean the_filters program (context some_items) 4 ≡ gives (codes "False:pTrue:r<&amp;>&amp;&amp;")
meant = refl

too_deep : smean the_filters program (context []) 2 ≡ deeper
too_deep = refl

runs : exec (compiled program) 200 (start_machine (compiled program) (context some_items))
    ≡ Finished (codes "False:pTrue:r<&amp;>&amp;&amp;")
unfolding field_of operator_of
runs = refl

meant_none : smean the_filters program (context []) 4 ≡ gives (codes "none<&amp;>&amp;&amp;")
meant_none = refl

runs_none : exec (compiled program) 200 (start_machine (compiled program) (context []))
    ≡ Finished (codes "none<&amp;>&amp;&amp;")
unfolding field_of operator_of
runs_none = refl

-- If an item does not unpack in the pass of the condition, the fault has the place of the loop.
meant_fault : smean the_filters program (context (two true (codes "p") ∷ tree.nothing ∷ [])) 4
    ≡ fails faults.NotIterable (Some (tag 1))
meant_fault = refl

runs_fault : exec (compiled program) 200
    (start_machine (compiled program) (context (two true (codes "p") ∷ tree.nothing ∷ [])))
    ≡ Failed faults.NotIterable (Some (record { template = codes "page"; line = 1 }))
unfolding field_of operator_of
runs_fault = refl

-- ---- filters

-- The programs of {{ x|upper }} and {{ x|abs }}.
abbrev of_filter : ℕ → Program
of_filter f =
    record {
      names = codes "x" ∷ [];
      globals = 1;
      pool = [];
      routines =
          record {
            parameters = 0;
            locals = 0;
            body = stmt (print (tag 1) true (made (filter f true) (item (variable (global 0)) none))) end;
          } ∷ [];
    }

abbrev with_x : Pairs
with_x = (codes "x", tree.text (codes "a<")) ∷ []

meant_upper : smean the_filters (of_filter 30) with_x 1 ≡ gives (codes "A&lt;")
unfolding filter_of the_filters
meant_upper = refl

runs_upper : exec (compiled (of_filter 30)) 20 (start_machine (compiled (of_filter 30)) with_x)
    ≡ Finished (codes "A&lt;")
unfolding filter_of
runs_upper = refl

meant_abs : smean the_filters (of_filter 0) with_x 1 ≡ fails faults.BadType (Some (tag 1))
unfolding filter_of the_filters
meant_abs = refl

runs_abs : exec (compiled (of_filter 0)) 20 (start_machine (compiled (of_filter 0)) with_x)
    ≡ Failed faults.BadType (Some (record { template = codes "page"; line = 1 }))
unfolding filter_of
runs_abs = refl
