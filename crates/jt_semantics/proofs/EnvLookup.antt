-- The laws of reads and stores: of environments by names, of lists of values by indices, and of
-- tables of slots.
use Rattle.std.proofs.Common.{◌≡◌, ℕ, zero, suc, Bool, true, false, if◌then◌else◌, List, [], ◌∷◌, Option, Some}
use Rattle.std.proofs.Common.{None, refl, sym, ap, ◌∙◌, arith, rules}
use Rattle.std.specs.Prelude.{unwrap_or}
use Rattle.std.specs.List.{AllByRecursion as Each}
use Rattle.std.specs.Str.{bytes_eq}
use Rattle.std.proofs.lemmas.Slice.Eq.{bytes_eq-Decides}
use Rattle.jt_value.specs.Tree as tree
use Rattle.jt_value.specs.Tree.{Tree}
use Rattle.jt_value.specs.Pairs.{Pairs}
use Rattle.jt_ast.specs.Expressions.{Text}
use Rattle.jt_chains.specs.Chain.{Namespace, same_namespace, listed}
use Rattle.jt_semantics.specs.Env.{Env, first_of, read, bound, all_bound}
use Rattle.jt_eval.specs.Values.{value_in}
use Rattle.jt_eval.specs.Loops.{tree_at}
use Rattle.jt_ir.specs.Slots.{Slot, Memory, load, put_at}
pub use Rattle.jt_semantics.proofs.Among.{same_text, each_among}

-- ---- Texts

pub same_is : (x : Text) → bytes_eq x x ≡ true
same_is x = (bytes_eq-Decides x x).1 refl

never : false ≡ true → ⊥
never q = cc

pub no_both : {b : Bool} → b ≡ true → b ≡ false → ⊥
no_both {b = b} t f = never (sym f ∙ t)

pub is_same : (x y : Text) → x ≡ y → bytes_eq x y ≡ true
is_same x y e = (bytes_eq-Decides x y).1 e

-- ---- Namespaces

pub namespace_same : (h k : Namespace) → same_namespace h k ≡ true → h ≡ k
namespace_same h k e = search (arith, rules, same_text, never)

pub namespace_is : (h : Namespace) → same_namespace h h ≡ true
namespace_is h = search (arith, rules, same_is)

-- What holds of each namespace of a list holds of one that is listed.
pub each_listed : (P : Namespace → Type 0) (hs : List Namespace) → Each P hs → (h : Namespace) → listed h hs ≡ true
    → P h
each_listed P [] a h i = absurd (no_both i refl)
each_listed P (k ∷ ks) a h i = search (arith, rules, each_listed P ks a.1 h, namespace_same)

-- ---- Lists of values by indices

pub put_here : (i : ℕ) (v : Tree) (ts : List Tree) → tree_at (put_at i v ts) i ≡ v
put_here zero v [] = refl
put_here zero v (t ∷ ts) = refl
put_here (suc i) v [] = put_here i v []
put_here (suc i) v (t ∷ ts) = put_here i v ts

pub put_elsewhere : (i j : ℕ) (v : Tree) (ts : List Tree) → (i ≡ j → ⊥) → tree_at (put_at i v ts) j ≡ tree_at ts j
put_elsewhere (suc i) (suc j) v [] n = put_elsewhere i j v [] (λ e. n (ap suc e))
put_elsewhere (suc i) (suc j) v (t ∷ ts) n = put_elsewhere i j v ts (λ e. n (ap suc e))
put_elsewhere i j v ts n = search (arith, rules)

-- ---- Environments

unwrap_if : (b : Bool) (v : Tree) (o : Option Tree) (d : Tree)
    → unwrap_or (if b then Some v else o) d ≡ (if b then v else unwrap_or o d)
unwrap_if b v o d = search (arith, rules)

pub read_bound : (env : Env) (x y : Text) (v : Tree) → read (bound env x v) y ≡ (if bytes_eq x y then v else read env y)
read_bound env x y v = search (arith, rules, unwrap_if)

-- Holds if the environment has a scope over its globals.
abbrev pub IsInner : Env → Type 0
IsInner env = (s : Pairs) × (ss : List Pairs) × (env.scopes ≡ s ∷ ss)

inner_bound_in : (ss : List Pairs) (globals : Pairs) (x : Text) (v : Tree)
    → IsInner (record { scopes = ss; globals = globals })
    → IsInner (bound (record { scopes = ss; globals = globals }) x v)
inner_bound_in [] globals x v (s, ss', e) = search (arith, rules)
inner_bound_in (s ∷ ss) globals x v i = ((x, v) ∷ s, ss, refl)

pub inner_bound : (env : Env) (x : Text) (v : Tree) → IsInner env → IsInner (bound env x v)
inner_bound env x v i = inner_bound_in env.scopes env.globals x v i

pub inner_globals : (env : Env) (x : Text) (v : Tree) → IsInner env → (bound env x v).globals ≡ env.globals
inner_globals env x v i = search (arith, rules)

pub top_bound : (env : Env) (x : Text) (v : Tree) → env.scopes ≡ [] → (bound env x v).scopes ≡ []
top_bound env x v e = search (arith, rules)

pub all_inner : (env : Env) (bs : Pairs) → IsInner env → IsInner (all_bound env bs)
all_inner env [] i = i
all_inner env (b ∷ bs) i = all_inner (bound env b.0 b.1) bs (inner_bound env b.0 b.1 i)

pub all_globals : (env : Env) (bs : Pairs) → IsInner env → (all_bound env bs).globals ≡ env.globals
all_globals env [] i = refl
all_globals env (b ∷ bs) i =
    all_globals (bound env b.0 b.1) bs (inner_bound env b.0 b.1 i) ∙ inner_globals env b.0 b.1 i

pub all_top : (env : Env) (bs : Pairs) → env.scopes ≡ [] → (all_bound env bs).scopes ≡ []
all_top env [] e = e
all_top env (b ∷ bs) e = all_top (bound env b.0 b.1) bs (top_bound env b.0 b.1 e)

pub read_top : (env : Env) (x : Text) → env.scopes ≡ [] → read env x ≡ value_in env.globals x
read_top env x e = ap (λ ss. first_of ss env.globals x) e

-- ---- Tables

-- The value that a name's slot holds.
abbrev pub held : Option Slot → Memory → Tree
held None m = tree.undefined
held (Some s) m = load s m
