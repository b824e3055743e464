-- The templates on the path from a name to the root.
use Rattle.std.proofs.Common.{◌≡◌, ℕ, Bool, List, [], None, arith, refl, rules, suc, zero}
use Rattle.std.specs.Prelude.{flat_map}
use Rattle.std.proofs.lemmas.List.{append-nil}
use Rattle.jt_ast.specs.Expressions.{Text}
use Rattle.jt_chains.proofs.TemplatesByIndex.{named}
use Rattle.jt_chains.specs.Along.{body_at}
use Rattle.jt_chains.specs.Chain.{Sources, Template, blocks_in, extends_of, names_up, parent_of, sources_in, template}
use Rattle.jt_chains.specs.Indices.{index_of}
use Rattle.jt_chains.specs.Parts.{name_at}

pub none_up : (s : Sources) (k : ℕ) → names_up s k None ≡ []
none_up s zero = refl
none_up s (suc k) = refl

pub parent : (ts : List Template) (x : Text) (i : ℕ) → i ≡ index_of ts x
    → parent_of (sources_in ts x) ≡ extends_of (body_at ts i)
parent ts x i e = rw (e, named ts x) (search (arith, rules))

pub here : (ts : List Template) (x : Text) (i : ℕ) (on : Bool) → i ≡ index_of ts x
    → flat_map (λ t. blocks_in t.name t.body on) (template x (sources_in ts x))
    ≡ blocks_in (name_at ts i) (body_at ts i) on
here ts x i on e = rw (e, named ts x) (search (arith, rules, append-nil))
