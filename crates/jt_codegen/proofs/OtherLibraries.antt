-- A code to which an entry compiles is one to which it compiles in every library that gives the same sources to the
-- names that the entry's chain requests.
use Rattle.std.proofs.Common.{◌≡◌, true, List, [], ◌∷◌, Option, None, sym, ◌∙◌, subst, map}
use Rattle.std.specs.Prelude.{◌≢◌}
use Rattle.std.specs.List.{AllByRecursion}
use Rattle.std.proofs.lemmas.Bool.{or_left, or_right}
use Rattle.jt_scan.specs.declared.options.Options.{Options}
use Rattle.jt_ast.specs.Expressions.{Text}
use Rattle.jt_ast.specs.Texts.{among}
use Rattle.jt_chains.specs.Chain.{Template}
use Rattle.jt_chains.specs.View.{Seen}
use Rattle.jt_image.specs.Code.{Code}
use Rattle.jt_inherit.specs.Chains.{SourceTexts, IsRead, IsOnly, IsChain}
use Rattle.jt_inherit.proofs.Membership.{reflexive}
use Rattle.jt_inherit.proofs.RulesCarryOver.{one_chain}
use Rattle.jt_codegen.specs.Compiled.{IsOnlyChain, IsCompiled}
use Rattle.jt_codegen.specs.Depends.{SameSources, CompilesAlike}
use Rattle.jt_codegen.proofs.ChainImages.{only_chain}

abbrev names : List Template → List Text
names ts = map (λ t. t.name) ts

-- What holds of each template whose name is in the list holds of each of these templates.
module _ (P Q : Template → Type 0) (Named : Text → Type 0) (step : (t : Template) → Named t.name → P t → Q t) where
  each_named : (ts : List Template) → ((n : Text) → among n (names ts) ≡ true → Named n) → AllByRecursion P ts
      → AllByRecursion Q ts
  each_named [] f h = tt
  each_named (t ∷ ts) f h = (
    step t (f t.name (or_left _ _ (reflexive t.name))) h.0,
    each_named ts (λ n a. f n (or_right _ _ a)) h.1,
  )

read_too : (given other : SourceTexts) (options : Options) (t : Template) → given t.name ≡ other t.name
    → IsRead given options t → IsRead other options t
read_too given other options t e r =
    record { named = r.named; source = r.source; found = sym e ∙ r.found; tree = r.tree }

module _ (given other : SourceTexts) (entry : Text) (options : Options) (c : Seen) (is : IsChain given entry options c)
    (same : SameSources c entry given other) where
  same_at : (n : Text) → among n (names c.templates) ≡ true → given n ≡ other n
  same_at n a = same n ((is.asked n).0 a).0

  there : IsChain other entry options c
  there = record {
    escaping = is.escaping;
    strict = is.strict;
    read = record {
      each =
          each_named (IsRead given options) (IsRead other options) (λ n. given n ≡ other n)
          (λ t e r. read_too given other options t e r) c.templates same_at is.read.each;
      once = is.read.once;
    };
    asked = λ n. (
      λ a.
          let q = (is.asked n).0 a in
          (q.0, subst (λ (o : Option Text). o ≢ None) (same n q.0) q.1),
      λ q. (is.asked n).1 (q.0, subst (λ (o : Option Text). o ≢ None) (sym (same n q.0)) q.1),
    );
    included = is.included;
    begins = is.begins;
    reached = is.reached;
    order = is.order;
    rules = is.rules;
  }

  each_there : AllByRecursion (IsOnly given options) c.templates → AllByRecursion (IsOnly other options) c.templates
  each_there =
      each_named (IsOnly given options) (IsOnly other options) (λ n. given n ≡ other n)
      (λ t e h b r. h b (read_too other given options (record { name = t.name; body = b }) (sym e) r)) c.templates
      same_at

  only_there : AllByRecursion (IsOnly given options) c.templates → IsOnlyChain other entry options c
  only_there each =
      only_chain other entry options c there (each_there each)
      (λ d id n. one_chain other options entry c d there id (each_there each) n)

pub alike : CompilesAlike
alike given other entry options code compiled same = record {
  chain = compiled.chain;
  is = only_there given other entry options compiled.chain compiled.is.is same compiled.is.each;
  lawful = compiled.lawful;
  whole = compiled.whole;
  newest = compiled.newest;
  named = compiled.named;
  placed = compiled.placed;
  typed = compiled.typed;
  does = compiled.does;
}
