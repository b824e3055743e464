-- Membership of chains and libraries in lists.
use Rattle.std.proofs.Common.{◌≡◌, true, List, [], ◌∷◌, ◌++◌, refl, ap}
use Rattle.jt_ast.specs.Texts.{among}
use Rattle.jt_ast.specs.Expressions.{Text}
use Rattle.jt_chains.specs.Chain.{Namespace, a_chain, a_library, same_namespace, listed}
use Rattle.jt_inherit.specs.internal.Found.{twice, chains_of}
use Rattle.jt_inherit.proofs.Membership as names

pub same : (x y : Namespace) → same_namespace x y ≡ true → x ≡ y
same (a_chain n) (a_chain m) e = ap a_chain (names.same n m e)
same (a_library n) (a_library m) e = ap a_library (names.same n m e)
same (a_chain n) (a_library m) e = absurd (cc)
same (a_library n) (a_chain m) e = absurd (cc)

pub reflexive : (x : Namespace) → same_namespace x x ≡ true
reflexive (a_chain n) = names.reflexive n
reflexive (a_library n) = names.reflexive n

pub symmetric : (x y : Namespace) → same_namespace x y ≡ same_namespace y x
symmetric (a_chain n) (a_chain m) = names.symmetric n m
symmetric (a_library n) (a_library m) = names.symmetric n m
symmetric (a_chain n) (a_library m) = refl
symmetric (a_library n) (a_chain m) = refl

abbrev pub of_namespaces : names.Members Namespace
of_namespaces =
    record {
      same = same_namespace;
      among = listed;
      again = twice;
      equal = same;
      reflexive = reflexive;
      symmetric = symmetric;
      among_none = λ x. refl;
      among_more = λ x y ys. refl;
      again_none = refl;
      again_more = λ x xs. refl;
    }

-- ---- the chains in a list

pub chains_both : (xs ys : List Namespace) → chains_of (xs ++ ys) ≡ chains_of xs ++ chains_of ys
chains_both [] ys = refl
chains_both (a_chain n ∷ xs) ys = rw (chains_both xs ys)
chains_both (a_library n ∷ xs) ys = chains_both xs ys

pub chain_among : (n : Text) (hs : List Namespace) → listed (a_chain n) hs ≡ among n (chains_of hs)
chain_among n [] = refl
chain_among n (a_chain m ∷ hs) = rw (chain_among n hs)
chain_among n (a_library m ∷ hs) = chain_among n hs
