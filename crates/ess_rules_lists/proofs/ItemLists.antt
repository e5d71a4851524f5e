-- Items of literals: the one at a place, and what is made of all of them.
use Rattle.std.proofs.Common.{◌≡◌, refl, ap, ◌∙◌, arith, ℕ, zero, suc, ◌-◌, ◌<◌, ◌≤◌, true, List, [], ◌∷◌, ◌++◌, length, map, get_or, Some, None}
use Rattle.ess_semantics.specs.declared.words.Op2.{Op2}
use Rattle.ess_semantics.specs.Trees.{Ex, Exs, no_exs, more_exs, ex2}
use Rattle.ess_core.specs.TreeViews.{exs_of}
use Rattle.ess_core_nodes.specs.declared.nodes.Node.{Node}
use Rattle.ess_core_nodes.specs.NodeViews.{pure_node, pure_nodes}
use Rattle.ess_rules_laws.specs.LiteralRules.{nth, unequal_each, unequal_pairs}
use Rattle.ess_rules_lists.specs.Before.{exs_before}

-- There is no item before the first.
pub nth_zero : (es : Exs) → None ≡ nth es 0
nth_zero no_exs = refl
nth_zero (more_exs e es) = refl

-- Nor behind the last.
pub nth_past : (ns : List Node) (k : ℕ) → length ns < k → None ≡ nth (pure_nodes ns) k
nth_past [] k h = refl
nth_past (n ∷ ns) zero h = absurd (omega arith)
nth_past (n ∷ ns) (suc zero) h = absurd (omega arith)
nth_past (n ∷ ns) (suc (suc k)) h = let l : length ns < suc k = omega arith in nth_past ns (suc k) l

nth-suc : (ns : List Node) (k : ℕ) (x : Node) → k < length ns → x ≡ get_or ns k x → Some (pure_node x) ≡ nth (pure_nodes ns) (suc k)
nth-suc [] k x h e = absurd (omega arith)
nth-suc (n ∷ ns) zero x h e = ap (λ y. Some (pure_node y)) e
nth-suc (n ∷ ns) (suc k) x h e = let l : k < length ns = omega arith in nth-suc ns k x l e

-- The item at a place from 1 is the one that a row has there.
pub nth_there : (ns : List Node) (k : ℕ) (x : Node) → 0 < k → k ≤ length ns → x ≡ get_or ns (k - 1) x
    → Some (pure_node x) ≡ nth (pure_nodes ns) k
nth_there ns zero x h l e = absurd (omega arith)
nth_there ns (suc k) x h l e =
    let p : suc k - 1 ≡ k = omega arith in
    let m : k < length ns = omega arith in
    nth-suc ns k x m (e ∙ ap (λ i. get_or ns i x) p)

-- A row of no items.
pub none_left : (ns : List Node) → length ns ≡ 0 → ns ≡ []
none_left [] e = refl
none_left (n ∷ ns) e = absurd (omega arith)

-- Without others these are all.
pub before_none : (es : List Ex) → exs_before es no_exs ≡ exs_of es
before_none [] = refl
before_none (e ∷ es) = ap (more_exs e) (before_none es)

before_both : (es fs : List Ex) (rest : Exs) → exs_before (es ++ fs) rest ≡ exs_before es (exs_before fs rest)
before_both [] fs rest = refl
before_both (e ∷ es) fs rest = ap (more_exs e) (before_both es fs rest)

map_both : (ms ns : List Node) → map pure_node (ms ++ ns) ≡ map pure_node ms ++ map pure_node ns
map_both [] ns = refl
map_both (m ∷ ms) ns = ap (λ l. pure_node m ∷ l) (map_both ms ns)

each_unequal : (a : Ex) (ns : List Node) (rest : Exs)
    → exs_before (map (λ b. ex2 true Op2.Ne (pure_node b) a) ns) rest ≡ unequal_each a (pure_nodes ns) rest
each_unequal a [] rest = refl
each_unequal a (n ∷ ns) rest = ap (more_exs (ex2 true Op2.Ne (pure_node n) a)) (each_unequal a ns rest)

-- The pairs of one item come before those of the items behind it.
pub unequal_more : (done new : List Node) (a : Node) (ns : List Node)
    → map pure_node new ≡ map (λ b. ex2 true Op2.Ne (pure_node b) (pure_node a)) ns
    → exs_before (map pure_node (done ++ new)) (unequal_pairs (pure_nodes ns))
    ≡ exs_before (map pure_node done) (unequal_pairs (pure_nodes (a ∷ ns)))
unequal_more done new a ns e =
    ap (λ l. exs_before l (unequal_pairs (pure_nodes ns))) (map_both done new)
    ∙ before_both (map pure_node done) (map pure_node new) (unequal_pairs (pure_nodes ns))
    ∙ ap (λ l. exs_before (map pure_node done) (exs_before l (unequal_pairs (pure_nodes ns)))) e
    ∙ ap (exs_before (map pure_node done)) (each_unequal (pure_node a) ns (unequal_pairs (pure_nodes ns)))
