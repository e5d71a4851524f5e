-- One of the operands, from 1, and another one in its place.
use Rattle.std.proofs.Common.{◌≡◌, refl, ap, ◌∙◌, arith, ℕ, zero, suc, ◌+◌, ◌-◌, ◌<◌, ◌≤◌, List, [], ◌∷◌, ◌++◌, length, take, drop}
use Rattle.std.proofs.Common.{get_or, Some, None}
use Rattle.std.proofs.lemmas.List.{take_rest}
use Rattle.ess_semantics.specs.Trees.{Ex, Exs, no_exs, more_exs}
use Rattle.ess_core_nodes.specs.declared.nodes.Node.{Node}
use Rattle.ess_core_nodes.specs.NodeViews.{pure_node, pure_nodes}
use Rattle.ess_rules_laws.specs.LiteralRules.{nth}
use Rattle.ess_rules_laws.specs.Lookups.{put_nth}

-- There is no operand before the first.
pub nth_zero : (es : Exs) → None ≡ nth es 0
nth_zero no_exs = refl
nth_zero (more_exs e es) = refl

-- Nor behind the last.
pub nth_past : (ns : List Node) (k : ℕ) → length ns < k → None ≡ nth (pure_nodes ns) k
nth_past [] k h = refl
nth_past (n ∷ ns) zero h = absurd (omega arith)
nth_past (n ∷ ns) (suc zero) h = absurd (omega arith)
nth_past (n ∷ ns) (suc (suc k)) h = let l : length ns < suc k = omega arith in nth_past ns (suc k) l

nth-suc : (ns : List Node) (k : ℕ) (x : Node) → k < length ns → x ≡ get_or ns k x → Some (pure_node x) ≡ nth (pure_nodes ns) (suc k)
nth-suc [] k x h e = absurd (omega arith)
nth-suc (n ∷ ns) zero x h e = ap (λ y. Some (pure_node y)) e
nth-suc (n ∷ ns) (suc k) x h e = let l : k < length ns = omega arith in nth-suc ns k x l e

-- The operand at a place from 1 is the one that a row has there.
pub nth_there : (ns : List Node) (k : ℕ) (x : Node) → 0 < k → k ≤ length ns → x ≡ get_or ns (k - 1) x
    → Some (pure_node x) ≡ nth (pure_nodes ns) k
nth_there ns zero x h l e = absurd (omega arith)
nth_there ns (suc k) x h l e =
    let p : suc k - 1 ≡ k = omega arith in
    let m : k < length ns = omega arith in
    nth-suc ns k x m (e ∙ ap (λ i. get_or ns i x) p)

put-suc : (ns : List Node) (i : ℕ) (b : Node) → i < length ns
    → pure_nodes ((take i ns ++ b ∷ []) ++ drop (i + 1) ns) ≡ put_nth (pure_nodes ns) (suc i) (pure_node b)
put-suc [] i b h = absurd (omega arith)
put-suc (n ∷ ns) zero b h = refl
put-suc (n ∷ ns) (suc i) b h =
    let e : suc i + 1 ≡ suc (i + 1) = omega arith in
    let l : i < length ns = omega arith in
    rw e (ap (more_exs (pure_node n)) (put-suc ns i b l))

put-before : (ns : List Node) (k : ℕ) (b : Node) → 0 < k → k ≤ length ns
    → pure_nodes ((take (k - 1) ns ++ b ∷ []) ++ drop (k - 1 + 1) ns) ≡ put_nth (pure_nodes ns) k (pure_node b)
put-before ns zero b h l = absurd (omega arith)
put-before ns (suc k) b h l =
    let e : suc k - 1 ≡ k = omega arith in
    let m : k < length ns = omega arith in
    rw e (put-suc ns k b m)

-- Another one in the place of an operand that is there.
pub put_there : (ns ms : List Node) (k : ℕ) (b : Node) → 0 < k → k ≤ length ns
    → ms ≡ (take (k - 1) ns ++ b ∷ []) ++ take (length ns - (k - 1 + 1)) (drop (k - 1 + 1) ns)
    → pure_nodes ms ≡ put_nth (pure_nodes ns) k (pure_node b)
put_there ns ms k b h l e =
    ap pure_nodes (e ∙ ap (λ xs. (take (k - 1) ns ++ b ∷ []) ++ xs) (take_rest ns (k - 1 + 1))) ∙ put-before ns k b h l

put-past : (ns : List Node) (k : ℕ) (b : Ex) → length ns < k → pure_nodes ns ≡ put_nth (pure_nodes ns) k b
put-past [] k b h = refl
put-past (n ∷ ns) zero b h = absurd (omega arith)
put-past (n ∷ ns) (suc zero) b h = absurd (omega arith)
put-past (n ∷ ns) (suc (suc k)) b h =
    let l : length ns < suc k = omega arith in ap (more_exs (pure_node n)) (put-past ns (suc k) b l)

-- Behind the last one nothing changes.
pub put_past : (ns ms : List Node) (k : ℕ) (b : Ex) → length ns < k → ms ≡ ns → pure_nodes ms ≡ put_nth (pure_nodes ns) k b
put_past ns ms k b h e = ap pure_nodes e ∙ put-past ns k b h

-- Nor before the first.
pub put_zero : (es : Exs) (b : Ex) → put_nth es 0 b ≡ es
put_zero no_exs b = refl
put_zero (more_exs e es) b = refl
