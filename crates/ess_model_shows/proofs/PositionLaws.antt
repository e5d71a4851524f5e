-- Positions of values, put from the last to the first.
use Rattle.std.proofs.Common.{◌≡◌, sym, ap, ◌∙◌, ℕ, suc, ◌+◌, ◌-◌, ◌<◌, ◌≤◌, List, ◌∷◌, ◌++◌, length, drop, get_or, pos, Some, if◌then◌else◌, arith}
use Rattle.std.proofs.lemmas.List.{drop_more, drop_all}
use Rattle.ess_semantics.specs.Values.{Text}
use Rattle.ess_semantics.specs.Order.{same_text}
use Rattle.ess_semantics.specs.Names.{Names, look}
use Rattle.ess_semantics.specs.Trees.{Ex, number_ex}
use Rattle.conjure_model_laws.specs.Shown.{positions_from}
use Rattle.ess_model_shown.specs.Tables.{SameNames}

-- Before the first there are none.
pub none_put : (vs : List Text) (ns : Names Ex) (k : ℕ) → length vs ≤ k → SameNames ns (positions_from (suc k) (drop k vs) ++ ns)
none_put vs ns k le a = sym (ap (λ l. look (positions_from (suc k) l ++ ns) a) (drop_all k vs le))

-- The position of one value more, in front of those behind it.
pub one_put : (vs : List Text) (k j : ℕ) (x : Text) (e : Ex) (ms ns os : Names Ex) → 0 < k → j ≡ k - 1 → k ≤ length vs → x ≡ get_or vs j x
    → e ≡ number_ex (pos k) → SameNames ms (positions_from (suc k) (drop k vs) ++ os) → SameNames ns ((x, e) ∷ ms)
    → SameNames ns (positions_from (suc j) (drop j vs) ++ os)
one_put vs k j x e ms ns os more less le is p h n a =
    let one : suc j ≡ k = omega (arith, more, less) in
    let next : j + 1 ≡ k = omega (arith, more, less) in
    let lt : j < length vs = omega (arith, more, less, le) in
    let left : drop j vs ≡ x ∷ drop k vs =
    drop_more vs j x lt ∙ ap (λ z. z ∷ drop (j + 1) vs) (sym is) ∙ ap (λ i. x ∷ drop i vs) next in
    n a ∙ ap (λ e. look ((x, e) ∷ ms) a) p
    ∙ ap (λ o. if same_text x a then Some (number_ex (pos k)) else o) (h a)
    ∙ sym (ap (λ i. look (positions_from i (drop j vs) ++ os) a) one
    ∙ ap (λ l. look (positions_from k l ++ os) a) left)

-- All of them.
pub all_put : (vs : List Text) (ns os : Names Ex) (k : ℕ) → k ≡ 0 → SameNames ns (positions_from (suc k) (drop k vs) ++ os)
    → SameNames ns (positions_from 1 vs ++ os)
all_put vs ns os k z h a = h a ∙ ap (λ k. look (positions_from (suc k) (drop k vs) ++ os) a) z
