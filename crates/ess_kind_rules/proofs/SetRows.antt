-- Sets of the items of alternatives, united from the back.
use Rattle.std.proofs.Common.{◌≡◌, refl, sym, ap, ◌∙◌, arith, ℕ, zero, suc, ◌+◌, ◌-◌, ◌<◌, ◌≤◌, false, List, [], ◌∷◌, length, map, drop, get_or}
use Rattle.std.proofs.lemmas.List.{drop_more, drop_all}
use Rattle.ess_semantics.specs.declared.words.Op2.{Op2}
use Rattle.ess_semantics.specs.declared.words.Fun.{Fun}
use Rattle.ess_semantics.specs.Trees.{set_literal, Ex, node_ex, no_exs, ex2, fun1}
use Rattle.ess_rules_laws.specs.ListedSources.{laid_out}
use Rattle.ess_open_rules_laws.specs.OpenSources.{sets_united}
use Rattle.ess_rules_forms.specs.declared.alternatives.Alternative.{Alternative}
use Rattle.ess_rules_forms.specs.PureAlternatives.{pure_alternative}

-- Of no alternatives.
pub united_none : (l : List Alternative) (e : Ex) → length l ≡ 0 → e ≡ node_ex false set_literal no_exs → e ≡ sets_united (map pure_alternative l)
united_none [] e h i = i
united_none (a ∷ l) e h i = cc

-- The set of the items of one.
abbrev set-of : Alternative → Ex
set-of a = fun1 false Fun.ToSet (laid_out (pure_alternative a))

-- Of the last one.
pub united_last : (l : List Alternative) (n : ℕ) (a : Alternative) (e : Ex) → n + 1 ≡ length l → a ≡ get_or l n a → e ≡ set-of a
    → e ≡ sets_united (map pure_alternative (drop n l))
united_last l n a e h is i =
    let here : drop n l ≡ a ∷ [] = drop_more l n a (omega (arith, h)) ∙ ap (λ z. z ∷ drop (n + 1) l) (sym is)
    ∙ ap (λ m. a ∷ m) (drop_all (n + 1) l (omega (arith, h))) in
    i ∙ sym (ap (λ m. sets_united (map pure_alternative m)) here)

two-united : (a b : Alternative) (l : List Alternative) → sets_united (map pure_alternative (a ∷ b ∷ l))
    ≡ ex2 false Op2.Union (set-of a) (sets_united (map pure_alternative (b ∷ l)))
two-united a b l = refl

-- Of one more.
pub united_more : (l : List Alternative) (n m : ℕ) (a b : Alternative) (e : Ex) → m ≡ n + 1 → m < length l → a ≡ get_or l n a
    → e ≡ sets_united (map pure_alternative (drop m l))
    → ex2 false Op2.Union (set-of a) e ≡ sets_united (map pure_alternative (drop n l))
united_more l n m a b e h lt is i =
    let here : drop n l ≡ a ∷ drop m l = drop_more l n a (omega (arith, h, lt)) ∙ ap (λ z. z ∷ drop (n + 1) l) (sym is)
    ∙ ap (λ k. a ∷ drop k l) (sym h) in
    let there : drop m l ≡ get_or l m b ∷ drop (m + 1) l = drop_more l m b lt in
    ap (ex2 false Op2.Union (set-of a)) (i ∙ ap (λ k. sets_united (map pure_alternative k)) there)
    ∙ sym (ap (λ k. sets_united (map pure_alternative k)) (here ∙ ap (λ k. a ∷ k) there) ∙ two-united a (get_or l m b) (drop (m + 1) l))
