-- Of a partition by numbers: the members of a set lie together where some number is that of all.
use Rattle.std.proofs.Common.{◌≡◌, refl, sym, ap, ◌∙◌, Bool, true, false, ◌&&◌, ◌||◌, not, List, [], ◌∷◌, ◌++◌, map, ℤ, Option, Some, None, option_map}
use Rattle.std.specs.List.{list_all, list_any}
use Rattle.ess_semantics.specs.declared.words.Op2.{Op2}
use Rattle.ess_semantics.specs.declared.words.Fun.{Fun}
use Rattle.ess_semantics.specs.Lists.{and_then}
use Rattle.ess_semantics.specs.Values.{Text, Value, number, truth, items_of}
use Rattle.ess_semantics.specs.Order.{same_int, same_text}
use Rattle.ess_semantics.specs.Collections.{holds, sorted_once}
use Rattle.ess_semantics.specs.Numbers.{one_to}
use Rattle.ess_semantics.specs.Trees.{binary, word, Mark, name_pat, Ex, Exs, name_ex, node_ex, comp_ex, cell_ex, ex2, fun1, no_exs, more_exs, no_gens, over, from, cond, Dom}
use Rattle.ess_semantics.specs.Operators.{value_of_node, false_where_undefined, any_true, within}
use Rattle.ess_semantics.specs.Tables.{code, cell_at}
use Rattle.ess_semantics.specs.Meaning.{Env, meaning, meanings, domain_of, members_in, indices, collect, where_true, cell_in, cell_value}
use Rattle.ess_semantics.specs.Meets.{Meets}
use Rattle.ess_semantics.proofs.Orders.{to_list-of_list}
use Rattle.ess_rules_laws.specs.Rules.{Unused}
use Rattle.ess_rules_laws.specs.SetListings.{put_last}
use Rattle.ess_rules_laws.specs.SlotListings.{slots_dom}
use Rattle.ess_rules_laws.proofs.Connectives.{any-means}
use Rattle.ess_rules_laws.proofs.Simulation.{but}
use Rattle.ess_rules_laws.proofs.Agreement.{agree-but, meanings-agree}
use Rattle.ess_rules_laws.proofs.ExplicitListing.{last-met}
use Rattle.ess_rules_laws.proofs.OccurrenceListing.{put-meanings, last-index}
use Rattle.ess_rules_laws.proofs.RuleAnswers.{behind, each-in-any, all-over, meaning-behind, meets-behind, name-behind}
use Rattle.ess_views_kept_laws.proofs.UsedMembers.{collect-picked}
use Rattle.ess_kinds_kept_laws.specs.PartitionAsks.{NumbersEnough, MembersTold}
use Rattle.ess_kinds_kept_laws.proofs.PartNumbering.{Parts, together-numbered, all-same}
use Rattle.ess_kinds_kept_laws.proofs.MemberNumbers.{number_or_0}
use Rattle.ess_kinds_kept_laws.proofs.NumberingView.{PartsView, PartsSeen, number-there}
use Rattle.ess_kinds_kept_laws.proofs.PartyRules.{no-cell, UpTo, up-to-says, up-to-met, numbers-listed, numbers-picked, up_to_number, each-of-any, collect-values}

no : {A : Type 0} → false ≡ true → A
no h = cc

any-truths : (f : ℤ → Bool) (ks : List ℤ) → any_true (map (λ k. truth (f k)) ks) ≡ list_any f ks
any-truths f [] = refl
any-truths f (k ∷ ks) = ap (λ b. f k || b) (any-truths f ks)

-- ---- a set of terms that are there

module _ (ms : List Mark) (es : Exs) (dd : Dom) (m w : Text) (js : Exs) (env : Env) (met : Meets (PartsView ms es dd m w js env) env)
    (s : PartsSeen ms es dd m w js env) (n : Ex) (enough : NumbersEnough n (PartsView ms es dd m w js env) env) where
  abbrev V : Ex
  V = PartsView ms es dd m w js env

  abbrev pub N : Value → ℤ
  N v = number_or_0 (cell_at s.u (s.i ++ (code v ∷ [])))

  -- Whether a value is a member with this number.
  abbrev pub Has : Value → ℤ → Bool
  Has y k = holds s.xs y && same_int (N y) k

  module _ (t : Ex) (v : Value) (q : meaning t env ≡ Some v) (told : MembersTold t dd env) where
    abbrev pub Old : Ex
    Old = node_ex true (word Fun.Together) (more_exs t (more_exs V no_exs))

    -- Some number is that of all.
    pub together-means : meaning Old env ≡ Some (truth (list_any (λ k. list_all (λ y. Has y k) (items_of v)) (one_to s.c)))
    together-means = ap (λ o. false_where_undefined true (value_of_node (word Fun.Together) (o ∷ meaning V env ∷ []))) q
        ∙ ap (λ o. false_where_undefined true (value_of_node (word Fun.Together) (Some v ∷ o ∷ []))) s.is_value
        ∙ ap (λ l. Some (truth (list_any (λ q. within v q) l))) (to_list-of_list (sorted_once (Parts s.xs N s.c)))
        ∙ ap (λ b. Some (truth b)) (together-numbered s.xs N s.c v (told.once v q))

    -- ---- over the numbers

    -- What a cell says of a number.
    abbrev Says : Option ℤ → ℤ → Bool
    Says None k = false
    Says (Some z) k = same_int z k

    says-has : (k : ℤ) (y : Value) → holds (items_of v) y ≡ true → Says (cell_at s.u (s.i ++ (code y ∷ []))) k ≡ Has y k
    says-has k y h = go (holds s.xs y) refl
      where
        go : (b : Bool) → holds s.xs y ≡ b → Says (cell_at s.u (s.i ++ (code y ∷ []))) k ≡ b && same_int (N y) k
        go true e = ap (λ o. Says o k) (number-there ms es dd m w js env met s n enough y e)
        go false e = ap (λ o. Says o k) (no-cell ms es dd m w js env met s n enough y (told.told v q y h) e)

    module _ (x y : Text) (new : Unused x V) (new-n : Unused x n) (new-t : Unused x t) (new-y : Unused y V) (apart : not (same_text y x) ≡ true)
      where
        abbrev pub Cell : Ex
        Cell = cell_ex false w (put_last js (name_ex y))

        abbrev pub Is : Ex
        Is = ex2 true Op2.Eq Cell (name_ex x)

        abbrev pub All : Ex
        All = fun1 true Fun.And (comp_ex Is (from (name_pat y) t no_gens))

        abbrev pub New : Ex
        New = fun1 true Fun.Or (comp_ex All (over (name_pat x) (slots_dom n) (cond (UpTo ms es dd m w js env met s n enough x new new-n) no_gens)))

        -- Index lists stay where the number is known.
        index-there : (k : ℤ) → indices (meanings js (behind x (number k) env)) ≡ Some s.i
        index-there k = ap indices (meanings-agree env.positions env.types env.cells (but x) js env.vals ((x, number k) ∷ env.vals) new.1
            (agree-but x (number k) env.vals)) ∙ s.index_is

        cell-here : (k : ℤ) (u : Value) → meaning Cell (behind y u (behind x (number k) env)) ≡
            option_map (cell_value false) (cell_at s.u (s.i ++ (code u ∷ [])))
        cell-here k u = ap (λ o. cell_in false o (indices (meanings (put_last js (name_ex y)) (behind y u (behind x (number k) env)))))
            s.second_is
            ∙ ap (cell_in false (Some s.u)) (ap indices (put-meanings y u js (behind x (number k) env) new-y.1)
            ∙ last-index (meanings js (behind x (number k) env)) s.i u (index-there k))

        is-here : (k : ℤ) (u : Value) → meaning Is (behind y u (behind x (number k) env)) ≡
            Some (truth (Says (cell_at s.u (s.i ++ (code u ∷ []))) k))
        is-here k u = ap (λ o. false_where_undefined true (value_of_node (binary Op2.Eq)
            (o ∷ meaning (name_ex x) (behind y u (behind x (number k) env)) ∷ []))) (cell-here k u)
            ∙ ap (λ o. false_where_undefined true (value_of_node (binary Op2.Eq)
            (option_map (cell_value false) (cell_at s.u (s.i ++ (code u ∷ []))) ∷ o ∷ [])))
            (meaning-behind y u (name_ex x) (behind x (number k) env) apart ∙ name-behind x (number k) env)
            ∙ go (cell_at s.u (s.i ++ (code u ∷ [])))
          where
            go : (o : Option ℤ) → false_where_undefined true (value_of_node (binary Op2.Eq)
                (option_map (cell_value false) o ∷ Some (number k) ∷ [])) ≡ Some (truth (Says o k))
            go None = refl
            go (Some z) = refl

        -- Whether all have the number k.
        abbrev AllHave : ℤ → Bool
        AllHave k = list_all (λ y. Has y k) (items_of v)

        all-here : (k : ℤ) → meaning All (behind x (number k) env) ≡ Some (truth (AllHave k))
        all-here k = all-over y t Is (behind x (number k) env) (λ u. Says (cell_at s.u (s.i ++ (code u ∷ []))) k) (is-here k) v
            (meaning-behind x (number k) t env new-t ∙ q)
            ∙ ap (λ b. Some (truth b)) (all-same (λ u. Says (cell_at s.u (s.i ++ (code u ∷ []))) k) (λ y. Has y k) (items_of v) (items_of v)
            (λ u h. says-has k u h) (λ u h. h))

        abbrev At : Value → Option (List Value)
        At u = option_map (λ w. w ∷ []) (meaning All (behind x u env))

        abbrev Tested : Value → Option (List Value)
        Tested u = where_true (meaning (UpTo ms es dd m w js env met s n enough x new new-n) (behind x u env)) (λ z. At u)

        pub numbered-means : meaning Old env ≡ meaning New env
        numbered-means = together-means
            ∙ ap (λ b. Some (truth b)) (sym (any-truths AllHave (one_to s.c)))
            ∙ sym (any-means env All (over (name_pat x) (slots_dom n) (cond (UpTo ms es dd m w js env met s n enough x new new-n) no_gens))
            (map (λ k. truth (AllHave k)) (one_to s.c))
            (ap (λ o. and_then o (λ vs. collect vs Tested)) (numbers-listed ms es dd m w js env met s n enough x new new-n)
            ∙ collect-picked (up_to_number s.c) Tested At
            (λ k. ap (λ o. where_true o (λ u. At (number k))) (up-to-says ms es dd m w js env met s n enough x new new-n k))
            (one_to enough.often)
            ∙ ap (λ l. collect (map number l) At) (numbers-picked ms es dd m w js env met s n enough x new new-n)
            ∙ collect-values (λ k. truth (AllHave k)) At (one_to s.c) (λ k. ap (option_map (λ w. w ∷ [])) (all-here k))))

        pub numbered-met : Meets t env → Meets New env
        numbered-met mt = (
          (
            (tt, (enough.met, tt)),
            each-of-any (members_in (domain_of (slots_dom n) env)) _ (λ k. (
              up-to-met ms es dd m w js env met s n enough x new new-n k,
              λ z. (
                (
                  meets-behind x k t env new-t mt,
                  each-in-any (meaning t (behind x k env)) _ (λ u. (
                    last-met y u js (behind x k env) new-y.1 (meets-behind x k (cell_ex false m js) env new.1 met.2),
                    (tt, tt),
                  )),
                ),
                tt,
              ),
            )),
          ),
          tt,
        )
