-- A comprehension behind a generator over a domain: its items at a value are those with another name in the place of the bound one. Where
-- an alternative has, at each value, the item at the number less how many items the values before bring, it has that of the whole.
use Rattle.std.proofs.Common.{◌≡◌, refl, sym, ap, ◌∙◌, subst, Bool, true, false, ◌||◌, not, if◌then◌else◌, List, [], ◌∷◌, map, pos, Option, Some, None, option_map}
use Rattle.std.specs.Prelude.{IsTrue}
use Rattle.ess_semantics.specs.declared.words.Op2.{Op2}
use Rattle.ess_semantics.specs.declared.words.Fun.{Fun}
use Rattle.ess_semantics.specs.Lists.{and_then, append_all, list_or_none}
use Rattle.ess_semantics.specs.Values.{Text, Value, number, truth, item, node, of_list, items_of}
use Rattle.ess_semantics.specs.Order.{below, same_text}
use Rattle.ess_semantics.specs.Names.{look}
use Rattle.ess_semantics.specs.Substitution.{substitute, substitute_gens, for_name, NamesAre}
use Rattle.ess_semantics.specs.Trees.{binary, word, index, by_value, Ex, number_ex, name_ex, node_ex, comp_ex, no_exs, more_exs, ex2, Gens, no_gens, over, from, cond, Dom}
use Rattle.ess_semantics.specs.Operators.{value_of_node, sum_of, list_value, item_at, numbers_from}
use Rattle.ess_semantics.specs.Meaning.{Env, meaning, domain_of, members_in, items_under, collect, where_true, with_pat}
use Rattle.ess_semantics.specs.Contexts.{Each, EachOf}
use Rattle.ess_semantics.specs.Meets.{Meets, MeetsGens, MeetsDom}
use Rattle.ess_semantics.proofs.Orders.{to_list-of_list}
use Rattle.ess_semantics.proofs.Tests.{or-yes}
use Rattle.ess_guard_laws.proofs.MetRows.{gens-map}
use Rattle.ess_rules_laws.specs.Rules.{Unused}
use Rattle.ess_rules_laws.specs.MatrixRules.{UnusedDom}
use Rattle.ess_rules_laws.specs.Listings.{Alternative, items_listed}
use Rattle.ess_rules_laws.specs.ListedSources.{laid_out}
use Rattle.ess_rules_laws.specs.Lookups.{found}
use Rattle.ess_rules_laws.proofs.Connectives.{binary-means}
use Rattle.ess_rules_laws.proofs.Simulation.{but, where-same}
use Rattle.ess_rules_laws.proofs.Agreement.{AgreeOn, same_text-itself, look-itself, agree-but, meaning-agree, domain-agree, put-value, meaning-substituted}
use Rattle.ess_rules_laws.proofs.MeetsSimulation.{meets-agree, meets-agree-dom, meets-put}
use Rattle.ess_rules_laws.proofs.Bindings.{each-map, each-join}
use Rattle.ess_rules_laws.proofs.RuleAnswers.{behind, meaning-behind, meets-behind, name-behind}
use Rattle.ess_ordered_laws.specs.NumberedItems.{count_before, number_behind, at_each_value}
use Rattle.ess_ordered_laws.proofs.Places.{members-rise}
use Rattle.ess_ordered_laws.proofs.NumbersBehind.{at_number, less, less-is, count_at, all-joined, a_one, ones_at, ones_at-sum, collect-ones_at, ones-collected, collect-is}

-- ---- items

-- The item at a binding.
abbrev pub Item : Ex → Env → Option (List Value)
Item e = λ here. option_map (λ v. v ∷ []) (meaning e here)

-- `[e | gs][i]`.
abbrev pub Whole : Ex → Gens → Ex → Ex
Whole e gs i = node_ex false (index (by_value ∷ [])) (more_exs (comp_ex e gs) (more_exs i no_exs))

-- The alternative has the item at the number o, of those that are us.
abbrev pub Has : Option Alternative → List Value → Option Value → Env → Type 0
Has None us o env = Unit {0}
Has (Some a) us o env = (items_listed a env ≡ Some (at_number us o)) × Meets (laid_out a) env

-- What is picked out of a comprehension.
pub picked-means : (e : Ex) (gs : Gens) (i : Ex) (env : Env) (us : List Value) → items_under gs env (Item e) ≡ Some us
    → found (meaning (Whole e gs i) env) ≡ at_number us (meaning i env)
picked-means e gs i env us q =
    ap (λ o. found (value_of_node (index (by_value ∷ [])) (option_map list_value o ∷ meaning i env ∷ []))) q ∙ go (meaning i env)
  where
    itself-again : (o : Option Value) → and_then o (λ z. Some z) ≡ o
    itself-again None = refl
    itself-again (Some z) = refl

    go : (o : Option Value) → found (value_of_node (index (by_value ∷ [])) (Some (list_value us) ∷ o ∷ [])) ≡ at_number us o
    go None = refl
    go (Some v) = ap found (itself-again (item_at (of_list (numbers_from 1 us)) (of_list us) v))

-- What a list of values is.
pub list-one : (o p : Option (List Value)) → option_map list_value o ≡ option_map list_value p → o ≡ p
list-one o p q = sym (back o) ∙ ap (option_map items_of) q ∙ back p
  where
    back : (o : Option (List Value)) → option_map items_of (option_map list_value o) ≡ o
    back None = refl
    back (Some xs) = ap Some (to_list-of_list xs)

-- A 1 at each binding, where there are items.
ones-under : (e : Ex) (gs : Gens) (env : Env) (xs : List Value) → items_under gs env (Item e) ≡ Some xs
    → items_under gs env (λ here. Some (number (pos 1) ∷ [])) ≡ Some (map a_one xs)
ones-under e no_gens env xs q = go (meaning e env) q
  where
    go : (o : Option Value) → option_map (λ v. v ∷ []) o ≡ Some xs → Some (number (pos 1) ∷ []) ≡ Some (map a_one xs)
    go None q = cc
    go (Some v) q = ap (λ l. Some (map a_one l)) (let z : v ∷ [] ≡ xs = cc in z)
ones-under e (over p d gs) env xs q = go (members_in (domain_of d env)) q (λ v ys r. ones-under e gs (with_pat p v env) ys r)
  where
    go : {f g : Value → Option (List Value)} (o : Option (List Value)) → and_then o (λ vs. collect vs f) ≡ Some xs
        → ((v : Value) (ys : List Value) → f v ≡ Some ys → g v ≡ Some (map a_one ys))
        → and_then o (λ vs. collect vs g) ≡ Some (map a_one xs)
    go None q h = cc
    go (Some vs) q h = ones-collected vs _ _ h xs q
ones-under e (from p t gs) env xs q = go (meaning t env) q (λ v ys r. ones-under e gs (with_pat p v env) ys r)
  where
    go : {f g : Value → Option (List Value)} (o : Option Value) → and_then o (λ s. collect (items_of s) f) ≡ Some xs
        → ((v : Value) (ys : List Value) → f v ≡ Some ys → g v ≡ Some (map a_one ys))
        → and_then o (λ s. collect (items_of s) g) ≡ Some (map a_one xs)
    go None q h = cc
    go (Some s) q h = ones-collected (items_of s) _ _ h xs q
ones-under e (cond c gs) env xs q = go (meaning c env) q (λ r. ones-under e gs env xs r)
  where
    go : {f g : Option (List Value)} (o : Option Value) → where_true o (λ u. f) ≡ Some xs → (f ≡ Some xs → g ≡ Some (map a_one xs))
        → where_true o (λ u. g) ≡ Some (map a_one xs)
    go (Some (truth true)) q h = h q
    go (Some (truth false)) q h = ap (λ l. Some (map a_one l)) (let z : [] ≡ xs = cc in z)
    go (Some (number n)) q h = ap (λ l. Some (map a_one l)) (let z : [] ≡ xs = cc in z)
    go (Some (item a n)) q h = ap (λ l. Some (map a_one l)) (let z : [] ≡ xs = cc in z)
    go (Some (node a vs)) q h = ap (λ l. Some (map a_one l)) (let z : [] ≡ xs = cc in z)
    go None q h = ap (λ l. Some (map a_one l)) (let z : [] ≡ xs = cc in z)

-- ---- one generator, and what is behind it

-- The comprehension binds neither of the names.
abbrev pub BindsNeither : Text → Text → Ex → Gens → Type 0
BindsNeither x w e gs = NamesAre (λ a. true) (λ a. not (same_text x a || same_text w a)) (comp_ex e gs)

-- At each value of w the alternative has the item of the comprehension with w in the place of x, at the number behind the values before.
abbrev pub HasAtEach : Text → Text → Dom → Ex → Gens → Ex → Env → Option Alternative → Type 0
HasAtEach w x d e gs i env o = (v : Value) (us : List Value)
    → items_under (substitute_gens (for_name x (name_ex w)) gs) (behind w v env) (Item (substitute (for_name x (name_ex w)) e)) ≡ Some us
    → MeetsGens (substitute_gens (for_name x (name_ex w)) gs) (behind w v env) (λ here. Meets (substitute (for_name x (name_ex w)) e) here)
    → Meets (number_behind w x d gs i) (behind w v env)
    → Has o us (meaning (number_behind w x d gs i) (behind w v env)) (behind w v env)

module _ (w x : Text) (d : Dom) (e : Ex) (gs : Gens) (env : Env) (xw : same_text x w ≡ false) (we : Unused w (comp_ex e gs))
    (wd : UnusedDom w d) (apart : BindsNeither x w e gs) where
  -- The items at a value of x.
  abbrev pub At : Value → Option (List Value)
  At v = items_under gs (behind x v env) (Item e)

  -- The env at a value of w.
  abbrev Here : Value → Env
  Here v = behind w v env

  -- A value of x, behind one of w.
  agree-under : (u s : Value) → AgreeOn (but w) ((x, s) ∷ env.vals) ((x, s) ∷ (w, u) ∷ env.vals)
  agree-under u s a q = ap (λ o. if same_text x a then Some s else o) (agree-but w u env.vals a q)

  same-list : (v s : Value) → meaning (comp_ex e gs) (behind x s (Here v)) ≡ meaning (comp_ex e gs) (behind x s env)
  same-list v s =
      meaning-agree env.positions env.types env.cells (but w) (comp_ex e gs) ((x, s) ∷ env.vals) ((x, s) ∷ (w, v) ∷ env.vals) we
      (agree-under v s)

  again-met : (v s : Value) → MeetsGens gs (behind x s env) (λ here. Meets e here)
      → MeetsGens gs (behind x s (Here v)) (λ here. Meets e here)
  again-met v s m =
      meets-agree env.positions env.types env.cells (but w) (comp_ex e gs) ((x, s) ∷ env.vals) ((x, s) ∷ (w, v) ∷ env.vals) we
      (agree-under v s) m

  members-here : (v : Value) → members_in (domain_of d (Here v)) ≡ members_in (domain_of d env)
  members-here v = ap members_in
      (domain-agree env.positions env.types env.cells (but w) d env.vals ((w, v) ∷ env.vals) wd (agree-but w v env.vals))

  -- ---- with w in the place of x

  abbrev pub Put : Ex
  Put = substitute (for_name x (name_ex w)) e

  abbrev pub PutGens : Gens
  PutGens = substitute_gens (for_name x (name_ex w)) gs

  abbrev Two : Text → Bool
  Two a = same_text x a || same_text w a

  has-x : IsTrue (Two x)
  has-x = ap (λ b. b || same_text w x) (same_text-itself x)

  has-w : IsTrue (Two w)
  has-w = ap (λ b. same_text x w || b) (same_text-itself w) ∙ or-yes (same_text x w)

  pub put-items : (v : Value) → items_under PutGens (Here v) (Item Put) ≡ At v
  put-items v = list-one _ _
      (meaning-substituted env.positions env.types env.cells Two x (name_ex w) has-x has-w v (comp_ex e gs) ((w, v) ∷ env.vals) apart
      (look-itself w v env.vals) ∙ same-list v v)

  pub put-met : (v : Value) → MeetsGens gs (behind x v env) (λ here. Meets e here) → MeetsGens PutGens (Here v) (λ here. Meets Put here)
  put-met v m =
      meets-put env.positions env.types env.cells Two x (name_ex w) has-x has-w (comp_ex e gs) ((x, v) ∷ (w, v) ∷ env.vals)
      ((w, v) ∷ env.vals) apart
      (put-value env.positions env.types env.cells Two x (name_ex w) has-x has-w v ((w, v) ∷ env.vals) (look-itself w v env.vals), tt)
      (again-met v v m)

  module _ (vs : List Value) (q : members_in (domain_of d env) ≡ Some vs) (md : MeetsDom d env)
      (ms : Each vs (λ v. MeetsGens gs (behind x v env) (λ here. Meets e here))) where
    -- Structures of what counts.
    count-met : (v : Value) → Meets (count_before w x d gs) (Here v)
    count-met v = (
      (
        meets-agree-dom env.positions env.types env.cells (but w) d env.vals ((w, v) ∷ env.vals) wd (agree-but w v env.vals) md,
        subst (λ o. EachOf o (λ s. MeetsGens (cond (ex2 true Op2.Lt (name_ex x) (name_ex w)) gs) (behind x s (Here v))
            (λ here. Meets (number_ex (pos 1)) here))) (sym (members-here v ∙ q))
            (each-map vs _ _ (λ s m. ((tt, (tt, tt)), λ k. gens-map gs (behind x s (Here v)) _ _ (λ here p. tt) (again-met v s m))) ms),
      ),
      tt,
    )

    module _ (there : Each vs (λ v. At v ≡ Some (list_or_none (At v)))) where
      abbrev pub f : Value → List Value
      f v = list_or_none (At v)

      -- A 1 for each item at a value of x below that of w.
      abbrev Test : Value → Value → Option (List Value)
      Test v s = where_true (meaning (ex2 true Op2.Lt (name_ex x) (name_ex w)) (behind x s (Here v)))
          (λ k. items_under gs (behind x s (Here v)) (λ here. Some (number (pos 1) ∷ [])))

      tested : (v s : Value) → At s ≡ Some (f s) → Test v s ≡ where_true (Some (truth (below s v))) (λ k. Some (map a_one (f s)))
      tested v s t = where-same _ _ _ _
          (binary-means (behind x s (Here v)) true Op2.Lt (name_ex x) (name_ex w) s v (name-behind x s (Here v))
          (ap (λ b. if b then Some s else look ((w, v) ∷ env.vals) w) xw ∙ look-itself w v env.vals))
          (ones-under e gs (behind x s (Here v)) (f s) (list-one _ _ (same-list v s) ∙ t))

      -- How many items the values before bring.
      count-means : (v : Value) → meaning (count_before w x d gs) (Here v) ≡ Some (number (pos (count_at f vs v)))
      count-means v = ap (λ o. value_of_node (word Fun.Sum) (option_map list_value o ∷ []))
          (ap (λ o. and_then o (λ us. collect us (Test v))) (members-here v ∙ q)
          ∙ collect-ones_at f v (Test v) vs (each-map vs _ _ (λ s t. tested v s t) there))
          ∙ ap (λ l. Some (number (sum_of l))) (to_list-of_list (ones_at f vs v)) ∙ ap (λ y. Some (number y)) (ones_at-sum f vs v)

      module _ (i : Ex) (wi : Unused w i) (mi : Meets i env) where
        -- The number behind them.
        behind-means : (v : Value)
            → meaning (number_behind w x d gs i) (Here v) ≡ option_map (λ n. less n (count_at f vs v)) (meaning i env)
        behind-means v =
            ap (λ o. value_of_node (binary Op2.Minus) (o ∷ meaning (count_before w x d gs) (Here v) ∷ [])) (meaning-behind w v i env wi)
            ∙ ap (λ o. value_of_node (binary Op2.Minus) (meaning i env ∷ o ∷ [])) (count-means v) ∙ go (meaning i env)
          where
            go : (o : Option Value) → value_of_node (binary Op2.Minus) (o ∷ Some (number (pos (count_at f vs v))) ∷ [])
                ≡ option_map (λ n. less n (count_at f vs v)) o
            go None = refl
            go (Some n) = less-is n (count_at f vs v)

        behind-met : (v : Value) → Meets (number_behind w x d gs i) (Here v)
        behind-met v = (meets-behind w v i env wi mi, (count-met v, tt))

        -- Where an alternative has the item at each value, it has that of the whole.
        pub each-has : (a : Alternative) → HasAtEach w x d e gs i env (Some a)
            → Has (Some (at_each_value w d a)) (append_all (map f vs)) (meaning i env) env
        each-has a h = (
          ap (λ o. and_then o (λ us. collect us F)) q ∙ collect-is vs F g (each-map vs _ _ (λ v p. p.0) answers)
              ∙ ap Some (all-joined f vs (members-rise (domain_of d env) vs q) (meaning i env)),
          (
            md,
            subst (λ o. EachOf o (λ v. MeetsGens a.gens (Here v) (λ here. Meets a.item here))) (sym q)
                (each-map vs _ _ (λ v p. p.1) answers),
          ),
        )
          where
            F : Value → Option (List Value)
            F v = items_listed a (Here v)

            g : Value → List Value
            g v = at_number (f v) (option_map (λ n. less n (count_at f vs v)) (meaning i env))

            answers : Each vs (λ v. (F v ≡ Some (g v)) × Meets (laid_out a) (Here v))
            answers = each-join vs (λ v. At v ≡ Some (f v)) (λ v. MeetsGens gs (behind x v env) (λ here. Meets e here)) _
                (λ v t m. subst (λ o. Has (Some a) (f v) o (Here v)) (behind-means v)
                (h v (f v) (put-items v ∙ t) (put-met v m) (behind-met v))) there ms
