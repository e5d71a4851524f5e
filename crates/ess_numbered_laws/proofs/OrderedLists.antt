-- What a sign between lists means, said by the numbers of their items.
use Rattle.std.proofs.Common.{◌≡◌, refl, sym, ap, ◌∙◌, ℕ, zero, suc, ◌≤◌, Bool, true, false, ◌&&◌, ◌||◌, if◌then◌else◌, List, [], ◌∷◌, length, pos, Some, option_map, arith}
use Rattle.std.specs.Prelude.{IsTrue, nat_lt, nat_le}
use Rattle.std.specs.List.{list_all}
use Rattle.std.proofs.lemmas.Bool.{leb-true, le-leb}
use Rattle.ess_semantics.specs.declared.words.Op2.{Op2}
use Rattle.ess_semantics.specs.Values.{Text, Value, number, truth, of_list}
use Rattle.ess_semantics.specs.Order.{same, below, same_text}
use Rattle.ess_semantics.specs.Trees.{binary, Ex, name_ex, ex2, no_gens, cond}
use Rattle.ess_semantics.specs.Types.{Ty}
use Rattle.ess_semantics.specs.TypeMembers.{is_of}
use Rattle.ess_semantics.specs.Operators.{component, implies, value_of_node, false_where_undefined}
use Rattle.ess_semantics.specs.Meaning.{Env, meaning, where_true}
use Rattle.ess_semantics.proofs.Orders.{to_list-of_list}
use Rattle.ess_rules_laws.specs.Rules.{Unused}
use Rattle.ess_rules_laws.proofs.Connectives.{binary-means, and-means, or-means}
use Rattle.ess_rules_laws.proofs.RuleAnswers.{behind, meaning-behind, name-behind}
use Rattle.ess_numbered_laws.specs.CountedSources.{items_counted, is_number_of}
use Rattle.ess_numbered_laws.specs.EqualByNumber.{at_each_number, items_compared}
use Rattle.ess_numbered_laws.specs.OrderByNumber.{equal_before, lower_at_a_number, begins_equally, lower_list}
use Rattle.ess_numbered_laws.specs.OrderLaws.{at_some, at_each, at_both, lower_at_some, is_prefix, fewer, is_lower}
use Rattle.ess_numbered_laws.proofs.LowerByNumber.{some-agree, each-agree, lower-by-number}
use Rattle.ess_numbered_laws.proofs.ItemsByNumber.{count-means, listed, compared, compared-means, compared-both, compared-neither}
use Rattle.ess_numbered_laws.proofs.NumbersUpTo.{lower-number, no-higher-number, bit_where, where-true, some-number, each-number}

-- `<` or `<=`.
abbrev pub sign : Bool → Op2
sign false = Op2.Lt
sign true = Op2.Le

-- `x <= sum([1 | z <- a])` at a number, of a list.
pub is-number-means : (x z : Text) (a : Ex) (env : Env) (xs : List Value) → Unused x a → meaning a env ≡ Some (listed xs) → (k : ℕ) →
    meaning (is_number_of x z a) (behind x (number (pos k)) env) ≡ Some (truth (nat_le k (length xs)))
is-number-means x z a env xs new q k = let here = behind x (number (pos k)) env in
    binary-means here true Op2.Le (name_ex x) (items_counted z a) (number (pos k)) (number (pos (length xs)))
    (name-behind x (number (pos k)) env)
    (count-means z a here (listed xs) (meaning-behind x (number (pos k)) a env new ∙ q)
    ∙ ap (λ l. Some (number (pos (length l)))) (to_list-of_list xs))
    ∙ ap (λ b. Some (truth b)) (no-higher-number k (length xs))

module _ (x z : Text) (apart : same_text z x ≡ false) (n a b : Ex) (t u : Ty) (env : Env) (most : ℕ)
    (value : meaning n env ≡ Some (number (pos most))) (new-n : Unused x n)
    (one-a : Unused x a) (other-a : Unused z a) (one-b : Unused x b) (other-b : Unused z b) (xs ys : List Value)
    (is-xs : meaning a env ≡ Some (listed xs)) (is-ys : meaning b env ≡ Some (listed ys))
    (typed-xs : list_all (is_of env.positions env.types t) xs ≡ true) (typed-ys : list_all (is_of env.positions env.types u) ys ≡ true)
  where
    -- What the equation of the items at a number says, and `<`.
    abbrev SaidEqual : ℕ → Bool
    SaidEqual j = compared Op2.Eq t u (component (of_list xs) j) (component (of_list ys) j)

    abbrev SaidLower : ℕ → Bool
    SaidLower j = compared Op2.Lt t u (component (of_list xs) j) (component (of_list ys) j)

    abbrev SaidBefore : ℕ → Bool
    SaidBefore k = at_each (λ j. implies (nat_lt j k) (SaidEqual j)) 1 most

    compared-here : (o : Op2) (k : ℕ) → meaning (items_compared o t u x a b) (behind x (number (pos k)) env)
        ≡ Some (truth (compared o t u (component (of_list xs) k) (component (of_list ys) k)))
    compared-here o k = compared-means o t u a b (name_ex x) (behind x (number (pos k)) env) xs ys k
        (meaning-behind x (number (pos k)) a env one-a ∙ is-xs) (meaning-behind x (number (pos k)) b env one-b ∙ is-ys)
        (name-behind x (number (pos k)) env)

    -- `and([a[z] = b[z] | z : int(1..n), z < x])` at a number.
    before-means : (k : ℕ) → meaning (equal_before x z n t u a b) (behind x (number (pos k)) env) ≡ Some (truth (SaidBefore k))
    before-means k = each-number z n here most (meaning-behind x (number (pos k)) n env new-n ∙ value) (items_compared Op2.Eq t u z a b)
        (cond (ex2 true Op2.Lt (name_ex z) (name_ex x)) no_gens) (λ j. nat_lt j k) SaidEqual at
      where
        here : Env
        here = behind x (number (pos k)) env

        at : (j : ℕ) → where_true (meaning (ex2 true Op2.Lt (name_ex z) (name_ex x))
            (behind z (number (pos j)) (behind x (number (pos k)) env)))
            (λ s. option_map (λ v. v ∷ []) (meaning (items_compared Op2.Eq t u z a b)
            (behind z (number (pos j)) (behind x (number (pos k)) env))))
            ≡ Some (bit_where (nat_lt j k) (SaidEqual j))
        at j =
            ap (λ o. where_true o (λ s. option_map (λ v. v ∷ [])
            (meaning (items_compared Op2.Eq t u z a b) (behind z (number (pos j)) (behind x (number (pos k)) env)))))
            (binary-means (behind z (number (pos j)) (behind x (number (pos k)) env)) true Op2.Lt (name_ex z) (name_ex x) (number (pos j))
            (number (pos k))
            (name-behind z (number (pos j)) (behind x (number (pos k)) env))
            (ap (λ c. if c then Some (number (pos j)) else meaning (name_ex x) (behind x (number (pos k)) env)) apart
            ∙ name-behind x (number (pos k)) env)
            ∙ ap (λ c. Some (truth c)) (lower-number j k))
            ∙ ap (λ o. where_true (Some (truth (nat_lt j k))) (λ s. option_map (λ v. v ∷ []) o))
            (compared-means Op2.Eq t u a b (name_ex z) (behind z (number (pos j)) (behind x (number (pos k)) env)) xs ys j
            (meaning-behind z (number (pos j)) a (behind x (number (pos k)) env) other-a ∙ meaning-behind x (number (pos k)) a env one-a
            ∙ is-xs)
            (meaning-behind z (number (pos j)) b (behind x (number (pos k)) env) other-b ∙ meaning-behind x (number (pos k)) b env one-b
            ∙ is-ys)
            (name-behind z (number (pos j)) (behind x (number (pos k)) env)))
            ∙ where-true (nat_lt j k) (SaidEqual j)

    -- That at some number the item of a is lower, and all items before are equal.
    lower-said : meaning (lower_at_a_number x z n t u a b) env
        ≡ Some (truth (at_some (λ k. (nat_le k (length xs) && nat_le k (length ys)) && (SaidLower k && SaidBefore k)) 1 most))
    lower-said = some-number x n env most value
        (ex2 true Op2.And (items_compared Op2.Lt t u x a b) (equal_before x z n t u a b))
        (cond (is_number_of x z a) (cond (is_number_of x z b) no_gens))
        (λ k. nat_le k (length xs) && nat_le k (length ys)) (λ k. SaidLower k && SaidBefore k) at
      where
        two-conditions : (c d e : Bool) → where_true (Some (truth c)) (λ s. where_true (Some (truth d)) (λ r. Some (truth e ∷ [])))
            ≡ Some (bit_where (c && d) e)
        two-conditions true d e = where-true d e
        two-conditions false d e = refl

        at : (k : ℕ) → where_true (meaning (is_number_of x z a) (behind x (number (pos k)) env))
            (λ s. where_true (meaning (is_number_of x z b) (behind x (number (pos k)) env))
            (λ r. option_map (λ v. v ∷ []) (meaning (ex2 true Op2.And (items_compared Op2.Lt t u x a b) (equal_before x z n t u a b))
            (behind x (number (pos k)) env))))
            ≡ Some (bit_where (nat_le k (length xs) && nat_le k (length ys)) (SaidLower k && SaidBefore k))
        at k =
            ap (λ o. where_true o (λ s. where_true (meaning (is_number_of x z b) (behind x (number (pos k)) env))
            (λ r. option_map (λ v. v ∷ []) (meaning (ex2 true Op2.And (items_compared Op2.Lt t u x a b) (equal_before x z n t u a b))
            (behind x (number (pos k)) env))))) (is-number-means x z a env xs one-a is-xs k)
            ∙ ap (λ o. where_true (Some (truth (nat_le k (length xs)))) (λ s. where_true o
            (λ r. option_map (λ v. v ∷ []) (meaning (ex2 true Op2.And (items_compared Op2.Lt t u x a b) (equal_before x z n t u a b))
            (behind x (number (pos k)) env))))) (is-number-means x z b env ys one-b is-ys k)
            ∙ ap (λ o. where_true (Some (truth (nat_le k (length xs)))) (λ s. where_true (Some (truth (nat_le k (length ys))))
            (λ r. option_map (λ v. v ∷ []) o)))
            (and-means (behind x (number (pos k)) env) (items_compared Op2.Lt t u x a b) (equal_before x z n t u a b) (SaidLower k)
            (SaidBefore k)
            (compared-here Op2.Lt k) (before-means k))
            ∙ two-conditions (nat_le k (length xs)) (nat_le k (length ys)) (SaidLower k && SaidBefore k)

    -- That the items at the numbers of a are equal.
    prefix-said : meaning (at_each_number x z n a (items_compared Op2.Eq t u x a b)) env
        ≡ Some (truth (at_each (λ k. implies (nat_le k (length xs)) (SaidEqual k)) 1 most))
    prefix-said = each-number x n env most value (items_compared Op2.Eq t u x a b) (cond (is_number_of x z a) no_gens)
        (λ k. nat_le k (length xs)) SaidEqual
        (λ k. ap (λ o. where_true o (λ s. option_map (λ v. v ∷ []) (meaning (items_compared Op2.Eq t u x a b)
        (behind x (number (pos k)) env))))
        (is-number-means x z a env xs one-a is-xs k)
        ∙ ap (λ o. where_true (Some (truth (nat_le k (length xs)))) (λ s. option_map (λ v. v ∷ []) o)) (compared-here Op2.Eq k)
        ∙ where-true (nat_le k (length xs)) (SaidEqual k))

    -- ---- what is said is so

    equal-there : (j : ℕ) → nat_le (suc j) (length xs) ≡ true → nat_le (suc j) (length ys) ≡ true → SaidEqual (suc j)
        ≡ at_both same xs ys (suc j)
    equal-there = compared-both env.positions env.types t u xs ys typed-xs typed-ys Op2.Eq same (λ v w. refl)

    before-so : (k : ℕ) → nat_le (suc k) (length xs) ≡ true → nat_le (suc k) (length ys) ≡ true →
        SaidBefore (suc k) ≡ at_each (λ j. implies (nat_lt j (suc k)) (at_both same xs ys j)) 1 most
    before-so k h l = each-agree (λ j. implies (nat_lt j (suc k)) (SaidEqual j)) (λ j. implies (nat_lt j (suc k)) (at_both same xs ys j))
        (λ j. go j (nat_lt (suc j) (suc k)) refl) zero most
      where
        go : (j : ℕ) (c : Bool) → nat_lt (suc j) (suc k) ≡ c → implies c (SaidEqual (suc j)) ≡ implies c (at_both same xs ys (suc j))
        go j false q = refl
        go j true q = let e : suc (suc j) ≤ suc k = leb-true (suc (suc j)) (suc k) q in
            let f : suc k ≤ length xs = leb-true (suc k) (length xs) h in
            let g : suc k ≤ length ys = leb-true (suc k) (length ys) l in
            equal-there j (le-leb (suc j) (length xs) (omega arith)) (le-leb (suc j) (length ys) (omega arith))

    lower-so : at_some (λ k. (nat_le k (length xs) && nat_le k (length ys)) && (SaidLower k && SaidBefore k)) 1 most
        ≡ lower_at_some most xs ys
    lower-so = some-agree (λ k. (nat_le k (length xs) && nat_le k (length ys)) && (SaidLower k && SaidBefore k))
        (λ k. at_both below xs ys k && at_each (λ j. implies (nat_lt j k) (at_both same xs ys j)) 1 most)
        (λ k. go k (nat_le (suc k) (length xs)) refl (nat_le (suc k) (length ys)) refl) zero most
      where
        never : (k : ℕ) → nat_le (suc k) (length xs) && nat_le (suc k) (length ys) ≡ false →
            false ≡ at_both below xs ys (suc k) && at_each (λ j. implies (nat_lt j (suc k)) (at_both same xs ys j)) 1 most
        never k q = sym (ap (λ b. b && at_each (λ j. implies (nat_lt j (suc k)) (at_both same xs ys j)) 1 most)
            (compared-neither env.positions env.types t u xs ys typed-xs typed-ys Op2.Lt below (λ v w. refl) k q))

        go : (k : ℕ) (c : Bool) → nat_le (suc k) (length xs) ≡ c → (d : Bool) → nat_le (suc k) (length ys) ≡ d →
            (c && d) && (SaidLower (suc k) && SaidBefore (suc k))
            ≡ at_both below xs ys (suc k) && at_each (λ j. implies (nat_lt j (suc k)) (at_both same xs ys j)) 1 most
        go k true q true r =
            ap (λ b. b && SaidBefore (suc k)) (compared-both env.positions env.types t u xs ys typed-xs typed-ys Op2.Lt below
            (λ v w. refl) k q r)
            ∙ ap (λ b. at_both below xs ys (suc k) && b) (before-so k q r)
        go k true q false r = never k (ap (λ b. b && nat_le (suc k) (length ys)) q ∙ r)
        go k false q d r = never k (ap (λ b. b && nat_le (suc k) (length ys)) q)

    prefix-so : (o : Bool) → fewer o (length xs) (length ys) && at_each (λ k. implies (nat_le k (length xs)) (SaidEqual k)) 1 most
        ≡ fewer o (length xs) (length ys) && is_prefix most xs ys
    prefix-so o = go (fewer o (length xs) (length ys)) refl
      where
        no-more : (o : Bool) → fewer o (length xs) (length ys) ≡ true → length xs ≤ length ys
        no-more false q = let e : suc (length xs) ≤ length ys = leb-true (suc (length xs)) (length ys) q in omega arith
        no-more true q = leb-true (length xs) (length ys) q

        go : (c : Bool) → fewer o (length xs) (length ys) ≡ c →
            c && at_each (λ k. implies (nat_le k (length xs)) (SaidEqual k)) 1 most ≡ c && is_prefix most xs ys
        go false q = refl
        go true q = each-agree (λ k. implies (nat_le k (length xs)) (SaidEqual k))
            (λ k. implies (nat_le k (length xs)) (at_both same xs ys k))
            (λ k. here k (nat_le (suc k) (length xs)) refl) zero most
          where
            here : (k : ℕ) (c : Bool) → nat_le (suc k) (length xs) ≡ c → implies c (SaidEqual (suc k))
                ≡ implies c (at_both same xs ys (suc k))
            here k false r = refl
            here k true r = let e : suc k ≤ length xs = leb-true (suc k) (length xs) r in let f : length xs ≤ length ys = no-more o q in
                equal-there k r (le-leb (suc k) (length ys) (omega arith))

    -- The numbers of items, compared.
    fewer-means : (o : Bool) → meaning (ex2 true (sign o) (items_counted z a) (items_counted z b)) env
        ≡ Some (truth (fewer o (length xs) (length ys)))
    fewer-means o = binary-means env true (sign o) (items_counted z a) (items_counted z b) (number (pos (length xs)))
        (number (pos (length ys)))
        (count-means z a env (listed xs) is-xs ∙ ap (λ l. Some (number (pos (length l)))) (to_list-of_list xs))
        (count-means z b env (listed ys) is-ys ∙ ap (λ l. Some (number (pos (length l)))) (to_list-of_list ys)) ∙ go o
      where
        go : (o : Bool) → false_where_undefined true (value_of_node (binary (sign o))
            (Some (number (pos (length xs))) ∷ Some (number (pos (length ys))) ∷ []))
            ≡ Some (truth (fewer o (length xs) (length ys)))
        go false = ap (λ c. Some (truth c)) (lower-number (length xs) (length ys))
        go true = ap (λ c. Some (truth c)) (no-higher-number (length xs) (length ys))

    -- So the expression says that a is lower, or equal where that is allowed.
    pub lower-means : (o : Bool) → IsTrue (nat_le (length xs) most || nat_le (length ys) most) →
        meaning (lower_list (sign o) x z n a b t u) env ≡ Some (truth (is_lower o xs ys))
    lower-means o h =
        or-means env (lower_at_a_number x z n t u a b) (begins_equally (sign o) x z n t u a b) (lower_at_some most xs ys)
        (fewer o (length xs) (length ys) && is_prefix most xs ys)
        (lower-said ∙ ap (λ c. Some (truth c)) lower-so)
        (and-means env (ex2 true (sign o) (items_counted z a) (items_counted z b))
        (at_each_number x z n a (items_compared Op2.Eq t u x a b)) (fewer o (length xs) (length ys))
        (at_each (λ k. implies (nat_le k (length xs)) (SaidEqual k)) 1 most) (fewer-means o) prefix-said
        ∙ ap (λ c. Some (truth c)) (prefix-so o))
        ∙ ap (λ c. Some (truth c)) (sym (lower-by-number o most xs ys h))
