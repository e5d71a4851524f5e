-- The sum of the sizes of all items is past each of them.
use Rattle.std.proofs.Common.{◌≡◌, refl, sym, ap, ◌∙◌, subst, ℕ, suc, ◌+◌, true, false, List, [], ◌∷◌, ◌++◌, map, ℤ, pos, negsuc, neg_ℤ, Option, Some, None, option_map, arith}
use Rattle.std.proofs.lemmas.Int.{ints}
use Rattle.std.specs.Prelude.{nat_abs, ◌+ℤ◌, ◌<ℤ◌}
use Rattle.std.specs.Cmp.{int_ranks}
use Rattle.std.specs.Ordering.{MatchOrdering, int_cmp, is_lt}
use Rattle.std.specs.declared.cmp.Ordering.{Ordering}
use Rattle.std.specs.declared.cmp.Ordering.TheVariants.{Less, Equal, Greater}
use Rattle.ess_semantics.specs.declared.words.Op1.{Op1}
use Rattle.ess_semantics.specs.declared.words.Fun.{Fun}
use Rattle.ess_semantics.specs.Lists.{and_then, all_some}
use Rattle.ess_semantics.specs.Values.{Value, number, truth, item, node, items_of}
use Rattle.ess_semantics.specs.Order.{below}
use Rattle.ess_semantics.specs.Trees.{unary, Ex, ex1, fun1, Gens, no_gens, over, from, cond}
use Rattle.ess_semantics.specs.Operators.{number_in, sum_of, value_of_unary, value_of_node}
use Rattle.ess_semantics.specs.Meaning.{Env, meaning, meanings, items_under, domain_of, members_in, with_pat, collect, where_true}
use Rattle.ess_semantics.specs.Contexts.{Each, EachOf}
use Rattle.ess_semantics.specs.Meets.{Meets, MeetsAll}
use Rattle.ess_rules_laws.specs.Rules.{IsNumber}
use Rattle.ess_rules_laws.specs.Listings.{Alternative, items_listed, all_listed}
use Rattle.ess_rules_laws.specs.SourceRules.{list_of}
use Rattle.ess_rules_laws.specs.ListedSources.{AllMet}
use Rattle.ess_rules_laws.proofs.Steps.{meets-gens-join}
use Rattle.ess_rules_laws.proofs.SourceRules.{both-lists}
use Rattle.ess_rules_laws.proofs.Folds.{fold-means, literal-means}
use Rattle.ess_refine_laws.specs.ExtremeRules.{is_extreme}
use Rattle.ess_refine_laws.specs.ExtremeAlternatives.{each_size, past_all, PastAll}
use Rattle.ess_refine_laws.proofs.LeavingConditions.{all-bindings}

-- ---- lists of sizes

-- `|v|`.
abbrev size : Value → Value
size v = elim (value_of_unary Op1.Bar v) [ None ↦ v | Some z ↦ z ]

size-is : (v : Value) → value_of_unary Op1.Bar v ≡ Some (size v)
size-is (number n) = refl
size-is (truth b) = refl
size-is (item t n) = refl
size-is (node k vs) = refl

-- Where the first list is there, the second has the size of each of its items.
abbrev Sized : Option (List Value) → Option (List Value) → Type 0
Sized o p = (xs : List Value) → o ≡ Some xs → p ≡ Some (map size xs)

sizes-append : (us ws : List Value) → map size (us ++ ws) ≡ map size us ++ map size ws
sizes-append [] ws = refl
sizes-append (u ∷ us) ws = ap (λ l. size u ∷ l) (sizes-append us ws)

sized-collect : (vs : List Value) (F G : Value → Option (List Value)) → ((v : Value) → Sized (F v) (G v)) →
    Sized (collect vs F) (collect vs G)
sized-collect [] F G h xs e = ap (option_map (map size)) e
sized-collect (v ∷ vs) F G h xs e =
    let b = both-lists (F v) (collect vs F) xs e in
    ap (λ o. and_then o (λ us. option_map (λ zs. us ++ zs) (collect vs G))) (h v b.0 b.2)
    ∙ ap (option_map (λ zs. map size b.0 ++ zs)) (sized-collect vs F G h b.1 b.3)
    ∙ ap Some (sym (sizes-append b.0 b.1) ∙ ap (map size) b.4)

sized-over : (o : Option (List Value)) (F G : Value → Option (List Value)) → ((v : Value) → Sized (F v) (G v)) →
    Sized (and_then o (λ vs. collect vs F)) (and_then o (λ vs. collect vs G))
sized-over None F G h xs e = cc
sized-over (Some vs) F G h xs e = sized-collect vs F G h xs e

sized-from : (o : Option Value) (F G : Value → Option (List Value)) → ((v : Value) → Sized (F v) (G v)) →
    Sized (and_then o (λ s. collect (items_of s) F)) (and_then o (λ s. collect (items_of s) G))
sized-from None F G h xs e = cc
sized-from (Some s) F G h xs e = sized-collect (items_of s) F G h xs e

sized-where : (c : Option Value) (o p : Option (List Value)) → Sized o p → Sized (where_true c (λ u. o)) (where_true c (λ u. p))
sized-where (Some (truth true)) o p h xs e = h xs e
sized-where (Some (truth false)) o p h xs e = ap (option_map (map size)) e
sized-where None o p h xs e = ap (option_map (map size)) e
sized-where (Some (number n)) o p h xs e = ap (option_map (map size)) e
sized-where (Some (item t k)) o p h xs e = ap (option_map (map size)) e
sized-where (Some (node k vs)) o p h xs e = ap (option_map (map size)) e

sized-alone : (o : Option Value) → Sized (option_map (λ v. v ∷ []) o) (option_map (λ v. v ∷ []) (value_of_node (unary Op1.Bar) (o ∷ [])))
sized-alone None xs e = cc
sized-alone (Some v) xs e = ap (option_map (λ z. z ∷ [])) (size-is v) ∙ ap (option_map (map size)) e

sized-under : (gs : Gens) (env : Env) (e : Ex) → Sized (items_under gs env (λ here. option_map (λ v. v ∷ []) (meaning e here)))
    (items_under gs env (λ here. option_map (λ v. v ∷ []) (meaning (ex1 false Op1.Bar e) here)))
sized-under no_gens env e = sized-alone (meaning e env)
sized-under (over p d gs) env e = sized-over (members_in (domain_of d env)) _ _ (λ v. sized-under gs (with_pat p v env) e)
sized-under (from p x gs) env e = sized-from (meaning x env) _ _ (λ v. sized-under gs (with_pat p v env) e)
sized-under (cond c gs) env e = sized-where (meaning c env) _ _ (sized-under gs env e)

-- ---- their sum

-- The sum of the sizes of numbers.
abbrev total : List Value → ℕ
total [] = 0
total (v ∷ vs) = nat_abs (number_in v) + total vs

total-append : (us ws : List Value) → total (us ++ ws) ≡ total us + total ws
total-append [] ws = omega arith
total-append (u ∷ us) ws = let h = total-append us ws in omega arith

added : (a b : ℕ) → pos a +ℤ pos b ≡ pos (a + b)
added a b = omega (arith, ints)

sum-sizes : (xs : List Value) → Each xs (λ v. IsNumber (Some v)) → sum_of (map size xs) ≡ pos (total xs)
sum-sizes [] h = refl
sum-sizes (number n ∷ xs) h = ap (λ z. pos (nat_abs n) +ℤ z) (sum-sizes xs h.1) ∙ added (nat_abs n) (total xs)
sum-sizes (truth b ∷ xs) h = absurd h.0
sum-sizes (item t n ∷ xs) h = absurd h.0
sum-sizes (node k vs ∷ xs) h = absurd h.0

each-parts : (xs ys : List Value) (P : Value → Type 0) → Each (xs ++ ys) P → Each xs P × Each ys P
each-parts [] ys P h = (tt, h)
each-parts (x ∷ xs) ys P h = let r = each-parts xs ys P h.1 in ((h.0, r.0), r.1)

-- The sizes of all alternatives.
all-sizes : (l : List Alternative) (env : Env) (ws : List Value) → all_listed l env ≡ Some ws → Each ws (λ v. IsNumber (Some v)) →
    (ns : List Value) × (all_some (meanings (each_size l) env) ≡ Some ns) × (sum_of ns ≡ pos (total ws))
all-sizes [] env ws e h = ([], refl, ap (λ l. pos (total l)) (ap (λ o. elim o [ None ↦ ws | Some z ↦ z ]) e))
all-sizes (a ∷ l) env ws e h =
    let b = both-lists (items_listed a env) (all_listed l env) ws e in
    let p = each-parts b.0 b.1 (λ v. IsNumber (Some v)) (subst (λ z. Each z (λ v. IsNumber (Some v))) (sym b.4) h) in
    let r = all-sizes l env b.1 b.3 p.1 in (
      number (sum_of (map size b.0)) ∷ r.0,
      ap (λ o. and_then o (λ x. option_map (λ xs. x ∷ xs) (all_some (meanings (each_size l) env))))
          (fold-means false Fun.Sum refl _ (map size b.0) (sized-under a.gens env a.item b.0 b.2))
          ∙ ap (option_map (λ xs. number (sum_of (map size b.0)) ∷ xs)) r.1,
      ap (λ z. z +ℤ sum_of r.0) (sum-sizes b.0 p.0) ∙ ap (λ z. pos (total b.0) +ℤ z) r.2 ∙ added (total b.0) (total b.1)
          ∙ ap pos (sym (total-append b.0 b.1)) ∙ ap (λ z. pos (total z)) b.4,
    )

-- ---- past each

not-below : (a b : ℤ) → (a <ℤ b → ⊥) → below (number a) (number b) ≡ false
not-below a b h = go (int_cmp a b) (int_ranks a b)
  where
    go : (o : Ordering) → MatchOrdering o (a <ℤ b) (a ≡ b) (b <ℤ a) → is_lt o ≡ false
    go Less l = absurd (h l)
    go Equal l = refl
    go Greater l = refl

not-above-sizes : (n : ℤ) (t r : ℕ) → t ≡ nat_abs n + r → below (number (pos t)) (number n) ≡ false
not-above-sizes (pos j) t r e = not-below (pos t) (pos j) (λ l. omega (arith, ints))
not-above-sizes (negsuc j) t r e = not-below (pos t) (negsuc j) (λ l. omega (arith, ints))

not-below-sizes : (n : ℤ) (t r : ℕ) → t ≡ nat_abs n + r → below (number n) (number (neg_ℤ (pos t))) ≡ false
not-below-sizes (pos j) t r e = not-below (pos j) (neg_ℤ (pos t)) (λ l. omega (arith, ints))
not-below-sizes (negsuc j) t r e = not-below (negsuc j) (neg_ℤ (pos t)) (λ l. let s : t ≡ suc j + r = e in omega (arith, ints))

-- What holds of each number that with another makes up the total.
each-within : (P : Value → Type 0) (t : ℕ) → ((n : ℤ) (r : ℕ) → t ≡ nat_abs n + r → P (number n)) → (ws : List Value) (d : ℕ) →
    t ≡ d + total ws → Each ws (λ v. IsNumber (Some v)) → Each ws (λ v. IsNumber (Some v) × P v)
each-within P t g [] d e h = tt
each-within P t g (number n ∷ ws) d e h =
    ((tt, g n (d + total ws) (omega arith)), each-within P t g ws (d + nat_abs n) (omega arith) h.1)
each-within P t g (truth b ∷ ws) d e h = absurd h.0
each-within P t g (item a n ∷ ws) d e h = absurd h.0
each-within P t g (node k vs ∷ ws) d e h = absurd h.0

-- ---- structures

sizes-met : (l : List Alternative) (env : Env) → AllMet l env → MeetsAll false (each_size l) env
sizes-met [] env h = tt
sizes-met (a ∷ l) env h = (
  (
    meets-gens-join a.gens env (λ here. Unit {0}) (λ here. Meets a.item here) (λ here. Meets (ex1 false Op1.Bar a.item) here)
        (λ here u x. (x, tt)) (all-bindings a.gens env (λ here. Unit {0}) (λ here. tt)) h.0,
    tt,
  ),
  sizes-met l env h.1,
)

sum-means : (l : List Alternative) (env : Env) (ws : List Value) → all_listed l env ≡ Some ws → Each ws (λ v. IsNumber (Some v)) →
    meaning (fun1 false Fun.Sum (list_of (each_size l))) env ≡ Some (number (pos (total ws)))
sum-means l env ws e h =
    let r = all-sizes l env ws e h in
    literal-means false Fun.Sum refl (each_size l) env r.0 r.1 ∙ ap (λ z. Some (number z)) r.2

-- So the number is past all items.
pub past-all : (f : Fun) → is_extreme f ≡ true → (l : List Alternative) (env : Env) (ws : List Value) → all_listed l env ≡ Some ws →
    AllMet l env → Each ws (λ v. IsNumber (Some v)) → PastAll (past_all f l) f l env
past-all Fun.Min q l env ws e m h = (
  pos (total ws),
  sum-means l env ws e h,
  (sizes-met l env m, tt),
  subst (λ o. EachOf o (λ v. IsNumber (Some v) × (below (number (pos (total ws))) v ≡ false))) (sym e)
      (each-within (λ v. below (number (pos (total ws))) v ≡ false) (total ws) (λ n r s. not-above-sizes n (total ws) r s) ws 0
      (omega arith) h),
)
past-all Fun.Max q l env ws e m h = (
  neg_ℤ (pos (total ws)),
  ap (λ o. value_of_node (unary Op1.Minus) (o ∷ [])) (sum-means l env ws e h),
  ((sizes-met l env m, tt), tt),
  subst (λ o. EachOf o (λ v. IsNumber (Some v) × (below v (number (neg_ℤ (pos (total ws)))) ≡ false))) (sym e)
      (each-within (λ v. below v (number (neg_ℤ (pos (total ws)))) ≡ false) (total ws) (λ n r s. not-below-sizes n (total ws) r s) ws 0
      (omega arith) h),
)
past-all _ q l env ws e m h = cc
