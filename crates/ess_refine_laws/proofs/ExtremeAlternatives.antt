-- The least of several alternatives is kept with one number for each.
use Rattle.std.proofs.Common.{◌≡◌, refl, sym, ap, ◌∙◌, subst, true, false, List, [], ◌∷◌, ◌++◌, map, ℤ, pos, Option, Some, None, option_map, arith}
use Rattle.std.proofs.lemmas.Int.{ints}
use Rattle.std.specs.Prelude.{is_some, ◌+ℤ◌, ◌*ℤ◌}
use Rattle.ess_semantics.specs.declared.words.Op1.{Op1}
use Rattle.ess_semantics.specs.declared.words.Op2.{Op2}
use Rattle.ess_semantics.specs.declared.words.Fun.{Fun}
use Rattle.ess_semantics.specs.Lists.{and_then, all_some, append_all}
use Rattle.ess_semantics.specs.Values.{Value, number, truth, items_of}
use Rattle.ess_semantics.specs.Trees.{unary, binary, word, Ex, truth_ex, fun1}
use Rattle.ess_semantics.specs.Operators.{list_value, any_true, least, greatest, value_of_node, false_where_undefined}
use Rattle.ess_semantics.specs.Meaning.{Env, meaning, meanings, where_true}
use Rattle.ess_semantics.specs.Contexts.{Each, EachOf}
use Rattle.ess_semantics.specs.Meets.{Meets, MeetsAll}
use Rattle.ess_semantics.specs.Kept.{Keeps}
use Rattle.ess_semantics.proofs.Orders.{to_list-of_list}
use Rattle.ess_rules_laws.specs.Rules.{IsNumber}
use Rattle.ess_rules_laws.specs.Listings.{Alternative, items_listed, all_listed}
use Rattle.ess_rules_laws.specs.SourceRules.{list_of}
use Rattle.ess_rules_laws.specs.ListedSources.{laid_out, AllMet}
use Rattle.ess_rules_laws.proofs.Steps.{meets-gens-join}
use Rattle.ess_rules_laws.proofs.Permutations.{Perm}
use Rattle.ess_rules_laws.proofs.LeastGreatest.{least-perm, greatest-perm}
use Rattle.ess_rules_laws.proofs.RuleAnswers.{AnswerKeeps, fires, when-so}
use Rattle.ess_rules_laws.proofs.SourceRules.{both-lists}
use Rattle.ess_rules_laws.proofs.Connectives.{any-means, bits}
use Rattle.ess_refine_laws.specs.ExtremeRules.{is_extreme}
use Rattle.ess_refine_laws.specs.ExtremeAlternatives.{has_items, extreme_or, each_extreme, extreme_parts, past_all, extreme_alternatives, is_past, AlternativesFit, NumbersFit, AlternativesServe}
use Rattle.ess_refine_laws.proofs.Replaced.{number-of}
use Rattle.ess_refine_laws.proofs.Everywhere.{least-number, greatest-number, marks-under, marks-alone}
use Rattle.ess_refine_laws.proofs.LeavingConditions.{all-bindings}
use Rattle.ess_refine_laws.proofs.MixedLists.{or_else_value, least-of-lists, greatest-of-lists}
use Rattle.ess_refine_laws.proofs.PastAll.{past-all}
use Rattle.ess_refine_laws.proofs.FlatSources.{there-is, offered-items, flat-serves}

-- ---- the first of a list, by the word

abbrev Picked : Fun → List Value → Option Value
Picked Fun.Max xs = greatest xs
Picked f xs = least xs

-- What a word makes of a list.
abbrev Made : Fun → Option (List Value) → Option Value
Made f o = value_of_node (word f) (option_map list_value o ∷ [])

made-picked : (f : Fun) → is_extreme f ≡ true → (xs : List Value) → Made f (Some xs) ≡ Picked f xs
made-picked Fun.Min q xs = ap least (to_list-of_list xs)
made-picked Fun.Max q xs = ap greatest (to_list-of_list xs)
made-picked _ q xs = cc

-- There is a number where there is an item.
picked-number : (f : Fun) → is_extreme f ≡ true → (x : Value) (xs : List Value) → Each (x ∷ xs) (λ v. IsNumber (Some v)) →
    IsNumber (Picked f (x ∷ xs))
picked-number Fun.Min q x xs h = least-number x xs h.0 h.1
picked-number Fun.Max q x xs h = greatest-number x xs h.0 h.1
picked-number _ q x xs h = cc

picked-nothing : (f : Fun) → is_extreme f ≡ true → Picked f [] ≡ None
picked-nothing Fun.Min q = refl
picked-nothing Fun.Max q = refl
picked-nothing _ q = cc

-- ---- the number of one alternative

-- `sum([n | c]) + toInt(!c) * m`.
abbrev Chooses : Option Value → Option Value → Option Value → Option Value
Chooses c n m = value_of_node (binary Op2.Plus)
    (value_of_node (word Fun.Sum) (option_map list_value (where_true c (λ u. option_map (λ v. v ∷ []) n)) ∷ [])
    ∷ value_of_node (binary Op2.Times)
    (value_of_node (word Fun.ToInt) (false_where_undefined true (value_of_node (unary Op1.Not) (c ∷ [])) ∷ []) ∷ m ∷ []) ∷ [])

chooses-nothing : (n : Option Value) (k : ℤ) → Chooses (Some (truth false)) n (Some (number k)) ≡ Some (number k)
chooses-nothing n k = ap (λ z. Some (number z)) (let e : pos 0 +ℤ (pos 1 *ℤ k) ≡ k = omega (arith, ints) in e)

chooses-number : (i k : ℤ) → Chooses (Some (truth true)) (Some (number i)) (Some (number k)) ≡ Some (number i)
chooses-number i k = ap (λ z. Some (number z)) (let e : (i +ℤ pos 0) +ℤ (pos 0 *ℤ k) ≡ i = omega (arith, ints) in e)

-- `true` for each item.
abbrev Trues : List Value → List Value
Trues xs = bits (λ v. true) xs

module _ (m : Ex) (f : Fun) (k : ℤ) (env : Env) (q : is_extreme f ≡ true) (j : meaning m env ≡ Some (number k)) where
  chosen-value : (xs : List Value) → Each xs (λ v. IsNumber (Some v)) →
      Chooses (Some (truth (any_true (Trues xs)))) (Made f (Some xs)) (Some (number k)) ≡ Some (or_else_value (number k) (Picked f xs))
  chosen-value [] h = chooses-nothing (Made f (Some [])) k ∙ ap (λ o. Some (or_else_value (number k) o)) (sym (picked-nothing f q))
  chosen-value (x ∷ xs) h =
      let n = number-of (Picked f (x ∷ xs)) (picked-number f q x xs h) in
      ap (λ o. Chooses (Some (truth true)) o (Some (number k))) (made-picked f q (x ∷ xs) ∙ n.1) ∙ chooses-number n.0 k
      ∙ ap (λ o. Some (or_else_value (number k) o)) (sym n.1)

  one-means : (a : Alternative) (xs : List Value) → items_listed a env ≡ Some xs → Each xs (λ v. IsNumber (Some v)) →
      meaning (extreme_or f m a) env ≡ Some (or_else_value (number k) (Picked f xs))
  one-means a xs e h =
      ap (λ c. Chooses c (Made f (items_listed a env)) (meaning m env))
      (any-means env (truth_ex true) a.gens (Trues xs)
      (marks-under a.gens env (λ here. option_map (λ v. v ∷ []) (meaning a.item here)) (λ here. Some (truth true ∷ []))
      (λ here. marks-alone (meaning a.item here)) xs e))
      ∙ ap (λ o. Chooses (Some (truth (any_true (Trues xs)))) (Made f o) (meaning m env)) e
      ∙ ap (λ o. Chooses (Some (truth (any_true (Trues xs)))) (Made f (Some xs)) o) j
      ∙ chosen-value xs h

  -- ---- all alternatives

  abbrev Sound : Value → Type 0
  Sound v = IsNumber (Some v) × (is_past f (number k) v ≡ false)

  each-parts : (xs ys : List Value) (P : Value → Type 0) → Each (xs ++ ys) P → Each xs P × Each ys P
  each-parts [] ys P h = (tt, h)
  each-parts (x ∷ xs) ys P h = let r = each-parts xs ys P h.1 in ((h.0, r.0), r.1)

  each-of : (xs : List Value) (P Q : Value → Type 0) → ((v : Value) → P v → Q v) → Each xs P → Each xs Q
  each-of [] P Q g h = tt
  each-of (x ∷ xs) P Q g h = (g x h.0, each-of xs P Q g h.1)

  abbrev Firsts : List (List Value) → List Value
  Firsts xss = map (λ xs. or_else_value (number k) (Picked f xs)) xss

  all-means : (l : List Alternative) (ws : List Value) → all_listed l env ≡ Some ws → Each ws Sound →
      (xss : List (List Value)) × (append_all xss ≡ ws) × Each xss (λ xs. Each xs (λ v. is_past f (number k) v ≡ false))
      × (all_some (meanings (each_extreme f m l) env) ≡ Some (Firsts xss))
  all-means [] ws e h = ([], ap (λ o. elim o [ None ↦ ws | Some z ↦ z ]) e, tt, refl)
  all-means (a ∷ l) ws e h =
      let b = both-lists (items_listed a env) (all_listed l env) ws e in
      let p = each-parts b.0 b.1 Sound (subst (λ z. Each z Sound) (sym b.4) h) in
      let r = all-means l b.1 b.3 p.1 in (
        b.0 ∷ r.0,
        ap (λ z. b.0 ++ z) r.1 ∙ b.4,
        (each-of b.0 Sound (λ v. is_past f (number k) v ≡ false) (λ v s. s.1) p.0, r.2),
        ap (λ o. and_then o (λ x. option_map (λ xs. x ∷ xs) (all_some (meanings (each_extreme f m l) env))))
            (one-means a b.0 b.2 (each-of b.0 Sound (λ v. IsNumber (Some v)) (λ v s. s.0) p.0))
            ∙ ap (option_map (λ xs. or_else_value (number k) (Picked f b.0) ∷ xs)) r.3,
      )

  -- ---- structures

  some-met : (a : Alternative) → Meets (laid_out a) env → Meets (has_items a) env
  some-met a h = (
    meets-gens-join a.gens env (λ here. Unit {0}) (λ here. Meets a.item here) (λ here. Meets (truth_ex true) here)
        (λ here u x. tt) (all-bindings a.gens env (λ here. Unit {0}) (λ here. tt)) h,
    tt,
  )

  one-met : Meets m env → (a : Alternative) → Meets (laid_out a) env → Meets (extreme_or f m a) env
  one-met w a h = (
    ((some-met a h, λ t. (h, tt)), tt),
    ((((some-met a h, tt), tt), (w, tt)), tt),
  )

  all-met : Meets m env → (l : List Alternative) → AllMet l env → MeetsAll false (each_extreme f m l) env
  all-met w [] h = tt
  all-met w (a ∷ l) h = (one-met w a h.0, all-met w l h.1)

-- ---- the rule

-- The first of all is that of the firsts.
firsts-stay : (f : Fun) → is_extreme f ≡ true → (k : ℤ) (xss : List (List Value)) →
    Each xss (λ xs. Each xs (λ v. is_past f (number k) v ≡ false)) → (v : Value) → Picked f (append_all xss) ≡ Some v →
    Picked f (map (λ xs. or_else_value (number k) (Picked f xs)) xss) ≡ Some v
firsts-stay Fun.Min q k xss h v e = least-of-lists (number k) xss h v e
firsts-stay Fun.Max q k xss h v e = greatest-of-lists (number k) xss h v e
firsts-stay _ q k xss h v e = cc

picked-perm : (f : Fun) → is_extreme f ≡ true → {xs ys : List Value} → Perm xs ys → Picked f xs ≡ Picked f ys
picked-perm Fun.Min q p = least-perm p
picked-perm Fun.Max q p = greatest-perm p
picked-perm _ q p = cc

-- The word reads the items of a value.
word-picks : (f : Fun) → is_extreme f ≡ true → (w : Value) → value_of_node (word f) (Some w ∷ []) ≡ Picked f (items_of w)
word-picks Fun.Min q w = refl
word-picks Fun.Max q w = refl
word-picks _ q w = cc

term-there : (f : Fun) → is_extreme f ≡ true → (o : Option Value) → is_some (value_of_node (word f) (o ∷ [])) ≡ true → is_some o ≡ true
term-there Fun.Min q None t = cc
term-there Fun.Max q None t = cc
term-there f q (Some w) t = refl
term-there _ q o t = cc

literal-list : (o : Option (List Value)) (xs : List Value) → o ≡ Some xs → and_then o (λ ys. Some (list_value ys)) ≡ Some (list_value xs)
literal-list o xs e = ap (λ o. and_then o (λ ys. Some (list_value ys))) e

parts-kept : (m : Ex) (l : List Alternative) (f : Fun) (t : Ex) (env : Env) → is_extreme f ≡ true →
    AlternativesFit m l (fun1 false f t) env → Keeps (fun1 false f t) (fun1 false f (list_of (each_extreme f m l))) env
parts-kept m l f t env q c n =
    let w = there-is (meaning t env) (term-there f q (meaning t env) c.0) in
    let ws = offered-items t l env w.0 w.1 c.1 in
    let k = c.2.0 in
    let s = subst (λ o. EachOf o (λ v. IsNumber (Some v) × (is_past f (number k) v ≡ false))) ws.1 c.2.3 in
    let r = all-means m f k env q c.2.1 l ws.0 ws.1 s in
    let v = there-is (meaning (fun1 false f t) env) c.0 in
    let old = ap (λ o. value_of_node (word f) (o ∷ [])) w.1 ∙ word-picks f q w.0 ∙ picked-perm f q ws.2 ∙ ap (Picked f) (sym r.1) in
    let new = ap (λ o. value_of_node (word f) (o ∷ [])) (literal-list (all_some (meanings (each_extreme f m l) env)) _ r.3)
    ∙ made-picked f q (map (λ xs. or_else_value (number k) (Picked f xs)) r.0) in (
      v.1 ∙ sym (new ∙ firsts-stay f q k r.0 r.2 v.0 (sym old ∙ v.1)),
      (all-met m f k env q c.2.1 c.2.2 l c.1.met, tt),
    )

parts-answer : (m : Ex) (l : List Alternative) (e : Ex) (env : Env) → AlternativesFit m l e env → AnswerKeeps (extreme_parts m l e) e env
parts-answer m l (fun1 false f t) env c =
    when-so (is_extreme f) (fun1 false f (list_of (each_extreme f m l))) (fun1 false f t) env (λ q. parts-kept m l f t env q c)
parts-answer m l _ env c = tt

numbers-fit : (l : List Alternative) (f : Fun) (t : Ex) (env : Env) → is_extreme f ≡ true → NumbersFit l (fun1 false f t) env →
    AlternativesFit (past_all f l) l (fun1 false f t) env
numbers-fit l f t env q c =
    let w = there-is (meaning t env) (term-there f q (meaning t env) c.0) in
    let ws = offered-items t l env w.0 w.1 c.1 in
    (c.0, c.1, past-all f q l env ws.0 ws.1 c.1.met (subst (λ o. EachOf o (λ v. IsNumber (Some v))) ws.1 c.2))

numbers-answer : (l : List Alternative) (e : Ex) (env : Env) → NumbersFit l e env → AnswerKeeps (extreme_alternatives l e) e env
numbers-answer l (fun1 false f t) env c =
    when-so (is_extreme f) (fun1 false f (list_of (each_extreme f (past_all f l) l))) (fun1 false f t) env
    (λ q. parts-kept (past_all f l) l f t env q (numbers-fit l f t env q c))
numbers-answer l _ env c = tt

-- What alternatives serve for.
pub alternatives-serve : AlternativesServe
alternatives-serve = record {
  of_a_comprehension = flat-serves;
  of_a_term = λ m l e f q env c. fires (extreme_parts m l e) e f env (parts-answer m l e env c) q;
  of_numbers = λ l e f q env c. fires (extreme_alternatives l e) e f env (numbers-answer l e env c) q;
}
