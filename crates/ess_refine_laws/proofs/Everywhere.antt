-- A refined number is there everywhere once it is made so, and is the same where it was there.
use Rattle.std.proofs.Common.{◌≡◌, refl, sym, ap, ◌∙◌, subst, Bool, true, false, if◌then◌else◌, List, [], ◌∷◌, ◌++◌, Option, Some, None, option_map}
use Rattle.std.specs.Prelude.{is_some}
use Rattle.std.proofs.Math.IntN.{+ℤ_idr}
use Rattle.ess_semantics.specs.declared.words.Op1.{Op1}
use Rattle.ess_semantics.specs.declared.words.Op2.{Op2}
use Rattle.ess_semantics.specs.declared.words.Fun.{Fun}
use Rattle.ess_semantics.specs.Lists.{and_then, all_some}
use Rattle.ess_semantics.specs.Values.{Text, Value, number, truth, item, node, items_of}
use Rattle.ess_semantics.specs.Order.{below}
use Rattle.ess_semantics.specs.Trees.{unary, word, matrix_literal, Ex, Exs, number_ex, name_ex, truth_ex, node_ex, comp_ex, cell_ex, ex1, ex2, fun1, no_exs, more_exs, Gens, no_gens, over, from, cond, Dom, bool_dom, int_dom, name_dom}
use Rattle.ess_semantics.specs.Operators.{value_of_node, value_of_op, list_value, least, greatest, any_true}
use Rattle.ess_semantics.specs.Meaning.{Env, TypeEntry, meaning, meanings, items_under, collect, where_true, domain_of, members_in, with_pat, named_domain, type_entry}
use Rattle.ess_semantics.specs.Contexts.{Each}
use Rattle.ess_semantics.proofs.Orders.{to_list-of_list}
use Rattle.ess_semantics.proofs.Connectives.{any-means, bits}
use Rattle.ess_rules_laws.specs.Rules.{IsNumber}
use Rattle.ess_rules_laws.proofs.Bindings.{each-of-map}
use Rattle.ess_rules_laws.proofs.SourceRules.{both-lists}
use Rattle.ess_refine_laws.specs.Everywhere.{extreme, everywhere, everywhere_list, everywhere_exs, everywhere_gens, everywhere_dom, ReadsNumbers, ReadsItems, AllRead, ReadsUnder, ReadsBounds, Replaces, EverywhereServes}
use Rattle.ess_refine_laws.proofs.Replaced.{replaces-itself, replaced-one, through-two, replaced-two, ReplacesList, replaces-alone, front-there, replaces-over, replaces-where, replaces-made, AllReplaced, replaces-all}
use Rattle.ess_refine_laws.proofs.PartialNumbers.{off_zero, Quotient, divisor-means, divided, remains, raised-means}
use Rattle.ess_refine_laws.proofs.Bounds.{ranges-listed}

-- ---- lists of truth values beside lists

-- Where the first list is there, the second has `true` for each of its items.
abbrev Marks : Option (List Value) → Option (List Value) → Type 0
Marks o p = (xs : List Value) → o ≡ Some xs → p ≡ Some (bits (λ v. true) xs)

bits-append : (us ws : List Value) → bits (λ v. true) (us ++ ws) ≡ bits (λ v. true) us ++ bits (λ v. true) ws
bits-append [] ws = refl
bits-append (u ∷ us) ws = ap (λ l. truth true ∷ l) (bits-append us ws)

marks-collect : (vs : List Value) (F G : Value → Option (List Value)) → ((v : Value) → Marks (F v) (G v)) →
    Marks (collect vs F) (collect vs G)
marks-collect [] F G h xs e = ap (option_map (bits (λ v. true))) e
marks-collect (v ∷ vs) F G h xs e =
    let b = both-lists (F v) (collect vs F) xs e in
    ap (λ o. and_then o (λ us. option_map (λ zs. us ++ zs) (collect vs G))) (h v b.0 b.2)
    ∙ ap (option_map (λ zs. bits (λ v. true) b.0 ++ zs)) (marks-collect vs F G h b.1 b.3)
    ∙ ap Some (sym (bits-append b.0 b.1) ∙ ap (bits (λ v. true)) b.4)

marks-over : (o : Option (List Value)) (F G : Value → Option (List Value)) → ((v : Value) → Marks (F v) (G v)) →
    Marks (and_then o (λ vs. collect vs F)) (and_then o (λ vs. collect vs G))
marks-over None F G h xs e = cc
marks-over (Some vs) F G h xs e = marks-collect vs F G h xs e

marks-from : (o : Option Value) (F G : Value → Option (List Value)) → ((v : Value) → Marks (F v) (G v)) →
    Marks (and_then o (λ s. collect (items_of s) F)) (and_then o (λ s. collect (items_of s) G))
marks-from None F G h xs e = cc
marks-from (Some s) F G h xs e = marks-collect (items_of s) F G h xs e

marks-where : (c : Option Value) (o p : Option (List Value)) → Marks o p → Marks (where_true c (λ u. o)) (where_true c (λ u. p))
marks-where (Some (truth true)) o p h xs e = h xs e
marks-where (Some (truth false)) o p h xs e = ap (option_map (bits (λ v. true))) e
marks-where None o p h xs e = ap (option_map (bits (λ v. true))) e
marks-where (Some (number n)) o p h xs e = ap (option_map (bits (λ v. true))) e
marks-where (Some (item t k)) o p h xs e = ap (option_map (bits (λ v. true))) e
marks-where (Some (node k vs)) o p h xs e = ap (option_map (bits (λ v. true))) e

pub marks-under : (gs : Gens) (env : Env) (k k' : Env → Option (List Value)) → ((here : Env) → Marks (k here) (k' here)) →
    Marks (items_under gs env k) (items_under gs env k')
marks-under no_gens env k k' h = h env
marks-under (over p d gs) env k k' h = marks-over (members_in (domain_of d env)) _ _ (λ v. marks-under gs (with_pat p v env) k k' h)
marks-under (from p e gs) env k k' h = marks-from (meaning e env) _ _ (λ v. marks-under gs (with_pat p v env) k k' h)
marks-under (cond c gs) env k k' h = marks-where (meaning c env) _ _ (marks-under gs env k k' h)

pub marks-alone : (o : Option Value) → Marks (option_map (λ v. v ∷ []) o) (Some (truth true ∷ []))
marks-alone None xs e = cc
marks-alone (Some v) xs e = ap (option_map (bits (λ v. true))) e

-- ---- the least and the greatest

earlier-number : (f : Value → Value → Bool) (x : Value) (o : Option Value) → IsNumber (Some x) → IsNumber o →
    IsNumber (option_map (λ m. if f x m then m else x) o)
earlier-number f x None t s = absurd s
earlier-number f x (Some m) t s = go (f x m)
  where
    go : (b : Bool) → IsNumber (Some (if b then m else x))
    go true = s
    go false = t

pub least-number : (x : Value) (xs : List Value) → IsNumber (Some x) → Each xs (λ v. IsNumber (Some v)) → IsNumber (least (x ∷ xs))
least-number x [] t h = t
least-number x (y ∷ ys) t h = earlier-number (λ x m. below m x) x (least (y ∷ ys)) t (least-number y ys h.0 h.1)

pub greatest-number : (x : Value) (xs : List Value) → IsNumber (Some x) → Each xs (λ v. IsNumber (Some v)) → IsNumber (greatest (x ∷ xs))
greatest-number x [] t h = t
greatest-number x (y ∷ ys) t h = earlier-number (λ x m. below x m) x (greatest (y ∷ ys)) t (greatest-number y ys h.0 h.1)

-- The words that pick an item.
abbrev picks : Fun → Bool
picks Fun.Min = true
picks Fun.Max = true
picks f = false

-- What a word makes of a list.
abbrev Made : Fun → Option (List Value) → Option Value
Made f o = value_of_node (word f) (option_map list_value o ∷ [])

made-number : (f : Fun) → picks f ≡ true → (x : Value) (xs : List Value) → Each (x ∷ xs) (λ v. IsNumber (Some v)) →
    IsNumber (Made f (Some (x ∷ xs)))
made-number Fun.Min q x xs h = subst (λ l. IsNumber (least l)) (sym (to_list-of_list (x ∷ xs))) (least-number x xs h.0 h.1)
made-number Fun.Max q x xs h = subst (λ l. IsNumber (greatest l)) (sym (to_list-of_list (x ∷ xs))) (greatest-number x xs h.0 h.1)
made-number _ q x xs h = cc

made-nothing : (f : Fun) → picks f ≡ true → Made f (Some []) ≡ None
made-nothing Fun.Min q = refl
made-nothing Fun.Max q = refl
made-nothing _ q = cc

-- A word on a list that has an item.
made-front : (f : Fun) → picks f ≡ true → (o p : Option (List Value)) (r : ReplacesList o p) (y : Value) (ys : List Value) →
    r.items ≡ y ∷ ys →
    Replaces (Made f o) (Made f p)
made-front f q o p r y ys e = replaces-made (Made f) o p r refl
    (subst (λ l. IsNumber (Made f (Some l))) (sym e) (made-number f q y ys (subst (λ l. Each l (λ v. IsNumber (Some v))) e r.are_numbers)))

-- `sum([n | c])` for a condition c, where n is what a word makes of a list.
abbrev Summed : Option Value → Option Value → Option Value
Summed c o = value_of_node (word Fun.Sum) (option_map list_value (where_true c (λ u. option_map (λ v. v ∷ []) o)) ∷ [])

summed-alone : (o : Option Value) → IsNumber o → Summed (Some (truth true)) o ≡ o
summed-alone (Some (number n)) t = ap (λ z. Some (number z)) (+ℤ_idr n)
summed-alone None t = absurd t
summed-alone (Some (truth b)) t = absurd t
summed-alone (Some (item a k)) t = absurd t
summed-alone (Some (node k vs)) t = absurd t

-- The picked number where there is an item, else 0.
picked : (f : Fun) → picks f ≡ true → (o p : Option (List Value)) (r : ReplacesList o p) (c : Option Value) →
    ((xs : List Value) → p ≡ Some xs → c ≡ Some (truth (any_true (bits (λ v. true) xs)))) → Replaces (Made f o) (Summed c (Made f p))
picked f q o p r c h = go r.items refl
  where
    go : (l : List Value) → r.items ≡ l → Replaces (Made f o) (Summed c (Made f p))
    go [] e = record {
      is_number = subst (λ z. IsNumber (Summed z (Made f p))) (sym (h [] (r.are_there ∙ ap Some e))) tt;
      is_same = λ v j. none o r.is_same v j;
    }
      where
        none : (o : Option (List Value)) → ((xs : List Value) → o ≡ Some xs → p ≡ Some xs) → (v : Value) → Made f o ≡ Some v →
            Summed c (Made f p) ≡ Some v
        none None k v j = cc
        none (Some ys) k v j =
            let z : Some ys ≡ Some [] = sym (k ys refl) ∙ r.are_there ∙ ap Some e in
            let w : None ≡ Some v = sym (made-nothing f q) ∙ sym (ap (Made f) z) ∙ j in cc
    go (y ∷ ys) e =
        let m = made-front f q o p r y ys e in
        subst (λ z. Replaces (Made f o) z)
        (sym (ap (λ z. Summed z (Made f p)) (h (y ∷ ys) (r.are_there ∙ ap Some e)) ∙ summed-alone (Made f p) m.is_number)) m

-- ---- trees

-- What a list means, and what it means everywhere.
record Lists (l l' : Ex) (env : Env) : Type 0 where
  pub old : Option (List Value)
  pub new : Option (List Value)
  pub old_means : meaning l env ≡ option_map list_value old
  pub new_means : meaning l' env ≡ option_map list_value new
  pub replaced : ReplacesList old new

literal-list : (o : Option (List Value)) → and_then o (value_of_op matrix_literal) ≡ option_map list_value o
literal-list None = refl
literal-list (Some xs) = refl

-- A word that makes a number of each list.
folds : (f : Fun) → ((xs : List Value) → IsNumber (Made f (Some xs))) → (l l' : Ex) (env : Env) → Lists l l' env →
    Replaces (value_of_node (word f) (meaning l env ∷ [])) (value_of_node (word f) (meaning l' env ∷ []))
folds f t l l' env s =
    subst (λ z. Replaces z (value_of_node (word f) (meaning l' env ∷ []))) (ap (λ o. value_of_node (word f) (o ∷ [])) (sym s.old_means))
    (subst (λ z. Replaces (Made f s.old) z) (ap (λ o. value_of_node (word f) (o ∷ [])) (sym s.new_means))
    (replaces-made (Made f) s.old s.new s.replaced (none f) (t s.replaced.items)))
  where
    none : (f : Fun) → Made f None ≡ None
    none f = refl

truth-number : (o : Option Value) → is_some o ≡ true → IsNumber (value_of_node (word Fun.ToInt) (o ∷ []))
truth-number None e = cc
truth-number (Some v) e = tt

named-members : (b : Bool) (a : Text) (t : Option TypeEntry) → is_some (named_domain b a t) ≡ true →
    is_some (members_in (named_domain b a t)) ≡ true
named-members b a None e = cc
named-members true a (Some t) e = refl
named-members false a (Some t) e = refl

-- The items of a comprehension.
abbrev Items : Ex → Gens → Env → Option (List Value)
Items e gs env = items_under gs env (λ here. option_map (λ v. v ∷ []) (meaning e here))

mutual
  replaced : (e : Ex) (env : Env) → ReadsNumbers e env → Replaces (meaning e env) (meaning (everywhere e) env)
  replaced (number_ex n) env h = replaces-itself (Some (number n)) tt
  replaced (name_ex a) env h = replaces-itself (meaning (name_ex a) env) h
  replaced (cell_ex false n es) env h = replaces-itself (meaning (cell_ex false n es) env) h
  replaced (ex1 false Op1.Minus a) env h =
      replaced-one (λ o. value_of_node (unary Op1.Minus) (o ∷ [])) _ _ refl (λ n. tt) (replaced a env h)
  replaced (ex1 false Op1.Bar a) env h =
      replaced-one (λ o. value_of_node (unary Op1.Bar) (o ∷ [])) _ _ refl (λ n. tt) (replaced a env h)
  replaced (ex2 false Op2.Plus a b) env h =
      replaced-two (Quotient Op2.Plus) _ _ _ _ (λ q. refl) (λ u. refl) (λ n m. tt) (replaced a env h.0) (replaced b env h.1)
  replaced (ex2 false Op2.Minus a b) env h =
      replaced-two (Quotient Op2.Minus) _ _ _ _ (λ q. refl) (λ u. refl) (λ n m. tt) (replaced a env h.0) (replaced b env h.1)
  replaced (ex2 false Op2.Times a b) env h =
      replaced-two (Quotient Op2.Times) _ _ _ _ (λ q. refl) (λ u. refl) (λ n m. tt) (replaced a env h.0) (replaced b env h.1)
  replaced (ex2 false Op2.Div a b) env h =
      through-two (Quotient Op2.Div) _ (meaning (everywhere a) env) _ (meaning (everywhere b) env) _ (λ q. refl) (λ u. refl)
      (replaced a env h.0) (replaced b env h.1)
      (λ n m j k. subst (λ z. Replaces (Quotient Op2.Div (Some (number n)) (Some (number m))) z)
      (ap (λ o. Quotient Op2.Div o (Some (number (off_zero m)))) (sym j)
      ∙ ap (Quotient Op2.Div (meaning (everywhere a) env)) (sym (divisor-means (everywhere b) env m k))) (divided n m))
  replaced (ex2 false Op2.Mod a b) env h =
      through-two (Quotient Op2.Mod) _ (meaning (everywhere a) env) _ (meaning (everywhere b) env) _ (λ q. refl) (λ u. refl)
      (replaced a env h.0) (replaced b env h.1)
      (λ n m j k. subst (λ z. Replaces (Quotient Op2.Mod (Some (number n)) (Some (number m))) z)
      (ap (λ o. Quotient Op2.Mod o (Some (number (off_zero m)))) (sym j)
      ∙ ap (Quotient Op2.Mod (meaning (everywhere a) env)) (sym (divisor-means (everywhere b) env m k))) (remains n m))
  replaced (ex2 false Op2.Pow a b) env h =
      through-two (Quotient Op2.Pow) _ (meaning (everywhere a) env) _ (meaning (everywhere b) env) _ (λ q. refl) (λ u. refl)
      (replaced a env h.0) (replaced b env h.1) (λ n m j k. raised-means (everywhere a) (everywhere b) env n m j k)
  replaced (fun1 false Fun.ToInt c) env h = replaces-itself _ (truth-number (meaning c env) h)
  replaced (fun1 false Fun.Sum l) env h = folds Fun.Sum (λ xs. tt) l (everywhere_list l) env (listed l env h)
  replaced (fun1 false Fun.Product l) env h = folds Fun.Product (λ xs. tt) l (everywhere_list l) env (listed l env h)
  replaced (fun1 false Fun.Min l) env h = extremes Fun.Min refl l env h
  replaced (fun1 false Fun.Max l) env h = extremes Fun.Max refl l env h
  replaced _ env h = absurd h

  listed : (l : Ex) (env : Env) → ReadsItems l env → Lists l (everywhere_list l) env
  listed (comp_ex e gs) env h = record {
    old = Items e gs env;
    new = Items (everywhere e) (everywhere_gens gs) env;
    old_means = refl;
    new_means = refl;
    replaced = under gs e env (λ here k. replaced e here k) h;
  }
  listed (node_ex false matrix_literal es) env h = record {
    old = all_some (meanings es env);
    new = all_some (meanings (everywhere_exs es) env);
    old_means = literal-list (all_some (meanings es env));
    new_means = literal-list (all_some (meanings (everywhere_exs es) env));
    replaced = replaces-all (meanings es env) (meanings (everywhere_exs es) env) (each es env h);
  }
  listed _ env h = absurd h

  extremes : (f : Fun) → picks f ≡ true → (l : Ex) (env : Env) → ReadsItems l env →
      Replaces (value_of_node (word f) (meaning l env ∷ [])) (meaning (extreme f (everywhere_list l)) env)
  extremes f q (comp_ex e gs) env h =
      picked f q (Items e gs env) (Items (everywhere e) (everywhere_gens gs) env) (under gs e env (λ here k. replaced e here k) h)
      (meaning (fun1 true Fun.Or (comp_ex (truth_ex true) (everywhere_gens gs))) env)
      (λ xs j. any-means env (truth_ex true) (everywhere_gens gs) (bits (λ v. true) xs)
      (marks-under (everywhere_gens gs) env (λ here. option_map (λ v. v ∷ []) (meaning (everywhere e) here)) (λ here. Some
      (truth true ∷ []))
      (λ here. marks-alone (meaning (everywhere e) here)) xs j))
  extremes f q (node_ex false matrix_literal no_exs) env h =
      record { is_number = tt; is_same = λ v e. let w : None ≡ Some v = sym (made-nothing f q) ∙ e in cc }
  extremes f q (node_ex false matrix_literal (more_exs a es)) env h =
      let r = replaces-all (meanings (more_exs a es) env) (meanings (everywhere_exs (more_exs a es)) env) (each (more_exs a es) env h) in
      let t = front-there (meaning (everywhere a) env) (all_some (meanings (everywhere_exs es) env)) r.items r.are_there in
      subst (λ z. Replaces z (meaning (extreme f (everywhere_list (node_ex false matrix_literal (more_exs a es)))) env))
      (ap (λ o. value_of_node (word f) (o ∷ [])) (sym (literal-list (all_some (meanings (more_exs a es) env)))))
      (subst (λ z. Replaces (Made f (all_some (meanings (more_exs a es) env))) z)
      (ap (λ o. value_of_node (word f) (o ∷ [])) (sym (literal-list (all_some (meanings (everywhere_exs (more_exs a es)) env)))))
      (made-front f q (all_some (meanings (more_exs a es) env)) (all_some (meanings (everywhere_exs (more_exs a es)) env)) r t.0 t.1 t.2))
  extremes f q _ env h = absurd h

  each : (es : Exs) (env : Env) → AllRead es env → AllReplaced (meanings es env) (meanings (everywhere_exs es) env)
  each no_exs env h = tt
  each (more_exs e es) env h = (replaced e env h.0, each es env h.1)

  under : (gs : Gens) (e : Ex) (env : Env) → ((here : Env) → ReadsNumbers e here →
      Replaces (meaning e here) (meaning (everywhere e) here)) →
      ReadsUnder gs env (λ here. ReadsNumbers e here) → ReplacesList (Items e gs env) (Items (everywhere e) (everywhere_gens gs) env)
  under no_gens e env f h = replaces-alone (meaning e env) (meaning (everywhere e) env) (f env h)
  under (over p d gs) e env f h =
      let b = bounded d env h.0 in
      replaces-over (members_in (domain_of d env)) (members_in (domain_of (everywhere_dom d) env)) _ _ b.0 b.1
      (each-of-map (members_in (domain_of (everywhere_dom d) env)) _ _ (λ v. under gs e (with_pat p v env) f) h.1)
  under (from p x gs) e env f h = absurd h
  under (cond c gs) e env f h = replaces-where (meaning c env) _ _ (λ t. under gs e env f (h t))

  pub bounded : (d : Dom) (env : Env) → ReadsBounds d env →
      (is_some (members_in (domain_of (everywhere_dom d) env)) ≡ true)
      × ((vs : List Value) → members_in (domain_of d env) ≡ Some vs → members_in (domain_of (everywhere_dom d) env) ≡ Some vs)
  bounded bool_dom env h = (refl, λ vs e. e)
  bounded (name_dom t) env h = (named-members env.positions t (type_entry env.types t) h, λ vs e. e)
  bounded (int_dom (r ∷ rs) es) env h = ranges-listed env r rs es h.0 (each es env h.1)
  bounded _ env h = absurd h

-- What serves everywhere.
pub everywhere-serves : EverywhereServes
everywhere-serves e env h = replaced e env h
