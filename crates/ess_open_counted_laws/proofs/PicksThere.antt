-- Operators on a picked value that is there keep their meaning, though they may have nothing; and so do truth values that are made of what
-- is picked.
use Rattle.std.proofs.Common.{◌≡◌, refl, sym, ap, ◌∙◌, subst, ℕ, Bool, true, false, ◌&&◌, ◌||◌, if◌then◌else◌, List, [], ◌∷◌, ◌++◌, Option, Some, None, option_map}
use Rattle.std.specs.Prelude.{IsTrue, is_some}
use Rattle.ess_semantics.specs.declared.words.Fun.{Fun}
use Rattle.ess_semantics.specs.Lists.{and_then, all_some, list_or_none}
use Rattle.ess_semantics.specs.Values.{Text, Value, truth, items_of}
use Rattle.ess_semantics.specs.Trees.{Op, word, matrix_literal, Ex, Exs, name_ex, node_ex}
use Rattle.ess_semantics.specs.Operators.{as_truth, value_of_op, value_of_node, false_where_undefined, list_value}
use Rattle.ess_semantics.specs.Contexts.{guards}
use Rattle.ess_semantics.specs.Meaning.{Env, meaning, meanings, collect}
use Rattle.ess_semantics.specs.Meets.{Meets, MeetsAll}
use Rattle.ess_semantics.specs.Kept.{Keeps}
use Rattle.ess_semantics.proofs.Orders.{to_list-of_list}
use Rattle.ess_semantics.proofs.Tests.{and-left}
use Rattle.ess_rules_laws.specs.Rules.{Unused, IsNumber}
use Rattle.ess_rules_laws.specs.LiteralRules.{nth}
use Rattle.ess_rules_laws.specs.Listings.{Alternative, items_listed, all_listed}
use Rattle.ess_rules_laws.specs.ListedSources.{laid_out, AllMet}
use Rattle.ess_rules_laws.specs.Lookups.{found, put_nth, is_plain, picking}
use Rattle.ess_rules_laws.specs.AlternativeLookups.{LookedBy, LooksUpEach, each_picked, picking_each, select_each, select_whole_each, each_through, lookup_through_each}
use Rattle.ess_rules_laws.proofs.RuleAnswers.{AnswerKeeps, fires, when-so, behind, each-in-any, collect-itself}
use Rattle.ess_rules_laws.proofs.Splices.{collect-append}
use Rattle.ess_rules_laws.proofs.SourceRules.{both-lists}
use Rattle.ess_rules_laws.proofs.Lookups.{single, UnusedAll, unguarded, put-met}
use Rattle.ess_rules_laws.proofs.AlternativeSelections.{Picked, each-means, picking_each-met, value-picked, nothing-there, nth-met, select_each-keeps}
use Rattle.ess_refine_laws.specs.AllRules.{OfSome}
use Rattle.ess_open_counted_laws.specs.PicksThere.{OperandThere, SelectsThere, TruthOver, PicksThereKeep}

-- ---- where an item has nothing

-- Nothing behind what there is.
nothing-behind : (o : Option Value) → and_then o (λ y. option_map (λ ys. y ∷ ys) None) ≡ None
nothing-behind None = refl
nothing-behind (Some v) = refl

-- Of two lists one isn't there.
append-nothing : (o p : Option (List Value)) → and_then o (λ xs. option_map (λ ys. xs ++ ys) p) ≡ None → (P : Type 0) → (o ≡ None → P) →
    ((xs : List Value) → o ≡ Some xs → p ≡ None → P) → P
append-nothing None p q P f h = f refl
append-nothing (Some xs) None q P f h = h xs refl refl
append-nothing (Some xs) (Some ys) q P f h = cc

module _ (x : Text) (e : Ex) (env : Env) where
  -- A sum over an alternative with such an item has nothing.
  sum-nothing : (a : Alternative) (ws : List Value) → items_listed a env ≡ Some ws → collect ws (Picked x e env) ≡ None →
      meaning (picking false x (laid_out a) e) env ≡ None
  sum-nothing a ws p q = ap (λ o. false_where_undefined false (value_of_node (word Fun.Sum) (option_map list_value o ∷ [])))
      (ap (λ o. and_then (option_map list_value o) (λ s. collect (items_of s) (Picked x e env))) p
      ∙ ap (λ l. collect l (Picked x e env)) (to_list-of_list ws) ∙ q)

  -- So have all of them together.
  each-nothing : (l : List Alternative) (ws : List Value) → all_listed l env ≡ Some ws → collect ws (Picked x e env) ≡ None →
      all_some (meanings (each_picked false x l e) env) ≡ None
  each-nothing [] ws p q = let h : collect [] (Picked x e env) ≡ None = ap (λ l. collect l (Picked x e env)) (ap list_or_none p) ∙ q in cc
  each-nothing (a ∷ l) ws p q = let d = both-lists (items_listed a env) (all_listed l env) ws p in
      append-nothing (collect d.0 (Picked x e env)) (collect d.1 (Picked x e env))
      (sym (collect-append d.0 d.1 (Picked x e env)) ∙ ap (λ l. collect l (Picked x e env)) d.4 ∙ q)
      (all_some (meanings (each_picked false x (a ∷ l) e) env) ≡ None)
      (λ r. ap (λ z. and_then z (λ y. option_map (λ ys. y ∷ ys) (all_some (meanings (each_picked false x l e) env))))
      (sum-nothing a d.0 d.2 r))
      (λ xs r t. ap (λ z. and_then (meaning (picking false x (laid_out a) e) env) (λ y. option_map (λ ys. y ∷ ys) z))
      (each-nothing l d.1 d.3 t) ∙ nothing-behind (meaning (picking false x (laid_out a) e) env))

  -- And their sum.
  all-nothing : (l : List Alternative) (ws : List Value) → all_listed l env ≡ Some ws → collect ws (Picked x e env) ≡ None →
      meaning (picking_each false x l e) env ≡ None
  all-nothing l ws p q =
      ap (λ o. false_where_undefined false (value_of_node (word Fun.Sum) (and_then o (value_of_op matrix_literal) ∷ [])))
      (each-nothing l ws p q)

-- ---- an operator on a picked value

module _ (x : Text) (k : ℕ) (l : List Alternative) (op : Op) (es : Exs) (env : Env) (t : Ex) (q : nth es k ≡ Some t)
    (new : UnusedAll x es) (plain : is_plain op ≡ true) (looked : LookedBy t l env) where
  abbrev Old : Ex
  Old = node_ex false op es

  abbrev Body : Ex
  Body = node_ex false op (put_nth es k (name_ex x))

  -- Where the operand is there and the operator has nothing.
  lacking-keeps : (v : Value) → meaning t env ≡ Some v → meaning Old env ≡ None → Keeps Old (picking_each false x l Body) env
  lacking-keeps v j n m = let g = unguarded (guards op) (and-left _ _ plain) in let c = subst (λ z. MeetsAll z es env) g m in (
    n ∙ sym (all-nothing x Body env l (v ∷ []) (looked.items ∙ ap (λ o. Some (found o)) j)
        (value-picked x k l false op es env t q new plain looked v j (nth-met es k t env q c) ∙ ap single n)),
    picking_each-met x Body env false l looked.met
        (λ u. subst (λ z. MeetsAll z (put_nth es k (name_ex x)) (behind x u env)) (sym g) (put-met x u es k env new c)),
  )

over-there : (x : Text) (k : ℕ) (l : List Alternative) (e f : Ex) → select_each x k l e ≡ Some f → Unused x e → (env : Env) →
    SelectsThere k l e env → Keeps e f env
over-there x k l (node_ex true op es) f q new env s = select_each-keeps x k l (node_ex true op es) f q new env (s.0, tt)
over-there x k l (node_ex false op es) f q new env s = go (meaning (node_ex false op es) env) refl s.1.1
  where
    lacking : meaning (node_ex false op es) env ≡ None →
        AnswerKeeps (select_each x k l (node_ex false op es)) (node_ex false op es) env
    lacking n = when-so (is_plain op && is_some (nth es k)) _ (node_ex false op es) env
        (λ c. at (nth es k) refl s.0 s.1.0 (and-left _ _ c))
      where
        at : (o : Option Ex) → nth es k ≡ o → LooksUpEach o l env → OperandThere o env → is_plain op ≡ true →
            Keeps (node_ex false op es) (picking_each false x l (node_ex false op (put_nth es k (name_ex x)))) env
        at None p h i c = absurd h
        at (Some t) p h i c = inner (meaning t env) refl i
          where
            inner : (o : Option Value) → meaning t env ≡ o → IsTrue (is_some o) →
                Keeps (node_ex false op es) (picking_each false x l (node_ex false op (put_nth es k (name_ex x)))) env
            inner None j i = cc
            inner (Some v) j i = lacking-keeps x k l op es env t p new c h v j n

    go : (o : Option Value) → meaning (node_ex false op es) env ≡ o → OfSome o (λ v. IsNumber (Some v)) → Keeps (node_ex false op es) f env
    go (Some v) r h = select_each-keeps x k l (node_ex false op es) f q new env (s.0, subst IsNumber (sym r) h)
    go None r h = fires (select_each x k l (node_ex false op es)) (node_ex false op es) f env (lacking r) q
over-there x k l _ f q new env s = cc

-- ---- a truth value that is made of what is picked

module _ (y : Text) (e : Ex) (env : Env) where
  -- The items that are made of those of alternatives.
  made-listed : (l : List Alternative) (ws : List Value) → all_listed l env ≡ Some ws →
      all_listed (each_through y l e) env ≡ collect ws (Picked y e env)
  made-listed [] ws p = ap (λ l. collect l (Picked y e env)) (ap list_or_none p)
  made-listed (a ∷ l) ws p = let d = both-lists (items_listed a env) (all_listed l env) ws p in
      ap (λ o. and_then o (λ xs. option_map (λ ys. xs ++ ys) (all_listed (each_through y l e) env)))
      (ap (λ o. and_then (option_map list_value o) (λ s. collect (items_of s) (Picked y e env))) d.2
      ∙ ap (λ l. collect l (Picked y e env)) (to_list-of_list d.0))
      ∙ ap (λ o. and_then (collect d.0 (Picked y e env)) (λ xs. option_map (λ ys. xs ++ ys) o)) (made-listed l d.1 d.3)
      ∙ sym (collect-append d.0 d.1 (Picked y e env)) ∙ ap (λ l. collect l (Picked y e env)) d.4

  made-met : (l : List Alternative) → AllMet l env → ((v : Value) → Meets e (behind y v env)) → AllMet (each_through y l e) env
  made-met [] m h = tt
  made-met (a ∷ l) m h = ((m.0, each-in-any (meaning (laid_out a) env) _ h), made-met l m.1 h)

-- A truth value is whether some item of it alone is true.
truth-alone : (c : Bool) → Some (truth c) ≡ Some (truth (c || false))
truth-alone true = refl
truth-alone false = refl

module _ (x y : Text) (k : ℕ) (l : List Alternative) (op : Op) (es : Exs) (env : Env) (t : Ex) (q : nth es k ≡ Some t)
    (new : UnusedAll y es) (plain : is_plain op ≡ true) (looked : LookedBy t l env) where
  abbrev Truth : Ex
  Truth = node_ex true op es

  abbrev Made : Ex
  Made = node_ex true op (put_nth es k (name_ex y))

  abbrev Any : Ex
  Any = picking_each true x (each_through y l Made) (name_ex x)

  items-made : (o : Option Value) → meaning t env ≡ o → all_listed (each_through y l Made) env ≡ collect (found o) (Picked y Made env)
  items-made o j = made-listed y Made env l (found o) (looked.items ∙ ap (λ z. Some (found z)) j)

  truth-means : (o : Option Value) → meaning t env ≡ o → Meets t env → meaning Truth env ≡ meaning Any env
  truth-means None j m = ap (false_where_undefined true) (nothing-there y k l true op es env t q new plain looked j)
      ∙ sym (each-means x (name_ex x) env true (each_through y l Made) [] [] (items-made None j) refl)
  truth-means (Some v) j m = let c = truth (as_truth (value_of_node op (meanings es env))) ∷ [] in
      truth-alone (as_truth (value_of_node op (meanings es env)))
      ∙ sym (each-means x (name_ex x) env true (each_through y l Made) c c
      (items-made (Some v) j ∙ value-picked y k l true op es env t q new plain looked v j m) (collect-itself x env c))

  truth-keeps : Keeps Truth Any env
  truth-keeps m = let g = unguarded (guards op) (and-left _ _ plain) in let c = subst (λ z. MeetsAll z es env) g m in (
    truth-means (meaning t env) refl (nth-met es k t env q c),
    picking_each-met x (name_ex x) env true (each_through y l Made)
        (made-met y Made env l looked.met
        (λ v. subst (λ z. MeetsAll z (put_nth es k (name_ex y)) (behind y v env)) (sym g) (put-met y v es k env new c)))
        (λ v. tt),
  )

truth-over : (x y : Text) (k : ℕ) (l m : List Alternative) (e f : Ex) → lookup_through_each y k l e ≡ Some m →
    select_whole_each x m e ≡ Some f → Unused y e → (env : Env) → TruthOver k l e env → Keeps e f env
truth-over x y k l m (node_ex true op es) f p q new env s = under (is_plain op && is_some (nth es k)) refl p
  where
    at : (o : Option Ex) → nth es k ≡ o → LooksUpEach o l env → is_plain op ≡ true →
        Keeps (node_ex true op es) (picking_each true x (each_through y l (node_ex true op (put_nth es k (name_ex y)))) (name_ex x)) env
    at None r h c = absurd h
    at (Some t) r h c = truth-keeps x y k l op es env t r new c h

    under : (b : Bool) → is_plain op && is_some (nth es k) ≡ b →
        (if b then Some (each_through y l (node_ex true op (put_nth es k (name_ex y)))) else None) ≡ Some m →
        Keeps (node_ex true op es) f env
    under false r p = cc
    under true r p = subst (λ z. Keeps (node_ex true op es) z env)
        (ap (λ z. picking_each true x z (name_ex x)) (let z : each_through y l (node_ex true op (put_nth es k (name_ex y))) ≡ m = cc in z)
        ∙ (let z : picking_each true x m (name_ex x) ≡ f = cc in z))
        (at (nth es k) refl s (and-left _ _ r))
truth-over x y k l m (node_ex false op es) f p q new env s = absurd s
truth-over x y k l m _ f p q new env s = cc

-- What is proved of what is picked and there.
pub picks-there-keep : PicksThereKeep
picks-there-keep = record { of_an_operand = over-there; of_a_truth = truth-over }
