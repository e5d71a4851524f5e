-- An operator on a picked value keeps its meaning where alternatives look the value up.
use Rattle.std.proofs.Common.{◌≡◌, refl, sym, ap, ◌∙◌, subst, ℕ, zero, suc, Bool, true, false, ◌&&◌, ◌||◌, List, [], ◌∷◌, Option, Some, None, option_map, arith}
use Rattle.std.proofs.lemmas.Int.{ints}
use Rattle.std.specs.Prelude.{is_some, ◌+ℤ◌, pos}
use Rattle.ess_semantics.specs.declared.words.Fun.{Fun}
use Rattle.ess_semantics.specs.Lists.{and_then, all_some, list_or_none}
use Rattle.ess_semantics.specs.Values.{Text, Value, number, truth, item, node, items_of}
use Rattle.ess_semantics.specs.Trees.{Op, matrix_literal, Ex, Exs, name_ex, node_ex, no_exs, more_exs}
use Rattle.ess_semantics.specs.Operators.{as_truth, value_of_node, false_where_undefined, list_value}
use Rattle.ess_semantics.specs.Contexts.{guards}
use Rattle.ess_semantics.specs.Meaning.{Env, meaning, meanings, collect}
use Rattle.ess_semantics.specs.Meets.{Meets, MeetsAll}
use Rattle.ess_semantics.specs.Kept.{Keeps}
use Rattle.ess_semantics.proofs.Orders.{to_list-of_list}
use Rattle.ess_semantics.proofs.Tests.{and-left}
use Rattle.ess_rules_laws.specs.Rules.{Unused, IsNumber}
use Rattle.ess_rules_laws.specs.LiteralRules.{nth}
use Rattle.ess_rules_laws.specs.Listings.{Alternative, items_listed, all_listed}
use Rattle.ess_rules_laws.specs.ListedSources.{laid_out, AllMet}
use Rattle.ess_rules_laws.specs.SourceRules.{is_marked, list_of}
use Rattle.ess_rules_laws.specs.Lookups.{found, put_nth, is_plain, picking, FitsNumber}
use Rattle.ess_rules_laws.specs.AlternativeLookups.{LookedBy, fold_word, each_picked, picking_each, select_each, select_whole_each, LooksUpEach, SelectsEach, SelectsWholeEach}
use Rattle.ess_rules_laws.proofs.RuleAnswers.{AnswerKeeps, fires, when-so, behind, each-in-any, collect-itself}
use Rattle.ess_rules_laws.proofs.Folds.{folded, fold-means, folded-append, literal-means}
use Rattle.ess_rules_laws.proofs.Splices.{collect-append}
use Rattle.ess_rules_laws.proofs.SourceRules.{both-lists}
use Rattle.ess_rules_laws.proofs.Lookups.{single, UnusedAll, unguarded, put-met, at-nothing, at-one}

-- The word folds what the mark says.
marked : (b : Bool) → is_marked b (fold_word b) ≡ true
marked true = refl
marked false = refl

module _ (x : Text) (e : Ex) (env : Env) where
  -- The item at a value of x.
  abbrev pub Picked : Value → Option (List Value)
  Picked v = single (meaning e (behind x v env))

  -- What picks the item of an alternative.
  picking-means : (b : Bool) (a : Alternative) (ws c : List Value) → items_listed a env ≡ Some ws → collect ws Picked ≡ Some c →
      meaning (picking b x (laid_out a) e) env ≡ Some (folded (fold_word b) c)
  picking-means b a ws c p q = go b (ap (λ o. and_then (option_map list_value o) (λ s. collect (items_of s) Picked)) p
      ∙ ap (λ l. collect l Picked) (to_list-of_list ws) ∙ q)
    where
      go : (b : Bool) → and_then (meaning (laid_out a) env) (λ s. collect (items_of s) Picked) ≡ Some c →
          meaning (picking b x (laid_out a) e) env ≡ Some (folded (fold_word b) c)
      go true h = fold-means true Fun.Or refl (and_then (meaning (laid_out a) env) (λ s. collect (items_of s) Picked)) c h
      go false h = fold-means false Fun.Sum refl (and_then (meaning (laid_out a) env) (λ s. collect (items_of s) Picked)) c h

  -- Those of all make the fold over all items.
  each-picked : (b : Bool) (l : List Alternative) (ws us : List Value) → all_listed l env ≡ Some ws → collect ws Picked ≡ Some us →
      (xs : List Value) × (all_some (meanings (each_picked b x l e) env) ≡ Some xs) × (folded (fold_word b) us ≡ folded (fold_word b) xs)
  each-picked b [] ws us p q =
      ([], refl, ap (folded (fold_word b)) (sym (ap list_or_none (ap (λ l. collect l Picked) (ap list_or_none p) ∙ q))))
  each-picked b (a ∷ l) ws us p q =
      let d = both-lists (items_listed a env) (all_listed l env) ws p in
      let c = both-lists (collect d.0 Picked) (collect d.1 Picked) us (sym (collect-append d.0 d.1 Picked)
      ∙ ap (λ l. collect l Picked) d.4 ∙ q) in
      let r = each-picked b l d.1 c.1 d.3 c.3 in (
        folded (fold_word b) c.0 ∷ r.0,
        ap (λ z. and_then z (λ y. option_map (λ ys. y ∷ ys) (all_some (meanings (each_picked b x l e) env))))
            (picking-means b a d.0 c.0 d.2 c.2)
            ∙ ap (option_map (λ xs. folded (fold_word b) c.0 ∷ xs)) r.1,
        ap (folded (fold_word b)) (sym c.4) ∙ folded-append b (fold_word b) (marked b) c.0 c.1 r.0 r.2,
      )

  -- So the whole means the fold over all items.
  pub each-means : (b : Bool) (l : List Alternative) (ws us : List Value) → all_listed l env ≡ Some ws → collect ws Picked ≡ Some us →
      meaning (picking_each b x l e) env ≡ Some (folded (fold_word b) us)
  each-means b l ws us p q = let r = each-picked b l ws us p q in
      literal-means b (fold_word b) (marked b) (each_picked b x l e) env r.0 r.1 ∙ ap Some (sym r.2)

  picking-met : (b : Bool) (a : Ex) → Meets a env → ((v : Value) → Meets e (behind x v env)) → Meets (picking b x a e) env
  picking-met true a m h = ((m, each-in-any (meaning a env) _ h), tt)
  picking-met false a m h = ((m, each-in-any (meaning a env) _ h), tt)

  each-met : (b : Bool) (l : List Alternative) → AllMet l env → ((v : Value) → Meets e (behind x v env)) →
      MeetsAll false (each_picked b x l e) env
  each-met b [] m h = tt
  each-met b (a ∷ l) m h = (picking-met b (laid_out a) m.0 h, each-met b l m.1 h)

  -- And its structures are met.
  pub picking_each-met : (b : Bool) (l : List Alternative) → AllMet l env → ((v : Value) → Meets e (behind x v env)) →
      Meets (picking_each b x l e) env
  picking_each-met true l m h = (each-met true l m h, tt)
  picking_each-met false l m h = (each-met false l m h, tt)

-- ---- one item, or none

-- A truth value, where there is one, is whether some item is true.
or-false : (b : Bool) → b || false ≡ b
or-false true = refl
or-false false = refl

-- A value is the fold of itself, where it fits.
folded-itself : (b : Bool) (o : Option Value) → FitsNumber b (false_where_undefined b o) → false_where_undefined b o ≡
    Some (folded (fold_word b) (found o))
folded-itself true None h = refl
folded-itself true (Some (truth c)) h = ap (λ z. Some (truth z)) (sym (or-false c))
folded-itself true (Some (number n)) h = refl
folded-itself true (Some (item t k)) h = refl
folded-itself true (Some (node k vs)) h = refl
folded-itself false (Some (number n)) h = ap (λ m. Some (number m)) (let e : n ≡ n +ℤ pos 0 = omega (arith, ints) in e)
folded-itself false (Some (truth c)) h = absurd h
folded-itself false (Some (item t k)) h = absurd h
folded-itself false (Some (node k vs)) h = absurd h
folded-itself false None h = absurd h

-- The value of an operator that fits is there.
fits-there : (b : Bool) (o : Option Value) → FitsNumber b (false_where_undefined b o) → (v : Value) × (false_where_undefined b o ≡ Some v)
fits-there true o h = (truth (as_truth o), refl)
fits-there false (Some v) h = (v, refl)
fits-there false None h = absurd h

-- It is the fold of itself.
folded-alone : (b : Bool) (o : Option Value) (v : Value) → false_where_undefined b o ≡ Some v → FitsNumber b (false_where_undefined b o) →
    Some v ≡ Some (folded (fold_word b) (v ∷ []))
folded-alone true o v q h = sym q ∙ ap (λ z. Some (truth z)) (sym (or-false (as_truth o)))
    ∙ ap (λ z. Some (folded Fun.Or (z ∷ []))) (let e : truth (as_truth o) ≡ v = cc in e)
folded-alone false o v q h = go v (subst IsNumber q h)
  where
    go : (v : Value) → IsNumber (Some v) → Some v ≡ Some (folded Fun.Sum (v ∷ []))
    go (number n) h = ap (λ m. Some (number m)) (let e : n ≡ n +ℤ pos 0 = omega (arith, ints) in e)
    go (truth c) h = absurd h
    go (item t k) h = absurd h
    go (node k vs) h = absurd h

-- ---- an operator on a picked value

-- The structures of an operand.
abbrev MeetsThere : Option Ex → Env → Type 0
MeetsThere None env = Unit {0}
MeetsThere (Some t) env = Meets t env

pub nth-met : (es : Exs) (k : ℕ) (t : Ex) (env : Env) → nth es k ≡ Some t → MeetsAll false es env → Meets t env
nth-met no_exs k t env q m = cc
nth-met (more_exs a es) zero t env q m = cc
nth-met (more_exs a es) (suc zero) t env q m = subst (λ z. MeetsThere z env) q m.0
nth-met (more_exs a es) (suc (suc n)) t env q m = nth-met es (suc n) t env q m.1

module _ (x : Text) (k : ℕ) (l : List Alternative) (b : Bool) (op : Op) (es : Exs) (env : Env) (t : Ex) (q : nth es k ≡ Some t)
    (new : UnusedAll x es) (plain : is_plain op ≡ true) (looked : LookedBy t l env) where
  abbrev Old : Ex
  Old = node_ex b op es

  abbrev Body : Ex
  Body = node_ex b op (put_nth es k (name_ex x))

  -- Where the operand has a value, the operator has its item there.
  pub value-picked : (v : Value) → meaning t env ≡ Some v → Meets t env → collect (v ∷ []) (Picked x Body env) ≡ single (meaning Old env)
  value-picked v j m = sym (ap (λ o. and_then (value_of_node matrix_literal (o ∷ [])) (λ s. collect (items_of s) (Picked x Body env))) j)
      ∙ at-one x k (list_of (more_exs t no_exs)) b op es env t q new plain
      (record {
        items = ap (λ o. option_map items_of (and_then (and_then o (λ y. option_map (λ ys. y ∷ ys) (Some [])))
            (λ ys. Some (list_value ys)))) j
            ∙ ap (λ o. Some (found o)) (sym j);
        met = (m, tt);
      }) b v j

  -- Where it has none, the operator has none.
  pub nothing-there : meaning t env ≡ None → value_of_node op (meanings es env) ≡ None
  nothing-there j = at-nothing x k (list_of no_exs) b op es env t q new plain
      (record { items = ap (λ o. Some (found o)) (sym j); met = tt }) j

  nothing-means : FitsNumber b (meaning Old env) → meaning t env ≡ None → meaning Old env ≡ meaning (picking_each b x l Body) env
  nothing-means h j = ap (false_where_undefined b) (nothing-there j)
      ∙ folded-itself b None (subst (λ z. FitsNumber b (false_where_undefined b z)) (nothing-there j) h)
      ∙ sym (each-means x Body env b l [] [] (looked.items ∙ ap (λ z. Some (found z)) j) refl)

  value-means : FitsNumber b (meaning Old env) → (v : Value) → meaning t env ≡ Some v → Meets t env →
      meaning Old env ≡ meaning (picking_each b x l Body) env
  value-means h v j m = let r = fits-there b (value_of_node op (meanings es env)) h in
      r.1 ∙ folded-alone b (value_of_node op (meanings es env)) r.0 r.1 h
      ∙ sym (each-means x Body env b l (v ∷ []) (r.0 ∷ []) (looked.items ∙ ap (λ z. Some (found z)) j) (value-picked v j m ∙ ap single r.1))

  selected-means : FitsNumber b (meaning Old env) → Meets t env → meaning Old env ≡ meaning (picking_each b x l Body) env
  selected-means h m = go (meaning t env) refl
    where
      go : (o : Option Value) → meaning t env ≡ o → meaning Old env ≡ meaning (picking_each b x l Body) env
      go None j = nothing-means h j
      go (Some v) j = value-means h v j m

  pub selected-keeps : FitsNumber b (meaning Old env) → Keeps Old (picking_each b x l Body) env
  selected-keeps h m = let g = unguarded (guards op) (and-left _ _ plain) in let n = subst (λ z. MeetsAll z es env) g m in (
    selected-means h (nth-met es k t env q n),
    picking_each-met x Body env b l looked.met
        (λ v. subst (λ z. MeetsAll z (put_nth es k (name_ex x)) (behind x v env)) (sym g) (put-met x v es k env new n)),
  )

select-answer : (x : Text) (k : ℕ) (l : List Alternative) (e : Ex) → Unused x e → (env : Env) → SelectsEach k l e env →
    AnswerKeeps (select_each x k l e) e env
select-answer x k l (node_ex b op es) new env s =
    when-so (is_plain op && is_some (nth es k)) _ (node_ex b op es) env (λ c. go (nth es k) refl s.0 (and-left _ _ c))
  where
    go : (o : Option Ex) → nth es k ≡ o → LooksUpEach o l env → is_plain op ≡ true →
        Keeps (node_ex b op es) (picking_each b x l (node_ex b op (put_nth es k (name_ex x)))) env
    go (Some t) q h p = selected-keeps x k l b op es env t q new p h s.1
    go None q h p = absurd h
select-answer x k l _ new env s = tt

-- An operator on a picked value.
pub select_each-keeps : (x : Text) (k : ℕ) (l : List Alternative) (e f : Ex) → select_each x k l e ≡ Some f → Unused x e → (env : Env) →
    SelectsEach k l e env → Keeps e f env
select_each-keeps x k l e f q new env s = fires (select_each x k l e) e f env (select-answer x k l e new env s) q

-- ---- a picked scalar by itself

whole-answer : (x : Text) (l : List Alternative) (e : Ex) (env : Env) → SelectsWholeEach l e env →
    AnswerKeeps (select_whole_each x l e) e env
whole-answer x l (node_ex b op es) env s = λ m. (
  folded-itself b (value_of_node op (meanings es env)) s.1
      ∙ sym (each-means x (name_ex x) env b l (found (value_of_node op (meanings es env)))
      (found (value_of_node op (meanings es env))) s.0.items
      (collect-itself x env (found (value_of_node op (meanings es env))))),
  picking_each-met x (name_ex x) env b l s.0.met (λ v. tt),
)
whole-answer x l _ env s = tt

-- A picked scalar by itself.
pub select_whole_each-keeps : (x : Text) (l : List Alternative) (e f : Ex) → select_whole_each x l e ≡ Some f → (env : Env) →
    SelectsWholeEach l e env → Keeps e f env
select_whole_each-keeps x l e f q env s = fires (select_whole_each x l e) e f env (whole-answer x l e env s) q
