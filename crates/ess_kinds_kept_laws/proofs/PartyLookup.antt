-- The part with a term is looked up over the parts, whatever term gives the partition.
use Rattle.std.proofs.Common.{◌≡◌, refl, sym, ap, ◌∙◌, Bool, true, false, ◌||◌, if◌then◌else◌, List, [], ◌∷◌, ◌++◌, map, Option, Some, None, option_map}
use Rattle.ess_semantics.specs.declared.words.Op2.{Op2}
use Rattle.ess_semantics.specs.declared.words.Fun.{Fun}
use Rattle.ess_semantics.specs.Lists.{and_then, append_all}
use Rattle.ess_semantics.specs.Values.{Text, Value, truth, items_of}
use Rattle.ess_semantics.specs.Order.{same}
use Rattle.ess_semantics.specs.Collections.{holds, sorted_once}
use Rattle.ess_semantics.specs.Trees.{binary, word, name_pat, Ex, name_ex, node_ex, comp_ex, no_exs, more_exs, ex2, fun1, no_gens, from, cond}
use Rattle.ess_semantics.specs.Operators.{value_of_node, false_where_undefined, list_value, part_with}
use Rattle.ess_semantics.specs.Meaning.{Env, meaning, collect, where_true}
use Rattle.ess_semantics.specs.Meets.{Meets}
use Rattle.ess_semantics.proofs.Tests.{or-left-no, or-right-no}
use Rattle.ess_semantics.proofs.Orders.{to_list-of_list, same-equal}
use Rattle.ess_semantics.proofs.Overlaps.{holds-append, no-overlap}
use Rattle.ess_semantics.proofs.Sorting.{Distinct, sorted_once-itself}
use Rattle.ess_rules_laws.specs.Rules.{Unused}
use Rattle.ess_rules_laws.specs.FunctionLookups.{unmarked}
use Rattle.ess_rules_laws.specs.Lookups.{found, Looked}
use Rattle.ess_rules_laws.proofs.Connectives.{binary-means}
use Rattle.ess_rules_laws.proofs.FunctionLookups.{AnswerLooks, looks}
use Rattle.ess_rules_laws.proofs.Lookups.{single}
use Rattle.ess_rules_laws.proofs.RuleAnswers.{behind, each-in-any, meaning-behind, meets-behind, name-behind}
use Rattle.ess_kind_rules_laws.specs.TermLookups.{party_lookup}
use Rattle.ess_kinds_kept_laws.specs.PartyAsks.{IsParted, LastParted}

no : {A : Type 0} → false ≡ true → A
no h = cc

-- ---- lists without repeats

-- What is in the first of two lists without repeats isn't in the second, and that has none.
apart-behind : (xs ys : List Value) → Distinct (xs ++ ys) → Distinct ys
apart-behind [] ys d = d
apart-behind (x ∷ xs) ys d = apart-behind xs ys d.1

apart-first : (xs ys : List Value) (v : Value) → Distinct (xs ++ ys) → holds xs v ≡ true → holds ys v ≡ false
apart-first [] ys v d h = no h
apart-first (x ∷ xs) ys v d h = go (same x v) refl h (λ z. apart-first xs ys v d.1 z)
  where
    go : (b : Bool) → same x v ≡ b → b || holds xs v ≡ true → (holds xs v ≡ true → holds ys v ≡ false) → holds ys v ≡ false
    go true s h r = ap (holds ys) (sym (same-equal x v s))
        ∙ or-right-no (holds xs x) (holds ys x) (sym (holds-append xs ys x) ∙ d.0)
    go false s h r = r h

-- ---- the only part with a member

-- The parts that have it.
abbrev Having : Value → Value → Option (List Value)
Having v p = where_true (Some (truth (holds (items_of p) v))) (λ u. Some (p ∷ []))

none-has : (ps : List Value) (v : Value) → holds (append_all (map items_of ps)) v ≡ false → collect ps (Having v) ≡ Some []
none-has [] v h = refl
none-has (p ∷ ps) v h = let a = sym (holds-append (items_of p) (append_all (map items_of ps)) v) ∙ h in
    ap (λ b. and_then (where_true (Some (truth b)) (λ u. Some (p ∷ []))) (λ xs. option_map (λ ys. xs ++ ys) (collect ps (Having v))))
    (or-left-no (holds (items_of p) v) _ a)
    ∙ ap (option_map (λ ys. ys)) (none-has ps v (or-right-no (holds (items_of p) v) _ a))

one-has : (ps : List Value) (v : Value) → Distinct (append_all (map items_of ps)) → collect ps (Having v) ≡ Some (found (part_with ps v))
one-has [] v d = refl
one-has (p ∷ ps) v d = go (holds (items_of p) v) refl
    (one-has ps v (apart-behind (items_of p) (append_all (map items_of ps)) d))
  where
    go : (b : Bool) → holds (items_of p) v ≡ b → collect ps (Having v) ≡ Some (found (part_with ps v)) →
        and_then (where_true (Some (truth b)) (λ u. Some (p ∷ []))) (λ xs. option_map (λ ys. xs ++ ys) (collect ps (Having v))) ≡
        Some (found (if b then Some p else part_with ps v))
    go true h r = ap (option_map (λ ys. p ∷ ys)) (none-has ps v (apart-first (items_of p) (append_all (map items_of ps)) v d h))
    go false h r = ap (option_map (λ ys. ys)) r

module _ (x : Text) (a p : Ex) (env : Env) (new-a : Unused x a) (parted : IsParted p env) (ma : Meets a env) (mp : Meets p env) where
  abbrev In : Ex
  In = ex2 true Op2.Member a (name_ex x)

  abbrev Whole : Ex
  Whole = node_ex false (word Fun.Party) (more_exs a (more_exs p no_exs))

  abbrev Lookup : Ex
  Lookup = comp_ex (name_ex x) (from (name_pat x) (fun1 false Fun.Parts p) (cond In no_gens))

  abbrev Parts : List Value
  Parts = items_of parted.value

  abbrev At : Value → Option (List Value)
  At v = where_true (meaning In (behind x v env)) (λ u. single (meaning (name_ex x) (behind x v env)))

  abbrev Run : Option Value → Option (List Value)
  Run o = and_then o (λ w. collect (items_of w) At)

  parts-are : Run (meaning (fun1 false Fun.Parts p) env) ≡ collect Parts At
  parts-are = ap (λ o. Run (value_of_node (word Fun.Parts) (o ∷ []))) parted.is_value
      ∙ ap (λ l. collect l At) (to_list-of_list (sorted_once Parts) ∙ sorted_once-itself Parts parted.rising)

  at-means : (w : Value) → meaning a env ≡ Some w → (vs : List Value) → collect vs At ≡ collect vs (Having w)
  at-means w q [] = refl
  at-means w q (v ∷ vs) = ap (λ o. and_then o (λ xs. option_map (λ ys. xs ++ ys) (collect vs At)))
      (ap (λ o. where_true o (λ u. single (meaning (name_ex x) (behind x v env))))
      (binary-means (behind x v env) true Op2.Member a (name_ex x) w v (meaning-behind x v a env new-a ∙ q) (name-behind x v env))
      ∙ ap (λ o. where_true (Some (truth (holds (items_of v) w))) (λ u. single o)) (name-behind x v env))
      ∙ ap (λ o. and_then (Having w v) (λ xs. option_map (λ ys. xs ++ ys) o)) (at-means w q vs)

  at-none : meaning a env ≡ None → (vs : List Value) → collect vs At ≡ Some []
  at-none q [] = refl
  at-none q (v ∷ vs) = ap (λ o. and_then o (λ xs. option_map (λ ys. xs ++ ys) (collect vs At)))
      (ap (λ o. where_true (false_where_undefined true (value_of_node (binary Op2.Member) (o ∷ meaning (name_ex x) (behind x v env) ∷ [])))
      (λ u. single (meaning (name_ex x) (behind x v env)))) (meaning-behind x v a env new-a ∙ q))
      ∙ ap (option_map (λ ys. ys)) (at-none q vs)

  collected : collect Parts At ≡ Some (found (meaning Whole env))
  collected = go (meaning a env) refl
    where
      go : (o : Option Value) → meaning a env ≡ o → collect Parts At ≡ Some (found (meaning Whole env))
      go None q = at-none q Parts
          ∙ sym (ap (λ o. Some (found (value_of_node (word Fun.Party) (o ∷ meaning p env ∷ [])))) q)
      go (Some w) q = at-means w q Parts ∙ one-has Parts w (no-overlap Parts parted.apart)
          ∙ sym (ap (λ o. Some (found (value_of_node (word Fun.Party) (o ∷ meaning p env ∷ [])))) q
          ∙ ap (λ o. Some (found (value_of_node (word Fun.Party) (Some w ∷ o ∷ [])))) parted.is_value)

  party-looks : Looked Whole Lookup env
  party-looks = record {
    items = ap (λ o. option_map items_of (option_map list_value o)) (parts-are ∙ collected)
        ∙ ap Some (to_list-of_list (found (meaning Whole env)));
    met = (
      (mp, tt),
      each-in-any (meaning (fun1 false Fun.Parts p) env) _ (λ v. ((meets-behind x v a env new-a ma, (tt, tt)), λ z. tt)),
    );
  }

party-answer : (x : Text) (e : Ex) (env : Env) → Unused x e → LastParted e env → Meets e env → AnswerLooks (party_lookup x e) (unmarked e) env
party-answer x (node_ex b (word Fun.Party) (more_exs a (more_exs p no_exs))) env new c m =
    party-looks x a p env new.0 c m.0 m.1.0
party-answer x _ env new c m = tt

-- So it is looked up.
pub party-looked : (x : Text) (e l : Ex) → party_lookup x e ≡ Some l → (env : Env) → Unused x e → LastParted e env → Meets e env →
    Looked (unmarked e) l env
party-looked x e l q env new c m = looks (party_lookup x e) (unmarked e) l env (party-answer x e env new c m) q
