-- What alternatives that look a term up offer: its members, what is made of it, and a single lookup as one of them.
use Rattle.std.proofs.Common.{◌≡◌, refl, sym, ap, ◌∙◌, subst, ℕ, Bool, true, false, ◌&&◌, if◌then◌else◌, List, [], ◌∷◌, ◌++◌, Option, Some, None, option_map}
use Rattle.std.specs.Prelude.{IsTrue, is_some}
use Rattle.ess_semantics.specs.Lists.{and_then, list_or_none}
use Rattle.ess_semantics.specs.Values.{Text, Value, number, truth, item, node, items_of}
use Rattle.ess_semantics.specs.Trees.{Op, Ex, Exs, name_ex, node_ex}
use Rattle.ess_semantics.specs.Operators.{list_value, false_where_undefined}
use Rattle.ess_semantics.specs.Contexts.{guards}
use Rattle.ess_semantics.specs.Meaning.{Env, meaning, collect}
use Rattle.ess_semantics.specs.Meets.{Meets, MeetsAll}
use Rattle.ess_semantics.proofs.Orders.{to_list-of_list}
use Rattle.ess_semantics.proofs.Tests.{and-left}
use Rattle.ess_rules_laws.specs.Rules.{Unused}
use Rattle.ess_rules_laws.specs.LiteralRules.{nth}
use Rattle.ess_rules_laws.specs.Listings.{Alternative, items_listed, all_listed}
use Rattle.ess_rules_laws.specs.ListedSources.{laid_out, AllMet, Offers, OffersInOrder}
use Rattle.ess_rules_laws.specs.Lookups.{found, Looked, put_nth, is_plain}
use Rattle.ess_rules_laws.specs.FunctionLookups.{unmarked}
use Rattle.ess_rules_laws.specs.PartLookups.{FitsPlace, FitsWhereThere}
use Rattle.ess_rules_laws.specs.AlternativeLookups.{LookedBy, LooksUpEach, members_of_each, as_alternative, each_through, lookup_through_each, LooksThroughEach}
use Rattle.ess_rules_laws.proofs.RuleAnswers.{behind, each-in-any, collect-itself, name-behind}
use Rattle.ess_rules_laws.proofs.Simulation.{collect-same}
use Rattle.ess_rules_laws.proofs.Splices.{collect-append}
use Rattle.ess_rules_laws.proofs.SourceRules.{both-lists}
use Rattle.ess_rules_laws.proofs.ListedItems.{same-lists, alone-listed, all-members}
use Rattle.ess_rules_laws.proofs.Lookups.{single, UnusedAll, unguarded, put-met, collect-found}
use Rattle.ess_rules_laws.proofs.LiteralLookups.{AnswerCases}
use Rattle.ess_rules_laws.proofs.AlternativeSelections.{Picked, nothing-there, value-picked, nth-met}

-- The items of an alternative as a list.
laid-items : (a : Alternative) (env : Env) (ws : List Value) (F : Value → Option (List Value)) → items_listed a env ≡ Some ws →
    and_then (meaning (laid_out a) env) (λ s. collect (items_of s) F) ≡ collect ws F
laid-items a env ws F q = ap (λ o. and_then (option_map list_value o) (λ s. collect (items_of s) F)) q
    ∙ ap (λ l. collect l F) (to_list-of_list ws)

-- ---- members

members-there : (y x : Text) (env : Env) (v : Value) → and_then (meaning (name_ex y) (behind y v env))
    (λ s. collect (items_of s) (λ u. single (meaning (name_ex x) (behind x u (behind y v env))))) ≡ Some (items_of v)
members-there y x env v = ap (λ o. and_then o (λ s. collect (items_of s) (λ u. single (meaning (name_ex x) (behind x u (behind y v env))))))
    (name-behind y v env) ∙ collect-itself x (behind y v env) (items_of v)

members-listed : (y x : Text) (env : Env) (l : List Alternative) (ws : List Value) → all_listed l env ≡ Some ws →
    all_listed (members_of_each y x l) env ≡ collect ws (λ v. Some (items_of v))
members-listed y x env [] ws p = ap (λ l. collect l (λ v. Some (items_of v))) (ap list_or_none p)
members-listed y x env (a ∷ l) ws p = let d = both-lists (items_listed a env) (all_listed l env) ws p in
    ap (λ o. and_then o (λ xs. option_map (λ ys. xs ++ ys) (all_listed (members_of_each y x l) env)))
    (laid-items a env d.0 _ d.2 ∙ collect-same d.0 _ (λ v. Some (items_of v)) (members-there y x env))
    ∙ ap (λ o. and_then (collect d.0 (λ v. Some (items_of v))) (λ xs. option_map (λ ys. xs ++ ys) o)) (members-listed y x env l d.1 d.3)
    ∙ sym (collect-append d.0 d.1 (λ v. Some (items_of v))) ∙ ap (λ l. collect l (λ v. Some (items_of v))) d.4

members-met : (y x : Text) (env : Env) (l : List Alternative) → AllMet l env → AllMet (members_of_each y x l) env
members-met y x env [] m = tt
members-met y x env (a ∷ l) m = (
  (
    m.0,
    each-in-any (meaning (laid_out a) env) _ (λ v.
        (tt, each-in-any (meaning (name_ex y) (behind y v env)) _ (λ u. tt))),
  ),
  members-met y x env l m.1,
)

-- The members of a looked up container that is there are offered.
pub members-offered : (y x : Text) (t : Ex) (l : List Alternative) (env : Env) → LookedBy t l env → IsTrue (is_some (meaning t env)) →
    Offers t (members_of_each y x l) env
members-offered y x t l env h i = record {
  lists = same-lists _ _ (go (meaning t env) i ∙ sym (members-listed y x env l (found (meaning t env)) h.items));
  met = members-met y x env l h.met;
}
  where
    go : (o : Option Value) → IsTrue (is_some o) → option_map items_of o ≡ collect (found o) (λ v. Some (items_of v))
    go None i = cc
    go (Some v) i = sym (collect-found (Some (items_of v)))

-- A listing that has the members in order is one of its own.
pub in_order-offered : (s : Ex) (a : Alternative) (env : Env) → OffersInOrder s a env → Offers s (a ∷ []) env
in_order-offered s a env o = record {
  lists = same-lists _ _ (o.items ∙ sym (alone-listed (items_listed a env)));
  met = (o.met, tt);
}

-- ---- one lookup

-- A lookup is the one alternative.
pub looked-alternative : (x : Text) (t l : Ex) (env : Env) → Looked t l env → LookedBy t (as_alternative x l) env
looked-alternative x t l env h = record {
  items = alone-listed _ ∙ all-members x l env ∙ h.items;
  met = ((h.met, each-in-any (meaning l env) _ (λ v. tt)), tt);
}

-- ---- through alternatives

through-listed : (x : Text) (e : Ex) (env : Env) (l : List Alternative) (ws : List Value) → all_listed l env ≡ Some ws →
    all_listed (each_through x l e) env ≡ collect ws (Picked x e env)
through-listed x e env [] ws p = ap (λ l. collect l (Picked x e env)) (ap list_or_none p)
through-listed x e env (a ∷ l) ws p = let d = both-lists (items_listed a env) (all_listed l env) ws p in
    ap (λ o. and_then o (λ xs. option_map (λ ys. xs ++ ys) (all_listed (each_through x l e) env)))
    (laid-items a env d.0 (Picked x e env) d.2)
    ∙ ap (λ o. and_then (collect d.0 (Picked x e env)) (λ xs. option_map (λ ys. xs ++ ys) o)) (through-listed x e env l d.1 d.3)
    ∙ sym (collect-append d.0 d.1 (Picked x e env)) ∙ ap (λ l. collect l (Picked x e env)) d.4

through-met : (x : Text) (e : Ex) (env : Env) (l : List Alternative) → AllMet l env → ((v : Value) → Meets e (behind x v env)) →
    AllMet (each_through x l e) env
through-met x e env [] m h = tt
through-met x e env (a ∷ l) m h = ((m.0, each-in-any (meaning (laid_out a) env) _ h), through-met x e env l m.1 h)

-- A value that fits its place as a list.
fits-single : (b : Bool) (o : Option Value) → FitsPlace b o → single (false_where_undefined b o) ≡ Some (found o)
fits-single true (Some (truth c)) h = refl
fits-single true (Some (number n)) h = absurd h
fits-single true (Some (item t k)) h = absurd h
fits-single true (Some (node k vs)) h = absurd h
fits-single true None h = absurd h
fits-single false (Some v) h = refl
fits-single false None h = cc

module _ (x : Text) (k : ℕ) (l : List Alternative) (b : Bool) (op : Op) (es : Exs) (env : Env) (t : Ex) (q : nth es k ≡ Some t)
    (new : UnusedAll x es) (plain : is_plain op ≡ true) (looked : LookedBy t l env)
    (fits : IsTrue (is_some (meaning t env)) → FitsPlace b (meaning (node_ex false op es) env)) where
  abbrev Body : Ex
  Body = node_ex b op (put_nth es k (name_ex x))

  through-items : Meets t env → (o : Option Value) → meaning t env ≡ o →
      collect (found (meaning t env)) (Picked x Body env) ≡ Some (found (meaning (node_ex false op es) env))
  through-items m None j = ap (λ z. collect (found z) (Picked x Body env)) j
      ∙ ap (λ z. Some (found z)) (sym (nothing-there x k l b op es env t q new plain looked j))
  through-items m (Some v) j = ap (λ z. collect (found z) (Picked x Body env)) j
      ∙ value-picked x k l b op es env t q new plain looked v j m
      ∙ fits-single b (meaning (node_ex false op es) env) (fits (ap is_some j))

  through-looks : MeetsAll (guards op) es env → LookedBy (node_ex false op es) (each_through x l Body) env
  through-looks m = let g = unguarded (guards op) (and-left _ _ plain) in let n = subst (λ z. MeetsAll z es env) g m in record {
    items = through-listed x Body env l (found (meaning t env)) looked.items ∙ through-items (nth-met es k t env q n) (meaning t env) refl;
    met = through-met x Body env l looked.met
        (λ v. subst (λ z. MeetsAll z (put_nth es k (name_ex x)) (behind x v env)) (sym g) (put-met x v es k env new n));
  }

cases-so : (c : Bool) (l : List Alternative) (t : Ex) (env : Env) → (c ≡ true → LookedBy t l env) →
    AnswerCases (if c then Some l else None) t env
cases-so true l t env h = h refl
cases-so false l t env h = tt

-- What is made of an operand that alternatives look up is looked up by them.
pub through_each-answer : (x : Text) (k : ℕ) (l : List Alternative) (e : Ex) → Unused x e → (env : Env) → LooksThroughEach k l e env →
    Meets e env → AnswerCases (lookup_through_each x k l e) (unmarked e) env
through_each-answer x k l (node_ex b op es) new env s m =
    cases-so (is_plain op && is_some (nth es k)) _ (node_ex false op es) env (λ c. go (nth es k) refl s.0 s.1 (and-left _ _ c))
  where
    go : (o : Option Ex) → nth es k ≡ o → LooksUpEach o l env → FitsWhereThere o b (node_ex false op es) env → is_plain op ≡ true →
        LookedBy (node_ex false op es) (each_through x l (node_ex b op (put_nth es k (name_ex x)))) env
    go (Some t) q h f p = through-looks x k l b op es env t q new p h f m
    go None q h f p = absurd h
through_each-answer x k l _ new env s m = tt
