-- A generator over a term that offers a listing becomes the generators of the listing, with the meaning kept.
use Rattle.std.proofs.Common.{◌≡◌, refl, sym, ap, ◌∙◌, subst, Bool, true, false, List, [], ◌∷◌, Option, Some, None, option_map}
use Rattle.std.specs.Prelude.{IsTrue, is_some}
use Rattle.ess_semantics.specs.declared.words.Fun.{Fun}
use Rattle.ess_semantics.specs.Lists.{and_then, all_some, list_or_none}
use Rattle.ess_semantics.specs.Values.{Text, Value, items_of}
use Rattle.ess_semantics.specs.Trees.{word, name_pat, Ex, comp_ex, fun1, Gens, from}
use Rattle.ess_semantics.specs.Operators.{list_value}
use Rattle.ess_semantics.specs.ExpressionJudgements.{forgets_order}
use Rattle.ess_semantics.specs.Meaning.{Env, meaning, meanings, items_under, collect}
use Rattle.ess_semantics.specs.Contexts.{Each, EachIn}
use Rattle.ess_semantics.specs.Meets.{Meets, MeetsAll, MeetsGens}
use Rattle.ess_semantics.specs.Kept.{Keeps}
use Rattle.ess_semantics.specs.Substitution.{substitute, substitute_gens, for_name}
use Rattle.ess_semantics.proofs.Orders.{to_list-of_list}
use Rattle.ess_semantics.proofs.Tests.{and-left}
use Rattle.ess_rules_laws.specs.Rules.{OperandsThere}
use Rattle.ess_rules_laws.specs.Listings.{Alternative, items_listed, all_listed, SameLists}
use Rattle.ess_rules_laws.specs.SourceRules.{is_marked, list_of}
use Rattle.ess_rules_laws.specs.SpliceRules.{append_gens}
use Rattle.ess_rules_laws.specs.ListedSources.{laid_out, AllMet, Offers, OffersInOrder, put_listed, source_in_order, source_alone, each_put, source_parts, PutApart, EachApart, SourceApart, SourceInOrder, SourceOffers, ListedSourcesKeep}
use Rattle.ess_rules_laws.proofs.Permutations.{Perm, Alike, collect-perm, unordered-alike}
use Rattle.ess_rules_laws.proofs.Listing.{each-perm}
use Rattle.ess_rules_laws.proofs.RuleAnswers.{AnswerKeeps, fires, when-so, behind}
use Rattle.ess_rules_laws.proofs.ListedItems.{alone-listed}
use Rattle.ess_rules_laws.proofs.SameItems.{unordered-word}
use Rattle.ess_rules_laws.proofs.SpliceRules.{each-left, each-right, spliced-items, spliced-met}
use Rattle.ess_rules_laws.proofs.Splices.{collect-append}
use Rattle.ess_rules_laws.proofs.Folds.{perm-counts, folded, folded-perm, fold-means, folded-append, literal-means}
use Rattle.ess_rules_laws.proofs.SourceRules.{alike-there, both-lists, list-there}

-- A value that is there.
there-is : (o : Option Value) → IsTrue (is_some o) → (w : Value) × (o ≡ Some w)
there-is None t = cc
there-is (Some w) t = (w, refl)

-- Alternatives of a list that is there are there, in some order.
listed-there : (o : Option (List Value)) (xs : List Value) → SameLists (Some xs) o → (ws : List Value) × (o ≡ Some ws) × Perm xs ws
listed-there None xs h = absurd h
listed-there (Some ws) xs h = (ws, refl, perm-counts xs ws h)

module _ (y : Text) (e : Ex) (hs : Gens) (env : Env) where
  -- The items behind a value of y.
  abbrev F : Value → Option (List Value)
  F u = items_under hs (behind y u env) (λ here. option_map (λ w. w ∷ []) (meaning e here))

  -- The structures there.
  abbrev Behind : Value → Type 0
  Behind u = MeetsGens hs (behind y u env) (λ here. Meets e here)

  -- The items with an alternative.
  abbrev put_items : Alternative → Option (List Value)
  put_items a = items_under (append_gens a.gens (substitute_gens (for_name y a.item) hs)) env
      (λ here. option_map (λ v. v ∷ []) (meaning (substitute (for_name y a.item) e) here))

  module _ (r s : Text → Bool) where
    there-so : (o : Option (List Value)) (ws : List Value) → o ≡ Some ws → IsTrue (is_some (option_map list_value o))
    there-so None ws q = cc
    there-so (Some us) ws q = refl

    -- They are those behind each item of the alternative.
    put-items : (a : Alternative) → PutApart r s y e hs a → (ws : List Value) → items_listed a env ≡ Some ws → put_items a ≡ collect ws F
    put-items a n ws q =
        sym (spliced-items env.positions env.types env.cells r s y a.item n.0 n.1 a.gens hs e env.vals n.2 n.3 n.4
        (there-so (items_listed a env) ws q))
        ∙ ap (λ o. and_then (option_map list_value o) (λ w. collect (items_of w) F)) q ∙ ap (λ l. collect l F) (to_list-of_list ws)

    -- And structures are met.
    put-met : (a : Alternative) → PutApart r s y e hs a → (ws : List Value) → items_listed a env ≡ Some ws → Meets (laid_out a) env →
        Each ws Behind → Meets (put_listed y e hs a) env
    put-met a n ws q m b = spliced-met env.positions env.types env.cells r s y a.item n.0 n.1 a.gens hs e env.vals n.2 n.3 n.4
        (there-so (items_listed a env) ws q)
        (m, subst (λ o. EachIn (option_map list_value o) Behind) (sym q) (subst (λ l. Each l Behind) (sym (to_list-of_list ws)) b))

    -- The folds over the alternatives make the fold over all their items.
    each-means : (m : Bool) (f : Fun) → is_marked m f ≡ true → (l : List Alternative) → EachApart r s y e hs l → (ws us : List Value) →
        all_listed l env ≡ Some ws → collect ws F ≡ Some us →
        (xs : List Value) × (all_some (meanings (each_put m f y e hs l) env) ≡ Some xs) × (folded f us ≡ folded f xs)
    each-means m f k [] n ws us p q = ([], refl, ap (folded f) (sym (ap list_or_none (ap (λ l. collect l F) (ap list_or_none p) ∙ q))))
    each-means m f k (a ∷ l) n ws us p q =
        let b = both-lists (items_listed a env) (all_listed l env) ws p in
        let c = both-lists (collect b.0 F) (collect b.1 F) us (sym (collect-append b.0 b.1 F) ∙ ap (λ l. collect l F) b.4 ∙ q) in
        let d = each-means m f k l n.1 b.1 c.1 b.3 c.3 in (
          folded f c.0 ∷ d.0,
          ap (λ z. and_then z (λ x. option_map (λ xs. x ∷ xs) (all_some (meanings (each_put m f y e hs l) env))))
              (fold-means m f k (put_items a) c.0 (put-items a n.0 b.0 b.2 ∙ c.2))
              ∙ ap (option_map (λ xs. folded f c.0 ∷ xs)) d.1,
          ap (folded f) (sym c.4) ∙ folded-append m f k c.0 c.1 d.0 d.2,
        )

    each-met : (m : Bool) (f : Fun) (l : List Alternative) → EachApart r s y e hs l → (ws : List Value) → all_listed l env ≡ Some ws →
        AllMet l env → Each ws Behind → MeetsAll false (each_put m f y e hs l) env
    each-met m f [] n ws p k b = tt
    each-met m f (a ∷ l) n ws p k b =
        let d = both-lists (items_listed a env) (all_listed l env) ws p in
        let c = subst (λ l. Each l Behind) (sym d.4) b in (
          (put-met a n.0 d.0 d.2 k.0 (each-left Behind d.0 d.1 c), tt),
          each-met m f l n.1 d.1 d.3 k.1 (each-right Behind d.0 d.1 c),
        )

    module _ (t : Ex) (w : Value) (j : meaning t env ≡ Some w) where
      old-is : items_under (from (name_pat y) t hs) env (λ here. option_map (λ v. v ∷ []) (meaning e here)) ≡ collect (items_of w) F
      old-is = ap (λ o. and_then o (λ w. collect (items_of w) F)) j

      behind-each : Meets (comp_ex e (from (name_pat y) t hs)) env → Each (items_of w) Behind
      behind-each m = subst (λ o. EachIn o Behind) j m.1

      -- In order.
      ordered-keeps : (a : Alternative) → PutApart r s y e hs a → OffersInOrder t a env →
          Keeps (comp_ex e (from (name_pat y) t hs)) (put_listed y e hs a) env
      ordered-keeps a n o m = let q = sym o.items ∙ ap (option_map items_of) j in (
        ap (option_map list_value) (old-is ∙ sym (put-items a n (items_of w) q)),
        put-met a n (items_of w) q o.met (behind-each m),
      )

      all-there : (l : List Alternative) → Offers t l env → (ws : List Value) × (all_listed l env ≡ Some ws) × Perm (items_of w) ws
      all-there l o = listed-there (all_listed l env) (items_of w)
          (subst (λ z. SameLists (option_map items_of z) (all_listed l env)) j o.lists)

      -- Under a word that forgets order.
      alone-keeps : (m : Bool) (f : Fun) → forgets_order (word f) ≡ true → (a : Alternative) → PutApart r s y e hs a →
          Offers t (a ∷ []) env →
          Keeps (fun1 m f (comp_ex e (from (name_pat y) t hs))) (fun1 m f (put_listed y e hs a)) env
      alone-keeps m f h a n o k =
          let ws = all-there (a ∷ []) o in let q = sym (alone-listed (items_listed a env)) ∙ ws.1 in (
            unordered-alike m f (unordered-word f h) _ (put_items a)
                (subst (λ z. Alike z (put_items a)) (sym old-is)
                (subst (λ z. Alike (collect (items_of w) F) z) (sym (put-items a n ws.0 q)) (collect-perm F ws.2))),
            (put-met a n ws.0 q o.met.0 (each-perm Behind ws.2 (behind-each k.0)), tt),
          )

      -- Folds over several alternatives.
      parts-keep : (m : Bool) (f : Fun) → is_marked m f ≡ true → (l : List Alternative) → EachApart r s y e hs l → Offers t l env →
          IsTrue (is_some (meaning (comp_ex e (from (name_pat y) t hs)) env)) →
          Keeps (fun1 m f (comp_ex e (from (name_pat y) t hs))) (fun1 m f (list_of (each_put m f y e hs l))) env
      parts-keep m f h l n o i k =
          let ws = all-there l o in
          let u = list-there (items_under (from (name_pat y) t hs) env (λ here. option_map (λ v. v ∷ []) (meaning e here))) i in
          let v = alike-there (collect (items_of w) F) (collect ws.0 F) u.0 (sym old-is ∙ u.1) (collect-perm F ws.2) in
          let z = each-means m f h l n ws.0 v.0 ws.1 v.1 in (
            fold-means m f h _ u.0 u.1 ∙ ap Some (folded-perm m f h v.2 ∙ z.2)
                ∙ sym (literal-means m f h (each_put m f y e hs l) env z.0 z.1),
            (each-met m f l n ws.0 ws.1 o.met (each-perm Behind ws.2 (behind-each k.0)), tt),
          )

-- ---- the rules

ordered-answer : (r s : Text → Bool) (a : Alternative) (e : Ex) → SourceApart r s (a ∷ []) e → (env : Env) → SourceInOrder a e env →
    AnswerKeeps (source_in_order a e) e env
ordered-answer r s a (comp_ex e (from (name_pat y) t hs)) n env o = let w =
    there-is (meaning t env) o.0 in ordered-keeps y e hs env r s t w.0 w.1 a n.0 o.1
ordered-answer r s a _ n env o = tt

alone-answer : (r s : Text → Bool) (a : Alternative) (e : Ex) → SourceApart r s (a ∷ []) e → (env : Env) → SourceOffers (a ∷ []) e env →
    AnswerKeeps (source_alone a e) e env
alone-answer r s a (fun1 m f (comp_ex e (from (name_pat y) t hs))) n env o =
    when-so (forgets_order (word f)) _ (fun1 m f (comp_ex e (from (name_pat y) t hs))) env
    (λ h. let w = there-is (meaning t env) o.0 in alone-keeps y e hs env r s t w.0 w.1 m f h a n.0 o.1)
alone-answer r s a _ n env o = tt

parts-answer : (r s : Text → Bool) (l : List Alternative) (e : Ex) → SourceApart r s l e → (env : Env) → SourceOffers l e env →
    OperandsThere e env → AnswerKeeps (source_parts l e) e env
parts-answer r s l (fun1 m f (comp_ex e (from (name_pat y) t hs))) n env o i =
    when-so (is_marked m f) _ (fun1 m f (comp_ex e (from (name_pat y) t hs))) env
    (λ h. let w = there-is (meaning t env) o.0 in parts-keep y e hs env r s t w.0 w.1 m f h l n o.1 (and-left _ _ i))
parts-answer r s l _ n env o i = tt

-- Generators over terms that offer listings.
pub listed_sources-keep : ListedSourcesKeep
listed_sources-keep = record {
  in_order = λ r s a e f q n env o. fires (source_in_order a e) e f env (ordered-answer r s a e n env o) q;
  alone = λ r s a e f q n env o. fires (source_alone a e) e f env (alone-answer r s a e n env o) q;
  in_parts = λ r s l e f q n env o i. fires (source_parts l e) e f env (parts-answer r s l e n env o i) q;
}
