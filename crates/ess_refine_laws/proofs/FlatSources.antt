-- A comprehension over a source that offers alternatives offers as many itself.
use Rattle.std.proofs.Common.{◌≡◌, refl, sym, ap, ◌∙◌, subst, Bool, true, List, [], ◌∷◌, ◌++◌, map, Option, Some, None, option_map}
use Rattle.std.specs.Prelude.{IsTrue, is_some}
use Rattle.ess_semantics.specs.Lists.{and_then, list_or_none}
use Rattle.ess_semantics.specs.Values.{Text, Value, items_of}
use Rattle.ess_semantics.specs.Trees.{name_pat, Ex, comp_ex, Gens, from}
use Rattle.ess_semantics.specs.Operators.{list_value}
use Rattle.ess_semantics.specs.Meaning.{Env, meaning, items_under, collect}
use Rattle.ess_semantics.specs.Contexts.{Each, EachIn}
use Rattle.ess_semantics.specs.Meets.{Meets, MeetsGens}
use Rattle.ess_semantics.proofs.Orders.{to_list-of_list}
use Rattle.ess_rules_laws.specs.Listings.{Alternative, items_listed, all_listed, SameLists}
use Rattle.ess_rules_laws.specs.ListedSources.{laid_out, AllMet, Offers, put_listed, PutApart, EachApart, SourceApart}
use Rattle.ess_rules_laws.proofs.Permutations.{Perm, count-perm, collect-perm}
use Rattle.ess_rules_laws.proofs.Listing.{each-perm}
use Rattle.ess_rules_laws.proofs.RuleAnswers.{behind}
use Rattle.ess_rules_laws.proofs.SpliceRules.{each-left, each-right, spliced-items, spliced-met}
use Rattle.ess_rules_laws.proofs.Splices.{collect-append}
use Rattle.ess_rules_laws.proofs.Folds.{perm-counts}
use Rattle.ess_rules_laws.proofs.SourceRules.{alike-there, both-lists, list-there, source-there}
use Rattle.ess_refine_laws.specs.ExtremeAlternatives.{put_alternative, flat, FirstOffers}

-- A value that is there.
pub there-is : (o : Option Value) → is_some o ≡ true → (w : Value) × (o ≡ Some w)
there-is None t = cc
there-is (Some w) t = (w, refl)

-- Alternatives of a list that is there are there, in some order.
listed-there : (o : Option (List Value)) (xs : List Value) → SameLists (Some xs) o → (ws : List Value) × (o ≡ Some ws) × Perm xs ws
listed-there None xs h = absurd h
listed-there (Some ws) xs h = (ws, refl, perm-counts xs ws h)

-- The items of a term that offers alternatives are theirs, in some order.
pub offered-items : (t : Ex) (l : List Alternative) (env : Env) (w : Value) → meaning t env ≡ Some w → Offers t l env →
    (ws : List Value) × (all_listed l env ≡ Some ws) × Perm (items_of w) ws
offered-items t l env w j o =
    listed-there (all_listed l env) (items_of w) (subst (λ z. SameLists (option_map items_of z) (all_listed l env)) j o.lists)

module _ (y : Text) (e : Ex) (hs : Gens) (env : Env) (r s : Text → Bool) where
  -- The items behind a value of y, and the structures there.
  abbrev F : Value → Option (List Value)
  F u = items_under hs (behind y u env) (λ here. option_map (λ w. w ∷ []) (meaning e here))

  abbrev Behind : Value → Type 0
  Behind u = MeetsGens hs (behind y u env) (λ here. Meets e here)

  there-so : (o : Option (List Value)) (ws : List Value) → o ≡ Some ws → IsTrue (is_some (option_map list_value o))
  there-so None ws q = cc
  there-so (Some us) ws q = refl

  -- With an alternative they are those behind each of its items.
  put-items : (a : Alternative) → PutApart r s y e hs a → (ws : List Value) → items_listed a env ≡ Some ws →
      items_listed (put_alternative y e hs a) env ≡ collect ws F
  put-items a n ws q =
      sym (spliced-items env.positions env.types env.cells r s y a.item n.0 n.1 a.gens hs e env.vals n.2 n.3 n.4
      (there-so (items_listed a env) ws q))
      ∙ ap (λ o. and_then (option_map list_value o) (λ w. collect (items_of w) F)) q ∙ ap (λ l. collect l F) (to_list-of_list ws)

  put-met : (a : Alternative) → PutApart r s y e hs a → (ws : List Value) → items_listed a env ≡ Some ws → Meets (laid_out a) env →
      Each ws Behind → Meets (put_listed y e hs a) env
  put-met a n ws q m b = spliced-met env.positions env.types env.cells r s y a.item n.0 n.1 a.gens hs e env.vals n.2 n.3 n.4
      (there-so (items_listed a env) ws q)
      (m, subst (λ o. EachIn (option_map list_value o) Behind) (sym q) (subst (λ l. Each l Behind) (sym (to_list-of_list ws)) b))

  -- The same of all alternatives.
  flat-items : (l : List Alternative) → EachApart r s y e hs l → (ws us : List Value) → all_listed l env ≡ Some ws →
      collect ws F ≡ Some us → all_listed (map (put_alternative y e hs) l) env ≡ Some us
  flat-items [] n ws us p q = ap (λ l. collect l F) (ap list_or_none p) ∙ q
  flat-items (a ∷ l) n ws us p q =
      let b = both-lists (items_listed a env) (all_listed l env) ws p in
      let c = both-lists (collect b.0 F) (collect b.1 F) us (sym (collect-append b.0 b.1 F) ∙ ap (λ l. collect l F) b.4 ∙ q) in
      ap (λ o. and_then o (λ xs. option_map (λ ys. xs ++ ys) (all_listed (map (put_alternative y e hs) l) env)))
      (put-items a n.0 b.0 b.2 ∙ c.2)
      ∙ ap (option_map (λ ys. c.0 ++ ys)) (flat-items l n.1 b.1 c.1 b.3 c.3) ∙ ap Some c.4

  flat-met : (l : List Alternative) → EachApart r s y e hs l → (ws : List Value) → all_listed l env ≡ Some ws → AllMet l env →
      Each ws Behind → AllMet (map (put_alternative y e hs) l) env
  flat-met [] n ws p k b = tt
  flat-met (a ∷ l) n ws p k b =
      let d = both-lists (items_listed a env) (all_listed l env) ws p in
      let c = subst (λ l. Each l Behind) (sym d.4) b in (
        put-met a n.0 d.0 d.2 k.0 (each-left Behind d.0 d.1 c),
        flat-met l n.1 d.1 d.3 k.1 (each-right Behind d.0 d.1 c),
      )

  flat-offers : (l : List Alternative) (t : Ex) → EachApart r s y e hs l → IsTrue (is_some (meaning (comp_ex e (from
      (name_pat y) t hs)) env)) →
      Meets (comp_ex e (from (name_pat y) t hs)) env → Offers t l env →
      Offers (comp_ex e (from (name_pat y) t hs)) (map (put_alternative y e hs) l) env
  flat-offers l t n i m o =
      let w = there-is (meaning t env) (source-there (meaning t env) F i) in
      let ws = offered-items t l env w.0 w.1 o in
      let u = list-there (items_under (from (name_pat y) t hs) env (λ here. option_map (λ v. v ∷ []) (meaning e here))) i in
      let c = sym (ap (λ o. and_then o (λ w. collect (items_of w) F)) w.1) ∙ u.1 in
      let v = alike-there (collect (items_of w.0) F) (collect ws.0 F) u.0 c (collect-perm F ws.2) in record {
        lists = subst (λ z. SameLists z (all_listed (map (put_alternative y e hs) l) env))
            (sym (ap (λ o. option_map items_of (option_map list_value o)) u.1 ∙ ap Some (to_list-of_list u.0)))
            (subst (λ z. SameLists (Some u.0) z) (sym (flat-items l n ws.0 v.0 ws.1 v.1)) (λ x. count-perm v.2 x));
        met = flat-met l n ws.0 ws.1 o.met (each-perm Behind ws.2 (subst (λ o. EachIn o Behind) w.1 m.1));
      }

-- What a comprehension offers.
pub flat-serves : (r s : Text → Bool) (l : List Alternative) (e : Ex) (k : List Alternative) → flat l e ≡ Some k → SourceApart r s l e →
    (env : Env) → IsTrue (is_some (meaning e env)) → Meets e env → FirstOffers l e env → Offers e k env
flat-serves r s l (comp_ex e (from (name_pat y) t hs)) k q n env i m o =
    subst (λ z. Offers (comp_ex e (from (name_pat y) t hs)) (elim z [ None ↦ k | Some z ↦ z ]) env) q
    (flat-offers y e hs env r s l t n i m o)
flat-serves r s l _ k q n env i m o = cc
