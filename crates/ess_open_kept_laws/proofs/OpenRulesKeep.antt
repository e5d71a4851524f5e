-- Rules at the first generator that isn't plain, of what is picked, of relations applied and of indices of several steps keep what they
-- rewrite.
use Rattle.std.proofs.Common.{◌≡◌, refl, sym, ap, ◌∙◌, subst, ℕ, zero, suc, ◌+◌, Bool, true, false, ◌&&◌, ◌||◌, not, if◌then◌else◌, option_map, List, [], ◌∷◌, Option, Some, None, arith}
use Rattle.std.specs.Prelude.{IsTrue, is_some}
use Rattle.ess_semantics.specs.Lists.{and_then, or_else}
use Rattle.ess_semantics.specs.Names.{Names}
use Rattle.ess_semantics.specs.Trees.{name_pat, Ex, Exs, node_ex, comp_ex, fun1, no_exs, more_exs, from}
use Rattle.ess_semantics.specs.Types.{Ty}
use Rattle.ess_semantics.specs.Typing.{type_of}
use Rattle.ess_semantics.specs.Typed.{Typed}
use Rattle.ess_semantics.specs.Contexts.{guards}
use Rattle.ess_semantics.specs.Meaning.{Env, meaning}
use Rattle.ess_semantics.specs.Meets.{Meets, MeetsAll}
use Rattle.ess_semantics.specs.Kept.{Keeps}
use Rattle.ess_semantics.proofs.Tests.{and-left}
use Rattle.ess_rules_laws.specs.Rules.{Unused, OperandsThere}
use Rattle.ess_rules_laws.specs.Listings.{Alternative}
use Rattle.ess_rules_laws.specs.ListedSources.{source_parts}
use Rattle.ess_rules_laws.specs.LiteralRules.{nth}
use Rattle.ess_rules_laws.specs.FunctionLookups.{unmarked}
use Rattle.ess_rules_laws.specs.Lookups.{is_plain}
use Rattle.ess_rules_laws.specs.AlternativeLookups.{LookedBy, LooksUpEach, select_each, select_whole_each}
use Rattle.ess_rules_laws.proofs.Lookups.{unguarded}
use Rattle.ess_rules_laws.proofs.AlternativeSelections.{nth-met, select_each-keeps, select_whole_each-keeps}
use Rattle.ess_rules_laws.proofs.ListedSources.{listed_sources-keep}
use Rattle.ess_refine_laws.specs.AllRules.{Supply, OfSome}
use Rattle.ess_kind_rules_laws.specs.TermLookups.{picks, looked_up}
use Rattle.ess_semantics.specs.declared.words.Fun.{Fun}
use Rattle.ess_rules_laws.specs.ListedSources.{Offers}
use Rattle.ess_rules_laws.specs.ListRules.{different_term}
use Rattle.ess_rules_laws.specs.AlternativeLookups.{members_of_each}
use Rattle.ess_rules_laws.proofs.IndexSteps.{steps-apart}
use Rattle.ess_rules_laws.proofs.ListRules.{lists-keep}
use Rattle.ess_rules_laws.proofs.LookedContainers.{members-offered}
use Rattle.ess_kind_rules_laws.specs.KindRules.{asks_truth}
use Rattle.ess_kinds_kept_laws.specs.LookupAsks.{LookupAsks}
use Rattle.ess_kinds_kept_laws.specs.KindAsks.{RootFits}
use Rattle.ess_kinds_kept_laws.proofs.TermsLookedUp.{unmarked-itself, terms-looked-up}
use Rattle.ess_kinds_kept_laws.proofs.KindRulesKeep.{under-test, of-there, kind-rules-keep}
use Rattle.ess_open_rules_laws.specs.OpenSources.{picked_members, over_each_picked, is_counted_apart, counted_apart}
use Rattle.ess_open_rules_laws.specs.OpenRules.{OpenRule, step_by_step, applied_relation, of_a_pick, a_pick_alone, without_repeats, without_its_indices, over_one_source, over_what_is_picked, least_over_several, set_over_several, different_by_counts, in_order_of_its_source, fold_of_folds, set_of_a_term, KindRuling, of_kind, of_opening, gives_scalar, is_compound_ty, compares_values, first_picked, over_a_pick, open_rewrite, kind_ruled, first_opening}
use Rattle.ess_open_kept_laws.specs.OpenAsks.{PickedApart, SourcePicked, PickAsks, OpenAsks, OpensFit, RulingAsks, OpenRulesKeep}
use Rattle.ess_open_kept_laws.proofs.OpenedFolds.{nested-keeps, set_of_term-keeps, related-keeps}
use Rattle.ess_open_kept_laws.proofs.OpenedSources.{over_one-keeps, kept_behind-keeps}
use Rattle.ess_open_kept_laws.proofs.OpenedAlternatives.{set-keeps, least-keeps}
use Rattle.ess_open_kept_laws.proofs.PlainLists.{listed_plainly-keeps}
use Rattle.ess_open_kept_laws.proofs.LooseTails.{seen_loosely-keeps}

-- ---- folds over what is picked

members-picked : (s : Supply) (g : Names Ty) (t : Ex) (l : List Alternative) → picked_members s g t ≡ Some l → (env : Env) → Typed g env →
    IsTrue (is_some (meaning t env)) → IsTrue (not (asks_truth t)) → LookupAsks g s.third s.parts t env → Meets t env → Offers t l env
members-picked s g t l q env y there b c m = go (picks t) q
  where
    inner : (o : Option (List Alternative)) → looked_up g s.third s.parts t ≡ o →
        option_map (members_of_each s.one s.other) o ≡ Some l → Offers t l env
    inner None e q = cc
    inner (Some k) e q = subst (λ z. Offers t z env) (let z : members_of_each s.one s.other k ≡ l = cc in z)
        (members-offered s.one s.other t k env (subst (λ z. LookedBy z k env) (unmarked-itself t b)
        (terms-looked-up.at_any_depth g s.third s.parts t k e env y c m)) there)

    go : (b : Bool) → (if b then option_map (members_of_each s.one s.other) (looked_up g s.third s.parts t) else None) ≡ Some l →
        Offers t l env
    go true q = inner (looked_up g s.third s.parts t) refl q
    go false q = cc

parts-keep : (s : Supply) (g : Names Ty) (e f : Ex) → over_each_picked s g e ≡ Some f → (env : Env) → Typed g env →
    SourcePicked s g e env → OperandsThere e env → Keeps e f env
parts-keep s g (fun1 m w (comp_ex e (from (name_pat y) t hs))) f q env v c o h =
    of-there (picked_members s g t) (λ l. source_parts l (fun1 m w (comp_ex e (from (name_pat y) t hs)))) f
    (λ l. PickedApart s g l t (fun1 m w (comp_ex e (from (name_pat y) t hs))) env) _ q c
    (λ l k p d. listed_sources-keep.in_parts d.0 d.1 l (fun1 m w (comp_ex e (from (name_pat y) t hs))) f p d.2 env
    (d.3, members-picked s g t l k env v d.3 d.4 d.5 h.0.0) o h)
parts-keep s g _ f q env v c o h = cc

-- `allDiff` by counts.
counted-keeps : (s : Supply) (g : Names Ty) (e f : Ex) → counted_apart s g e ≡ Some f → Unused s.one e → (env : Env) → Keeps e f env
counted-keeps s g (fun1 true Fun.AllDiff (comp_ex e gs)) f q new env =
    lists-keep.all_different s.one (fun1 true Fun.AllDiff (comp_ex e gs)) f
    (under-test (is_counted_apart s g e gs) (different_term s.one (fun1 true Fun.AllDiff (comp_ex e gs))) f q).1 new env
counted-keeps s g _ f q new env = cc

-- ---- what is picked

abbrev number_or : Option (ℕ × Ex) → ℕ
number_or None = zero
number_or (Some p) = p.0

abbrev tree_or : Option (ℕ × Ex) → Option Ex
tree_or None = None
tree_or (Some p) = Some p.1

-- The operand that is picked first, by its number.
picked-nth : (any : Bool) (g : Names Ty) (j : ℕ) (es : Exs) (k : ℕ) (e : Ex) → first_picked any g (suc j) es ≡ Some (k, e) →
    (i : ℕ) × (k ≡ suc (j + i)) × (nth es (suc i) ≡ Some e)
picked-nth any g j no_exs k e q = cc
picked-nth any g j (more_exs a es) k e q = go (picks a && (any || is_compound_ty (type_of a g))) q (λ p. picked-nth any g (suc j) es k e p)
  where
    go : (b : Bool) → (if b then Some (suc j, a) else first_picked any g (suc (suc j)) es) ≡ Some (k, e) →
        (first_picked any g (suc (suc j)) es ≡ Some (k, e) → (i : ℕ) × (k ≡ suc (suc j + i)) × (nth es (suc i) ≡ Some e)) →
        (i : ℕ) × (k ≡ suc (j + i)) × (nth (more_exs a es) (suc i) ≡ Some e)
    go true q h = (zero, sym (ap number_or q) ∙ (let n : suc j ≡ suc (j + zero) = omega arith in n), ap tree_or q)
    go false q h = let t = h q in (suc t.0, t.1 ∙ (let n : suc (suc j + t.0) ≡ suc (j + suc t.0) = omega arith in n), t.2)

over-picked : (s : Supply) (g : Names Ty) (e f : Ex) → over_a_pick s g e ≡ Some f → (env : Env) → Typed g env → Unused s.one e →
    PickAsks s g e env → RootFits e env → Keeps e f env
over-picked s g (node_ex b op es) f q env t u c r m = at (first_picked (compares_values b op) g 1 es) refl
    (under-test (gives_scalar g (node_ex b op es))
    (and_then (first_picked (compares_values b op) g 1 es)
    (λ p. and_then (looked_up g s.third s.parts p.1) (λ l. select_each s.one p.0 l (node_ex b op es)))) f q).1 c
  where
    At : Type 0
    At = (meaning (node_ex b op es) env ≡ meaning f env) × Meets f env

    made : (k : ℕ) (a : Ex) (l : List Alternative) → nth es k ≡ Some a → select_each s.one k l (node_ex b op es) ≡ Some f →
        (Meets a env → LookedBy a l env) → At
    made k a l n q h = go (is_plain op && is_some (nth es k)) refl q
      where
        go : (d : Bool) → is_plain op && is_some (nth es k) ≡ d → select_each s.one k l (node_ex b op es) ≡ Some f → At
        go true p q = select_each-keeps s.one k l (node_ex b op es) f q u env (
          subst (λ o. LooksUpEach o l env) (sym n) (h (nth-met es k a env n
              (subst (λ g. MeetsAll g es env) (unguarded (guards op) (and-left (not (guards op)) _ (and-left (is_plain op) _ p))) m))),
          r,
        ) m
        go false p q = no-answer (sym (ap (λ d. if d then Some f else None) p)) q
          where
            no-answer : {B : Type 0} → None ≡ (if is_plain op && is_some (nth es k) then Some f else None) →
                select_each s.one k l (node_ex b op es) ≡ Some f → B
            no-answer w q = cc

    at : (o : Option (ℕ × Ex)) → first_picked (compares_values b op) g 1 es ≡ o →
        and_then o (λ p. and_then (looked_up g s.third s.parts p.1) (λ l. select_each s.one p.0 l (node_ex b op es))) ≡ Some f →
        OfSome o (λ p. IsTrue (not (asks_truth p.1)) × LookupAsks g s.third s.parts p.1 env) → At
    at None p q c = cc
    at (Some (k, a)) p q c = let n = picked-nth (compares_values b op) g 0 es k a p in
        go (looked_up g s.third s.parts a) refl q
        (ap (nth es) (n.1 ∙ (let z : suc (0 + n.0) ≡ suc n.0 = omega arith in z)) ∙ n.2)
      where
        go : (o : Option (List Alternative)) → looked_up g s.third s.parts a ≡ o →
            and_then o (λ l. select_each s.one k l (node_ex b op es)) ≡ Some f → nth es k ≡ Some a → At
        go None y q n = cc
        go (Some l) y q n = made k a l n q (λ h. subst (λ z. LookedBy z l env) (unmarked-itself a c.0)
            (terms-looked-up.at_any_depth g s.third s.parts a l y env t c.1 h))
over-picked s g _ f q env t u c r m = cc

scalar-keeps : (s : Supply) (g : Names Ty) (e f : Ex) →
    and_then (looked_up g s.third s.parts e) (λ l. select_whole_each s.one l e) ≡ Some f → (env : Env) → Typed g env →
    LookupAsks g s.third s.parts e env → RootFits e env → Keeps e f env
scalar-keeps s g e f q env t c r m = go (looked_up g s.third s.parts e) refl q
  where
    whole : (e : Ex) (l : List Alternative) → select_whole_each s.one l e ≡ Some f → LookedBy (unmarked e) l env → RootFits e env →
        Keeps e f env
    whole (node_ex b op es) l q k r = select_whole_each-keeps s.one l (node_ex b op es) f q env (k, r)
    whole _ l q k r = cc

    go : (o : Option (List Alternative)) → looked_up g s.third s.parts e ≡ o →
        and_then o (λ l. select_whole_each s.one l e) ≡ Some f → (meaning e env ≡ meaning f env) × Meets f env
    go None p q = cc
    go (Some l) p q = whole e l q (terms-looked-up.at_any_depth g s.third s.parts e l p env t c m) r m

-- ---- each rule

each-keeps : (s : Supply) (g : Names Ty) (r : OpenRule) (e f : Ex) → open_rewrite s g r e ≡ Some f → (env : Env) → Typed g env →
    OpenAsks s g r e env → Keeps e f env
each-keeps s g step_by_step e f q env t c = steps-apart e f q env
each-keeps s g applied_relation e f q env t c = related-keeps g e f q env t c
each-keeps s g of_a_pick e f q env t c = over-picked s g e f q env t c.0 c.1 c.2
each-keeps s g a_pick_alone e f q env t c = scalar-keeps s g e f (under-test (picks e && gives_scalar g e)
    (and_then (looked_up g s.third s.parts e) (λ l. select_whole_each s.one l e)) f q).1 env t c.0 c.1
each-keeps s g without_repeats e f q env t c = seen_loosely-keeps e f q env
each-keeps s g without_its_indices e f q env t c = listed_plainly-keeps e f q env c
each-keeps s g over_one_source e f q env t c = over_one-keeps s g e f q env c
each-keeps s g over_what_is_picked e f q env t c = parts-keep s g e f q env t c.0 c.1
each-keeps s g least_over_several e f q env t c = least-keeps s g e f q env c
each-keeps s g set_over_several e f q env t c = set-keeps s g e f q env c.0 c.1
each-keeps s g different_by_counts e f q env t c = counted-keeps s g e f q c env
each-keeps s g in_order_of_its_source e f q env t c = kept_behind-keeps s g e f q env c
each-keeps s g fold_of_folds e f q env t c = nested-keeps e f q env c
each-keeps s g set_of_a_term e f q env t c = set_of_term-keeps s e f q env

-- The first that fires.
first-keeps : (s : Supply) (g : Names Ty) (rs : List OpenRule) (e f : Ex) → first_opening s g rs e ≡ Some f → (env : Env) → Typed g env →
    OpensFit s g rs e env → Keeps e f env
first-keeps s g [] e f q env t c = cc
first-keeps s g (r ∷ rs) e f q env t c = go (open_rewrite s g r e) refl q c.0 (λ p. first-keeps s g rs e f p env t c.1)
  where
    go : (o : Option Ex) → open_rewrite s g r e ≡ o → or_else o (first_opening s g rs e) ≡ Some f →
        (IsTrue (is_some (open_rewrite s g r e)) → OpenAsks s g r e env) → (first_opening s g rs e ≡ Some f → Keeps e f env) → Keeps e f env
    go None p q c h = h q
    go (Some a) p q c h = each-keeps s g r e f (p ∙ q) env t (c (ap is_some p))

-- With the rules of kinds.
ruling-keeps : (s : Supply) (g : Names Ty) (r : KindRuling) (e f : Ex) → kind_ruled s g r e ≡ Some f → (env : Env) → Typed g env →
    RulingAsks s g r e env → Keeps e f env
ruling-keeps s g (of_kind r) e f q env t c = kind-rules-keep.each s g r e f q env t c
ruling-keeps s g (of_opening r) e f q env t c = each-keeps s g r e f q env t c

-- What they keep.
pub open-rules-keep : OpenRulesKeep
open-rules-keep = record { each = each-keeps; together = first-keeps; with_kinds = ruling-keeps }
