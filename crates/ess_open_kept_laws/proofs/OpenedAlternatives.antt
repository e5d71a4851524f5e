-- A comprehension offers the alternatives of its first source that isn't plain; and so the least, the greatest and the set of its items are
-- kept over several alternatives.
use Rattle.std.proofs.Common.{◌≡◌, refl, sym, ap, ◌∙◌, subst, true, false, ◌||◌, List, [], ◌∷◌, ◌++◌, map, Option, Some, None, option_map}
use Rattle.std.specs.Prelude.{IsTrue, is_some}
use Rattle.ess_semantics.specs.declared.words.Op2.{Op2}
use Rattle.ess_semantics.specs.declared.words.Fun.{Fun}
use Rattle.ess_semantics.specs.Lists.{and_then, list_or_none}
use Rattle.ess_semantics.specs.Values.{a_set, Value, node, of_list, to_list, items_of}
use Rattle.ess_semantics.specs.Collections.{count, holds, sorted_once, set_of}
use Rattle.ess_semantics.specs.Names.{Names}
use Rattle.ess_semantics.specs.Trees.{binary, word, name_pat, tuple_pat, Ex, comp_ex, fun1, Gens, no_gens, over, from, cond}
use Rattle.ess_semantics.specs.Types.{Ty}
use Rattle.ess_semantics.specs.NamesAt.{names_behind}
use Rattle.ess_semantics.specs.Operators.{value_of_node, list_value}
use Rattle.ess_semantics.specs.Contexts.{EachOf, AtEach}
use Rattle.ess_semantics.specs.Meaning.{Env, meaning, domain_of, members_in, items_under, with_pat}
use Rattle.ess_semantics.specs.Meets.{Meets, MeetsGens}
use Rattle.ess_semantics.specs.Kept.{Keeps}
use Rattle.ess_semantics.proofs.Tests.{and-left}
use Rattle.ess_semantics.proofs.Orders.{to_list-of_list}
use Rattle.ess_semantics.proofs.Overlaps.{holds-append}
use Rattle.ess_semantics.proofs.Sorting.{one-set, holds-sorted_once}
use Rattle.ess_rules_laws.specs.Rules.{OperandsThere, IsNumber}
use Rattle.ess_rules_laws.specs.Listings.{Alternative, items_listed, all_listed, SameLists}
use Rattle.ess_rules_laws.specs.ListedSources.{laid_out, AllMet, Offers}
use Rattle.ess_rules_laws.specs.SpliceRules.{append_gens}
use Rattle.ess_rules_laws.proofs.Bindings.{each-of-join, each-in-join, at-each-map}
use Rattle.ess_rules_laws.proofs.Folds.{perm-counts}
use Rattle.ess_rules_laws.proofs.Permutations.{chain, holds-perm, count-perm, Alike, alike-of, alike-chain, items-alike-behind}
use Rattle.ess_rules_laws.proofs.SourceRules.{alike-there, both-lists, list-there}
use Rattle.ess_rules_laws.proofs.Splices.{rest-there, items-append}
use Rattle.ess_rules_laws.proofs.Steps.{meets-gens-join, at-each-met}
use Rattle.ess_refine_laws.specs.AllRules.{Supply, OfSome}
use Rattle.ess_refine_laws.specs.ExtremeAlternatives.{put_alternative, extreme_alternatives}
use Rattle.ess_refine_laws.specs.ExtremeRules.{is_extreme}
use Rattle.ess_refine_laws.proofs.ExtremeAlternatives.{alternatives-serve}
use Rattle.ess_refine_laws.proofs.FlatSources.{there-is, offered-items, flat-serves}
use Rattle.ess_refine_laws.proofs.LeavingConditions.{inner-there}
use Rattle.ess_kinds_kept_laws.proofs.KindRulesKeep.{under-test}
use Rattle.ess_kinds_kept_laws.proofs.UnorderedTails.{meets-apart, meets-together}
use Rattle.ess_open_rules_laws.specs.OpenGenerators.{Opened, at_first_open}
use Rattle.ess_open_rules_laws.specs.OpenSources.{all_offered, behind_gens, put_opened, comp_offered, several, sets_united, set_of_several, least_of_several}
use Rattle.ess_open_kept_laws.specs.OpenedAsks.{OfferedBehind, SourceBehind, OpenedAsks, LeastAsks}
use Rattle.ess_open_kept_laws.proofs.LooseTails.{at-all}
use Rattle.ess_open_kept_laws.proofs.OpenedFolds.{opened-are}
use Rattle.ess_open_kept_laws.proofs.ItemsAcross.{Joined, joined-alike, items-across, nothing}

-- ---- alternatives behind generators

at-each-both : (gs : Gens) (env : Env) (P Q : Env → Type 0) → AtEach gs env P → AtEach gs env Q → AtEach gs env (λ here. P here × Q here)
at-each-both no_gens env P Q p q = (p, q)
at-each-both (over x d gs) env P Q p q = each-of-join (members_in (domain_of d env)) _ _ _
    (λ v a b. at-each-both gs (with_pat x v env) P Q a b) p q
at-each-both (from x e gs) env P Q p q = each-in-join (meaning e env) _ _ _ (λ v a b. at-each-both gs (with_pat x v env) P Q a b) p q
at-each-both (cond c gs) env P Q p q = λ t. at-each-both gs env P Q (p t) (q t)

there-alike : (o p : Option (List Value)) → Alike o p → is_some o ≡ true → is_some p ≡ true
there-alike None p a t = cc
there-alike (Some xs) None a t = absurd a
there-alike (Some xs) (Some ys) a t = refl

offered-alike : (o p : Option (List Value)) → SameLists (option_map items_of (option_map list_value o)) p → Alike o p
offered-alike None None h = tt
offered-alike None (Some ys) h = absurd h
offered-alike (Some xs) None h = absurd h
offered-alike (Some xs) (Some ys) h = perm-counts xs ys (λ v. ap (λ l. count l v) (sym (to_list-of_list xs)) ∙ h v)

module _ (before : Gens) (env : Env) (P : Alternative → Alternative) where
  abbrev Behind : List Alternative → List Alternative
  Behind l = map (λ a. behind_gens before (P a)) l

  abbrev All : List Alternative → Option (List Value)
  All l = items_under before env (λ here. all_listed (map P l) here)

  behind-items : (a : Alternative) → items_listed (behind_gens before a) env ≡ items_under before env (λ here. items_listed a here)
  behind-items a = items-append env.positions env.types env.cells before a.gens env.vals
      (λ here. option_map (λ v. v ∷ []) (meaning a.item here))

  behind-listed : (l : List Alternative) → is_some (All l) ≡ true → Alike (All l) (all_listed (Behind l) env)
  behind-listed [] t = alike-of (nothing before env t)
  behind-listed (a ∷ l) t =
      let c = items-across before env (λ here. items_listed (P a) here) (λ here. all_listed (map P l) here) in
      alike-chain (All (a ∷ l)) (Joined (items_under before env (λ here. items_listed (P a) here)) (All l))
      (all_listed (Behind (a ∷ l)) env) c
      (subst (λ z. Alike (Joined (items_under before env (λ here. items_listed (P a) here)) (All l)) (Joined z (all_listed (Behind l) env)))
      (sym (behind-items (P a)))
      (joined-alike (items_under before env (λ here. items_listed (P a) here)) (All l) (all_listed (Behind l) env)
      (behind-listed l (rest-there (items_under before env (λ here. items_listed (P a) here)) (All l)
      (there-alike (All (a ∷ l)) (Joined (items_under before env (λ here. items_listed (P a) here)) (All l)) c t)))))

  met-map : (Q R : Env → Type 0) → ((here : Env) → Q here → R here) → MeetsGens before env Q → MeetsGens before env R
  met-map Q R f m = meets-gens-join before env (λ here. Unit {0}) Q R (λ here u q. f here q)
      (at-all before env (λ here. Unit {0}) (λ here. tt)) m

  behind-met : (l : List Alternative) → MeetsGens before env (λ here. AllMet (map P l) here) → AllMet (Behind l) env
  behind-met [] m = tt
  behind-met (a ∷ l) m = (
    meets-together before (P a).gens env (λ here. Meets (P a).item here)
        (met-map (λ here. AllMet (map P (a ∷ l)) here) (λ here. Meets (laid_out (P a)) here) (λ here k. k.0) m),
    behind-met l (met-map (λ here. AllMet (map P (a ∷ l)) here) (λ here. AllMet (map P l) here) (λ here k. k.1) m),
  )

  module _ (e : Ex) (hs : Gens) where
    abbrev I : Env → Option (List Value)
    I here = option_map (λ v. v ∷ []) (meaning e here)

    offers-behind : (l : List Alternative) → IsTrue (is_some (meaning (comp_ex e (append_gens before hs)) env)) →
        Meets (comp_ex e (append_gens before hs)) env → AtEach before env (λ here. Offers (comp_ex e hs) (map P l) here) →
        Offers (comp_ex e (append_gens before hs)) (Behind l) env
    offers-behind l i m w =
        let u = list-there (items_under (append_gens before hs) env I) i in
        let q = sym (items-append env.positions env.types env.cells before hs env.vals I) ∙ u.1 in
        let a = items-alike-behind before env (λ here. items_under hs here I) (λ here. all_listed (map P l) here)
        (at-each-map before env (λ here. Offers (comp_ex e hs) (map P l) here) _
        (λ here o. offered-alike (items_under hs here I) (all_listed (map P l) here) o.lists) w) in
        let v = alike-there (items_under before env (λ here. items_under hs here I)) (All l) u.0 q a in
        let c = alike-there (All l) (all_listed (Behind l) env) v.0 v.1 (behind-listed l (ap is_some v.1)) in record {
          lists = subst (λ z. SameLists z (all_listed (Behind l) env))
              (sym (ap (λ o. option_map items_of (option_map list_value o)) u.1 ∙ ap Some (to_list-of_list u.0)))
              (subst (λ z. SameLists (Some u.0) z) (sym c.1) (λ x. count-perm (chain v.2 c.2) x));
          met = behind-met l (meets-gens-join before env (λ here. Offers (comp_ex e hs) (map P l) here)
              (λ here. MeetsGens hs here (λ here. Meets e here)) (λ here. AllMet (map P l) here) (λ here o n. o.met) w
              (meets-apart before hs env (λ here. Meets e here) m));
        }

-- ---- what comprehensions offer

list-of-there : (o : Option (List Value)) → is_some o ≡ true → is_some (option_map list_value o) ≡ true
list-of-there None t = cc
list-of-there (Some xs) t = refl

there-of-list : (o : Option (List Value)) → is_some (option_map list_value o) ≡ true → is_some o ≡ true
there-of-list None t = cc
there-of-list (Some xs) t = refl

module _ (s : Supply) (e : Ex) (env : Env) (l : List Alternative) where
  put-offers : (g : Names Ty) (before after : Gens) → put_opened e before after (all_offered s g) ≡ Some l →
      SourceBehind s g before e after env → IsTrue (is_some (meaning (comp_ex e (append_gens before after)) env)) →
      Meets (comp_ex e (append_gens before after)) env → Offers (comp_ex e (append_gens before after)) l env
  put-offers g before (from (name_pat y) u hs) q c i m = go (all_offered s g u) q c
    where
      Item : Env → Option (List Value)
      Item here = option_map (λ v. v ∷ []) (meaning e here)

      At : List Alternative → Env → Type 0
      At k here = (IsTrue (is_some (meaning u here)) × Offers u k here)
          × (is_some (items_under (from (name_pat y) u hs) here Item) ≡ true)

      each : (k : List Alternative) → OfferedBehind before y e u hs k env →
          AtEach before env (λ here. Offers (comp_ex e (from (name_pat y) u hs)) (map (put_alternative y e hs) k) here)
      each k c = at-each-met before env (At k) (λ here. MeetsGens (from (name_pat y) u hs) here (λ here. Meets e here))
          (λ here. Offers (comp_ex e (from (name_pat y) u hs)) (map (put_alternative y e hs) k) here)
          (λ here a n. flat-serves c.0 c.1 k (comp_ex e (from (name_pat y) u hs)) (map (put_alternative y e hs) k) refl c.2 here
          (list-of-there (items_under (from (name_pat y) u hs) here Item) a.1) n a.0.1)
          (at-each-both before env (λ here. IsTrue (is_some (meaning u here)) × Offers u k here)
          (λ here. is_some (items_under (from (name_pat y) u hs) here Item) ≡ true) c.3
          (inner-there (from (name_pat y) u hs) Item before env
          (there-of-list (items_under (append_gens before (from (name_pat y) u hs)) env Item) i)))
          (meets-apart before (from (name_pat y) u hs) env (λ here. Meets e here) m)

      go : (o : Option (List Alternative)) →
          option_map (map (λ a. behind_gens before (put_alternative y e hs a))) o ≡ Some l →
          OfSome o (λ k. OfferedBehind before y e u hs k env) →
          Offers (comp_ex e (append_gens before (from (name_pat y) u hs))) l env
      go None q c = cc
      go (Some k) q c = subst (λ z. Offers (comp_ex e (append_gens before (from (name_pat y) u hs))) z env)
          (let z : map (λ a. behind_gens before (put_alternative y e hs a)) k ≡ l = cc in z)
          (offers-behind before env (put_alternative y e hs) e (from (name_pat y) u hs) k i m (each k c))
  put-offers g before (from (tuple_pat ps) u hs) q c i m = cc
  put-offers g before no_gens q c i m = cc
  put-offers g before (over p d hs) q c i m = cc
  put-offers g before (cond x hs) q c i m = cc

-- Those of its first source that isn't plain.
pub comp-offers : (s : Supply) (g : Names Ty) (e : Ex) (gs : Gens) (l : List Alternative) → comp_offered s g e gs ≡ Some l → (env : Env) →
    OfSome (at_first_open gs) (λ t. SourceBehind s (names_behind t.before g) t.before e t.after env) →
    IsTrue (is_some (meaning (comp_ex e gs) env)) → Meets (comp_ex e gs) env → Offers (comp_ex e gs) l env
comp-offers s g e gs l q env c i m = go (at_first_open gs) refl q c
  where
    go : (o : Option Opened) → at_first_open gs ≡ o →
        and_then o (λ t. put_opened e t.before t.after (all_offered s (names_behind t.before g))) ≡ Some l →
        OfSome o (λ t. SourceBehind s (names_behind t.before g) t.before e t.after env) → Offers (comp_ex e gs) l env
    go None a q c = cc
    go (Some t) a q c = let b = opened-are gs t a in subst (λ z. Offers (comp_ex e z) l env) (sym b)
        (put-offers s e env l (names_behind t.before g) t.before t.after q c
        (subst (λ z. IsTrue (is_some (meaning (comp_ex e z) env))) b i) (subst (λ z. Meets (comp_ex e z) env) b m))

-- ---- the set of their items

nil-behind : (xs : List Value) → xs ++ [] ≡ xs
nil-behind [] = refl
nil-behind (x ∷ xs) = ap (λ ys. x ∷ ys) (nil-behind xs)

in-set : (l : List Value) (v : Value) → holds (to_list (of_list (sorted_once l))) v ≡ holds l v
in-set l v = ap (λ z. holds z v) (to_list-of_list (sorted_once l)) ∙ holds-sorted_once l v

module _ (env : Env) where
  abbrev Set : Option (List Value) → Option Value
  Set o = value_of_node (word Fun.ToSet) (option_map list_value o ∷ [])

  one-united : (xs ys ws : List Value) → xs ++ ys ≡ ws →
      value_of_node (binary Op2.Union) (Set (Some xs) ∷ Some (set_of ys) ∷ []) ≡ Some (set_of ws)
  one-united xs ys ws q = ap (λ z. Some (node a_set (of_list z)))
      (one-set (to_list (of_list (sorted_once (to_list (of_list xs)))) ++ to_list (of_list (sorted_once ys))) ws
      (λ v. holds-append (to_list (of_list (sorted_once (to_list (of_list xs))))) (to_list (of_list (sorted_once ys))) v
      ∙ ap (λ b. b || holds (to_list (of_list (sorted_once ys))) v)
      (in-set (to_list (of_list xs)) v ∙ ap (λ z. holds z v) (to_list-of_list xs))
      ∙ ap (λ b. holds xs v || b) (in-set ys v) ∙ sym (holds-append xs ys v) ∙ ap (λ z. holds z v) q))

  united-means : (l : List Alternative) (ws : List Value) → all_listed l env ≡ Some ws → meaning (sets_united l) env ≡ Some (set_of ws)
  united-means [] ws q = ap (λ xs. Some (set_of xs)) (ap list_or_none q)
  united-means (a ∷ []) ws q = let b = both-lists (items_listed a env) (Some []) ws q in
      ap Set b.2 ∙ ap (λ xs. Some (set_of xs)) (to_list-of_list b.0 ∙ sym (nil-behind b.0)
      ∙ ap (λ ys. b.0 ++ ys) (ap list_or_none b.3) ∙ b.4)
  united-means (a ∷ c ∷ l) ws q = let b = both-lists (items_listed a env) (all_listed (c ∷ l) env) ws q in
      ap (λ o. value_of_node (binary Op2.Union) (Set o ∷ meaning (sets_united (c ∷ l)) env ∷ [])) b.2
      ∙ ap (λ o. value_of_node (binary Op2.Union) (Set (Some b.0) ∷ o ∷ [])) (united-means (c ∷ l) b.1 b.3)
      ∙ one-united b.0 b.1 ws b.4

  united-met : (l : List Alternative) → AllMet l env → Meets (sets_united l) env
  united-met [] m = tt
  united-met (a ∷ []) m = (m.0, tt)
  united-met (a ∷ c ∷ l) m = ((m.0, tt), (united-met (c ∷ l) m.1, tt))

-- The set of the items over several alternatives.
pub set-keeps : (s : Supply) (g : Names Ty) (e f : Ex) → set_of_several s g e ≡ Some f → (env : Env) → OpenedAsks s g e env →
    OperandsThere e env → Keeps e f env
set-keeps s g (fun1 false Fun.ToSet (comp_ex e gs)) f q env c there m = go (comp_offered s g e gs) refl q
  where
    i : is_some (meaning (comp_ex e gs) env) ≡ true
    i = and-left (is_some (meaning (comp_ex e gs) env)) true there

    made : (l : List Alternative) → comp_offered s g e gs ≡ Some l → sets_united l ≡ f →
        (meaning (fun1 false Fun.ToSet (comp_ex e gs)) env ≡ meaning f env) × Meets f env
    made l p q = let o = comp-offers s g e gs l p env c i m.0 in
        let w = there-is (meaning (comp_ex e gs) env) i in
        let ws = offered-items (comp_ex e gs) l env w.0 w.1 o in
        subst (λ z. (meaning (fun1 false Fun.ToSet (comp_ex e gs)) env ≡ meaning z env) × Meets z env) q (
          ap (λ o. value_of_node (word Fun.ToSet) (o ∷ [])) w.1
              ∙ ap (λ z. Some (node a_set (of_list z))) (one-set (items_of w.0) ws.0 (λ v. holds-perm ws.2 v))
              ∙ sym (united-means env l ws.0 ws.1),
          united-met env l o.met,
        )

    go : (o : Option (List Alternative)) → comp_offered s g e gs ≡ o → option_map sets_united (several o) ≡ Some f →
        (meaning (fun1 false Fun.ToSet (comp_ex e gs)) env ≡ meaning f env) × Meets f env
    go None p q = cc
    go (Some []) p q = made [] p (let z : sets_united [] ≡ f = cc in z)
    go (Some (a ∷ [])) p q = cc
    go (Some (a ∷ b ∷ l)) p q = made (a ∷ b ∷ l) p (let z : sets_united (a ∷ b ∷ l) ≡ f = cc in z)
set-keeps s g _ f q env c there m = cc

-- ---- the least and the greatest

-- Over several alternatives.
pub least-keeps : (s : Supply) (g : Names Ty) (e f : Ex) → least_of_several s g e ≡ Some f → (env : Env) → LeastAsks s g e env →
    Keeps e f env
least-keeps s g (fun1 false w (comp_ex e gs)) f q env c m = go (comp_offered s g e gs) refl (under-test (is_extreme w)
    (and_then (several (comp_offered s g e gs)) (λ l. extreme_alternatives l (fun1 false w (comp_ex e gs)))) f q).1 c.3
  where
    made : (l : List Alternative) → comp_offered s g e gs ≡ Some l →
        extreme_alternatives l (fun1 false w (comp_ex e gs)) ≡ Some f → EachOf (all_listed l env) (λ v. IsNumber (Some v)) →
        (meaning (fun1 false w (comp_ex e gs)) env ≡ meaning f env) × Meets f env
    made l p q n = alternatives-serve.of_numbers l (fun1 false w (comp_ex e gs)) f q env
        (c.0, comp-offers s g e gs l p env c.2 (and-left (is_some (meaning (comp_ex e gs) env)) true c.1) m.0, n) m

    go : (o : Option (List Alternative)) → comp_offered s g e gs ≡ o →
        and_then (several o) (λ l. extreme_alternatives l (fun1 false w (comp_ex e gs))) ≡ Some f →
        OfSome o (λ l. EachOf (all_listed l env) (λ v. IsNumber (Some v))) →
        (meaning (fun1 false w (comp_ex e gs)) env ≡ meaning f env) × Meets f env
    go None p q n = cc
    go (Some []) p q n = made [] p q n
    go (Some (a ∷ [])) p q n = cc
    go (Some (a ∷ b ∷ l)) p q n = made (a ∷ b ∷ l) p q n
least-keeps s g _ f q env c m = cc
