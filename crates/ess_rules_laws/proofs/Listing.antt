-- One rule for every kind: a generator over a view becomes one over a domain with a test, and an expression stands for the
-- item. A kind proves of its view what the record `Listed` says at one env; the rule follows under each word that doesn't
-- see the order of a list.
use Rattle.std.proofs.Common.{◌≡◌, refl, sym, ap, ◌∙◌, subst, Bool, true, false, List, [], ◌∷◌, ◌++◌, Option, Some, None, if◌then◌else◌, option_map}
use Rattle.std.specs.Prelude.{IsTrue}
use Rattle.ess_semantics.specs.declared.words.Fun.{Fun}
use Rattle.ess_semantics.specs.Lists.{and_then}
use Rattle.ess_semantics.specs.Values.{Text, Value, truth, items_of}
use Rattle.ess_semantics.specs.Names.{Names}
use Rattle.ess_semantics.specs.Trees.{name_pat, Ex, comp_ex, fun1, Gens, over, from, cond, Dom}
use Rattle.ess_semantics.specs.Operators.{as_truth}
use Rattle.ess_semantics.specs.Tables.{Table}
use Rattle.ess_semantics.specs.Meaning.{Env, TypeEntry, meaning, items_under, domain_of, members_in, collect, where_true}
use Rattle.ess_semantics.specs.Contexts.{Each, EachOf, EachIn}
use Rattle.ess_semantics.specs.Meets.{Meets, MeetsGens, MeetsDom}
use Rattle.ess_semantics.specs.Substitution.{substitute, substitute_gens, for_name, NamesAre, NamesAreGens}
use Rattle.ess_rules_laws.proofs.Simulation.{Vals, E, any}
use Rattle.ess_rules_laws.proofs.Bindings.{each-map, each-join, collect-each}
use Rattle.ess_rules_laws.proofs.Agreement.{look-itself, agree-both, outside, meaning-put, items-put}
use Rattle.ess_rules_laws.proofs.MeetsSimulation.{meets-put-gens}
use Rattle.ess_rules_laws.proofs.Permutations.{Perm, same_list, skip, swap, chain, Alike, alike-of, alike-chain, collect-perm, Unordered, unordered-alike}

-- ---- lists with a test

-- The answers of val for the values that pass the test t.
abbrev pub picked : (Value → Bool) → (Value → Value) → List Value → List Value
picked t val [] = []
picked t val (u ∷ us) = if t u then val u ∷ picked t val us else picked t val us

-- Nothing put before the items changes nothing.
pub append-none : {A : Type 0} (o : Option (List A)) → option_map (λ ys. ys) o ≡ o
append-none None = refl
append-none (Some xs) = refl

picked-collect : (t : Value → Bool) (val : Value → Value) (us : List Value) (F G : Value → Option (List Value)) → Each us (λ u. t u ≡ true → F (val u) ≡ G u) →
    collect (picked t val us) F ≡ collect us (λ u. where_true (Some (truth (t u))) (λ z. G u))
picked-collect t val [] F G h = refl
picked-collect t val (u ∷ us) F G h = go (t u) refl (picked-collect t val us F G h.1)
  where
    go : (b : Bool) → t u ≡ b → collect (picked t val us) F ≡ collect us (λ u. where_true (Some (truth (t u))) (λ z. G u)) →
        collect (if b then val u ∷ picked t val us else picked t val us) F
        ≡ and_then (where_true (Some (truth b)) (λ z. G u)) (λ a. option_map (λ ys. a ++ ys) (collect us (λ u. where_true (Some (truth (t u))) (λ z. G u))))
    go true q e = ap (λ o. and_then o (λ a. option_map (λ ys. a ++ ys) (collect (picked t val us) F))) (h.0 q) ∙ ap (λ o. and_then (G u) (λ a. option_map (λ ys. a ++ ys) o)) e
    go false q e = e ∙ sym (append-none (collect us (λ u. where_true (Some (truth (t u))) (λ z. G u))))

-- What holds at each item holds at each item in another order.
pub each-perm : {xs ys : List Value} (P : Value → Type 0) → Perm xs ys → Each xs P → Each ys P
each-perm P same_list a = a
each-perm P (skip p) a = (a.0, each-perm P p a.1)
each-perm P swap a = (a.1.0, (a.0, a.1.1))
each-perm P (chain p q) a = each-perm P q (each-perm P p a)

each-picked : (t : Value → Bool) (val : Value → Value) (us : List Value) (P : Value → Type 0) → Each (picked t val us) P → Each us (λ u. t u ≡ true → P (val u))
each-picked t val [] P a = tt
each-picked t val (u ∷ us) P a = go (t u) refl a (λ b. each-picked t val us P b)
  where
    go : (b : Bool) → t u ≡ b → Each (if b then val u ∷ picked t val us else picked t val us) P → (Each (picked t val us) P → Each us (λ u. t u ≡ true → P (val u))) →
        (t u ≡ true → P (val u)) × Each us (λ u. t u ≡ true → P (val u))
    go true q a r = ((λ z. a.0), r a.1)
    go false q a r = ((λ z. absurd (let w : false ≡ true = sym q ∙ z in cc)), r a)

-- ---- the rule

-- What a kind proves of its view under the values g of names: the members u of the domain d for which the test holds list
-- the items, and w is the item, where x is u.
pub record Listed (pl : Bool) (ts : List TypeEntry) (cs : Names Table) (g : Vals) (x : Text) (view : Ex) (d : Dom) (test w : Ex) : Type 0 where
  -- The value of the view.
  pub value : Value
  -- The members of the domain.
  pub us : List Value
  -- Those that count.
  pub t : Value → Bool
  -- The item of each.
  pub val : Value → Value
  -- The view has the value, the domain the members, the test says t, and w is the item, whose structures are met.
  pub seen : meaning view (E pl ts cs g) ≡ Some value
  pub members : members_in (domain_of d (E pl ts cs g)) ≡ Some us
  pub tested : Each us (λ u. meaning test (E pl ts cs ((x, u) ∷ g)) ≡ Some (truth (t u)))
  pub item : Each us (λ u. t u ≡ true → (meaning w (E pl ts cs ((x, u) ∷ g)) ≡ Some (val u)) × Meets w (E pl ts cs ((x, u) ∷ g)))
  -- The items of the value are these, in some order.
  pub items : Perm (items_of value) (picked t val us)
  -- The structures of the domain and of the test are met.
  pub dom_meets : MeetsDom d (E pl ts cs g)
  pub test_meets : Each us (λ u. Meets test (E pl ts cs ((x, u) ∷ g)))

-- s has x and the names of w; the generators behind and the body bind none of them
module _ (pl : Bool) (ts : List TypeEntry) (cs : Names Table) (g : Vals) (x : Text) (view : Ex) (d : Dom) (test w : Ex) (v : Listed pl ts cs g x view d test w)
    (gs : Gens) (e : Ex) (s : Text → Bool) (here : IsTrue (s x)) (scoped : NamesAre s any w) (gens : NamesAreGens any (outside s) gs) (body : NamesAre any (outside s) e) where
  abbrev M : Vals → Env
  M h = E pl ts cs h

  -- The generators before the rule.
  abbrev pub old_gens : Gens
  old_gens = from (name_pat x) view gs

  -- The generators after the rule.
  abbrev pub new_gens : Gens
  new_gens = over (name_pat x) d (cond test (substitute_gens (for_name x w) gs))

  -- The bodies before and after.
  abbrev k : Env → Option (List Value)
  k here = option_map (λ u. u ∷ []) (meaning e here)

  abbrev k' : Env → Option (List Value)
  k' here = option_map (λ u. u ∷ []) (meaning (substitute (for_name x w) e) here)

  abbrev F : Value → Option (List Value)
  F u = items_under gs (M ((x, u) ∷ g)) k

  abbrev G : Value → Option (List Value)
  G u = items_under (substitute_gens (for_name x w) gs) (M ((x, u) ∷ g)) k'

  same-items : (u : Value) → (v.t u ≡ true → (meaning w (M ((x, u) ∷ g)) ≡ Some (v.val u)) × Meets w (M ((x, u) ∷ g))) → v.t u ≡ true → F (v.val u) ≡ G u
  same-items u h z = sym (items-put pl ts cs s x w here scoped gs ((x, v.val u) ∷ g) ((x, u) ∷ g) k k' gens
      (agree-both x (v.val u) u g, (h z).0 ∙ sym (look-itself x (v.val u) g)) (λ g' h' p. ap (option_map (λ u. u ∷ [])) (meaning-put pl ts cs s x w here scoped e g' h' body p)))

  -- Both give the same items, in some order.
  pub items-alike : Alike (items_under old_gens (M g) k) (items_under new_gens (M g) k')
  items-alike =
      alike-chain (items_under old_gens (M g) k) (collect (picked v.t v.val v.us) F) (items_under new_gens (M g) k')
      (alike-chain (items_under old_gens (M g) k) (collect (items_of v.value) F) (collect (picked v.t v.val v.us) F)
      (alike-of (ap (λ o. and_then o (λ z. collect (items_of z) F)) v.seen)) (collect-perm F v.items))
      (alike-of (picked-collect v.t v.val v.us F G (each-map v.us _ _ same-items v.item)
      ∙ collect-each v.us _ _ (each-map v.us _ _ (λ u q. ap (λ o. where_true o (λ z. G u)) (sym q)) v.tested)
      ∙ ap (λ o. and_then o (λ us. collect us (λ u. where_true (meaning test (M ((x, u) ∷ g))) (λ z. G u)))) (sym v.members)))

  abbrev Body : Value → Type 0
  Body u = MeetsGens gs (M ((x, u) ∷ g)) (λ here. Meets e here)

  abbrev NewBody : Value → Type 0
  NewBody u = MeetsGens (substitute_gens (for_name x w) gs) (M ((x, u) ∷ g)) (λ here. Meets (substitute (for_name x w) e) here)

  abbrev Item : Value → Type 0
  Item u = v.t u ≡ true → (meaning w (M ((x, u) ∷ g)) ≡ Some (v.val u)) × Meets w (M ((x, u) ∷ g))

  abbrev Tested : Value → Type 0
  Tested u = meaning test (M ((x, u) ∷ g)) ≡ Some (truth (v.t u))

  abbrev Before : Value → Type 0
  Before u = v.t u ≡ true → Body (v.val u)

  abbrev After : Value → Type 0
  After u = as_truth (meaning test (M ((x, u) ∷ g))) ≡ true → NewBody u

  at-item : (u : Value) → Item u → Tested u → Before u → After u
  at-item u h q o z = let y : v.t u ≡ true = sym (ap as_truth q) ∙ z in
      meets-put-gens pl ts cs s x w here scoped gs e ((x, v.val u) ∷ g) ((x, u) ∷ g) gens body
      ((agree-both x (v.val u) u g, (h y).0 ∙ sym (look-itself x (v.val u) g)), (h y).1) (o y)

  -- Where the structures behind the generator over the view are met, so are those behind the new one.
  pub gens-met : EachIn (meaning view (M g)) Body → MeetsGens new_gens (M g) (λ here. Meets (substitute (for_name x w) e) here)
  gens-met every = (
    v.dom_meets,
    subst (λ o. EachOf o (λ u. Meets test (M ((x, u) ∷ g)) × After u)) (sym v.members)
        (each-join v.us (λ u. Meets test (M ((x, u) ∷ g))) After _ (λ u a b. (a, b)) v.test_meets
        (each-join v.us (λ u. Item u × Tested u) Before After (λ u a b. at-item u a.0 a.1 b)
        (each-join v.us Item Tested (λ u. Item u × Tested u) (λ u a b. (a, b)) v.item v.tested)
        (each-picked v.t v.val v.us Body (each-perm Body v.items (subst (λ o. EachIn o Body) v.seen every))))),
  )

  -- The rule under a word that doesn't see the order: the meaning stays, and the structures stay met.
  pub listed-kept : (b : Bool) (f : Fun) → Unordered f → Meets (fun1 b f (comp_ex e old_gens)) (M g) →
      (meaning (fun1 b f (comp_ex e old_gens)) (M g) ≡ meaning (fun1 b f (comp_ex (substitute (for_name x w) e) new_gens)) (M g))
      × Meets (fun1 b f (comp_ex (substitute (for_name x w) e) new_gens)) (M g)
  listed-kept b f u m = (unordered-alike b f u (items_under old_gens (M g) k) (items_under new_gens (M g) k') items-alike, (gens-met m.0.1, tt))
