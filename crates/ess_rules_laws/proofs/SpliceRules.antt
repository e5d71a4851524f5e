-- Splicing a comprehension into the generators over it keeps the meaning, and structures stay met.
use Rattle.std.proofs.Common.{◌≡◌, refl, sym, ap, ◌∙◌, subst, Bool, true, false, ◌&&◌, not, List, [], ◌∷◌, ◌++◌, Option, Some, None, option_map, if◌then◌else◌}
use Rattle.std.specs.Prelude.{IsTrue, is_some}
use Rattle.ess_semantics.specs.Lists.{and_then}
use Rattle.ess_semantics.specs.Values.{Text, Value, truth, items_of}
use Rattle.ess_semantics.specs.Order.{same_text}
use Rattle.ess_semantics.specs.Names.{Names, look}
use Rattle.ess_semantics.specs.Trees.{name_pat, Ex, name_ex, comp_ex, Gens, no_gens, over, from, cond}
use Rattle.ess_semantics.specs.Operators.{as_truth, list_value}
use Rattle.ess_semantics.specs.Tables.{Table}
use Rattle.ess_semantics.specs.Meaning.{Env, TypeEntry, bind, meaning, items_under, domain_of, members_in, collect, where_true}
use Rattle.ess_semantics.specs.Contexts.{Each, EachOf, EachIn}
use Rattle.ess_semantics.specs.Meets.{Meets, MeetsGens}
use Rattle.ess_semantics.specs.Substitution.{substitute, substitute_gens, for_name, NamesAre, NamesAreGens}
use Rattle.ess_semantics.proofs.Orders.{to_list-of_list}
use Rattle.ess_semantics.proofs.Tests.{and-left, and-right, and-both}
use Rattle.ess_rules_laws.specs.SpliceRules.{append_gens, splice, SourceThere, NamesApart, SpliceKeeps}
use Rattle.ess_rules_laws.proofs.Simulation.{Vals, E, any, but, meaning-sim, items-sim}
use Rattle.ess_rules_laws.proofs.Agreement.{same_text-equal, look-itself, AgreeOn, agree-bound, agree-but, outside, agree-outside, meaning-agree}
use Rattle.ess_rules_laws.proofs.MeetsSimulation.{meets-sim, meets-sim-gens, meets-agree}
use Rattle.ess_rules_laws.proofs.RuleAnswers.{AnswerKeeps, fires}
use Rattle.ess_rules_laws.proofs.Splices.{agree-chain, bind-outside, items-append, items-through, first-there, rest-there}

-- ---- what holds of each item

-- P of each item, where the list is there.
abbrev AllOf : (Value → Type 0) → Option (List Value) → Type 0
AllOf P None = Unit {0}
AllOf P (Some xs) = Each xs P

-- What holds of each item of two lists holds of those of the first.
pub each-left : (P : Value → Type 0) (xs ys : List Value) → Each (xs ++ ys) P → Each xs P
each-left P [] ys a = tt
each-left P (x ∷ xs) ys a = (a.0, each-left P xs ys a.1)

-- And of those of the second.
pub each-right : (P : Value → Type 0) (xs ys : List Value) → Each (xs ++ ys) P → Each ys P
each-right P [] ys a = a
each-right P (x ∷ xs) ys a = each-right P xs ys a.1

first-all : (P : Value → Type 0) (o c : Option (List Value)) → is_some (and_then o (λ xs. option_map (λ ys. xs ++ ys) c)) ≡ true → AllOf P (and_then o (λ xs. option_map (λ ys. xs ++ ys) c)) → AllOf P o
first-all P None c t a = tt
first-all P (Some xs) None t a = cc
first-all P (Some xs) (Some ys) t a = each-left P xs ys a

rest-all : (P : Value → Type 0) (o c : Option (List Value)) → is_some (and_then o (λ xs. option_map (λ ys. xs ++ ys) c)) ≡ true → AllOf P (and_then o (λ xs. option_map (λ ys. xs ++ ys) c)) → AllOf P c
rest-all P None c t a = cc
rest-all P (Some xs) None t a = cc
rest-all P (Some xs) (Some ys) t a = each-right P xs ys a

-- What follows at each value from what holds of the items collected there.
each-collected : (P : Value → Type 0) (vs : List Value) (f : Value → Option (List Value)) (A B : Value → Type 0) → is_some (collect vs f) ≡ true → AllOf P (collect vs f) → Each vs A →
    ((v : Value) → is_some (f v) ≡ true → AllOf P (f v) → A v → B v) → Each vs B
each-collected P [] f A B t a m k = tt
each-collected P (v ∷ vs) f A B t a m k = (
  k v (first-there (f v) (collect vs f) t) (first-all P (f v) (collect vs f) t a) m.0,
  each-collected P vs f A B (rest-there (f v) (collect vs f) t) (rest-all P (f v) (collect vs f) t a) m.1 k,
)

module _ (pl : Bool) (ts : List TypeEntry) (cs : Names Table) where
  abbrev M : Vals → Env
  M g = E pl ts cs g

  -- ---- structures behind the inner generators

  module _ (r : Text → Bool) (h : Ex) (g0 : Vals) (hs : Gens) (e : Ex) (P : Value → Type 0)
      (each : (g : Vals) → AgreeOn (outside r) g0 g → (v : Value) → meaning h (M g) ≡ Some v → P v → Meets h (M g) → MeetsGens hs (M g) (λ here. Meets e here)) where
    abbrev k : Env → Option (List Value)
    k here = option_map (λ v. v ∷ []) (meaning h here)

    abbrev Met : Gens → Vals → Type 0
    Met ks g = is_some (items_under ks (M g) k) ≡ true → AllOf P (items_under ks (M g) k) → MeetsGens ks (M g) (λ here. Meets h here) → MeetsGens (append_gens ks hs) (M g) (λ here. Meets e here)

    -- Where P holds of each item, the structures behind the inner generators are met.
    meets-through : (ks : Gens) (g : Vals) → NamesAreGens any r ks → AgreeOn (outside r) g0 g → Met ks g
    meets-through no_gens g o s t a m = go (meaning h (M g)) refl t a
      where
        go : (z : Option Value) → meaning h (M g) ≡ z → is_some (option_map (λ v. v ∷ []) z) ≡ true → AllOf P (option_map (λ v. v ∷ []) z) → MeetsGens hs (M g) (λ here. Meets e here)
        go None q t a = cc
        go (Some v) q t a = each g s v q a.0 m
    meets-through (over p d gs) g o s t a m = (m.0, go (members_in (domain_of d (M g))) t a m.1 (λ v. meets-through gs (bind p v g) o.2 (agree-chain (outside r) g0 g (bind p v g) s (bind-outside r p v g o.0))))
      where
        go : (z : Option (List Value)) → is_some (and_then z (λ vs. collect vs (λ v. items_under gs (M (bind p v g)) k))) ≡ true → AllOf P (and_then z (λ vs. collect vs (λ v. items_under gs (M (bind p v g)) k))) →
            EachOf z (λ v. MeetsGens gs (M (bind p v g)) (λ here. Meets h here)) → ((v : Value) → Met gs (bind p v g)) → EachOf z (λ v. MeetsGens (append_gens gs hs) (M (bind p v g)) (λ here. Meets e here))
        go None t a m f = tt
        go (Some vs) t a m f = each-collected P vs (λ v. items_under gs (M (bind p v g)) k) _ _ t a m f
    meets-through (from p x gs) g o s t a m = (m.0, go (meaning x (M g)) t a m.1 (λ v. meets-through gs (bind p v g) o.2 (agree-chain (outside r) g0 g (bind p v g) s (bind-outside r p v g o.0))))
      where
        go : (z : Option Value) → is_some (and_then z (λ w. collect (items_of w) (λ v. items_under gs (M (bind p v g)) k))) ≡ true → AllOf P (and_then z (λ w. collect (items_of w) (λ v. items_under gs (M (bind p v g)) k))) →
            EachIn z (λ v. MeetsGens gs (M (bind p v g)) (λ here. Meets h here)) → ((v : Value) → Met gs (bind p v g)) → EachIn z (λ v. MeetsGens (append_gens gs hs) (M (bind p v g)) (λ here. Meets e here))
        go None t a m f = tt
        go (Some w) t a m f = each-collected P (items_of w) (λ v. items_under gs (M (bind p v g)) k) _ _ t a m f
    meets-through (cond c gs) g o s t a m = (m.0, λ q. go (meaning c (M g)) q t a (m.1 q) (meets-through gs g o.1 s))
      where
        go : (z : Option Value) → as_truth z ≡ true → is_some (where_true z (λ u. items_under gs (M g) k)) ≡ true → AllOf P (where_true z (λ u. items_under gs (M g) k)) →
            MeetsGens gs (M g) (λ here. Meets h here) → Met gs g → MeetsGens (append_gens gs hs) (M g) (λ here. Meets e here)
        go (Some (truth true)) q t a m f = f t a m
        go _ q t a m f = cc

  -- ---- the item in the place of the name

  module _ (r s : Text → Bool) (y : Text) (h : Ex) (named : IsTrue (s y)) (scoped : NamesAre s any h) where
    abbrev both : Text → Bool
    both c = outside r c && but y c

    -- Under g the name y has the value that h has under i, and the other names that r lacks have the same values.
    abbrev Put : Vals → Vals → Type 0
    Put g i = AgreeOn both g i × (meaning h (M i) ≡ look g y)

    put-named : (a : Text) (g i : Vals) → IsTrue (outside r a) → Put g i → meaning (for_name y h a) (M i) ≡ look g a
    put-named a g i o p = go (same_text y a) refl
      where
        go : (b : Bool) → same_text y a ≡ b → meaning (if b then h else name_ex a) (M i) ≡ look g a
        go true q = p.1 ∙ ap (look g) (same_text-equal y a q)
        go false q = sym (p.0 a (and-both (outside r a) (but y a) o (ap not q)))

    put-bound : (a : Text) (v : Value) (g i : Vals) → IsTrue (outside s a) → Put g i → Put ((a, v) ∷ g) ((a, v) ∷ i)
    put-bound a v g i o p = (agree-bound both a v g i p.0, meaning-agree pl ts cs s h i ((a, v) ∷ i) scoped (agree-outside s a v i o) ∙ p.1 ∙ agree-outside s a v g o y named)

    -- With the structures of h met.
    abbrev PutMet : Vals → Vals → Type 0
    PutMet g i = Put g i × Meets h (M i)

    met-bound : (a : Text) (v : Value) (g i : Vals) → IsTrue (outside s a) → PutMet g i → PutMet ((a, v) ∷ g) ((a, v) ∷ i)
    met-bound a v g i o p = (put-bound a v g i o p.0, meets-agree pl ts cs s h i ((a, v) ∷ i) scoped (agree-outside s a v i o) p.1)

    name-met : (a : Text) (g i : Vals) → IsTrue (outside r a) → PutMet g i → Meets (for_name y h a) (M i)
    name-met a g i o p = go (same_text y a)
      where
        go : (b : Bool) → Meets (if b then h else name_ex a) (M i)
        go true = p.1
        go false = tt

    -- At a binding of the inner generators.
    put-item : (v : Value) (g i : Vals) → AgreeOn (outside r) g i → meaning h (M i) ≡ Some v → Put ((y, v) ∷ g) i
    put-item v g i a q = ((λ c t. sym (agree-but y v g c (and-right (outside r c) (but y c) t)) ∙ a c (and-left (outside r c) (but y c) t)), q ∙ sym (look-itself y v g))

    module _ (ks hs : Gens) (e : Ex) (g : Vals) (inner : NamesAreGens any r ks) (gens : NamesAreGens (outside r) (outside s) hs) (body : NamesAre (outside r) (outside s) e)
        (there : is_some (meaning (comp_ex h ks) (M g)) ≡ true) where
      abbrev new_hs : Gens
      new_hs = substitute_gens (for_name y h) hs

      abbrev new_e : Ex
      new_e = substitute (for_name y h) e

      abbrev old : Env → Option (List Value)
      old here = option_map (λ v. v ∷ []) (meaning e here)

      abbrev new : Env → Option (List Value)
      new here = option_map (λ v. v ∷ []) (meaning new_e here)

      abbrev F : Value → Option (List Value)
      F v = items_under hs (M ((y, v) ∷ g)) old

      abbrev inner_items : Option (List Value)
      inner_items = items_under ks (M g) (λ here. option_map (λ v. v ∷ []) (meaning h here))

      have : (o : Option (List Value)) → is_some (option_map list_value o) ≡ true → is_some o ≡ true
      have None t = cc
      have (Some xs) t = refl

      at-item : (i : Vals) → AgreeOn (outside r) g i → (v : Value) → meaning h (M i) ≡ Some v → items_under new_hs (M i) new ≡ F v
      at-item i a v q = items-sim pl ts cs (for_name y h) (outside r) (outside s) Put put-named put-bound hs ((y, v) ∷ g) i old new gens (put-item v g i a q)
          (λ g' i' p. ap (option_map (λ v. v ∷ [])) (meaning-sim pl ts cs (for_name y h) (outside r) (outside s) Put put-named put-bound e g' i' body p))

      -- Both give the same items in the same order.
      pub spliced-items : items_under (from (name_pat y) (comp_ex h ks) hs) (M g) old ≡ items_under (append_gens ks new_hs) (M g) new
      spliced-items =
          read inner_items
          ∙ sym (items-through pl ts cs r h g (λ here. items_under new_hs here new) F at-item ks g inner (λ a t. refl) (have inner_items there))
          ∙ sym (items-append pl ts cs ks new_hs g new)
        where
          read : (o : Option (List Value)) → and_then (option_map list_value o) (λ w. collect (items_of w) F) ≡ and_then o (λ us. collect us F)
          read None = refl
          read (Some xs) = ap (λ l. collect l F) (to_list-of_list xs)

      abbrev Behind : Value → Type 0
      Behind v = MeetsGens hs (M ((y, v) ∷ g)) (λ here. Meets e here)

      -- And structures stay met.
      pub spliced-met : Meets (comp_ex e (from (name_pat y) (comp_ex h ks) hs)) (M g) → Meets (comp_ex new_e (append_gens ks new_hs)) (M g)
      spliced-met m = meets-through r h g new_hs new_e Behind
          (λ i a v q b w. meets-sim-gens pl ts cs (for_name y h) (outside r) (outside s) PutMet (λ a g i o p. put-named a g i o p.0) met-bound name-met hs e ((y, v) ∷ g) i gens (put-item v g i a q, w)
          (λ g' i' p x. meets-sim pl ts cs (for_name y h) (outside r) (outside s) PutMet (λ a g i o p. put-named a g i o p.0) met-bound name-met e g' i' body p x) b)
          ks g inner (λ a t. refl) (have inner_items there) (all inner_items m.1) m.0
        where
          all : (o : Option (List Value)) → EachIn (option_map list_value o) Behind → AllOf Behind o
          all None a = tt
          all (Some xs) a = subst (λ l. Each l Behind) (to_list-of_list xs) a

splice-answer : (r s : Text → Bool) (e : Ex) → NamesApart r s e → (env : Env) → SourceThere e env → AnswerKeeps (splice e) e env
splice-answer r s (comp_ex e (from (name_pat y) (comp_ex h ks) hs)) n env t = λ m. (
  ap (option_map list_value) (spliced-items env.positions env.types env.cells r s y h n.0 n.1 ks hs e env.vals n.2 n.3 n.4 t),
  spliced-met env.positions env.types env.cells r s y h n.0 n.1 ks hs e env.vals n.2 n.3 n.4 t m,
)
splice-answer r s _ n env t = tt

-- Splicing a comprehension into the generators over it.
pub splice-keeps : SpliceKeeps
splice-keeps r s e f q n env t = fires (splice e) e f env (splice-answer r s e n env t) q
