-- What is picked out of any term is looked up.
use Rattle.std.proofs.Common.{◌≡◌, refl, sym, subst, Bool, true, false, not, List, [], ◌∷◌, Option, Some, None, option_map, if◌then◌else◌}
use Rattle.std.specs.Prelude.{IsTrue}
use Rattle.ess_semantics.specs.Lists.{and_then, or_else}
use Rattle.ess_semantics.specs.Values.{Text}
use Rattle.ess_semantics.specs.Names.{Names}
use Rattle.ess_semantics.specs.Trees.{index, Ex, node_ex, more_exs}
use Rattle.ess_semantics.specs.Types.{Ty}
use Rattle.ess_semantics.specs.Typed.{Typed}
use Rattle.ess_semantics.specs.Meaning.{Env}
use Rattle.ess_semantics.specs.Meets.{Meets}
use Rattle.ess_rules_laws.specs.Rules.{Unused, SoundOperands, OperandsThere}
use Rattle.ess_rules_laws.specs.Listings.{Alternative}
use Rattle.ess_rules_laws.specs.Function1DViews.{function_1d_lookup}
use Rattle.ess_rules_laws.specs.Function1DPartialViews.{function_1d_partial_lookup}
use Rattle.ess_rules_laws.specs.FunctionNDViews.{function_nd_lookup}
use Rattle.ess_rules_laws.specs.FunctionNDPartialViews.{function_nd_partial_lookup}
use Rattle.ess_rules_laws.specs.FunctionViews.{AppliedThere, NamesUnused}
use Rattle.ess_rules_laws.specs.FunctionLookups.{function_lookup, unmarked}
use Rattle.ess_rules_laws.specs.Lookups.{Looked}
use Rattle.ess_rules_laws.specs.AlternativeLookups.{LookedBy, list_lookup, function_literal_lookup, as_alternative, lookup_through_each}
use Rattle.ess_rules_laws.proofs.FunctionLookups.{looks, function-looked}
use Rattle.ess_rules_laws.proofs.Function1DViews.{function_1d-looked}
use Rattle.ess_rules_laws.proofs.Function1DPartialViews.{function_1d_partial-looked}
use Rattle.ess_rules_laws.proofs.FunctionNDViews.{function_nd-looked}
use Rattle.ess_rules_laws.proofs.FunctionNDPartialViews.{function_nd_partial-looked}
use Rattle.ess_rules_laws.proofs.LiteralLookups.{list-answer, looks-by}
use Rattle.ess_rules_laws.proofs.FunctionLiteralLookups.{function_literal-answer}
use Rattle.ess_rules_laws.proofs.LookedContainers.{looked-alternative, through_each-answer}
use Rattle.ess_kind_rules_laws.specs.TermLookups.{picks, picked_within, view_item_lookup, domain_list_lookup, party_lookup, names_of_argument, function_view_lookup, one_lookup, looked_up_alone, looked_up}
use Rattle.ess_kind_rules_laws.specs.KindRules.{asks_truth}
use Rattle.ess_kinds_kept_laws.proofs.MatrixItems.{view_item-looked}
use Rattle.ess_kinds_kept_laws.proofs.DomainItems.{domain_list-looked}
use Rattle.ess_kinds_kept_laws.proofs.PartyLookup.{party-looked}
use Rattle.ess_kinds_kept_laws.specs.LookupAsks.{OrAsks, FunctionAsks, OneAsks, AloneAsks, FitsWithin, LookupAsks, TermsAreLookedUp}

no : {A : Type 0} → false ≡ true → A
no h = cc

-- The first of two that is there.
pub or-asked : {A : Type 0} (o p : Option A) (P : A → Type 0) (Q : Type 0) (R : A → Type 0) (l : A) → or_else o p ≡ Some l → OrAsks o P Q →
    ((a : A) → o ≡ Some a → P a → R a) → (p ≡ Some l → Q → R l) → R l
or-asked None p P Q R l q c f h = h q c
or-asked (Some a) p P Q R l q c f h = subst R (let e : a ≡ l = cc in e) (f a refl c)

-- The last one.
last-asked : {A : Type 0} (o : Option A) (P : A → Type 0) (Q : Type 0) (a : A) → o ≡ Some a → OrAsks o P Q → P a
last-asked o P Q a q c = subst (λ z. OrAsks z P Q) q c

-- What isn't read as Boolean is unmarked.
pub unmarked-itself : (e : Ex) → not (asks_truth e) ≡ true → unmarked e ≡ e
unmarked-itself (node_ex true op es) h = no h
unmarked-itself (node_ex false op es) h = refl
unmarked-itself _ h = refl

module _ (x : Text) (zs : List Text) (e : Ex) (env : Env) (m : Meets e env) where
  -- Views of functions.
  function-view-looked : (l : Ex) → function_view_lookup x zs e ≡ Some l → FunctionAsks x zs e env → Looked (unmarked e) l env
  function-view-looked l q c = or-asked (function_1d_lookup x e) _ _ _ R l q c
      (λ a p k. looks (function_1d_lookup x e) (unmarked e) a env (function_1d-looked x e env k.0 m k.1) p)
      (λ q c. or-asked (function_1d_partial_lookup x e) _ _ _ R l q c
      (λ a p k. looks (function_1d_partial_lookup x e) (unmarked e) a env (function_1d_partial-looked x e env k.0 m k.1) p)
      (λ q c. or-asked (function_nd_lookup zs e) _ _ _ R l q c
      (λ a p k. looks (function_nd_lookup zs e) (unmarked e) a env (function_nd-looked zs e env k.0 m k.1) p)
      (λ q c. let k = last-asked (function_nd_partial_lookup zs e) (λ l. NamesUnused zs e × AppliedThere e env) (Unit {0}) l q c in
      looks (function_nd_partial_lookup zs e) (unmarked e) l env (function_nd_partial-looked zs e env k.0 m k.1) q)))
    where
      R : Ex → Type 0
      R l = Looked (unmarked e) l env

module _ (g : Names Ty) (x : Text) (zs : List Text) (e : Ex) (env : Env) (t : Typed g env) (m : Meets e env) where
  abbrev R : Ex → Type 0
  R l = Looked (unmarked e) l env

  one-looked : (l : Ex) → one_lookup g x zs e ≡ Some l → OneAsks g x zs e env → R l
  one-looked l q c = or-asked (function_view_lookup x (names_of_argument zs e) e) _ _ _ R l q c
      (λ a p k. function-view-looked x (names_of_argument zs e) e env m a p k)
      (λ q c. or-asked (view_item_lookup x e) _ _ _ R l q c (λ a p k. view_item-looked x e a p env k m)
      (λ q c. or-asked (party_lookup x e) _ _ _ R l q c (λ a p k. party-looked x e a p env k.0 k.1 m)
      (λ q c. let k = last-asked (function_lookup g x e) (λ l. Unused x e × SoundOperands g e × OperandsThere e env) (Unit {0}) l q c in
      function-looked g x e l q k.0 k.1 env t k.2 m)))

  one-by : (y : Text) (l : List Alternative) → option_map (as_alternative y) (one_lookup g x zs e) ≡ Some l → OneAsks g x zs e env →
      LookedBy (unmarked e) l env
  one-by y l q c = go (one_lookup g x zs e) refl q
    where
      go : (o : Option Ex) → one_lookup g x zs e ≡ o → option_map (as_alternative y) o ≡ Some l → LookedBy (unmarked e) l env
      go None p q = cc
      go (Some a) p q = subst (λ l. LookedBy (unmarked e) l env) (let z : as_alternative y a ≡ l = cc in z)
          (looked-alternative y (unmarked e) a env (one-looked a p c))

  alone-looked : (y : Text) (l : List Alternative) → looked_up_alone g x y zs e ≡ Some l → AloneAsks g x zs e env →
      LookedBy (unmarked e) l env
  alone-looked y l q c = or-asked (list_lookup e) _ _ _ (λ l. LookedBy (unmarked e) l env) l q c
      (λ a p k. looks-by (list_lookup e) (unmarked e) a env (list-answer e env k m) p)
      (λ q c. or-asked (domain_list_lookup x e) _ _ _ (λ l. LookedBy (unmarked e) l env) l q c (λ a p k. domain_list-looked x e a p env k.0 k.1 m)
      (λ q c. or-asked (function_literal_lookup e) _ _ _ (λ l. LookedBy (unmarked e) l env) l q c
      (λ a p k. looks-by (function_literal_lookup e) (unmarked e) a env (function_literal-answer e env k m) p)
      (λ q c. one-by y l q c)))

-- ---- through what is picked within

-- The term within, and that structures are met.
within-met : (e t : Ex) (env : Env) → picked_within e ≡ Some t → Meets e env → Meets t env
within-met (node_ex b (index (s ∷ [])) (more_exs u es)) t env q m = go (picks u) q
  where
    go : (c : Bool) → (if c then Some u else None) ≡ Some t → Meets t env
    go true q = subst (λ z. Meets z env) (let e : u ≡ t = cc in e) m.0
    go false q = cc
within-met _ t env q m = cc

through-within : (y : Text) (e t : Ex) (l k : List Alternative) (env : Env) → picked_within e ≡ Some t → lookup_through_each y 1 l e ≡ Some k →
    Unused y e → FitsWithin t e env → LookedBy t l env → Meets e env → LookedBy (unmarked e) k env
through-within y (node_ex b (index (s ∷ [])) (more_exs u es)) t l k env p q new f h m = go (picks u) p
  where
    go : (c : Bool) → (if c then Some u else None) ≡ Some t →
        LookedBy (node_ex false (index (s ∷ [])) (more_exs u es)) k env
    go true p = let e : u ≡ t = cc in
        looks-by (lookup_through_each y 1 l (node_ex b (index (s ∷ [])) (more_exs u es))) (node_ex false (index (s ∷ [])) (more_exs u es)) k
        env (through_each-answer y 1 l (node_ex b (index (s ∷ [])) (more_exs u es)) new env (
          subst (λ z. LookedBy z l env) (sym e) h,
          subst (λ z. FitsWithin z (node_ex b (index (s ∷ [])) (more_exs u es)) env) (sym e) f,
        ) m) q
    go false p = cc
through-within y _ t l k env p q new f h m = cc

looked-by : (g : Names Ty) (x : Text) (ys : List Text) (e : Ex) (l : List Alternative) → looked_up g x ys e ≡ Some l →
    (env : Env) → Typed g env → LookupAsks g x ys e env → Meets e env → LookedBy (unmarked e) l env
looked-by g x [] e l q env t c m = cc
looked-by g x (y ∷ zs) e l q env t c m = go (picked_within e) refl q c (λ u k p c m. looked-by g x zs u k p env t c m)
  where
    go : (o : Option Ex) → picked_within e ≡ o → elim o as (λ z. Option (List Alternative)) [
      | None ↦ looked_up_alone g x y zs e
      | Some u ↦ and_then (looked_up g x zs u) (λ l. lookup_through_each y 1 l e)
    ] ≡ Some l → elim o as (λ z. Type 0) [
      | None ↦ AloneAsks g x zs e env
      | Some u ↦ Unused y e × IsTrue (not (asks_truth u)) × FitsWithin u e env × LookupAsks g x zs u env
    ] → ((u : Ex) (k : List Alternative) → looked_up g x zs u ≡ Some k → LookupAsks g x zs u env → Meets u env → LookedBy (unmarked u) k env) →
        LookedBy (unmarked e) l env
    go None p q c h = alone-looked g x zs e env t m y l q c
    go (Some u) p q c h = inner (looked_up g x zs u) refl q
      where
        inner : (o : Option (List Alternative)) → looked_up g x zs u ≡ o → and_then o (λ l. lookup_through_each y 1 l e) ≡ Some l →
            LookedBy (unmarked e) l env
        inner None r q = cc
        inner (Some k) r q = through-within y e u k l env p q c.0 c.2
            (subst (λ z. LookedBy z k env) (unmarked-itself u c.1) (h u k r c.3 (within-met e u env p m))) m

pub terms-looked-up : TermsAreLookedUp
terms-looked-up = record {
  by_one = λ g x zs e l q env t c m. one-looked g x zs e env t m l q c;
  alone = λ g x y zs e l q env t c m. alone-looked g x zs e env t m y l q c;
  at_any_depth = looked-by;
}
