-- Components and fields are looked up through the lookup of a term, and items of matrices over the index domain.
use Rattle.std.proofs.Common.{◌≡◌, refl, sym, ap, ◌∙◌, subst, ℕ, zero, suc, Bool, true, false, ◌&&◌, if◌then◌else◌, List, [], ◌∷◌, Option, Some, None, option_map}
use Rattle.std.specs.Prelude.{IsTrue, is_some}
use Rattle.ess_semantics.specs.Lists.{or_default}
use Rattle.ess_semantics.specs.Values.{Text, a_tuple, a_record, a_matrix, Value, truth, Values, nil, cons, to_list, items_of}
use Rattle.ess_semantics.specs.Order.{same_text}
use Rattle.ess_semantics.specs.Names.{Names}
use Rattle.ess_semantics.specs.Trees.{Op, to_component, to_field, index, name_pat, Ex, Exs, name_ex, node_ex, comp_ex, no_exs, more_exs, no_gens, from}
use Rattle.ess_semantics.specs.Types.{Ty, Tys, any_ty, bool_ty, no_tys, more_tys, compound}
use Rattle.ess_semantics.specs.Typing.{type_of, component_ty, field_ty}
use Rattle.ess_semantics.specs.Typed.{Typed}
use Rattle.ess_semantics.specs.TypeMembers.{is_of, are_of}
use Rattle.ess_semantics.specs.Operators.{component, field_at, misfit, list_value, value_of_node, false_where_undefined}
use Rattle.ess_semantics.specs.Meaning.{Env, TypeEntry, meaning}
use Rattle.ess_semantics.specs.Meets.{Meets, MeetsAll}
use Rattle.ess_semantics.specs.Contexts.{guards}
use Rattle.ess_semantics.proofs.Tests.{and-left, and-right}
use Rattle.ess_rules_laws.specs.Rules.{Unused, SoundOperands}
use Rattle.ess_rules_laws.specs.LiteralRules.{nth}
use Rattle.ess_rules_laws.specs.Lookups.{found, Looked, LooksUp, is_plain, put_nth}
use Rattle.ess_rules_laws.specs.FunctionLookups.{unmarked}
use Rattle.ess_rules_laws.specs.PartLookups.{lookup_through, FitsPlace, FitsWhereThere, LooksThrough, component_type_of, field_type_of, fits_place, part_lookup, LooksUpFirst}
use Rattle.ess_rules_laws.proofs.RuleAnswers.{behind, each-in-any}
use Rattle.ess_rules_laws.proofs.ComponentRules.{tuple-value}
use Rattle.ess_rules_laws.proofs.FieldRules.{record-value}
use Rattle.ess_rules_laws.proofs.Lookups.{UnusedAll, single, collected, at-one, at-nothing, put-met, unguarded}
use Rattle.ess_rules_laws.proofs.FunctionLookups.{AnswerLooks}

-- A lookup that stands under a test.
pub looks-so : (c : Bool) (f t : Ex) (env : Env) → (c ≡ true → Looked t f env) → AnswerLooks (if c then Some f else None) t env
looks-so true f t env h = h refl
looks-so false f t env h = tt

-- ---- through a lookup

-- A value that fits its place is the item there.
pub fits-found : (b : Bool) (o : Option Value) → FitsPlace b o →
    option_map items_of (option_map list_value (single (false_where_undefined b o))) ≡ Some (found o)
fits-found true (Some (truth c)) h = refl
fits-found true _ h = absurd h
fits-found false (Some v) h = refl
fits-found false None h = cc

module _ (x : Text) (k : ℕ) (l : Ex) (b : Bool) (op : Op) (es : Exs) (env : Env) (t : Ex) (q : nth es k ≡ Some t) (new : UnusedAll x es)
    (plain : is_plain op ≡ true) (looked : Looked t l env) (fits : IsTrue (is_some (meaning t env)) →
    FitsPlace b (meaning (node_ex false op es) env)) where
  abbrev Body : Ex
  Body = node_ex b op (put_nth es k (name_ex x))

  through-looks : MeetsAll (guards op) es env → Looked (node_ex false op es) (comp_ex Body (from (name_pat x) l no_gens)) env
  through-looks m = record {
    items = go (meaning t env) refl;
    met = (
      looked.met,
      each-in-any (meaning l env) _ (λ v.
          let g = unguarded (guards op) (and-left _ _ plain) in
          subst (λ z. MeetsAll z (put_nth es k (name_ex x)) (behind x v env)) (sym g)
          (put-met x v es k env new (subst (λ z. MeetsAll z es env) g m))),
    );
  }
    where
      go : (o : Option Value) → meaning t env ≡ o →
          option_map items_of (meaning (comp_ex Body (from (name_pat x) l no_gens)) env) ≡ Some (found (meaning (node_ex false op es) env))
      go None j = ap (λ o. option_map items_of (option_map list_value o)) (collected x k l b op es env t q new plain looked b None j)
          ∙ ap (λ o. Some (found o)) (sym (at-nothing x k l b op es env t q new plain looked j))
      go (Some v) j = ap (λ o. option_map items_of (option_map list_value o)) (at-one x k l b op es env t q new plain looked b v j)
          ∙ fits-found b (meaning (node_ex false op es) env) (fits (ap is_some j))

-- What is made of a looked up operand is looked up.
pub through-answer : (x : Text) (k : ℕ) (l e : Ex) → Unused x e → (env : Env) → LooksThrough k l e env → Meets e env →
    AnswerLooks (lookup_through x k l e) (unmarked e) env
through-answer x k l (node_ex b op es) new env s m =
    looks-so (is_plain op && is_some (nth es k)) _ (node_ex false op es) env (λ c. go (nth es k) refl s.0 s.1 (and-left _ _ c))
  where
    go : (o : Option Ex) → nth es k ≡ o → LooksUp o l env → FitsWhereThere o b (node_ex false op es) env → is_plain op ≡ true →
        Looked (node_ex false op es) (comp_ex (node_ex b op (put_nth es k (name_ex x))) (from (name_pat x) l no_gens)) env
    go (Some t) q h f p = through-looks x k l b op es env t q new p h f m
    go None q h f p = absurd h
through-answer x k l _ new env s m = tt

-- ---- components and fields

-- A value of a type that fits a place fits it.
pub typed-fits : (b : Bool) (p : Bool) (es : List TypeEntry) (t : Ty) (v : Value) → fits_place b (Some t) ≡ true → is_of p es t v ≡ true →
    FitsPlace b (Some v)
typed-fits true p es bool_ty (truth c) h i = tt
typed-fits true p es _ v h i = cc
typed-fits false p es t v h i = refl

-- What false is true of.
pub no : {A : Type 0} → false ≡ true → A
no h = cc

-- Without a type nothing fits.
pub no-place : {A : Type 0} (b : Bool) → fits_place b None ≡ true → A
no-place true h = no h
no-place false h = no h

module _ (b : Bool) (p : Bool) (es : List TypeEntry) where
  component-fits : (ts : Tys) (k : ℕ) (vs : Values) → fits_place b (component_ty ts k) ≡ true → are_of p es ts (to_list vs) ≡ true →
      FitsPlace b (Some (or_default (component vs k) misfit))
  component-fits (more_tys t ts) (suc zero) (cons v vs) h i = typed-fits b p es t v h (and-left _ _ i)
  component-fits (more_tys t ts) (suc (suc k)) (cons v vs) h i = component-fits ts (suc k) vs h (and-right _ _ i)
  component-fits (more_tys t ts) (suc k) nil h i = no i
  component-fits (more_tys t ts) zero vs h i = no-place b h
  component-fits no_tys k vs h i = no-place b h

  field-fits : (fs : List Text) (ts : Tys) (a : Text) (vs : Values) → fits_place b (field_ty fs ts a) ≡ true → are_of p es ts (to_list vs)
      ≡ true →
      FitsPlace b (Some (or_default (field_at fs vs a) misfit))
  field-fits (f ∷ fs) (more_tys t ts) a (cons v vs) h i = go (same_text f a) h (λ z. field-fits fs ts a vs z (and-right _ _ i))
    where
      go : (c : Bool) → fits_place b (if c then Some t else field_ty fs ts a) ≡ true →
          (fits_place b (field_ty fs ts a) ≡ true → FitsPlace b (Some (or_default (field_at fs vs a) misfit))) →
          FitsPlace b (Some (or_default (if c then Some v else field_at fs vs a) misfit))
      go true h r = typed-fits b p es t v h (and-left _ _ i)
      go false h r = r h
  field-fits (f ∷ fs) (more_tys t ts) a nil h i = no i
  field-fits (f ∷ fs) no_tys a vs h i = no-place b h
  field-fits [] ts a vs h i = no-place b h

  component-there : (o : Option Ty) (k : ℕ) (w : Option Value) (v : Value) → w ≡ Some v → fits_place b (component_type_of o k) ≡ true →
      ((t : Ty) → o ≡ Some t → is_of p es t v ≡ true) → FitsPlace b (value_of_node (index (to_component k ∷ [])) (w ∷ []))
  component-there (Some (compound a_tuple ts)) k w v q h f = let r = tuple-value p es ts v (f (compound a_tuple ts) refl) in
      subst (λ z. FitsPlace b (value_of_node (index (to_component k ∷ [])) (z ∷ []))) (sym (q ∙ ap Some r.1))
      (component-fits ts k r.0 h r.2)
  component-there (Some any_ty) k w v q h f = no (f any_ty refl)
  component-there (Some (compound a_matrix no_tys)) k w v q h f = no-place b h
  component-there (Some (compound a_matrix (more_tys t no_tys))) k w v q h f = no-place b h
  component-there (Some (compound a_matrix (more_tys t (more_tys u no_tys)))) k w v q h f = no-place b h
  component-there (Some (compound a_matrix (more_tys t (more_tys u (more_tys x ts))))) k w v q h f = no-place b h
  component-there _ k w v q h f = no-place b h

  field-there : (o : Option Ty) (a : Text) (w : Option Value) (v : Value) → w ≡ Some v → fits_place b (field_type_of o a) ≡ true →
      ((t : Ty) → o ≡ Some t → is_of p es t v ≡ true) → FitsPlace b (value_of_node (index (to_field a ∷ [])) (w ∷ []))
  field-there (Some (compound (a_record fs) ts)) a w v q h f = let r = record-value p es fs ts v (f (compound (a_record fs) ts) refl) in
      subst (λ z. FitsPlace b (value_of_node (index (to_field a ∷ [])) (z ∷ []))) (sym (q ∙ ap Some r.1)) (field-fits fs ts a r.0 h r.2)
  field-there (Some any_ty) a w v q h f = no (f any_ty refl)
  field-there (Some (compound a_matrix no_tys)) a w v q h f = no-place b h
  field-there (Some (compound a_matrix (more_tys t no_tys))) a w v q h f = no-place b h
  field-there (Some (compound a_matrix (more_tys t (more_tys u no_tys)))) a w v q h f = no-place b h
  field-there (Some (compound a_matrix (more_tys t (more_tys u (more_tys x ts))))) a w v q h f = no-place b h
  field-there _ a w v q h f = no-place b h

-- A value that is there.
there-is : (o : Option Value) → IsTrue (is_some o) → (w : Value) × (o ≡ Some w)
there-is None t = no t
there-is (Some w) t = (w, refl)

-- So are components and fields.
pub part-answer : (g : Names Ty) (x : Text) (l e : Ex) → Unused x e → SoundOperands g e → (env : Env) → Typed g env →
    LooksUpFirst l e env → Meets e env →
    AnswerLooks (part_lookup g x l e) (unmarked e) env
part-answer g x l (node_ex b (index (to_component k ∷ [])) (more_exs t no_exs)) new s env y h m =
    looks-so (fits_place b (component_type_of (type_of t g) k)) _ (node_ex false (index (to_component k ∷ [])) (more_exs t no_exs)) env
    (λ c. through-looks x 1 l b (index (to_component k ∷ [])) (more_exs t no_exs) env t refl new refl h
    (λ i. let w = there-is (meaning t env) i in
    component-there b env.positions env.types (type_of t g) k (meaning t env) w.0 w.1 c (λ u q. s.0 u q env y w.0 w.1)) m)
part-answer g x l (node_ex b (index (to_field a ∷ [])) (more_exs t no_exs)) new s env y h m =
    looks-so (fits_place b (field_type_of (type_of t g) a)) _ (node_ex false (index (to_field a ∷ [])) (more_exs t no_exs)) env
    (λ c. through-looks x 1 l b (index (to_field a ∷ [])) (more_exs t no_exs) env t refl new refl h
    (λ i. let w = there-is (meaning t env) i in
    field-there b env.positions env.types (type_of t g) a (meaning t env) w.0 w.1 c (λ u q. s.0 u q env y w.0 w.1)) m)
part-answer g x l _ new s env y h m = tt
