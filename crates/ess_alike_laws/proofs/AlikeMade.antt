-- Listings of what is made of functions and partitions have items of the type of the members.
use Rattle.std.proofs.Common.{◌≡◌, refl, sym, ap, ◌∙◌, subst, true, false, [], ◌∷◌, Option, Some, None, option_map}
use Rattle.std.specs.Prelude.{is_some}
use Rattle.ess_semantics.specs.declared.words.Op2.{Op2}
use Rattle.ess_semantics.specs.declared.words.Fun.{Fun}
use Rattle.ess_semantics.specs.Lists.{and_then, all_some}
use Rattle.ess_semantics.specs.Values.{Text, a_set, a_function, a_partition, a_matrix, a_tuple}
use Rattle.ess_semantics.specs.Names.{Names, look}
use Rattle.ess_semantics.specs.Trees.{word, function_literal, partition_literal, matrix_literal, mset_literal, Ex, name_ex, node_ex, matrix_ex, ex2, fun1, no_exs, more_exs, Gens, no_gens, cond}
use Rattle.ess_semantics.specs.Types.{Ty, any_ty, int_ty, no_tys, more_tys, compound, compound1, compound2, join}
use Rattle.ess_semantics.specs.OperatorTypes.{type_of_op, member_ty, arguments_ty}
use Rattle.ess_semantics.specs.Typing.{type_of, types_under}
use Rattle.ess_rules_laws.specs.ComponentRules.{component_of}
use Rattle.ess_rules_laws.specs.ShortSizeRules.{is_partition}
use Rattle.ess_rules_laws.specs.Listings.{those}
use Rattle.ess_rules_laws.specs.ContainerListings.{of_function, arguments_listed, members_of_parts, made_listing}
use Rattle.ess_rules_laws.specs.ListedSources.{laid_out}
use Rattle.ess_rules_laws.proofs.Agreement.{look-itself}
use Rattle.ess_guard_types_laws.proofs.JoinedTypes.{join-any}
use Rattle.ess_refine_laws.specs.AllRules.{OfSome}
use Rattle.ess_refine_types_laws.specs.TypeNames.{IsUntyped}
use Rattle.ess_refine_types_laws.proofs.TypeParts.{two-is, term-behind, equation-type}
use Rattle.ess_rules_types_laws.proofs.TypesOfComponents.{component-type, some-same}
use Rattle.ess_alike_laws.specs.AlikeMade.{ItemsAlike, MadeListingsAreAlike}
use Rattle.ess_alike_laws.proofs.AlikeListings.{member-is, AllHave, alike, each-item, each-first, truth-under, those-have, when-have, of-answer}

-- ---- types

preimage-is : (s : Ty) (o p : Option Ty) → and_then (option_map (compound a_function) (and_then o (λ v. option_map (more_tys v)
    (and_then p (λ w. option_map (more_tys w) (Some no_tys)))))) arguments_ty ≡ Some s →
    (v : Ty) × (o ≡ Some v) × (is_some p ≡ true) × (s ≡ compound1 a_set v)
preimage-is s None p q = (any_ty, cc, cc, cc)
preimage-is s (Some v) None q = (any_ty, cc, cc, cc)
preimage-is s (Some v) (Some w) q = (v, refl, refl, cc)

partition-is : (o : Option Ty) (m : Ty) → is_partition o ≡ true →
    and_then (and_then (all_some (o ∷ [])) (type_of_op (word Fun.Participants))) member_ty ≡ Some m → o ≡ Some (compound1 a_partition m)
partition-is (Some (compound1 a_partition a)) m k q = ap (λ z. Some (compound1 a_partition z)) (some-same a m q)
partition-is _ m k q = cc

module _ (g : Names Ty) (x : Text) where
  -- The pair of a function under its name.
  pair-type : (t u : Ty) → type_of (name_ex x) ((x, compound2 a_tuple t u) ∷ g) ≡ Some (compound2 a_tuple t u)
  pair-type t u = look-itself x (compound2 a_tuple t u) g

  arguments-have : (f : Ex) (gs : Gens) (t u : Ty) → type_of f g ≡ Some (compound2 a_function t u) →
      types_under gs ((x, compound2 a_tuple t u) ∷ g) ≡ Some ((x, compound2 a_tuple t u) ∷ g) →
      and_then (type_of (laid_out (arguments_listed x t f gs)) g) member_ty ≡ Some t
  arguments-have f gs t u p w =
      ap (λ o. and_then (and_then (and_then (and_then o member_ty) (λ v. types_under gs ((x, v) ∷ g))) (λ h. option_map
      (compound2 a_matrix int_ty)
      (type_of (component_of t 1 (name_ex x)) h))) member_ty) p
      ∙ ap (λ o. and_then (and_then o (λ h. option_map (compound2 a_matrix int_ty) (type_of (component_of t 1 (name_ex x)) h))) member_ty) w
      ∙ ap (λ o. and_then (option_map (compound2 a_matrix int_ty) o) member_ty)
      (component-type ((x, compound2 a_tuple t u) ∷ g) t 1 (name_ex x) (more_tys t (more_tys u no_tys)) (pair-type t u) refl)

  module _ (m : Ty) where
    related : (f : Ex) (o : Option Ty) → type_of f g ≡ o →
        and_then (and_then (all_some (o ∷ [])) (type_of_op (word Fun.ToRelation))) member_ty ≡ Some m →
        OfSome (of_function o (λ t u. those x f no_gens ∷ [])) (AllHave g m)
    related f (Some (compound2 a_function t u)) p q = (those-have g m x f no_gens (ap (λ o. and_then o member_ty) p ∙ q) refl, tt)
    related f _ p q = tt

    defined : (f : Ex) (o : Option Ty) → type_of f g ≡ o →
        and_then (and_then (all_some (o ∷ [])) (type_of_op (word Fun.Defined))) member_ty ≡ Some m →
        OfSome (of_function o (λ t u. arguments_listed x t f no_gens ∷ [])) (AllHave g m)
    defined f (Some (compound2 a_function t u)) p q = (arguments-have f no_gens t u p refl ∙ q, tt)
    defined f _ p q = tt

    sources : (f b : Ex) (o : Option Ty) → type_of f g ≡ o → IsUntyped x b →
        and_then (type_of (node_ex false (word Fun.PreImage) (more_exs f (more_exs b no_exs))) g) member_ty ≡ Some m →
        OfSome (of_function o (λ t u. arguments_listed x t f (cond (ex2 true Op2.Eq (component_of u 2 (name_ex x)) b) no_gens) ∷ []))
        (AllHave g m)
    sources f b (Some (compound2 a_function t u)) p n q =
        let r = member-is (type_of (node_ex false (word Fun.PreImage) (more_exs f (more_exs b no_exs))) g) m q in
        let l = two-is (type_of f g) (type_of b g) (type_of_op (word Fun.PreImage)) r.0 r.1 in
        let i : l.0 ≡ compound2 a_function t u = some-same l.0 (compound2 a_function t u) (sym l.2 ∙ p) in
        let d = preimage-is r.0 (join t any_ty) (join u l.1)
        (subst (λ z. and_then (join z (compound2 a_function any_ty l.1)) arguments_ty ≡ Some r.0) i l.4) in
        let j : d.0 ≡ t = some-same d.0 t (sym d.1 ∙ join-any t) in
        let k : Names Ty = (x, compound2 a_tuple t u) ∷ g in
        let e : Some t ≡ Some m = ap Some (sym j) ∙ ap member_ty (sym d.3) ∙ r.2 in (
          arguments-have f (cond (ex2 true Op2.Eq (component_of u 2 (name_ex x)) b) no_gens) t u p
              (truth-under g m k (ex2 true Op2.Eq (component_of u 2 (name_ex x)) b) no_gens
              (equation-type k (component_of u 2 (name_ex x)) b u l.1
              (component-type k u 2 (name_ex x) (more_tys t (more_tys u no_tys)) (pair-type t u) refl)
              (term-behind g x (compound2 a_tuple t u) b l.1 n l.3) d.2) refl) ∙ e,
          tt,
        )
    sources f b _ p n q = tt

    parts-have : (y : Text) (p : Ex) → type_of p g ≡ Some (compound1 a_partition m) →
        and_then (type_of (laid_out (members_of_parts x y p)) g) member_ty ≡ Some m
    parts-have y p q =
        let k : Names Ty = (y, compound1 a_set m) ∷ g in
        ap (λ o. and_then (and_then (and_then (and_then o member_ty) (λ v. and_then (and_then (look ((y, v) ∷ g) y) member_ty)
        (λ w. Some ((x, w) ∷ (y, v) ∷ g)))) (λ h. option_map (compound2 a_matrix int_ty) (look h x))) member_ty) q
        ∙ ap (λ o. and_then (and_then (and_then (and_then o member_ty) (λ w. Some ((x, w) ∷ k))) (λ h. option_map
        (compound2 a_matrix int_ty)
        (look h x))) member_ty) (look-itself y (compound1 a_set m) g)
        ∙ ap (λ o. and_then (option_map (compound2 a_matrix int_ty) o) member_ty) (look-itself x m k)

    made-has : (y : Text) (e : Ex) → IsUntyped x e → and_then (type_of e g) member_ty ≡ Some m → ItemsAlike g m e →
        OfSome (made_listing g x y e) (AllHave g m)
    made-has y (fun1 false Fun.ToRelation f) n q h = related f (type_of f g) refl q
    made-has y (fun1 false Fun.Defined f) n q h = defined f (type_of f g) refl q
    made-has y (node_ex false (word Fun.PreImage) (more_exs f (more_exs b no_exs))) n q h = sources f b (type_of f g) refl n.1.0 q
    made-has y (fun1 false Fun.Participants p) n q h = when-have g m x (is_partition (type_of p g)) (members_of_parts x y p ∷ [])
        (λ c. (parts-have y p (partition-is (type_of p g) m c q), tt))
    made-has y (node_ex false function_literal es) n q h = each-first g m [] es tt h
    made-has y (node_ex false partition_literal es) n q h = each-item g m es h
    made-has y (fun1 false Fun.ToSet (node_ex false matrix_literal es)) n q h = each-first g m [] es tt h
    made-has y (fun1 false Fun.ToSet (node_ex false mset_literal es)) n q h = each-first g m [] es tt h
    made-has y (matrix_ex es d) n q h = each-item g m es h
    made-has y _ n q h = tt

-- Listings are alike.
pub made-listings-are-alike : MadeListingsAreAlike
made-listings-are-alike g x y t l q n m i h =
    alike g m t l i (of-answer g m (made_listing g x y t) l q (made-has g x m y t n i h))
