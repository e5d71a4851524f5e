-- Listings of terms whose parts are of one type have items of the type of the members.
use Rattle.std.proofs.Common.{◌≡◌, refl, sym, ap, ◌∙◌, subst, Bool, true, false, if◌then◌else◌, List, [], ◌∷◌, Option, Some, None, option_map}
use Rattle.ess_semantics.specs.declared.words.Op1.{Op1}
use Rattle.ess_semantics.specs.declared.words.Op2.{Op2}
use Rattle.ess_semantics.specs.declared.words.Fun.{Fun}
use Rattle.ess_semantics.specs.Lists.{and_then, all_some}
use Rattle.ess_semantics.specs.Values.{Text, a_set, a_relation, a_partition, a_matrix}
use Rattle.ess_semantics.specs.Names.{Names, look}
use Rattle.ess_semantics.specs.Trees.{binary, unary, word, set_literal, mset_literal, relation_literal, matrix_literal, Ex, Exs, name_ex, node_ex, comp_ex, ex1, ex2, fun1, no_exs, more_exs, Gens, no_gens, cond}
use Rattle.ess_semantics.specs.Types.{Ty, any_ty, bool_ty, int_ty, compound, compound1, compound2, join, fit}
use Rattle.ess_semantics.specs.OperatorTypes.{type_of_op, member_ty}
use Rattle.ess_semantics.specs.Typing.{type_of, types_under}
use Rattle.ess_rules_laws.specs.InclusionRules.{both_sets}
use Rattle.ess_rules_laws.specs.MembershipRules.{is_asked}
use Rattle.ess_rules_laws.specs.Listings.{Alternative, each_item, none_of, each_first, those, is_strict, listing}
use Rattle.ess_rules_laws.specs.ListedSources.{laid_out}
use Rattle.ess_rules_laws.proofs.Agreement.{look-itself}
use Rattle.ess_rules_laws.proofs.NoneOf.{none_of-more}
use Rattle.ess_guard_types_laws.proofs.JoinedTypes.{itself}
use Rattle.ess_refine_laws.specs.AllRules.{OfSome}
use Rattle.ess_refine_types_laws.specs.TypeNames.{IsUntyped}
use Rattle.ess_refine_types_laws.proofs.TypeParts.{one-to, two-to, given-to, new-name, term-behind, equation-type}
use Rattle.ess_refine_types_laws.proofs.TypesOfMembers.{asks-members}
use Rattle.ess_listing_marks_laws.specs.ListingsMarked.{EachAlike}
use Rattle.ess_alike_laws.specs.AlikeListings.{AllOfType, PartsAlike, ListingsAreAlike}

-- ---- types

pub member-is : (o : Option Ty) (m : Ty) → and_then o member_ty ≡ Some m → (t : Ty) × (o ≡ Some t) × (member_ty t ≡ Some m)
member-is None m q = (any_ty, cc, cc)
member-is (Some t) m q = (t, refl, q)

-- Of sets and relations `in` asks.
both-asked : (o p : Option Ty) → both_sets o p ≡ true → (is_asked o ≡ true) × (is_asked p ≡ true)
both-asked (Some (compound a_set ts)) (Some (compound a_set us)) h = (refl, refl)
both-asked (Some (compound a_relation ts)) (Some (compound a_relation us)) h = (refl, refl)
both-asked _ _ h = (cc, cc)

-- What a multiset made of a term has as members, and so with sets and parts.
of-mset : (o : Option Ty) (m : Ty) → and_then (and_then (all_some (o ∷ [])) (type_of_op (word Fun.ToMSet))) member_ty ≡ Some m →
    and_then o member_ty ≡ Some m
of-mset (Some any_ty) m q = q
of-mset (Some (compound1 a_set a)) m q = q
of-mset (Some (compound2 a_matrix i a)) m q = q
of-mset _ m q = cc

of-set : (o : Option Ty) (m : Ty) → is_strict o ≡ true →
    and_then (and_then (all_some (o ∷ [])) (type_of_op (word Fun.ToSet))) member_ty ≡ Some m → and_then o member_ty ≡ Some m
of-set (Some (compound a_relation ts)) m k q = q
of-set (Some (compound a_set ts)) m k q = cc
of-set (Some (compound a_partition ts)) m k q = cc
of-set _ m k q = cc

of-parts : (o : Option Ty) (m : Ty) → is_strict o ≡ true →
    and_then (and_then (all_some (o ∷ [])) (type_of_op (word Fun.Parts))) member_ty ≡ Some m → and_then o member_ty ≡ Some m
of-parts (Some (compound1 a_partition a)) m k q = q
of-parts _ m k q = cc

module _ (g : Names Ty) (m : Ty) where
  -- Each alternative has items of this type.
  abbrev pub AllHave : List Alternative → Type 0
  AllHave [] = Unit {0}
  AllHave (a ∷ l) = (and_then (type_of (laid_out a) g) member_ty ≡ Some m) × AllHave l

  pub alike : (t : Ex) (l : List Alternative) → and_then (type_of t g) member_ty ≡ Some m → AllHave l → EachAlike g t l
  alike t [] q h = tt
  alike t (a ∷ l) q h = (h.0 ∙ sym q, alike t l q h.1)

  -- ---- literals

  -- Under conditions that have types.
  pub item-under : (a : Ex) (gs : Gens) → types_under gs g ≡ Some g → type_of a g ≡ Some m →
      and_then (type_of (comp_ex a gs) g) member_ty ≡ Some m
  item-under a gs u q = ap (λ o. and_then (and_then o (λ h. option_map (compound2 a_matrix int_ty) (type_of a h))) member_ty) u
      ∙ ap (λ o. and_then (option_map (compound2 a_matrix int_ty) o) member_ty) q

  pub each-item : (es : Exs) → AllOfType g m es → AllHave (each_item es)
  each-item no_exs h = tt
  each-item (more_exs a es) h = (item-under a no_gens refl h.0, each-item es h.1)

  pub truth-under : (k : Names Ty) (c : Ex) (gs : Gens) → type_of c k ≡ Some bool_ty → types_under gs k ≡ Some k →
      types_under (cond c gs) k ≡ Some k
  truth-under k c gs q u = ap (λ o. and_then o (λ t. and_then (join t bool_ty) (λ v. types_under gs k))) q ∙ u

  abbrev pub AllOfThem : List Ex → Type 0
  AllOfThem [] = Unit {0}
  AllOfThem (b ∷ bs) = (type_of b g ≡ Some m) × AllOfThem bs

  not-type : (k : Names Ty) (c : Ex) → type_of c k ≡ Some bool_ty → type_of (ex1 true Op1.Not c) k ≡ Some bool_ty
  not-type k c q = one-to (type_of c k) (type_of_op (unary Op1.Not)) bool_ty bool_ty q refl

  none-under : (bs : List Ex) (a : Ex) → AllOfThem bs → type_of a g ≡ Some m → types_under (none_of bs a) g ≡ Some g
  none-under [] a h q = refl
  none-under (b ∷ bs) a h q = none_of-more (λ gs. types_under gs g ≡ Some g) b a bs (none-under bs a h.1 q)
      (truth-under g (ex1 true Op1.Not (ex2 true Op2.Eq b a)) (none_of bs a)
      (not-type g (ex2 true Op2.Eq b a) (equation-type g b a m m h.0 q (itself m))))

  pub each-first : (bs : List Ex) (es : Exs) → AllOfThem bs → AllOfType g m es → AllHave (each_first bs es)
  each-first bs no_exs h k = tt
  each-first bs (more_exs a es) h k = (item-under a (none_of bs a) (none-under bs a h k.0) k.0, each-first (a ∷ bs) es (k.0, h) k.1)

  module _ (x : Text) where
    -- ---- containers

    pub those-have : (s : Ex) (gs : Gens) → and_then (type_of s g) member_ty ≡ Some m → types_under gs ((x, m) ∷ g) ≡ Some ((x, m) ∷ g) →
        and_then (type_of (laid_out (those x s gs)) g) member_ty ≡ Some m
    those-have s gs p u =
        ap (λ o. and_then (and_then (and_then o (λ t. types_under gs ((x, t) ∷ g))) (λ h. option_map (compound2 a_matrix int_ty)
        (look h x)))
        member_ty) p
        ∙ ap (λ o. and_then (and_then o (λ h. option_map (compound2 a_matrix int_ty) (look h x))) member_ty) u
        ∙ ap (λ o. and_then (option_map (compound2 a_matrix int_ty) o) member_ty) (look-itself x m g)

    member-type : (a : Ex) → IsUntyped x a → and_then (type_of a g) member_ty ≡ Some m → is_asked (type_of a g) ≡ true →
        type_of (ex2 true Op2.Member (name_ex x) a) ((x, m) ∷ g) ≡ Some bool_ty
    member-type a n p k =
        let r = member-is (type_of a g) m p in
        two-to (type_of (name_ex x) ((x, m) ∷ g)) (type_of a ((x, m) ∷ g)) (type_of_op (binary Op2.Member)) m r.0 bool_ty (new-name g x m)
        (term-behind g x m a r.0 n r.1)
        (ap (λ z. and_then z (λ j. fit m j bool_ty)) (asks-members r.0 m (ap is_asked (sym r.1) ∙ k) r.2)
        ∙ given-to (join m m) bool_ty (itself m))

    in-under : (a : Ex) → IsUntyped x a → and_then (type_of a g) member_ty ≡ Some m → is_asked (type_of a g) ≡ true →
        types_under (cond (ex2 true Op2.Member (name_ex x) a) no_gens) ((x, m) ∷ g) ≡ Some ((x, m) ∷ g)
    in-under a n p k = truth-under ((x, m) ∷ g) (ex2 true Op2.Member (name_ex x) a) no_gens (member-type a n p k) refl

    out-under : (a : Ex) → IsUntyped x a → and_then (type_of a g) member_ty ≡ Some m → is_asked (type_of a g) ≡ true →
        types_under (cond (ex1 true Op1.Not (ex2 true Op2.Member (name_ex x) a)) no_gens) ((x, m) ∷ g) ≡ Some ((x, m) ∷ g)
    out-under a n p k = truth-under ((x, m) ∷ g) (ex1 true Op1.Not (ex2 true Op2.Member (name_ex x) a)) no_gens
        (not-type ((x, m) ∷ g) (ex2 true Op2.Member (name_ex x) a) (member-type a n p k)) refl

    pub when-have : (c : Bool) (l : List Alternative) → (c ≡ true → AllHave l) → OfSome (if c then Some l else None) AllHave
    when-have true l h = h refl
    when-have false l h = tt

    listing-has : (e : Ex) → IsUntyped x e → and_then (type_of e g) member_ty ≡ Some m → PartsAlike g m e → OfSome (listing g x e) AllHave
    listing-has (comp_ex e gs) n q h = (q, tt)
    listing-has (node_ex false matrix_literal es) n q h = each-item es h
    listing-has (node_ex false mset_literal es) n q h = each-item es h
    listing-has (node_ex false set_literal es) n q h = each-first [] es tt h
    listing-has (node_ex false relation_literal es) n q h = each-first [] es tt h
    listing-has (ex2 false Op2.Union a b) n q h = when-have (both_sets (type_of a g) (type_of b g))
        (those x a no_gens ∷ those x b (cond (ex1 true Op1.Not (ex2 true Op2.Member (name_ex x) a)) no_gens) ∷ []) (λ c. (
          those-have a no_gens h.0 refl,
          (
            those-have b (cond (ex1 true Op1.Not (ex2 true Op2.Member (name_ex x) a)) no_gens) h.1
                (out-under a n.0 h.0 (both-asked (type_of a g) (type_of b g) c).0),
            tt,
          ),
        ))
    listing-has (ex2 false Op2.Intersect a b) n q h = when-have (both_sets (type_of a g) (type_of b g))
        (those x a (cond (ex2 true Op2.Member (name_ex x) b) no_gens) ∷ []) (λ c. (
          those-have a (cond (ex2 true Op2.Member (name_ex x) b) no_gens) h.0
              (in-under b n.1.0 h.1 (both-asked (type_of a g) (type_of b g) c).1),
          tt,
        ))
    listing-has (ex2 false Op2.Minus a b) n q h = when-have (both_sets (type_of a g) (type_of b g))
        (those x a (cond (ex1 true Op1.Not (ex2 true Op2.Member (name_ex x) b)) no_gens) ∷ []) (λ c. (
          those-have a (cond (ex1 true Op1.Not (ex2 true Op2.Member (name_ex x) b)) no_gens) h.0
              (out-under b n.1.0 h.1 (both-asked (type_of a g) (type_of b g) c).1),
          tt,
        ))
    listing-has (fun1 false Fun.ToMSet s) n q h = (those-have s no_gens (of-mset (type_of s g) m q) refl, tt)
    listing-has (fun1 false Fun.ToSet s) n q h = when-have (is_strict (type_of s g)) (those x s no_gens ∷ []) (λ c.
        (those-have s no_gens (of-set (type_of s g) m c q) refl, tt))
    listing-has (fun1 false Fun.Parts s) n q h = when-have (is_strict (type_of s g)) (those x s no_gens ∷ []) (λ c.
        (those-have s no_gens (of-parts (type_of s g) m c q) refl, tt))
    listing-has _ n q h = tt

  pub of-answer : (o : Option (List Alternative)) (l : List Alternative) → o ≡ Some l → OfSome o AllHave → AllHave l
  of-answer o l q h = subst (λ z. OfSome z AllHave) q h

-- Listings are alike.
pub listings-are-alike : ListingsAreAlike
listings-are-alike g x t l q n m i h = alike g m t l i (of-answer g m (listing g x t) l q (listing-has g m x t n i h))
