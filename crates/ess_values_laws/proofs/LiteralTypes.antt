-- The types of functions, relations and partitions by those of their pairs, tuples and parts: where these say less, so do
-- the types, and they are there.
use Rattle.std.proofs.Common.{◌≡◌, refl, sym, ap, ◌∙◌, subst, true, Some, ◌⊎◌, inl, inr}
use Rattle.ess_semantics.specs.Values.{Kind, a_tuple, a_set, a_function, a_relation, a_partition}
use Rattle.ess_semantics.specs.Types.{Ty, any_ty, bool_ty, int_ty, named_ty, compound, Tys, no_tys, more_tys, compound1, compound2}
use Rattle.ess_semantics.specs.OperatorTypes.{function_ty, relation_ty, partition_ty}
use Rattle.ess_values_laws.proofs.TypeOrder.{Within, PartsWithin, AllWithin, all-within-parts}
use Rattle.ess_values_laws.proofs.JoinedTypes.{has_parts}

-- ---- types with one part and with two

one-within : (k : Kind) (w a : Ty) → Within w (compound1 k a) → has_parts w ≡ true → (b : Ty) × (w ≡ compound1 k b) × Within b a
one-within k any_ty a h p = cc
one-within k bool_ty a h p = absurd h
one-within k int_ty a h p = absurd h
one-within k (named_ty n) a h p = absurd h
one-within k (compound l no_tys) a h p = cc
one-within k (compound l (more_tys b no_tys)) a h p = (b, ap (λ j. compound1 j b) h.0, (h.1).0)
one-within k (compound l (more_tys b (more_tys c us))) a h p = absurd (h.1).1

two-within : (k : Kind) (w a b : Ty) → Within w (compound2 k a b) → has_parts w ≡ true → (c : Ty) × (d : Ty) × (w ≡ compound2 k c d) × Within c a × Within d b
two-within k any_ty a b h p = cc
two-within k bool_ty a b h p = absurd h
two-within k int_ty a b h p = absurd h
two-within k (named_ty n) a b h p = absurd h
two-within k (compound l no_tys) a b h p = cc
two-within k (compound l (more_tys c no_tys)) a b h p = absurd (h.1).1
two-within k (compound l (more_tys c (more_tys d no_tys))) a b h p = (c, d, ap (λ j. compound2 j c d) h.0, (h.1).0, ((h.1).1).0)
two-within k (compound l (more_tys c (more_tys d (more_tys e us)))) a b h p = absurd ((h.1).1).1

pub none-within : (w : Ty) → Within w any_ty → w ≡ any_ty
none-within any_ty h = refl
none-within bool_ty h = absurd h
none-within int_ty h = absurd h
none-within (named_ty n) h = absurd h
none-within (compound k us) h = absurd h

-- ---- functions

pub function-form : (s t : Ty) → function_ty s ≡ Some t →
    ((s ≡ any_ty) × (compound2 a_function any_ty any_ty ≡ t)) ⊎ ((a : Ty) × (b : Ty) × (s ≡ compound2 a_tuple a b) × (compound2 a_function a b ≡ t))
function-form any_ty t e = inl (refl, cc)
function-form (compound2 a_tuple a b) t e = inr (a, b, refl, cc)
function-form _ t e = cc

-- A function's type is there, says no more, and has parts.
pub function-within : (s t w : Ty) → function_ty s ≡ Some t → Within w s → (has_parts s ≡ true → has_parts w ≡ true) →
    (u : Ty) × (function_ty w ≡ Some u) × Within u t × (has_parts u ≡ true)
function-within s t w e h k = go (function-form s t e)
  where
    go : ((s ≡ any_ty) × (compound2 a_function any_ty any_ty ≡ t)) ⊎ ((a : Ty) × (b : Ty) × (s ≡ compound2 a_tuple a b) × (compound2 a_function a b ≡ t)) →
        (u : Ty) × (function_ty w ≡ Some u) × Within u t × (has_parts u ≡ true)
    go (inl f) =
        let n = none-within w (subst (Within w) f.0 h) in
        (compound2 a_function any_ty any_ty, ap function_ty n, subst (Within (compound2 a_function any_ty any_ty)) f.1 (refl, (tt, (tt, tt))), refl)
    go (inr f) =
        let n = two-within a_tuple w f.0 f.1 (subst (Within w) f.2 h) (k (ap has_parts f.2)) in
        (compound2 a_function n.0 n.1, ap function_ty n.2, subst (Within (compound2 a_function n.0 n.1)) f.3 (refl, (n.3, (n.4, tt))), refl)

-- ---- partitions

partition-form : (s t : Ty) → partition_ty s ≡ Some t →
    ((s ≡ any_ty) × (compound1 a_partition any_ty ≡ t)) ⊎ ((a : Ty) × (s ≡ compound1 a_set a) × (compound1 a_partition a ≡ t))
partition-form any_ty t e = inl (refl, cc)
partition-form (compound1 a_set a) t e = inr (a, refl, cc)
partition-form _ t e = cc

-- The same of a partition.
pub partition-within : (s t w : Ty) → partition_ty s ≡ Some t → Within w s → (has_parts s ≡ true → has_parts w ≡ true) →
    (u : Ty) × (partition_ty w ≡ Some u) × Within u t × (has_parts u ≡ true)
partition-within s t w e h k = go (partition-form s t e)
  where
    go : ((s ≡ any_ty) × (compound1 a_partition any_ty ≡ t)) ⊎ ((a : Ty) × (s ≡ compound1 a_set a) × (compound1 a_partition a ≡ t)) →
        (u : Ty) × (partition_ty w ≡ Some u) × Within u t × (has_parts u ≡ true)
    go (inl f) =
        let n = none-within w (subst (Within w) f.0 h) in
        (compound1 a_partition any_ty, ap partition_ty n, subst (Within (compound1 a_partition any_ty)) f.1 (refl, (tt, tt)), refl)
    go (inr f) =
        let n = one-within a_set w f.0 (subst (Within w) f.1 h) (k (ap has_parts f.1)) in
        (compound1 a_partition n.0, ap partition_ty n.1, subst (Within (compound1 a_partition n.0)) f.2 (refl, (n.2, tt)), refl)

-- ---- relations

relation-form : (s t : Ty) → relation_ty s ≡ Some t →
    ((s ≡ any_ty) × (compound a_relation no_tys ≡ t)) ⊎ ((us : Tys) × (s ≡ compound a_tuple us) × (compound a_relation us ≡ t))
relation-form any_ty t e = inl (refl, cc)
relation-form (compound a_tuple us) t e = inr (us, refl, cc)
relation-form _ t e = cc

any-kind : (k l : Kind) (us : Tys) → has_parts (compound k us) ≡ true → has_parts (compound l us) ≡ true
any-kind k l no_tys h = h
any-kind k l (more_tys u us) h = refl

-- What says no more than a tuple is one, or says nothing.
tuple-within : (w : Ty) (us : Tys) → Within w (compound a_tuple us) → (w ≡ any_ty) ⊎ ((vs : Tys) × (w ≡ compound a_tuple vs) × PartsWithin a_tuple vs us)
tuple-within any_ty us h = inl refl
tuple-within bool_ty us h = absurd h
tuple-within int_ty us h = absurd h
tuple-within (named_ty n) us h = absurd h
tuple-within (compound l vs) us h = inr (vs, ap (λ j. compound j vs) h.0, subst (λ x. PartsWithin x vs us) h.0 h.1)

-- a tuple's type says something of each component
tuple-parts : (vs us : Tys) → PartsWithin a_tuple vs us → AllWithin vs us
tuple-parts no_tys no_tys h = h
tuple-parts no_tys (more_tys u us) h = h
tuple-parts (more_tys v vs) no_tys h = h
tuple-parts (more_tys v vs) (more_tys u us) h = h

-- A relation's type is there, says no more, and has parts where the other one has.
pub relation-within : (s t w : Ty) → relation_ty s ≡ Some t → Within w s → (has_parts s ≡ true → has_parts w ≡ true) →
    (u : Ty) × (relation_ty w ≡ Some u) × Within u t × (has_parts t ≡ true → has_parts u ≡ true)
relation-within s t w e h k = go (relation-form s t e)
  where
    some : (us : Tys) → s ≡ compound a_tuple us → compound a_relation us ≡ t → (w ≡ any_ty) ⊎ ((vs : Tys) × (w ≡ compound a_tuple vs) × PartsWithin a_tuple vs us) →
        (u : Ty) × (relation_ty w ≡ Some u) × Within u t × (has_parts t ≡ true → has_parts u ≡ true)
    some us f g (inl n) = (
      compound a_relation no_tys,
      ap relation_ty n,
      subst (Within (compound a_relation no_tys)) g (refl, tt),
      λ q. sym (ap has_parts n) ∙ k (ap has_parts f ∙ any-kind a_relation a_tuple us (ap has_parts g ∙ q)),
    )
    some us f g (inr n) = (
      compound a_relation n.0,
      ap relation_ty n.1,
      subst (Within (compound a_relation n.0)) g (refl, all-within-parts a_relation n.0 us (tuple-parts n.0 us n.2)),
      λ q. any-kind a_tuple a_relation n.0 (sym (ap has_parts n.1) ∙ k (ap has_parts f ∙ any-kind a_relation a_tuple us (ap has_parts g ∙ q))),
    )

    go : ((s ≡ any_ty) × (compound a_relation no_tys ≡ t)) ⊎ ((us : Tys) × (s ≡ compound a_tuple us) × (compound a_relation us ≡ t)) →
        (u : Ty) × (relation_ty w ≡ Some u) × Within u t × (has_parts t ≡ true → has_parts u ≡ true)
    go (inl f) =
        let n = none-within w (subst (Within w) f.0 h) in
        (compound a_relation no_tys, ap relation_ty n, subst (Within (compound a_relation no_tys)) f.1 (refl, tt), λ q. ap has_parts f.1 ∙ q)
    go (inr f) = some f.0 f.1 f.2 (tuple-within w f.0 (subst (Within w) f.1 h))
