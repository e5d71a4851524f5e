-- The plans of a specification of sets: sizes of given types, and sets by which members occur. Their representations fit.
use Rattle.std.proofs.Common.{◌≡◌, refl, sym, ap, ◌∙◌, subst, ℕ, Bool, true, false, if◌then◌else◌, List, [], ◌∷◌, ◌++◌, map, filter, length, ◌⊎◌, inl, inr, Some, None, codes}
use Rattle.ess_semantics.specs.declared.words.ReprKind.{ReprKind}
use Rattle.ess_semantics.specs.Lists.{append_all, is_empty}
use Rattle.ess_semantics.specs.Values.{Text}
use Rattle.ess_semantics.specs.Order.{same_text}
use Rattle.ess_semantics.specs.Names.{Names, look, without}
use Rattle.ess_semantics.specs.Trees.{Repr, repr, no_reprs, Stm}
use Rattle.ess_semantics.specs.Domains.{Domain, integers, named, sets, booleans}
use Rattle.ess_semantics.specs.Meaning.{domain_of}
use Rattle.ess_semantics.specs.Assignments.{Assignment}
use Rattle.ess_semantics.specs.Parameters.{all_declared}
use Rattle.ess_semantics.proofs.Texts.{same_text-equal, same_text-itself}
use Rattle.ess_semantics.specs.Contexts.{Each}
use Rattle.conjure_laws.proofs.Lists.{each-map, at-item, all-items, in-filter, in-filtered}
use Rattle.conjure_laws.specs.Members.{In}
use Rattle.conjure_laws.specs.Premises.{here, is_on, AreChosen, PlanFits, RepresentationFits, Ground}
use Rattle.ess_semantics.specs.TableNames.{named_tables, free_name}
use Rattle.ess_semantics.specs.DeclaredTables.{decl_name}
use Rattle.ess_semantics.specs.Plans.{Plan, size_plan, value_plan, names_of_plan, names_of_plans, plans_from, plans, plans_for, finds_side, domain_of_stm, givens_side, chosen_reprs}
use Rattle.ess_semantics.specs.Declarations.{declarations}
use Rattle.ess_semantics.specs.Atoms.{IsAtom}
use Rattle.conjure_laws.specs.SetsOfAtoms.{Atom, Line, range, typed, boolean, enum, given_type, unnamed, set_find, holds_lit, sets_of, spec, TypeKind, fixed, sized, Declared, none_declared, after, after_all}
use Rattle.conjure_laws.specs.ModelsOfSets.{no_options, first_name, size_name, decl_of}
use Rattle.conjure_laws.proofs.SetScopes.{Fine, prepared-itself, count_of}
use Rattle.conjure_laws.proofs.SetFacts.{Facts, AtomFact}
use Rattle.ess_semantics.specs.Positions.{domain_with_positions}
use Rattle.conjure_laws.proofs.SetNames.{look-cons}
use Rattle.conjure_laws.proofs.SetsSettled.{facts, closed-at, here-positions, settled}
use Rattle.ess_repr_laws.specs.Finite.{FiniteAtom}
use Rattle.ess_repr_laws.specs.TypedDomains.{Typed}

-- A set kept by which members occur.
abbrev pub Occ : Repr
Occ = repr ReprKind.Occurrence no_reprs

module _ (T : List Line) (ok : Fine none_declared T) where
  -- The specification.
  abbrev pub S' : List Stm
  S' = spec T

  -- Its types.
  abbrev pub ks : Names TypeKind
  ks = (after_all T none_declared).types

  -- The values of its enumerated types.
  abbrev pub vs : Names (Text × ℕ)
  vs = (after_all T none_declared).values

  -- Its plans.
  abbrev pub Ps : List Plan
  Ps = plans S' no_options

  -- A plan: the size of a given type, or a set by which members occur.
  pub data PlanFact (P : Plan) : Type 0 where
    size_fact : (t n : Text) → P ≡ size_plan t n → PlanFact P
    occ_fact : (x : Text) (A : Atom) (n : Text) → P ≡ value_plan finds_side x Occ (sets_of A) ((n, 1) ∷ []) → AtomFact T ok A →
        PlanFact P

  plan-facts : (U : List Line) (declared done : List Text) → Facts T ok U →
      Each (plans_from (spec U) no_options declared done) PlanFact
  plan-facts [] declared done f = tt
  plan-facts (enum t ns ∷ U) declared done f = plan-facts U declared done f
  plan-facts (unnamed t n ∷ U) declared done f = plan-facts U declared done f
  plan-facts (holds_lit l x ∷ U) declared done f = plan-facts U declared done f.1
  plan-facts (given_type t ∷ U) declared done f = (
    size_fact t (free_name (declared ++ done) (t ++ codes "_Size")) refl,
    plan-facts U declared _ f,
  )
  plan-facts (set_find x (range a b) ∷ U) declared done f = (
    occ_fact x (range a b) (first_name (named_tables x ((codes "_Occurrence", 1) ∷ []) (without x declared ++ done))) refl tt,
    plan-facts U declared _ f.1,
  )
  plan-facts (set_find x boolean ∷ U) declared done f = (
    occ_fact x boolean (first_name (named_tables x ((codes "_Occurrence", 1) ∷ []) (without x declared ++ done))) refl tt,
    plan-facts U declared _ f.1,
  )
  plan-facts (set_find x (typed t) ∷ U) declared done f = (
    occ_fact x (typed t) (first_name (named_tables x ((codes "_Occurrence", 1) ∷ []) (without x declared ++ done))) refl f.0,
    plan-facts U declared _ f.1,
  )

  -- Each plan is one.
  pub all-facts : Each Ps PlanFact
  all-facts = subst (λ l. Each (plans_from l no_options (all_declared S') (codes "alldifferent_except" ∷ [])) PlanFact)
      (sym (prepared-itself T)) (plan-facts T (all_declared S') _ (facts T ok))

  -- One of a find is a set's.
  pub found-fact : (P : Plan) → PlanFact P → is_on finds_side P ≡ true →
      (x : Text) × (A : Atom) × (n : Text) × (P ≡ value_plan finds_side x Occ (sets_of A) ((n, 1) ∷ [])) × AtomFact T ok A
  found-fact P (size_fact t n e) f = let z : false ≡ true = ap (is_on finds_side) (sym e) ∙ f in cc
  found-fact P (occ_fact x A n e a) f = (x, A, n, e, a)

  -- The closed domain of a set's members.
  abbrev pub dom_at : Assignment → (A : Atom) → AtomFact T ok A → Domain
  dom_at p (range a b) f = integers (record { low = Some a; high = Some b } ∷ [])
  dom_at p boolean f = booleans
  dom_at p (typed t) f = named t (count_of p t f.0)

  -- The same with positions.
  abbrev pub pos_at : Assignment → (A : Atom) → AtomFact T ok A → Domain
  pos_at p A f = domain_with_positions (dom_at p A f)

  -- Both are atoms.
  pub atom-of : (p : Assignment) (A : Atom) (f : AtomFact T ok A) → IsAtom (dom_at p A f)
  atom-of p (range a b) f = tt
  atom-of p boolean f = tt
  atom-of p (typed t) f = tt

  -- Also with positions, where the members can be listed.
  pub atom-with : (p : Assignment) (A : Atom) (f : AtomFact T ok A) → FiniteAtom (pos_at p A f)
  atom-with p (range a b) f = (tt, refl)
  atom-with p boolean f = (tt, refl)
  atom-with p (typed t) f = (tt, refl)

  atom-typed : (p : Assignment) (A : Atom) (f : AtomFact T ok A) → Typed (dom_at p A f)
  atom-typed p (range a b) f = tt
  atom-typed p boolean f = tt
  atom-typed p (typed t) f = tt

  -- A find's domain is closed.
  pub dom-closed : (p : Assignment) (A : Atom) (f : AtomFact T ok A) →
      domain_of (sets_of A) (here S' p) ≡ Some (sets [] (dom_at p A f))
  dom-closed p (range a b) f = refl
  dom-closed p boolean f = refl
  dom-closed p (typed t) f = closed-at p t f.0 (here S' p) (here-positions T ok p) (f.2 p)

  plan-fits : (P : Plan) → PlanFact P → PlanFits S' P
  plan-fits P (size_fact t n e) = subst (PlanFits S') (sym e) tt
  plan-fits P (occ_fact x A n e f) = subst (PlanFits S') (sym e) (λ p d Q c.
      subst (λ d. RepresentationFits Occ d × (1 ≡ length (declarations Occ (domain_with_positions d))))
      (one (sets [] (dom_at p A f)) d (sym (dom-closed p A f) ∙ c))
      (record { typed = atom-typed p A f; roomy = atom-with p A f }, refl))
    where
      one : (d e : Domain) → Some d ≡ Some e → d ≡ e
      one d e c = cc

  chosen : AreChosen S' no_options
  chosen = subst (λ l. Each (append_all (map domain_of_stm l)) (λ x. is_empty (chosen_reprs no_options x.0 x.1) ≡ false))
      (sym (prepared-itself T)) (go T)
    where
      go : (U : List Line) → Each (append_all (map domain_of_stm (spec U))) (λ x. is_empty (chosen_reprs no_options x.0 x.1) ≡ false)
      go [] = tt
      go (enum t ns ∷ U) = go U
      go (given_type t ∷ U) = go U
      go (unnamed t n ∷ U) = go U
      go (holds_lit l x ∷ U) = go U
      go (set_find x A ∷ U) = (refl, go U)

  -- The names of declarations are those of the plans.
  pub decl-names : (Qs : List Plan) → Each Qs PlanFact → map decl_name (map (decl_of ks Ps) Qs) ≡ names_of_plans Qs
  decl-names [] h = refl
  decl-names (P ∷ Qs) h = ap (λ l. decl_name (decl_of ks Ps P) ∷ l) (decl-names Qs h.1) ∙ one P h.0
    where
      one : (P : Plan) → PlanFact P → decl_name (decl_of ks Ps P) ∷ names_of_plans Qs ≡ names_of_plan P ++ names_of_plans Qs
      one P (size_fact t n e) = subst (λ P. decl_name (decl_of ks Ps P) ∷ names_of_plans Qs ≡ names_of_plan P ++ names_of_plans Qs)
          (sym e)
          refl
      one P (occ_fact x A n e f) = subst (λ P. decl_name (decl_of ks Ps P) ∷ names_of_plans Qs ≡ names_of_plan P ++ names_of_plans Qs)
          (sym e) refl

  -- So is each of some plans.
  pub some-facts : (g : Plan → Bool) → Each (filter g Ps) PlanFact
  some-facts g = all-items PlanFact (filter g Ps) (λ P i. at-item PlanFact Ps P all-facts (in-filter g P Ps i).0)

  -- What speaks of no model.
  pub ground : Ground S' no_options
  ground = record { settled = settled T ok; chosen = chosen; fit = each-map Ps PlanFact (PlanFits S') plan-fits all-facts }

  -- The plans of the givens, and of the finds.
  abbrev pub Gs : List Plan
  Gs = plans_for givens_side S' no_options

  -- The plans of the finds.
  abbrev pub Fs : List Plan
  Fs = plans_for finds_side S' no_options

  -- A given type's size has a plan.
  size-planned : (U : List Line) (declared done : List Text) (t : Text) → In (given_type t) U →
      In (size_plan t (size_name (plans_from (spec U) no_options declared done) t)) (plans_from (spec U) no_options declared done)
  size-planned [] declared done t i = absurd i
  size-planned (enum u ns ∷ U) declared done t (inl e) = cc
  size-planned (enum u ns ∷ U) declared done t (inr i) = size-planned U declared done t i
  size-planned (unnamed u n ∷ U) declared done t (inl e) = cc
  size-planned (unnamed u n ∷ U) declared done t (inr i) = size-planned U declared done t i
  size-planned (holds_lit l x ∷ U) declared done t (inl e) = cc
  size-planned (holds_lit l x ∷ U) declared done t (inr i) = size-planned U declared done t i
  size-planned (set_find x A ∷ U) declared done t (inl e) = cc
  size-planned (set_find x A ∷ U) declared done t (inr i) = inr (size-planned U declared _ t i)
  size-planned (given_type u ∷ U) declared done t i = go (same_text u t) refl i (size-planned U declared (n ∷ done) t)
    where
      n : Text
      n = free_name (declared ++ done) (u ++ codes "_Size")

      rest : List Plan
      rest = plans_from (spec U) no_options declared (n ∷ done)

      go : (b : Bool) → same_text u t ≡ b → (given_type t ≡ given_type u) ⊎ In (given_type t) U →
          (In (given_type t) U → In (size_plan t (size_name rest t)) rest) →
          In (size_plan t (if same_text u t then n else size_name rest t)) (size_plan u n ∷ rest)
      go true q i h = inl (ap (λ b. size_plan t (if b then n else size_name rest t)) q
          ∙ ap (λ z. size_plan z n) (sym (same_text-equal u t q)))
      go false q (inl e) h = let z : t ≡ u = cc in let y : false ≡ true = sym q ∙ ap (λ w. same_text w t) (sym z)
          ∙ same_text-itself t in cc
      go false q (inr i) h = inr (subst (λ b. In (size_plan t (if b then n else size_name rest t)) rest) (sym q) (h i))

  sized-declared : (U : List Line) (c : Declared) (t : Text) → look (after_all U c).types t ≡ Some sized →
      (look c.types t ≡ Some sized) ⊎ In (given_type t) U
  sized-declared [] c t e = inl e
  sized-declared (enum u ns ∷ U) c t e = go (sized-declared U (after (enum u ns) c) t e)
    where
      go : (look ((u, fixed (length ns)) ∷ c.types) t ≡ Some sized) ⊎ In (given_type t) U →
          (look c.types t ≡ Some sized) ⊎ In (given_type t) (enum u ns ∷ U)
      go (inr i) = inr (inr i)
      go (inl e) = at (look-cons u t (fixed (length ns)) sized c.types e)
        where
          at : ((u ≡ t) × (fixed (length ns) ≡ sized)) ⊎ (look c.types t ≡ Some sized) →
              (look c.types t ≡ Some sized) ⊎ In (given_type t) (enum u ns ∷ U)
          at (inl q) = let z : fixed (length ns) ≡ sized = q.1 in cc
          at (inr e) = inl e
  sized-declared (unnamed u n ∷ U) c t e = go (sized-declared U (after (unnamed u n) c) t e)
    where
      go : (look ((u, fixed n) ∷ c.types) t ≡ Some sized) ⊎ In (given_type t) U →
          (look c.types t ≡ Some sized) ⊎ In (given_type t) (unnamed u n ∷ U)
      go (inr i) = inr (inr i)
      go (inl e) = at (look-cons u t (fixed n) sized c.types e)
        where
          at : ((u ≡ t) × (fixed n ≡ sized)) ⊎ (look c.types t ≡ Some sized) →
              (look c.types t ≡ Some sized) ⊎ In (given_type t) (unnamed u n ∷ U)
          at (inl q) = let z : fixed n ≡ sized = q.1 in cc
          at (inr e) = inl e
  sized-declared (given_type u ∷ U) c t e = go (sized-declared U (after (given_type u) c) t e)
    where
      go : (look ((u, sized) ∷ c.types) t ≡ Some sized) ⊎ In (given_type t) U →
          (look c.types t ≡ Some sized) ⊎ In (given_type t) (given_type u ∷ U)
      go (inr i) = inr (inr i)
      go (inl e) = at (look-cons u t sized sized c.types e)
        where
          at : ((u ≡ t) × (sized ≡ sized)) ⊎ (look c.types t ≡ Some sized) →
              (look c.types t ≡ Some sized) ⊎ In (given_type t) (given_type u ∷ U)
          at (inl q) = inr (inl (ap given_type (sym q.0)))
          at (inr e) = inl e
  sized-declared (set_find x A ∷ U) c t e = go (sized-declared U (after (set_find x A) c) t e)
    where
      go : (look c.types t ≡ Some sized) ⊎ In (given_type t) U → (look c.types t ≡ Some sized) ⊎ In (given_type t) (set_find x A ∷ U)
      go (inl e) = inl e
      go (inr i) = inr (inr i)
  sized-declared (holds_lit l x ∷ U) c t e = go (sized-declared U c t e)
    where
      go : (look c.types t ≡ Some sized) ⊎ In (given_type t) U → (look c.types t ≡ Some sized) ⊎ In (given_type t) (holds_lit l x ∷ U)
      go (inl e) = inl e
      go (inr i) = inr (inr i)

  -- The size of a given type is the table of one of the givens.
  pub size-of : (t : Text) → look ks t ≡ Some sized → In (size_plan t (size_name Ps t)) Gs
  size-of t e = in-filtered (is_on givens_side) (size_plan t (size_name Ps t)) Ps (go (sized-declared T none_declared t e)) refl
    where
      go : (None ≡ Some sized) ⊎ In (given_type t) T → In (size_plan t (size_name Ps t)) Ps
      go (inl e) = cc
      go (inr i) = subst (λ l. In (size_plan t (size_name (plans_from l no_options (all_declared S')
          (codes "alldifferent_except" ∷ [])) t))
          (plans_from l no_options (all_declared S') (codes "alldifferent_except" ∷ []))) (sym (prepared-itself T))
          (size-planned T (all_declared S') _ t i)
