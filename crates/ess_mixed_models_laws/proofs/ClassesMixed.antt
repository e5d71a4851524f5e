-- Specifications of scalars alone, and of sets alone, are of the class.
use Rattle.std.proofs.Common.{◌≡◌, refl, sym, ap, ◌∙◌, subst, Bool, true, false, ◌&&◌, ◌||◌, not, List, [], ◌∷◌, inl, Some, None, is_some}
use Rattle.std.specs.List.{list_all}
use Rattle.ess_semantics.specs.Lists.{is_some_and, is_empty}
use Rattle.ess_semantics.specs.Values.{Text}
use Rattle.ess_semantics.specs.Names.{Names, look}
use Rattle.ess_semantics.specs.Order.{same_text}
use Rattle.ess_semantics.specs.Trees.{Dom, bool_dom, int_dom, Stm, given, given_enum, let_ex, let_dom, let_enum, let_unnamed, needs, find, such_that, minimise, maximise}
use Rattle.ess_semantics.specs.Prepared.{prepared}
use Rattle.ess_semantics.specs.Judgements.{is_well_typed}
use Rattle.ess_semantics.specs.Plans.{Options, Plan, chosen_reprs, kept_names, plans, domain_of_stm}
use Rattle.ess_semantics.specs.Models.{constraints_of}
use Rattle.ess_semantics.proofs.Tests.{and-left, and-right, and-both, or-yes}
use Rattle.ess_semantics.proofs.Texts.{same_text-itself}
use Rattle.conjure_laws.specs.Members.{In}
use Rattle.conjure_laws.specs.SetsOfAtoms.{Atom, range, boolean, typed, Lit, num, truth_lit, value_name, Line, enum, given_type, unnamed, set_find, holds_lit, atom_dom, sets_of, lit_ex, membership, spec, TypeKind, Declared, none_declared, after, after_all}
use Rattle.conjure_laws.specs.ModelsOfSets.{no_options}
use Rattle.conjure_laws.proofs.JudgedDistinct.{kept-distinct}
use Rattle.conjure_laws.proofs.SetScopes.{Fine, prepared-itself, fine-later}
use Rattle.conjure_laws.proofs.SetFacts.{Facts, AtomFact, LitFact}
use Rattle.conjure_laws.proofs.SetsSettled.{facts}
use Rattle.conjure_laws.proofs.WellTypedSets.{well-typed-fine}
use Rattle.ess_flat_models_laws.specs.FlatSpecifications.{given_mark, mark_among, is_scalar_dom, is_atom_alone, is_flat_truth, is_flat_number, is_flat_statement, are_flat_statements, are_bounded, has_marks, is_flat_specification}
use Rattle.ess_member_shows_laws.proofs.ShownTables.{memberships-shown}
use Rattle.ess_nested_laws.specs.NestedDomains.{is_nested_dom}
use Rattle.ess_mixed_models_laws.specs.MixedSpecifications.{is_setwise_constraint, is_setwise_objective, kinds_by, places_by, known_after, kinds, places, is_set_dom, is_occurrence_alone, members_of, is_of_kind, has_printed_name, is_kept_by_members, is_membership, is_scalar_kept, is_set_kept, is_nested_kept, is_mixed_statement, are_mixed_statements, is_of_sets, types_come_first, have_bounds, is_mixed_specification}
use Rattle.ess_mixed_models_laws.specs.Laws.{ClassesAreMixed}
use Rattle.ess_mixed_models_laws.proofs.NamedKinds.{no-yes}
use Rattle.ess_mixed_models_laws.proofs.SetFinds.{of-all, look-of}

or-left : (b c : Bool) → b ≡ true → b || c ≡ true
or-left true c e = refl
or-left false c e = absurd (no-yes e)

or-right : (b c : Bool) → c ≡ true → b || c ≡ true
or-right b c e = ap (λ z. b || z) e ∙ or-yes b

-- ---- scalars

flat-statement : (S : List Stm) (o : Options) (s : Stm) → is_flat_statement (plans S o) o s ≡ true → is_mixed_statement S o s ≡ true
flat-statement S o (given x d) h = h
flat-statement S o (find x d) h = or-left (is_scalar_kept S o x d) (is_set_kept S o x d || is_nested_kept S o x d) h
flat-statement S o (let_ex x e) h = h
flat-statement S o (let_dom x d) h = refl
flat-statement S o (needs e) h = h
flat-statement S o (such_that e) h = or-left (is_flat_truth (plans S o) e) (is_membership S o e || is_setwise_constraint (plans S o) S e) h
flat-statement S o (minimise e) h = or-left (is_flat_number (plans S o) e) (is_setwise_objective (plans S o) S e) h
flat-statement S o (maximise e) h = or-left (is_flat_number (plans S o) e) (is_setwise_objective (plans S o) S e) h
flat-statement S o s h = absurd (no-yes h)

all-flat : (S : List Stm) (o : Options) (T : List Stm) → list_all (is_flat_statement (plans S o) o) T ≡ true →
    list_all (is_mixed_statement S o) T ≡ true
all-flat S o [] h = refl
all-flat S o (s ∷ T) h =
    let a : Bool = is_flat_statement (plans S o) o s in
    let b : Bool = list_all (is_flat_statement (plans S o) o) T in
    and-both (is_mixed_statement S o s) (list_all (is_mixed_statement S o) T) (flat-statement S o s (and-left a b h))
    (all-flat S o T (and-right a b h))

-- Bounds that name earlier givens alone do so here.
all-bounded : (Ps : List Plan) (xs : List Text) (T : List Stm) → are_bounded Ps xs T ≡ true → have_bounds Ps xs T ≡ true
all-bounded Ps xs [] h = refl
all-bounded Ps xs (given x d ∷ T) h =
    let a : Bool = is_scalar_dom (mark_among xs (given_mark Ps)) d in
    let b : Bool = are_bounded Ps (x ∷ xs) T in
    and-both a (have_bounds Ps (x ∷ xs) T) (and-left a b h) (all-bounded Ps (x ∷ xs) T (and-right a b h))
all-bounded Ps xs (find x d ∷ T) h =
    let a : Bool = is_scalar_dom (mark_among xs (given_mark Ps)) d in
    let b : Bool = are_bounded Ps xs T in
    and-both (is_of_sets d || a) (have_bounds Ps xs T) (or-right (is_of_sets d) a (and-left a b h)) (all-bounded Ps xs T (and-right a b h))
all-bounded Ps xs (given_enum t ∷ T) h = all-bounded Ps xs T h
all-bounded Ps xs (let_enum t ns ∷ T) h = all-bounded Ps xs T h
all-bounded Ps xs (let_unnamed t e ∷ T) h = all-bounded Ps xs T h
all-bounded Ps xs (let_ex x e ∷ T) h = all-bounded Ps xs T h
all-bounded Ps xs (let_dom x d ∷ T) h = all-bounded Ps xs T h
all-bounded Ps xs (needs e ∷ T) h = all-bounded Ps xs T h
all-bounded Ps xs (such_that e ∷ T) h = all-bounded Ps xs T h
all-bounded Ps xs (minimise e ∷ T) h = all-bounded Ps xs T h
all-bounded Ps xs (maximise e ∷ T) h = all-bounded Ps xs T h

-- Without sets no types are asked for.
no-types : (S : List Stm) (o : Options) (T : List Stm) (ks : Names TypeKind) → list_all (is_flat_statement (plans S o) o) T ≡ true →
    types_come_first ks T ≡ true
no-types S o [] ks h = refl
no-types S o (find x d ∷ T) ks h =
    let a : Bool = is_flat_statement (plans S o) o (find x d) in
    let b : Bool = list_all (is_flat_statement (plans S o) o) T in
    and-both (not (is_of_sets d) || (is_set_dom ks d || is_nested_dom d)) (types_come_first ks T)
    (or-left (not (is_of_sets d)) (is_set_dom ks d || is_nested_dom d)
    (apart d (and-left (is_scalar_dom (given_mark (plans S o)) d) (is_atom_alone (chosen_reprs o x d)) (and-left a b h))))
    (no-types S o T ks (and-right a b h))
  where
    apart : (d : Dom) → is_scalar_dom (given_mark (plans S o)) d ≡ true → not (is_of_sets d) ≡ true
    apart bool_dom h = refl
    apart (int_dom rs es) h = refl
    apart d h = absurd (no-yes h)
no-types S o (given x d ∷ T) ks h = no-types S o T ks (and-right (is_flat_statement (plans S o) o (given x d)) _ h)
no-types S o (given_enum t ∷ T) ks h = absurd (no-yes h)
no-types S o (let_enum t ns ∷ T) ks h = absurd (no-yes h)
no-types S o (let_unnamed t e ∷ T) ks h = absurd (no-yes h)
no-types S o (let_ex x e ∷ T) ks h = no-types S o T ks (and-right (is_flat_statement (plans S o) o (let_ex x e)) _ h)
no-types S o (let_dom x d ∷ T) ks h = no-types S o T ks (and-right (is_flat_statement (plans S o) o (let_dom x d)) _ h)
no-types S o (needs e ∷ T) ks h = no-types S o T ks (and-right (is_flat_statement (plans S o) o (needs e)) _ h)
no-types S o (such_that e ∷ T) ks h = no-types S o T ks (and-right (is_flat_statement (plans S o) o (such_that e)) _ h)
no-types S o (minimise e ∷ T) ks h = no-types S o T ks (and-right (is_flat_statement (plans S o) o (minimise e)) _ h)
no-types S o (maximise e ∷ T) ks h = no-types S o T ks (and-right (is_flat_statement (plans S o) o (maximise e)) _ h)

scalars-mixed : (S : List Stm) (o : Options) → is_flat_specification S o ≡ true → is_mixed_specification S o ≡ true
scalars-mixed S o h =
    let a : Bool = are_flat_statements S o in
    let b : Bool = are_bounded (plans S o) [] (prepared S) in
    let c : Bool = list_all (has_marks (plans S o)) (constraints_of S) in
    let t : Bool = types_come_first [] (prepared S) in
    let d : Bool = have_bounds (plans S o) [] (prepared S) in
    let k = and-left a (b && c) h in
    let r = and-right a (b && c) h in
    and-both (are_mixed_statements S o) (t && (d && c)) (all-flat S o (prepared S) k)
    (and-both t (d && c) (no-types S o (prepared S) [] k)
    (and-both d c (all-bounded (plans S o) [] (prepared S) (and-left b c r)) (and-right b c r)))

-- ---- sets

kinds-after : (U : List Line) (c : Declared) → known_after kinds_by (spec U) c.types ≡ (after_all U c).types
kinds-after [] c = refl
kinds-after (enum t ns ∷ U) c = kinds-after U (after (enum t ns) c)
kinds-after (given_type t ∷ U) c = kinds-after U (after (given_type t) c)
kinds-after (unnamed t n ∷ U) c = kinds-after U (after (unnamed t n) c)
kinds-after (set_find x A ∷ U) c = kinds-after U (after (set_find x A) c)
kinds-after (holds_lit l x ∷ U) c = kinds-after U (after (holds_lit l x) c)

places-after : (U : List Line) (c : Declared) → known_after places_by (spec U) c.values ≡ (after_all U c).values
places-after [] c = refl
places-after (enum t ns ∷ U) c = places-after U (after (enum t ns) c)
places-after (given_type t ∷ U) c = places-after U (after (given_type t) c)
places-after (unnamed t n ∷ U) c = places-after U (after (unnamed t n) c)
places-after (set_find x A ∷ U) c = places-after U (after (set_find x A) c)
places-after (holds_lit l x ∷ U) c = places-after U (after (holds_lit l x) c)

module _ (T : List Line) (t : is_well_typed (spec T) ≡ true) where
  abbrev S' : List Stm
  S' = spec T

  -- Names are declared once, before they are used.
  pub ok : Fine none_declared T
  ok = well-typed-fine T t

  -- The types, and the values of enumerated types, are those of the lines.
  pub kinds-are : kinds S' ≡ (after_all T none_declared).types
  kinds-are = ap (λ l. known_after kinds_by l []) (prepared-itself T) ∙ kinds-after T none_declared

  pub places-are : places S' ≡ (after_all T none_declared).values
  places-are = ap (λ l. known_after places_by l []) (prepared-itself T) ∙ places-after T none_declared

  set-kept : (x : Text) (A : Atom) → AtomFact T ok A → is_set_kept S' no_options x (sets_of A) ≡ true
  set-kept x (range a b) f = refl
  set-kept x boolean f = refl
  set-kept x (typed u) f =
      ap (λ ks. is_set_dom ks (sets_of (typed u)) && true) kinds-are
      ∙ ap (λ z. (elim z [ None ↦ false | Some k ↦ true ]) && true) f.1

  kept-alone : (x : Text) (A : Atom) → is_occurrence_alone (chosen_reprs no_options x (sets_of A)) ≡ true
  kept-alone x (range a b) = refl
  kept-alone x boolean = refl
  kept-alone x (typed u) = refl

  -- What the domain of a find is.
  pub found-domain : (x : Text) (A : Atom) → In (find x (sets_of A)) S' → look (kept_names S') x ≡ Some (sets_of A)
  found-domain x A i = look-of (kept_names S') x (sets_of A) (kept-distinct S' t)
      (of-all domain_of_stm (prepared S') (x, sets_of A) (find x (sets_of A))
      (subst (In (find x (sets_of A))) (sym (prepared-itself T)) i) (inl refl))

  value-kind : (l : Lit) (A : Atom) → LitFact T ok l A → is_of_kind (places S') (lit_ex l) (atom_dom A) ≡ true
  value-kind (num k) (range a b) g = refl
  value-kind (truth_lit b) boolean g = refl
  value-kind (value_name n) (typed u) g =
      ap (λ vs. is_some_and (look vs n) (λ v. same_text v.0 u)) places-are
      ∙ ap (λ z. is_some_and z (λ v. same_text v.0 u)) g.1 ∙ same_text-itself u
  value-kind (num k) boolean g = absurd g
  value-kind (num k) (typed u) g = absurd g
  value-kind (truth_lit b) (range c d) g = absurd g
  value-kind (truth_lit b) (typed u) g = absurd g
  value-kind (value_name n) (range a b) g = absurd g
  value-kind (value_name n) boolean g = absurd g

  name-left : has_printed_name S' no_options ≡ true
  name-left = ap (λ n. not (is_empty n)) (memberships-shown.first_name T t)

  -- A constraint is a membership.
  pub is-member : (l : Lit) (x : Text) (A : Atom) → In (find x (sets_of A)) S' → LitFact T ok l A →
      is_membership S' no_options (membership l x) ≡ true
  is-member l x A i g =
      and-both (is_some_and (members_of (look (kept_names S') x)) (is_of_kind (places S') (lit_ex l)))
      (has_printed_name S' no_options && is_kept_by_members S' no_options x)
      (ap (λ z. is_some_and (members_of z) (is_of_kind (places S') (lit_ex l))) (found-domain x A i) ∙ value-kind l A g)
      (and-both (has_printed_name S' no_options) (is_kept_by_members S' no_options x) name-left
      (ap (λ z. is_some_and z (λ d. is_occurrence_alone (chosen_reprs no_options x d))) (found-domain x A i) ∙ kept-alone x A))

  all-mixed : (U : List Line) → Facts T ok U → list_all (is_mixed_statement S' no_options) (spec U) ≡ true
  all-mixed [] f = refl
  all-mixed (enum u ns ∷ U) f = all-mixed U f
  all-mixed (given_type u ∷ U) f = all-mixed U f
  all-mixed (unnamed u n ∷ U) f = all-mixed U f
  all-mixed (set_find x A ∷ U) f =
      and-both (is_mixed_statement S' no_options (find x (sets_of A))) (list_all (is_mixed_statement S' no_options) (spec U))
      (or-right (is_scalar_kept S' no_options x (sets_of A))
      (is_set_kept S' no_options x (sets_of A) || is_nested_kept S' no_options x (sets_of A))
      (or-left (is_set_kept S' no_options x (sets_of A)) (is_nested_kept S' no_options x (sets_of A)) (set-kept x A f.0))) (all-mixed U f.1)
  all-mixed (holds_lit l x ∷ U) f =
      and-both (is_mixed_statement S' no_options (such_that (membership l x))) (list_all (is_mixed_statement S' no_options) (spec U))
      (or-right (is_flat_truth (plans S' no_options) (membership l x))
      (is_membership S' no_options (membership l x) || is_setwise_constraint (plans S' no_options) S' (membership l x))
      (or-left (is_membership S' no_options (membership l x)) (is_setwise_constraint (plans S' no_options) S' (membership l x))
      (is-member l x f.0.0 f.0.1 f.0.2))) (all-mixed U f.1)

  all-marked : (U : List Line) → list_all (has_marks (plans S' no_options)) (constraints_of (spec U)) ≡ true
  all-marked [] = refl
  all-marked (enum u ns ∷ U) = all-marked U
  all-marked (given_type u ∷ U) = all-marked U
  all-marked (unnamed u n ∷ U) = all-marked U
  all-marked (set_find x A ∷ U) = all-marked U
  all-marked (holds_lit l x ∷ U) = all-marked U

  all-sets : (U : List Line) (xs : List Text) → have_bounds (plans S' no_options) xs (spec U) ≡ true
  all-sets [] xs = refl
  all-sets (enum u ns ∷ U) xs = all-sets U xs
  all-sets (given_type u ∷ U) xs = all-sets U xs
  all-sets (unnamed u n ∷ U) xs = all-sets U xs
  all-sets (set_find x A ∷ U) xs = all-sets U xs
  all-sets (holds_lit l x ∷ U) xs = all-sets U xs

  types-first : (U : List Line) (c : Declared) → Fine c U → types_come_first c.types (spec U) ≡ true
  types-first [] c f = refl
  types-first (enum u ns ∷ U) c f = types-first U (after (enum u ns) c) (fine-later (enum u ns) U c f)
  types-first (given_type u ∷ U) c f = types-first U (after (given_type u) c) (fine-later (given_type u) U c f)
  types-first (unnamed u n ∷ U) c f = types-first U (after (unnamed u n) c) (fine-later (unnamed u n) U c f)
  types-first (holds_lit l x ∷ U) c f = types-first U c (fine-later (holds_lit l x) U c f)
  types-first (set_find x (range a b) ∷ U) c f = types-first U (after (set_find x (range a b)) c) (fine-later (set_find x
      (range a b)) U c f)
  types-first (set_find x boolean ∷ U) c f = types-first U (after (set_find x boolean) c) (fine-later (set_find x boolean) U c f)
  types-first (set_find x (typed u) ∷ U) c f =
      and-both (is_some (look c.types u) || false) (types_come_first c.types (spec U)) (or-left (is_some (look c.types u)) false f.1)
      (types-first U (after (set_find x (typed u)) c) (fine-later (set_find x (typed u)) U c f))

  sets-mixed : is_mixed_specification S' no_options ≡ true
  sets-mixed =
      let t : Bool = types_come_first [] (prepared S') in
      let a : Bool = have_bounds (plans S' no_options) [] (prepared S') in
      let b : Bool = list_all (has_marks (plans S' no_options)) (constraints_of S') in
      and-both (are_mixed_statements S' no_options) (t && (a && b))
      (ap (list_all (is_mixed_statement S' no_options)) (prepared-itself T) ∙ all-mixed T (facts T ok))
      (and-both t (a && b) (ap (types_come_first []) (prepared-itself T) ∙ types-first T none_declared ok)
      (and-both a b (ap (have_bounds (plans S' no_options) []) (prepared-itself T) ∙ all-sets T []) (all-marked T)))

-- Both classes are of the class.
pub classes-mixed : ClassesAreMixed
classes-mixed = record { scalars = scalars-mixed; sets = sets-mixed }
