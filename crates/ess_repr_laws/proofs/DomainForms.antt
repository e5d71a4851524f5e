-- The form of a domain expression that a domain has, and domains whose slots are known.
use Rattle.std.proofs.Common.{◌≡◌, refl, ap, ◌∙◌, Bool, true, false, List, [], ◌∷◌, map, Option, Some, None, option_map, is_some, IsTrue, ◌⊎◌, inr}
use Rattle.std.specs.List.{list_all}
use Rattle.ess_semantics.specs.declared.words.Key.{Key}
use Rattle.ess_semantics.specs.Lists.{and_then, all_some, append_all}
use Rattle.ess_semantics.specs.Collections.{sorted_once}
use Rattle.ess_semantics.specs.Trees.{Ends, one_value, both_ends, low_end, high_end, Mark, Dom, Doms, bool_dom, int_dom, name_dom, tuple_dom, record_dom, matrix_dom, set_dom, mset_dom, function_dom, relation_dom, partition_dom, no_doms, more_doms}
use Rattle.ess_semantics.specs.Domains.{interval, Span, Attribute, Domain, Domains, booleans, integers, named, tuples, records, matrices, sets, msets, functions, relations, partitions, no_domains, more_domains, members, span_members, attribute, has}
use Rattle.ess_semantics.specs.Sizes.{greatest_size}
use Rattle.ess_semantics.specs.DomainJudgements.{bounds_occurrences}
use Rattle.ess_semantics.specs.Kinds.{has_key, is_closed_end, is_bounded, is_atom, is_one_cell, has_dummy, are_atoms}
use Rattle.ess_repr_laws.specs.Rooms.{HasDummy}
use Rattle.ess_repr_laws.specs.Finite.{FiniteAtom, FiniteAtoms, OccursBound, IsFlagged, Enumerated, Finite, AllFinite}
use Rattle.ess_semantics.specs.Atoms.{IsAtom}
use Rattle.ess_semantics.proofs.Tests.{and-left, and-right}

-- ---- domain expressions and domains of one form

-- What the marks of a domain expression say of the attributes of a domain.
pub record Marked (ms : List Mark) (ks : List Attribute) : Type 0 where
  pub size : has_key Key.Size ms ≡ true → IsTrue (is_some (attribute Key.Size ks))
  pub parts : has_key Key.NumParts ms ≡ true → IsTrue (is_some (attribute Key.NumParts ks))
  pub part : has_key Key.PartSize ms ≡ true → IsTrue (is_some (attribute Key.PartSize ks))
  pub total : has_key Key.Total ms ≡ true → IsFlagged Key.Total ks
  pub same : has Key.Total ks ≡ has_key Key.Total ms
  pub sized : has Key.Size ks ≡ true → IsTrue (is_some (attribute Key.Size ks))

-- a range with the bounds that its form says
abbrev pub Ranged : Ends → Span → Type 0
Ranged one_value s = IsTrue (is_some s.low) × IsTrue (is_some s.high)
Ranged both_ends s = IsTrue (is_some s.low) × IsTrue (is_some s.high)
Ranged low_end s = Unit {0}
Ranged high_end s = Unit {0}

-- The same of several ranges.
abbrev pub Ranges : List Ends → List Span → Type 0
Ranges [] [] = Unit {0}
Ranges (r ∷ rs) (s ∷ ss) = Ranged r s × Ranges rs ss
Ranges _ _ = ⊥

abbrev mutual
  -- The domain has the form of the expression.
  pub Formed : Dom → Domain → Type 0
  Formed bool_dom booleans = Unit {0}
  Formed (int_dom rs es) (integers ss) = Ranges rs ss
  Formed (name_dom a) (named t n) = Unit {0}
  Formed (name_dom a) (integers ss) = Ranges (both_ends ∷ []) ss
  Formed (tuple_dom ds) (tuples es) = AllFormed ds es
  Formed (record_dom fs ds) (records gs es) = AllFormed ds es
  Formed (matrix_dom is d) (matrices js e) = (are_atoms is ≡ true) × AllFormed is js × Formed d e
  Formed (set_dom ms es d) (sets ks e) = Marked ms ks × Formed d e
  Formed (mset_dom ms es d) (msets ks e) = Marked ms ks × (bounds_occurrences ms ≡ true → OccursBound ks) × Formed d e
  Formed (function_dom ms es d c) (functions ks e f) = Marked ms ks × (has_key Key.Total ms ≡ true → Enumerated e) × Formed d e × Formed c f
  Formed (relation_dom ms es ds) (relations ks fs) = Marked ms ks × AllFormed ds fs
  Formed (partition_dom ms es d) (partitions ks e) = Marked ms ks × Formed d e
  Formed _ e = ⊥

  -- The same of several domains.
  pub AllFormed : Doms → Domains → Type 0
  AllFormed no_doms no_domains = Unit {0}
  AllFormed (more_doms d ds) (more_domains e es) = Formed d e × AllFormed ds es
  AllFormed _ es = ⊥

-- whether the outermost forms are the same
abbrev pub same_form : Dom → Domain → Bool
same_form bool_dom booleans = true
same_form (int_dom rs es) (integers ss) = true
same_form (name_dom a) (named t n) = true
same_form (name_dom a) (integers ss) = true
same_form (tuple_dom ds) (tuples es) = true
same_form (record_dom fs ds) (records gs es) = true
same_form (matrix_dom is d) (matrices js e) = true
same_form (set_dom ms es d) (sets ks e) = true
same_form (mset_dom ms es d) (msets ks e) = true
same_form (function_dom ms es d c) (functions ks e f) = true
same_form (relation_dom ms es ds) (relations ks fs) = true
same_form (partition_dom ms es d) (partitions ks e) = true
same_form _ e = false

-- A domain of an expression's form has its outermost form.
pub formed-same : (d : Dom) (e : Domain) → Formed d e → same_form d e ≡ true
formed-same bool_dom booleans f = refl
formed-same (int_dom rs es) (integers ss) f = refl
formed-same (name_dom a) (named t n) f = refl
formed-same (name_dom a) (integers ss) f = refl
formed-same (tuple_dom ds) (tuples es) f = refl
formed-same (record_dom fs ds) (records gs es) f = refl
formed-same (matrix_dom is d) (matrices js e) f = refl
formed-same (set_dom ms es d) (sets ks e) f = refl
formed-same (mset_dom ms es d) (msets ks e) f = refl
formed-same (function_dom ms es d c) (functions ks e f) g = refl
formed-same (relation_dom ms es ds) (relations ks fs) f = refl
formed-same (partition_dom ms es d) (partitions ks e) f = refl
formed-same _ e f = absurd f

-- ---- domains with a known number of slots

abbrev mutual
  -- Where slots are needed, their number is known.
  pub Known : Domain → Type 0
  Known (tuples ds) = AllKnown ds
  Known (records fs ds) = AllKnown ds
  Known (matrices is d) = FiniteAtoms is × Known d
  Known (sets ks d) = (IsTrue (is_some (greatest_size ks)) ⊎ Finite d) × Known d
  Known (msets ks d) = OccursBound ks × (IsTrue (is_some (greatest_size ks)) ⊎ Finite d) × Known d
  Known (functions ks d c) = Finite d × Known c
  Known (relations ks ds) = (IsTrue (is_some (greatest_size ks)) ⊎ AllFinite ds) × AllKnown ds
  Known (partitions ks d) = Finite d
  Known d = Unit {0}

  -- The same of several domains.
  pub AllKnown : Domains → Type 0
  AllKnown no_domains = Unit {0}
  AllKnown (more_domains d ds) = Known d × AllKnown ds

mutual
  -- The slots of a finite domain are known.
  pub finite-known : (d : Domain) → Finite d → Known d
  finite-known booleans f = tt
  finite-known (integers ss) f = tt
  finite-known (named t n) f = tt
  finite-known (tuples ds) f = all-known ds f
  finite-known (records fs ds) f = all-known ds f
  finite-known (matrices is d) f = (f.0, finite-known d f.1)
  finite-known (sets ks d) f = (inr f, finite-known d f)
  finite-known (msets ks d) f = (f.1, inr f.0, finite-known d f.0)
  finite-known (functions ks d c) f = (f.0, finite-known c f.1)
  finite-known (relations ks ds) f = (inr f, all-known ds f)
  finite-known (partitions ks d) f = f

  all-known : (ds : Domains) → AllFinite ds → AllKnown ds
  all-known no_domains f = tt
  all-known (more_domains d ds) f = (finite-known d f.0, all-known ds f.1)

-- ---- atoms

-- an option that is there
some-is : {A : Type 0} (o : Option A) → IsTrue (is_some o) → (x : A) × (o ≡ Some x)
some-is None h = cc
some-is (Some x) h = (x, refl)

ranges-finite : (rs : List Ends) (ss : List Span) → list_all is_closed_end rs ≡ true → Ranges rs ss → IsTrue (is_some (all_some (map span_members ss)))
ranges-finite [] [] c h = refl
ranges-finite [] (s ∷ ss) c h = absurd h
ranges-finite (r ∷ rs) [] c h = absurd h
ranges-finite (r ∷ rs) (s ∷ ss) c h = go r (and-left (is_closed_end r) (list_all is_closed_end rs) c) h.0 (ranges-finite rs ss (and-right (is_closed_end r) (list_all is_closed_end rs) c) h.1)
  where
    closed : IsTrue (is_some s.low) → IsTrue (is_some s.high) → IsTrue (is_some (all_some (map span_members ss))) → IsTrue (is_some (all_some (map span_members (s ∷ ss))))
    closed l u t =
        let a = some-is s.low l in
        let b = some-is s.high u in
        let r = some-is (all_some (map span_members ss)) t in
        ap (λ o. is_some (and_then (and_then o (λ x. and_then s.high (λ y. Some (interval x y)))) (λ x. option_map (λ xs. x ∷ xs) (all_some (map span_members ss))))) a.1
        ∙ ap (λ o. is_some (and_then (and_then o (λ y. Some (interval a.0 y))) (λ x. option_map (λ xs. x ∷ xs) (all_some (map span_members ss))))) b.1
        ∙ ap (λ o. is_some (option_map (λ xs. interval a.0 b.0 ∷ xs) o)) r.1

    go : (r : Ends) → is_closed_end r ≡ true → Ranged r s → IsTrue (is_some (all_some (map span_members ss))) → IsTrue (is_some (all_some (map span_members (s ∷ ss))))
    go one_value c h t = closed h.0 h.1 t
    go both_ends c h t = closed h.0 h.1 t
    go low_end c h t = cc
    go high_end c h t = cc

bounded-finite : (rs : List Ends) (ss : List Span) → is_bounded rs ≡ true → Ranges rs ss → IsTrue (is_some (members (integers ss)))
bounded-finite [] ss b h = cc
bounded-finite (r ∷ rs) [] b h = absurd h
bounded-finite (r ∷ rs) (s ∷ ss) b h =
    let x = some-is (all_some (map span_members (s ∷ ss))) (ranges-finite (r ∷ rs) (s ∷ ss) b h) in
    ap (λ o. is_some (option_map (λ ls. sorted_once (append_all ls)) o)) x.1

atom-at : (d : Dom) (e : Domain) → Formed d e → same_form d e ≡ true → is_atom d ≡ true → FiniteAtom e
atom-at bool_dom booleans f s a = (tt, refl)
atom-at (int_dom rs es) (integers ss) f s a = (tt, bounded-finite rs ss a f)
atom-at (name_dom x) (named t n) f s a = (tt, refl)
atom-at (name_dom x) (integers ss) f s a = (tt, bounded-finite (both_ends ∷ []) ss refl f)
atom-at d e f s a = cc

-- A domain of the form of an atom is a finite one.
pub atom-finite : (d : Dom) (e : Domain) → Formed d e → is_atom d ≡ true → FiniteAtom e
atom-finite d e f a = atom-at d e f (formed-same d e f) a

-- So are several.
pub atoms-finite : (ds : Doms) (es : Domains) → AllFormed ds es → are_atoms ds ≡ true → FiniteAtoms es
atoms-finite no_doms no_domains f a = tt
atoms-finite (more_doms d ds) (more_domains e es) f a = (atom-finite d e f.0 (and-left (is_atom d) (are_atoms ds) a), atoms-finite ds es f.1 (and-right (is_atom d) (are_atoms ds) a))
atoms-finite no_doms (more_domains e es) f a = absurd f
atoms-finite (more_doms d ds) no_domains f a = absurd f

-- A domain of the form of one cell is an atom.
pub one-cell : (d : Dom) (e : Domain) → Formed d e → same_form d e ≡ true → is_one_cell d ≡ true → IsAtom e
one-cell bool_dom booleans f s a = tt
one-cell (int_dom rs es) (integers ss) f s a = tt
one-cell (name_dom x) (named t n) f s a = tt
one-cell (name_dom x) (integers ss) f s a = tt
one-cell d e f s a = cc

-- a finite atom's bound is one
pub finite-of : (e : Domain) → FiniteAtom e → Finite e
finite-of booleans f = tt
finite-of (integers ss) f = f.1
finite-of (named t n) f = tt
finite-of _ f = absurd f.0

-- A domain of the form of one with a dummy has one, and is finite.
pub of-dummy : (d : Dom) (e : Domain) → Formed d e → same_form d e ≡ true → has_dummy d ≡ true → HasDummy e × Finite e
of-dummy (int_dom (both_ends ∷ []) es) (integers (s ∷ [])) f g h = (f.0.1, bounded-finite (both_ends ∷ []) (s ∷ []) refl f)
of-dummy (int_dom (both_ends ∷ []) es) (integers (s ∷ r ∷ ss)) f g h = absurd f.1
of-dummy (int_dom (both_ends ∷ []) es) (integers []) f g h = absurd f
of-dummy (name_dom x) (named t n) f g h = (tt, tt)
of-dummy (name_dom x) (integers (s ∷ [])) f g h = (f.0.1, bounded-finite (both_ends ∷ []) (s ∷ []) refl f)
of-dummy (name_dom x) (integers (s ∷ r ∷ ss)) f g h = absurd f.1
of-dummy (name_dom x) (integers []) f g h = absurd f
of-dummy d e f g h = cc
